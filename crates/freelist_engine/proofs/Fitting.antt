-- The lent tables of a free list keep their lengths.
use mathlib.Core.Path.{◌≡◌, refl, ap, ◌∙◌}
use mathlib.Core.Bool.{true, false}
use mathlib.Core.List.{List}
use Prim.Native.Nat.{ℕ, ◌+◌, ◌*◌}
use native.Mathlib.Omega.{arith}
use lib.ListN.{length-set}
use Rattle.words.proofs.Filled.{blank_long}
use Rattle.counter.specs.InTable.{FreeListIn}
use Rattle.counter.specs.Paper as Paper
use Rattle.counter.specs.declared.account.Account.{Account}
use Rattle.counter.specs.declared.answers.Block.{Block}
use Rattle.counter.specs.declared.answers.Outcome.{Outcome}
use Rattle.counter.specs.declared.settings.FreeListSettings.{FreeListSettings}
use Rattle.counter.proofs.Papers.{kind_of}
use Rattle.store_rules.specs.Loans.{loan_words}
use Rattle.store_rules.specs.Outcomes.{Out, Listed}
use Rattle.engines.specs.Shapes.{Call, sets_up, asks, delivers, returns, others, does}
use Rattle.freelist_rules.specs.Records.{chunk_words}
use Rattle.freelist_rules.specs.Tables.{Tables, marks, chunk_size_at, room_words, Lengths, SoundTables}
use Rattle.freelist_rules.specs.Threads.{thread_words}
use Rattle.freelist_outcomes.specs.Ask.{ordered_tables, ask_of}
use Rattle.freelist_outcomes.specs.Deliver.{carry_fate, deliver_of}
use Rattle.freelist_outcomes.specs.Return.{word_for, given_tables, release_of, return_of, clean_up_of}
use Rattle.freelist_outcomes.specs.SetUp.{Begun, fresh_tables, set_up_of}
use Rattle.freelist_outcomes.proofs.Arrives.{lent_lengths}
use Rattle.freelist_outcomes.proofs.Changed.{released_lengths}
use Rattle.freelist_outcomes.proofs.Comes.{AskComes, lends, orders, ask_comes, DeliverComes, keeps, loses, deliver_comes, ReturnComes, takes, return_comes, CleanUpComes, cleans, clean_up_comes, SetUpComes, readies, set_up_comes}
use Rattle.freelist_outcomes.proofs.Given.{given_lengths, given_sound}
use Rattle.freelist_outcomes.proofs.Taken.{taken_lengths}
use Rattle.freelist_engine.specs.Shape.{OwnCall, cleans_up, list_shape}

-- ---- set-up

pub fresh_lengths : (s : FreeListSettings) → Lengths s (fresh_tables s)
unfolding fresh_tables
fresh_lengths s =
    record {
      head = refl;
      loans = blank_long (loan_words + loan_words * s.store.loans) marks.loans 0;
      chunks = blank_long (chunk_words + chunk_words * s.store.chunks) marks.chunks 0;
      index = blank_long (thread_words s.store.loans) marks.index 0;
      room = blank_long (room_words s) marks.room 0;
    }

pub set_up_fits : (s : FreeListSettings) (t : Tables) → (set_up_of s t).said ≡ Paper.ready → FreeListIn s × Lengths s (set_up_of s t).tables
set_up_fits s t = go (set_up_of s t) (set_up_comes s t)
  where
    go : (r : Begun) → SetUpComes s t r → r.said ≡ Paper.ready → FreeListIn s × Lengths s r.tables
    go _ SetUpComes.denied e = let z : ◌≡◌ {A = ℕ} 5 0 = ap kind_of e in absurd (omega arith)
    go _ (readies fit lengths) e = (fit, fresh_lengths s)

-- ---- the other calls

module _ (s : FreeListSettings) (a : Account) (t : Tables) (fit : FreeListIn s) (lengths : Lengths s t) (sound : SoundTables s t) where
  set_up_long : (r : Begun) → SetUpComes s t r → Lengths s r.tables
  set_up_long _ SetUpComes.denied = lengths
  set_up_long _ (readies _ _) = fresh_lengths s

  ask_long : (size mask : ℕ) (r : Out Tables) → AskComes s a size mask t r → Lengths s r.tables
  unfolding ordered_tables
  ask_long size mask _ (AskComes.denied n) = lengths
  ask_long size mask _ (lends i p v) = taken_lengths s t fit lengths sound size mask i v.aligned v.some v.place v.found
  ask_long size mask _ (orders p v) =
      record { head = length-set t.head chunk_size_at _ ∙ lengths.head; loans = lengths.loans; chunks = lengths.chunks; index = lengths.index; room = lengths.room }

  deliver_long : (o : Outcome) (r : Out Tables) → DeliverComes s a o t r → Lengths s r.tables
  unfolding carry_fate
  deliver_long o _ (DeliverComes.denied n) = lengths
  deliver_long o _ (keeps k m e w new) = lent_lengths s a t k w m.number new
  deliver_long o _ (loses k n charged back w e h) = lengths

  return_long : (b : Block) (list : List ℕ) (r : Listed Tables) → ReturnComes s a b t list r → Lengths s r.tables
  unfolding release_of
  return_long b list _ (ReturnComes.denied n) = lengths
  return_long b list _ (takes p on) =
      released_lengths s (given_tables s b (word_for s b t) t) fit (given_lengths s t fit lengths sound b on) (given_sound s t fit lengths sound b on) true

  clean_up_long : (list : List ℕ) (r : Listed Tables) → CleanUpComes s a t list r → Lengths s r.tables
  unfolding release_of
  clean_up_long list _ (CleanUpComes.denied n) = lengths
  clean_up_long list _ (cleans p) = released_lengths s t fit lengths sound false

  pub still_long : (c : Call OwnCall) → Lengths s (does list_shape s a t c).tables
  still_long sets_up = set_up_long (set_up_of s t) (set_up_comes s t)
  still_long (asks size mask) = ask_long size mask (ask_of s a size mask t) (ask_comes s a size mask t)
  still_long (delivers o) = deliver_long o (deliver_of s a o t) (deliver_comes s a o t)
  still_long (returns b list) = return_long b list (return_of s a b t list) (return_comes s a b t list)
  still_long (others cleans_up list) = clean_up_long list (clean_up_of s a t list) (clean_up_comes s a t list)
