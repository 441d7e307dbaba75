-- Set-up gives a sound store, and every call on a sound store leaves it sound, refused or not: asks, orders, deliveries,
-- returns and clean-ups, whatever their numbers.
use mathlib.Core.Path.{◌≡◌, refl, sym, ap, ◌∙◌}
use mathlib.Core.Bool.{Bool, true, false}
use mathlib.Core.List.{List}
use Prim.Native.Nat.{ℕ}
use native.Mathlib.Omega.{arith}
use Rattle.counter.specs.Paper as Paper
use Rattle.counter.specs.declared.account.Account.{Account}
use Rattle.counter.specs.declared.answers.Block.{Block}
use Rattle.counter.specs.declared.answers.Outcome.{Outcome}
use Rattle.counter.specs.declared.settings.FreeListSettings.{FreeListSettings}
use Rattle.counter.proofs.Papers.{kind_of}
use Rattle.store_rules.specs.Outcomes.{Out, Listed, list_ok}
use Rattle.freelist_rules.specs.Tables.{Tables, SoundTables}
use Rattle.freelist_rules.proofs.Fits.{lengths_are}
use Rattle.freelist_outcomes.specs.Ask.{ask_of}
use Rattle.freelist_outcomes.specs.Deliver.{carry_fate, deliver_of}
use Rattle.freelist_outcomes.specs.Return.{word_for, on_loan_ok, given_tables, released_tables, release_of, return_of, clean_up_of}
use Rattle.freelist_outcomes.specs.SetUp.{Begun, begun, fresh_tables, set_up_of}
use Rattle.freelist_outcomes.proofs.Passing.{Passed}
use Rattle.freelist_outcomes.proofs.Taken.{taken_sound}
use Rattle.freelist_outcomes.proofs.Given.{given_sound, given_lengths}
use Rattle.freelist_outcomes.proofs.Changed.{fresh_tables_sound, ordered_sound, released_tables_sound}
use Rattle.freelist_outcomes.proofs.Arrives.{lent_tables_sound}
use Rattle.freelist_outcomes.proofs.Comes.{AskComes, denied, lends, orders, ask_comes, DeliverComes, keeps, loses, deliver_comes, ReturnComes, takes, return_comes, CleanUpComes, cleans, clean_up_comes, SetUpComes, readies, set_up_comes}

-- ---- an ask

-- an ask on a sound store leaves it sound, whatever it answers
pub ask_sound : (s : FreeListSettings) (a : Account) (size mask : ℕ) (t : Tables) → SoundTables s t → SoundTables s (ask_of s a size mask t).tables
ask_sound s a size mask t sound = go (ask_of s a size mask t) (ask_comes s a size mask t)
  where
    go : (o : Out Tables) → AskComes s a size mask t o → SoundTables s o.tables
    go _ (AskComes.denied n) = sound
    go _ (lends i p v) = taken_sound s t p.settings (lengths_are s t p.lengths) sound size mask i v.aligned v.some v.place v.found
    go _ (orders p v) = ordered_sound s t p.settings (lengths_are s t p.lengths) sound size

-- ---- a delivery

-- so does a delivery
pub deliver_sound : (s : FreeListSettings) (a : Account) (o : Outcome) (t : Tables) → SoundTables s t → SoundTables s (deliver_of s a o t).tables
unfolding carry_fate
deliver_sound s a o t sound = go (deliver_of s a o t) (deliver_comes s a o t)
  where
    go : (r : Out Tables) → DeliverComes s a o t r → SoundTables s r.tables
    go _ (DeliverComes.denied n) = sound
    go _ (keeps k m e w new) = lent_tables_sound s a t k w m.number new
    go _ (loses k n charged back w e h) = sound

-- ---- a return, a clean-up, set-up

-- a release after the block has gone back
taken_back_sound : (s : FreeListSettings) (a : Account) (b : Block) (t : Tables) (listed : Bool) → Passed s a t listed → on_loan_ok s b t ≡ true → SoundTables s (released_tables s true (given_tables s b (word_for s b t) t))
taken_back_sound s a b t listed p on =
    let lengths = lengths_are s t p.lengths in
    released_tables_sound s (given_tables s b (word_for s b t) t) p.settings (given_lengths s t p.settings lengths p.sound b on) (given_sound s t p.settings lengths p.sound b on) true

-- so does a return
pub return_sound : (s : FreeListSettings) (a : Account) (b : Block) (t : Tables) (list : List ℕ) → SoundTables s t → SoundTables s (return_of s a b t list).tables
unfolding release_of
return_sound s a b t list sound = go (return_of s a b t list) (return_comes s a b t list)
  where
    go : (r : Listed Tables) → ReturnComes s a b t list r → SoundTables s r.tables
    go _ (ReturnComes.denied n) = sound
    go _ (takes p on) = taken_back_sound s a b t (list_ok s.store list) p on

-- so does a clean-up
pub clean_up_sound : (s : FreeListSettings) (a : Account) (t : Tables) (list : List ℕ) → SoundTables s t → SoundTables s (clean_up_of s a t list).tables
unfolding release_of
clean_up_sound s a t list sound = go (clean_up_of s a t list) (clean_up_comes s a t list)
  where
    go : (r : Listed Tables) → CleanUpComes s a t list r → SoundTables s r.tables
    go _ (CleanUpComes.denied n) = sound
    go _ (cleans p) = released_tables_sound s t p.settings (lengths_are s t p.lengths) sound false

-- set-up gives a sound store
pub set_up_sound : (s : FreeListSettings) (t : Tables) → (set_up_of s t).said ≡ Paper.ready → SoundTables s (set_up_of s t).tables
set_up_sound s t = go (set_up_of s t) (set_up_comes s t)
  where
    go : (r : Begun) → SetUpComes s t r → r.said ≡ Paper.ready → SoundTables s r.tables
    go _ SetUpComes.denied e = let z : ◌≡◌ {A = ℕ} 5 0 = ap kind_of e in absurd (omega arith)
    go _ (readies fit lengths) e = fresh_tables_sound s t fit lengths

-- what set-up leaves does not depend on what was lent
pub set_up_alike : (s : FreeListSettings) (t u : Tables) → (set_up_of s t).said ≡ Paper.ready → (set_up_of s u).said ≡ Paper.ready → set_up_of s t ≡ set_up_of s u
set_up_alike s t u e f = left t e ∙ sym (left u f)
  where
    go : (v : Tables) (r : Begun) → SetUpComes s v r → r.said ≡ Paper.ready → r ≡ begun Paper.ready (fresh_tables s)
    go v _ SetUpComes.denied e = let z : ◌≡◌ {A = ℕ} 5 0 = ap kind_of e in absurd (omega arith)
    go v _ (readies fit lengths) e = refl

    left : (v : Tables) → (set_up_of s v).said ≡ Paper.ready → set_up_of s v ≡ begun Paper.ready (fresh_tables s)
    left v = go v (set_up_of s v) (set_up_comes s v)
