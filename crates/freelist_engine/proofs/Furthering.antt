-- What the free list shows besides: the chunks by its tables alone, what becomes of the lent list, the one chunk that
-- a return may leave without a block on loan, and the memory that a lost order names.
use mathlib.Core.Path.{◌≡◌, refl, sym, ap, ◌∙◌}
use mathlib.Core.Bool.{Bool, true, ◌&&◌}
use mathlib.Core.Logic.{◌⊎◌}
use mathlib.Core.List.{List, []}
use Prim.Native.Nat.{ℕ, ◌-◌}
use native.Mathlib.Omega.{arith}
use lib.ListN.{length, take}
use Rattle.lists.proofs.Bools.{and_left}
use Rattle.words.specs.Rows.{rows}
use Rattle.counter.specs.Gate.{pass, first}
use Rattle.counter.specs.InTable.{FreeListIn}
use Rattle.counter.specs.Paper as Paper
use Rattle.counter.specs.Reasons.{Clear}
use Rattle.counter.specs.declared.account.Account.{Account}
use Rattle.counter.specs.declared.account.KeptOrder.{KeptOrder}
use Rattle.counter.specs.declared.answers.Outcome.{Outcome}
use Rattle.counter.specs.declared.settings.FreeListSettings.{FreeListSettings}
use Rattle.counter.proofs.Gates.{passed}
use Rattle.counter.proofs.Papers.{kind_of}
use Rattle.store_rules.specs.Delivery.{Fate, kept, lost, free_list}
use Rattle.store_rules.specs.Outcomes.{released_account}
use Rattle.store_rules.specs.Rows.{list_rows}
use Rattle.store_rules.specs.Tests.{open_for, gate_row}
use Rattle.store_rules.specs.Views.{sizes, Go}
use Rattle.store_rules.proofs.Said.{refuses, not_refused, said_number, said_back}
use Rattle.store_rules.proofs.Tested.{gate_low}
use Rattle.engines.specs.Further.{named_by, Untouched, Further}
use Rattle.engines.proofs.Naming.{arrival_names}
use Rattle.engines.proofs.Taking.{none_given}
use Rattle.freelist_rules.specs.Records.{Store, chunk_row}
use Rattle.freelist_rules.specs.Tables.{Tables, Lengths, chunks_in, store_of, sound_ok, SoundTables}
use Rattle.freelist_rules.specs.Walk.{memories}
use Rattle.freelist_rules.proofs.Fits.{lengths_are}
use Rattle.freelist_rules.proofs.Tested.{tables_yes}
use Rattle.freelist_outcomes.specs.Deliver.{Arrival, still_ok, deliver_gate_of, carry_fate, plan_deliver, carry_deliver, deliver_of}
use Rattle.freelist_outcomes.specs.Gate.{in_table_ok, account_ok, gate_of}
use Rattle.freelist_outcomes.specs.Refusals.{list_words}
use Rattle.freelist_outcomes.specs.Return.{clean_up_of}
use Rattle.freelist_outcomes.specs.SetUp.{Begun, fresh_tables, set_up_of}
use Rattle.freelist_outcomes.proofs.Changed.{fresh_store}
use Rattle.freelist_outcomes.proofs.Comes.{SetUpComes, readies, set_up_comes}
use Rattle.freelist_outcomes.proofs.Passing.{lent_in_lem}
use Rattle.freelist_outcomes.proofs.Refused.{clean_up_refused}
use Rattle.freelist_outcomes.proofs.Told.{return_told, clean_up_told}
use Rattle.freelist_engine.specs.Shape.{OwnCall, cleans_up, own_of, list_shape}
use Rattle.freelist_engine.proofs.CleaningUp.{clean_up_goes, clean_up_account}
use Rattle.freelist_engine.proofs.Ending.{block_there}
use Rattle.freelist_engine.proofs.Idle.{idle_one}
use Rattle.freelist_engine.proofs.Refusing.{list_refuses}

-- ---- the chunks

-- they are in the tables alone
seen_chunks : (s : FreeListSettings) (t : Tables) → (store_of s t).chunks ≡ rows chunk_row (chunks_in t) t.chunks
unfolding store_of
seen_chunks s t = refl

-- a store set up holds none
fresh_holds : (s : FreeListSettings) (t : Tables) (r : Begun) → SetUpComes s t r → r.said ≡ Paper.ready → rows chunk_row (chunks_in r.tables) r.tables.chunks ≡ []
fresh_holds s t _ SetUpComes.denied e = let z : ◌≡◌ {A = ℕ} 5 0 = ap kind_of e in absurd (omega arith)
fresh_holds s t _ (readies fit lengths) e = sym (seen_chunks s (fresh_tables s)) ∙ ap (λ (x : Store). x.chunks) (fresh_store s t fit lengths)

-- ---- the tests of a delivery

kept_passed : (s : FreeListSettings) (a : Account) (t : Tables) → deliver_gate_of s a t ≡ pass → (FreeListIn s × Lengths s t) × SoundTables s t
unfolding deliver_gate_of
kept_passed s a t g =
    let r = passed (gate_row (in_table_ok s a t) (open_for s.store.number a.order) (sound_ok s t && still_ok s a t a.order) (account_ok s a t)) g in
    let lent = lent_in_lem s a t r.0 in
    ((lent.0, lengths_are s t lent.1), tables_yes s t lent.0 (and_left (sound_ok s t) (still_ok s a t a.order) r.1.1.0))

-- ---- a clean-up

own_goes : (s : FreeListSettings) (a : Account) (c : OwnCall) (t : Tables) (list : List ℕ) (n : ℕ) → (own_of s a c t list).said ≡ Paper.released n
    → (length (take n (own_of s a c t list).list) ≡ n) × Go (store_of s t).chunks (store_of s (own_of s a c t list).tables).chunks (take n (own_of s a c t list).list)
own_goes s a cleans_up t list n e = clean_up_goes s a t list n e

own_account : (s : FreeListSettings) (a : Account) (c : OwnCall) (t : Tables) (list : List ℕ) (n : ℕ) → (own_of s a c t list).said ≡ Paper.released n
    → (own_of s a c t list).account ≡ released_account s.store a n (sizes (store_of s t).chunks - sizes (store_of s (own_of s a c t list).tables).chunks)
own_account s a cleans_up t list n e = clean_up_account s a t list n e

own_past : (s : FreeListSettings) (a : Account) (c : OwnCall) (t : Tables) (list : List ℕ) (n : ℕ) → (own_of s a c t list).said ≡ Paper.released n
    → Untouched n list (own_of s a c t list).list
own_past s a cleans_up t list n e = let w = clean_up_told s a t list n e in (w.rest, w.long)

own_passed : (s : FreeListSettings) (a : Account) (c : OwnCall) (t : Tables) (list : List ℕ) (n : ℕ) → (own_of s a c t list).said ≡ Paper.released n
    → gate_of s a t true ≡ pass
own_passed s a cleans_up t list n e =
    let reasons = list_rows list_words s a t list in
    let c : Clear reasons = none_given reasons (λ k g. not_refused (clean_up_of s a t list).said k [] (ap refuses e) ((clean_up_refused s a t list k).1 g)) in
    (list_refuses.gate_clear s a t).1 ((λ x. c.0 (λ w. x w.0)), (c.1.0, (c.1.1.0, (c.1.1.1.0, tt))))

-- ---- the memory that 11 and 12 name

lost_names : (s : FreeListSettings) (a : Account) (o : Outcome) (t : Tables) (n : ℕ) (back : List ℕ) → (deliver_of s a o t).said ≡ Paper.refusal n back
    → (n ≡ 11) ⊎ (n ≡ 12) → back ≡ named_by free_list o
unfolding deliver_of plan_deliver deliver_gate_of carry_deliver carry_fate
lost_names s a o t n back e number =
    arrival_names free_list o (memories (store_of s t).chunks) (λ (p : Arrival). (carry_deliver s a t p).said) n back number (λ m. refl) fates
    (first (gate_row (in_table_ok s a t) (open_for s.store.number a.order) (sound_ok s t && still_ok s a t a.order) (account_ok s a t)))
    (gate_low (in_table_ok s a t) (open_for s.store.number a.order) (sound_ok s t && still_ok s a t a.order) (account_ok s a t))
    a.order
    e
  where
    fates : (k : KeptOrder) (f : Fate) → (carry_fate s a k t f).said ≡ Paper.refusal n back → (c : Bool) × (f ≡ lost n c back)
    fates k (kept m) q = not_refused (carry_fate s a k t (kept m)).said n back refl q
    fates k (lost m c x) q = (c, (λ j. lost (said_number m n x back q j) c (said_back m n x back q j)))

-- the free list shows besides what an engine has to
pub list_further : Further list_shape
list_further =
    record {
      chunks = λ t. rows chunk_row (chunks_in t) t.chunks;
      chunks_seen = λ s t. seen_chunks s t;
      fresh_chunks = λ s t e. fresh_holds s t (set_up_of s t) (set_up_comes s t) e;
      kept_fits = λ s a t passes. (kept_passed s a t passes).0;
      kept_sound = λ s a t passes. (kept_passed s a t passes).1;
      other_goes = λ s a c t list n e. own_goes s a c t list n e;
      other_account = λ s a c t list n e. own_account s a c t list n e;
      other_passed = λ s a c t list n e. own_passed s a c t list n e;
      past = λ s a b t list n e. let w = return_told s a b t list n e in (w.rest, w.long);
      other_past = λ s a c t list n e. own_past s a c t list n e;
      idle_one = λ s a b t list passes lent long. idle_one s a b t list passes (block_there s t b lent) long;
      lost_names = λ s a o t n back e number. lost_names s a o t n back e number;
    }
