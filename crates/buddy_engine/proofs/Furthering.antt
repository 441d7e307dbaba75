-- What the buddy shows besides: its held chunks, what becomes of the lent list, that no chunk which a return
-- leaves is without a block on loan, and which memory a lost order names.
use mathlib.Core.Path.{◌≡◌, refl, sym, ap, subst}
use mathlib.Core.Bool.{Bool, true, false, cond, ◌&&◌}
use mathlib.Core.Logic.{◌⊎◌}
use mathlib.Core.List.{List, [], ◌∷◌}
use Prim.Native.Nat.{ℕ}
use native.Mathlib.Omega.{arith}
use lib.Seq.{sets}
use Rattle.counter.specs.Gate.{Verdict, pass, refuse, first}
use Rattle.counter.specs.InTable.{BuddyIn}
use Rattle.counter.specs.Paper as Paper
use Rattle.counter.specs.declared.account.Account.{Account}
use Rattle.counter.specs.declared.account.KeptOrder.{KeptOrder}
use Rattle.counter.specs.declared.answers.Block.{Block}
use Rattle.counter.specs.declared.answers.Outcome.{Outcome}
use Rattle.counter.specs.declared.settings.BuddySettings.{BuddySettings}
use Rattle.counter.proofs.Gates.{passed}
use Rattle.counter.proofs.Papers.{kind_of}
use Rattle.store_rules.specs.Delivery.{Fate, kept, lost, buddy}
use Rattle.store_rules.specs.Outcomes.{listed, list_ok, to_free}
use Rattle.store_rules.specs.Tests.{open_for, gate_row}
use Rattle.store_rules.proofs.Said.{not_refused, said_number, said_back}
use Rattle.store_rules.proofs.Tested.{gate_low}
use Rattle.engines.specs.Further.{named_by, Untouched, Unlent, AtMostOne, Further}
use Rattle.engines.proofs.Naming.{arrival_names}
use Rattle.buddy_trees.proofs.Ending.{lies_mem}
use Rattle.buddy_rules.specs.Tables.{Tables, Lengths, chunk_places_in, memories}
use Rattle.buddy_rules.specs.Test.{sound_ok}
use Rattle.buddy_rules.specs.Views.{loans_in, chunks_of, chunks_in, view_of}
use Rattle.buddy_rules.proofs.Named.{has_loan}
use Rattle.buddy_outcomes.specs.Gate.{in_table_ok, account_ok, gate_of}
use Rattle.buddy_outcomes.specs.Deliver.{Arrival, still_ok, deliver_gate_of, carry_fate, plan_deliver, carry_deliver, deliver_of}
use Rattle.buddy_outcomes.specs.Return.{Plan, deny, back, climb_for, released_by, plan_return, carry_return, return_of}
use Rattle.buddy_outcomes.specs.SetUp.{fresh_tables, plan_set_up, carry_set_up, set_up_of}
use Rattle.buddy_outcomes.proofs.Delivered.{gate_sound}
use Rattle.buddy_outcomes.proofs.Heads.{fresh_chunk_places}
use Rattle.buddy_outcomes.proofs.Passing.{lent_in_lem, gate_passed}
use Rattle.buddy_outcomes.proofs.Returned.{return_sound}
use Rattle.buddy_engine.specs.Shape.{buddy_shape}

-- ---- chunks

-- a store set up holds none
fresh_holds : (s : BuddySettings) (t : Tables) → (set_up_of s t).said ≡ Paper.ready → chunks_in (set_up_of s t).tables ≡ []
unfolding set_up_of carry_set_up chunks_of
fresh_holds s t = by (plan_set_up s t)
  where
    by : (v : Verdict) → (carry_set_up s t v).said ≡ Paper.ready → chunks_in (carry_set_up s t v).tables ≡ []
    by pass e = ap (chunks_of (fresh_tables s)) (fresh_chunk_places s)
    by (refuse n) e = not_refused Paper.ready n [] refl (sym e)

-- ---- the tests of a delivery

-- they passed: settings and tables are in 01's table
kept_lent : (s : BuddySettings) (a : Account) (t : Tables) → deliver_gate_of s a t ≡ pass → BuddyIn s × Lengths s t
unfolding deliver_gate_of
kept_lent s a t e =
    let r = passed (gate_row (in_table_ok s a t) (open_for s.store.number a.order) (sound_ok s t && still_ok s a t a.order) (account_ok s a t)) e in
    let w = lent_in_lem s a t r.0 in
    (w.settings, w.lengths)

-- ---- the lent list

-- its first word is written or none
one_word : (list : List ℕ) (m : ℕ) → Untouched 1 list (sets list 0 (m ∷ []))
one_word [] m = (refl, refl)
one_word (x ∷ xs) m = (refl, refl)

past : (s : BuddySettings) (a : Account) (b : Block) (t : Tables) (list : List ℕ) (n : ℕ) → (return_of s a b t list).said ≡ Paper.released n
    → Untouched n list (return_of s a b t list).list
unfolding return_of carry_return released_by
past s a b t list n = by (plan_return s a b t (list_ok s.store list))
  where
    freed : (f : Bool) (x y : Account) (u : Tables) (m : ℕ)
        → (cond f (listed (Paper.released 1) x u (sets list 0 (m ∷ []))) (listed (Paper.released 0) y u list)).said ≡ Paper.released n
        → Untouched n list (cond f (listed (Paper.released 1) x u (sets list 0 (m ∷ []))) (listed (Paper.released 0) y u list)).list
    freed true x y u m e = subst (λ (k : ℕ). Untouched k list (sets list 0 (m ∷ []))) (ap to_free e) (one_word list m)
    freed false x y u m e = (refl, refl)

    by : (p : Plan) → (carry_return s a b t list p).said ≡ Paper.released n → Untouched n list (carry_return s a b t list p).list
    by (deny k) e = let z : ◌≡◌ {A = ℕ} 5 3 = ap kind_of e in absurd (omega arith)
    by (back w) e = freed (climb_for s b w t).freed _ _ _ _ e

-- ---- chunks without a block on loan

-- a return leaves none: 01, "a buddy store holds no wholly free chunk"
idle_one : (s : BuddySettings) (a : Account) (b : Block) (t : Tables) (list : List ℕ) → gate_of s a t true ≡ pass → AtMostOne (Unlent (view_of s (return_of s a b t list).tables))
idle_one s a b t list passes c d x y =
    let p = gate_passed s a t true (sym passes) in
    let u = (return_of s a b t list).tables in
    let w = (lies_mem (loans_in u) c).0 (has_loan s u p.lent.settings (return_sound s a b t list p.sound) c x.held) in
    absurd (x.none w.0 w.1 w.2)

-- ---- the memory that 11 and 12 name

lost_names : (s : BuddySettings) (a : Account) (o : Outcome) (t : Tables) (n : ℕ) (names : List ℕ) → (deliver_of s a o t).said ≡ Paper.refusal n names
    → (n ≡ 11) ⊎ (n ≡ 12) → names ≡ named_by buddy o
unfolding deliver_of plan_deliver deliver_gate_of carry_deliver carry_fate
lost_names s a o t n names e number =
    arrival_names buddy o (memories t (chunk_places_in t)) (λ (p : Arrival). (carry_deliver s a t p).said) n names number (λ m. refl) fates
    (first (gate_row (in_table_ok s a t) (open_for s.store.number a.order) (sound_ok s t && still_ok s a t a.order) (account_ok s a t)))
    (gate_low (in_table_ok s a t) (open_for s.store.number a.order) (sound_ok s t && still_ok s a t a.order) (account_ok s a t))
    a.order
    e
  where
    fates : (k : KeptOrder) (f : Fate) → (carry_fate s a k t f).said ≡ Paper.refusal n names → (c : Bool) × (f ≡ lost n c names)
    fates k (kept m) q = not_refused (carry_fate s a k t (kept m)).said n names refl q
    fates k (lost m c x) q = (c, (λ j. lost (said_number m n x names q j) c (said_back m n x names q j)))

-- ---- of the engine

pub buddy_further : Further buddy_shape
buddy_further =
    record {
      chunks = λ t. chunks_in t;
      chunks_seen = λ s t. refl;
      fresh_chunks = λ s t e. fresh_holds s t e;
      kept_fits = λ s a t passes. kept_lent s a t passes;
      kept_sound = λ s a t passes. gate_sound s a t passes;
      other_goes = λ s a c t list n e. absurd c;
      other_account = λ s a c t list n e. absurd c;
      other_passed = λ s a c t list n e. absurd c;
      past = λ s a b t list n e. past s a b t list n e;
      other_past = λ s a c t list n e. absurd c;
      idle_one = λ s a b t list passes lent long. idle_one s a b t list passes;
      lost_names = λ s a o t n names e number. lost_names s a o t n names e number;
    }
