-- A block that was returned is never taken again, whatever calls of whichever engines come between, but an accepted set-up of its tables.
use mathlib.Core.Path.{◌≡◌, sym, ap, subst, ◌∙◌}
use mathlib.Core.Logic.{◌⊎◌, ⊎_elim}
use mathlib.Core.List.{List, [], ◌∷◌}
use Prim.Native.Nat.{ℕ, ◌≤◌, ◌<◌}
use native.Mathlib.Omega.{arith}
use lib.ListN.{length}
use Rattle.lists.proofs.Bools.{same?}
use Rattle.counter.specs.Paper as Paper
use Rattle.counter.specs.Reasons.{Given}
use Rattle.counter.specs.declared.account.Account.{Account}
use Rattle.counter.specs.declared.answers.Block.{Block}
use Rattle.store_rules.specs.Outcomes.{Listed, listed}
use Rattle.engines.specs.Engines.{Engine}
use Rattle.engines.specs.Histories.{State, store_at, Visit, done, step, run, NoSetUp, hand_back}
use Rattle.engines.specs.Serials.{Gone}
use Rattle.store_rules.specs.Rows.{list_rows}
use Rattle.engines.specs.Shapes.{Tables, mark_of, Call, sets_up, returns, does, words_of}
use Rattle.engines.proofs.Visits.{set_up?, set_up_stays, stores_stay, store_here, store_other}

-- a return is no set-up
pub no_set_up : {Own : Type 0} (b : Block) (list : List ℕ) → ◌≡◌ {A = Call Own} (returns b list) sets_up → ⊥
no_set_up b list e = let z : ◌≡◌ {A = ℕ} 0 1 = cc in omega arith

-- no two engines have one mark
module _ (K : Type 0) (E : K → Engine) (differ : (i j : K) → (E i).shape.mark ≡ (E j).shape.mark → i ≡ j) where
  -- a serial that is gone stays so over one call of any of the engines, with any settings, any account and any arguments
  pub gone_call : (e : K) (k : ℕ) (a : Account) (t : Tables) (f : K) (s : (E f).shape.Settings) (c : Call (E f).shape.Own) → (c ≡ sets_up → (does (E f).shape s a t c).said ≡ Paper.ready → ⊥) → Gone (E e).shape k t
      → Gone (E e).shape k (does (E f).shape s a t c).tables
  gone_call e k a t f s c old g = ⊎_elim first later (set_up? c)
    where
      -- a set-up that is refused
      first : c ≡ sets_up → Gone (E e).shape k (does (E f).shape s a t c).tables
      first q =
          let d = ap (does (E f).shape s a t) q in
          let u = set_up_stays (E f) s t (λ r. old q (ap (λ (x : Listed Tables). x.said) d ∙ r)) in
          subst (Gone (E e).shape k) (sym (ap (λ (x : Listed Tables). x.tables) d ∙ u)) g

      own : (c ≡ sets_up → ⊥) → mark_of t ≡ (E f).shape.mark → Gone (E e).shape k (does (E f).shape s a t c).tables
      own n m =
          let q : f ≡ e = differ f e (sym m ∙ g.marked) in
          let h : Gone (E f).shape k t = subst (λ (x : K). Gone (E x).shape k t) (sym q) g in
          subst (λ (x : K). Gone (E x).shape k (does (E f).shape s a t c).tables) q ((E f).counts.gone_stays k s a t c n h)

      other : (c ≡ sets_up → ⊥) → (mark_of t ≡ (E f).shape.mark → ⊥) → Gone (E e).shape k (does (E f).shape s a t c).tables
      other n m = subst (Gone (E e).shape k) (sym (ap (λ (d : Listed Tables). d.tables) ((E f).refuses.foreign s a t c n m).1)) g

      later : (c ≡ sets_up → ⊥) → Gone (E e).shape k (does (E f).shape s a t c).tables
      later n = ⊎_elim (own n) (other n) (same? (mark_of t) (E f).shape.mark)

  -- and over any history
  pub gone_run : (e : K) (k i : ℕ) (w : State) (vs : List (Visit K E)) → NoSetUp K E i w vs → i < length w.stores → Gone (E e).shape k (store_at w i) → Gone (E e).shape k (store_at (run K E w vs) i)
  gone_run e k i w [] f h g = g
  gone_run e k i w (v ∷ vs) f h g =
      gone_run e k i (step K E w v) vs f.1 (omega (arith, stores_stay K E w v)) (⊎_elim own other (same? v.at i))
    where
      own : v.at ≡ i → Gone (E e).shape k (store_at (step K E w v) i)
      own q =
          let g' : Gone (E e).shape k (store_at w v.at) = subst (λ (j : ℕ). Gone (E e).shape k (store_at w j)) (sym q) g in
          let d = gone_call e k w.account (store_at w v.at) v.by v.settings v.call (f.0 q) g' in
          subst (λ (j : ℕ). Gone (E e).shape k (store_at (step K E w v) j)) q (subst (Gone (E e).shape k) (sym (store_here K E w v (omega arith))) d)

      other : (v.at ≡ i → ⊥) → Gone (E e).shape k (store_at (step K E w v) i)
      other n = subst (Gone (E e).shape k) (sym (store_other K E w v i n)) g

  -- ---- from a return on

  module _ (w : State) (i : ℕ) (here : i < length w.stores) (e : K) (s : (E e).shape.Settings) (b : Block) (list : List ℕ) (n : ℕ) (taken : (done K E w (hand_back K E i e s (b, list))).said ≡ Paper.released n)
      (vs : List (Visit K E)) (f : NoSetUp K E i (step K E w (hand_back K E i e s (b, list))) vs) where
    abbrev v : Visit K E
    v = hand_back K E i e s (b, list)

    gone : Gone (E e).shape b.serial (store_at (run K E (step K E w v) vs) i)
    gone =
        let g : Gone (E e).shape b.serial (store_at (step K E w v) i) =
        subst (Gone (E e).shape b.serial) (sym (store_here K E w v here)) ((E e).counts.released_gone s w.account b (store_at w i) list n taken) in
        gone_run e b.serial i (step K E w v) vs f (omega (arith, stores_stay K E w v)) g

    -- a block was returned at store i, one of engine e, and then any calls of any of the engines were made, at any stores, with
    -- any settings, arguments and answers, but no accepted set-up of store i: its next return, with any settings and list, is refused
    -- and changes nothing: as 7, or as one of the earlier rows 1 to 4
    pub never_again : (s' : (E e).shape.Settings) (list' : List ℕ)
        → let u = run K E (step K E w (hand_back K E i e s (b, list))) vs in
        (m : ℕ) × ((E e).shape.return s' u.account b (store_at u i) list' ≡ listed (Paper.refusal m []) u.account (store_at u i) list')
        × ((m ≡ 7) ⊎ Given (list_rows (words_of (E e).shape) s' u.account (store_at u i) list') m)
    never_again s' list' =
        let u = run K E (step K E w v) vs in
        (E e).counts.gone_refused s' u.account b (store_at u i) list' gone

    -- and to another engine it cannot be returned at all: its tables do not have that one's mark
    pub never_by_another : (g : K) → (g ≡ e → ⊥) → (s' : (E g).shape.Settings) (list' : List ℕ)
        → let u = run K E (step K E w (hand_back K E i e s (b, list))) vs in
        (m : ℕ) × ((E g).shape.return s' u.account b (store_at u i) list' ≡ listed (Paper.refusal m []) u.account (store_at u i) list') × (0 < m) × (m ≤ 3)
    never_by_another g apart s' list' =
        let u = run K E (step K E w v) vs in
        (E g).refuses.foreign s' u.account (store_at u i) (returns b list') (no_set_up b list') (λ m. apart (differ g e (sym m ∙ gone.marked)))
