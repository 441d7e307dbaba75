-- Any history of calls of several engines, of any number of stores over one account: each heap holds what was charged less
-- what was released and given back, and the device objects fall and rise with the memory numbers.
use mathlib.Core.Path.{◌≡◌, refl, sym, ap, subst, ◌∙◌}
use mathlib.Core.Bool.{Bool, true, false, cond}
use mathlib.Core.Logic.{⊎_elim}
use mathlib.Core.List.{List, [], ◌∷◌}
use Prim.Native.Nat.{ℕ, ◌+◌, ◌^◌, ◌<◌}
use native.Mathlib.Omega.{arith}
use lib.Dec.{eqb}
use borrow.Author.Tests.{eqb-true, eqb-false, ltb-true}
use Rattle.lists.proofs.Bools.{same?}
use Rattle.counter.specs.Account.{Typed, heap_at}
use Rattle.counter.specs.declared.account.Heap.{Heap}
use Rattle.heap.specs.Heap.{Within}
use Rattle.heap.specs.History.{Entry, new_heap, after, AllFitting}
use Rattle.heap.proofs.History.{Adds, adds, FromNothing, from_nothing, after_append, fitting_append, fitting_within, after_low}
use Rattle.store_rules.specs.Outcomes.{to_free}
use Rattle.engines.specs.Books.{Booked, takes}
use Rattle.engines.specs.Engines.{Engine}
use Rattle.engines.specs.Histories.{State, store_at, Visit, done, step, run, heap_of, books_here, books_at, accepted_in, freed_in}

module _ (K : Type 0) (E : K → Engine) where
  -- ---- one call

  module _ (w : State) (v : Visit K E) where
    booked : Booked (heap_of K E v) w.account (books_here K E w v) (takes (E v.by).shape v.call (done K E w v).said) (done K E w v)
    booked = (E v.by).books.booked v.settings w.account (store_at w v.at) v.call

    -- a call touches only its own heap, the objects and the open order
    pub other_heaps : (j : ℕ) → (j ≡ heap_of K E v → ⊥) → heap_at (done K E w v).account j ≡ heap_at w.account j
    other_heaps = booked.others

    -- its own heap, one of all, is as what it books leaves it
    pub own_heap : Typed w.account → heap_at (done K E w v).account (heap_of K E v) ≡ after (heap_at w.account (heap_of K E v)) (books_here K E w v)
    own_heap = booked.heap

    -- no entry passes a bound
    pub own_fitting : Within (heap_at w.account (heap_of K E v)) → AllFitting (heap_at w.account (heap_of K E v)) (books_here K E w v)
    own_fitting = booked.fitting

    -- objects fall by one for each memory number accepted and rise by one for each released or given back
    pub own_objects : (done K E w v).account.objects + takes (E v.by).shape v.call (done K E w v).said ≡ w.account.objects + to_free (done K E w v).said
    own_objects = booked.objects

    -- an account that code can lend stays one
    pub typed_stays : Typed w.account → Typed (done K E w v).account
    typed_stays t =
        let i = heap_of K E v in
        let old = heap_at w.account i in
        record {
          heaps = booked.heaps ∙ t.heaps;
          totals = λ j. ⊎_elim
              (λ e. rw e (subst Within (sym (own_heap t)) (fitting_within old (books_here K E w v) (own_fitting (t.totals i)) (t.totals i))))
              (λ n. subst Within (sym (other_heaps j n)) (t.totals j))
              (same? j i);
          words = λ j. ⊎_elim
              (λ e. rw e (subst (λ (h : Heap). h.deallocated.lo < 2 ^ 64) (sym (own_heap t)) (after_low old (books_here K E w v) (t.words i))))
              (λ n. subst (λ (h : Heap). h.deallocated.lo < 2 ^ 64) (sym (other_heaps j n)) (t.words j))
              (same? j i);
        }

  -- ---- one step, seen from heap j

  module _ (j : ℕ) (w : State) (v : Visit K E) where
    abbrev seen : List Entry
    seen = cond (eqb (heap_of K E v) j) (books_here K E w v) []

    step_heap : Typed w.account → heap_at (step K E w v).account j ≡ after (heap_at w.account j) seen
    step_heap typed = go (eqb (heap_of K E v) j) refl
      where
        go : (b : Bool) → eqb (heap_of K E v) j ≡ b → heap_at (step K E w v).account j ≡ after (heap_at w.account j) (cond b (books_here K E w v) [])
        go true e =
            subst (λ (i : ℕ). heap_at (step K E w v).account i ≡ after (heap_at w.account i) (books_here K E w v)) (eqb-true (heap_of K E v) j e)
            (own_heap w v typed)
        go false e = other_heaps w v j (λ q. eqb-false (heap_of K E v) j e (sym q))

    step_fits : Within (heap_at w.account j) → AllFitting (heap_at w.account j) seen
    step_fits within = go (eqb (heap_of K E v) j) refl
      where
        go : (b : Bool) → eqb (heap_of K E v) j ≡ b → AllFitting (heap_at w.account j) (cond b (books_here K E w v) [])
        go true e =
            let q = eqb-true (heap_of K E v) j e in
            subst (λ (i : ℕ). AllFitting (heap_at w.account i) (books_here K E w v)) q
            (own_fitting w v (subst (λ (i : ℕ). Within (heap_at w.account i)) (sym q) within))
        go false e = tt

  -- ---- a history

  history_heap : (w : State) (vs : List (Visit K E)) (j : ℕ) → Typed w.account → heap_at (run K E w vs).account j ≡ after (heap_at w.account j) (books_at K E j w vs)
  history_heap w [] j typed = refl
  history_heap w (v ∷ vs) j typed =
      history_heap (step K E w v) vs j (typed_stays w v typed)
      ∙ ap (λ (h : Heap). after h (books_at K E j (step K E w v) vs)) (step_heap j w v typed)
      ∙ sym (after_append (heap_at w.account j) (seen j w v) (books_at K E j (step K E w v) vs))

  history_fits : (w : State) (vs : List (Visit K E)) (j : ℕ) → Typed w.account → Within (heap_at w.account j) → AllFitting (heap_at w.account j) (books_at K E j w vs)
  history_fits w [] j typed within = tt
  history_fits w (v ∷ vs) j typed within =
      let h = heap_at w.account j in
      let e = step_heap j w v typed in
      let f = step_fits j w v within in
      fitting_append h (seen j w v) (books_at K E j (step K E w v) vs) f
      (subst (λ (g : Heap). AllFitting g (books_at K E j (step K E w v) vs)) e
      (history_fits (step K E w v) vs j (typed_stays w v typed) (subst Within (sym e) (fitting_within h (seen j w v) f within))))

  -- from any account that code can lend: what the history adds
  pub heap_adds : (w : State) (vs : List (Visit K E)) (j : ℕ) → Typed w.account → Adds (heap_at w.account j) (books_at K E j w vs) (heap_at (run K E w vs).account j)
  heap_adds w vs j typed =
      subst (Adds (heap_at w.account j) (books_at K E j w vs)) (sym (history_heap w vs j typed))
      (adds (heap_at w.account j) (books_at K E j w vs) (history_fits w vs j typed (typed.totals j)))

  -- from used and totals 0, heap j's used is the charges less the releases and give-backs that the history books on it, and
  -- allocated less deallocated
  pub heap_history : (w : State) (vs : List (Visit K E)) (j size : ℕ) → Typed w.account → heap_at w.account j ≡ new_heap size
      → FromNothing (books_at K E j w vs) (heap_at (run K E w vs).account j)
  heap_history w vs j size typed new =
      let within : Within (new_heap size) = ltb-true 0 (2 ^ 128) refl in
      let fits = history_fits w vs j typed (subst Within (sym new) within) in
      subst (FromNothing (books_at K E j w vs)) (sym (history_heap w vs j typed ∙ ap (λ (h : Heap). after h (books_at K E j w vs)) new))
      (from_nothing size (books_at K E j w vs) (subst (λ (h : Heap). AllFitting h (books_at K E j w vs)) new fits))

  -- device objects: memory numbers accepted, and those released or given back
  pub objects_history : (w : State) (vs : List (Visit K E)) → (run K E w vs).account.objects + accepted_in K E w vs ≡ w.account.objects + freed_in K E w vs
  objects_history w [] = refl
  objects_history w (v ∷ vs) = omega (arith, objects_history (step K E w v) vs, own_objects w v)
