-- Loans given back: the form is kept, and the other loans stay.
use mathlib.Core.Path.{◌≡◌, refl, ap, ◌∙◌}
use mathlib.Core.Bool.{Bool, true, false, cond}
use mathlib.Core.Logic.{◌⊎◌, inl, inr, ⊎_elim, ◌↔◌}
use Prim.Native.Nat.{ℕ, zero, suc, ◌+◌}
use native.Mathlib.Omega.{arith}
use Rattle.lists.proofs.Bools.{true_false}
use Rattle.buddy_trees.specs.Trees.{Tree, free, loan, split, Wf, bytes, Piece, Has, merge, prune, Kept}

-- ---- the form is kept

merge_wf : (l : ℕ) (a b : Tree) → Wf l a → Wf l b → Wf (suc l) (merge a b)
merge_wf l free free w v = tt
merge_wf l free (loan k) w v = (tt, w, v)
merge_wf l free (split c d) w v = (tt, w, v)
merge_wf l (loan k) b w v = (tt, w, v)
merge_wf l (split c d) b w v = (tt, w, v)

pub prune_wf : (p : ℕ → Bool) (l : ℕ) (t : Tree) → Wf l t → Wf l (prune p t)
prune_wf p l free w = tt
prune_wf p l (loan k) w = go (p k)
  where
    go : (b : Bool) → Wf l (cond b free (loan k))
    go true = tt
    go false = tt
prune_wf p zero (split a b) w = absurd w
prune_wf p (suc l) (split a b) w = merge_wf l (prune p a) (prune p b) (prune_wf p l a w.1) (prune_wf p l b w.2)

-- ---- what is left of the loans

module _ (u : ℕ) where
  merge_has : (l o : ℕ) (a b : Tree) (y : Piece) → Has u (suc l) o (merge a b) y ↔ (Has u l o a y ⊎ Has u l (o + bytes u l) b y)
  merge_has l o free free y = ((λ h. absurd h), ⊎_elim (λ h. h) (λ h. h))
  merge_has l o free (loan k) y = ((λ h. h), (λ h. h))
  merge_has l o free (split c d) y = ((λ h. h), (λ h. h))
  merge_has l o (loan k) b y = ((λ h. h), (λ h. h))
  merge_has l o (split c d) b y = ((λ h. h), (λ h. h))

  -- those that are not marked, where they were
  pub prune_has : (p : ℕ → Bool) (l o : ℕ) (t : Tree) (y : Piece) → Wf l t → Has u l o (prune p t) y ↔ (Has u l o t y × Kept p y)
  prune_has p l o free y w = ((λ h. absurd h), (λ h. absurd h.0))
  prune_has p l o (loan k) y w = go (p k) refl
    where
      go : (b : Bool) → p k ≡ b → Has u l o (cond b free (loan k)) y ↔ (Has u l o (loan k) y × Kept p y)
      go true e = ((λ h. absurd h), (λ h. absurd (true_false (p k) e (h.1 k h.0.2))))
      go false e = ((λ h. (h, λ j f. let i : j ≡ k = omega (arith, h.2) in ap p i ∙ e)), (λ h. h.0))
  prune_has p zero o (split a b) y w = absurd w
  prune_has p (suc l) o (split a b) y w =
      let i = prune_has p l o a y w.1 in
      let j = prune_has p l (o + bytes u l) b y w.2 in
      let m = merge_has l o (prune p a) (prune p b) y in (
        (λ h. ⊎_elim (λ x. (inl (i.0 x).0, (i.0 x).1)) (λ x. (inr (j.0 x).0, (j.0 x).1)) (m.0 h)),
        (λ h. m.1 (⊎_elim (λ x. inl (i.1 (x, h.1))) (λ x. inr (j.1 (x, h.1))) h.0)),
      )
