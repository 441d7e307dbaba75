-- A node that is not free has a loan, and the loans decide the tree.
use mathlib.Core.Path.{◌≡◌, refl, ap, ap₂, subst}
use mathlib.Core.Logic.{◌⊎◌, inl, inr}
use Prim.Native.Nat.{ℕ, zero, suc, ◌+◌, ◌<◌}
use native.Mathlib.Omega.{arith}
use Rattle.buddy_trees.specs.Trees.{Tree, free, loan, split, Taken, Apart, Wf, bytes, Piece, Has}
use Rattle.buddy_trees.proofs.Bytes.{bytes_pos}
use Rattle.buddy_trees.proofs.Fills.{has_in}

apart_taken : (a b : Tree) → Apart a b → Taken a ⊎ Taken b
apart_taken free free p = absurd p
apart_taken free (loan k) p = inr tt
apart_taken free (split c d) p = inr tt
apart_taken (loan k) b p = inl tt
apart_taken (split c d) b p = inl tt

pub free? : (t : Tree) → (t ≡ free) ⊎ (t ≡ free → ⊥)
free? free = inl refl
free? (loan k) = inr (λ e. subst Taken e tt)
free? (split a b) = inr (λ e. subst Taken e tt)

module _ (u : ℕ) where
  -- a node that is not free has a loan
  pub taken_loan : (l o : ℕ) (t : Tree) → Wf l t → Taken t → (y : Piece) × Has u l o t y
  taken_loan l o free w h = absurd h
  taken_loan l o (loan k) w h = (record { at = o; lev = l; who = k + 1 }, (refl, refl, refl))
  taken_loan zero o (split a b) w h = absurd w
  taken_loan (suc l) o (split a b) w h = go (taken_loan l o a w.1) (taken_loan l (o + bytes u l) b w.2) (apart_taken a b w.0)
    where
      go : (Taken a → (y : Piece) × Has u l o a y) → (Taken b → (y : Piece) × Has u l (o + bytes u l) b y) → Taken a ⊎ Taken b → (y : Piece) × Has u (suc l) o (split a b) y
      go f g (inl h) = let r = f h in (r.0, inl r.1)
      go f g (inr h) = let r = g h in (r.0, inr r.1)

  -- a tree's loans have numbers
  pub has_who : (l o : ℕ) (t : Tree) (y : Piece) → Has u l o t y → (k : ℕ) × (y.who ≡ k + 1)
  has_who l o free y h = absurd h
  has_who l o (loan k) y h = (k, h.2)
  has_who zero o (split a b) y h = absurd h
  has_who (suc l) o (split a b) y (inl h) = has_who l o a y h
  has_who (suc l) o (split a b) y (inr h) = has_who l (o + bytes u l) b y h

  -- a split node's loan is below its level
  pub split_low : (l o : ℕ) (a b : Tree) (y : Piece) → Has u l o (split a b) y → y.lev < l
  split_low zero o a b y h = absurd h
  split_low (suc l) o a b y (inl h) = let i = has_in u l o a y h in omega arith
  split_low (suc l) o a b y (inr h) = let i = has_in u l (o + bytes u l) b y h in omega arith

  -- so what holds one loan only, at the node's level, is not split
  split_loan : (l o k : ℕ) (a b : Tree) → Wf l (split a b) → ((y : Piece) → Has u l o (split a b) y → Has u l o (loan k) y) → ⊥
  split_loan l o k a b w f =
      let s = taken_loan l o (split a b) w tt in
      omega (arith, split_low l o a b s.0 s.1, (f s.0 s.1).1)

  -- the two nodes of a pair have no loan in common
  not_both : (l o : ℕ) (a b : Tree) (y : Piece) → 0 < u → Has u l o a y → Has u l (o + bytes u l) b y → ⊥
  not_both l o a b y p i j = omega (arith, bytes_pos u y.lev p, (has_in u l o a y i).1, (has_in u l (o + bytes u l) b y j).0)

  -- the same loans make the same tree
  pub canon : (l o : ℕ) (t s : Tree) → 0 < u → Wf l t → Wf l s → ((y : Piece) → Has u l o t y → Has u l o s y) → ((y : Piece) → Has u l o s y → Has u l o t y) → t ≡ s
  canon l o free free p w v f g = refl
  canon l o free (loan k) p w v f g = absurd (g _ (refl, refl, refl))
  canon l o free (split a b) p w v f g = let r = taken_loan l o (split a b) v tt in absurd (g r.0 r.1)
  canon l o (loan k) free p w v f g = absurd (f _ (refl, refl, refl))
  canon l o (loan k) (loan j) p w v f g = let h = f _ (refl, refl, refl) in ap loan (omega (arith, h.2))
  canon l o (loan k) (split a b) p w v f g = absurd (split_loan l o k a b v g)
  canon l o (split a b) free p w v f g = let r = taken_loan l o (split a b) w tt in absurd (f r.0 r.1)
  canon l o (split a b) (loan k) p w v f g = absurd (split_loan l o k a b w f)
  canon zero o (split a b) (split c d) p w v f g = absurd w
  canon (suc l) o (split a b) (split c d) p w v f g =
      ap₂ split
      (canon l o a c p w.1 v.1 (λ y h. low a c d y h (f y (inl h))) (λ y h. low c a b y h (g y (inl h))))
      (canon l (o + bytes u l) b d p w.2 v.2 (λ y h. high b c d y h (f y (inr h))) (λ y h. high d a b y h (g y (inr h))))
    where
      low : (a c d : Tree) (y : Piece) → Has u l o a y → Has u (suc l) o (split c d) y → Has u l o c y
      low a c d y h (inl i) = i
      low a c d y h (inr i) = absurd (not_both l o a d y p h i)

      high : (b c d : Tree) (y : Piece) → Has u l (o + bytes u l) b y → Has u (suc l) o (split c d) y → Has u l (o + bytes u l) d y
      high b c d y h (inl i) = absurd (not_both l o c b y p i h)
      high b c d y h (inr i) = i
