-- What a tree fills: its pieces fill its node, end to end; its loans and free nodes lie in it and don't meet, and a free
-- node stands at a multiple of its size.
use mathlib.Core.Path.{◌≡◌, refl, sym, ap, ◌∙◌}
use mathlib.Core.Logic.{◌⊎◌, inl, inr}
use mathlib.Core.List.{List, [], ◌∷◌, ◌++◌}
use Prim.Native.Nat.{ℕ, zero, suc, ◌+◌, ◌*◌, ◌≤◌}
use native.Mathlib.Nat.{add-mul, mul-add}
use native.Mathlib.Omega.{arith}
use Rattle.buddy_trees.specs.Trees.{Tree, free, loan, split, Wf, bytes, Piece, pieces, Fills, Has, Free, Quiet}
use Rattle.buddy_trees.proofs.Bytes.{bytes_suc}

module _ (u : ℕ) where
  fills_join : (o m e : ℕ) (ps qs : List Piece) → Fills u o ps m → Fills u m qs e → Fills u o (ps ++ qs) e
  fills_join o m e [] qs f g = rw f g
  fills_join o m e (p ∷ ps) qs f g = (f.0, fills_join (o + bytes u p.lev) m e ps qs f.1 g)

  -- the pieces fill the node
  pub fills : (l o : ℕ) (t : Tree) → Wf l t → Fills u o (pieces u l o t) (o + bytes u l)
  fills l o free w = (refl, refl)
  fills l o (loan k) w = (refl, refl)
  fills zero o (split a b) w = absurd w
  fills (suc l) o (split a b) w =
      let m = o + bytes u l in
      let e : m + bytes u l ≡ o + bytes u (suc l) = omega (arith, bytes_suc u l) in
      rw (← e) (fills_join o m (m + bytes u l) (pieces u l o a) (pieces u l m b) (fills l o a w.1) (fills l m b w.2))

  -- a loan lies in its node
  pub has_in : (l o : ℕ) (t : Tree) (y : Piece) → Has u l o t y → (o ≤ y.at) × (y.at + bytes u y.lev ≤ o + bytes u l) × (y.lev ≤ l)
  has_in l o free y h = absurd h
  has_in l o (loan k) y h = let e : bytes u y.lev ≡ bytes u l = ap (bytes u) h.1 in omega arith
  has_in zero o (split a b) y h = absurd h
  has_in (suc l) o (split a b) y (inl h) = let i = has_in l o a y h in omega (arith, bytes_suc u l)
  has_in (suc l) o (split a b) y (inr h) = let i = has_in l (o + bytes u l) b y h in omega (arith, bytes_suc u l)

  -- and so does a free node
  pub free_in_lem : (l o : ℕ) (t : Tree) (x m : ℕ) → Free u l o t x m → (o ≤ x) × (x + bytes u m ≤ o + bytes u l) × (m ≤ l)
  free_in_lem l o free x m h = let e : bytes u m ≡ bytes u l = ap (bytes u) h.1 in omega arith
  free_in_lem l o (loan k) x m h = absurd h
  free_in_lem zero o (split a b) x m h = absurd h
  free_in_lem (suc l) o (split a b) x m (inl h) = let i = free_in_lem l o a x m h in omega (arith, bytes_suc u l)
  free_in_lem (suc l) o (split a b) x m (inr h) = let i = free_in_lem l (o + bytes u l) b x m h in omega (arith, bytes_suc u l)

  -- no loan meets a free node
  pub free_quiet : (l o : ℕ) (t : Tree) (x m : ℕ) → Free u l o t x m → Quiet u l o t x m
  free_quiet l o free x m f y h = absurd h
  free_quiet l o (loan k) x m f y h = absurd f
  free_quiet zero o (split a b) x m f y h = absurd f
  free_quiet (suc l) o (split a b) x m (inl f) y (inl h) = free_quiet l o a x m f y h
  free_quiet (suc l) o (split a b) x m (inr f) y (inr h) = free_quiet l (o + bytes u l) b x m f y h
  free_quiet (suc l) o (split a b) x m (inl f) y (inr h) = let i = free_in_lem l o a x m f in let j = has_in l (o + bytes u l) b y h in inr (omega (arith, i.1, j.0))
  free_quiet (suc l) o (split a b) x m (inr f) y (inl h) = let i = free_in_lem l (o + bytes u l) b x m f in let j = has_in l o a y h in inl (omega (arith, i.0, j.1))

  -- two loans don't meet
  pub has_apart : (l o : ℕ) (t : Tree) (y z : Piece) → Has u l o t y → Has u l o t z → (y ≡ z → ⊥) → (y.at + bytes u y.lev ≤ z.at) ⊎ (z.at + bytes u z.lev ≤ y.at)
  has_apart l o free y z h i ne = absurd h
  has_apart l o (loan k) y z h i ne = absurd (ne (λ j. record { at = (h.0 ∙ sym i.0) j; lev = (h.1 ∙ sym i.1) j; who = (h.2 ∙ sym i.2) j }))
  has_apart zero o (split a b) y z h i ne = absurd h
  has_apart (suc l) o (split a b) y z (inl h) (inl i) ne = has_apart l o a y z h i ne
  has_apart (suc l) o (split a b) y z (inr h) (inr i) ne = has_apart l (o + bytes u l) b y z h i ne
  has_apart (suc l) o (split a b) y z (inl h) (inr i) ne = inl (omega (arith, (has_in l o a y h).1, (has_in l (o + bytes u l) b z i).0))
  has_apart (suc l) o (split a b) y z (inr h) (inl i) ne = inr (omega (arith, (has_in l o a z i).1, (has_in l (o + bytes u l) b y h).0))

  pub half : (l q : ℕ) → q * bytes u (suc l) ≡ (q + q) * bytes u l
  half l q = omega (arith, ap (λ (n : ℕ). q * n) (bytes_suc u l), mul-add q (bytes u l) (bytes u l), add-mul q q (bytes u l))

  -- a free node stands at a multiple of its size, as the node that it is in does
  pub free_aligned : (l o : ℕ) (t : Tree) (x m q : ℕ) → o ≡ q * bytes u l → Free u l o t x m → (r : ℕ) × (x ≡ r * bytes u m)
  free_aligned l o free x m q e f = (q, rw f.1 (f.0 ∙ e))
  free_aligned l o (loan k) x m q e f = absurd f
  free_aligned zero o (split a b) x m q e f = absurd f
  free_aligned (suc l) o (split a b) x m q e (inl f) = free_aligned l o a x m (q + q) (e ∙ half l q) f
  free_aligned (suc l) o (split a b) x m q e (inr f) = free_aligned l (o + bytes u l) b x m (q + q + 1) (omega (arith, half l q, add-mul (q + q) 1 (bytes u l))) f
