-- What a walk down a node sees: the words of a tree, whatever other pairs may lie there; and which nodes it meets.
use mathlib.Core.Path.{◌≡◌, ap}
use mathlib.Core.Bool.{Bool, true}
use mathlib.Core.Logic.{◌⊎◌, inl, inr}
use Prim.Native.Nat.{ℕ, zero, suc, ◌+◌, ◌*◌, ◌≤◌}
use native.Mathlib.Omega.{arith}
use Rattle.buddy_trees.specs.Trees.{Tree, free, loan, split, Apart, Wf, bytes, Piece, Has}
use Rattle.buddy_trees.proofs.Bytes.{bytes_suc}
use Rattle.buddy_rules.specs.Nodes.{Ent, Loan, L, R, node_of, pair_said, is_free, tag_of}

-- ---- the nodes that a walk meets

abbrev pub Here : ℕ → ℕ → ℕ → ℕ → ℕ → ℕ → ℕ → ℕ → Type 0
Here l o n w i x m v = (i ≡ l) × (x ≡ o) × (m ≡ n) × (v ≡ w)

module _ (u : ℕ) (E : ℕ → ℕ → Ent) where
  -- node m, of level i at x with the word v, is one of the tree at node n, of level l at o with the word w
  abbrev pub Meets : ℕ → ℕ → ℕ → ℕ → Tree → ℕ → ℕ → ℕ → ℕ → Type 0
  Meets l o n w free i x m v = Here l o n w i x m v
  Meets l o n w (loan k) i x m v = Here l o n w i x m v
  Meets zero o n w (split a b) i x m v = Here zero o n w i x m v
  Meets (suc l) o n w (split a b) i x m v =
      Here (suc l) o n w i x m v
      ⊎ (Meets l o (node_of (pair_said w) L) (E l (pair_said w)).left a i x m v
      ⊎ Meets l (o + bytes u l) (node_of (pair_said w) R) (E l (pair_said w)).right b i x m v)

  here_in : (l o n w i x m v : ℕ) → Here l o n w i x m v → (o ≤ x) × (x + bytes u i ≤ o + bytes u l) × (i ≤ l)
  here_in l o n w i x m v h = let e : bytes u i ≡ bytes u l = ap (bytes u) h.0 in omega (arith, h.0, h.1)

  -- it lies in the tree's stretch
  pub meets_in : (l o n w : ℕ) (t : Tree) (i x m v : ℕ) → Meets l o n w t i x m v → (o ≤ x) × (x + bytes u i ≤ o + bytes u l) × (i ≤ l)
  meets_in l o n w free i x m v h = here_in l o n w i x m v h
  meets_in l o n w (loan k) i x m v h = here_in l o n w i x m v h
  meets_in zero o n w (split a b) i x m v h = here_in zero o n w i x m v h
  meets_in (suc l) o n w (split a b) i x m v (inl h) = here_in (suc l) o n w i x m v h
  meets_in (suc l) o n w (split a b) i x m v (inr (inl h)) =
      let j = meets_in l o (node_of (pair_said w) L) (E l (pair_said w)).left a i x m v h in
      omega (arith, bytes_suc u l)
  meets_in (suc l) o n w (split a b) i x m v (inr (inr h)) =
      let j = meets_in l (o + bytes u l) (node_of (pair_said w) R) (E l (pair_said w)).right b i x m v h in
      omega (arith, bytes_suc u l)

-- ---- what it sees

-- live tells which loans there are, and size how long they are
module _ (u : ℕ) (K : ℕ → Loan) (live : ℕ → Bool) (size : ℕ → ℕ) where
  -- loan k is node n, of level l at o of chunk c
  pub record LoanAt (k c l o n : ℕ) : Type 0 where
    pub lives : live k ≡ true
    pub is : K k ≡ record { chunk = c; at = o; lev = l; node = n }
    pub sized : size k ≡ bytes u l

module _ (u : ℕ) (E : ℕ → ℕ → Ent) (K : ℕ → Loan) (live : ℕ → Bool) (size : ℕ → ℕ) where
  -- node n is split into the pair of its word, whose halves are a and b
  pub record Pair (c l o n w : ℕ) (a b : Tree) (A B : Type 0) : Type 0 where
    pub is : w ≡ 2 * pair_said w + 2
    pub apart : Apart a b
    pub tag : (E l (pair_said w)).tag ≡ tag_of (is_free a) (is_free b)
    pub chunk : (E l (pair_said w)).chunk ≡ c
    pub off : (E l (pair_said w)).off ≡ o
    pub up : (E l (pair_said w)).up ≡ n
    pub this : A
    pub twin : B

  -- node n of level l at o of chunk c has the words of the tree, w being its own
  abbrev pub Shape : ℕ → ℕ → ℕ → ℕ → ℕ → Tree → Type 0
  Shape c l o n w free = w ≡ 0
  Shape c l o n w (loan k) = (w ≡ 2 * k + 1) × LoanAt u K live size k c l o n
  Shape c zero o n w (split a b) = ⊥
  Shape c (suc l) o n w (split a b) =
      Pair c l o n w a b
      (Shape c l o (node_of (pair_said w) L) (E l (pair_said w)).left a)
      (Shape c l (o + bytes u l) (node_of (pair_said w) R) (E l (pair_said w)).right b)

  pub shape_wf : (c l o n w : ℕ) (t : Tree) → Shape c l o n w t → Wf l t
  shape_wf c l o n w free r = tt
  shape_wf c l o n w (loan k) r = tt
  shape_wf c zero o n w (split a b) r = absurd r
  shape_wf c (suc l) o n w (split a b) r = (
    r.apart,
    shape_wf c l o (node_of (pair_said w) L) (E l (pair_said w)).left a r.this,
    shape_wf c l (o + bytes u l) (node_of (pair_said w) R) (E l (pair_said w)).right b r.twin,
  )

  -- a loan of the tree is one
  pub shape_loan : (c l o n w : ℕ) (t : Tree) (y : Piece) (k : ℕ) → Shape c l o n w t → Has u l o t y → y.who ≡ k + 1 → live k ≡ true
  shape_loan c l o n w free y k r h e = absurd h
  shape_loan c l o n w (loan j) y k r h e = let i : k ≡ j = omega (arith, h.2) in rw i r.1.lives
  shape_loan c zero o n w (split a b) y k r h e = absurd h
  shape_loan c (suc l) o n w (split a b) y k r (inl h) e = shape_loan c l o (node_of (pair_said w) L) (E l (pair_said w)).left a y k r.this h e
  shape_loan c (suc l) o n w (split a b) y k r (inr h) e = shape_loan c l (o + bytes u l) (node_of (pair_said w) R) (E l (pair_said w)).right b y k r.twin h e
