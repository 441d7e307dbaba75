-- The loans of a node decide its tree: what tree_of makes of them is the tree that has them.
use mathlib.Core.Path.{◌≡◌, refl, sym, ◌∙◌, ap, ap₂, subst}
use mathlib.Core.Bool.{Bool, true, false, cond, not}
use mathlib.Core.Logic.{inl, inr, ◌↔◌}
use mathlib.Core.List.Memᴰ
use mathlib.Core.List.{List, [], ◌∷◌, Memᴰ}
use Prim.Native.Nat.{ℕ, zero, suc, ◌+◌, ◌≤◌, ◌<◌}
use native.Mathlib.Omega.{arith}
use lib.Dec.{ltb}
use borrow.Author.Tests.{ltb-true, ltb-false, lt-ltb, le-ltb, eq-eqb, ne_eqb}
use Rattle.lists.proofs.Bools.{not_yes}
use Rattle.store_rules.proofs.Lessening.{those, those_mem, those_yes, mem_those}
use Rattle.buddy_trees.specs.Trees.{Tree, free, loan, split, Piece, bytes, Wf, Has}
use Rattle.buddy_trees.proofs.Bytes.{bytes_pos}
use Rattle.buddy_trees.proofs.Fills.{has_in}
use Rattle.buddy_trees.proofs.Canon.{taken_loan, split_low}
use Rattle.buddy_trees.specs.Chunks.{before, from, tree_of}

-- ---- the pieces before an offset, and those from it on

pub before_those : (x : ℕ) (ys : List Piece) → before x ys ≡ those (λ (y : Piece). ltb y.at x) ys
before_those x [] = refl
before_those x (y ∷ ys) = go (ltb y.at x) (before_those x ys)
  where
    go : (b : Bool) → before x ys ≡ those (λ (z : Piece). ltb z.at x) ys → cond b (y ∷ before x ys) (before x ys) ≡ cond b (y ∷ those (λ (z : Piece). ltb z.at x) ys) (those (λ (z : Piece). ltb z.at x) ys)
    go true ih = ap (λ (zs : List Piece). y ∷ zs) ih
    go false ih = ih

pub from_those : (x : ℕ) (ys : List Piece) → from x ys ≡ those (λ (y : Piece). not (ltb y.at x)) ys
from_those x [] = refl
from_those x (y ∷ ys) = go (ltb y.at x) (from_those x ys)
  where
    go : (b : Bool) → from x ys ≡ those (λ (z : Piece). not (ltb z.at x)) ys → cond b (from x ys) (y ∷ from x ys) ≡ cond (not b) (y ∷ those (λ (z : Piece). not (ltb z.at x)) ys) (those (λ (z : Piece). not (ltb z.at x)) ys)
    go true ih = ih
    go false ih = ap (λ (zs : List Piece). y ∷ zs) ih

-- the former are those that begin before it
pub before_mem : (x : ℕ) (ys : List Piece) (y : Piece) → Memᴰ y (before x ys) ↔ (Memᴰ y ys × (y.at < x))
before_mem x ys y = (there, λ w. subst (Memᴰ y) (sym (before_those x ys)) (mem_those _ y ys w.0 (lt-ltb y.at x w.1)))
  where
    there : Memᴰ y (before x ys) → Memᴰ y ys × (y.at < x)
    there m = let k = subst (Memᴰ y) (before_those x ys) m in (those_mem _ y ys k, ltb-true y.at x (those_yes _ y ys k))

-- the latter are those that don't
pub from_mem : (x : ℕ) (ys : List Piece) (y : Piece) → Memᴰ y (from x ys) ↔ (Memᴰ y ys × (x ≤ y.at))
from_mem x ys y = (there, λ w. subst (Memᴰ y) (sym (from_those x ys)) (mem_those _ y ys w.0 (ap not (le-ltb y.at x w.1))))
  where
    there : Memᴰ y (from x ys) → Memᴰ y ys × (x ≤ y.at)
    there m = let k = subst (Memᴰ y) (from_those x ys) m in (those_mem _ y ys k, ltb-false y.at x (not_yes _ (those_yes _ y ys k)))

-- ---- a node

module _ (u : ℕ) where
  node_none : (l o : ℕ) → tree_of u l o [] ≡ free
  unfolding tree_of
  node_none zero o = refl
  node_none (suc l) o = refl

  node_lent : (l o k : ℕ) (y : Piece) (ys : List Piece) → y.lev ≡ l → y.who ≡ k + 1 → tree_of u l o (y ∷ ys) ≡ loan k
  unfolding tree_of
  node_lent zero o k y ys e f = rw (eq-eqb y.lev zero e) (ap loan (omega arith))
  node_lent (suc l) o k y ys e f = rw (eq-eqb y.lev (suc l) e) (ap loan (omega arith))

  node_split : (l o : ℕ) (y : Piece) (ys : List Piece) → y.lev < suc l → tree_of u (suc l) o (y ∷ ys) ≡ split (tree_of u l o (before (o + bytes u l) (y ∷ ys))) (tree_of u l (o + bytes u l) (from (o + bytes u l) (y ∷ ys)))
  unfolding tree_of
  node_split l o y ys h = rw (ne_eqb y.lev (suc l) (λ e. omega arith))

  -- ys has the loans of the node of level l at o, whose tree is t
  abbrev pub Holds : ℕ → ℕ → Tree → List Piece → Type 0
  Holds l o t ys = (y : Piece) → Memᴰ y ys ↔ Has u l o t y

  -- the loans of a pair, parted in the middle, are those of its nodes
  pub holds_left : (l o : ℕ) (a b : Tree) (ys : List Piece) → 0 < u → Holds (suc l) o (split a b) ys → Holds l o a (before (o + bytes u l) ys)
  holds_left l o a b ys p f y = ((λ m. let w = (before_mem (o + bytes u l) ys y).0 m in there w.1 ((f y).0 w.0)), back)
    where
      there : y.at < o + bytes u l → Has u (suc l) o (split a b) y → Has u l o a y
      there h (inl i) = i
      there h (inr i) = absurd (omega (arith, (has_in u l (o + bytes u l) b y i).0))

      back : Has u l o a y → Memᴰ y (before (o + bytes u l) ys)
      back i = (before_mem (o + bytes u l) ys y).1 ((f y).1 (inl i), omega (arith, (has_in u l o a y i).1, bytes_pos u y.lev p))

  pub holds_right : (l o : ℕ) (a b : Tree) (ys : List Piece) → 0 < u → Holds (suc l) o (split a b) ys → Holds l (o + bytes u l) b (from (o + bytes u l) ys)
  holds_right l o a b ys p f y = ((λ m. let w = (from_mem (o + bytes u l) ys y).0 m in there w.1 ((f y).0 w.0)), back)
    where
      there : o + bytes u l ≤ y.at → Has u (suc l) o (split a b) y → Has u l (o + bytes u l) b y
      there h (inl i) = absurd (omega (arith, (has_in u l o a y i).1, bytes_pos u y.lev p))
      there h (inr i) = i

      back : Has u l (o + bytes u l) b y → Memᴰ y (from (o + bytes u l) ys)
      back i = (from_mem (o + bytes u l) ys y).1 ((f y).1 (inr i), (has_in u l (o + bytes u l) b y i).0)

  holds_some : (l o : ℕ) (a b : Tree) → Wf l (split a b) → Holds l o (split a b) [] → ⊥
  holds_some l o a b w f = let s = taken_loan u l o (split a b) w tt in Memᴰ.not-nil ((f s.0).1 s.1)

-- what is made of a tree's loans is the tree
pub tree_is : (u : ℕ) → 0 < u → (l o : ℕ) (t : Tree) (ys : List Piece) → Wf l t → ((y : Piece) → Memᴰ y ys ↔ Has u l o t y) → tree_of u l o ys ≡ t
tree_is u p l o free [] w f = node_none u l o
tree_is u p l o free (y ∷ ys) w f = absurd ((f y).0 (Memᴰ.head refl))
tree_is u p l o (loan k) [] w f = absurd (Memᴰ.not-nil ((f (record { at = o; lev = l; who = k + 1 })).1 (refl, refl, refl)))
tree_is u p l o (loan k) (y ∷ ys) w f = let h = (f y).0 (Memᴰ.head refl) in node_lent u l o k y ys h.1 h.2
tree_is u p zero o (split a b) ys w f = absurd w
tree_is u p (suc l) o (split a b) [] w f = absurd (holds_some u (suc l) o a b w f)
tree_is u p (suc l) o (split a b) (y ∷ ys) w f =
    node_split u l o y ys (split_low u (suc l) o a b y ((f y).0 (Memᴰ.head refl)))
    ∙ ap₂ split
    (tree_is u p l o a (before (o + bytes u l) (y ∷ ys)) w.1 (holds_left u l o a b (y ∷ ys) p f))
    (tree_is u p l (o + bytes u l) b (from (o + bytes u l) (y ∷ ys)) w.2 (holds_right u l o a b (y ∷ ys) p f))
