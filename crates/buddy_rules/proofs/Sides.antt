-- A pair seen from either of its sides, so that left and right are proved at once.
use mathlib.Core.Path.{◌≡◌, refl, ap}
use mathlib.Core.Bool.{Bool, true, false}
use mathlib.Core.Logic.{⊎_elim}
use Prim.Native.Nat.{ℕ, suc, ◌<◌}
use native.Mathlib.Omega.{arith}
use Rattle.lists.proofs.Bools.{true_false, told}
use Rattle.buddy_trees.specs.Trees.{Tree, free, loan, split, Taken, Piece, Has, merge}
use Rattle.buddy_rules.specs.Nodes.{Ent, Loan, Side, L, R, other, node_of, word, pair_said, is_free, tag_of, split_by, base, Inside, Node, Rep}
use Rattle.buddy_rules.specs.Levels.{readied, filled}
use Rattle.buddy_rules.proofs.Frames.{rep_free}

abbrev pub merge_by : Side → Tree → Tree → Tree
merge_by L x y = merge x y
merge_by R x y = merge y x

abbrev pub tag_by : Side → Tree → Tree → ℕ
tag_by L x y = tag_of (is_free x) (is_free y)
tag_by R x y = tag_of (is_free y) (is_free x)

-- ---- trees

pub merge_split : (s : Side) (x y : Tree) → is_free x ≡ false → merge_by s x y ≡ split_by s x y
merge_split L free y e = absurd (true_false _ refl e)
merge_split L (loan k) y e = refl
merge_split L (split a b) y e = refl
merge_split R free y e = absurd (true_false _ refl e)
merge_split R (loan k) free e = refl
merge_split R (loan k) (loan j) e = refl
merge_split R (loan k) (split a b) e = refl
merge_split R (split a b) free e = refl
merge_split R (split a b) (loan j) e = refl
merge_split R (split a b) (split c d) e = refl

pub merge_free : (s : Side) (y : Tree) → is_free y ≡ false → merge_by s free y ≡ split_by s free y
merge_free L free e = absurd (true_false _ refl e)
merge_free L (loan k) e = refl
merge_free L (split a b) e = refl
merge_free R free e = absurd (true_false _ refl e)
merge_free R (loan k) e = refl
merge_free R (split a b) e = refl

pub merge_both : (s : Side) → merge_by s free free ≡ free
merge_both L = refl
merge_both R = refl

pub taken_not : (t : Tree) → Taken t → is_free t ≡ false
taken_not free h = absurd h
taken_not (loan k) h = refl
taken_not (split a b) h = refl

pub not_taken : (t : Tree) → is_free t ≡ false → Taken t
not_taken free e = absurd (true_false _ refl e)
not_taken (loan k) e = tt
not_taken (split a b) e = tt

-- ---- tags

pub tag_one : (s : Side) (x y : Tree) → is_free x ≡ false → is_free y ≡ false → tag_by s x y ≡ 1
tag_one L x y e f = rw (e, f)
tag_one R x y e f = rw (f, e)

pub tag_ready : (s : Side) (x y : Tree) → is_free y ≡ true → 1 < tag_by s x y
tag_ready L x y f = rw f (go (is_free x))
  where
    go : (b : Bool) → 1 < tag_of b true
    go true = omega arith
    go false = omega arith
tag_ready R x y f = rw f (omega arith)

pub tag_any : (s : Side) (x y : Tree) → 0 < tag_by s x y
tag_any s x y = go s
  where
    some : (a b : Bool) → 0 < tag_of a b
    some true b = omega arith
    some false true = omega arith
    some false false = omega arith

    go : (s : Side) → 0 < tag_by s x y
    go L = some (is_free x) (is_free y)
    go R = some (is_free y) (is_free x)

pub tag_kept : (s : Side) (x x' y : Tree) → is_free x ≡ is_free x' → tag_by s x y ≡ tag_by s x' y
tag_kept L x x' y e = ap (λ b. tag_of b (is_free y)) e
tag_kept R x x' y e = ap (λ b. tag_of (is_free y) b) e

-- ---- an entry that is ready again

pub ready_tag_lem : (s : Side) (e : Ent) (y : Tree) → is_free y ≡ false → (readied s e).tag ≡ tag_by s free y
ready_tag_lem L e y f = refl
ready_tag_lem R e y f = rw f

pub ready_chunk : (s : Side) (e : Ent) → (readied s e).chunk ≡ e.chunk
ready_chunk L e = refl
ready_chunk R e = refl

pub ready_off : (s : Side) (e : Ent) → (readied s e).off ≡ e.off
ready_off L e = refl
ready_off R e = refl

pub ready_up : (s : Side) (e : Ent) → (readied s e).up ≡ e.up
ready_up L e = refl
ready_up R e = refl

pub ready_this : (s : Side) (e : Ent) → word s (readied s e) ≡ 0
ready_this L e = refl
ready_this R e = refl

pub ready_twin : (s : Side) (e : Ent) → word (other s) (readied s e) ≡ word (other s) e
ready_twin L e = refl
ready_twin R e = refl

-- ---- an entry whose ready side is taken

pub filled_tag : (s : Side) (w : ℕ) (e : Ent) → (filled s w e).tag ≡ 1
filled_tag L w e = refl
filled_tag R w e = refl

pub filled_chunk : (s : Side) (w : ℕ) (e : Ent) → (filled s w e).chunk ≡ e.chunk
filled_chunk L w e = refl
filled_chunk R w e = refl

pub filled_off : (s : Side) (w : ℕ) (e : Ent) → (filled s w e).off ≡ e.off
filled_off L w e = refl
filled_off R w e = refl

pub filled_up : (s : Side) (w : ℕ) (e : Ent) → (filled s w e).up ≡ e.up
filled_up L w e = refl
filled_up R w e = refl

pub filled_this : (s : Side) (w : ℕ) (e : Ent) → word s (filled s w e) ≡ w
filled_this L w e = refl
filled_this R w e = refl

pub filled_twin : (s : Side) (w : ℕ) (e : Ent) → word (other s) (filled s w e) ≡ word (other s) e
filled_twin L w e = refl
filled_twin R w e = refl

-- ---- a split node

module _ (u : ℕ) where
  -- side s of its pair stands for x, the other for y
  abbrev pub NodeBy : (ℕ → ℕ → Ent) → (ℕ → Loan) → ℕ → ℕ → ℕ → ℕ → ℕ → Side → Tree → Tree → Type 0
  NodeBy E K c l o n w s x y =
      Node u E c l o n w (tag_by s x y)
      (Rep u E K c l (base u s o l) (node_of (pair_said w) s) (word s (E l (pair_said w))) x)
      (Rep u E K c l (base u (other s) o l) (node_of (pair_said w) (other s)) (word (other s) (E l (pair_said w))) y)

  pub from_side : (E : ℕ → ℕ → Ent) (K : ℕ → Loan) (c l o n w : ℕ) (s : Side) (x y : Tree) → NodeBy E K c l o n w s x y → Rep u E K c (suc l) o n w (split_by s x y)
  from_side E K c l o n w L x y r = r
  from_side E K c l o n w R x y r = record { is = r.is; tag = r.tag; chunk = r.chunk; off = r.off; up = r.up; only = r.only; this = r.twin; twin = r.this }

  pub to_side : (E : ℕ → ℕ → Ent) (K : ℕ → Loan) (c l o n w : ℕ) (s : Side) (x y : Tree) → Rep u E K c (suc l) o n w (split_by s x y) → NodeBy E K c l o n w s x y
  to_side E K c l o n w L x y r = r
  to_side E K c l o n w R x y r = record { is = r.is; tag = r.tag; chunk = r.chunk; off = r.off; up = r.up; only = r.only; this = r.twin; twin = r.this }

  pub not_free : (E : ℕ → ℕ → Ent) (K : ℕ → Loan) (c l o n w : ℕ) (t : Tree) → Rep u E K c l o n w t → (w ≡ 0 → ⊥) → is_free t ≡ false
  not_free E K c l o n w t r h = ⊎_elim (λ e. absurd (h (rep_free u E K c l o n w t r e).1)) (λ e. e) (told (is_free t))

  pub has_taken : (l o : ℕ) (t : Tree) (y : Piece) → Has u l o t y → is_free t ≡ false
  has_taken l o free y h = absurd h
  has_taken l o (loan k) y h = refl
  has_taken l o (split a b) y h = refl

  -- a tree with a pair in its stretch is not free
  pub occupied : (E : ℕ → ℕ → Ent) (K : ℕ → Loan) (c l o n w i q : ℕ) (t : Tree) → Rep u E K c l o n w t → i < l → 0 < (E i q).tag → Inside u (E i q) c o l → is_free t ≡ false
  occupied E K c l o n w i q free r h g s = absurd (r.1 i q h g s)
  occupied E K c l o n w i q (loan k) r h g s = refl
  occupied E K c l o n w i q (split a b) r h g s = refl
