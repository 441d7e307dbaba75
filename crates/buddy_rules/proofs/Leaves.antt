-- The leaves of a tree: it has one more than pairs, and each is a loan or the free side of a ready pair.
use mathlib.Core.Path.{◌≡◌, refl, ap, ◌∙◌}
use mathlib.Core.Bool.{Bool, cond}
use Prim.Native.Nat.{ℕ, zero, suc, ◌+◌, ◌*◌, ◌-◌, ◌/◌, ◌%◌, ◌<◌}
use native.Mathlib.Omega.{arith}
use lib.Dec.{eqb, ltb}
use borrow.Author.Tests.{ne_eqb}
use Rattle.buddy_trees.specs.Trees.{Tree, free, loan, split, Apart, bytes}
use Rattle.buddy_rules.specs.Nodes.{Ent, Loan, exhausted, pair_said, is_free, tag_of}
use Rattle.buddy_rules.proofs.Shapes.{Shape}
use Rattle.buddy_rules.proofs.CountDown.{met}
use Rattle.buddy_rules.proofs.Items.{item, items, item_kind, item_place}
use Rattle.buddy_rules.proofs.Totals.{weight, weight_append}

-- one where the test holds
abbrev pub one : Bool → ℕ
one b = cond b 1 0

module _ (E : ℕ → ℕ → Ent) where
  -- a loan weighs 2, itself and a leaf; a pair 1 where a leaf of it is free: so a tree weighs one more than it has of both
  unfoldable pub leafs : ℕ → ℕ
  leafs x = cond (eqb (x % 64) 0) 2 (one (ltb exhausted (E (x % 64 - 1) (x / 64)).tag))

  pub loan_leafs : (k : ℕ) → leafs (item 0 k) ≡ 2
  unfolding leafs
  loan_leafs k = rw (item_kind 0 k (omega arith)) refl

  pub pair_leafs : (l p : ℕ) → l < 63 → leafs (item (suc l) p) ≡ one (ltb exhausted (E l p).tag)
  unfolding leafs
  pair_leafs l p h =
      let e : suc l - 1 ≡ l = omega arith in
      rw (item_kind (suc l) p (omega arith), item_place (suc l) p (omega arith), ne_eqb (suc l) 0 (λ z. omega arith), e) refl

  -- a pair is ready where one side is free
  sides : (a b : Tree) → Apart a b → one (ltb exhausted (tag_of (is_free a) (is_free b))) ≡ one (is_free a) + one (is_free b)
  sides free free h = absurd h
  sides free (loan k) h = refl
  sides free (split c d) h = refl
  sides (loan k) free h = refl
  sides (loan k) (loan j) h = refl
  sides (loan k) (split c d) h = refl
  sides (split c d) free h = refl
  sides (split c d) (loan k) h = refl
  sides (split c d) (split e f) h = refl

  module _ (K : ℕ → Loan) (u : ℕ) (live : ℕ → Bool) (size : ℕ → ℕ) where
    pub tree_leafs : (c l o n w : ℕ) (t : Tree) → l < 64 → Shape u E K live size c l o n w t → weight leafs (items E l w t) + one (is_free t) ≡ met t + 1
    tree_leafs c l o n w free h r = refl
    tree_leafs c l o n w (loan k) h r = omega (arith, loan_leafs k)
    tree_leafs c zero o n w (split a b) h r = absurd r
    tree_leafs c (suc l) o n w (split a b) h r =
        let v = (E l (pair_said w)).left in
        let y = (E l (pair_said w)).right in
        let own : leafs (item (suc l) (pair_said w)) ≡ one (is_free a) + one (is_free b) =
        pair_leafs l (pair_said w) (omega arith) ∙ ap (λ (i : ℕ). one (ltb exhausted i)) r.tag ∙ sides a b r.apart in
        omega (
          arith,
          own,
          weight_append leafs (items E l v a) (items E l y b),
          tree_leafs c l o (2 * pair_said w) v a (omega arith) r.this,
          tree_leafs c l (o + bytes u l) (2 * pair_said w + 1) y b (omega arith) r.twin,
        )
