-- The walk down a node passes exactly where it sees the words of a tree.
use mathlib.Core.Path.{◌≡◌, refl, sym, ap, ap₂, ◌∙◌}
use mathlib.Core.Bool.{Bool, true, false, cond, ◌&&◌, not}
use mathlib.Core.Logic.{◌⊎◌, inl, inr, ⊎_elim}
use Prim.Native.Nat.{ℕ, zero, suc, ◌+◌, ◌*◌, ◌/◌, ◌%◌, ◌^◌, ◌≤◌, ◌<◌}
use native.Mathlib.Omega.{arith}
use native.Mathlib.Nat.{lt_of_lt_of_le}
use lib.Dec.{eqb}
use lib.Pow.{pow_pos, pow-lt, pow_mono, shl_lt}
use borrow.Author.Tests.{eqb-true, eq-eqb, ne_eqb}
use Rattle.lists.proofs.Bools.{true_false, and_left, and_right, and_both, not_yes, same?}
use Rattle.rounding_rules.specs.Raising.{level_of}
use Rattle.rounding_rules.proofs.Levels.{level_is}
use Rattle.counter.specs.Limits.{levels_most}
use Rattle.counter.specs.InTable.{BuddyIn}
use Rattle.counter.specs.declared.settings.BuddySettings.{BuddySettings}
use Rattle.store_rules.specs.Loans.{size_at}
use Rattle.buddy_trees.specs.Trees.{Tree, free, loan, split, Apart, bytes}
use Rattle.buddy_rules.specs.Nodes.{Ent, Loan, L, R, node_of, pair_said, is_free, tag_of}
use Rattle.buddy_rules.specs.Tables.{Tables, pairs_in, loan_cell, loan_in, live_in}
use Rattle.buddy_rules.specs.Test.{leaf_ok, entry_ok}
use Rattle.buddy_rules.proofs.Looks.{node_ok}
use Rattle.buddy_rules.proofs.Shapes.{LoanAt, Shape}

-- ---- the tree that the words stand for

unfoldable pub tree_of : (ℕ → ℕ → Ent) → ℕ → ℕ → Tree
tree_of E zero w = cond (eqb w 0) free (loan (w / 2))
tree_of E (suc l) w =
    cond (eqb w 0) free
    (cond (eqb (w % 2) 1) (loan (w / 2)) (split (tree_of E l (E l (pair_said w)).left) (tree_of E l (E l (pair_said w)).right)))

module _ (E : ℕ → ℕ → Ent) where
  tree_free : (l w : ℕ) → w ≡ 0 → tree_of E l w ≡ free
  unfolding tree_of
  tree_free zero w e = rw (eq-eqb w 0 e)
  tree_free (suc l) w e = rw (eq-eqb w 0 e)

  tree_loan : (l w : ℕ) → w % 2 ≡ 1 → tree_of E l w ≡ loan (w / 2)
  unfolding tree_of
  tree_loan zero w e = rw (ne_eqb w 0 (λ z. omega arith))
  tree_loan (suc l) w e = rw (ne_eqb w 0 (λ z. omega arith), eq-eqb (w % 2) 1 e)

  tree_split : (l w : ℕ) → (w ≡ 0 → ⊥) → (w % 2 ≡ 1 → ⊥) → tree_of E (suc l) w ≡ split (tree_of E l (E l (pair_said w)).left) (tree_of E l (E l (pair_said w)).right)
  unfolding tree_of
  tree_split l w n m = rw (ne_eqb w 0 n, ne_eqb (w % 2) 1 m)

  -- it is free exactly where the word is 0
  pub tree_word : (l w : ℕ) → is_free (tree_of E l w) ≡ eqb w 0
  unfolding tree_of
  tree_word zero w = go (eqb w 0)
    where
      go : (b : Bool) → is_free (cond b free (loan (w / 2))) ≡ b
      go true = refl
      go false = refl
  tree_word (suc l) w = go (eqb w 0) (eqb (w % 2) 1)
    where
      go : (b d : Bool) → is_free (cond b free (cond d (loan (w / 2)) (split (tree_of E l (E l (pair_said w)).left) (tree_of E l (E l (pair_said w)).right)))) ≡ b
      go true d = refl
      go false true = refl
      go false false = refl

-- whatever tree the words are those of is the one that they stand for
pub shape_tree : (u : ℕ) (E : ℕ → ℕ → Ent) (K : ℕ → Loan) (live : ℕ → Bool) (size : ℕ → ℕ) (c l o n w : ℕ) (t : Tree) → Shape u E K live size c l o n w t → tree_of E l w ≡ t
shape_tree u E K live size c l o n w free r = tree_free E l w r
shape_tree u E K live size c l o n w (loan k) r = let e : w / 2 ≡ k = omega (arith, r.0) in tree_loan E l w (omega (arith, r.0)) ∙ ap loan e
shape_tree u E K live size c zero o n w (split a b) r = absurd r
shape_tree u E K live size c (suc l) o n w (split a b) r =
    tree_split E l w (λ z. omega (arith, r.is)) (λ z. omega (arith, r.is))
    ∙ ap₂ split
    (shape_tree u E K live size c l o (node_of (pair_said w) L) (E l (pair_said w)).left a r.this)
    (shape_tree u E K live size c l (o + bytes u l) (node_of (pair_said w) R) (E l (pair_said w)).right b r.twin)

apart_yes : (a b : Tree) → (is_free a && is_free b) ≡ false → Apart a b
apart_yes free free e = absurd (true_false _ refl e)
apart_yes free (loan k) e = tt
apart_yes free (split c d) e = tt
apart_yes (loan k) b e = tt
apart_yes (split c d) b e = tt

apart_all : (a b : Tree) → Apart a b → (is_free a && is_free b) ≡ false
apart_all free free h = absurd h
apart_all free (loan k) h = refl
apart_all free (split c d) h = refl
apart_all (loan k) b h = refl
apart_all (split c d) b h = refl

-- a word is that of a free node, a loan's or a pair's
word_case : (w : ℕ) → (w ≡ 0) ⊎ ((w % 2 ≡ 1) ⊎ ((w ≡ 0 → ⊥) × (w % 2 ≡ 1 → ⊥)))
word_case w = ⊎_elim (λ e. inl e) (λ n. ⊎_elim (λ e. inr (inl e)) (λ m. inr (inr (n, m))) (same? (w % 2) 1)) (same? w 0)

even : (w : ℕ) → (w ≡ 0 → ⊥) → (w % 2 ≡ 1 → ⊥) → w ≡ 2 * pair_said w + 2
even w n m = omega arith

-- ---- the levels of the walk

module _ (s : BuddySettings) (fit : BuddyIn s) where
  pub minimal_pos : 0 < s.minimal
  minimal_pos = rw fit.minimal.is (pow_pos fit.minimal.log)

  -- a node's length tells its level
  pub level_bytes : (l : ℕ) → l ≤ levels_most → level_of (bytes s.minimal l) s.minimal ≡ l
  unfolding bytes
  level_bytes l h =
      let p = fit.minimal in
      let k : p.log < 17 = omega (arith, p.small) in
      let a : s.minimal < 2 ^ 17 = rw p.is (pow-lt {j = 17} k) in
      let e : 17 + l ≤ 64 = omega arith in
      let d : 2 ^ (17 + l) ≤ 2 ^ 64 = pow_mono {j = 64} e in
      level_is l (record { log = p.log; small = omega (arith, p.small); is = p.is }) (lt_of_lt_of_le (shl_lt 17 l a) d)

module _ (s : BuddySettings) (t : Tables) where
  -- what the walk sees in the tables
  abbrev pub Sees : ℕ → ℕ → ℕ → ℕ → ℕ → Tree → Type 0
  Sees = Shape s.minimal (pairs_in s t) (loan_in s t) (live_in t) (loan_cell t size_at)

  -- ---- one step of the walk

  abbrev Leaf : ℕ → ℕ → ℕ → ℕ → ℕ → Type 0
  Leaf = LoanAt s.minimal (loan_in s t) (live_in t) (loan_cell t size_at)

  leaf_yes : (k c l o n : ℕ) → BuddyIn s → l ≤ levels_most → leaf_ok s t k c l o n ≡ true → Leaf k c l o n
  unfolding leaf_ok
  leaf_yes k c l o n fit h e =
      let e1 = and_right (live_in t k) _ e in
      let e2 = and_right (eqb (loan_in s t k).chunk c) _ e1 in
      let e3 = and_right (eqb (loan_in s t k).at o) _ e2 in
      let x : (loan_in s t k).chunk ≡ c = eqb-true _ _ (and_left (eqb (loan_in s t k).chunk c) _ e1) in
      let y : (loan_in s t k).at ≡ o = eqb-true _ _ (and_left (eqb (loan_in s t k).at o) _ e2) in
      let z : loan_cell t size_at k ≡ bytes s.minimal l = eqb-true _ _ (and_left (eqb (loan_cell t size_at k) (bytes s.minimal l)) _ e3) in
      let v : (loan_in s t k).node ≡ n = eqb-true _ _ (and_right (eqb (loan_cell t size_at k) (bytes s.minimal l)) _ e3) in
      let w : (loan_in s t k).lev ≡ l = ap (λ a. level_of a s.minimal) z ∙ level_bytes s fit l h in
      record { lives = and_left (live_in t k) _ e; is = λ j. record { chunk = x j; at = y j; lev = w j; node = v j }; sized = z }

  leaf_all : (k c l o n : ℕ) → Leaf k c l o n → leaf_ok s t k c l o n ≡ true
  unfolding leaf_ok
  leaf_all k c l o n r =
      and_both _ _ r.lives
      (and_both _ _ (eq-eqb _ _ (ap (λ d. d.chunk) r.is))
      (and_both _ _ (eq-eqb _ _ (ap (λ d. d.at) r.is))
      (and_both _ _ (eq-eqb _ _ r.sized) (eq-eqb _ _ (ap (λ d. d.node) r.is)))))

  record Entry (e : Ent) (c o n : ℕ) : Type 0 where
    pub apart : (eqb e.left 0 && eqb e.right 0) ≡ false
    pub tag : e.tag ≡ tag_of (eqb e.left 0) (eqb e.right 0)
    pub chunk : e.chunk ≡ c
    pub off : e.off ≡ o
    pub up : e.up ≡ n

  entry_yes : (e : Ent) (c o n : ℕ) → entry_ok s t e c o n ≡ true → Entry e c o n
  unfolding entry_ok
  entry_yes e c o n b =
      let one = not (eqb e.left 0 && eqb e.right 0) in
      let two = eqb e.tag (tag_of (eqb e.left 0) (eqb e.right 0)) in
      let b1 = and_right one _ b in
      let b2 = and_right two _ b1 in
      let b3 = and_right (eqb e.chunk c) _ b2 in
      record {
        apart = not_yes (eqb e.left 0 && eqb e.right 0) (and_left one _ b);
        tag = eqb-true _ _ (and_left two _ b1);
        chunk = eqb-true _ _ (and_left (eqb e.chunk c) _ b2);
        off = eqb-true _ _ (and_left (eqb e.off o) _ b3);
        up = eqb-true _ _ (and_right (eqb e.off o) _ b3);
      }

  entry_all : (e : Ent) (c o n : ℕ) → Entry e c o n → entry_ok s t e c o n ≡ true
  unfolding entry_ok
  entry_all e c o n r =
      and_both _ _ (ap not r.apart)
      (and_both _ _ (eq-eqb _ _ r.tag) (and_both _ _ (eq-eqb _ _ r.chunk) (and_both _ _ (eq-eqb _ _ r.off) (eq-eqb _ _ r.up))))

  node_free : (l c o n w : ℕ) → w ≡ 0 → node_ok s t l c o n w ≡ true
  unfolding node_ok
  node_free zero c o n w e = rw (eq-eqb w 0 e)
  node_free (suc l) c o n w e = rw (eq-eqb w 0 e)

  node_loan : (l c o n w : ℕ) → w % 2 ≡ 1 → node_ok s t l c o n w ≡ leaf_ok s t (w / 2) c l o n
  unfolding node_ok
  node_loan zero c o n w e = rw (ne_eqb w 0 (λ z. omega arith), eq-eqb (w % 2) 1 e)
  node_loan (suc l) c o n w e = rw (ne_eqb w 0 (λ z. omega arith), eq-eqb (w % 2) 1 e)

  node_low : (c o n w : ℕ) → (w ≡ 0 → ⊥) → (w % 2 ≡ 1 → ⊥) → node_ok s t zero c o n w ≡ false
  unfolding node_ok
  node_low c o n w f g = rw (ne_eqb w 0 f, ne_eqb (w % 2) 1 g)

  node_split : (l c o n w : ℕ) → (w ≡ 0 → ⊥) → (w % 2 ≡ 1 → ⊥)
      → node_ok s t (suc l) c o n w
      ≡ (entry_ok s t (pairs_in s t l (pair_said w)) c o n
      && (node_ok s t l c o (node_of (pair_said w) L) (pairs_in s t l (pair_said w)).left
      && node_ok s t l c (o + bytes s.minimal l) (node_of (pair_said w) R) (pairs_in s t l (pair_said w)).right))
  unfolding node_ok
  node_split l c o n w f g = rw (ne_eqb w 0 f, ne_eqb (w % 2) 1 g)

  -- ---- the walk

  -- the tree of node n's word, where the walk passes it
  abbrev Passes : ℕ → ℕ → ℕ → ℕ → ℕ → Type 0
  Passes l c o n w = node_ok s t l c o n w ≡ true → Sees c l o n w (tree_of (pairs_in s t) l w)

  pass_free : (l c o n w : ℕ) → w ≡ 0 → Sees c l o n w (tree_of (pairs_in s t) l w)
  pass_free l c o n w e = rw (tree_free (pairs_in s t) l w e) e

  pass_loan : (l c o n w : ℕ) → BuddyIn s → l ≤ levels_most → w % 2 ≡ 1 → Passes l c o n w
  pass_loan l c o n w fit h e b =
      rw (tree_loan (pairs_in s t) l w e) (omega arith, leaf_yes (w / 2) c l o n fit h (sym (node_loan l c o n w e) ∙ b))

  pass_split : (l c o n w : ℕ) → (w ≡ 0 → ⊥) → (w % 2 ≡ 1 → ⊥)
      → Passes l c o (node_of (pair_said w) L) (pairs_in s t l (pair_said w)).left
      → Passes l c (o + bytes s.minimal l) (node_of (pair_said w) R) (pairs_in s t l (pair_said w)).right → Passes (suc l) c o n w
  pass_split l c o n w f g this twin b =
      let e = pairs_in s t l (pair_said w) in
      let x = tree_of (pairs_in s t) l e.left in
      let y = tree_of (pairs_in s t) l e.right in
      let b0 = sym (node_split l c o n w f g) ∙ b in
      let b1 = and_right (entry_ok s t e c o n) _ b0 in
      let r = entry_yes e c o n (and_left (entry_ok s t e c o n) _ b0) in
      let fx : is_free x ≡ eqb e.left 0 = tree_word (pairs_in s t) l e.left in
      let fy : is_free y ≡ eqb e.right 0 = tree_word (pairs_in s t) l e.right in
      let p = node_ok s t l c o (node_of (pair_said w) L) e.left in
      rw (tree_split (pairs_in s t) l w f g) (record {
        is = even w f g;
        apart = apart_yes x y (ap₂ ◌&&◌ fx fy ∙ r.apart);
        tag = r.tag ∙ ap₂ tag_of (sym fx) (sym fy);
        chunk = r.chunk;
        off = r.off;
        up = r.up;
        this = this (and_left p _ b1);
        twin = twin (and_right p _ b1);
      })

  pub walk_yes : (l c o n w : ℕ) → BuddyIn s → l ≤ levels_most → node_ok s t l c o n w ≡ true → Sees c l o n w (tree_of (pairs_in s t) l w)
  walk_yes zero c o n w fit h b =
      ⊎_elim (pass_free zero c o n w) (⊎_elim (λ e. pass_loan zero c o n w fit h e b) (λ z. absurd (true_false _ b (node_low c o n w z.0 z.1)))) (word_case w)
  walk_yes (suc l) c o n w fit h b =
      go (word_case w)
      (walk_yes l c o (node_of (pair_said w) L) (pairs_in s t l (pair_said w)).left fit (omega arith))
      (walk_yes l c (o + bytes s.minimal l) (node_of (pair_said w) R) (pairs_in s t l (pair_said w)).right fit (omega arith))
    where
      go : (w ≡ 0) ⊎ ((w % 2 ≡ 1) ⊎ ((w ≡ 0 → ⊥) × (w % 2 ≡ 1 → ⊥)))
          → Passes l c o (node_of (pair_said w) L) (pairs_in s t l (pair_said w)).left
          → Passes l c (o + bytes s.minimal l) (node_of (pair_said w) R) (pairs_in s t l (pair_said w)).right
          → Sees c (suc l) o n w (tree_of (pairs_in s t) (suc l) w)
      go (inl e) f g = pass_free (suc l) c o n w e
      go (inr (inl e)) f g = pass_loan (suc l) c o n w fit h e b
      go (inr (inr z)) f g = pass_split l c o n w z.0 z.1 f g b

  -- and it passes any tree's words: a tree is free exactly where its word is 0
  sees_word : (l c o n w : ℕ) (r : Tree) → Sees c l o n w r → is_free r ≡ eqb w 0
  sees_word l c o n w free h = sym (eq-eqb w 0 h)
  sees_word l c o n w (loan k) h = sym (ne_eqb w 0 (λ e. omega (arith, h.0)))
  sees_word zero c o n w (split a b) h = absurd h
  sees_word (suc l) c o n w (split a b) h = sym (ne_eqb w 0 (λ e. omega (arith, h.is)))

  pub walk_all : (l c o n w : ℕ) (r : Tree) → Sees c l o n w r → node_ok s t l c o n w ≡ true
  walk_all l c o n w free h = node_free l c o n w h
  walk_all l c o n w (loan k) h =
      let e : w % 2 ≡ 1 = omega (arith, h.0) in
      let i : w / 2 ≡ k = omega (arith, h.0) in
      node_loan l c o n w e ∙ rw i (leaf_all k c l o n h.1)
  walk_all zero c o n w (split a b) h = absurd h
  walk_all (suc l) c o n w (split a b) h =
      let e = pairs_in s t l (pair_said w) in
      let m = o + bytes s.minimal l in
      let fa : is_free a ≡ eqb e.left 0 = sees_word l c o (node_of (pair_said w) L) e.left a h.this in
      let fb : is_free b ≡ eqb e.right 0 = sees_word l c m (node_of (pair_said w) R) e.right b h.twin in
      node_split l c o n w (λ z. omega (arith, h.is)) (λ z. omega (arith, h.is))
      ∙ and_both _ _
      (entry_all e c o n (record {
        apart = ap₂ ◌&&◌ (sym fa) (sym fb) ∙ apart_all a b h.apart;
        tag = h.tag ∙ ap₂ tag_of fa fb;
        chunk = h.chunk;
        off = h.off;
        up = h.up;
      }))
      (and_both _ _ (walk_all l c o (node_of (pair_said w) L) e.left a h.this) (walk_all l c m (node_of (pair_said w) R) e.right b h.twin))
