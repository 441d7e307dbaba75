-- What the walk down a chunk leaves of a count at each turn.
use mathlib.Core.Path.{◌≡◌, refl, sym, ap, ◌∙◌}
use mathlib.Core.List.{List, []}
use mathlib.Core.Bool.{Bool, true, false, cond, ◌&&◌, not}
use Prim.Native.Nat.{ℕ, zero, suc, ◌+◌, ◌-◌, ◌/◌, ◌%◌, ◌≤◌, ◌<◌}
use native.Mathlib.Omega.{arith}
use lib.Dec.{eqb, ltb}
use lib.ListN.{length, get_or}
use borrow.Author.Tests.{eqb-true, eqb-false, eq-eqb, ne_eqb, ltb-true, lt-ltb, le-ltb}
use Rattle.lists.proofs.Bools.{true_false, and_left}
use Rattle.counter.specs.declared.settings.BuddySettings.{BuddySettings}
use Rattle.slabs.specs.Slab.{nowhere}
use Rattle.store_rules.specs.Loans.{chunk_at, offset_at, size_at}
use Rattle.buddy_trees.specs.Trees.{bytes}
use Rattle.buddy_trees.proofs.Bytes.{bytes_suc, bytes_pos}
use Rattle.buddy_rules.specs.Nodes.{free_word, says_loan, loan_said, pair_said, exhausted, left_ready, right_ready, Ent, L, R, node_of, tag_of}
use Rattle.buddy_rules.specs.Level.{used_at, level_words, level_start, pair_in, no_pair}
use Rattle.buddy_levels.proofs.Reading.{pair_unused}
use Rattle.buddy_levels.specs.Seen.{part_settings, loan_part}
use Rattle.buddy_rules.specs.Tables.{Tables, places_in, level_from, pairs_in, nodes_from, loan_cell}
use Rattle.buddy_rules.specs.Test.{leaf_ok, entry_ok, and_then, left_node}
use Rattle.buddy_walk.specs.Walks.{Within, left_leaf, left_pair}
use Rattle.buddy_walk.proofs.Shows.{entry_shows}

none : (b : Bool) (x : ℕ) → cond (b && false) x nowhere ≡ nowhere
none true x = refl
none false x = refl

-- of a row the first test holds, and the second where the fifth does
dropped : (p q a b d e : Bool) → p ≡ true → (d ≡ true → q ≡ true) → ((a && (b && d)) && e) ≡ ((p && q) && (a && (b && (d && e))))
dropped false q a b d e h f = absurd (true_false false h refl)
dropped true true false b d e h f = refl
dropped true true true false d e h f = refl
dropped true true true true d e h f = refl
dropped true false false b d e h f = refl
dropped true false true false d e h f = refl
dropped true false true true false e h f = refl
dropped true false true true true e h f = absurd (true_false false (f refl) refl)

-- ---- the tag

pub tag_left : (l r : ℕ) → l ≡ free_word → left_ready ≡ tag_of (eqb l free_word) (eqb r free_word)
tag_left l r e = rw (eq-eqb l free_word e)

pub tag_right : (l r : ℕ) → (l ≡ free_word → ⊥) → r ≡ free_word → right_ready ≡ tag_of (eqb l free_word) (eqb r free_word)
tag_right l r f e = rw (ne_eqb l free_word f, eq-eqb r free_word e)

pub tag_none : (l r : ℕ) → (l ≡ free_word → ⊥) → (r ≡ free_word → ⊥) → exhausted ≡ tag_of (eqb l free_word) (eqb r free_word)
tag_none l r f g = rw (ne_eqb l free_word f, ne_eqb r free_word g)

module _ (s : BuddySettings) (t : Tables) where
  -- ---- an entry

  pub entry_is : (e : Ent) (c o n g : ℕ) → g ≡ tag_of (eqb e.left free_word) (eqb e.right free_word)
      → (not (eqb e.left free_word && eqb e.right free_word) && (eqb e.tag g && (eqb e.chunk c && (eqb e.off o && eqb e.up n)))) ≡ entry_ok s t e c o n
  unfolding entry_ok
  entry_is e c o n g h = rw h

  -- ---- a loan

  pub loan_past : (q c l o n k : ℕ) → places_in t ≤ q → nowhere ≡ left_leaf s t q c l o n k
  unfolding left_leaf leaf_ok
  loan_past q c l o n k h = rw (le-ltb q (places_in t) h) (sym (none (ltb 0 k) (k - 1)))

  -- its size z is no vacant place's, and its node stands at i of the index
  module _ (q c l o n k z i : ℕ) (some : 0 < s.minimal) (long : z ≡ bytes s.minimal l) (used : q < places_in t) (at : i ≡ nodes_from s + (q + 1)) where
    abbrev stands : Bool
    stands = (eqb (loan_cell t chunk_at q) c && (eqb (loan_cell t offset_at q) o && eqb (loan_cell t size_at q) z)) && eqb (get_or t.index i 0) n

    lent : eqb (loan_cell t size_at q) z ≡ true → not (eqb (loan_cell t size_at q) 0) ≡ true
    lent e = rw (ne_eqb (loan_cell t size_at q) 0 (λ y. omega (arith, eqb-true (loan_cell t size_at q) z e, long, bytes_pos s.minimal l some)))

    leaf_is : stands ≡ leaf_ok s t q c l o n
    unfolding leaf_ok
    leaf_is =
        rw (← long, ← at)
        (dropped (ltb q (places_in t)) (not (eqb (loan_cell t size_at q) 0)) (eqb (loan_cell t chunk_at q) c) (eqb (loan_cell t offset_at q) o) (eqb (loan_cell t size_at q) z) (eqb (get_or t.index i 0) n)
        (lt-ltb q (places_in t) used) lent)

    pub loan_met : (ltb 0 k && stands) ≡ true → k - 1 ≡ left_leaf s t q c l o n k
    unfolding left_leaf
    loan_met e = sym (ap (λ (b : Bool). cond (ltb 0 k && b) (k - 1) nowhere) (sym leaf_is) ∙ ap (λ (b : Bool). cond b (k - 1) nowhere) e)

    pub loan_lost : (ltb 0 k && stands) ≡ false → nowhere ≡ left_leaf s t q c l o n k
    unfolding left_leaf
    loan_lost e = sym (ap (λ (b : Bool). cond (ltb 0 k && b) (k - 1) nowhere) (sym leaf_is) ∙ ap (λ (b : Bool). cond b (k - 1) nowhere) e)

  -- ---- a node

  pub node_free : (l c o n w k : ℕ) → w ≡ free_word → k ≡ left_node s t l c o n w k
  unfolding left_node
  node_free zero c o n w k e = rw (eq-eqb w free_word e)
  node_free (suc l) c o n w k e = rw (eq-eqb w free_word e)

  -- its word w says something: q that it is a loan, and which
  module _ (c o n w k : ℕ) (some : w ≡ free_word → ⊥) (q : Bool) (says : q ≡ says_loan w) where
    told : (x : Bool) → q ≡ x → says_loan w ≡ x
    told x e = sym says ∙ e

    pub node_loan : (l m r : ℕ) → q ≡ true → m ≡ loan_said w → r ≡ left_leaf s t m c l o n k → r ≡ left_node s t l c o n w k
    unfolding left_node left_leaf
    node_loan zero m r e j h = rw (ne_eqb w free_word some, told true e, ← j) h
    node_loan (suc l) m r e j h = rw (ne_eqb w free_word some, told true e, ← j) h

    pub node_low : (l : ℕ) → q ≡ false → l ≡ 0 → nowhere ≡ left_node s t l c o n w k
    unfolding left_node
    node_low zero g e = rw (ne_eqb w free_word some, told false g)
    node_low (suc l) g e = absurd (omega arith)

    pub node_split : (l p r : ℕ) → q ≡ false → (l ≡ 0 → ⊥) → p ≡ pair_said w → r ≡ left_pair s t (l - 1) c o n p k → r ≡ left_node s t l c o n w k
    unfolding left_node left_pair
    node_split zero p r g h i e = absurd (h refl)
    node_split (suc l) p r g h i e =
        let j : l ≡ suc l - 1 = omega arith in
        rw (j, ne_eqb w free_word some, told false g) (e ∙ ap (λ (x : ℕ). left_pair s t (suc l - 1) c o n x k) i)

  -- ---- a pair whose place was never used

  pub pair_past : (l c o n p k b u : ℕ) → b ≡ level_from s l → u ≡ get_or t.room (b + used_at) 0 → u ≤ p → nowhere ≡ left_pair s t l c o n p k
  unfolding left_pair entry_ok
  pair_past l c o n p k b u from is h =
      let e : pairs_in s t l p ≡ no_pair = ap (λ (x : ℕ). pair_in x t.room p) (sym from) ∙ pair_unused b p t.room u is h in
      rw e (sym (none (ltb 0 k) _))

  -- ---- a pair, whose level begins at b and whose entry is e; r is what the entry's test says, which reads only the entry

  module _ (l c o n p k b : ℕ) (e : Ent) (r : Bool) (from : b ≡ level_from s l) (is : e ≡ pair_in b t.room p) (tested : r ≡ entry_ok (part_settings 0 0 0) (loan_part [] [] []) e c o n) where
    abbrev left_half : ℕ
    left_half = left_node s t l c o (node_of p L) e.left (k - 1)

    abbrev right_half : ℕ → ℕ
    right_half = left_node s t l c (o + bytes s.minimal l) (node_of p R) e.right

    pair_of : cond (ltb 0 k && r) (and_then left_half right_half) nowhere ≡ left_pair s t l c o n p k
    unfolding left_pair
    pair_of =
        ap (λ (z : Bool). cond (ltb 0 k && z) (and_then left_half right_half) nowhere) (tested ∙ entry_shows (part_settings 0 0 0) (loan_part [] [] []) s t e c o n)
        ∙ ap (λ (z : Ent). cond (ltb 0 k && entry_ok s t z c o n)
        (and_then (left_node s t l c o (node_of p L) z.left (k - 1)) (left_node s t l c (o + bytes s.minimal l) (node_of p R) z.right)) nowhere)
        (is ∙ ap (λ (z : ℕ). pair_in z t.room p) from)

    pub pair_lost : (ltb 0 k && r) ≡ false → nowhere ≡ left_pair s t l c o n p k
    pair_lost h = let g : cond (ltb 0 k && r) (and_then left_half right_half) nowhere ≡ nowhere = rw h in sym g ∙ pair_of

    -- a is its left node, and x what the walk of it leaves
    module _ (a x : ℕ) (yes : (ltb 0 k && r) ≡ true) (left : a ≡ node_of p L) (went : x ≡ left_node s t l c o a e.left (k - 1)) where
      then_is : and_then x right_half ≡ left_pair s t l c o n p k
      then_is =
          let g : cond (ltb 0 k && r) (and_then left_half right_half) nowhere ≡ and_then left_half right_half = rw yes in
          ap (λ (z : ℕ). and_then z right_half) (went ∙ ap (λ (z : ℕ). left_node s t l c o z e.left (k - 1)) left) ∙ sym g ∙ pair_of

      pub pair_left : x ≡ nowhere → nowhere ≡ left_pair s t l c o n p k
      unfolding and_then
      pair_left j = let g : and_then x right_half ≡ nowhere = rw (eq-eqb x nowhere j) in sym g ∙ then_is

      pub pair_right : (b z y : ℕ) → (x ≡ nowhere → ⊥) → b ≡ node_of p R → z ≡ bytes s.minimal l → y ≡ left_node s t l c (o + z) b e.right x
          → y ≡ left_pair s t l c o n p k
      unfolding and_then
      pair_right b z y j i m h =
          let g : and_then x right_half ≡ right_half x = rw (ne_eqb x nowhere j) in
          h ∙ (λ v. left_node s t l c (o + m v) (i v) e.right x) ∙ sym g ∙ then_is

-- where one can be counted, one is left
pub some_left : (k : ℕ) (r : Bool) → (ltb 0 k && r) ≡ true → 0 < k
some_left k r e = ltb-true 0 k (and_left (ltb 0 k) r e)

-- the word of a split node is no small one
pub split_some : (w : ℕ) (q : Bool) → (w ≡ free_word → ⊥) → q ≡ says_loan w → q ≡ false → 1 < w
split_some w q some says e = let f = eqb-false (w % 2) 1 (sym says ∙ e) in omega arith

-- half a node is a node of the level below
pub half_size : (u l z : ℕ) → (l ≡ 0 → ⊥) → z ≡ bytes u l → z / 2 ≡ bytes u (l - 1)
half_size u zero z f h = absurd (f refl)
half_size u (suc l) z f h = let e : suc l - 1 ≡ l = omega arith in rw e (omega (arith, h, bytes_suc u l))

-- the words of a level that begins at b
pub level_there : (l k p m b : ℕ) (loans index tree : List ℕ) → b ≡ level_start p l → l < k → Within k p m loans index tree → b + level_words (get_or tree (b + used_at) 0) ≤ length tree
level_there l k p m b loans index tree e h w = rw e (w.pairs_there l h)
