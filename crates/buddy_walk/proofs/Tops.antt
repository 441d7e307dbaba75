-- What the walk of a chunk, and of the chunks in turn, leaves of a count.
use mathlib.Core.Path.{◌≡◌, refl, sym, ap, ◌∙◌}
use mathlib.Core.Bool.{Bool, true, false, cond, ◌&&◌, ◌||◌, not}
use mathlib.Core.Logic.{◌⊎◌, inl, inr}
use Prim.Native.Nat.{ℕ, zero, suc, ◌+◌, ◌≤◌, ◌<◌}
use native.Mathlib.Omega.{arith}
use lib.Dec.{eqb, leb, ltb}
use lib.ListN.{get_or}
use borrow.Author.Tests.{eqb-true, eq-eqb, ne_eqb, lt-ltb, leb-true}
use Rattle.lists.proofs.Bools.{true_false, and_right, not_no, same?}
use Rattle.words.specs.Words.{cell_of}
use Rattle.rounding_rules.specs.Raising.{level_of}
use Rattle.counter.specs.declared.settings.BuddySettings.{BuddySettings}
use Rattle.slabs.specs.Slab.{nowhere}
use Rattle.slabs.proofs.Steps.{or_no_left}
use Rattle.buddy_trees.specs.Trees.{bytes}
use Rattle.buddy_rules.specs.Nodes.{free_word}
use Rattle.buddy_levels.specs.Seen.{part_settings, loan_part}
use Rattle.buddy_rules.specs.Tables.{Tables, place_words, top_at, chunks_from, place_at, levels_in, chunk_places_in, chunk_size_in, held_in, high_in, top_in, initial_levels}
use Rattle.buddy_rules.specs.Test.{and_then, left_node, left_chunk, left_chunks}
use Rattle.buddy_walk.proofs.Shows.{node_shows}

-- ---- rows of tests, of which the middle ones, or the first and the last, are asked before the others

middle_no : (a b c d e : Bool) → (b && (c && d)) ≡ false → (a && (b && (c && (d && e)))) ≡ false
middle_no false b c d e h = refl
middle_no true false c d e h = refl
middle_no true true false d e h = refl
middle_no true true true false e h = refl
middle_no true true true true e h = absurd (true_false true refl h)

ends_no : (a b c d x : Bool) → (not a || x) ≡ true → (a && (b && (c && (d && not x)))) ≡ false
ends_no false b c d x h = refl
ends_no true b c d false h = absurd (true_false false h refl)
ends_no true false c d true h = refl
ends_no true true false d true h = refl
ends_no true true true false true h = refl
ends_no true true true true true h = refl

all_yes : (a b c d x : Bool) → (b && (c && d)) ≡ true → (not a || x) ≡ false → (a && (b && (c && (d && not x)))) ≡ true
all_yes false b c d x h g = absurd (true_false true refl g)
all_yes true b c d true h g = absurd (true_false true refl g)
all_yes true false c d false h g = absurd (true_false false h refl)
all_yes true true false d false h g = absurd (true_false false h refl)
all_yes true true true false false h g = absurd (true_false false h refl)
all_yes true true true true false h g = refl

-- ---- the chunk at place c, whose size is z; k pairs and loans are still to be met

module _ (s : BuddySettings) (t : Tables) (c k z : ℕ) (used : c < chunk_places_in t) (size : z ≡ chunk_size_in t c) where
  pub chunk_none : z ≡ 0 → k ≡ left_chunk s t c k
  unfolding left_chunk
  chunk_none e = let h : chunk_size_in t c ≡ 0 = sym size ∙ e in rw (lt-ltb c (chunk_places_in t) used, eq-eqb (chunk_size_in t c) 0 h)

  -- h is its level, f that of the initial size
  module _ (some : z ≡ 0 → ⊥) (h f : ℕ) (high : h ≡ level_of z s.minimal) (first : f ≡ initial_levels s) where
    holds : held_in t c ≡ true
    holds = let e : chunk_size_in t c ≡ 0 → ⊥ = λ e. some (size ∙ e) in rw (lt-ltb c (chunk_places_in t) used, ne_eqb (chunk_size_in t c) 0 e)

    high_is : high_in s t c ≡ h
    high_is = rw holds (ap (λ (x : ℕ). level_of x s.minimal) (sym size) ∙ sym high)

    top_is : top_in s t c ≡ get_or t.room (cell_of (place_at s top_at) place_words c) 0
    top_is = rw holds

    abbrev level_ok : Bool
    level_ok = ltb 0 h && (leb f h && leb h (levels_in t))

    -- y is to be its size, w the word of its top node
    abbrev right_ok : ℕ → ℕ → Bool
    right_ok y w = eqb z y && (ltb 0 h && (leb f h && (leb h (levels_in t) && not (eqb w free_word))))

    chunk_is : (w : ℕ) → w ≡ top_in s t c → cond (right_ok (bytes s.minimal h) w) (left_node s t h c 0 nowhere w k) nowhere ≡ left_chunk s t c k
    unfolding left_chunk
    chunk_is w e = rw (e, size, first, sym high_is, holds)

    pub chunk_high : level_ok ≡ false → nowhere ≡ left_chunk s t c k
    chunk_high e =
        sym (ap (λ (b : Bool). cond b (left_node s t h c 0 nowhere (top_in s t c) k) nowhere) (middle_no (eqb z (bytes s.minimal h)) (ltb 0 h) (leb f h) (leb h (levels_in t)) (not (eqb (top_in s t c) free_word)) e))
        ∙ chunk_is (top_in s t c) refl

    -- b is where the chunk places' words begin, w the word of its top node, y the length of a node of its level
    module _ (b w y : ℕ) (from : b ≡ chunks_from s) (top : w ≡ get_or t.room (cell_of (b + (place_words + top_at)) place_words c) 0) (long : y ≡ bytes s.minimal h) where
      word : w ≡ top_in s t c
      word = top ∙ ap (λ (x : ℕ). get_or t.room (cell_of (x + (place_words + top_at)) place_words c) 0) from ∙ sym top_is

      abbrev wrong : Bool
      wrong = not (eqb z y) || eqb w free_word

      row : cond (right_ok y w) (left_node s t h c 0 nowhere w k) nowhere ≡ left_chunk s t c k
      row = ap (λ (x : ℕ). cond (right_ok x w) (left_node s t h c 0 nowhere w k) nowhere) long ∙ chunk_is w word

      pub chunk_off : wrong ≡ true → nowhere ≡ left_chunk s t c k
      chunk_off e =
          sym (ap (λ (b : Bool). cond b (left_node s t h c 0 nowhere w k) nowhere) (ends_no (eqb z y) (ltb 0 h) (leb f h) (leb h (levels_in t)) (eqb w free_word) e)) ∙ row

      pub chunk_walk : (r : ℕ) → level_ok ≡ true → wrong ≡ false
          → r ≡ left_node (part_settings s.minimal s.pairs s.store.loans) (loan_part t.loans t.index t.room) h c 0 nowhere w k → r ≡ left_chunk s t c k
      chunk_walk r e g i =
          i ∙ sym (node_shows s t h c 0 nowhere w k)
          ∙ sym (ap (λ (b : Bool). cond b (left_node s t h c 0 nowhere w k) nowhere) (all_yes (eqb z y) (ltb 0 h) (leb f h) (leb h (levels_in t)) (eqb w free_word) e g)) ∙ row

-- ---- chunks in turn

module _ (s : BuddySettings) (t : Tables) (k : ℕ) where
  pub chunks_none : k ≡ left_chunks s t 0 k
  unfolding left_chunks
  chunks_none = refl

  -- r was left before the chunk at place c
  pub chunks_next : (c r x : ℕ) → r ≡ left_chunks s t c k → (r ≡ nowhere → ⊥) → x ≡ left_chunk s t c r → x ≡ left_chunks s t (c + 1) k
  unfolding left_chunks and_then
  chunks_next c r x e f i =
      let h : c + 1 ≡ suc c = omega arith in
      let g : and_then (left_chunks s t c k) (left_chunk s t c) ≡ left_chunk s t c r = rw (← e, ne_eqb r nowhere f) in
      rw h (i ∙ sym g)

  -- a count that is torn stays so
  pub chunks_torn : (n c : ℕ) → c ≤ n → nowhere ≡ left_chunks s t c k → nowhere ≡ left_chunks s t n k
  unfolding left_chunks and_then
  chunks_torn zero c h e = let i : c ≡ 0 = omega arith in rw i at e
  chunks_torn (suc n) c h e = go (same? c (suc n)) (λ i. chunks_torn n c i e)
    where
      go : (c ≡ suc n) ⊎ (c ≡ suc n → ⊥) → (c ≤ n → nowhere ≡ left_chunks s t n k) → nowhere ≡ left_chunks s t (suc n) k
      go (inl i) f = rw i at e
      go (inr i) f = rw (← f (omega arith))

-- ---- what the calls ask for

pub level_low : (h f m : ℕ) → (ltb 0 h && (leb f h && leb h m)) ≡ true → h ≤ m
level_low h f m e = leb-true h m (and_right (leb f h) _ (and_right (ltb 0 h) _ e))

-- a chunk is as long as its top node
pub chunk_size : (z y : ℕ) (b : Bool) → (not (eqb z y) || b) ≡ false → z ≡ y
chunk_size z y b e = eqb-true z y (not_no (eqb z y) (or_no_left (not (eqb z y)) b e))
