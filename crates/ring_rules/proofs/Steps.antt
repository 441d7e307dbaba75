-- What the code of a ring has done where it returns, and what each turn of its walk shows.
use mathlib.Core.Path.{◌≡◌, sym, ◌∙◌}
use mathlib.Core.Bool.{cond, ◌&&◌}
use mathlib.Core.List.{List}
use Prim.Native.Nat.{ℕ, zero, suc, ◌-◌, ◌≤◌, ◌<◌}
use native.Mathlib.Omega.{arith}
use native.Mathlib.Numerals.{sub-one}
use lib.Dec.{eqb, ltb}
use lib.ListN.{get_or, set}
use borrow.Author.Tests.{eq-eqb, ne_eqb, lt-ltb, le-ltb}
use Rattle.words.specs.Words.{cell_of}
use Rattle.slabs.specs.Slab.{nowhere, record_of}
use Rattle.ring_rules.specs.Ring.{next, prev, head_in_ring, unlinked, linked}
use Rattle.ring_rules.specs.Test.{met_after, ring_length}

module _ (head next_at prev_at step p : ℕ) (t : List ℕ) where
  -- p was alone
  pub unlink_alone : (x : List ℕ) (q : ℕ) → q ≡ prev head next_at prev_at step t p → q ≡ p → x ≡ set t head (record_of nowhere) → x ≡ unlinked head next_at prev_at step p t
  unfolding unlinked
  unlink_alone x q e s f = f ∙ sym (simp (eq-eqb (prev head next_at prev_at step t p) p (sym e ∙ s)))

  -- or one of more
  pub unlink_one : (x y z : List ℕ) (n q : ℕ) → n ≡ next head next_at prev_at step t p → q ≡ prev head next_at prev_at step t p → (q ≡ p → ⊥) → x ≡ set t (cell_of next_at step q) (record_of n) → y ≡ set x (cell_of prev_at step n) (record_of q) → z ≡ set y head (record_of n) → z ≡ unlinked head next_at prev_at step p t
  unfolding unlinked
  unlink_one x y z n q d e o f g h = h ∙ rw (g, f, d, e) (sym (simp (ne_eqb (prev head next_at prev_at step t p) p (λ s. o (e ∙ s)))))

  -- the ring was empty
  pub link_first : (x y z : List ℕ) (h : ℕ) → h ≡ head_in_ring head next_at prev_at step t → h ≡ nowhere → x ≡ set t (cell_of next_at step p) (record_of p) → y ≡ set x (cell_of prev_at step p) (record_of p) → z ≡ set y head (record_of p) → z ≡ linked head next_at prev_at step p t
  unfolding linked
  link_first x y z h d e f g k = k ∙ rw (g, f) (sym (simp (eq-eqb (head_in_ring head next_at prev_at step t) nowhere (sym d ∙ e))))

  -- or was not
  pub link_last : (w x y z : List ℕ) (h q : ℕ) → h ≡ head_in_ring head next_at prev_at step t → (h ≡ nowhere → ⊥) → q ≡ prev head next_at prev_at step t h → w ≡ set t (cell_of prev_at step h) (record_of p) → x ≡ set w (cell_of next_at step q) (record_of p) → y ≡ set x (cell_of next_at step p) (record_of h) → z ≡ set y (cell_of prev_at step p) (record_of q) → z ≡ linked head next_at prev_at step p t
  unfolding linked
  link_last w x y z h q d o e f g k l = l ∙ rw (k, g, f, e, d) (sym (simp (ne_eqb (head_in_ring head next_at prev_at step t) nowhere (λ s. o (d ∙ s)))))

-- the walk, with k steps left from p on; x is the place that p leads to
module _ (next prev : ℕ → ℕ) (n h p k : ℕ) where
  turn : 0 < k → met_after next prev n h p k ≡ cond (ltb (next p) n && eqb (prev (next p)) p) (cond (eqb (next p) h) (n - (k - 1)) (met_after next prev n h (next p) (k - 1))) nowhere
  unfolding met_after
  turn o = by k o
    where
      by : (k : ℕ) → 0 < k → met_after next prev n h p k ≡ cond (ltb (next p) n && eqb (prev (next p)) p) (cond (eqb (next p) h) (n - (k - 1)) (met_after next prev n h (next p) (k - 1))) nowhere
      by zero o = absurd (omega arith)
      by (suc k) o = simp sub-one

  pub met_done : k ≤ 0 → met_after next prev n h p k ≡ nowhere
  unfolding met_after
  met_done o = let z : k ≡ 0 = omega arith in rw z

  module _ (x : ℕ) (e : x ≡ next p) (o : 0 < k) where
    pub met_far : n ≤ x → met_after next prev n h p k ≡ nowhere
    met_far f = turn o ∙ simp (sym e, le-ltb x n f)

    pub met_torn : x < n → (prev x ≡ p → ⊥) → met_after next prev n h p k ≡ nowhere
    met_torn f b = turn o ∙ simp (sym e, lt-ltb x n f, ne_eqb (prev x) p b)

    pub met_back : x < n → prev x ≡ p → x ≡ h → met_after next prev n h p k ≡ n - (k - 1)
    met_back f b c = turn o ∙ simp (sym e, lt-ltb x n f, eq-eqb (prev x) p b, eq-eqb x h c)

    pub met_on : x < n → prev x ≡ p → (x ≡ h → ⊥) → met_after next prev n h p k ≡ met_after next prev n h x (k - 1)
    met_on f b c = turn o ∙ simp (sym e, lt-ltb x n f, eq-eqb (prev x) p b, ne_eqb x h c)

-- the whole test
module _ (head next_at prev_at step n : ℕ) (t : List ℕ) (h : ℕ) (e : h ≡ head_in_ring head next_at prev_at step t) where
  pub length_none : h ≡ nowhere → ring_length head next_at prev_at step n t ≡ 0
  unfolding ring_length
  length_none s = simp (sym e, eq-eqb h nowhere s)

  pub length_far : (h ≡ nowhere → ⊥) → n ≤ h → ring_length head next_at prev_at step n t ≡ nowhere
  unfolding ring_length
  length_far s f = simp (sym e, ne_eqb h nowhere s, le-ltb h n f)

  pub length_walk : (h ≡ nowhere → ⊥) → h < n → ring_length head next_at prev_at step n t ≡ met_after (next head next_at prev_at step t) (prev head next_at prev_at step t) n h h n
  unfolding ring_length
  length_walk s f = simp (sym e, ne_eqb h nowhere s, lt-ltb h n f)
