-- The test of the chains by one place more: what each turn of its loops shows.
use mathlib.Core.Path.{◌≡◌, refl, sym, ◌∙◌}
use mathlib.Core.Bool.{Bool, true, false, cond, ◌&&◌}
use Prim.Native.Nat.{ℕ, zero, suc, ◌+◌, ◌-◌, ◌%◌, ◌≤◌, ◌<◌}
use native.Mathlib.Omega.{arith}
use native.Mathlib.Numerals.{add-one, sub-one}
use lib.Dec.{eqb, ltb, leb}
use borrow.Author.Tests.{lt-ltb, le-ltb, eq-eqb, ne_eqb, ltb-true}
use Rattle.lists.proofs.Bools.{and_left, true_false}
use Rattle.slabs.specs.Slab.{nowhere}
use Rattle.slabs.specs.Test.{vacancies}
use Rattle.book_rules.specs.Chains.{link_ok, left_after, left_of, chains_ok}

module _ (free : ℕ → Bool) (first next serial : ℕ → ℕ) (n places i : ℕ) where
  -- one link, at p
  module _ (most p : ℕ) where
    -- neither the first places nor the next ones are asked
    pub link_alone : (first' next' : ℕ → ℕ) → link_ok free first next serial n places i most p ≡ link_ok free first' next' serial n places i most p
    unfolding link_ok
    link_alone first' next' = refl

    pub link_past : places ≤ p → link_ok free first next serial n places i most p ≡ false
    unfolding link_ok
    link_past h = rw (le-ltb p places h)

    pub link_vacant : p < places → free p ≡ true → link_ok free first next serial n places i most p ≡ false
    unfolding link_ok
    link_vacant h e = rw (lt-ltb p places h, e)

    pub link_used : p < places → free p ≡ false → link_ok free first next serial n places i most p ≡ (ltb 0 (serial p) && (leb (serial p) most && eqb (serial p % n) i))
    unfolding link_ok
    link_used h e = rw (lt-ltb p places h, e)

    -- in the code's words
    pub link_read : (s : ℕ) → p < places → free p ≡ false → s ≡ serial p → (ltb 0 s && (leb s most && eqb (s % n) i)) ≡ link_ok free first next serial n places i most p
    link_read s h e f = rw f (sym (link_used h e))

    -- a link has a serial
    pub link_serial : link_ok free first next serial n places i most p ≡ true → 0 < serial p
    unfolding link_ok
    link_serial e = by (ltb p places) (free p) e
      where
        by : (b d : Bool) → cond b (cond d false (ltb 0 (serial p) && (leb (serial p) most && eqb (serial p % n) i))) false ≡ true → 0 < serial p
        by true true e = absurd (true_false false e refl)
        by true false e = ltb-true 0 (serial p) (and_left _ _ e)
        by false d e = absurd (true_false false e refl)

    -- and is one of the places
    pub link_below : link_ok free first next serial n places i most p ≡ true → p < places
    unfolding link_ok
    link_below e = by (ltb p places) refl e
      where
        by : (b : Bool) → ltb p places ≡ b → cond b (cond (free p) false (ltb 0 (serial p) && (leb (serial p) most && eqb (serial p % n) i))) false ≡ true → p < places
        by true h e = ltb-true p places h
        by false h e = absurd (true_false false e refl)

  -- a chain followed, from p on with k loans left
  module _ (most p k : ℕ) where
    pub after_end : p ≡ nowhere → left_after free first next serial n places i most p k ≡ k
    unfolding left_after
    after_end e = by k
      where
        by : (k : ℕ) → left_after free first next serial n places i most p k ≡ k
        by zero = rw (eq-eqb p nowhere e)
        by (suc k) = rw (eq-eqb p nowhere e)

    pub after_none : (p ≡ nowhere → ⊥) → k ≡ 0 → left_after free first next serial n places i most p k ≡ nowhere
    unfolding left_after
    after_none e z = rw (z, ne_eqb p nowhere e)

    turn : (p ≡ nowhere → ⊥) → 0 < k → left_after free first next serial n places i most p k ≡ cond (link_ok free first next serial n places i most p) (left_after free first next serial n places i (serial p - 1) (next p) (k - 1)) nowhere
    unfolding left_after
    turn e o = by k o
      where
        by : (k : ℕ) → 0 < k → left_after free first next serial n places i most p k ≡ cond (link_ok free first next serial n places i most p) (left_after free first next serial n places i (serial p - 1) (next p) (k - 1)) nowhere
        by zero o = absurd (omega arith)
        by (suc k) o = rw (ne_eqb p nowhere e) (simp sub-one)

    pub after_torn : (p ≡ nowhere → ⊥) → 0 < k → link_ok free first next serial n places i most p ≡ false → left_after free first next serial n places i most p k ≡ nowhere
    after_torn e o t = turn e o ∙ rw t

    pub after_on : (s q : ℕ) → (p ≡ nowhere → ⊥) → 0 < k → link_ok free first next serial n places i most p ≡ true → s ≡ serial p → q ≡ next p
        → left_after free first next serial n places i most p k ≡ left_after free first next serial n places i (s - 1) q (k - 1)
    after_on s q e o t f g = turn e o ∙ rw (t, f, g)

-- the chains followed, one more
module _ (free : ℕ → Bool) (first next serial : ℕ → ℕ) (n places given k : ℕ) where
  pub of_none : left_of free first next serial n places given k 0 ≡ k
  unfolding left_of
  of_none = refl

  pub of_torn : (i : ℕ) → left_of free first next serial n places given k i ≡ nowhere → left_of free first next serial n places given k (i + 1) ≡ nowhere
  unfolding left_of
  of_torn i e = rw (add-one i) (rw (eq-eqb (left_of free first next serial n places given k i) nowhere e))

  pub of_on : (i left h : ℕ) → left ≡ left_of free first next serial n places given k i → (left ≡ nowhere → ⊥) → h ≡ first i
      → left_of free first next serial n places given k (i + 1) ≡ left_after free first next serial n places i given h left
  unfolding left_of
  of_on i left h e f g = rw (add-one i) (rw (← e, ne_eqb left nowhere f, g))

-- there are no more vacant places than places
pub vacancies_most : (free : ℕ → Bool) (k : ℕ) → vacancies free k ≤ k
unfolding vacancies
vacancies_most free zero = omega arith
vacancies_most free (suc k) = by (free k) (vacancies_most free k)
  where
    by : (b : Bool) → vacancies free k ≤ k → cond b (vacancies free k + 1) (vacancies free k) ≤ suc k
    by true h = omega arith
    by false h = omega arith

-- the whole test, in the code's words
pub chains_counted : (free : ℕ → Bool) (first next serial : ℕ → ℕ) (n places given vacant left : ℕ) → vacant ≡ vacancies free places → left ≡ left_of free first next serial n places given (places - vacant) n
    → eqb left 0 ≡ chains_ok free first next serial n places given
unfolding chains_ok
chains_counted free first next serial n places given vacant left e f = rw (f, e)
