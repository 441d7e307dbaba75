-- The test of a slab by one place more: what each turn of its loops shows.
use Rattle.std.proofs.Common.{◌≡◌, ℕ, zero, suc, ◌+◌, ◌-◌, ◌<◌, ◌≤◌, Bool, true, false, cond, ◌&&◌, ◌||◌, eqb, ltb, refl, ◌∙◌, add-one, arith, le-ltb, lt-ltb, eq-eqb, ne_eqb, le-leb}
use borrow.Author.Tests.{lt-leb}
use Rattle.lists.proofs.Bools.{true_false}
use Rattle.slabs.specs.declared.Slab.{Slab}
use Rattle.slabs.specs.Slab.{nowhere}
use Rattle.slabs.specs.Test.{vacancies, leads, parted_ok, off_chain}

-- the count
module _ (free : ℕ → Bool) where
  pub vacancies_none : vacancies free 0 ≡ 0
  unfolding vacancies
  vacancies_none = refl

  pub vacancies_more : (k : ℕ) → free k ≡ true → vacancies free (k + 1) ≡ vacancies free k + 1
  unfolding vacancies
  vacancies_more k e = rw (add-one k) (simp e)

  pub vacancies_same : (k : ℕ) → free k ≡ false → vacancies free (k + 1) ≡ vacancies free k
  unfolding vacancies
  vacancies_same k e = rw (add-one k) (simp e)

-- the walk along the chain, with k places to go from h
module _ (free : ℕ → Bool) (next : ℕ → ℕ) (n h k : ℕ) where
  turn : (j : ℕ) → k ≡ j + 1 → leads free next n h k ≡ (ltb h n && (free h && leads free next n (next h) j))
  unfolding leads
  turn j e = rw (e, add-one) refl

  pub leads_far : 0 < k → n ≤ h → leads free next n h k ≡ false
  leads_far o f = turn (k - 1) (omega arith) ∙ simp (le-ltb h n f)

  pub leads_used : 0 < k → h < n → free h ≡ false → leads free next n h k ≡ false
  leads_used o f e = turn (k - 1) (omega arith) ∙ simp (lt-ltb h n f, e)

  -- j are to go from the next
  pub leads_on : (x j : ℕ) → k ≡ j + 1 → h < n → free h ≡ true → x ≡ next h → leads free next n h k ≡ leads free next n x j
  leads_on x j o f e q = turn j o ∙ simp (lt-ltb h n f, e, q)

  pub leads_done : k ≤ 0 → leads free next n h k ≡ eqb h nowhere
  unfolding leads
  leads_done o = let z : k ≡ 0 = omega arith in rw z refl

-- the whole test
module _ (free : ℕ → Bool) (next : ℕ → ℕ) (s : Slab) (most : ℕ) where
  pub parted_within : (k : ℕ) (r : Bool) → s.places ≤ most → k ≡ vacancies free s.places → r ≡ leads free next s.places s.vacant k → r ≡ parted_ok free next s most
  unfolding parted_ok
  parted_within k r h e f = rw (f, e, le-leb s.places most h)

  pub parted_over : most < s.places → parted_ok free next s most ≡ false
  unfolding parted_ok
  parted_over h = rw (lt-leb s.places most h)

-- neither of two tests holds
pub or_no_left : (a b : Bool) → (a || b) ≡ false → a ≡ false
or_no_left true b e = e
or_no_left false b e = refl

pub or_no_right : (a b : Bool) → (a || b) ≡ false → b ≡ false
or_no_right true b e = absurd (true_false true refl e)
or_no_right false b e = e

-- the chain followed from h on, with k places not yet met
module _ (free : ℕ → Bool) (next : ℕ → ℕ) (n h k : ℕ) where
  pub off_done : h ≡ nowhere → off_chain free next n h k ≡ k
  unfolding off_chain
  off_done e = by k
    where
      by : (k : ℕ) → off_chain free next n h k ≡ k
      by zero = rw (eq-eqb h nowhere e)
      by (suc k) = rw (eq-eqb h nowhere e)

  -- it leads on
  module _ (some : h ≡ nowhere → ⊥) where
    step : (j : ℕ) → k ≡ j + 1 → off_chain free next n h k ≡ cond (ltb h n && free h) (off_chain free next n (next h) j) nowhere
    unfolding off_chain
    step j e = rw (e, add-one, ne_eqb h nowhere some) refl

    -- to more than are left
    pub off_over : k ≤ 0 → off_chain free next n h k ≡ nowhere
    unfolding off_chain
    off_over o = let z : k ≡ 0 = omega arith in rw (z, ne_eqb h nowhere some)

    -- past the places
    pub off_past : 0 < k → n ≤ h → off_chain free next n h k ≡ nowhere
    off_past o f = step (k - 1) (omega arith) ∙ simp (le-ltb h n f)

    -- to one that is used
    pub off_used : 0 < k → h < n → free h ≡ false → off_chain free next n h k ≡ nowhere
    off_used o f e = step (k - 1) (omega arith) ∙ simp (lt-ltb h n f, e)

    -- to a vacant one
    pub off_on : (x j : ℕ) → k ≡ j + 1 → h < n → free h ≡ true → x ≡ next h → off_chain free next n h k ≡ off_chain free next n x j
    off_on x j o f e q = step j o ∙ simp (lt-ltb h n f, e, q)
