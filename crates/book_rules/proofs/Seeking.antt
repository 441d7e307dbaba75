-- A loan looked for by its serial, one place of its chain after the other.
use mathlib.Core.Path.{◌≡◌, refl, ◌∙◌}
use mathlib.Core.Bool.{cond}
use mathlib.Core.List.{List}
use Prim.Native.Nat.{ℕ, zero, suc, ◌-◌, ◌%◌, ◌≤◌, ◌<◌}
use native.Mathlib.Omega.{arith}
use native.Mathlib.Numerals.{sub-one}
use lib.Dec.{eqb, ltb}
use borrow.Author.Tests.{lt-ltb, le-ltb, eq-eqb, ne_eqb}
use Rattle.slabs.specs.Slab.{nowhere}
use Rattle.book_rules.specs.Book.{first_of, next_of, led_to, serial_of, seek_in, word_to}

-- from the word at `at` on, which leads to p, with k places to go
module _ (loans index : List ℕ) (places serial at k p : ℕ) (leads : p ≡ led_to index at) where
  turn : 0 < k → seek_in loans index places serial at k ≡ cond (ltb p places) (cond (eqb (serial_of loans p) serial) at (seek_in loans index places serial (next_of p) (k - 1))) nowhere
  unfolding seek_in
  turn o = rw leads (by k o)
    where
      by : (k : ℕ) → 0 < k → seek_in loans index places serial at k ≡ cond (ltb (led_to index at) places) (cond (eqb (serial_of loans (led_to index at)) serial) at (seek_in loans index places serial (next_of (led_to index at)) (k - 1))) nowhere
      by zero o = absurd (omega arith)
      by (suc k) o = simp sub-one

  pub seek_past : 0 < k → places ≤ p → seek_in loans index places serial at k ≡ nowhere
  seek_past o h = turn o ∙ simp (le-ltb p places h)

  pub seek_here : 0 < k → p < places → serial_of loans p ≡ serial → seek_in loans index places serial at k ≡ at
  seek_here o h e = turn o ∙ simp (lt-ltb p places h, eq-eqb (serial_of loans p) serial e)

  pub seek_on : 0 < k → p < places → (serial_of loans p ≡ serial → ⊥) → seek_in loans index places serial at k ≡ seek_in loans index places serial (next_of p) (k - 1)
  seek_on o h e = turn o ∙ simp (lt-ltb p places h, ne_eqb (serial_of loans p) serial e)

pub seek_none : (loans index : List ℕ) (places serial at k : ℕ) → k ≤ 0 → seek_in loans index places serial at k ≡ nowhere
unfolding seek_in
seek_none loans index places serial at k h = let z : k ≡ 0 = omega arith in rw z refl

-- a serial is looked for in its chain
pub word_is : (loans index : List ℕ) (n places serial : ℕ) → word_to loans index n places serial ≡ seek_in loans index places serial (first_of (serial % n)) places
unfolding word_to
word_is loans index n places serial = refl
