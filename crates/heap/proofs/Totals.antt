-- A number of two words, and one word added to it.
use Rattle.std.proofs.Common.{◌≡◌, ℕ, ◌+◌, ◌-◌, ◌*◌, ◌/◌, ◌%◌, ◌^◌, ◌<◌, ◌≤◌, Bool, true, false, ◌&&◌, ◌||◌, eqb, ltb, leb, sym, refl, ap, ◌∙◌, ⊎_elim, suc-mul, add-one, arith, ltb-true, lt-ltb, eq-eqb, eqb-true, le-leb, leb-true}
use lib.Arith.{digits_lt}
use lib.Pow.{high, low, recompose}
use Rattle.lists.proofs.Bools.{and_left, and_right, and_both, or_cases, or_left, or_right, same_test, lt_or_le}
use Rattle.counter.specs.Account.{value}
use Rattle.counter.specs.declared.account.Total.{Total}
use Rattle.std.specs.Bool.{FalseIff}
use Rattle.std.specs.Int.{from_bool}
use Rattle.heap.specs.Heap.{plus_of}

-- the words of a sum whose high word x and low word r are known
low_word : (k s x r : ℕ) → r < 2 ^ k → s ≡ x * 2 ^ k + r → r ≡ s % 2 ^ k
low_word k s x r h e = sym (rw e (low x k h))

high_word : (k s x r : ℕ) → r < 2 ^ k → s ≡ x * 2 ^ k + r → x ≡ s / 2 ^ k
high_word k s x r h e = sym (rw e (high x k h))

-- the low word r and the carry of a sum of two words
pub carry : (lo b r : ℕ) (o : Bool) → lo < 2 ^ 64 → b < 2 ^ 64 → r ≡ (lo + b) % 2 ^ 64 → FalseIff o (lo + b < 2 ^ 64) → lo + b ≡ from_bool o * 2 ^ 64 + r
carry lo b r true p q e f = let h : 2 ^ 64 ≤ lo + b = omega (arith, f) in omega arith
carry lo b r false p q e f = omega arith

pub carried : (hi lo b r c : ℕ) → lo + b ≡ c * 2 ^ 64 + r → hi * 2 ^ 64 + lo + b ≡ (hi + c) * 2 ^ 64 + r
carried hi lo b r c e = omega arith

-- the two words of a total with n more
pub plus_carried : (t : Total) (n r x : ℕ) (o : Bool) → t.lo < 2 ^ 64 → n < 2 ^ 64 → r < 2 ^ 64 → r ≡ (t.lo + n) % 2 ^ 64 → FalseIff o (t.lo + n < 2 ^ 64) → x ≡ (t.hi + from_bool o) % 2 ^ 64
    → record { hi = x; lo = r } ≡ plus_of t n
unfolding plus_of
plus_carried t n r x o tl nb rb e f h =
    let y : ℕ = t.hi + from_bool o in
    let s : value t + n ≡ y * 2 ^ 64 + r = carried t.hi t.lo n r (from_bool o) (carry t.lo n r o tl nb e f) in
    let l : r ≡ (value t + n) % 2 ^ 64 = low_word 64 (value t + n) y r rb s in
    let g : x ≡ (value t + n) / 2 ^ 64 % 2 ^ 64 = h ∙ ap (λ (k : ℕ). k % 2 ^ 64) (high_word 64 (value t + n) y r rb s) in
    λ i. record { hi = g i; lo = l i }

-- as one number, where it fits 128 bits
pub plus_value : (t : Total) (n : ℕ) → value t + n < 2 ^ 128 → value (plus_of t n) ≡ value t + n
unfolding plus_of
plus_value t n h = recompose 64 64 h

-- two words are another two exactly when the numbers are equal
pub words_equal : (x r a b : ℕ) → r < 2 ^ 64 → b < 2 ^ 64 → (eqb r b && eqb x a) ≡ eqb (x * 2 ^ 64 + r) (a * 2 ^ 64 + b)
words_equal x r a b rb bb = same_test _ _ there back
  where
    there : (eqb r b && eqb x a) ≡ true → eqb (x * 2 ^ 64 + r) (a * 2 ^ 64 + b) ≡ true
    there e =
        let p : r ≡ b = eqb-true r b (and_left _ _ e) in
        let q : x ≡ a = eqb-true x a (and_right (eqb r b) _ e) in
        let s : x * 2 ^ 64 + r ≡ a * 2 ^ 64 + b = rw (p, q) in
        eq-eqb _ _ s

    back : eqb (x * 2 ^ 64 + r) (a * 2 ^ 64 + b) ≡ true → (eqb r b && eqb x a) ≡ true
    back e =
        let s : x * 2 ^ 64 + r ≡ a * 2 ^ 64 + b = eqb-true _ _ e in
        and_both _ _
        (eq-eqb r b (low_word 64 _ x r rb refl ∙ ap (λ (k : ℕ). k % 2 ^ 64) s ∙ sym (low_word 64 _ a b bb refl)))
        (eq-eqb x a (high_word 64 _ x r rb refl ∙ ap (λ (k : ℕ). k / 2 ^ 64) s ∙ sym (high_word 64 _ a b bb refl)))

-- a total of n words' square ends just past its last high word
ends : (n hi lo b : ℕ) → n ≤ hi + 1 → n ≤ lo + b → n * n ≤ hi * n + lo + b
ends n hi lo b h g =
    let e : (hi + 1) * n ≡ hi * n + n = rw add-one (suc-mul hi n) in
    let f : n * n ≤ (hi + 1) * n = native.Mathlib.Nat.mul-le-mul_right n h in
    omega arith

within : (n hi lo b : ℕ) → hi < n → lo + b < n → hi * n + lo + b < n * n
within n hi lo b h g = let e : hi * n + (lo + b) < n * n = digits_lt h g in omega arith

within_carried : (n hi lo b : ℕ) → hi + 1 < n → lo < n → b < n → hi * n + lo + b < n * n
within_carried n hi lo b h g k =
    let e : (hi + 1) * n ≡ hi * n + n = rw add-one (suc-mul hi n) in
    ⊎_elim
    (λ (s : lo + b < n). within n hi lo b (omega arith) s)
    (λ (s : n ≤ lo + b). let d : (hi + 1) * n + (lo + b - n) < n * n = digits_lt h (omega arith) in omega arith)
    (lt_or_le (lo + b) n)

-- a total holds b more exactly when the low word does, or the high word has room for a carry
pub holds_more : (hi lo b : ℕ) → hi < 2 ^ 64 → lo < 2 ^ 64 → b < 2 ^ 64
    → (leb b (0xffff_ffff_ffff_ffff - lo) || ltb hi 0xffff_ffff_ffff_ffff) ≡ ltb (hi * 2 ^ 64 + lo + b) (2 ^ 128)
holds_more hi lo b hb lb bb = same_test _ _ there back
  where
    low_fits : b ≤ 0xffff_ffff_ffff_ffff - lo → hi * 2 ^ 64 + lo + b < 2 ^ 128
    low_fits h = within (2 ^ 64) hi lo b hb (omega arith)

    high_fits : hi < 0xffff_ffff_ffff_ffff → hi * 2 ^ 64 + lo + b < 2 ^ 128
    high_fits h = within_carried (2 ^ 64) hi lo b (omega arith) lb bb

    there : (leb b (0xffff_ffff_ffff_ffff - lo) || ltb hi 0xffff_ffff_ffff_ffff) ≡ true → ltb (hi * 2 ^ 64 + lo + b) (2 ^ 128) ≡ true
    there e =
        lt-ltb _ _
        (⊎_elim (λ p. low_fits (leb-true _ _ p)) (λ p. high_fits (ltb-true _ _ p)) (or_cases (leb b (0xffff_ffff_ffff_ffff - lo)) _ e))

    full : hi * 2 ^ 64 + lo + b < 2 ^ 128 → 0xffff_ffff_ffff_ffff - lo < b → 0xffff_ffff_ffff_ffff ≤ hi → ⊥
    full s p q =
        let e : 2 ^ 64 * 2 ^ 64 ≤ hi * 2 ^ 64 + lo + b = ends (2 ^ 64) hi lo b (omega arith) (omega arith) in
        native.Mathlib.Nat.not-le_of_lt s e

    back : ltb (hi * 2 ^ 64 + lo + b) (2 ^ 128) ≡ true → (leb b (0xffff_ffff_ffff_ffff - lo) || ltb hi 0xffff_ffff_ffff_ffff) ≡ true
    back e =
        ⊎_elim
        (λ (p : 0xffff_ffff_ffff_ffff - lo < b).
        ⊎_elim
        (λ (q : hi < 0xffff_ffff_ffff_ffff). or_right (leb b (0xffff_ffff_ffff_ffff - lo)) _ (lt-ltb _ _ q))
        (λ (q : 0xffff_ffff_ffff_ffff ≤ hi). absurd (full (ltb-true _ _ e) p q))
        (lt_or_le hi 0xffff_ffff_ffff_ffff))
        (λ (p : b ≤ 0xffff_ffff_ffff_ffff - lo). or_left _ _ (le-leb _ _ p))
        (lt_or_le (0xffff_ffff_ffff_ffff - lo) b)
