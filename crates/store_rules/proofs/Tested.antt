-- Where a test put together of tests fails, and which numbers a gate gives.
use mathlib.Core.Path.{◌≡◌, refl, sym}
use mathlib.Core.Bool.{Bool, true, false, ◌&&◌, ◌||◌, not}
use mathlib.Core.Logic.{◌⊎◌, inl, inr, ⊎_elim, ◌↔◌}
use Prim.Native.Nat.{ℕ, ◌+◌, ◌^◌, ◌≤◌, ◌<◌}
use native.Mathlib.Omega.{arith}
use lib.Dec.{leb, ltb}
use borrow.Author.Tests.{ltb-false, lt-ltb, le-ltb, leb-false, lt-leb}
use Rattle.lists.proofs.Bools.{true_false, lt_or_le}
use Rattle.counter.specs.Account.{value}
use Rattle.counter.specs.Gate.{refuse, first}
use Rattle.counter.specs.Limits.{heap_bytes_most}
use Rattle.counter.specs.declared.account.Heap.{Heap}
use Rattle.counter.proofs.Gates.{never, same_number}
use Rattle.heap.specs.Heap.{bears_ok}
use Rattle.store_rules.specs.Tests.{gate_row}

-- of two tests one fails
pub off_and : (a b : Bool) {P Q : Type 0} → (a ≡ false) ↔ P → (b ≡ false) ↔ Q → ((a && b) ≡ false) ↔ (P ⊎ Q)
off_and true b f g = ((λ e. inr (g.0 e)), (λ w. ⊎_elim (λ p. absurd (true_false true refl (f.1 p))) (λ q. g.1 q) w))
off_and false b f g = ((λ e. inl (f.0 refl)), (λ w. refl))

-- of a test that is made only where n holds
pub off_where : (n b : Bool) {P Q : Type 0} → (n ≡ true) ↔ P → (b ≡ false) ↔ Q → ((not n || b) ≡ false) ↔ (P × Q)
off_where true b f g = ((λ e. (f.0 refl, g.0 e)), (λ w. g.1 w.1))
off_where false b f g = ((λ e. absurd (true_false true refl e)), (λ w. absurd (true_false false (f.1 w.0) refl)))

-- of numbers: x is to be less than y
pub off_less : (x y : ℕ) → (ltb x y ≡ false) ↔ (y ≤ x)
off_less x y = (ltb-false x y, le-ltb x y)

-- x is to be at most y
pub off_within : (x y : ℕ) → (leb x y ≡ false) ↔ (y < x)
off_within x y = (leb-false x y, lt-leb x y)

-- there is to be one
pub off_some : (x : ℕ) → (ltb 0 x ≡ false) ↔ (x ≡ 0)
off_some x = ((λ e. omega (arith, ltb-false 0 x e)), (λ e. le-ltb 0 x (omega arith)))

-- of a place that is taken next, by the number of places in use
pub off_room : (x y m : ℕ) → (x < m) ↔ (y < m) → (ltb x m ≡ false) ↔ (m ≤ y)
off_room x y m r = (
  (λ e. ⊎_elim (λ k. absurd (true_false (ltb x m) (lt-ltb x m (r.1 k)) e)) (λ k. k) (lt_or_le y m)),
  (λ g. ⊎_elim (λ k. let h = r.0 k in absurd (omega arith)) (λ k. le-ltb x m k) (lt_or_le x m)),
)

-- the part of 10 that is the heap's
pub bears_off : (h : Heap) (z : ℕ) → (bears_ok h z ≡ false) ↔ ((heap_bytes_most < h.used + z) ⊎ (2 ^ 128 ≤ value h.allocated + z))
unfolding bears_ok
bears_off h z = off_and (leb (h.used + z) heap_bytes_most) (ltb (value h.allocated + z) (2 ^ 128)) (off_within (h.used + z) heap_bytes_most) (off_less (value h.allocated + z) (2 ^ 128))

-- a gate gives 1 to 4
pub gate_low : (a b c d : Bool) (n : ℕ) → first (gate_row a b c d) ≡ refuse n → n ≤ 4
gate_low false b c d n e = omega (arith, same_number 1 n e)
gate_low true false c d n e = omega (arith, same_number 2 n e)
gate_low true true false d n e = omega (arith, same_number 3 n e)
gate_low true true true false n e = omega (arith, same_number 4 n e)
gate_low true true true true n e = never n (sym e)
