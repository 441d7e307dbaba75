-- A gate whose third test fails, as it does on another engine's tables, refuses by 1, 2 or 3.
use mathlib.Core.Path.{◌≡◌, refl}
use mathlib.Core.Bool.{Bool, true, false}
use Prim.Native.Nat.{ℕ, ◌≤◌, ◌<◌}
use native.Mathlib.Omega.{arith}
use Rattle.counter.specs.Gate.{refuse, first}
use Rattle.store_rules.specs.Tests.{gate_row}

-- a gate whose third test fails refuses, by it or an earlier one
pub shut : (lent order sound covered : Bool) → (sound ≡ true → ⊥) → (n : ℕ) × (first (gate_row lent order sound covered) ≡ refuse n) × (0 < n) × (n ≤ 3)
shut false order sound covered f = (1, refl, omega arith, omega arith)
shut true false sound covered f = (2, refl, omega arith, omega arith)
shut true true false covered f = (3, refl, omega arith, omega arith)
shut true true true covered f = absurd (f refl)
