-- Places on one line: by chunk, and then by place.
use mathlib.Core.Path.{◌≡◌}
use mathlib.Core.Bool.{true}
use mathlib.Core.Logic.{inl, inr, ⊎_elim}
use Prim.Native.Nat.{ℕ, ◌*◌, ◌≤◌, ◌<◌}
use native.Mathlib.Omega.{arith}
use lib.Dec.{ltb}
use borrow.Author.Tests.{lt-ltb, ltb-true}
use Rattle.counter.specs.Limits.{chunk_size_most}
use Rattle.lists.specs.Pairs.{First, earlier}
use Rattle.lists.proofs.Bools.{same_test, lt_or_le}
use Rattle.lists.proofs.Pairs.{first_yes, first_all}
use Rattle.freelist_rules.specs.Pieces.{line}

-- a place of a chunk comes before another on the line exactly when its chunk does, or the chunks are one and the place does
pub line_earlier : (c p d q : ℕ) → p < 2 * chunk_size_most → q < 2 * chunk_size_most → ltb (line c p) (line d q) ≡ earlier c p d q
line_earlier c p d q hp hq = same_test _ _ there back
  where
    there : ltb (line c p) (line d q) ≡ true → earlier c p d q ≡ true
    there e =
        let h : line c p < line d q = ltb-true _ _ e in
        first_all c p d q (⊎_elim (λ (g : c < d). inl g) (λ (g : d ≤ c). let k : c ≡ d = omega arith in inr (k, omega arith)) (lt_or_le c d))

    on_line : First c p d q → line c p < line d q
    on_line (inl g) = omega arith
    on_line (inr g) = omega (arith, g.0, g.1)

    back : earlier c p d q ≡ true → ltb (line c p) (line d q) ≡ true
    back e = lt-ltb _ _ (on_line (first_yes c p d q e))
