use mathlib.Core.Path.{◌≡◌, refl, sym, ap, ◌∙◌}
use mathlib.Core.List.{List}
use Prim.Native.Nat.{ℕ, ◌+◌, ◌≤◌}
use native.Mathlib.Nat.{zero-add}
use native.Mathlib.Numerals.{add-one}
use native.Mathlib.Omega.{arith}
use lib.ListN.{length, set, get_or, length-set}
use lib.Seq.{paste, paste-zero, paste-suc}
use Rattle.rank.proofs.fill.Goals as goal

-- one turn of the copy, at the front of the words
turn : (words₀ bytes words : List ℕ) (i v : ℕ) → i + 1 ≤ length words₀ → i + 1 ≤ length bytes → words ≡ paste words₀ 0 bytes i → v ≡ get_or bytes i 0
    → set words i v ≡ paste words₀ 0 bytes (i + 1)
turn words₀ bytes words i v h k e g =
    ap (λ (l : List ℕ). set l i v) e ∙ ap (λ (n : ℕ). set (paste words₀ 0 bytes i) n v) (sym (zero-add i)) ∙ ap (set (paste words₀ 0 bytes i) (0 + i)) g
    ∙ paste-suc words₀ 0 bytes i 0 (omega arith) (omega arith) ∙ ap (paste words₀ 0 bytes) (sym (add-one i))

pub loop-i-init : goal.loop-i-init
loop-i-init c = let a = c.args in (refl, paste-zero a.words.now 0 a.bytes.now)

pub loop-i-preserved : goal.loop-i-preserved
loop-i-preserved c =
    let l = c.loop-i in
    let a = c.args in
    (simp length-set l.invariant.0, turn a.words.now a.bytes.now l.words l.i c.from.result (omega arith) (omega arith) l.invariant.1 c.from.ensures)
