use Rattle.std.proofs.Common.{◌≡◌, length}
use Rattle.damage_parts.proofs.image.load.Given as goal

abbrev pub invariant-loop-i : goal.invariant-loop-i
invariant-loop-i l = length l.table ≡ length l.initial.table
