use Rattle.std.proofs.Common.{◌≡◌, length}
use Rattle.damage_parts.proofs.image.keep.Given as goal

abbrev pub invariant-loop-i : goal.invariant-loop-i
invariant-loop-i l = length l.image ≡ length l.initial.image
