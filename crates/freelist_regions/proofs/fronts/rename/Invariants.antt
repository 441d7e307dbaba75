use Rattle.std.proofs.Common.{◌≡◌, length}
use Rattle.freelist_regions.proofs.Renaming.{rest}
use Rattle.freelist_regions.proofs.fronts.rename.Given as goal

abbrev pub invariant-loop-i : goal.invariant-loop-i
invariant-loop-i l = (length l.t ≡ length l.initial.t) × (rest l.n l.i l.a l.b l.t ≡ rest l.n l.from l.a l.b l.initial.t)
