use Rattle.std.proofs.Common.{◌≡◌, ◌-◌}
use Rattle.slabs.specs.Slab.{vacant_at, link_at}
use Rattle.slabs.specs.Test.{off_chain}
use Rattle.slabs.proofs.off_chain.Given as goal

abbrev pub invariant-loop-led : goal.invariant-loop-led
invariant-loop-led l =
    off_chain (vacant_at l.records l.mark l.width) (link_at l.links l.at l.step) l.n l.h l.n ≡ off_chain (vacant_at l.records l.mark l.width) (link_at l.links l.at l.step) l.n l.cur (l.n - l.led)
