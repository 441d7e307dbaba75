use Rattle.std.proofs.Common.{◌≡◌, ◌-◌}
use Rattle.slabs.specs.Slab.{vacant_at, link_at}
use Rattle.slabs.specs.Test.{leads}
use Rattle.slabs.proofs.chain_leads.Given as goal

abbrev pub invariant-loop : goal.invariant-loop
invariant-loop l = leads (vacant_at l.records l.mark l.width) (link_at l.links l.at l.step) l.n l.h l.k ≡ leads (vacant_at l.records l.mark l.width) (link_at l.links l.at l.step) l.n l.cur (l.k - l.counter)
