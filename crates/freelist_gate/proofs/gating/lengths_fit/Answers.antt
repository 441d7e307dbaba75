use Rattle.freelist_rules.specs.Tables.{tables}
use Rattle.freelist_gate.proofs.Gates.{lengths_is}
use Rattle.freelist_gate.proofs.gating.lengths_fit.Goals as goal

pub returns : goal.returns
returns c =
    let a = c.args in
    lengths_is a.s (tables a.head.now a.loans.now a.chunks.now a.index.now a.regions.now)
