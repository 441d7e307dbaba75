use Rattle.std.proofs.Common.{rules, sym, ◌∙◌}
use Rattle.freelist_walk.proofs.Piecing.{passed_none, passed_out, passed_gap, refused_gap}
use Rattle.freelist_walk.proofs.passes.pass_gap.Goals as goal

pub returns-then-from-to : goal.returns-then-from-to
returns-then-from-to c =
    let a = c.args in
    passed_none a.t.now a.n a.d a.chunk a.from a.to a.last (search rules) c.if-from-to.true

pub returns-then-to-from : goal.returns-then-to-from
returns-then-to-from c =
    let a = c.args in
    passed_out a.t.now a.n a.d a.chunk a.from a.to a.last (search rules) c.if-from-to.false c.if-to-from.true

pub returns-then-eq : goal.returns-then-eq
returns-then-eq c =
    let a = c.args in
    passed_gap a.t.now a.n a.d a.chunk a.from a.to a.last (search rules) (search rules) (search rules) c.gap_at.result c.gap_at.ensures (sym c.eq.ensures ∙ c.if-eq.true)

pub returns : goal.returns
returns c =
    let a = c.args in
    refused_gap a.t.now a.n a.d a.chunk a.from a.to a.last (search rules) (search rules) (search rules) c.gap_at.result c.gap_at.ensures (sym c.eq.ensures ∙ c.if-eq.false)
