use Rattle.std.proofs.Common.{sym, ◌∙◌, arith}
use Rattle.words.specs.Rows.{rows}
use Rattle.freelist_rules.specs.Records.{gap_row}
use Rattle.freelist_walk.proofs.Piecing.{within_yes, passed_loan, stopped_loan, refused_loan}
use Rattle.freelist_walk.proofs.passes.pass_loan.Goals as goal

pub returns-then-not-is_within : goal.returns-then-not-is_within
returns-then-not-is_within c =
    let a = c.args in
    refused_loan a.size a.from a.last a.l (rows gap_row a.n a.t.now) a.d (sym c.is_within.ensures ∙ c.if-not-is_within.true)

pub returns-in_err-g : goal.returns-in_err-g
returns-in_err-g c =
    let a = c.args in
    rw c.from_residual.ensures (stopped_loan a.size a.from a.last a.l (rows gap_row a.n a.t.now) a.d (sym c.is_within.ensures ∙ c.if-not-is_within.false) c.pass_gap.result c.pass_gap.ensures c.in_err-g.was)

pub overflow_add-result : goal.overflow_add-result
overflow_add-result c =
    let a = c.args in
    omega (arith, within_yes a.l a.size (sym c.is_within.ensures ∙ c.if-not-is_within.false))

pub returns : goal.returns
returns c =
    let a = c.args in
    passed_loan a.size a.from a.last a.l (rows gap_row a.n a.t.now) a.d (sym c.is_within.ensures ∙ c.if-not-is_within.false) c.pass_gap.result c.pass_gap.ensures c.in_ok-g.g c.in_ok-g.was
