use Rattle.std.proofs.Common.{sym, ◌∙◌, arith}
use Rattle.freelist_walk.proofs.Stepping.{test_yes, loan_stopped, loan_unled, loan_turned, chunk_stopped, chunk_turned}
use Rattle.freelist_walk.proofs.turns.turn.Goals as goal

pub overflow_sub-r : goal.overflow_sub-r
overflow_sub-r c =
    omega (arith, test_yes c.args.s.left c.record_after-r.result c.args.ground.now.places c.args.ground.now.loans.now c.chunk_in-c.result.number (sym c.is_next.ensures ∙ c.if-is_next.true))

pub loan_in-l-requires : goal.loan_in-l-requires
loan_in-l-requires c =
    let g = c.args.ground.now in
    omega (arith, g.laid.loans_long, test_yes c.args.s.left c.record_after-r.result g.places g.loans.now c.chunk_in-c.result.number (sym c.is_next.ensures ∙ c.if-is_next.true))

pub returns-in_err-p : goal.returns-in_err-p
returns-in_err-p c =
    let g = c.args.ground.now in
    rw c.from_residual.ensures (loan_stopped g.most g.held g.chunks.now g.loans.now g.places g.index.now g.regions.now g.count c.args.s c.chunk_in-c.result c.record_after-r.result
    c.requires.0 c.requires.1 g.rise g.small c.chunk_in-c.ensures c.record_after-r.ensures
    (sym c.is_next.ensures ∙ c.if-is_next.true) c.loan_in-l.result c.loan_in-l.ensures c.pass_loan.result c.pass_loan.ensures c.in_err-p.was)

pub record_before-back-requires : goal.record_before-back-requires
record_before-back-requires c =
    let g = c.args.ground.now in
    let v = test_yes c.args.s.left c.record_after-r.result g.places g.loans.now c.chunk_in-c.result.number (sym c.is_next.ensures ∙ c.if-is_next.true) in
    (omega (arith, v.2, g.laid.few), g.laid.loans_most_lem, g.laid.index_long)

pub returns-then-back-s : goal.returns-then-back-s
returns-then-back-s c =
    let g = c.args.ground.now in
    loan_unled g.most g.held g.chunks.now g.loans.now g.places g.index.now g.regions.now g.count c.args.s c.chunk_in-c.result c.record_after-r.result
    c.requires.0 c.requires.1 g.rise g.small c.chunk_in-c.ensures c.record_after-r.ensures
    (sym c.is_next.ensures ∙ c.if-is_next.true) c.loan_in-l.result c.loan_in-l.ensures c.pass_loan.result c.pass_loan.ensures c.in_ok-p.p c.in_ok-p.was c.record_before-back.result c.record_before-back.ensures c.if-back-s.true

pub over_loan-requires : goal.over_loan-requires
over_loan-requires c =
    (test_yes c.args.s.left c.record_after-r.result c.args.ground.now.places c.args.ground.now.loans.now c.chunk_in-c.result.number (sym c.is_next.ensures ∙ c.if-is_next.true)).0

pub returns-then-is_next : goal.returns-then-is_next
returns-then-is_next c =
    let g = c.args.ground.now in
    loan_turned g.most g.held g.chunks.now g.loans.now g.places g.index.now g.regions.now g.count c.args.s c.chunk_in-c.result c.record_after-r.result
    c.requires.0 c.requires.1 g.rise g.small c.chunk_in-c.ensures c.record_after-r.ensures
    (sym c.is_next.ensures ∙ c.if-is_next.true) c.loan_in-l.result c.loan_in-l.ensures c.pass_loan.result c.pass_loan.ensures c.in_ok-p.p c.in_ok-p.was c.record_before-back.result c.record_before-back.ensures c.if-back-s.false c.over_loan.result c.over_loan.ensures

pub returns-in_err-p-2 : goal.returns-in_err-p-2
returns-in_err-p-2 c =
    let g = c.args.ground.now in
    rw c.from_residual-in_err-p-2.ensures (chunk_stopped g.most g.held g.chunks.now g.loans.now g.places g.index.now g.regions.now g.count c.args.s c.chunk_in-c.result c.record_after-r.result
    c.requires.0 c.requires.1 g.rise g.small c.chunk_in-c.ensures c.record_after-r.ensures
    (sym c.is_next.ensures ∙ c.if-is_next.false) c.pass_gap.result c.pass_gap.ensures c.in_err-p-2.was)

pub returns : goal.returns
returns c =
    let g = c.args.ground.now in
    chunk_turned g.most g.held g.chunks.now g.loans.now g.places g.index.now g.regions.now g.count c.args.s c.chunk_in-c.result c.record_after-r.result
    c.requires.0 c.requires.1 g.rise g.small c.chunk_in-c.ensures c.record_after-r.ensures
    (sym c.is_next.ensures ∙ c.if-is_next.false) c.pass_gap.result c.pass_gap.ensures c.in_ok-p-2.p c.in_ok-p-2.was c.over_chunk.result c.over_chunk.ensures
