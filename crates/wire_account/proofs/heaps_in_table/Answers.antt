use Rattle.counter.proofs.Tables.{heaps_none}
use Rattle.wire_rules.proofs.Shares.{table_more}
use native.Mathlib.Omega.{arith}
use Rattle.wire_account.proofs.heaps_in_table.Goals as goal

pub loop-i-init : goal.loop-i-init
loop-i-init c = heaps_none _

pub loop-i-preserved : goal.loop-i-preserved
loop-i-preserved c =
    let l = c.loop-i in
    table_more c.args.w.now l.i l.ok (omega arith) l.invariant
