use native.Mathlib.Omega.{arith}
use mathlib.Core.Path.{sym}
use Rattle.words.proofs.Cells.{past}
use Rattle.words.proofs.Moved.{opened_none, opened_out}
use borrow.Author.Rules.{rules}
use Rattle.words.proofs.rows.open_row.Goals as goal

pub returns-else-i-n : goal.returns-else-i-n
returns-else-i-n c = let a = c.args in sym (opened_none a.w a.n a.i a.t.now (omega arith))

pub returns-else-n-t : goal.returns-else-n-t
returns-else-n-t c =
    let a = c.args in
    sym (opened_out a.w a.n a.i a.t.now (omega (arith, past 0 a.w a.n a.n (search rules) (omega arith))))
