use lib.ListN.{get_or-eq_default}
use mathlib.Core.Path.{sym}
use Rattle.words.proofs.word.Goals as goal

pub returns-else-i-t : goal.returns-else-i-t
returns-else-i-t c = sym (get_or-eq_default c.args.t.now 0 c.if-i-t.false)
