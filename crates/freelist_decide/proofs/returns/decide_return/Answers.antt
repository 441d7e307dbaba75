use mathlib.Core.Path.{refl}
use mathlib.Core.List.{[]}
use Rattle.freelist_rules.specs.Tables.{tables}
use Rattle.freelist_decide.proofs.Few.{return_is}
use Rattle.freelist_decide.proofs.returns.decide_return.Goals as goal

pub returns : goal.returns
returns c =
    let a = c.args in
    return_is a.s a.b (tables [] a.loans.now [] a.index.now []) _ _ refl c.decide.ensures
