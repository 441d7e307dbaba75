use mathlib.Core.Path.{refl}
use Rattle.buddy_decide.proofs.Shows.{return_is}
use Rattle.buddy_decide.proofs.returns.decide_return.Goals as goal

pub returns : goal.returns
returns c =
    let a = c.args in
    return_is a.s a.b a.loans.now a.index.now _ _ refl c.decide.ensures
