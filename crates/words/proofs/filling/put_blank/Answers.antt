use Rattle.words.proofs.Filled.{blank_put}
use Rattle.words.proofs.filling.put_blank.Goals as goal

pub returns : goal.returns
returns c =
    let a = c.args in
    blank_put _ a.m a.v _ _ c.fill.ensures c.put.ensures
