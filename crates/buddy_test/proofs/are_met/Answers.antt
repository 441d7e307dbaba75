use Rattle.buddy_test.proofs.Trees.{met_told}
use Rattle.buddy_test.proofs.are_met.Goals as goal

pub returns : goal.returns
returns c =
    let a = c.args in
    let v = a.v.now in
    met_told v.settings a.levels v.loans.now v.chunks.now v.index.now v.tree.now a.held a.count _ c.requires.2 c.requires.4 c.left_chunks-left.ensures
