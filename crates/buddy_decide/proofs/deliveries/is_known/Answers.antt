use Rattle.buddy_decide.proofs.Known.{known_made}
use Rattle.buddy_decide.proofs.deliveries.is_known.Goals as goal

pub returns-in-Made : goal.returns-in-Made
returns-in-Made c =
    let a = c.args in
    known_made _ a.chunks.now c.word.ensures _ a.o _ c.in-Made.is c.is_held.ensures
