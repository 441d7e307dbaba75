use Rattle.freelist_decide.proofs.Holding.{known_made}
use Rattle.freelist_decide.proofs.deliveries.is_known.Goals as goal

pub returns-in-Made : goal.returns-in-Made
returns-in-Made c =
    let a = c.args in
    known_made _ _ a.chunks.now a.o _ c.in-Made.is c.word.ensures c.is_held.ensures
