use Rattle.slabs.proofs.Places.{insert_first, insert_next}
use Rattle.slabs.proofs.Slab.insert.Goals as goal

pub returns-then-vacant-places : goal.returns-then-vacant-places
returns-then-vacant-places c =
    let a = c.args in
    rw (insert_first a.self a.links.now a.at a.step c.if-vacant-places.true) (rw c.link-next.ensures)

pub returns-else-vacant-places : goal.returns-else-vacant-places
returns-else-vacant-places c =
    let a = c.args in
    rw (insert_next a.self a.links.now a.at a.step c.if-vacant-places.false)
