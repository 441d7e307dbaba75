use Rattle.std.proofs.Common.{refl}
use Rattle.book.proofs.Taking.{taken_last, taken_new}
use Rattle.book.proofs.next_place_in.Goals as goal

pub returns-then-last-places : goal.returns-then-last-places
returns-then-last-places c =
    let a = c.args in
    taken_last a.places a.index.now _ c.place_of-last.ensures c.if-last-places.true _ c.place_of-next.ensures

pub returns : goal.returns
returns c =
    let a = c.args in
    taken_new a.places a.index.now _ c.place_of-last.ensures c.if-last-places.false _ refl
