use Rattle.book.proofs.Entering.{slab_read}
use Rattle.book.proofs.next_place.Goals as goal

pub returns : goal.returns
returns c = slab_read _ _ _ _ c.led_to.ensures c.insert.ensures
