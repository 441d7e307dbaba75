-- The ground of a walk, as the code lends it.
use Rattle.freelist_walk.specs.Left.{Ground}
use Rattle.freelist_walk.specs.Turn.{ground_of}
use Rattle.freelist_walk.specs.declared.grounds.Ground as Code

abbrev pub ground_in : Code.Ground → Ground
ground_in g = ground_of g.most g.held g.chunks.now g.loans.now g.places g.index.now g.regions.now g.count
