use Rattle.std.proofs.Common.{ap, ◌∙◌}
use Rattle.slabs.specs.Slab.{place_of}
use Rattle.slabs.proofs.link.Goals as goal

pub returns : goal.returns
returns c = c.place_of.ensures ∙ ap place_of c.cell.ensures
