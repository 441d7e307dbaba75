use Rattle.std.proofs.Common.{rules}
use Rattle.slabs.specs.Slab.{removed, removed_links}
use Rattle.slabs.proofs.Slab.remove.Goals as goal

pub returns : goal.returns
unfolding removed removed_links
returns c = record { value = search rules; links_after = search rules }
