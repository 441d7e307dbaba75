use Rattle.freelist_rules.specs.Records.{region_words, region_chunk_at}
use Rattle.freelist_regions.specs.Stand.{after}
use Rattle.freelist_regions.proofs.Halves.{Between}
use Rattle.freelist_regions.proofs.stands.stands_at.Given as goal

abbrev pub invariant-loop-left : goal.invariant-loop-left
invariant-loop-left l = Between (after l.t region_chunk_at region_words l.chunk l.place) l.n l.lo l.left

abbrev pub decreases-loop-left : goal.decreases-loop-left
decreases-loop-left l = l.left
