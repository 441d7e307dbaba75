use mathlib.Core.List.{[]}
use lib.ListN.{get_or}
use Rattle.buddy_levels.specs.Seen.{level_part}
use Rattle.buddy_rules.specs.Tables.{chunk_places_at, memories}
use Rattle.buddy_decide.proofs.Known.{delivery_is}
use Rattle.buddy_decide.proofs.deliveries.decide_delivery.Goals as goal

pub returns : goal.returns
returns c =
    let a = c.args in
    delivery_is a.o a.order (memories (level_part 0 a.chunks.now []) (get_or a.chunks.now chunk_places_at 0)) _ _ c.is_known.ensures c.come.ensures
