use Rattle.freelist.proofs.Arriving.{lends_now, kept_done}
use Rattle.freelist.proofs.carries.keep_chunk.Goals as goal

pub overflow_sub-order : goal.overflow_sub-order
overflow_sub-order c =
    c.requires.small

pub lower_to_unit-start-requires : goal.lower_to_unit-start-requires
lower_to_unit-start-requires c =
    c.requires.aligned

pub add_chunk-requires : goal.add_chunk-requires
add_chunk-requires c =
    let p = c.requires in
    (p.adds, p.lends.long)

pub lend-l-requires : goal.lend-l-requires
lend-l-requires c =
    let a = c.args in
    lends_now a.s a.share a.k a.memory a.b a.head.now a.loans.now a.chunks.now a.regions.now a.index.now c.requires _ _ _ _ _ c.region_count-i.ensures c.lower_to_unit-start.ensures c.add_chunk.ensures

pub returns : goal.returns
returns c =
    let a = c.args in
    kept_done a.s a.share a.k a.memory a.b a.head.now a.loans.now a.chunks.now a.regions.now a.index.now c.requires _ _ _ _ _ _ _ _ _ _ _ _ _ c.region_count-i.ensures c.lower_to_unit-start.ensures c.charged-charged.ensures c.add_chunk.ensures c.lend-l.ensures.value c.lend-l.ensures.regions_after c.deliver_block.ensures.0 c.deliver_block.ensures.1 c.deliver_block.ensures.2
