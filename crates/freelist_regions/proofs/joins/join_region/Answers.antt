use Rattle.std.proofs.Common.{arith, rules}
use Rattle.freelist_regions.proofs.Standing.{regions_part}
use Rattle.freelist_regions.proofs.Joining.{can_settle, can_rename, joined}
use Rattle.freelist_regions.proofs.joins.join_region.Goals as goal

pub stands_at-k-requires : goal.stands_at-k-requires
stands_at-k-requires c = let a = c.args in record { n_in_bounds = search rules; parting = regions_part a.t.now a.n c.requires.2 a.b.chunk a.b.start }

pub reach-region-requires : goal.reach-region-requires
reach-region-requires c =
    let a = c.args in
    let z = can_settle a.t.now a.n c.stands_at-k.result a.b a.loan a.front c.requires.0 c.requires.1 c.requires.2 c.requires.3 c.requires.4 c.stands_at-k.ensures c.touches_before-before.result c.touches_next-next.result c.touches_before-before.ensures c.touches_next-next.ensures in
    (z.some, omega (arith, z.most, z.room), λ e. let h = z.under e in omega (arith, h, z.room))

pub settle-count-requires : goal.settle-count-requires
settle-count-requires c =
    let a = c.args in
    can_settle a.t.now a.n c.stands_at-k.result a.b a.loan a.front c.requires.0 c.requires.1 c.requires.2 c.requires.3 c.requires.4 c.stands_at-k.ensures c.touches_before-before.result c.touches_next-next.result c.touches_before-before.ensures c.touches_next-next.ensures

pub rename-requires : goal.rename-requires
rename-requires c =
    let a = c.args in
    can_rename a.t.now a.n c.stands_at-k.result a.b a.loan a.front c.requires.0 c.requires.1 c.requires.2 c.requires.3 c.requires.4 c.stands_at-k.ensures c.touches_before-before.result c.touches_next-next.result c.touches_before-before.ensures c.touches_next-next.ensures c.reach-region.result c.reach-region.ensures _ c.past-from.ensures _ _ c.settle-count.ensures.value c.settle-count.ensures.t_after

pub returns : goal.returns
returns c = let a = c.args in
    let j = joined a.t.now a.n c.stands_at-k.result a.b a.loan a.front c.requires.0 c.requires.1 c.requires.2 c.requires.3 c.requires.4 c.stands_at-k.ensures c.touches_before-before.result c.touches_next-next.result c.touches_before-before.ensures c.touches_next-next.ensures c.reach-region.result c.reach-region.ensures _ c.past-from.ensures _ _ _ c.settle-count.ensures.value c.settle-count.ensures.t_after c.rename.ensures in record { count_value = j.0; region_value = j.1; t_after = j.2 }
