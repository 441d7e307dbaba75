use borrow.Author.Rules.{rules}
use mathlib.Core.Path.{refl}
use native.Mathlib.Omega.{arith}
use Rattle.freelist_place.proofs.Counting.{join_fits, joined_done, whole_few}
use Rattle.freelist_place.proofs.counted.join.Goals as goal

pub bounds-regions-1 : goal.bounds-regions-1
bounds-regions-1 c =
    let h = c.requires.regions_fit.0.long in
    search rules

pub bounds-regions-2 : goal.bounds-regions-2
bounds-regions-2 c =
    let h = c.requires.regions_fit.0.long in
    search rules

pub join_region-joined-requires : goal.join_region-joined-requires
join_region-joined-requires c =
    let a = c.args in
    join_fits a.s a.regions.now c.requires.regions_fit.0 _ refl a.b c.requires.regions_fit.1 c.requires.regions_fit.2 c.requires.regions_fit.3 c.requires.regions_fit.4

pub with-now_whole-requires : goal.with-now_whole-requires
with-now_whole-requires c =
    let a = c.args in
    (c.requires.chunks_at_in_bounds.0, c.requires.chunks_at_in_bounds.1, omega (arith, whole_few a.s a.regions.now c.requires.regions_fit.0 _ refl _ refl c.requires.chunks_at_in_bounds.2))

pub count_regions-requires : goal.count_regions-requires
count_regions-requires c =
    let h = c.requires.regions_fit.0.long in
    search rules

pub returns : goal.returns
returns c =
    let a = c.args in
    joined_done a.s a.regions.now c.requires.regions_fit.0 _ refl a.chunks.now a.b a.loan a.front _ _ _ c.join_region-joined.result.region _ _ refl c.join_region-joined.ensures.count_value c.join_region-joined.ensures.region_value c.join_region-joined.ensures.t_after c.with-now_whole.ensures c.count_regions.ensures
