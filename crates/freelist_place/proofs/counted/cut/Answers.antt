use borrow.Author.Rules.{rules}
use mathlib.Core.Path.{refl}
use Rattle.freelist_rules.specs.Threads.{cut_gaps}
use Rattle.freelist_place.proofs.Counting.{cut_fits, laid_done}
use Rattle.freelist_place.proofs.counted.cut.Goals as goal

pub bounds-regions-1 : goal.bounds-regions-1
bounds-regions-1 c =
    let h = c.requires.0.long in
    search rules

pub cut_region-left-requires : goal.cut_region-left-requires
cut_region-left-requires c =
    let a = c.args in
    cut_fits a.s a.regions.now c.requires.0 _ refl a.i c.requires.1

pub count_regions-requires : goal.count_regions-requires
count_regions-requires c =
    let h = c.requires.0.long in
    search rules

pub returns : goal.returns
returns c =
    let a = c.args in
    laid_done a.s a.regions.now c.requires.0 _ refl (cut_gaps a.place a.i a.loan) _ a.whole _ _ c.cut_region-left.ensures.value c.cut_region-left.ensures.t_after c.count_regions.ensures
