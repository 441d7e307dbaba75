use mathlib.Core.Path.{sym}
use lib.Seq.{length-take-le}
use Rattle.freelist_release.proofs.Releasing.{count_fits, released_some}
use Rattle.freelist_release.proofs.dropping.drop_chunks.Goals as goal

pub slice_bounds-keep_chunks-end : goal.slice_bounds-keep_chunks-end
slice_bounds-keep_chunks-end c =
    let a = c.args in
    count_fits a.chunks.now a.k a.regions.now a.n a.spare a.list.now c.requires.releasable c.mark-m.result.count _ c.mark-m.ensures.count_value c.mark-m.ensures.list_after c.requires.k_in_bounds.2

pub slice_bounds-keep_chunks-end-2 : goal.slice_bounds-keep_chunks-end-2
slice_bounds-keep_chunks-end-2 c =
    let a = c.args in
    sym (length-take-le c.mark-m.result.count c.mark-m.new.list (count_fits a.chunks.now a.k a.regions.now a.n a.spare a.list.now c.requires.releasable c.mark-m.result.count _ c.mark-m.ensures.count_value c.mark-m.ensures.list_after c.requires.k_in_bounds.2))

pub returns : goal.returns
returns c = let a = c.args in let all = released_some a.chunks.now a.k a.regions.now a.n a.spare a.list.now c.requires.releasable c.mark-m.result.count _ c.mark-m.ensures.count_value c.mark-m.ensures.list_after c.requires.k_in_bounds.2 _ _ _ _ _ c.mark-m.ensures.bytes_value (c.keep_regions-left.ensures.value, c.keep_regions-left.ensures.regions_after) (c.keep_chunks-held.ensures.value, c.keep_chunks-held.ensures.chunks_after) in
    record { count_value = all.0; bytes_value = all.1.0; chunks_value = all.1.1.0; regions_value = all.1.1.1.0; chunks_after = all.1.1.1.1.0; regions_after = all.1.1.1.1.1.0; list_after = all.1.1.1.1.1.1 }
