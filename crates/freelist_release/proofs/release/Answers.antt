use borrow.Author.Rules.{rules}
use mathlib.Core.Path.{refl}
use lib.ListN.{length-set}
use native.Mathlib.Omega.{arith}
use Rattle.freelist_release.proofs.Freeing.{drop_fits, drop_ready, goes_within, none_whole, none_gone, gone_count, gone_bytes, gone_list, gone_tables, none_left}
use Rattle.freelist_release.proofs.release.Goals as goal

pub bounds-chunks-2 : goal.bounds-chunks-2
bounds-chunks-2 c =
    let h = c.requires.chunks_fit in
    search rules

pub bounds-regions-1 : goal.bounds-regions-1
bounds-regions-1 c =
    let h = c.requires.regions_fit in
    search rules

pub bounds-regions-2 : goal.bounds-regions-2
bounds-regions-2 c =
    let h = c.requires.regions_fit in
    search rules

pub returns-then-whole-eq0 : goal.returns-then-whole-eq0
returns-then-whole-eq0 c = let a = c.args in let all = none_left a.s a.spare a.chunks.now a.regions.now a.list.now _ _ refl refl c.requires (none_whole a.s a.spare a.chunks.now a.regions.now a.list.now _ _ refl refl c.requires _ refl c.if-whole-eq0.true) in
    record { count_value = all.0; bytes_value = all.1.0; regions_after = all.1.1.0; list_after = all.1.1.1 }

pub spared-stay-requires : goal.spared-stay-requires
spared-stay-requires c =
    let a = c.args in
    (drop_ready a.s a.spare a.chunks.now a.regions.now a.list.now _ _ refl refl c.requires).numbers

pub returns-then-whole-stay : goal.returns-then-whole-stay
returns-then-whole-stay c = let a = c.args in record {
  count_value = (none_left a.s a.spare a.chunks.now a.regions.now a.list.now _ _ refl refl c.requires
      (none_gone a.s a.spare a.chunks.now a.regions.now a.list.now _ _ refl refl c.requires _ _ refl c.spared-stay.ensures (omega (arith, c.if-whole-stay.true)))).0;
  bytes_value = (none_left a.s a.spare a.chunks.now a.regions.now a.list.now _ _ refl refl c.requires
      (none_gone a.s a.spare a.chunks.now a.regions.now a.list.now _ _ refl refl c.requires _ _ refl c.spared-stay.ensures (omega (arith, c.if-whole-stay.true)))).1.0;
  regions_after = (none_left a.s a.spare a.chunks.now a.regions.now a.list.now _ _ refl refl c.requires
      (none_gone a.s a.spare a.chunks.now a.regions.now a.list.now _ _ refl refl c.requires _ _ refl c.spared-stay.ensures (omega (arith, c.if-whole-stay.true)))).1.1.0;
  list_after = (none_left a.s a.spare a.chunks.now a.regions.now a.list.now _ _ refl refl c.requires
      (none_gone a.s a.spare a.chunks.now a.regions.now a.list.now _ _ refl refl c.requires _ _ refl c.spared-stay.ensures (omega (arith, c.if-whole-stay.true)))).1.1.1;
}

pub drop_chunks-gone-requires : goal.drop_chunks-gone-requires
drop_chunks-gone-requires c = let a = c.args in record { k_in_bounds = drop_fits a.s a.spare a.chunks.now a.regions.now a.list.now _ _ refl refl c.requires; releasable = drop_ready a.s a.spare a.chunks.now a.regions.now a.list.now _ _ refl refl c.requires }

pub bounds-chunks-2-2 : goal.bounds-chunks-2-2
bounds-chunks-2-2 c =
    let h = c.requires.chunks_fit in
    search rules

pub bounds-regions-1-2 : goal.bounds-regions-1-2
bounds-regions-1-2 c =
    let h = c.requires.regions_fit in
    search rules

pub overflow_sub-regions : goal.overflow_sub-regions
overflow_sub-regions c =
    let a = c.args in
    goes_within a.s a.spare a.chunks.now a.regions.now a.list.now _ _ refl refl c.requires _ _ refl c.drop_chunks-gone.ensures.count_value

pub bounds-regions-2-2 : goal.bounds-regions-2-2
bounds-regions-2-2 c =
    let h = c.requires.regions_fit in
    simp length-set (omega arith)

pub returns : goal.returns
returns c = let a = c.args in
    let e = c.drop_chunks-gone.ensures in
    record { count_value = gone_count a.s a.spare a.chunks.now a.regions.now a.list.now _ _ refl refl _ e.count_value; bytes_value = gone_bytes a.s a.spare a.chunks.now a.regions.now a.list.now _ _ refl refl _ e.bytes_value; regions_after = gone_tables a.s a.spare a.chunks.now a.regions.now a.list.now _ _ refl refl _ _ _ _ _ _ _ _ _ e.chunks_value e.regions_value refl e.count_value e.chunks_after e.regions_after refl refl refl; list_after = gone_list a.s a.spare a.chunks.now a.regions.now a.list.now _ _ refl refl _ e.list_after }
