use borrow.Author.Rules.{rules}
use native.Mathlib.Omega.{arith}
use mathlib.Core.Path.{refl}
use Rattle.freelist_place.proofs.Counting.{few, whole_few, appended_done}
use Rattle.freelist_place.proofs.counted.append.Goals as goal

pub bounds-regions-1 : goal.bounds-regions-1
bounds-regions-1 c =
    let h = c.requires.0.long in
    search rules

pub bounds-regions-2 : goal.bounds-regions-2
bounds-regions-2 c =
    let h = c.requires.0.long in
    search rules

pub put_gap-requires : goal.put_gap-requires
put_gap-requires c =
    let h = c.requires in
    omega (arith, h.0.long, h.1)

pub overflow_add-n : goal.overflow_add-n
overflow_add-n c =
    let a = c.args in
    let h = few a.s a.regions.now c.requires.0 _ refl in
    search rules

pub overflow_add-whole : goal.overflow_add-whole
overflow_add-whole c =
    let a = c.args in
    let h = whole_few a.s a.regions.now c.requires.0 _ refl _ refl c.requires.2 in
    search rules

pub count_regions-requires : goal.count_regions-requires
count_regions-requires c =
    let h = c.requires.0.long in
    search rules

pub returns : goal.returns
returns c =
    let a = c.args in
    appended_done a.s a.regions.now c.requires.0 _ refl a.g _ _ _ _ _ c.requires.1 refl c.put_gap.ensures refl refl c.count_regions.ensures
