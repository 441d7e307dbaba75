use mathlib.Core.Path.{refl, sym, ◌∙◌}
use lib.ListN.{length}
use Rattle.distinct.specs.Column.{column}
use Rattle.distinct.proofs.Order.{climbing_distinct, sorted_climbs, distinct_sorted}
use Rattle.distinct.proofs.all_differ.Goals as goal

pub returns-then-climbs : goal.returns-then-climbs
returns-then-climbs c =
    let a = c.args in
    let e = rw c.gather.ensures at c.climbs.ensures in
    ((λ yes. climbing_distinct (column a.t.now a.c.at a.c.width (length a.found.now)) (sym e ∙ c.if-climbs.true)), λ d. refl)

pub returns : goal.returns
returns c =
    let s = rw c.gather.ensures at c.sort.ensures in
    let e = c.climbs-2.ensures in
    ((λ yes. sorted_climbs s (sym e ∙ yes)), λ d. e ∙ distinct_sorted s d)
