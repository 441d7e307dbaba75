use Rattle.std.proofs.Common.{rules}
use Rattle.freelist_regions.proofs.Cutting.{cut_short, cut_out}
use Rattle.freelist_regions.proofs.regions.cut_region.Goals as goal

pub returns-then-g-place : goal.returns-then-g-place
returns-then-g-place c = let a = c.args in let all = cut_short a.t.now a.n a.i a.place a.loan (search rules) (search rules) c.gap_at-g.result c.gap_at-g.ensures _ _ c.if-g-place.true c.end_at.ensures c.rename.ensures in
    record { value = all.0; t_after = all.1 }

pub returns-else-g-place : goal.returns-else-g-place
returns-else-g-place c = let a = c.args in let all = cut_out a.t.now a.n a.i a.place a.loan (search rules) (search rules) c.gap_at-g.result c.gap_at-g.ensures _ _ c.if-g-place.false c.close_row.ensures c.rename-else-g-place.ensures in
    record { value = all.0; t_after = all.1 }
