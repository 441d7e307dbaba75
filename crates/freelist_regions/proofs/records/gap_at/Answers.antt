use Rattle.freelist_regions.proofs.Whole.{gap_read}
use Rattle.freelist_regions.proofs.records.gap_at.Goals as goal

pub returns : goal.returns
returns c =
    let a = c.args in
    gap_read a.t.now a.i _ _ _ _ c.word_at.ensures c.word_at-2.ensures c.word_at-3.ensures c.word_at-4.ensures
