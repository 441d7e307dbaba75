use Rattle.freelist_regions.proofs.Whole.{gap_written}
use Rattle.freelist_regions.proofs.records.put_gap.Goals as goal

pub returns : goal.returns
returns c =
    let a = c.args in
    gap_written a.t.now a.i a.g _ _ _ _ c.put_word_at.ensures c.put_word_at-2.ensures c.put_word_at-3.ensures c.put_word_at-4.ensures
