use Rattle.freelist_regions.specs.Ended.{ended_at}
use Rattle.freelist_regions.proofs.Whole.{end_written}
use Rattle.freelist_regions.proofs.records.end_at.Goals as goal

pub returns : goal.returns
unfolding ended_at
returns c = let a = c.args in end_written a.t.now a.i a.place _ c.put_word_at.ensures
