use Rattle.freelist_regions.proofs.stands.is_after.Goals as goal

pub returns : goal.returns
returns c = rw (c.word_at-p.ensures, c.word_at-c.ensures)
