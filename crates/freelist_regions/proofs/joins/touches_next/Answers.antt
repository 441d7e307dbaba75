use Rattle.std.proofs.Common.{◌&&◌, eqb, ◌∙◌, le-ltb, lt-ltb}
use Rattle.words.proofs.Records.{cell_row}
use Rattle.freelist_rules.specs.Records.{region_words, region_chunk_at, region_start_at}
use Rattle.freelist_regions.proofs.joins.touches_next.Goals as goal

pub returns-then-k-n : goal.returns-then-k-n
returns-then-k-n c =
    let a = c.args in
    let x = c.word_at-chunk.ensures ∙ cell_row a.t.now region_chunk_at region_words a.k in
    let y = c.word_at-start.ensures ∙ cell_row a.t.now region_start_at region_words a.k in
    rw (lt-ltb _ _ c.if-k-n.true) (λ j. eqb a.b.chunk (x j) && eqb a.b.end (y j))

pub returns-else-k-n : goal.returns-else-k-n
returns-else-k-n c = rw (le-ltb _ _ c.if-k-n.false)
