use Rattle.std.proofs.Common.{◌-◌, ◌&&◌, eqb, ◌∙◌, le-ltb, lt-ltb}
use Rattle.words.proofs.Records.{cell_row}
use Rattle.freelist_rules.specs.Records.{region_words, region_chunk_at, region_end_at}
use Rattle.freelist_regions.proofs.joins.touches_before.Goals as goal

pub returns-then-k-gt0 : goal.returns-then-k-gt0
returns-then-k-gt0 c =
    let a = c.args in
    let x = c.word_at-chunk.ensures ∙ cell_row a.t.now region_chunk_at region_words (a.k - 1) in
    let y = c.word_at-end.ensures ∙ cell_row a.t.now region_end_at region_words (a.k - 1) in
    rw (lt-ltb _ _ c.if-k-gt0.true) (λ j. eqb (x j) a.b.chunk && eqb (y j) a.b.start)

pub returns-else-k-gt0 : goal.returns-else-k-gt0
returns-else-k-gt0 c = rw (le-ltb _ _ c.if-k-gt0.false)
