use Rattle.std.proofs.Common.{sym, ◌∙◌}
use Rattle.words.specs.Rows.{rows}
use Rattle.freelist_rules.specs.Records.{chunk_row}
use Rattle.freelist_marks.proofs.Finding.{whole_late, whole_none, whole_some, whole_short}
use Rattle.freelist_marks.proofs.marks.whole_chunk.Goals as goal

pub returns-then-r-ne0 : goal.returns-then-r-ne0
returns-then-r-ne0 c =
    let a = c.args in
    whole_late (rows chunk_row a.k a.chunks.now) c.requires a.r c.if-r-ne0.true

pub returns-in_err-c : goal.returns-in_err-c
returns-in_err-c c =
    let a = c.args in
    c.from_residual.ensures ∙ whole_none (rows chunk_row a.k a.chunks.now) c.requires a.r c.if-r-ne0.false (sym c.find_chunk.ensures ∙ c.in_err-c.was)

pub returns-then-r-c : goal.returns-then-r-c
returns-then-r-c c =
    let a = c.args in
    whole_some (rows chunk_row a.k a.chunks.now) c.requires a.r c.if-r-ne0.false c.in_ok-c.c (sym c.find_chunk.ensures ∙ c.in_ok-c.was) c.if-r-c.true

pub returns-else-r-c : goal.returns-else-r-c
returns-else-r-c c =
    let a = c.args in
    whole_short (rows chunk_row a.k a.chunks.now) c.requires a.r c.if-r-ne0.false c.in_ok-c.c (sym c.find_chunk.ensures ∙ c.in_ok-c.was) c.if-r-c.false
