use Rattle.words.specs.Rows.{rows}
use Rattle.freelist_rules.specs.Records.{chunk_row}
use Rattle.freelist_test.proofs.Groups.{apart_told, size_fails, each_fails, memories_left}
use Rattle.freelist_test.proofs.chunks.are_chunks.Goals as goal

pub returns-then-not-is_sized : goal.returns-then-not-is_sized
returns-then-not-is_sized c =
    let a = c.args in
    size_fails a.s a.made a.size (rows chunk_row a.k a.chunks.now) c.is_sized.result c.is_sized.ensures c.if-not-is_sized.true

pub returns-then-not-is_each : goal.returns-then-not-is_each
returns-then-not-is_each c =
    let a = c.args in
    each_fails a.s a.made a.size (rows chunk_row a.k a.chunks.now) c.is_sized.result c.is_each.result c.is_sized.ensures c.if-not-is_sized.false c.is_each.ensures c.if-not-is_each.true

pub returns : goal.returns
returns c =
    let a = c.args in
    let r = c.is_distinct.result in
    let d = c.is_distinct.ensures in
    memories_left a.s a.made a.size (rows chunk_row a.k a.chunks.now) c.is_sized.result c.is_each.result r c.is_sized.ensures c.if-not-is_sized.false c.is_each.ensures c.if-not-is_each.false (apart_told a.chunks.now a.k r d.0 d.1)
