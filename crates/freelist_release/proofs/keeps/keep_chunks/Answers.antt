use borrow.Author.Rules.{rules}
use native.Mathlib.Omega.{arith}
use mathlib.Core.Path.{◌∙◌}
use Rattle.freelist_release.proofs.Listing.{any_among}
use Rattle.words.specs.Rows.{rows}
use Rattle.freelist_rules.specs.Records.{chunk_row}
use Rattle.freelist_release.specs.Listed.{unlisted}
use Rattle.freelist_release.proofs.Keeping.{kept_none, kept_length}
use Rattle.freelist_release.proofs.Turns.{chunk_past, chunk_more, chunks_done}
use Rattle.freelist_release.proofs.keeps.keep_chunks.Goals as goal
use Rattle.freelist_release.proofs.keeps.keep_chunks.Goals.{then-not-contains, else-not-contains}

pub loop-i-init : goal.loop-i-init
loop-i-init c =
    let a = c.args in
    kept_none chunk_row (unlisted a.listed.now) (rows chunk_row a.k a.chunks.now) a.chunks.now (omega (arith, c.requires))

pub overflow_add-kept : goal.overflow_add-kept
overflow_add-kept c = omega (arith, c.loop-i.invariant.within)

pub loop-i-preserved : goal.loop-i-preserved
loop-i-preserved c =
    let a = c.args in
    let e = c.contains.ensures.value ∙ any_among c.chunk_at-c.result.memory a.listed.now in
    elim c.if-not-contains.branch [
      | then-not-contains w ↦ rw (w.chunks-is, w.kept-is) (chunk_more a.listed.now a.chunks.now a.k c.loop-i.chunks c.loop-i.i c.loop-i.kept c.loop-i.invariant (search rules) c.requires c.chunk_at-c.result c.chunk_at-c.ensures _ e w.if-not-contains.true _ w.put_chunk.ensures)
      | else-not-contains w ↦ rw (w.chunks-is, w.kept-is) (chunk_past a.listed.now a.chunks.now a.k c.loop-i.chunks c.loop-i.i c.loop-i.kept c.loop-i.invariant (search rules) c.requires c.chunk_at-c.result c.chunk_at-c.ensures _ e w.if-not-contains.false)
    ]

pub shape_of-chunks : goal.shape_of-chunks
shape_of-chunks c =
    let a = c.args in
    kept_length chunk_row (unlisted a.listed.now) (rows chunk_row a.k a.chunks.now) a.chunks.now c.loop-i.chunks c.loop-i.i c.loop-i.kept c.loop-i.invariant a.k (search rules) c.requires

pub returns : goal.returns
returns c = let a = c.args in let all = chunks_done a.listed.now a.chunks.now a.k c.loop-i.chunks c.loop-i.i c.loop-i.kept c.loop-i.invariant (search rules) in
    record { value = all.0; chunks_after = all.1 }
