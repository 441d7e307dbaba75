use borrow.Author.Rules.{rules}
use mathlib.Core.Path.{◌≡◌}
use mathlib.Core.Bool.{Bool}
use mathlib.Core.List.{List}
use Prim.Native.Nat.{ℕ, ◌+◌, ◌*◌, ◌≤◌}
use native.Mathlib.Omega.{arith}
use lib.ListN.{length}
use Rattle.words.specs.Rows.{rows}
use Rattle.freelist_rules.specs.Records.{chunk_row, gap_row, region_words}
use Rattle.store_rules.specs.declared.Chunk.{Chunk}
use Rattle.freelist_rules.specs.Threads.{staying_gaps}
use Rattle.freelist_release.proofs.Keeping.{kept_none, kept_length}
use Rattle.freelist_release.proofs.Turns.{KeptRegions, region_past, region_more, regions_done}
use Rattle.freelist_release.proofs.keeps.keep_regions.Goals as goal
use Rattle.freelist_release.proofs.keeps.keep_regions.Goals.{then-not-goes_at, else-not-goes_at}

long : (cs : List Chunk) (spare : Bool) (t u : List ℕ) (n i kept : ℕ) → KeptRegions cs spare t n u i kept → i ≤ n → region_words + region_words * n ≤ length t → length u ≡ length t
long cs spare t u n i kept now h room = kept_length gap_row (staying_gaps cs spare) (rows gap_row n t) t u i kept now n h room

pub loop-i-init : goal.loop-i-init
loop-i-init c =
    let a = c.args in
    kept_none gap_row (staying_gaps (rows chunk_row a.k a.chunks.now) a.spare) (rows gap_row a.n a.regions.now) a.regions.now (omega (arith, c.requires.0))

-- the table is as long as it was

pub gap_at-g-requires : goal.gap_at-g-requires
gap_at-g-requires c =
    let a = c.args in
    omega (arith, c.requires.0, long (rows chunk_row a.k a.chunks.now) a.spare a.regions.now c.loop-i.regions a.n c.loop-i.i c.loop-i.kept c.loop-i.invariant (search rules) c.requires.0)

pub put_gap-requires : goal.put_gap-requires
put_gap-requires c =
    let a = c.args in
    omega (arith, c.requires.0, c.loop-i.invariant.within, long (rows chunk_row a.k a.chunks.now) a.spare a.regions.now c.loop-i.regions a.n c.loop-i.i c.loop-i.kept c.loop-i.invariant (search rules) c.requires.0)

pub overflow_add-kept : goal.overflow_add-kept
overflow_add-kept c = omega (arith, c.loop-i.invariant.within)

pub loop-i-preserved : goal.loop-i-preserved
loop-i-preserved c =
    let a = c.args in
    elim c.if-not-goes_at.branch [
      | then-not-goes_at w ↦ rw (w.regions-is, w.kept-is) (region_more (rows chunk_row a.k a.chunks.now) a.spare a.regions.now a.n c.loop-i.regions c.loop-i.i c.loop-i.kept c.loop-i.invariant (search rules) c.requires.0 _ c.goes_at.ensures w.if-not-goes_at.true w.gap_at-g.result w.gap_at-g.ensures _ w.put_gap.ensures)
      | else-not-goes_at w ↦ rw (w.regions-is, w.kept-is) (region_past (rows chunk_row a.k a.chunks.now) a.spare a.regions.now a.n c.loop-i.regions c.loop-i.i c.loop-i.kept c.loop-i.invariant (search rules) c.requires.0 _ c.goes_at.ensures w.if-not-goes_at.false)
    ]

pub shape_of-regions : goal.shape_of-regions
shape_of-regions c =
    let a = c.args in
    long (rows chunk_row a.k a.chunks.now) a.spare a.regions.now c.loop-i.regions a.n c.loop-i.i c.loop-i.kept c.loop-i.invariant (search rules) c.requires.0

pub returns : goal.returns
returns c = let a = c.args in let all = regions_done (rows chunk_row a.k a.chunks.now) a.spare a.regions.now a.n c.loop-i.regions c.loop-i.i c.loop-i.kept c.loop-i.invariant (search rules) in
    record { value = all.0; regions_after = all.1 }
