use Rattle.std.proofs.Common.{arith, rules}
use Rattle.words.specs.Rows.{rows}
use Rattle.words.proofs.Records.{length_rows}
use Rattle.freelist_rules.specs.Records.{chunk_row, gap_row}
use Rattle.freelist_rules.specs.Threads.{free_of}
use Rattle.freelist_rules.proofs.GapLists.{free_length}
use Rattle.freelist_marks.proofs.Marking.{marking_none, marking_done, marking_length, marking_room, marking_turns, marking_stays, marking_goes}
use Rattle.freelist_marks.proofs.marks.mark.Goals as goal
use Rattle.freelist_marks.proofs.marks.mark.Goals.{in-Some, in-None}

pub loop-i-init : goal.loop-i-init
loop-i-init c =
    let a = c.args in
    marking_none (rows chunk_row a.k a.chunks.now) a.spare (free_of (rows gap_row a.n a.regions.now)) a.list.now

pub overflow_add-m : goal.overflow_add-m
overflow_add-m c = omega (arith, c.loop-i.invariant.within)

pub overflow_add-bytes : goal.overflow_add-bytes
overflow_add-bytes c =
    let a = c.args in
    omega (
      arith,
      c.loop-i.invariant.within,
      c.requires.k_in_bounds,
      marking_room (rows chunk_row a.k a.chunks.now) a.spare a.regions.now a.n c.loop-i.i (search rules) a.list.now c.requires.releasable
          (omega (arith, length_rows chunk_row a.k a.chunks.now, c.requires.k_in_bounds)) c.loop-i.list c.loop-i.m c.loop-i.bytes c.loop-i.invariant c.going_at.result c.going_at.ensures c.in-Some.c c.in-Some.is,
    )

pub turn-requires : goal.turn-requires
turn-requires c =
    let a = c.args in
    marking_turns (rows chunk_row a.k a.chunks.now) a.spare a.regions.now a.n c.loop-i.i (search rules) a.list.now c.requires.releasable
    (omega (arith, length_rows chunk_row a.k a.chunks.now, c.requires.k_in_bounds)) c.loop-i.list c.loop-i.m c.loop-i.bytes c.loop-i.invariant

pub loop-i-preserved : goal.loop-i-preserved
loop-i-preserved c =
    let a = c.args in
    elim c.match-going_at.branch [
      | in-Some w ↦ rw (w.list-is, w.m-is, w.bytes-is) (marking_goes (rows chunk_row a.k a.chunks.now) a.spare a.regions.now a.n c.loop-i.i (search rules) a.list.now c.requires.releasable
          (omega (arith, length_rows chunk_row a.k a.chunks.now, c.requires.k_in_bounds)) c.loop-i.list c.loop-i.m c.loop-i.bytes c.loop-i.invariant c.going_at.result c.going_at.ensures w.in-Some.c w.in-Some.is _ w.put.ensures)
      | in-None w ↦ rw (w.list-is, w.m-is, w.bytes-is) (marking_stays (rows chunk_row a.k a.chunks.now) a.spare a.regions.now a.n c.loop-i.i (search rules) a.list.now c.requires.releasable
          (omega (arith, length_rows chunk_row a.k a.chunks.now, c.requires.k_in_bounds)) c.loop-i.list c.loop-i.m c.loop-i.bytes c.loop-i.invariant c.going_at.result c.going_at.ensures w.in-None.is _ w.turn.ensures)
    ]

pub shape_of-list : goal.shape_of-list
shape_of-list c =
    let a = c.args in
    marking_length (rows chunk_row a.k a.chunks.now) a.spare (free_of (rows gap_row a.n a.regions.now)) a.list.now c.loop-i.list c.loop-i.i c.loop-i.m c.loop-i.bytes c.loop-i.invariant

pub returns : goal.returns
returns c = let a = c.args in
    let d = marking_done (rows chunk_row a.k a.chunks.now) a.spare (free_of (rows gap_row a.n a.regions.now)) a.list.now c.loop-i.list c.loop-i.i c.loop-i.m c.loop-i.bytes (omega (arith, free_length (rows gap_row a.n a.regions.now), length_rows gap_row a.n a.regions.now)) c.loop-i.invariant in record { count_value = d.0; bytes_value = d.1; list_after = d.2 }
