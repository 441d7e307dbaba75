use Rattle.std.proofs.Common.{◌≡◌, ◌+◌, ◌-◌, ◌/◌, arith}
use Rattle.freelist_regions.proofs.Halves.{lowered, raised}
use Rattle.freelist_regions.specs.Seat.{reaches}
use Rattle.freelist_regions.proofs.Seating.{reach_yes, reach_not}
use Rattle.freelist_regions.proofs.seats.seat.Goals as goal

pub loop-lo-init : goal.loop-lo-init
loop-lo-init c = (omega arith, omega arith, (λ i h. absurd (omega arith)), (λ i h g. absurd (omega arith)))

pub loop-lo-preserved-then-number-c : goal.loop-lo-preserved-then-number-c
loop-lo-preserved-then-number-c c =
    let l = c.loop-lo in
    let mid = l.lo + (l.hi - l.lo) / 2 in (
      omega arith,
      omega arith,
      l.invariant.2,
      lowered (reaches c.args.t.now c.args.number) c.args.k mid c.requires (reach_yes c.args.t.now c.args.number mid _ c.cell-c.ensures c.if-number-c.true),
    )

pub loop-lo-preserved : goal.loop-lo-preserved
loop-lo-preserved c =
    let l = c.loop-lo in
    let mid = l.lo + (l.hi - l.lo) / 2 in (
      omega arith,
      omega arith,
      raised (reaches c.args.t.now c.args.number) c.args.k mid (omega arith) c.requires (reach_not c.args.t.now c.args.number mid _ c.cell-c.ensures c.if-number-c.false),
      l.invariant.3,
    )

pub returns : goal.returns
returns c =
    let l = c.loop-lo in
    let e : l.lo ≡ l.hi = omega arith in
    record { most = omega arith; below = l.invariant.2; above = λ i h g. l.invariant.3 i (omega arith) g }
