use native.Mathlib.Omega.{arith}
use lib.ListN.{length-set}
use Rattle.wire_rules.proofs.Heaps.{put_six}
use Rattle.wire_rules.proofs.Orders.{right_yes}
use Rattle.wire_account.proofs.put_heap.Goals as goal

pub bounds-w-at : goal.bounds-w-at
bounds-w-at c = omega (arith, (right_yes c.args.w.now c.requires.1).whole)

pub bounds-w-at-2 : goal.bounds-w-at-2
bounds-w-at-2 c = simp length-set (omega (arith, (right_yes c.args.w.now c.requires.1).whole))

pub bounds-w-at-3 : goal.bounds-w-at-3
bounds-w-at-3 c = simp length-set (omega (arith, (right_yes c.args.w.now c.requires.1).whole))

pub bounds-w-at-4 : goal.bounds-w-at-4
bounds-w-at-4 c = simp length-set (omega (arith, (right_yes c.args.w.now c.requires.1).whole))

pub bounds-w-at-5 : goal.bounds-w-at-5
bounds-w-at-5 c = simp length-set (omega (arith, (right_yes c.args.w.now c.requires.1).whole))

pub bounds-w-at-6 : goal.bounds-w-at-6
bounds-w-at-6 c = simp length-set (omega (arith, (right_yes c.args.w.now c.requires.1).whole))

pub returns : goal.returns
returns c = let a = c.args in put_six a.h a.i a.w.now
