use Rattle.freelist_rules.specs.Threads.{threaded}
use mathlib.Core.Path.{refl}
use lib.ListN.{length-set}
use native.Mathlib.Omega.{arith}
use Rattle.freelist_place.proofs.threads.thread.Goals as goal

pub bounds-index-before : goal.bounds-index-before
bounds-index-before c = simp length-set (omega arith)

pub bounds-index-after-3 : goal.bounds-index-after-3
bounds-index-after-3 c = simp (length-set, length-set) (omega arith)

pub bounds-index-before-2 : goal.bounds-index-before-2
bounds-index-before-2 c = simp (length-set, length-set, length-set) (omega arith)

pub returns : goal.returns
unfolding threaded
returns c = refl
