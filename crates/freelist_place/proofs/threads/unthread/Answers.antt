use Rattle.freelist_rules.specs.Threads.{unthreaded}
use mathlib.Core.Path.{refl}
use lib.ListN.{length-set}
use native.Mathlib.Omega.{arith}
use Rattle.freelist_place.proofs.threads.unthread.Goals as goal

pub bounds-index-before-2 : goal.bounds-index-before-2
bounds-index-before-2 c = simp length-set (omega arith)

pub returns : goal.returns
unfolding unthreaded
returns c = refl
