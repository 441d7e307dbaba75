use mathlib.Core.Path.{refl}
use native.Mathlib.Omega.{arith}
use lib.ListN.{length-set}
use Rattle.freelist_place.proofs.counted.count_regions.Goals as goal

pub bounds-regions-2 : goal.bounds-regions-2
bounds-regions-2 c = simp length-set (omega arith)

pub returns : goal.returns
returns c = refl
