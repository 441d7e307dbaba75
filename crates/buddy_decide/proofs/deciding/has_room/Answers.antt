use mathlib.Core.Path.{ap}
use mathlib.Core.Bool.{Bool, ◌&&◌}
use mathlib.Core.List.{[]}
use native.Mathlib.Omega.{arith}
use lib.Dec.{ltb}
use Rattle.buddy_decide.proofs.Tests.{pairs_are}
use Rattle.buddy_decide.proofs.deciding.has_room.Goals as goal

pub has_pairs-pairs-requires : goal.has_pairs-pairs-requires
has_pairs-pairs-requires c = let p = c.requires in record { pairs_le_pairs_most = (c.args.v.now.in_table.pairs_most_lem, omega (arith, c.word-levels.ensures, p.0.levels), omega (arith, p.1, p.2)); by_index = λ l h. p.0.takes l (omega (arith, h, c.word-levels.ensures)) }

pub returns : goal.returns
returns c =
    let a = c.args in
    ap (λ (b : Bool). ltb a.loan a.v.now.settings.store.loans && (ltb a.chunk a.v.now.settings.store.chunks && b))
    (pairs_are a.v.now.settings a.level a.v.now.head.now [] [] [] a.v.now.tree.now _ _ _ c.word-levels.ensures c.has_pairs-pairs.ensures)
