use mathlib.Core.Path.{ap}
use native.Mathlib.Omega.{arith}
use Prim.Native.Nat.{ℕ}
use lib.ListN.{set}
use Rattle.buddy_lend.proofs.booking.put_node.Goals as goal

pub bounds-index-at : goal.bounds-index-at
bounds-index-at c = omega (arith, c.node_at-at.ensures, c.requires.2)

pub returns : goal.returns
returns c =
    let a = c.args in
    ap (λ (at : ℕ). set a.index.now at a.node) c.node_at-at.ensures
