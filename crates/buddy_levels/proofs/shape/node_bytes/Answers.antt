use Rattle.std.proofs.Common.{ℕ, ◌+◌, ◌^◌, ◌≤◌, sym, subst}
use Rattle.counter.specs.Limits.{levels_most, minimal_bits}
use Rattle.buddy_levels.proofs.Bounds.{node_bytes_is, node_bytes_most}
use Rattle.buddy_levels.proofs.shape.node_bytes.Goals as goal

pub returns : goal.returns
returns c = let a = c.args in
    let e = node_bytes_is a.minimal a.level c.requires.0 c.requires.1 in record { value = e; upper_bound = subst (λ (x : ℕ). x ≤ 2 ^ (minimal_bits + levels_most)) (sym e) (node_bytes_most a.minimal a.level c.requires.0 c.requires.1) }
