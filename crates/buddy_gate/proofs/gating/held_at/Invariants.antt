use mathlib.Core.Path.{◌≡◌}
use Rattle.buddy_outcomes.specs.Gate.{held_count, held_bytes}
use Rattle.buddy_decide.proofs.Known.{seen}
use Rattle.buddy_gate.proofs.gating.held_at.Given as goal

abbrev pub invariant-loop-c : goal.invariant-loop-c
invariant-loop-c l = record { count : l.count ≡ held_count (seen l.chunks) l.c; bytes : l.bytes ≡ held_bytes (seen l.chunks) l.c }
