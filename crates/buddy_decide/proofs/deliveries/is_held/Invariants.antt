use mathlib.Core.Path.{◌≡◌}
use Rattle.store_rules.specs.Delivery.{holds}
use Rattle.buddy_rules.specs.Tables.{memories}
use Rattle.buddy_decide.proofs.Known.{seen}
use Rattle.buddy_decide.proofs.deliveries.is_held.Given as goal

abbrev pub invariant-loop-c : goal.invariant-loop-c
invariant-loop-c l = l.held ≡ holds l.memory (memories (seen l.chunks) l.c)
