use Rattle.std.proofs.Common.{◌≡◌}
use Rattle.words.specs.Rows.{rows}
use Rattle.store_rules.specs.Delivery.{holds}
use Rattle.freelist_rules.specs.Records.{chunk_row}
use Rattle.freelist_rules.specs.Walk.{memories}
use Rattle.freelist_decide.proofs.deliveries.is_held.Given as goal

abbrev pub invariant-loop-i : goal.invariant-loop-i
invariant-loop-i l = l.held ≡ holds l.memory (memories (rows chunk_row l.i l.chunks))
