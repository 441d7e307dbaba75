use mathlib.Core.Path.{ap, ◌∙◌}
use mathlib.Core.Bool.{Bool}
use lib.ListN.{get_or}
use Rattle.words.specs.Rows.{rows}
use Rattle.store_rules.specs.Delivery.{free_list}
use Rattle.store.specs.Comings.{comes}
use Rattle.store.proofs.Comes.{comes_is}
use Rattle.freelist_rules.specs.Records.{chunk_row}
use Rattle.freelist_rules.specs.Tables.{chunks_at}
use Rattle.freelist_rules.specs.Walk.{memories}
use Rattle.freelist_decide.proofs.deliveries.decide_delivery.Goals as goal

pub returns : goal.returns
returns c =
    let a = c.args in
    c.come.ensures
    ∙ ap (λ (b : Bool). comes free_list a.o b a.order) c.is_known.ensures
    ∙ comes_is free_list a.o (memories (rows chunk_row (get_or a.chunks.now chunks_at 0) a.chunks.now)) a.order
