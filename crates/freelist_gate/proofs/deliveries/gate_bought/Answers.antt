use mathlib.Core.Path.{refl, sym, ◌∙◌}
use Rattle.freelist_gate.proofs.Arrivals.{bought_other, bought_short, bought_go, ordered_size}
use Rattle.freelist_gate.proofs.deliveries.gate_bought.Goals as goal

pub returns-then-not-is_still : goal.returns-then-not-is_still
returns-then-not-is_still c = let a = c.args in record { result_value = bought_other a.s a.h a.objects a.order a.b.order a.chunks.now (sym c.is_still.ensures ∙ c.if-not-is_still.true); bought_as = tt }

pub returns-then-not-is_covered : goal.returns-then-not-is_covered
returns-then-not-is_covered c = let a = c.args in record { result_value = bought_short a.s a.h a.objects a.order a.b.order a.chunks.now (sym c.is_still.ensures ∙ c.if-not-is_still.false) (sym c.is_covered.ensures ∙ c.if-not-is_covered.true); bought_as = tt }

pub returns : goal.returns
returns c = let a = c.args in
    let still = sym c.is_still.ensures ∙ c.if-not-is_still.false in record { result_value = bought_go a.s a.h a.objects a.order a.b.order a.chunks.now still (sym c.is_covered.ensures ∙ c.if-not-is_covered.false); bought_as = (refl, ordered_size a.s a.order a.b.order still) }
