use Rattle.std.proofs.Common.{sym, ap, ◌∙◌, arith}
use Rattle.std.specs.Prelude.{Ok}
use Rattle.freelist_decide.specs.declared.deciding.Plan.{Plan}
use Rattle.freelist_rules.specs.Seen.{seen}
use Rattle.freelist_rules.proofs.Tested.{tables_yes}
use Rattle.freelist_rules.proofs.Summing.{chunks_low}
use Rattle.freelist_decide.specs.Plans.{plan_of}
use Rattle.freelist_decide.proofs.Seeing.{sees}
use Rattle.freelist_gate.proofs.Arrivals.{kept_torn, kept_refused, kept_taken, kept_bought}
use Rattle.freelist_gate.proofs.deliveries.gate_kept.Goals as goal

pub returns-then-not-is_sound : goal.returns-then-not-is_sound
returns-then-not-is_sound c =
    let t = c.args.t.now in
    record { result_value = kept_torn t.settings c.args.h c.args.objects c.args.k (seen t) (sym c.is_sound.ensures ∙ c.if-not-is_sound.true); bought_for = tt }

pub decide-requires : goal.decide-requires
decide-requires c =
    let t = c.args.t.now in
    sees t.settings (seen t) t.in_table c.requires (tables_yes t.settings (seen t) t.in_table (sym c.is_sound.ensures ∙ c.if-not-is_sound.false))

pub gate_bought-requires : goal.gate_bought-requires
gate_bought-requires c =
    let t = c.args.t.now in
    let sound = tables_yes t.settings (seen t) t.in_table (sym c.is_sound.ensures ∙ c.if-not-is_sound.false) in
    (omega (arith, sound.chunks_fit, t.in_table.store.chunks_most_lem), chunks_low t.settings (seen t) t.in_table sound)

pub returns-in_default-clause-result_value : goal.returns-in_default-clause-result_value
returns-in_default-clause-result_value c =
    let t = c.args.t.now in
    kept_refused t.settings c.args.h c.args.objects c.args.k (seen t) (plan_of c.decide.result) _ (sym c.is_sound.ensures ∙ c.if-not-is_sound.false) (ap plan_of c.in_default.is) c.decide.ensures.result_value

pub returns-in-Take-clause-result_value : goal.returns-in-Take-clause-result_value
returns-in-Take-clause-result_value c =
    let t = c.args.t.now in
    kept_taken t.settings c.args.h c.args.objects c.args.k (seen t) (plan_of c.decide.result) _ (sym c.is_sound.ensures ∙ c.if-not-is_sound.false) (ap plan_of c.in-Ok.is ∙ ap (λ (p : Plan). plan_of (Ok p)) c.in-Take.is) c.decide.ensures.result_value

pub returns-in-Buy-clause-result_value : goal.returns-in-Buy-clause-result_value
returns-in-Buy-clause-result_value c =
    let t = c.args.t.now in
    kept_bought t.settings c.args.h c.args.objects c.args.k (seen t) (plan_of c.decide.result) _ _ (sym c.is_sound.ensures ∙ c.if-not-is_sound.false) (ap plan_of c.in-Ok.is ∙ ap (λ (p : Plan). plan_of (Ok p)) c.in-Buy.is) c.decide.ensures.result_value c.gate_bought.ensures.result_value
