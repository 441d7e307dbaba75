use mathlib.Core.Path.{ap, subst, sym, ◌∙◌}
use Rattle.std.specs.Prelude.{Ok, Err}
use Rattle.std.proofs.lemmas.Result.{err_from_is_err_and}
use Rattle.buddy_rules.specs.Seen.{seen}
use Rattle.buddy_decide.specs.Plans.{plan_of, Planned, TryOf}
use Rattle.buddy_decide.specs.declared.plans.Tried.{Tried}
use Rattle.buddy_decide.proofs.Tests.{look_buys}
use Rattle.buddy_decide.proofs.deciding.decide.Goals as goal

pub decide_buy-requires : goal.decide_buy-requires
decide_buy-requires c =
    let v = c.args.v.now in
    let f = subst (λ (r : Tried). TryOf v.settings c.args.size c.args.mask (seen v) (Ok r)) c.in-Need.is (c.in_ok-t.ensures v.chunks.now) in
    (c.requires, f.2, f.3, f.4)

pub returns-in_err-t : goal.returns-in_err-t
returns-in_err-t c =
    let v = c.args.v.now in
    let told = err_from_is_err_and c.from_residual.result c.from_residual.ensures.1 in
    let is = told.1 ∙ ap Err told.2 in
    let f = c.in_err-t.ensures v.chunks.now in
    record { result_value = ap plan_of is ∙ f.0 c.args.h c.args.objects; planned = subst (Planned v.settings c.args.size c.args.mask (seen v)) (sym is) f.1 }

pub returns-in-Take : goal.returns-in-Take
returns-in-Take c =
    let v = c.args.v.now in
    let f = subst (λ (r : Tried). TryOf v.settings c.args.size c.args.mask (seen v) (Ok r)) c.in-Take.is (c.in_ok-t.ensures v.chunks.now) in
    record { result_value = f.0 c.args.h c.args.objects; planned = f.1 }

pub returns-in-Need : goal.returns-in-Need
returns-in-Need c =
    let v = c.args.v.now in
    let f = subst (λ (r : Tried). TryOf v.settings c.args.size c.args.mask (seen v) (Ok r)) c.in-Need.is (c.in_ok-t.ensures v.chunks.now) in
    let all = look_buys v.settings c.args.size c.args.mask (seen v) _ c.args.h c.args.objects c.decide_buy.result f c.decide_buy.ensures.result_value c.decide_buy.ensures.planned_at in
    record { result_value = all.0; planned = all.1 }
