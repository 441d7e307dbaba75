use Rattle.std.proofs.Common.{ℕ, ◌-◌, sym, ap, ◌∙◌, arith}
use Rattle.lists.proofs.Bools.{true_false}
use Rattle.slabs.specs.Slab.{vacant_at, link_at}
use Rattle.slabs.proofs.Steps.{parted_within, parted_over}
use Rattle.slabs.proofs.OffChain.{count_most}
use Rattle.slabs.proofs.test_parts.Goals as goal

pub returns-then-most-s-clause-used : goal.returns-then-most-s-clause-used
returns-then-most-s-clause-used c e = true_false _ e (parted_over _ _ _ _ c.if-most-s.true)

pub overflow_sub-result : goal.overflow_sub-result
overflow_sub-result c =
    let a = c.args in
    omega (arith, c.count_vacant-vacant.ensures, count_most (vacant_at a.records.now a.mark a.width) a.s.places)

pub returns-then-led-clause-used : goal.returns-then-led-clause-used
returns-then-led-clause-used c =
    let a = c.args in
    let parted = parted_within (vacant_at a.records.now a.mark a.width) (link_at a.links.now a.at a.step) a.s a.most _ _ c.if-most-s.false c.count_vacant-vacant.ensures c.chain_leads-led.ensures in
    (sym parted ∙ c.if-led.true, ap (λ (x : ℕ). a.s.places - x) c.count_vacant-vacant.ensures)

pub returns-else-led-clause-used : goal.returns-else-led-clause-used
returns-else-led-clause-used c e =
    let a = c.args in
    let parted = parted_within (vacant_at a.records.now a.mark a.width) (link_at a.links.now a.at a.step) a.s a.most _ _ c.if-most-s.false c.count_vacant-vacant.ensures c.chain_leads-led.ensures in
    true_false _ (parted ∙ e) c.if-led.false
