use native.Mathlib.Omega.{arith}
use Rattle.rounding_rules.proofs.Masks.{power_positive}
use Rattle.buddy_walk.specs.Views.{walk_settings, walk_tables}
use Rattle.buddy_walk.proofs.Downs.{loan_past, loan_met, loan_lost, some_left}
use Rattle.buddy_walk.proofs.walk.left_at_loan.Goals as goal

pub returns-then-loans-place : goal.returns-then-loans-place
returns-then-loans-place c =
    let a = c.args in
    λ l z. loan_past (walk_settings a.w.now) (walk_tables a.w.now) a.place a.chunk l a.offset a.node a.left c.if-loans-place.true

pub overflow_sub-result : goal.overflow_sub-result
overflow_sub-result c =
    let a = c.args in
    omega (arith, some_left a.left _ c.if-left-stands.true)

pub returns-then-left-stands : goal.returns-then-left-stands
returns-then-left-stands c =
    let a = c.args in
    λ l z.
    loan_met (walk_settings a.w.now) (walk_tables a.w.now) a.place a.chunk l a.offset a.node a.left a.size c.node_at-at.result
    (power_positive a.w.now.in_table.minimal) z c.if-loans-place.false c.node_at-at.ensures c.if-left-stands.true

pub returns-else-left-stands : goal.returns-else-left-stands
returns-else-left-stands c =
    let a = c.args in
    λ l z.
    loan_lost (walk_settings a.w.now) (walk_tables a.w.now) a.place a.chunk l a.offset a.node a.left a.size c.node_at-at.result
    (power_positive a.w.now.in_table.minimal) z c.if-loans-place.false c.node_at-at.ensures c.if-left-stands.false
