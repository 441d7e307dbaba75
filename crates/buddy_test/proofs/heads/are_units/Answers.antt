use mathlib.Core.Path.{◌≡◌, refl, sym, ap, ◌∙◌}
use mathlib.Core.Bool.{true}
use mathlib.Core.List.{[]}
use native.Mathlib.Omega.{arith}
use Rattle.buddy_levels.specs.Seen.{part_tables}
use Rattle.buddy_rules.specs.Test.{every, units_ok}
use Rattle.buddy_rules.proofs.Tests.{every_stop, every_next}
use Rattle.buddy_test.proofs.Parts.{units_told}
use Rattle.buddy_test.proofs.heads.are_units.Goals as goal

pub returns-then-not-is_units : goal.returns-then-not-is_units
returns-then-not-is_units c =
    let a = c.args in
    let e = units_told a.s c.loop-k.k a.loans.now c.loan_in.result c.loan_in.ensures (omega (arith, c.loop-k-test.true, c.requires.2)) c.is_units.result c.is_units.ensures in
    sym (every_stop (units_ok a.s (part_tables 0 a.loans.now [] [] [])) a.n c.loop-k.k c.loop-k-test.true (sym e ∙ c.if-not-is_units.true))

pub loop-k-preserved : goal.loop-k-preserved
loop-k-preserved c =
    let a = c.args in
    let e = units_told a.s c.loop-k.k a.loans.now c.loan_in.result c.loan_in.ensures (omega (arith, c.loop-k-test.true, c.requires.2)) c.is_units.result c.is_units.ensures in
    every_next (units_ok a.s (part_tables 0 a.loans.now [] [] [])) c.loop-k.k c.loop-k.invariant (sym e ∙ c.if-not-is_units.false)
