use mathlib.Core.Path.{◌∙◌}
use Rattle.buddy_decide.proofs.Asking.{all_ones, size_to, size_over}
use Rattle.buddy_decide.proofs.asks.size_for.Goals as goal

pub raise_to_unit-requires : goal.raise_to_unit-requires
raise_to_unit-requires c = all_ones c.args.s c.requires.0 c.args.mask c.requires.1 _ c.mask_for.ensures

pub returns-in_err-raise_to_unit : goal.returns-in_err-raise_to_unit
returns-in_err-raise_to_unit c =
    c.from_residual.ensures ∙ size_over c.args.s c.args.size c.args.mask _ c.mask_for.ensures _ c.raise_to_unit.ensures c.in_err-raise_to_unit.was

pub returns : goal.returns
returns c =
    size_to c.args.s c.args.size c.args.mask _ c.mask_for.ensures _ c.raise_to_unit.ensures _ c.in_ok-raise_to_unit.was _ c.raise_to_power.ensures
