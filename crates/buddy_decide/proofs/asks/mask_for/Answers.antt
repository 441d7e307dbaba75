use mathlib.Core.Path.{ap, ◌∙◌}
use Prim.Native.Nat.{max}
use native.Mathlib.Omega.{arith}
use Rattle.rounding_rules.proofs.Masks.{power_positive}
use Rattle.buddy_decide.proofs.Asking.{unit_ones, minimal_ones, mask_ones, both_ones}
use Rattle.buddy_decide.proofs.asks.mask_for.Goals as goal

pub overflow_sub-s : goal.overflow_sub-s
overflow_sub-s c = omega (arith, power_positive c.requires.0.minimal)

pub join_masks-units-requires : goal.join_masks-units-requires
join_masks-units-requires c = (unit_ones c.args.s c.requires.0, minimal_ones c.args.s c.requires.0)

pub join_masks-requires : goal.join_masks-requires
join_masks-requires c =
    (mask_ones c.args.s c.requires.0 c.args.mask c.requires.1, both_ones c.args.s c.requires.0 _ c.join_masks-units.ensures)

pub returns : goal.returns
returns c = c.join_masks.ensures ∙ ap (max c.args.mask) c.join_masks-units.ensures
