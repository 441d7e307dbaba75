use mathlib.Core.Path.{sym, ap, ◌∙◌}
use Rattle.rounding_rules.proofs.Masks.{power_top}
use Rattle.buddy_levels.specs.Sides.{side_said}
use Rattle.buddy_lend.proofs.Lent.{left_from, right_from}
use Rattle.buddy_lend.proofs.lending.side_from.Goals as goal

pub returns-in-Left : goal.returns-in-Left
returns-in-Left c = let a = c.args in left_from a.s.minimal a.e a.level (ap side_said (sym c.in-Left.is) ∙ c.side_of.ensures)

pub node_bytes-requires : goal.node_bytes-requires
node_bytes-requires c = (power_top c.requires.0.minimal, c.requires.1)

pub returns-in-Right : goal.returns-in-Right
returns-in-Right c = let a = c.args in right_from a.s.minimal a.e a.level (ap side_said (sym c.in-Right.is) ∙ c.side_of.ensures) _ c.node_bytes.ensures.value
