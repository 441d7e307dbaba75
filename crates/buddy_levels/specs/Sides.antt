-- The code's word for a side of a pair.
use Rattle.buddy_rules.specs.Nodes.{Side, L, R}
use Rattle.buddy_levels.specs.declared.sides.Side as Code
use Rattle.buddy_levels.specs.declared.sides.Side.TheVariants.{Left, Right}

abbrev pub side_said : Code.Side → Side
side_said Left = L
side_said Right = R
