-- What the search upward yields: the head pair of the first level that is ready and that level, or the size of the chunk to
-- order and the levels grown to.
use Rattle.std.specs.Prelude.{List, [], ℕ, ◌-◌}
use Rattle.buddy_rules.specs.Level.{ring_head}
use Rattle.buddy_levels.specs.Seen.{part_settings, level_part}
use Rattle.buddy_rules.specs.Tables.{level_from}
use Rattle.buddy_outcomes.specs.Ask as Ask
use Rattle.buddy_outcomes.specs.Ask.{search_from, grown_to, order_bytes}
use Rattle.buddy_decide.specs.declared.seeking.Found.{Found}
use Rattle.buddy_decide.specs.declared.seeking.Found.TheVariants.{At, Order}

module _ (minimal pairs level levels : ℕ) (tree : List ℕ) where
  abbrev pub yielded : Ask.Found → Found
  yielded Ask.nowhere = Order (order_bytes (part_settings minimal pairs 0) level (level_part levels [] tree)) (grown_to level (level_part levels [] tree))
  yielded (Ask.at i) = At (ring_head (level_from (part_settings minimal pairs 0) i) tree) i

  unfoldable pub sought : Found
  sought = yielded (search_from (part_settings minimal pairs 0) tree level (levels - level))
