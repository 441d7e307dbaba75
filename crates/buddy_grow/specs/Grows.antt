-- What the code that grows a store's levels to n asks for: no fewer than it has, and no more than a store can have.
use Rattle.std.specs.Prelude.{List, ℕ, ◌≤◌, get_or}
use Rattle.counter.specs.InTable.{BuddyIn}
use Rattle.counter.specs.Limits.{levels_most}
use Rattle.counter.specs.declared.settings.BuddySettings.{BuddySettings}
use Rattle.buddy_rules.specs.Tables.{levels_at}

pub record Grows (s : BuddySettings) (n : ℕ) (head : List ℕ) : Type 0 where
  pub fit : BuddyIn s
  pub low : n ≤ levels_most
  pub more : get_or head levels_at 0 ≤ n
