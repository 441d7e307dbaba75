use mathlib.Core.Path.{◌≡◌, sym, ◌∙◌}
use mathlib.Core.Bool.{true, false}
use Rattle.rounding_rules.specs.Masks.{power_ok}
use Rattle.counter.specs.Limits.{minimal_bits}
use Rattle.counter.specs.Table.{buddy_ok}
use Rattle.counter.proofs.Tables.{initial_most}
use Rattle.counter.proofs.settings.BuddySettings.in_table.Goals as goal

pub returns-then-is_power : goal.returns-then-is_power
unfolding buddy_ok
returns-then-is_power c =
    let m = c.args.self.minimal in
    let e : power_ok minimal_bits m ≡ true = sym c.is_power.ensures ∙ c.if-is_power.true in
    rw (e, initial_most m e, c.in_table.ensures, c.is_power-then-is_power.ensures)

pub returns-else-is_power : goal.returns-else-is_power
unfolding buddy_ok
returns-else-is_power c =
    let e : power_ok minimal_bits c.args.self.minimal ≡ false = sym c.is_power.ensures ∙ c.if-is_power.false in
    rw e
