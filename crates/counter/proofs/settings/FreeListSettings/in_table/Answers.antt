use mathlib.Core.Path.{◌≡◌, sym, ◌∙◌}
use mathlib.Core.Bool.{true, false}
use Rattle.counter.specs.Table.{store_ok, free_list_ok}
use Rattle.counter.proofs.Tables.{atom_multiple}
use Rattle.counter.proofs.settings.FreeListSettings.in_table.Goals as goal

pub returns-then-in_table : goal.returns-then-in_table
unfolding free_list_ok
returns-then-in_table c =
    let s = c.args.self in
    let e : store_ok s.store ≡ true = sym c.in_table.ensures ∙ c.if-in_table.true in
    rw (e, atom_multiple s.store s.start e, atom_multiple s.store s.last e)

pub returns-else-in_table : goal.returns-else-in_table
unfolding free_list_ok
returns-else-in_table c =
    let e : store_ok c.args.self.store ≡ false = sym c.in_table.ensures ∙ c.if-in_table.false in
    rw e
