use Rattle.counter.specs.Table.{store_ok}
use Rattle.counter.proofs.settings.StoreSettings.in_table.Goals as goal

pub returns : goal.returns
unfolding store_ok
returns c = rw c.is_ones.ensures
