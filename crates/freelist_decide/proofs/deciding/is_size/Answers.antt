use mathlib.Core.Path.{refl}
use Rattle.freelist_outcomes.specs.Ask.{size_ok}
use Rattle.freelist_decide.proofs.deciding.is_size.Goals as goal

pub returns : goal.returns
unfolding size_ok
returns c = refl
