use mathlib.Core.Path.{refl}
use Rattle.freelist_place.proofs.lending.loan_of.Goals as goal

pub returns : goal.returns
returns c = refl
