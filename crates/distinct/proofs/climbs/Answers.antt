use lib.Dec.{ltb}
use Rattle.std.proofs.Common.{rules, refl}
use Rattle.std.proofs.lemmas.Fn.{always_returns_same}
use Rattle.distinct.proofs.Order.{climbing_told}
use Rattle.distinct.proofs.climbs.Goals as goal

pub returns : goal.returns
returns c = climbing_told c.args.a.now c.is_sorted_by.result (c.is_sorted_by.ensures.cases ltb (always_returns_same _ _ _ (λ a r f h. (search rules, refl))))
