-- Which loan a block is. 01, "When the counter says no": 7, "no loan has this serial, chunk, offset and size".
use Rattle.std.specs.Prelude.{cond, List, [], ◌∷◌, ℕ, ◌+◌}
use Rattle.counter.specs.declared.answers.Block.{Block}
use Rattle.store_rules.specs.declared.Loan.{Loan}
pub use Rattle.store_rules.specs.Views.{same_loan}
use Rattle.freelist_rules.specs.Place.{Found, nowhere, at}

unfoldable pub seek_from : Block → ℕ → List Loan → Found
seek_from b i [] = nowhere
seek_from b i (l ∷ ls) = cond (same_loan b l) (at i) (seek_from b (i + 1) ls)

abbrev pub seek : Block → List Loan → Found
seek b ls = seek_from b 0 ls
