use Rattle.book.proofs.Striking.{struck_loans, struck_index_lem}
use Rattle.std.proofs.Common.{refl}
use Rattle.book.proofs.strike.Goals as goal

pub returns : goal.returns
returns c = let leads = c.requires.leads in record { loans_after = struck_loans _ _ _ _ _ leads c.vacate.ensures; index_after = struck_index_lem _ _ _ _ _ _ leads refl refl c.pass_over.ensures }
