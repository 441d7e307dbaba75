use borrow.Author.Rules.{rules}
use Rattle.store_accounts.proofs.Settling.{covers_is}
use Rattle.store_accounts.proofs.accounts.covers.Goals as goal

pub returns : goal.returns
returns c = let a = c.args in covers_is a.h a.objects a.chunks a.bytes _ (search rules) c.agrees.ensures
