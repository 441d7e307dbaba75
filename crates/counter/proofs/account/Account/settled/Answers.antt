use borrow.Author.Tests.{lt-ltb, le-ltb}
use Rattle.counter.proofs.account.Account.settled.Goals as goal

pub returns-then-i-lt-HEAPS : goal.returns-then-i-lt-HEAPS
returns-then-i-lt-HEAPS c = rw (lt-ltb _ _ c.if-i-lt-HEAPS.true)

pub returns-else-i-lt-HEAPS : goal.returns-else-i-lt-HEAPS
returns-else-i-lt-HEAPS c = rw (le-ltb _ _ c.if-i-lt-HEAPS.false)
