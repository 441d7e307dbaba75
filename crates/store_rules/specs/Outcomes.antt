-- What a call of either engine leaves: what it says, the account, and the lent tables; a return and a clean-up leave the
-- release list too.
use Rattle.std.specs.Prelude.{Bool, List, ℕ, leb, length}
use Rattle.counter.specs.Paper.{Said}
use Rattle.counter.specs.Paper as Paper
use Rattle.counter.specs.declared.account.Account.{Account}
use Rattle.counter.specs.declared.settings.StoreSettings.{StoreSettings}
pub use Rattle.store_rules.specs.Shares.{with_order}
unfoldable pub use Rattle.store_rules.specs.Shares.{charged_account, back_account, lost_account, released_account}
use Rattle.store_rules.specs.declared.Loan.{Loan}

-- a block as it is told
abbrev pub block_said : Loan → Said
block_said l = Paper.block l.serial l.chunk l.offset l.size

-- how many memory numbers the caller is to free: those that are released, or given back with a refusal
abbrev pub to_free : Said → ℕ
to_free Paper.ready = 0
to_free (Paper.block serial chunk offset size) = 0
to_free (Paper.order store size memtype map) = 0
to_free (Paper.released n) = n
to_free Paper.ranked = 0
to_free (Paper.refusal n back) = length back

pub record Out (T : Type 0) : Type 0 where
  pub said : Said
  pub account : Account
  pub tables : T

abbrev pub out : {T : Type 0} → Said → Account → T → Out T
out s a t = record { said = s; account = a; tables = t }

pub record Listed (T : Type 0) : Type 0 where
  pub said : Said
  pub account : Account
  pub tables : T
  pub list : List ℕ

abbrev pub listed : {T : Type 0} → Said → Account → T → List ℕ → Listed T
listed s a t l = record { said = s; account = a; tables = t; list = l }

-- 1: a release list has to hold the chunk limit
abbrev pub list_ok : StoreSettings → List ℕ → Bool
list_ok s list = leb s.chunks (length list)
