-- What a call leaves of the words that a caller in another language lends: the answer as it is said, the account's words, and the
-- tables. Words that are no settings, account or outcome are refused as 1, and nothing changes.
use Rattle.std.specs.Prelude.{Bool, cond, List, [], ℕ}
use Rattle.counter.specs.Paper.{Said}
use Rattle.counter.specs.Paper as Paper
use Rattle.counter.specs.declared.account.Account.{Account}
use Rattle.wire_rules.specs.Wire.{account_out}

pub record Left (T : Type 0) : Type 0 where
  pub said : Said
  pub account : List ℕ
  pub tables : T

-- a call said this, and left this account and these tables
abbrev pub left : {T : Type 0} → List ℕ → Said → Account → T → Left T
left w said a t = record { said = said; account = account_out a w; tables = t }

abbrev pub untouched : {T : Type 0} → List ℕ → T → Left T
untouched w t = record { said = Paper.refusal 1 []; account = w; tables = t }

-- where the words are right the call is made
abbrev pub lent_right : {T : Type 0} → Bool → List ℕ → T → Left T → Left T
lent_right ok w t l = cond ok l (untouched w t)
