-- What a call leaves of an account that holds a store's share and nothing else tells what it leaves of the account itself.
use mathlib.Core.Path.{◌≡◌, sym, ap, ◌∙◌}
use mathlib.Core.List.{List}
use Prim.Native.Nat.{ℕ}
use Rattle.counter.specs.Paper.{Said}
use Rattle.counter.specs.declared.account.Account.{Account}
use Rattle.counter.specs.Open.{OpenOrder}
use Rattle.counter.specs.declared.settings.StoreSettings.{StoreSettings}
use Rattle.store_rules.specs.Outcomes.{Out, out, Listed, listed}
use Rattle.store_rules.specs.Shares.{with_share, ask_left}
use Rattle.store_rules.specs.Alike.{over_ask, over_out, over_listed}
use Rattle.store_rules.proofs.Holders.{holding, order_by, holder}
use Rattle.store_rules.specs.declared.Share.{Share}
use Rattle.store_rules.proofs.Shares.{over_held}

module _ {T : Type 0} (s : StoreSettings) (a : Account) (said : Said) (t : T) where
  -- an ask: `r` is what it leaves of another account, `q` of this one
  pub whole_ask : (size mask : ℕ) (b : Account) (r q : Out T) → q ≡ over_ask size mask a r → out said (ask_left b size mask said) t ≡ r → out said (ask_left a size mask said) t ≡ q
  whole_ask size mask b r q d e = ap (over_ask size mask a) e ∙ sym d

  -- a delivery
  pub whole_deliver : (share : Share) (o : OpenOrder) (r q : Out T) → q ≡ over_out s a r → out said (holding s share o) t ≡ r → out said (with_share s a share o) t ≡ q
  unfolding holding
  whole_deliver share o r q d e = (λ j. out said (sym (over_held s a share o o) j) t) ∙ ap (over_out s a) e ∙ sym d

  -- a return and a clean-up
  pub whole_listed : (list : List ℕ) (share : Share) (r q : Listed T) → q ≡ over_listed s a r → listed said (holder s share) t list ≡ r → listed said (with_share s a share a.order) t list ≡ q
  whole_listed list share r q d e = (λ j. listed said (sym (over_held s a share (order_by share.idle) a.order) j) t list) ∙ ap (over_listed s a) e ∙ sym d
