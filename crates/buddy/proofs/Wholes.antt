-- A call on an account is the call on the store's share of it, with the rest left as it was.
use mathlib.Core.Path.{◌≡◌, refl, ap, subst, ◌∙◌}
use mathlib.Core.List.{List}
use Prim.Native.Nat.{ℕ}
use Rattle.counter.specs.Paper.{Said}
use Rattle.counter.specs.declared.account.Account.{Account}
use Rattle.counter.specs.Open.{OpenOrder}
use Rattle.counter.specs.declared.answers.Block.{Block}
use Rattle.counter.specs.declared.answers.Outcome.{Outcome}
use Rattle.counter.specs.declared.settings.BuddySettings.{BuddySettings}
use Rattle.store_rules.specs.Outcomes.{out, listed}
use Rattle.store_rules.specs.Shares.{share_of, with_share, ask_left}
use Rattle.store_rules.proofs.Holders.{holding, holder}
use Rattle.store_rules.specs.declared.Share.{Share}
use Rattle.store_rules.proofs.Shares.{held_alike, holder_alike}
use Rattle.store.proofs.Wholes.{whole_ask, whole_deliver, whole_listed}
use Rattle.buddy_rules.specs.Tables.{Tables}
use Rattle.buddy_outcomes.specs.Ask.{ask_of}
use Rattle.buddy_outcomes.specs.Deliver.{deliver_of}
use Rattle.buddy_outcomes.specs.Return.{return_of}
use Rattle.buddy_outcomes.proofs.Shares.{ask_alike, deliver_alike, return_alike}

module _ (s : BuddySettings) (a : Account) (t t' : Tables) (share : Share) (own : share ≡ share_of s.store a) (account : Account) (said w : Said) (says : said ≡ w) where
  pub asked_whole : (size mask : ℕ) → out w (ask_left (holder s.store share) size mask w) t' ≡ ask_of s (holder s.store share) size mask t
      → account ≡ ask_left a size mask w → out said account t' ≡ ask_of s a size mask t
  asked_whole size mask e left =
      let b = holder s.store (share_of s.store a) in
      (λ j. out (says j) (left j) t')
      ∙ whole_ask s.store a w t' size mask b (ask_of s b size mask t) (ask_of s a size mask t) (ask_alike s a b (holder_alike s.store a) size mask t)
      (subst (λ (g : Share). out w (ask_left (holder s.store g) size mask w) t' ≡ ask_of s (holder s.store g) size mask t) own e)

  pub delivered_whole : (o : Outcome) (share' : Share) (order : OpenOrder) → out w (holding s.store share' order) t' ≡ deliver_of s (holding s.store share a.order) o t
      → account ≡ with_share s.store a share' order → out said account t' ≡ deliver_of s a o t
  unfolding holding
  delivered_whole o share' order e left =
      let b = holding s.store (share_of s.store a) a.order in
      (λ j. out (says j) (left j) t')
      ∙ whole_deliver s.store a w t' share' order (deliver_of s b o t) (deliver_of s a o t) (deliver_alike s a b (held_alike s.store a a.order refl) refl o t)
      (e ∙ ap (λ (g : Share). deliver_of s (holding s.store g a.order) o t) own)

  pub released_whole : (k : Block) (list list' : List ℕ) (share' : Share) → listed w (holder s.store share') t' list' ≡ return_of s (holder s.store share) k t list
      → account ≡ with_share s.store a share' a.order → listed said account t' list' ≡ return_of s a k t list
  released_whole k list list' share' e left =
      let b = holder s.store (share_of s.store a) in
      (λ j. listed (says j) (left j) t' list')
      ∙ whole_listed s.store a w t' list' share' (return_of s b k t list) (return_of s a k t list) (return_alike s a b (holder_alike s.store a) k t list)
      (e ∙ ap (λ (g : Share). return_of s (holder s.store g) k t list) own)
