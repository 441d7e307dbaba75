-- A call told of the store's share of an account does to that account what the call is defined to do.
use mathlib.Core.Path.{◌≡◌, refl, sym, subst, ◌∙◌}
use mathlib.Core.List.{List}
use Prim.Native.Nat.{ℕ}
use Rattle.counter.specs.Paper.{ask_said, deliver_said, release_said, AskAnswer, DeliverAnswer, ReleaseAnswer}
use Rattle.counter.specs.declared.account.Account.{Account}
use Rattle.counter.specs.declared.answers.Block.{Block}
use Rattle.counter.specs.declared.answers.Outcome.{Outcome}
use Rattle.counter.specs.declared.settings.FreeListSettings.{FreeListSettings}
use Rattle.store_rules.specs.Outcomes.{out, Listed, listed}
use Rattle.store_rules.specs.Shares.{share_of, with_share, ask_left}
use Rattle.store_rules.specs.Alike.{Alike, over_listed}
use Rattle.store_rules.proofs.Holders.{holding, holder}
use Rattle.store_rules.specs.declared.DeliveredShare.{DeliveredShare}
use Rattle.store_rules.specs.declared.ReleasedShare.{ReleasedShare}
use Rattle.store_rules.specs.declared.Share.{Share}
use Rattle.store_rules.proofs.Shares.{held_alike, holder_alike}
use Rattle.store.proofs.Wholes.{whole_ask, whole_deliver, whole_listed}
use Rattle.freelist_rules.specs.Tables.{Tables}
use Rattle.freelist_outcomes.specs.Ask.{ask_of}
use Rattle.freelist_outcomes.specs.Deliver.{deliver_of}
use Rattle.freelist_outcomes.specs.Return.{return_of, clean_up_of}
use Rattle.freelist_outcomes.proofs.Shares.{ask_alike, deliver_alike, return_alike, clean_up_alike}

module _ (s : FreeListSettings) (a : Account) (share : Share) (own : share ≡ share_of s.store a) (t t' : Tables) where
  abbrev b : Account
  b = holder s.store share

  alike : Alike s.store a b
  alike = subst (λ (x : Share). Alike s.store a (holder s.store x)) (sym own) (holder_alike s.store a)

  pub asked_whole : (size mask : ℕ) (r q : AskAnswer) (account : Account) → out (ask_said r) (ask_left b size mask (ask_said r)) t' ≡ ask_of s b size mask t
      → account ≡ ask_left a size mask (ask_said r) → q ≡ r → out (ask_said q) account t' ≡ ask_of s a size mask t
  asked_whole size mask r q account d e f =
      (λ j. out (ask_said (f j)) (e j) t')
      ∙ whole_ask s.store a (ask_said r) t' size mask b (ask_of s b size mask t) (ask_of s a size mask t) (ask_alike s a b alike size mask t) d

  -- with the order that is open
  pub delivered_whole : (o : Outcome) (r : DeliveredShare) (q : DeliverAnswer) (account : Account)
      → out (deliver_said r.answer) (holding s.store r.share r.order) t' ≡ deliver_of s (holding s.store share a.order) o t
      → account ≡ with_share s.store a r.share r.order → q ≡ r.answer → out (deliver_said q) account t' ≡ deliver_of s a o t
  unfolding holding
  delivered_whole o r q account d e f =
      let c = holding s.store share a.order in
      let same : Alike s.store a c =
      subst (λ (x : Share). Alike s.store a (holding s.store x a.order)) (sym own) (held_alike s.store a a.order refl) in
      (λ j. out (deliver_said (f j)) (e j) t')
      ∙ whole_deliver s.store a (deliver_said r.answer) t' r.share r.order (deliver_of s c o t) (deliver_of s a o t) (deliver_alike s a c same refl o t) d

  module _ (list list' : List ℕ) (r : ReleasedShare) (q : ReleaseAnswer) (account : Account)
      (e : account ≡ with_share s.store a r.share a.order) (f : q ≡ r.answer) where
    released_whole : (x y : Listed Tables) → y ≡ over_listed s.store a x → listed (release_said r.answer) (holder s.store r.share) t' list' ≡ x → listed (release_said q) account t' list' ≡ y
    released_whole x y g d =
        (λ j. listed (release_said (f j)) (e j) t' list') ∙ whole_listed s.store a (release_said r.answer) t' list' r.share x y g d

    pub returned_whole : (k : Block) → listed (release_said r.answer) (holder s.store r.share) t' list' ≡ return_of s b k t list → listed (release_said q) account t' list' ≡ return_of s a k t list
    returned_whole k = released_whole (return_of s b k t list) (return_of s a k t list) (return_alike s a b alike k t list)

    pub cleaned_whole : listed (release_said r.answer) (holder s.store r.share) t' list' ≡ clean_up_of s b t list → listed (release_said q) account t' list' ≡ clean_up_of s a t list
    cleaned_whole = released_whole (clean_up_of s b t list) (clean_up_of s a t list) (clean_up_alike s a b alike t list)
