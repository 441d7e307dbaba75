-- The tests of a delivery's gate in the code's order come to the gate that is defined.
use mathlib.Core.Path.{◌≡◌, refl, sym, ap, subst, ◌∙◌}
use mathlib.Core.Bool.{Bool, true, false}
use Prim.Native.Nat.{ℕ}
use Rattle.counter.specs.Gate.{Verdict, pass, refuse}
use Rattle.counter.specs.declared.account.Account.{Account}
use Rattle.counter.specs.declared.account.Heap.{Heap}
use Rattle.counter.specs.declared.account.KeptOrder.{KeptOrder}
use Rattle.counter.specs.Open.{OpenOrder}
use Rattle.std.specs.Prelude.{None, Some}
use Rattle.counter.specs.declared.settings.BuddySettings.{BuddySettings}
use Rattle.store_rules.specs.Orders.{leads_to}
use Rattle.store_rules.proofs.Holders.{holding, order_by, holder}
use Rattle.store_rules.specs.Tests.{open_for}
use Rattle.store_rules.specs.declared.Share.{Share}
use Rattle.store_rules.proofs.Shares.{held_heap}
use Rattle.buddy_rules.specs.Tables.{Tables}
use Rattle.buddy_rules.specs.Test.{sound_ok}
use Rattle.buddy_outcomes.specs.Ask.{decide_ask}
use Rattle.buddy_outcomes.specs.Deliver.{still_ok, deliver_gate_of}
use Rattle.buddy_outcomes.specs.Gate.{in_table_ok, account_ok}
use Rattle.buddy_outcomes.proofs.Passing.{lent_in_lem}
use Rattle.std.specs.Prelude.{Result}
use Rattle.counter.specs.declared.refusal.Refusal.{Refusal}
use Rattle.buddy_decide.specs.declared.plans.Buying.{Buying}
use Rattle.buddy_gate.specs.Gates.{kept_gate, PassingBuys, OpenBuys}
use Rattle.buddy_gate.proofs.Gates.{covered, covered_same, lent_held}

-- ---- the gate

module _ (s : BuddySettings) (h : Heap) (objects : ℕ) (k : KeptOrder) (t : Tables) where
  abbrev pub still : Bool
  still = leads_to s.store k.order (decide_ask s h objects k.ask.size k.ask.mask t)

  pub kept_torn : sound_ok s t ≡ false → refuse 3 ≡ kept_gate s h objects k t
  unfolding kept_gate
  kept_torn e = rw e refl

  pub kept_other : sound_ok s t ≡ true → still ≡ false → refuse 3 ≡ kept_gate s h objects k t
  unfolding kept_gate
  kept_other e f = rw (e, f) refl

  pub kept_short : sound_ok s t ≡ true → still ≡ true → covered s h objects t ≡ false → refuse 4 ≡ kept_gate s h objects k t
  unfolding kept_gate
  kept_short e f g = rw (e, f, sym (covered_same s h objects t) ∙ g) refl

  pub kept_go : sound_ok s t ≡ true → still ≡ true → covered s h objects t ≡ true → pass ≡ kept_gate s h objects k t
  unfolding kept_gate
  kept_go e f g = rw (e, f, sym (covered_same s h objects t) ∙ g) refl

-- told of the share, whatever order is open
module _ (s : BuddySettings) (share : Share) (o : OpenOrder) (t : Tables) where
  abbrev lent : Bool
  lent = in_table_ok s (holder s.store share) t

  abbrev held : Account
  held = holding s.store share o

  lent_same : (b : Bool) → lent ≡ b → in_table_ok s held t ≡ b
  lent_same b e = lent_held s t share o (order_by share.idle) ∙ e

  pub delivery_lent : lent ≡ false → refuse 1 ≡ deliver_gate_of s held t
  unfolding deliver_gate_of
  delivery_lent e = rw (lent_same false e) refl

  pub delivery_order : lent ≡ true → open_for s.store.number o ≡ false → refuse 2 ≡ deliver_gate_of s held t
  unfolding deliver_gate_of holding
  delivery_order e f = rw (lent_same true e, f) refl

  -- no order is open
  pub delivery_none : lent ≡ true → o ≡ None → refuse 2 ≡ deliver_gate_of s held t
  delivery_none e f = delivery_order e (ap (open_for s.store.number) f)

  pub delivery_kept : (v : Verdict) (k : KeptOrder) → lent ≡ true → open_for s.store.number o ≡ true → o ≡ Some k → v ≡ kept_gate s share.heap share.objects k t → v ≡ deliver_gate_of s held t
  unfolding deliver_gate_of kept_gate account_ok holding
  delivery_kept v k e f d g =
      let below = (lent_in_lem s (holder s.store share) t e).settings.store.heap in
      g
      ∙ ap (λ (x : Heap). kept_gate s x share.objects k t) (sym (held_heap s.store share o below))
      ∙ rw (lent_same true e, f, ap (still_ok s held t) d) refl

-- ---- of the order that is open

kept_kept : (j k : KeptOrder) → Some j ≡ Some k → j ≡ k
kept_kept j k e = cc

pub open_kept : (s : BuddySettings) (order : OpenOrder) (t : Tables) (k : KeptOrder) (p : Result Buying Refusal) → order ≡ Some k → PassingBuys s k t p → OpenBuys s order t p
open_kept s order t k p e b j f = subst (λ (x : KeptOrder). PassingBuys s x t p) (kept_kept k j (sym e ∙ f)) b
