-- A plan is what follows the gate.
use mathlib.Core.Path.{◌≡◌, refl, sym, ap, ◌∙◌}
use mathlib.Core.Bool.{Bool, true, false, cond, ◌&&◌}
use mathlib.Core.List.{List, []}
use Prim.Native.Nat.{ℕ}
use native.Mathlib.Omega.{arith}
use lib.Dec.{eqb}
use Rattle.counter.specs.Gate.{Verdict, pass, refuse, gated}
use Rattle.counter.specs.declared.account.Account.{Account}
use Rattle.counter.specs.declared.account.Heap.{Heap}
use Rattle.counter.specs.declared.account.KeptOrder.{KeptOrder}
use Rattle.counter.specs.Open.{OpenOrder}
use Rattle.std.specs.Prelude.{Ok, None, Some}
use Rattle.counter.specs.declared.answers.Block.{Block}
use Rattle.counter.specs.declared.answers.Outcome.{Outcome}
use Rattle.counter.specs.declared.settings.BuddySettings.{BuddySettings}
use Rattle.store_rules.specs.Arrivals as Arrivals
use Rattle.store_rules.specs.Delivery.{Fate, buddy, delivery_ok, fate_of}
use Rattle.store_rules.specs.Orders.{Plan, deny}
use Rattle.store_rules.proofs.Holders.{holding, order_by, holder}
use Rattle.store_rules.specs.Tests.{no_order}
use Rattle.store_rules.specs.declared.Share.{Share}
use Rattle.store_rules.proofs.Shares.{held_heap}
use Rattle.store.specs.Comings.{coming_of}
use Rattle.store.specs.declared.comings.Coming.{Coming}
use Rattle.book_rules.specs.Returns as Returns
use Rattle.buddy_rules.specs.Tables.{Tables, tables, chunk_places_in, memories}
use Rattle.buddy_rules.specs.Test.{sound_ok}
use Rattle.buddy_outcomes.specs.Ask.{decide_ask, plan_ask}
use Rattle.buddy_outcomes.specs.Deliver.{decide_deliver, deliver_gate_of, plan_deliver}
use Rattle.buddy_outcomes.specs.Gate.{in_table_ok, account_ok, gate_of}
use Rattle.buddy_outcomes.specs.Return.{on_loan_ok, decide_return, plan_return}
use Rattle.buddy_outcomes.proofs.Passing.{gate_passed}
use Rattle.buddy_outcomes.proofs.Sounds.{gate_number}
use Rattle.buddy_decide.specs.declared.plans.Buying.{Buying}
use Rattle.buddy_decide.proofs.Known.{seen, memories_same}
use Rattle.buddy_gate.specs.Gates.{KeptBuys}
use Rattle.buddy.specs.Ready.{ComingBuys}

module _ (s : BuddySettings) (a : Account) (t : Tables) where
  pub ask_shut : (size mask n : ℕ) → refuse n ≡ gate_of s a t true → deny n ≡ plan_ask s a size mask t
  unfolding plan_ask
  ask_shut size mask n e = rw (sym e) refl

  -- none of the gate's numbers is 9
  pub shut_number : (list : Bool) (n : ℕ) → gate_of s a t list ≡ refuse n → eqb n 9 ≡ false
  unfolding gate_of
  shut_number list n g = gate_number (in_table_ok s a t && list) (no_order a.order) (sound_ok s t) (account_ok s a t) n g

pub ask_go : (s : BuddySettings) (share : Share) (size mask : ℕ) (t : Tables) (p : Plan ℕ) → pass ≡ gate_of s (holder s.store share) t true
    → p ≡ decide_ask s share.heap share.objects size mask t → p ≡ plan_ask s (holder s.store share) size mask t
unfolding plan_ask holding
ask_go s share size mask t p g e =
    let below = (gate_passed s (holder s.store share) t true g).lent.settings.store.heap in
    e
    ∙ ap (λ (x : Heap). decide_ask s x share.objects size mask t) (sym (held_heap s.store share (order_by share.idle) below))
    ∙ rw (sym g) refl

-- ---- a delivery

module _ (s : BuddySettings) (share : Share) (order : OpenOrder) (o : Outcome) (t : Tables) where
  abbrev whole : Account
  whole = holding s.store share order

  pub deliver_shut : (v : Verdict) (n : ℕ) → v ≡ refuse n → v ≡ deliver_gate_of s whole t → Arrivals.deny n ≡ plan_deliver s whole o t
  unfolding plan_deliver
  deliver_shut v n e f = rw (sym f ∙ e) refl

  -- the memories, as the code reads them
  abbrev few : Tables
  few = seen t.chunks

  pub deliver_go : (v : Verdict) (p : Arrivals.Arrival) → v ≡ pass → v ≡ deliver_gate_of s whole t → p ≡ decide_deliver o (memories few (chunk_places_in t)) order → p ≡ plan_deliver s whole o t
  unfolding plan_deliver holding
  deliver_go v p e f g =
      g
      ∙ ap (λ (m : List ℕ). decide_deliver o m order) (memories_same few t refl (chunk_places_in t))
      ∙ rw (sym f ∙ e) refl

deny_go : {A : Type 0} (n : ℕ) (k : KeptOrder) (f : Fate) → Arrivals.deny n ≡ Arrivals.go k f → A
deny_go n k f e = let z : ◌≡◌ {A = ℕ} 0 1 = cc in absurd (omega arith)

same_go : (j k : KeptOrder) (e f : Fate) → Arrivals.go j e ≡ Arrivals.go k f → j ≡ k
same_go j k e f p = cc

pub gated_go : (v : Verdict) (p : Arrivals.Arrival) (k : KeptOrder) (f : Fate) → gated Arrivals.deny v p ≡ Arrivals.go k f → (v ≡ pass) × (p ≡ Arrivals.go k f)
gated_go pass p k f e = (refl, e)
gated_go (refuse n) p k f e = deny_go n k f e

pub decided_go : (o : Outcome) (held : List ℕ) (order : OpenOrder) (k : KeptOrder) (f : Fate) → decide_deliver o held order ≡ Arrivals.go k f → order ≡ Some k
decided_go o held None k f e = deny_go 2 k f e
decided_go o held (Some j) k f e = by (delivery_ok j.order.map held o) e
  where
    by : (b : Bool) → cond b (Arrivals.go j (fate_of buddy o)) (Arrivals.deny 13) ≡ Arrivals.go k f → Some j ≡ Some k
    by true p = ap Some (same_go j k (fate_of buddy o) f p)
    by false p = deny_go 13 k f p

-- the order that the outcome came to is the one that was open
pub coming_buys : (s : BuddySettings) (order : OpenOrder) (t : Tables) (b : Buying) (c : Coming) → ((k : KeptOrder) (f : Fate) → coming_of (Ok c) ≡ Arrivals.go k f → order ≡ Some k)
    → ((k : KeptOrder) → order ≡ Some k → KeptBuys s k t b) → ComingBuys s t b c
coming_buys s order t b (Coming.Keep c) is has = has c.kept (is c.kept _ refl)
coming_buys s order t b (Coming.Lose c) is has = has c.kept (is c.kept _ refl)

-- ---- a return

module _ (s : BuddySettings) (a : Account) (b : Block) (t : Tables) (list : Bool) where
  pub return_shut : (n : ℕ) → refuse n ≡ gate_of s a t list → Returns.deny n ≡ plan_return s a b t list
  unfolding plan_return
  return_shut n e = rw (sym e) refl

  pub return_go : (p : Returns.Plan) → pass ≡ gate_of s a t list → p ≡ decide_return s b (tables [] t.loans [] t.index []) → p ≡ plan_return s a b t list
  unfolding plan_return decide_return on_loan_ok
  return_go p e d = d ∙ rw (sym e) refl
