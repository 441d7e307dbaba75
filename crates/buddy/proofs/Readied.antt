-- Where a call is carried out its gate has passed, and so its tables are ready for it.
use mathlib.Core.Path.{◌≡◌, refl, sym, ap, subst, ◌∙◌}
use mathlib.Core.Bool.{Bool, true, false, cond, ◌&&◌}
use mathlib.Core.Logic.{⊎_elim}
use mathlib.Core.List.{List, []}
use Prim.Native.Nat.{ℕ, ◌+◌, ◌≤◌}
use native.Mathlib.Omega.{arith}
use lib.Dec.{eqb}
use borrow.Author.Tests.{eq-eqb}
use Rattle.lists.proofs.Bools.{told, true_false, and_left, and_right}
use Rattle.counter.specs.Account.{heap_at}
use Rattle.counter.specs.Gate.{Verdict, pass, refuse, gated}
use Rattle.counter.specs.Limits.{objects_most}
use Rattle.counter.specs.declared.account.Account.{Account}
use Rattle.counter.specs.declared.account.KeptOrder.{KeptOrder}
use Rattle.std.specs.Prelude.{Some}
use Rattle.counter.specs.declared.answers.Block.{Block}
use Rattle.counter.specs.declared.answers.Outcome.{Outcome}
use Rattle.counter.specs.declared.settings.BuddySettings.{BuddySettings}
use Rattle.counter.proofs.Gates.{passed}
use Rattle.store_rules.specs.Delivery.{Fate}
use Rattle.store_rules.specs.Orders.{Plan, deny, take, buy}
use Rattle.store_rules.specs.Outcomes.{list_ok}
use Rattle.store_rules.proofs.Holders.{holding, holder}
use Rattle.store_rules.specs.Tests.{open_for, gate_row}
use Rattle.store_rules.specs.declared.Share.{Share}
use Rattle.store_rules.proofs.Refused.{leads_buy}
use Rattle.counter.specs.declared.account.Order.{Order}
use Rattle.buddy_rules.specs.Tables.{Tables, tables, chunk_places_in, memories}
use Rattle.buddy_rules.specs.Test.{sound_ok}
use Rattle.buddy_rules.proofs.Decides.{tables_yes}
use Rattle.buddy_outcomes.specs.Gate.{in_table_ok, account_ok, gate_of}
use Rattle.buddy_outcomes.specs.Ask as Ask
use Rattle.buddy_outcomes.specs.Ask.{size_for, level_for, grown_to, grown_tables, decide_ask, plan_ask}
use Rattle.buddy_outcomes.specs.Deliver as Deliver
use Rattle.buddy_outcomes.specs.Deliver.{still_ok, deliver_gate_of, decide_deliver, plan_deliver}
use Rattle.buddy_outcomes.specs.Return as Return
use Rattle.buddy_outcomes.specs.Return.{word_for, on_loan_ok, climb_for, decide_return, plan_return}
use Rattle.buddy_outcomes.proofs.Passing.{Passed, gate_passed, lent_in_lem}
use Rattle.store.specs.Comings.{coming_of}
use Rattle.store.specs.declared.comings.Coming.{Coming}
use Rattle.returning.specs.Backs.{back_of}
use Rattle.buddy_decide.specs.Plans.{plan_of, Planned}
use Rattle.buddy_decide.specs.declared.plans.Buying.{Buying}
use Rattle.std.specs.Prelude.{Result, Ok, Err}
use Rattle.counter.specs.declared.refusal.Refusal.{Refusal}
use Rattle.buddy_decide.specs.declared.plans.Plan as Decided
use Rattle.buddy_decide.specs.declared.plans.Plan.TheVariants as Decides
use Rattle.buddy_gate.specs.Gates.{KeptBuys}
use Rattle.buddy_moves.specs.Ready.{Lends, Serves, Backs}
use Rattle.buddy_moves.proofs.Backing.{backs_ready, gives_object}
use Rattle.buddy_moves.proofs.Lending.{lends_ready, lends_rest}
use Rattle.buddy_moves.proofs.Serving.{serves_ready}
use Rattle.buddy_moves.proofs.Sizing.{Late, grows_ready}
use Rattle.buddy_grow.specs.Grows.{Grows}
use Rattle.buddy.specs.Deliveries.{delivery_of}
use Rattle.buddy.specs.Ready.{AskReady, ComingBuys, Delivers, KeepReady, LoseReady, ComingReady, DeliverReady, ReturnReady}
use Rattle.buddy.proofs.Planned.{shut_number, gated_go, decided_go}

-- ---- an ask

abbrev kind_of : Plan ℕ → ℕ
kind_of (deny n) = 0
kind_of (take i) = 1
kind_of (buy z) = 2

abbrev number_in : Plan ℕ → ℕ
number_in (deny n) = n
number_in (take i) = 0
number_in (buy z) = 0

module _ (s : BuddySettings) (a : Account) (size mask : ℕ) (t : Tables) where
  abbrev decided : Plan ℕ
  decided = decide_ask s (heap_at a s.store.heap) a.objects size mask t

  -- none of the gate's numbers is 9
  not_shut : (p : Plan ℕ) → Late p → (n : ℕ) → eqb n 9 ≡ false → deny n ≡ p → ⊥
  not_shut (deny m) l n h f = true_false (eqb n 9) (eq-eqb n 9 (ap number_in f ∙ l)) h
  not_shut (take i) l n h f = let z : ◌≡◌ {A = ℕ} 0 1 = ap kind_of f in omega arith
  not_shut (buy z) l n h f = let y : ◌≡◌ {A = ℕ} 0 2 = ap kind_of f in omega arith

  went : (p : Plan ℕ) → Late p → plan_ask s a size mask t ≡ p → (gate_of s a t true ≡ pass) × (decided ≡ p)
  unfolding plan_ask
  went p late e = by (gate_of s a t true) refl e
    where
      by : (v : Verdict) → gate_of s a t true ≡ v → gated Ask.deny v decided ≡ p → (gate_of s a t true ≡ pass) × (decided ≡ p)
      by pass g f = (g, f)
      by (refuse n) g f = absurd (not_shut p late n (shut_number s a t true n g) f)

  -- the levels grown to n, which the ask needs
  ask_grows : (p : Plan ℕ) → Late p → plan_ask s a size mask t ≡ p → (n : ℕ) → n ≡ grown_to (level_for s size mask) t → Grows s n t.head
  ask_grows p late e n is =
      let w = went p late e in
      let P = gate_passed s a t true (sym w.0) in
      let r = grows_ready s (heap_at a s.store.heap) a.objects size mask t P.lent.settings P.sound p late w.1 in
      record { fit = P.lent.settings; low = omega (arith, is, r.1); more = omega (arith, is, r.0) }

  ask_lends : (i : ℕ) → plan_ask s a size mask t ≡ take i → Lends s (size_for s size mask) (level_for s size mask) i (tables [] t.loans [] t.index t.room)
  ask_lends i e =
      let w = went (take i) tt e in
      let P = gate_passed s a t true (sym w.0) in
      lends_rest s (size_for s size mask) (level_for s size mask) i t [] [] (lends_ready s (heap_at a s.store.heap) a.objects size mask t P.lent.settings P.lent.lengths P.sound i w.1)

  -- of the size and level that the plan tells
  ask_serves : (i z lev : ℕ) → plan_ask s a size mask t ≡ take i → z ≡ size_for s size mask → lev ≡ level_for s size mask → Lends s z lev i (tables [] t.loans [] t.index t.room)
  ask_serves i z lev e p q =
      subst (λ (x : ℕ). Lends s x lev i (tables [] t.loans [] t.index t.room)) (sym p)
      (subst (λ (x : ℕ). Lends s (size_for s size mask) x i (tables [] t.loans [] t.index t.room)) (sym q) (ask_lends i e))

  pub ask_ready : (p : Result Decided.Plan Refusal) → plan_of p ≡ plan_ask s a size mask t → Planned s size mask t p → AskReady s (tables t.head t.loans [] t.index t.room) p
  ask_ready (Err r) e k = tt
  ask_ready (Ok (Decides.Lack n)) e k = ask_grows (deny 9) refl (sym e) n k
  ask_ready (Ok (Decides.Take q)) e k = (ask_serves q.from q.size q.level (sym e) k.size k.level, k.pair, k.loan)
  ask_ready (Ok (Decides.Buy b)) e k = ask_grows (buy b.order) tt (sym e) b.levels k.levels

-- ---- a delivery

module _ (s : BuddySettings) (a : Account) (o : Outcome) (t : Tables) (k : KeptOrder) (f : Fate) (plan : plan_deliver s a o t ≡ Deliver.go k f) where
  arrived : (deliver_gate_of s a t ≡ pass) × (decide_deliver o (memories t (chunk_places_in t)) a.order ≡ Deliver.go k f)
  unfolding plan_deliver
  arrived = gated_go (deliver_gate_of s a t) (decide_deliver o (memories t (chunk_places_in t)) a.order) k f plan

  open_order : a.order ≡ Some k
  open_order = decided_go o (memories t (chunk_places_in t)) a.order k f arrived.1

  held : (in_table_ok s a t ≡ true) × ((sound_ok s t && still_ok s a t a.order) ≡ true)
  unfolding deliver_gate_of
  held =
      let w = passed (gate_row (in_table_ok s a t) (open_for s.store.number a.order) (sound_ok s t && still_ok s a t a.order) (account_ok s a t)) arrived.0 in
      (w.0, w.1.1.0)

  -- the kept ask leads to an order of the kept size
  bought : decide_ask s (heap_at a s.store.heap) a.objects k.ask.size k.ask.mask t ≡ buy k.order.size
  bought =
      let still : still_ok s a t (Some k) ≡ true = ap (still_ok s a t) (sym open_order) ∙ and_right (sound_ok s t) (still_ok s a t a.order) held.1 in
      let l = leads_buy s.store k.order (decide_ask s (heap_at a s.store.heap) a.objects k.ask.size k.ask.mask t) still in
      l.1 ∙ ap buy (sym (ap (λ (x : Order). x.size) l.2))

  abbrev lev : ℕ
  lev = level_for s k.ask.size k.ask.mask

  arrived_grows : (n : ℕ) → n ≡ grown_to lev t → Grows s n t.head
  arrived_grows n is =
      let P = lent_in_lem s a t held.0 in
      let sound = tables_yes s t P.settings (and_left (sound_ok s t) _ held.1) in
      let r = grows_ready s (heap_at a s.store.heap) a.objects k.ask.size k.ask.mask t P.settings sound (buy k.order.size) tt bought in
      record { fit = P.settings; low = omega (arith, is, r.1); more = omega (arith, is, r.0) }

  arrived_serves : (l n : ℕ) → l ≡ lev → n ≡ grown_to lev t → (memory : ℕ) → Serves s l memory k.order.size (grown_tables s n t)
  arrived_serves l n d e memory =
      let P = lent_in_lem s a t held.0 in
      let sound = tables_yes s t P.settings (and_left (sound_ok s t) _ held.1) in
      let r = serves_ready s (heap_at a s.store.heap) a.objects k.ask.size k.ask.mask t P.settings P.lengths sound k.order.size bought memory in
      subst (λ (x : ℕ). Serves s x memory k.order.size (grown_tables s n t)) (sym d)
      (subst (λ (x : ℕ). Serves s lev memory k.order.size (grown_tables s x t)) (sym e) r)

  arrived_keeps : (b : Buying) (memory : ℕ) → KeptBuys s k t b → KeepReady s k memory t b
  arrived_keeps b memory h = (h, arrived_grows b.levels h.levels, arrived_serves b.level b.levels h.level h.levels memory)

  arrived_loses : (b : Buying) → KeptBuys s k t b → LoseReady s k t b.levels
  arrived_loses b h = (h.levels, arrived_grows b.levels h.levels)

coming_ready : (s : BuddySettings) (a : Account) (o : Outcome) (t : Tables) (b : Buying) (c : Coming) → plan_deliver s a o t ≡ coming_of (Ok c) → ComingBuys s t b c → ComingReady s t b c
coming_ready s a o t b (Coming.Keep c) e h = arrived_keeps s a o t c.kept _ e b c.memory h
coming_ready s a o t b (Coming.Lose c) e h = arrived_loses s a o t c.kept _ e b h

pub deliver_ready : (s : BuddySettings) (a : Account) (o : Outcome) (t : Tables) (d : Result (Coming × Buying) Refusal) → plan_deliver s a o t ≡ delivery_of d → Delivers s t d → DeliverReady s t d
deliver_ready s a o t (Err r) e h = tt
deliver_ready s a o t (Ok p) e h = coming_ready s a o t p.1 p.0 e h

-- ---- a return

abbrev is_back : Return.Plan → Bool
is_back (Return.deny n) = false
is_back (Return.back w) = true

abbrev word_in : Return.Plan → ℕ
word_in (Return.deny n) = 0
word_in (Return.back w) = w

not_denied : (w n : ℕ) → Return.back w ≡ Return.deny n → ⊥
not_denied w n e = true_false true refl (ap is_back e)

module _ (s : BuddySettings) (a : Account) (b : Block) (t : Tables) (list : List ℕ) (w : ℕ) (e : Return.back w ≡ plan_return s a b t (list_ok s.store list)) where
  passes : pass ≡ gate_of s a t (list_ok s.store list)
  unfolding plan_return
  passes = by (gate_of s a t (list_ok s.store list)) e
    where
      by : (v : Verdict) → Return.back w ≡ gated Return.deny v (decide_return s b t) → pass ≡ v
      by pass p = refl
      by (refuse n) p = absurd (not_denied w n p)

  comes : Return.back w ≡ decide_return s b t
  unfolding plan_return
  comes = e ∙ ap (λ (v : Verdict). gated Return.deny v (decide_return s b t)) (sym passes)

  on_loan_lem : on_loan_ok s b t ≡ true
  unfolding decide_return
  on_loan_lem =
      ⊎_elim (λ o. o)
      (λ o. absurd (not_denied w 7 (comes ∙ ap (λ (x : Bool). cond x (Return.back (word_for s b t)) (Return.deny 7)) o)))
      (told (on_loan_ok s b t))

  word_is : w ≡ word_for s b t
  unfolding decide_return
  word_is = ap word_in (comes ∙ ap (λ (x : Bool). cond x (Return.back (word_for s b t)) (Return.deny 7)) on_loan_lem)

  abbrev gate : Passed s a t (list_ok s.store list)
  gate = gate_passed s a t (list_ok s.store list) passes

  returned_backs : Backs s b w t
  returned_backs = subst (λ (x : ℕ). Backs s b x t) (sym word_is) (backs_ready s b t gate.lent.settings gate.lent.lengths gate.sound on_loan_lem)

  returned_object : (climb_for s b w t).freed ≡ true → a.objects + 1 ≤ objects_most
  returned_object f = gives_object s a b t (list_ok s.store list) gate on_loan_lem (subst (λ (x : ℕ). (climb_for s b x t).freed ≡ true) word_is f)

-- of a share
returned_held : (s : BuddySettings) (share : Share) (b : Block) (t : Tables) (list : List ℕ) (w : ℕ) → Return.back w ≡ plan_return s (holder s.store share) b t (list_ok s.store list)
    → (climb_for s b w t).freed ≡ true → share.objects + 1 ≤ objects_most
unfolding holding
returned_held s share b t list w e f = returned_object s (holder s.store share) b t list w e f

pub return_ready : (s : BuddySettings) (share : Share) (b : Block) (t : Tables) (list : List ℕ) (p : Result ℕ Refusal) → back_of p ≡ plan_return s (holder s.store share) b t (list_ok s.store list) → ReturnReady s share b t p
return_ready s share b t list (Err r) e = tt
return_ready s share b t list (Ok w) e = (returned_backs s (holder s.store share) b t list w e, returned_held s share b t list w e)
