-- A delivery's plan can be carried out, and carried out it leaves what is defined.
use mathlib.Core.Path.{◌≡◌, refl, sym, ap, subst, ◌∙◌}
use mathlib.Core.Bool.{Bool, true, false, cond, ◌&&◌}
use mathlib.Core.List.{List, []}
use Prim.Native.Nat.{ℕ, ◌-◌}
use native.Mathlib.Omega.{arith}
use lib.Dec.{eqb}
use lib.ListN.{length, get_or}
use borrow.Author.Tests.{eqb-true}
use Rattle.lists.proofs.Bools.{and_left, and_right}
use Rattle.rounding_rules.specs.Raising.{down_to}
use Rattle.counter.specs.Account.{heap_at}
use Rattle.counter.specs.InTable.{FreeListIn}
use Rattle.counter.specs.Gate.{Verdict, pass, refuse, gated}
use Rattle.counter.proofs.Gates.{passed}
use Rattle.counter.specs.declared.account.Order.{Order}
use Rattle.counter.specs.declared.settings.StoreSettings.{StoreSettings}
use Rattle.counter.specs.Paper.{Said}
use Rattle.counter.specs.Paper as Paper
use Rattle.counter.specs.declared.account.Account.{Account}
use Rattle.counter.specs.declared.account.KeptOrder.{KeptOrder}
use Rattle.counter.specs.Open.{OpenOrder}
use Rattle.counter.specs.declared.answers.Outcome.{Outcome}
use Rattle.counter.specs.declared.settings.FreeListSettings.{FreeListSettings}
use Rattle.store_rules.specs.Delivery.{Fate, kept, lost, free_list, delivery_ok, fate_of}
use Rattle.store_rules.specs.Orders as Orders
use Rattle.store_rules.specs.Orders.{leads_to}
use Rattle.store_rules.specs.Tests.{open_for, gate_row}
use Rattle.store_rules.specs.Outcomes.{out, block_said}
use Rattle.store_rules.specs.Shares.{charged_share, lost_share}
use Rattle.store_rules.proofs.Holders.{holding}
use Rattle.store_rules.specs.declared.Loan.{Loan}
use Rattle.store_rules.specs.declared.Region.{Region}
use Rattle.store_rules.specs.declared.Share.{Share}
use Rattle.store_rules.proofs.Shares.{held_charged, held_lost}
use Rattle.store.specs.Comings.{coming_of}
use Rattle.store.specs.declared.comings.Coming.{Coming}
use Rattle.store.specs.declared.comings.Coming.TheVariants as C
use Rattle.book_rules.specs.Book.{taken_of}
use Rattle.freelist_rules.specs.Place.{size_for, mask_for, cut}
use Rattle.freelist_rules.specs.Tables.{Tables, tables, region_count_at, lengths_ok, places_in, store_of, sound_ok, SoundTables}
use Rattle.freelist_rules.specs.Walk.{memories}
use Rattle.freelist_rules.proofs.Fits.{regions_length}
use Rattle.freelist_outcomes.specs.Ask.{decide_ask, block_at, loan_from}
use Rattle.freelist_outcomes.specs.Deliver.{Arrival, deny, go, still_ok, deliver_gate_of, delivered_tables, carry_fate, decide_deliver, plan_deliver, carry_deliver, deliver_of}
use Rattle.freelist_outcomes.specs.Gate.{in_table_ok, account_ok}
use Rattle.freelist_outcomes.proofs.Passing.{lent_in_lem}
use Rattle.freelist_rules.proofs.Tested.{tables_yes}
use Rattle.std.specs.Prelude.{None, Some, Result, Ok, Err}
use Rattle.counter.specs.declared.refusal.Refusal.{Refusal}
use Rattle.freelist_decide.specs.declared.deciding.Buying.{Buying}
use Rattle.freelist_gate.specs.Gates.{BoughtFor}
use Rattle.freelist_place.specs.Ready.{Lends}
use Rattle.freelist_place.specs.Lent.{lent_from, lent_tables}
use Rattle.freelist_place.proofs.Serving.{loan_planned, tables_planned}
use Rattle.freelist.specs.Deliveries.{delivery_of}
use Rattle.freelist.specs.Ready.{ComingBuys, Delivers, KeepReady, ComingReady, DeliverReady}
use Rattle.freelist.specs.declared.plans.Delivery.{Delivery}
use Rattle.freelist.proofs.Adding.{keep_ready, delivered_last}
use Rattle.freelist.proofs.Asking.{lent_rest, loan_rest}

-- ---- what a plan to go on tells

deny_go : {A : Type 0} (n : ℕ) (k : KeptOrder) (f : Fate) → deny n ≡ go k f → A
deny_go n k f e = let z : ◌≡◌ {A = ℕ} 0 1 = cc in absurd (omega arith)

same_go : (j k : KeptOrder) (e f : Fate) → go j e ≡ go k f → j ≡ k
same_go j k e f p = cc

gated_go : (v : Verdict) (p : Arrival) (k : KeptOrder) (f : Fate) → gated deny v p ≡ go k f → (v ≡ pass) × (p ≡ go k f)
gated_go pass p k f e = (refl, e)
gated_go (refuse n) p k f e = deny_go n k f e

decided_go : (o : Outcome) (held : List ℕ) (order : OpenOrder) (k : KeptOrder) (f : Fate) → decide_deliver o held order ≡ go k f → order ≡ Some k
decided_go o held None k f e = deny_go 2 k f e
decided_go o held (Some j) k f e = by (delivery_ok j.order.map held o) e
  where
    by : (b : Bool) → cond b (go j (fate_of free_list o)) (deny 13) ≡ go k f → Some j ≡ Some k
    by true p = ap Some (same_go j k (fate_of free_list o) f p)
    by false p = deny_go 13 k f p

-- the kept ask leads to an order of the kept size
no_test : {A : Type 0} → false ≡ true → A
no_test e = let z : ◌≡◌ {A = ℕ} 0 1 = cc in absurd (omega arith)

leads_bought : (s : StoreSettings) (o : Order) (p : Orders.Plan ℕ) → leads_to s o p ≡ true → p ≡ Orders.buy o.size
leads_bought s o (Orders.deny n) e = no_test e
leads_bought s o (Orders.take i) e = no_test e
leads_bought s o (Orders.buy z) e = ap Orders.buy (sym (eqb-true o.size z (and_left _ _ (and_right (eqb o.store s.number) _ e))))

-- what a delivery's gate tells goes on with its plan
pub coming_buys : (s : FreeListSettings) (t : Tables) (o : Outcome) (held : List ℕ) (order : OpenOrder) (r : Coming) (q : Result Buying Refusal) (b : Buying) → q ≡ Ok b → coming_of (Ok r) ≡ decide_deliver o held order
    → ((k : KeptOrder) → order ≡ Some k → BoughtFor s k t q) → ComingBuys s t b r
coming_buys s t o held order (C.Keep c) q b g e f =
    subst (λ (x : Result Buying Refusal). BoughtFor s c.kept t x) g (f c.kept (decided_go o held order c.kept (kept c.memory) (sym e)))
coming_buys s t o held order (C.Lose l) q b g e f = tt

-- ---- the tables are ready

module _ (s : FreeListSettings) (a : Account) (o : Outcome) (t : Tables) (k : KeptOrder) (f : Fate) (plan : plan_deliver s a o t ≡ go k f) where
  gate_passed : (deliver_gate_of s a t ≡ pass) × (decide_deliver o (memories (store_of s t).chunks) a.order ≡ go k f)
  unfolding plan_deliver
  gate_passed = gated_go (deliver_gate_of s a t) (decide_deliver o (memories (store_of s t).chunks) a.order) k f plan

  open_order : a.order ≡ Some k
  open_order = decided_go o (memories (store_of s t).chunks) a.order k f gate_passed.1

  abbrev lent : Bool
  lent = in_table_ok s a t

  abbrev sound : Bool
  sound = sound_ok s t

  held : (lent ≡ true) × ((sound && still_ok s a t a.order) ≡ true)
  unfolding deliver_gate_of
  held =
      let w = passed (gate_row lent (open_for s.store.number a.order) (sound && still_ok s a t a.order) (account_ok s a t)) gate_passed.0 in
      (w.0, w.1.1.0)

  fits : FreeListIn s × (lengths_ok s t ≡ true)
  fits = lent_in_lem s a t held.0

  yes : SoundTables s t
  yes = tables_yes s t fits.0 (and_left sound _ held.1)

  -- the kept ask comes to the order that is open
  bought : decide_ask s (heap_at a s.store.heap) a.objects k.ask.size k.ask.mask t ≡ Orders.buy k.order.size
  bought =
      let still : still_ok s a t (Some k) ≡ true = ap (still_ok s a t) (sym open_order) ∙ and_right sound (still_ok s a t a.order) held.1 in
      leads_bought s.store k.order (decide_ask s (heap_at a s.store.heap) a.objects k.ask.size k.ask.mask t) still

coming_ready : (s : FreeListSettings) (a : Account) (o : Outcome) (t : Tables) (b : Buying) (r : Coming) → coming_of (Ok r) ≡ plan_deliver s a o t → ComingBuys s t b r → ComingReady s t b r
coming_ready s a o t b (C.Lose l) e c = tt
coming_ready s a o t b (C.Keep k) e c =
    let f = kept k.memory in
    let w = fits s a o t k.kept f (sym e) in
    keep_ready s t w.0 w.1 (yes s a o t k.kept f (sym e)) k.memory k.kept b (heap_at a s.store.heap) a.objects (bought s a o t k.kept f (sym e)) c.1

pub deliver_ready : (s : FreeListSettings) (a : Account) (o : Outcome) (t : Tables) (d : Result Delivery Refusal) → delivery_of d ≡ plan_deliver s a o t → Delivers s t d → DeliverReady s t d
deliver_ready s a o t (Err r) e c = tt
deliver_ready s a o t (Ok d) e c = coming_ready s a o t d.bought d.coming e c

-- ---- what is left

-- a chunk added does not look at the loans
module _ (s : FreeListSettings) (memory z : ℕ) (head loans chunks regions index : List ℕ) where
  abbrev before : Tables
  before = tables head loans chunks index regions

  pub added_rest : (h' c' r' : List ℕ) → tables h' [] c' index r' ≡ delivered_tables s memory z (tables head [] chunks index regions)
      → tables h' loans c' index r' ≡ delivered_tables s memory z before
  unfolding delivered_tables store_of
  added_rest h' c' r' e = ap (λ (t : Tables). tables t.head loans t.chunks index t.room) e

module _ (s : FreeListSettings) (share : Share) (k : KeptOrder) (memory : ℕ) (b : Buying) (head loans chunks regions index : List ℕ) (keeps : KeepReady s k memory (tables head loans chunks index regions) b) where
  abbrev start : Tables
  start = tables head loans chunks index regions

  abbrev added : Tables
  added = delivered_tables s memory k.order.size start

  abbrev last : ℕ
  last = length (store_of s start).regions

  last_is : (i : ℕ) → i ≡ get_or regions region_count_at 0 → i ≡ last
  last_is i e = e ∙ sym (regions_length s start)

  -- of the tables that a chunk added leaves
  pub lends_now : (i x : ℕ) (h₁ c₁ r₁ : List ℕ) → i ≡ get_or regions region_count_at 0 → x ≡ down_to (k.order.size - b.size) b.mask
      → tables h₁ [] c₁ index r₁ ≡ delivered_tables s memory k.order.size (tables head [] chunks index regions)
      → Lends s i x b.loan.place loans c₁ index r₁
  lends_now i x h₁ c₁ r₁ e d f =
      let g = added_rest s memory k.order.size head loans chunks regions index h₁ c₁ r₁ f in
      subst (λ (t : Tables). Lends s i x b.loan.place loans t.chunks index t.room) (sym g)
      (subst (λ (j : ℕ). Lends s j x b.loan.place loans added.chunks index added.room) (sym (last_is i e))
      (subst (λ (y : ℕ). Lends s last y b.loan.place loans added.chunks index added.room) (sym d) keeps.lends))

  -- the block starts where the kept ask's does
  starts_now : (x : ℕ) → x ≡ down_to (k.order.size - b.size) b.mask → x ≡ (block_at s k.ask.size k.ask.mask added last).start
  unfolding store_of
  starts_now x d =
      d ∙ (λ j. down_to (k.order.size - keeps.planned.0 j) (keeps.planned.1 j))
      ∙ ap (λ (r : Region). cut (mask_for s k.ask.mask) (size_for s k.ask.size) r) (sym (delivered_last s memory k.order.size start keeps.adds))

  loan_now : b.loan ≡ taken_of (places_in added) added.index
  unfolding delivered_tables
  loan_now = keeps.planned.2

  pub kept_done : (i x : ℕ) (h₁ c₁ r₁ l₂ r₂ i₂ : List ℕ) (after paid : Share) (order : OpenOrder) (l : Loan) (said : Said) → i ≡ get_or regions region_count_at 0
      → x ≡ down_to (k.order.size - b.size) b.mask → paid ≡ charged_share share k.order.size
      → tables h₁ [] c₁ index r₁ ≡ delivered_tables s memory k.order.size (tables head [] chunks index regions)
      → l ≡ lent_from s x (tables [] loans c₁ index r₁) i
      → tables [] l₂ c₁ i₂ r₂ ≡ lent_tables s x b.loan (tables [] loans c₁ index r₁) i
      → after ≡ paid → order ≡ None → said ≡ block_said l → (left : OpenOrder)
      → out said (holding s.store after order) (tables h₁ l₂ c₁ i₂ r₂) ≡ carry_fate s (holding s.store share left) k start (kept memory)
  unfolding carry_fate
  kept_done i x h₁ c₁ r₁ l₂ r₂ i₂ after paid order l said e y p f m g q n d left =
      let size = k.ask.size in
      let mask = k.ask.mask in
      let mid = added_rest s memory k.order.size head loans chunks regions index h₁ c₁ r₁ f in
      let w = last_is i e in
      let loan : l ≡ loan_from s size mask added last =
      loan_rest s x i b.loan h₁ loans c₁ r₁ index l m ∙ (λ j. lent_from s x (mid j) (w j)) ∙ loan_planned s size mask x last b.loan added (starts_now x y) in
      let end = lent_rest s x i b.loan h₁ loans c₁ r₁ index l₂ r₂ i₂ g ∙ (λ j. lent_tables s x b.loan (mid j) (w j)) ∙ tables_planned s size mask x last b.loan added (starts_now x y) loan_now in
      let words = d ∙ ap block_said loan in
      let shared = q ∙ p in
      let settled = (λ j. holding s.store (shared j) (n j)) ∙ sym (held_charged s.store share left k.order.size) in
      (λ j. out (words j) (settled j) (end j))

-- ---- carried out

module _ (s : FreeListSettings) (share : Share) (order : OpenOrder) (t : Tables) (p : Arrival) where
  abbrev account : Account
  account = holding s.store share order

  pub refused_done : (n : ℕ) (after : Share) (left : OpenOrder) (said : Said) → p ≡ deny n
      → after ≡ share → left ≡ order → said ≡ Paper.refusal n [] → out said (holding s.store after left) t ≡ carry_deliver s account t p
  unfolding carry_deliver
  refused_done n after left said e g l d = (λ j. out (d j) (holding s.store (g j) (l j)) t) ∙ ap (carry_deliver s account t) (sym e)

  pub lost_done : (k : KeptOrder) (n : ℕ) (charged : Bool) (back : List ℕ) (after : Share) (left : OpenOrder) (said : Said) → p ≡ go k (lost n charged back)
      → after ≡ lost_share share k.order.size charged back → left ≡ None → said ≡ Paper.refusal n back → out said (holding s.store after left) t ≡ carry_deliver s account t p
  unfolding carry_deliver carry_fate
  lost_done k n charged back after left said e g l d =
      (λ j. out (d j) (holding s.store (g j) (l j)) t)
      ∙ (λ j. out (Paper.refusal n back) (sym (held_lost s.store share order k.order.size charged back) j) t)
      ∙ ap (carry_deliver s account t) (sym e)

  pub went_done : (k : KeptOrder) (memory : ℕ) (t' : Tables) (after : Share) (left : OpenOrder) (said : Said) → p ≡ go k (kept memory)
      → ((opened : OpenOrder) → out said (holding s.store after left) t' ≡ carry_fate s (holding s.store share opened) k t (kept memory))
      → out said (holding s.store after left) t' ≡ carry_deliver s account t p
  unfolding carry_deliver
  went_done k memory t' after left said e g = g order ∙ ap (carry_deliver s account t) (sym e)

-- ---- the call

pub deliver_done : (s : FreeListSettings) (a : Account) (o : Outcome) (t : Tables) (p : Arrival) → p ≡ plan_deliver s a o t → carry_deliver s a t p ≡ deliver_of s a o t
unfolding deliver_of
deliver_done s a o t p e = ap (carry_deliver s a t) e
