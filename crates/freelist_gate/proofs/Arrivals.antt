-- A delivery's gate in the code's order comes to the verdict that is defined.
use mathlib.Core.Path.{◌≡◌, refl, sym, ap, subst, ◌∙◌}
use mathlib.Core.Bool.{Bool, true, false}
use mathlib.Core.List.{List}
use Rattle.std.specs.Prelude.{Some, Result, Ok, Err}
use Prim.Native.Nat.{ℕ}
use lib.Dec.{eqb}
use lib.ListN.{get_or}
use borrow.Author.Tests.{eqb-true}
use Rattle.lists.proofs.Bools.{and_left, and_right}
use Rattle.counter.specs.Account.{heap_at}
use Rattle.counter.specs.Gate.{Verdict, pass, refuse}
use Rattle.counter.specs.declared.account.Account.{Account}
use Rattle.counter.specs.declared.account.Heap.{Heap}
use Rattle.counter.specs.declared.account.KeptOrder.{KeptOrder}
use Rattle.counter.specs.Open.{OpenOrder}
use Rattle.counter.specs.declared.account.Order.{Order}
use Rattle.counter.specs.declared.refusal.Refusal.{Refusal}
use Rattle.counter.specs.declared.settings.FreeListSettings.{FreeListSettings}
use Rattle.store_rules.specs.Orders.{Plan, deny, take, buy, order_from, same_order}
use Rattle.store_rules.proofs.Holders.{holding, holder}
use Rattle.store_rules.specs.Tests.{open_for, covers_ok}
use Rattle.store_rules.specs.declared.Share.{Share}
use Rattle.store_rules.proofs.Shares.{held_heap}
use Rattle.freelist_rules.specs.Tables.{Tables, chunks_at, store_of, sound_ok}
use Rattle.freelist_outcomes.specs.Ask.{decide_ask}
use Rattle.freelist_outcomes.specs.Deliver.{still_ok, deliver_gate_of}
use Rattle.freelist_outcomes.specs.Gate.{in_table_ok, account_ok}
use Rattle.freelist_outcomes.proofs.Passing.{lent_in_lem}
use Rattle.freelist_decide.specs.Plans.{Planned}
use Rattle.freelist_decide.specs.declared.deciding.Buying.{Buying}
use Rattle.freelist_decide.specs.declared.deciding.Plan as Code
use Rattle.freelist_decide.specs.declared.deciding.Plan.TheVariants.{Buy}
use Rattle.freelist_gate.specs.Gates.{bought_gate, kept_gate, BoughtAs, BoughtFor}
use Rattle.freelist_gate.proofs.Gates.{bytes}

-- ---- the order that the kept ask leads to

module _ (s : FreeListSettings) (h : Heap) (objects : ℕ) (order : Order) (z : ℕ) (chunks : List ℕ) where
  -- whether it is still the one that was told
  abbrev pub same : Bool
  same = same_order order (order_from s.store z)

  abbrev pub covers : Bool
  covers = covers_ok h objects (get_or chunks chunks_at 0) (bytes (get_or chunks chunks_at 0) chunks)

  pub bought_other : same ≡ false → refuse 3 ≡ bought_gate s h objects order z chunks
  unfolding bought_gate
  bought_other e = rw e refl

  pub bought_short : same ≡ true → covers ≡ false → refuse 4 ≡ bought_gate s h objects order z chunks
  unfolding bought_gate
  bought_short e f = rw (e, f) refl

  pub bought_go : same ≡ true → covers ≡ true → pass ≡ bought_gate s h objects order z chunks
  unfolding bought_gate
  bought_go e f = rw (e, f) refl

-- of the order's size
pub ordered_size : (s : FreeListSettings) (order : Order) (z : ℕ) → same_order order (order_from s.store z) ≡ true → z ≡ order.size
ordered_size s order z e = sym (eqb-true order.size z (and_left _ _ (and_right (eqb order.store s.store.number) _ e)))

-- ---- the gate

module _ (s : FreeListSettings) (h : Heap) (objects : ℕ) (k : KeptOrder) (t : Tables) where
  abbrev decided : Plan ℕ
  decided = decide_ask s h objects k.ask.size k.ask.mask t

  pub kept_torn : sound_ok s t ≡ false → refuse 3 ≡ kept_gate s h objects k t
  unfolding kept_gate
  kept_torn e = rw e refl

  pub kept_refused : (p : Plan ℕ) (n : ℕ) → sound_ok s t ≡ true → p ≡ deny n → p ≡ decided → refuse 3 ≡ kept_gate s h objects k t
  unfolding kept_gate
  kept_refused p n e f g = rw (e, sym g ∙ f) refl

  pub kept_taken : (p : Plan ℕ) (i : ℕ) → sound_ok s t ≡ true → p ≡ take i → p ≡ decided → refuse 3 ≡ kept_gate s h objects k t
  unfolding kept_gate
  kept_taken p i e f g = rw (e, sym g ∙ f) refl

  pub kept_bought : (p : Plan ℕ) (z : ℕ) (v : Verdict) → sound_ok s t ≡ true → p ≡ buy z → p ≡ decided → v ≡ bought_gate s h objects k.order z t.chunks → v ≡ kept_gate s h objects k t
  unfolding kept_gate bought_gate store_of
  kept_bought p z v e f g b = b ∙ rw (e, sym g ∙ f) refl

module _ (s : FreeListSettings) (a : Account) (t : Tables) where
  lent_not : in_table_ok s a t ≡ false → refuse 1 ≡ deliver_gate_of s a t
  unfolding deliver_gate_of
  lent_not e = rw e refl

  order_not : in_table_ok s a t ≡ true → open_for s.store.number a.order ≡ false → refuse 2 ≡ deliver_gate_of s a t
  unfolding deliver_gate_of
  order_not e f = rw (e, f) refl

  order_kept : (h : Heap) (v : Verdict) (k : KeptOrder) → in_table_ok s a t ≡ true → open_for s.store.number a.order ≡ true → a.order ≡ Some k → h ≡ heap_at a s.store.heap → v ≡ kept_gate s h a.objects k t → v ≡ deliver_gate_of s a t
  unfolding deliver_gate_of kept_gate account_ok
  order_kept h v k e f o p g = g ∙ ap (λ (x : Heap). kept_gate s x a.objects k t) p ∙ rw (e, f, ap (still_ok s a t) o) refl

-- by the share and the order
module _ (s : FreeListSettings) (share : Share) (order : OpenOrder) (t : Tables) where
  abbrev held : Account
  held = holding s.store share order

  -- test 1 looks at no order
  lent_held : {b : Bool} → in_table_ok s (holder s.store share) t ≡ b → in_table_ok s held t ≡ b
  unfolding in_table_ok holding
  lent_held e = e

  pub delivery_lent : in_table_ok s (holder s.store share) t ≡ false → refuse 1 ≡ deliver_gate_of s held t
  delivery_lent e = lent_not s held t (lent_held e)

  pub delivery_order : in_table_ok s (holder s.store share) t ≡ true → open_for s.store.number order ≡ false → refuse 2 ≡ deliver_gate_of s held t
  unfolding holding
  delivery_order e f = order_not s held t (lent_held e) f

  pub delivery_kept : (v : Verdict) (k : KeptOrder) → in_table_ok s (holder s.store share) t ≡ true → open_for s.store.number order ≡ true → order ≡ Some k → v ≡ kept_gate s share.heap share.objects k t → v ≡ deliver_gate_of s held t
  unfolding holding
  delivery_kept v k e f o g =
      order_kept s held t share.heap v k (lent_held e) f o (sym (held_heap s.store share order (lent_in_lem s held t (lent_held e)).0.store.heap)) g

-- ---- what it tells

module _ (s : FreeListSettings) (k : KeptOrder) (t : Tables) where
  pub bought_for : (b : Buying) (p : Result Code.Plan Refusal) (r : Result Buying Refusal) → p ≡ Ok (Buy b) → Planned s k.ask.size k.ask.mask t p → BoughtAs k.order b r → BoughtFor s k t r
  bought_for b p (Err n) e c o = tt
  bought_for b p (Ok x) e c (f, z) =
      (ap (λ (y : Buying). y.order) f ∙ z, subst (λ (y : Buying). Planned s k.ask.size k.ask.mask t (Ok (Buy y))) (sym f) (subst (Planned s k.ask.size k.ask.mask t) e c))

  -- of the order that is open
  pub open_for_lem : (order : OpenOrder) (j : KeptOrder) (r : Result Buying Refusal) → order ≡ Some j → BoughtFor s j t r → order ≡ Some k → BoughtFor s k t r
  open_for_lem order j r e b f = subst (λ (x : KeptOrder). BoughtFor s x t r) (same (sym e ∙ f)) b
    where
      same : Some j ≡ Some k → j ≡ k
      same p = cc
