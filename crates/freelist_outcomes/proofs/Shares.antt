-- A call of a free-list store takes of an account only the store's share: on two accounts in which that is the same it says the same
-- and leaves the same tables, and of each account it leaves the rest.
use mathlib.Core.Path.{◌≡◌, refl, sym, ap, ◌∙◌}
use mathlib.Core.Bool.{Bool, true, false, ◌&&◌}
use mathlib.Core.List.{List, [], ◌∷◌}
use Prim.Native.Nat.{ℕ}
use lib.ListN.{length}
use Rattle.counter.specs.Gate.{Verdict, pass, refuse, first, gated}
use Rattle.counter.specs.Table.{free_list_ok}
use Rattle.counter.specs.declared.account.Account.{Account}
use Rattle.counter.specs.declared.account.KeptOrder.{KeptOrder}
use Rattle.counter.specs.Open.{OpenOrder}
use Rattle.std.specs.Prelude.{None, Some}
use Rattle.counter.specs.declared.answers.Block.{Block}
use Rattle.counter.specs.declared.answers.Outcome.{Outcome}
use Rattle.counter.specs.declared.settings.FreeListSettings.{FreeListSettings}
use Rattle.store_rules.specs.Arrivals as Arrivals
use Rattle.store_rules.specs.Delivery.{Fate, kept, lost}
use Rattle.store_rules.specs.Orders as Orders
use Rattle.store_rules.specs.Orders.{leads_to}
use Rattle.store_rules.specs.Outcomes.{out, listed, list_ok, with_order, charged_account, back_account, lost_account}
use Rattle.store_rules.specs.Alike.{Alike, taken_over, over_ask, over_out, over_listed}
use Rattle.store_rules.specs.Tests.{open_for, covers_ok, gate_row}
use Rattle.store_rules.specs.declared.Chunk.{Chunk}
use Rattle.store_rules.proofs.Shares.{over_same, over_charged, over_lost, over_released}
use Rattle.freelist_rules.specs.Pieces.{total}
use Rattle.freelist_rules.specs.Release.{bytes_of}
use Rattle.freelist_rules.specs.Tables.{Tables, chunks_in, lengths_ok, sound_ok, store_of}
use Rattle.freelist_rules.specs.Walk.{memories}
use Rattle.freelist_outcomes.specs.Gate.{in_table_ok, account_ok, gate_of}
use Rattle.freelist_outcomes.specs.Ask as Ask
use Rattle.freelist_outcomes.specs.Ask.{decide_ask, plan_ask, carry_ask, ask_of}
use Rattle.freelist_outcomes.specs.Deliver.{still_ok, deliver_gate_of, decide_deliver, plan_deliver, carry_fate, carry_deliver, deliver_of}
use Rattle.freelist_outcomes.specs.Return as Return
use Rattle.freelist_outcomes.specs.Return.{given_tables, gone_from, decide_return, plan_return, release_of, carry_return, return_of, carry_clean_up, clean_up_of}

module _ (s : FreeListSettings) (a b : Account) (alike : Alike s.store a b) where
  lent_alike : (t : Tables) → in_table_ok s a t ≡ in_table_ok s b t
  unfolding in_table_ok
  lent_alike t = λ j. free_list_ok s && (alike.table j && lengths_ok s t)

  covered_alike : (t : Tables) → account_ok s a t ≡ account_ok s b t
  unfolding account_ok
  covered_alike t = λ j. covers_ok (alike.heap j) (alike.objects j) (chunks_in t) (total (λ (c : Chunk). c.size) (store_of s t).chunks)

  gate_alike : (t : Tables) (list : Bool) → gate_of s a t list ≡ gate_of s b t list
  unfolding gate_of
  gate_alike t list = λ j. first (gate_row (lent_alike t j && list) (alike.free j) (sound_ok s t) (covered_alike t j))

  -- ---- an ask

  plan_alike : (size mask : ℕ) (t : Tables) → plan_ask s a size mask t ≡ plan_ask s b size mask t
  unfolding plan_ask
  plan_alike size mask t = λ j. gated Ask.deny (gate_alike t true j) (decide_ask s (alike.heap j) (alike.objects j) size mask t)

  carried_alike : (size mask : ℕ) (t : Tables) (p : Orders.Plan ℕ) → carry_ask s a size mask t p ≡ over_ask size mask a (carry_ask s b size mask t p)
  unfolding carry_ask
  carried_alike size mask t (Orders.deny n) = refl
  carried_alike size mask t (Orders.take i) = refl
  carried_alike size mask t (Orders.buy z) = refl

  pub ask_alike : (size mask : ℕ) (t : Tables) → ask_of s a size mask t ≡ over_ask size mask a (ask_of s b size mask t)
  unfolding ask_of
  ask_alike size mask t = ap (carry_ask s a size mask t) (plan_alike size mask t) ∙ carried_alike size mask t (plan_ask s b size mask t)

  -- ---- a delivery

  module _ (e : a.order ≡ b.order) where
    still_alike : (t : Tables) (o : OpenOrder) → still_ok s a t o ≡ still_ok s b t o
    still_alike t None = refl
    still_alike t (Some k) = λ j. leads_to s.store k.order (decide_ask s (alike.heap j) (alike.objects j) k.ask.size k.ask.mask t)

    kept_alike : (t : Tables) → still_ok s a t a.order ≡ still_ok s b t b.order
    kept_alike t = still_alike t a.order ∙ ap (still_ok s b t) e

    deliver_gate_alike : (t : Tables) → deliver_gate_of s a t ≡ deliver_gate_of s b t
    unfolding deliver_gate_of
    deliver_gate_alike t =
        λ j. first (gate_row (lent_alike t j) (open_for s.store.number (e j)) (sound_ok s t && kept_alike t j) (covered_alike t j))

    arrival_alike : (o : Outcome) (t : Tables) → plan_deliver s a o t ≡ plan_deliver s b o t
    unfolding plan_deliver
    arrival_alike o t = λ j. gated Arrivals.deny (deliver_gate_alike t j) (decide_deliver o (memories (store_of s t).chunks) (e j))

    fate_alike : (k : KeptOrder) (t : Tables) (f : Fate) → carry_fate s a k t f ≡ over_out s.store a (carry_fate s b k t f)
    unfolding carry_fate charged_account back_account lost_account
    fate_alike k t (kept memory) =
        λ j. out (carry_fate s a k t (kept memory)).said (sym (over_charged s.store a b alike k.order.size) j) (carry_fate s a k t (kept memory)).tables
    fate_alike k t (lost n false back) = λ j. out (carry_fate s a k t (lost n false back)).said (sym (over_lost s.store a b alike k.order.size false back) j) t
    fate_alike k t (lost n true []) = λ j. out (carry_fate s a k t (lost n true [])).said (sym (over_lost s.store a b alike k.order.size true []) j) t
    fate_alike k t (lost n true (m ∷ back)) =
        λ j. out (carry_fate s a k t (lost n true (m ∷ back))).said (sym (over_lost s.store a b alike k.order.size true (m ∷ back)) j) t

    same : a ≡ taken_over s.store a b b.order
    same = ap (with_order a) e ∙ sym (over_same s.store a b alike b.order b.order)

    taken_alike : (t : Tables) (p : Arrivals.Arrival) → carry_deliver s a t p ≡ over_out s.store a (carry_deliver s b t p)
    unfolding carry_deliver
    taken_alike t (Arrivals.deny n) = λ j. out (carry_deliver s a t (Arrivals.deny n)).said (same j) t
    taken_alike t (Arrivals.go k f) = fate_alike k t f

    pub deliver_alike : (o : Outcome) (t : Tables) → deliver_of s a o t ≡ over_out s.store a (deliver_of s b o t)
    unfolding deliver_of
    deliver_alike o t = ap (carry_deliver s a t) (arrival_alike o t) ∙ taken_alike t (plan_deliver s b o t)

  -- ---- a return and a clean-up

  release_alike : (spare : Bool) (t : Tables) (list : List ℕ) → release_of s a spare t list ≡ over_listed s.store a (release_of s b spare t list)
  unfolding release_of
  release_alike spare t list =
      λ j. listed (release_of s a spare t list).said
      (sym (over_released s.store a b alike (length (gone_from s spare t)) (bytes_of (gone_from s spare t))) j)
      (release_of s a spare t list).tables
      (release_of s a spare t list).list

  backed_alike : (k : Block) (t : Tables) (list : List ℕ) (p : Return.Plan) → carry_return s a k t list p ≡ over_listed s.store a (carry_return s b k t list p)
  unfolding carry_return
  backed_alike k t list (Return.deny n) = λ j. listed (carry_return s a k t list (Return.deny n)).said (sym (over_same s.store a b alike a.order b.order) j) t list
  backed_alike k t list (Return.back w) = release_alike true (given_tables s k w t) list

  pub return_alike : (k : Block) (t : Tables) (list : List ℕ) → return_of s a k t list ≡ over_listed s.store a (return_of s b k t list)
  unfolding return_of plan_return
  return_alike k t list =
      ap (λ (v : Verdict). carry_return s a k t list (gated Return.deny v (decide_return s k t))) (gate_alike t (list_ok s.store list))
      ∙ backed_alike k t list (plan_return s b k t (list_ok s.store list))

  cleaned_alike : (t : Tables) (list : List ℕ) (v : Verdict) → carry_clean_up s a t list v ≡ over_listed s.store a (carry_clean_up s b t list v)
  unfolding carry_clean_up
  cleaned_alike t list (refuse n) = λ j. listed (carry_clean_up s a t list (refuse n)).said (sym (over_same s.store a b alike a.order b.order) j) t list
  cleaned_alike t list pass = release_alike false t list

  pub clean_up_alike : (t : Tables) (list : List ℕ) → clean_up_of s a t list ≡ over_listed s.store a (clean_up_of s b t list)
  unfolding clean_up_of
  clean_up_alike t list =
      ap (carry_clean_up s a t list) (gate_alike t (list_ok s.store list)) ∙ cleaned_alike t list (gate_of s b t (list_ok s.store list))
