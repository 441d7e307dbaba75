-- A call's plan is what follows its gate.
use mathlib.Core.Path.{◌≡◌, refl, sym, ap, ◌∙◌}
use mathlib.Core.Bool.{Bool, true}
use mathlib.Core.List.{List, []}
use Prim.Native.Nat.{ℕ}
use Rattle.counter.specs.Account.{heap_at}
use Rattle.counter.specs.Gate.{Verdict, pass, refuse}
use Rattle.counter.specs.declared.account.Account.{Account}
use Rattle.counter.specs.declared.account.Heap.{Heap}
use Rattle.counter.specs.declared.answers.Block.{Block}
use Rattle.counter.specs.declared.settings.FreeListSettings.{FreeListSettings}
use Rattle.store_rules.specs.Orders.{Plan, deny}
use Rattle.store_rules.proofs.Holders.{holding, order_by, holder}
use Rattle.store_rules.specs.declared.Share.{Share}
use Rattle.store_rules.proofs.Shares.{held_heap}
use Rattle.book_rules.specs.Returns as Returns
use Rattle.freelist_rules.specs.Tables.{Tables, tables, chunks_in, store_of}
use Rattle.freelist_outcomes.specs.Gate.{gate_of}
use Rattle.freelist_outcomes.specs.Return.{decide_return, plan_return}
use Rattle.freelist_outcomes.specs.Ask.{decide_ask, plan_ask}
use Rattle.freelist_outcomes.specs.Deliver as Deliver
use Rattle.freelist_outcomes.specs.Deliver.{deliver_gate_of, decide_deliver, plan_deliver}
use Rattle.freelist_rules.specs.Records.{chunk_row}
use Rattle.freelist_rules.specs.Walk.{memories}
use Rattle.words.specs.Rows.{rows}
use Rattle.counter.specs.Open.{OpenOrder}
use Rattle.counter.specs.declared.answers.Outcome.{Outcome}
use Rattle.freelist_outcomes.proofs.Passing.{gate_passed}
use Rattle.freelist_decide.proofs.Few.{return_few}

module _ (s : FreeListSettings) (a : Account) (t : Tables) where
  -- ---- an ask

  pub ask_shut : (size mask n : ℕ) → refuse n ≡ gate_of s a t true → deny n ≡ plan_ask s a size mask t
  unfolding plan_ask
  ask_shut size mask n e = rw (sym e) refl

module _ (s : FreeListSettings) (size mask : ℕ) (head loans chunks regions index : List ℕ) where
  abbrev now : Tables
  now = tables head loans chunks index regions

  went : (a : Account) (h : Heap) (p : Plan ℕ) → pass ≡ gate_of s a now true → h ≡ heap_at a s.store.heap
      → p ≡ decide_ask s h a.objects size mask now → p ≡ plan_ask s a size mask now
  unfolding plan_ask
  went a h p g k e =
      e ∙ ap (λ (x : Heap). decide_ask s x a.objects size mask now) k ∙ rw (sym g) refl

  -- by the share
  pub ask_go : (share : Share) (p : Plan ℕ) → pass ≡ gate_of s (holder s.store share) now true
      → p ≡ decide_ask s share.heap share.objects size mask now → p ≡ plan_ask s (holder s.store share) size mask now
  unfolding holding
  ask_go share p g e =
      let below = (gate_passed s (holder s.store share) now true g).settings.store.heap in
      went (holder s.store share) share.heap p g (sym (held_heap s.store share (order_by share.idle) below)) e

-- ---- a return

module _ (s : FreeListSettings) (a : Account) (b : Block) (t : Tables) (list : Bool) where
  pub return_shut : (n : ℕ) → refuse n ≡ gate_of s a t list → Returns.deny n ≡ plan_return s a b t list
  unfolding plan_return
  return_shut n e = rw (sym e) refl

  pub return_go : (p : Returns.Plan) → pass ≡ gate_of s a t list → p ≡ decide_return s b (tables [] t.loans [] t.index []) → p ≡ plan_return s a b t list
  unfolding plan_return
  return_go p e d = d ∙ return_few s b t ∙ rw (sym e) refl

-- ---- a delivery

module _ (s : FreeListSettings) (a : Account) (o : Outcome) (t : Tables) where
  pub plan_shut : (v : Verdict) (n : ℕ) → v ≡ refuse n → v ≡ deliver_gate_of s a t → Deliver.deny n ≡ plan_deliver s a o t
  unfolding plan_deliver
  plan_shut v n e f = rw (sym f ∙ e) refl

  delivered : (v : Verdict) (p : Deliver.Arrival) → v ≡ pass → v ≡ deliver_gate_of s a t → p ≡ decide_deliver o (memories (rows chunk_row (chunks_in t) t.chunks)) a.order → p ≡ plan_deliver s a o t
  unfolding plan_deliver store_of
  delivered v p e f g = g ∙ rw (sym f ∙ e) refl

pub plan_go : (s : FreeListSettings) (share : Share) (order : OpenOrder) (o : Outcome) (t : Tables) (v : Verdict) (p : Deliver.Arrival) → v ≡ pass
    → v ≡ deliver_gate_of s (holding s.store share order) t → p ≡ decide_deliver o (memories (rows chunk_row (chunks_in t) t.chunks)) order
    → p ≡ plan_deliver s (holding s.store share order) o t
unfolding holding
plan_go s share order o t v p e f g = delivered s (holding s.store share order) o t v p e f g
