-- The free list refuses as an engine has to: each number exactly when, and what a refusal leaves; its calls on another
-- engine's tables too.
use mathlib.Core.Path.{◌≡◌, refl, ap}
use mathlib.Core.Bool.{Bool, true, ◌&&◌}
use mathlib.Core.Logic.{◌↔◌}
use mathlib.Core.List.{List, []}
use Prim.Native.Nat.{ℕ, ◌≤◌, ◌<◌}
use Rattle.lists.proofs.Bools.{and_left, all_each}
use Rattle.counter.specs.Gate.{pass, refuse}
use Rattle.counter.specs.Paper as Paper
use Rattle.counter.specs.Reasons.{Given, Clear}
use Rattle.counter.specs.declared.account.Account.{Account}
use Rattle.counter.specs.declared.answers.Block.{Block}
use Rattle.counter.specs.declared.answers.Outcome.{Outcome}
use Rattle.counter.specs.declared.settings.FreeListSettings.{FreeListSettings}
use Rattle.counter.proofs.Reasoned.{clear_first}
use Rattle.store_rules.specs.Outcomes.{Out, out, listed, list_ok}
use Rattle.store_rules.specs.Tests.{no_order, open_for, gate_row}
use Rattle.engines.specs.Refuses.{Refuses}
use Rattle.store_rules.specs.Rows.{gate_rows, kept_rows}
use Rattle.store_rules.proofs.Signed.{signed_yes}
use Rattle.engines.specs.Shapes.{Call, sets_up, asks, delivers, returns, others, does, Marked, lent_list, words_of}
use Rattle.engines.proofs.Shutting.{shut}
use Rattle.freelist_rules.specs.Tables.{Tables, sound_row, sound_ok, store_of, marks, Signed}
use Rattle.freelist_outcomes.specs.Gate.{in_table_ok, account_ok, gate_of}
use Rattle.freelist_outcomes.specs.Ask.{carry_ask, plan_ask, ask_of}
use Rattle.freelist_outcomes.specs.Deliver.{still_ok, deliver_gate_of, plan_deliver, carry_deliver, deliver_of}
use Rattle.freelist_outcomes.specs.Refusals.{list_words, seen}
use Rattle.freelist_outcomes.specs.Return.{plan_return, carry_return, return_of, carry_clean_up, clean_up_of}
use Rattle.freelist_outcomes.proofs.Gated.{gate_decided}
use Rattle.freelist_outcomes.proofs.Refused.{kept_decided, set_up_refused, ask_refused, deliver_refused, return_refused, clean_up_refused, set_up_leaves, ask_leaves, deliver_leaves, return_leaves, clean_up_leaves_all, deliver_lost}
use Rattle.freelist_engine.specs.Shape.{OwnCall, cleans_up, own_of, own_rows, list_shape}

-- ---- tables without the marks

module _ (s : FreeListSettings) (a : Account) (t : Tables) (other : Signed marks t → ⊥) where
  not_sound : sound_ok s t ≡ true → ⊥
  unfolding sound_ok
  not_sound e = other (signed_yes marks t (all_each (sound_row s t) e).0)

  gate_shut : (list : Bool) → (n : ℕ) × (gate_of s a t list ≡ refuse n) × (0 < n) × (n ≤ 3)
  unfolding gate_of
  gate_shut list = shut (in_table_ok s a t && list) (no_order a.order) (sound_ok s t) (account_ok s a t) not_sound

  deliver_gate_shut : (n : ℕ) × (deliver_gate_of s a t ≡ refuse n) × (0 < n) × (n ≤ 3)
  unfolding deliver_gate_of
  deliver_gate_shut =
      shut (in_table_ok s a t) (open_for s.store.number a.order) (sound_ok s t && still_ok s a t a.order) (account_ok s a t)
      (λ e. not_sound (and_left (sound_ok s t) (still_ok s a t a.order) e))

  ask_shut : (size mask : ℕ) → (n : ℕ) × (ask_of s a size mask t ≡ out (Paper.refusal n []) a t) × (0 < n) × (n ≤ 3)
  unfolding ask_of plan_ask carry_ask
  ask_shut size mask = let g = gate_shut true in let e = g.1 in (g.0, rw e, g.2, g.3)

  deliver_shut : (o : Outcome) → (n : ℕ) × (deliver_of s a o t ≡ out (Paper.refusal n []) a t) × (0 < n) × (n ≤ 3)
  unfolding deliver_of plan_deliver carry_deliver
  deliver_shut o = let g = deliver_gate_shut in let e = g.1 in (g.0, rw e, g.2, g.3)

  return_shut : (b : Block) (list : List ℕ) → (n : ℕ) × (return_of s a b t list ≡ listed (Paper.refusal n []) a t list) × (0 < n) × (n ≤ 3)
  unfolding return_of plan_return carry_return
  return_shut b list = let g = gate_shut (list_ok s.store list) in let e = g.1 in (g.0, rw e, g.2, g.3)

  clean_up_shut : (list : List ℕ) → (n : ℕ) × (clean_up_of s a t list ≡ listed (Paper.refusal n []) a t list) × (0 < n) × (n ≤ 3)
  unfolding clean_up_of carry_clean_up
  clean_up_shut list = let g = gate_shut (list_ok s.store list) in let e = g.1 in (g.0, rw e, g.2, g.3)

-- each call but set-up is refused there, by 1, 2 or 3, and leaves everything
pub unsigned_refused : (s : FreeListSettings) (a : Account) (t : Tables) (c : Call OwnCall) → (c ≡ sets_up → ⊥) → (Signed marks t → ⊥)
    → (n : ℕ) × (does list_shape s a t c ≡ listed (Paper.refusal n []) a t (lent_list c)) × (0 < n) × (n ≤ 3)
unsigned_refused s a t sets_up f m = absurd (f refl)
unsigned_refused s a t (asks size mask) f m =
    let r = ask_shut s a t m size mask in (r.0, ap (λ (o : Out Tables). listed o.said o.account o.tables []) r.1, r.2, r.3)
unsigned_refused s a t (delivers x) f m =
    let r = deliver_shut s a t m x in (r.0, ap (λ (o : Out Tables). listed o.said o.account o.tables []) r.1, r.2, r.3)
unsigned_refused s a t (returns b list) f m = let r = return_shut s a t m b list in (r.0, r.1, r.2, r.3)
unsigned_refused s a t (others cleans_up list) f m = let r = clean_up_shut s a t m list in (r.0, r.1, r.2, r.3)

-- and so where the head's mark is not there
foreign : (s : FreeListSettings) (a : Account) (t : Tables) (c : Call OwnCall) → (c ≡ sets_up → ⊥) → (Marked list_shape t → ⊥)
    → (n : ℕ) × (does list_shape s a t c ≡ listed (Paper.refusal n []) a t (lent_list c)) × (0 < n) × (n ≤ 3)
foreign s a t c f m = unsigned_refused s a t c f (λ S. m S.head)

-- ---- a call that only a free list has

own_refused : (s : FreeListSettings) (a : Account) (c : OwnCall) (t : Tables) (list : List ℕ) (n : ℕ) → ((own_of s a c t list).said ≡ Paper.refusal n []) ↔ Given (own_rows s a c t list) n
own_refused s a cleans_up t list n = clean_up_refused s a t list n

own_leaves : (s : FreeListSettings) (a : Account) (c : OwnCall) (t : Tables) (list : List ℕ) (n : ℕ) (back : List ℕ) → (own_of s a c t list).said ≡ Paper.refusal n back → own_of s a c t list ≡ listed (Paper.refusal n []) a t list
own_leaves s a cleans_up t list n back e = clean_up_leaves_all s a t list n back e

-- ---- the tests 1 to 4

gate_clear : (s : FreeListSettings) (a : Account) (t : Tables) → (gate_of s a t true ≡ pass) ↔ Clear (gate_rows (words_of list_shape) s a t)
unfolding gate_of
gate_clear s a t =
    let u = t in
    clear_first (gate_row (in_table_ok s a u && true) (no_order a.order) (sound_ok s u) (account_ok s a u)) (gate_rows list_words s a u) (gate_decided s a u)

deliver_clear : (s : FreeListSettings) (a : Account) (t : Tables) → (deliver_gate_of s a t ≡ pass) ↔ Clear (kept_rows (words_of list_shape) s a t)
unfolding deliver_gate_of
deliver_clear s a t =
    let u = t in
    clear_first (gate_row (in_table_ok s a u) (open_for s.store.number a.order) (sound_ok s u && still_ok s a u a.order) (account_ok s a u)) (kept_rows list_words s a u) (kept_decided s a u)

-- the free list refuses as an engine has to
pub list_refuses : Refuses list_shape
list_refuses =
    record {
      set_up_refused = λ s t n. set_up_refused s t n;
      ask_refused = λ s a size mask t n. ask_refused s a size mask t n;
      deliver_refused = λ s a o t n. deliver_refused s a o t n;
      return_refused = λ s a b t list n. return_refused s a b t list n;
      other_refused = λ s a c t list n. own_refused s a c t list n;
      gate_clear = gate_clear;
      deliver_clear = deliver_clear;
      set_up_leaves = λ s t n back e. (set_up_leaves s t n back e);
      ask_leaves = λ s a size mask t n back e _. (ask_leaves s a size mask t n back e);
      deliver_leaves = λ s a o t n back e x y. (deliver_leaves s a o t n back e x y);
      return_leaves = λ s a b t list n back e. (return_leaves s a b t list n back e);
      other_leaves = λ s a c t list n back e. (own_leaves s a c t list n back e);
      nine_leaves = λ s a size mask t back e.
          let r = ask_leaves s a size mask t 9 back e in
          (ap (λ (o : Out Tables). o.account) r, ap (λ (o : Out Tables). seen (store_of s o.tables)) r);
      lost_leaves = λ s a o t k n back its e number.
          let r = deliver_lost s a o t k n back its e number in
          (ap (λ (x : Out Tables). x.account) r, ap (λ (x : Out Tables). seen (store_of s x.tables)) r);
      foreign = foreign;
    }
