-- What each call comes to: a refusal that leaves all as it was, or one change of the tables and the account, with what the
-- gate and the tests have shown.
use mathlib.Core.Path.{◌≡◌, refl, sym, ap, subst, ◌∙◌}
use mathlib.Core.Bool.{Bool, true, false, ◌&&◌, ◌||◌, not}
use mathlib.Core.Logic.{◌⊎◌, inl, inr, ⊎_elim}
use mathlib.Core.List.Memᴰ
use mathlib.Core.List.{List, [], ◌∷◌}
use Prim.Native.Nat.{ℕ, ◌≤◌, ◌<◌}
use native.Mathlib.Omega.{arith}
use lib.Dec.{eqb, ltb}
use borrow.Author.Tests.{eqb-true, eq-eqb, ltb-true}
use Rattle.lists.proofs.Bools.{told, true_false, and_left, and_right, not_yes}
use Rattle.counter.specs.Account.{heap_at}
use Rattle.counter.specs.Gate.{Verdict, pass, refuse, first, gated}
use Rattle.counter.specs.InTable.{FreeListIn}
use Rattle.counter.specs.Paper as Paper
use Rattle.counter.specs.Table.{alignment_ok, heaps_ok, free_list_ok}
use Rattle.counter.specs.declared.account.Account.{Account}
use Rattle.counter.specs.declared.account.Heap.{Heap}
use Rattle.counter.specs.declared.account.KeptOrder.{KeptOrder}
use Rattle.counter.specs.Open.{OpenOrder}
use Rattle.std.specs.Prelude.{None, Some}
use Rattle.counter.specs.declared.account.Order.{Order}
use Rattle.counter.specs.declared.answers.Block.{Block}
use Rattle.counter.specs.declared.answers.Mapping.{Mapping}
use Rattle.counter.specs.declared.answers.Mapping.TheVariants as M
use Rattle.counter.specs.declared.answers.Memory.{Memory}
use Rattle.counter.specs.declared.answers.Outcome.{Outcome}
use Rattle.counter.specs.declared.answers.Outcome.TheVariants as O
use Rattle.counter.specs.declared.settings.FreeListSettings.{FreeListSettings}
use Rattle.counter.proofs.Gates.{passed}
use Rattle.counter.proofs.Tables.{free_list_yes}
use Rattle.heap.specs.Heap.{bears_ok}
use Rattle.store_rules.specs.Delivery.{kept, lost, free_list, holds, suits, delivery_ok, fate_of, back_of}
use Rattle.store_rules.specs.Orders as Orders
use Rattle.store_rules.specs.Orders.{order_from, kept_from, same_order, leads_to}
use Rattle.store_rules.specs.Outcomes.{Out, out, Listed, listed, list_ok, with_order, block_said}
use Rattle.store_rules.specs.Tests.{open_for, gate_row}
use Rattle.store_rules.proofs.Tested.{gate_low}
use Rattle.book_rules.specs.Book.{taken_of}
use Rattle.freelist_rules.specs.Place.{nowhere, at}
use Rattle.freelist_rules.specs.Pieces.{All}
use Rattle.freelist_rules.specs.Tables.{Tables, Lengths, lengths_ok, places_in, chunks_in, store_of, sound_ok, SoundTables}
use Rattle.freelist_rules.specs.Walk.{memories}
use Rattle.store_rules.specs.declared.Chunk.{Chunk}
use Rattle.freelist_rules.proofs.Fits.{lengths_are}
use Rattle.freelist_rules.proofs.Tested.{tables_yes}
use Rattle.freelist_outcomes.specs.Gate.{in_table_ok, account_ok, gate_of}
use Rattle.freelist_outcomes.specs.Ask as Ask
use Rattle.freelist_outcomes.specs.Ask.{found_for, raised_for, room_ok, count_ok, objects_ok, decide_ask, loan_from, taken_tables, ordered_tables, carry_ask, plan_ask, ask_of}
use Rattle.freelist_outcomes.specs.Deliver as Deliver
use Rattle.freelist_outcomes.specs.Deliver.{still_ok, deliver_gate_of, carry_fate, decide_deliver, plan_deliver, carry_deliver, deliver_of}
use Rattle.freelist_outcomes.specs.Return as Return
use Rattle.freelist_outcomes.specs.Return.{word_for, on_loan_ok, given_tables, release_of, decide_return, plan_return, carry_return, return_of, carry_clean_up, clean_up_of}
use Rattle.freelist_outcomes.specs.SetUp.{Begun, begun, fresh_tables, fit_ok, plan_set_up, carry_set_up, set_up_of}
use Rattle.freelist_outcomes.proofs.Passing.{Passed, gate_passed, lent_in_lem, lent_heaps}
use Rattle.freelist_outcomes.proofs.Plans.{take_is, buy_held, size_some, size_most_lem, chunk_place}

-- ---- what the tests of an ask have shown

-- region i serves it
pub record Serves (s : FreeListSettings) (size mask : ℕ) (t : Tables) (i : ℕ) : Type 0 where
  pub aligned : alignment_ok mask ≡ true
  pub some : 0 < size
  pub place : (taken_of (places_in t) t.index).place < s.store.loans
  pub found : found_for s size mask t ≡ at i

-- no region does, and a chunk may be ordered
pub record Buys (s : FreeListSettings) (h : Heap) (objects size mask : ℕ) (t : Tables) : Type 0 where
  pub aligned : alignment_ok mask ≡ true
  pub some : 0 < size
  pub most : size ≤ s.last
  pub place : (taken_of (places_in t) t.index).place < s.store.loans
  pub found : found_for s size mask t ≡ nowhere
  pub room : chunks_in t < s.store.chunks
  pub bears : bears_ok h (raised_for s size t) ≡ true
  pub object : 0 < objects

module _ (s : FreeListSettings) (h : Heap) (objects size mask : ℕ) (t : Tables) where
  pub takes_serves : (i : ℕ) → decide_ask s h objects size mask t ≡ Orders.take i → Serves s size mask t i
  unfolding room_ok
  takes_serves i e =
      let w = take_is s h objects size mask t i e in
      record {
        aligned = w.1.0;
        some = size_some s size w.1.1.0;
        place = ltb-true _ _ (and_left (ltb (taken_of (places_in t) t.index).place s.store.loans) true w.1.1.1.0);
        found = w.0;
      }

  pub buys_bought : (z : ℕ) → decide_ask s h objects size mask t ≡ Orders.buy z → (z ≡ raised_for s size t) × Buys s h objects size mask t
  unfolding room_ok count_ok objects_ok
  buys_bought z e =
      let w = buy_held s h objects size mask t z e in
      let r = w.2.1.1 in (
        w.1,
        record {
          aligned = w.2.0;
          some = size_some s size w.2.1.0;
          most = size_most_lem s size w.2.1.0;
          place = ltb-true _ _ (and_left (ltb (taken_of (places_in t) t.index).place s.store.loans) (ltb (chunks_in t) s.store.chunks) r.0);
          found = w.0;
          room = chunk_place s t r.0;
          bears = and_left (bears_ok h (raised_for s size t)) _ (and_right (ltb (store_of s t).given _) _ r.1.0);
          object = ltb-true 0 objects r.1.1.0;
        },
      )

-- ---- an ask

pub data AskComes (s : FreeListSettings) (a : Account) (size mask : ℕ) (t : Tables) : Out Tables → Type 0 where
  denied : (n : ℕ) → AskComes s a size mask t (out (Paper.refusal n []) a t)
  lends : (i : ℕ) → Passed s a t true → Serves s size mask t i → AskComes s a size mask t (out (block_said (loan_from s size mask t i)) a (taken_tables s size mask t i))
  orders : Passed s a t true → Buys s (heap_at a s.store.heap) a.objects size mask t
      → AskComes s a size mask t (out (Paper.order_of (order_from s.store (raised_for s size t))) (with_order a (Some (kept_from s.store size mask (raised_for s size t)))) (ordered_tables (raised_for s size t) t))

module _ (s : FreeListSettings) (a : Account) (size mask : ℕ) (t : Tables) where
  abbrev decided : Orders.Plan ℕ
  decided = decide_ask s (heap_at a s.store.heap) a.objects size mask t

  after_gate : (v : Verdict) (p : Orders.Plan ℕ) → gate_of s a t true ≡ v → decided ≡ p → AskComes s a size mask t (carry_ask s a size mask t (gated Ask.deny v p))
  unfolding carry_ask
  after_gate (refuse n) p g e = denied n
  after_gate pass (Orders.deny n) g e = denied n
  after_gate pass (Orders.take i) g e = lends i (gate_passed s a t true (sym g)) (takes_serves s (heap_at a s.store.heap) a.objects size mask t i e)
  after_gate pass (Orders.buy z) g e =
      let w = buys_bought s (heap_at a s.store.heap) a.objects size mask t z e in
      rw w.0 (orders (gate_passed s a t true (sym g)) w.1)

  pub ask_comes : AskComes s a size mask t (ask_of s a size mask t)
  unfolding ask_of plan_ask
  ask_comes = after_gate (gate_of s a t true) decided refl refl

-- ---- a delivery

-- the order k is open for this store, its ask still leads to it, and the store and the account are right
pub record Open (s : FreeListSettings) (a : Account) (t : Tables) (k : KeptOrder) : Type 0 where
  pub settings : FreeListIn s
  pub heaps : heaps_ok a.heaps ≡ true
  pub lengths : lengths_ok s t ≡ true
  pub sound : SoundTables s t
  pub covered : account_ok s a t ≡ true
  pub is : a.order ≡ Some k
  pub size : k.order.size ≡ raised_for s k.ask.size t
  pub buys : Buys s (heap_at a s.store.heap) a.objects k.ask.size k.ask.mask t

-- it is refused, neither as 11 nor as 12, or the order meets its fate
pub data Arrival (s : FreeListSettings) (a : Account) (o : Outcome) (t : Tables) : Out Tables → Type 0 where
  early : (n : ℕ) → (n ≡ 11 → ⊥) → (n ≡ 12 → ⊥) → Arrival s a o t (out (Paper.refusal n []) a t)
  fated : (k : KeptOrder) → Open s a t k → delivery_ok k.order.map (memories (store_of s t).chunks) o ≡ true → Arrival s a o t (carry_fate s a k t (fate_of free_list o))

-- the same by what the fate is
pub data DeliverComes (s : FreeListSettings) (a : Account) (o : Outcome) (t : Tables) : Out Tables → Type 0 where
  denied : (n : ℕ) → DeliverComes s a o t (out (Paper.refusal n []) a t)
  keeps : (k : KeptOrder) (m : Memory) → o ≡ O.Made m → Open s a t k → All (λ (c : Chunk). c.memory ≡ m.number → ⊥) (store_of s t).chunks
      → DeliverComes s a o t (carry_fate s a k t (kept m.number))
  loses : (k : KeptOrder) (n : ℕ) (charged : Bool) (back : List ℕ) → Open s a t k → fate_of free_list o ≡ lost n charged back → (n ≡ 11) ⊎ (n ≡ 12)
      → DeliverComes s a o t (carry_fate s a k t (lost n charged back))

-- an order that is the same is for as many bytes
same_size : (o p : Order) → same_order o p ≡ true → o.size ≡ p.size
same_size o p e = eqb-true o.size p.size (and_left (eqb o.size p.size) _ (and_right (eqb o.store p.store) _ e))

-- no held chunk has a memory number that is not held
not_held : (m : ℕ) (cs : List Chunk) → holds m (memories cs) ≡ false → All (λ (c : Chunk). c.memory ≡ m → ⊥) cs
not_held m [] e c k q = Memᴰ.not-nil k
not_held m (d ∷ cs) e c k q = ⊎_elim first (λ h. not_held m cs rest c h q) (Memᴰ.cases_cons k)
  where
    split : (x y : Bool) → (x || y) ≡ false → (x ≡ false) × (y ≡ false)
    split true y f = absurd (true_false true refl f)
    split false y f = (refl, f)

    rest : holds m (memories cs) ≡ false
    rest = (split (eqb d.memory m) (holds m (memories cs)) e).1

    first : c ≡ d → ⊥
    first h = true_false (eqb d.memory m) (eq-eqb d.memory m (sym (ap (λ (x : Chunk). x.memory) h) ∙ q)) (split (eqb d.memory m) (holds m (memories cs)) e).0

module _ (s : FreeListSettings) (a : Account) (o : Outcome) (t : Tables) where
  leads_open : (k : KeptOrder) (p : Orders.Plan ℕ) → decide_ask s (heap_at a s.store.heap) a.objects k.ask.size k.ask.mask t ≡ p → leads_to s.store k.order p ≡ true
      → (k.order.size ≡ raised_for s k.ask.size t) × Buys s (heap_at a s.store.heap) a.objects k.ask.size k.ask.mask t
  leads_open k (Orders.deny n) e f = absurd (true_false false f refl)
  leads_open k (Orders.take i) e f = absurd (true_false false f refl)
  leads_open k (Orders.buy z) e f =
      let w = buys_bought s (heap_at a s.store.heap) a.objects k.ask.size k.ask.mask t z e in
      (same_size k.order (order_from s.store z) f ∙ w.0, w.1)

  pub deliver_open : (k : KeptOrder) → a.order ≡ Some k → deliver_gate_of s a t ≡ pass → Open s a t k
  unfolding deliver_gate_of
  deliver_open k e g =
      let held = passed (gate_row (in_table_ok s a t) (open_for s.store.number a.order) (sound_ok s t && still_ok s a t a.order) (account_ok s a t)) g in
      let lent = lent_in_lem s a t held.0 in
      let still : still_ok s a t (Some k) ≡ true = subst (λ (x : OpenOrder). still_ok s a t x ≡ true) e (and_right (sound_ok s t) (still_ok s a t a.order) held.1.1.0) in
      let leads = leads_open k (decide_ask s (heap_at a s.store.heap) a.objects k.ask.size k.ask.mask t) refl still in
      record {
        settings = lent.0;
        heaps = lent_heaps s a t held.0;
        lengths = lent.1;
        sound = tables_yes s t lent.0 (and_left (sound_ok s t) (still_ok s a t a.order) held.1.1.0);
        covered = held.1.1.1.0;
        is = e;
        size = leads.0;
        buys = leads.1;
      }

  -- the memory of a good delivery is new
  delivery_new : (map : Bool) (ms : List ℕ) (m : Memory) → delivery_ok map ms (O.Made m) ≡ true → holds m.number ms ≡ false
  unfolding delivery_ok
  delivery_new map ms m e = not_yes (holds m.number ms) (and_left (not (holds m.number ms)) (suits map m.mapping) e)

  met : (k : KeptOrder) → Open s a t k → (x : Outcome) → o ≡ x → delivery_ok k.order.map (memories (store_of s t).chunks) o ≡ true
      → DeliverComes s a o t (carry_fate s a k t (fate_of free_list x))
  met k w O.OutOfDevice e f = loses k 11 false [] w (ap (fate_of free_list) e) (inl refl)
  met k w O.OutOfHost e f = loses k 12 false [] w (ap (fate_of free_list) e) (inr refl)
  met k w (O.Made m) e f = by m.mapping refl
    where
      new : All (λ (c : Chunk). c.memory ≡ m.number → ⊥) (store_of s t).chunks
      new = not_held m.number (store_of s t).chunks (delivery_new k.order.map (memories (store_of s t).chunks) m (sym (ap (delivery_ok k.order.map (memories (store_of s t).chunks)) e) ∙ f))

      by : (z : Mapping) → m.mapping ≡ z → DeliverComes s a o t (carry_fate s a k t (fate_of free_list (O.Made m)))
      by M.Mapped q = rw q (keeps k m e w new)
      by M.NotWanted q = rw q (keeps k m e w new)
      by M.Failed q = rw q (loses k 12 true (back_of free_list M.Failed m.number) w (ap (fate_of free_list) e ∙ rw q refl) (inr refl))
      by M.OutOfDevice q = rw q (loses k 11 true (back_of free_list M.OutOfDevice m.number) w (ap (fate_of free_list) e ∙ rw q refl) (inl refl))
      by M.OutOfHost q = rw q (loses k 12 true (back_of free_list M.OutOfHost m.number) w (ap (fate_of free_list) e ∙ rw q refl) (inr refl))

  gate_number : (n : ℕ) → deliver_gate_of s a t ≡ refuse n → n ≤ 4
  unfolding deliver_gate_of
  gate_number n e = gate_low (in_table_ok s a t) (open_for s.store.number a.order) (sound_ok s t && still_ok s a t a.order) (account_ok s a t) n e

  after_delivery : (v : Verdict) (x : OpenOrder) → deliver_gate_of s a t ≡ v → a.order ≡ x → Arrival s a o t (carry_deliver s a t (gated Deliver.deny v (decide_deliver o (memories (store_of s t).chunks) x)))
  unfolding carry_deliver
  after_delivery (refuse n) x g e = early n (λ q. omega (arith, gate_number n g)) (λ q. omega (arith, gate_number n g))
  after_delivery pass None g e = early 2 (λ q. omega arith) (λ q. omega arith)
  after_delivery pass (Some k) g e = tested (told (delivery_ok k.order.map (memories (store_of s t).chunks) o))
    where
      tested : (delivery_ok k.order.map (memories (store_of s t).chunks) o ≡ true) ⊎ (delivery_ok k.order.map (memories (store_of s t).chunks) o ≡ false)
          → Arrival s a o t (carry_deliver s a t (decide_deliver o (memories (store_of s t).chunks) (Some k)))
      tested (inl f) = rw f (fated k (deliver_open k e g) f)
      tested (inr f) = rw f (early 13 (λ q. omega arith) (λ q. omega arith))

  pub arrives : Arrival s a o t (deliver_of s a o t)
  unfolding deliver_of plan_deliver
  arrives = after_delivery (deliver_gate_of s a t) a.order refl refl

  pub deliver_comes : DeliverComes s a o t (deliver_of s a o t)
  deliver_comes = go (deliver_of s a o t) arrives
    where
      go : (r : Out Tables) → Arrival s a o t r → DeliverComes s a o t r
      go _ (early n x y) = denied n
      go _ (fated k w f) = met k w o refl f

-- ---- a return, a clean-up and set-up

pub data ReturnComes (s : FreeListSettings) (a : Account) (b : Block) (t : Tables) (list : List ℕ) : Listed Tables → Type 0 where
  denied : (n : ℕ) → ReturnComes s a b t list (listed (Paper.refusal n []) a t list)
  takes : Passed s a t (list_ok s.store list) → on_loan_ok s b t ≡ true → ReturnComes s a b t list (release_of s a true (given_tables s b (word_for s b t) t) list)

module _ (s : FreeListSettings) (a : Account) (b : Block) (t : Tables) (list : List ℕ) where
  after_return : (v : Verdict) → gate_of s a t (list_ok s.store list) ≡ v → ReturnComes s a b t list (carry_return s a b t list (gated Return.deny v (decide_return s b t)))
  unfolding carry_return decide_return
  after_return (refuse n) g = denied n
  after_return pass g =
      ⊎_elim (λ e. rw e (takes (gate_passed s a t (list_ok s.store list) (sym g)) e)) (λ e. rw e (denied 7)) (told (on_loan_ok s b t))

  pub return_comes : ReturnComes s a b t list (return_of s a b t list)
  unfolding return_of plan_return
  return_comes = after_return (gate_of s a t (list_ok s.store list)) refl

pub data CleanUpComes (s : FreeListSettings) (a : Account) (t : Tables) (list : List ℕ) : Listed Tables → Type 0 where
  denied : (n : ℕ) → CleanUpComes s a t list (listed (Paper.refusal n []) a t list)
  cleans : Passed s a t (list_ok s.store list) → CleanUpComes s a t list (release_of s a false t list)

module _ (s : FreeListSettings) (a : Account) (t : Tables) (list : List ℕ) where
  after_clean_up : (v : Verdict) → gate_of s a t (list_ok s.store list) ≡ v → CleanUpComes s a t list (carry_clean_up s a t list v)
  unfolding carry_clean_up
  after_clean_up (refuse n) g = denied n
  after_clean_up pass g = cleans (gate_passed s a t (list_ok s.store list) (sym g))

  pub clean_up_comes : CleanUpComes s a t list (clean_up_of s a t list)
  unfolding clean_up_of
  clean_up_comes = after_clean_up (gate_of s a t (list_ok s.store list)) refl

pub data SetUpComes (s : FreeListSettings) (t : Tables) : Begun → Type 0 where
  denied : SetUpComes s t (begun (Paper.refusal 1 []) t)
  readies : FreeListIn s → Lengths s t → SetUpComes s t (begun Paper.ready (fresh_tables s))

pub set_up_comes : (s : FreeListSettings) (t : Tables) → SetUpComes s t (set_up_of s t)
unfolding set_up_of plan_set_up carry_set_up fit_ok
set_up_comes s t =
    ⊎_elim (λ e. rw e (readies (free_list_yes s (and_left (free_list_ok s) (lengths_ok s t) e)) (lengths_are s t (and_right (free_list_ok s) (lengths_ok s t) e)))) (λ e. rw e denied)
    (told (free_list_ok s && lengths_ok s t))
