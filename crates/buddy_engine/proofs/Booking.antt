-- The buddy books as an engine has to: what one call of it charges and releases, and how many device objects it takes and
-- gives.
use mathlib.Core.Path.{◌≡◌, refl, sym, ap, subst, ◌∙◌}
use mathlib.Core.Bool.{true, false, ◌&&◌}
use mathlib.Core.Logic.{⊎_elim}
use mathlib.Core.List.{List, [], ◌∷◌}
use Prim.Native.Nat.{ℕ, ◌+◌, ◌-◌}
use native.Mathlib.Omega.{arith}
use Rattle.lists.proofs.Bools.{told, and_right}
use Rattle.counter.specs.Account.{heap_at}
use Rattle.counter.specs.Gate.{Verdict, pass, refuse, gated}
use Rattle.counter.specs.Paper as Paper
use Rattle.counter.specs.declared.account.Account.{Account}
use Rattle.counter.specs.declared.account.KeptOrder.{KeptOrder}
use Rattle.counter.specs.Open.{OpenOrder}
use Rattle.std.specs.Prelude.{None, Some}
use Rattle.counter.specs.declared.account.Order.{Order}
use Rattle.counter.specs.declared.answers.Block.{Block}
use Rattle.counter.specs.declared.answers.Mapping.{Mapping}
use Rattle.counter.specs.declared.answers.Mapping.TheVariants as M
use Rattle.counter.specs.declared.answers.Memory.{Memory}
use Rattle.counter.specs.declared.answers.Outcome.{Outcome}
use Rattle.counter.specs.declared.answers.Outcome.TheVariants as O
use Rattle.counter.specs.declared.settings.BuddySettings.{BuddySettings}
use Rattle.counter.proofs.Gates.{passed}
use Rattle.heap.specs.Heap.{bears_ok}
use Rattle.heap.specs.History.{release}
use Rattle.heap.proofs.Bounds.{agrees_yes}
use Rattle.store_rules.specs.Delivery.{buddy, mapped, fate_of, delivery_ok}
use Rattle.store_rules.specs.Orders.{Plan, deny, take, buy}
use Rattle.store_rules.specs.Outcomes.{to_free, Out, out, Listed, listed, list_ok, charged_account, lost_account, released_account}
use Rattle.store_rules.specs.Tests.{open_for, covers_ok, gate_row}
use Rattle.store_rules.specs.Views.{sizes}
use Rattle.store_rules.proofs.Accounts.{covers_yes, lost_nothing}
use Rattle.store_rules.proofs.Refused.{leads_buy}
use Rattle.engines.specs.Books.{accepted, takes, Booked, Books}
use Rattle.engines.specs.Books as Entries
use Rattle.engines.specs.Shapes.{Call, sets_up, asks, delivers, returns, others, does}
use Rattle.store_rules.proofs.Tested.{gate_low}
use Rattle.engines.proofs.Booking.{not_accepted, Bears, still, early_booked, charged_booked, release_booked}
use Rattle.buddy_rules.specs.Tables.{Tables, chunk_size_in, chunk_places_in, memories}
use Rattle.buddy_rules.specs.Test.{sound_ok}
use Rattle.buddy_rules.specs.Views.{chunks_in}
use Rattle.buddy_outcomes.specs.Gate.{in_table_ok, held_count, held_bytes, account_ok}
use Rattle.buddy_outcomes.specs.Ask.{decide_ask, carry_ask, plan_ask, ask_of}
use Rattle.buddy_outcomes.specs.Deliver as Deliver
use Rattle.buddy_outcomes.specs.Deliver.{as_ordered, still_ok, deliver_gate_of, carry_fate, decide_deliver, plan_deliver, carry_deliver, deliver_of}
use Rattle.buddy_outcomes.specs.Return.{word_for, on_loan_ok, climb_for, given_tables, released_by, return_of}
use Rattle.buddy_outcomes.specs.SetUp.{plan_set_up, carry_set_up, set_up_of}
use Rattle.buddy_outcomes.proofs.Counting.{bytes_is}
use Rattle.buddy_outcomes.proofs.Heads.{back_chunk_places}
use Rattle.buddy_outcomes.proofs.Passing.{Passed, lent_in_lem}
use Rattle.buddy_outcomes.proofs.Plans.{buy_bears}
use Rattle.buddy_outcomes.proofs.Returned as Returned
use Rattle.buddy_outcomes.proofs.Returned.{ReturnComes, return_comes}
use Rattle.buddy_engine.specs.Shape.{buddy_shape}
use Rattle.buddy_engine.proofs.Leaving.{freed_bytes, kept_bytes}

module _ (s : BuddySettings) (a : Account) (t : Tables) where
  abbrev BuddyBooked : Call ⊥ → Listed Tables → Type 0
  BuddyBooked c d = Booked s.store.heap a (Entries.books buddy_shape s a t c d) (takes buddy_shape c d.said) d

  -- ---- set-up and an ask book nothing

  sets_up_booked : BuddyBooked sets_up (does buddy_shape s a t sets_up)
  unfolding set_up_of carry_set_up
  sets_up_booked = still s.store.heap a _ _ _ refl refl refl refl (by (plan_set_up s t))
    where
      by : (v : Verdict) → to_free (carry_set_up s t v).said ≡ 0
      by pass = refl
      by (refuse n) = refl

  abbrev arrived : Out Tables → Listed Tables
  arrived r = listed r.said r.account r.tables []

  planned_booked : (size mask : ℕ) (p : Plan ℕ) → BuddyBooked (asks size mask) (arrived (carry_ask s a size mask t p))
  unfolding carry_ask
  planned_booked size mask (deny n) = still s.store.heap a _ _ _ refl refl refl refl refl
  planned_booked size mask (take i) = still s.store.heap a _ _ _ refl refl refl refl refl
  planned_booked size mask (buy z) = still s.store.heap a _ _ _ refl refl refl refl refl

  asks_booked : (size mask : ℕ) → BuddyBooked (asks size mask) (does buddy_shape s a t (asks size mask))
  unfolding ask_of
  asks_booked size mask = planned_booked size mask (plan_ask s a size mask t)

  -- ---- a delivery

  opened : (k : KeptOrder) → a.order ≡ Some k → deliver_gate_of s a t ≡ pass → Bears s.store a k
  unfolding deliver_gate_of account_ok
  opened k e g =
      let h = heap_at a s.store.heap in
      let r = passed (gate_row (in_table_ok s a t) (open_for s.store.number a.order) (sound_ok s t && still_ok s a t a.order) (account_ok s a t)) g in
      let ask : still_ok s a t (Some k) ≡ true = ap (still_ok s a t) (sym e) ∙ and_right (sound_ok s t) (still_ok s a t a.order) r.1.1.0 in
      let l = leads_buy s.store k.order (decide_ask s h a.objects k.ask.size k.ask.mask t) ask in
      let z : k.order.size ≡ l.0 = ap (λ (x : Order). x.size) l.2 in
      let b = buy_bears s h a.objects k.ask.size k.ask.mask t l.0 l.1 in
      let c = covers_yes h a.objects (held_count t (chunk_places_in t)) (held_bytes t (chunk_places_in t)) r.1.1.1.0 in
      record {
        is = e;
        low = (lent_in_lem s a t r.0).settings.store.heap;
        bears = ap (bears_ok h) z ∙ b.0;
        object = b.1;
        right = agrees_yes h c.1;
      }

  module _ (k : KeptOrder) (w : Bears s.store a k) where
    made_booked : (m : Memory) (x : Mapping) → BuddyBooked (delivers (O.Made m)) (arrived (carry_fate s a k t (mapped buddy m.number x)))
    unfolding carry_fate lost_account charged_account
    made_booked m M.Mapped = charged_booked s.store a k w m _ _ refl refl
    made_booked m M.NotWanted = charged_booked s.store a k w m _ _ refl refl
    made_booked m M.Failed = charged_booked s.store a k w m _ _ refl refl
    made_booked m M.OutOfDevice = charged_booked s.store a k w m _ _ refl refl
    made_booked m M.OutOfHost = charged_booked s.store a k w m _ _ refl refl

    fated_booked : (o : Outcome) → BuddyBooked (delivers o) (arrived (carry_fate s a k t (fate_of buddy o)))
    unfolding carry_fate lost_account charged_account
    fated_booked O.OutOfDevice =
        subst (λ (b : Account). BuddyBooked (delivers O.OutOfDevice) (arrived (out (Paper.refusal 11 []) b (as_ordered s k t)))) (sym (lost_nothing s.store a k.order.size []))
        (still s.store.heap a _ _ _ refl refl refl refl refl)
    fated_booked O.OutOfHost =
        subst (λ (b : Account). BuddyBooked (delivers O.OutOfHost) (arrived (out (Paper.refusal 12 []) b (as_ordered s k t)))) (sym (lost_nothing s.store a k.order.size []))
        (still s.store.heap a _ _ _ refl refl refl refl refl)
    fated_booked (O.Made m) = made_booked m m.mapping

  gate_number : (n : ℕ) → deliver_gate_of s a t ≡ refuse n → accepted (Paper.refusal n []) ≡ false
  unfolding deliver_gate_of
  gate_number n e =
      let low = gate_low (in_table_ok s a t) (open_for s.store.number a.order) (sound_ok s t && still_ok s a t a.order) (account_ok s a t) n e in
      not_accepted n (λ q. omega (arith, low)) (λ q. omega (arith, low))

  module _ (o : Outcome) where
    abbrev held : List ℕ
    held = memories t (chunk_places_in t)

    after_delivery : (v : Verdict) → deliver_gate_of s a t ≡ v → (x : OpenOrder) → a.order ≡ x → BuddyBooked (delivers o) (arrived (carry_deliver s a t (gated Deliver.deny v (decide_deliver o held x))))
    unfolding carry_deliver
    after_delivery (refuse n) g x e = early_booked s.store a n t (gate_number n g) o
    after_delivery pass g None e = early_booked s.store a 2 t refl o
    after_delivery pass g (Some k) e =
        ⊎_elim (λ d. rw d (fated_booked k (opened k e g) o)) (λ d. rw d (early_booked s.store a 13 t refl o)) (told (delivery_ok k.order.map held o))

    delivers_booked : BuddyBooked (delivers o) (does buddy_shape s a t (delivers o))
    unfolding deliver_of plan_deliver
    delivers_booked = after_delivery (deliver_gate_of s a t) refl a.order refl

  -- ---- a return

  module _ (b : Block) (list : List ℕ) (p : Passed s a t (list_ok s.store list)) (on : on_loan_ok s b t ≡ true) where
    abbrev u : Tables
    u = given_tables s b (word_for s b t) t

    covered : covers_ok (heap_at a s.store.heap) a.objects (held_count t (chunk_places_in t)) (held_bytes t (chunk_places_in t)) ≡ true
    unfolding account_ok
    covered = p.covered

    -- what is seen has the bytes that are counted; no chunk place is added
    less_seen : (y : ℕ) → held_bytes u (chunk_places_in t) + y ≡ held_bytes t (chunk_places_in t) → sizes (chunks_in t) - sizes (chunks_in u) ≡ y
    less_seen y e =
        let p : held_bytes u (chunk_places_in u) ≡ held_bytes u (chunk_places_in t) = ap (held_bytes u) (back_chunk_places s b (word_for s b t) t) in
        omega (arith, e, p, bytes_is t, bytes_is u)

    releases : (n y : ℕ) (list' : List ℕ) → held_bytes u (chunk_places_in t) + y ≡ held_bytes t (chunk_places_in t)
        → BuddyBooked (returns b list) (listed (Paper.released n) (released_account s.store a n y) u list')
    releases n y list' e =
        let m = chunk_places_in t in
        release_booked s.store a p.lent.settings.store.heap (held_count t m) (held_bytes t m) covered n y (omega (arith, e)) _ _ u list'
        (ap (λ (x : ℕ). release x ∷ []) (less_seen y e)) refl

    returns_taken : BuddyBooked (returns b list) (released_by s a b (word_for s b t) t list)
    unfolding released_by
    returns_taken =
        let fit = p.lent.settings in
        let lengths = p.lent.lengths in
        ⊎_elim
        (λ f. rw f (releases 1 (chunk_size_in t b.chunk) _ (freed_bytes s t fit lengths p.sound b on f)))
        (λ f. rw f (releases 0 0 list (kept_bytes s t fit lengths p.sound b on f)))
        (told (climb_for s b (word_for s b t) t).freed)

  returns_booked : (b : Block) (list : List ℕ) → BuddyBooked (returns b list) (does buddy_shape s a t (returns b list))
  returns_booked b list = go (return_of s a b t list) (return_comes s a b t list)
    where
      go : (r : Listed Tables) → ReturnComes s a b t list r → BuddyBooked (returns b list) r
      go _ (Returned.denied n) = still s.store.heap a _ _ _ refl refl refl refl refl
      go _ (Returned.takes p on) = returns_taken b list p on

  booked : (c : Call ⊥) → BuddyBooked c (does buddy_shape s a t c)
  booked sets_up = sets_up_booked
  booked (asks size mask) = asks_booked size mask
  booked (delivers o) = delivers_booked o
  booked (returns b list) = returns_booked b list
  booked (others c list) = absurd c

-- the buddy books as an engine has to
pub books : Books buddy_shape
books = record { booked = λ s a t c. booked s a t c }
