-- Exactly when a delivery to a buddy store is refused with each number, and what 11 and 12 leave.
use mathlib.Core.Path.{◌≡◌, refl, ap, ◌∙◌, subst}
use mathlib.Core.Bool.{true, false, ◌&&◌}
use mathlib.Core.Logic.Iff
use mathlib.Core.Logic.{◌⊎◌, ⊎_elim, ◌↔◌}
use mathlib.Core.List.{List, [], ◌∷◌, ◌++◌, map}
use Prim.Native.Nat.{ℕ}
use native.Mathlib.Omega.{arith}
use Rattle.lists.proofs.Bools.{told, true_false, and_left, and_right, and_both}
use Rattle.counter.specs.Account.{heap_at}
use Rattle.counter.specs.Gate.{Verdict, pass, refuse, Row, first, gated}
use Rattle.counter.specs.InTable.{BuddyIn}
use Rattle.counter.specs.Paper as Paper
use Rattle.counter.specs.Reasons.{none, reason, Given, Clear, Decides}
use Rattle.counter.specs.declared.account.Account.{Account}
use Rattle.counter.specs.declared.account.KeptOrder.{KeptOrder}
use Rattle.counter.specs.Open.{OpenOrder}
use Rattle.std.specs.Prelude.{None, Some}
use Rattle.counter.specs.declared.answers.Outcome.{Outcome}
use Rattle.counter.specs.declared.settings.BuddySettings.{BuddySettings}
use Rattle.counter.proofs.Gates.{passed}
use Rattle.counter.proofs.Reasoned.{given_first, decides_then}
use Rattle.store_rules.specs.Delivery.{Fate, kept, lost, buddy, fate_of, delivery_ok}
use Rattle.store_rules.specs.Orders.{buy, order_from, leads_to}
use Rattle.store_rules.specs.Outcomes.{out}
use Rattle.store_rules.specs.Refusals.{UnwelcomeTo, DeviceOut, HostOut, lost_for}
use Rattle.store_rules.specs.Tests.{open_for, gate_row}
use Rattle.store_rules.proofs.Refused.{fails, none_for, is_same_order, leads_buy}
use Rattle.store_rules.proofs.Said.{not_refused, said_number, said_back, Tells, tells_refused, tells_passed}
use Rattle.store_rules.proofs.Fates.{loss_left, fate_verdict, fate_row, device_out, host_out, welcome_ok, unwelcomed, arrival_tells}
use Rattle.store_rules.proofs.Tested.{gate_low}
use Rattle.buddy_rules.specs.Sound.{Sound}
use Rattle.buddy_rules.specs.Tables.{Tables, Lengths, chunk_places_in, memories}
use Rattle.buddy_rules.specs.Test.{sound_ok}
use Rattle.buddy_rules.proofs.Decides.{tables_yes, tables_all}
use Rattle.buddy_outcomes.specs.Gate.{in_table_ok, account_ok}
use Rattle.buddy_outcomes.specs.Ask.{decide_ask, level_for}
use Rattle.buddy_outcomes.specs.Ask as A
use Rattle.buddy_outcomes.specs.Deliver.{still_ok, deliver_gate_of, as_ordered, carry_fate, decide_deliver, plan_deliver, carry_deliver, deliver_of}
use Rattle.buddy_outcomes.specs.Deliver as D
use Rattle.buddy_outcomes.specs.Refusals.{Needed, buddy_words}
use Rattle.store_rules.specs.Rows.{Leads, ask_tests, deliver_rows, kept_rows}
use Rattle.buddy_outcomes.proofs.Asked.{ask_buys}
use Rattle.buddy_outcomes.proofs.Gated.{in_table, short}
use Rattle.buddy_outcomes.proofs.Counting.{memories_is}
use Rattle.buddy_rules.specs.Views.{chunks_in}
use Rattle.store_rules.specs.declared.Chunk.{Chunk}

-- ---- what 11 and 12 leave

module _ (s : BuddySettings) (a : Account) (o : Outcome) (t : Tables) (k : KeptOrder) (n : ℕ) (back : List ℕ) (number : (n ≡ 11) ⊎ (n ≡ 12)) where
  -- what a plan leaves that is said as this refusal
  abbrev Leaves : D.Arrival → Type 0
  Leaves p =
      (carry_deliver s a t p).said ≡ Paper.refusal n back → carry_deliver s a t p ≡ out (Paper.refusal n back) (lost_for buddy s.store a k o) (as_ordered s k t)

  -- no other refusal has their numbers
  denied : (m : ℕ) → (m ≡ 11 → ⊥) → (m ≡ 12 → ⊥) → Leaves (D.deny m)
  unfolding carry_deliver
  denied m x y q =
      let z = said_number m n [] back q in
      absurd (⊎_elim (λ p. x (z ∙ p)) (λ p. y (z ∙ p)) number)

  fated : (f : Fate) → fate_of buddy o ≡ f → Leaves (D.go k f)
  unfolding carry_deliver carry_fate
  fated (kept m) e q = not_refused (carry_fate s a k t (kept m)).said n back refl q
  fated (lost m c x) e q = λ i. out (Paper.refusal (said_number m n x back q i) (said_back m n x back q i)) ((loss_left buddy s.store a k o m c x e).1 i) (as_ordered s k t)

  after : (v : Verdict) → deliver_gate_of s a t ≡ v → Leaves (gated D.deny v (decide_deliver o (memories t (chunk_places_in t)) (Some k)))
  unfolding deliver_gate_of
  after (refuse m) g =
      let h = gate_low (in_table_ok s a t) (open_for s.store.number a.order) (sound_ok s t && still_ok s a t a.order) (account_ok s a t) m g in
      denied m (λ z. omega arith) (λ z. omega arith)
  after pass g =
      ⊎_elim (λ d. rw d (fated (fate_of buddy o) refl)) (λ d. rw d (denied 13 (λ z. omega arith) (λ z. omega arith))) (told (delivery_ok k.order.map (memories t (chunk_places_in t)) o))

-- 11 and 12 leave the levels grown as the order raised them and every other word as it was, and of the account what 01 says
pub deliver_lost : (s : BuddySettings) (a : Account) (o : Outcome) (t : Tables) (k : KeptOrder) (n : ℕ) (back : List ℕ) → a.order ≡ Some k → (deliver_of s a o t).said ≡ Paper.refusal n back → (n ≡ 11) ⊎ (n ≡ 12)
    → deliver_of s a o t ≡ out (Paper.refusal n back) (lost_for buddy s.store a k o) (as_ordered s k t)
unfolding deliver_of plan_deliver
deliver_lost s a o t k n back its e number = by a.order its e
  where
    by : (x : OpenOrder) → x ≡ Some k → (carry_deliver s a t (gated D.deny (deliver_gate_of s a t) (decide_deliver o (memories t (chunk_places_in t)) x))).said ≡ Paper.refusal n back
        → carry_deliver s a t (gated D.deny (deliver_gate_of s a t) (decide_deliver o (memories t (chunk_places_in t)) x)) ≡ out (Paper.refusal n back) (lost_for buddy s.store a k o) (as_ordered s k t)
    by x q = rw q (after s a o t k n back number (deliver_gate_of s a t) refl)

-- ---- exactly when each number is given

tells_fate : (s : BuddySettings) (a : Account) (k : KeptOrder) (t : Tables) (f : Fate) (n : ℕ) → Tells (carry_fate s a k t f).said (fate_verdict f) n
unfolding carry_fate
tells_fate s a k t (kept m) n = tells_passed (carry_fate s a k t (kept m)).said n refl
tells_fate s a k t (lost m c back) n = tells_refused m n back

module _ (s : BuddySettings) (a : Account) (t : Tables) where
  abbrev held : List ℕ
  held = memories t (chunk_places_in t)

  abbrev gates : Row
  gates =
      gate_row (in_table_ok s a t) (open_for s.store.number a.order) (sound_ok s t && still_ok s a t a.order) (account_ok s a t)

  -- 3: the store is sound and the kept ask leads to the order
  leads : BuddyIn s → Lengths s t → ((sound_ok s t && still_ok s a t a.order) ≡ true) ↔ (Sound s t × Leads buddy_words s a t)
  leads fit lengths = (there, back)
    where
      bought : Sound s t → (k : KeptOrder) (z : ℕ) → (decide_ask s (heap_at a s.store.heap) a.objects k.ask.size k.ask.mask t ≡ buy z)
          ↔ (Clear (ask_tests buddy_words s (heap_at a s.store.heap) a.objects k.ask.size k.ask.mask t) × Needed s k.ask.size k.ask.mask t × (z ≡ A.order_bytes s (level_for s k.ask.size k.ask.mask) t))
      bought sound k z = ask_buys s t fit lengths sound (heap_at a s.store.heap) a.objects k.ask.size k.ask.mask z

      still : Sound s t → (ord : OpenOrder) → a.order ≡ ord → still_ok s a t ord ≡ true → Leads buddy_words s a t
      still sound None q e = absurd (true_false false e refl)
      still sound (Some k) q e =
          let p = leads_buy s.store k.order (decide_ask s (heap_at a s.store.heap) a.objects k.ask.size k.ask.mask t) e in
          let w = (bought sound k p.0).0 p.1 in
          record { kept = k; its = q; clear = w.0; needed = w.1; same = p.2 ∙ ap (order_from s.store) w.2 }

      there : (sound_ok s t && still_ok s a t a.order) ≡ true → Sound s t × Leads buddy_words s a t
      there e =
          let sound = tables_yes s t fit (and_left (sound_ok s t) (still_ok s a t a.order) e) in
          (sound, still sound a.order refl (and_right (sound_ok s t) (still_ok s a t a.order) e))

      back : Sound s t × Leads buddy_words s a t → (sound_ok s t && still_ok s a t a.order) ≡ true
      back w =
          let l = w.1 in
          let k = l.kept in
          let z = A.order_bytes s (level_for s k.ask.size k.ask.mask) t in
          and_both (sound_ok s t) (still_ok s a t a.order) (tables_all s t fit w.0)
          (ap (still_ok s a t) l.its
          ∙ ap (leads_to s.store k.order) ((bought w.0 k z).1 (l.clear, l.needed, refl))
          ∙ is_same_order k.order (order_from s.store z) l.same)

  -- 1 to 4
  pub kept_decided : Decides gates (kept_rows buddy_words s a t)
  kept_decided = (
    refl,
    fails (in_table_ok s a t) (in_table s a t).0 (in_table s a t).1,
    (λ e. (
      refl,
      none_for s.store.number a,
      (λ _. (
        refl,
        (let i = (in_table s a t).0 e in let w = leads i.0.0 i.0.1 in fails (sound_ok s t && still_ok s a t a.order) w.0 w.1),
        (λ _. (refl, short s a t, (λ _. tt))),
      )),
    )),
  )

  module _ (o : Outcome) where
    abbrev deliver_row : Row
    deliver_row = gates ++ ((welcome_ok held o a.order, 13) ∷ fate_row o)

    -- a delivery says what the row of its tests comes to
    deliver_tells : (n : ℕ) → Tells (deliver_of s a o t).said (first deliver_row) n
    unfolding deliver_of plan_deliver deliver_gate_of carry_deliver
    deliver_tells n =
        arrival_tells buddy o held s.store.number (λ (p : D.Arrival). (carry_deliver s a t p).said) n (λ m. tells_refused m n []) (λ k f. tells_fate s a k t f n) gates a.order
        (λ e. (passed gates e).1.0)

    deliver_decided : Decides deliver_row (deliver_rows buddy_words s a o t)
    deliver_decided =
        decides_then gates (kept_rows buddy_words s a t) ((welcome_ok held o a.order, 13) ∷ fate_row o) (reason (UnwelcomeTo a (map (λ (c : Chunk). c.memory) (chunks_in t)) o) 13 (reason (DeviceOut o) 11 (reason (HostOut o) 12 none))) kept_decided
        (λ _. (refl, subst (λ (ms : List ℕ). (welcome_ok held o a.order ≡ false) ↔ UnwelcomeTo a ms o) (memories_is t) (unwelcomed a held o), (λ _. (refl, device_out o, (λ _. (refl, host_out o, (λ _. tt)))))))

-- a delivery is refused with n exactly when n is the number of the first of its rows, 1 to 4, 13, 11, 12, whose words hold
pub deliver_refused : (s : BuddySettings) (a : Account) (o : Outcome) (t : Tables) (n : ℕ) → ((back : List ℕ) × ((deliver_of s a o t).said ≡ Paper.refusal n back)) ↔ Given (deliver_rows buddy_words s a o t) n
deliver_refused s a o t n =
    Iff.trans (deliver_tells s a t o n) (given_first (deliver_row s a t o) (deliver_rows buddy_words s a o t) (deliver_decided s a t o) n)
