-- What a refusal of a buddy store leaves, and exactly when each number of 01's table is given.
use mathlib.Core.Path.{◌≡◌, refl, sym, ap, subst, ◌∙◌}
use mathlib.Core.Bool.{Bool, true, false, cond, ◌&&◌}
use mathlib.Core.Logic.Iff
use mathlib.Core.Logic.{⊎_elim, ◌↔◌}
use mathlib.Core.List.{List, [], ◌∷◌, ◌++◌}
use Prim.Native.Nat.{ℕ}
use lib.Seq.{sets}
use borrow.Author.Tests.{ne_eqb}
use Rattle.lists.proofs.Bools.{and_left, and_right, and_both}
use Rattle.counter.specs.Account.{heap_at}
use Rattle.counter.specs.Gate.{Verdict, pass, refuse, Row, first, gated}
use Rattle.counter.specs.InTable.{BuddyIn}
use Rattle.counter.specs.Paper as Paper
use Rattle.counter.specs.Reasons.{none, reason, Given, Decides}
use Rattle.counter.specs.Table.{buddy_ok}
use Rattle.counter.specs.declared.account.Account.{Account}
use Rattle.counter.specs.declared.account.KeptOrder.{KeptOrder}
use Rattle.counter.specs.Open.{OpenOrder}
use Rattle.std.specs.Prelude.{None, Some}
use Rattle.counter.specs.declared.answers.Block.{Block}
use Rattle.counter.specs.declared.answers.Outcome.{Outcome}
use Rattle.counter.specs.declared.settings.BuddySettings.{BuddySettings}
use Rattle.counter.proofs.Reasoned.{given_first, decides_then, and_then, first_then}
use Rattle.counter.proofs.Tables.{buddy_yes, buddy_all}
use Rattle.store_rules.specs.Delivery.{Fate, kept, lost, buddy, fate_of, delivery_ok}
use Rattle.store_rules.specs.Orders.{Plan, deny, take, buy}
use Rattle.store_rules.specs.Outcomes.{out, listed, list_ok, released_account}
use Rattle.store_rules.specs.Tests.{no_order, gate_row}
use Rattle.store_rules.proofs.Refused.{fails}
use Rattle.store_rules.proofs.Said.{refuses, not_refused, said_number, Says, says_refused, says_passed}
use Rattle.store_rules.proofs.Fates.{loss_left}
use Rattle.buddy_rules.specs.Sound.{Sound}
use Rattle.buddy_rules.specs.Tables.{Tables, Lengths, lengths_ok, chunk_places_in, memories, memory_in, chunk_size_in}
use Rattle.buddy_rules.specs.Test.{sound_ok}
use Rattle.buddy_outcomes.specs.Gate.{in_table_ok, account_ok, gate_of}
use Rattle.buddy_outcomes.specs.Ask.{Found, nowhere, at, found_from, order_bytes, ask_row, planned, decide_ask, grown_to, grown_tables, denied_tables, carry_ask, plan_ask, ask_of, level_for}
use Rattle.buddy_outcomes.specs.Ask as A
use Rattle.buddy_outcomes.specs.Deliver as D
use Rattle.buddy_outcomes.specs.Deliver.{Arrival, arrival_of, deliver_gate_of, carry_fate, plan_deliver, carry_deliver, deliver_of}
use Rattle.buddy_outcomes.specs.Return.{word_for, on_loan_ok, released_by, climb_for, given_tables, decide_return, plan_return, carry_return, return_of}
use Rattle.buddy_outcomes.specs.Return as R
use Rattle.buddy_outcomes.specs.SetUp.{begun, fit_ok, plan_set_up, carry_set_up, set_up_of}
use Rattle.buddy_outcomes.specs.Refusals.{buddy_words}
use Rattle.store_rules.specs.Rows.{Stale, ask_rows, ask_tests, gate_rows, list_rows, return_rows, set_up_rows}
use Rattle.buddy_outcomes.proofs.Gated.{gate_decided, list_decided}
use Rattle.buddy_outcomes.proofs.Asked.{ask_decided}
use Rattle.buddy_outcomes.proofs.Loaned.{lent_live, on_loan_is, is_on_loan}
use Rattle.buddy_outcomes.proofs.Passing.{Passed, lengths_are, are_lengths, gate_passed}
use Rattle.buddy_rules.specs.Views.{loans_in}
use Rattle.store_rules.specs.Views.{OnLoan}
use Rattle.buddy_rules.proofs.Viewed.{live_loan}
use Rattle.book_rules.specs.Book.{led_to}

-- ---- set-up

-- a refused set-up leaves every word as it was
pub set_up_leaves : (s : BuddySettings) (t : Tables) (n : ℕ) (back : List ℕ) → (set_up_of s t).said ≡ Paper.refusal n back → set_up_of s t ≡ begun (Paper.refusal n []) t
unfolding set_up_of carry_set_up
set_up_leaves s t n back = by (plan_set_up s t)
  where
    by : (v : Verdict) → (carry_set_up s t v).said ≡ Paper.refusal n back → carry_set_up s t v ≡ begun (Paper.refusal n []) t
    by pass e = not_refused Paper.ready n back refl e
    by (refuse m) e = ap (λ (k : ℕ). begun (Paper.refusal k []) t) (said_number m n [] back e)

-- set-up is refused only by 1, exactly when a value or a length is outside the table
pub set_up_refused : (s : BuddySettings) (t : Tables) (n : ℕ) → ((set_up_of s t).said ≡ Paper.refusal n []) ↔ Given (set_up_rows buddy_words s t) n
unfolding set_up_of plan_set_up carry_set_up fit_ok
set_up_refused s t n = Iff.trans (by (plan_set_up s t)) (given_first ((fit_ok s t, 1) ∷ []) (set_up_rows buddy_words s t) (refl, fails (fit_ok s t) there back, (λ _. tt)) n)
  where
    by : (v : Verdict) → Says (carry_set_up s t v).said v n
    by pass = says_passed Paper.ready n refl
    by (refuse m) = says_refused m n

    there : fit_ok s t ≡ true → BuddyIn s × Lengths s t
    there e = (buddy_yes s (and_left (buddy_ok s) (lengths_ok s t) e), lengths_are s t (and_right (buddy_ok s) (lengths_ok s t) e))

    back : BuddyIn s × Lengths s t → fit_ok s t ≡ true
    back w = and_both (buddy_ok s) (lengths_ok s t) (buddy_all s w.0) (are_lengths s t w.1)

-- ---- a return

-- a return that is taken says how many chunks it released
taken_said : (s : BuddySettings) (a : Account) (b : Block) (w : ℕ) (t : Tables) (list : List ℕ) → refuses (released_by s a b w t list).said ≡ false
unfolding released_by
taken_said s a b w t list = by (climb_for s b w t).freed
  where
    by : (c : Bool)
        → refuses
        (cond c
        (listed (Paper.released 1) (released_account s.store a 1 (chunk_size_in t b.chunk)) (given_tables s b w t) (sets list 0 (memory_in t b.chunk ∷ [])))
        (listed (Paper.released 0) (released_account s.store a 0 0) (given_tables s b w t) list)).said
        ≡ false
    by true = refl
    by false = refl

-- a refused return leaves the account, every word and the list as they were
pub return_leaves : (s : BuddySettings) (a : Account) (b : Block) (t : Tables) (list : List ℕ) (n : ℕ) (back : List ℕ) → (return_of s a b t list).said ≡ Paper.refusal n back → return_of s a b t list ≡ listed (Paper.refusal n []) a t list
unfolding return_of carry_return
return_leaves s a b t list n back = by (plan_return s a b t (list_ok s.store list))
  where
    by : (p : R.Plan) → (carry_return s a b t list p).said ≡ Paper.refusal n back → carry_return s a b t list p ≡ listed (Paper.refusal n []) a t list
    by (R.deny m) e = ap (λ (k : ℕ). listed (Paper.refusal k []) a t list) (said_number m n [] back e)
    by (R.back w) e = not_refused (carry_return s a b t list (R.back w)).said n back (taken_said s a b w t list) e

-- 7
stale_is : (s : BuddySettings) (b : Block) (t : Tables) → BuddyIn s → Lengths s t → Sound s t → (on_loan_ok s b t ≡ false) ↔ Stale buddy_words s b t
stale_is s b t fit lengths sound = fails (on_loan_ok s b t) there back
  where
    there : on_loan_ok s b t ≡ true → OnLoan b (loans_in t)
    there e = let w = on_loan_is s t fit lengths sound b e in (_, live_loan t (led_to t.index (word_for s b t)) w.0, w.1)

    back : OnLoan b (loans_in t) → on_loan_ok s b t ≡ true
    back v = let w = lent_live t b v in is_on_loan s t fit lengths sound b w.0 w.1 w.2

-- the gate
abbrev gate_for : BuddySettings → Account → Tables → Bool → Row
gate_for s a t list = gate_row (in_table_ok s a t && list) (no_order a.order) (sound_ok s t) (account_ok s a t)

gate_went : (s : BuddySettings) (a : Account) (t : Tables) (list : Bool) → first (gate_for s a t list) ≡ pass → Passed s a t list
unfolding gate_of
gate_went s a t list e = gate_passed s a t list (sym e)

-- a return is refused with n exactly when n is the number of the first of its rows, 1 to 4, 7, whose words hold
pub return_refused : (s : BuddySettings) (a : Account) (b : Block) (t : Tables) (list : List ℕ) (n : ℕ) → ((return_of s a b t list).said ≡ Paper.refusal n []) ↔ Given (return_rows buddy_words s a b t list) n
unfolding return_of carry_return plan_return decide_return gate_of
return_refused s a b t list n =
    Iff.trans (subst (λ (v : Verdict). Says (return_of s a b t list).said v n) (sym (first_then gate tests)) (by (first gate) (on_loan_ok s b t)))
    (given_first (gate ++ tests) (return_rows buddy_words s a b t list) (decides_then gate (list_rows buddy_words s a t list) tests (reason (Stale buddy_words s b t) 7 none) (list_decided s a t list) later) n)
  where
    gate : Row
    gate = gate_for s a t (list_ok s.store list)

    tests : Row
    tests = (on_loan_ok s b t, 7) ∷ []

    later : first gate ≡ pass → Decides tests (reason (Stale buddy_words s b t) 7 none)
    later e = let p = gate_went s a t (list_ok s.store list) e in (refl, stale_is s b t p.lent.settings p.lent.lengths p.sound, (λ _. tt))

    by : (v : Verdict) (on : Bool) → Says (carry_return s a b t list (gated R.deny v (cond on (R.back (word_for s b t)) (R.deny 7)))).said (and_then v (first ((on, 7) ∷ []))) n
    by (refuse m) on = says_refused m n
    by pass true = says_passed (carry_return s a b t list (R.back (word_for s b t))).said n (taken_said s a b (word_for s b t) t list)
    by pass false = says_refused 7 n

-- ---- exactly when each number of an ask is given

-- an ask is refused with n exactly when n is the number of the first of its rows, 1 to 4, 5, 6, 8, 10, 9, whose words hold
pub ask_refused : (s : BuddySettings) (a : Account) (size mask : ℕ) (t : Tables) (n : ℕ) → ((ask_of s a size mask t).said ≡ Paper.refusal n []) ↔ Given (ask_rows buddy_words s a size mask t) n
unfolding ask_of carry_ask plan_ask decide_ask gate_of
ask_refused s a size mask t n =
    Iff.trans (subst (λ (v : Verdict). Says (ask_of s a size mask t).said v n) (sym (first_then gate tests)) (by (first gate) (found_from s (level_for s size mask) t) (first tests)))
    (given_first (gate ++ tests) (ask_rows buddy_words s a size mask t) (decides_then gate (gate_rows buddy_words s a t) tests (ask_tests buddy_words s (heap_at a s.store.heap) a.objects size mask t) (gate_decided s a t) later) n)
  where
    gate : Row
    gate = gate_for s a t true

    tests : Row
    tests = ask_row s (heap_at a s.store.heap) a.objects size mask t (found_from s (level_for s size mask) t)

    later : first gate ≡ pass → Decides tests (ask_tests buddy_words s (heap_at a s.store.heap) a.objects size mask t)
    later e =
        let p = gate_went s a t true e in
        let fit = p.lent.settings in
        ask_decided s t fit p.lent.lengths p.sound (heap_at a s.store.heap) a.objects size mask

    by : (v : Verdict) (f : Found) (u : Verdict) → Says (carry_ask s a size mask t (gated A.deny v (planned s (level_for s size mask) t f u))).said (and_then v u) n
    by (refuse m) f u = says_refused m n
    by pass f (refuse m) = says_refused m n
    by pass (at i) pass = says_passed (carry_ask s a size mask t (take i)).said n refl
    by pass nowhere pass = says_passed (carry_ask s a size mask t (buy (order_bytes s (level_for s size mask) t))).said n refl

-- ---- an ask

module _ (s : BuddySettings) (a : Account) (size mask : ℕ) (t : Tables) where
  -- what a refused ask leaves follows from its number
  ask_denied : (n : ℕ) (back : List ℕ) → (ask_of s a size mask t).said ≡ Paper.refusal n back → ask_of s a size mask t ≡ out (Paper.refusal n []) a (denied_tables s (level_for s size mask) n t)
  unfolding ask_of carry_ask
  ask_denied n back = by (plan_ask s a size mask t)
    where
      by : (p : Plan ℕ) → (carry_ask s a size mask t p).said ≡ Paper.refusal n back → carry_ask s a size mask t p ≡ out (Paper.refusal n []) a (denied_tables s (level_for s size mask) n t)
      by (deny m) e = ap (λ (k : ℕ). out (Paper.refusal k []) a (denied_tables s (level_for s size mask) k t)) (said_number m n [] back e)
      by (take i) e = not_refused (carry_ask s a size mask t (take i)).said n back refl e
      by (buy z) e = not_refused (carry_ask s a size mask t (buy z)).said n back refl e

  -- every refusal of an ask but 9 leaves the account and every word as they were
  pub ask_leaves : (n : ℕ) (back : List ℕ) → (ask_of s a size mask t).said ≡ Paper.refusal n back → (n ≡ 9 → ⊥) → ask_of s a size mask t ≡ out (Paper.refusal n []) a t
  unfolding denied_tables
  ask_leaves n back e other =
      ask_denied n back e ∙ ap (λ (c : Bool). out (Paper.refusal n []) a (cond c (grown_tables s (grown_to (level_for s size mask) t) t) t)) (ne_eqb n 9 other)

  -- "9 in a buddy store leaves the levels grown as the ask needs", and nothing else changed
  pub ask_leaves_grown : (back : List ℕ) → (ask_of s a size mask t).said ≡ Paper.refusal 9 back → ask_of s a size mask t ≡ out (Paper.refusal 9 []) a (grown_tables s (grown_to (level_for s size mask) t) t)
  unfolding denied_tables
  ask_leaves_grown back e = ask_denied 9 back e

-- ---- a delivery

-- every refusal of a delivery but 11 and 12 leaves the account and every table as they were
pub deliver_leaves : (s : BuddySettings) (a : Account) (o : Outcome) (t : Tables) (n : ℕ) (back : List ℕ) → (deliver_of s a o t).said ≡ Paper.refusal n back → (n ≡ 11 → ⊥) → (n ≡ 12 → ⊥) → deliver_of s a o t ≡ out (Paper.refusal n []) a t
unfolding deliver_of plan_deliver carry_deliver carry_fate
deliver_leaves s a o t n back e device host = after (deliver_gate_of s a t) a.order e
  where
    Leaves : Arrival → Type 0
    Leaves p = (carry_deliver s a t p).said ≡ Paper.refusal n back → carry_deliver s a t p ≡ out (Paper.refusal n []) a t

    denied : (m : ℕ) → Leaves (D.deny m)
    denied m q = ap (λ (k : ℕ). out (Paper.refusal k []) a t) (said_number m n [] back q)

    fated : (k : KeptOrder) (f : Fate) → fate_of buddy o ≡ f → Leaves (D.go k f)
    fated k (kept m) l q = not_refused (carry_fate s a k t (kept m)).said n back refl q
    fated k (lost m c x) l q =
        let z = sym (said_number m n x back q) in
        absurd (⊎_elim (λ d. device (z ∙ d)) (λ d. host (z ∙ d)) (loss_left buddy s.store a k o m c x l).0)

    tested : (b : Bool) (k : KeptOrder) → Leaves (cond b (D.go k (fate_of buddy o)) (D.deny 13))
    tested true k = fated k (fate_of buddy o) refl
    tested false k = denied 13

    after : (v : Verdict) (x : OpenOrder) → Leaves (gated D.deny v (arrival_of buddy o (memories t (chunk_places_in t)) x))
    after (refuse m) x = denied m
    after pass None = denied 2
    after pass (Some k) = tested (delivery_ok k.order.map (memories t (chunk_places_in t)) o) k
