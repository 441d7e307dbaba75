-- What a refusal leaves, and exactly when each number of 01's table is given.
use mathlib.Core.Path.{◌≡◌, refl, sym, ap, subst, ◌∙◌}
use mathlib.Core.Bool.{Bool, true, false, cond, ◌&&◌}
use mathlib.Core.Logic.Iff
use mathlib.Core.Logic.{◌⊎◌, ⊎_elim, ◌↔◌}
use mathlib.Core.List.{List, [], ◌∷◌, ◌++◌}
use Prim.Native.Nat.{ℕ}
use Rattle.lists.proofs.Bools.{true_false, and_left, and_right, and_both}
use Rattle.counter.specs.Account.{heap_at}
use Rattle.counter.specs.Gate.{Verdict, pass, refuse, Row, first, gated}
use Rattle.counter.specs.InTable.{FreeListIn}
use Rattle.counter.specs.Paper as Paper
use Rattle.counter.specs.Reasons.{none, reason, Given, Clear, Decides}
use Rattle.counter.specs.Table.{free_list_ok}
use Rattle.counter.specs.declared.account.Account.{Account}
use Rattle.counter.specs.declared.account.KeptOrder.{KeptOrder}
use Rattle.counter.specs.Open.{OpenOrder}
use Rattle.std.specs.Prelude.{None, Some}
use Rattle.counter.specs.declared.answers.Block.{Block}
use Rattle.counter.specs.declared.answers.Outcome.{Outcome}
use Rattle.counter.specs.declared.settings.FreeListSettings.{FreeListSettings}
use Rattle.counter.proofs.Gates.{passed}
use Rattle.counter.proofs.Reasoned.{given_first, decides_then, and_then, first_then}
use Rattle.counter.proofs.Tables.{free_list_yes, free_list_all}
use Rattle.store_rules.specs.Delivery.{Fate, kept, lost, free_list, fate_of}
use Rattle.store_rules.specs.Orders.{Plan, deny, take, buy, order_from, leads_to}
use Rattle.store_rules.specs.Outcomes.{Out, out, listed, list_ok}
use Rattle.store_rules.specs.Refusals.{DeviceOut, HostOut, lost_for, UnwelcomeTo}
use Rattle.store_rules.specs.Tests.{no_order, open_for, gate_row}
use Rattle.store_rules.proofs.Refused.{fails, none_for, is_same_order, leads_buy}
use Rattle.store_rules.proofs.Said.{not_refused, said_number, said_back, Says, says_refused, says_passed, Tells, tells_refused, tells_passed}
use Rattle.store_rules.proofs.Fates.{loss_left, fate_verdict, fate_row, device_out, host_out, welcome_ok, unwelcomed, same_kept, arrival_tells}
use Rattle.freelist_rules.specs.Place.{Found, nowhere, at}
use Rattle.freelist_rules.specs.Tables.{Tables, lengths_ok, Lengths, store_of, sound_ok, SoundTables}
use Rattle.freelist_rules.specs.Walk.{memories}
use Rattle.freelist_rules.proofs.Fits.{lengths_are, are_lengths}
use Rattle.freelist_rules.proofs.Tested.{tables_yes, tables_all}
use Rattle.freelist_outcomes.specs.Gate.{in_table_ok, account_ok, gate_of}
use Rattle.freelist_outcomes.specs.Ask.{found_for, raised_for, ask_row, planned, decide_ask, carry_ask, plan_ask, ask_of}
use Rattle.freelist_outcomes.specs.Ask as A
use Rattle.freelist_outcomes.specs.Deliver.{still_ok, deliver_gate_of, carry_fate, plan_deliver, carry_deliver, deliver_of}
use Rattle.freelist_outcomes.specs.Deliver as D
use Rattle.freelist_outcomes.specs.Return.{word_for, on_loan_ok, release_of, decide_return, plan_return, carry_return, return_of, carry_clean_up, clean_up_of}
use Rattle.freelist_outcomes.specs.Return as R
use Rattle.freelist_outcomes.specs.SetUp.{begun, fit_ok, plan_set_up, carry_set_up, set_up_of}
use Rattle.freelist_outcomes.specs.Refusals.{Needed, list_words}
use Rattle.store_rules.specs.Rows.{Leads, Stale, ask_rows, ask_tests, deliver_rows, gate_rows, kept_rows, list_rows, return_rows, set_up_rows}
use Rattle.freelist_outcomes.proofs.Asked.{ask_decided, ask_buys}
use Rattle.freelist_outcomes.proofs.Comes.{Arrival, early, fated, arrives}
use Rattle.freelist_outcomes.proofs.Gated.{in_table, short, gate_decided, list_decided}
use Rattle.freelist_outcomes.proofs.Given.{on_loan_is, is_on_loan}
use Rattle.freelist_outcomes.proofs.Passing.{Passed, gate_passed}

-- ---- a refusal leaves the account and every word of every table and list as they were

-- a refused ask leaves the account and every word as they were
pub ask_leaves : (s : FreeListSettings) (a : Account) (size mask : ℕ) (t : Tables) (n : ℕ) (back : List ℕ) → (ask_of s a size mask t).said ≡ Paper.refusal n back → ask_of s a size mask t ≡ out (Paper.refusal n []) a t
unfolding ask_of carry_ask
ask_leaves s a size mask t n back = by (plan_ask s a size mask t)
  where
    by : (p : Plan ℕ) → (carry_ask s a size mask t p).said ≡ Paper.refusal n back → carry_ask s a size mask t p ≡ out (Paper.refusal n []) a t
    by (deny m) e = ap (λ (k : ℕ). out (Paper.refusal k []) a t) (said_number m n [] back e)
    by (take i) e = not_refused (carry_ask s a size mask t (take i)).said n back refl e
    by (buy z) e = not_refused (carry_ask s a size mask t (buy z)).said n back refl e

-- and so does a refused return, the list too
pub return_leaves : (s : FreeListSettings) (a : Account) (b : Block) (t : Tables) (list : List ℕ) (n : ℕ) (back : List ℕ) → (return_of s a b t list).said ≡ Paper.refusal n back → return_of s a b t list ≡ listed (Paper.refusal n []) a t list
unfolding return_of carry_return release_of
return_leaves s a b t list n back = by (plan_return s a b t (list_ok s.store list))
  where
    by : (p : R.Plan) → (carry_return s a b t list p).said ≡ Paper.refusal n back → carry_return s a b t list p ≡ listed (Paper.refusal n []) a t list
    by (R.deny m) e = ap (λ (k : ℕ). listed (Paper.refusal k []) a t list) (said_number m n [] back e)
    by (R.back w) e = not_refused (carry_return s a b t list (R.back w)).said n back refl e

-- and a refused clean-up
pub clean_up_leaves_all : (s : FreeListSettings) (a : Account) (t : Tables) (list : List ℕ) (n : ℕ) (back : List ℕ) → (clean_up_of s a t list).said ≡ Paper.refusal n back → clean_up_of s a t list ≡ listed (Paper.refusal n []) a t list
unfolding clean_up_of carry_clean_up release_of
clean_up_leaves_all s a t list n back = by (gate_of s a t (list_ok s.store list))
  where
    by : (v : Verdict) → (carry_clean_up s a t list v).said ≡ Paper.refusal n back → carry_clean_up s a t list v ≡ listed (Paper.refusal n []) a t list
    by (refuse m) e = ap (λ (k : ℕ). listed (Paper.refusal k []) a t list) (said_number m n [] back e)
    by pass e = not_refused (carry_clean_up s a t list pass).said n back refl e

-- and a refused set-up
pub set_up_leaves : (s : FreeListSettings) (t : Tables) (n : ℕ) (back : List ℕ) → (set_up_of s t).said ≡ Paper.refusal n back → set_up_of s t ≡ begun (Paper.refusal n []) t
unfolding set_up_of carry_set_up
set_up_leaves s t n back = by (plan_set_up s t)
  where
    by : (v : Verdict) → (carry_set_up s t v).said ≡ Paper.refusal n back → carry_set_up s t v ≡ begun (Paper.refusal n []) t
    by (refuse m) e = ap (λ (k : ℕ). begun (Paper.refusal k []) t) (said_number m n [] back e)
    by pass e = not_refused Paper.ready n back refl e

-- ---- exactly when each number is given

-- a clean-up is refused with n exactly when n is the number of the first of the rows 1 to 4 whose words hold
pub clean_up_refused : (s : FreeListSettings) (a : Account) (t : Tables) (list : List ℕ) (n : ℕ) → ((clean_up_of s a t list).said ≡ Paper.refusal n []) ↔ Given (list_rows list_words s a t list) n
unfolding clean_up_of carry_clean_up release_of gate_of
clean_up_refused s a t list n = Iff.trans (by (first row)) (given_first row (list_rows list_words s a t list) (list_decided s a t list) n)
  where
    row : Row
    row = gate_row (in_table_ok s a t && list_ok s.store list) (no_order a.order) (sound_ok s t) (account_ok s a t)

    by : (v : Verdict) → Says (carry_clean_up s a t list v).said v n
    by (refuse m) = says_refused m n
    by pass = says_passed (carry_clean_up s a t list pass).said n refl

-- set-up is refused only by 1, exactly when a value or a length is outside the table
pub set_up_refused : (s : FreeListSettings) (t : Tables) (n : ℕ) → ((set_up_of s t).said ≡ Paper.refusal n []) ↔ Given (set_up_rows list_words s t) n
unfolding set_up_of plan_set_up carry_set_up fit_ok
set_up_refused s t n = Iff.trans (by (plan_set_up s t)) (given_first ((fit_ok s t, 1) ∷ []) (set_up_rows list_words s t) (refl, fails (fit_ok s t) there back, (λ _. tt)) n)
  where
    by : (v : Verdict) → Says (carry_set_up s t v).said v n
    by (refuse m) = says_refused m n
    by pass = says_passed Paper.ready n refl

    there : fit_ok s t ≡ true → FreeListIn s × Lengths s t
    there e = (free_list_yes s (and_left (free_list_ok s) (lengths_ok s t) e), lengths_are s t (and_right (free_list_ok s) (lengths_ok s t) e))

    back : FreeListIn s × Lengths s t → fit_ok s t ≡ true
    back w = and_both (free_list_ok s) (lengths_ok s t) (free_list_all s w.0) (are_lengths s t w.1)

-- ---- a delivery

-- a fate that is said as a refusal is a loss
fate_lost : (s : FreeListSettings) (a : Account) (k : KeptOrder) (t : Tables) (f : Fate) (n : ℕ) (back : List ℕ) → (carry_fate s a k t f).said ≡ Paper.refusal n back → (c : Bool) × (f ≡ lost n c back)
unfolding carry_fate
fate_lost s a k t (kept m) n back e = not_refused (carry_fate s a k t (kept m)).said n back refl e
fate_lost s a k t (lost m c x) n back e = (c, (λ j. lost (said_number m n x back e j) c (said_back m n x back e j)))

-- every refusal but 11 and 12 leaves the account and every table as they were
pub deliver_leaves : (s : FreeListSettings) (a : Account) (o : Outcome) (t : Tables) (n : ℕ) (back : List ℕ) → (deliver_of s a o t).said ≡ Paper.refusal n back → (n ≡ 11 → ⊥) → (n ≡ 12 → ⊥) → deliver_of s a o t ≡ out (Paper.refusal n []) a t
deliver_leaves s a o t n back e device host = by (deliver_of s a o t) (arrives s a o t) e
  where
    by : (r : Out Tables) → Arrival s a o t r → r.said ≡ Paper.refusal n back → r ≡ out (Paper.refusal n []) a t
    by _ (early m x y) q = ap (λ (i : ℕ). out (Paper.refusal i []) a t) (said_number m n [] back q)
    by _ (fated k w g) q =
        let f = fate_lost s a k t (fate_of free_list o) n back q in
        absurd (⊎_elim device host (loss_left free_list s.store a k o n f.0 back f.1).0)

-- 11 and 12 leave every table as it was, and of the account what 01 says
pub deliver_lost : (s : FreeListSettings) (a : Account) (o : Outcome) (t : Tables) (k : KeptOrder) (n : ℕ) (back : List ℕ) → a.order ≡ Some k → (deliver_of s a o t).said ≡ Paper.refusal n back → (n ≡ 11) ⊎ (n ≡ 12)
    → deliver_of s a o t ≡ out (Paper.refusal n back) (lost_for free_list s.store a k o) t
unfolding carry_fate
deliver_lost s a o t k n back its e number = by (deliver_of s a o t) (arrives s a o t) e
  where
    by : (r : Out Tables) → Arrival s a o t r → r.said ≡ Paper.refusal n back → r ≡ out (Paper.refusal n back) (lost_for free_list s.store a k o) t
    by _ (early m x y) q =
        let z = said_number m n [] back q in
        absurd (⊎_elim (λ p. x (z ∙ p)) (λ p. y (z ∙ p)) number)
    by _ (fated j w g) q =
        let f = fate_lost s a j t (fate_of free_list o) n back q in
        ap (carry_fate s a j t) f.1
        ∙ (λ i. out (Paper.refusal n back) ((loss_left free_list s.store a j o n f.0 back f.1).1 i) t)
        ∙ (λ i. out (Paper.refusal n back) (lost_for free_list s.store a (same_kept j k (sym w.is ∙ its) i) o) t)

-- ---- exactly when each number of a delivery is given

tells_fate : (s : FreeListSettings) (a : Account) (k : KeptOrder) (t : Tables) (f : Fate) (n : ℕ) → Tells (carry_fate s a k t f).said (fate_verdict f) n
unfolding carry_fate
tells_fate s a k t (kept m) n = tells_passed (carry_fate s a k t (kept m)).said n refl
tells_fate s a k t (lost m c back) n = tells_refused m n back

module _ (s : FreeListSettings) (a : Account) (t : Tables) where
  abbrev held : List ℕ
  held = memories (store_of s t).chunks

  abbrev gates : Row
  gates =
      gate_row (in_table_ok s a t) (open_for s.store.number a.order) (sound_ok s t && still_ok s a t a.order) (account_ok s a t)

  leads : FreeListIn s → ((sound_ok s t && still_ok s a t a.order) ≡ true) ↔ (SoundTables s t × Leads list_words s a t)
  leads fit = (there, back)
    where
      bought : SoundTables s t → (k : KeptOrder) (z : ℕ) → (decide_ask s (heap_at a s.store.heap) a.objects k.ask.size k.ask.mask t ≡ buy z)
          ↔ (Clear (ask_tests list_words s (heap_at a s.store.heap) a.objects k.ask.size k.ask.mask t) × Needed s k.ask.size k.ask.mask t × (z ≡ raised_for s k.ask.size t))
      bought sound k z = ask_buys s t fit sound (heap_at a s.store.heap) a.objects k.ask.size k.ask.mask z

      still : SoundTables s t → (ord : OpenOrder) → a.order ≡ ord → still_ok s a t ord ≡ true → Leads list_words s a t
      still sound None q e = absurd (true_false false e refl)
      still sound (Some k) q e =
          let p = leads_buy s.store k.order (decide_ask s (heap_at a s.store.heap) a.objects k.ask.size k.ask.mask t) e in
          let w = (bought sound k p.0).0 p.1 in
          record { kept = k; its = q; clear = w.0; needed = w.1; same = p.2 ∙ ap (order_from s.store) w.2 }

      there : (sound_ok s t && still_ok s a t a.order) ≡ true → SoundTables s t × Leads list_words s a t
      there e =
          let sound = tables_yes s t fit (and_left (sound_ok s t) (still_ok s a t a.order) e) in
          (sound, still sound a.order refl (and_right (sound_ok s t) (still_ok s a t a.order) e))

      back : SoundTables s t × Leads list_words s a t → (sound_ok s t && still_ok s a t a.order) ≡ true
      back w =
          let l = w.1 in
          let k = l.kept in
          let z = raised_for s k.ask.size t in
          and_both (sound_ok s t) (still_ok s a t a.order) (tables_all s t fit w.0)
          (ap (still_ok s a t) l.its
          ∙ ap (leads_to s.store k.order) ((bought w.0 k z).1 (l.clear, l.needed, refl))
          ∙ is_same_order k.order (order_from s.store z) l.same)

  -- 1 to 4
  pub kept_decided : Decides gates (kept_rows list_words s a t)
  kept_decided = (
    refl,
    fails (in_table_ok s a t) (in_table s a t).0 (in_table s a t).1,
    (λ e. (
      refl,
      none_for s.store.number a,
      (λ _. (
        refl,
        (let w = leads ((in_table s a t).0 e).0.0 in fails (sound_ok s t && still_ok s a t a.order) w.0 w.1),
        (λ _. (refl, short s a t, (λ _. tt))),
      )),
    )),
  )

  module _ (o : Outcome) where
    abbrev deliver_row : Row
    deliver_row = gates ++ ((welcome_ok held o a.order, 13) ∷ fate_row o)

    -- a delivery says what the row of its tests comes to
    deliver_tells : (n : ℕ) → Tells (deliver_of s a o t).said (first deliver_row) n
    unfolding deliver_of plan_deliver deliver_gate_of carry_deliver
    deliver_tells n =
        arrival_tells free_list o held s.store.number (λ (p : D.Arrival). (carry_deliver s a t p).said) n (λ m. tells_refused m n []) (λ k f. tells_fate s a k t f n) gates a.order
        (λ e. (passed gates e).1.0)

    deliver_decided : Decides deliver_row (deliver_rows list_words s a o t)
    deliver_decided =
        decides_then gates (kept_rows list_words s a t) ((welcome_ok held o a.order, 13) ∷ fate_row o) (reason (UnwelcomeTo a held o) 13 (reason (DeviceOut o) 11 (reason (HostOut o) 12 none))) kept_decided
        (λ _. (refl, unwelcomed a held o, (λ _. (refl, device_out o, (λ _. (refl, host_out o, (λ _. tt)))))))

-- a delivery is refused with n exactly when n is the number of the first of its rows, 1 to 4, 13, 11, 12, whose words hold
pub deliver_refused : (s : FreeListSettings) (a : Account) (o : Outcome) (t : Tables) (n : ℕ) → ((back : List ℕ) × ((deliver_of s a o t).said ≡ Paper.refusal n back)) ↔ Given (deliver_rows list_words s a o t) n
deliver_refused s a o t n =
    Iff.trans (deliver_tells s a t o n) (given_first (deliver_row s a t o) (deliver_rows list_words s a o t) (deliver_decided s a t o) n)

-- ---- exactly when each number of an ask and of a return is given

-- the gate, which both pass first
abbrev gate_for : FreeListSettings → Account → Tables → Bool → Row
gate_for s a t list = gate_row (in_table_ok s a t && list) (no_order a.order) (sound_ok s t) (account_ok s a t)

gate_went : (s : FreeListSettings) (a : Account) (t : Tables) (list : Bool) → first (gate_for s a t list) ≡ pass → Passed s a t list
unfolding gate_of
gate_went s a t list e = gate_passed s a t list (sym e)

-- an ask is refused with n exactly when n is the number of the first of its rows, 1 to 4, 5, 6, 8, 10, 9, whose words hold
pub ask_refused : (s : FreeListSettings) (a : Account) (size mask : ℕ) (t : Tables) (n : ℕ) → ((ask_of s a size mask t).said ≡ Paper.refusal n []) ↔ Given (ask_rows list_words s a size mask t) n
unfolding ask_of carry_ask plan_ask decide_ask gate_of
ask_refused s a size mask t n =
    Iff.trans (subst (λ (v : Verdict). Says (ask_of s a size mask t).said v n) (sym (first_then gate tests)) (by (first gate) (found_for s size mask t) (first tests)))
    (given_first (gate ++ tests) (ask_rows list_words s a size mask t) (decides_then gate (gate_rows list_words s a t) tests (ask_tests list_words s (heap_at a s.store.heap) a.objects size mask t) (gate_decided s a t) later) n)
  where
    gate : Row
    gate = gate_for s a t true

    tests : Row
    tests = ask_row s (heap_at a s.store.heap) a.objects size mask t (found_for s size mask t)

    later : first gate ≡ pass → Decides tests (ask_tests list_words s (heap_at a s.store.heap) a.objects size mask t)
    later e = let p = gate_went s a t true e in ask_decided s t p.settings p.sound (heap_at a s.store.heap) a.objects size mask

    by : (v : Verdict) (f : Found) (u : Verdict) → Says (carry_ask s a size mask t (gated A.deny v (planned s size t f u))).said (and_then v u) n
    by (refuse m) f u = says_refused m n
    by pass f (refuse m) = says_refused m n
    by pass (at i) pass = says_passed (carry_ask s a size mask t (take i)).said n refl
    by pass nowhere pass = says_passed (carry_ask s a size mask t (buy (raised_for s size t))).said n refl

-- 7
stale_is : (s : FreeListSettings) (b : Block) (t : Tables) → FreeListIn s → SoundTables s t → (on_loan_ok s b t ≡ false) ↔ Stale list_words s b t
stale_is s b t fit sound = fails (on_loan_ok s b t) (on_loan_is s t fit sound b) (is_on_loan s t fit sound b)

-- a return is refused with n exactly when n is the number of the first of its rows, 1 to 4, 7, whose words hold
pub return_refused : (s : FreeListSettings) (a : Account) (b : Block) (t : Tables) (list : List ℕ) (n : ℕ) → ((return_of s a b t list).said ≡ Paper.refusal n []) ↔ Given (return_rows list_words s a b t list) n
unfolding return_of carry_return plan_return decide_return release_of gate_of
return_refused s a b t list n =
    Iff.trans (subst (λ (v : Verdict). Says (return_of s a b t list).said v n) (sym (first_then gate tests)) (by (first gate) (on_loan_ok s b t)))
    (given_first (gate ++ tests) (return_rows list_words s a b t list) (decides_then gate (list_rows list_words s a t list) tests (reason (Stale list_words s b t) 7 none) (list_decided s a t list) later) n)
  where
    gate : Row
    gate = gate_for s a t (list_ok s.store list)

    tests : Row
    tests = (on_loan_ok s b t, 7) ∷ []

    later : first gate ≡ pass → Decides tests (reason (Stale list_words s b t) 7 none)
    later e = let p = gate_went s a t (list_ok s.store list) e in (refl, stale_is s b t p.settings p.sound, (λ _. tt))

    by : (v : Verdict) (on : Bool) → Says (carry_return s a b t list (gated R.deny v (cond on (R.back (word_for s b t)) (R.deny 7)))).said (and_then v (first ((on, 7) ∷ []))) n
    by (refuse m) on = says_refused m n
    by pass true = says_passed (carry_return s a b t list (R.back (word_for s b t))).said n refl
    by pass false = says_refused 7 n
