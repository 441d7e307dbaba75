-- After a call that opened no order, on a store that passes tests 1 to 4, they pass again.
use mathlib.Core.Path.{◌≡◌, refl, sym, ap, subst, ◌∙◌}
use mathlib.Core.Bool.{Bool, true, false, not, ◌&&◌}
use mathlib.Core.Logic.{⊎_elim}
use mathlib.Core.List.{List, [], ◌∷◌}
use Prim.Native.Nat.{ℕ, ◌+◌}
use native.Mathlib.Omega.{arith}
use lib.Dec.{eqb}
use borrow.Author.Tests.{eqb-true}
use Rattle.lists.proofs.Bools.{told, true_false, and_left, and_both, not_yes}
use Rattle.counter.specs.Account.{Typed, heap_at}
use Rattle.counter.specs.Gate.{Verdict, pass, gated}
use Rattle.counter.specs.InTable.{BuddyIn}
use Rattle.counter.specs.Table.{buddy_ok, heaps_ok}
use Rattle.counter.specs.declared.account.Account.{Account}
use Rattle.counter.specs.declared.account.KeptOrder.{KeptOrder}
use Rattle.counter.specs.Open.{OpenOrder}
use Rattle.std.specs.Prelude.{None, Some}
use Rattle.counter.specs.declared.answers.Block.{Block}
use Rattle.counter.specs.declared.answers.Mapping.{Mapping}
use Rattle.counter.specs.declared.answers.Mapping.TheVariants as M
use Rattle.counter.specs.declared.answers.Memory.{Memory}
use Rattle.counter.specs.declared.answers.Outcome.{Outcome}
use Rattle.counter.specs.declared.answers.Outcome.TheVariants as O
use Rattle.counter.specs.declared.settings.BuddySettings.{BuddySettings}
use Rattle.counter.proofs.Gates.{passed, passes}
use Rattle.counter.proofs.Tables.{buddy_all}
use Rattle.store_rules.specs.Delivery.{kept, lost, buddy, holds, suits, delivery_ok, mapped, fate_of}
use Rattle.store_rules.specs.Orders.{Plan, deny, take, buy}
use Rattle.store_rules.specs.Outcomes.{Out, Listed, charged_account, back_account, lost_account, released_account}
use Rattle.store_rules.specs.Tests.{no_order, open_for, covers_ok, gate_row}
use Rattle.store_rules.proofs.Accounts.{released_heaps, released_covered, charged_heaps, charged_covered, lost_heaps, lost_covered}
use Rattle.buddy_trees.specs.Trees.{bytes}
use Rattle.buddy_rules.specs.Tables.{Tables, Lengths, lengths_ok, levels_in, chunk_places_in, chunk_size_in, memory_in, held_in, memories}
use Rattle.buddy_rules.specs.Sound.{Sound}
use Rattle.buddy_rules.specs.Test.{sound_ok}
use Rattle.buddy_rules.proofs.Decides.{tables_yes, tables_all}
use Rattle.buddy_outcomes.specs.Gate.{in_table_ok, held_count, held_bytes, account_ok, gate_of}
use Rattle.buddy_outcomes.specs.Ask as Ask
use Rattle.buddy_outcomes.specs.Ask.{grown_to, size_ok, decide_ask, grown_tables, taken_tables, denied_tables, carry_ask, plan_ask, ask_of, size_for, level_for}
use Rattle.buddy_outcomes.specs.Deliver as Deliver
use Rattle.buddy_outcomes.specs.Deliver.{still_ok, deliver_gate_of, served_tables, carry_fate, decide_deliver, plan_deliver, carry_deliver, deliver_of}
use Rattle.buddy_outcomes.specs.Return.{word_for, on_loan_ok, climb_for, given_tables, released_by, return_of}
use Rattle.buddy_outcomes.proofs.Passing.{Passed, lent_in_lem, gate_passed, are_lengths}
use Rattle.buddy_outcomes.proofs.Plans.{takes, nine}
use Rattle.buddy_outcomes.proofs.Rounds.{level_low}
use Rattle.buddy_outcomes.proofs.Changed.{grown_lengths, grown_tables_sound}
use Rattle.buddy_outcomes.proofs.Taken.{taken_lengths, taken_sound}
use Rattle.buddy_outcomes.proofs.Given.{given_lengths, given_sound}
use Rattle.buddy_outcomes.proofs.Returned as Returned
use Rattle.buddy_outcomes.proofs.Returned.{ReturnComes, return_comes}
use Rattle.buddy_outcomes.proofs.Delivered.{grown_sound, count, chunk_room, arrived_lengths, arrived_sound, new_memory, held_low, Open, opened}
use Rattle.buddy_outcomes.proofs.Heads.{back_chunk_places}
use Rattle.buddy_outcomes.proofs.Held.{chunks_held, bytes_held, Holds, holds_account, account_covers, grown_holds, taken_holds, served_holds, freed_holds, kept_holds}

-- what tests 1 to 4 ask for
pub gate_passes : (s : BuddySettings) (a : Account) (t : Tables) → BuddyIn s → heaps_ok a.heaps ≡ true → Lengths s t → no_order a.order ≡ true → Sound s t → account_ok s a t ≡ true → gate_of s a t true ≡ pass
unfolding gate_of in_table_ok
gate_passes s a t fit heaps lengths none sound covered =
    passes (gate_row (in_table_ok s a t && true) (no_order a.order) (sound_ok s t) (account_ok s a t)) (
      and_both (in_table_ok s a t) true (and_both (buddy_ok s) (heaps_ok a.heaps && lengths_ok s t) (buddy_all s fit) (and_both (heaps_ok a.heaps) (lengths_ok s t) heaps (are_lengths s t lengths))) refl,
      (none, (tables_all s t fit sound, (covered, tt))),
    )

-- 1 to 4 pass: values in the table, no order open, the store sound, the account covering it
module _ (s : BuddySettings) (a : Account) (t : Tables) (typed : Typed a) (passes_now : gate_of s a t true ≡ pass) where
  -- no order is open
  none_open : no_order a.order ≡ true
  unfolding gate_of
  none_open = (passed (gate_row (in_table_ok s a t && true) (no_order a.order) (sound_ok s t) (account_ok s a t)) passes_now).1.0

  went : Passed s a t true
  went = gate_passed s a t true (sym passes_now)

  abbrev fit : BuddyIn s
  fit = went.lent.settings

  abbrev lengths : Lengths s t
  lengths = went.lent.lengths

  abbrev sound : Sound s t
  sound = went.sound

  -- ---- an ask

  module _ (size mask : ℕ) where
    abbrev plan : Plan ℕ
    plan = decide_ask s (heap_at a s.store.heap) a.objects size mask t

    grown_again : size_ok s size mask ≡ true → gate_of s a (grown_tables s (grown_to (level_for s size mask) t) t) true ≡ pass
    grown_again sized =
        let n = grown_to (level_for s size mask) t in
        gate_passes s a (grown_tables s n t) fit went.lent.heaps (grown_lengths s t fit lengths sound n) none_open
        (grown_tables_sound s t fit lengths sound n (omega arith) (omega (arith, level_low s fit size mask sized, sound.levels_most_lem)))
        (holds_account s a (grown_tables s n t) (chunks_held t) (bytes_held t) (grown_holds s t n) (account_covers s a t went.covered))

    -- refused as 9 it leaves the levels grown, otherwise everything
    denied_again : (n : ℕ) → plan ≡ deny n → gate_of s a (denied_tables s (level_for s size mask) n t) true ≡ pass
    unfolding denied_tables
    denied_again n e = ⊎_elim (λ f. rw f (grown_again (late (eqb-true n 9 f)))) (λ f. rw f passes_now) (told (eqb n 9))
      where
        late : n ≡ 9 → size_ok s size mask ≡ true
        late z = (nine s (heap_at a s.store.heap) a.objects size mask t (e ∙ ap (λ (m : ℕ). deny m) z)).1

    taken_again : (i : ℕ) → plan ≡ take i → gate_of s a (taken_tables s (size_for s size mask) (level_for s size mask) t i) true ≡ pass
    taken_again i e =
        let v = takes s (heap_at a s.store.heap) a.objects size mask t i e in
        gate_passes s a (taken_tables s (size_for s size mask) (level_for s size mask) t i) fit went.lent.heaps
        (taken_lengths s t fit lengths sound size mask i v.found v.aligned v.sized v.room)
        none_open
        (taken_sound s t fit lengths sound size mask i v.found v.aligned v.sized v.room)
        (holds_account s a (taken_tables s (size_for s size mask) (level_for s size mask) t i) (chunks_held t) (bytes_held t) (taken_holds s size mask t i) (account_covers s a t went.covered))

    planned_again : (p : Plan ℕ) → plan ≡ p → no_order (carry_ask s a size mask t p).account.order ≡ true
        → gate_of s (carry_ask s a size mask t p).account (carry_ask s a size mask t p).tables true ≡ pass
    unfolding carry_ask
    planned_again (deny n) e none = denied_again n e
    planned_again (take i) e none = taken_again i e
    planned_again (buy z) e none = absurd (true_false false none refl)

    carried : ask_of s a size mask t ≡ carry_ask s a size mask t plan
    unfolding ask_of plan_ask
    carried = ap (λ (v : Verdict). carry_ask s a size mask t (gated Ask.deny v plan)) passes_now

  -- after an ask that opened no order tests 1 to 4 pass again
  pub ask_again : (size mask : ℕ) → no_order (ask_of s a size mask t).account.order ≡ true → gate_of s (ask_of s a size mask t).account (ask_of s a size mask t).tables true ≡ pass
  ask_again size mask =
      subst (λ (o : Out Tables). no_order o.account.order ≡ true → gate_of s o.account o.tables true ≡ pass) (sym (carried size mask))
      (planned_again size mask (plan size mask) refl)

  -- ---- a return

  module _ (b : Block) (on : on_loan_ok s b t ≡ true) where
    abbrev u : Tables
    u = given_tables s b (word_for s b t) t

    -- k chunks of y bytes go
    released_again : (k y : ℕ) → held_count u (chunk_places_in t) + k ≡ chunks_held t → held_bytes u (chunk_places_in t) + y ≡ bytes_held t
        → gate_of s (released_account s.store a k y) u true ≡ pass
    unfolding released_account
    released_again k y fewer less =
        let n = held_count u (chunk_places_in t) in
        let z = held_bytes u (chunk_places_in t) in
        let e = back_chunk_places s b (word_for s b t) t in
        let before : covers_ok (heap_at a s.store.heap) a.objects (n + k) (z + y) ≡ true =
        (λ j. covers_ok (heap_at a s.store.heap) a.objects (fewer j) (less j)) ∙ account_covers s a t went.covered in
        gate_passes s (released_account s.store a k y) u fit
        (released_heaps s.store a fit.store.heap k y went.lent.heaps)
        (given_lengths s t fit lengths sound b on)
        none_open
        (given_sound s t fit lengths sound b on)
        (holds_account s (released_account s.store a k y) u n z (ap (held_count u) e, ap (held_bytes u) e)
        (released_covered s.store a fit.store.heap n z k y (typed.totals s.store.heap) before))

    back_again : (list : List ℕ) → gate_of s (released_by s a b (word_for s b t) t list).account (released_by s a b (word_for s b t) t list).tables true ≡ pass
    unfolding released_by
    back_again list =
        ⊎_elim
        (λ f. let h = freed_holds s t fit lengths sound b on f in rw f (released_again 1 (chunk_size_in t b.chunk) h.0 h.1))
        (λ f. let h = kept_holds s t fit lengths sound b on f in
        let e = back_chunk_places s b (word_for s b t) t in
        let n : held_count u (chunk_places_in t) ≡ chunks_held t = sym (ap (held_count u) e) ∙ h.0 in
        let z : held_bytes u (chunk_places_in t) ≡ bytes_held t = sym (ap (held_bytes u) e) ∙ h.1 in
        rw f (released_again 0 0 (omega (arith, n)) (omega (arith, z))))
        (told (climb_for s b (word_for s b t) t).freed)

  -- and after a return, taken or not
  pub return_again : (b : Block) (list : List ℕ) → gate_of s (return_of s a b t list).account (return_of s a b t list).tables true ≡ pass
  return_again b list = go (return_of s a b t list) (return_comes s a b t list)
    where
      go : (r : Listed Tables) → ReturnComes s a b t list r → gate_of s r.account r.tables true ≡ pass
      go _ (Returned.denied n) = passes_now
      go _ (Returned.takes p on) = back_again b on list

-- ---- a delivery

-- its gate asks for an order of this store
deliver_for : (s : BuddySettings) (a : Account) (t : Tables) → deliver_gate_of s a t ≡ pass → open_for s.store.number a.order ≡ true
unfolding deliver_gate_of
deliver_for s a t g = (passed (gate_row (in_table_ok s a t) (open_for s.store.number a.order) (sound_ok s t && still_ok s a t a.order) (account_ok s a t)) g).1.0

-- and for a sound store
deliver_holds : (s : BuddySettings) (a : Account) (t : Tables) → deliver_gate_of s a t ≡ pass → Sound s t
unfolding deliver_gate_of
deliver_holds s a t g =
    let r = passed (gate_row (in_table_ok s a t) (open_for s.store.number a.order) (sound_ok s t && still_ok s a t a.order) (account_ok s a t)) g in
    tables_yes s t (lent_in_lem s a t r.0).settings (and_left (sound_ok s t) (still_ok s a t a.order) r.1.1.0)

module _ (s : BuddySettings) (a : Account) (o : Outcome) (t : Tables) (typed : Typed a) (sound : Sound s t) where
  abbrev Passes : Out Tables → Type 0
  Passes r = gate_of s r.account r.tables true ≡ pass

  abbrev held : List ℕ
  held = memories t (chunk_places_in t)

  module _ (k : KeptOrder) (w : Open s a o t sound k) where
    abbrev size : ℕ
    size = k.ask.size

    abbrev mask : ℕ
    mask = k.ask.mask

    abbrev z : ℕ
    z = k.order.size

    abbrev n : ℕ
    n = grown_to (level_for s size mask) t

    abbrev g : Tables
    g = grown_tables s n t

    covered : covers_ok (heap_at a s.store.heap) a.objects (chunks_held t) (bytes_held t) ≡ true
    covered = account_covers s a t w.covered

    -- the memory is kept: one chunk more
    served_now : (memory : ℕ) → Holds (served_tables s (size_for s size mask) (level_for s size mask) memory z g) (chunks_held t + 1) (bytes_held t + z)
    served_now memory =
        let fit = w.lent.settings in
        let lengths = w.lent.lengths in
        let b = w.buys_it in
        let levels : levels_in g ≡ n = count s t fit lengths sound size mask z b in
        let h = grown_holds s t n in
        let r = served_holds s g fit (grown_lengths s t fit lengths sound n) (grown_sound s t fit lengths sound size mask z b) memory z (chunk_room s t fit lengths sound size mask z b) (omega (arith, levels))
        (sym (ap (bytes s.minimal) levels ∙ b.order)) size mask in
        (r.0 ∙ ap (λ (x : ℕ). x + 1) h.0, r.1 ∙ ap (λ (x : ℕ). x + z) h.1)

    kept_again : (memory : ℕ) → ((c : ℕ) → held_in t c ≡ true → memory_in t c ≡ memory → ⊥) → Passes (carry_fate s a k t (kept memory))
    unfolding carry_fate charged_account
    kept_again memory new =
        let fit = w.lent.settings in
        let lengths = w.lent.lengths in
        let b = w.buys_it in
        let low = fit.store.heap in
        let after : Account = charged_account s.store a z in
        let u = served_tables s (size_for s size mask) (level_for s size mask) memory z g in
        gate_passes s after u fit
        (charged_heaps s.store a low z w.bears w.lent.heaps)
        (arrived_lengths s t fit lengths sound size mask z b memory new)
        refl
        (arrived_sound s t fit lengths sound size mask z b memory new)
        (holds_account s after u (chunks_held t + 1) (bytes_held t + z) (served_now memory)
        (charged_covered s.store a low z w.bears (omega (arith, typed.heaps, low)) w.object (chunks_held t) (bytes_held t) covered))

    closed : (charged : Bool) (back : List ℕ) → no_order (lost_account s.store a z charged back).order ≡ true
    unfolding lost_account charged_account back_account
    closed false back = refl
    closed true [] = refl
    closed true (m ∷ back) = refl

    -- it is lost: the levels have grown, and the chunks are the same
    lost_again : (m : ℕ) (charged : Bool) (back : List ℕ) → Passes (carry_fate s a k t (lost m charged back))
    unfolding carry_fate
    lost_again m charged back =
        let fit = w.lent.settings in
        let lengths = w.lent.lengths in
        let low = fit.store.heap in
        let after : Account = lost_account s.store a z charged back in
        gate_passes s after g fit
        (lost_heaps s.store a low z w.bears charged back w.lent.heaps)
        (grown_lengths s t fit lengths sound n)
        (closed charged back)
        (grown_sound s t fit lengths sound size mask z w.buys_it)
        (holds_account s after g (chunks_held t) (bytes_held t) (grown_holds s t n)
        (lost_covered s.store a low z w.bears charged back (chunks_held t) (bytes_held t) covered))

    made_again : (m : Memory) (x : Mapping) → holds m.number held ≡ false → Passes (carry_fate s a k t (mapped buddy m.number x))
    made_again m M.Failed e = lost_again _ _ _
    made_again m M.OutOfDevice e = lost_again _ _ _
    made_again m M.OutOfHost e = lost_again _ _ _
    made_again m M.Mapped e = kept_again m.number (λ c h. new_memory m.number t (chunk_places_in t) e c (held_low t c h) h)
    made_again m M.NotWanted e = kept_again m.number (λ c h. new_memory m.number t (chunk_places_in t) e c (held_low t c h) h)

    fate_again : (x : Outcome) → delivery_ok k.order.map held x ≡ true → Passes (carry_fate s a k t (fate_of buddy x))
    unfolding delivery_ok
    fate_again O.OutOfDevice e = lost_again _ _ _
    fate_again O.OutOfHost e = lost_again _ _ _
    fate_again (O.Made m) e = made_again m m.mapping (not_yes (holds m.number held) (and_left (not (holds m.number held)) (suits k.order.map m.mapping) e))

  module _ (passes_now : deliver_gate_of s a t ≡ pass) where
    decided_again : (x : OpenOrder) → a.order ≡ x → no_order (carry_deliver s a t (decide_deliver o held x)).account.order ≡ true → Passes (carry_deliver s a t (decide_deliver o held x))
    unfolding carry_deliver
    decided_again None e = λ none. absurd (true_false _ (deliver_for s a t passes_now) (ap (open_for s.store.number) e))
    decided_again (Some k) e =
        ⊎_elim (λ d. rw d (λ none. fate_again k (opened s a o t sound k e passes_now) o d)) (λ d. rw d (λ none. absurd (true_false _ none (ap no_order e))))
        (told (delivery_ok k.order.map held o))

    carried_out : deliver_of s a o t ≡ carry_deliver s a t (decide_deliver o held a.order)
    unfolding deliver_of plan_deliver
    carried_out = ap (λ (v : Verdict). carry_deliver s a t (gated Deliver.deny v (decide_deliver o held a.order))) passes_now

-- and after a delivery that closed the order, into an account that has all its heaps: one that lacks the store's heap
-- charges nothing for the chunk, and 4 would fail
pub deliver_again : (s : BuddySettings) (a : Account) (o : Outcome) (t : Tables) → Typed a → deliver_gate_of s a t ≡ pass → no_order (deliver_of s a o t).account.order ≡ true
    → gate_of s (deliver_of s a o t).account (deliver_of s a o t).tables true ≡ pass
deliver_again s a o t typed passes_now =
    let sound = deliver_holds s a t passes_now in
    subst (λ (r : Out Tables). no_order r.account.order ≡ true → gate_of s r.account r.tables true ≡ pass) (sym (carried_out s a o t typed sound passes_now))
    (decided_again s a o t typed sound passes_now a.order refl)
