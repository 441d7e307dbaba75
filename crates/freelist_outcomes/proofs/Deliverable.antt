-- What an ask that gave an order leaves, and that the order can be delivered: the delivery's tests 1 to 4 pass on it.
use mathlib.Core.Path.{◌≡◌, refl, ap, ◌∙◌}
use mathlib.Core.Bool.{Bool, true, ◌&&◌}
use mathlib.Core.List.{[]}
use Prim.Native.Nat.{ℕ, ◌≤◌}
use native.Mathlib.Omega.{arith}
use lib.Dec.{ltb}
use lib.ListN.{length-set}
use borrow.Author.Tests.{eq-eqb}
use Rattle.lists.proofs.Bools.{and_both}
use Rattle.rounding_rules.specs.Growth.{grown}
use Rattle.rounding_rules.proofs.Growth.{grown_again}
use Rattle.counter.specs.Account.{heap_at}
use Rattle.counter.specs.Gate.{pass, first}
use Rattle.counter.specs.Limits.{spent}
use Rattle.counter.specs.Paper as Paper
use Rattle.counter.specs.Table.{free_list_ok, heaps_ok}
use Rattle.counter.specs.declared.account.Account.{Account}
use Rattle.counter.specs.declared.account.Heap.{Heap}
use Rattle.std.specs.Prelude.{Some}
use Rattle.counter.specs.declared.settings.FreeListSettings.{FreeListSettings}
use Rattle.counter.proofs.Gates.{passes}
use Rattle.counter.proofs.Tables.{free_list_all}
use Rattle.heap.specs.Heap.{bears_ok}
use Rattle.store_rules.specs.Orders as Orders
use Rattle.store_rules.specs.Orders.{order_from, kept_from, leads_to}
use Rattle.store_rules.specs.Outcomes.{Out, out, with_order}
use Rattle.store_rules.specs.Tests.{open_for, gate_row}
use Rattle.store_rules.proofs.Said.{refusal_order, block_order, same_order_lem}
use Rattle.freelist_rules.specs.Place.{Found, nowhere, find, size_for, mask_for}
use Rattle.freelist_rules.specs.Records.{Store}
use Rattle.freelist_rules.specs.Steps.{raised}
use Rattle.freelist_rules.specs.Tables.{Tables, chunk_size_at, Lengths, lengths_ok, store_of, sound_ok, SoundTables}
use Rattle.freelist_rules.proofs.Facts.{sized_low, sized_some}
use Rattle.freelist_rules.proofs.Fits.{lengths_are, are_lengths}
use Rattle.freelist_rules.proofs.Tested.{tables_all}
use Rattle.freelist_outcomes.specs.Ask.{found_for, raised_for, room_ok, count_ok, ask_row, planned, decide_ask, ordered_tables, carry_ask, plan_ask, ask_of}
use Rattle.freelist_outcomes.specs.Deliver.{still_ok, deliver_gate_of}
use Rattle.freelist_outcomes.specs.Gate.{in_table_ok, account_ok}
use Rattle.freelist_outcomes.proofs.Accounts.{account_same}
use Rattle.freelist_outcomes.proofs.Arrives.{raised_most}
use Rattle.freelist_outcomes.proofs.Changed.{ordered_store, ordered_sound}
use Rattle.freelist_outcomes.proofs.Passing.{Passed}
use Rattle.freelist_outcomes.proofs.Plans.{buy_held, plan_buy, size_most_lem}

-- ---- an order comes of a plan to buy

module _ (s : FreeListSettings) (a : Account) (size mask : ℕ) (t : Tables) where
  abbrev z : ℕ
  z = raised_for s size t

  abbrev own : Heap
  own = heap_at a s.store.heap

  -- what such an ask comes to
  pub record Buying : Type 0 where
    pub passed : Passed s a t true
    pub buys : decide_ask s (heap_at a s.store.heap) a.objects size mask t ≡ Orders.buy (raised_for s size t)
    pub leaves : ask_of s a size mask t
        ≡ out (Paper.order_of (order_from s.store (raised_for s size t))) (with_order a (Some (kept_from s.store size mask (raised_for s size t)))) (ordered_tables (raised_for s size t) t)

  module _ (store bytes memtype : ℕ) (map : Bool) where
    planned_buying : (p : Orders.Plan ℕ) → plan_ask s a size mask t ≡ p → (carry_ask s a size mask t p).said ≡ Paper.order store bytes memtype map → Buying
    unfolding carry_ask ask_of
    planned_buying (Orders.deny n) e w = refusal_order n [] store bytes memtype map w
    planned_buying (Orders.take i) e w = block_order _ _ _ _ store bytes memtype map w
    planned_buying (Orders.buy x) e w =
        let p = plan_buy s a size mask t x e in
        let q : x ≡ z = (buy_held s own a.objects size mask t x p.1).1 in
        record {
          passed = p.0;
          buys = p.1 ∙ ap Orders.buy q;
          leaves = ap (carry_ask s a size mask t) (e ∙ ap Orders.buy q);
        }

    pub order_buying : (ask_of s a size mask t).said ≡ Paper.order store bytes memtype map → Buying
    unfolding ask_of
    order_buying w = planned_buying (plan_ask s a size mask t) refl w

  -- ---- what it leaves still leads to it

  module _ (b : Buying) where
    abbrev u : Tables
    u = ordered_tables z t

    lengths : Lengths s t
    lengths = lengths_are s t b.passed.lengths

    after : store_of s u ≡ raised z (store_of s t)
    after = ordered_store s t b.passed.settings lengths b.passed.sound z

    after_sound : SoundTables s u
    after_sound = ordered_sound s t b.passed.settings lengths b.passed.sound size

    after_lengths : Lengths s u
    unfolding ordered_tables
    after_lengths =
        record { head = length-set t.head chunk_size_at z ∙ lengths.head; loans = lengths.loans; chunks = lengths.chunks; room = lengths.room; index = lengths.index }

    same_room : room_ok s u nowhere ≡ room_ok s t nowhere
    unfolding room_ok ordered_tables
    same_room = refl

    -- an order raises the chunk size once
    raised_once : size ≤ s.last → raised_for s size u ≡ z
    raised_once h =
        let w = b.passed.sound.store.now_sized in
        let fit = b.passed.settings in
        let m = raised_most s fit size h in
        ap (λ (v : Store). grown v.size (size_for s size) s.last) after
        ∙ grown_again (store_of s t).size (size_for s size) s.last (sized_some s fit (store_of s t).size w) (sized_low s (store_of s t).size w) m (omega (arith, m, fit.last_most))

    same_count : size ≤ s.last → count_ok s own size u nowhere ≡ count_ok s own size t nowhere
    unfolding count_ok
    same_count h =
        let g = ap (λ (v : Store). v.given) after in
        let m = ap (λ (v : Store). v.made) after in
        let r = raised_once h in
        (λ j. ltb (g j) spent && (bears_ok own (r j) && ltb (m j) spent))

    still_buys : decide_ask s own a.objects size mask u ≡ Orders.buy z
    unfolding decide_ask
    still_buys =
        let w = buy_held s own a.objects size mask t z b.buys in
        let h = w.2 in
        let most = size_most_lem s size h.1.0 in
        let found : found_for s size mask u ≡ nowhere = ap (λ (v : Store). find (mask_for s mask) (size_for s size) v.regions) after ∙ w.0 in
        let all : first (ask_row s own a.objects size mask u nowhere) ≡ pass =
        passes (ask_row s own a.objects size mask u nowhere) (h.0, (h.1.0, (same_room ∙ h.1.1.0, (same_count most ∙ h.1.1.1.0, (h.1.1.1.1.0, tt))))) in
        ap (λ (f : Found). planned s size u f (first (ask_row s own a.objects size mask u f))) found
        ∙ ap (planned s size u nowhere) all
        ∙ ap Orders.buy (raised_once most)

    abbrev kept : Account
    kept = with_order a (Some (kept_from s.store size mask z))

    -- the delivery's tests 1 to 4 pass
    gate_open : deliver_gate_of s kept u ≡ pass
    unfolding deliver_gate_of in_table_ok account_ok
    gate_open =
        let fit = b.passed.settings in
        passes (gate_row (in_table_ok s kept u) (open_for s.store.number kept.order) (sound_ok s u && still_ok s kept u kept.order) (account_ok s kept u)) (
          and_both (free_list_ok s) (heaps_ok a.heaps && lengths_ok s u) (free_list_all s fit) (and_both (heaps_ok a.heaps) (lengths_ok s u) b.passed.heaps (are_lengths s u after_lengths)),
          (
            eq-eqb s.store.number s.store.number refl,
            (
              and_both (sound_ok s u) (still_ok s kept u kept.order) (tables_all s u fit after_sound) (ap (leads_to s.store (order_from s.store z)) still_buys ∙ same_order_lem (order_from s.store z)),
              (account_same s a t u (ap (λ (v : Store). v.chunks) after) b.passed.covered, tt),
            ),
          ),
        )

    pub deliverable : deliver_gate_of s (ask_of s a size mask t).account (ask_of s a size mask t).tables ≡ pass
    deliverable = ap (λ (r : Out Tables). deliver_gate_of s r.account r.tables) b.leaves ∙ gate_open
