-- What an ask of a buddy store that gave an order leaves, and that the order can be delivered: the delivery's tests 1 to 4 pass
-- on it.
use mathlib.Core.Path.{◌≡◌, refl, ap, ◌∙◌}
use mathlib.Core.Bool.{Bool, true, ◌&&◌}
use mathlib.Core.List.{List, []}
use Prim.Native.Nat.{ℕ, zero, suc, ◌+◌, ◌-◌, ◌≤◌, ◌<◌}
use native.Mathlib.Omega.{arith}
use lib.Dec.{leb, ltb}
use borrow.Author.Tests.{eq-eqb, lt-ltb}
use Rattle.lists.proofs.Bools.{and_both, or_right}
use Rattle.counter.specs.Account.{heap_at}
use Rattle.counter.specs.Gate.{pass, first}
use Rattle.counter.specs.InTable.{BuddyIn}
use Rattle.counter.specs.Limits.{spent}
use Rattle.counter.specs.Paper as Paper
use Rattle.counter.specs.Table.{buddy_ok, heaps_ok}
use Rattle.counter.specs.declared.account.Account.{Account}
use Rattle.counter.specs.declared.account.Heap.{Heap}
use Rattle.std.specs.Prelude.{Some}
use Rattle.counter.specs.declared.settings.BuddySettings.{BuddySettings}
use Rattle.counter.proofs.Gates.{passes}
use Rattle.counter.proofs.Tables.{buddy_all}
use Rattle.heap.specs.Heap.{bears_ok}
use Rattle.slabs.specs.Slab as Slab
use Rattle.store_rules.specs.Orders.{buy, order_from, kept_from, leads_to}
use Rattle.store_rules.specs.Outcomes.{Out, out, with_order}
use Rattle.store_rules.specs.Tests.{open_for, gate_row}
use Rattle.store_rules.proofs.Said.{refusal_order, block_order, same_order_lem}
use Rattle.book_rules.specs.Book.{taken_of}
use Rattle.buddy_trees.specs.Trees.{bytes}
use Rattle.buddy_rules.specs.Level.{ring_head, pair_taken}
use Rattle.buddy_rules.specs.Sound.{Sound}
use Rattle.buddy_rules.specs.Tables.{Tables, Lengths, lengths_ok, given_in, levels_in, places_in, level_from}
use Rattle.buddy_rules.specs.Test.{sound_ok}
use Rattle.buddy_rules.proofs.Decides.{tables_all}
use Rattle.buddy_outcomes.specs.Ask as Ask
use Rattle.buddy_outcomes.specs.Ask.{Found, nowhere, level_for, grown_to, search_from, found_from, split_from, pair_room, pairs_room, chunk_taken, room_ok, count_ok, objects_ok, ask_row, planned, decide_ask, grown_tables, carry_ask, ask_of}
use Rattle.buddy_outcomes.specs.Deliver.{still_ok, deliver_gate_of}
use Rattle.buddy_outcomes.specs.Gate.{in_table_ok, account_ok}
use Rattle.buddy_outcomes.proofs.Changed.{grown_lengths}
use Rattle.buddy_outcomes.proofs.Comes.{AskComes, denied, lends, orders, ask_comes}
use Rattle.buddy_outcomes.proofs.Delivered.{grown_sound, count, place, chunk_room, empty, pair}
use Rattle.buddy_outcomes.proofs.Heads.{grown_given}
use Rattle.buddy_outcomes.proofs.Held.{chunks_held, bytes_held, holds_account, account_covers, grown_holds}
use Rattle.buddy_outcomes.proofs.Passing.{Passed, are_lengths}
use Rattle.buddy_outcomes.proofs.Plans.{Buys, buys, buy_bears, planned_buy}

-- ---- levels with no ready side, and with a vacant pair place

none_found : (s : BuddySettings) (t : List ℕ) (l n : ℕ) → ((j : ℕ) → l ≤ j → j < l + n → ring_head (level_from s j) t ≡ Slab.nowhere) → search_from s t l n ≡ nowhere
unfolding search_from
none_found s t l zero f = refl
none_found s t l (suc n) f =
    rw (eq-eqb (ring_head (level_from s l) t) Slab.nowhere (f l (omega arith) (omega arith))) (none_found s t (suc l) n (λ j h k. f j (omega arith) (omega arith)))

all_room : (s : BuddySettings) (t : Tables) (l n : ℕ) → ((j : ℕ) → l ≤ j → j < l + n → (pair_taken (level_from s j) t.room).place < s.pairs) → pairs_room s t l n ≡ true
unfolding pairs_room
all_room s t l zero f = refl
all_room s t l (suc n) f =
    and_both (pair_room s t l) (pairs_room s t (suc l) n)
    (or_right (leb (levels_in t) l) _ (lt-ltb (pair_taken (level_from s l) t.room).place s.pairs (f l (omega arith) (omega arith))))
    (all_room s t (suc l) n (λ j h k. f j (omega arith) (omega arith)))

-- ---- an order comes of a plan to buy

module _ (s : BuddySettings) (a : Account) (size mask : ℕ) (t : Tables) where
  abbrev z : ℕ
  z = Ask.order_bytes s (level_for s size mask) t

  abbrev own : Heap
  own = heap_at a s.store.heap

  -- what such an ask comes to
  pub record Buying : Type 0 where
    pub passed : Passed s a t true
    pub buys_it : decide_ask s (heap_at a s.store.heap) a.objects size mask t ≡ buy (Ask.order_bytes s (level_for s size mask) t)
    pub leaves : ask_of s a size mask t
        ≡ out (Paper.order_of (order_from s.store (Ask.order_bytes s (level_for s size mask) t))) (with_order a (Some (kept_from s.store size mask (Ask.order_bytes s (level_for s size mask) t)))) (grown_tables s (grown_to (level_for s size mask) t) t)

  module _ (store bytes memtype : ℕ) (map : Bool) where
    buying_by : (r : Out Tables) → ask_of s a size mask t ≡ r → AskComes s a size mask t r → r.said ≡ Paper.order store bytes memtype map → Buying
    unfolding carry_ask decide_ask
    buying_by _ e (denied n) w = refusal_order n [] store bytes memtype map w
    buying_by _ e (lends i p v) w = block_order _ _ _ _ store bytes memtype map w
    buying_by _ e (orders x p q) w =
        let f : x ≡ z = (planned_buy s size mask t x (found_from s (level_for s size mask) t) (first (ask_row s own a.objects size mask t (found_from s (level_for s size mask) t))) q).2 in
        record {
          passed = p;
          buys_it = q ∙ ap buy f;
          leaves = e ∙ ap (λ (y : ℕ). carry_ask s a size mask t (buy y)) f;
        }

    pub order_buying : (ask_of s a size mask t).said ≡ Paper.order store bytes memtype map → Buying
    order_buying w = buying_by (ask_of s a size mask t) refl (ask_comes s a size mask t) w

  -- ---- what it leaves still leads to it

  module _ (b : Buying) where
    abbrev n : ℕ
    n = grown_to (level_for s size mask) t

    abbrev g : Tables
    g = grown_tables s n t

    abbrev fit : BuddyIn s
    fit = b.passed.lent.settings

    abbrev lengths : Lengths s t
    lengths = b.passed.lent.lengths

    abbrev sound : Sound s t
    sound = b.passed.sound

    bought : Buys s size mask t z
    bought = buys s own a.objects size mask t z b.buys_it

    many : levels_in g ≡ n
    many = count s t fit lengths sound size mask z bought

    -- no level has a ready side
    none : found_from s (level_for s size mask) g ≡ nowhere
    unfolding found_from
    none =
        none_found s g.room (level_for s size mask) (levels_in g - level_for s size mask)
        (λ j h k. empty s t fit lengths sound size mask z bought j h (omega arith))

    -- levels grow once
    same_order_size : Ask.order_bytes s (level_for s size mask) g ≡ z
    same_order_size = let e : Ask.grown_to (level_for s size mask) g ≡ n = omega (arith, many) in ap (bytes s.minimal) e

    room : room_ok s (level_for s size mask) g nowhere ≡ true
    unfolding room_ok
    room =
        and_both (ltb (taken_of (places_in g) g.index).place s.store.loans) _ (lt-ltb (taken_of (places_in g) g.index).place s.store.loans (place s t fit lengths sound size mask z bought))
        (and_both (ltb (chunk_taken s g).place s.store.chunks) _ (lt-ltb (chunk_taken s g).place s.store.chunks (chunk_room s t fit lengths sound size mask z bought))
        (all_room s g (level_for s size mask) (split_from (level_for s size mask) g nowhere - level_for s size mask) (λ j h k. pair s t fit lengths sound size mask z bought j h (omega (arith, many)))))

    counts : count_ok s own (level_for s size mask) g nowhere ≡ true
    unfolding count_ok
    counts =
        let e : given_in g ≡ given_in t = grown_given s n t in
        and_both (ltb (given_in g) spent) (bears_ok own (Ask.order_bytes s (level_for s size mask) g)) (lt-ltb (given_in g) spent (omega (arith, e, bought.serial)))
        (ap (bears_ok own) same_order_size ∙ (buy_bears s own a.objects size mask t z b.buys_it).0)

    object : objects_ok a.objects nowhere ≡ true
    unfolding objects_ok
    object = lt-ltb 0 a.objects (buy_bears s own a.objects size mask t z b.buys_it).1

    still_buys : decide_ask s own a.objects size mask g ≡ buy z
    unfolding decide_ask
    still_buys =
        let all : first (ask_row s own a.objects size mask g nowhere) ≡ pass =
        passes (ask_row s own a.objects size mask g nowhere) (bought.aligned, (bought.sized, (room, (counts, (object, tt))))) in
        ap (λ (f : Found). planned s (level_for s size mask) g f (first (ask_row s own a.objects size mask g f))) none
        ∙ ap (planned s (level_for s size mask) g nowhere) all
        ∙ ap buy same_order_size

    abbrev kept : Account
    kept = with_order a (Some (kept_from s.store size mask z))

    -- the delivery's tests 1 to 4 pass
    gate_open : deliver_gate_of s kept g ≡ pass
    unfolding deliver_gate_of in_table_ok account_ok
    gate_open =
        passes (gate_row (in_table_ok s kept g) (open_for s.store.number kept.order) (sound_ok s g && still_ok s kept g kept.order) (account_ok s kept g)) (
          and_both (buddy_ok s) (heaps_ok a.heaps && lengths_ok s g) (buddy_all s fit) (and_both (heaps_ok a.heaps) (lengths_ok s g) b.passed.lent.heaps (are_lengths s g (grown_lengths s t fit lengths sound n))),
          (
            eq-eqb s.store.number s.store.number refl,
            (
              and_both (sound_ok s g) (still_ok s kept g kept.order) (tables_all s g fit (grown_sound s t fit lengths sound size mask z bought)) (ap (leads_to s.store (order_from s.store z)) still_buys ∙ same_order_lem (order_from s.store z)),
              (holds_account s a g (chunks_held t) (bytes_held t) (grown_holds s t n) (account_covers s a t b.passed.covered), tt),
            ),
          ),
        )

    pub deliverable : deliver_gate_of s (ask_of s a size mask t).account (ask_of s a size mask t).tables ≡ pass
    deliverable = ap (λ (r : Out Tables). deliver_gate_of s r.account r.tables) b.leaves ∙ gate_open
