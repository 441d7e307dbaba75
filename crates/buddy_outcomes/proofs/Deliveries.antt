-- The rings of a buddy store's levels over an order, a delivery and a refusal that leaves the levels grown, and what a user sees after
-- a delivery: one loan and one chunk more.
use mathlib.Core.Path.{◌≡◌, refl, sym, ap, subst, ◌∙◌}
use mathlib.Core.Bool.{true, ◌&&◌}
use mathlib.Core.Logic.{◌⊎◌, ⊎_elim}
use mathlib.Core.List.{List, []}
use Prim.Native.Nat.{ℕ, suc, ◌-◌, ◌≤◌, ◌<◌}
use native.Mathlib.Omega.{arith}
use borrow.Author.Tests.{lt-ltb, le-ltb}
use Rattle.lists.proofs.Bools.{lt_or_le}
use Rattle.counter.specs.Account.{heap_at}
use Rattle.counter.specs.Gate.{Verdict, refuse, pass, gated}
use Rattle.counter.specs.InTable.{BuddyIn}
use Rattle.counter.specs.Limits.{levels_most}
use Rattle.counter.specs.Paper as Paper
use Rattle.counter.specs.declared.account.Account.{Account}
use Rattle.counter.specs.declared.account.KeptOrder.{KeptOrder}
use Rattle.counter.specs.Open.{OpenOrder}
use Rattle.std.specs.Prelude.{None, Some}
use Rattle.counter.specs.declared.account.Order.{Order}
use Rattle.counter.specs.declared.answers.Outcome.{Outcome}
use Rattle.counter.specs.declared.settings.BuddySettings.{BuddySettings}
use Rattle.store_rules.specs.Delivery.{kept, buddy, fate_of}
use Rattle.store_rules.specs.Orders.{Plan, deny, take, buy}
use Rattle.store_rules.specs.Outcomes.{Out}
use Rattle.store_rules.specs.Tests.{no_order, open_for}
use Rattle.store_rules.specs.Views.{chunk, block, Matches}
use Rattle.store_rules.specs.declared.Loan.{Loan}
use Rattle.store_rules.proofs.Amid.{Amid}
use Rattle.store_rules.proofs.Said.{not_refused, said_number}
use Rattle.store_rules.proofs.Tested.{gate_low}
use Rattle.book_rules.specs.Book.{taken_of}
use Rattle.buddy_trees.specs.Trees.{up}
use Rattle.buddy_rules.proofs.Fitting.{up_add}
use Rattle.buddy_rules.specs.Level.{pair_taken}
use Rattle.buddy_rules.specs.Ringed.{Ringed}
use Rattle.buddy_rules.proofs.Ringed.{part_ringed, ringed_part}
use Rattle.buddy_rules.specs.Rings.{Rings, rings_lent, rings_grown}
use Rattle.buddy_rules.specs.Sound.{Sound}
use Rattle.buddy_rules.specs.Tables.{Tables, Lengths, levels_in, places_in, chunk_places_in, memories, level_from}
use Rattle.buddy_rules.specs.Test.{sound_ok}
use Rattle.buddy_rules.specs.Views.{loans_in, chunks_in, view_of}
use Rattle.buddy_rules.proofs.Ringing.{served_rings}
use Rattle.buddy_outcomes.specs.Ask as Ask
use Rattle.buddy_outcomes.specs.Ask.{size_for, level_for, grown_to, size_ok, chunk_taken, decide_ask, grown_tables, carry_ask, plan_ask, ask_of}
use Rattle.buddy_outcomes.specs.Deliver as Deliver
use Rattle.buddy_outcomes.specs.Deliver.{loan_in, still_ok, deliver_gate_of, as_ordered, chunk_tables, served_tables, decide_deliver, plan_deliver, carry_deliver, deliver_of}
use Rattle.buddy_outcomes.specs.Gate.{in_table_ok, account_ok, gate_of}
use Rattle.buddy_outcomes.proofs.Arrives.{deliver_came}
use Rattle.buddy_outcomes.proofs.Changed.{few_pairs, grown_lengths, grown_count, grown_head}
use Rattle.buddy_outcomes.proofs.Chunked.{chunked, chunked_lengths, chunked_level}
use Rattle.buddy_outcomes.proofs.Comes.{served_amid, served_chunks}
use Rattle.buddy_outcomes.proofs.Deliverable.{order_buying}
use Rattle.buddy_outcomes.proofs.Delivered as Delivered
use Rattle.buddy_outcomes.proofs.Denied.{deliver_lost}
use Rattle.buddy_outcomes.proofs.Passing.{Passed, gate_passed}
use Rattle.buddy_outcomes.proofs.Plans.{Buys, buys, nine}
use Rattle.buddy_outcomes.proofs.Refused.{ask_leaves_grown}
use Rattle.buddy_outcomes.proofs.Ringing.{booked_rings}
use Rattle.buddy_outcomes.proofs.Rounds.{level_low}
use Rattle.buddy_outcomes.proofs.Same.{freshened}

-- ---- levels grow

-- the rings of the levels that were there stay, and new levels have none
pub grown_rings : (s : BuddySettings) (t : Tables) → BuddyIn s → Lengths s t → Sound s t → (n : ℕ) → levels_in t ≤ n → n ≤ levels_most → (W : ℕ → List ℕ) → Rings s t W
    → Rings s (grown_tables s n t) (rings_grown (levels_in t) W)
unfolding grown_tables rings_grown
grown_rings s t fit lengths sound n more most W rings l h = ⊎_elim old new (lt_or_le l (levels_in t))
  where
    low : l < n
    low = omega (arith, h, grown_count s t fit lengths sound n more most)

    old : l < levels_in t → Ringed (level_from s l) s.pairs (grown_tables s n t).room (rings_grown (levels_in t) W l)
    old k =
        rw (lt-ltb l (levels_in t) k)
        (ringed_part s.pairs l _ (W l)
        (subst (λ (x : List ℕ). Ringed 0 s.pairs x (W l)) (sym ((freshened s (levels_in t) (n - levels_in t) t.room (omega arith)).below l k)) (part_ringed s.pairs l t.room (W l) (rings l k))))

    new : levels_in t ≤ l → Ringed (level_from s l) s.pairs (grown_tables s n t).room (rings_grown (levels_in t) W l)
    new k =
        rw (le-ltb l (levels_in t) k)
        (record { rings = record { ring = record { closed = tt; distinct = tt }; first = grown_head s t fit lengths sound n more most l low (λ z. absurd (omega arith)) }; below = tt })

-- an ask that says an order leaves the rings so
pub order_rings : (s : BuddySettings) (a : Account) (size mask : ℕ) (t : Tables) (o : Order) → (ask_of s a size mask t).said ≡ Paper.order_of o → (W : ℕ → List ℕ) → Rings s t W
    → Rings s (ask_of s a size mask t).tables (rings_grown (levels_in t) W)
order_rings s a size mask t o q W rings =
    let b = order_buying s a size mask t o.store o.size o.memtype o.map q in
    let p = b.passed in
    let fit = p.lent.settings in
    let w = buys s (heap_at a s.store.heap) a.objects size mask t (Ask.order_bytes s (level_for s size mask) t) b.buys_it in
    subst (λ (u : Tables). Rings s u (rings_grown (levels_in t) W)) (sym (ap (λ (r : Out Tables). r.tables) b.leaves))
    (grown_rings s t fit p.lent.lengths p.sound (grown_to (level_for s size mask) t) (omega arith) (omega (arith, level_low s fit size mask w.sized, p.sound.levels_most_lem)) W rings)

-- an ask refused as 9 passed the gate and the test of its size
nine_passed : (s : BuddySettings) (a : Account) (size mask : ℕ) (t : Tables) (back : List ℕ) → (ask_of s a size mask t).said ≡ Paper.refusal 9 back
    → Passed s a t true × (size_ok s size mask ≡ true)
unfolding ask_of plan_ask carry_ask gate_of
nine_passed s a size mask t back = by (gate_of s a t true) refl (decide_ask s (heap_at a s.store.heap) a.objects size mask t) refl
  where
    by : (v : Verdict) → gate_of s a t true ≡ v → (p : Plan ℕ) → decide_ask s (heap_at a s.store.heap) a.objects size mask t ≡ p
        → (carry_ask s a size mask t (gated Ask.deny v p)).said ≡ Paper.refusal 9 back → Passed s a t true × (size_ok s size mask ≡ true)
    by (refuse m) g p d q =
        absurd (omega (arith, said_number m 9 [] back q, gate_low (in_table_ok s a t && true) (no_order a.order) (sound_ok s t) (account_ok s a t) m g))
    by pass g (deny m) d q =
        (gate_passed s a t true (sym g), (nine s (heap_at a s.store.heap) a.objects size mask t (d ∙ ap (λ (x : ℕ). deny x) (said_number m 9 [] back q))).1)
    by pass g (take i) d q = absurd (not_refused (carry_ask s a size mask t (take i)).said 9 back refl q)
    by pass g (buy z) d q = absurd (not_refused (carry_ask s a size mask t (buy z)).said 9 back refl q)

-- and so does an ask refused as 9: it "leaves the levels grown as the ask needs"
pub nine_rings : (s : BuddySettings) (a : Account) (size mask : ℕ) (t : Tables) (back : List ℕ) → (ask_of s a size mask t).said ≡ Paper.refusal 9 back
    → (W : ℕ → List ℕ) → Rings s t W → Rings s (ask_of s a size mask t).tables (rings_grown (levels_in t) W)
nine_rings s a size mask t back q W rings =
    let v = nine_passed s a size mask t back q in
    let p = v.0 in
    let fit = p.lent.settings in
    subst (λ (u : Tables). Rings s u (rings_grown (levels_in t) W)) (sym (ap (λ (r : Out Tables). r.tables) (ask_leaves_grown s a size mask t back q)))
    (grown_rings s t fit p.lent.lengths p.sound (grown_to (level_for s size mask) t) (omega arith) (omega (arith, level_low s fit size mask v.1, p.sound.levels_most_lem)) W rings)

-- ---- the memory is lost

-- a delivery refused as 11 or 12 passed the gate, and an order was open
lost_passed : (s : BuddySettings) (a : Account) (o : Outcome) (t : Tables) (n : ℕ) (back : List ℕ) → (deliver_of s a o t).said ≡ Paper.refusal n back → (n ≡ 11) ⊎ (n ≡ 12)
    → (k : KeptOrder) × (a.order ≡ Some k) × (deliver_gate_of s a t ≡ pass)
unfolding deliver_of plan_deliver carry_deliver deliver_gate_of
lost_passed s a o t n back e number = by (deliver_gate_of s a t) refl a.order refl e
  where
    other : (m : ℕ) → m ≤ 4 → m ≡ n → ⊥
    other m h z = ⊎_elim (λ x. omega (arith, z)) (λ x. omega (arith, z)) number

    by : (v : Verdict) → deliver_gate_of s a t ≡ v → (x : OpenOrder) → a.order ≡ x
        → (carry_deliver s a t (gated Deliver.deny v (decide_deliver o (memories t (chunk_places_in t)) x))).said ≡ Paper.refusal n back
        → (k : KeptOrder) × (a.order ≡ Some k) × (deliver_gate_of s a t ≡ pass)
    by (refuse m) g x y q =
        let low = gate_low (in_table_ok s a t) (open_for s.store.number a.order) (sound_ok s t && still_ok s a t a.order) (account_ok s a t) m g in
        absurd (other m low (said_number m n [] back q))
    by pass g None y q = absurd (other 2 (omega arith) (said_number 2 n [] back q))
    by pass g (Some k) y q = (k, y, g)

-- "11 and 12 close the order and leave the levels .. as the order raised them": the rings of the levels that were there stay, and
-- new levels have none
pub lost_rings : (s : BuddySettings) (a : Account) (o : Outcome) (t : Tables) (n : ℕ) (back : List ℕ) → (deliver_of s a o t).said ≡ Paper.refusal n back → (n ≡ 11) ⊎ (n ≡ 12)
    → (W : ℕ → List ℕ) → Rings s t W → Rings s (deliver_of s a o t).tables (rings_grown (levels_in t) W)
lost_rings s a o t n back e number W rings =
    let v = lost_passed s a o t n back e number in
    let k = v.0 in
    let sound = Delivered.gate_sound s a t v.2 in
    let p = Delivered.opened s a o t sound k v.1 v.2 in
    let fit = p.lent.settings in
    let len_of_lem = p.lent.lengths in
    let more = Delivered.more s t fit len_of_lem sound k.ask.size k.ask.mask k.order.size p.buys_it in
    let most = Delivered.most s t fit len_of_lem sound k.ask.size k.ask.mask k.order.size p.buys_it in
    subst (λ (u : Tables). Rings s u (rings_grown (levels_in t) W)) (sym (ap (λ (r : Out Tables). r.tables) (deliver_lost s a o t k n back v.1 e number)))
    (grown_rings s t fit len_of_lem sound (grown_to (level_for s k.ask.size k.ask.mask) t) more most W rings)

-- ---- a chunk arrives

module _ (s : BuddySettings) (t : Tables) (fit : BuddyIn s) (lengths : Lengths s t) (sound : Sound s t) (size mask z memory : ℕ) (b : Buys s size mask t z) where
  abbrev n : ℕ
  n = grown_to (level_for s size mask) t

  abbrev g : Tables
  g = grown_tables s n t

  abbrev lev : ℕ
  lev = level_for s size mask

  g_lengths : Lengths s g
  g_lengths = grown_lengths s t fit lengths sound n

  g_sound : Sound s g
  g_sound = Delivered.grown_sound s t fit lengths sound size mask z b

  many : levels_in g ≡ n
  many = Delivered.count s t fit lengths sound size mask z b

  abbrev u : Tables
  u = chunked s g fit g_lengths memory z

  top : levels_in g ≡ up (suc (levels_in g - lev - 1)) lev
  top = omega (arith, up_add (levels_in g - lev - 1) lev, many)

  -- each level from the block's on has a new pair alone, and the others are as they were
  pub arrived_rings : (W : ℕ → List ℕ) → Rings s (grown_tables s (grown_to (level_for s size mask) t) t) W
      → Rings s (served_tables s (size_for s size mask) (level_for s size mask) memory z (grown_tables s (grown_to (level_for s size mask) t) t)) (rings_lent (λ (j : ℕ). (pair_taken (level_from s j) (grown_tables s (grown_to (level_for s size mask) t) t).room).place) (level_for s size mask) (levels_in (grown_tables s (grown_to (level_for s size mask) t) t)) W)
  unfolding served_tables chunk_tables
  arrived_rings W rings =
      let c = (chunk_taken s g).place in
      let k = (taken_of (places_in g) g.index).place in
      let d = levels_in g - lev - 1 in
      let r = served_rings s (few_pairs s fit) g fit g_lengths g_sound W rings u.room (chunked_lengths s g fit g_lengths memory z).room (chunked_level s g fit g_lengths memory z) lev d c k top
      (λ i x y. Delivered.pair s t fit lengths sound size mask z b i x y) in
      booked_rings s u c 0 (size_for s size mask) _ _ r

-- ---- a delivery

module _ (s : BuddySettings) (a : Account) (o : Outcome) (t : Tables) (serial number offset len : ℕ) (q : (deliver_of s a o t).said ≡ Paper.block serial number offset len) where
  -- a delivery that says a block: the loans are those before and one that matches the block, and the chunks those before and the
  -- one that was ordered, with the memory that was handed over
  pub deliver_view : (k : KeptOrder) × (memory : ℕ) × (a.order ≡ Some k) × (fate_of buddy o ≡ kept memory)
      × (l : Loan) × Matches (block serial number offset len) l × Amid l (view_of s t).loans (view_of s (deliver_of s a o t).tables).loans
      × Amid (chunk number memory k.order.size) (view_of s t).chunks (view_of s (deliver_of s a o t).tables).chunks
  deliver_view =
      let v = deliver_came s a o t serial number offset len q in
      let k = v.order in
      let fit = v.lent.settings in
      let len_of_lem = v.lent.lengths in
      let e = v.left in
      let y = v.chunk_is in (
        k,
        v.memory,
        v.ordered,
        v.kept_is,
        loan_in s k.ask.size k.ask.mask (as_ordered s k t),
        record { serial = sym v.serial_is; chunk = sym y; offset = sym v.offset_is; size = sym v.len_is },
        subst (λ (u : Tables). Amid (loan_in s k.ask.size k.ask.mask (as_ordered s k t)) (loans_in t) (loans_in u)) (sym e)
            (served_amid s t fit len_of_lem v.sound k.ask.size k.ask.mask k.order.size v.memory v.bought),
        subst (λ (u : Tables). Amid (chunk number v.memory k.order.size) (chunks_in t) (chunks_in u)) (sym e)
            (subst (λ (c : ℕ). Amid (chunk c v.memory k.order.size) (chunks_in t) (chunks_in (served_tables s (size_for s k.ask.size k.ask.mask) (level_for s k.ask.size k.ask.mask) v.memory k.order.size (as_ordered s k t)))) (sym y)
            (served_chunks s t fit len_of_lem v.sound k.ask.size k.ask.mask k.order.size v.memory v.bought)),
      )

  -- and the rings, from those that the levels have when they have grown
  pub deliver_rings : (W : ℕ → List ℕ) → Rings s t W
      → (k : KeptOrder) × (a.order ≡ Some k)
      × Rings s (deliver_of s a o t).tables
      (rings_lent (λ (j : ℕ). (pair_taken (level_from s j) (as_ordered s k t).room).place) (level_for s k.ask.size k.ask.mask) (levels_in (as_ordered s k t)) (rings_grown (levels_in t) W))
  deliver_rings W rings =
      let v = deliver_came s a o t serial number offset len q in
      let k = v.order in
      let fit = v.lent.settings in
      let len_of_lem = v.lent.lengths in
      let more = Delivered.more s t fit len_of_lem v.sound k.ask.size k.ask.mask k.order.size v.bought in
      let most = Delivered.most s t fit len_of_lem v.sound k.ask.size k.ask.mask k.order.size v.bought in
      let r = grown_rings s t fit len_of_lem v.sound (grown_to (level_for s k.ask.size k.ask.mask) t) more most W rings in (
        k,
        v.ordered,
        subst (λ (u : Tables). Rings s u (rings_lent (λ (j : ℕ). (pair_taken (level_from s j) (as_ordered s k t).room).place) (level_for s k.ask.size k.ask.mask) (levels_in (as_ordered s k t)) (rings_grown (levels_in t) W))) (sym v.left)
            (arrived_rings s t fit len_of_lem v.sound k.ask.size k.ask.mask k.order.size v.memory v.bought (rings_grown (levels_in t) W) r),
      )
