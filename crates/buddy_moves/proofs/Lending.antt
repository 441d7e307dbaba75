-- Where an ask comes to a level with a ready side, its head pair can serve.
use mathlib.Core.Path.{◌≡◌, ap}
use mathlib.Core.Logic.{inl}
use mathlib.Core.List.{List}
use Prim.Native.Nat.{ℕ, ◌+◌, ◌-◌, ◌^◌, ◌≤◌, ◌<◌}
use native.Mathlib.Omega.{arith}
use lib.ListN.{length}
use Rattle.counter.specs.InTable.{BuddyIn}
use Rattle.counter.specs.Limits.{levels_most}
use Rattle.counter.specs.declared.account.Heap.{Heap}
use Rattle.counter.specs.declared.settings.BuddySettings.{BuddySettings}
use Rattle.slabs.specs.Slab.{nowhere}
use Rattle.store_rules.specs.Orders.{take}
use Rattle.book_rules.specs.Book.{taken_of}
use Rattle.book_rules.specs.Ready.{Opens}
use Rattle.buddy_trees.specs.Trees.{up}
use Rattle.buddy_rules.specs.Nodes.{free_word, Ent}
use Rattle.buddy_rules.specs.Levels.{side_of}
use Rattle.buddy_rules.proofs.Climbs.{node_pair}
use Rattle.buddy_rules.specs.Level.{ring_head, acquired, level_words, part}
use Rattle.buddy_rules.proofs.Abstract.{levels_in_lem}
use Rattle.buddy_rules.proofs.Cells.{pair_used}
use Rattle.buddy_rules.proofs.Ops.{level_ops}
use Rattle.buddy_rules.proofs.Rings.{head_mem}
use Rattle.buddy_rules.specs.Tables.{Tables, tables, Lengths, levels_in, places_in, nodes_from, level_from, pairs_in, high_in}
use Rattle.buddy_rules.specs.Moves.{ready_node}
use Rattle.buddy_rules.specs.Sound.{Sound}
use Rattle.buddy_rules.proofs.Splitting.{tree_short, head_used, head_low, acquire_in}
use Rattle.buddy_rules.proofs.Worded.{Left, Fits, within_left}
use Rattle.buddy_levels.specs.Stands.{Leaves}
use Rattle.buddy_levels.proofs.Standing.{member_leaves}
use Rattle.buddy_moves.specs.Roomy.{Roomy}
use Rattle.buddy_outcomes.specs.Ask.{at, size_for, level_for, decide_ask, head_ent, loan_from}
use Rattle.buddy_outcomes.proofs.Changed.{few_pairs}
use Rattle.buddy_outcomes.proofs.Plans.{Takes, takes}
use Rattle.buddy_outcomes.proofs.Rounds.{bytes_low}
use Rattle.buddy_outcomes.proofs.Searches.{room_place}
use Rattle.buddy_outcomes.proofs.Taken.{level_some, first, height, pair}
use Rattle.buddy_moves.specs.Ready.{Lends}
use Rattle.buddy_moves.proofs.Rooming.{roomy}

-- the book is as long as the settings say, so a loan can be entered where a place is left
pub opens : (s : BuddySettings) (t : Tables) → BuddyIn s → Lengths s t → (taken_of (places_in t) t.index).place < s.store.loans
    → Opens s.store.loans (taken_of (places_in t) t.index).place t.loans t.index
opens s t fit lengths room =
    record { some = fit.store.loans_some; most = fit.store.loans_most_lem; loans_long = lengths.loans; index_long = omega (arith, lengths.index); place = room }

-- and its node
pub node_in : (s : BuddySettings) (t : Tables) → Lengths s t → (p : ℕ) → p < s.store.loans → nodes_from s + (p + 1) < length t.index
node_in s t lengths p h = omega (arith, lengths.index)

module _ (s : BuddySettings) (t : Tables) (fit : BuddyIn s) (lengths : Lengths s t) (sound : Sound s t) (size mask i : ℕ) (w : Takes s size mask t i) where
  abbrev lev : ℕ
  lev = level_for s size mask

  abbrev p : ℕ
  p = ring_head (level_from s i) t.room

  found : (lev ≤ i) × (i < levels_in t) × (p ≡ nowhere → ⊥)
  found = let r = first s t fit lengths sound size mask i w.found w.aligned w.sized w.room in (r.0, r.1, r.2)

  some : (level_ops s.pairs (few_pairs s fit)).Some (part s.pairs i t.room)
  some = level_some s t fit sound i found.2

  below : p < s.pairs
  below = head_low s (few_pairs s fit) t sound i found.1 some

  -- ---- the head pair lies in its chunk

  head_is : pairs_in s t i p ≡ head_ent s t i
  head_is = pair_used (level_from s i) t.room p (head_used s (few_pairs s fit) t sound i found.1 some)

  in_use_lem : 0 < (pairs_in s t i p).tag
  in_use_lem =
      let g = sound.good i found.1 in
      let r : 1 < (head_ent s t i).tag = g.ready p (head_mem (level_from s i) s.pairs t.room g found.2) in
      omega (arith, ap (λ (e : Ent). e.tag) head_is, r)

  offset_low : (head_ent s t i).off ≤ 2 ^ 62
  offset_low =
      let c = (pairs_in s t i p).chunk in
      let o = sound.standing.owned i p found.1 in_use_lem in
      let z = sound.standing.sized c o.0 in
      omega (arith, ap (λ (e : Ent). e.off) head_is, o.2, z.0, bytes_low s fit (high_in s t c) (omega (arith, z.3, sound.levels_most_lem)))

  -- it can leave its ring
  leaving : Leaves (level_from s i) p t.room
  leaving =
      let g = sound.good i found.1 in
      let h : i < levels_most = omega (arith, found.1, sound.levels_most_lem) in
      let long : level_from s i + level_words s.pairs ≤ length t.room = omega (arith, levels_in_lem s i h, lengths.room) in
      member_leaves (level_from s i) s.pairs t.room g long p (head_mem (level_from s i) s.pairs t.room g found.2)

  -- ---- its ready side can be split down

  abbrev taken : List ℕ
  taken = acquired (level_from s i) free_word t.room

  abbrev node : ℕ
  node = ready_node s.pairs i t.room

  tall : up (i - lev) lev ≡ i
  tall = height s t fit lengths sound size mask i w.found w.aligned w.sized w.room

  low : i < levels_most
  low = omega (arith, found.1, sound.levels_most_lem)

  left : Left s i t.room taken
  left = within_left s i t.room taken _ low (acquire_in s (few_pairs s fit) t sound i found.1 some)

  fits : Fits s (up (i - lev) lev) node
  fits = inl (omega (arith, tall, low), rw (node_pair p (side_of (head_ent s t i).tag)) below)

  short : length taken ≤ 2 ^ 62
  short = rw left.long (tree_short s (few_pairs s fit) t.room fit lengths.room)

  split_room : (c o : ℕ) → Roomy s.pairs lev c o node (i - lev) taken
  split_room c o =
      roomy s t.room lev c o (i - lev) node taken (omega (arith, tall, low)) fits short
      (λ j h g. left.others j (λ e. omega (arith, tall)))
      (λ j h g. sound.good j (omega (arith, tall, found.1)))
      (pair s t fit lengths sound size mask i w.found w.aligned w.sized w.room)

  lends : Lends s (size_for s size mask) (level_for s size mask) i t
  lends =
      record {
        enters = record { fit = fit; serial = w.serial; opens = opens s t fit lengths (room_place s t size mask (at i) w.room); node = node_in s t lengths _ (room_place s t size mask (at i) w.room) };
        below = found.0;
        low = low;
        pair = below;
        long = omega (arith, lengths.room);
        leaves = leaving;
        offset = offset_low;
        roomy = split_room (loan_from s (size_for s size mask) t i).chunk (loan_from s (size_for s size mask) t i).offset;
      }

pub lends_ready : (s : BuddySettings) (h : Heap) (objects size mask : ℕ) (t : Tables) → BuddyIn s → Lengths s t → Sound s t → (i : ℕ) → decide_ask s h objects size mask t ≡ take i
    → Lends s (size_for s size mask) (level_for s size mask) i t
lends_ready s h objects size mask t fit lengths sound i e = lends s t fit lengths sound size mask i (takes s h objects size mask t i e)

-- what is asked looks at neither head nor chunks
pub lends_rest : (s : BuddySettings) (z l i : ℕ) (t : Tables) (head chunks : List ℕ) → Lends s z l i t → Lends s z l i (tables head t.loans chunks t.index t.room)
lends_rest s z l i t head chunks r =
    record {
      enters = record { fit = r.enters.fit; serial = r.enters.serial; opens = r.enters.opens; node = r.enters.node };
      below = r.below;
      low = r.low;
      pair = r.pair;
      long = r.long;
      leaves = r.leaves;
      offset = r.offset;
      roomy = r.roomy;
    }
