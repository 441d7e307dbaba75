-- Where an ask comes to an order, a chunk can be added to the store as the order grew it, and its left end lent.
use mathlib.Core.Path.{◌≡◌, refl, subst}
use mathlib.Core.Logic.{inr}
use mathlib.Core.List.{List}
use Prim.Native.Nat.{ℕ, suc, ◌-◌, ◌≤◌, ◌<◌}
use native.Mathlib.Omega.{arith}
use Rattle.counter.specs.InTable.{BuddyIn}
use Rattle.counter.specs.Limits.{levels_most, spent}
use Rattle.counter.specs.declared.account.Heap.{Heap}
use Rattle.counter.specs.declared.settings.BuddySettings.{BuddySettings}
use Rattle.slabs.specs.Slab.{nowhere}
use Rattle.store_rules.specs.Orders.{buy}
use Rattle.buddy_trees.specs.Trees.{up}
use Rattle.buddy_rules.proofs.Fitting.{up_add}
use Rattle.buddy_rules.specs.Nodes.{free_word}
use Rattle.buddy_rules.specs.Level.{pair_taken, added}
use Rattle.buddy_rules.specs.Moves.{left_next}
use Rattle.buddy_rules.specs.Tables.{Tables, Lengths, given_in, levels_in, level_from}
use Rattle.buddy_rules.specs.Sound.{Sound}
use Rattle.buddy_rules.proofs.Splitting.{tree_short, first_into}
use Rattle.buddy_rules.proofs.Worded.{Short}
use Rattle.buddy_moves.specs.Roomy.{Roomy}
use Rattle.buddy_outcomes.specs.Ask.{level_for, grown_to, chunk_taken, decide_ask, grown_tables}
use Rattle.buddy_outcomes.specs.Deliver.{chunk_tables}
use Rattle.buddy_outcomes.proofs.Changed.{few_pairs, grown_lengths}
use Rattle.buddy_outcomes.proofs.Chunked.{chunked, chunked_lengths, chunked_level}
use Rattle.buddy_outcomes.proofs.Delivered.{most, grown_sound, count, place, chunk_room, pair}
use Rattle.buddy_outcomes.proofs.Heads.{grown_given}
use Rattle.buddy_outcomes.proofs.Plans.{Buys, buys}
use Rattle.buddy_moves.specs.Ready.{Serves}
use Rattle.buddy_moves.proofs.Lending.{opens, node_in}
use Rattle.buddy_moves.proofs.Rooming.{roomy}

module _ (s : BuddySettings) (t : Tables) (fit : BuddyIn s) (lengths : Lengths s t) (sound : Sound s t) (size mask z : ℕ) (b : Buys s size mask t z) where
  abbrev lev : ℕ
  lev = level_for s size mask

  -- the store as the order grew it
  abbrev grown : Tables
  grown = grown_tables s (grown_to (level_for s size mask) t) t

  tall : lev < levels_in grown
  tall = omega (arith, count s t fit lengths sound size mask z b)

  low : levels_in grown ≤ levels_most
  low = omega (arith, count s t fit lengths sound size mask z b, most s t fit lengths sound size mask z b)

  serial : given_in grown < spent
  serial = omega (arith, grown_given s (grown_to (level_for s size mask) t) t, b.serial)

  abbrev under : ℕ
  under = levels_in grown - lev - 1

  height : up (suc under) lev ≡ levels_in grown
  height = omega (arith, up_add under lev, tall)

  module _ (memory : ℕ) where
    abbrev chunky : List ℕ
    chunky = (chunk_tables s memory z grown).room

    short : Short s chunky
    unfolding chunk_tables
    short =
        let long = grown_lengths s t fit lengths sound (grown_to (level_for s size mask) t) in
        tree_short s (few_pairs s fit) (chunked s grown fit long memory z).room fit (chunked_lengths s grown fit long memory z).room

    -- a chunk's words are past the levels
    all_room : Roomy s.pairs lev (chunk_taken s grown).place 0 nowhere (suc under) chunky
    unfolding chunk_tables
    all_room =
        let long = grown_lengths s t fit lengths sound (grown_to (level_for s size mask) t) in
        roomy s grown.room lev (chunk_taken s grown).place 0 (suc under) nowhere (chunked s grown fit long memory z).room (omega (arith, height, low)) (inr refl) short
        (λ j h g. chunked_level s grown fit long memory z j (omega (arith, height, low)))
        (λ j h g. (grown_sound s t fit lengths sound size mask z b).good j (omega (arith, height)))
        (λ j h g. pair s t fit lengths sound size mask z b j h (omega (arith, height)))

    own_room : (pair_taken (level_from s (up under lev)) chunky).place < s.pairs
    unfolding Roomy
    own_room = all_room.0

    split_room : Roomy s.pairs lev (chunk_taken s grown).place 0 (left_next s.pairs (up under lev) chunky) under
        (added (level_from s (up under lev)) (chunk_taken s grown).place 0 nowhere free_word chunky)
    unfolding Roomy
    split_room =
        let c = (chunk_taken s grown).place in
        subst (Roomy s.pairs lev c 0 (left_next s.pairs (up under lev) chunky) under) (first_into s (few_pairs s fit) chunky short (up under lev) c) all_room.1

    serves : Serves s (level_for s size mask) memory z (grown_tables s (grown_to (level_for s size mask) t) t)
    serves =
        record {
          enters = record { fit = fit; serial = serial; opens = opens s grown fit (grown_lengths s t fit lengths sound (grown_to (level_for s size mask) t)) (place s t fit lengths sound size mask z b); node = node_in s grown (grown_lengths s t fit lengths sound (grown_to (level_for s size mask) t)) _ (place s t fit lengths sound size mask z b) };
          below = tall;
          low = low;
          chunk = omega (arith, chunk_room s t fit lengths sound size mask z b, fit.store.chunks_most_lem);
          pair = pair s t fit lengths sound size mask z b (levels_in grown - 1) (omega (arith, tall)) (omega (arith, tall));
          long = omega (arith, (grown_lengths s t fit lengths sound (grown_to (level_for s size mask) t)).room);
          own = own_room;
          roomy = split_room;
        }

pub serves_ready : (s : BuddySettings) (h : Heap) (objects size mask : ℕ) (t : Tables) → BuddyIn s → Lengths s t → Sound s t → (z : ℕ) → decide_ask s h objects size mask t ≡ buy z → (memory : ℕ)
    → Serves s (level_for s size mask) memory z (grown_tables s (grown_to (level_for s size mask) t) t)
serves_ready s h objects size mask t fit lengths sound z e memory = serves s t fit lengths sound size mask z (buys s h objects size mask t z e) memory
