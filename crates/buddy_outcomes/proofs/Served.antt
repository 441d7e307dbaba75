-- What the tables hold when a chunk was delivered and its left end lent: they are sound.
use mathlib.Core.Path.{◌≡◌, refl, ap, ◌∙◌}
use mathlib.Core.Bool.{true, false, cond}
use mathlib.Core.List.{List}
use Prim.Native.Nat.{ℕ, suc, ◌+◌, ◌-◌, ◌*◌, ◌%◌, ◌≤◌, ◌<◌}
use native.Mathlib.Nat.{zero-mod}
use native.Mathlib.Omega.{arith}
use lib.Dec.{eqb}
use lib.ListN.{length, get_or}
use Rattle.rounding_rules.specs.Raising.{level_of}
use Rattle.counter.specs.InTable.{BuddyIn}
use Rattle.counter.specs.Limits.{levels_most}
use Rattle.counter.specs.declared.settings.BuddySettings.{BuddySettings}
use Rattle.slabs.specs.Slab.{nowhere}
use Rattle.slabs.specs.declared.Taken.{Taken}
use Rattle.book_rules.specs.Book.{taken_of}
use Rattle.buddy_trees.specs.Trees.{Tree, free, bytes, up, spine}
use Rattle.buddy_rules.specs.Nodes.{L, node_of}
use Rattle.buddy_rules.specs.Nodes as Nodes
use Rattle.buddy_rules.specs.Lends.{grow}
use Rattle.buddy_rules.specs.Stores.{with, new_loan, delivered}
use Rattle.buddy_rules.specs.Stores as Stores
use Rattle.buddy_rules.proofs.Fitting.{up_add}
use Rattle.buddy_rules.proofs.Made.{delivered_sound}
use Rattle.buddy_rules.specs.Level.{ring_head, pair_taken, part}
use Rattle.buddy_rules.proofs.Ops.{level_ops}
use Rattle.buddy_rules.proofs.Parts.{part_good, part_taken}
use Rattle.buddy_rules.specs.Tables.{Tables, Lengths, levels_in, places_in, memory_in, level_from, chunks_from, loan_in, live_in, held_in, high_in, top_in}
use Rattle.buddy_rules.specs.Moves.{Cut, split_chunk}
use Rattle.buddy_rules.specs.Sound.{Sound}
use Rattle.buddy_rules.proofs.Abstract.{store_of, sound_store}
use Rattle.buddy_rules.proofs.Splitting.{grown_in}
use Rattle.buddy_rules.proofs.Walks.{minimal_pos}
use Rattle.buddy_rules.proofs.Owns.{split_chunk_own}
use Rattle.buddy_outcomes.specs.Ask.{size_for, level_for, size_ok, chunk_taken, booked_tables}
use Rattle.buddy_outcomes.specs.Deliver.{chunk_tables, served_tables}
use Rattle.buddy_outcomes.proofs.Same.{sound_as}
use Rattle.buddy_outcomes.proofs.Changed.{few_pairs}
use Rattle.buddy_outcomes.proofs.Rounds.{size_level, size_units}
use Rattle.buddy_outcomes.proofs.Booked.{booked_lengths, booked_sound}
use Rattle.buddy_outcomes.proofs.Taken.{place_dead, level_empty, level_room}
use Rattle.buddy_outcomes.proofs.Chunked.{chunked, chunked_lengths, chunked_level, taken_dead, chunked_high, chunked_top, chunked_kept}
use Rattle.words.specs.Words.{mark_at}

module _ (s : BuddySettings) (t : Tables) (fit : BuddyIn s) (lengths : Lengths s t) (sound : Sound s t) (size lev d memory z : ℕ)
    (top : levels_in t ≡ up (suc d) lev) (is_chunk : z ≡ bytes s.minimal (levels_in t))
    (chunk_room : (chunk_taken s t).place < s.store.chunks)
    (none : (j : ℕ) → lev ≤ j → j ≤ up d lev → ring_head (level_from s j) t.room ≡ nowhere)
    (room : (j : ℕ) → lev ≤ j → j ≤ up d lev → (pair_taken (level_from s j) t.room).place < s.pairs) where
  abbrev c : ℕ
  c = (chunk_taken s t).place

  abbrev k : ℕ
  k = (taken_of (places_in t) t.index).place

  abbrev u : Tables
  u = chunked s t fit lengths memory z

  abbrev cut : Cut
  cut = split_chunk s.pairs lev c k d u.room

  abbrev W : ℕ → List ℕ
  W i = part s.pairs i t.room

  abbrev W' : ℕ → List ℕ
  W' = (grow s.minimal (level_ops s.pairs (few_pairs s fit)) W lev c 0 k nowhere (suc d)).levels

  tall : 0 < levels_in t
  tall = omega (arith, top)

  room_in : (j : ℕ) → lev ≤ j → j ≤ up d lev → (level_ops s.pairs (few_pairs s fit)).Room (part s.pairs j t.room)
  room_in j h g = level_room s t fit sound j (omega (arith, top)) (room j h g)

  -- what is cut
  is_cut : (cut.node ≡ node_of (pair_taken 0 (part s.pairs lev t.room)).place L) × ((i : ℕ) → i < levels_most → part s.pairs i cut.room ≡ W' i)
      × ((i : ℕ) → chunks_from s ≤ i → get_or cut.room i 0 ≡ get_or u.room i 0) × (length cut.room ≡ length u.room)
  is_cut =
      grown_in s (few_pairs s fit) u.room W fit (chunked_lengths s t fit lengths memory z).room (chunked_level s t fit lengths memory z) lev d c k (omega (arith, top, sound.levels_most_lem))
      (λ i h g. (part_good s.pairs i t.room).0 (sound.good i (omega (arith, top)))) room_in

  served_long : Lengths s (booked_tables s c 0 size cut u)
  served_long = booked_lengths s u fit (chunked_lengths s t fit lengths memory z) c 0 size cut is_cut.3

  abbrev T : ℕ → Tree
  T b = cond (held_in t b) (sound.standing.trees b) free

  abbrev T' : ℕ → Tree
  T' = with T c (spine (suc d) k)

  dead : held_in t c ≡ false
  dead = taken_dead s t fit lengths memory z chunk_room sound tall is_chunk

  after : Stores.Sound s.minimal (level_ops s.pairs (few_pairs s fit)) (delivered s.minimal (level_ops s.pairs (few_pairs s fit)) (store_of s (few_pairs s fit) t) lev d k c) T'
  after =
      delivered_sound s.minimal (level_ops s.pairs (few_pairs s fit)) (minimal_pos s fit) (store_of s (few_pairs s fit) t) T (sound_store s (few_pairs s fit) t fit lengths sound) lev d k c
      (place_dead s t fit sound) (rw dead) top room_in (λ j h g. level_empty s t fit sound j (none j h g)) (λ j h g. omega (arith, room_in j h g, fit.pairs_most_lem))

  abbrev made : Nodes.Loan
  made = record { chunk = c; at = 0; lev = lev; node = cut.node }

  loan_is : made ≡ new_loan s.minimal (level_ops s.pairs (few_pairs s fit)) (store_of s (few_pairs s fit) t) lev c
  loan_is = let n = is_cut.0 in (λ j. record { chunk = c; at = 0; lev = lev; node = n j })

  loans_as : (j : ℕ) → with (loan_in s u) k made j
      ≡ with (loan_in s t) k (new_loan s.minimal (level_ops s.pairs (few_pairs s fit)) (store_of s (few_pairs s fit) t) lev c) j
  loans_as j = ap (λ (x : Nodes.Loan). cond (eqb j k) x (loan_in s t j)) loan_is

  high_as : (b : ℕ) → high_in s u b ≡ with (high_in s t) c (up (suc d) lev) b
  high_as b = chunked_high s t fit lengths memory z chunk_room sound tall is_chunk b ∙ ap (λ (x : ℕ). with (high_in s t) c x b) top

  abbrev top_word : ℕ
  top_word = 2 * (pair_taken (level_from s (levels_in t - 1)) t.room).place + 2

  word_as : top_word ≡ (grow s.minimal (level_ops s.pairs (few_pairs s fit)) W lev c 0 k nowhere (suc d)).top
  unfolding grow
  word_as =
      let e : levels_in t - 1 ≡ up d lev = omega (arith, top) in
      ap (λ (l : ℕ). 2 * (pair_taken (level_from s l) t.room).place + 2) e
      ∙ ap (λ (x : Taken). 2 * x.place + 2) (part_taken s.pairs (up d lev) t.room (sound.good (up d lev) (omega (arith, top))))

  top_as : (b : ℕ) → top_in s u b ≡ with (top_in s t) c (grow s.minimal (level_ops s.pairs (few_pairs s fit)) W lev c 0 k nowhere (suc d)).top b
  top_as b = chunked_top s t fit lengths memory z chunk_room sound tall is_chunk b ∙ ap (λ (x : ℕ). with (top_in s t) c x b) word_as

  after_as : Stores.Sound s.minimal (level_ops s.pairs (few_pairs s fit)) (record {
    count = levels_in u;
    levels = W';
    loans = with (loan_in s u) k made;
    live = with (live_in u) k true;
    high = high_in s u;
    top = top_in s u;
  }) T'
  unfolding delivered
  after_as =
      sound_as s.minimal (level_ops s.pairs (few_pairs s fit)) (minimal_pos s fit) (delivered s.minimal (level_ops s.pairs (few_pairs s fit)) (store_of s (few_pairs s fit) t) lev d k c) _ T' after
      refl (λ i h. refl) loans_as (λ j. refl) high_as top_as

  module _ (place : (taken_of (places_in t) t.index).place < s.store.loans) (level : level_of size s.minimal ≡ lev) (is : size ≡ bytes s.minimal lev) (units : size % (s.store.atom + 1) ≡ 0)
      (new : (b : ℕ) → held_in t b ≡ true → memory_in t b ≡ memory → ⊥) where
    served_tables_sound : Sound s (booked_tables s c 0 size cut u)
    served_tables_sound =
        booked_sound s u fit (chunked_lengths s t fit lengths memory z) c 0 size cut is_cut.3 lev (chunked_kept s t fit lengths memory z chunk_room sound tall is_chunk new) place level is
        (zero-mod (s.store.atom + 1)) units is_cut.2 (split_chunk_own s.pairs mark_at (omega arith) _ _ _ _ u.room) T' W' is_cut.1 after_as

-- ---- for an ask that no level has a ready side for, and all have a vacant pair place

module _ (s : BuddySettings) (t : Tables) (fit : BuddyIn s) (lengths : Lengths s t) (sound : Sound s t)
    (size mask memory : ℕ) (sized : size_ok s size mask ≡ true) (tall : level_for s size mask < levels_in t) (new : (c : ℕ) → held_in t c ≡ true → memory_in t c ≡ memory → ⊥)
    (empty : (j : ℕ) → level_for s size mask ≤ j → j < levels_in t → ring_head (level_from s j) t.room ≡ nowhere)
    (pair : (j : ℕ) → level_for s size mask ≤ j → j < levels_in t → (pair_taken (level_from s j) t.room).place < s.pairs)
    (place : (taken_of (places_in t) t.index).place < s.store.loans) (chunk_room : (chunk_taken s t).place < s.store.chunks) where
  abbrev lev : ℕ
  lev = level_for s size mask

  abbrev below : ℕ
  below = levels_in t - lev - 1

  height : levels_in t ≡ up (suc below) lev
  height = omega (arith, up_add below lev)

  pub served_lengths : Lengths s (served_tables s (size_for s size mask) (level_for s size mask) memory (bytes s.minimal (levels_in t)) t)
  unfolding served_tables chunk_tables
  served_lengths =
      served_long s t fit lengths sound (size_for s size mask) lev below memory (bytes s.minimal (levels_in t)) height refl chunk_room (λ j h g. empty j h (omega (arith, height))) (λ j h g. pair j h (omega (arith, height)))

  pub served_sound : Sound s (served_tables s (size_for s size mask) (level_for s size mask) memory (bytes s.minimal (levels_in t)) t)
  unfolding served_tables chunk_tables level_for
  served_sound =
      served_tables_sound s t fit lengths sound (size_for s size mask) lev below memory (bytes s.minimal (levels_in t)) height refl chunk_room (λ j h g. empty j h (omega (arith, height))) (λ j h g. pair j h (omega (arith, height)))
      place refl (size_level s fit size mask sized) (size_units s fit size mask sized) new
