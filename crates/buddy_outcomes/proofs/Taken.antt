-- What the tables hold when a block has been lent out of a chunk that the store holds: they are sound.
use mathlib.Core.Path.{◌≡◌, refl, sym, ap, ◌∙◌, subst}
use mathlib.Core.Bool.{true, false, cond, not}
use mathlib.Core.Logic.{◌⊎◌, inl, inr, ⊎_elim}
use mathlib.Core.List.{List}
use Prim.Native.Nat.{ℕ, ◌+◌, ◌-◌, ◌*◌, ◌/◌, ◌%◌, ◌≤◌, ◌<◌}
use native.Mathlib.Nat.{mul_assoc, mul-mod_left}
use native.Mathlib.Omega.{arith}
use lib.Dec.{eqb, ltb}
use lib.ListN.{length}
use borrow.Author.Tests.{eq-eqb, ne_eqb, le-ltb}
use Rattle.lists.proofs.Bools.{same?}
use Rattle.rounding_rules.specs.Raising.{level_of}
use Rattle.rounding_rules.proofs.Raising.{whole}
use Rattle.counter.specs.InTable.{BuddyIn}
use Rattle.counter.specs.Table.{alignment_ok}
use Rattle.counter.specs.declared.settings.BuddySettings.{BuddySettings}
use Rattle.slabs.specs.Slab.{nowhere}
use Rattle.store_rules.specs.Loans.{size_at}
use Rattle.book_rules.specs.Book.{taken_of}
use Rattle.book_rules.proofs.Keeps.{taken_where}
use Rattle.buddy_trees.specs.Trees.{Tree, free, bytes, up, spine, plant}
use Rattle.buddy_rules.specs.Nodes.{Ent}
use Rattle.buddy_rules.specs.Nodes as Nodes
use Rattle.buddy_rules.specs.Levels.{base_of}
use Rattle.buddy_rules.specs.Lends.{lend}
use Rattle.buddy_rules.specs.Stores.{with, cut_loan, lent}
use Rattle.buddy_rules.specs.Stores as Stores
use Rattle.buddy_rules.proofs.Fitting.{up_add, lent_aligned}
use Rattle.buddy_rules.proofs.Made.{lent_sound}
use Rattle.buddy_rules.specs.Level.{ring_head, pair_taken, acquired, part}
use Rattle.buddy_rules.proofs.Ops.{level_ops}
use Rattle.buddy_rules.proofs.Parts.{part_head, part_taken}
use Rattle.buddy_rules.specs.Tables.{Tables, Lengths, levels_in, places_in, level_from, loan_cell, loan_in, live_in, held_in, high_in, top_in}
use Rattle.buddy_rules.specs.Moves.{Cut, split_down, ready_node}
use Rattle.buddy_rules.specs.Sound.{Sound}
use Rattle.buddy_rules.proofs.Abstract.{store_of, sound_store}
use Rattle.buddy_rules.proofs.Splitting.{head_is, lent_is}
use Rattle.buddy_rules.proofs.Walks.{minimal_pos}
use Rattle.buddy_rules.proofs.Owns.{split_down_own, acquired_own}
use Rattle.buddy_outcomes.specs.Ask.{at, size_for, level_for, found_from, size_ok, room_ok, booked_tables, head_ent, taken_tables}
use Rattle.buddy_outcomes.proofs.Same.{sound_as}
use Rattle.buddy_outcomes.proofs.Changed.{few_pairs}
use Rattle.buddy_outcomes.proofs.Rounds.{size_level, size_units}
use Rattle.buddy_outcomes.proofs.Searches.{search_at, room_place, room_pair}
use Rattle.buddy_outcomes.proofs.Booked.{Kept, and_no, booked_lengths, booked_sound}
use Rattle.words.specs.Words.{mark_at}

-- a multiple of whole units is one
pub units_times : (r z m : ℕ) → z % m ≡ 0 → (r * z) % m ≡ 0
units_times r z m e = ap (λ (x : ℕ). (r * x) % m) (sym (whole z m e)) ∙ ap (λ (x : ℕ). x % m) (sym (mul_assoc r (z / m) m)) ∙ mul-mod_left (r * (z / m)) m

-- a function with the value that it has
with_same : {A : Type 0} (f : ℕ → A) (c b : ℕ) → f b ≡ with f c (f c) b
with_same f c b = ⊎_elim (λ e. rw (eq-eqb b c e) (ap f e)) (λ n. rw (ne_eqb b c n) refl) (same? b c)

module _ (s : BuddySettings) (t : Tables) (fit : BuddyIn s) (sound : Sound s t) where
  -- all but the trees
  pub sound_kept : Kept s t
  sound_kept = record {
    signed = sound.signed;
    levels_least = sound.levels_least;
    levels_most_lem = sound.levels_most_lem;
    loans_parted = sound.loans_parted;
    chained = sound.chained;
    chunks_parted = sound.chunks_parted;
    memories_differ = sound.memories_differ;
    sizes = record { chunks = λ c h. let r = sound.standing.sized c h in (r.0, r.1, r.2); loans = sound.standing.loans_sized };
    units = sound.loans_units;
  }

  -- the place that a loan takes had none
  pub place_dead : live_in t (taken_of (places_in t) t.index).place ≡ false
  place_dead = by (taken_where t.loans t.index s.store.loans (places_in t) (omega (arith, fit.store.loans_most_lem)) sound.loans_parted)
    where
      by : (((taken_of (places_in t) t.index).place ≡ places_in t) × ((taken_of (places_in t) t.index).slab.places ≡ places_in t + 1))
          ⊎ (((taken_of (places_in t) t.index).place < places_in t) × (eqb (loan_cell t size_at (taken_of (places_in t) t.index).place) 0 ≡ true) × ((taken_of (places_in t) t.index).slab.places ≡ places_in t))
          → live_in t (taken_of (places_in t) t.index).place ≡ false
      by (inl w) = rw (le-ltb (taken_of (places_in t) t.index).place (places_in t) (omega (arith, w.0)))
      by (inr w) = and_no (ltb (taken_of (places_in t) t.index).place (places_in t)) _ (ap not w.1)

-- what is true of level j in the table is true of its words alone
module _ (s : BuddySettings) (t : Tables) (fit : BuddyIn s) (sound : Sound s t) (j : ℕ) where
  pub level_some : (ring_head (level_from s j) t.room ≡ nowhere → ⊥) → (level_ops s.pairs (few_pairs s fit)).Some (part s.pairs j t.room)
  level_some f e = f (part_head s.pairs j t.room ∙ e)

  pub level_empty : ring_head (level_from s j) t.room ≡ nowhere → (level_ops s.pairs (few_pairs s fit)).Some (part s.pairs j t.room) → ⊥
  level_empty e f = f (sym (part_head s.pairs j t.room) ∙ e)

  pub level_room : j < levels_in t → (pair_taken (level_from s j) t.room).place < s.pairs → (pair_taken 0 (part s.pairs j t.room)).place < s.pairs
  level_room h k = let e = part_taken s.pairs j t.room (sound.good j h) in rw (← e) k

module _ (s : BuddySettings) (t : Tables) (fit : BuddyIn s) (lengths : Lengths s t) (sound : Sound s t) (size lev d : ℕ)
    (below : up d lev < levels_in t) (some : ring_head (level_from s (up d lev)) t.room ≡ nowhere → ⊥)
    (none : (j : ℕ) → lev ≤ j → j < up d lev → ring_head (level_from s j) t.room ≡ nowhere)
    (room : (j : ℕ) → lev ≤ j → j < up d lev → (pair_taken (level_from s j) t.room).place < s.pairs) where
  abbrev k : ℕ
  k = (taken_of (places_in t) t.index).place

  abbrev e : Ent
  e = head_ent s t (up d lev)

  abbrev cut : Cut
  cut = split_down s.pairs lev e.chunk (base_of s.minimal e (up d lev)) k (ready_node s.pairs (up d lev) t.room) d (acquired (level_from s (up d lev)) 0 t.room)

  some_in : (level_ops s.pairs (few_pairs s fit)).Some (part s.pairs (up d lev) t.room)
  some_in = level_some s t fit sound (up d lev) some

  room_in : (j : ℕ) → lev ≤ j → j < up d lev → (level_ops s.pairs (few_pairs s fit)).Room (part s.pairs j t.room)
  room_in j h g = level_room s t fit sound j (omega arith) (room j h g)

  before : Stores.Sound s.minimal (level_ops s.pairs (few_pairs s fit)) (store_of s (few_pairs s fit) t) (λ (c : ℕ). cond (held_in t c) (sound.standing.trees c) free)
  before = sound_store s (few_pairs s fit) t fit lengths sound

  cut_long : length cut.room ≡ length t.room
  cut_long = (lent_is s (few_pairs s fit) t fit lengths sound lev d k below some_in room_in).3

  lent_lengths : Lengths s (booked_tables s e.chunk (base_of s.minimal e (up d lev)) size cut t)
  lent_lengths = booked_lengths s t fit lengths e.chunk (base_of s.minimal e (up d lev)) size cut cut_long

  loan_is : record { chunk = e.chunk; at = base_of s.minimal e (up d lev); lev = lev; node = cut.node } ≡ cut_loan s.minimal (level_ops s.pairs (few_pairs s fit)) (store_of s (few_pairs s fit) t) lev d
  loan_is =
      let h = head_is s (few_pairs s fit) t sound (up d lev) below some_in in
      let a = ap (λ (x : Ent). x.chunk) h in
      let b = ap (λ (x : Ent). base_of s.minimal x (up d lev)) h in
      let n = (lent_is s (few_pairs s fit) t fit lengths sound lev d k below some_in room_in).0 in
      (λ j. record { chunk = a j; at = b j; lev = lev; node = n j })

  abbrev T : ℕ → Tree
  T c = cond (held_in t c) (sound.standing.trees c) free

  abbrev lent_loan : Nodes.Loan
  lent_loan = cut_loan s.minimal (level_ops s.pairs (few_pairs s fit)) (store_of s (few_pairs s fit) t) lev d

  abbrev T' : ℕ → Tree
  T' = with T lent_loan.chunk (plant s.minimal (high_in s t lent_loan.chunk) 0 lent_loan.at (spine d k) (T lent_loan.chunk))

  abbrev W' : ℕ → List ℕ
  W' = lend s.minimal (level_ops s.pairs (few_pairs s fit)) (store_of s (few_pairs s fit) t).levels lev d k

  after : Stores.Sound s.minimal (level_ops s.pairs (few_pairs s fit)) (lent s.minimal (level_ops s.pairs (few_pairs s fit)) (store_of s (few_pairs s fit) t) lev d k) T'
  after =
      lent_sound s.minimal (level_ops s.pairs (few_pairs s fit)) (minimal_pos s fit) (store_of s (few_pairs s fit) t) T before lev d k (place_dead s t fit sound) below some_in room_in
      (λ j h g. level_empty s t fit sound j (none j h g)) (λ j h g. omega (arith, room_in j h g, fit.pairs_most_lem))

  after_as : Stores.Sound s.minimal (level_ops s.pairs (few_pairs s fit)) (record {
    count = levels_in t;
    levels = W';
    loans = with (loan_in s t) k (record { chunk = e.chunk; at = base_of s.minimal e (up d lev); lev = lev; node = cut.node });
    live = with (live_in t) k true;
    high = high_in s t;
    top = top_in s t;
  }) T'
  unfolding lent
  after_as =
      sound_as s.minimal (level_ops s.pairs (few_pairs s fit)) (minimal_pos s fit) (lent s.minimal (level_ops s.pairs (few_pairs s fit)) (store_of s (few_pairs s fit) t) lev d k) _ T' after
      refl (λ i h. refl) (λ j. ap (λ (x : Nodes.Loan). with (loan_in s t) k x j) loan_is) (λ j. refl) (with_same (high_in s t) lent_loan.chunk) (with_same (top_in s t) lent_loan.chunk)

  module _ (place : (taken_of (places_in t) t.index).place < s.store.loans) (level : level_of size s.minimal ≡ lev) (is : size ≡ bytes s.minimal lev) (units : size % (s.store.atom + 1) ≡ 0) where
    at_units : base_of s.minimal e (up d lev) % (s.store.atom + 1) ≡ 0
    at_units =
        let r = lent_aligned s.minimal (level_ops s.pairs (few_pairs s fit)) (minimal_pos s fit) (store_of s (few_pairs s fit) t) T before lev d below some_in in
        let x : base_of s.minimal e (up d lev) ≡ r.0 * size = ap (λ (l : Nodes.Loan). l.at) loan_is ∙ r.1 ∙ ap (λ (z : ℕ). r.0 * z) (sym is) in
        rw x (units_times r.0 size (s.store.atom + 1) units)

    lent_tables_sound : Sound s (booked_tables s e.chunk (base_of s.minimal e (up d lev)) size cut t)
    lent_tables_sound =
        let X = lent_is s (few_pairs s fit) t fit lengths sound lev d k below some_in room_in in
        booked_sound s t fit lengths e.chunk (base_of s.minimal e (up d lev)) size cut cut_long lev (sound_kept s t fit sound) place level is at_units units X.2 (split_down_own s.pairs mark_at (omega arith) _ _ _ _ _ _ _ ∙ acquired_own (level_from s (up d lev)) mark_at (omega arith) 0 t.room) T' W' X.1 after_as

-- ---- of the first level with a ready side

module _ (s : BuddySettings) (t : Tables) (fit : BuddyIn s) (lengths : Lengths s t) (sound : Sound s t)
    (size mask i : ℕ) (found : found_from s (level_for s size mask) t ≡ at i) (aligned : alignment_ok mask ≡ true) (sized : size_ok s size mask ≡ true) (room : room_ok s (level_for s size mask) t (at i) ≡ true) where
  abbrev lev : ℕ
  lev = level_for s size mask

  pub first : (lev ≤ i) × (i < levels_in t) × (ring_head (level_from s i) t.room ≡ nowhere → ⊥) × ((j : ℕ) → lev ≤ j → j < i → ring_head (level_from s j) t.room ≡ nowhere)
  unfolding found_from
  first = let r = search_at s t.room lev (levels_in t - lev) i found in (r.0, omega (arith, r.0, r.1), r.2, r.3)

  pub height : up (i - lev) lev ≡ i
  height = omega (arith, up_add (i - lev) lev, first.0)

  -- the tables, of any level x and any number of steps down
  abbrev tables_at : ℕ → ℕ → Tables
  tables_at x n =
      booked_tables s (head_ent s t x).chunk (base_of s.minimal (head_ent s t x) x) (size_for s size mask)
      (split_down s.pairs lev (head_ent s t x).chunk (base_of s.minimal (head_ent s t x) x) (taken_of (places_in t) t.index).place (ready_node s.pairs x t.room) n (acquired (level_from s x) 0 t.room)) t

  below : up (i - lev) lev < levels_in t
  below = omega (arith, height, first.1)

  some : ring_head (level_from s (up (i - lev) lev)) t.room ≡ nowhere → ⊥
  some = rw height first.2

  none : (j : ℕ) → lev ≤ j → j < up (i - lev) lev → ring_head (level_from s j) t.room ≡ nowhere
  none j h g = first.3 j h (omega (arith, height))

  pub pair : (j : ℕ) → lev ≤ j → j < up (i - lev) lev → (pair_taken (level_from s j) t.room).place < s.pairs
  pair j h g = room_pair s t size mask (at i) room j h (omega (arith, height)) (omega (arith, below))

  pub taken_sound : Sound s (taken_tables s (size_for s size mask) (level_for s size mask) t i)
  unfolding taken_tables level_for
  taken_sound =
      subst (λ (x : ℕ). Sound s (tables_at x (i - lev))) height
      (lent_tables_sound s t fit lengths sound (size_for s size mask) lev (i - lev) below some none pair (room_place s t size mask (at i) room) refl
      (size_level s fit size mask sized) (size_units s fit size mask sized))

  pub taken_lengths : Lengths s (taken_tables s (size_for s size mask) (level_for s size mask) t i)
  unfolding taken_tables
  taken_lengths = subst (λ (x : ℕ). Lengths s (tables_at x (i - lev))) height (lent_lengths s t fit lengths sound (size_for s size mask) lev (i - lev) below some none pair)
