-- What the tables say when a chunk stands at the place that is taken next: all but its tree.
use mathlib.Core.Path.{◌≡◌, refl, sym, ap, ◌∙◌, subst}
use mathlib.Core.Bool.{Bool, true, false, cond, not}
use mathlib.Core.Logic.{◌⊎◌, inl, inr, ⊎_elim}
use mathlib.Core.List.{List, [], ◌∷◌}
use Prim.Native.Nat.{ℕ, ◌+◌, ◌-◌, ◌*◌, ◌^◌, ◌%◌, ◌≤◌, ◌<◌}
use native.Mathlib.Nat.{mod-eq_of_lt}
use native.Mathlib.Omega.{arith}
use lib.Dec.{eqb, ltb}
use lib.ListN.{length, get_or, set, length-set}
use lib.Seq.{get_or-set_same, get_or-set_other}
use borrow.Author.Tests.{eq-eqb, ne_eqb, lt-ltb, le-ltb}
use Rattle.lists.specs.Members.{Below, head_or}
use Rattle.lists.proofs.Bools.{same?}
use Rattle.words.specs.Words.{cell_of, mark_at}
use Rattle.rounding_rules.specs.Raising.{level_of}
use Rattle.counter.specs.InTable.{BuddyIn}
use Rattle.counter.specs.Limits.{levels_most}
use Rattle.counter.specs.declared.settings.BuddySettings.{BuddySettings}
use Rattle.slabs.specs.Slab.{nowhere, link_at, inserted, Chain, Parted, changed, record_of, place_of}
use Rattle.slabs.specs.declared.Slab.{Slab}
use Rattle.slabs.specs.declared.Taken.{Taken}
use Rattle.slabs.proofs.Links.{place_record}
use Rattle.slabs.proofs.Places.{parted_same, insert_first, insert_next, insert_last, inserted_parted, changed_here, changed_other}
use Rattle.buddy_trees.specs.Trees.{bytes}
use Rattle.buddy_trees.proofs.Bytes.{bytes_pos}
use Rattle.buddy_rules.specs.Stores.{with}
use Rattle.buddy_rules.specs.Level.{pair_taken, part}
use Rattle.buddy_rules.specs.Tables.{Tables, tables, Lengths, chunk_places_at, memory_at, chunk_size_at, chunk_words, levels_in, chunk_places_in, memory_in, chunk_size_in, level_from, chunks_from, place_at, top_at, after_at, place_words, held_in, high_in, top_in, vacant_chunk, chunk_after, chunk_slab, initial_levels}
use Rattle.buddy_rules.specs.Sound.{Sound}
use Rattle.buddy_rules.proofs.Walks.{minimal_pos, level_bytes}
use Rattle.buddy_outcomes.specs.Ask.{chunk_taken}
use Rattle.buddy_outcomes.specs.Deliver.{chunk_tables}
use Rattle.buddy_outcomes.proofs.Changed.{part_set}
use Rattle.buddy_outcomes.proofs.Booked.{Kept, and_no, lower}
use Rattle.buddy_outcomes.proofs.Heads.{chunk_mark, chunk_counted}

-- the place that is taken is the next new one, or one that was vacant, and then no place more is used
inserted_where : (free : ℕ → Bool) (links : List ℕ) (at step : ℕ) (s : Slab) (most : ℕ) → Parted free (link_at links at step) s most → most < nowhere
    → (((inserted s links at step).place ≡ s.places) × ((inserted s links at step).slab.places ≡ s.places + 1))
    ⊎ (((inserted s links at step).place < s.places) × (free (inserted s links at step).place ≡ true) × ((inserted s links at step).slab.places ≡ s.places))
inserted_where free links at step s most P few = by P.chained refl
  where
    by : (l : List ℕ) → P.chained ≡ l
        → (((inserted s links at step).place ≡ s.places) × ((inserted s links at step).slab.places ≡ s.places + 1))
        ⊎ (((inserted s links at step).place < s.places) × (free (inserted s links at step).place ≡ true) × ((inserted s links at step).slab.places ≡ s.places))
    by [] e =
        let v : s.vacant ≡ nowhere = rw e at P.chain in
        let h : s.places ≤ most = P.limit in
        let m : (s.places + 1) % 2 ^ 64 ≡ s.places + 1 = mod-eq_of_lt (omega arith) in
        let t = insert_next s links at step (omega arith) in
        inl (ap (λ (u : Taken). u.place) t, ap (λ (u : Taken). u.slab.places) t ∙ m)
    by (x ∷ l) e =
        let c : Chain (link_at links at step) s.vacant (x ∷ l) = rw e at P.chain in
        let b : Below s.places (x ∷ l) = rw e at P.below in
        let v : s.vacant ≡ x = c.0 in
        let h : x < s.places = b.0 in
        let t = insert_first s links at step (omega arith) in
        let p : (inserted s links at step).place ≡ x = ap (λ (u : Taken). u.place) t ∙ v in
        inr (omega arith, ap free p ∙ P.vacant x (rw e (inl refl)), ap (λ (u : Taken). u.slab.places) t)

module _ (s : BuddySettings) (t : Tables) (fit : BuddyIn s) (lengths : Lengths s t) (memory z : ℕ) where
  abbrev p : ℕ
  p = (chunk_taken s t).place

  abbrev q : ℕ
  q = (chunk_taken s t).slab.places

  abbrev top_cell : ℕ
  top_cell = cell_of (place_at s top_at) place_words p

  -- what leads to the chunk place vacated last from then on
  abbrev link : ℕ
  link = record_of (chunk_taken s t).slab.vacant

  abbrev top_word : ℕ
  top_word = 2 * (pair_taken (level_from s (levels_in t - 1)) t.room).place + 2

  abbrev pub chunked : Tables
  chunked =
      tables t.head t.loans
      (set (set (set t.chunks chunk_places_at q) (cell_of memory_at chunk_words p) memory) (cell_of chunk_size_at chunk_words p) z)
      t.index
      (set (set t.room (chunks_from s) link) top_cell top_word)

  -- the chunks with their places counted, and then with the memory number
  abbrev counted : List ℕ
  counted = set t.chunks chunk_places_at q

  counted_long : length counted ≡ chunk_words + chunk_words * s.store.chunks
  counted_long = length-set t.chunks chunk_places_at q ∙ lengths.chunks

  abbrev first : List ℕ
  first = set counted (cell_of memory_at chunk_words p) memory

  first_long : length first ≡ chunk_words + chunk_words * s.store.chunks
  first_long = length-set counted (cell_of memory_at chunk_words p) memory ∙ counted_long

  pub chunked_lengths : Lengths s chunked
  chunked_lengths = record {
    head = lengths.head;
    loans = lengths.loans;
    chunks = length-set first (cell_of chunk_size_at chunk_words p) z ∙ first_long;
    index = lengths.index;
    room = length-set (set t.room (chunks_from s) link) top_cell top_word ∙ length-set t.room (chunks_from s) link ∙ lengths.room;
  }

  -- ---- the counts

  pub places_now : chunk_places_in chunked ≡ q
  unfolding chunk_tables
  places_now = chunk_counted s memory z t (omega (arith, lengths.chunks))

  pub chunked_level : (i : ℕ) → i < levels_most → part s.pairs i chunked.room ≡ part s.pairs i t.room
  chunked_level i h = part_set s i top_cell top_word (set t.room (chunks_from s) link) h (omega arith) ∙ part_set s i (chunks_from s) link t.room h (omega arith)

  -- the chunks' mark stays
  chunks_mark : get_or chunked.chunks mark_at 0 ≡ get_or t.chunks mark_at 0
  unfolding chunk_tables
  chunks_mark = chunk_mark s memory z t

  -- ---- words of the tree

  tree_other : (i : ℕ) → (i ≡ chunks_from s → ⊥) → (i ≡ top_cell → ⊥) → get_or chunked.room i 0 ≡ get_or t.room i 0
  tree_other i a b = get_or-set_other (set t.room (chunks_from s) link) top_cell i top_word 0 b ∙ get_or-set_other t.room (chunks_from s) i link 0 a

  module _ (room : (chunk_taken s t).place < s.store.chunks) where
    tree_vacated : (chunk_slab s chunked).vacant ≡ (chunk_taken s t).slab.vacant
    tree_vacated =
        ap place_of
        (get_or-set_other (set t.room (chunks_from s) link) top_cell (chunks_from s) top_word 0 (λ e. omega arith)
        ∙ get_or-set_same t.room (chunks_from s) link 0 (omega (arith, lengths.room)))
        ∙ place_record (chunk_taken s t).slab.vacant

    tree_top : get_or chunked.room (cell_of (place_at s top_at) place_words (chunk_taken s t).place) 0 ≡ top_word
    tree_top = get_or-set_same (set t.room (chunks_from s) link) top_cell top_word 0 (omega (arith, length-set t.room (chunks_from s) link, lengths.room))

    -- ---- words of the chunks

    pub size_here : chunk_size_in chunked (chunk_taken s t).place ≡ z
    size_here = get_or-set_same first (cell_of chunk_size_at chunk_words p) z 0 (omega (arith, first_long))

    pub size_other : (b : ℕ) → (b ≡ p → ⊥) → chunk_size_in chunked b ≡ chunk_size_in t b
    size_other b n =
        get_or-set_other first (cell_of chunk_size_at chunk_words p) (cell_of chunk_size_at chunk_words b) z 0 (λ e. n (omega arith))
        ∙ get_or-set_other counted (cell_of memory_at chunk_words p) (cell_of chunk_size_at chunk_words b) memory 0 (λ e. omega arith)
        ∙ get_or-set_other t.chunks chunk_places_at (cell_of chunk_size_at chunk_words b) q 0 (λ e. omega arith)

    pub memory_here : memory_in chunked (chunk_taken s t).place ≡ memory
    memory_here =
        get_or-set_other first (cell_of chunk_size_at chunk_words p) (cell_of memory_at chunk_words p) z 0 (λ e. omega arith)
        ∙ get_or-set_same counted (cell_of memory_at chunk_words p) memory 0 (omega (arith, counted_long))

    pub memory_other : (b : ℕ) → (b ≡ (chunk_taken s t).place → ⊥) → memory_in chunked b ≡ memory_in t b
    memory_other b n =
        get_or-set_other first (cell_of chunk_size_at chunk_words p) (cell_of memory_at chunk_words b) z 0 (λ e. omega arith)
        ∙ get_or-set_other counted (cell_of memory_at chunk_words p) (cell_of memory_at chunk_words b) memory 0 (λ e. n (omega arith))
        ∙ get_or-set_other t.chunks chunk_places_at (cell_of memory_at chunk_words b) q 0 (λ e. omega arith)

    -- ---- the place was vacant, and is held now

    module _ (sound : Sound s t) (tall : 0 < levels_in t) (is : z ≡ bytes s.minimal (levels_in t)) where
      few : s.store.chunks < nowhere
      few = omega (arith, fit.store.chunks_most_lem)

      some : z ≡ 0 → ⊥
      some e = omega (arith, bytes_pos s.minimal (levels_in t) (minimal_pos s fit))

      places_where : ((p ≡ chunk_places_in t) × (q ≡ chunk_places_in t + 1)) ⊎ ((p < chunk_places_in t) × (vacant_chunk t p ≡ true) × (q ≡ chunk_places_in t))
      places_where = inserted_where (vacant_chunk t) t.room (place_at s after_at) place_words (chunk_slab s t) s.store.chunks sound.chunks_parted few

      pub taken_low : ((p ≡ chunk_places_in t) × (q ≡ chunk_places_in t + 1)) ⊎ ((p < chunk_places_in t) × (q ≡ chunk_places_in t))
      taken_low = ⊎_elim (λ w. inl w) (λ w. inr (w.0, w.2)) places_where

      pub within_places : p < q
      within_places = ⊎_elim (λ w. omega (arith, w.0, w.1)) (λ w. omega (arith, w.0, w.1)) taken_low

      pub taken_dead : held_in t (chunk_taken s t).place ≡ false
      taken_dead = by places_where
        where
          by : ((p ≡ chunk_places_in t) × (q ≡ chunk_places_in t + 1)) ⊎ ((p < chunk_places_in t) × (vacant_chunk t p ≡ true) × (q ≡ chunk_places_in t)) → held_in t p ≡ false
          by (inl w) = rw (le-ltb p (chunk_places_in t) (omega (arith, w.0)))
          by (inr w) = and_no (ltb p (chunk_places_in t)) (not (vacant_chunk t p)) (ap not w.1)

      pub held_here : held_in chunked (chunk_taken s t).place ≡ true
      held_here = rw (places_now, size_here, lt-ltb p q within_places, ne_eqb z 0 some)

      pub held_other : (b : ℕ) → (b ≡ p → ⊥) → held_in chunked b ≡ held_in t b
      held_other b n = rw (places_now, size_other b n, lower b p (chunk_places_in t) q taken_low n)

      high_here : high_in s chunked p ≡ levels_in t
      high_here = rw (held_here) (ap (λ (x : ℕ). level_of x s.minimal) (size_here ∙ is) ∙ level_bytes s fit (levels_in t) sound.levels_most_lem)

      high_other : (b : ℕ) → (b ≡ p → ⊥) → high_in s chunked b ≡ high_in s t b
      high_other b n = rw (held_other b n, size_other b n)

      pub chunked_high : (b : ℕ) → high_in s chunked b ≡ with (high_in s t) (chunk_taken s t).place (levels_in t) b
      chunked_high b = ⊎_elim (λ e. rw (eq-eqb b p e) (ap (high_in s chunked) e ∙ high_here)) (λ n. rw (ne_eqb b p n) (high_other b n)) (same? b p)

      top_other : (b : ℕ) → (b ≡ p → ⊥) → top_in s chunked b ≡ top_in s t b
      top_other b n =
          let e = tree_other (cell_of (place_at s top_at) place_words b) (λ e. omega arith) (λ e. n (omega arith)) in
          ap (λ (x : Bool). cond x (get_or chunked.room (cell_of (place_at s top_at) place_words b) 0) 0) (held_other b n) ∙ ap (λ (w : ℕ). cond (held_in t b) w 0) e

      top_here : top_in s chunked p ≡ top_word
      top_here = ap (λ (x : Bool). cond x (get_or chunked.room top_cell 0) 0) held_here ∙ tree_top

      pub chunked_top : (b : ℕ) → top_in s chunked b ≡ with (top_in s t) (chunk_taken s t).place (2 * (pair_taken (level_from s (levels_in t - 1)) t.room).place + 2) b
      chunked_top b = ⊎_elim (λ e. rw (eq-eqb b p e) (ap (top_in s chunked) e ∙ top_here)) (λ n. rw (ne_eqb b p n) (top_other b n)) (same? b p)

      -- ---- the slab of chunk places

      vacant_now : (x : ℕ) → vacant_chunk chunked x ≡ changed (vacant_chunk t) p false x
      vacant_now x = ⊎_elim
          (λ e. ap (vacant_chunk chunked) e ∙ ap (λ (w : ℕ). eqb w 0) size_here ∙ ne_eqb z 0 some ∙ sym (changed_here (vacant_chunk t) p false x e))
          (λ n. ap (λ (w : ℕ). eqb w 0) (size_other x n) ∙ sym (changed_other (vacant_chunk t) p false x n))
          (same? x p)

      slab : (chunk_taken s t).slab ≡ chunk_slab s chunked
      slab = let a = sym places_now in let b = sym tree_vacated in (λ j. record { places = a j; vacant = b j })

      chunks_parted : Parted (vacant_chunk chunked) (chunk_after s chunked) (chunk_slab s chunked) s.store.chunks
      chunks_parted =
          let h : head_or (chunk_places_in t) sound.chunks_parted.chained < s.store.chunks = omega (arith, insert_last (vacant_chunk t) t.room (place_at s after_at) place_words (chunk_slab s t) s.store.chunks sound.chunks_parted few, room) in
          subst (λ (y : Slab). Parted (vacant_chunk chunked) (chunk_after s chunked) y s.store.chunks) slab
          (parted_same (changed (vacant_chunk t) p false) (vacant_chunk chunked) (chunk_after s t) (chunk_after s chunked) (chunk_taken s t).slab s.store.chunks (λ x g. vacant_now x)
          (λ x g. ap place_of (tree_other (cell_of (place_at s after_at) place_words x) (λ e. omega arith) (λ e. omega arith)))
          (inserted_parted (vacant_chunk t) t.room (place_at s after_at) place_words (chunk_slab s t) s.store.chunks sound.chunks_parted few h))

      -- ---- all but the trees

      chunk_sized : (b : ℕ) → held_in chunked b ≡ true → (b ≡ p) ⊎ (b ≡ p → ⊥) → (chunk_size_in chunked b ≡ bytes s.minimal (high_in s chunked b)) × (0 < high_in s chunked b) × (initial_levels s ≤ high_in s chunked b)
      chunk_sized b h (inl e) =
          subst (λ (x : ℕ). (chunk_size_in chunked x ≡ bytes s.minimal (high_in s chunked x)) × (0 < high_in s chunked x) × (initial_levels s ≤ high_in s chunked x)) (sym e)
          (size_here ∙ is ∙ ap (bytes s.minimal) (sym high_here), omega (arith, high_here), omega (arith, high_here, sound.levels_least))
      chunk_sized b h (inr n) =
          let r = sound.standing.sized b (sym (held_other b n) ∙ h) in
          let e = high_other b n in
          (size_other b n ∙ r.0 ∙ ap (bytes s.minimal) (sym e), omega (arith, e, r.1), omega (arith, e, r.2))

      differ : ((c : ℕ) → held_in t c ≡ true → memory_in t c ≡ memory → ⊥) → (a b : ℕ) → held_in chunked a ≡ true → held_in chunked b ≡ true → memory_in chunked a ≡ memory_in chunked b → a ≡ b
      differ new a b h g e = ⊎_elim
          (λ x. ⊎_elim
          (λ y. x ∙ sym y)
          (λ m. absurd (new b (sym (held_other b m) ∙ g) (sym (memory_other b m) ∙ sym e ∙ ap (memory_in chunked) x ∙ memory_here)))
          (same? b p))
          (λ n. ⊎_elim
          (λ y. absurd (new a (sym (held_other a n) ∙ h) (sym (memory_other a n) ∙ e ∙ ap (memory_in chunked) y ∙ memory_here)))
          (λ m. sound.memories_differ a b (sym (held_other a n) ∙ h) (sym (held_other b m) ∙ g) (sym (memory_other a n) ∙ e ∙ memory_other b m))
          (same? b p))
          (same? a p)

      pub chunked_kept : ((c : ℕ) → held_in t c ≡ true → memory_in t c ≡ memory → ⊥) → Kept s chunked
      chunked_kept new =
          record {
            signed =
                record {
                  head = sound.signed.head;
                  loans = sound.signed.loans;
                  chunks = chunks_mark ∙ sound.signed.chunks;
                  index = sound.signed.index;
                  room = tree_other mark_at (λ e. omega arith) (λ e. omega arith) ∙ sound.signed.room;
                };
            levels_least = sound.levels_least;
            levels_most_lem = sound.levels_most_lem;
            loans_parted = sound.loans_parted;
            chained = sound.chained;
            chunks_parted = chunks_parted;
            memories_differ = differ new;
            sizes = record { chunks = λ b h. chunk_sized b h (same? b p); loans = sound.standing.loans_sized };
            units = sound.loans_units;
          }
