-- A chunk added, and its left end lent, leave the tables as they are defined.
use mathlib.Core.Path.{◌≡◌, sym, ap, subst, ◌∙◌}
use mathlib.Core.List.{List, []}
use Prim.Native.Nat.{ℕ, ◌+◌, ◌-◌, ◌≤◌, ◌<◌}
use native.Mathlib.Omega.{arith}
use lib.ListN.{length, get_or, set}
use Rattle.words.specs.Words.{cell_of}
use Rattle.counter.specs.Limits.{levels_most}
use Rattle.counter.specs.declared.settings.BuddySettings.{BuddySettings}
use Rattle.slabs.specs.Slab.{record_of}
use Rattle.slabs.specs.declared.Taken.{Taken}
use Rattle.store_rules.specs.Loans.{given_at, places_at, loan}
use Rattle.book_rules.specs.Book.{taken_of}
use Rattle.buddy_rules.specs.Nodes.{split_word}
use Rattle.buddy_rules.specs.Level.{pair_taken, level_start}
use Rattle.buddy_rules.specs.Tables.{Tables, tables, levels_at, chunk_places_at, chunk_words, memory_at, chunk_size_at, level_from, chunks_from, place_at, top_at, place_words}
use Rattle.buddy_rules.specs.Moves.{Cut, split_chunk}
use Rattle.buddy_levels.specs.Seen.{part_settings}
use Rattle.buddy_levels.specs.Stands.{Takes}
use Rattle.buddy_levels.proofs.Standing.{taken_takes}
use Rattle.buddy_moves.proofs.Moved.{in_level}
use Rattle.buddy_outcomes.specs.Ask.{chunk_taken, booked_tables}
use Rattle.buddy_outcomes.specs.Deliver.{chunk_tables, served_tables}

module _ (pairs at : ℕ) (e : at ≡ level_start pairs levels_most) (tree : List ℕ) where
  -- the words of a chunk place in the tree
  pub top_done : (c p w vacant v : ℕ) (t₁ t' : List ℕ) → v ≡ record_of vacant → t₁ ≡ set tree at v → w ≡ split_word p → t' ≡ set t₁ (cell_of (at + (place_words + top_at)) place_words c) w
      → t' ≡ set (set tree (chunks_from (part_settings 0 pairs 0)) (record_of vacant)) (cell_of (place_at (part_settings 0 pairs 0) top_at) place_words c) (split_word p)
  top_done c p w vacant v t₁ t' k f h g =
      g ∙ (λ j. set (f j) (cell_of (at + (place_words + top_at)) place_words c) (h j)) ∙ (λ j. set (set tree (e j) (k j)) (cell_of (e j + (place_words + top_at)) place_words c) (split_word p))

module _ (s : BuddySettings) (head tree : List ℕ) where
  -- the top level's words are there
  pub top_takes : (levels : ℕ) → levels ≡ get_or head levels_at 0 → (b : ℕ) → b ≡ level_start s.pairs (levels - 1) → 0 < get_or head levels_at 0 → get_or head levels_at 0 ≤ levels_most
      → (pair_taken (level_from s (get_or head levels_at 0 - 1)) tree).place < s.pairs → chunks_from s ≤ length tree → Takes b tree
  top_takes levels top b at o h p long =
      let e : b ≡ level_from s (get_or head levels_at 0 - 1) = at ∙ ap (λ (x : ℕ). level_start s.pairs (x - 1)) top in
      let q : (pair_taken b tree).place < s.pairs = rw e p in
      taken_takes b tree (omega (arith, in_level s.pairs (get_or head levels_at 0 - 1) (pair_taken b tree).place (omega (arith, o, h)) q, e, long))

  module _ (levels : ℕ) (top : levels ≡ get_or head levels_at 0) (b : ℕ) (at : b ≡ level_start s.pairs (levels - 1)) (p : Taken) (next : p ≡ pair_taken b tree) where
    top_is : p ≡ pair_taken (level_from s (get_or head levels_at 0 - 1)) tree
    top_is = next ∙ ap (λ (x : ℕ). pair_taken x tree) (at ∙ ap (λ (x : ℕ). level_start s.pairs (x - 1)) top)

    pub top_low : (pair_taken (level_from s (get_or head levels_at 0 - 1)) tree).place < s.pairs → p.place < s.pairs
    top_low h = let q : p.place ≡ (pair_taken (level_from s (get_or head levels_at 0 - 1)) tree).place = ap (λ (x : Taken). x.place) top_is in rw q h

    module _ (c : Taken) (chunks : List ℕ) (taken : c ≡ chunk_taken s (tables head [] chunks [] tree)) where
      abbrev after : ℕ → ℕ → Taken → Taken → Tables
      after memory bytes c p =
          tables
          head
          []
          (set (set (set chunks chunk_places_at c.slab.places) (cell_of memory_at chunk_words c.place) memory) (cell_of chunk_size_at chunk_words c.place) bytes)
          []
          (set (set tree (chunks_from s) (record_of c.slab.vacant)) (cell_of (place_at s top_at) place_words c.place) (split_word p.place))

      pub chunk_done : (memory bytes : ℕ) (c' t' : List ℕ)
          → c' ≡ set (set (set chunks chunk_places_at c.slab.places) (cell_of memory_at chunk_words c.place) memory) (cell_of chunk_size_at chunk_words c.place) bytes
          → t' ≡ set (set tree (chunks_from (part_settings 0 s.pairs 0)) (record_of c.slab.vacant)) (cell_of (place_at (part_settings 0 s.pairs 0) top_at) place_words c.place) (split_word p.place)
          → tables head [] c' [] t' ≡ chunk_tables s memory bytes (tables head [] chunks [] tree)
      unfolding chunk_tables
      chunk_done memory bytes c' t' f g = (λ j. tables head [] (f j) [] (g j)) ∙ (λ j. after memory bytes (taken j) (top_is j))

-- ---- when the chunk is there

module _ (s : BuddySettings) (memory bytes : ℕ) (head loans chunks index tree c₁ t₁ : List ℕ) (more : tables head [] c₁ [] t₁ ≡ chunk_tables s memory bytes (tables head [] chunks [] tree)) where
  abbrev pub Before : Tables
  Before = tables head loans chunks index tree

  now_is : tables head loans c₁ index t₁ ≡ chunk_tables s memory bytes Before
  unfolding chunk_tables
  now_is = λ j. tables head loans (more j).chunks index (more j).room

  module _ (levels : ℕ) (top : levels ≡ get_or head levels_at 0) (c : ℕ) (taken : c ≡ (chunk_taken s (tables head [] chunks [] tree)).place) (level : ℕ) where
    -- what was shown of the tables with the chunk holds of what the code has
    pub still : (P : ℕ → ℕ → List ℕ → Type 0) → P (chunk_taken s Before).place (get_or head levels_at 0) (chunk_tables s memory bytes Before).room → P c levels t₁
    still P r =
        subst (λ (x : ℕ). P x levels t₁) (sym taken)
        (subst (λ (n : ℕ). P (chunk_taken s Before).place n t₁) (sym top)
        (subst (λ (t : Tables). P (chunk_taken s Before).place (get_or head levels_at 0) t.room) (sym now_is) r))

    -- the loan of its left end
    pub loan_done : (size g : ℕ) → g ≡ get_or loans given_at 0 → loan (g + 1) c 0 size ≡ loan (get_or loans given_at 0 + 1) (chunk_taken s (tables head [] chunks [] tree)).place 0 size
    loan_done size g e = λ j. loan (e j + 1) (taken j) 0 size

    module _ (k : Taken) (next : k ≡ taken_of (get_or loans places_at 0) index) where
      abbrev cut_by : ℕ → ℕ → ℕ → List ℕ → Cut
      cut_by x p n t = split_chunk s.pairs level x p (n - level - 1) t

      pub served_done : (size n : ℕ) (l' i' t' : List ℕ) → n ≡ (cut_by c k.place levels t₁).node → t' ≡ (cut_by c k.place levels t₁).room
          → tables head l' [] i' t' ≡ booked_tables s c 0 size (record { node = n; room = t' }) (tables head loans [] index [])
          → tables head l' c₁ i' t' ≡ served_tables s size level memory bytes Before
      unfolding booked_tables served_tables
      served_done size n l' i' t' a b d =
          (λ j. tables head (d j).loans c₁ (d j).index (d j).room)
          ∙ (λ j. booked_tables s c 0 size (record { node = a j; room = b j }) (tables head loans c₁ index t₁))
          ∙ (λ j. booked_tables s (taken j) 0 size (cut_by (taken j) (next j).place (top j) (now_is j).room) (now_is j))
