-- What the tables hold when a block on loan has been taken back: the store with that loan returned, which is sound.
use mathlib.Core.Path.{◌≡◌, refl, sym, ap, subst, ◌∙◌}
use mathlib.Core.Bool.{Bool, true, false, cond, not, ◌&&◌, and-false}
use mathlib.Core.Logic.{⊎_elim}
use mathlib.Core.List.{List}
use Prim.Native.Nat.{ℕ, ◌+◌, ◌-◌, ◌^◌, ◌%◌, ◌≤◌, ◌<◌}
use native.Mathlib.Omega.{arith}
use lib.Dec.{eqb, ltb}
use lib.ListN.{length, get_or, set}
use lib.Seq.{get_or-set_other}
use borrow.Author.Tests.{eq-eqb, ne_eqb, ltb-true}
use Rattle.lists.proofs.Bools.{same?, true_false, and_left, and_right, not_yes}
use Rattle.words.specs.Words.{cell_of, mark_at}
use Rattle.words.proofs.Records.{cell_row}
use Rattle.rounding_rules.specs.Raising.{level_of}
use Rattle.counter.specs.Limits.{levels_most}
use Rattle.counter.specs.InTable.{BuddyIn}
use Rattle.counter.specs.declared.answers.Block.{Block}
use Rattle.counter.specs.declared.settings.BuddySettings.{BuddySettings}
use Rattle.slabs.specs.Slab.{nowhere}
use Rattle.store_rules.specs.Loans as Loans
use Rattle.store_rules.specs.Loans.{loan_words, serial_at, size_at, offset_at}
use Rattle.store_rules.specs.declared.Loan.{Loan}
use Rattle.book_rules.specs.Book.{index_words, led_to, serial_of, word_to, struck, struck_index}
use Rattle.book_rules.proofs.Changed.{vacant_now}
use Rattle.book_rules.proofs.Columns.{struck_behind}
use Rattle.book_rules.proofs.Keeps.{BookChained, BookParted, free_in, found, struck_long, struck_wide, struck_chained, struck_parted}
use Rattle.book_rules.proofs.Owns.{struck_mark, struck_index_mark, word_past_mark}
use Rattle.buddy_trees.specs.Trees.{Tree, remove, bytes}
use Rattle.buddy_rules.specs.Nodes as Nodes
use Rattle.buddy_rules.specs.Returns.{Out}
use Rattle.buddy_rules.specs.Stores.{with, climbs, returned}
use Rattle.buddy_rules.specs.Stores as Stores
use Rattle.buddy_rules.proofs.Returned.{returned_sound}
use Rattle.buddy_rules.specs.Level.{part}
use Rattle.buddy_rules.proofs.Ops.{level_ops}
use Rattle.buddy_rules.specs.Tables.{Tables, Lengths, given_in, levels_in, places_in, chunk_places_in, memory_in, chunk_size_in, chunks_from, nodes_from, node_of_loan, loan_cell, loan_in, live_in, held_in, high_in, top_in, vacant_chunk, vacant_loan}
use Rattle.buddy_rules.specs.Sound.{Sound}
use Rattle.buddy_rules.specs.Moves.{Climbed, climbed}
use Rattle.buddy_rules.proofs.Abstract.{store_of, tree_in, sound_store, Sizes, store_trees}
use Rattle.buddy_rules.proofs.Climbing.{climbed_is}
use Rattle.buddy_rules.proofs.Walks.{minimal_pos}
use Rattle.buddy_rules.proofs.Owns.{climbed_own}
use Rattle.buddy_outcomes.specs.Return.{word_for, on_loan_ok, climb_for, given_tables}
use Rattle.buddy_outcomes.proofs.Agree.{Agree, agree_sound}
use Rattle.buddy_outcomes.proofs.Heads.{struck_given, struck_places}
use Rattle.buddy_outcomes.proofs.Loaned.{live_used, on_loan_is}
use Rattle.buddy_outcomes.proofs.Written.{OfLoan}
use Rattle.buddy_outcomes.proofs.Vacated.{Past, tables_by, part_by, tree_by, chunks_by, memory_by, still_held, high_by, top_by, parted_by, chunks_mark_by, tree_mark_by}

module _ (s : BuddySettings) (t : Tables) (fit : BuddyIn s) (lengths : Lengths s t) (sound : Sound s t) (b : Block) (on : on_loan_ok s b t ≡ true) where
  abbrev w : ℕ
  w = word_for s b t

  abbrev k : ℕ
  k = led_to t.index w

  abbrev n : ℕ
  n = s.store.loans

  abbrev c : ℕ
  c = b.chunk

  few : n < nowhere
  few = omega (arith, fit.store.loans_most_lem)

  limit : places_in t ≤ n
  limit = sound.loans_parted.limit

  -- ---- the loan that comes back

  pub live : live_in t k ≡ true
  live = (on_loan_is s t fit lengths sound b on).0

  used : (k < places_in t) × (free_in t.loans k ≡ false)
  used = live_used t k live

  pub room : k < n
  room = omega (arith, used.0, limit)

  -- the word that leads to it is one of the index
  pub word_in : w < index_words n
  word_in =
      let serial : serial_of t.loans k ≡ b.serial = cell_row t.loans serial_at loan_words k ∙ (on_loan_is s t fit lengths sound b on).1.serial in
      subst (λ (x : ℕ). word_to t.loans t.index n (places_in t) x < index_words n) serial
      (found t.loans t.index n (places_in t) (given_in t) fit.store.loans_some limit few sound.chained k used.0 used.1).0

  -- its words are the block's
  pub record Says : Type 0 where
    pub serial : serial_of t.loans k ≡ b.serial
    pub chunk : loan_cell t Loans.chunk_at k ≡ b.chunk
    pub size : loan_cell t size_at k ≡ b.size

  pub says : Says
  says =
      let r = (on_loan_is s t fit lengths sound b on).1 in
      record {
        serial = cell_row t.loans serial_at loan_words k ∙ r.serial;
        chunk = cell_row t.loans Loans.chunk_at loan_words k ∙ r.chunk;
        size = cell_row t.loans size_at loan_words k ∙ r.size;
      }

  -- its chunk is held
  pub held : held_in t b.chunk ≡ true
  held = ap (held_in t) (sym says.chunk) ∙ (sound.standing.has k live).0

  pub place : (c < chunk_places_in t) × (vacant_chunk t c ≡ false)
  place =
      let a = ltb c (chunk_places_in t) in
      let z = eqb (chunk_size_in t c) 0 in
      (ltb-true c (chunk_places_in t) (and_left a (not z) held), not_yes z (and_right a (not z) held))

  -- ---- the tables, when the chunk is released and when it is not

  abbrev r : Climbed
  r = climb_for s b w t

  abbrev loans' : List ℕ
  loans' = struck w t.index t.loans

  abbrev index' : List ℕ
  index' = struck_index w t.index

  abbrev after : Bool → Tables
  after = tables_by s t c r.room loans' index'

  -- the serials given and the loan places used are as they were
  same_given : (f : Bool) → given_in (after f) ≡ given_in t
  same_given f = struck_given w t.index t.loans

  same_places : (f : Bool) → places_in (after f) ≡ places_in t
  same_places f = struck_places w t.index t.loans

  -- its loans
  live_left : (f : Bool) (j : ℕ) → live_in (after f) j ≡ with (live_in t) k false j
  unfolding struck
  live_left f j = ap (λ (p : ℕ). ltb j p && not (vacant_loan (after f) j)) (same_places f) ∙ ap (λ (z : Bool). ltb j (places_in t) && not z) (vacant_now t.loans n k lengths.loans room j) ∙ ⊎_elim
      (λ e. rw (eq-eqb j k e) (and-false (ltb j (places_in t))))
      (λ o. rw (ne_eqb j k o) refl)
      (same? j k)

  -- one that is still on loan is another, and was on loan
  still : (j : ℕ) → with (live_in t) k false j ≡ true → (j ≡ k → ⊥) × (live_in t j ≡ true)
  still j h =
      let o : j ≡ k → ⊥ = λ e. true_false false (rw (eq-eqb j k e) at h) refl in
      (o, rw (ne_eqb j k o) at h)

  still_live : (f : Bool) (j : ℕ) → live_in (after f) j ≡ true → (j ≡ k → ⊥) × (live_in t j ≡ true)
  still_live f j h = still j (sym (live_left f j) ∙ h)

  cell_left : (g : Bool) (f j : ℕ) → OfLoan f → (j ≡ k → ⊥) → loan_cell (after g) f j ≡ loan_cell t f j
  unfolding struck
  cell_left g f j h o =
      get_or-set_other (set t.loans (cell_of size_at loan_words k) 0) (cell_of serial_at loan_words k) (cell_of f loan_words j) 0 0 (λ e. o (omega (arith, h.0, h.1)))
      ∙ get_or-set_other t.loans (cell_of size_at loan_words k) (cell_of f loan_words j) 0 0 (λ e. o (omega (arith, h.0, h.1)))

  after_chained : BookChained loans' index' n (places_in t) (given_in t)
  after_chained =
      subst (λ (x : ℕ). BookChained (struck (word_to t.loans t.index n (places_in t) x) t.index t.loans) (struck_index (word_to t.loans t.index n (places_in t) x) t.index) n (places_in t) (given_in t)) says.serial
      (struck_chained t.loans t.index n (places_in t) (given_in t) fit.store.loans_some limit few sound.chained k used.0 used.1 lengths.loans (omega (arith, lengths.index)))

  after_parted : BookParted loans' index' n (places_in t)
  after_parted =
      subst (λ (x : ℕ). BookParted (struck (word_to t.loans t.index n (places_in t) x) t.index t.loans) (struck_index (word_to t.loans t.index n (places_in t) x) t.index) n (places_in t)) says.serial
      (struck_parted t.loans t.index n (places_in t) (given_in t) fit.store.loans_some limit few sound.chained k used.0 used.1 lengths.loans (omega (arith, lengths.index)) sound.loans_parted)

  module _ (small : s.pairs ≤ 2 ^ 32) where
    -- ---- the climb in words and that of the store which the tables hold

    abbrev q : Out (level_ops s.pairs small)
    q = climbs s.minimal (level_ops s.pairs small) (store_of s small t) k

    record Climbs (x : Climbed) : Type 0 where
      freed : x.freed ≡ q.freed
      levels : (i : ℕ) → i < levels_most → part s.pairs i x.room ≡ q.levels i
      same : (i : ℕ) → chunks_from s ≤ i → get_or x.room i 0 ≡ get_or t.room i 0
      long : length x.room ≡ length t.room

    climb_is : Climbs r
    climb_is =
        let z = climbed_is s small t fit lengths sound k live in
        subst (λ (y : ℕ). Climbs (climbed s.pairs (levels_in t - level_of y s.minimal) (level_of y s.minimal) (node_of_loan s t k) t.room)) says.size
        (record { freed = z.0; levels = z.1; same = z.2; long = z.3 })

    past : Past s t c r.room
    past = record { same = climb_is.same; long = climb_is.long; inside = omega (arith, place.0, sound.chunks_parted.limit) }

    after_lengths : (f : Bool) → Lengths s (after f)
    after_lengths f = record {
      head = lengths.head;
      loans = struck_long w t.index t.loans ∙ lengths.loans;
      chunks = chunks_by s t c r.room loans' index' lengths past f ∙ lengths.chunks;
      index = struck_wide w t.index ∙ lengths.index;
      room = tree_by s t c r.room loans' index' lengths past f ∙ lengths.room;
    }

    loan_left : (f : Bool) (j : ℕ) → (j ≡ k → ⊥) → loan_in s (after f) j ≡ loan_in s t j
    loan_left f j o =
        let chunk = cell_left f Loans.chunk_at j (omega arith) o in
        let at = cell_left f offset_at j (omega arith) o in
        let size = cell_left f size_at j (omega arith) o in
        let node = struck_behind n t.index (nodes_from s + (j + 1)) (omega arith) w word_in room in
        (λ i. record { chunk = chunk i; at = at i; lev = level_of (size i) s.minimal; node = node i })

    -- ---- the store that the tables hold is the one with the loan returned

    agrees : (f : Bool) → r.freed ≡ f → Agree s.minimal (level_ops s.pairs small) (returned s.minimal (level_ops s.pairs small) (store_of s small t) k) (store_of s small (after f))
    unfolding returned
    agrees f e =
        let g : f ≡ q.freed = sym e ∙ climb_is.freed in
        let chunk : c ≡ (loan_in s t k).chunk = sym says.chunk in
        let by : (h : ℕ → ℕ) (x : ℕ) → with h c (cond f 0 (h c)) x ≡ with h (loan_in s t k).chunk (cond q.freed 0 (h (loan_in s t k).chunk)) x = λ h x.
        ap (λ (z : Bool). with h c (cond z 0 (h c)) x) g ∙ ap (λ (y : ℕ). with h y (cond q.freed 0 (h y)) x) chunk in
        record {
          count = refl;
          levels = λ i h.
              let m : i < levels_most = omega (arith, sound.levels_most_lem) in
              part_by s t c r.room loans' index' lengths past f i m ∙ climb_is.levels i m;
          loans = λ j h. loan_left f j (still j h).0;
          live = live_left f;
          high = λ x. high_by s t c r.room loans' index' lengths past f x ∙ by (high_in s t) x;
          top = λ x. top_by s t c r.room loans' index' lengths past f x ∙ by (top_in s t) x;
        }

    abbrev trees : ℕ → Tree
    trees x = remove k (tree_in t sound.standing.trees x)

    -- so it is sound
    store_sound : (f : Bool) → r.freed ≡ f → Stores.Sound s.minimal (level_ops s.pairs small) (store_of s small (after f)) trees
    store_sound f e =
        let u = s.minimal in
        let O = level_ops s.pairs small in
        let o = minimal_pos s fit in
        agree_sound u O o (returned u O (store_of s small t) k) (store_of s small (after f)) trees
        (returned_sound u O o (store_of s small t) (tree_in t sound.standing.trees) (sound_store s small t fit lengths sound) k live)
        (agrees f e)

    sizes : (f : Bool) → Sizes s (after f)
    sizes f = record {
      chunks = λ x h.
          let z = still_held s t c r.room loans' index' lengths past f x h in
          let y = sound.standing.sized x z.0 in
          (z.1 ∙ y.0 ∙ ap (bytes s.minimal) (sym z.2), rw z.2 y.1, rw z.2 y.2);
      loans = λ j h.
          let z = still_live f j h in
          cell_left f size_at j (omega arith) z.0 ∙ sound.standing.loans_sized j z.1 ∙ ap (λ (d : Nodes.Loan). bytes s.minimal d.lev) (sym (loan_left f j z.0));
    }

    after_sound : (f : Bool) → r.freed ≡ f → Sound s (after f)
    after_sound f e =
        let T = store_trees s small (after f) trees fit (after_lengths f) (store_sound f e) (sizes f) sound.levels_most_lem in
        let memory = memory_by s t c r.room loans' index' lengths past f in
        let was : (x : ℕ) → held_in (after f) x ≡ true → held_in t x ≡ true = λ x h. (still_held s t c r.room loans' index' lengths past f x h).0 in
        record {
          signed =
              record {
                head = sound.signed.head;
                loans = struck_mark (word_for s b t) t.index t.loans ∙ sound.signed.loans;
                chunks = chunks_mark_by s t c r.room loans' index' f ∙ sound.signed.chunks;
                index = struck_index_mark (word_for s b t) t.index (word_past_mark t.loans t.index n (places_in t) b.serial) ∙ sound.signed.index;
                room = tree_mark_by s t c r.room loans' index' f ∙ climbed_own s.pairs mark_at (omega arith) _ _ _ t.room ∙ sound.signed.room;
              };
          levels_least = sound.levels_least;
          levels_most_lem = sound.levels_most_lem;
          loans_parted = subst (λ (p : ℕ). BookParted loans' index' n p) (sym (same_places f)) after_parted;
          chained =
              subst (λ (p : ℕ). BookChained loans' index' n p (given_in (after f))) (sym (same_places f))
              (subst (λ (g : ℕ). BookChained loans' index' n (places_in t) g) (sym (same_given f)) after_chained);
          chunks_parted = parted_by s t c r.room loans' index' lengths past f place.0 place.1 sound.chunks_parted;
          memories_differ = λ x y h g m. sound.memories_differ x y (was x h) (was y g) (sym (memory x) ∙ m ∙ memory y);
          good = T.1;
          standing = T.0;
          loans_units = λ j h.
              let z = still_live f j h in
              let u = sound.loans_units j z.1 in
              let unit : ℕ → ℕ = λ d. d % (s.store.atom + 1) in
              (ap unit (cell_left f offset_at j (omega arith) z.0) ∙ u.0, ap unit (cell_left f size_at j (omega arith) z.0) ∙ u.1);
        }

  few_pairs : s.pairs ≤ 2 ^ 32
  few_pairs = omega (arith, fit.pairs_most_lem)

  pub given_lengths : Lengths s (given_tables s b (word_for s b t) t)
  unfolding given_tables
  given_lengths = after_lengths few_pairs r.freed

  pub given_sound : Sound s (given_tables s b (word_for s b t) t)
  unfolding given_tables
  given_sound = after_sound few_pairs r.freed refl

  -- a chunk that is held still was so, and is as long as it was
  pub given_held : (x : ℕ) → held_in (given_tables s b (word_for s b t) t) x ≡ true → (held_in t x ≡ true) × (chunk_size_in (given_tables s b (word_for s b t) t) x ≡ chunk_size_in t x)
  unfolding given_tables
  given_held x h = let z = still_held s t c r.room loans' index' lengths (past few_pairs) r.freed x h in (z.0, z.1)

  -- a loan that is left is another, and was on loan, and its words are as they were
  pub given_live : (j : ℕ) → live_in (given_tables s b (word_for s b t) t) j ≡ true → (j ≡ led_to t.index (word_for s b t) → ⊥) × (live_in t j ≡ true)
  unfolding given_tables
  given_live j h = still_live r.freed j h

  pub given_cell : (f j : ℕ) → OfLoan f → (j ≡ led_to t.index (word_for s b t) → ⊥) → loan_cell (given_tables s b (word_for s b t) t) f j ≡ loan_cell t f j
  unfolding given_tables
  given_cell f j h o = cell_left r.freed f j h o

  -- memory numbers stay as they were
  pub given_memory : (x : ℕ) → memory_in (given_tables s b (word_for s b t) t) x ≡ memory_in t x
  unfolding given_tables
  given_memory x = memory_by s t c r.room loans' index' lengths (past few_pairs) r.freed x
