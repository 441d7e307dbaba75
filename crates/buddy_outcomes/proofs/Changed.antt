-- What the tables hold after set-up, and when levels have grown: they are sound.
use mathlib.Core.Path.{◌≡◌, refl, sym, ap, ◌∙◌, subst}
use mathlib.Core.Bool.{true, false, cond}
use mathlib.Core.Logic.{⊎_elim}
use mathlib.Core.List.{List}
use Prim.Native.Nat.{ℕ, ◌+◌, ◌-◌, ◌*◌, ◌^◌, ◌≤◌, ◌<◌, zero, suc}
use native.Mathlib.Nat.{mul-suc}
use native.Mathlib.Omega.{arith}
use lib.ListN.{length, get_or, set, take, drop, length-set}
use lib.Seq.{get_or-set_same, get_or-set_other, drop-set-add, take-set-le}
use borrow.Author.Tests.{le-ltb}
use Rattle.lists.proofs.Bools.{true_false, lt_or_le}
use Rattle.words.specs.Words.{cell_of, mark_at, blank}
use Rattle.words.proofs.Filled.{blank_long, blank_mark, blank_other}
use Rattle.counter.specs.InTable.{BuddyIn}
use Rattle.counter.specs.Limits.{levels_most}
use Rattle.counter.specs.declared.settings.BuddySettings.{BuddySettings}
use Rattle.slabs.specs.Slab.{nowhere, place_of, Parted}
use Rattle.slabs.specs.declared.Slab.{Slab}
use Rattle.slabs.specs.declared.Taken.{Taken}
use Rattle.slabs.proofs.Links.{place_none}
use Rattle.slabs.proofs.Places.{parted_fresh, parted_same}
use Rattle.store_rules.specs.Loans.{loan_words}
use Rattle.book_rules.proofs.Firsts.{fresh_vacated, fresh_first}
use Rattle.book_rules.proofs.Keeps.{BookChained, BookParted, fresh_chained}
use Rattle.buddy_trees.specs.Trees.{Tree, free}
use Rattle.buddy_rules.specs.Nodes.{Ent}
use Rattle.buddy_rules.specs.Stores.{Store, grown_to}
use Rattle.buddy_rules.specs.Stores as Stores
use Rattle.buddy_rules.proofs.Made.{empty_sound, grown_sound}
use Rattle.buddy_rules.specs.Level.{level_words, header_words, ring_at, used_at, vacated_at, ring_head, pair_taken, fresh_level, part, pair_in, level_start, own_words}
use Rattle.buddy_rules.proofs.Fresh.{empty_none, empty_good, fresh_length, fresh_head_lem, fresh_taken, fresh_none, fresh_good}
use Rattle.buddy_rules.proofs.Ops.{level_ops}
use Rattle.buddy_rules.proofs.Parts.{part_length, part_word, part_head, part_taken}
use Rattle.buddy_rules.specs.Tables.{Tables, tables, Lengths, chunk_words, book_words, tree_words, levels_at, given_in, levels_in, chunk_places_in, level_from, chunks_from, place_at, top_at, place_words, loan_in, live_in, held_in, high_in, top_in, vacant_chunk, chunk_after, chunk_slab, vacant_loan, loan_after, initial_levels, marks}
use Rattle.buddy_rules.specs.Sound.{Sound}
use Rattle.buddy_rules.proofs.Abstract.{store_of, levels_in_lem, sound_store, Sizes, store_trees}
use Rattle.buddy_rules.proofs.Walks.{minimal_pos}
use Rattle.buddy_rules.proofs.Owns.{fresh_own}
use Rattle.buddy_outcomes.specs.Ask.{fresh_levels, grown_tables}
use Rattle.buddy_outcomes.specs.SetUp.{fresh_tables}
use Rattle.buddy_outcomes.proofs.Heads.{fresh_places, fresh_chunk_places}
use Rattle.buddy_outcomes.proofs.Same.{sound_levels, sound_as, Freshened, freshened, freshened_long}

pub few_pairs : (s : BuddySettings) → BuddyIn s → s.pairs ≤ 2 ^ 32
few_pairs s fit = omega (arith, fit.pairs_most_lem)

-- levels made anew leave the table's own words
pub fresh_levels_own : (s : BuddySettings) (i : ℕ) → i < own_words → (l n : ℕ) (t : List ℕ) → get_or (fresh_levels s l n t) i 0 ≡ get_or t i 0
unfolding fresh_levels
fresh_levels_own s i h l zero t = refl
fresh_levels_own s i h l (suc n) t = fresh_levels_own s i h (suc l) n (fresh_level (level_from s l) t) ∙ fresh_own (level_from s l) i (omega arith) t

-- a word past a level is none of its own
pub part_set : (s : BuddySettings) (i j v : ℕ) (t : List ℕ) → i < levels_most → chunks_from s ≤ j → part s.pairs i (set t j v) ≡ part s.pairs i t
part_set s i j v t h k =
    let m = level_words s.pairs in
    let b = level_start s.pairs i in
    let a : b + m ≤ j = omega (arith, mul-suc m i, levels_in_lem s i h) in
    let e : j ≡ b + (j - b) = omega arith in
    ap (λ (x : ℕ). take m (drop b (set t x v))) e
    ∙ ap (take m) (drop-set-add b t (j - b) v)
    ∙ take-set-le m (drop b t) (j - b) v (omega arith)

module _ (s : BuddySettings) (t : Tables) (fit : BuddyIn s) (lengths : Lengths s t) where
  abbrev small : s.pairs ≤ 2 ^ 32
  small = few_pairs s fit

  -- a level that is fresh is good, and has no pair
  fresh_part : (r : List ℕ) (i : ℕ) → length r ≡ tree_words s → i < levels_most → length (part s.pairs i r) ≡ level_words s.pairs
  fresh_part r i long h = part_length s.pairs i r (omega (arith, levels_in_lem s i h, long))

  level_good : (r : List ℕ) (i : ℕ) (v : List ℕ) → length r ≡ tree_words s → i < levels_most → v ≡ fresh_level 0 (part s.pairs i r) → (level_ops s.pairs (few_pairs s fit)).Good v
  level_good r i v long h e =
      let p : List ℕ = part s.pairs i r in
      let l : length p ≡ level_words s.pairs = fresh_part r i long h in
      rw e (fresh_length 0 p ∙ l, fresh_good 0 p (omega arith) s.pairs)

  level_none : (r : List ℕ) (i p : ℕ) (v : List ℕ) → length r ≡ tree_words s → i < levels_most → v ≡ fresh_level 0 (part s.pairs i r) → (pair_in 0 v p).tag ≡ 0
  level_none r i p v long h e =
      let l : length (part s.pairs i r) ≡ level_words s.pairs = fresh_part r i long h in
      ap (λ (w : List ℕ). (pair_in 0 w p).tag) e ∙ ap (λ (x : Ent). x.tag) (fresh_none 0 (part s.pairs i r) (omega arith) p)

  -- the tree with its mark alone: each of its levels is good, and has no pair
  abbrev blank_tree : List ℕ
  blank_tree = blank (tree_words s) marks.room 0

  blank_word : (i k : ℕ) → i < levels_most → k < header_words → get_or (part s.pairs i blank_tree) k 0 ≡ 0
  blank_word i k h j =
      part_word s.pairs i blank_tree k (omega arith)
      ∙ blank_other (tree_words s) marks.room 0 (level_start s.pairs i + k) (omega arith) (omega (arith, mul-suc (level_words s.pairs) i, levels_in_lem s i h))

  blank_good : (i : ℕ) → i < levels_most → (level_ops s.pairs (few_pairs s fit)).Good (part s.pairs i blank_tree)
  blank_good i h = (
    fresh_part blank_tree i (blank_long (tree_words s) marks.room 0) h,
    empty_good 0 (part s.pairs i blank_tree) (blank_word i ring_at h (omega arith)) (blank_word i used_at h (omega arith)) (blank_word i vacated_at h (omega arith)) s.pairs,
  )

  blank_none : (i p : ℕ) → i < levels_most → (pair_in 0 (part s.pairs i blank_tree) p).tag ≡ 0
  blank_none i p h =
      ap (λ (x : Ent). x.tag)
      (empty_none 0 (part s.pairs i blank_tree) (blank_word i ring_at h (omega arith)) (blank_word i used_at h (omega arith)) (blank_word i vacated_at h (omega arith)) p)

  -- ---- set-up

  pub fresh_lengths : Lengths s (fresh_tables s)
  unfolding fresh_tables
  fresh_lengths =
      record {
        head = refl;
        loans = blank_long (loan_words + loan_words * s.store.loans) marks.loans 0;
        chunks = blank_long (chunk_words + chunk_words * s.store.chunks) marks.chunks 0;
        index = blank_long (book_words s) marks.index _;
        room = blank_long (tree_words s) marks.room 0;
      }

  fresh_held : (c : ℕ) → held_in (fresh_tables s) c ≡ false
  fresh_held c = rw (fresh_chunk_places s, le-ltb c 0 (omega arith))

  fresh_live : (k : ℕ) → live_in (fresh_tables s) k ≡ false
  fresh_live k = rw (fresh_places s, le-ltb k 0 (omega arith))

  none_vacated : (chunk_slab s (fresh_tables s)).vacant ≡ nowhere
  unfolding fresh_tables
  none_vacated = ap place_of (blank_other (tree_words s) marks.room 0 (chunks_from s) (omega arith) (omega arith)) ∙ place_none

  module _ (few : initial_levels s ≤ levels_most) where
    fresh_store : Stores.Sound s.minimal (level_ops s.pairs small) (store_of s small (fresh_tables s)) (λ (c : ℕ). free)
    unfolding fresh_tables
    fresh_store =
        let u : Tables = fresh_tables s in
        let W : ℕ → List ℕ = λ i. part s.pairs i u.room in
        sound_as s.minimal (level_ops s.pairs small) (minimal_pos s fit)
        (record { count = initial_levels s; levels = W; loans = loan_in s u; live = λ k. false; high = λ c. 0; top = λ c. 0 })
        (store_of s small u) (λ (c : ℕ). free)
        (empty_sound s.minimal (level_ops s.pairs small) (minimal_pos s fit) (initial_levels s) W (loan_in s u)
        (λ i h. blank_good i (omega arith)) (λ i p h. blank_none i p (omega arith)))
        refl (λ i h. refl) (λ k. refl) fresh_live (λ c. rw (fresh_held c)) (λ c. rw (fresh_held c))

  pub fresh_sound : initial_levels s ≤ levels_most → Sound s (fresh_tables s)
  unfolding fresh_tables
  fresh_sound few =
      let u : Tables = fresh_tables s in
      let never : (c : ℕ) → held_in u c ≡ true → ⊥ = λ c h. true_false _ h (fresh_held c) in
      let dead : (k : ℕ) → live_in u k ≡ true → ⊥ = λ k h. true_false _ h (fresh_live k) in
      let Z : Sizes s u = record { chunks = λ c h. absurd (never c h); loans = λ k h. absurd (dead k h) } in
      let X = store_trees s small u (λ (c : ℕ). free) fit fresh_lengths (fresh_store few) Z few in
      record {
        signed =
            record {
              head = refl;
              loans = blank_mark _ marks.loans 0 (omega arith);
              chunks = blank_mark _ marks.chunks 0 (omega arith);
              index = blank_mark (book_words s) marks.index _ (omega arith);
              room = blank_mark (tree_words s) marks.room 0 (omega arith);
            };
        levels_least = omega arith;
        levels_most_lem = few;
        loans_parted =
            subst (λ (p : ℕ). BookParted u.loans u.index s.store.loans p) (sym (fresh_places s))
            (subst (λ (v : ℕ). Parted (vacant_loan u) (loan_after u) (record { places = 0; vacant = v }) s.store.loans) (sym (fresh_vacated marks.index s.store.loans (book_words s) (omega arith))) (parted_fresh (vacant_loan u) (loan_after u) s.store.loans));
        chained =
            subst (λ (p : ℕ). BookChained u.loans u.index s.store.loans p (given_in u)) (sym (fresh_places s))
            (fresh_chained u.loans u.index s.store.loans (given_in u) (fresh_first marks.index s.store.loans (book_words s) (omega arith)));
        chunks_parted =
            subst (λ (p : ℕ). Parted (vacant_chunk u) (chunk_after s u) (record { places = p; vacant = (chunk_slab s u).vacant }) s.store.chunks) (sym (fresh_chunk_places s))
            (subst (λ (v : ℕ). Parted (vacant_chunk u) (chunk_after s u) (record { places = 0; vacant = v }) s.store.chunks) (sym none_vacated) (parted_fresh (vacant_chunk u) (chunk_after s u) s.store.chunks));
        memories_differ = λ c d h. absurd (never c h);
        good = X.1;
        standing = X.0;
        loans_units = λ k h. absurd (dead k h);
      }

  -- ---- levels grow

  module _ (sound : Sound s t) where
    pub grown_lengths : (n : ℕ) → Lengths s (grown_tables s n t)
    unfolding grown_tables
    grown_lengths n =
        record {
          head = length-set t.head levels_at n ∙ lengths.head;
          loans = lengths.loans;
          chunks = lengths.chunks;
          index = lengths.index;
          room = freshened_long s (levels_in t) (n - levels_in t) t.room ∙ lengths.room;
        }

    module _ (n : ℕ) (more : levels_in t ≤ n) (most : n ≤ levels_most) where
      abbrev grown : Tables
      grown = tables (set t.head levels_at n) t.loans t.chunks t.index (fresh_levels s (levels_in t) (n - levels_in t) t.room)

      made : Freshened s (levels_in t) (n - levels_in t) t.room (fresh_levels s (levels_in t) (n - levels_in t) t.room)
      made = freshened s (levels_in t) (n - levels_in t) t.room (omega arith)

      word : (k : ℕ) → (k ≡ levels_at → ⊥) → get_or grown.head k 0 ≡ get_or t.head k 0
      word k o = get_or-set_other t.head levels_at k n 0 o

      count : levels_in grown ≡ n
      count = get_or-set_same t.head levels_at n 0 (omega (arith, lengths.head))

      top : (c : ℕ) → top_in s grown c ≡ top_in s t c
      top c = ap (λ (w : ℕ). cond (held_in t c) w 0) (made.past (cell_of (place_at s top_at) place_words c) (omega arith))

      grown_store : Stores.Sound s.minimal (level_ops s.pairs small) (store_of s small grown) (λ (c : ℕ). cond (held_in t c) (sound.standing.trees c) free)
      grown_store =
          let O = level_ops s.pairs small in
          let T : ℕ → Tree = λ c. cond (held_in t c) (sound.standing.trees c) free in
          let W : ℕ → List ℕ = λ i. part s.pairs i grown.room in
          let u : Store s.minimal O = record { count = levels_in t; levels = W; loans = loan_in s t; live = live_in t; high = high_in s t; top = top_in s t } in
          let A : Stores.Sound s.minimal O u T = sound_levels s.minimal O (minimal_pos s fit) (store_of s small t) T (sound_store s small t fit lengths sound) W (λ i h. made.below i h) in
          let fresh : (i : ℕ) → levels_in t ≤ i → i < n → W i ≡ fresh_level 0 (part s.pairs i t.room) = λ i k h. made.inside i k (omega arith) in
          let B = grown_sound s.minimal O (minimal_pos s fit) u T A n more (λ i k h. level_good t.room i (W i) lengths.room (omega arith) (fresh i k h)) (λ i p k h. level_none t.room i p (W i) lengths.room (omega arith) (fresh i k h)) in
          sound_as s.minimal O (minimal_pos s fit) (grown_to s.minimal O n u) (store_of s small grown) T B count (λ i h. refl) (λ k. refl) (λ k. refl) (λ c. refl) top

      sizes : Sizes s grown
      sizes = record { chunks = λ c h. let r = sound.standing.sized c h in (r.0, r.1, r.2); loans = sound.standing.loans_sized }

      slab : chunk_slab s t ≡ chunk_slab s grown
      slab = let b = sym (made.past (chunks_from s) (omega arith)) in (λ j. record { places = chunk_places_in t; vacant = ap place_of b j })

      grown_is_sound : Lengths s grown → Sound s grown
      grown_is_sound len =
          let X = store_trees s small grown (λ (c : ℕ). cond (held_in t c) (sound.standing.trees c) free) fit len grown_store sizes (omega (arith, count)) in
          record {
            signed =
                record {
                  head = word mark_at (λ e. omega arith) ∙ sound.signed.head;
                  loans = sound.signed.loans;
                  chunks = sound.signed.chunks;
                  index = sound.signed.index;
                  room = fresh_levels_own s mark_at (omega arith) (levels_in t) (n - levels_in t) t.room ∙ sound.signed.room;
                };
            levels_least = omega (arith, count, sound.levels_least);
            levels_most_lem = omega (arith, count);
            loans_parted = sound.loans_parted;
            chained = sound.chained;
            chunks_parted =
                subst (λ (z : Slab). Parted (vacant_chunk t) (chunk_after s grown) z s.store.chunks) slab
                (parted_same (vacant_chunk t) (vacant_chunk t) (chunk_after s t) (chunk_after s grown) (chunk_slab s t) s.store.chunks (λ x h. refl)
                (λ x h. ap place_of (made.past (cell_of (place_at s 1) place_words x) (omega arith))) sound.chunks_parted);
            memories_differ = sound.memories_differ;
            good = X.1;
            standing = X.0;
            loans_units = sound.loans_units;
          }

    pub grown_tables_sound : (n : ℕ) → levels_in t ≤ n → n ≤ levels_most → Sound s (grown_tables s n t)
    unfolding grown_tables
    grown_tables_sound n more most = grown_is_sound n more most (grown_lengths n)

    -- ---- what a grown store says

    module _ (n : ℕ) (more : levels_in t ≤ n) (most : n ≤ levels_most) where
      pub grown_count : levels_in (grown_tables s n t) ≡ n
      unfolding grown_tables
      grown_count = count n more most

      pub grown_held : (c : ℕ) → held_in (grown_tables s n t) c ≡ held_in t c
      unfolding grown_tables
      grown_held c = refl

      pub grown_slab : chunk_slab s (grown_tables s n t) ≡ chunk_slab s t
      unfolding grown_tables
      grown_slab = sym (slab n more most)

      -- a new level has no ready side
      pub grown_head : (j : ℕ) → j < n → (j < levels_in t → ring_head (level_from s j) t.room ≡ nowhere) → ring_head (level_from s j) (grown_tables s n t).room ≡ nowhere
      unfolding grown_tables
      grown_head j h f =
          let u = fresh_levels s (levels_in t) (n - levels_in t) t.room in
          part_head s.pairs j u
          ∙ ⊎_elim
          (λ k. ap (ring_head 0) ((made n more most).below j k) ∙ sym (part_head s.pairs j t.room) ∙ f k)
          (λ k. ap (ring_head 0) ((made n more most).inside j k (omega arith)) ∙ fresh_head_lem 0 (part s.pairs j t.room) (omega (arith, fresh_part t.room j lengths.room (omega arith))))
          (lt_or_le j (levels_in t))

      place_there : (j : ℕ) → j < n → (j < levels_in t → (pair_taken (level_from s j) t.room).place < s.pairs) → (pair_taken 0 (part s.pairs j (grown_tables s n t).room)).place < s.pairs
      unfolding grown_tables
      place_there j h f = ⊎_elim
          (λ k. let e : (pair_taken 0 (part s.pairs j (grown n more most).room)).place ≡ (pair_taken (level_from s j) t.room).place =
          ap (λ (x : List ℕ). (pair_taken 0 x).place) ((made n more most).below j k) ∙ sym (ap (λ (x : Taken). x.place) (part_taken s.pairs j t.room (sound.good j k))) in
          omega (arith, e, f k))
          (λ k. let e : (pair_taken 0 (part s.pairs j (grown n more most).room)).place ≡ 0 =
          ap (λ (x : List ℕ). (pair_taken 0 x).place) ((made n more most).inside j k (omega arith)) ∙ fresh_taken 0 (part s.pairs j t.room) (omega (arith, fresh_part t.room j lengths.room (omega arith))) in
          omega (arith, e, fit.pairs_some))
          (lt_or_le j (levels_in t))

      -- and all its pair places
      pub grown_place : (j : ℕ) → j < n → (j < levels_in t → (pair_taken (level_from s j) t.room).place < s.pairs) → (pair_taken (level_from s j) (grown_tables s n t).room).place < s.pairs
      grown_place j h f =
          let v = part s.pairs j (grown_tables s n t).room in
          let G = (grown_tables_sound n more most).good j (omega (arith, grown_count)) in
          let e : (pair_taken (level_from s j) (grown_tables s n t).room).place ≡ (pair_taken 0 v).place = ap (λ (x : Taken). x.place) (part_taken s.pairs j (grown_tables s n t).room G) in
          omega (arith, e, place_there j h f)
