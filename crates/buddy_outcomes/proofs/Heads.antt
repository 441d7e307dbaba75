-- The counts of a buddy store's tables after each way of writing them: set up, levels grown, a chunk placed, a loan entered, one struck out.
use mathlib.Core.Path.{◌≡◌, refl, ◌∙◌}
use mathlib.Core.Bool.{Bool, true, false, cond}
use mathlib.Core.List.{List}
use Prim.Native.Nat.{ℕ, ◌+◌, ◌-◌, ◌*◌, ◌≤◌}
use native.Mathlib.Omega.{arith}
use lib.ListN.{length, get_or, set}
use lib.Seq.{get_or-set_same, get_or-set_other}
use Rattle.words.specs.Words.{cell_of, mark_at}
use Rattle.words.proofs.Filled.{blank_other}
use Rattle.counter.specs.declared.answers.Block.{Block}
use Rattle.counter.specs.declared.settings.BuddySettings.{BuddySettings}
use Rattle.store_rules.specs.Loans.{given_at, places_at, loan_words, loan}
use Rattle.slabs.specs.Slab.{record_of}
use Rattle.book_rules.specs.Book.{taken_of, struck}
use Rattle.book_rules.proofs.Counted.{entered_given, entered_places}
use Rattle.book_rules.proofs.Owns.{struck_own}
use Rattle.buddy_rules.specs.Tables.{Tables, levels_at, chunk_places_at, chunk_words, memory_at, chunk_size_at, given_in, levels_in, places_in, chunk_places_in, level_from, chunks_from, place_at, top_at, place_words, marks}
use Rattle.buddy_rules.specs.Nodes.{split_word}
use Rattle.buddy_rules.specs.Level.{pair_taken}
use Rattle.buddy_rules.specs.Moves.{Cut}
use Rattle.buddy_outcomes.specs.Ask.{chunk_taken, grown_tables, booked_tables}
use Rattle.buddy_outcomes.specs.Deliver.{chunk_tables}
use Rattle.buddy_outcomes.specs.Return.{climb_for, given_tables}
use Rattle.buddy_outcomes.specs.SetUp.{fresh_tables}

-- ---- set-up: nothing is given, and no place used

module _ (s : BuddySettings) where
  pub fresh_given : given_in (fresh_tables s) ≡ 0
  unfolding fresh_tables
  fresh_given = blank_other (loan_words + loan_words * s.store.loans) marks.loans 0 given_at (omega arith) (omega arith)

  pub fresh_places : places_in (fresh_tables s) ≡ 0
  unfolding fresh_tables
  fresh_places = blank_other (loan_words + loan_words * s.store.loans) marks.loans 0 places_at (omega arith) (omega arith)

  pub fresh_chunk_places : chunk_places_in (fresh_tables s) ≡ 0
  unfolding fresh_tables
  fresh_chunk_places = blank_other (chunk_words + chunk_words * s.store.chunks) marks.chunks 0 chunk_places_at (omega arith) (omega arith)

-- ---- grown levels change no other word of the head, and no other count

module _ (s : BuddySettings) (n : ℕ) (t : Tables) where
  pub grown_word : (i : ℕ) → (i ≡ levels_at → ⊥) → get_or (grown_tables s n t).head i 0 ≡ get_or t.head i 0
  unfolding grown_tables
  grown_word i o = get_or-set_other t.head levels_at i n 0 o

  pub grown_given : given_in (grown_tables s n t) ≡ given_in t
  unfolding grown_tables
  grown_given = refl

  pub grown_places : places_in (grown_tables s n t) ≡ places_in t
  unfolding grown_tables
  grown_places = refl

-- ---- a chunk that is placed counts its place

module _ (s : BuddySettings) (memory z : ℕ) (t : Tables) where
  -- the chunks' mark stays
  pub chunk_mark : get_or (chunk_tables s memory z t).chunks mark_at 0 ≡ get_or t.chunks mark_at 0
  unfolding chunk_tables
  chunk_mark =
      let c = (chunk_taken s t).place in
      let one = set t.chunks chunk_places_at (chunk_taken s t).slab.places in
      get_or-set_other (set one (cell_of memory_at chunk_words c) memory) (cell_of chunk_size_at chunk_words c) mark_at z 0 (λ e. omega arith)
      ∙ get_or-set_other one (cell_of memory_at chunk_words c) mark_at memory 0 (λ e. omega arith)
      ∙ get_or-set_other t.chunks chunk_places_at mark_at (chunk_taken s t).slab.places 0 (λ e. omega arith)

  -- and so does that of the tree
  pub chunk_room_mark : get_or (chunk_tables s memory z t).room mark_at 0 ≡ get_or t.room mark_at 0
  unfolding chunk_tables
  chunk_room_mark =
      let link = record_of (chunk_taken s t).slab.vacant in
      get_or-set_other (set t.room (chunks_from s) link) (cell_of (place_at s top_at) place_words (chunk_taken s t).place) mark_at (split_word (pair_taken (level_from s (levels_in t - 1)) t.room).place) 0 (λ e. omega arith)
      ∙ get_or-set_other t.room (chunks_from s) mark_at link 0 (λ e. omega arith)

  pub chunk_counted : chunk_words ≤ length t.chunks → chunk_places_in (chunk_tables s memory z t) ≡ (chunk_taken s t).slab.places
  unfolding chunk_tables
  chunk_counted h =
      let q = (chunk_taken s t).slab.places in
      let c = (chunk_taken s t).place in
      let one = set t.chunks chunk_places_at q in
      get_or-set_other (set one (cell_of memory_at chunk_words c) memory) (cell_of chunk_size_at chunk_words c) chunk_places_at z 0 (λ e. omega arith)
      ∙ get_or-set_other one (cell_of memory_at chunk_words c) chunk_places_at memory 0 (λ e. omega arith)
      ∙ get_or-set_same t.chunks chunk_places_at q 0 (omega arith)

-- ---- a loan that is entered: one more serial was given, and the loan places are those that the slab says

module _ (s : BuddySettings) (t : Tables) (c o size : ℕ) (cut : Cut) (some : loan_words ≤ length t.loans) where
  pub booked_given : given_in (booked_tables s c o size cut t) ≡ given_in t + 1
  unfolding booked_tables
  booked_given = entered_given (places_in t) t.index (loan (given_in t + 1) c o size) t.loans some

  pub booked_places : places_in (booked_tables s c o size cut t) ≡ (taken_of (places_in t) t.index).slab.places
  unfolding booked_tables
  booked_places = entered_places (places_in t) t.index (loan (given_in t + 1) c o size) t.loans some

-- ---- a loan that is struck out, and the chunk that may go with it, leave every count

pub struck_given : (at : ℕ) (index loans : List ℕ) → get_or (struck at index loans) given_at 0 ≡ get_or loans given_at 0
struck_given at index loans = struck_own at given_at index loans (omega arith)

pub struck_places : (at : ℕ) (index loans : List ℕ) → get_or (struck at index loans) places_at 0 ≡ get_or loans places_at 0
struck_places at index loans = struck_own at places_at index loans (omega arith)

-- the chunk at place c gone, or not
pub left_chunk_places : (c : ℕ) (chunks : List ℕ) (f : Bool) → get_or (cond f (set chunks (cell_of chunk_size_at chunk_words c) 0) chunks) chunk_places_at 0 ≡ get_or chunks chunk_places_at 0
left_chunk_places c chunks true = get_or-set_other chunks (cell_of chunk_size_at chunk_words c) chunk_places_at 0 0 (λ e. omega arith)
left_chunk_places c chunks false = refl

module _ (s : BuddySettings) (b : Block) (w : ℕ) (t : Tables) where
  pub back_given : given_in (given_tables s b w t) ≡ given_in t
  unfolding given_tables
  back_given = struck_given w t.index t.loans

  pub back_places : places_in (given_tables s b w t) ≡ places_in t
  unfolding given_tables
  back_places = struck_places w t.index t.loans

  pub back_chunk_places : chunk_places_in (given_tables s b w t) ≡ chunk_places_in t
  unfolding given_tables
  back_chunk_places = left_chunk_places b.chunk t.chunks (climb_for s b w t).freed
