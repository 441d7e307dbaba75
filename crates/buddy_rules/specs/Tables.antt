-- A buddy store in its five lent tables. head, loans and chunks are the truth; index and tree are what can be made again
-- from them.
use Rattle.std.specs.Prelude.{◌≡◌, Bool, cond, ◌&&◌, not, List, [], ◌∷◌, ◌++◌, ℕ, zero, suc, ◌+◌, ◌*◌, eqb, ltb, length, get_or}
use Rattle.lists.specs.Tests.{all}
use Rattle.words.specs.Words.{cell_of}
use Rattle.rounding_rules.specs.Raising.{level_of}
use Rattle.counter.specs.Limits.{levels_most}
use Rattle.counter.specs.declared.settings.BuddySettings.{BuddySettings}
use Rattle.slabs.specs.Slab.{place_of, vacant_at, link_at}
use Rattle.slabs.specs.declared.Slab.{Slab}
use Rattle.store_rules.specs.Loans.{given_at, places_at, loan_words, chunk_at, offset_at, size_at}
pub use Rattle.store_rules.specs.Tables.{Tables, tables, Marks, Signed, signed_ok}
use Rattle.book_rules.specs.Book.{index_words, entry_words, vacant_after_at, slab_of, first_in, next_in}
use Rattle.buddy_rules.specs.Nodes.{Ent, Loan}
use Rattle.buddy_rules.specs.Level.{level_start, pair_in}

-- ---- marks

-- "budd" and what the table is, in ASCII: head, loan, chnk, indx, room
abbrev pub marks : Marks
marks =
    record {
      head = 0x6275_6464_6865_6164;
      loans = 0x6275_6464_6c6f_616e;
      chunks = 0x6275_6464_6368_6e6b;
      index = 0x6275_6464_696e_6478;
      room = 0x6275_6464_726f_6f6d;
    }

-- ---- head: its mark, and the levels now

abbrev pub levels_at : ℕ
levels_at = 1

abbrev pub head_words : ℕ
head_words = 2

abbrev pub levels_in : Tables → ℕ
levels_in t = get_or t.head levels_at 0

-- ---- the counts of loans stand with the loans; with the chunks, behind their mark, the chunk places ever used

abbrev pub chunk_places_at : ℕ
chunk_places_at = 1

abbrev pub given_in : Tables → ℕ
given_in t = get_or t.loans given_at 0

abbrev pub places_in : Tables → ℕ
places_in t = get_or t.loans places_at 0

abbrev pub chunk_places_in : Tables → ℕ
chunk_places_in t = get_or t.chunks chunk_places_at 0

-- ---- chunks: memory number and size in bytes, 0 at a vacant place; those of place 0 stand behind the table's own record

abbrev pub chunk_words : ℕ
chunk_words = 2

abbrev pub memory_at : ℕ
memory_at = 2

abbrev pub chunk_size_at : ℕ
chunk_size_at = 3

abbrev pub memory_in : Tables → ℕ → ℕ
memory_in t c = get_or t.chunks (cell_of memory_at chunk_words c) 0

abbrev pub chunk_size_in : Tables → ℕ → ℕ
chunk_size_in t c = get_or t.chunks (cell_of chunk_size_at chunk_words c) 0

-- ---- index: the book's entries, and behind them a column of the loans' nodes, a word for each record of the loans

abbrev pub nodes_from : BuddySettings → ℕ
nodes_from s = index_words s.store.loans

-- how many words the index takes
abbrev pub columns : ℕ
columns = 1

abbrev pub book_words : BuddySettings → ℕ
book_words s = index_words s.store.loans + columns * (s.store.loans + 1)

-- ---- tree, in records of eight words: the table's own; the levels one after the other; of the chunk places first their own, which
-- begins with the place vacated last, then for each its top node's word and the vacant place after it

abbrev pub level_from : BuddySettings → ℕ → ℕ
level_from s l = level_start s.pairs l

abbrev pub chunks_from : BuddySettings → ℕ
chunks_from s = level_start s.pairs levels_most

abbrev pub place_words : ℕ
place_words = 8

abbrev pub top_at : ℕ
top_at = 0

abbrev pub after_at : ℕ
after_at = 1

abbrev pub place_at : BuddySettings → ℕ → ℕ
place_at s f = chunks_from s + (place_words + f)

abbrev pub tree_words : BuddySettings → ℕ
tree_words s = chunks_from s + (place_words + place_words * s.store.chunks)

-- ---- 1: "a lent table of the wrong length"

abbrev pub lengths_row : BuddySettings → Tables → List Bool
lengths_row s t =
    eqb (length t.head) head_words
    ∷ eqb (length t.loans) (loan_words + loan_words * s.store.loans)
    ∷ eqb (length t.chunks) (chunk_words + chunk_words * s.store.chunks)
    ∷ eqb (length t.index) (book_words s)
    ∷ eqb (length t.room) (tree_words s)
    ∷ []

unfoldable pub lengths_ok : BuddySettings → Tables → Bool
lengths_ok s t = all (lengths_row s t)

pub record Lengths (s : BuddySettings) (t : Tables) : Type 0 where
  pub head : length t.head ≡ head_words
  pub loans : length t.loans ≡ loan_words + loan_words * s.store.loans
  pub chunks : length t.chunks ≡ chunk_words + chunk_words * s.store.chunks
  pub index : length t.index ≡ book_words s
  pub room : length t.room ≡ tree_words s

-- ---- what they say

-- the pairs of each level
abbrev pub pairs_in : BuddySettings → Tables → ℕ → ℕ → Ent
pairs_in s t l p = pair_in (level_from s l) t.room p

-- the loan at a place, and whether there is one
abbrev pub loan_cell : Tables → ℕ → ℕ → ℕ
loan_cell t f k = get_or t.loans (cell_of f loan_words k) 0

-- the node of the loan at a place, whose record is the next
abbrev pub node_of_loan : BuddySettings → Tables → ℕ → ℕ
node_of_loan s t k = get_or t.index (nodes_from s + (k + 1)) 0

abbrev pub loan_in : BuddySettings → Tables → ℕ → Loan
loan_in s t k =
    record {
      chunk = loan_cell t chunk_at k;
      at = loan_cell t offset_at k;
      lev = level_of (loan_cell t size_at k) s.minimal;
      node = node_of_loan s t k;
    }

abbrev pub live_in : Tables → ℕ → Bool
live_in t k = ltb k (places_in t) && not (eqb (loan_cell t size_at k) 0)

-- the chunk at a place: whether there is one, how high its top node is, and that node's word
abbrev pub held_in : Tables → ℕ → Bool
held_in t c = ltb c (chunk_places_in t) && not (eqb (chunk_size_in t c) 0)

abbrev pub high_in : BuddySettings → Tables → ℕ → ℕ
high_in s t c = cond (held_in t c) (level_of (chunk_size_in t c) s.minimal) 0

abbrev pub top_in : BuddySettings → Tables → ℕ → ℕ
top_in s t c = cond (held_in t c) (get_or t.room (cell_of (place_at s top_at) place_words c) 0) 0

-- the memory numbers of the chunks at the first n places
unfoldable pub memories : Tables → ℕ → List ℕ
memories t zero = []
memories t (suc n) = memories t n ++ cond (held_in t n) (memory_in t n ∷ []) []

-- the slab of chunk places
abbrev pub vacant_chunk : Tables → ℕ → Bool
vacant_chunk t = vacant_at t.chunks chunk_size_at chunk_words

abbrev pub chunk_after : BuddySettings → Tables → ℕ → ℕ
chunk_after s t = link_at t.room (place_at s after_at) place_words

abbrev pub chunk_slab : BuddySettings → Tables → Slab
chunk_slab s t = record { places = chunk_places_in t; vacant = place_of (get_or t.room (chunks_from s) 0) }

-- the book of loans
abbrev pub vacant_loan : Tables → ℕ → Bool
vacant_loan t = vacant_at t.loans size_at loan_words

abbrev pub loan_after : Tables → ℕ → ℕ
loan_after t = link_at t.index vacant_after_at entry_words

abbrev pub loan_slab : Tables → Slab
loan_slab t = slab_of (places_in t) t.index

abbrev pub chain_start : Tables → ℕ → ℕ
chain_start t = first_in t.index

abbrev pub chain_next : Tables → ℕ → ℕ
chain_next t = next_in t.index

-- 01: "Initial levels: zeros of the initial size less those of minimal, not below 0"
abbrev pub initial_levels : BuddySettings → ℕ
initial_levels s = level_of s.initial s.minimal
