-- A free-list store in its five lent tables. head, loans and chunks are the truth; regions and index are what can be made
-- again from them.
use Rattle.std.specs.Prelude.{◌≡◌, Bool, ◌&&◌, List, [], ◌∷◌, map, ℕ, ◌+◌, ◌-◌, ◌*◌, ◌≤◌, eqb, leb, length, get_or, set}
use Rattle.lists.specs.Tests.{all}
use Rattle.words.specs.Rows.{rows, laid}
use Rattle.counter.specs.InTable.{FreeListIn}
use Rattle.counter.specs.declared.settings.FreeListSettings.{FreeListSettings}
use Rattle.slabs.specs.Slab.{vacant_at, link_at, Parted}
use Rattle.slabs.specs.Test.{vacancies, parted_ok}
use Rattle.store_rules.specs.Loans.{given_at, places_at, loan_words, size_at, loans_of}
pub use Rattle.store_rules.specs.Tables.{Tables, tables, Marks, Signed, signed_ok}
use Rattle.store_rules.specs.declared.Loan.{Loan}
use Rattle.book_rules.specs.Book.{entry_words, vacant_after_at, serial_of, slab_of, first_in, next_in}
use Rattle.book_rules.specs.Chains.{Chained, chains_ok}
use Rattle.freelist_rules.specs.declared.Gap.{Gap}
use Rattle.freelist_rules.specs.Records.{Store, chunk_words, region_words, chunk_row, gap_row}
use Rattle.freelist_rules.specs.Sound.{Sound}
use Rattle.freelist_rules.specs.Walk.{all_ok, sized_ok, numbers_rise, chunk_ok, loan_ok, fills_ok, apart, memories}
use Rattle.freelist_rules.specs.Place.{put_loan}
use Rattle.freelist_rules.specs.Threads.{thread_words, after_in, before_in, loan_by, Threaded, free_of, Fronts, wholes, followed, leads_ok, fronts_ok}
use Rattle.store_rules.specs.declared.Chunk.{Chunk}
use Rattle.store_rules.specs.declared.Region.{Region}

-- ---- marks

-- "list" and what the table is, in ASCII: head, loan, chnk, indx, room
abbrev pub marks : Marks
marks =
    record {
      head = 0x6c69_7374_6865_6164;
      loans = 0x6c69_7374_6c6f_616e;
      chunks = 0x6c69_7374_6368_6e6b;
      index = 0x6c69_7374_696e_6478;
      room = 0x6c69_7374_726f_6f6d;
    }

-- ---- head: its mark, and the chunk size now

abbrev pub chunk_size_at : ℕ
chunk_size_at = 1

abbrev pub head_words : ℕ
head_words = 2

-- ---- the chunks' own record, behind its mark: chunk numbers given, and chunks held

abbrev pub made_at : ℕ
made_at = 1

abbrev pub chunks_at : ℕ
chunks_at = 2

-- ---- the regions' own record: how many there are, and how many of them are all of their chunk

abbrev pub region_count_at : ℕ
region_count_at = 1

abbrev pub whole_at : ℕ
whole_at = 2

-- ---- lengths: "free-list regions: loans + chunks, so a return always has room"

abbrev pub regions_most : FreeListSettings → ℕ
regions_most s = s.store.loans + s.store.chunks

abbrev pub room_words : FreeListSettings → ℕ
room_words s = region_words + region_words * regions_most s

abbrev pub lengths_row : FreeListSettings → Tables → List Bool
lengths_row s t =
    eqb (length t.head) head_words
    ∷ eqb (length t.loans) (loan_words + loan_words * s.store.loans)
    ∷ eqb (length t.chunks) (chunk_words + chunk_words * s.store.chunks)
    ∷ eqb (length t.index) (thread_words s.store.loans)
    ∷ eqb (length t.room) (room_words s)
    ∷ []

unfoldable pub lengths_ok : FreeListSettings → Tables → Bool
lengths_ok s t = all (lengths_row s t)

-- the same as facts
pub record Lengths (s : FreeListSettings) (t : Tables) : Type 0 where
  pub head : length t.head ≡ head_words
  pub loans : length t.loans ≡ loan_words + loan_words * s.store.loans
  pub chunks : length t.chunks ≡ chunk_words + chunk_words * s.store.chunks
  pub index : length t.index ≡ thread_words s.store.loans
  pub room : length t.room ≡ room_words s

-- ---- the store that the tables hold

-- the counts of loans stand with the loans, those of chunks with the chunks
abbrev pub given_in : Tables → ℕ
given_in t = get_or t.loans given_at 0

abbrev pub places_in : Tables → ℕ
places_in t = get_or t.loans places_at 0

abbrev pub made_in : Tables → ℕ
made_in t = get_or t.chunks made_at 0

abbrev pub chunks_in : Tables → ℕ
chunks_in t = get_or t.chunks chunks_at 0

abbrev pub regions_in : Tables → ℕ
regions_in t = get_or t.room region_count_at 0

abbrev pub whole_in : Tables → ℕ
whole_in t = get_or t.room whole_at 0

-- the free regions with the loans in front of them
abbrev pub gaps_in : Tables → List Gap
gaps_in t = rows gap_row (regions_in t) t.room

-- loans put in order by chunk and place
unfoldable pub ordered : List Loan → List Loan
ordered [] = []
ordered (l ∷ ls) = put_loan l (ordered ls)

unfoldable pub store_of : FreeListSettings → Tables → Store
store_of s t =
    record {
      given = given_in t;
      made = made_in t;
      size = get_or t.head chunk_size_at 0;
      loans = ordered (loans_of (places_in t) t.loans);
      chunks = rows chunk_row (chunks_in t) t.chunks;
      regions = free_of (gaps_in t);
    }

-- ---- soundness of the tables

-- which places are vacant, and how the index leads from place to place
abbrev pub vacant_in : Tables → ℕ → Bool
vacant_in t = vacant_at t.loans size_at loan_words

abbrev pub vacant_after_in : Tables → ℕ → ℕ
vacant_after_in t = link_at t.index vacant_after_at entry_words

abbrev pub chain_start : Tables → ℕ → ℕ
chain_start t = first_in t.index

abbrev pub chain_next : Tables → ℕ → ℕ
chain_next t = next_in t.index

-- the marks; the counts within the limits; "vacant chains agree": the loans' places are parted into used and vacant ones,
-- and the index leads to each loan by its serial; and the store is sound. The index leads through the loans by place too, each free
-- region names the loan in front of it, and those that are all of their chunk are counted
pub record SoundTables (s : FreeListSettings) (t : Tables) : Type 0 where
  pub signed : Signed marks t
  pub chunks_fit : chunks_in t ≤ s.store.chunks
  pub regions_fit : regions_in t ≤ regions_most s
  pub parted : Parted (vacant_in t) (vacant_after_in t) (slab_of (places_in t) t.index) s.store.loans
  pub chained : Chained (vacant_in t) (chain_start t) (chain_next t) (serial_of t.loans) s.store.loans (places_in t) (given_in t)
  pub store : Sound s (store_of s t)
  pub threaded : Threaded s.store.loans (places_in t) t.loans t.index (store_of s t).loans
  pub fronts : Fronts t.loans threaded.records (gaps_in t)
  pub whole : whole_in t ≡ wholes (store_of s t).chunks (store_of s t).regions

-- the test of it
abbrev pub parted_in : FreeListSettings → Tables → Bool
parted_in s t = parted_ok (vacant_in t) (vacant_after_in t) (slab_of (places_in t) t.index) s.store.loans

abbrev pub chained_in : FreeListSettings → Tables → Bool
chained_in s t =
    chains_ok (vacant_in t) (chain_start t) (chain_next t) (serial_of t.loans) s.store.loans (places_in t) (given_in t)

-- the records of the loans, as the index leads through them by place; and their loans
abbrev pub records_in : FreeListSettings → Tables → List ℕ
records_in s t = followed (after_in s.store.loans t.index) 0 (places_in t)

abbrev pub along_in : FreeListSettings → Tables → List Loan
along_in s t = map (loan_by t.loans) (records_in s t)

abbrev pub threaded_in : FreeListSettings → Tables → Bool
threaded_in s t =
    leads_ok (after_in s.store.loans t.index) (before_in s.store.loans t.index) (vacant_in t) (places_in t) 0 (records_in s t)
    && eqb (length (records_in s t)) (places_in t - vacancies (vacant_in t) (places_in t))

abbrev pub sound_row : FreeListSettings → Tables → List Bool
sound_row s t =
    signed_ok marks t
    ∷ leb (chunks_in t) s.store.chunks
    ∷ leb (regions_in t) (regions_most s)
    ∷ parted_in s t
    ∷ chained_in s t
    ∷ sized_ok s (store_of s t).size
    ∷ numbers_rise 1 (store_of s t).chunks
    ∷ all_ok (chunk_ok s (store_of s t)) (store_of s t).chunks
    ∷ apart (memories (store_of s t).chunks)
    ∷ all_ok (loan_ok s (store_of s t)) (loans_of (places_in t) t.loans)
    ∷ threaded_in s t
    ∷ fills_ok (store_of s t).chunks (along_in s t) (store_of s t).regions
    ∷ fronts_ok t.loans (records_in s t) (gaps_in t)
    ∷ eqb (whole_in t) (wholes (store_of s t).chunks (store_of s t).regions)
    ∷ []

unfoldable pub sound_ok : FreeListSettings → Tables → Bool
sound_ok s t = all (sound_row s t)

-- ---- the regions written back: the records from the front, their count, and how many are whole

unfoldable pub laid_gaps : List Gap → ℕ → List ℕ → List ℕ
laid_gaps gs whole t = set (set (laid gap_row gs t) region_count_at (length gs)) whole_at whole

-- the chunks likewise
unfoldable pub laid_chunks : List Chunk → List ℕ → List ℕ
laid_chunks cs t = set (laid chunk_row cs t) chunks_at (length cs)

-- the regions that a table holds
abbrev pub gaps_of : List ℕ → List Gap
gaps_of t = rows gap_row (get_or t region_count_at 0) t

abbrev pub regions_of : List ℕ → List Region
regions_of t = free_of (gaps_of t)

-- settings in 01's table, and a table of regions of the right length with a count within it
pub record RegionsFit (s : FreeListSettings) (t : List ℕ) : Type 0 where
  pub settings : FreeListIn s
  pub long : length t ≡ room_words s
  pub count : get_or t region_count_at 0 ≤ regions_most s
