-- The row of tests of a free-list store's tables, in groups as the code takes them.
use Rattle.std.specs.Prelude.{Bool, ◌&&◌, List, [], ◌∷◌, ℕ, ◌-◌, leb, get_or}
use Rattle.words.specs.Rows.{rows}
use Rattle.lists.specs.Tests.{all}
use Rattle.counter.specs.declared.settings.FreeListSettings.{FreeListSettings}
use Rattle.slabs.specs.Slab.{vacant_at}
use Rattle.slabs.specs.Test.{vacancies}
use Rattle.store_rules.specs.Loans.{given_at, places_at, loan_words, size_at, loans_of}
use Rattle.book_rules.specs.Kept.{kept_ok}
use Rattle.freelist_rules.specs.Records.{Store, chunk_row, gap_row}
use Rattle.freelist_walk.specs.Walked.{walk_ok}
use Rattle.freelist_rules.specs.Tables.{chunks_in, regions_most, marks, Tables, signed_ok, whole_at}
use Rattle.freelist_rules.specs.Walk.{all_ok, sized_ok, numbers_rise, chunk_ok, loan_ok, apart, memories}
use Rattle.store_rules.specs.declared.Chunk.{Chunk}

-- a store of which only its counts are told: the tests of a chunk and of a loan look at nothing else
abbrev pub counted : ℕ → ℕ → ℕ → Store
counted given made size = record { given = given; made = made; size = size; loans = []; chunks = []; regions = [] }

-- the marks, and the counts of chunks and of n regions within their limits
unfoldable pub head_ok : FreeListSettings → Tables → ℕ → Bool
head_ok s t n = all (signed_ok marks t ∷ leb (chunks_in t) s.store.chunks ∷ leb n (regions_most s) ∷ [])

-- the loans' places are parted into used and vacant ones, the chains lead to each loan, and each loan is right
unfoldable pub lent_ok : FreeListSettings → List ℕ → List ℕ → Bool
lent_ok s loans index =
    kept_ok loans index s.store.loans (get_or loans places_at 0) (get_or loans given_at 0)
    && all_ok (loan_ok s (counted (get_or loans given_at 0) 0 0)) (loans_of (get_or loans places_at 0) loans)

-- how many places are on loan
abbrev pub live_count : List ℕ → ℕ
live_count loans = get_or loans places_at 0 - vacancies (vacant_at loans size_at loan_words) (get_or loans places_at 0)

-- the chunks' numbers rise, and each chunk is right
unfoldable pub each_ok : FreeListSettings → ℕ → ℕ → List Chunk → Bool
each_ok s made size cs = numbers_rise 1 cs && all_ok (chunk_ok s (counted 0 made size)) cs

-- the chunk size now, the chunks, and their memories
unfoldable pub chunks_ok : FreeListSettings → ℕ → ℕ → List Chunk → Bool
chunks_ok s made size cs = sized_ok s size && (each_ok s made size cs && apart (memories cs))

-- the loans, in the order in which the index leads through them, fill the first k chunks with the first n regions
unfoldable pub walked_ok : FreeListSettings → List ℕ → ℕ → List ℕ → List ℕ → List ℕ → ℕ → Bool
walked_ok s chunks k loans index regions n =
    walk_ok s.store.loans (rows chunk_row k chunks) loans (get_or loans places_at 0) index (rows gap_row n regions) (live_count loans) (get_or regions whole_at 0)
