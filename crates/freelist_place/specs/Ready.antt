-- What the code that writes a store's tables asks of them: the gate has shown it.
use Rattle.std.specs.Prelude.{◌≡◌, List, ℕ, ◌+◌, ◌*◌, ◌^◌, ◌≤◌, ◌<◌, length, get_or}
use Rattle.words.specs.Rows.{rows}
use Rattle.counter.specs.Limits.{spent}
use Rattle.counter.specs.declared.answers.Block.{Block}
use Rattle.counter.specs.declared.settings.FreeListSettings.{FreeListSettings}
use Rattle.store_rules.specs.Loans.{given_at}
use Rattle.book_rules.specs.Book.{index_words}
use Rattle.book_rules.specs.Ready.{Opens}
use Rattle.freelist_rules.specs.Records.{chunk_words, region, chunk_row}
use Rattle.freelist_rules.specs.Pieces.{lo, hi, Rising}
use Rattle.freelist_rules.specs.Join.{insert}
use Rattle.freelist_rules.specs.Steps.{no_region}
use Rattle.freelist_rules.specs.Threads.{thread_words, after_in, before_in, no_gap}
use Rattle.freelist_rules.specs.Tables.{made_at, chunks_at, regions_most, region_count_at, whole_at, gaps_of, regions_of, RegionsFit}
use Rattle.freelist_regions.specs.Order.{RegionsStand, LowPlace}
use Rattle.freelist_marks.specs.Releasable.{NumbersRise}

-- region i can be lent from, from this start on, and the loan entered at place p of the book and behind the one in front of the region
pub record Lends (s : FreeListSettings) (i start p : ℕ) (loans chunks index regions : List ℕ) : Type 0 where
  pub fit : RegionsFit s regions
  pub here : i < get_or regions region_count_at 0
  pub within : start ≤ (get_or (regions_of regions) i no_region).end
  pub serial : get_or loans given_at 0 < spent
  pub opens : Opens s.store.loans p loans index
  pub long : length index ≡ thread_words s.store.loans
  pub front : (get_or (gaps_of regions) i no_gap).front ≤ s.store.loans
  pub behind : after_in s.store.loans index (get_or (gaps_of regions) i no_gap).front ≤ s.store.loans
  pub counted : chunks_at < length chunks
  pub numbers : NumbersRise (rows chunk_row (get_or chunks chunks_at 0) chunks)

-- there is room for one chunk more
pub record Adds (s : FreeListSettings) (chunks regions : List ℕ) : Type 0 where
  pub fit : RegionsFit s regions
  pub room : get_or regions region_count_at 0 < regions_most s
  pub long : length chunks ≡ chunk_words + chunk_words * s.store.chunks
  pub few : get_or chunks chunks_at 0 < s.store.chunks
  pub number : get_or chunks made_at 0 < spent
  pub whole : get_or regions whole_at 0 ≤ get_or regions region_count_at 0

-- a block's bytes may go back among the regions, and the record of its loan, to which word `at` of the index leads, out of the thread
pub record Backs (s : FreeListSettings) (b : Block) (at : ℕ) (chunks index regions : List ℕ) : Type 0 where
  pub fit : RegionsFit s regions
  pub rise : Rising lo hi 1 0 (regions_of regions)
  pub stand : RegionsStand (regions_of regions)
  pub low : LowPlace b.offset
  pub short : b.offset + b.size < 2 ^ 64
  pub room : length (insert (region b.chunk b.offset (b.offset + b.size)) (regions_of regions)) ≤ regions_most s
  pub whole : get_or regions whole_at 0 ≤ get_or regions region_count_at 0
  pub counted : chunks_at < length chunks
  pub numbers : NumbersRise (rows chunk_row (get_or chunks chunks_at 0) chunks)
  pub long : length index ≡ thread_words s.store.loans
  pub word : at < index_words s.store.loans
  pub some : 0 < get_or index at 0
  pub most : get_or index at 0 ≤ s.store.loans
  pub after : after_in s.store.loans index (get_or index at 0) ≤ s.store.loans
  pub before : before_in s.store.loans index (get_or index at 0) ≤ s.store.loans
