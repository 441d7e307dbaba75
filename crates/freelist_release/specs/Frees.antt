-- What the release of a store's chunks asks of its tables and of the list: a passed gate gives it.
use Rattle.std.specs.Prelude.{◌≡◌, List, ℕ, ◌+◌, ◌*◌, ◌≤◌, length, get_or}
use Rattle.words.specs.Rows.{rows}
use Rattle.counter.specs.InTable.{FreeListIn}
use Rattle.counter.specs.Limits.{loans_most, chunks_most}
use Rattle.counter.specs.declared.settings.FreeListSettings.{FreeListSettings}
use Rattle.freelist_rules.specs.Records.{chunk_words, region_words, chunk_row}
use Rattle.freelist_rules.specs.Tables.{chunks_at, region_count_at, whole_at, regions_of}
use Rattle.freelist_rules.specs.Threads.{wholes}
use Rattle.store_rules.specs.declared.Chunk.{Chunk}
use Rattle.freelist_marks.specs.Releasable.{Releasable}

-- the chunks that a table holds
abbrev pub chunks_of : List ℕ → List Chunk
chunks_of chunks = rows chunk_row (get_or chunks chunks_at 0) chunks

pub record Frees (s : FreeListSettings) (chunks regions list : List ℕ) : Type 0 where
  pub settings : FreeListIn s
  pub ready : Releasable (chunks_of chunks) (regions_of regions)
  pub chunks_fit : chunk_words + chunk_words * get_or chunks chunks_at 0 ≤ length chunks
  pub regions_fit : region_words + region_words * get_or regions region_count_at 0 ≤ length regions
  pub few : get_or regions region_count_at 0 ≤ loans_most + chunks_most
  pub long : get_or chunks chunks_at 0 ≤ length list
  pub whole : get_or regions whole_at 0 ≡ wholes (chunks_of chunks) (regions_of regions)
