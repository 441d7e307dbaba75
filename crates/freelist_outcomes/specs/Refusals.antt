-- The words of 01's table, "When the counter says no", that are the free list's own. proofs/Refused shows that each call gives exactly
-- the numbers of the rows over these.
use Rattle.std.specs.Prelude.{◌≡◌, ◌⊎◌, ℕ, ◌+◌, ◌%◌, ◌≤◌, ◌<◌}
use mathlib.Core.List.{Memᴰ}
use Rattle.counter.specs.InTable.{FreeListIn}
use Rattle.counter.specs.Limits.{spent}
use Rattle.counter.specs.declared.settings.FreeListSettings.{FreeListSettings}
use Rattle.store_rules.specs.Views.{View}
use Rattle.store_rules.specs.Words.{Words}
use Rattle.freelist_rules.specs.Records.{Store}
use Rattle.freelist_rules.specs.Tables.{Tables, Lengths, store_of, SoundTables, given_in}
use Rattle.store_rules.specs.declared.Chunk.{Chunk}
use Rattle.store_rules.specs.declared.Region.{Region}
use Rattle.freelist_outcomes.specs.Ask.{raised_for}

-- ---- 6

-- "size 0; free list: size above final"
abbrev pub SizeOff : FreeListSettings → ℕ → Type 0
SizeOff s size = (size ≡ 0) ⊎ (s.last < size)

-- ---- a chunk is needed

-- a fitting free place: "in a free list, an aligned start whose size lies in one region", in a held chunk
pub record Fitting (size mask : ℕ) (t : Store) : Type 0 where
  pub chunk : Chunk
  pub held : Memᴰ chunk t.chunks
  pub region : Region
  pub free : Memᴰ region t.regions
  pub its : region.chunk ≡ chunk.number
  pub start : ℕ
  pub aligned : start % (mask + 1) ≡ 0
  pub from : region.start ≤ start
  pub to : start + size ≤ region.end

-- "no held chunk has a fitting free place"
abbrev pub Needed : FreeListSettings → ℕ → ℕ → Tables → Type 0
Needed s size mask t = Fitting size mask (store_of s t) → ⊥

-- ---- all of its words: 01's rows, said once for every engine, are told of these

-- what its user sees of a store: loans and free regions by chunk and place, chunks by number
abbrev pub seen : Store → View
seen v = record { loans = v.loans; chunks = v.chunks; free = v.regions }

abbrev pub list_words : Words
list_words =
    record {
      Settings = FreeListSettings;
      Tables = Tables;
      store = λ s. s.store;
      given = given_in;
      view = λ s t. seen (store_of s t);
      Sound = SoundTables;
      Needed = Needed;
      order_size = λ s size mask t. raised_for s size t;
      Fits = λ s t. FreeListIn s × Lengths s t;
      MaskHigh = λ s mask. ⊥;
      SizeOff = λ s size mask. SizeOff s size;
      Roomless = λ s size mask t. ⊥;
      Numberless = λ s t. spent ≤ (store_of s t).made;
    }
