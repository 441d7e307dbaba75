-- 01's table, "When the counter says no", for each call of a buddy store, in the paper's words and in the order of its tests.
use Rattle.std.specs.Prelude.{◌≡◌, cond, ◌⊎◌, ℕ, zero, suc, ◌+◌, ◌*◌, ◌%◌, ◌≤◌, ◌<◌, ltb}
use mathlib.Core.List.{Memᴰ}
use Rattle.counter.specs.InTable.{BuddyIn}
use Rattle.counter.specs.Limits.{levels_most}
use Rattle.counter.specs.declared.settings.BuddySettings.{BuddySettings}
use Rattle.store_rules.specs.Views.{View}
use Rattle.store_rules.specs.Words.{Words}
use Rattle.store_rules.specs.declared.Chunk.{Chunk}
use Rattle.store_rules.specs.declared.Loan.{Loan}
use Rattle.store_rules.specs.declared.Region.{Region}
use Rattle.buddy_trees.specs.Trees.{bytes}
use Rattle.buddy_trees.specs.Chunks.{Fitting}
use Rattle.buddy_rules.specs.Nodes.{vacant, exhausted}
use Rattle.buddy_rules.specs.Sound.{Sound}
use Rattle.buddy_rules.specs.Views.{view_of}
use Rattle.buddy_rules.specs.Tables.{Tables, Lengths, given_in, levels_in, live_in, pairs_in}
use Rattle.buddy_outcomes.specs.Ask.{size_for, level_for, order_bytes}

-- ---- 6

-- "size 0; buddy: rounding overflows or the level would be 32 or more"
abbrev pub SizeOff : BuddySettings → ℕ → ℕ → Type 0
SizeOff s size mask = (size ≡ 0) ⊎ (bytes s.minimal levels_most ≤ size_for s size mask)

-- ---- a chunk is needed

-- "no held chunk has a fitting free place"
abbrev pub Needed : BuddySettings → ℕ → ℕ → Tables → Type 0
Needed s size mask t = Fitting (size_for s size mask) (view_of s t) → ⊥

-- ---- 8, 10, 9

-- how many loans stand at the first n places, and how many pairs of level l at its first n
unfoldable pub live_count : Tables → ℕ → ℕ
live_count t zero = 0
live_count t (suc n) = live_count t n + cond (live_in t n) 1 0

unfoldable pub pair_count : BuddySettings → Tables → ℕ → ℕ → ℕ
pair_count s t l zero = 0
pair_count s t l (suc n) = pair_count s t l n + cond (ltb vacant (pairs_in s t l n).tag) 1 0

-- level l, which there is, needs a new pair: no side is ready from the asked level up to it
pub record Splits (s : BuddySettings) (size mask : ℕ) (t : Tables) (l : ℕ) : Type 0 where
  pub from : level_for s size mask ≤ l
  pub there : l < levels_in t
  pub none : (j p : ℕ) → level_for s size mask ≤ j → j ≤ l → exhausted < (pairs_in s t j p).tag → ⊥

-- "a level that needs a new pair has none", by how many are in use
abbrev pub PairsOut : BuddySettings → ℕ → ℕ → Tables → Type 0
PairsOut s size mask t = (l : ℕ) × Splits s size mask t l × (s.pairs ≤ pair_count s t l s.pairs)

-- ---- 8 again, by the loans, chunks and free pieces that a user sees

-- level l needs a new pair: no free piece is a node of a level from the asked one up to it
pub record SplitsSeen (s : BuddySettings) (size mask : ℕ) (v : View) (l : ℕ) : Type 0 where
  pub from : level_for s size mask ≤ l
  pub none : (j : ℕ) → level_for s size mask ≤ j → j ≤ l → (r : Region) → Memᴰ r v.free → r.end ≡ r.start + bytes s.minimal j → ⊥

-- 01, "buddy.rs": "a pair is its two nodes": how long a pair of level l is
abbrev pub pair_bytes : ℕ → ℕ → ℕ
pair_bytes u l = 2 * bytes u l

-- r is a pair of level l in use: it lies in a held chunk at a multiple of its length, and a loan no longer than one of its nodes
-- lies in it
pub record PairInUse (u l : ℕ) (v : View) (r : Region) : Type 0 where
  pub chunk : Chunk
  pub held : Memᴰ chunk v.chunks
  pub number : r.chunk ≡ chunk.number
  pub aligned : r.start % pair_bytes u l ≡ 0
  pub long : r.end ≡ r.start + pair_bytes u l
  pub inside : r.end ≤ chunk.size
  pub loan : Loan
  pub lent : Memᴰ loan v.loans
  pub there : loan.chunk ≡ r.chunk
  pub short : loan.size ≤ bytes u l
  pub low : r.start ≤ loan.offset
  pub high : loan.offset + loan.size ≤ r.end

-- level l has none left: there is a pair in use for each of its places, and no two of them are one
pub record NoneLeft (s : BuddySettings) (v : View) (l : ℕ) : Type 0 where
  pub pair : ℕ → Region
  pub used : (i : ℕ) → i < s.pairs → PairInUse s.minimal l v (pair i)
  pub differ : (i j : ℕ) → i < s.pairs → j < s.pairs → pair i ≡ pair j → i ≡ j

-- "a level that needs a new pair has none", as a user sees it
abbrev pub PairsOutSeen : BuddySettings → ℕ → ℕ → View → Type 0
PairsOutSeen s size mask v = (l : ℕ) × SplitsSeen s size mask v l × NoneLeft s v l

-- ---- all of its words: 01's rows, said once for every engine, are told of these

abbrev pub buddy_words : Words
buddy_words =
    record {
      Settings = BuddySettings;
      Tables = Tables;
      store = λ s. s.store;
      given = given_in;
      view = view_of;
      Sound = Sound;
      Needed = Needed;
      order_size = λ s size mask t. order_bytes s (level_for s size mask) t;
      Fits = λ s t. BuddyIn s × Lengths s t;
      MaskHigh = λ s mask. ⊥;
      SizeOff = SizeOff;
      Roomless = PairsOut;
      Numberless = λ s t. ⊥;
    }
