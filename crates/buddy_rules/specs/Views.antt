-- A buddy store's tables as its user sees them: blocks on loan, held chunks, free pieces.
use Rattle.std.specs.Prelude.{cond, List, [], ◌∷◌, ◌++◌, ◌≡◌, ℕ, zero, suc, ◌+◌, ◌<◌}
use Rattle.counter.specs.declared.settings.BuddySettings.{BuddySettings}
use Rattle.store_rules.specs.Loans.{loans_of}
use Rattle.store_rules.specs.Views.{View, chunk, region}
use Rattle.store_rules.specs.declared.Chunk.{Chunk}
use Rattle.store_rules.specs.declared.Loan.{Loan}
use Rattle.store_rules.specs.declared.Region.{Region}
use Rattle.buddy_trees.specs.Trees.{bytes}
use Rattle.buddy_trees.specs.Chunks.{view_from}
use Rattle.buddy_rules.specs.Nodes.{free_word, vacant, exhausted, Ent, Side, word, base}
use Rattle.buddy_rules.specs.Levels.{base_of}
use Rattle.buddy_rules.specs.Tables.{Tables, levels_in, places_in, chunk_places_in, memory_in, chunk_size_in, held_in, pairs_in}

-- the loans, by place
abbrev pub loans_in : Tables → List Loan
loans_in t = loans_of (places_in t) t.loans

-- the chunks held at the first n places; a chunk's number is its place
unfoldable pub chunks_of : Tables → ℕ → List Chunk
chunks_of t zero = []
chunks_of t (suc n) = chunks_of t n ++ cond (held_in t n) (chunk n (memory_in t n) (chunk_size_in t n) ∷ []) []

abbrev pub chunks_in : Tables → List Chunk
chunks_in t = chunks_of t (chunk_places_in t)

abbrev pub view_of : BuddySettings → Tables → View
view_of s t = view_from s.minimal (loans_in t) (chunks_in t)

-- ---- free pieces as the words of the tree tell them

-- the stretch of a pair's ready side, its nodes being of level l
abbrev pub ready_stretch : ℕ → Ent → ℕ → Region
ready_stretch u e l = region e.chunk (base_of u e l) (base_of u e l + bytes u l)

-- some pair of some level has a ready side, and r is its stretch
pub record ReadySide (s : BuddySettings) (t : Tables) (r : Region) : Type 0 where
  pub level : ℕ
  pub low : level < levels_in t
  pub pair : ℕ
  pub ready : exhausted < (pairs_in s t level pair).tag
  pub is : r ≡ ready_stretch s.minimal (pairs_in s t level pair) level

-- some pair in use has a side whose word says that it is free, and r is that side's stretch
pub record FreeNode (s : BuddySettings) (t : Tables) (r : Region) : Type 0 where
  pub level : ℕ
  pub low : level < levels_in t
  pub pair : ℕ
  pub used : vacant < (pairs_in s t level pair).tag
  pub side : Side
  pub free : word side (pairs_in s t level pair) ≡ free_word
  pub is : r ≡ region (pairs_in s t level pair).chunk (base s.minimal side (pairs_in s t level pair).off level) (base s.minimal side (pairs_in s t level pair).off level + bytes s.minimal level)
