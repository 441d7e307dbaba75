-- A store's held chunks as its caller may keep them: from its calls, their answers and the order that was open alone. 01, "What one
-- store holds": an order says the chunk size, "The caller acts and delivers the outcome", and "A return or clean-up writes released
-- memory numbers into a lent list and gives their count".
use Rattle.std.specs.Prelude.{cond, ◌↔◌, ℕ, eqb, take}
use mathlib.Core.List.{List, [], ◌∷◌, ◌++◌, map, Memᴰ}
use Rattle.lists.specs.Members.{Distinct}
use Rattle.counter.specs.Paper.{Said}
use Rattle.counter.specs.Open.{OpenOrder}
use Rattle.counter.specs.declared.answers.Block.{Block}
use Rattle.counter.specs.declared.answers.Outcome.{Outcome}
use Rattle.counter.specs.declared.answers.Outcome.TheVariants as O
use Rattle.store_rules.specs.Delivery.{holds}
use Rattle.store_rules.specs.Outcomes.{Listed, to_free}
use Rattle.store_rules.specs.Views.{chunk}
use Rattle.store_rules.specs.declared.Chunk.{Chunk}
use Rattle.engines.specs.Books.{order_size}
use Rattle.engines.specs.Engines.{Engine}
use Rattle.engines.specs.Histories.{State, Visit, done, step}
use Rattle.engines.specs.Shapes.{Tables, Call, sets_up, asks, delivers, returns, others}
use Rattle.engines.specs.Tells.{lent_by}

-- a chunk came, or those of these memory numbers went
pub data Change : Type 0 where
  came : Chunk → Change
  went : List ℕ → Change

-- a delivery of memory that is answered by a block brings the chunk that the block lies in, of that memory and the order's size
abbrev pub brought_by : Outcome → ℕ → Said → List Change
brought_by (O.Made m) z said = map (λ (b : Block). came (chunk b.chunk m.number z)) (lent_by said)
brought_by O.OutOfDevice z said = []
brought_by O.OutOfHost z said = []

-- the memory numbers that are told: as many of the list as is said
abbrev pub told_by : Listed Tables → List ℕ
told_by d = take (to_free d.said) d.list

abbrev pub change_of : {Own : Type 0} → OpenOrder → Call Own → Listed Tables → List Change
change_of order sets_up d = []
change_of order (asks size mask) d = []
change_of order (delivers o) d = brought_by o (order_size order) d.said
change_of order (returns b list) d = went (told_by d) ∷ []
change_of order (others c list) d = went (told_by d) ∷ []

-- the chunks that have none of these memory numbers
abbrev pub chunks_less : List ℕ → List Chunk → List Chunk
chunks_less ms [] = []
chunks_less ms (c ∷ cs) = cond (holds c.memory ms) (chunks_less ms cs) (c ∷ chunks_less ms cs)

-- the chunks that came and have not since gone, where cs were held before
abbrev pub stock : List Chunk → List Change → List Chunk
stock cs [] = cs
stock cs (came c ∷ ns) = stock (c ∷ cs) ns
stock cs (went ms ∷ ns) = stock (chunks_less ms cs) ns

-- the size for which memory m was delivered: that of the first chunk with this memory number, and 0 where there is none
abbrev pub size_of : List Chunk → ℕ → ℕ
size_of [] m = 0
size_of (c ∷ cs) m = cond (eqb c.memory m) c.size (size_of cs m)

-- the same chunks, in whatever order
abbrev pub SameChunks : List Chunk → List Chunk → Type 0
SameChunks cs ds = (c : Chunk) → Memᴰ c cs ↔ Memᴰ c ds

-- no memory number stands twice
abbrev pub NoMemoryTwice : List Chunk → Type 0
NoMemoryTwice cs = Distinct (map (λ (c : Chunk). c.memory) cs)

-- K names the engines
module _ (K : Type 0) (E : K → Engine) where
  -- what comes and goes at store i, in order
  abbrev pub changes_at : ℕ → State → List (Visit K E) → List Change
  changes_at i w [] = []
  changes_at i w (v ∷ vs) = cond (eqb v.at i) (change_of w.account.order v.call (done K E w v)) [] ++ changes_at i (step K E w v) vs
