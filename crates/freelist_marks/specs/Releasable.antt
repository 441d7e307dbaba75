-- What a release asks of a store's chunks and regions; every sound store has it (proofs/Sounds).
use Rattle.std.specs.Prelude.{Bool, List, [], suc, ◌≤◌, length}
use Rattle.counter.specs.Limits.{chunk_size_most}
use Rattle.freelist_rules.specs.Pieces.{Rising, All, Differ}
use Rattle.freelist_rules.specs.Release.{leaving}
use Rattle.store_rules.specs.declared.Chunk.{Chunk}
use Rattle.store_rules.specs.declared.Region.{Region}

abbrev pub NumbersRise : List Chunk → Type 0
NumbersRise cs = Rising (λ (c : Chunk). c.number) (λ (c : Chunk). suc c.number) 0 1 cs

pub record Releasable (cs : List Chunk) (rs : List Region) : Type 0 where
  -- chunks stand by their numbers, from 1, and no two have one memory number
  pub numbers : NumbersRise cs
  pub memories : Differ (λ (c : Chunk). c.memory) cs
  -- no region ends past the largest chunk
  pub low : All (λ (r : Region). r.end ≤ chunk_size_most) rs
  -- no more regions go than there are chunks
  pub few : (spare : Bool) → length (leaving cs spare [] rs) ≤ length cs
