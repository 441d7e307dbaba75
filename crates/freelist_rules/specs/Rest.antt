-- The soundness walk on its way: what is left to test.
use Rattle.std.specs.Prelude.{Bool, false, ◌&&◌, List, [], ◌∷◌, ℕ}
use Rattle.store_rules.specs.declared.Loan.{Loan}
use Rattle.freelist_rules.specs.Walk.{front, behind, within, inside, gaps, gaps_of, same, same_all}
use Rattle.store_rules.specs.declared.Chunk.{Chunk}
use Rattle.store_rules.specs.declared.Region.{Region}

-- what is left to test at byte p of the first chunk
unfoldable pub rest : List Chunk → ℕ → List Loan → List Region → Bool
rest [] p ls rs = inside [] ls && same_all rs []
rest (c ∷ cs) p ls rs =
    within p c.size (front c.number ls)
    && (inside cs (behind c.number ls) && same_all rs (gaps c.number p c.size (front c.number ls) (gaps_of cs (behind c.number ls))))

-- the first region is r, and more holds of the others
abbrev pub next_is : Region → List Region → (List Region → Bool) → Bool
next_is r [] more = false
next_is r (d ∷ rs) more = same d r && more rs
