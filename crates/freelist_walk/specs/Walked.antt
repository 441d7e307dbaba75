-- What one walk over a free list's tables tests: the index leads through the loans by place and back, they and the free regions fill
-- the chunks, each region names the loan in front of it, and those that are all of their chunk are counted.
use Rattle.std.specs.Prelude.{Bool, ◌&&◌, List, map, ℕ, eqb, length}
use Rattle.slabs.specs.Slab.{vacant_at}
use Rattle.store_rules.specs.Loans.{loan_words, size_at}
use Rattle.store_rules.specs.declared.Chunk.{Chunk}
use Rattle.freelist_rules.specs.declared.Gap.{Gap}
use Rattle.freelist_rules.specs.Threads.{after_in, before_in, loan_by, free_of, wholes, followed, leads_ok, fronts_ok}
use Rattle.freelist_rules.specs.Walk.{fills_ok}

-- the records that are met, from record 0 on, of an index of n loans
abbrev pub met : ℕ → ℕ → List ℕ → List ℕ
met n places index = followed (after_in n index) 0 places

-- `live` of the places are on loan, and so many regions are said to be whole
unfoldable pub walk_ok : ℕ → List Chunk → List ℕ → ℕ → List ℕ → List Gap → ℕ → ℕ → Bool
walk_ok n cs loans places index gs live whole =
    leads_ok (after_in n index) (before_in n index) (vacant_at loans size_at loan_words) places 0 (met n places index)
    && (eqb (length (met n places index)) live
    && (fills_ok cs (map (loan_by loans) (met n places index)) (free_of gs)
    && (fronts_ok loans (met n places index) gs && eqb whole (wholes cs (free_of gs)))))
