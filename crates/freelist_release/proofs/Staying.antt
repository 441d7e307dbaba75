-- What stays, region by region and chunk by chunk, and that all stays where none leaves.
use mathlib.Core.Path.{◌≡◌, refl, sym, ap, ◌∙◌}
use mathlib.Core.Bool.{Bool, true, false, cond, ◌&&◌, not}
use mathlib.Core.List.{List, [], ◌∷◌, ◌++◌}
use Prim.Native.Nat.{ℕ, zero, suc, ◌+◌, ◌<◌}
use native.Mathlib.Omega.{arith}
use lib.Dec.{eqb}
use lib.ListN.{length, drop, length-append}
use Rattle.words.specs.Rows.{Layout, row, rows}
use Rattle.freelist_rules.specs.Records.{gap_row}
use Rattle.freelist_rules.specs.Release.{wholly, goes, rotated, leaving, remaining}
use Rattle.store_rules.specs.declared.Chunk.{Chunk}
use Rattle.store_rules.specs.declared.Region.{Region}
use Rattle.freelist_rules.specs.declared.Gap.{Gap}
use Rattle.freelist_rules.specs.Threads.{region_in, free_of, staying_gaps}
use Rattle.freelist_marks.proofs.Leaving.{row_next, goes_told, leaving_long}
use Rattle.freelist_release.specs.Listed.{among, unlisted}

-- ---- a region that goes, or does not, as code tests it

free_from : (i : ℕ) (gs : List Gap) → free_of (drop i gs) ≡ drop i (free_of gs)
free_from zero gs = refl
free_from (suc i) [] = refl
free_from (suc i) (g ∷ gs) = free_from i gs

module _ (cs : List Chunk) (spare : Bool) (t : List ℕ) (n i : ℕ) (h : i < n) (b : Bool) (e : b ≡ (not (spare && eqb (i + 1) n) && wholly cs (region_in (row gap_row i t)))) where
  abbrev rest : List Gap
  rest = drop (i + 1) (rows gap_row n t)

  told_goes : goes cs spare (region_in (row gap_row i t)) (free_of rest) ≡ b
  told_goes = ap (goes cs spare (region_in (row gap_row i t))) (free_from (i + 1) (rows gap_row n t)) ∙ goes_told cs spare t n i h b e

  pub staying_past : b ≡ true → staying_gaps cs spare (drop i (rows gap_row n t)) ≡ staying_gaps cs spare rest
  unfolding staying_gaps
  staying_past q = ap (staying_gaps cs spare) (row_next gap_row t n i h) ∙ rw (told_goes ∙ q)

  pub staying_more : b ≡ false → staying_gaps cs spare (drop i (rows gap_row n t)) ≡ row gap_row i t ∷ staying_gaps cs spare rest
  unfolding staying_gaps
  staying_more q = ap (staying_gaps cs spare) (row_next gap_row t n i h) ∙ rw (told_goes ∙ q)

pub staying_end : (cs : List Chunk) (spare : Bool) → staying_gaps cs spare [] ≡ []
unfolding staying_gaps
staying_end cs spare = refl

-- ---- a chunk that is listed, or is not

module _ (ms : List ℕ) (L : Layout Chunk) (t : List ℕ) (k i : ℕ) (h : i < k) (c : Chunk) (is : c ≡ row L i t) (b : Bool) (e : b ≡ among c.memory ms) where
  from : drop i (rows L k t) ≡ c ∷ drop (i + 1) (rows L k t)
  from = row_next L t k i h ∙ ap (λ (d : Chunk). d ∷ drop (i + 1) (rows L k t)) (sym is)

  pub unlisted_past : b ≡ true → unlisted ms (drop i (rows L k t)) ≡ unlisted ms (drop (i + 1) (rows L k t))
  unfolding unlisted
  unlisted_past q = ap (unlisted ms) from ∙ rw (sym e ∙ q)

  pub unlisted_more : b ≡ false → unlisted ms (drop i (rows L k t)) ≡ c ∷ unlisted ms (drop (i + 1) (rows L k t))
  unfolding unlisted
  unlisted_more q = ap (unlisted ms) from ∙ rw (sym e ∙ q)

pub unlisted_end : (ms : List ℕ) → unlisted ms [] ≡ []
unfolding unlisted
unlisted_end ms = refl

-- ---- where none leaves

module _ (cs : List Chunk) (spare : Bool) where
  none_goes : (marked : List Region) (gs : List Gap) → length (leaving cs spare marked (free_of gs)) ≡ 0 → staying_gaps cs spare gs ≡ gs
  unfolding leaving staying_gaps
  none_goes marked [] e = refl
  none_goes marked (g ∷ gs) e = go (goes cs spare (region_in g) (free_of gs)) (none_goes (rotated marked) gs) e
    where
      go : (b : Bool) → (length (leaving cs spare (rotated marked) (free_of gs)) ≡ 0 → staying_gaps cs spare gs ≡ gs)
          → length (cond b (leaving cs spare (marked ++ (region_in g ∷ [])) (free_of gs)) (leaving cs spare (rotated marked) (free_of gs))) ≡ 0
          → cond b (staying_gaps cs spare gs) (g ∷ staying_gaps cs spare gs) ≡ g ∷ gs
      go true ih z = absurd (omega (arith, z, leaving_long cs spare (marked ++ (region_in g ∷ [])) (free_of gs), length-append marked (region_in g ∷ [])))
      go false ih z = ap (λ (l : List Gap). g ∷ l) (ih z)

  pub all_stay : (gs : List Gap) → leaving cs spare [] (free_of gs) ≡ [] → staying_gaps cs spare gs ≡ gs
  all_stay gs e = none_goes [] gs (ap length e)

pub all_remain : (cs : List Chunk) → remaining [] cs ≡ cs
unfolding remaining
all_remain [] = refl
all_remain (c ∷ cs) = ap (λ (l : List Chunk). c ∷ l) (all_remain cs)
