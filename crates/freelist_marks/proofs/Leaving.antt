-- What leaves, region by region.
use mathlib.Core.Path.{◌≡◌, sym, ap, ◌∙◌}
use mathlib.Core.Bool.{Bool, true, false, cond, ◌&&◌, not}
use mathlib.Core.List.{List, [], ◌∷◌, ◌++◌}
use Prim.Native.Nat.{ℕ, suc, ◌+◌, ◌≤◌, ◌<◌}
use native.Mathlib.Numerals.{add-one}
use native.Mathlib.Omega.{arith}
use lib.Dec.{eqb}
use lib.ListN.{length, drop, length-append, length-drop}
use lib.Seq.{drop-cons}
use Rattle.words.specs.Rows.{Layout, row, rows}
use Rattle.words.proofs.Records.{length_rows, get_d_rows}
use Rattle.freelist_rules.specs.Records.{gap_row}
use Rattle.freelist_rules.specs.Threads.{region_in, free_of}
use Rattle.freelist_rules.specs.Release.{wholly, goes, rotated, leaving}
use Rattle.store_rules.specs.declared.Chunk.{Chunk}
use Rattle.store_rules.specs.declared.Region.{Region}
use Rattle.freelist_rules.specs.Steps.{no_region}
use Rattle.freelist_rules.specs.Threads.{no_gap}
use Rattle.freelist_rules.proofs.GapLists.{free_at, free_length}
use Rattle.freelist_marks.proofs.Finding.{goes_by}
use Rattle.freelist_marks.proofs.Fronts.{length_rotated}

-- the records from i on, by the one at i
pub row_next : {R : Type 0} (L : Layout R) (t : List ℕ) (n i : ℕ) → i < n → drop i (rows L n t) ≡ row L i t ∷ drop (i + 1) (rows L n t)
row_next {R = R} L t n i h =
    drop-cons (rows L n t) i (row L i t) (omega (arith, length_rows L n t))
    ∙ ap (λ (r : R). r ∷ drop (suc i) (rows L n t)) (get_d_rows L n i t (row L i t) h)
    ∙ ap (λ (j : ℕ). row L i t ∷ drop j (rows L n t)) (sym (add-one i))

-- and so the regions
pub region_next : (t : List ℕ) (n i : ℕ) → i < n → drop i (free_of (rows gap_row n t)) ≡ region_in (row gap_row i t) ∷ drop (i + 1) (free_of (rows gap_row n t))
region_next t n i h =
    let gs = rows gap_row n t in
    drop-cons (free_of gs) i no_region (omega (arith, free_length gs, length_rows gap_row n t))
    ∙ ap (λ (r : Region). r ∷ drop (suc i) (free_of gs)) (free_at gs i ∙ ap region_in (get_d_rows gap_row n i t no_gap h))
    ∙ ap (λ (j : ℕ). region_in (row gap_row i t) ∷ drop j (free_of gs)) (sym (add-one i))

-- ---- a region that goes, or does not, as code tests it

module _ (cs : List Chunk) (spare : Bool) (t : List ℕ) (n i : ℕ) (h : i < n) (b : Bool) (e : b ≡ (not (spare && eqb (i + 1) n) && wholly cs (region_in (row gap_row i t)))) where
  abbrev rest : List Region
  rest = drop (i + 1) (free_of (rows gap_row n t))

  pub goes_told : goes cs spare (region_in (row gap_row i t)) rest ≡ b
  goes_told = sym (e ∙ goes_by cs spare (region_in (row gap_row i t)) rest i n (omega (arith, length-drop (i + 1) (free_of (rows gap_row n t)), free_length (rows gap_row n t), length_rows gap_row n t)))

module _ (cs : List Chunk) (spare : Bool) where
  -- the walk loses none that it has marked
  pub leaving_long : (marked rs : List Region) → length marked ≤ length (leaving cs spare marked rs)
  unfolding leaving
  leaving_long marked [] = omega arith
  leaving_long marked (r ∷ rs) = go (goes cs spare r rs) (leaving_long (marked ++ (r ∷ [])) rs) (leaving_long (rotated marked) rs)
    where
      go : (b : Bool) → length (marked ++ (r ∷ [])) ≤ length (leaving cs spare (marked ++ (r ∷ [])) rs) → length (rotated marked) ≤ length (leaving cs spare (rotated marked) rs)
          → length marked ≤ length (cond b (leaving cs spare (marked ++ (r ∷ [])) rs) (leaving cs spare (rotated marked) rs))
      go true p q = omega (arith, p, length-append marked (r ∷ []))
      go false p q = omega (arith, q, length_rotated marked)
