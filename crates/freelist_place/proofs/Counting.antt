-- Regions changed and counted anew are the table of the regions as they then are.
use mathlib.Core.Path.{◌≡◌, sym, ap, ◌∙◌}
use mathlib.Core.Bool.{cond}
use mathlib.Core.List.{List, [], ◌∷◌, ◌++◌}
use Prim.Native.Nat.{ℕ, ◌+◌, ◌*◌, ◌≤◌, ◌<◌}
use native.Mathlib.Omega.{arith}
use lib.ListN.{length, get_or, set, length-append}
use Rattle.counter.specs.Limits.{loans_most, chunks_most}
use Rattle.counter.specs.declared.settings.FreeListSettings.{FreeListSettings}
use Rattle.words.specs.Rows.{rows, laid, written}
use Rattle.words.proofs.Records.{length_rows, appended}
use Rattle.freelist_rules.specs.Records.{chunk_row, gap_row}
use Rattle.freelist_rules.specs.declared.Gap.{Gap}
use Rattle.freelist_rules.specs.Pieces.{lo, hi, Rising}
use Rattle.freelist_rules.specs.Join.{insert}
use Rattle.freelist_rules.specs.Release.{wholly}
use Rattle.freelist_rules.specs.Threads.{free_of, insert_gap, around}
use Rattle.freelist_rules.specs.Tables.{regions_most, region_count_at, whole_at, chunks_at, laid_gaps, RegionsFit, gaps_of, regions_of}
use Rattle.store_rules.specs.declared.Region.{Region}
use Rattle.freelist_regions.specs.Order.{RegionsStand, LowPlace}

-- ---- the count as the code reads it

module _ (s : FreeListSettings) (t : List ℕ) (fit : RegionsFit s t) (n : ℕ) (counted : n ≡ get_or t region_count_at 0) where
  gaps_are : rows gap_row n t ≡ gaps_of t
  gaps_are = ap (λ (k : ℕ). rows gap_row k t) counted

  regions_are : free_of (rows gap_row n t) ≡ regions_of t
  regions_are = ap free_of gaps_are

  room : 4 + 4 * n ≤ length t
  room = omega (arith, counted, fit.count, fit.long)

  -- so one more is no number too many
  pub few : n ≤ loans_most + chunks_most
  few = omega (arith, counted, fit.count, fit.settings.store.loans_most_lem, fit.settings.store.chunks_most_lem)

  pub whole_few : (w : ℕ) → w ≡ get_or t whole_at 0 → get_or t whole_at 0 ≤ get_or t region_count_at 0 → w ≤ loans_most + chunks_most
  whole_few w e h = omega (arith, e, h, counted, few)

  pub cut_fits : (i : ℕ) → i < get_or t region_count_at 0 → (i < n) × (4 + 4 * n ≤ length t)
  cut_fits i h = (omega (arith, counted), room)

  pub join_fits : (b : Region) → Rising lo hi 1 0 (regions_of t) → RegionsStand (regions_of t) → LowPlace b.start → length (insert b (regions_of t)) ≤ regions_most s
      → (4 + 4 * n ≤ length t) × Rising lo hi 1 0 (free_of (rows gap_row n t)) × RegionsStand (free_of (rows gap_row n t)) × LowPlace b.start × (4 + 4 * length (insert b (free_of (rows gap_row n t))) ≤ length t)
  join_fits b rise stand low l = (room, rw regions_are rise, rw regions_are stand, low, rw regions_are (omega (arith, fit.long, l)))

  -- the regions as f leaves them, and then their count, and how many are whole
  pub laid_done : (f : List Gap → List Gap) (left whole : ℕ) (u v : List ℕ) → left ≡ length (f (rows gap_row n t)) → u ≡ laid gap_row (f (rows gap_row n t)) t → v ≡ set (set u region_count_at left) whole_at whole
      → v ≡ laid_gaps (f (gaps_of t)) whole t
  unfolding laid_gaps
  laid_done f left whole u v l p q = q ∙ rw (p, l, gaps_are)

  -- a returned block among them
  pub joined_done : (chunks : List ℕ) (b : Region) (loan front left whole now_whole : ℕ) (r : Region) (u v : List ℕ) → whole ≡ get_or t whole_at 0
      → left ≡ length (insert_gap b loan front (rows gap_row n t)) → r ≡ around b (free_of (rows gap_row n t)) → u ≡ laid gap_row (insert_gap b loan front (rows gap_row n t)) t
      → now_whole ≡ whole + cond (wholly (rows chunk_row (get_or chunks chunks_at 0) chunks) r) 1 0
      → v ≡ set (set u region_count_at left) whole_at now_whole
      → v ≡ laid_gaps (insert_gap b loan front (gaps_of t)) (get_or t whole_at 0 + cond (wholly (rows chunk_row (get_or chunks chunks_at 0) chunks) (around b (regions_of t))) 1 0) t
  joined_done chunks b loan front left whole now_whole r u v w l a p m q =
      let e = m ∙ (λ j. w j + cond (wholly (rows chunk_row (get_or chunks chunks_at 0) chunks) ((a ∙ ap (around b) regions_are) j)) 1 0) in
      laid_done (insert_gap b loan front) left now_whole u v l p q ∙ ap (λ (k : ℕ). laid_gaps (insert_gap b loan front (gaps_of t)) k t) e

  -- one more, after the others
  pub appended_done : (g : Gap) (m whole more : ℕ) (u v : List ℕ) → get_or t region_count_at 0 < regions_most s → whole ≡ get_or t whole_at 0 → u ≡ written gap_row n g t → m ≡ n + 1 → more ≡ whole + 1
      → v ≡ set (set u region_count_at m) whole_at more
      → v ≡ laid_gaps (gaps_of t ++ (g ∷ [])) (get_or t whole_at 0 + 1) t
  appended_done g m whole more u v h w p l o q =
      laid_done (λ (gs : List Gap). gs ++ (g ∷ [])) m more u v
      (l ∙ sym (length-append (rows gap_row n t) (g ∷ []) ∙ ap (λ (k : ℕ). k + 1) (length_rows gap_row n t)))
      (p ∙ appended gap_row n g t (omega (arith, counted, fit.long)))
      q
      ∙ ap (λ (k : ℕ). laid_gaps (gaps_of t ++ (g ∷ [])) k t) (o ∙ ap (λ (k : ℕ). k + 1) w)
