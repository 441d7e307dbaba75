-- Regions that a search passes by.
use Rattle.std.proofs.Common.{◌≡◌, ℕ, zero, suc, ◌+◌, ◌-◌, ◌<◌, ◌≤◌, false, List, length, get_or, take, sym, ap, ◌∙◌, ⊎_elim, arith}
use Rattle.lists.proofs.Bools.{lt_or_le}
use Rattle.words.specs.Words.{cell_of}
use Rattle.words.specs.Rows.{rows, row}
use Rattle.words.proofs.Records.{length_rows, get_d_rows, cell_row}
use Rattle.store_rules.specs.declared.Region.{Region}
use Rattle.freelist_rules.specs.Records.{region, gap_row, region_words, region_start_at, region_end_at}
use Rattle.freelist_rules.specs.Place.{fits_in, find}
use Rattle.freelist_rules.specs.Steps.{no_region}
use Rattle.freelist_rules.specs.Threads.{region_in, free_of, no_gap}
use Rattle.freelist_rules.proofs.GapLists.{free_at, free_length}
use Rattle.freelist_rules.proofs.Search.{find_past}
use Rattle.freelist_regions.specs.Found.{NoneFits}

-- a region by its start and its end: its chunk is not read
pub region_read : (t : List ℕ) (i start end : ℕ) → start ≡ get_or t (cell_of region_start_at region_words i) 0 → end ≡ get_or t (cell_of region_end_at region_words i) 0
    → region (row gap_row i t).chunk start end ≡ region_in (row gap_row i t)
region_read t i start end s e =
    let x = s ∙ cell_row t region_start_at region_words i in
    let y = e ∙ cell_row t region_end_at region_words i in
    (λ j. region (row gap_row i t).chunk (x j) (y j))

module _ (size : ℕ) (t : List ℕ) where
  pub one_passed : (i start end : ℕ) → start ≡ get_or t (cell_of region_start_at region_words i) 0 → end ≡ get_or t (cell_of region_end_at region_words i) 0
      → ((mask chunk : ℕ) → fits_in mask size (region chunk start end) ≡ false) → NoneFits size t i (i + 1)
  one_passed i start end s e f j h g mask =
      let same : j ≡ i = omega arith in
      ap (λ (m : ℕ). fits_in mask size (region_in (row gap_row m t))) same ∙ ap (fits_in mask size) (sym (region_read t i start end s e)) ∙ f mask (row gap_row i t).chunk

  pub both_passed : (i k m n : ℕ) → n ≤ m → NoneFits size t i k → NoneFits size t k m → NoneFits size t i n
  both_passed i k m n most a b j h g mask = ⊎_elim (λ (l : j < k). a j h l mask) (λ (l : k ≤ j). b j l (omega arith) mask) (lt_or_le j k)

  pub more_passed : (i k n : ℕ) → i ≤ k → NoneFits size t (k - i) (k - i + i) → NoneFits size t k n → NoneFits size t (k - i) n
  more_passed i k n most a b j h g mask = ⊎_elim (λ (l : j < k). a j h (omega arith) mask) (λ (l : k ≤ j). b j l g mask) (lt_or_le j k)

  -- what fits is the same without them
  module _ (mask n : ℕ) where
    abbrev rs : List Region
    rs = free_of (rows gap_row n t)

    past_these : (r d : ℕ) → r + d ≤ n → NoneFits size t r (r + d) → find mask size (take (r + d) rs) ≡ find mask size (take r rs)
    past_these r zero h f = let e : r + 0 ≡ r = omega arith in ap (λ (m : ℕ). find mask size (take m rs)) e
    past_these r (suc d) h f =
        let e : r + suc d ≡ suc (r + d) = omega arith in
        let under : r + d < length rs = omega (arith, free_length (rows gap_row n t), length_rows gap_row n t) in
        let is : get_or rs (r + d) no_region ≡ region_in (row gap_row (r + d) t) = free_at (rows gap_row n t) (r + d) ∙ ap region_in (get_d_rows gap_row n (r + d) t no_gap (omega arith)) in
        ap (λ (m : ℕ). find mask size (take m rs)) e
        ∙ find_past mask size (r + d) rs no_region under (ap (fits_in mask size) is ∙ f (r + d) (omega arith) (omega arith) mask)
        ∙ past_these r d (omega arith) (λ j a b. f j a (omega arith))

    pub all_passed : (k r : ℕ) → r ≤ k → k ≤ n → NoneFits size t r k → find mask size (take k rs) ≡ find mask size (take r rs)
    all_passed k r h most f =
        let e : r + (k - r) ≡ k = omega arith in
        ap (λ (m : ℕ). find mask size (take m rs)) (sym e) ∙ past_these r (k - r) (omega arith) (λ j a b. f j a (omega arith))
