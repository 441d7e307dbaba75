-- Regions that stand in order part at any place: those before it, and those past it.
use Rattle.std.proofs.Common.{◌≡◌, ℕ, ◌+◌, ◌<◌, ◌≤◌, true, ltb, List, length, get_or, sym, ap, ◌∙◌, arith, ltb-false, ltb-true, lt-ltb}
use Rattle.words.specs.Words.{cell_of}
use Rattle.words.specs.Rows.{row, rows}
use Rattle.words.proofs.Records.{length_rows, get_d_rows, cell_row}
use Rattle.freelist_rules.specs.Records.{gap_row, region_chunk_at, region_start_at, region_words}
use Rattle.store_rules.specs.declared.Region.{Region}
use Rattle.freelist_rules.specs.Pieces.{line, lo}
use Rattle.lists.specs.Pairs.{earlier}
use Rattle.lists.proofs.Pairs.{earlier_then}
use Rattle.freelist_rules.proofs.Lines.{line_earlier}
use Rattle.freelist_rules.specs.Steps.{no_region}
use Rattle.freelist_rules.specs.Threads.{region_in, free_of, no_gap}
use Rattle.freelist_rules.proofs.GapLists.{free_at, free_length}
use Rattle.freelist_regions.specs.Order.{LowPlace, RegionsStand}
use Rattle.freelist_regions.specs.Stand.{after, Parting, Parts}

-- records whose chunk and place are read at `at` and the next word, each before those after it
module _ (t : List ℕ) (at w n : ℕ) (chunk place : ℕ → ℕ)
    (reads : (i : ℕ) → i < n → (get_or t (cell_of at w i) 0 ≡ chunk i) × (get_or t (cell_of (at + 1) w i) 0 ≡ place i))
    (rise : (i j : ℕ) → i < j → j < n → earlier (chunk i) (place i) (chunk j) (place j) ≡ true) where
  key_read : (c p i : ℕ) → i < n → after t at w c p i ≡ earlier c p (chunk i) (place i)
  key_read c p i h = rw ((reads i h).0, (reads i h).1)

  keys_part : (c p : ℕ) → Parting (after t at w c p) n
  keys_part c p i j h g e =
      key_read c p j g ∙ earlier_then c p (chunk i) (place i) (chunk j) (place j) (sym (key_read c p i (omega arith)) ∙ e) (rise i j h g)

module _ (t : List ℕ) (n : ℕ) (stand : RegionsStand (free_of (rows gap_row n t))) where
  abbrev region_chunk : ℕ → ℕ
  region_chunk i = (get_or (free_of (rows gap_row n t)) i no_region).chunk

  abbrev region_start : ℕ → ℕ
  region_start i = (get_or (free_of (rows gap_row n t)) i no_region).start

  region_reads : (i : ℕ) → i < n → (get_or t (cell_of region_chunk_at region_words i) 0 ≡ region_chunk i) × (get_or t (cell_of region_start_at region_words i) 0 ≡ region_start i)
  region_reads i h =
      let e : get_or (free_of (rows gap_row n t)) i no_region ≡ region_in (row gap_row i t) = free_at (rows gap_row n t) i ∙ ap region_in (get_d_rows gap_row n i t no_gap h) in
      (cell_row t region_chunk_at region_words i ∙ sym (ap (λ (d : Region). d.chunk) e), cell_row t region_start_at region_words i ∙ sym (ap (λ (d : Region). d.start) e))

  regions_long : length (free_of (rows gap_row n t)) ≡ n
  regions_long = free_length (rows gap_row n t) ∙ length_rows gap_row n t

  region_sorted : (i j : ℕ) → i < j → j < n → earlier (region_chunk i) (region_start i) (region_chunk j) (region_start j) ≡ true
  region_sorted i j h g =
      sym (line_earlier (region_chunk i) (region_start i) (region_chunk j) (region_start j) (stand.low i (omega (arith, regions_long))) (stand.low j (omega (arith, regions_long))))
      ∙ lt-ltb _ _ (stand.rise i j h (omega (arith, regions_long)))

  pub regions_part : (c p : ℕ) → Parting (after t region_chunk_at region_words c p) n
  regions_part c p = keys_part t region_chunk_at region_words n region_chunk region_start region_reads region_sorted c p

  region_line : (c p i : ℕ) → LowPlace p → i < n → ltb (line c p) (lo (get_or (free_of (rows gap_row n t)) i no_region)) ≡ after t region_chunk_at region_words c p i
  region_line c p i low h =
      line_earlier c p (region_chunk i) (region_start i) low (stand.low i (omega (arith, regions_long)))
      ∙ sym (key_read t region_chunk_at region_words n region_chunk region_start region_reads region_sorted c p i h)

  -- the regions before where the search ends begin at the place or before it, the others past it
  pub region_before : (c p k : ℕ) → LowPlace p → Parts (after t region_chunk_at region_words c p) n k → (i : ℕ) → i < k → lo (get_or (free_of (rows gap_row n t)) i no_region) ≤ line c p
  region_before c p k low w i h = ltb-false _ _ (region_line c p i low (omega (arith, w.most)) ∙ w.below i h)

  pub region_past : (c p k : ℕ) → LowPlace p → Parts (after t region_chunk_at region_words c p) n k → (i : ℕ) → k ≤ i → i < n → line c p < lo (get_or (free_of (rows gap_row n t)) i no_region)
  region_past c p k low w i h g = ltb-true _ _ (region_line c p i low g ∙ w.above i h g)
