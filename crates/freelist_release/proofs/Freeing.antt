-- Chunks dropped and counted anew are what a release is defined to leave.
use mathlib.Core.Path.{◌≡◌, refl, sym, ap, ◌∙◌}
use mathlib.Core.Bool.{Bool}
use mathlib.Core.List.{List, [], ◌∷◌}
use Prim.Native.Nat.{ℕ, ◌+◌, ◌-◌, ◌*◌, ◌≤◌}
use native.Mathlib.Omega.{arith}
use lib.ListN.{length, get_or, set}
use lib.Seq.{sets, set-get_or}
use Rattle.words.specs.Rows.{rows, laid}
use Rattle.words.proofs.Records.{length_rows, laid_rows}
use Rattle.counter.specs.Limits.{loans_most, chunks_most}
use Rattle.counter.specs.declared.settings.FreeListSettings.{FreeListSettings}
use Rattle.freelist_rules.specs.Records.{chunk_words, region_words, chunk_row, gap_row}
use Rattle.freelist_rules.specs.Release.{leaving, remaining, memories_of, bytes_of}
use Rattle.freelist_rules.specs.Tables.{Tables, tables, chunks_at, region_count_at, whole_at, store_of, laid_gaps, laid_chunks}
use Rattle.freelist_rules.specs.Threads.{free_of, staying_gaps, wholes}
use Rattle.freelist_rules.specs.declared.Gap.{Gap}
use Rattle.store_rules.specs.declared.Chunk.{Chunk}
use Rattle.store_rules.specs.declared.Region.{Region}
use Rattle.freelist_marks.specs.Releasable.{Releasable}
use Rattle.freelist_outcomes.specs.Return.{gone_from, released_tables}
use Rattle.freelist_release.specs.Frees.{Frees}
use Rattle.freelist_release.specs.Spared.{spared_in}
use Rattle.freelist_release.proofs.Sparing.{nothing_goes, few_go}
use Rattle.freelist_release.proofs.Staying.{all_stay, all_remain}

module _ (s : FreeListSettings) (spare : Bool) (chunks regions list : List ℕ) where
  -- the chunks, the regions and those that go, by the counts that the code read
  abbrev held : ℕ → List Chunk
  held k = rows chunk_row k chunks

  abbrev free : ℕ → List Gap
  free n = rows gap_row n regions

  abbrev pub gone : ℕ → ℕ → List Region
  gone k n = leaving (held k) spare [] (free_of (free n))

  -- what is left
  abbrev leaves : ℕ → ℕ → ℕ → Tables
  leaves k n w =
      tables
      []
      []
      (set (laid chunk_row (remaining (gone k n) (held k)) chunks) chunks_at (length (remaining (gone k n) (held k))))
      []
      (set (set (laid gap_row (staying_gaps (held k) spare (free n)) regions) region_count_at (length (staying_gaps (held k) spare (free n)))) whole_at (w - length (gone k n)))

  abbrev now : Tables
  now = tables [] [] chunks [] regions

  module _ (k n : ℕ) (k_is : k ≡ get_or chunks chunks_at 0) (count_is : n ≡ get_or regions region_count_at 0) where
    module _ (f : Frees s chunks regions list) where
      pub drop_fits : (chunk_words + chunk_words * k ≤ length chunks) × (region_words + region_words * n ≤ length regions) × (k ≤ length list) × (n ≤ loans_most + chunks_most)
      drop_fits = (
        omega (arith, k_is, f.chunks_fit),
        omega (arith, count_is, f.regions_fit),
        omega (arith, k_is, f.long),
        omega (arith, count_is, f.few),
      )

      pub drop_ready : Releasable (held k) (free_of (free n))
      drop_ready = rw (k_is, count_is) f.ready

      -- the word counts those that are all of their chunk, and no more go
      whole_now_lem : get_or regions whole_at 0 ≡ wholes (held k) (free_of (free n))
      whole_now_lem = rw (k_is, count_is) f.whole

      pub goes_within : (whole count : ℕ) → whole ≡ get_or regions whole_at 0 → count ≡ length (gone k n) → count ≤ whole
      goes_within whole count e p = omega (arith, whole_now_lem, few_go (held k) spare [] (free_of (free n)))

      -- none where none is all of its chunk
      pub none_whole : (whole : ℕ) → whole ≡ get_or regions whole_at 0 → whole ≡ 0 → gone k n ≡ []
      none_whole whole e z = empty (gone k n) (omega (arith, goes_within whole (length (gone k n)) e refl))
        where
          empty : (l : List Region) → length l ≤ 0 → l ≡ []
          empty [] h = refl
          empty (x ∷ l) h = absurd (omega arith)

      -- nor where it is the number of those that stay
      pub none_gone : (whole stay : ℕ) → whole ≡ get_or regions whole_at 0 → stay ≡ spared_in (held k) spare (free_of (free n)) → whole ≡ stay → gone k n ≡ []
      none_gone whole stay e p q = nothing_goes (held k) spare (free_of (free n)) (sym whole_now_lem ∙ sym e ∙ q ∙ p)

    gone_is : gone k n ≡ gone_from s spare now
    unfolding store_of
    gone_is = λ j. gone (k_is j) (count_is j)

    pub gone_count : (count : ℕ) → count ≡ length (gone k n) → count ≡ length (gone_from s spare now)
    gone_count count e = e ∙ ap length gone_is

    pub gone_bytes : (bytes : ℕ) → bytes ≡ bytes_of (gone k n) → bytes ≡ bytes_of (gone_from s spare now)
    gone_bytes bytes e = e ∙ ap bytes_of gone_is

    pub gone_list : (l : List ℕ) → l ≡ sets list 0 (memories_of (held k) (gone k n)) → l ≡ sets list 0 (memories_of (store_of s now).chunks (gone_from s spare now))
    unfolding store_of
    gone_list l e = e ∙ (λ j. sets list 0 (memories_of (held (k_is j)) (gone (k_is j) (count_is j))))

    leaves_is : leaves k n (get_or regions whole_at 0) ≡ released_tables s spare now
    unfolding released_tables store_of laid_gaps laid_chunks
    leaves_is = λ j. leaves (k_is j) (count_is j) (get_or regions whole_at 0)

    pub gone_tables : (few left whole count : ℕ) (c c' r r' r'' : List ℕ)
        → few ≡ length (remaining (gone k n) (held k)) → left ≡ length (staying_gaps (held k) spare (free n)) → whole ≡ get_or regions whole_at 0 → count ≡ length (gone k n)
        → c ≡ laid chunk_row (remaining (gone k n) (held k)) chunks → r ≡ laid gap_row (staying_gaps (held k) spare (free n)) regions
        → c' ≡ set c chunks_at few → r' ≡ set r region_count_at left → r'' ≡ set r' whole_at (whole - count)
        → tables [] [] c' [] r'' ≡ released_tables s spare now
    gone_tables few left whole count c c' r r' r'' m f w v o p g q z =
        let c_is = g ∙ (λ j. set (o j) chunks_at (m j)) in
        let r_is = q ∙ (λ j. set (p j) region_count_at (f j)) in
        let w_is = z ∙ (λ j. set (r_is j) whole_at (w j - v j)) in
        (λ j. tables [] [] (c_is j) [] (w_is j)) ∙ leaves_is

    -- ---- where nothing goes, the tables are as they were

    module _ (f : Frees s chunks regions list) (e : gone k n ≡ []) where
      same_chunks : set (laid chunk_row (remaining (gone k n) (held k)) chunks) chunks_at (length (remaining (gone k n) (held k))) ≡ chunks
      same_chunks =
          let a : remaining (gone k n) (held k) ≡ held k = ap (λ (z : List Region). remaining z (held k)) e ∙ all_remain (held k) in
          let b : length (held k) ≡ get_or chunks chunks_at 0 = length_rows chunk_row k chunks ∙ k_is in
          (λ j. set (laid chunk_row (a j) chunks) chunks_at (length (a j)))
          ∙ (λ j. set (laid_rows chunk_row k chunks (drop_fits f).0 j) chunks_at (b j))
          ∙ set-get_or chunks chunks_at 0

      same_regions : set (set (laid gap_row (staying_gaps (held k) spare (free n)) regions) region_count_at (length (staying_gaps (held k) spare (free n)))) whole_at (get_or regions whole_at 0 - length (gone k n)) ≡ regions
      same_regions =
          let a : staying_gaps (held k) spare (free n) ≡ free n = all_stay (held k) spare (free n) e in
          let b : length (free n) ≡ get_or regions region_count_at 0 = length_rows gap_row n regions ∙ count_is in
          let w : get_or regions whole_at 0 - length (gone k n) ≡ get_or regions whole_at 0 = omega (arith, ap length e) in
          let l : set (laid gap_row (free n) regions) region_count_at (length (free n)) ≡ regions =
          (λ j. set (laid_rows gap_row n regions (drop_fits f).1 j) region_count_at (b j)) ∙ set-get_or regions region_count_at 0 in
          (λ j. set (set (laid gap_row (a j) regions) region_count_at (length (a j))) whole_at (w j))
          ∙ ap (λ (z : List ℕ). set z whole_at (get_or regions whole_at 0)) l
          ∙ set-get_or regions whole_at 0

      -- what a release that writes nothing answers and leaves
      pub none_left :
          (0 ≡ length (gone_from s spare now))
          × ((0 ≡ bytes_of (gone_from s spare now))
          × ((tables [] [] chunks [] regions ≡ released_tables s spare now)
          × (list ≡ sets list 0 (memories_of (store_of s now).chunks (gone_from s spare now)))))
      none_left = (
        gone_count 0 (ap length (sym e)),
        (
          gone_bytes 0 (ap bytes_of (sym e)),
          (
            sym (λ j. tables [] [] (same_chunks j) [] (same_regions j)) ∙ leaves_is,
            gone_list list (ap (λ (z : List Region). sets list 0 (memories_of (held k) z)) (sym e)),
          ),
        ),
      )
