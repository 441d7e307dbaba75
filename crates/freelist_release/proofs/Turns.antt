-- The turns of the loops that keep what stays: one record looked at, passed over or written behind those kept.
use mathlib.Core.Path.{◌≡◌, ap, ◌∙◌}
use mathlib.Core.Bool.{Bool, true, false, ◌&&◌, not}
use mathlib.Core.List.{List}
use Prim.Native.Nat.{ℕ, ◌+◌, ◌*◌, ◌≤◌, ◌<◌}
use native.Mathlib.Omega.{arith}
use lib.Dec.{eqb}
use lib.ListN.{length}
use Rattle.words.specs.Rows.{row, rows, laid, written}
use Rattle.words.proofs.Records.{length_rows}
use Rattle.freelist_rules.specs.Records.{chunk_row, gap_row}
use Rattle.freelist_rules.specs.Release.{wholly}
use Rattle.store_rules.specs.declared.Chunk.{Chunk}
use Rattle.freelist_rules.specs.declared.Gap.{Gap}
use Rattle.freelist_rules.specs.Threads.{region_in, staying_gaps}
use Rattle.freelist_release.specs.Listed.{among, unlisted}
use Rattle.freelist_release.proofs.Keeping.{Kept, kept_row, kept_past, kept_more, kept_all}
use Rattle.freelist_release.proofs.Staying.{staying_past, staying_more, staying_end, unlisted_past, unlisted_more, unlisted_end}

module _ (cs : List Chunk) (spare : Bool) (t : List ℕ) (n : ℕ) where
  abbrev pub KeptRegions : List ℕ → ℕ → ℕ → Type 0
  KeptRegions u i kept = Kept gap_row (staying_gaps cs spare) (rows gap_row n t) t u i kept

  module _ (u : List ℕ) (i kept : ℕ) (now : KeptRegions u i kept) where
    pub regions_done : n ≤ i → (kept ≡ length (staying_gaps cs spare (rows gap_row n t))) × (u ≡ laid gap_row (staying_gaps cs spare (rows gap_row n t)) t)
    regions_done h = kept_all gap_row (staying_gaps cs spare) (rows gap_row n t) t u i kept now (staying_end cs spare) (omega (arith, length_rows gap_row n t))

    module _ (h : i < n) (long : 4 + 4 * n ≤ length t) (b : Bool) (e : b ≡ (not (spare && eqb (i + 1) n) && wholly cs (region_in (row gap_row i u)))) where
      same : row gap_row i u ≡ row gap_row i t
      same = kept_row gap_row (staying_gaps cs spare) (rows gap_row n t) t u i kept now (omega arith)

      tested : b ≡ (not (spare && eqb (i + 1) n) && wholly cs (region_in (row gap_row i t)))
      tested = e ∙ ap (λ (g : Gap). not (spare && eqb (i + 1) n) && wholly cs (region_in g)) same

      pub region_past : b ≡ true → KeptRegions u (i + 1) kept
      region_past q = kept_past gap_row (staying_gaps cs spare) (rows gap_row n t) t u i kept now (staying_past cs spare t n i h b tested q)

      pub region_more : b ≡ false → (g : Gap) → g ≡ row gap_row i u → (v : List ℕ) → v ≡ written gap_row kept g u → KeptRegions v (i + 1) (kept + 1)
      region_more q g is v p =
          kept_more gap_row (staying_gaps cs spare) (rows gap_row n t) t u i kept now (row gap_row i t) v (staying_more cs spare t n i h b tested q)
          (p ∙ ap (λ (z : Gap). written gap_row kept z u) (is ∙ same)) (omega arith)

module _ (ms t : List ℕ) (k : ℕ) where
  abbrev pub KeptChunks : List ℕ → ℕ → ℕ → Type 0
  KeptChunks u i kept = Kept chunk_row (unlisted ms) (rows chunk_row k t) t u i kept

  module _ (u : List ℕ) (i kept : ℕ) (now : KeptChunks u i kept) where
    pub chunks_done : k ≤ i → (kept ≡ length (unlisted ms (rows chunk_row k t))) × (u ≡ laid chunk_row (unlisted ms (rows chunk_row k t)) t)
    chunks_done h = kept_all chunk_row (unlisted ms) (rows chunk_row k t) t u i kept now (unlisted_end ms) (omega (arith, length_rows chunk_row k t))

    module _ (h : i < k) (long : 3 + 3 * k ≤ length t) (c : Chunk) (is : c ≡ row chunk_row i u) (b : Bool) (e : b ≡ among c.memory ms) where
      first : c ≡ row chunk_row i t
      first = is ∙ kept_row chunk_row (unlisted ms) (rows chunk_row k t) t u i kept now (omega arith)

      pub chunk_past : b ≡ true → KeptChunks u (i + 1) kept
      chunk_past q = kept_past chunk_row (unlisted ms) (rows chunk_row k t) t u i kept now (unlisted_past ms chunk_row t k i h c first b e q)

      pub chunk_more : b ≡ false → (v : List ℕ) → v ≡ written chunk_row kept c u → KeptChunks v (i + 1) (kept + 1)
      chunk_more q v p =
          kept_more chunk_row (unlisted ms) (rows chunk_row k t) t u i kept now c v (unlisted_more ms chunk_row t k i h c first b e q) p (omega arith)
