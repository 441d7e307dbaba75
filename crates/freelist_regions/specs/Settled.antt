-- A block among the gaps, by which of its two neighbours, before place k and at it, it touches.
use Rattle.std.specs.Prelude.{◌≡◌, ℕ, ◌+◌, ◌-◌, ◌*◌, ◌<◌, ◌≤◌, Bool, true, false, cond, List, length, slice_set}
use Rattle.words.specs.Rows.{remove_at, insert_at}
use Rattle.store_rules.specs.declared.Region.{Region}
use Rattle.freelist_rules.specs.declared.Gap.{Gap}
use Rattle.freelist_rules.specs.Records.{region, region_words}

-- the region that b is part of, between p and n
unfoldable pub reached : Bool → Bool → Region → Region → Region → Region
reached before next p n b = region b.chunk (cond before p.start b.start) (cond next n.end b.end)

-- the gaps with g, which b is part of, in place of those it touches
unfoldable pub settled : Bool → Bool → ℕ → Gap → List Gap → List Gap
settled true true k g gs = slice_set (remove_at k gs) (k - 1) g
settled true false k g gs = slice_set gs (k - 1) g
settled false true k g gs = slice_set gs k g
settled false false k g gs = insert_at k g gs

-- where those behind it begin then
unfoldable pub behind : Bool → ℕ → ℕ
behind true k = k
behind false k = k + 1

-- b touches neighbours that are there, and there is room for one gap more where it touches none
pub record CanSettle (before next : Bool) (n k : ℕ) (t : List ℕ) : Type 0 where
  pub most : k ≤ n
  pub room : region_words + region_words * n ≤ length t
  pub some : before ≡ true → 0 < k
  pub under : next ≡ true → k < n
  pub more : before ≡ false → next ≡ false → region_words + region_words * (n + 1) ≤ length t
