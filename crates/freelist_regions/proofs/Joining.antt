-- A block put among the free regions, in words.
use Rattle.std.proofs.Common.{◌≡◌, ℕ, ◌+◌, ◌-◌, ◌*◌, ◌<◌, ◌≤◌, Bool, true, ◌&&◌, ltb, List, length, get_or, sym, ap, ◌∙◌, arith}
use Rattle.words.specs.Rows.{row, rows, laid}
use Rattle.words.proofs.Records.{length_rows, get_d_rows, length_laid}
use Rattle.store_rules.specs.declared.Region.{Region}
use Rattle.freelist_rules.specs.declared.Gap.{Gap}
use Rattle.freelist_rules.specs.Records.{gap_row, region_chunk_at, region_words}
use Rattle.freelist_rules.specs.Pieces.{lo, hi, Rising}
use Rattle.freelist_rules.specs.Join.{meets, insert}
use Rattle.freelist_rules.specs.Threads.{gap, region_in, free_of, no_gap, renamed_from, insert_gap, around}
use Rattle.freelist_rules.proofs.GapLists.{free_at, free_length, insert_free, renamed_from_length}
use Rattle.freelist_regions.specs.Order.{LowPlace, RegionsStand}
use Rattle.freelist_regions.specs.Stand.{after, Parts}
use Rattle.freelist_regions.specs.Settled.{reached, settled, behind, CanSettle}
use Rattle.freelist_regions.proofs.Standing.{region_before, region_past}
use Rattle.freelist_regions.proofs.Shapes.{before_some, next_under, inserts, behind_within, settled_more}
use Rattle.freelist_regions.proofs.Renaming.{rest, rest_laid}

-- the neighbours of place k are read and tested
module _ (t : List ℕ) (n k : ℕ) (b : Region) (r u : ℕ) (room : region_words + region_words * n ≤ length t) (rise : Rising lo hi 1 0 (free_of (rows gap_row n t)))
    (stand : RegionsStand (free_of (rows gap_row n t))) (low : LowPlace b.start) (fits : region_words + region_words * length (insert b (free_of (rows gap_row n t))) ≤ length t)
    (w : Parts (after t region_chunk_at region_words b.chunk b.start) n k) (before next : Bool)
    (eb : before ≡ (ltb 0 k && meets (region_in (row gap_row (k - 1) t)) b)) (en : next ≡ (ltb k n && meets b (region_in (row gap_row k t)))) where
  abbrev gs : List Gap
  gs = rows gap_row n t

  abbrev p : Region
  p = region_in (row gap_row (k - 1) t)

  abbrev q : Region
  q = region_in (row gap_row k t)

  long : length gs ≡ n
  long = length_rows gap_row n t

  most : k ≤ length gs
  most = omega (arith, long, w.most)

  lower : (i : ℕ) → i < k → lo (region_in (get_or gs i no_gap)) ≤ lo b
  lower i h = omega (arith, region_before t n stand b.chunk b.start k low w i h, ap lo (free_at gs i))

  higher : k < length gs → lo b < lo (region_in (get_or gs k no_gap))
  higher h = omega (arith, region_past t n stand b.chunk b.start k low w k (omega arith) (omega (arith, long)), ap lo (free_at gs k))

  is_p : 0 < k → p ≡ region_in (get_or gs (k - 1) no_gap)
  is_p h = ap region_in (sym (get_d_rows gap_row n (k - 1) t no_gap (omega (arith, w.most))))

  is_q : k < n → q ≡ region_in (get_or gs k no_gap)
  is_q h = ap region_in (sym (get_d_rows gap_row n k t no_gap h))

  -- the gap that b is part of, and the gaps with it in its place
  abbrev g : Gap
  g = gap (reached before next p q b) u

  abbrev qs : List Gap
  qs = settled before next k g gs

  all_told : (insert_gap b r u gs ≡ renamed_from (behind before k) r u qs) × (around b (free_of gs) ≡ reached before next p q b)
  all_told = inserts b r u k gs most rise lower higher before next n long p q is_p is_q eb en

  many : length (insert_gap b r u gs) ≡ length qs
  many = ap length all_told.0 ∙ renamed_from_length r u (behind before k) qs

  fits' : region_words + region_words * length qs ≤ length t
  fits' = omega (arith, fits, many, ap length (insert_free b r u gs), free_length (insert_gap b r u gs))

  reach_some : before ≡ true → 0 < k
  reach_some = before_some b r u k gs most rise lower higher before next n long p q is_p is_q eb en

  pub can_settle : CanSettle before next n k t
  can_settle = record {
    most = w.most;
    room = room;
    some = reach_some;
    under = next_under b r u k gs most rise lower higher before next n long p q is_p is_q eb en;
    more = λ e f. omega (arith, fits', settled_more b r u k gs most rise lower higher before next n long p q is_p is_q eb en g e f);
  }

  -- the region that b is part of and where the gaps behind it begin, as they are read
  module _ (d : Region) (is : d ≡ reached before next p q b) (from : ℕ) (at : from ≡ behind before k) where
    as_read : settled before next k (gap d u) gs ≡ qs
    as_read = ap (λ (x : Region). settled before next k (gap x u) gs) is

    pub can_rename : (m : ℕ) (v : List ℕ) → m ≡ length (settled before next k (gap d u) gs) → v ≡ laid gap_row (settled before next k (gap d u) gs) t → (from ≤ m) × (region_words + region_words * m ≤ length v)
    can_rename m v e z =
        let y : m ≡ length qs = e ∙ ap length as_read in
        let l : length v ≡ length t = ap length (z ∙ ap (λ (xs : List Gap). laid gap_row xs t) as_read) ∙ length_laid gap_row qs t fits' in
        (omega (arith, y, at, behind_within b r u k gs most rise lower higher before next n long p q is_p is_q eb en g), omega (arith, y, l, fits'))

    pub joined : (m : ℕ) (v x : List ℕ) → m ≡ length (settled before next k (gap d u) gs) → v ≡ laid gap_row (settled before next k (gap d u) gs) t → x ≡ rest m from r u v
        → (m ≡ length (insert_gap b r u gs)) × (d ≡ around b (free_of gs)) × (x ≡ laid gap_row (insert_gap b r u gs) t)
    joined m v x e z o =
        let y : m ≡ length qs = e ∙ ap length as_read in
        let f : region_words + region_words * m ≤ length t = omega (arith, y, fits') in (
          y ∙ sym many,
          is ∙ sym all_told.1,
          o
              ∙ ap (λ (i : ℕ). rest m i r u v) at
              ∙ rest_laid m (behind before k) r u t v qs f (sym y) (z ∙ ap (λ (xs : List Gap). laid gap_row xs t) as_read)
              ∙ ap (λ (xs : List Gap). laid gap_row xs t) (sym all_told.0),
        )
