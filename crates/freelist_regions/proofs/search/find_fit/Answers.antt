use Rattle.std.proofs.Common.{◌≡◌, ℕ, suc, ◌-◌, ◌<◌, ◌≤◌, true, false, List, length, get_or, take, sym, refl, ap, ◌∙◌, arith, rules}
use Rattle.std.specs.Prelude.{Option, Some, None, Bool, cond}
use Rattle.words.specs.Words.{cell_of}
use Rattle.words.specs.Rows.{rows, row}
use Rattle.words.proofs.Records.{length_rows, get_d_rows}
use Rattle.freelist_rules.specs.Records.{region, gap_row, region_words, region_start_at, region_end_at}
use Rattle.freelist_rules.specs.Place.{at, cut, fits_in, find}
use Rattle.freelist_rules.specs.Steps.{no_region}
use Rattle.store_rules.specs.declared.Region.{Region}
use Rattle.freelist_rules.specs.Threads.{region_in, free_of, no_gap}
use Rattle.freelist_rules.proofs.GapLists.{free_at, free_length}
use Rattle.freelist_rules.proofs.Search.{find_start, find_none, find_here, find_past}
use Rattle.freelist_regions.proofs.Passing.{region_read, all_passed}
-- what fits stands among the first k
use Rattle.freelist_regions.proofs.search.find_fit.Goals as goal

-- what the code found in a region
module _ (mask size : ℕ) (r : Region) (o : Option ℕ) (told : o ≡ cond (fits_in mask size r) (Some (cut mask size r)) None) where
  found : (x : ℕ) → o ≡ Some x → (fits_in mask size r ≡ true) × (x ≡ cut mask size r)
  found x e = by (fits_in mask size r) (sym e ∙ told)
    where
      by : (b : Bool) → Some x ≡ cond b (Some (cut mask size r)) None → (b ≡ true) × (x ≡ cut mask size r)
      by true q = (refl, let z : Some x ≡ Some (cut mask size r) = q in cc)
      by false q = let z : Some x ≡ None = q in cc

  missed : o ≡ None → fits_in mask size r ≡ false
  missed e = by (fits_in mask size r) (sym e ∙ told)
    where
      by : (b : Bool) → None ≡ cond b (Some (cut mask size r)) None → b ≡ false
      by true q = let z : None ≡ Some (cut mask size r) = q in cc
      by false q = refl

module _ (t : List ℕ) (n k mask size start end : ℕ) (s : start ≡ get_or t (cell_of region_start_at region_words (k - 1)) 0) (e : end ≡ get_or t (cell_of region_end_at region_words (k - 1)) 0)
    (some : 0 < k) (most : k ≤ n) (inv : find mask size (free_of (rows gap_row n t)) ≡ find mask size (take k (free_of (rows gap_row n t)))) where
  abbrev rs : List Region
  rs = free_of (rows gap_row n t)

  -- its chunk is not read
  abbrev chunk : ℕ
  chunk = (row gap_row (k - 1) t).chunk

  below : k - 1 < length rs
  below = omega (arith, free_length (rows gap_row n t), length_rows gap_row n t)

  last : suc (k - 1) ≡ k
  last = omega arith

  is : region chunk start end ≡ get_or rs (k - 1) no_region
  is = region_read t (k - 1) start end s e ∙ sym (free_at (rows gap_row n t) (k - 1) ∙ ap region_in (get_d_rows gap_row n (k - 1) t no_gap (omega arith)))

  here : fits_in mask size (region chunk start end) ≡ true → find mask size rs ≡ at (k - 1)
  here f = inv ∙ rw last at (find_here mask size (k - 1) rs no_region below (ap (fits_in mask size) (sym is) ∙ f))

  past : fits_in mask size (region chunk start end) ≡ false → find mask size rs ≡ find mask size (take (k - 1) rs)
  past f = inv ∙ rw last at (find_past mask size (k - 1) rs no_region below (ap (fits_in mask size) (sym is) ∙ f))

  starts : (x : ℕ) → x ≡ cut mask size (region 0 start end) → x ≡ cut mask size (get_or rs (k - 1) no_region)
  starts x f = f ∙ ap (cut mask size) is

pub loop-k-init : goal.loop-k-init
loop-k-init c =
    let a = c.args in
    let rs = free_of (rows gap_row a.n a.t.now) in
    let w = c.without_short-k.ensures in (
      w.0,
      find_start a.mask a.size rs
          ∙ ap (λ (m : ℕ). find a.mask a.size (take m rs)) (free_length (rows gap_row a.n a.t.now) ∙ length_rows gap_row a.n a.t.now)
          ∙ all_passed a.size a.t.now a.mask a.n a.n _ w.0 (omega arith) w.1,
    )

pub place_in-requires : goal.place_in-requires
place_in-requires c = c.requires.0

-- the region at hand, of the first k, by its start and its end

pub returns-in-Some : goal.returns-in-Some
returns-in-Some c =
    let a = c.args in
    let l = c.loop-k in
    let r : Region = region (row gap_row (l.k - 1) a.t.now).chunk c.word_at-start.result c.word_at-end.result in
    let v = found a.mask a.size r c.place_in.result (c.place_in.ensures r.chunk) c.in-Some.place c.in-Some.is in
    record {
      result_value = sym (here a.t.now a.n l.k a.mask a.size _ _ c.word_at-start.ensures c.word_at-end.ensures (search rules) (search rules) l.invariant.1 v.0);
      starts = starts a.t.now a.n l.k a.mask a.size _ _ c.word_at-start.ensures c.word_at-end.ensures (search rules) (search rules) l.invariant.1 _ v.1;
    }

pub loop-k-smaller-then-is_long : goal.loop-k-smaller-then-is_long
loop-k-smaller-then-is_long c = omega (arith, c.without_short-k-then-is_long.ensures.0)

pub loop-k-preserved-then-is_long : goal.loop-k-preserved-then-is_long
loop-k-preserved-then-is_long c =
    let l = c.loop-k in
    let a = c.args in
    let w = c.without_short-k-then-is_long.ensures in
    let r : Region = region (row gap_row (l.k - 1) a.t.now).chunk c.word_at-start.result c.word_at-end.result in (
      omega (arith, w.0),
      past a.t.now a.n l.k a.mask a.size _ _ c.word_at-start.ensures c.word_at-end.ensures (search rules) (search rules) l.invariant.1 (missed a.mask a.size r c.place_in.result (c.place_in.ensures r.chunk) c.in_default.is)
          ∙ all_passed a.size a.t.now a.mask a.n _ _ w.0 (omega arith) w.1,
    )

pub loop-k-preserved : goal.loop-k-preserved
loop-k-preserved c =
    let l = c.loop-k in
    let a = c.args in
    (omega arith, past a.t.now a.n l.k a.mask a.size _ _ c.word_at-start.ensures c.word_at-end.ensures (search rules) (search rules) l.invariant.1 (c.is_long.ensures c.if-is_long.false a.mask _))

pub returns : goal.returns
returns c = let a = c.args in
    let l = c.loop-k in
    let rs = free_of (rows gap_row a.n a.t.now) in
    let e : l.k ≡ 0 = omega arith in record { result_value = sym ((rw e at l.invariant.1) ∙ find_none a.mask a.size rs); starts = tt }
