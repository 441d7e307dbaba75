-- How many of the wholly free chunks stay, as code tells it; where no more are wholly free, nothing goes.
use mathlib.Core.Path.{◌≡◌, refl, sym, ap, ◌∙◌}
use mathlib.Core.Bool.{Bool, true, false, cond, ◌&&◌}
use mathlib.Core.Logic.{⊎_elim}
use mathlib.Core.List.{List, [], ◌∷◌, ◌++◌}
use Prim.Native.Nat.{ℕ, ◌+◌, ◌-◌, ◌≤◌, ◌<◌}
use native.Mathlib.Omega.{arith}
use lib.Dec.{ltb}
use lib.ListN.{length, get_or, length-append}
use borrow.Author.Tests.{ltb-true}
use Rattle.lists.proofs.Bools.{told, and_left, and_right, true_false}
use Rattle.words.specs.Rows.{row, rows}
use Rattle.words.proofs.Records.{length_rows, get_d_rows}
use Rattle.store_rules.specs.declared.Chunk.{Chunk}
use Rattle.store_rules.specs.declared.Region.{Region}
use Rattle.freelist_rules.specs.Records.{gap_row}
use Rattle.freelist_rules.specs.Release.{wholly, goes, rotated, leaving}
use Rattle.freelist_rules.specs.Steps.{no_region}
use Rattle.freelist_rules.specs.Threads.{region_in, free_of, no_gap, wholes}
use Rattle.freelist_rules.proofs.GapLists.{free_at, free_length, count_one, none_leave, last_stays}
use Rattle.freelist_marks.proofs.Fronts.{length_rotated}
use Rattle.freelist_release.specs.Spared.{spared_in}

-- ---- the number, as code tells it

module _ (cs : List Chunk) (spare : Bool) (t : List ℕ) (n : ℕ) where
  abbrev rs : List Region
  rs = free_of (rows gap_row n t)

  long : length rs ≡ n
  long = free_length (rows gap_row n t) ∙ length_rows gap_row n t

  -- by the count that the code read
  by_count : spared_in cs spare rs ≡ cond (spare && (ltb 0 n && wholly cs (get_or rs (n - 1) no_region))) 1 0
  unfolding spared_in
  by_count = ap (λ (m : ℕ). cond (spare && (ltb 0 m && wholly cs (get_or rs (m - 1) no_region))) 1 0) long

  off : (a b w : Bool) → (a && b) ≡ false → ◌≡◌ {A = ℕ} (cond (a && (b && w)) 1 0) 0
  off true true w e = absurd (true_false true refl e)
  off true false w e = refl
  off false b w e = refl

  pub spared_off : (spare && ltb 0 n) ≡ false → 0 ≡ spared_in cs spare rs
  spared_off e = sym (by_count ∙ off spare (ltb 0 n) (wholly cs (get_or rs (n - 1) no_region)) e)

  module _ (on : (spare && ltb 0 n) ≡ true) where
    last_is : get_or rs (n - 1) no_region ≡ region_in (row gap_row (n - 1) t)
    last_is =
        let h : 0 < n = ltb-true 0 n (and_right spare (ltb 0 n) on) in
        free_at (rows gap_row n t) (n - 1) ∙ ap region_in (get_d_rows gap_row n (n - 1) t no_gap (omega arith))

    by_last : spared_in cs spare rs ≡ cond (wholly cs (region_in (row gap_row (n - 1) t))) 1 0
    by_last = by_count ∙ rw (and_left spare (ltb 0 n) on, and_right spare (ltb 0 n) on, last_is)

    pub spared_on : (b v : Bool) → b ≡ wholly cs (region_in (row gap_row (n - 1) t)) → b ≡ v → cond v 1 0 ≡ spared_in cs spare rs
    spared_on b v e q = ap {B = ℕ} (λ (x : Bool). cond x 1 0) (sym q ∙ e) ∙ sym by_last

-- ---- nothing goes

module _ (cs : List Chunk) where
  pub nothing_goes : (spare : Bool) (rs : List Region) → wholes cs rs ≡ spared_in cs spare rs → leaving cs spare [] rs ≡ []
  unfolding spared_in
  nothing_goes false rs e = (none_leave cs false rs e).1
  nothing_goes true rs e = ⊎_elim yes' no' (told (ltb 0 (length rs) && wholly cs (get_or rs (length rs - 1) no_region)))
    where
      yes' : (ltb 0 (length rs) && wholly cs (get_or rs (length rs - 1) no_region)) ≡ true → leaving cs true [] rs ≡ []
      yes' k = (last_stays cs rs (e ∙ ap {B = ℕ} (λ (b : Bool). cond b 1 0) k) (and_right (ltb 0 (length rs)) (wholly cs (get_or rs (length rs - 1) no_region)) k)).1

      no' : (ltb 0 (length rs) && wholly cs (get_or rs (length rs - 1) no_region)) ≡ false → leaving cs true [] rs ≡ []
      no' k = (none_leave cs true rs (e ∙ ap {B = ℕ} (λ (b : Bool). cond b 1 0) k)).1

  -- ---- no more go than are all of their chunk

  goes_whole : (spare : Bool) (r : Region) (rs : List Region) → cond (goes cs spare r rs) 1 0 ≤ cond (wholly cs r) 1 0
  goes_whole true r [] = omega arith
  goes_whole false r [] = omega arith
  goes_whole spare r (d ∷ rs) = omega arith

  pub few_go : (spare : Bool) (marked rs : List Region) → length (leaving cs spare marked rs) ≤ length marked + wholes cs rs
  unfolding leaving
  few_go spare marked [] = omega arith
  few_go spare marked (r ∷ rs) = go (goes cs spare r rs) (goes_whole spare r rs) (few_go spare (marked ++ (r ∷ [])) rs) (few_go spare (rotated marked) rs)
    where
      go : (b : Bool) → cond b 1 0 ≤ cond (wholly cs r) 1 0 → length (leaving cs spare (marked ++ (r ∷ [])) rs) ≤ length (marked ++ (r ∷ [])) + wholes cs rs
          → length (leaving cs spare (rotated marked) rs) ≤ length (rotated marked) + wholes cs rs
          → length (cond b (leaving cs spare (marked ++ (r ∷ [])) rs) (leaving cs spare (rotated marked) rs)) ≤ length marked + wholes cs (r ∷ rs)
      go true h p q = omega (arith, h, p, count_one cs r rs, length-append marked (r ∷ []))
      go false h p q = omega (arith, q, count_one cs r rs, length_rotated marked)
