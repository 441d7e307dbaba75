-- What a loop that looks for a region or a loan finds, by index.
use mathlib.Core.Path.{◌≡◌, refl, sym, ◌∙◌, ap}
use mathlib.Core.Bool.{true, false, cond}
use mathlib.Core.Logic.{◌⊎◌, inl, inr}
use mathlib.Core.List.{List, [], ◌∷◌}
use Prim.Native.Nat.{ℕ, zero, suc, ◌+◌, ◌<◌}
use native.Mathlib.Omega.{arith}
use lib.ListN.{length, take, get_or}
use lib.Seq.{take-length}
use Rattle.counter.specs.declared.answers.Block.{Block}
use Rattle.lists.proofs.Bools.{told}
use Rattle.store_rules.specs.declared.Loan.{Loan}
use Rattle.freelist_rules.specs.Place.{Found, nowhere, at, or_else, fits_in, find_from, find}
pub use Rattle.store_rules.proofs.Loaned.{same_loan_lem}
use Rattle.freelist_rules.specs.Seek.{same_loan, seek_from, seek}
use Rattle.store_rules.specs.declared.Region.{Region}

-- ---- a region, from the last back: before the turn at i the regions from i + 1 on are passed

module _ (mask n : ℕ) where
  pub find_start : (rs : List Region) → find mask n rs ≡ find mask n (take (length rs) rs)
  find_start rs = rw take-length

  pub find_none : (rs : List Region) → find mask n (take 0 rs) ≡ nowhere
  unfolding find_from
  find_none rs = refl

  from_here : (j i : ℕ) (rs : List Region) (d : Region) → i < length rs → fits_in mask n (get_or rs i d) ≡ true → find_from mask n j (take (suc i) rs) ≡ at (j + i)
  unfolding find_from
  from_here j i [] d h f = absurd (omega arith)
  from_here j zero (r ∷ rs) d h f = let e : j ≡ j + 0 = omega arith in rw f (ap at e)
  from_here j (suc i) (r ∷ rs) d h f =
      let e : suc j + i ≡ j + suc i = omega arith in
      rw (from_here (suc j) i rs d (omega arith) f) (ap at e)

  from_past : (j i : ℕ) (rs : List Region) (d : Region) → i < length rs → fits_in mask n (get_or rs i d) ≡ false → find_from mask n j (take (suc i) rs) ≡ find_from mask n j (take i rs)
  unfolding find_from
  from_past j i [] d h f = absurd (omega arith)
  from_past j zero (r ∷ rs) d h f = rw f
  from_past j (suc i) (r ∷ rs) d h f = rw (from_past (suc j) i rs d (omega arith) f)

  pub find_here : (i : ℕ) (rs : List Region) (d : Region) → i < length rs → fits_in mask n (get_or rs i d) ≡ true → find mask n (take (suc i) rs) ≡ at i
  find_here i rs d h f = let e : 0 + i ≡ i = omega arith in from_here 0 i rs d h f ∙ ap at e

  pub find_past : (i : ℕ) (rs : List Region) (d : Region) → i < length rs → fits_in mask n (get_or rs i d) ≡ false → find mask n (take (suc i) rs) ≡ find mask n (take i rs)
  find_past i rs d h f = from_past 0 i rs d h f

  -- what is found fits, nothing behind it does, and where nothing is found nothing fits
  abbrev Last : ℕ → ℕ → List Region → Region → Type 0
  Last j i rs d = (k : ℕ) × (i ≡ j + k) × (k < length rs) × (fits_in mask n (get_or rs k d) ≡ true) × ((m : ℕ) → k < m → m < length rs → fits_in mask n (get_or rs m d) ≡ false)

  abbrev Told : ℕ → List Region → Region → Found → Type 0
  Told j rs d (at i) = Last j i rs d
  Told j rs d nowhere = (m : ℕ) → m < length rs → fits_in mask n (get_or rs m d) ≡ false

  from_told : (j : ℕ) (rs : List Region) (d : Region) → Told j rs d (find_from mask n j rs)
  unfolding find_from
  from_told j [] d = λ m h. absurd (omega arith)
  from_told j (r ∷ rs) d = go (find_from mask n (suc j) rs) (from_told (suc j) rs d) (told (fits_in mask n r))
    where
      behind' : ((m : ℕ) → m < length rs → fits_in mask n (get_or rs m d) ≡ false) → (m : ℕ) → 0 < m → m < suc (length rs) → fits_in mask n (get_or (r ∷ rs) m d) ≡ false
      behind' f zero p q = absurd (omega arith)
      behind' f (suc m) p q = f m (omega arith)

      all' : ((m : ℕ) → m < length rs → fits_in mask n (get_or rs m d) ≡ false) → fits_in mask n r ≡ false → (m : ℕ) → m < suc (length rs) → fits_in mask n (get_or (r ∷ rs) m d) ≡ false
      all' f e zero q = e
      all' f e (suc m) q = f m (omega arith)

      later' : (k : ℕ) → ((m : ℕ) → k < m → m < length rs → fits_in mask n (get_or rs m d) ≡ false) → (m : ℕ) → suc k < m → m < suc (length rs) → fits_in mask n (get_or (r ∷ rs) m d) ≡ false
      later' k f zero p q = absurd (omega arith)
      later' k f (suc m) p q = f m (omega arith) (omega arith)

      go : (o : Found) → Told (suc j) rs d o → (fits_in mask n r ≡ true) ⊎ (fits_in mask n r ≡ false) → Told j (r ∷ rs) d (or_else o (cond (fits_in mask n r) (at j) nowhere))
      go (at i) w q = (suc w.0, omega (arith, w.1), omega (arith, w.2), w.3, later' w.0 w.4)
      go nowhere w (inl e) = rw e (0, omega arith, omega arith, e, behind' w)
      go nowhere w (inr e) = rw e (all' w e)

  pub find_fits : (i : ℕ) (rs : List Region) (d : Region) → find mask n rs ≡ at i → (i < length rs) × (fits_in mask n (get_or rs i d) ≡ true)
  find_fits i rs d e =
      let w : Last 0 i rs d = rw e at (from_told 0 rs d) in
      let k : w.0 ≡ i = omega (arith, w.1) in
      (omega (arith, w.2, k), ap (λ (m : ℕ). fits_in mask n (get_or rs m d)) (sym k) ∙ w.3)

  pub find_last : (i : ℕ) (rs : List Region) (d : Region) → find mask n rs ≡ at i → (m : ℕ) → i < m → m < length rs → fits_in mask n (get_or rs m d) ≡ false
  find_last i rs d e m p q =
      let w : Last 0 i rs d = rw e at (from_told 0 rs d) in
      w.4 m (omega (arith, w.1)) q

  pub find_nowhere : (rs : List Region) (d : Region) → find mask n rs ≡ nowhere → (m : ℕ) → m < length rs → fits_in mask n (get_or rs m d) ≡ false
  find_nowhere rs d e = let w : Told 0 rs d nowhere = rw e at (from_told 0 rs d) in w

-- ---- the loan of a block

-- what is found is the block
pub seek_is : (b : Block) (i : ℕ) (ls : List Loan) (d : Loan) → seek b ls ≡ at i → (i < length ls) × (same_loan b (get_or ls i d) ≡ true)
unfolding seek_from
seek_is b i ls d e =
    let w = is' 0 ls e in
    let k : w.0 ≡ i = omega (arith, w.1) in
    (omega (arith, w.2, k), ap (λ (m : ℕ). same_loan b (get_or ls m d)) (sym k) ∙ w.3)
  where
    is' : (j : ℕ) (ls : List Loan) → seek_from b j ls ≡ at i → (k : ℕ) × (i ≡ j + k) × (k < length ls) × (same_loan b (get_or ls k d) ≡ true)
    is' j [] e = let z : ◌≡◌ {A = ℕ} 0 1 = cc in absurd (omega arith)
    is' j (l ∷ ls) e = go (told (same_loan b l)) (is' (j + 1) ls)
      where
        go : (same_loan b l ≡ true) ⊎ (same_loan b l ≡ false) → (seek_from b (j + 1) ls ≡ at i → (k : ℕ) × (i ≡ j + 1 + k) × (k < length ls) × (same_loan b (get_or ls k d) ≡ true))
            → (k : ℕ) × (i ≡ j + k) × (k < length (l ∷ ls)) × (same_loan b (get_or (l ∷ ls) k d) ≡ true)
        go (inl q) ih = let f : at j ≡ at i = rw q at e in let g : j ≡ i = cc in (0, omega arith, omega arith, q)
        go (inr q) ih = let w = ih (rw q at e) in (suc w.0, omega (arith, w.1), omega (arith, w.2), w.3)
