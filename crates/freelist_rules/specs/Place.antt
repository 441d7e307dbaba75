-- Where an ask is placed. 01, "freelist.rs": "Size is raised to a multiple of the atom unit. Search from the last region
-- back; take the highest aligned place that ends within the region. The block runs from there to the region's end."
use Rattle.std.specs.Prelude.{Bool, cond, ◌&&◌, List, [], ◌∷◌, ℕ, suc, ◌-◌, max, leb, ltb, get_or, set}
use Rattle.rounding_rules.specs.Raising.{up_to, down_to}
use Rattle.words.specs.Rows.{insert_at, remove_at}
use Rattle.counter.specs.declared.settings.FreeListSettings.{FreeListSettings}
use Rattle.store_rules.specs.declared.Loan.{Loan}
use Rattle.freelist_rules.specs.Records.{region}
use Rattle.freelist_rules.specs.Pieces.{piece, lo}
use Rattle.store_rules.specs.declared.Region.{Region}

-- the size that is looked for, and the mask that its place is aligned to: of two masks the greater holds both
abbrev pub size_for : FreeListSettings → ℕ → ℕ
size_for s size = up_to size s.store.atom

abbrev pub mask_for : FreeListSettings → ℕ → ℕ
mask_for s mask = max mask s.store.atom

-- the highest aligned place in a region for n bytes, and whether there is one
abbrev pub cut : ℕ → ℕ → Region → ℕ
cut mask n r = down_to (r.end - n) mask

unfoldable pub fits_in : ℕ → ℕ → Region → Bool
fits_in mask n r = leb n r.end && leb r.start (cut mask n r)

-- the block that is cut off a region's end
abbrev pub block : ℕ → ℕ → Region → Region
block mask n r = region r.chunk (cut mask n r) r.end

-- which region serves: the last that fits
pub data Found : Type 0 where
  nowhere : Found
  at : ℕ → Found

abbrev pub or_else : Found → Found → Found
or_else (at i) other = at i
or_else nowhere other = other

unfoldable pub find_from : ℕ → ℕ → ℕ → List Region → Found
find_from mask n i [] = nowhere
find_from mask n i (r ∷ rs) = or_else (find_from mask n (suc i) rs) (cond (fits_in mask n r) (at i) nowhere)

abbrev pub find : ℕ → ℕ → List Region → Found
find mask n rs = find_from mask n 0 rs

-- what is left of the regions: region i ends at x, where the block starts, or is gone
unfoldable pub cut_off : ℕ → ℕ → List Region → List Region
cut_off x i rs =
    cond (ltb (get_or rs i (region 0 0 0)).start x)
    (set rs i (region (get_or rs i (region 0 0 0)).chunk (get_or rs i (region 0 0 0)).start x))
    (remove_at i rs)

-- where the new loan stands: after those that lie before it
abbrev pub loan_rank : ℕ → List Loan → ℕ
loan_rank x [] = 0
loan_rank x (l ∷ ls) = cond (ltb x (lo (piece l))) 0 (suc (loan_rank x ls))

abbrev pub lent_loan : ℕ → Region → Loan
lent_loan serial b = record { serial = serial; chunk = b.chunk; offset = b.start; size = b.end - b.start }

abbrev pub put_loan : Loan → List Loan → List Loan
put_loan l ls = insert_at (loan_rank (lo (piece l)) ls) l ls
