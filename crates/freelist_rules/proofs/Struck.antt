-- The loans when one of the places of a table is made vacant: the others, put in order as they were.
use mathlib.Core.Path.{◌≡◌, refl, ap, ◌∙◌}
use mathlib.Core.Bool.{Bool, true, false, not}
use mathlib.Core.Logic.{◌⊎◌, inl, inr, ⊎_elim}
use mathlib.Core.List.Memᴰ
use mathlib.Core.List.{List, [], ◌∷◌, ◌++◌}
use native.Mathlib.Omega.{arith}
use lib.Dec.{eqb, ltb}
use borrow.Author.Tests.{eq-eqb, ne_eqb}
use Rattle.lists.proofs.Bools.{told}
use Rattle.store_rules.specs.declared.Loan.{Loan}
pub use Rattle.store_rules.proofs.Placed.{earlier, later, loans_with, loans_less_lem}
use Rattle.freelist_rules.specs.Pieces.{All}
use Rattle.freelist_rules.specs.Place.{put_loan}
use Rattle.freelist_rules.specs.Tables.{ordered}
use Rattle.freelist_rules.proofs.Base.{rising_low, rising_apart}
use Rattle.freelist_rules.proofs.Gaps.{begins, stops, LoansRise}
use Rattle.freelist_rules.proofs.Giving.{those, those_all, without}
use Rattle.freelist_rules.proofs.Ordered.{ordered_in, ordered_out, ordered_amid}

-- ---- in order

-- one that fails a test makes no difference to those that pass it
put_those : (f : Loan → Bool) (l : Loan) (ls : List Loan) → f l ≡ false → those f (put_loan l ls) ≡ those f ls
put_those f l [] e = rw e
put_those f l (c ∷ ls) e = go (told (ltb (begins l) (begins c))) (told (f c)) (put_those f l ls e)
  where
    go : (ltb (begins l) (begins c) ≡ true) ⊎ (ltb (begins l) (begins c) ≡ false) → (f c ≡ true) ⊎ (f c ≡ false) → those f (put_loan l ls) ≡ those f ls → those f (put_loan l (c ∷ ls)) ≡ those f (c ∷ ls)
    go (inl q) k ih = rw (q, e)
    go (inr q) (inl k) ih = rw (q, k) (ap (λ (xs : List Loan). c ∷ xs) ih)
    go (inr q) (inr k) ih = rw (q, k) ih

module _ (l : Loan) (xs ys : List Loan) (rise : LoansRise 0 (ordered (xs ++ (l ∷ ys)))) (other : All (λ (d : Loan). d.serial ≡ l.serial → ⊥) (xs ++ ys)) where
  -- of loans in order that do not overlap no two begin at one place
  away : All (λ (d : Loan). begins d ≡ begins l → ⊥) xs
  away d m e =
      let i = ordered_in d (xs ++ (l ∷ ys)) (Memᴰ.append_left (l ∷ ys) m) in
      let j = ordered_in l (xs ++ (l ∷ ys)) (Memᴰ.append_right xs (Memᴰ.head refl)) in
      let p = rising_low begins stops 0 0 (ordered (xs ++ (l ∷ ys))) rise in
      ⊎_elim (λ q. other d (Memᴰ.append_left ys m) (ap (λ (c : Loan). c.serial) q))
      (λ q. ⊎_elim (λ k. omega (arith, (p d i).1)) (λ k. omega (arith, (p l j).1)) q)
      (rising_apart begins stops 0 0 (ordered (xs ++ (l ∷ ys))) rise d l i j)

  -- taken out by its serial it leaves the others in order
  pub ordered_less : without l.serial (ordered (xs ++ (l ∷ ys))) ≡ ordered (xs ++ ys)
  ordered_less =
      let f : Loan → Bool = λ (d : Loan). not (eqb d.serial l.serial) in
      ap (without l.serial) (ordered_amid l xs ys away)
      ∙ put_those f l (ordered (xs ++ ys)) (ap not (eq-eqb l.serial l.serial refl))
      ∙ those_all f (ordered (xs ++ ys)) (λ d m. ap not (ne_eqb d.serial l.serial (other d (ordered_out d (xs ++ ys) m))))
