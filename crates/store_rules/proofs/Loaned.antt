-- Which loan a block is: one with its serial, chunk, offset and size.
use mathlib.Core.Path.{◌≡◌, refl, subst}
use mathlib.Core.Bool.{true, false, ◌&&◌}
use mathlib.Core.Logic.{◌⊎◌, inl, inr, ⊎_elim, ◌↔◌}
use mathlib.Core.List.Memᴰ
use mathlib.Core.List.{List, [], ◌∷◌}
use lib.Dec.{eqb}
use borrow.Author.Tests.{eq-eqb, eqb-true}
use Rattle.lists.proofs.Bools.{and_left, and_right, and_both, told, true_false}
use Rattle.counter.specs.declared.answers.Block.{Block}
use Rattle.store_rules.specs.Views.{Matches, OnLoan, same_loan}
use Rattle.store_rules.specs.declared.Loan.{Loan}

pub same_loan_lem : (b : Block) (l : Loan) → same_loan b l ≡ true → Matches b l
same_loan_lem b l e =
    let p = eqb l.serial b.serial in
    let q = eqb l.chunk b.chunk in
    let r = eqb l.offset b.offset in
    let s = eqb l.size b.size in
    let u = and_right p (q && (r && s)) e in
    let v = and_right q (r && s) u in
    record {
      serial = eqb-true _ _ (and_left p (q && (r && s)) e);
      chunk = eqb-true _ _ (and_left q (r && s) u);
      offset = eqb-true _ _ (and_left r s v);
      size = eqb-true _ _ (and_right r s v);
    }

pub loan_same : (b : Block) (l : Loan) → Matches b l → same_loan b l ≡ true
loan_same b l m =
    and_both _ _ (eq-eqb l.serial b.serial m.serial)
    (and_both _ _ (eq-eqb l.chunk b.chunk m.chunk) (and_both _ _ (eq-eqb l.offset b.offset m.offset) (eq-eqb l.size b.size m.size)))

-- the test of 7 decides exactly that a loan is the block's
pub same_when : (b : Block) (l : Loan) → (same_loan b l ≡ true) ↔ Matches b l
same_when b l = (same_loan_lem b l, loan_same b l)

-- a block is on loan or not
pub loan_or_not : (b : Block) (ls : List Loan) → OnLoan b ls ⊎ (OnLoan b ls → ⊥)
loan_or_not b [] = inr (λ w. Memᴰ.not-nil w.1)
loan_or_not b (l ∷ ls) = go (told (same_loan b l)) (loan_or_not b ls)
  where
    go : (same_loan b l ≡ true) ⊎ (same_loan b l ≡ false) → OnLoan b ls ⊎ (OnLoan b ls → ⊥) → OnLoan b (l ∷ ls) ⊎ (OnLoan b (l ∷ ls) → ⊥)
    go (inl e) w = inl (l, Memᴰ.head refl, same_loan_lem b l e)
    go (inr e) (inl w) = inl (w.0, Memᴰ.tail w.1, w.2)
    go (inr e) (inr n) =
        inr (λ w. ⊎_elim (λ q. true_false (same_loan b l) (loan_same b l (subst (Matches b) q w.2)) e) (λ k. n (w.0, k, w.2)) (Memᴰ.cases_cons w.1))
