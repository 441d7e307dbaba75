-- The loans of a book after a loan is entered: it stands amid those that there were.
use mathlib.Core.Path.{◌≡◌, sym, ap, subst, ◌∙◌}
use mathlib.Core.Bool.{true, false}
use mathlib.Core.Logic.{◌⊎◌, inl, inr, ⊎_elim}
use mathlib.Core.List.{List, [], ◌∷◌, ◌++◌, append-nil}
use Prim.Native.Nat.{ℕ, suc, ◌+◌, ◌*◌, ◌≤◌, ◌<◌}
use native.Mathlib.Omega.{arith}
use lib.Dec.{eqb}
use lib.ListN.{length, get_or, set, take, drop, length-append, length-set}
use lib.Seq.{split_at, set_split}
use Rattle.words.specs.Rows.{row, rows, written}
use Rattle.words.proofs.Records.{length_rows, get_d_rows, rows_after, appended, updated_at, cell_row}
use Rattle.slabs.specs.Slab.{nowhere, vacant_at}
use Rattle.store_rules.specs.Loans.{loan_words, size_at, no_loan, loan_row, on_loan, loans_of}
use Rattle.store_rules.specs.declared.Loan.{Loan}
use Rattle.store_rules.proofs.Amid.{Amid}
use Rattle.store_rules.proofs.Placed.{on_loan_append}
use Rattle.book_rules.specs.Book.{taken_of, counted, entered}
use Rattle.book_rules.proofs.Counted.{counted_long, counted_loans, counted_vacant}
use Rattle.book_rules.proofs.Keeps.{BookParted, taken_where}

pub on_loan_amid : (l : Loan) (xs ys : List Loan) → eqb l.size 0 ≡ false → on_loan (xs ++ (l ∷ ys)) ≡ on_loan xs ++ (l ∷ on_loan ys)
on_loan_amid l xs ys e = on_loan_append xs (l ∷ ys) ∙ rw e

pub on_loan_past : (l : Loan) (xs ys : List Loan) → eqb l.size 0 ≡ true → on_loan (xs ++ (l ∷ ys)) ≡ on_loan xs ++ on_loan ys
on_loan_past l xs ys e = on_loan_append xs (l ∷ ys) ∙ rw e

module _ (l : Loan) (some : eqb l.size 0 ≡ false) where
  -- in the next new place
  amid_new : (n : ℕ) (t : List ℕ) → loan_words + loan_words * (n + 1) ≤ length t → Amid l (loans_of n t) (loans_of (n + 1) (written loan_row n l t))
  unfolding loans_of
  amid_new n t h =
      let rs : List Loan = rows loan_row n t in
      let e : rows loan_row (n + 1) (written loan_row n l t) ≡ rs ++ (l ∷ []) =
      ap (rows loan_row (n + 1)) (appended loan_row n l t (omega arith))
      ∙ rows_after loan_row (n + 1) (rs ++ (l ∷ [])) t h (length-append rs (l ∷ []) ∙ ap (λ (k : ℕ). k + 1) (length_rows loan_row n t)) in
      record { earlier = on_loan rs; later = []; were = sym (append-nil (on_loan rs)); are = ap on_loan e ∙ on_loan_amid l rs [] some }

  -- in a vacant place
  amid_again : (n p : ℕ) (t : List ℕ) → p < n → loan_words + loan_words * n ≤ length t → eqb (row loan_row p t).size 0 ≡ true → Amid l (loans_of n t) (loans_of n (written loan_row p l t))
  unfolding loans_of
  amid_again n p t g h v =
      let rs : List Loan = rows loan_row n t in
      let k : p < length rs = omega (arith, length_rows loan_row n t) in
      let e : rows loan_row n (written loan_row p l t) ≡ set rs p l =
      ap (rows loan_row n) (updated_at loan_row n p l t g h) ∙ rows_after loan_row n (set rs p l) t h (length-set rs p l ∙ length_rows loan_row n t) in
      let w : eqb (get_or rs p no_loan).size 0 ≡ true = ap (λ (d : Loan). eqb d.size 0) (get_d_rows loan_row n p t no_loan g) ∙ v in
      record {
        earlier = on_loan (take p rs);
        later = on_loan (drop (suc p) rs);
        were = ap on_loan (split_at rs p no_loan k) ∙ on_loan_past (get_or rs p no_loan) (take p rs) (drop (suc p) rs) w;
        are = ap on_loan (e ∙ set_split rs p l k) ∙ on_loan_amid l (take p rs) (drop (suc p) rs) some;
      }

  -- at p, after which q places are used
  amid_where : (n places p q : ℕ) (t : List ℕ) → p < n → places ≤ n → loan_words + loan_words * n ≤ length t
      → ((p ≡ places) × (q ≡ places + 1)) ⊎ ((p < places) × (vacant_at t size_at loan_words p ≡ true) × (q ≡ places))
      → Amid l (loans_of places t) (loans_of q (written loan_row p l t))
  amid_where n places p q t room limit long (inl w) = rw (w.0, w.1) (amid_new places t (omega (arith, room, w.0)))
  amid_where n places p q t room limit long (inr w) =
      rw w.2 (amid_again places p t w.0 (omega arith) (ap (λ (k : ℕ). eqb k 0) (sym (cell_row t size_at loan_words p)) ∙ w.1))

  -- the place that is taken next is one of these
  pub entered_amid : (loans index : List ℕ) (n places : ℕ) → n < nowhere → BookParted loans index n places → (taken_of places index).place < n → loan_words + loan_words * n ≤ length loans
      → Amid l (loans_of places loans) (loans_of (taken_of places index).slab.places (entered places index l loans))
  unfolding entered
  entered_amid loans index n places few P room long =
      let p = (taken_of places index).place in
      let q = (taken_of places index).slab.places in
      let kept : List ℕ = counted l.serial q loans in
      let wide : length kept ≡ length loans = counted_long l.serial q loans in
      let limit : places ≤ n = P.limit in
      let were : loans_of places kept ≡ loans_of places loans = counted_loans l.serial q loans places (omega arith) in
      subst (λ (ls : List Loan). Amid l ls (loans_of q (written loan_row p l kept))) were
      (amid_where n places p q kept room limit (omega arith)
      (⊎_elim inl (λ w. inr (w.0, counted_vacant l.serial q loans p ∙ w.1, w.2)) (taken_where loans index n places few P)))
