-- The loans at the places of a table: which they are, and what is left of them when a place is made vacant.
use mathlib.Core.Path.{◌≡◌, refl, sym, ap, ◌∙◌}
use mathlib.Core.Bool.{true, false}
use mathlib.Core.Logic.{◌⊎◌, inl, inr, ⊎_elim}
use mathlib.Core.List.{List, [], ◌∷◌, ◌++◌, Memᴰ}
use Prim.Native.Nat.{ℕ, zero, suc, ◌+◌, ◌*◌, ◌≤◌, ◌<◌}
use native.Mathlib.Omega.{arith}
use lib.Dec.{eqb}
use lib.ListN.{length, get_or, set, take, drop, length-set, length-drop}
use lib.Seq.{get_or-set_same, set-set, set_comm, set_split, split_at}
use borrow.Author.Tests.{eq-eqb}
use Rattle.lists.proofs.Bools.{told, true_false}
use Rattle.words.specs.Words.{cell_of}
use Rattle.words.specs.Rows.{row, rows}
use Rattle.words.proofs.Records.{length_rows, get_d_rows, rows_after, stored_at}
use Rattle.store_rules.specs.Loans.{loan_words, serial_at, size_at, no_loan, loan_row, on_loan, loans_of}
use Rattle.store_rules.specs.declared.Loan.{Loan}

-- ---- members and their indexes

module _ {A : Type 0} where
  pub at_in : (i : ℕ) (xs : List A) (d : A) → i < length xs → Memᴰ (get_or xs i d) xs
  at_in i [] d h = absurd (omega arith)
  at_in zero (x ∷ xs) d h = mathlib.Core.List.Memᴰ.head refl
  at_in (suc i) (x ∷ xs) d h = mathlib.Core.List.Memᴰ.tail (at_in i xs d (omega arith))

  -- a member stands at an index
  pub mem_at : (a : A) (xs : List A) (d : A) → Memᴰ a xs → (i : ℕ) × (i < length xs) × (get_or xs i d ≡ a)
  mem_at a [] d m = absurd (mathlib.Core.List.Memᴰ.not-nil m)
  mem_at a (b ∷ xs) d m = go (mathlib.Core.List.Memᴰ.cases_cons m) (mem_at a xs d)
    where
      go : (a ≡ b) ⊎ Memᴰ a xs → (Memᴰ a xs → (i : ℕ) × (i < length xs) × (get_or xs i d ≡ a)) → (i : ℕ) × (i < length (b ∷ xs)) × (get_or (b ∷ xs) i d ≡ a)
      go (inl k) ih = (0, omega arith, sym k)
      go (inr k) ih = let w = ih k in (suc w.0, omega (arith, w.1), w.2)

-- ---- those that are no vacant place's

pub on_loan_in : (a : Loan) (ls : List Loan) → Memᴰ a ls → eqb a.size 0 ≡ false → Memᴰ a (on_loan ls)
on_loan_in a [] m e = absurd (mathlib.Core.List.Memᴰ.not-nil m)
on_loan_in a (l ∷ ls) m e = go (told (eqb l.size 0)) (mathlib.Core.List.Memᴰ.cases_cons m) (λ k. on_loan_in a ls k e)
  where
    go : (eqb l.size 0 ≡ true) ⊎ (eqb l.size 0 ≡ false) → (a ≡ l) ⊎ Memᴰ a ls → (Memᴰ a ls → Memᴰ a (on_loan ls)) → Memᴰ a (on_loan (l ∷ ls))
    go (inl q) (inl z) ih = absurd (true_false (eqb l.size 0) q (ap (λ (d : Loan). eqb d.size 0) (sym z) ∙ e))
    go (inl q) (inr k) ih = rw q (ih k)
    go (inr q) (inl z) ih = rw q (mathlib.Core.List.Memᴰ.head z)
    go (inr q) (inr k) ih = rw q (mathlib.Core.List.Memᴰ.tail (ih k))

pub on_loan_out : (a : Loan) (ls : List Loan) → Memᴰ a (on_loan ls) → Memᴰ a ls × (eqb a.size 0 ≡ false)
on_loan_out a [] m = absurd (mathlib.Core.List.Memᴰ.not-nil m)
on_loan_out a (l ∷ ls) m = go (told (eqb l.size 0)) (on_loan_out a ls)
  where
    go : (eqb l.size 0 ≡ true) ⊎ (eqb l.size 0 ≡ false) → (Memᴰ a (on_loan ls) → Memᴰ a ls × (eqb a.size 0 ≡ false)) → Memᴰ a (l ∷ ls) × (eqb a.size 0 ≡ false)
    go (inl q) ih = let k = ih (rw q at m) in (mathlib.Core.List.Memᴰ.tail k.0, k.1)
    go (inr q) ih =
        let k : Memᴰ a (l ∷ on_loan ls) = rw q at m in
        ⊎_elim (λ e. (mathlib.Core.List.Memᴰ.head e, ap (λ (d : Loan). eqb d.size 0) e ∙ q)) (λ i. let j = ih i in (mathlib.Core.List.Memᴰ.tail j.0, j.1)) (mathlib.Core.List.Memᴰ.cases_cons k)

pub on_loan_append : (xs ys : List Loan) → on_loan (xs ++ ys) ≡ on_loan xs ++ on_loan ys
on_loan_append [] ys = refl
on_loan_append (x ∷ xs) ys = ⊎_elim (λ e. rw (e) (on_loan_append xs ys)) (λ e. rw (e) (ap (λ (zs : List Loan). x ∷ zs) (on_loan_append xs ys))) (told (eqb x.size 0))

-- a loan of the first n places stands at one of them
pub loan_place_lem : (n : ℕ) (t : List ℕ) (a : Loan) → Memᴰ a (loans_of n t) → (p : ℕ) × (p < n) × (row loan_row p t ≡ a) × (eqb a.size 0 ≡ false)
unfolding loans_of
loan_place_lem n t a m =
    let k = on_loan_out a (rows loan_row n t) m in
    let w = mem_at a (rows loan_row n t) no_loan k.0 in
    let h : w.0 < n = omega (arith, w.1, length_rows loan_row n t) in
    (w.0, h, sym (get_d_rows loan_row n w.0 t no_loan h) ∙ w.2, k.1)

-- and one that stands at a place is one of them
pub place_loan : (n : ℕ) (t : List ℕ) (p : ℕ) → p < n → eqb (row loan_row p t).size 0 ≡ false → Memᴰ (row loan_row p t) (loans_of n t)
unfolding loans_of
place_loan n t p h e =
    let r : get_or (rows loan_row n t) p no_loan ≡ row loan_row p t = get_d_rows loan_row n p t no_loan h in
    let m : Memᴰ (get_or (rows loan_row n t) p no_loan) (rows loan_row n t) = at_in p (rows loan_row n t) no_loan (omega (arith, length_rows loan_row n t)) in
    on_loan_in (row loan_row p t) (rows loan_row n t) (rw r at m) e

-- ---- among the records of a table

module _ (n p : ℕ) (t : List ℕ) (h : p < n) (long : loan_words + loan_words * n ≤ length t) where
  abbrev all : List Loan
  all = rows loan_row n t

  -- the loans at the places before p, and at those past it
  abbrev pub earlier : List Loan
  earlier = on_loan (take p (rows loan_row n t))

  abbrev pub later : List Loan
  later = on_loan (drop (suc p) (rows loan_row n t))

  inside : p < length (rows loan_row n t)
  inside = omega (arith, length_rows loan_row n t)

  -- one at p stands between them
  pub loans_with : eqb (row loan_row p t).size 0 ≡ false → loans_of n t ≡ earlier ++ (row loan_row p t ∷ later)
  unfolding loans_of
  loans_with u =
      let e : all ≡ take p all ++ (row loan_row p t ∷ drop (suc p) all) =
      split_at all p no_loan inside ∙ ap (λ (l : Loan). take p all ++ (l ∷ drop (suc p) all)) (get_d_rows loan_row n p t no_loan h) in
      let f : on_loan (row loan_row p t ∷ drop (suc p) all) ≡ row loan_row p t ∷ later = rw u in
      ap on_loan e ∙ on_loan_append (take p all) (row loan_row p t ∷ drop (suc p) all) ∙ ap (λ (xs : List Loan). earlier ++ xs) f

  -- a word of the record at p changed changes that record alone
  rows_stored : (k : ℕ) (u : List ℕ) → length u ≡ length t → loan_words ≤ k → k < loan_words + loan_words
      → rows loan_row n (set u (cell_of k loan_words p) 0) ≡ set (rows loan_row n u) p (loan_row.dec (set (drop (loan_words * p) u) k 0))
  rows_stored k u e a b =
      let g : Loan = loan_row.dec (set (drop (loan_words * p) u) k 0) in
      let l : loan_words + loan_words * n ≤ length u = omega arith in
      ap (rows loan_row n) (stored_at loan_row n p k 0 u h l a b)
      ∙ rows_after loan_row n (set (rows loan_row n u) p g) u l (length-set (rows loan_row n u) p g ∙ length_rows loan_row n u)

  -- the table without the serial at p, and the record at p as it is when p has been made vacant
  abbrev unnamed : List ℕ
  unnamed = set t (cell_of serial_at loan_words p) 0

  unnamed_long : length unnamed ≡ length t
  unnamed_long = length-set t (cell_of serial_at loan_words p) 0

  abbrev gone : Loan
  gone = loan_row.dec (set (drop (loan_words * p) unnamed) size_at 0)

  rows_gone : rows loan_row n (set (set t (cell_of size_at loan_words p) 0) (cell_of serial_at loan_words p) 0) ≡ set all p gone
  rows_gone =
      let named : Loan = loan_row.dec (set (drop (loan_words * p) t) serial_at 0) in
      ap (rows loan_row n) (set_comm t (cell_of size_at loan_words p) (cell_of serial_at loan_words p) 0 0 (λ e. omega arith))
      ∙ rows_stored size_at unnamed unnamed_long (omega arith) (omega arith)
      ∙ ap (λ (rs : List Loan). set rs p gone) (rows_stored serial_at t refl (omega arith) (omega arith))
      ∙ set-set all p named gone

  -- where p is made vacant they are left
  pub loans_less_lem : loans_of n (set (set t (cell_of size_at loan_words p) 0) (cell_of serial_at loan_words p) 0) ≡ earlier ++ later
  unfolding loans_of
  loans_less_lem =
      let z : gone.size ≡ 0 = get_or-set_same (drop (loan_words * p) unnamed) size_at 0 0 (simp length-drop (omega (arith, unnamed_long))) in
      let v : eqb gone.size 0 ≡ true = eq-eqb gone.size 0 z in
      let f : on_loan (gone ∷ drop (suc p) all) ≡ later = rw v in
      ap on_loan (rows_gone ∙ set_split all p gone inside) ∙ on_loan_append (take p all) (gone ∷ drop (suc p) all) ∙ ap (λ (xs : List Loan). earlier ++ xs) f
