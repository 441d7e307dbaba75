-- Records tested one after the other: what each turn over the chunks and over the loans shows.
use mathlib.Core.Path.{◌≡◌, refl, sym, ap, ◌∙◌}
use mathlib.Core.Bool.{Bool, true, false, cond, ◌&&◌, ◌||◌}
use mathlib.Core.List.{List, [], ◌∷◌}
use Prim.Native.Nat.{ℕ, suc, ◌+◌, ◌-◌, ◌*◌, ◌≤◌, ◌<◌}
use native.Mathlib.Nat.{mul-zero, mul-suc}
use native.Mathlib.Numerals.{add-one}
use native.Mathlib.Omega.{arith}
use lib.Dec.{eqb, ltb}
use lib.ListN.{drop}
use lib.Seq.{drop-drop}
use Rattle.words.specs.Rows.{Layout, row, rows}
use Rattle.words.proofs.Records.{cell_row}
use Rattle.counter.specs.declared.settings.FreeListSettings.{FreeListSettings}
use Rattle.slabs.specs.Slab.{vacant_at}
use Rattle.slabs.specs.Test.{vacancies}
use Rattle.slabs.proofs.Steps.{vacancies_more, vacancies_same}
use Rattle.store_rules.specs.Loans.{loan_words, size_at, loan_row, on_loan, loans_of}
use Rattle.store_rules.specs.declared.Loan.{Loan}
use Rattle.freelist_rules.specs.Records.{chunk_row}
use Rattle.freelist_rules.specs.Walk.{all_ok, numbers_rise, chunk_ok}
use Rattle.store_rules.specs.declared.Chunk.{Chunk}
use Rattle.freelist_test.specs.Parts.{counted, each_ok}

-- ---- the records of a table from the i-th of n on

module _ {R : Type 0} (L : Layout R) where
  abbrev pub rest : List ℕ → ℕ → ℕ → List R
  rest t n i = rows L (n - i) (drop (L.width * i) t)

  pub rest_all : (t : List ℕ) (n : ℕ) → rows L n t ≡ rest t n 0
  rest_all t n = let e : n - 0 ≡ n = omega arith in rw (e, mul-zero)

  pub rest_next : (t : List ℕ) (n i : ℕ) → i < n → rest t n i ≡ row L i t ∷ rest t n (i + 1)
  rest_next t n i h =
      let e : n - i ≡ suc (n - (i + 1)) = omega arith in
      let d : L.width * i + L.width ≡ L.width * (i + 1) = rw (add-one i) (sym (mul-suc L.width i)) in
      rw (e, drop-drop, d)

  pub rest_none : (t : List ℕ) (n i : ℕ) → n ≤ i → rest t n i ≡ []
  rest_none t n i h = let e : n - i ≡ 0 = omega arith in rw e

-- ---- the chunks

both_on : (a b n m : Bool) → (a && b) ≡ true → ((a && n) && (b && m)) ≡ (n && m)
both_on true true n m e = refl
both_on true false n m e = let z : false ≡ true = e in cc
both_on false b n m e = let z : false ≡ true = e in cc

both_not : (a b n m : Bool) → (a && b) ≡ false → ((a && n) && (b && m)) ≡ false
both_not true true n m e = let z : true ≡ false = e in cc
both_not true false true m e = refl
both_not true false false m e = refl
both_not false b n m e = refl

module _ (s : FreeListSettings) (made size : ℕ) (t : List ℕ) (k : ℕ) where
  -- the chunks from the i-th on, the one before them having the number b
  abbrev pub each_from : ℕ → ℕ → Bool
  each_from b i = numbers_rise (suc b) (rest chunk_row t k i) && all_ok (chunk_ok s (counted 0 made size)) (rest chunk_row t k i)

  pub each_starts : each_ok s made size (rows chunk_row k t) ≡ each_from 0 0
  unfolding each_ok
  each_starts = ap (λ (cs : List Chunk). numbers_rise 1 cs && all_ok (chunk_ok s (counted 0 made size)) cs) (rest_all chunk_row t k)

  module _ (b i : ℕ) (h : i < k) (c : Chunk) (ok : Bool) (is : c ≡ row chunk_row i t) (told : ok ≡ chunk_ok s (counted 0 made size) c) where
    opened : each_from b i ≡ ((ltb b c.number && numbers_rise (suc c.number) (rest chunk_row t k (i + 1))) && (ok && all_ok (chunk_ok s (counted 0 made size)) (rest chunk_row t k (i + 1))))
    opened =
        ap (λ (cs : List Chunk). numbers_rise (suc b) cs && all_ok (chunk_ok s (counted 0 made size)) cs)
        (rest_next chunk_row t k i h ∙ ap (λ (d : Chunk). d ∷ rest chunk_row t k (i + 1)) (sym is))
        ∙ rw (sym told) refl

    pub each_on : (ltb b c.number && ok) ≡ true → each_from b i ≡ each_from c.number (i + 1)
    each_on e = opened ∙ both_on (ltb b c.number) ok _ _ e

    pub each_not : (ltb b c.number && ok) ≡ false → each_from b i ≡ false
    each_not e = opened ∙ both_not (ltb b c.number) ok _ _ e

  pub each_ends : (b i : ℕ) → k ≤ i → each_from b i ≡ true
  each_ends b i h =
      ap (λ (cs : List Chunk). numbers_rise (suc b) cs && all_ok (chunk_ok s (counted 0 made size)) cs) (rest_none chunk_row t k i h)

-- ---- the loans

module _ (f : Loan → Bool) (t : List ℕ) (n : ℕ) where
  abbrev pub loans_from : ℕ → Bool
  loans_from p = all_ok f (on_loan (rest loan_row t n p))

  pub loans_start : all_ok f (loans_of n t) ≡ (true && loans_from 0)
  unfolding loans_of
  loans_start = ap (λ (ls : List Loan). all_ok f (on_loan ls)) (rest_all loan_row t n)

  module _ (p : ℕ) (h : p < n) (l : Loan) (ok : Bool) (is : l ≡ row loan_row p t) (told : ok ≡ f l) where
    loan_opened : loans_from p ≡ all_ok f (cond (eqb l.size 0) (on_loan (rest loan_row t n (p + 1))) (l ∷ on_loan (rest loan_row t n (p + 1))))
    loan_opened =
        ap (λ (ls : List Loan). all_ok f (on_loan ls))
        (rest_next loan_row t n p h ∙ ap (λ (d : Loan). d ∷ rest loan_row t n (p + 1)) (sym is))

    loan_turn : loans_from p ≡ ((eqb l.size 0 || ok) && loans_from (p + 1))
    loan_turn = loan_opened ∙ by (eqb l.size 0) ok told
      where
        by : (v ok : Bool) → ok ≡ f l → all_ok f (cond v (on_loan (rest loan_row t n (p + 1))) (l ∷ on_loan (rest loan_row t n (p + 1)))) ≡ ((v || ok) && loans_from (p + 1))
        by true ok g = refl
        by false ok g = rw (sym g) refl

    -- `all` is what all come to, and `so` what those before p did
    pub loan_next : (all so : Bool) → all ≡ (so && loans_from p) → all ≡ ((so && (eqb l.size 0 || ok)) && loans_from (p + 1))
    loan_next all so e = e ∙ ap (λ (b : Bool). so && b) loan_turn ∙ regroup so (eqb l.size 0 || ok) (loans_from (p + 1))
      where
        regroup : (a b c : Bool) → (a && (b && c)) ≡ ((a && b) && c)
        regroup true b c = refl
        regroup false b c = refl

  pub loans_end : (p : ℕ) → n ≤ p → (all so : Bool) → all ≡ (so && loans_from p) → so ≡ all
  loans_end p h all so e =
      sym (e ∙ ap (λ (ls : List Loan). so && all_ok f (on_loan ls)) (rest_none loan_row t n p h) ∙ by so)
    where
      by : (so : Bool) → (so && true) ≡ so
      by true = refl
      by false = refl

-- the vacant places counted, one more
pub vacant_next : (t : List ℕ) (p : ℕ) (l : Loan) (v d : ℕ) → l ≡ row loan_row p t → v ≡ vacancies (vacant_at t size_at loan_words) p → d ≡ cond (eqb l.size 0) 1 0
    → v + d ≡ vacancies (vacant_at t size_at loan_words) (p + 1)
vacant_next t p l v d is vs ds =
    by (eqb l.size 0) (ap (λ (x : ℕ). eqb x 0) (ap (λ (x : Loan). x.size) is ∙ sym (cell_row t size_at loan_words p))) ds
  where
    by : (b : Bool) → b ≡ vacant_at t size_at loan_words p → d ≡ cond b 1 0 → v + d ≡ vacancies (vacant_at t size_at loan_words) (p + 1)
    by true e ds = omega (arith, vs, ds, vacancies_more (vacant_at t size_at loan_words) p (sym e))
    by false e ds = omega (arith, vs, ds, vacancies_same (vacant_at t size_at loan_words) p (sym e))
