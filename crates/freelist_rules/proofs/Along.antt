-- The loans by place are the loans of a store in their order: where records that lead through them are those of all places in use,
-- and their loans rise.
use mathlib.Core.Path.{◌≡◌, refl, sym, ap, ◌∙◌, subst}
use mathlib.Core.Bool.{true, false, Bool}
use mathlib.Core.Logic.{inl, inr, ⊎_elim}
use mathlib.Core.List.Memᴰ
use mathlib.Core.List.{List, [], ◌∷◌, ◌++◌, map, append-nil, Memᴰ}
use Prim.Native.Nat.{ℕ, zero, suc, ◌+◌, ◌-◌, ◌≤◌, ◌<◌}
use native.Mathlib.Numerals.{add-one}
use native.Mathlib.Omega.{arith}
use lib.Dec.{leb, eqb}
use lib.ListN.{length, length-append, length-map}
use borrow.Author.Tests.{le-leb, lt-leb, leb-true}
use Rattle.lists.specs.Members.{Mem, Distinct}
use Rattle.lists.proofs.Bools.{told, lt_or_le, true_false}
use Rattle.lists.proofs.Members.{not_mem, mem_not}
use Rattle.words.specs.Rows.{row, rows}
use Rattle.words.proofs.Records.{cell_row, rows_snoc}
use Rattle.slabs.specs.Slab.{vacant_at}
use Rattle.slabs.specs.Test.{vacancies}
use Rattle.store_rules.specs.Loans.{loan_words, size_at, loan_row, on_loan, loans_of}
use Rattle.store_rules.specs.declared.Loan.{Loan}
use Rattle.store_rules.proofs.Keyed.{stands}
use Rattle.book_rules.proofs.Used.{used_filled}
use Rattle.freelist_rules.specs.Pieces.{Rising, All}
use Rattle.freelist_rules.specs.Place.{put_loan}
use Rattle.freelist_rules.specs.Tables.{ordered}
use Rattle.freelist_rules.specs.Threads.{loan_by}
use Rattle.freelist_rules.proofs.Base.{rising_low, rising_apart}
use Rattle.freelist_rules.proofs.Gaps.{begins, stops, LoansRise}
use Rattle.freelist_rules.proofs.Giving.{those, those_mem, those_yes, those_same, those_all}
use Rattle.freelist_rules.proofs.GapLists.{Order, as_member}
use Rattle.freelist_rules.proofs.Threads.{Right}
use Rattle.freelist_rules.proofs.Ordered.{ordered_in, ordered_amid, on_loan_append, put_front, put_past}

-- ---- as many loans as places in use

module _ (t : List ℕ) where
  abbrev free : ℕ → Bool
  free = vacant_at t size_at loan_words

  -- what a record says of its place
  pub size_is : (p : ℕ) → free p ≡ eqb (row loan_row p t).size 0
  size_is p = ap (λ (n : ℕ). eqb n 0) (cell_row t size_at loan_words p)

  -- one place more
  loans_vacant : (k : ℕ) → free k ≡ true → loans_of (suc k) t ≡ loans_of k t
  unfolding loans_of
  loans_vacant k e =
      let f : on_loan (row loan_row k t ∷ []) ≡ [] = rw (sym (size_is k) ∙ e) in
      ap on_loan (ap (λ (n : ℕ). rows loan_row n t) (sym (add-one k)) ∙ rows_snoc loan_row k t) ∙ on_loan_append (rows loan_row k t) (row loan_row k t ∷ []) ∙ ap (λ (ls : List Loan). on_loan (rows loan_row k t) ++ ls) f ∙ append-nil (on_loan (rows loan_row k t))

  loans_used : (k : ℕ) → free k ≡ false → loans_of (suc k) t ≡ loans_of k t ++ (row loan_row k t ∷ [])
  unfolding loans_of
  loans_used k e =
      let f : on_loan (row loan_row k t ∷ []) ≡ row loan_row k t ∷ [] = rw (sym (size_is k) ∙ e) in
      ap on_loan (ap (λ (n : ℕ). rows loan_row n t) (sym (add-one k)) ∙ rows_snoc loan_row k t) ∙ on_loan_append (rows loan_row k t) (row loan_row k t ∷ []) ∙ ap (λ (ls : List Loan). on_loan (rows loan_row k t) ++ ls) f

  pub loans_count : (k : ℕ) → length (loans_of k t) + vacancies free k ≡ k
  unfolding loans_of vacancies
  loans_count zero = refl
  loans_count (suc k) = ⊎_elim (λ e. rw e (omega (arith, loans_count k, ap length (loans_vacant k e)))) (λ e. rw e (omega (arith, loans_count k, ap length (loans_used k e), length-append (loans_of k t) (row loan_row k t ∷ [])))) (told (free k))

-- ---- records that are as many as the places in use

abbrev places : List ℕ → List ℕ
places rs = map (λ (r : ℕ). r - 1) rs

place_of_lem : (p : ℕ) (rs : List ℕ) → ((r : ℕ) → Mem r rs → 0 < r) → Mem p (places rs) → Mem (suc p) rs
place_of_lem p [] h m = m
place_of_lem p (r ∷ rs) h (inl e) = let o : 0 < r = h r (inl refl) in inl (omega arith)
place_of_lem p (r ∷ rs) h (inr m) = inr (place_of_lem p rs (λ q n. h q (inr n)) m)

of_place : (p : ℕ) (rs : List ℕ) → Mem p (places rs) → (r : ℕ) × Mem r rs × (r - 1 ≡ p)
of_place p [] m = absurd m
of_place p (r ∷ rs) (inl e) = (r, inl refl, sym e)
of_place p (r ∷ rs) (inr m) = let w = of_place p rs m in (w.0, inr w.1, w.2)

places_once : (rs : List ℕ) → Distinct rs → ((r : ℕ) → Mem r rs → 0 < r) → Distinct (places rs)
places_once [] d h = tt
places_once (r ∷ rs) d h = (
  mem_not (r - 1) (places rs)
      (λ m. let o : 0 < r = h r (inl refl) in let e : suc (r - 1) ≡ r = omega arith in not_mem r rs d.0 (subst (λ (x : ℕ). Mem x rs) e (place_of_lem (r - 1) rs (λ q n. h q (inr n)) m))),
  places_once rs d.1 (λ q n. h q (inr n)),
)

-- are those of all of them
pub records_all : (free : ℕ → Bool) (n : ℕ) (rs : List ℕ) → Distinct rs → ((r : ℕ) → Mem r rs → Right free n r) → length rs ≡ n - vacancies free n → (p : ℕ) → p < n → free p ≡ false → Mem (suc p) rs
records_all free n rs d right e p h u =
    place_of_lem p rs (λ r m. (right r m).0)
    (used_filled free n (places rs) (places_once rs d (λ r m. (right r m).0)) used (omega (arith, length-map rs (λ (r : ℕ). r - 1))) p h u)
  where
    used : (x : ℕ) → Mem x (places rs) → (x < n) × (free x ≡ false)
    used x m =
        let w = of_place x rs m in
        let k = right w.0 w.1 in
        let z : w.0 - 1 ≡ x = w.2 in
        (omega (arith, k.0, k.1), ap free (sym z) ∙ k.2)

-- ---- the records of the first places, and their loans in order

abbrev up_to : ℕ → List ℕ → List ℕ
up_to k rs = those (λ (r : ℕ). leb r k) rs

module _ (t : List ℕ) where
  -- records rise where their loans do
  pub loans_order : (b : ℕ) (rs : List ℕ) → LoansRise b (map (loan_by t) rs) → Rising (λ (q : ℕ). begins (loan_by t q)) (λ (q : ℕ). stops (loan_by t q)) 0 b rs
  loans_order b [] h = tt
  loans_order b (r ∷ rs) h = (h.0, h.1, loans_order (0 + stops (loan_by t r)) rs h.2)

  -- of records whose loans rise each has its own place
  pub order_once : (b : ℕ) (rs : List ℕ) → Rising (λ (q : ℕ). begins (loan_by t q)) (λ (q : ℕ). stops (loan_by t q)) 0 b rs → (p q : ℕ) → Memᴰ p rs → Memᴰ q rs → begins (loan_by t p) ≡ begins (loan_by t q) → p ≡ q
  order_once b rs h p q m k e =
      let u = rising_low (λ (q : ℕ). begins (loan_by t q)) (λ (q : ℕ). stops (loan_by t q)) 0 b rs h in
      ⊎_elim (λ z. z) (λ z. ⊎_elim (λ y. absurd (omega (arith, (u p m).1))) (λ y. absurd (omega (arith, (u q k).1))) z)
      (rising_apart (λ (q : ℕ). begins (loan_by t q)) (λ (q : ℕ). stops (loan_by t q)) 0 b rs h p q m k)

  -- the record of place p
  pub record_is : (p : ℕ) → loan_by t (suc p) ≡ row loan_row p t
  record_is p = let e : suc p - 1 ≡ p = omega arith in rw e

  -- a loan in front of all
  pub put_least : (l : Loan) (rs : List ℕ) → ((q : ℕ) → Memᴰ q rs → begins l < begins (loan_by t q)) → put_loan l (map (loan_by t) rs) ≡ l ∷ map (loan_by t) rs
  put_least l [] h = refl
  put_least l (r ∷ rs) h = put_front l (loan_by t r) (map (loan_by t) rs) (h r (Memᴰ.head refl))

  -- one record more
  put_record : (k b : ℕ) (rs : List ℕ) → Rising (λ (q : ℕ). begins (loan_by t q)) (λ (q : ℕ). stops (loan_by t q)) 0 b rs → Memᴰ (suc k) rs
      → put_loan (loan_by t (suc k)) (map (loan_by t) (up_to k rs)) ≡ map (loan_by t) (up_to (suc k) rs)
  put_record k b [] h m = absurd (Memᴰ.not-nil m)
  put_record k b (r ∷ rs) h m = ⊎_elim here (λ m. there m (put_record k (0 + stops (loan_by t r)) rs h.2 m)) (Memᴰ.cases_cons m)
    where
      past : (q : ℕ) → Memᴰ q rs → begins (loan_by t r) < begins (loan_by t q)
      past q n = omega (arith, h.1, (rising_low (λ (q : ℕ). begins (loan_by t q)) (λ (q : ℕ). stops (loan_by t q)) 0 (0 + stops (loan_by t r)) rs h.2 q n).0)

      here : suc k ≡ r → put_loan (loan_by t (suc k)) (map (loan_by t) (up_to k (r ∷ rs))) ≡ map (loan_by t) (up_to (suc k) (r ∷ rs))
      here e =
          let same : up_to (suc k) rs ≡ up_to k rs = those_same (λ (r : ℕ). leb r (suc k)) (λ (r : ℕ). leb r k) rs (λ q n. one q (λ z. omega (arith, past q n, ap (λ (x : ℕ). begins (loan_by t x)) (z ∙ e)))) in
          rw (← e, lt-leb (suc k) k (omega arith), le-leb (suc k) (suc k) (omega arith), same)
          (put_least (loan_by t (suc k)) (up_to k rs) (λ q n. let z = past q (those_mem (λ (r : ℕ). leb r k) q rs n) in rw e z))
        where
          one : (q : ℕ) → (q ≡ suc k → ⊥) → leb q (suc k) ≡ leb q k
          one q o = ⊎_elim (λ i. lt-leb q (suc k) (omega arith) ∙ sym (lt-leb q k (omega arith))) (λ i. le-leb q (suc k) (omega arith) ∙ sym (le-leb q k i)) (lt_or_le k q)

      there : Memᴰ (suc k) rs → put_loan (loan_by t (suc k)) (map (loan_by t) (up_to k rs)) ≡ map (loan_by t) (up_to (suc k) rs) → put_loan (loan_by t (suc k)) (map (loan_by t) (up_to k (r ∷ rs))) ≡ map (loan_by t) (up_to (suc k) (r ∷ rs))
      there n ih = ⊎_elim out in' (lt_or_le k r)
        where
          out : k < r → put_loan (loan_by t (suc k)) (map (loan_by t) (up_to k (r ∷ rs))) ≡ map (loan_by t) (up_to (suc k) (r ∷ rs))
          out i = rw (lt-leb r k i, lt-leb r (suc k) (other i)) ih
            where
              other : k < r → suc k < r
              other i = ⊎_elim (λ z. z) (λ z. let e : suc k ≡ r = omega arith in absurd (omega (arith, past (suc k) n, ap (λ (x : ℕ). begins (loan_by t x)) e))) (lt_or_le (suc k) r)

          in' : r ≤ k → put_loan (loan_by t (suc k)) (map (loan_by t) (up_to k (r ∷ rs))) ≡ map (loan_by t) (up_to (suc k) (r ∷ rs))
          in' i =
              rw (le-leb r k i, le-leb r (suc k) (omega arith))
              (put_past (loan_by t (suc k)) (loan_by t r) (map (loan_by t) (up_to k rs)) (omega (arith, past (suc k) n)) ∙ ap (λ (ls : List Loan). loan_by t r ∷ ls) ih)

  -- the records of the places in use among the first n, with loans that rise
  module _ (n : ℕ) (rs : List ℕ) (order : Order t rs) (right : (r : ℕ) → Mem r rs → (0 < r) × (r ≤ n) × (free t (r - 1) ≡ false))
      (all : (p : ℕ) → p < n → free t p ≡ false → Mem (suc p) rs) where
    -- of no place; of a vacant place more; of a place in use more
    along_none : (qs : List ℕ) → ((r : ℕ) → Mem r qs → 0 < r) → [] ≡ map (loan_by t) (up_to 0 qs)
    along_none [] f = refl
    along_none (q ∷ qs) f = rw (lt-leb q 0 (f q (inl refl))) (along_none qs (λ r m. f r (inr m)))

    along_vacant : (k : ℕ) → free t k ≡ true → ordered (loans_of k t) ≡ map (loan_by t) (up_to k rs) → ordered (loans_of (suc k) t) ≡ map (loan_by t) (up_to (suc k) rs)
    along_vacant k e ih = ap ordered (loans_vacant t k e) ∙ ih ∙ ap (map (loan_by t)) (those_same (λ (r : ℕ). leb r k) (λ (r : ℕ). leb r (suc k)) rs one)
      where
        past : (r : ℕ) → k < r → (0 < r) × (r ≤ n) × (free t (r - 1) ≡ false) → leb r k ≡ leb r (suc k)
        past r i w =
            ⊎_elim (λ j. lt-leb r k i ∙ sym (lt-leb r (suc k) j)) (λ j. let z : r - 1 ≡ k = omega arith in absurd (true_false (free t k) e (ap (free t) (sym z) ∙ w.2)))
            (lt_or_le (suc k) r)

        one : (r : ℕ) → Memᴰ r rs → leb r k ≡ leb r (suc k)
        one r m = ⊎_elim (λ i. past r i (right r (stands r rs m))) (λ i. le-leb r k i ∙ sym (le-leb r (suc k) (omega arith))) (lt_or_le k r)

    along_used : (k : ℕ) → k < n → free t k ≡ false → ordered (loans_of k t) ≡ map (loan_by t) (up_to k rs) → ordered (loans_of (suc k) t) ≡ map (loan_by t) (up_to (suc k) rs)
    along_used k h e ih =
        ap ordered (loans_used t k e)
        ∙ ap (λ (d : Loan). ordered (loans_of k t ++ (d ∷ []))) (sym (record_is k))
        ∙ ordered_amid l (loans_of k t) [] away
        ∙ ap (λ (ls : List Loan). put_loan l (ordered ls)) (append-nil (loans_of k t))
        ∙ ap (put_loan l) ih
        ∙ put_record k 0 rs order here
      where
        l : Loan
        l = loan_by t (suc k)

        here : Memᴰ (suc k) rs
        here = as_member (suc k) rs (all k h e)

        away : All (λ (d : Loan). begins d ≡ begins l → ⊥) (loans_of k t)
        away d i z =
            let w = Memᴰ.of_map (loan_by t) (up_to k rs) (rw ih at (ordered_in d (loans_of k t) i)) in
            let q = order_once 0 rs order w.0 (suc k) (those_mem (λ (r : ℕ). leb r k) w.0 rs w.1) here (ap begins w.2 ∙ z) in
            omega (arith, leb-true w.0 k (those_yes (λ (r : ℕ). leb r k) w.0 rs w.1))

    along_from : (k : ℕ) → k ≤ n → ordered (loans_of k t) ≡ map (loan_by t) (up_to k rs)
    unfolding ordered loans_of
    along_from zero h = along_none rs (λ r m. (right r m).0)
    along_from (suc k) h =
        let ih = along_from k (omega arith) in
        ⊎_elim (λ e. along_vacant k e ih) (λ e. along_used k (omega arith) e ih) (told (free t k))

    pub along_ordered : ordered (loans_of n t) ≡ map (loan_by t) rs
    along_ordered =
        along_from n (omega arith)
        ∙ ap (map (loan_by t)) (those_all (λ (r : ℕ). leb r n) rs (λ r m. le-leb r n (right r (stands r rs m)).1))
