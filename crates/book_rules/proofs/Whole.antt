-- Loans read and written word by word are read and written whole.
use mathlib.Core.Path.{◌≡◌, ap, ◌∙◌}
use mathlib.Core.List.{List}
use Prim.Native.Nat.{ℕ, suc, ◌+◌, ◌*◌}
use native.Mathlib.Omega.{arith}
use lib.ListN.{get_or, set, drop}
use Rattle.words.specs.Words.{cell_of}
use Rattle.words.specs.Rows.{row, written}
use Rattle.words.proofs.Records.{cell_row}
use Rattle.store_rules.specs.Loans.{loan, loan_words, serial_at, chunk_at, offset_at, size_at, loan_row}

module _ (t : List ℕ) (p : ℕ) where
  word : (k a : ℕ) → a ≡ get_or t (cell_of k loan_words p) 0 → a ≡ get_or (drop (loan_words * p) t) k 0
  word k a e = e ∙ cell_row t k loan_words p

  pub loan_read : (a b c d : ℕ) → a ≡ get_or t (cell_of serial_at loan_words p) 0 → b ≡ get_or t (cell_of chunk_at loan_words p) 0 → c ≡ get_or t (cell_of offset_at loan_words p) 0 → d ≡ get_or t (cell_of size_at loan_words p) 0
      → loan a b c d ≡ row loan_row p t
  loan_read a b c d e f g h =
      let x = word serial_at a e in
      let y = word chunk_at b f in
      let z = word offset_at c g in
      let w = word size_at d h in
      (λ j. loan (x j) (y j) (z j) (w j))

  -- its words one after the other
  read_on : (k : ℕ) → get_or t (loan_words * p + k) 0 ≡ get_or t (cell_of k loan_words p) 0
  read_on k = ap (λ (j : ℕ). get_or t j 0) (omega arith)

  pub loan_along : loan (get_or t (loan_words * p + serial_at) 0) (get_or t (loan_words * p + chunk_at) 0) (get_or t (loan_words * p + offset_at) 0) (get_or t (loan_words * p + size_at) 0) ≡ row loan_row p t
  loan_along = loan_read _ _ _ _ (read_on serial_at) (read_on chunk_at) (read_on offset_at) (read_on size_at)

  here : cell_of serial_at loan_words p ≡ loan_words + loan_words * p
  here = omega arith

  next : cell_of chunk_at loan_words p ≡ suc (loan_words + loan_words * p)
  next = omega arith

  third : cell_of offset_at loan_words p ≡ suc (suc (loan_words + loan_words * p))
  third = omega arith

  fourth : cell_of size_at loan_words p ≡ suc (suc (suc (loan_words + loan_words * p)))
  fourth = omega arith

  pub loan_written : (a b c d : ℕ) (x y z w : List ℕ) → x ≡ set t (cell_of serial_at loan_words p) a → y ≡ set x (cell_of chunk_at loan_words p) b → z ≡ set y (cell_of offset_at loan_words p) c → w ≡ set z (cell_of size_at loan_words p) d
      → w ≡ written loan_row p (loan a b c d) t
  loan_written a b c d x y z w e f g h = h ∙ rw (g, f, e, here, next, third, fourth)

  pub written_along : (a b c d : ℕ) → set (set (set (set t (loan_words * p + serial_at) a) (loan_words * p + chunk_at) b) (loan_words * p + offset_at) c) (loan_words * p + size_at) d
      ≡ written loan_row p (loan a b c d) t
  written_along a b c d =
      let e : loan_words * p + serial_at ≡ loan_words + loan_words * p = omega arith in
      let f : loan_words * p + chunk_at ≡ suc (loan_words + loan_words * p) = omega arith in
      let g : loan_words * p + offset_at ≡ suc (suc (loan_words + loan_words * p)) = omega arith in
      let h : loan_words * p + size_at ≡ suc (suc (suc (loan_words + loan_words * p))) = omega arith in
      (λ j. set (set (set (set t (e j) a) (f j) b) (g j) c) (h j) d)
