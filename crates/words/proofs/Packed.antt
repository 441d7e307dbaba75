-- The laws of records in words, packed from the front, at any width: a table's records behind its own (Records) are such.
use mathlib.Core.Path.{◌≡◌, refl, sym, ap, subst, ◌∙◌}
use mathlib.Core.List.{List, [], ◌∷◌, ◌++◌, append_assoc, append-nil}
use Prim.Native.Nat.{ℕ, zero, suc, ◌+◌, ◌-◌, ◌*◌, ◌≤◌, ◌<◌}
use native.Mathlib.Nat.{add_comm, zero-add, suc-add, mul-zero, mul-suc, mul-add, mul-le-mul_left, le_of_suc-le-suc, not-suc-le-zero}
use native.Mathlib.Numerals.{add-one}
use native.Mathlib.Omega.{arith}
use lib.ListN.{length, take, drop, get_or, set, length-append, length-drop, length-set, take-append-drop}
use lib.Seq.{sets, sets-eq, length-sets, drop_at, take-add, take-take, drop-drop, take-append-le, drop-append-le, length-take-le, set_split, take-set-le, drop-set-add, drop-set-lt}
use Rattle.words.specs.Words.{cell_of}
use Rattle.words.specs.Rows.{remove_at, insert_at}
use Rattle.words.proofs.Moved.{run, length_run, record_and_next}

-- how a record lies in words
pub record Packed (R : Type 0) : Type 0 where
  pub width : ℕ
  pub enc : R → List ℕ
  pub dec : List ℕ → R
  pub enc_length : (r : R) → length (enc r) ≡ width
  pub dec_enc : (r : R) (rest : List ℕ) → dec (enc r ++ rest) ≡ r
  pub enc_dec : (t : List ℕ) → width ≤ length t → enc (dec t) ≡ take width t

module _ {R : Type 0} (L : Packed R) where
  abbrev pub row : ℕ → List ℕ → R
  row i t = L.dec (drop (L.width * i) t)

  abbrev pub rows : ℕ → List ℕ → List R
  rows zero t = []
  rows (suc n) t = L.dec t ∷ rows n (drop L.width t)

  abbrev pub flat : List R → List ℕ
  flat [] = []
  flat (r ∷ rs) = L.enc r ++ flat rs

  -- t with the records rs at its front: every word past them is as it was
  abbrev pub laid : List R → List ℕ → List ℕ
  laid rs t = flat rs ++ drop (L.width * length rs) t

  -- t with r's words stored over those of the record at i
  abbrev pub written : ℕ → R → List ℕ → List ℕ
  written i r t = sets t (L.width * i) (L.enc r)

module _ {R : Type 0} (L : Packed R) where
  pub length_flat : (rs : List R) → length (flat L rs) ≡ L.width * length rs
  length_flat [] = sym (mul-zero L.width)
  length_flat (r ∷ rs) =
      simp (length-append, L.enc_length, length_flat rs, mul-suc) (omega arith)

  pub flat_append : (rs qs : List R) → flat L (rs ++ qs) ≡ flat L rs ++ flat L qs
  flat_append [] qs = refl
  flat_append (r ∷ rs) qs = simp (flat_append rs qs, append_assoc)

  pub length_rows : (n : ℕ) (t : List ℕ) → length (rows L n t) ≡ n
  length_rows zero t = refl
  length_rows (suc n) t = ap suc (length_rows n (drop L.width t))

  pub flat_rows : (n : ℕ) (t : List ℕ) → L.width * n ≤ length t → flat L (rows L n t) ≡ take (L.width * n) t
  flat_rows zero t h = rw mul-zero
  flat_rows (suc n) t h =
      let h' : L.width + L.width * n ≤ length t = omega (arith, mul-suc L.width n) in
      let e : L.width * suc n ≡ L.width + L.width * n = omega (arith, mul-suc L.width n) in
      let i : flat L (rows L n (drop L.width t)) ≡ take (L.width * n) (drop L.width t) = flat_rows n (drop L.width t) (simp length-drop (omega arith)) in
      rw (e, take-add, L.enc_dec t (omega arith), i)

  pub rows_flat : (rs : List R) (rest : List ℕ) → rows L (length rs) (flat L rs ++ rest) ≡ rs
  rows_flat [] rest = refl
  rows_flat (r ∷ rs) rest =
      rw (append_assoc, L.dec_enc r (flat L rs ++ rest), drop_at (L.enc r) (flat L rs ++ rest) L.width (L.enc_length r), rows_flat rs rest)

  pub take_rows : (i n : ℕ) (t : List ℕ) → i ≤ n → take i (rows L n t) ≡ rows L i t
  take_rows zero n t h = refl
  take_rows (suc i) zero t h = absurd (not-suc-le-zero h)
  take_rows (suc i) (suc n) t h = ap (λ (l : List R). L.dec t ∷ l) (take_rows i n (drop L.width t) (le_of_suc-le-suc h))

  pub drop_rows : (i m : ℕ) (t : List ℕ) → drop i (rows L (i + m) t) ≡ rows L m (drop (L.width * i) t)
  drop_rows zero m t = rw (zero-add, mul-zero)
  drop_rows (suc i) m t =
      let e : L.width * suc i ≡ L.width + L.width * i = omega (arith, mul-suc L.width i) in
      rw (suc-add, drop_rows i m (drop L.width t), drop-drop, e)

  -- the record at i, by its words
  pub get_d_rows : (n i : ℕ) (t : List ℕ) (d : R) → i < n → get_or (rows L n t) i d ≡ row L i t
  get_d_rows zero i t d h = absurd (not-suc-le-zero h)
  get_d_rows (suc n) zero t d h = sym (ap (λ (k : ℕ). L.dec (drop k t)) (mul-zero L.width))
  get_d_rows (suc n) (suc i) t d h =
      let e : L.width * suc i ≡ L.width + L.width * i = omega (arith, mul-suc L.width i) in
      get_d_rows n i (drop L.width t) d (le_of_suc-le-suc h)
      ∙ ap L.dec (drop-drop (L.width * i) L.width t ∙ ap (λ (k : ℕ). drop k t) (sym e))

  -- one record more, after the others
  pub rows_snoc : (n : ℕ) (t : List ℕ) → rows L (n + 1) t ≡ rows L n t ++ (row L n t ∷ [])
  rows_snoc zero t = sym (ap (λ (k : ℕ). L.dec (drop k t) ∷ []) (mul-zero L.width))
  rows_snoc (suc n) t =
      let e : L.width * suc n ≡ L.width + L.width * n = omega (arith, mul-suc L.width n) in
      let f : row L n (drop L.width t) ≡ row L (suc n) t = ap L.dec (drop-drop (L.width * n) L.width t ∙ ap (λ (k : ℕ). drop k t) (sym e)) in
      rw (suc-add) (ap (λ (l : List R). L.dec t ∷ l) (rows_snoc n (drop L.width t) ∙ ap (λ (r : R). rows L n (drop L.width t) ++ (r ∷ [])) f))

  -- ---- a table, read again after its records were laid

  pub rows_laid : (rs : List R) (t : List ℕ) → rows L (length rs) (laid L rs t) ≡ rs
  rows_laid rs t = rows_flat rs (drop (L.width * length rs) t)

  pub drop_laid : (rs : List R) (t : List ℕ) → drop (L.width * length rs) (laid L rs t) ≡ drop (L.width * length rs) t
  drop_laid rs t = drop_at (flat L rs) (drop (L.width * length rs) t) (L.width * length rs) (length_flat rs)

  pub length_laid : (rs : List R) (t : List ℕ) → L.width * length rs ≤ length t → length (laid L rs t) ≡ length t
  length_laid rs t h = simp (length-append, length_flat, length-drop) (omega arith)

  -- a table is its own records, laid
  pub laid_rows : (n : ℕ) (t : List ℕ) → L.width * n ≤ length t → laid L (rows L n t) t ≡ t
  laid_rows n t h = rw (length_rows, flat_rows n t h, take-append-drop)

  -- ---- what each operation leaves, in words and in records

  -- the records past i, of i + 1 + m, go down by one
  removed : (i m : ℕ) (t : List ℕ) → L.width * (suc i + m) ≤ length t
      → run (L.width * suc i) (L.width * i) (L.width * m) t ≡ laid L (remove_at i (rows L (suc i + m) t)) t
  removed i m t h =
      let w : ℕ = L.width in
      let a : w * (suc i + m) ≡ w * suc i + w * m = mul-add w (suc i) m in
      let b : w * (i + m) ≡ w * i + w * m = mul-add w i m in
      let c : w * suc i ≡ w * i + w = mul-suc w i in
      let e : take i (rows L (suc i + m) t) ≡ rows L i t = take_rows i (suc i + m) t (omega arith) in
      let f : drop (suc i) (rows L (suc i + m) t) ≡ rows L m (drop (w * suc i) t) = drop_rows (suc i) m t in
      rw (e, f, flat_append, flat_rows i t (omega arith), flat_rows m (drop (w * suc i) t) (simp length-drop (omega arith)), length-append, length_rows i t, length_rows m (drop (w * suc i) t), b)

  pub length_written : (i : ℕ) (r : R) (t : List ℕ) → length (written L i r t) ≡ length t
  length_written i r t = length-sets t (L.width * i) (L.enc r)

  -- a record written where its words lie in the table
  pub written_in : (i : ℕ) (r : R) (t : List ℕ) → L.width * i + L.width ≤ length t
      → written L i r t ≡ take (L.width * i) t ++ L.enc r ++ drop (L.width * i + L.width) t
  written_in i r t h =
      let e : length (L.enc r) ≡ L.width = L.enc_length r in
      sets-eq (L.enc r) t (L.width * i) (omega arith) ∙ rw e

  pub appended : (n : ℕ) (r : R) (t : List ℕ) → L.width * n + L.width ≤ length t
      → written L n r t ≡ laid L (rows L n t ++ (r ∷ [])) t
  appended n r t h =
      let w : ℕ = L.width in
      let e : w * (n + 1) ≡ w * n + w = record_and_next w n in
      written_in n r t h ∙ rw (flat_append, flat_rows n t (omega arith), append-nil, length-append, length_rows, e)

  updated : (i m : ℕ) (r : R) (t : List ℕ) → L.width * (suc i + m) ≤ length t
      → written L i r t ≡ laid L (set (rows L (suc i + m) t) i r) t
  updated i m r t h =
      let w : ℕ = L.width in
      let a : w * (suc i + m) ≡ w * suc i + w * m = mul-add w (suc i) m in
      let c : w * suc i ≡ w * i + w = mul-suc w i in
      let rs : List R = rows L (suc i + m) t in
      let s : set rs i r ≡ take i rs ++ (r ∷ drop (suc i) rs) = set_split rs i r (simp length_rows (omega arith)) in
      let e : take i rs ≡ rows L i t = take_rows i (suc i + m) t (omega arith) in
      let f : drop (suc i) rs ≡ rows L m (drop (w * suc i) t) = drop_rows (suc i) m t in
      let d : List ℕ = drop (w * suc i) t in
      let z : drop (w * (suc i + m)) t ≡ drop (w * m) d = rw a (sym (drop-drop (w * m) (w * suc i) t)) in
      let y : drop (w * i + w) t ≡ d = ap (λ (k : ℕ). drop k t) (sym c) in
      let g : flat L (rows L i t) ≡ take (w * i) t = flat_rows i t (omega arith) in
      let k : flat L (rows L m d) ≡ take (w * m) d = flat_rows m d (simp length-drop (omega arith)) in
      written_in i r t (omega arith) ∙ rw (length-set, length_rows, s, e, f, flat_append, g, k, z, y) (simp (append_assoc, take-append-drop))

  -- the m records from i on go up by one, and r is written at i
  inserted : (i m : ℕ) (r : R) (t : List ℕ) → L.width * (i + m) + L.width ≤ length t
      → written L i r (run (L.width * i) (L.width * i + L.width) (L.width * m) t) ≡ laid L (insert_at i r (rows L (i + m) t)) t
  inserted i m r t h =
      let w : ℕ = L.width in
      let a : w * (i + m) ≡ w * i + w * m = mul-add w i m in
      let b : w * (i + suc m) ≡ w * i + w + w * m = omega (arith, mul-add w i (suc m), mul-suc w m) in
      let d : List ℕ = drop (w * i) t in
      let p : List ℕ = take (w * i + w) t in
      let q : List ℕ = take (w * m) d in
      let s : List ℕ = drop (w * i + w + w * m) t in
      let lu : length (p ++ q ++ s) ≡ length t = length_run t (w * i) (w * i + w) (w * m) (omega arith) (omega arith) in
      let lp : length p ≡ w * i + w = length-take-le (w * i + w) t (omega arith) in
      let tk : take (w * i) (p ++ q ++ s) ≡ take (w * i) t =
      ap (take (w * i)) (append_assoc p q s) ∙ take-append-le (w * i) p (q ++ s) (omega arith) ∙ take-take (w * i) (w * i + w) t (omega arith) in
      let dr : drop (w * i + w) (p ++ q ++ s) ≡ q ++ s = ap (drop (w * i + w)) (append_assoc p q s) ∙ drop_at p (q ++ s) (w * i + w) lp in
      let e : take i (rows L (i + m) t) ≡ rows L i t = take_rows i (i + m) t (omega arith) in
      let f : drop i (rows L (i + m) t) ≡ rows L m d = drop_rows i m t in
      let g : flat L (rows L i t) ≡ take (w * i) t = flat_rows i t (omega arith) in
      let k : flat L (rows L m d) ≡ q = flat_rows m d (simp length-drop (omega arith)) in
      written_in i r (p ++ q ++ s) (omega arith) ∙ rw (tk, dr, e, f, flat_append, g, k, length-append) (simp (length_rows, b, append_assoc))

  -- ---- the same, as code says it: of n records, by i

  pub removed_at : (n i : ℕ) (t : List ℕ) → i < n → L.width * n ≤ length t
      → run (L.width * (i + 1)) (L.width * i) (L.width * (n - i - 1)) t ≡ laid L (remove_at i (rows L n t)) t
  removed_at n i t h k =
      let w : ℕ = L.width in
      let e : suc i + (n - i - 1) ≡ n = omega arith in
      rw add-one (rw e at (removed i (n - i - 1) t (rw e k)))

  pub updated_at : (n i : ℕ) (r : R) (t : List ℕ) → i < n → L.width * n ≤ length t → written L i r t ≡ laid L (set (rows L n t) i r) t
  updated_at n i r t h k =
      let e : suc i + (n - i - 1) ≡ n = omega arith in
      rw e at (updated i (n - i - 1) r t (rw e k))

  pub inserted_at : (n i : ℕ) (r : R) (t : List ℕ) → i ≤ n → L.width * n + L.width ≤ length t
      → written L i r (run (L.width * i) (L.width * i + L.width) (L.width * (n - i)) t) ≡ laid L (insert_at i r (rows L n t)) t
  inserted_at n i r t h k =
      let w : ℕ = L.width in
      let e : i + (n - i) ≡ n = omega arith in
      rw e at (inserted i (n - i) r t (rw e k))

  -- ---- one operation after another

  -- what was laid last, over no fewer records than before
  pub laid_laid : (qs rs : List R) (t : List ℕ) → length rs ≤ length qs → laid L qs (laid L rs t) ≡ laid L qs t
  laid_laid qs rs t h =
      let w : ℕ = L.width in
      let d : ℕ = length qs - length rs in
      let e : w * length qs ≡ w * length rs + w * d = ap (λ (k : ℕ). w * k) (omega arith) ∙ mul-add w (length rs) d in
      let f : drop (w * length qs) (laid L rs t) ≡ drop (w * length qs) t =
      rw e (sym (drop-drop (w * d) (w * length rs) (laid L rs t)) ∙ ap (drop (w * d)) (drop_laid rs t) ∙ drop-drop (w * d) (w * length rs) t) in
      ap (λ (l : List ℕ). flat L qs ++ l) f

  -- the records of a table that others were laid in
  pub rows_after : (n : ℕ) (rs : List R) (t : List ℕ) → length rs ≡ n → rows L n (laid L rs t) ≡ rs
  rows_after n rs t e = subst (λ (k : ℕ). rows L k (laid L rs t) ≡ rs) e (rows_laid rs t)

module _ {R : Type 0} (L : Packed R) where
  pub drop_flat : (i : ℕ) (rs : List R) → i ≤ length rs → drop (L.width * i) (flat L rs) ≡ flat L (drop i rs)
  drop_flat i rs h =
      let e : flat L rs ≡ flat L (take i rs) ++ flat L (drop i rs) = ap (flat L) (sym (take-append-drop i rs)) ∙ flat_append L (take i rs) (drop i rs) in
      let l : length (flat L (take i rs)) ≡ L.width * i = length_flat L (take i rs) ∙ ap (λ (k : ℕ). L.width * k) (length-take-le i rs h) in
      ap (drop (L.width * i)) e ∙ drop_at (flat L (take i rs)) (flat L (drop i rs)) (L.width * i) l

  -- a record changed before the j-th leaves the words from the j-th record on
  pub laid_set_drop : (i j : ℕ) (r : R) (rs : List R) (t : List ℕ) → i < j → j ≤ length rs → drop (L.width * j) (laid L (set rs i r) t) ≡ drop (L.width * j) (laid L rs t)
  laid_set_drop i j r rs t h g =
      let w : ℕ = L.width in
      let x : List ℕ = drop (w * length rs) t in
      let n : length (set rs i r) ≡ length rs = length-set rs i r in
      let a : w * j ≤ length (flat L (set rs i r)) = rw (length_flat, n) (mul-le-mul_left w g) in
      let b : w * j ≤ length (flat L rs) = rw length_flat (mul-le-mul_left w g) in
      rw n
      (drop-append-le (w * j) (flat L (set rs i r)) x a
      ∙ ap (λ (l : List ℕ). l ++ x) (drop_flat j (set rs i r) (rw n g) ∙ ap (flat L) (drop-set-lt j rs i r h) ∙ sym (drop_flat j rs g))
      ∙ sym (drop-append-le (w * j) (flat L rs) x b))

-- ---- one word of one record

module _ {R : Type 0} (L : Packed R) where
  -- a store to the k-th word of the record at i writes the record that its words then say
  pub stored_at : (n i k v : ℕ) (t : List ℕ) → i < n → L.width * n ≤ length t → k < L.width
      → set t (cell_of k L.width i) v ≡ laid L (set (rows L n t) i (L.dec (set (drop (L.width * i) t) k v))) t
  stored_at n i k v t h l b =
      let w : ℕ = L.width in
      let c : w * suc i ≡ w * i + w = mul-suc w i in
      let f : w * suc i ≤ w * n = mul-le-mul_left w h in
      let d : List ℕ = drop (w * i) t in
      let u : List ℕ = set t (w * i + k) v in
      let ld : w ≤ length (set d k v) = simp (length-set, length-drop) (omega arith) in
      let e1 : take (w * i) u ≡ take (w * i) t = take-set-le (w * i) t (w * i + k) v (omega arith) in
      let e2 : drop (w * i) u ≡ set d k v = drop-set-add (w * i) t k v in
      let e3 : drop w (set d k v) ≡ drop (w * i + w) t = drop-set-lt w d k v b ∙ drop-drop w (w * i) t in
      let e4 : L.enc (L.dec (set d k v)) ≡ take w (set d k v) = L.enc_dec (set d k v) ld in
      ap (λ (m : ℕ). set t m v) (add_comm k (w * i))
      ∙ sym (take-append-drop (w * i) u)
      ∙ rw (e1, e2) (ap (λ (x : List ℕ). take (w * i) t ++ x) (sym (take-append-drop w (set d k v)))
      ∙ rw (e3, ← e4) (sym (append_assoc (take (w * i) t) (L.enc (L.dec (set d k v))) (drop (w * i + w) t))))
      ∙ sym (written_in L i (L.dec (set d k v)) t (omega arith))
      ∙ updated_at L n i (L.dec (set d k v)) t h l
