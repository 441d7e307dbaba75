-- The laws of a table's records behind its own, at any width.
use mathlib.Core.Path.{◌≡◌, refl, sym, ap, subst, ◌∙◌}
use mathlib.Core.List.{List, [], ◌∷◌, ◌++◌, append_assoc}
use Prim.Native.Nat.{ℕ, zero, suc, ◌+◌, ◌-◌, ◌*◌, ◌≤◌, ◌<◌}
use native.Mathlib.Nat.{add_comm, suc-add, mul-zero, mul-suc, mul-add, le_of_suc-le-suc, not-suc-le-zero}
use native.Mathlib.Omega.{arith}
use lib.ListN.{length, take, drop, get_or, set, replicate, length-append, length-take, length-drop, length-set, length-replicate, take-append-drop}
use lib.Seq.{sets, get_or-take, get_or-set_other, sets-eq, length-sets, drop_at, take_at, take-add, drop-drop, length-take-le, get_or-drop, drop-set-add, take-set-le, drop-set-lt}
use Rattle.words.specs.Words.{cell_of, closed, opened}
use Rattle.words.specs.Rows.{Layout, row, rows, flat, laid, written, remove_at, insert_at}
use Rattle.words.proofs.Moved.{run, length_run, moved_in, record_and_next, before_and_from, to_and_past}
use Rattle.words.proofs.Packed as Packed

-- words stored from i on leave those before
get_d_sets_before : (vs t : List ℕ) (i j d : ℕ) → j < i → get_or (sets t i vs) j d ≡ get_or t j d
get_d_sets_before [] t i j d h = refl
get_d_sets_before (v ∷ vs) t i j d h = get_d_sets_before vs (set t i v) (suc i) j d (omega arith) ∙ get_or-set_other t i j v d (λ e. omega arith)

module _ {R : Type 0} (L : Layout R) where
  pub length_rows : (n : ℕ) (t : List ℕ) → length (rows L n t) ≡ n
  length_rows zero t = refl
  length_rows (suc n) t = ap suc (length_rows n (drop L.width t))

  pub take_rows : (i n : ℕ) (t : List ℕ) → i ≤ n → take i (rows L n t) ≡ rows L i t
  take_rows zero n t h = refl
  take_rows (suc i) zero t h = absurd (not-suc-le-zero h)
  take_rows (suc i) (suc n) t h = ap (λ (l : List R). L.dec t ∷ l) (take_rows i n (drop L.width t) (le_of_suc-le-suc h))

  -- the record at i, by its words
  pub get_d_rows : (n i : ℕ) (t : List ℕ) (d : R) → i < n → get_or (rows L n t) i d ≡ row L i t
  get_d_rows zero i t d h = absurd (not-suc-le-zero h)
  get_d_rows (suc n) zero t d h = sym (ap (λ (k : ℕ). L.dec (drop k t)) (mul-zero L.width))
  get_d_rows (suc n) (suc i) t d h =
      let e : L.width * suc i ≡ L.width + L.width * i = omega (arith, mul-suc L.width i) in
      get_d_rows n i (drop L.width t) d (le_of_suc-le-suc h)
      ∙ ap L.dec (drop-drop (L.width * i) L.width t ∙ ap (λ (k : ℕ). drop k t) (sym e))

  -- one record more, after the others
  pub rows_snoc : (n : ℕ) (t : List ℕ) → rows L (n + 1) t ≡ rows L n t ++ (row L n t ∷ [])
  rows_snoc zero t = sym (ap (λ (k : ℕ). L.dec (drop k t) ∷ []) (mul-zero L.width))
  rows_snoc (suc n) t =
      let e : L.width * suc n ≡ L.width + L.width * n = omega (arith, mul-suc L.width n) in
      let f : row L n (drop L.width t) ≡ row L (suc n) t = ap L.dec (drop-drop (L.width * n) L.width t ∙ ap (λ (k : ℕ). drop k t) (sym e)) in
      rw (suc-add) (ap (λ (l : List R). L.dec t ∷ l) (rows_snoc n (drop L.width t) ∙ ap (λ (r : R). rows L n (drop L.width t) ++ (r ∷ [])) f))

  -- ---- behind the table's own words the records are packed

  -- words in front of packed records, to be read past
  abbrev pub front : List ℕ
  front = replicate L.width 0

  pub front_length : length {A = ℕ} (replicate L.width 0) ≡ L.width
  front_length = length-replicate L.width 0

  pub behind : (t : List ℕ) → drop L.width (replicate L.width 0 ++ t) ≡ t
  behind t = drop_at front t L.width front_length

  abbrev pub packed : Packed.Packed R
  packed =
      record {
        width = L.width;
        enc = L.enc;
        dec = λ (t : List ℕ). L.dec (replicate L.width 0 ++ t);
        enc_length = L.enc_length;
        dec_enc = λ r rest. L.dec_enc front r rest front_length;
        enc_dec = λ t h. L.enc_dec (front ++ t) (omega (arith, length-append front t, front_length)) ∙ ap (take L.width) (behind t);
      }

  -- a record is read the same whatever stands before it
  dec_behind : (t : List ℕ) → L.width + L.width ≤ length t → L.dec t ≡ L.dec (replicate L.width 0 ++ drop L.width t)
  dec_behind t h =
      let w : ℕ = L.width in
      let r : R = L.dec t in
      let e : drop w t ≡ L.enc r ++ drop w (drop w t) = sym (ap (λ (x : List ℕ). x ++ drop w (drop w t)) (L.enc_dec t h) ∙ take-append-drop w (drop w t)) in
      sym (ap (λ (x : List ℕ). L.dec (front ++ x)) e ∙ L.dec_enc front r (drop w (drop w t)) front_length)

  flat_packed : (rs : List R) → flat L rs ≡ Packed.flat packed rs
  flat_packed [] = refl
  flat_packed (r ∷ rs) = ap (λ (x : List ℕ). L.enc r ++ x) (flat_packed rs)

  rows_packed : (n : ℕ) (t : List ℕ) → L.width + L.width * n ≤ length t → rows L n t ≡ Packed.rows packed n (drop L.width t)
  rows_packed zero t h = refl
  rows_packed (suc n) t h =
      let w : ℕ = L.width in
      let e : w * suc n ≡ w + w * n = omega (arith, mul-suc w n) in
      let f : rows L n (drop w t) ≡ Packed.rows packed n (drop w (drop w t)) = rows_packed n (drop w t) (simp length-drop (omega arith)) in
      ap (λ (r : R). r ∷ rows L n (drop w t)) (dec_behind t (omega arith)) ∙ ap (λ (rs : List R). L.dec (front ++ drop w t) ∷ rs) f

  -- a word of the table's own leaves them
  pub rows_own : (n j v : ℕ) (t : List ℕ) → j < L.width → L.width + L.width * n ≤ length t → rows L n (set t j v) ≡ rows L n t
  rows_own n j v t h k =
      rows_packed n (set t j v) (omega (arith, length-set t j v))
      ∙ ap (Packed.rows packed n) (drop-set-lt L.width t j v h)
      ∙ sym (rows_packed n t k)

  laid_packed : (rs : List R) (t : List ℕ) → laid L rs t ≡ take L.width t ++ Packed.laid packed rs (drop L.width t)
  laid_packed rs t =
      let w : ℕ = L.width in
      rw (flat_packed rs, drop-drop (w * length rs) w t)

  pub length_flat : (rs : List R) → length (flat L rs) ≡ L.width * length rs
  length_flat rs = ap length (flat_packed rs) ∙ Packed.length_flat packed rs

  -- ---- a table, read again after its records were laid

  own_length : (t x : List ℕ) → L.width ≤ length t → drop L.width (take L.width t ++ x) ≡ x
  own_length t x h = drop_at (take L.width t) x L.width (length-take-le L.width t h)

  own_stays : (t x : List ℕ) → L.width ≤ length t → take L.width (take L.width t ++ x) ≡ take L.width t
  own_stays t x h = take_at (take L.width t) x L.width (length-take-le L.width t h)

  pub length_laid : (rs : List R) (t : List ℕ) → L.width + L.width * length rs ≤ length t → length (laid L rs t) ≡ length t
  length_laid rs t h = simp (length-append, length-take, length_flat, length-drop) (omega arith)

  pub take_laid : (rs : List R) (t : List ℕ) → L.width ≤ length t → take L.width (laid L rs t) ≡ take L.width t
  take_laid rs t h = own_stays t (flat L rs ++ drop (L.width + L.width * length rs) t) h

  -- a word of the table's own stays
  pub own_laid : (rs : List R) (t : List ℕ) (j d : ℕ) → L.width ≤ length t → j < L.width → get_or (laid L rs t) j d ≡ get_or t j d
  own_laid rs t j d h k =
      sym (get_or-take L.width (laid L rs t) j d k) ∙ ap (λ (x : List ℕ). get_or x j d) (take_laid rs t h) ∙ get_or-take L.width t j d k

  -- behind the table's own words the records are those that were laid
  pub rows_laid : (rs : List R) (t : List ℕ) → L.width + L.width * length rs ≤ length t → rows L (length rs) (laid L rs t) ≡ rs
  rows_laid rs t h =
      let w : ℕ = L.width in
      let d : List ℕ = drop w t in
      rows_packed (length rs) (laid L rs t) (omega (arith, length_laid rs t h))
      ∙ ap (λ (x : List ℕ). Packed.rows packed (length rs) (drop w x)) (laid_packed rs t)
      ∙ ap (Packed.rows packed (length rs)) (own_length t (Packed.laid packed rs d) (omega arith))
      ∙ Packed.rows_laid packed rs d

  pub drop_laid : (rs : List R) (t : List ℕ) → L.width ≤ length t
      → drop (L.width + L.width * length rs) (laid L rs t) ≡ drop (L.width + L.width * length rs) t
  drop_laid rs t h =
      let w : ℕ = L.width in
      let d : List ℕ = drop w t in
      sym (drop-drop (w * length rs) w (laid L rs t))
      ∙ ap (λ (x : List ℕ). drop (w * length rs) (drop w x)) (laid_packed rs t)
      ∙ ap (drop (w * length rs)) (own_length t (Packed.laid packed rs d) h)
      ∙ Packed.drop_laid packed rs d
      ∙ drop-drop (w * length rs) w t

  -- the words from the record at i on, at or past the end of those laid, are as they were
  pub drop_past : (rs : List R) (t : List ℕ) (i : ℕ) → L.width ≤ length t → length rs ≤ i
      → drop (L.width + L.width * i) (laid L rs t) ≡ drop (L.width + L.width * i) t
  drop_past rs t i h g =
      let w : ℕ = L.width in
      let n : ℕ = length rs in
      let d : ℕ = i - n in
      let f : i ≡ n + d = omega arith in
      let g : w + w * (n + d) ≡ w + w * n + w * d = omega (arith, mul-add w n d) in
      let e : w + w * i ≡ w + w * n + w * d = ap (λ (k : ℕ). w + w * k) f ∙ g in
      rw e (sym (drop-drop (w * d) (w + w * n) (laid L rs t)) ∙ ap (drop (w * d)) (drop_laid rs t h) ∙ drop-drop (w * d) (w + w * n) t)

  -- the record at i is told by its own words
  pub row_behind : (i : ℕ) (t u : List ℕ) → L.width + L.width * i + L.width ≤ length t → L.width + L.width * i + L.width ≤ length u
      → drop (L.width + L.width * i) t ≡ drop (L.width + L.width * i) u → row L i t ≡ row L i u
  row_behind i t u h k e =
      let w : ℕ = L.width in
      let c : w * i + w ≡ w + w * i = omega arith in
      let p : (v : List ℕ) → drop w (drop (w * i) v) ≡ drop (w + w * i) v = λ v. drop-drop w (w * i) v ∙ ap (λ (j : ℕ). drop j v) c in
      dec_behind (drop (w * i) t) (simp length-drop (omega arith))
      ∙ ap (λ (x : List ℕ). L.dec (front ++ x)) (p t ∙ e ∙ sym (p u))
      ∙ sym (dec_behind (drop (w * i) u) (simp length-drop (omega arith)))

  -- a table is its own records, laid
  pub laid_rows : (n : ℕ) (t : List ℕ) → L.width + L.width * n ≤ length t → laid L (rows L n t) t ≡ t
  laid_rows n t h =
      let w : ℕ = L.width in
      laid_packed (rows L n t) t
      ∙ ap (λ (rs : List R). take w t ++ Packed.laid packed rs (drop w t)) (rows_packed n t h)
      ∙ ap (λ (x : List ℕ). take w t ++ x) (Packed.laid_rows packed n (drop w t) (simp length-drop (omega arith)))
      ∙ take-append-drop w t

  -- what is laid behind the own words, of packed records and of the table's
  relaid : (n : ℕ) (f : List R → List R) (t : List ℕ) → L.width + L.width * n ≤ length t
      → take L.width t ++ Packed.laid packed (f (Packed.rows packed n (drop L.width t))) (drop L.width t) ≡ laid L (f (rows L n t)) t
  relaid n f t h =
      let w : ℕ = L.width in
      ap (λ (rs : List R). take w t ++ Packed.laid packed (f rs) (drop w t)) (sym (rows_packed n t h)) ∙ sym (laid_packed (f (rows L n t)) t)

  -- ---- what each operation leaves, in words and in records

  pub length_written : (i : ℕ) (r : R) (t : List ℕ) → length (written L i r t) ≡ length t
  length_written i r t = length-sets t (L.width + L.width * i) (L.enc r)

  pub own_written : (i : ℕ) (r : R) (t : List ℕ) (j d : ℕ) → j < L.width → get_or (written L i r t) j d ≡ get_or t j d
  own_written i r t j d h = get_d_sets_before (L.enc r) t (L.width + L.width * i) j d (omega arith)

  -- a record written where its words lie in the table
  pub written_in : (i : ℕ) (r : R) (t : List ℕ) → L.width + L.width * i + L.width ≤ length t
      → written L i r t ≡ take (L.width + L.width * i) t ++ L.enc r ++ drop (L.width + L.width * i + L.width) t
  written_in i r t h =
      let e : length (L.enc r) ≡ L.width = L.enc_length r in
      sets-eq (L.enc r) t (L.width + L.width * i) (omega arith) ∙ rw e

  -- behind the table's own words
  written_packed : (i : ℕ) (r : R) (t : List ℕ) → L.width + L.width * i + L.width ≤ length t
      → written L i r t ≡ take L.width t ++ Packed.written packed i r (drop L.width t)
  written_packed i r t h =
      let w : ℕ = L.width in
      let d : List ℕ = drop w t in
      let a : take (w + w * i) t ≡ take w t ++ take (w * i) d = take-add w (w * i) t in
      let z : w + w * i + w ≡ w + (w * i + w) = omega arith in
      let b : drop (w + w * i + w) t ≡ drop (w * i + w) d = ap (λ (k : ℕ). drop k t) z ∙ sym (drop-drop (w * i + w) w t) in
      written_in i r t h
      ∙ rw (a, b) (simp append_assoc)
      ∙ sym (ap (λ (x : List ℕ). take w t ++ x) (Packed.written_in packed i r d (simp length-drop (omega arith))))

  pub appended : (n : ℕ) (r : R) (t : List ℕ) → L.width + L.width * n + L.width ≤ length t
      → written L n r t ≡ laid L (rows L n t ++ (r ∷ [])) t
  appended n r t h =
      let w : ℕ = L.width in
      written_packed n r t h
      ∙ ap (λ (x : List ℕ). take w t ++ x) (Packed.appended packed n r (drop w t) (simp length-drop (omega arith)))
      ∙ relaid n (λ (rs : List R). rs ++ (r ∷ [])) t (omega arith)

  -- words moved behind the table's own
  run_behind : (src dst m : ℕ) (t : List ℕ) → run (L.width + src) (L.width + dst) m t ≡ take L.width t ++ run src dst m (drop L.width t)
  run_behind src dst m t =
      let w : ℕ = L.width in
      let d : List ℕ = drop w t in
      let a : take (w + dst) t ≡ take w t ++ take dst d = take-add w dst t in
      let b : drop (w + src) t ≡ drop src d = sym (drop-drop src w t) in
      let z : w + dst + m ≡ w + (dst + m) = omega arith in
      let c : drop (w + dst + m) t ≡ drop (dst + m) d = ap (λ (k : ℕ). drop k t) z ∙ sym (drop-drop (dst + m) w t) in
      rw (a, b, c) (simp append_assoc)

  pub removed_at : (n i : ℕ) (t : List ℕ) → i < n → L.width + L.width * n ≤ length t → closed L.width n i t ≡ laid L (remove_at i (rows L n t)) t
  removed_at n i t h k =
      let w : ℕ = L.width in
      let a : w * (i + 1) + w * (n - i - 1) ≡ w * n = to_and_past w n i h in
      let b : w * (i + 1) ≡ w * i + w = record_and_next w i in
      let z : w + w * i + w ≡ w + w * (i + 1) = omega arith in
      moved_in t (w + w * i + w) (w + w * i) (w * (n - i - 1)) (omega arith) (omega arith)
      ∙ ap (λ (j : ℕ). run j (w + w * i) (w * (n - i - 1)) t) z
      ∙ run_behind (w * (i + 1)) (w * i) (w * (n - i - 1)) t
      ∙ ap (λ (x : List ℕ). take w t ++ x) (Packed.removed_at packed n i (drop w t) h (simp length-drop (omega arith)))
      ∙ relaid n (remove_at i) t k

  pub updated_at : (n i : ℕ) (r : R) (t : List ℕ) → i < n → L.width + L.width * n ≤ length t → written L i r t ≡ laid L (set (rows L n t) i r) t
  updated_at n i r t h k =
      let w : ℕ = L.width in
      let a : w * (i + 1) + w * (n - i - 1) ≡ w * n = to_and_past w n i h in
      let b : w * (i + 1) ≡ w * i + w = record_and_next w i in
      written_packed i r t (omega arith)
      ∙ ap (λ (x : List ℕ). take w t ++ x) (Packed.updated_at packed n i r (drop w t) h (simp length-drop (omega arith)))
      ∙ relaid n (λ (rs : List R). set rs i r) t k

  pub inserted_at : (n i : ℕ) (r : R) (t : List ℕ) → i ≤ n → L.width + L.width * n + L.width ≤ length t
      → written L i r (opened L.width n i t) ≡ laid L (insert_at i r (rows L n t)) t
  inserted_at n i r t h k =
      let w : ℕ = L.width in
      let d : List ℕ = drop w t in
      let x : List ℕ = run (w * i) (w * i + w) (w * (n - i)) d in
      let a : w * i + w * (n - i) ≡ w * n = before_and_from w n i h in
      let z : w + w * i + w ≡ w + (w * i + w) = omega arith in
      let e : opened w n i t ≡ take w t ++ x =
      moved_in t (w + w * i) (w + w * i + w) (w * (n - i)) (omega arith) (omega arith)
      ∙ ap (λ (j : ℕ). run (w + w * i) j (w * (n - i)) t) z
      ∙ run_behind (w * i) (w * i + w) (w * (n - i)) t in
      let l : length d + w ≡ length t = simp length-drop (omega arith) in
      let y : length x ≡ length d = length_run d (w * i) (w * i + w) (w * (n - i)) (omega arith) (omega arith) in
      ap (written L i r) e
      ∙ written_packed i r (take w t ++ x) (omega (arith, length-append (take w t) x, length-take-le w t (omega arith)))
      ∙ rw (own_stays t x (omega arith), own_length t x (omega arith))
      (ap (λ (u : List ℕ). take w t ++ u) (Packed.inserted_at packed n i r d h (omega arith)))
      ∙ relaid n (insert_at i r) t (omega arith)

  -- ---- one operation after another

  -- what was laid last, over no fewer records than before
  pub laid_laid : (qs rs : List R) (t : List ℕ) → L.width ≤ length t → length rs ≤ length qs → laid L qs (laid L rs t) ≡ laid L qs t
  laid_laid qs rs t g h =
      let w : ℕ = L.width in
      let d : List ℕ = drop w t in
      laid_packed qs (laid L rs t)
      ∙ ap (λ (x : List ℕ). take w x ++ Packed.laid packed qs (drop w x)) (laid_packed rs t)
      ∙ rw (own_stays t (Packed.laid packed rs d) g, own_length t (Packed.laid packed rs d) g)
      (ap (λ (x : List ℕ). take w t ++ x) (Packed.laid_laid packed qs rs d h))
      ∙ sym (laid_packed qs t)

  -- the records of a table that others were laid in
  pub rows_after : (n : ℕ) (rs : List R) (t : List ℕ) → L.width + L.width * n ≤ length t → length rs ≡ n → rows L n (laid L rs t) ≡ rs
  rows_after n rs t h e = subst (λ (k : ℕ). rows L k (laid L rs t) ≡ rs) e (rows_laid rs t (rw e h))

  -- a record changed before the j-th leaves the words from the j-th record on
  pub laid_set_drop : (i j : ℕ) (r : R) (rs : List R) (t : List ℕ) → L.width ≤ length t → i < j → j ≤ length rs
      → drop (L.width + L.width * j) (laid L (set rs i r) t) ≡ drop (L.width + L.width * j) (laid L rs t)
  laid_set_drop i j r rs t o h g = past (set rs i r) ∙ Packed.laid_set_drop packed i j r rs d h g ∙ sym (past rs)
    where
      w : ℕ
      w = L.width

      d : List ℕ
      d = drop w t

      past : (qs : List R) → drop (L.width + L.width * j) (laid L qs t) ≡ drop (w * j) (Packed.laid packed qs d)
      past qs =
          sym (drop-drop (w * j) w (laid L qs t))
          ∙ ap (λ (x : List ℕ). drop (w * j) (drop w x)) (laid_packed qs t)
          ∙ ap (drop (w * j)) (own_length t (Packed.laid packed qs d) o)

module _ {R : Type 0} where
  pub length_remove_at : (i : ℕ) (rs : List R) → i < length rs → length (remove_at i rs) ≡ length rs - 1
  length_remove_at i rs h = simp (length-append, length-take, length-drop) (omega arith)

  pub length_insert_at : (i : ℕ) (r : R) (rs : List R) → i ≤ length rs → length (insert_at i r rs) ≡ length rs + 1
  length_insert_at i r rs h = simp (length-append, length-take, length-drop) (omega arith)

-- ---- one word of one record

pub cell_row : (t : List ℕ) (at w i : ℕ) → get_or t (cell_of at w i) 0 ≡ get_or (drop (w * i) t) at 0
cell_row t at w i = ap (λ (k : ℕ). get_or t k 0) (add_comm at (w * i)) ∙ sym (get_or-drop (w * i) t at 0)

module _ {R : Type 0} (L : Layout R) where
  -- a store to word k of the record at i, which stands behind the own words, writes the record that its words then say
  pub stored_at : (n i k v : ℕ) (t : List ℕ) → i < n → L.width + L.width * n ≤ length t → L.width ≤ k → k < L.width + L.width
      → set t (cell_of k L.width i) v ≡ laid L (set (rows L n t) i (L.dec (set (drop (L.width * i) t) k v))) t
  stored_at n i k v t h l a b =
      let w : ℕ = L.width in
      let d : List ℕ = drop w t in
      let j : ℕ = k - w in
      let f : w * (i + 1) + w * (n - i - 1) ≡ w * n = to_and_past w n i h in
      let g : w * (i + 1) ≡ w * i + w = record_and_next w i in
      let z : cell_of k w i ≡ w + cell_of j w i = omega arith in
      let u : List ℕ = set (drop (w * i) t) k v in
      let e1 : take w (set t (w + cell_of j w i) v) ≡ take w t = take-set-le w t (w + cell_of j w i) v (omega arith) in
      let e2 : drop w (set t (w + cell_of j w i) v) ≡ set d (cell_of j w i) v = drop-set-add w t (cell_of j w i) v in
      let y : w + j ≡ k = omega arith in
      let x : w * i + w ≡ w + w * i = omega arith in
      let p : drop w u ≡ set (drop (w * i) d) j v =
      ap (λ (m : ℕ). drop w (set (drop (w * i) t) m v)) (sym y)
      ∙ drop-set-add w (drop (w * i) t) j v
      ∙ ap (λ (s : List ℕ). set s j v) (drop-drop w (w * i) t ∙ ap (λ (m : ℕ). drop m t) x ∙ sym (drop-drop (w * i) w t)) in
      let q : L.dec u ≡ (packed L).dec (set (drop (w * i) d) j v) =
      dec_behind L u (simp (length-set, length-drop) (omega arith)) ∙ ap (λ (s : List ℕ). (packed L).dec s) p in
      ap (λ (m : ℕ). set t m v) z
      ∙ sym (take-append-drop w (set t (w + cell_of j w i) v))
      ∙ rw (e1, e2) (ap (λ (s : List ℕ). take w t ++ s) (Packed.stored_at (packed L) n i j v d h (simp length-drop (omega arith)) (omega arith)))
      ∙ ap (λ (r : R). take w t ++ Packed.laid (packed L) (set (Packed.rows (packed L) n d) i r) d) (sym q)
      ∙ relaid L n (λ (rs : List R). set rs i (L.dec u)) t l
