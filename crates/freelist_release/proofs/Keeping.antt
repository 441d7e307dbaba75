-- Records that stay, written one after the other over those in front, in a table of which every other word is as it was.
use mathlib.Core.Path.{◌≡◌, refl, sym, ap, ◌∙◌}
use mathlib.Core.List.{List, [], ◌∷◌, ◌++◌, append-nil}
use Prim.Native.Nat.{ℕ, ◌+◌, ◌*◌, ◌≤◌}
use native.Mathlib.Nat.{mul-zero, mul-le-mul_left}
use native.Mathlib.Omega.{arith}
use lib.ListN.{length, drop, length-append, drop_of_length-le}
use lib.Seq.{append_snoc}
use Rattle.words.specs.Rows.{Layout, row, laid, written}
use Rattle.words.proofs.Records.{rows_laid, laid_rows, row_behind, drop_past, length_laid, laid_laid, appended}

module _ {R : Type 0} (L : Layout R) where
  -- a record at or past the end of those laid is as it was
  row_past : (ys : List R) (t : List ℕ) (i : ℕ) → length ys ≤ i → L.width + L.width * i + L.width ≤ length t → row L i (laid L ys t) ≡ row L i t
  row_past ys t i h k =
      let w : ℕ = L.width in
      let m : w * length ys ≤ w * i = mul-le-mul_left w h in
      row_behind L i (laid L ys t) t (omega (arith, length_laid L ys t (omega arith))) k (drop_past L ys t i (omega arith) h)

  laid_next : (ys : List R) (r : R) (t : List ℕ) → L.width + L.width * length ys + L.width ≤ length t → written L (length ys) r (laid L ys t) ≡ laid L (ys ++ (r ∷ [])) t
  laid_next ys r t h =
      appended L (length ys) r (laid L ys t) (rw (length_laid L ys t (omega arith)) h)
      ∙ ap (λ (z : List R). laid L (z ++ (r ∷ [])) (laid L ys t)) (rows_laid L ys t (omega arith))
      ∙ laid_laid L (ys ++ (r ∷ [])) ys t (omega arith) (omega (arith, length-append ys (r ∷ [])))

  -- of the first i records, those that f leaves stand in front
  pub record Kept (f : List R → List R) (rs : List R) (t u : List ℕ) (i kept : ℕ) : Type 0 where
    pub front : List R
    pub so_far : f rs ≡ front ++ f (drop i rs)
    pub count : kept ≡ length front
    pub table : u ≡ laid L front t
    pub within : kept ≤ i

  module _ (f : List R → List R) (rs : List R) (t : List ℕ) where
    pub kept_none : L.width ≤ length t → Kept f rs t t 0 0
    kept_none h = record { front = []; so_far = refl; count = refl; table = sym (laid_rows L 0 t (omega (arith, mul-zero L.width))); within = omega arith }

    module _ (u : List ℕ) (i kept : ℕ) (now : Kept f rs t u i kept) where
      pub kept_row : L.width + L.width * i + L.width ≤ length t → row L i u ≡ row L i t
      kept_row h = ap (row L i) now.table ∙ row_past now.front t i (omega (arith, now.count, now.within)) h

      pub kept_length : (n : ℕ) → i ≤ n → L.width + L.width * n ≤ length t → length u ≡ length t
      kept_length n g h =
          let m : L.width * length now.front ≤ L.width * n = mul-le-mul_left L.width (omega (arith, now.count, now.within)) in
          ap length now.table ∙ length_laid L now.front t (omega (arith, m, h))

      pub kept_past : f (drop i rs) ≡ f (drop (i + 1) rs) → Kept f rs t u (i + 1) kept
      kept_past e =
          record {
            front = now.front;
            so_far = now.so_far ∙ ap (λ (z : List R). now.front ++ z) e;
            count = now.count;
            table = now.table;
            within = omega (arith, now.within);
          }

      pub kept_more : (r : R) (v : List ℕ) → f (drop i rs) ≡ r ∷ f (drop (i + 1) rs) → v ≡ written L kept r u → L.width + L.width * i + L.width ≤ length t → Kept f rs t v (i + 1) (kept + 1)
      kept_more r v e p h =
          let m : L.width * length now.front ≤ L.width * i = mul-le-mul_left L.width (omega (arith, now.count, now.within)) in
          record {
            front = now.front ++ (r ∷ []);
            so_far = now.so_far ∙ ap (λ (z : List R). now.front ++ z) e ∙ sym (append_snoc now.front r (f (drop (i + 1) rs)));
            count = omega (arith, now.count, length-append now.front (r ∷ []));
            table = p ∙ ap (λ (z : List ℕ). written L kept r z) now.table ∙ ap (λ (z : ℕ). written L z r (laid L now.front t)) now.count ∙ laid_next now.front r t (omega (arith, m, h));
            within = omega (arith, now.within);
          }

      pub kept_all : f [] ≡ [] → length rs ≤ i → (kept ≡ length (f rs)) × (u ≡ laid L (f rs) t)
      kept_all none h =
          let e : now.front ≡ f rs = sym (now.so_far ∙ ap (λ (z : List R). now.front ++ f z) (drop_of_length-le rs h) ∙ ap (λ (z : List R). now.front ++ z) none ∙ append-nil now.front) in
          (now.count ∙ ap length e, now.table ∙ ap (λ (z : List R). laid L z t) e)
