-- A row of stores to words of a longer table is the same row done to those words alone, and leaves all others.
use mathlib.Core.Path.{◌≡◌, refl, ap, ◌∙◌}
use mathlib.Core.Bool.{Bool, true, false, cond}
use mathlib.Core.Logic.{◌⊎◌, inl, inr, ⊎_elim}
use mathlib.Core.List.{List, [], ◌∷◌, ◌++◌}
use Prim.Native.Nat.{ℕ, suc, ◌+◌, ◌*◌, ◌-◌, ◌≤◌, ◌<◌}
use native.Mathlib.Nat.{mul-suc, mul-le-mul_left}
use native.Mathlib.Omega.{arith}
use lib.ListN.{length, get_or, set, take, drop}
use lib.Seq.{drop-set-add, drop-set-lt, take-set-lt, take-set-le}
use Rattle.lists.specs.Members.{NotIn}
use Rattle.lists.proofs.Bools.{lt_or_le}
use Rattle.buddy_rules.specs.Level.{level_words, part, level_start, own_words}
use Rattle.buddy_rules.proofs.Stores.{puts, stored, length_puts, kept}

-- the stores of the second row, b words on; each within m words
abbrev pub Moved : ℕ → ℕ → List (ℕ × ℕ) → List (ℕ × ℕ) → Type 0
Moved b m [] [] = Unit {0}
Moved b m [] (r ∷ k) = ⊥
Moved b m (s ∷ l) [] = ⊥
Moved b m (s ∷ l) (r ∷ k) = ((s.0 ≡ b + r.0) × (r.0 < m) × (s.1 ≡ r.1)) × Moved b m l k

module _ (b m : ℕ) where
  pub moved_append : (l k l' k' : List (ℕ × ℕ)) → Moved b m l k → Moved b m l' k' → Moved b m (l ++ l') (k ++ k')
  moved_append [] [] l' k' r s = s
  moved_append [] (y ∷ k) l' k' r s = absurd r
  moved_append (x ∷ l) [] l' k' r s = absurd r
  moved_append (x ∷ l) (y ∷ k) l' k' r s = (r.0, moved_append l k l' k' r.1 s)

  -- one row or another, by the same test
  pub moved_either : (c : Bool) (l k l' k' : List (ℕ × ℕ)) → (c ≡ true → Moved b m l k) → (c ≡ false → Moved b m l' k') → Moved b m (cond c l l') (cond c k k')
  moved_either true l k l' k' f g = f refl
  moved_either false l k l' k' f g = g refl

  -- the words from b on
  here : (t : List ℕ) (l k : List (ℕ × ℕ)) → Moved b m l k → take m (drop b (puts t l)) ≡ puts (take m (drop b t)) k
  here t [] [] r = refl
  here t [] (y ∷ k) r = absurd r
  here t (x ∷ l) [] r = absurd r
  here t (x ∷ l) (y ∷ k) r =
      let e : take m (drop b (set t x.0 x.1)) ≡ set (take m (drop b t)) y.0 y.1 = rw (r.0.0, r.0.2) (ap (take m) (drop-set-add b t y.0 y.1) ∙ take-set-lt m (drop b t) y.0 y.1 r.0.1) in
      here (set t x.0 x.1) l k r.1 ∙ ap (λ v. puts v k) e

  -- the m words from j on, before these or after
  apart : (j : ℕ) → (j + m ≤ b) ⊎ (b + m ≤ j) → (t : List ℕ) (l k : List (ℕ × ℕ)) → Moved b m l k → take m (drop j (puts t l)) ≡ take m (drop j t)
  apart j o t [] [] r = refl
  apart j o t [] (y ∷ k) r = absurd r
  apart j o t (x ∷ l) [] r = absurd r
  apart j o t (x ∷ l) (y ∷ k) r = apart j o (set t x.0 x.1) l k r.1 ∙ by o
    where
      by : (j + m ≤ b) ⊎ (b + m ≤ j) → take m (drop j (set t x.0 x.1)) ≡ take m (drop j t)
      by (inl h) =
          let e : x.0 ≡ j + (x.0 - j) = omega (arith, r.0.0) in
          rw e (ap (take m) (drop-set-add j t (x.0 - j) x.1) ∙ take-set-le m (drop j t) (x.0 - j) x.1 (omega (arith, r.0.0)))
      by (inr h) = ap (take m) (drop-set-lt j t x.0 x.1 (omega (arith, r.0.0, r.0.1)))

  past : (i : ℕ) → b + m ≤ i → (l k : List (ℕ × ℕ)) → Moved b m l k → NotIn i (stored l)
  past i h [] [] r = tt
  past i h [] (y ∷ k) r = absurd r
  past i h (x ∷ l) [] r = absurd r
  past i h (x ∷ l) (y ∷ k) r = ((λ e. omega (arith, r.0.0, r.0.1)), past i h l k r.1)

-- ---- one level of a table of levels

-- from t to t' level l becomes v: no other level changes, nor any word past the level, nor the table's length
pub record Within (pairs l : ℕ) (t t' v : List ℕ) : Type 0 where
  pub here : part pairs l t' ≡ v
  pub others : (j : ℕ) → (j ≡ l → ⊥) → part pairs j t' ≡ part pairs j t
  pub past : (i : ℕ) → level_start pairs (l + 1) ≤ i → get_or t' i 0 ≡ get_or t i 0
  pub long : length t' ≡ length t

-- two levels have no word in common
levels_apart : (o m j l : ℕ) → (j ≡ l → ⊥) → (o + m * j + m ≤ o + m * l) ⊎ (o + m * l + m ≤ o + m * j)
levels_apart o m j l ne = by (lt_or_le j l)
  where
    before : (a c : ℕ) → a < c → o + m * a + m ≤ o + m * c
    before a c h =
        let k : m * suc a ≤ m * c = mul-le-mul_left m h in
        omega (arith, mul-suc m a)

    by : (j < l) ⊎ (l ≤ j) → (o + m * j + m ≤ o + m * l) ⊎ (o + m * l + m ≤ o + m * j)
    by (inl h) = inl (before j l h)
    by (inr h) = inr (before l j (⊎_elim (λ k. k) (λ k. absurd (ne (omega arith))) (lt_or_le l j)))

pub within : (pairs l : ℕ) (t : List ℕ) (r k : List (ℕ × ℕ)) → Moved (level_start pairs l) (level_words pairs) r k → Within pairs l t (puts t r) (puts (part pairs l t) k)
within pairs l t r k m = record {
  here = here (level_start pairs l) (level_words pairs) t r k m;
  others = λ j ne. apart (level_start pairs l) (level_words pairs) (level_start pairs j) (levels_apart own_words (level_words pairs) j l ne) t r k m;
  past = λ i h. kept t r i (past (level_start pairs l) (level_words pairs) i (omega (arith, mul-suc (level_words pairs) l)) r k m);
  long = length_puts t r;
}
