-- The laws of bytes that pieces hold, and of sums.
use mathlib.Core.Path.{◌≡◌, refl, sym, ap}
use mathlib.Core.Bool.{Bool, true, false, cond, ◌&&◌}
use mathlib.Core.Logic.{◌⊎◌, inl, inr, ⊎_elim}
use mathlib.Core.List.Memᴰ
use mathlib.Core.List.{List, [], ◌∷◌, ◌++◌, Memᴰ}
use Prim.Native.Nat.{ℕ, ◌+◌, ◌≤◌, ◌<◌}
use native.Mathlib.Omega.{arith}
use lib.Dec.{ltb, leb, eqb}
use borrow.Author.Tests.{ltb-true, leb-true, eqb-true, lt-ltb, le-ltb, eq-eqb, le-leb, lt-leb}
use Rattle.lists.proofs.Bools.{and_left, and_right, told, lt_or_le}
use Rattle.store_rules.specs.Views.{on, total}

-- ---- a byte and a piece

pub on_in : (n x c lo hi : ℕ) → c ≡ n → lo ≤ x → x < hi → on n x c lo hi ≡ 1
unfolding on
on_in n x c lo hi e p q = rw (eq-eqb c n e, le-leb lo x p, lt-ltb x hi q)

on_test : (n x c lo hi : ℕ) (t : Bool) → (eqb c n && (leb lo x && ltb x hi)) ≡ t → 0 < cond t 1 0 → (c ≡ n) × (lo ≤ x) × (x < hi)
on_test n x c lo hi true e p =
    let a = and_right (eqb c n) (leb lo x && ltb x hi) e in
    (eqb-true c n (and_left (eqb c n) (leb lo x && ltb x hi) e), leb-true lo x (and_left (leb lo x) (ltb x hi) a), ltb-true x hi (and_right (leb lo x) (ltb x hi) a))
on_test n x c lo hi false e p = absurd (omega arith)

pub on_where : (n x c lo hi : ℕ) → 0 < on n x c lo hi → (c ≡ n) × (lo ≤ x) × (x < hi)
unfolding on
on_where n x c lo hi p = on_test n x c lo hi _ refl p

pub on_out : (n x c lo hi : ℕ) → (c ≡ n → lo ≤ x → x < hi → ⊥) → on n x c lo hi ≡ 0
on_out n x c lo hi f = go (lt_or_le 0 (on n x c lo hi))
  where
    go : (0 < on n x c lo hi) ⊎ (on n x c lo hi ≤ 0) → on n x c lo hi ≡ 0
    go (inl h) = let w = on_where n x c lo hi h in absurd (f w.0 w.1 w.2)
    go (inr h) = omega arith

pub on_one : (n x c a b : ℕ) → on n x c a b ≤ 1
on_one n x c a b = go (lt_or_le 0 (on n x c a b))
  where
    go : (0 < on n x c a b) ⊎ (on n x c a b ≤ 0) → on n x c a b ≤ 1
    go (inl h) = let w = on_where n x c a b h in omega (arith, on_in n x c a b w.0 w.1 w.2)
    go (inr h) = omega arith

-- 1 where x lies before b in chunk c, else 0
upto : ℕ → ℕ → ℕ → ℕ → ℕ
upto n x c b = cond (eqb c n && ltb x b) 1 0

on_upto : (n x c lo hi : ℕ) → lo ≤ hi → upto n x c lo + on n x c lo hi ≡ upto n x c hi
unfolding on upto
on_upto n x c lo hi l = ⊎_elim same other (told (eqb c n))
  where
    same : eqb c n ≡ true → cond (eqb c n && ltb x lo) 1 0 + cond (eqb c n && (leb lo x && ltb x hi)) 1 0 ≡ cond (eqb c n && ltb x hi) 1 0
    same e = rw e (⊎_elim (λ h. rw (lt-ltb x lo h, lt-ltb x hi (omega arith), lt-leb lo x h)) (λ h. rw (le-ltb x lo h, le-leb lo x h) (zero_plus (cond (ltb x hi) 1 0))) (lt_or_le x lo))
      where
        zero_plus : (k : ℕ) → 0 + k ≡ k
        zero_plus k = omega arith

    other : eqb c n ≡ false → cond (eqb c n && ltb x lo) 1 0 + cond (eqb c n && (leb lo x && ltb x hi)) 1 0 ≡ cond (eqb c n && ltb x hi) 1 0
    other e = rw e

-- two pieces end to end hold what the whole does
pub on_join : (n x c d a b e : ℕ) → c ≡ d → a ≤ b → b ≤ e → on n x c a b + on n x d b e ≡ on n x c a e
on_join n x c d a b e h p q = rw (sym h) (omega (arith, on_upto n x c a b p, on_upto n x c b e q, on_upto n x c a e (omega arith)))

-- ---- sums

module _ {A : Type 0} where
  pub total_mem : (f : A → ℕ) (a : A) (xs : List A) → Memᴰ a xs → f a ≤ total f xs
  total_mem f a [] m = absurd (Memᴰ.not-nil m)
  total_mem f a (b ∷ xs) m = go (total_mem f a xs) (Memᴰ.cases_cons m)
    where
      go : (Memᴰ a xs → f a ≤ total f xs) → (a ≡ b) ⊎ Memᴰ a xs → f a ≤ f b + total f xs
      go ih (inl e) = omega (arith, ap f e)
      go ih (inr k) = omega (arith, ih k)

  pub total_where : (f : A → ℕ) (xs : List A) → 0 < total f xs → (a : A) × Memᴰ a xs × (0 < f a)
  total_where f [] h = absurd (omega arith)
  total_where f (a ∷ xs) h = go (total_where f xs) (lt_or_le 0 (f a))
    where
      go : (0 < total f xs → (b : A) × Memᴰ b xs × (0 < f b)) → (0 < f a) ⊎ (f a ≤ 0) → (b : A) × Memᴰ b (a ∷ xs) × (0 < f b)
      go ih (inl k) = (a, Memᴰ.head refl, k)
      go ih (inr k) = let w = ih (omega arith) in (w.0, Memᴰ.tail w.1, w.2)

  pub total_none : (f : A → ℕ) (xs : List A) → ((a : A) → Memᴰ a xs → f a ≡ 0) → total f xs ≡ 0
  total_none f [] h = refl
  total_none f (a ∷ xs) h = omega (arith, h a (Memᴰ.head refl), total_none f xs (λ b m. h b (Memᴰ.tail m)))

  pub total_append : (f : A → ℕ) (xs ys : List A) → total f (xs ++ ys) ≡ total f xs + total f ys
  total_append f [] ys = omega arith
  total_append f (x ∷ xs) ys = omega (arith, total_append f xs ys)
