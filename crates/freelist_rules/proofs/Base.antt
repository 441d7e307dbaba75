-- The laws of lists of spans that rise.
use mathlib.Core.Path.{◌≡◌, refl, sym, ◌∙◌, ap}
use mathlib.Core.Bool.{Bool, true, false, cond}
use mathlib.Core.Logic.{◌⊎◌, inl, inr, ⊎_elim}
use mathlib.Core.List.Memᴰ
use mathlib.Core.List.{List, [], ◌∷◌, Memᴰ}
use Prim.Native.Nat.{ℕ, zero, suc, ◌+◌, ◌≤◌, ◌<◌}
use native.Mathlib.Omega.{arith}
use lib.ListN.{length, get_or}
use Rattle.words.specs.Rows.{remove_at}
pub use Rattle.store_rules.proofs.Placed.{at_in}
pub use Rattle.store_rules.proofs.Bytes.{on_in, on_where, on_out, on_one, on_join, total_mem, total_where, total_none}
use Rattle.freelist_rules.specs.Pieces.{total, Rising}

-- no test is both
pub never : {A : Type 0} → ◌≡◌ {A = Bool} true false → A
never {A} e = let z : ◌≡◌ {A = ℕ} 1 0 = ap (λ (b : Bool). cond b 1 0) e in absurd (omega arith)

-- ---- spans that rise: each starts at least g past the end of the one before

module _ {A : Type 0} (lo hi : A → ℕ) (g : ℕ) where
  pub rising_mono : (b c : ℕ) (xs : List A) → b ≤ c → Rising lo hi g c xs → Rising lo hi g b xs
  rising_mono b c [] h r = tt
  rising_mono b c (a ∷ xs) h r = (omega (arith, r.0), r.1, r.2)

  pub rising_low : (b : ℕ) (xs : List A) → Rising lo hi g b xs → (a : A) → Memᴰ a xs → (b ≤ lo a) × (lo a < hi a)
  rising_low b [] r a m = absurd (Memᴰ.not-nil m)
  rising_low b (c ∷ xs) r a m = go (rising_low (g + hi c) xs r.2 a) (Memᴰ.cases_cons m)
    where
      go : (Memᴰ a xs → (g + hi c ≤ lo a) × (lo a < hi a)) → (a ≡ c) ⊎ Memᴰ a xs → (b ≤ lo a) × (lo a < hi a)
      go ih (inl e) = rw e (r.0, r.1)
      go ih (inr k) = (omega (arith, (ih k).0, r.0, r.1), (ih k).1)

  -- they may be said to rise from any place that none stands before
  pub rising_from : (b c : ℕ) (xs : List A) → Rising lo hi g b xs → ((a : A) → Memᴰ a xs → c ≤ lo a) → Rising lo hi g c xs
  rising_from b c [] r f = tt
  rising_from b c (a ∷ xs) r f = (f a (Memᴰ.head refl), r.1, r.2)

  -- of two, one stands before the other or they are the same
  pub rising_apart : (b : ℕ) (xs : List A) → Rising lo hi g b xs → (a c : A) → Memᴰ a xs → Memᴰ c xs → (a ≡ c) ⊎ ((g + hi a ≤ lo c) ⊎ (g + hi c ≤ lo a))
  rising_apart b [] r a c m k = absurd (Memᴰ.not-nil m)
  rising_apart b (d ∷ xs) r a c m k = go (Memᴰ.cases_cons m) (Memᴰ.cases_cons k) (rising_apart (g + hi d) xs r.2 a c)
    where
      go : (a ≡ d) ⊎ Memᴰ a xs → (c ≡ d) ⊎ Memᴰ c xs → (Memᴰ a xs → Memᴰ c xs → (a ≡ c) ⊎ ((g + hi a ≤ lo c) ⊎ (g + hi c ≤ lo a))) → (a ≡ c) ⊎ ((g + hi a ≤ lo c) ⊎ (g + hi c ≤ lo a))
      go (inl e) (inl f) ih = inl (e ∙ sym f)
      go (inl e) (inr f) ih = inr (inl (omega (arith, ap hi e, (rising_low (g + hi d) xs r.2 c f).0)))
      go (inr e) (inl f) ih = inr (inr (omega (arith, ap hi f, (rising_low (g + hi d) xs r.2 a e).0)))
      go (inr e) (inr f) ih = ih e f

-- ---- one taken out of a list

module _ {A : Type 0} where
  pub removed_in : (i : ℕ) (xs : List A) (a : A) → Memᴰ a (remove_at i xs) → Memᴰ a xs
  removed_in zero [] a m = m
  removed_in (suc i) [] a m = m
  removed_in zero (x ∷ xs) a m = Memᴰ.tail m
  removed_in (suc i) (x ∷ xs) a m = ⊎_elim (λ e. Memᴰ.head e) (λ k. Memᴰ.tail (removed_in i xs a k)) (Memᴰ.cases_cons m)

  pub removed_total : (f : A → ℕ) (i : ℕ) (xs : List A) (d : A) → i < length xs → total f xs ≡ f (get_or xs i d) + total f (remove_at i xs)
  removed_total f i [] d h = absurd (omega arith)
  removed_total f zero (x ∷ xs) d h = refl
  removed_total f (suc i) (x ∷ xs) d h = omega (arith, removed_total f i xs d (omega arith))

  pub removed_rise : (begin stop : A → ℕ) (g b i : ℕ) (xs : List A) → Rising begin stop g b xs → Rising begin stop g b (remove_at i xs)
  removed_rise begin stop g b zero [] r = tt
  removed_rise begin stop g b (suc i) [] r = tt
  removed_rise begin stop g b zero (x ∷ xs) r = rising_mono begin stop g b (g + stop x) xs (omega (arith, r.0, r.1)) r.2
  removed_rise begin stop g b (suc i) (x ∷ xs) r = (r.0, r.1, removed_rise begin stop g (g + stop x) i xs r.2)
