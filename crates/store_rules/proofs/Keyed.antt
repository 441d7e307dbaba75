-- Elements of a list told apart by a number that each has.
use mathlib.Core.Path.{◌≡◌, refl, sym, ap, ◌∙◌}
use mathlib.Core.Logic.{◌⊎◌, inl, inr, ⊎_elim}
use mathlib.Core.List.Memᴰ
use mathlib.Core.List.{List, [], ◌∷◌, map, Memᴰ}
use Prim.Native.Nat.{ℕ}
use Rattle.lists.specs.Members.{Mem, NotIn, Distinct}
use Rattle.store_rules.specs.Views.{Differ}

-- the two ways of saying that a number stands in a list
pub stands : (x : ℕ) (l : List ℕ) → Memᴰ x l → Mem x l
stands x [] m = absurd (Memᴰ.not-nil m)
stands x (y ∷ l) m = ⊎_elim (λ e. inl e) (λ k. inr (stands x l k)) (Memᴰ.cases_cons m)

module _ {A : Type 0} (key : A → ℕ) where
  -- the number of one of them stands in the list of their numbers
  pub mem_key : (a : A) (xs : List A) → Memᴰ a xs → Mem (key a) (map key xs)
  mem_key a [] m = absurd (Memᴰ.not-nil m)
  mem_key a (b ∷ xs) m = ⊎_elim (λ e. inl (ap key e)) (λ k. inr (mem_key a xs k)) (Memᴰ.cases_cons m)

  pub key_not : (x : ℕ) (xs : List A) → NotIn x (map key xs) → (a : A) → Memᴰ a xs → x ≡ key a → ⊥
  key_not x [] n a m e = Memᴰ.not-nil m
  key_not x (b ∷ xs) n a m e = ⊎_elim (λ h. n.0 (e ∙ ap key h)) (λ h. key_not x xs n.1 a h e) (Memᴰ.cases_cons m)

  pub not_key : (x : ℕ) (xs : List A) → ((a : A) → Memᴰ a xs → x ≡ key a → ⊥) → NotIn x (map key xs)
  not_key x [] f = tt
  not_key x (b ∷ xs) f = (f b (Memᴰ.head refl), not_key x xs (λ a m. f a (Memᴰ.tail m)))

  pub distinct_differ : (xs : List A) → Distinct (map key xs) → Differ key xs
  distinct_differ [] d a b m k q = absurd (Memᴰ.not-nil m)
  distinct_differ (c ∷ xs) d a b m k q = go (Memᴰ.cases_cons m) (Memᴰ.cases_cons k) (λ x y. distinct_differ xs d.1 a b x y q)
    where
      go : (a ≡ c) ⊎ Memᴰ a xs → (b ≡ c) ⊎ Memᴰ b xs → (Memᴰ a xs → Memᴰ b xs → a ≡ b) → a ≡ b
      go (inl x) (inl y) ih = x ∙ sym y
      go (inl x) (inr y) ih = absurd (key_not (key c) xs d.0 b y (ap key (sym x) ∙ q))
      go (inr x) (inl y) ih = absurd (key_not (key c) xs d.0 a x (ap key (sym y) ∙ sym q))
      go (inr x) (inr y) ih = ih x y
