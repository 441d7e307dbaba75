-- Lists with no element twice, and sums parted by a test.
use mathlib.Core.Path.{◌≡◌, refl, sym, subst}
use mathlib.Core.Bool.{Bool, true, false, cond, not}
use mathlib.Core.List.{List, [], ◌∷◌, map, Memᴰ}
use Prim.Native.Nat.{ℕ, ◌+◌}
use native.Mathlib.Omega.{arith}
use Rattle.lists.specs.Members.{Distinct}
use Rattle.store_rules.specs.Views.{Differ, total}
use Rattle.store_rules.proofs.Keyed.{not_key}
use Rattle.store_rules.proofs.Lessening.{those, those_mem}

module _ {A : Type 0} where
  -- no element stands again after itself
  abbrev pub Once : List A → Type 0
  Once [] = Unit {0}
  Once (a ∷ xs) = (Memᴰ a xs → ⊥) × Once xs

  -- and where equal keys are those of one element, such a list has different keys
  pub distinct_by : (key : A → ℕ) (xs : List A) → Once xs → Differ key xs → Distinct (map key xs)
  distinct_by key [] o d = tt
  distinct_by key (a ∷ xs) o d = (
    not_key key (key a) xs (λ b m e. o.0 (subst (λ (c : A). Memᴰ c xs) (sym (d a b (Memᴰ.head refl) (Memᴰ.tail m) e)) m)),
    distinct_by key xs o.1 (λ x y p q. d x y (Memᴰ.tail p) (Memᴰ.tail q)),
  )

  -- what is picked of it by a test is such a list too
  pub once_those : (p : A → Bool) (xs : List A) → Once xs → Once (those p xs)
  once_those p [] o = tt
  once_those p (a ∷ xs) o = go (p a) (once_those p xs o.1)
    where
      go : (b : Bool) → Once (those p xs) → Once (cond b (a ∷ those p xs) (those p xs))
      go true ih = ((λ m. o.0 (those_mem p a xs m)), ih)
      go false ih = ih

  -- a sum parted by a test
  pub total_parts : (f : A → ℕ) (p : A → Bool) (xs : List A) → total f (those p xs) + total f (those (λ a. not (p a)) xs) ≡ total f xs
  total_parts f p [] = refl
  total_parts f p (a ∷ xs) = go (p a) (total_parts f p xs)
    where
      go : (b : Bool) → total f (those p xs) + total f (those (λ c. not (p c)) xs) ≡ total f xs → total f (cond b (a ∷ those p xs) (those p xs)) + total f (cond (not b) (a ∷ those (λ c. not (p c)) xs) (those (λ c. not (p c)) xs)) ≡ f a + total f xs
      go true ih = omega (arith, ih)
      go false ih = omega (arith, ih)
