-- The turns of a search by halves in what parts at a place.
use Rattle.std.proofs.Common.{◌≡◌, ℕ, ◌+◌, ◌-◌, ◌<◌, ◌≤◌, Bool, true, false, ap, ◌∙◌, ⊎_elim, arith}
use Rattle.lists.proofs.Bools.{told, true_false, same?}
use Rattle.freelist_regions.specs.Stand.{Parting}

-- what holds at m holds from m on
pub lowered : (f : ℕ → Bool) (n m : ℕ) → Parting f n → f m ≡ true → (i : ℕ) → m ≤ i → i < n → f i ≡ true
lowered f n m p e i h g =
    ⊎_elim (λ (q : i ≡ m). ap f q ∙ e) (λ (ne : i ≡ m → ⊥). p m i (omega (arith, ne)) g e) (same? i m)

-- what does not hold at m does not hold before it
pub raised : (f : ℕ → Bool) (n m : ℕ) → m < n → Parting f n → f m ≡ false → (i : ℕ) → i < m + 1 → f i ≡ false
raised f n m b p e i h =
    ⊎_elim
    (λ (t : f i ≡ true).
    ⊎_elim (λ (q : i ≡ m). ap f q ∙ e) (λ (ne : i ≡ m → ⊥). absurd (true_false (f m) (p i m (omega (arith, ne)) b t) e)) (same? i m))
    (λ (t : f i ≡ false). t)
    (told (f i))

-- those that hold begin at lo or behind it, but not as far as lo + left
abbrev pub Between : (ℕ → Bool) → ℕ → ℕ → ℕ → Type 0
Between f n lo left =
    (1 ≤ left) × (lo + left ≤ n + 1) × ((i : ℕ) → i < lo → f i ≡ false) × ((i : ℕ) → lo + left ≤ i + 1 → i < n → f i ≡ true)

-- the one before lo + half is tested
module _ (f : ℕ → Bool) (n lo left half : ℕ) (p : Parting f n) (b : Between f n lo left) (some : 1 ≤ half) (most : half + half ≤ left) where
  pub stays : f (lo + half - 1) ≡ true → Between f n lo (left - half)
  stays e = (omega arith, omega (arith, b.1), b.2, λ i h g. lowered f n (lo + half - 1) p e i (omega arith) g)

  pub moves : f (lo + half - 1) ≡ false → Between f n (lo + half) (left - half)
  moves e = (
    omega arith,
    omega (arith, b.1),
    λ i h. raised f n (lo + half - 1) (omega (arith, b.1)) p e i (omega arith),
    λ i h g. b.3 i (omega arith) g,
  )
