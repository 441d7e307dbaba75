-- Sums of numbers, and of what the numbers of a list weigh.
use mathlib.Core.Path.{◌≡◌, refl, ap}
use mathlib.Core.Logic.{inl, inr, ⊎_elim}
use mathlib.Core.List.{List, [], ◌∷◌, ◌++◌}
use Prim.Native.Nat.{ℕ, zero, suc, ◌+◌, ◌*◌, ◌≤◌, ◌<◌}
use native.Mathlib.Omega.{arith}
use Rattle.lists.specs.Members.{Mem, Distinct}
use Rattle.lists.proofs.Bools.{same?}
use Rattle.lists.proofs.Members.{not_mem, split, mem_left_over}

-- ---- f of each number below n

unfoldable pub total : (ℕ → ℕ) → ℕ → ℕ
total f zero = 0
total f (suc n) = total f n + f n

pub total_most : (f : ℕ → ℕ) (m n : ℕ) → ((i : ℕ) → i < n → f i ≤ m) → total f n ≤ n * m
unfolding total
total_most f m zero h = omega arith
total_most f m (suc n) h = let k = total_most f m n (λ i z. h i (omega arith)) in omega (arith, h n (omega arith))

pub total_same : (f g : ℕ → ℕ) (n : ℕ) → ((i : ℕ) → i < n → f i ≡ g i) → total f n ≡ total g n
unfolding total
total_same f g zero h = refl
total_same f g (suc n) h = let k = total_same f g n (λ i z. h i (omega arith)) in omega (arith, h n (omega arith))

module _ (f g : ℕ → ℕ) where
  pub total_less : (n : ℕ) → ((i : ℕ) → i < n → f i ≤ g i) → total f n ≤ total g n
  unfolding total
  total_less zero h = omega arith
  total_less (suc n) h = let k = total_less n (λ i z. h i (omega arith)) in omega (arith, h n (omega arith))

  -- where each is no more, and all together are no less, each is the same
  pub total_each : (n : ℕ) → ((i : ℕ) → i < n → f i ≤ g i) → total g n ≤ total f n → (i : ℕ) → i < n → f i ≡ g i
  unfolding total
  total_each zero h k i z = absurd (omega arith)
  total_each (suc n) h k i z =
      let below : (j : ℕ) → j < n → f j ≤ g j = λ j y. h j (omega arith) in
      let a = total_less n below in
      let b = h n (omega arith) in
      ⊎_elim (λ e. rw e (omega arith)) (λ e. total_each n below (omega arith) i (omega arith)) (same? i n)

-- ---- f of each number of a list

abbrev pub weight : (ℕ → ℕ) → List ℕ → ℕ
weight f [] = 0
weight f (x ∷ l) = f x + weight f l

pub weight_append : (f : ℕ → ℕ) (a b : List ℕ) → weight f (a ++ b) ≡ weight f a + weight f b
weight_append f [] b = omega arith
weight_append f (x ∷ a) b = omega (arith, weight_append f a b)

-- distinct members of a list weigh no more than it does
pub weighs_less : (f : ℕ → ℕ) (R l : List ℕ) → Distinct R → ((x : ℕ) → Mem x R → Mem x l) → weight f R ≤ weight f l
weighs_less f [] l d h = omega arith
weighs_less f (x ∷ R) l d h =
    let s = split x l (h x (inl refl)) in
    let k = weighs_less f R (s.a ++ s.b) d.1 (λ y i. mem_left_over x y s.a s.b (λ e. not_mem x R d.0 (rw e at i)) (rw s.is at (h y (inr i)))) in
    omega (arith, ap (weight f) s.is, weight_append f s.a (x ∷ s.b), weight_append f s.a s.b)
