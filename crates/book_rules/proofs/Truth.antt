-- An index follows from its loans: two that are right for the same loans have the same chains, in the same order, and the same
-- vacant places. The order of the vacant places alone may differ: it tells which was vacated last.
use mathlib.Core.Path.{◌≡◌, refl, sym, ap}
use mathlib.Core.Bool.{Bool}
use mathlib.Core.Logic.{◌⊎◌, inl, inr, ⊎_elim, ◌↔◌}
use mathlib.Core.List.{List, [], ◌∷◌}
use Prim.Native.Nat.{ℕ, ◌-◌, ◌≤◌}
use native.Mathlib.Omega.{arith}
use Rattle.lists.specs.Members.{Mem}
use Rattle.lists.proofs.Members.{mem_below}
use Rattle.slabs.specs.Slab.{Parted}
use Rattle.book_rules.specs.Chains.{Falling, InChain}
use Rattle.book_rules.proofs.Falling.{falling_most}

module _ (free : ℕ → Bool) (first next first' next' serial : ℕ → ℕ) where
  -- two lists along which the serials fall, with the same places, are one
  falling_one : (m m' : ℕ) (xs ys : List ℕ) → Falling free first next serial m xs → Falling free first' next' serial m' ys
      → ((p : ℕ) → Mem p xs → Mem p ys) → ((p : ℕ) → Mem p ys → Mem p xs) → xs ≡ ys
  falling_one m m' [] [] f g a b = refl
  falling_one m m' [] (y ∷ ys) f g a b = absurd (b y (inl refl))
  falling_one m m' (x ∷ xs) [] f g a b = absurd (a x (inl refl))
  falling_one m m' (x ∷ xs) (y ∷ ys) f g a b = both (⊎_elim (λ e. e) (λ k. ⊎_elim (λ e. sym e) (λ h. absurd (crossed k h)) (b y (inl refl))) (a x (inl refl)))
      (λ e. falling_one (serial x - 1) (serial y - 1) xs ys f.2 g.2 (λ p k. ⊎_elim (λ z. absurd (own_x p k (sym e) z)) (λ z. z) (a p (inr k))) (λ p k. ⊎_elim (λ z. absurd (own_y p k e z)) (λ z. z) (b p (inr k))))
    where
      below_x : (p : ℕ) → Mem p xs → serial p ≤ serial x - 1
      below_x p k = falling_most free first next serial (serial x - 1) xs f.2 p k

      below_y : (p : ℕ) → Mem p ys → serial p ≤ serial y - 1
      below_y p k = falling_most free first' next' serial (serial y - 1) ys g.2 p k

      -- each cannot come after the other
      crossed : Mem x ys → Mem y xs → ⊥
      crossed k h = omega (arith, below_y x k, below_x y h, f.0, g.0)

      own_x : (p : ℕ) → Mem p xs → y ≡ x → p ≡ y → ⊥
      own_x p k e z = omega (arith, below_x p k, f.0, ap serial z, ap serial e)

      own_y : (p : ℕ) → Mem p ys → x ≡ y → p ≡ x → ⊥
      own_y p k e z = omega (arith, below_y p k, g.0, ap serial z, ap serial e)

      both : x ≡ y → (x ≡ y → xs ≡ ys) → x ∷ xs ≡ y ∷ ys
      both e h = λ j. e j ∷ h e j

  -- chain i
  pub chain_follows : (n places given i : ℕ) (A : InChain free first next serial n places given i) (B : InChain free first' next' serial n places given i) → A.members ≡ B.members
  chain_follows n places given i A B =
      falling_one given given A.members B.members A.falling B.falling
      (λ p m. let r = A.right p m in B.all p r.0 r.1 r.2)
      (λ p m. let r = B.right p m in A.all p r.0 r.1 r.2)

-- the vacant places
pub vacant_follows : (free : ℕ → Bool) (next next' : ℕ → ℕ) (places v v' most : ℕ) (P : Parted free next (record { places = places; vacant = v }) most) (Q : Parted free next' (record { places = places; vacant = v' }) most)
    → (p : ℕ) → Mem p P.chained ↔ Mem p Q.chained
vacant_follows free next next' places v v' most P Q p = (
  (λ m. Q.all p (mem_below places p P.chained P.below m) (P.vacant p m)),
  (λ m. P.all p (mem_below places p Q.chained Q.below m) (Q.vacant p m)),
)
