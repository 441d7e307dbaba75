-- Serials that fall along a chain.
use mathlib.Core.Path.{◌≡◌, refl, sym, ap, ◌∙◌}
use mathlib.Core.Bool.{Bool}
use mathlib.Core.Logic.{inl, inr}
use mathlib.Core.List.{List, [], ◌∷◌, ◌++◌}
use Prim.Native.Nat.{ℕ, ◌-◌, ◌≤◌, ◌<◌}
use native.Mathlib.Omega.{arith}
use Rattle.lists.specs.Members.{Mem}
use Rattle.book_rules.specs.Chains.{Falling}

module _ (free : ℕ → Bool) (first next serial : ℕ → ℕ) where
  pub falling_most : (most : ℕ) (l : List ℕ) → Falling free first next serial most l → (x : ℕ) → Mem x l → serial x ≤ most
  falling_most most [] f x m = absurd m
  falling_most most (p ∷ l) f x (inl e) = let h : serial p ≤ most = f.1 in let q : serial x ≡ serial p = ap serial e in omega arith
  falling_most most (p ∷ l) f x (inr m) =
      let h : serial p ≤ most = f.1 in
      let g : serial x ≤ serial p - 1 = falling_most (serial p - 1) l f.2 x m in
      omega arith

  -- a place of the rest has another serial
  falling_other : (most p : ℕ) (l : List ℕ) → Falling free first next serial most (p ∷ l) → (x : ℕ) → Mem x l → serial x ≡ serial p → ⊥
  falling_other most p l f x m e =
      let o : 0 < serial p = f.0 in
      let g : serial x ≤ serial p - 1 = falling_most (serial p - 1) l f.2 x m in
      omega arith

  pub falling_once : (most : ℕ) (l : List ℕ) → Falling free first next serial most l → (x y : ℕ) → Mem x l → Mem y l → serial x ≡ serial y → x ≡ y
  falling_once most [] f x y m k e = absurd m
  falling_once most (p ∷ l) f x y (inl q) (inl r) e = q ∙ sym r
  falling_once most (p ∷ l) f x y (inl q) (inr k) e = absurd (falling_other most p l f y k (sym e ∙ ap serial q))
  falling_once most (p ∷ l) f x y (inr m) (inl r) e = absurd (falling_other most p l f x m (e ∙ ap serial r))
  falling_once most (p ∷ l) f x y (inr m) (inr k) e = falling_once (serial p - 1) l f.2 x y m k e

module _ (free : ℕ → Bool) (first next serial serial' : ℕ → ℕ) where
  -- serials fall on where they stay, and from any higher bound
  pub falling_same : (most most' : ℕ) (l : List ℕ) → most ≤ most' → ((x : ℕ) → Mem x l → serial' x ≡ serial x)
      → Falling free first next serial most l → Falling free first next serial' most' l
  falling_same most most' [] h e f = tt
  falling_same most most' (p ∷ l) h e f =
      let q : serial' p ≡ serial p = e p (inl refl) in
      let o : 0 < serial p = f.0 in
      let m : serial p ≤ most = f.1 in
      (omega arith, omega arith, falling_same (serial p - 1) (serial' p - 1) l (omega arith) (λ x k. e x (inr k)) f.2)

  -- and with one taken out
  pub falling_cut : (most p : ℕ) (a b : List ℕ) → ((x : ℕ) → Mem x (a ++ b) → serial' x ≡ serial x)
      → Falling free first next serial most (a ++ (p ∷ b)) → Falling free first next serial' most (a ++ b)
  falling_cut most p [] b e f = let m : serial p ≤ most = f.1 in falling_same (serial p - 1) most b (omega arith) e f.2
  falling_cut most p (y ∷ a) b e f =
      let q : serial' y ≡ serial y = e y (inl refl) in
      let o : 0 < serial y = f.0 in
      let m : serial y ≤ most = f.1 in
      (omega arith, omega arith, rw q (falling_cut (serial y - 1) p a b (λ x k. e x (inr k)) f.2))
