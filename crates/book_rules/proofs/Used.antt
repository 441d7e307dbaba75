-- The places in use: as many as the places less the vacant ones.
use mathlib.Core.Path.{◌≡◌, refl}
use mathlib.Core.Bool.{Bool, true, false, cond}
use mathlib.Core.List.{List, ◌∷◌}
use Prim.Native.Nat.{ℕ, zero, suc, ◌+◌, ◌-◌, ◌≤◌, ◌<◌}
use native.Mathlib.Omega.{arith}
use lib.ListN.{length}
use Rattle.lists.specs.Members.{Mem, Distinct, picked}
use Rattle.lists.proofs.Bools.{true_false}
use Rattle.lists.proofs.Members.{fills, no_more}
use Rattle.lists.proofs.Picked.{picked_all, picked_only, picked_once}
use Rattle.slabs.specs.Test.{vacancies}

module _ (free : ℕ → Bool) where
  -- a place in use, by its record
  abbrev pub used : ℕ → Bool
  used p = cond (free p) false true

  pub used_yes : (p : ℕ) → free p ≡ false → used p ≡ true
  used_yes p e = rw e

  pub used_true : (p : ℕ) → used p ≡ true → free p ≡ false
  used_true p e = by (free p) e
    where
      by : (b : Bool) → cond b false true ≡ true → b ≡ false
      by true e = absurd (true_false false e refl)
      by false e = refl

  pub used_long : (k : ℕ) → length (picked used k) + vacancies free k ≡ k
  unfolding picked vacancies
  used_long zero = refl
  used_long (suc k) = by (free k) (used_long k)
    where
      by : (b : Bool) → length (picked used k) + vacancies free k ≡ k
          → length (cond (cond b false true) (k ∷ picked used k) (picked used k)) + cond b (vacancies free k + 1) (vacancies free k) ≡ suc k
      by true e = omega arith
      by false e = omega arith

  -- distinct places in use, by the count of them
  module _ (k : ℕ) (l : List ℕ) (distinct : Distinct l) (right : (x : ℕ) → Mem x l → (x < k) × (free x ≡ false)) where
    into : (x : ℕ) → Mem x l → Mem x (picked used k)
    into x m = picked_all used k x (right x m).0 (used_yes x (right x m).1)

    -- are no more
    pub used_most : length l ≤ k - vacancies free k
    used_most = let h = no_more l (picked used k) distinct into in omega (arith, used_long k)

    -- and all, where they are as many
    pub used_filled : k - vacancies free k ≤ length l → (p : ℕ) → p < k → free p ≡ false → Mem p l
    used_filled h p i e = fills l (picked used k) distinct into (omega (arith, used_long k)) p (picked_all used k p i (used_yes p e))

    -- as many, where they are all
    pub used_whole : ((p : ℕ) → p < k → free p ≡ false → Mem p l) → length l ≡ k - vacancies free k
    used_whole f =
        let h = no_more (picked used k) l (picked_once used k) (λ x m. let r = picked_only used k x m in f x r.0 (used_true x r.1)) in
        omega (arith, used_long k, used_most)
