-- What an ask looks for: the mask is a mask, and the size fits a word where its multiple does.
use mathlib.Core.Path.{◌≡◌, refl, sym, ap, ◌∙◌, subst}
use mathlib.Core.Logic.{⊎_elim}
use Prim.Native.Nat.{ℕ, ◌-◌, ◌^◌, max, ◌≤◌}
use native.Mathlib.Omega.{arith}
use lib.Pow.{pow_mono}
use Rattle.lists.proofs.Bools.{lt_or_le}
use Rattle.rounding_rules.specs.Masks.{Ones}
use Rattle.rounding_rules.specs.Raising.{up_to, bits, power_up, raised}
use Rattle.std.specs.Prelude.{Option, Some, None}
use Rattle.rounding_rules.proofs.Masks.{ones_more, power_ones, join_ones}
use Rattle.rounding_rules.proofs.Raising.{raised_is, raised_not, power_past}
use Rattle.counter.specs.InTable.{BuddyIn}
use Rattle.counter.specs.Limits.{align_bits}
use Rattle.counter.specs.declared.settings.BuddySettings.{BuddySettings}
use Rattle.buddy_outcomes.specs.Ask.{mask_for, size_for}
use Rattle.buddy_outcomes.proofs.Rounds.{bits_few}

module _ (s : BuddySettings) (fit : BuddyIn s) where
  pub unit_ones : Ones 63 s.store.atom
  unit_ones = ones_more (omega arith) fit.store.atom

  pub minimal_ones : Ones 63 (s.minimal - 1)
  minimal_ones = ones_more (omega arith) (power_ones fit.minimal)

  -- of the masks the greatest
  pub both_ones : (u : ℕ) → u ≡ max s.store.atom (s.minimal - 1) → Ones 63 u
  both_ones u e = subst (λ (x : ℕ). Ones 63 x) (sym e) (join_ones unit_ones minimal_ones)

  module _ (mask : ℕ) (aligned : Ones align_bits mask) where
    pub mask_ones : Ones 63 mask
    mask_ones = ones_more (omega arith) aligned

    pub all_ones : (m : ℕ) → m ≡ mask_for s mask → Ones 63 m
    all_ones m e = subst (λ (x : ℕ). Ones 63 x) (sym e) (join_ones mask_ones (join_ones unit_ones minimal_ones))

-- what no word holds has no power that a word holds
past : (x : ℕ) → 2 ^ 64 ≤ x → 64 ≤ bits 64 (x - 1)
past x h = ⊎_elim
    (λ l.
    let a = bits_few 64 (x - 1) l in
    let b : 2 ^ bits 64 (x - 1) ≤ 2 ^ 63 = pow_mono {i = bits 64 (x - 1)} {j = 63} (omega arith) in
    absurd (omega arith))
    (λ l. l)
    (lt_or_le (bits 64 (x - 1)) 64)

module _ (s : BuddySettings) (size mask m : ℕ) (e : m ≡ mask_for s mask) (u : Option ℕ) (f : u ≡ raised (up_to size m)) where
  abbrev lifted : raised (up_to size (mask_for s mask)) ≡ u
  lifted = sym (f ∙ ap (λ (x : ℕ). raised (up_to size x)) e)

  pub size_to : (x : ℕ) → u ≡ Some x → (r : Option ℕ) → r ≡ raised (power_up x) → r ≡ raised (size_for s size mask)
  unfolding size_for
  size_to x g r h = h ∙ ap (λ (y : ℕ). raised (power_up y)) (sym (raised_is (lifted ∙ g)).0)

  pub size_over : u ≡ None → None ≡ raised (size_for s size mask)
  unfolding size_for
  size_over g = let n = up_to size (mask_for s mask) in sym (power_past n refl (past n (raised_not (lifted ∙ g))))
