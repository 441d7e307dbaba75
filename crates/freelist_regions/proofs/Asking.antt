-- What an ask looks for fits a word.
use Rattle.std.proofs.Common.{◌≡◌, ℕ, ◌+◌, ◌^◌, ◌<◌, ◌≤◌, sym, ◌∙◌, subst, arith}
use Rattle.rounding_rules.specs.Masks.{Ones}
use Rattle.rounding_rules.specs.Raising.{down_to}
use Rattle.rounding_rules.proofs.Masks.{ones_more, ones_top, join_ones}
use Rattle.rounding_rules.proofs.Raising.{up_down}
use Rattle.counter.specs.InTable.{FreeListIn}
use Rattle.counter.specs.Limits.{align_bits, atom_bits}
use Rattle.counter.specs.declared.settings.FreeListSettings.{FreeListSettings}
use Rattle.freelist_rules.specs.Place.{size_for, mask_for}

module _ (s : FreeListSettings) (fit : FreeListIn s) where
  pub unit_ones : Ones 63 s.store.atom
  unit_ones = ones_more (omega arith) fit.store.atom

  pub unit_small : s.store.atom < 2 ^ atom_bits
  unit_small = ones_top fit.store.atom

  pub size_small : (size : ℕ) → size ≤ s.last → size + s.store.atom < 2 ^ 41
  size_small size h = omega (arith, unit_small, fit.last_most)

  pub size_raised : (size r : ℕ) → r ≡ down_to (size + s.store.atom) s.store.atom → r ≡ size_for s size
  size_raised size r e = e ∙ sym (up_down size s.store.atom)

pub mask_ones : (mask : ℕ) → Ones align_bits mask → Ones 63 mask
mask_ones mask o = ones_more (omega arith) o

-- of the two masks the greater
pub both_ones : (s : FreeListSettings) → FreeListIn s → (mask m : ℕ) → Ones align_bits mask → m ≡ mask_for s mask → Ones 63 m
both_ones s fit mask m o e = subst (λ (x : ℕ). Ones 63 x) (sym e) (join_ones (mask_ones mask o) (unit_ones s fit))
