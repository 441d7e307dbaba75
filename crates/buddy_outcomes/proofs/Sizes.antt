-- The size that an ask comes to, held against 01's own words: its mask is the OR of the three, and it is the least power of two that
-- holds both what is asked for and a unit of that mask.
use mathlib.Core.Path.{◌≡◌, sym, ap, subst, ◌∙◌}
use mathlib.Core.Bool.{true}
use mathlib.Core.Logic.{◌⊎◌, inl, inr, ⊎_elim, ◌↔◌}
use Prim.Native.Nat.{ℕ, ◌+◌, ◌-◌, ◌^◌, ◌%◌, ◌≤◌, ◌<◌}
use native.Mathlib.Omega.{arith}
use lib.Bits.{bit_or}
use Rattle.lists.proofs.Bools.{same?}
use Rattle.rounding_rules.specs.Masks.{Ones, Power}
use Rattle.rounding_rules.specs.Raising.{up_to, power_up, Least}
use Rattle.rounding_rules.proofs.Masks.{ones_more, ones_size, power_ones, join_ones, joined}
use Rattle.rounding_rules.proofs.Powers.{log_le, power_multiple}
use Rattle.rounding_rules.proofs.Raising.{up_enough, up_multiple, up_least, power_least}
use Rattle.counter.specs.InTable.{BuddyIn}
use Rattle.counter.specs.Limits.{levels_most}
use Rattle.counter.specs.Table.{alignment_ok}
use Rattle.counter.specs.declared.settings.BuddySettings.{BuddySettings}
use Rattle.counter.proofs.Tables.{alignment_yes}
use Rattle.buddy_trees.specs.Trees.{bytes}
use Rattle.buddy_outcomes.specs.Ask.{mask_for, size_for}
use Rattle.buddy_outcomes.specs.Refusals.{SizeOff}
use Rattle.buddy_outcomes.proofs.Rounds.{unit_least}

-- r is the least power of two that holds the size and a unit of the mask a
pub record Rounded (size a r : ℕ) : Type 0 where
  pub power : Power 64 r
  pub enough : size ≤ r
  pub unit : a + 1 ≤ r
  pub least : (j : ℕ) → size ≤ 2 ^ j → a + 1 ≤ 2 ^ j → r ≤ 2 ^ j

-- there is one at most
pub rounded_unique : {size a r q : ℕ} → Rounded size a r → Rounded size a q → r ≡ q
rounded_unique {size} {a} {r} {q} x y =
    let e = x.power.is in
    let f = y.power.is in
    let h : r ≤ q = rw f (x.least y.power.log (rw f at y).enough (rw f at y).unit) in
    let k : q ≤ r = rw e (y.least x.power.log (rw e at x).enough (rw e at x).unit) in
    omega arith

-- raised to a multiple of a mask's unit and then to a power of two, a size is rounded
pub raised_least : {most a : ℕ} → most ≤ 64 → Ones most a → (size : ℕ) → 0 < size → size ≤ 2 ^ 64 → Rounded size a (power_up (up_to size a))
raised_least {most} {a} few p size some small =
    record {
      power = L.power;
      enough = omega (arith, L.enough, up_enough size a);
      unit = omega (arith, L.enough, unit_least (up_to size a) a (up_multiple size a) (omega (arith, some, up_enough size a)));
      least = λ j h k. L.least j (fits j h k);
    }
  where
    fits : (j : ℕ) → size ≤ 2 ^ j → a + 1 ≤ 2 ^ j → up_to size a ≤ 2 ^ j
    fits j h k =
        let i : 2 ^ p.log ≤ 2 ^ j = rw (← ones_size p) k in
        let m : 2 ^ j % (a + 1) ≡ 0 = rw (ones_size p) (power_multiple p.log j (log_le p.log j i)) in
        up_least size a (2 ^ j) m h

    whole : 2 ^ 64 % (a + 1) ≡ 0
    whole = rw (ones_size p) (power_multiple p.log 64 (omega (arith, p.small)))

    L : Least (up_to size a) (power_up (up_to size a))
    L = power_least (up_to size a) (up_least size a (2 ^ 64) whole small)

module _ (s : BuddySettings) (fit : BuddyIn s) (mask : ℕ) (aligned : alignment_ok mask ≡ true) where
  mask_ones : Ones 40 mask
  mask_ones = alignment_yes mask aligned

  atom_ones : Ones 40 s.store.atom
  atom_ones = ones_more (omega arith) fit.store.atom

  minimal_ones : Ones 40 (s.minimal - 1)
  minimal_ones = ones_more (omega arith) (power_ones fit.minimal)

  pub mask_for_ones : Ones 40 (mask_for s mask)
  mask_for_ones = join_ones mask_ones (join_ones atom_ones minimal_ones)

  -- 01: "With a = mask OR atom mask OR (minimal - 1)"
  pub mask_or : mask_for s mask ≡ bit_or (bit_or mask s.store.atom) (s.minimal - 1)
  mask_or =
      sym (joined (join_ones mask_ones atom_ones) minimal_ones ∙ omega arith)
      ∙ ap (λ (x : ℕ). bit_or x (s.minimal - 1)) (sym (joined mask_ones atom_ones))

  -- "the size is raised to a multiple of a + 1, then to a power of two"
  pub size_least : (size : ℕ) → 0 < size → size ≤ 2 ^ 64
      → Rounded size (bit_or (bit_or mask s.store.atom) (s.minimal - 1)) (size_for s size mask)
  unfolding size_for
  size_least size some small = rw (← mask_or) (raised_least (omega arith) mask_for_ones size some small)

  -- 6: "size 0; buddy: rounding overflows or the level would be 32 or more": no power of two below minimal x 2^32 holds the size and a unit
  pub size_off : (size : ℕ) → size ≤ 2 ^ 64
      → SizeOff s size mask ↔ ((size ≡ 0) ⊎ ((j : ℕ) → size ≤ 2 ^ j → bit_or (bit_or mask s.store.atom) (s.minimal - 1) + 1 ≤ 2 ^ j → bytes s.minimal levels_most ≤ 2 ^ j))
  size_off size small = by (same? size 0)
    where
      a : ℕ
      a = bit_or (bit_or mask s.store.atom) (s.minimal - 1)

      by : (size ≡ 0) ⊎ (size ≡ 0 → ⊥)
          → SizeOff s size mask ↔ ((size ≡ 0) ⊎ ((j : ℕ) → size ≤ 2 ^ j → bit_or (bit_or mask s.store.atom) (s.minimal - 1) + 1 ≤ 2 ^ j → bytes s.minimal levels_most ≤ 2 ^ j))
      by (inl e) = ((λ h. inl e), (λ h. inl e))
      by (inr n) =
          let r = size_least size (omega arith) small in
          let i = r.power.is in (
            ⊎_elim (λ e. inl e) (λ h. inr (λ j x y. omega (arith, h, r.least j x y))),
            ⊎_elim (λ e. inl e) (λ f. inr (subst (λ (z : ℕ). bytes s.minimal levels_most ≤ z) (sym i) (f r.power.log (omega (arith, r.enough, i)) (omega (arith, r.unit, i))))),
          )
