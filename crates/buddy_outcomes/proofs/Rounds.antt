-- What is looked for: its size is that of its level, which is below 32, is no less than was asked for, and is of whole units of
-- the atom mask and of the ask's; and the initial levels are at most 32.
use mathlib.Core.Path.{◌≡◌, refl, sym, ap, ◌∙◌}
use mathlib.Core.Bool.{true}
use mathlib.Core.Logic.{⊎_elim}
use Prim.Native.Nat.{ℕ, zero, suc, ◌+◌, ◌-◌, ◌*◌, ◌^◌, ◌/◌, ◌%◌, ◌≤◌, ◌<◌}
use native.Mathlib.Nat.{two-pow-succ, mod-eq_of_lt}
use native.Mathlib.Omega.{arith}
use lib.Dec.{ltb}
use lib.Pow.{pow-add, pow-lt, pow_mono}
use borrow.Author.Tests.{ltb-true}
use Rattle.lists.proofs.Bools.{and_left, and_right, lt_or_le}
use Rattle.rounding_rules.specs.Masks.{Ones, Power}
use Rattle.rounding_rules.specs.Raising.{up_to, bits, power_up}
use Rattle.rounding_rules.proofs.Levels.{level_logs, level_doubles}
use Rattle.rounding_rules.proofs.Masks.{ones_size}
use Rattle.rounding_rules.proofs.Powers.{log_lt, log_le, power_multiple, bits_zero, bits_suc}
use Rattle.rounding_rules.proofs.Raising.{up_enough, up_multiple}
use Rattle.counter.specs.InTable.{BuddyIn}
use Rattle.counter.specs.Limits.{levels_most}
use Rattle.counter.specs.Table.{alignment_ok}
use Rattle.counter.specs.declared.settings.BuddySettings.{BuddySettings}
use Rattle.counter.proofs.Tables.{alignment_yes}
use Rattle.buddy_trees.specs.Trees.{bytes}
use Rattle.buddy_rules.specs.Tables.{initial_levels}
use Rattle.buddy_outcomes.specs.Ask.{mask_for, size_for, level_for, size_ok}

-- fewer digits than there is room for are all its digits
pub bits_few : (w x : ℕ) → bits w x < w → x < 2 ^ bits w x
bits_few zero x h = absurd (omega arith)
bits_few (suc w) zero h = rw (bits_zero (suc w)) (omega arith)
bits_few (suc w) (suc x) h =
    let e : bits (suc w) (suc x) ≡ suc (bits w (suc x / 2)) = bits_suc w (suc x) (omega arith) in
    let r = bits_few w (suc x / 2) (omega arith) in
    rw e (omega (arith, two-pow-succ (bits w (suc x / 2))))

-- a multiple that is not 0 is a unit or more
pub unit_least : (x m : ℕ) → x % (m + 1) ≡ 0 → 0 < x → m + 1 ≤ x
unit_least x m e h = ⊎_elim (λ l. let z : x % (m + 1) ≡ x = mod-eq_of_lt l in absurd (omega arith)) (λ l. l) (lt_or_le x (m + 1))

module _ (s : BuddySettings) (fit : BuddyIn s) where
  abbrev minimal_power : Power 63 s.minimal
  minimal_power = record { log = fit.minimal.log; small = omega (arith, fit.minimal.small); is = fit.minimal.is }

  -- minimal x 2^l as a power
  minimal_up : (l : ℕ) → s.minimal * 2 ^ l ≡ 2 ^ (fit.minimal.log + l)
  minimal_up l = ap (λ (n : ℕ). n * 2 ^ l) fit.minimal.is ∙ sym (pow-add 2 fit.minimal.log l)

  -- a node's length, and so every offset, is far below what a word holds
  pub bytes_low : (l : ℕ) → l ≤ levels_most → bytes s.minimal l ≤ 2 ^ 48
  unfolding bytes
  bytes_low l h =
      let k : fit.minimal.log + l ≤ 48 = omega (arith, fit.minimal.small) in
      rw (minimal_up l) (pow_mono {j = 48} k)

  pub initial_few : initial_levels s ≤ levels_most
  initial_few =
      let q = fit.initial in
      let h : 2 ^ q.log ≤ 2 ^ (fit.minimal.log + 32) = rw (← q.is, ← minimal_up 32) fit.initial_most in
      omega (arith, level_logs minimal_power q, log_le q.log (fit.minimal.log + 32) h)

  module _ (size mask : ℕ) (sized : size_ok s size mask ≡ true) where
    abbrev raised : ℕ
    raised = up_to size (mask_for s mask)

    some : 0 < size
    unfolding size_ok
    some = ltb-true 0 size (and_left (ltb 0 size) (ltb (size_for s size mask) (bytes s.minimal levels_most)) sized)

    abbrev log : ℕ
    log = bits 64 (up_to size (mask_for s mask) - 1)

    log_is : size_for s size mask ≡ 2 ^ log
    unfolding size_for power_up
    log_is = refl

    below : size_for s size mask < s.minimal * 2 ^ 32
    unfolding size_ok bytes
    below = ltb-true (size_for s size mask) (s.minimal * 2 ^ 32) (and_right (ltb 0 size) (ltb (size_for s size mask) (bytes s.minimal levels_most)) sized)

    log_below : log < fit.minimal.log + 32
    log_below = log_lt log (fit.minimal.log + 32) (rw (← minimal_up 32, ← log_is) below)

    -- it holds what is looked for, raised
    raised_in : raised ≤ size_for s size mask
    raised_in =
        let a : bits 64 (raised - 1) < 64 = omega (arith, log_below, fit.minimal.small) in
        omega (arith, log_is, bits_few 64 (raised - 1) a)

    -- and so the size itself
    pub size_enough : size ≤ size_for s size mask
    size_enough = omega (arith, raised_in, up_enough size (mask_for s mask))

    enough : mask_for s mask + 1 ≤ size_for s size mask
    enough =
        let c = unit_least raised (mask_for s mask) (up_multiple size (mask_for s mask)) (omega (arith, some, up_enough size (mask_for s mask))) in
        omega (arith, raised_in)

    abbrev size_power : Power 63 (size_for s size mask)
    size_power = record { log = log; small = omega (arith, log_below, fit.minimal.small); is = log_is }

    -- a word holds it
    pub size_low : size_for s size mask < 2 ^ 48
    size_low =
        let h : log < 48 = omega (arith, log_below, fit.minimal.small) in
        rw log_is (pow-lt {j = 48} h)

    pub size_level : size_for s size mask ≡ bytes s.minimal (level_for s size mask)
    unfolding level_for bytes
    size_level = level_doubles minimal_power size_power (omega (arith, enough))

    pub level_low : level_for s size mask < levels_most
    unfolding level_for
    level_low = omega (arith, level_logs minimal_power size_power, log_below)

    -- it is of whole units of a mask that is held
    mask_units : {most : ℕ} (m : ℕ) → Ones most m → m ≤ mask_for s mask → size_for s size mask % (m + 1) ≡ 0
    mask_units m a h =
        let k : 2 ^ a.log ≤ 2 ^ log = rw (← ones_size a, ← log_is) (omega (arith, enough)) in
        rw (ones_size a, log_is) (power_multiple a.log log (log_le a.log log k))

    pub size_units : size_for s size mask % (s.store.atom + 1) ≡ 0
    size_units = mask_units s.store.atom fit.store.atom (omega arith)

    pub size_aligned : alignment_ok mask ≡ true → size_for s size mask % (mask + 1) ≡ 0
    size_aligned e = mask_units mask (alignment_yes mask e) (omega arith)
