-- An ask that is served, that opens an order, or that is refused as 9 for want of an object has passed the tests of its mask and its
-- size; so the levels grown for it are allowed.
use mathlib.Core.Path.{◌≡◌}
use mathlib.Core.Bool.{true}
use Prim.Native.Nat.{ℕ, ◌≤◌}
use native.Mathlib.Omega.{arith}
use Rattle.counter.specs.InTable.{BuddyIn}
use Rattle.counter.specs.Limits.{levels_most}
use Rattle.counter.specs.Table.{alignment_ok}
use Rattle.counter.specs.declared.account.Heap.{Heap}
use Rattle.counter.specs.declared.settings.BuddySettings.{BuddySettings}
use Rattle.store_rules.specs.Orders.{Plan, deny, take, buy}
use Rattle.buddy_rules.specs.Tables.{Tables, levels_in}
use Rattle.buddy_rules.specs.Sound.{Sound}
use Rattle.buddy_outcomes.specs.Ask.{level_for, grown_to, size_ok, decide_ask}
use Rattle.buddy_outcomes.proofs.Plans.{takes, buys, nine}
use Rattle.buddy_outcomes.proofs.Rounds.{level_low}

-- what an ask comes to after these tests
abbrev pub Late : Plan ℕ → Type 0
Late (deny n) = n ≡ 9
Late (take i) = Unit {0}
Late (buy z) = Unit {0}

module _ (s : BuddySettings) (h : Heap) (objects size mask : ℕ) (t : Tables) where
  pub sized_ready : (p : Plan ℕ) → Late p → decide_ask s h objects size mask t ≡ p → (alignment_ok mask ≡ true) × (size_ok s size mask ≡ true)
  sized_ready (take i) late e = let r = takes s h objects size mask t i e in (r.aligned, r.sized)
  sized_ready (buy z) late e = let r = buys s h objects size mask t z e in (r.aligned, r.sized)
  sized_ready (deny n) late e = nine s h objects size mask t (rw late at e)

  pub grows_ready : BuddyIn s → Sound s t → (p : Plan ℕ) → Late p → decide_ask s h objects size mask t ≡ p
      → (levels_in t ≤ grown_to (level_for s size mask) t) × (grown_to (level_for s size mask) t ≤ levels_most)
  grows_ready fit sound p late e =
      let r = sized_ready p late e in
      (omega arith, omega (arith, level_low s fit size mask r.1, sound.levels_most_lem))
