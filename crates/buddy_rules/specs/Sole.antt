-- Settings stand in 01's table in one way, since equal powers have equal exponents: so a view's type can say that they do.
use Rattle.std.specs.Prelude.{◌≡◌, ℕ, ◌^◌, ◌-◌, ◌≤◌}
use mathlib.Core.Path.{sym, subst, ◌∙◌}
use mathlib.Core.HLevel.{is_prop→PathP}
use native.Mathlib.Nat.{ℕ_set, le_refl, le_antisymm}
use native.Mathlib.Bridge.{le_prop}
use Rattle.rounding_rules.specs.Masks.{Ones, Power}
use Rattle.rounding_rules.proofs.Masks.{ones_size}
use Rattle.rounding_rules.proofs.Powers.{log_le}
use Rattle.counter.specs.InTable.{StoreIn, BuddyIn}
use Rattle.counter.specs.declared.settings.BuddySettings.{BuddySettings}
use Rattle.counter.specs.declared.settings.StoreSettings.{StoreSettings}

one_log : (i j : ℕ) → 2 ^ i ≡ 2 ^ j → i ≡ j
one_log i j e = le_antisymm (log_le i j (subst (λ (x : ℕ). 2 ^ i ≤ x) e (le_refl (2 ^ i)))) (log_le j i (subst (λ (x : ℕ). x ≤ 2 ^ i) e (le_refl (2 ^ i))))

power_sole : {most x : ℕ} → IsProp (Power most x)
power_sole {most} {x} p q =
    let e : p.log ≡ q.log = one_log p.log q.log (sym p.is ∙ q.is) in
    λ i.
    record {
      log = e i;
      small = is_prop→PathP (λ j. e j ≤ most) (λ j. le_prop) p.small q.small i;
      is = is_prop→PathP (λ j. x ≡ 2 ^ e j) (λ j. ℕ_set x (2 ^ e j)) p.is q.is i;
    }

ones_sole : {most m : ℕ} → IsProp (Ones most m)
ones_sole {most} {m} p q =
    let e : p.log ≡ q.log = one_log p.log q.log (sym (ones_size p) ∙ ones_size q) in
    λ i.
    record {
      log = e i;
      small = is_prop→PathP (λ j. e j ≤ most) (λ j. le_prop) p.small q.small i;
      is = is_prop→PathP (λ j. m ≡ 2 ^ e j - 1) (λ j. ℕ_set m (2 ^ e j - 1)) p.is q.is i;
    }

store_sole : {s : StoreSettings} → IsProp (StoreIn s)
store_sole p q =
    λ i.
    record {
      memtype = le_prop p.memtype q.memtype i;
      properties = le_prop p.properties q.properties i;
      heap = le_prop p.heap q.heap i;
      atom = ones_sole p.atom q.atom i;
      loans_some = le_prop p.loans_some q.loans_some i;
      loans_most_lem = le_prop p.loans_most_lem q.loans_most_lem i;
      chunks_some = le_prop p.chunks_some q.chunks_some i;
      chunks_most_lem = le_prop p.chunks_most_lem q.chunks_most_lem i;
    }

pub buddy_sole : {s : BuddySettings} → IsProp (BuddyIn s)
buddy_sole p q =
    λ i.
    record {
      store = store_sole p.store q.store i;
      minimal = power_sole p.minimal q.minimal i;
      initial = power_sole p.initial q.initial i;
      initial_most = le_prop p.initial_most q.initial_most i;
      pairs_some = le_prop p.pairs_some q.pairs_some i;
      pairs_most_lem = le_prop p.pairs_most_lem q.pairs_most_lem i;
    }
