-- Settings are in 01's table in one way: of a mask that is 2 ^ k - 1 the k is one.
use Rattle.std.specs.Prelude.{◌≡◌, ℕ, ◌+◌, ◌-◌, ◌^◌, ◌<◌, ◌≤◌, ◌⊎◌}
use Rattle.std.specs.Coded.{le_prop, Coded-set, coded_ℕ}
use Rattle.std.proofs.Common.{sym, ap, ◌∙◌, subst, inl, inr}
use Rattle.std.proofs.Math.Nat.{lt_irrefl, sub-add_cancel}
use Rattle.std.proofs.Math.Pow.{pow-lt}
use Rattle.std.proofs.lemmas.Bool.{cases_order}
use Rattle.std.proofs.lemmas.Nat.{pow_pos}
use Rattle.rounding_rules.specs.Masks.{Ones}
use Rattle.counter.specs.InTable.{StoreIn, FreeListIn}
use Rattle.counter.specs.declared.settings.StoreSettings.{StoreSettings}
use Rattle.counter.specs.declared.settings.FreeListSettings.{FreeListSettings}

apart : (i j : ℕ) → i < j → 2 ^ i - 1 ≡ 2 ^ j - 1 → ⊥
apart i j l g =
    let same : 2 ^ i ≡ 2 ^ j = sym (sub-add_cancel (pow_pos i)) ∙ ap (λ (x : ℕ). x + 1) g ∙ sub-add_cancel (pow_pos j) in
    lt_irrefl (2 ^ j) (subst (λ (x : ℕ). x < 2 ^ j) same (pow-lt l))

logs_same : (m i j : ℕ) → m ≡ 2 ^ i - 1 → m ≡ 2 ^ j - 1 → i ≡ j
logs_same m i j e f = by (cases_order i j)
  where
    by : (i ≡ j) ⊎ ((i < j) ⊎ (j < i)) → i ≡ j
    by (inl same) = same
    by (inr (inl l)) = absurd (apart i j l (sym e ∙ f))
    by (inr (inr l)) = absurd (apart j i l (sym f ∙ e))

nat_sole : {x y : ℕ} → IsProp (x ≡ y)
nat_sole {x} {y} = Coded-set coded_ℕ x y

ones_sole : {most m : ℕ} → IsProp (Ones most m)
ones_sole {most} {m} a b =
    subst (λ (k : ℕ). (s : k ≤ most) (p : m ≡ 2 ^ k - 1) → a ≡ record { log = k; small = s; is = p }) (logs_same m a.log b.log a.is b.is)
    (λ s p i. record { log = a.log; small = le_prop a.small s i; is = nat_sole a.is p i })
    b.small b.is

store_sole : (s : StoreSettings) → IsProp (StoreIn s)
store_sole s a b i =
    record {
      memtype = le_prop a.memtype b.memtype i;
      properties = le_prop a.properties b.properties i;
      heap = le_prop a.heap b.heap i;
      atom = ones_sole a.atom b.atom i;
      loans_some = le_prop a.loans_some b.loans_some i;
      loans_most_lem = le_prop a.loans_most_lem b.loans_most_lem i;
      chunks_some = le_prop a.chunks_some b.chunks_some i;
      chunks_most_lem = le_prop a.chunks_most_lem b.chunks_most_lem i;
    }

pub free_list_sole : (s : FreeListSettings) → IsProp (FreeListIn s)
free_list_sole s a b i =
    record {
      store = store_sole s.store a.store b.store i;
      start_some = le_prop a.start_some b.start_some i;
      start_most = le_prop a.start_most b.start_most i;
      last_most = le_prop a.last_most b.last_most i;
      start_multiple = nat_sole a.start_multiple b.start_multiple i;
      last_multiple = nat_sole a.last_multiple b.last_multiple i;
    }
