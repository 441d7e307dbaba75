-- Set-up's plan can be carried out, and carried out it leaves the tables of a store with nothing in it.
use mathlib.Core.Path.{◌≡◌, refl, sym, ap, ◌∙◌}
use mathlib.Core.Bool.{Bool, true, false, cond}
use mathlib.Core.List.{[]}
use Prim.Native.Nat.{ℕ}
use native.Mathlib.Omega.{arith}
use Rattle.lists.proofs.Bools.{and_left, and_right}
use Rattle.counter.specs.Gate.{Gate, Verdict, pass, refuse, verdict_of}
use Rattle.counter.specs.InTable.{FreeListIn}
use Rattle.counter.specs.Paper.{Said}
use Rattle.counter.specs.Paper as Paper
use Rattle.counter.specs.Table.{free_list_ok}
use Rattle.std.specs.Prelude.{Ok, Err}
use Rattle.counter.specs.declared.settings.FreeListSettings.{FreeListSettings}
use Rattle.counter.proofs.Tables.{free_list_yes}
use Rattle.freelist_rules.specs.Tables.{Tables, Lengths}
use Rattle.freelist_rules.proofs.Fits.{lengths_are}
use Rattle.freelist_outcomes.specs.SetUp.{begun, fresh_tables, fit_ok, plan_set_up, carry_set_up, set_up_of}
use Rattle.freelist.specs.Ready.{SetUpReady}

-- ---- planned

module _ (s : FreeListSettings) (t : Tables) where
  pub plan_fit : fit_ok s t ≡ true → pass ≡ plan_set_up s t
  unfolding plan_set_up
  plan_fit e = rw e refl

  pub plan_unfit : fit_ok s t ≡ false → refuse 1 ≡ plan_set_up s t
  unfolding plan_set_up
  plan_unfit e = rw e refl

  passed_fit : pass ≡ plan_set_up s t → fit_ok s t ≡ true
  unfolding plan_set_up
  passed_fit = by (fit_ok s t)
    where
      by : (b : Bool) → pass ≡ cond b pass (refuse 1) → b ≡ true
      by true e = refl
      by false e = let z : ◌≡◌ {A = ℕ} 0 1 = cc in absurd (omega arith)

  fit_lengths : fit_ok s t ≡ true → FreeListIn s × Lengths s t
  unfolding fit_ok
  fit_lengths e = (free_list_yes s (and_left (free_list_ok s) _ e), lengths_are s t (and_right (free_list_ok s) _ e))

  pub set_up_ready : (p : Gate) → verdict_of p ≡ plan_set_up s t → SetUpReady s t p
  set_up_ready (Err r) e = tt
  set_up_ready (Ok u) e = fit_lengths (passed_fit e)

-- ---- carried out

module _ (s : FreeListSettings) (t : Tables) (v : Verdict) where
  pub refused_done : (n : ℕ) (said : Said) → v ≡ refuse n → said ≡ Paper.refusal n [] → begun said t ≡ carry_set_up s t v
  unfolding carry_set_up
  refused_done n said e f = (λ j. begun (f j) t) ∙ ap (carry_set_up s t) (sym e)

  pub fresh_done : (u : Tables) (said : Said) → v ≡ pass → u ≡ fresh_tables s → said ≡ Paper.ready → begun said u ≡ carry_set_up s t v
  unfolding carry_set_up
  fresh_done u said e p f = (λ j. begun (f j) (p j)) ∙ ap (carry_set_up s t) (sym e)

-- ---- the call

pub set_up_done : (s : FreeListSettings) (t : Tables) (v : Verdict) → v ≡ plan_set_up s t → carry_set_up s t v ≡ set_up_of s t
unfolding set_up_of
set_up_done s t v e = ap (carry_set_up s t) e
