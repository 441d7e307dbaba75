-- Set-up: its plan is whether the tables fit, makes them ready, and is carried out as it is defined.
use mathlib.Core.Path.{◌≡◌, refl, sym, ap}
use mathlib.Core.Bool.{true, false}
use mathlib.Core.List.{[], ◌∷◌}
use Prim.Native.Nat.{ℕ}
use Rattle.lists.proofs.Bools.{and_left, and_right}
use Rattle.counter.specs.Gate.{Verdict, pass, refuse, verdict_of}
use Rattle.counter.specs.InTable.{BuddyIn}
use Rattle.counter.specs.Paper as Paper
use Rattle.counter.specs.Table.{buddy_ok}
use Rattle.counter.specs.Gate.{Gate}
use Rattle.std.specs.Prelude.{Ok, Err}
use Rattle.counter.specs.declared.settings.BuddySettings.{BuddySettings}
use Rattle.counter.proofs.Gates.{passed, first_held, first_failed}
use Rattle.counter.proofs.Tables.{buddy_yes}
use Rattle.buddy_rules.specs.Tables.{Tables, Lengths, lengths_ok}
use Rattle.buddy_outcomes.specs.SetUp.{begun, fresh_tables, fit_ok, plan_set_up, carry_set_up, set_up_of}
use Rattle.buddy_outcomes.proofs.Passing.{lengths_are}
use Rattle.buddy.specs.Ready.{SetUpReady}

module _ (s : BuddySettings) (t : Tables) where
  -- ---- the plan

  pub set_up_go : fit_ok s t ≡ true → pass ≡ plan_set_up s t
  unfolding plan_set_up
  set_up_go e = sym (first_held (fit_ok s t) 1 [] e)

  pub set_up_shut : fit_ok s t ≡ false → refuse 1 ≡ plan_set_up s t
  unfolding plan_set_up
  set_up_shut e = sym (first_failed (fit_ok s t) 1 [] e)

  passed_ready : pass ≡ plan_set_up s t → BuddyIn s × Lengths s t
  unfolding plan_set_up fit_ok
  passed_ready e =
      let fit = (passed ((fit_ok s t, 1) ∷ []) (sym e)).0 in
      (buddy_yes s (and_left (buddy_ok s) (lengths_ok s t) fit), lengths_are s t (and_right (buddy_ok s) (lengths_ok s t) fit))

  pub set_up_ready : (g : Gate) → verdict_of g ≡ plan_set_up s t → SetUpReady s t g
  set_up_ready (Err r) e = tt
  set_up_ready (Ok _) e = passed_ready e

  -- ---- carried out

  pub set_up_refused : (n : ℕ) → begun (Paper.refusal n []) t ≡ carry_set_up s t (refuse n)
  unfolding carry_set_up
  set_up_refused n = refl

  pub set_up_done : (t' : Tables) → t' ≡ fresh_tables s → begun Paper.ready t' ≡ carry_set_up s t pass
  unfolding carry_set_up
  set_up_done t' e = λ j. begun Paper.ready (e j)

  pub set_up_called : (v : Verdict) → v ≡ plan_set_up s t → carry_set_up s t v ≡ set_up_of s t
  unfolding set_up_of
  set_up_called v e = ap (carry_set_up s t) e
