-- A return is decided by loans and index alone.
use mathlib.Core.Path.{◌≡◌, refl, ◌∙◌}
use mathlib.Core.List.{[]}
use Prim.Native.Nat.{ℕ}
use Rattle.counter.specs.declared.answers.Block.{Block}
use Rattle.counter.specs.declared.settings.FreeListSettings.{FreeListSettings}
use Rattle.book_rules.specs.Returns as Returns
use Rattle.freelist_rules.specs.Tables.{Tables, tables, places_in}
use Rattle.freelist_outcomes.specs.Return.{on_loan_ok, decide_return}

module _ (s : FreeListSettings) (b : Block) (t : Tables) where
  pub return_few : decide_return s b (tables [] t.loans [] t.index []) ≡ decide_return s b t
  unfolding decide_return on_loan_ok
  return_few = refl

  -- as the crate `returning` decides it
  pub return_is : (places : ℕ) (p : Returns.Plan) → places ≡ places_in t
      → p ≡ Returns.decide_return t.loans t.index s.store.loans places b → p ≡ decide_return s b t
  unfolding decide_return on_loan_ok
  return_is places p f d = d ∙ (λ j. Returns.decide_return t.loans t.index s.store.loans (f j) b)
