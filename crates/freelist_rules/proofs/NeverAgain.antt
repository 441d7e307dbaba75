-- A serial that was given and is on no loan stays so, whatever is called.
use mathlib.Core.Path.{◌≡◌, ap}
use mathlib.Core.Bool.{false}
use mathlib.Core.Logic.{⊎_elim}
use Prim.Native.Nat.{ℕ, ◌+◌, ◌≤◌}
use native.Mathlib.Omega.{arith}
use Rattle.counter.specs.declared.answers.Block.{Block}
use Rattle.counter.specs.declared.settings.FreeListSettings.{FreeListSettings}
use Rattle.store_rules.specs.declared.Loan.{Loan}
use Rattle.freelist_rules.specs.Records.{Store}
use Rattle.freelist_rules.specs.Pieces.{All}
use Rattle.freelist_rules.specs.Place.{Found, nowhere, at, lent_loan}
use Rattle.freelist_rules.specs.Seek.{seek}
use Rattle.freelist_rules.specs.Steps.{served, lent, raised, delivered, released, taken_back, returned}
use Rattle.freelist_rules.proofs.Base.{removed_in}
use Rattle.freelist_rules.proofs.Lends.{put_member}

-- one call that is not refused leads from a store to another: an ask that region i serves, an order, a delivery, a return,
-- a clean-up; whatever its numbers are
pub data Call (s : FreeListSettings) (t : Store) : Store → Type 0 where
  asks : (mask n i : ℕ) → Call s t (lent mask n i t)
  orders : (z : ℕ) → Call s t (raised z t)
  delivers : (memory z : ℕ) → Call s t (delivered s memory z t)
  returns : (b : Block) → Call s t (returned b t)
  cleans_up : Call s t (released false t)

pub data Calls (s : FreeListSettings) : Store → Store → Type 0 where
  stop : {t : Store} → Calls s t t
  then : {t v w : Store} → Call s t v → Calls s v w → Calls s t w

-- serial k was given, and no loan has it
pub record Gone (k : ℕ) (t : Store) : Type 0 where
  pub old : k ≤ t.given
  pub away : All (λ (l : Loan). l.serial ≡ k → ⊥) t.loans

gone_back : (k : ℕ) (t : Store) → Gone k t → (f : Found) → Gone k (taken_back t f)
gone_back k t g nowhere = g
gone_back k t g (at i) = record { old = g.old; away = λ d m. g.away d (removed_in i t.loans d m) }

gone_call : (s : FreeListSettings) (k : ℕ) (t v : Store) → Gone k t → Call s t v → Gone k v
gone_call s k t _ g (asks mask n i) =
    let l = lent_loan (t.given + 1) (served mask n t i) in
    record {
      old = omega (arith, g.old);
      away = λ d m e. ⊎_elim (λ h. omega (arith, ap (λ (x : Loan). x.serial) h, g.old)) (λ h. g.away d h e) (put_member l t.loans d m);
    }
gone_call s k t _ g (orders z) = record { old = g.old; away = g.away }
gone_call s k t _ g (delivers memory z) = record { old = g.old; away = g.away }
gone_call s k t _ g (returns b) = gone_back k t g (seek b t.loans)
gone_call s k t _ g cleans_up = record { old = g.old; away = g.away }

pub gone_calls : (s : FreeListSettings) (k : ℕ) {t v : Store} → Gone k t → Calls s t v → Gone k v
gone_calls s k g stop = g
gone_calls s k g (then {t = t} {v = v} c cs) = gone_calls s k (gone_call s k t v g c) cs
