-- Serials of a store of either engine: over any history in which no set-up of it is accepted they count up by one and are never given
-- twice, from 1 where it was set up.
use mathlib.Core.Path.{◌≡◌}
use mathlib.Core.List.{List}
use Prim.Native.Nat.{ℕ, ◌<◌}
use lib.ListN.{length}
use Rattle.lists.specs.Members.{Distinct}
use Rattle.counter.specs.Paper as Paper
use Rattle.engines.specs.Histories.{State, store_at, done, step, NoSetUp, serials_at}
use Rattle.engines.specs.Serials.{up_from}
use Rattle.engines.specs.Shapes.{Marked}
use Rattle.engines.proofs.CountUp as Up
use Rattle.engines.proofs.CountUp.{CountsUp, setting}
use Rattle.histories.specs.Which.{Which}
use Rattle.histories.proofs.Both.{both, Call, differ}

-- the serials that store i gives are the next ones after those given, in order
pub counts_up : (i : ℕ) (e : Which) (w : State) (vs : List Call) → NoSetUp Which both i w vs → i < length w.stores → Marked (both e).shape (store_at w i) → CountsUp Which both i e w vs
counts_up i e w vs f here m = Up.counts_up Which both differ i e w vs f here m

-- none is given twice
pub never_twice : (i : ℕ) (e : Which) (w : State) (vs : List Call) → NoSetUp Which both i w vs → i < length w.stores → Marked (both e).shape (store_at w i) → Distinct (serials_at Which both i w vs)
never_twice i e w vs f here m = Up.never_twice Which both differ i e w vs f here m

-- of a store that was set up they are 1, 2, 3 and so on
pub from_one : (i : ℕ) (e : Which) (w : State) (s : (both e).shape.Settings) (vs : List Call) → i < length w.stores
    → (done Which both w (setting Which both i e s)).said ≡ Paper.ready → NoSetUp Which both i (step Which both w (setting Which both i e s)) vs
    → let u = step Which both w (setting Which both i e s) in serials_at Which both i u vs ≡ up_from 0 (length (serials_at Which both i u vs))
from_one i e w s vs here ready f = Up.from_one Which both differ i e w s vs here ready f
