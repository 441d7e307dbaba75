-- The loans of a store of either engine are exactly the blocks that its caller was told and has not since given back, each of them
-- once, and no two share a byte; and an order that either engine gave can be delivered.
use mathlib.Core.Path.{◌≡◌}
use mathlib.Core.Bool.{Bool}
use mathlib.Core.List.{List, [], Memᴰ, map}
use Prim.Native.Nat.{ℕ, ◌<◌}
use lib.ListN.{length}
use Rattle.counter.specs.Paper as Paper
use Rattle.counter.specs.declared.account.Account.{Account}
use Rattle.counter.specs.declared.answers.Memory.{Memory}
use Rattle.counter.specs.declared.answers.Outcome.TheVariants as O
use Rattle.store_rules.specs.declared.Chunk.{Chunk}
use Rattle.engines.specs.Histories.{State, store_at, done, step, run, NoSetUp}
use Rattle.engines.specs.Ledger.{ledger, Exactly, NoSerialTwice, NoByteTwice, notes_at}
use Rattle.engines.specs.Shapes.{Tables}
use Rattle.engines.specs.Tells.{Blocked}
use Rattle.engines.proofs.CountUp.{setting}
use Rattle.engines.proofs.Delivering as Delivering
use Rattle.engines.proofs.Delivering.{as_ordered}
use Rattle.engines.proofs.Told as Of
use Rattle.histories.specs.Which.{Which}
use Rattle.histories.proofs.Both.{both, Call, differ}

-- store i was set up by engine e, and no set-up of it was accepted since
module _ (w : State) (i : ℕ) (e : Which) (s : (both e).shape.Settings) (here : i < length w.stores) (ready : (done Which both w (setting Which both i e s)).said ≡ Paper.ready) (vs : List Call)
    (f : NoSetUp Which both i (step Which both w (setting Which both i e s)) vs) where
  pub told : Exactly ((both e).shape.loans (store_at (run Which both (step Which both w (setting Which both i e s)) vs) i))
      (ledger [] (notes_at Which both i (step Which both w (setting Which both i e s)) vs))
  told = Of.told Which both differ i e w s here ready vs f

  pub told_once : NoSerialTwice (ledger [] (notes_at Which both i (step Which both w (setting Which both i e s)) vs))
  told_once = Of.told_once Which both differ i e w s here ready vs f

  pub never_lent_twice : NoByteTwice (ledger [] (notes_at Which both i (step Which both w (setting Which both i e s)) vs))
  never_lent_twice = Of.never_lent_twice Which both differ i e w s here ready vs f

-- an ask gave an order: memory made and mapped as ordered, under a number that the store does not hold, gives a block
pub order_lends : (e : Which) (s : (both e).shape.Settings) (a : Account) (size mask : ℕ) (t : Tables) (store z memtype : ℕ) (wanted : Bool) → ((both e).shape.ask s a size mask t).said ≡ Paper.order store z memtype wanted
    → (m : Memory) → m.mapping ≡ as_ordered wanted → (Memᴰ m.number (map (λ (c : Chunk). c.memory) ((both e).shape.view s t).chunks) → ⊥)
    → Blocked ((both e).shape.deliver s ((both e).shape.ask s a size mask t).account (O.Made m) ((both e).shape.ask s a size mask t).tables).said
order_lends e s a size mask t store z memtype wanted told m fit new = Delivering.order_lends (both e) s a size mask t store z memtype wanted told m fit new
