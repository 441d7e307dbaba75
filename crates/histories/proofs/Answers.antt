-- What either engine answers where no row of 01's table turns a call away, and which memory a refused delivery names. Demand 2: "On
-- an ask that isn't refused, a new chunk is ordered exactly when no held chunk has a fitting free place."
use mathlib.Core.Path.{◌≡◌}
use mathlib.Core.Bool.{cond, ◌||◌}
use mathlib.Core.Logic.{◌⊎◌, ◌↔◌}
use mathlib.Core.List.{List, []}
use Prim.Native.Nat.{ℕ}
use lib.Dec.{eqb}
use Rattle.counter.specs.Paper as Paper
use Rattle.counter.specs.Reasons.{Clear}
use Rattle.counter.specs.declared.account.Account.{Account}
use Rattle.std.specs.Prelude.{Some}
use Rattle.counter.specs.declared.answers.Block.{Block}
use Rattle.counter.specs.declared.answers.Outcome.{Outcome}
use Rattle.store_rules.specs.Orders.{order_from, kept_from}
use Rattle.store_rules.specs.Outcomes.{with_order}
use Rattle.store_rules.specs.Rows.{set_up_rows, ask_rows, deliver_rows, return_rows}
use Rattle.engines.specs.Further.{named_by}
use Rattle.engines.specs.Shapes.{Tables, words_of}
use Rattle.engines.specs.Tells.{Blocked, Released}
use Rattle.engines.proofs.Answering as Of
use Rattle.engines.proofs.Naming as Naming
use Rattle.histories.specs.Which.{Which}
use Rattle.histories.proofs.Both.{both, both_further}

module _ (e : Which) (s : (both e).shape.Settings) where
  -- a set-up is accepted exactly when no row's words hold
  pub ready_when : (t : Tables) → (((both e).shape.set_up s t).said ≡ Paper.ready) ↔ Clear (set_up_rows (words_of (both e).shape) s t)
  ready_when = Of.ready_when (both e) s

  module _ (a : Account) where
    -- ---- an ask that no row turns away

    module _ (size mask : ℕ) (t : Tables) (clear : Clear (ask_rows (words_of (both e).shape) s a size mask t)) where
      -- either a block is lent, and no chunk is needed; or one is, and the answer is the order for it, which is kept in the account
      -- with its ask, and nothing else there changes
      pub ask_tells : (Blocked ((both e).shape.ask s a size mask t).said × ((both e).shape.Needed s size mask t → ⊥))
          ⊎ ((both e).shape.Needed s size mask t
          × (((both e).shape.ask s a size mask t).said ≡ Paper.order_of (order_from ((both e).shape.store s) ((both e).shape.order_size s size mask t)))
          × (((both e).shape.ask s a size mask t).account ≡ with_order a (Some (kept_from ((both e).shape.store s) size mask ((both e).shape.order_size s size mask t)))))
      ask_tells = Of.ask_tells (both e) s a size mask t clear

      -- a block is lent exactly when no chunk is needed
      pub block_when : Blocked ((both e).shape.ask s a size mask t).said ↔ ((both e).shape.Needed s size mask t → ⊥)
      block_when = Of.block_when (both e) s a size mask t clear

      -- and exactly when one is, the answer is the order for it
      pub order_when : (((both e).shape.ask s a size mask t).said ≡ Paper.order_of (order_from ((both e).shape.store s) ((both e).shape.order_size s size mask t))) ↔ (both e).shape.Needed s size mask t
      order_when = Of.order_when (both e) s a size mask t clear

    -- an ask's refusal names no memory, 9 among them
    pub ask_names : (size mask : ℕ) (t : Tables) (n : ℕ) (back : List ℕ) → ((both e).shape.ask s a size mask t).said ≡ Paper.refusal n back → back ≡ []
    ask_names = Of.ask_names (both e) s a

    -- ---- a delivery

    -- it lends a block exactly when no row's words hold
    pub deliver_tells : (o : Outcome) (t : Tables) → Blocked ((both e).shape.deliver s a o t).said ↔ Clear (deliver_rows (words_of (both e).shape) s a o t)
    deliver_tells = Of.deliver_tells (both e) s a

    -- and its refusal names what the outcome names where the memory is lost, by 11 or 12, and else nothing
    pub deliver_names : (o : Outcome) (t : Tables) (n : ℕ) (back : List ℕ) → ((both e).shape.deliver s a o t).said ≡ Paper.refusal n back
        → back ≡ cond (eqb n 11 || eqb n 12) (named_by (both e).shape.engine o) []
    deliver_names = Naming.deliver_names (both e) (both_further e) s a

    -- ---- a return, and a free list's clean-up

    -- a return is taken exactly when no row's words hold
    pub taken_when : (b : Block) (t : Tables) (list : List ℕ) → Released ((both e).shape.return s a b t list).said ↔ Clear (return_rows (words_of (both e).shape) s a b t list)
    taken_when = Of.taken_when (both e) s a

    -- and so is a clean-up
    pub other_when : (c : (both e).shape.Own) (t : Tables) (list : List ℕ) → Released ((both e).shape.other s a c t list).said ↔ Clear ((both e).shape.own_rows s a c t list)
    other_when = Of.other_when (both e) s a
