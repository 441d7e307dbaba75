-- What neither engine may refuse or keep for itself. 01, "How tightly the promises bind": "Try these frauds. Refusing every ask, or every
-- return".
use mathlib.Core.Path.{◌≡◌}
use mathlib.Core.List.{List}
use Prim.Native.Nat.{ℕ, ◌≤◌}
use Rattle.counter.specs.InTable.{StoreIn}
use Rattle.counter.specs.Paper as Paper
use Rattle.counter.specs.Properties.{host_visible}
use Rattle.counter.specs.Reasons.{Clear}
use Rattle.counter.specs.declared.account.Account.{Account}
use Rattle.counter.specs.declared.answers.Block.{Block}
use Rattle.counter.specs.declared.answers.Memory.{Memory}
use Rattle.counter.specs.declared.answers.Outcome.{Outcome}
use Rattle.counter.specs.declared.answers.Outcome.TheVariants as O
use Rattle.counter.specs.declared.settings.StoreSettings.{StoreSettings}
use Rattle.store_rules.specs.Orders.{order_from}
use Rattle.store_rules.specs.Outcomes.{to_free}
use Rattle.store_rules.specs.Rows.{ask_rows}
use Rattle.store_rules.specs.declared.Chunk.{Chunk}
use Rattle.engines.specs.Further.{Untouched, Unlent}
use Rattle.engines.specs.Grants.{Roomy}
use Rattle.engines.specs.Shapes.{Tables, Call, does, lent_list, words_of}
use Rattle.engines.specs.Tells.{Blocked}
use Rattle.engines.proofs.Delivering.{as_ordered}
use Rattle.engines.proofs.Granting as Of
use Rattle.engines.proofs.Sparing as Own
use Rattle.histories.specs.Which.{Which}
use Rattle.histories.proofs.Both.{both, both_further, both_grants}

module _ (e : Which) where
  -- ---- set-up, and a new store under an account with room

  -- whatever 01's table allows a store, a set-up with it is accepted
  pub some_set_up : (o : StoreSettings) → StoreIn o → (s : (both e).shape.Settings) × (t : Tables) × ((both e).shape.store s ≡ o) × (((both e).shape.set_up s t).said ≡ Paper.ready)
  some_set_up = Of.some_set_up (both e) (both_grants e)

  module _ (s : (both e).shape.Settings) (t : Tables) (ready : ((both e).shape.set_up s t).said ≡ Paper.ready) (a : Account) (room : Roomy ((both e).shape.store s).heap a) where
    abbrev pub new : Tables
    new = ((both e).shape.set_up s t).tables

    -- an ask for one byte is answered by an order
    pub first_order : ((both e).shape.ask s a 1 0 new).said ≡ Paper.order_of (order_from ((both e).shape.store s) ((both e).shape.order_size s 1 0 new))
    first_order = Of.first_order (both e) (both_grants e) (both_further e) s t ready a room

    -- and memory delivered as ordered by a block
    pub first_block : (m : Memory) → m.mapping ≡ as_ordered (host_visible ((both e).shape.store s).properties)
        → Blocked ((both e).shape.deliver s ((both e).shape.ask s a 1 0 new).account (O.Made m) ((both e).shape.ask s a 1 0 new).tables).said
    first_block = Of.first_block (both e) (both_grants e) (both_further e) s t ready a room

  module _ (s : (both e).shape.Settings) (a : Account) where
    -- ---- chunks without a block on loan

    -- a return that is taken leaves one at most
    pub returned_idle : (b : Block) (t : Tables) (list : List ℕ) (n : ℕ) → ((both e).shape.return s a b t list).said ≡ Paper.released n
        → (c d : Chunk) → Unlent ((both e).shape.view s ((both e).shape.return s a b t list).tables) c → Unlent ((both e).shape.view s ((both e).shape.return s a b t list).tables) d → c ≡ d
    returned_idle = Own.returned_idle (both e) s a (both_further e)

    -- and an ask that is not refused, and is no longer than such a chunk, is answered by a block
    pub idle_lends : (size mask : ℕ) (t : Tables) → Clear (ask_rows (words_of (both e).shape) s a size mask t) → (c : Chunk) → Unlent ((both e).shape.view s t) c → size ≤ c.size
        → Blocked ((both e).shape.ask s a size mask t).said
    idle_lends = Own.idle_lends (both e) s a (both_grants e)

    -- ---- a delivery that lends a block was made at settings and tables in 01's table, and at a sound store

    pub lends_passed : (o : Outcome) (t : Tables) → Blocked ((both e).shape.deliver s a o t).said → (both e).shape.Fits s t × (both e).shape.Sound s t
    lends_passed = Own.lends_passed (both e) s a (both_further e)

    -- ---- 01: "places past the count are untouched", whatever a call says

    pub past_untouched : (t : Tables) (c : Call (both e).shape.Own) → Untouched (to_free (does (both e).shape s a t c).said) (lent_list c) (does (both e).shape s a t c).list
    past_untouched = Own.past_untouched (both e) s a (both_further e)
