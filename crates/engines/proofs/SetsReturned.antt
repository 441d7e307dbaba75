-- Demand 3 under its own words alone, of every engine: "In a sound store, with all values in 01's table, a covering account (01's
-- number 4), no order open and long enough lists, return any set of different blocks on loan": none is refused, and every order ends alike.
use mathlib.Core.Path.{◌≡◌}
use mathlib.Core.Logic.{◌↔◌}
use mathlib.Core.List.{List, Memᴰ, Permᴰ}
use Prim.Native.Nat.{ℕ, ◌+◌, ◌-◌, ◌≤◌, ◌<◌}
use lib.ListN.{length}
use Rattle.lists.specs.Members.{Distinct}
use Rattle.counter.specs.Account.{Typed}
use Rattle.counter.specs.Gate.{pass}
use Rattle.counter.specs.Paper.{Said}
use Rattle.counter.specs.Paper as Paper
use Rattle.counter.specs.declared.answers.Block.{Block}
use Rattle.store_rules.specs.Outcomes.{released_account}
use Rattle.store_rules.specs.Views.{Matches, All, sizes}
use Rattle.store_rules.specs.declared.Chunk.{Chunk}
use Rattle.store_rules.specs.declared.Loan.{Loan}
use Rattle.engines.specs.Ends.{Lot}
use Rattle.engines.specs.Engines.{Engine}
use Rattle.engines.specs.Handable.{Handable}
use Rattle.engines.specs.Histories.{State, store_at, Slip, blocks_of, run, saids, handing, told_in}
use Rattle.engines.proofs.AnyOrder as Of
use Rattle.engines.proofs.Passing.{handable_passes, handable_lot}

module _ (K : Type 0) (E : K → Engine) (w : State) (i : ℕ) (e : K) (s : (E e).shape.Settings) (here : i < length w.stores) (typed : Typed w.account)
    (ps : List Slip) (h : Handable (E e).shape s w.account (store_at w i) ps) where
  passes : (E e).shape.gate s w.account (store_at w i) ≡ pass
  passes = handable_passes (E e) s w.account (store_at w i) ps h

  lot : Lot (E e).shape (blocks_of ps) (store_at w i)
  lot = handable_lot (E e) s w.account (store_at w i) ps h

  -- no return is refused
  pub none_refused : All (λ (x : Said). (n : ℕ) × (x ≡ Paper.released n)) (saids K E w (handing K E i e s ps))
  none_refused = Of.none_refused K E w i e s here typed passes ps lot h.long

  -- the loans at the end are those that are none of the blocks
  pub end_loans : (l : Loan) → Memᴰ l ((E e).shape.loans (store_at (run K E w (handing K E i e s ps)) i))
      ↔ (Memᴰ l ((E e).shape.loans (store_at w i)) × ((b : Block) → Memᴰ b (blocks_of ps) → Matches b l → ⊥))
  end_loans = Of.end_loans K E w i e s here typed passes ps lot h.long

  -- the end is the one that the set of blocks decides: loans with their whole records, free pieces, held chunks
  pub end_view : (E e).shape.view s (store_at (run K E w (handing K E i e s ps)) i) ≡ (E e).shape.at_once s (blocks_of ps) (store_at w i)
  end_view = Of.end_view K E w i e s here typed passes ps lot h.long

  -- and its counts are as they were
  pub end_rest : (E e).shape.rest s (store_at (run K E w (handing K E i e s ps)) i) ≡ (E e).shape.rest s (store_at w i)
  end_rest = Of.end_rest K E w i e s here typed passes ps lot h.long

  -- heap used and totals, and the objects: less the chunks that are held no more
  pub end_account : (run K E w (handing K E i e s ps)).account ≡ released_account ((E e).shape.store s) w.account
      (length ((E e).shape.view s (store_at w i)).chunks - length ((E e).shape.at_once s (blocks_of ps) (store_at w i)).chunks)
      (sizes ((E e).shape.view s (store_at w i)).chunks - sizes ((E e).shape.at_once s (blocks_of ps) (store_at w i)).chunks)
  end_account = Of.end_account K E w i e s here typed passes ps lot h.long

  -- the memory numbers told on the way are those of the chunks that were held and are held no more
  pub end_told : (m : ℕ) → Memᴰ m (told_in K E w (handing K E i e s ps))
      ↔ ((c : Chunk) × Memᴰ c ((E e).shape.view s (store_at w i)).chunks × (c.memory ≡ m) × (Memᴰ c ((E e).shape.at_once s (blocks_of ps) (store_at w i)).chunks → ⊥))
  end_told = Of.end_told K E w i e s here typed passes ps lot h.long

  -- as many as there are of those
  pub end_count : length (told_in K E w (handing K E i e s ps)) + length ((E e).shape.at_once s (blocks_of ps) (store_at w i)).chunks ≡ length ((E e).shape.view s (store_at w i)).chunks
  end_count = Of.end_count K E w i e s here typed passes ps lot h.long

  -- and none of them twice
  pub end_once : Distinct (told_in K E w (handing K E i e s ps))
  end_once = Of.end_once K E w i e s here typed passes ps lot h.long

  -- the other stores are as they were
  pub end_others : (j : ℕ) → (j ≡ i → ⊥) → store_at (run K E w (handing K E i e s ps)) j ≡ store_at w j
  end_others = Of.end_others K E w i e s here typed passes ps lot h.long

  -- any two orders of the same blocks, with any lists long enough, end alike
  module _ (qs : List Slip) (same : Permᴰ (blocks_of ps) (blocks_of qs)) (long' : All (λ (p : Slip). ((E e).shape.store s).chunks ≤ length p.1) qs) where
    -- with the same loans, free pieces and held chunks
    pub same_view_end : (E e).shape.view s (store_at (run K E w (handing K E i e s ps)) i) ≡ (E e).shape.view s (store_at (run K E w (handing K E i e s qs)) i)
    same_view_end = Of.same_view_end K E w i e s here typed passes ps lot h.long qs same long'

    -- the same counts
    pub same_rest_end : (E e).shape.rest s (store_at (run K E w (handing K E i e s ps)) i) ≡ (E e).shape.rest s (store_at (run K E w (handing K E i e s qs)) i)
    same_rest_end = Of.same_rest_end K E w i e s here typed passes ps lot h.long qs same long'

    -- the same heap totals and object count
    pub same_account_end : (run K E w (handing K E i e s ps)).account ≡ (run K E w (handing K E i e s qs)).account
    same_account_end = Of.same_account_end K E w i e s here typed passes ps lot h.long qs same long'

    -- and the same chunks released
    pub same_told_end : (m : ℕ) → Memᴰ m (told_in K E w (handing K E i e s ps)) ↔ Memᴰ m (told_in K E w (handing K E i e s qs))
    same_told_end = Of.same_told_end K E w i e s here typed passes ps lot h.long qs same long'
