-- Demand 3: different blocks on loan may be returned to a store of either engine in any order: none is refused, and every order
-- ends with the same loans, free pieces, held and released chunks, heap totals and object count, those that 01's rules give.
use mathlib.Core.Path.{◌≡◌}
use mathlib.Core.Logic.{◌↔◌}
use mathlib.Core.List.{List, Memᴰ, Permᴰ}
use Prim.Native.Nat.{ℕ, ◌+◌, ◌-◌, ◌≤◌, ◌<◌}
use lib.ListN.{length}
use Rattle.lists.specs.Members.{Distinct}
use Rattle.counter.specs.Account.{Typed}
use Rattle.counter.specs.Gate.{pass}
use Rattle.counter.specs.Paper.{Said}
use Rattle.counter.specs.Paper as Paper
use Rattle.counter.specs.declared.answers.Block.{Block}
use Rattle.counter.specs.declared.settings.BuddySettings.{BuddySettings}
use Rattle.counter.specs.declared.settings.FreeListSettings.{FreeListSettings}
use Rattle.store_rules.specs.Outcomes.{released_account}
use Rattle.store_rules.specs.Views.{Matches, All, sizes}
use Rattle.store_rules.specs.declared.Chunk.{Chunk}
use Rattle.store_rules.specs.declared.Loan.{Loan}
use Rattle.engines.specs.Ends.{Lot}
use Rattle.engines.specs.Histories.{State, store_at, run, saids, Slip, blocks_of, handing, told_in}
use Rattle.engines.proofs.AnyOrder as Of
use Rattle.freelist_rules.specs.AtOnce as FreeList
use Rattle.freelist_rules.specs.Tables.{store_of}
use Rattle.freelist_engine.specs.Shape.{seen, counts_of, list_shape}
use Rattle.buddy_trees.specs.Chunks as Buddy
use Rattle.buddy_rules.specs.Views.{view_of}
use Rattle.buddy_engine.specs.Shape as BuddyShape
use Rattle.buddy_engine.specs.Shape.{buddy_shape}
use Rattle.histories.specs.Which.{Which, a_list, a_buddy}
use Rattle.histories.proofs.Both.{both}

module _ (w : State) (i : ℕ) (e : Which) (s : (both e).shape.Settings) (here : i < length w.stores) (typed : Typed w.account)
    (passes : (both e).shape.gate s w.account (store_at w i) ≡ pass) (ps : List Slip) (lot : Lot (both e).shape (blocks_of ps) (store_at w i))
    (long : All (λ (p : Slip). ((both e).shape.store s).chunks ≤ length p.1) ps) where
  -- no return is refused
  pub none_refused : All (λ (x : Said). (n : ℕ) × (x ≡ Paper.released n)) (saids Which both w (handing Which both i e s ps))
  none_refused = Of.none_refused Which both w i e s here typed passes ps lot long

  -- the loans at the end are those that are none of the blocks
  pub end_loans : (l : Loan) → Memᴰ l ((both e).shape.loans (store_at (run Which both w (handing Which both i e s ps)) i))
      ↔ (Memᴰ l ((both e).shape.loans (store_at w i)) × ((b : Block) → Memᴰ b (blocks_of ps) → Matches b l → ⊥))
  end_loans = Of.end_loans Which both w i e s here typed passes ps lot long

  -- heap used and totals, and the objects: less the chunks that are held no more
  pub end_account : (run Which both w (handing Which both i e s ps)).account ≡ released_account ((both e).shape.store s) w.account
      (length ((both e).shape.view s (store_at w i)).chunks - length ((both e).shape.at_once s (blocks_of ps) (store_at w i)).chunks)
      (sizes ((both e).shape.view s (store_at w i)).chunks - sizes ((both e).shape.at_once s (blocks_of ps) (store_at w i)).chunks)
  end_account = Of.end_account Which both w i e s here typed passes ps lot long

  -- the memory numbers told on the way are those of the chunks that were held and are held no more
  pub end_told : (m : ℕ) → Memᴰ m (told_in Which both w (handing Which both i e s ps))
      ↔ ((c : Chunk) × Memᴰ c ((both e).shape.view s (store_at w i)).chunks × (c.memory ≡ m) × (Memᴰ c ((both e).shape.at_once s (blocks_of ps) (store_at w i)).chunks → ⊥))
  end_told = Of.end_told Which both w i e s here typed passes ps lot long

  -- as many as there are of those, and none of them twice
  pub end_count : length (told_in Which both w (handing Which both i e s ps)) + length ((both e).shape.at_once s (blocks_of ps) (store_at w i)).chunks
      ≡ length ((both e).shape.view s (store_at w i)).chunks
  end_count = Of.end_count Which both w i e s here typed passes ps lot long

  pub end_once : Distinct (told_in Which both w (handing Which both i e s ps))
  end_once = Of.end_once Which both w i e s here typed passes ps lot long

  -- the other stores are as they were
  pub end_others : (j : ℕ) → (j ≡ i → ⊥) → store_at (run Which both w (handing Which both i e s ps)) j ≡ store_at w j
  end_others = Of.end_others Which both w i e s here typed passes ps lot long

  -- another order of the same blocks ends alike: loans, free pieces and held chunks; counts; account; chunks released
  module _ (qs : List Slip) (same : Permᴰ (blocks_of ps) (blocks_of qs)) (long' : All (λ (p : Slip). ((both e).shape.store s).chunks ≤ length p.1) qs) where
    pub same_view_end : (both e).shape.view s (store_at (run Which both w (handing Which both i e s ps)) i)
        ≡ (both e).shape.view s (store_at (run Which both w (handing Which both i e s qs)) i)
    same_view_end = Of.same_view_end Which both w i e s here typed passes ps lot long qs same long'

    pub same_rest_end : (both e).shape.rest s (store_at (run Which both w (handing Which both i e s ps)) i)
        ≡ (both e).shape.rest s (store_at (run Which both w (handing Which both i e s qs)) i)
    same_rest_end = Of.same_rest_end Which both w i e s here typed passes ps lot long qs same long'

    pub same_account_end : (run Which both w (handing Which both i e s ps)).account ≡ (run Which both w (handing Which both i e s qs)).account
    same_account_end = Of.same_account_end Which both w i e s here typed passes ps lot long qs same long'

    pub same_told_end : (m : ℕ) → Memᴰ m (told_in Which both w (handing Which both i e s ps)) ↔ Memᴰ m (told_in Which both w (handing Which both i e s qs))
    same_told_end = Of.same_told_end Which both w i e s here typed passes ps lot long qs same long'

-- ---- the end, engine by engine

-- a free list's is the one that the set of blocks decides: the loans that are left, the gaps between them, and wholly free chunks
-- released but for the last region's
pub list_end : (w : State) (i : ℕ) (s : FreeListSettings) → i < length w.stores → Typed w.account → list_shape.gate s w.account (store_at w i) ≡ pass
    → (ps : List Slip) → Lot list_shape (blocks_of ps) (store_at w i) → All (λ (p : Slip). s.store.chunks ≤ length p.1) ps
    → seen (store_of s (store_at (run Which both w (handing Which both i a_list s ps)) i)) ≡ seen (FreeList.at_once (blocks_of ps) (store_of s (store_at w i)))
list_end w i s here typed passes ps lot long = Of.end_view Which both w i a_list s here typed passes ps lot long

-- and the counts of serials and chunk numbers given and the chunk size are as they were
pub list_counts_end : (w : State) (i : ℕ) (s : FreeListSettings) → i < length w.stores → Typed w.account → list_shape.gate s w.account (store_at w i) ≡ pass
    → (ps : List Slip) → Lot list_shape (blocks_of ps) (store_at w i) → All (λ (p : Slip). s.store.chunks ≤ length p.1) ps
    → counts_of (store_of s (store_at (run Which both w (handing Which both i a_list s ps)) i)) ≡ counts_of (store_of s (store_at w i))
list_counts_end w i s here typed passes ps lot long = Of.end_rest Which both w i a_list s here typed passes ps lot long

-- a buddy's: the loans that are left, chunks held exactly where one of them lies, and of these the free pieces of the trees that
-- the loans make
pub buddy_end : (w : State) (i : ℕ) (s : BuddySettings) → i < length w.stores → Typed w.account → buddy_shape.gate s w.account (store_at w i) ≡ pass
    → (ps : List Slip) → Lot buddy_shape (blocks_of ps) (store_at w i) → All (λ (p : Slip). s.store.chunks ≤ length p.1) ps
    → view_of s (store_at (run Which both w (handing Which both i a_buddy s ps)) i) ≡ Buddy.at_once s.minimal (blocks_of ps) (view_of s (store_at w i))
buddy_end w i s here typed passes ps lot long = Of.end_view Which both w i a_buddy s here typed passes ps lot long

-- and its counts of serials given and levels are as they were
pub buddy_counts_end : (w : State) (i : ℕ) (s : BuddySettings) → i < length w.stores → Typed w.account → buddy_shape.gate s w.account (store_at w i) ≡ pass
    → (ps : List Slip) → Lot buddy_shape (blocks_of ps) (store_at w i) → All (λ (p : Slip). s.store.chunks ≤ length p.1) ps
    → BuddyShape.counts_of (store_at (run Which both w (handing Which both i a_buddy s ps)) i) ≡ BuddyShape.counts_of (store_at w i)
buddy_counts_end w i s here typed passes ps lot long = Of.end_rest Which both w i a_buddy s here typed passes ps lot long
