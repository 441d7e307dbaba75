-- A block that was returned is never taken again, whatever calls of either engine come between, but an accepted set-up of its tables.
use mathlib.Core.Path.{◌≡◌, ap}
use mathlib.Core.Logic.{◌⊎◌}
use mathlib.Core.List.{List, []}
use Prim.Native.Nat.{ℕ, ◌<◌}
use lib.ListN.{length}
use Rattle.counter.specs.Paper as Paper
use Rattle.counter.specs.Reasons.{Given}
use Rattle.counter.specs.declared.answers.Block.{Block}
use Rattle.counter.specs.declared.settings.BuddySettings.{BuddySettings}
use Rattle.counter.specs.declared.settings.FreeListSettings.{FreeListSettings}
use Rattle.store_rules.specs.Outcomes.{Listed, listed}
use Rattle.engines.specs.Histories.{State, store_at, step, run, NoSetUp, hand_back}
use Rattle.store_rules.specs.Rows.{list_rows}
use Rattle.engines.specs.Shapes.{Tables, words_of}
use Rattle.engines.proofs.NeverAgain.{never_again}
use Rattle.freelist_outcomes.specs.Return as FreeList
use Rattle.freelist_engine.specs.Shape.{list_shape}
use Rattle.buddy_outcomes.specs.Return as Buddy
use Rattle.buddy_engine.specs.Shape.{buddy_shape}
use Rattle.histories.specs.Which.{Which, a_list, a_buddy}
use Rattle.histories.proofs.Both.{both, Call, differ}

-- a block was returned to a free list at store i, and then any calls were made, of either engine, at any stores, with any
-- settings, arguments and answers, but no accepted set-up of store i: its next return, with any settings and list, is refused and
-- changes nothing: as 7, or as one of the earlier rows 1 to 4
pub list_never_again : (w : State) (i : ℕ) → i < length w.stores → (s : FreeListSettings) (b : Block) (list : List ℕ) (n : ℕ)
    → (FreeList.return_of s w.account b (store_at w i) list).said ≡ Paper.released n
    → (vs : List Call) → NoSetUp Which both i (step Which both w (hand_back Which both i a_list s (b, list))) vs → (s' : FreeListSettings) (list' : List ℕ)
    → let u = run Which both (step Which both w (hand_back Which both i a_list s (b, list))) vs in
    (m : ℕ) × (FreeList.return_of s' u.account b (store_at u i) list' ≡ listed (Paper.refusal m []) u.account (store_at u i) list')
    × ((m ≡ 7) ⊎ Given (list_rows (words_of list_shape) s' u.account (store_at u i) list') m)
list_never_again w i here s b list n taken vs f s' list' =
    let r = never_again Which both differ w i here a_list s b list n taken vs f s' list' in
    (r.0, ap (λ (d : Listed Tables). listed d.said d.account d.tables d.list) r.1, r.2)

-- and the same of a buddy store
pub buddy_never_again : (w : State) (i : ℕ) → i < length w.stores → (s : BuddySettings) (b : Block) (list : List ℕ) (n : ℕ)
    → (Buddy.return_of s w.account b (store_at w i) list).said ≡ Paper.released n
    → (vs : List Call) → NoSetUp Which both i (step Which both w (hand_back Which both i a_buddy s (b, list))) vs → (s' : BuddySettings) (list' : List ℕ)
    → let u = run Which both (step Which both w (hand_back Which both i a_buddy s (b, list))) vs in
    (m : ℕ) × (Buddy.return_of s' u.account b (store_at u i) list' ≡ listed (Paper.refusal m []) u.account (store_at u i) list')
    × ((m ≡ 7) ⊎ Given (list_rows (words_of buddy_shape) s' u.account (store_at u i) list') m)
buddy_never_again w i here s b list n taken vs f s' list' =
    let r = never_again Which both differ w i here a_buddy s b list n taken vs f s' list' in
    (r.0, ap (λ (d : Listed Tables). listed d.said d.account d.tables d.list) r.1, r.2)
