-- The chunks that a store of either engine holds are exactly those that its caller heard to have come and not since gone; and what a
-- return or clean-up gives back to its heap are the sizes for which the memory numbers told were delivered. 01: "used always equals the
-- charges less the releases and give-backs in the history".
use mathlib.Core.Path.{◌≡◌}
use mathlib.Core.Logic.{◌⊎◌}
use mathlib.Core.List.{List, [], ◌∷◌, Memᴰ}
use Prim.Native.Nat.{ℕ, ◌<◌}
use lib.ListN.{length, take}
use Rattle.counter.specs.Account.{Typed, heap_at}
use Rattle.counter.specs.Paper as Paper
use Rattle.counter.specs.declared.account.Account.{Account}
use Rattle.heap.specs.History.{release, after}
use Rattle.store_rules.specs.Views.{total}
use Rattle.store_rules.specs.declared.Chunk.{Chunk}
use Rattle.engines.specs.Histories.{State, store_at, done, step, run, NoSetUp, heap_of, books_here}
use Rattle.engines.specs.Shapes as Shapes
use Rattle.engines.specs.Shapes.{Tables, sets_up, does}
use Rattle.engines.specs.Stock.{came, told_by, change_of, stock, size_of, SameChunks, NoMemoryTwice, changes_at}
use Rattle.engines.proofs.CountUp.{setting}
use Rattle.engines.proofs.Stocked as Of
use Rattle.engines.proofs.Stocking as One
use Rattle.histories.specs.Which.{Which}
use Rattle.histories.proofs.Both.{both, both_further, Call, differ}

-- ---- one call of either engine, but a set-up that is accepted

module _ (e : Which) (s : (both e).shape.Settings) (a : Account) (t : Tables) (c : Shapes.Call (both e).shape.Own) (f : c ≡ sets_up → (does (both e).shape s a t c).said ≡ Paper.ready → ⊥) (x : Chunk) where
  -- a chunk that is held before it is held after it, or its memory number is told
  pub chunk_stays : Memᴰ x ((both_further e).chunks t) → Memᴰ x ((both_further e).chunks (does (both e).shape s a t c).tables) ⊎ Memᴰ x.memory (told_by (does (both e).shape s a t c))
  chunk_stays = One.chunk_stays (both e) (both_further e) s a t c f x

  -- and one that is held after it was held before, or is heard to have come
  pub chunk_came : Memᴰ x ((both_further e).chunks (does (both e).shape s a t c).tables) → Memᴰ x ((both_further e).chunks t) ⊎ Memᴰ (came x) (change_of a.order c (does (both e).shape s a t c))
  chunk_came = One.chunk_came (both e) (both_further e) s a t c f x

-- ---- store i was set up by engine e, and no set-up of it was accepted since

module _ (w : State) (i : ℕ) (e : Which) (s : (both e).shape.Settings) (here : i < length w.stores) (ready : (done Which both w (setting Which both i e s)).said ≡ Paper.ready) (vs : List Call)
    (f : NoSetUp Which both i (step Which both w (setting Which both i e s)) vs) where
  -- the chunks that came there and have not since gone, by what its caller heard
  abbrev pub stock_then : List Chunk
  stock_then = stock [] (changes_at Which both i (step Which both w (setting Which both i e s)) vs)

  -- any calls since then
  abbrev pub state_then : State
  state_then = run Which both (step Which both w (setting Which both i e s)) vs

  -- they are exactly those that it holds
  pub held_stock : SameChunks ((both_further e).chunks (store_at state_then i)) stock_then
  held_stock = Of.held_stock Which both both_further differ i e w s here ready vs f

  -- no memory number stands twice, in the one list or in the other
  pub held_once : NoMemoryTwice ((both_further e).chunks (store_at state_then i))
  held_once = Of.held_once Which both both_further differ i e w s here ready vs f

  pub stock_once : NoMemoryTwice stock_then
  stock_once = Of.stock_once Which both both_further differ i e w s here ready vs f

  -- the next call there, of either engine and with any settings: if it says that n are released, it tells n memory numbers
  pub told_many : (v : Call) → v.at ≡ i → (n : ℕ) → (done Which both state_then v).said ≡ Paper.released n → length (take n (done Which both state_then v).list) ≡ n
  told_many = Of.told_many Which both both_further differ i e w s here ready vs f

  -- and what it books is one release, of the sizes for which these were delivered
  pub released_bytes : (v : Call) → v.at ≡ i → (n : ℕ) → (done Which both state_then v).said ≡ Paper.released n
      → books_here Which both state_then v ≡ release (total (size_of stock_then) (take n (done Which both state_then v).list)) ∷ []
  released_bytes = Of.released_bytes Which both both_further differ i e w s here ready vs f

  -- so its heap is as that release leaves it
  pub released_heap : (v : Call) → v.at ≡ i → (n : ℕ) → (done Which both state_then v).said ≡ Paper.released n → Typed state_then.account
      → heap_at (done Which both state_then v).account (heap_of Which both v)
      ≡ after (heap_at state_then.account (heap_of Which both v)) (release (total (size_of stock_then) (take n (done Which both state_then v).list)) ∷ [])
  released_heap = Of.released_heap Which both both_further differ i e w s here ready vs f
