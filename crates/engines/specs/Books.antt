-- What a call books, told from what was asked and answered. 01, "heap.rs": "used always equals the charges less the releases
-- and give-backs in the history"; a memory number that is accepted takes one device object, a failed map's too, and each
-- that is released or given back gives one.
use Rattle.std.specs.Prelude.{◌≡◌, Bool, true, false, cond, ◌||◌, List, [], ◌∷◌, ◌++◌, ℕ, ◌+◌, ◌-◌, eqb, length}
use Rattle.counter.specs.Account.{Typed, heap_at}
use Rattle.counter.specs.Paper.{Said}
use Rattle.counter.specs.Paper as Paper
use Rattle.counter.specs.declared.account.Account.{Account}
use Rattle.counter.specs.Open.{OpenOrder}
use Rattle.std.specs.Prelude.{None, Some}
use Rattle.counter.specs.declared.answers.Outcome.{Outcome}
use Rattle.counter.specs.declared.answers.Outcome.TheVariants as O
use Rattle.heap.specs.Heap.{Within}
use Rattle.heap.specs.History.{Entry, charge, release, after, AllFitting}
use Rattle.store_rules.specs.Outcomes.{Listed, to_free}
use Rattle.store_rules.specs.Views.{sizes}
use Rattle.engines.specs.Shapes.{Tables, Call, sets_up, asks, delivers, returns, others, Shape, does}

-- the size of the open order
abbrev pub order_size : OpenOrder → ℕ
order_size None = 0
order_size (Some k) = k.order.size

-- whether a delivered memory number was accepted: a block is lent, or it is lost with 11 or 12
abbrev pub accepted : Said → Bool
accepted Paper.ready = false
accepted (Paper.block serial chunk offset size) = true
accepted (Paper.order store size memtype map) = false
accepted (Paper.released n) = false
accepted Paper.ranked = false
accepted (Paper.refusal n back) = eqb n 11 || eqb n 12

-- an accepted memory number charges the order's size, and one that is given back releases it again
abbrev pub delivery_books : Outcome → ℕ → Said → List Entry
delivery_books (O.Made m) z said = cond (accepted said) (charge z ∷ []) [] ++ cond (eqb (to_free said) 0) [] (release z ∷ [])
delivery_books O.OutOfDevice z said = []
delivery_books O.OutOfHost z said = []

-- released chunks release their bytes
abbrev pub release_books : ℕ → Said → List Entry
release_books bytes Paper.ready = []
release_books bytes (Paper.block serial chunk offset size) = []
release_books bytes (Paper.order store size memtype map) = []
release_books bytes (Paper.released n) = release bytes ∷ []
release_books bytes Paper.ranked = []
release_books bytes (Paper.refusal n back) = []

-- how many objects a delivery takes: an accepted memory number one
abbrev pub delivery_takes : Outcome → Said → ℕ
delivery_takes (O.Made m) said = cond (accepted said) 1 0
delivery_takes O.OutOfDevice said = 0
delivery_takes O.OutOfHost said = 0

module _ (E : Shape) where
  -- what a call books on the heap of its settings, from what it leaves
  abbrev pub books : E.Settings → Account → Tables → Call E.Own → Listed Tables → List Entry
  books s a t sets_up d = []
  books s a t (asks size mask) d = []
  books s a t (delivers o) d = delivery_books o (order_size a.order) d.said
  books s a t (returns b list) d = release_books (sizes (E.view s t).chunks - sizes (E.view s d.tables).chunks) d.said
  books s a t (others c list) d = release_books (sizes (E.view s t).chunks - sizes (E.view s d.tables).chunks) d.said

  -- and how many objects it takes
  abbrev pub takes : Call E.Own → Said → ℕ
  takes sets_up said = 0
  takes (asks size mask) said = 0
  takes (delivers o) said = delivery_takes o said
  takes (returns b list) said = 0
  takes (others c list) said = 0

-- a call on heap h books these entries there and takes so many objects
pub record Booked (h : ℕ) (a : Account) (entries : List Entry) (takes : ℕ) (d : Listed Tables) : Type 0 where
  pub heaps : length d.account.heaps ≡ length a.heaps
  pub others : (j : ℕ) → (j ≡ h → ⊥) → heap_at d.account j ≡ heap_at a j
  pub heap : Typed a → heap_at d.account h ≡ after (heap_at a h) entries
  pub fitting : Within (heap_at a h) → AllFitting (heap_at a h) entries
  pub objects : d.account.objects + takes ≡ a.objects + to_free d.said

pub record Books (E : Shape) : Type 0 where
  pub booked : (s : E.Settings) (a : Account) (t : Tables) (c : Call E.Own)
      → Booked (E.store s).heap a (books E s a t c (does E s a t c)) (takes E c (does E s a t c).said) (does E s a t c)
