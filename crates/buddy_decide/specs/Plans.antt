-- The code's plan, and its look before it, in the definitions' words; and what the numbers are that it carries.
use Rattle.std.specs.Prelude.{◌≡◌, Bool, false, ◌&&◌, Result, Ok, Err, [], ◌∷◌, ℕ, ◌-◌, ◌<◌, eqb, ltb}
use Rattle.counter.specs.Gate.{first}
use Rattle.counter.specs.Limits.{levels_most, spent}
use Rattle.counter.specs.Paper.{number_of}
use Rattle.counter.specs.declared.account.Heap.{Heap}
use Rattle.counter.specs.declared.refusal.Refusal.{Refusal}
use Rattle.counter.specs.declared.settings.BuddySettings.{BuddySettings}
use Rattle.slabs.specs.declared.Taken.{Taken}
use Rattle.store_rules.specs.Orders as Orders
use Rattle.book_rules.specs.Book.{taken_of}
use Rattle.buddy_rules.specs.Level.{ring_head}
use Rattle.buddy_rules.specs.Tables.{Tables, given_in, places_in, level_from}
use Rattle.buddy_outcomes.specs.Ask.{nowhere, at, size_for, level_for, grown_to, found_from, fits_at, pairs_room, chunk_taken, room_ok, order_bytes, late_row, planned, decide_ask}
use Rattle.buddy_decide.specs.declared.plans.Buying.{Buying}
use Rattle.buddy_decide.specs.declared.plans.Plan.{Plan}
use Rattle.buddy_decide.specs.declared.plans.Plan.TheVariants.{Lack, Take, Buy}
use Rattle.buddy_decide.specs.declared.plans.Taking.{Taking}
use Rattle.buddy_decide.specs.declared.plans.Tried.{Tried}
use Rattle.buddy_decide.specs.declared.plans.Tried.TheVariants as L

-- a lack of objects is refusal 9
abbrev pub plan_of : Result Plan Refusal → Orders.Plan ℕ
plan_of (Err r) = Orders.deny (number_of r)
plan_of (Ok (Lack n)) = Orders.deny 9
plan_of (Ok (Take t)) = Orders.take t.from
plan_of (Ok (Buy b)) = Orders.buy b.order

-- ---- what the carried numbers are, for an ask of z bytes and level l

-- the place of the book that a loan takes next
abbrev pub next_loan : Tables → Taken
next_loan t = taken_of (places_in t) t.index

pub record Takes (s : BuddySettings) (z l : ℕ) (t : Tables) (k : Taking) : Type 0 where
  pub size : k.size ≡ z
  pub level : k.level ≡ l
  pub pair : k.pair ≡ ring_head (level_from s k.from) t.room
  pub loan : k.loan ≡ next_loan t

pub record Buys (s : BuddySettings) (z l : ℕ) (t : Tables) (b : Buying) : Type 0 where
  pub size : b.size ≡ z
  pub level : b.level ≡ l
  pub levels : b.levels ≡ grown_to l t
  pub loan : b.loan ≡ next_loan t
  pub chunk : b.chunk ≡ chunk_taken s t

-- 9 is told by Lack alone, with the levels that the ask needs
abbrev pub PlannedAt : BuddySettings → ℕ → ℕ → Tables → Result Plan Refusal → Type 0
PlannedAt s z l t (Err r) = eqb (number_of r) 9 ≡ false
PlannedAt s z l t (Ok (Lack n)) = n ≡ grown_to l t
PlannedAt s z l t (Ok (Take k)) = Takes s z l t k
PlannedAt s z l t (Ok (Buy b)) = Buys s z l t b

abbrev pub Planned : BuddySettings → ℕ → ℕ → Tables → Result Plan Refusal → Type 0
Planned s size mask t p = PlannedAt s (size_for s size mask) (level_for s size mask) t p

-- ---- a look, which knows neither heap nor objects

-- these places of a loan and a chunk are left, and the pairs of a split from above level `top` down to level l
abbrev pub places_room : BuddySettings → ℕ → ℕ → ℕ → ℕ → Tables → Bool
places_room s l top loan chunk t = ltb loan s.store.loans && (ltb chunk s.store.chunks && pairs_room s t l (top - l))

-- it tells the plan p, whatever heap and objects there are: a refusal, a block of z bytes and level l, or the chunk whose tests
-- come to p
abbrev pub Tells : BuddySettings → ℕ → ℕ → Tables → (Heap → ℕ → Orders.Plan ℕ) → Result Tried Refusal → Type 0
Tells s z l t p (Err r) = ((h : Heap) (objects : ℕ) → Orders.deny (number_of r) ≡ p h objects) × (eqb (number_of r) 9 ≡ false)
Tells s z l t p (Ok (L.Take k)) = ((h : Heap) (objects : ℕ) → Orders.take k.from ≡ p h objects) × Takes s z l t k
Tells s z l t p (Ok (L.Need n)) =
    (n.size ≡ z)
    × (n.level ≡ l)
    × (n.level < levels_most)
    × (n.order ≡ order_bytes s n.level t)
    × (n.levels ≡ grown_to n.level t)
    × ((h : Heap) (objects : ℕ) → planned s n.level t nowhere (first (late_row s h objects n.level t nowhere)) ≡ p h objects)

-- at an ask of z bytes and level l that level i can serve
abbrev pub TryTake : BuddySettings → ℕ → ℕ → ℕ → Tables → Result Tried Refusal → Type 0
TryTake s z l i t r =
    Tells s z l t (λ (h : Heap) (objects : ℕ). planned s l t (at i) (first ((room_ok s l t (at i), 8) ∷ (ltb (given_in t) spent, 10) ∷ []))) r

-- at one of z bytes and level l
abbrev pub TrySized : BuddySettings → ℕ → ℕ → Tables → Result Tried Refusal → Type 0
TrySized s z l t r =
    Tells s z l t (λ (h : Heap) (objects : ℕ). planned s l t (found_from s l t) (first ((fits_at levels_most s z, 6) ∷ late_row s h objects l t (found_from s l t)))) r

-- at any
abbrev pub TryOf : BuddySettings → ℕ → ℕ → Tables → Result Tried Refusal → Type 0
TryOf s size mask t r = Tells s (size_for s size mask) (level_for s size mask) t (λ (h : Heap) (objects : ℕ). decide_ask s h objects size mask t) r
