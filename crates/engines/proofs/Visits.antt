-- What a call at one store does to the tables of each, and that a set-up that is not accepted does nothing.
use mathlib.Core.Path.{◌≡◌, refl, sym, ap}
use mathlib.Core.Logic.{◌⊎◌, inl, inr, ⊎_elim}
use mathlib.Core.List.{List, []}
use Prim.Native.Nat.{ℕ, ◌<◌}
use native.Mathlib.Omega.{arith}
use lib.ListN.{length, length-set}
use lib.Seq.{get_or-set_same, get_or-set_other}
use Rattle.counter.specs.Paper as Paper
use Rattle.counter.specs.declared.answers.Block.{Block}
use Rattle.counter.specs.declared.answers.Outcome.{Outcome}
use Rattle.engines.specs.Engines.{Engine}
use Rattle.engines.specs.Histories.{State, store_at, Visit, done, step}
use Rattle.engines.specs.Shapes.{Tables, no_tables, Begun, Call, sets_up, asks, delivers, returns, others}

-- ---- which call is a set-up

pub asks_not : {Own : Type 0} (size mask : ℕ) → ◌≡◌ {A = Call Own} (asks size mask) sets_up → ⊥
asks_not size mask e = let z : ◌≡◌ {A = ℕ} 0 1 = cc in omega arith

pub delivers_not : {Own : Type 0} (o : Outcome) → ◌≡◌ {A = Call Own} (delivers o) sets_up → ⊥
delivers_not o e = let z : ◌≡◌ {A = ℕ} 0 1 = cc in omega arith

pub returns_not : {Own : Type 0} (b : Block) (list : List ℕ) → ◌≡◌ {A = Call Own} (returns b list) sets_up → ⊥
returns_not b list e = let z : ◌≡◌ {A = ℕ} 0 1 = cc in omega arith

pub others_not : {Own : Type 0} (c : Own) (list : List ℕ) → ◌≡◌ {A = Call Own} (others c list) sets_up → ⊥
others_not c list e = let z : ◌≡◌ {A = ℕ} 0 1 = cc in omega arith

pub set_up? : {Own : Type 0} (c : Call Own) → (c ≡ sets_up) ⊎ (c ≡ sets_up → ⊥)
set_up? sets_up = inl refl
set_up? (asks size mask) = inr (asks_not size mask)
set_up? (delivers o) = inr (delivers_not o)
set_up? (returns b list) = inr (returns_not b list)
set_up? (others c list) = inr (others_not c list)

-- one that is not accepted is refused, and leaves the tables
pub set_up_refused : (E : Engine) (s : E.shape.Settings) (t : Tables) → ((E.shape.set_up s t).said ≡ Paper.ready → ⊥) → (n : ℕ) × (E.shape.set_up s t ≡ record { said = Paper.refusal n []; tables = t })
set_up_refused E s t f = ⊎_elim (λ r. absurd (f r)) (λ w. (w.0, E.refuses.set_up_leaves s t w.0 w.1 w.2)) (E.tells.set_up_says s t)

pub set_up_stays : (E : Engine) (s : E.shape.Settings) (t : Tables) → ((E.shape.set_up s t).said ≡ Paper.ready → ⊥) → (E.shape.set_up s t).tables ≡ t
set_up_stays E s t f = ap (λ (r : Begun). r.tables) (set_up_refused E s t f).1

-- ---- stores

module _ (K : Type 0) (E : K → Engine) where
  module _ (w : State) (v : Visit K E) where
    -- there are as many stores as before
    pub stores_stay : length (step K E w v).stores ≡ length w.stores
    stores_stay = length-set w.stores v.at (done K E w v).tables

    -- the store it is made at has the tables that it leaves
    pub store_here : v.at < length w.stores → store_at (step K E w v) v.at ≡ (done K E w v).tables
    store_here h = get_or-set_same w.stores v.at (done K E w v).tables no_tables h

    -- and the others have theirs
    pub store_other : (i : ℕ) → (v.at ≡ i → ⊥) → store_at (step K E w v) i ≡ store_at w i
    store_other i n = get_or-set_other w.stores v.at i (done K E w v).tables no_tables (λ e. n (sym e))
