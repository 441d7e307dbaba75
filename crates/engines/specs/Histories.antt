-- Calls of stores of several engines, one after the other. 01, "What one store holds": "Several stores share one account,
-- carried from call to call."
use Rattle.std.specs.Prelude.{◌≡◌, cond, List, [], ◌∷◌, ◌++◌, ℕ, ◌+◌, eqb, get_or, set, take}
use Rattle.counter.specs.Paper.{Said}
use Rattle.counter.specs.Paper as Paper
use Rattle.counter.specs.declared.account.Account.{Account}
use Rattle.counter.specs.declared.answers.Block.{Block}
use Rattle.heap.specs.History.{Entry}
use Rattle.store_rules.specs.Outcomes.{Listed, to_free}
use Rattle.engines.specs.Books.{books, takes}
use Rattle.engines.specs.Engines.{Engine}
use Rattle.engines.specs.Serials.{serial_said}
use Rattle.engines.specs.Shapes.{Tables, no_tables, Call, sets_up, returns, does}

-- the account, and the tables of each store
pub record State : Type 0 where
  pub account : Account
  pub stores : List Tables

abbrev pub store_at : State → ℕ → Tables
store_at w i = get_or w.stores i no_tables

-- a block, and the list that is lent for its return
abbrev pub Slip : Type 0
Slip = Block × List ℕ

abbrev pub blocks_of : List Slip → List Block
blocks_of [] = []
blocks_of (p ∷ ps) = p.0 ∷ blocks_of ps

-- K names the engines
module _ (K : Type 0) (E : K → Engine) where
  -- a call of one of the engines, with any settings, made at the tables of one of the stores
  pub record Visit : Type 0 where
    pub at : ℕ
    pub by : K
    pub settings : (E by).shape.Settings
    pub call : Call (E by).shape.Own

  abbrev pub done : State → Visit → Listed Tables
  done w v = does (E v.by).shape v.settings w.account (store_at w v.at) v.call

  abbrev pub step : State → Visit → State
  step w v = record { account = (done w v).account; stores = set w.stores v.at (done w v).tables }

  abbrev pub run : State → List Visit → State
  run w [] = w
  run w (v ∷ vs) = run (step w v) vs

  -- what the calls say, in order
  abbrev pub saids : State → List Visit → List Said
  saids w [] = []
  saids w (v ∷ vs) = (done w v).said ∷ saids (step w v) vs

  -- no set-up of store i is accepted
  abbrev pub NoSetUp : ℕ → State → List Visit → Type 0
  NoSetUp i w [] = Unit {0}
  NoSetUp i w (v ∷ vs) = (v.at ≡ i → v.call ≡ sets_up → (done w v).said ≡ Paper.ready → ⊥) × NoSetUp i (step w v) vs

  -- the serials that store i gives, in order
  abbrev pub serials_at : ℕ → State → List Visit → List ℕ
  serials_at i w [] = []
  serials_at i w (v ∷ vs) = cond (eqb v.at i) (serial_said (done w v).said) [] ++ serials_at i (step w v) vs

  -- ---- the account

  abbrev pub heap_of : Visit → ℕ
  heap_of v = ((E v.by).shape.store v.settings).heap

  abbrev pub books_here : State → Visit → List Entry
  books_here w v = books (E v.by).shape v.settings w.account (store_at w v.at) v.call (done w v)

  -- what a history books on heap j
  abbrev pub books_at : ℕ → State → List Visit → List Entry
  books_at j w [] = []
  books_at j w (v ∷ vs) = cond (eqb (heap_of v) j) (books_here w v) [] ++ books_at j (step w v) vs

  -- over a history: memory numbers accepted, and memory numbers released or given back
  abbrev pub accepted_in : State → List Visit → ℕ
  accepted_in w [] = 0
  accepted_in w (v ∷ vs) = takes (E v.by).shape v.call (done w v).said + accepted_in (step w v) vs

  abbrev pub freed_in : State → List Visit → ℕ
  freed_in w [] = 0
  freed_in w (v ∷ vs) = to_free (done w v).said + freed_in (step w v) vs

  -- ---- blocks handed back one after the other. Demand 3: "return any set of different blocks on loan, nothing else between"

  -- a return at store i
  abbrev pub hand_back : ℕ → (k : K) → (E k).shape.Settings → Slip → Visit
  hand_back i k s p = record { at = i; by = k; settings = s; call = returns p.0 p.1 }

  abbrev pub handing : ℕ → (k : K) → (E k).shape.Settings → List Slip → List Visit
  handing i k s [] = []
  handing i k s (p ∷ ps) = hand_back i k s p ∷ handing i k s ps

  -- the memory numbers told on the way: of each call as many of its list as it says
  abbrev pub told_in : State → List Visit → List ℕ
  told_in w [] = []
  told_in w (v ∷ vs) = take (to_free (done w v).said) (done w v).list ++ told_in (step w v) vs
