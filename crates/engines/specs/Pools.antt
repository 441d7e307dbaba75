-- Tables lent in any mixture: every call names five tables of a pool, and nothing binds those of one call to those of another.
-- 01, demand 1: "A block returned to its store again .. is never taken".
use Rattle.std.specs.Prelude.{◌≡◌, cond, List, [], ◌∷◌, ◌++◌, ℕ, ◌≤◌, ◌<◌, eqb, get_or, set}
use Rattle.counter.specs.Paper as Paper
use Rattle.counter.specs.declared.account.Account.{Account}
use Rattle.counter.specs.declared.answers.Block.{Block}
use Rattle.store_rules.specs.Outcomes.{Listed, listed}
use Rattle.store_rules.specs.Tables.{Marks}
use Rattle.store_rules.specs.Views.{All}
use Rattle.store_rules.specs.declared.Loan.{Loan}
use Rattle.engines.specs.Engines.{Engine}
use Rattle.engines.specs.Ledger.{Note, note_of}
use Rattle.engines.specs.Serials.{serial_said}
use Rattle.engines.specs.Shapes.{Tables, Call, sets_up, returns, Shape, does, lent_list}

-- which of a store's five tables
pub data Slot : Type 0 where
  of_head : Slot
  of_loans : Slot
  of_chunks : Slot
  of_index : Slot
  of_room : Slot

abbrev pub slots : List Slot
slots = of_head ∷ of_loans ∷ of_chunks ∷ of_index ∷ of_room ∷ []

abbrev pub table_of : Tables → Slot → List ℕ
table_of t of_head = t.head
table_of t of_loans = t.loans
table_of t of_chunks = t.chunks
table_of t of_index = t.index
table_of t of_room = t.room

-- the first word of a table tells of which engine it is, and which of its tables
abbrev pub seal : List ℕ → ℕ
seal t = get_or t 0 0

-- an engine's mark for each
abbrev pub sign_of : Marks → Slot → ℕ
sign_of m of_head = m.head
sign_of m of_loans = m.loans
sign_of m of_chunks = m.chunks
sign_of m of_index = m.index
sign_of m of_room = m.room

-- ---- the laws

pub record Marking (E : Shape) : Type 0 where
  pub sign : Slot → ℕ
  pub head_sign : E.mark ≡ sign of_head
  -- a set-up that is accepted signs all five, and any other call leaves the five first words
  pub signs : (s : E.Settings) (t : Tables) → (E.set_up s t).said ≡ Paper.ready → (z : Slot) → seal (table_of (E.set_up s t).tables z) ≡ sign z
  pub seals_stay : (s : E.Settings) (a : Account) (t : Tables) (c : Call E.Own) → (c ≡ sets_up → ⊥) → (z : Slot) → seal (table_of (does E s a t c).tables z) ≡ seal (table_of t z)
  -- unless each of the five is this engine's for its slot, each call but set-up is refused, by 1, 2 or 3, and leaves everything
  pub unsigned : (s : E.Settings) (a : Account) (t : Tables) (c : Call E.Own) → (c ≡ sets_up → ⊥) → (((z : Slot) → seal (table_of t z) ≡ sign z) → ⊥)
      → (n : ℕ) × (does E s a t c ≡ listed (Paper.refusal n []) a t (lent_list c)) × (0 < n) × (n ≤ 3)

pub record Sealed (E : Shape) : Type 0 where
  pub marking : Marking E
  -- the loans table alone says how many serials were given and which blocks are on loan
  pub given_in : List ℕ → ℕ
  pub loans_in : List ℕ → List Loan
  pub given_there : (t : Tables) → E.given t ≡ given_in t.loans
  pub loans_there : (t : Tables) → E.loans t ≡ loans_in t.loans

-- ---- a pool

abbrev pub Pool : Type 0
Pool = List (List ℕ)

abbrev pub lent_from : Pool → (Slot → ℕ) → Tables
lent_from p at =
    record { head = get_or p (at of_head) []; loans = get_or p (at of_loans) []; chunks = get_or p (at of_chunks) []; index = get_or p (at of_index) []; room = get_or p (at of_room) [] }

-- the tables of these slots, written where they stand
abbrev pub written : Pool → (Slot → ℕ) → Tables → List Slot → Pool
written p at t [] = p
written p at t (z ∷ zs) = written (set p (at z) (table_of t z)) at t zs

abbrev pub Different : (Slot → ℕ) → Type 0
Different at = (y z : Slot) → at y ≡ at z → y ≡ z

module _ (K : Type 0) (E : K → Engine) where
  -- a call of one of the engines, with any settings and any account, lent five different tables of the pool
  pub record Turn : Type 0 where
    pub by : K
    pub settings : (E by).shape.Settings
    pub account : Account
    pub call : Call (E by).shape.Own
    pub places : Slot → ℕ
    pub different : Different places

  abbrev pub did : Pool → Turn → Listed Tables
  did p v = does (E v.by).shape v.settings v.account (lent_from p v.places) v.call

  abbrev pub turned : Pool → Turn → Pool
  turned p v = written p v.places (did p v).tables slots

  abbrev pub course : Pool → List Turn → Pool
  course p [] = p
  course p (v ∷ vs) = course (turned p v) vs

  -- no set-up that is lent table i for its loans is accepted
  abbrev pub NoNewLoans : ℕ → Pool → List Turn → Type 0
  NoNewLoans i p [] = Unit {0}
  NoNewLoans i p (v ∷ vs) = (v.places of_loans ≡ i → v.call ≡ sets_up → (did p v).said ≡ Paper.ready → ⊥) × NoNewLoans i (turned p v) vs

  -- what is heard with table i for the loans, in order
  abbrev pub heard_with : ℕ → Pool → List Turn → List Note
  heard_with i p [] = []
  heard_with i p (v ∷ vs) = cond (eqb (v.places of_loans) i) (note_of v.call (did p v).said) [] ++ heard_with i (turned p v) vs

  -- the serials given with table i for the loans, in order. 01: "Serials count up from 1 in a store and are never used twice"
  abbrev pub serials_with : ℕ → Pool → List Turn → List ℕ
  serials_with i p [] = []
  serials_with i p (v ∷ vs) = cond (eqb (v.places of_loans) i) (serial_said (did p v).said) [] ++ serials_with i (turned p v) vs

  -- a set-up
  abbrev pub setting_up : (e : K) → (E e).shape.Settings → Account → (at : Slot → ℕ) → Different at → Turn
  setting_up e s a at d = record { by = e; settings = s; account = a; call = sets_up; places = at; different = d }

  -- a return
  abbrev pub handing : (e : K) → (E e).shape.Settings → Account → (at : Slot → ℕ) → Different at → Block → List ℕ → Turn
  handing e s a at d b list = record { by = e; settings = s; account = a; call = returns b list; places = at; different = d }

  module _ (Z : (k : K) → Sealed (E k).shape) where
    -- serial k was given by engine e from this table, and no loan in it has it: if its first word says that it is a loans
    -- table of any engine, then of e, and so
    pub record GoneFrom (e : K) (k : ℕ) (t : List ℕ) : Type 0 where
      pub whose : (g : K) → seal t ≡ (Z g).marking.sign of_loans → g ≡ e
      pub old : seal t ≡ (Z e).marking.sign of_loans → k ≤ (Z e).given_in t
      pub away : seal t ≡ (Z e).marking.sign of_loans → All (λ (l : Loan). l.serial ≡ k → ⊥) ((Z e).loans_in t)
