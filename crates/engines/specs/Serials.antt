-- Serials of an engine's blocks. 01: "Serials count up from 1 in a store and are never used twice; a store set up anew is
-- another." Demand 1: "A block returned to its store again .. is never taken".
use Rattle.std.specs.Prelude.{◌≡◌, ◌⊎◌, List, [], ◌∷◌, ℕ, zero, suc, ◌+◌, ◌≤◌, length}
use Rattle.counter.specs.Paper.{Said}
use Rattle.counter.specs.Paper as Paper
use Rattle.counter.specs.Reasons.{Given}
use Rattle.counter.specs.declared.account.Account.{Account}
use Rattle.counter.specs.declared.answers.Block.{Block}
use Rattle.store_rules.specs.Outcomes.{listed}
use Rattle.store_rules.specs.Views.{All}
use Rattle.store_rules.specs.declared.Loan.{Loan}
use Rattle.store_rules.specs.Rows.{list_rows}
use Rattle.engines.specs.Shapes.{Tables, Call, sets_up, Shape, does, Marked, words_of}

-- the serial of a block that is lent
abbrev pub serial_said : Said → List ℕ
serial_said Paper.ready = []
serial_said (Paper.block serial chunk offset size) = serial ∷ []
serial_said (Paper.order store size memtype map) = []
serial_said (Paper.released n) = []
serial_said Paper.ranked = []
serial_said (Paper.refusal n back) = []

-- g + 1, g + 2, and so on, n of them
abbrev pub up_from : ℕ → ℕ → List ℕ
up_from g zero = []
up_from g (suc n) = (g + 1) ∷ up_from (g + 1) n

-- serial k was given by this engine in these tables, and no loan of theirs has it
pub record Gone (E : Shape) (k : ℕ) (t : Tables) : Type 0 where
  pub marked : Marked E t
  pub old : k ≤ E.given t
  pub away : All (λ (l : Loan). l.serial ≡ k → ⊥) (E.loans t)

-- a call gives as many serials as it lends blocks, the next ones, and the mark stays
pub record Counted (E : Shape) (t t' : Tables) (said : Said) : Type 0 where
  pub gives : E.given t' ≡ E.given t + length (serial_said said)
  pub nexts : serial_said said ≡ up_from (E.given t) (length (serial_said said))
  pub marks : Marked E t'

pub record Counts (E : Shape) : Type 0 where
  -- a store set up has the mark and gave no serial
  pub begins : (s : E.Settings) (t : Tables) → (E.set_up s t).said ≡ Paper.ready → Marked E (E.set_up s t).tables × (E.given (E.set_up s t).tables ≡ 0)
  pub counted : (s : E.Settings) (a : Account) (t : Tables) (c : Call E.Own) → (c ≡ sets_up → ⊥) → Marked E t → Counted E t (does E s a t c).tables (does E s a t c).said
  -- a serial that is gone stays so
  pub gone_stays : (k : ℕ) (s : E.Settings) (a : Account) (t : Tables) (c : Call E.Own) → (c ≡ sets_up → ⊥) → Gone E k t → Gone E k (does E s a t c).tables
  -- a return that was taken leaves the block's serial gone
  pub released_gone : (s : E.Settings) (a : Account) (b : Block) (t : Tables) (list : List ℕ) (n : ℕ) → (E.return s a b t list).said ≡ Paper.released n
      → Gone E b.serial (E.return s a b t list).tables
  -- and its return is refused from then on, with nothing changed: as 7, or as one of the earlier rows 1 to 4
  pub gone_refused : (s : E.Settings) (a : Account) (b : Block) (t : Tables) (list : List ℕ) → Gone E b.serial t
      → (n : ℕ) × (E.return s a b t list ≡ listed (Paper.refusal n []) a t list) × ((n ≡ 7) ⊎ Given (list_rows (words_of E) s a t list) n)
