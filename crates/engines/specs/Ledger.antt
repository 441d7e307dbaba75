-- A store's loans as its caller may keep them: from its calls and their answers alone.
use Rattle.std.specs.Prelude.{◌≡◌, Bool, cond, ◌&&◌, ◌⊎◌, ◌↔◌, ℕ, ◌+◌, ◌≤◌, eqb}
use mathlib.Core.List.{List, [], ◌∷◌, ◌++◌, map, Memᴰ}
use Rattle.lists.specs.Members.{Distinct}
use Rattle.counter.specs.Paper.{Said}
use Rattle.counter.specs.Paper as Paper
use Rattle.counter.specs.declared.answers.Block.{Block}
use Rattle.store_rules.specs.Views.{Matches, OnLoan}
use Rattle.store_rules.specs.declared.Loan.{Loan}
use Rattle.engines.specs.Engines.{Engine}
use Rattle.engines.specs.Histories.{State, Visit, done, step}
use Rattle.engines.specs.Shapes.{Call, sets_up, asks, delivers, returns, others}
use Rattle.engines.specs.Tells.{lent_by}

-- a block was lent, or a block was taken back
pub data Note : Type 0 where
  lent : Block → Note
  back : Block → Note

-- what the answer to an ask or a delivery says of that, and the answer to a return of block b
abbrev pub lent_note : Said → List Note
lent_note said = map lent (lent_by said)

abbrev pub back_note : Block → Said → List Note
back_note b Paper.ready = []
back_note b (Paper.block serial chunk offset size) = []
back_note b (Paper.order store size memtype map) = []
back_note b (Paper.released n) = back b ∷ []
back_note b Paper.ranked = []
back_note b (Paper.refusal n given) = []

abbrev pub note_of : {Own : Type 0} → Call Own → Said → List Note
note_of sets_up said = []
note_of (asks size mask) said = lent_note said
note_of (delivers o) said = lent_note said
note_of (returns b list) said = back_note b said
note_of (others c list) said = []

-- 7: "this serial, chunk, offset and size", of two blocks
abbrev pub same_block : Block → Block → Bool
same_block b c = eqb c.serial b.serial && (eqb c.chunk b.chunk && (eqb c.offset b.offset && eqb c.size b.size))

-- the blocks with b struck out
abbrev pub blocks_less : Block → List Block → List Block
blocks_less b [] = []
blocks_less b (c ∷ bs) = cond (same_block b c) (blocks_less b bs) (c ∷ blocks_less b bs)

-- the blocks lent and not since taken back, where bs were on loan before
abbrev pub ledger : List Block → List Note → List Block
ledger bs [] = bs
ledger bs (lent b ∷ ns) = ledger (b ∷ bs) ns
ledger bs (back b ∷ ns) = ledger (blocks_less b bs) ns

-- the loans ls are exactly the blocks bs: "A block carries serial, chunk, offset, size."
pub record Exactly (ls : List Loan) (bs : List Block) : Type 0 where
  -- a block is on loan exactly when it is one of them
  pub each : (b : Block) → OnLoan b ls ↔ Memᴰ b bs
  -- every loan is one of them
  pub every : (l : Loan) → Memᴰ l ls → (b : Block) × Memᴰ b bs × Matches b l
  -- and each of them is one loan, not two
  pub one : (b : Block) (k l : Loan) → Memᴰ k ls → Memᴰ l ls → Matches b k → Matches b l → k ≡ l

-- no serial stands twice
abbrev pub NoSerialTwice : List Block → Type 0
NoSerialTwice bs = Distinct (map (λ (b : Block). b.serial) bs)

-- two blocks are one, or lie in different chunks, or one ends before the other starts
abbrev pub NoByteTwice : List Block → Type 0
NoByteTwice bs =
    (b c : Block) → Memᴰ b bs → Memᴰ c bs → (b ≡ c → ⊥) → b.chunk ≡ c.chunk
    → (b.offset + b.size ≤ c.offset) ⊎ (c.offset + c.size ≤ b.offset)

-- each serial once, no byte twice
abbrev pub Fine : List Block → Type 0
Fine bs = NoSerialTwice bs × NoByteTwice bs

-- K names the engines
module _ (K : Type 0) (E : K → Engine) where
  -- what is heard at store i, in order
  abbrev pub notes_at : ℕ → State → List (Visit K E) → List Note
  notes_at i w [] = []
  notes_at i w (v ∷ vs) = cond (eqb v.at i) (note_of v.call (done K E w v).said) [] ++ notes_at i (step K E w v) vs
