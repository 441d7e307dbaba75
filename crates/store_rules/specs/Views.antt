-- A store as its user sees it, of whichever engine: blocks on loan, held chunks, free pieces, and what fills what, byte by byte.
-- Demand 3: "blocks on loan and free pieces fill each held chunk without gap or overlap".
use Rattle.std.specs.Prelude.{◌≡◌, Bool, false, cond, ◌&&◌, ◌||◌, ◌⊎◌, ◌↔◌, ℕ, ◌+◌, ◌%◌, ◌≤◌, ◌<◌, eqb, leb, ltb, length}
use mathlib.Core.List.{List, [], ◌∷◌, Memᴰ, map}
use Rattle.lists.specs.Members.{Distinct}
use Rattle.counter.specs.declared.answers.Block.{Block}
use Rattle.store_rules.specs.declared.Chunk.{Chunk}
use Rattle.store_rules.specs.declared.Loan.{Loan}
use Rattle.store_rules.specs.declared.Region.{Region}

abbrev pub region : ℕ → ℕ → ℕ → Region
region c a b = record { chunk = c; start = a; end = b }

abbrev pub chunk : ℕ → ℕ → ℕ → Chunk
chunk n m z = record { number = n; memory = m; size = z }

abbrev pub block : ℕ → ℕ → ℕ → ℕ → Block
block serial number offset size = record { serial = serial; chunk = number; offset = offset; size = size }

pub record View : Type 0 where
  pub loans : List Loan
  pub chunks : List Chunk
  pub free : List Region

-- 7: "this serial, chunk, offset and size": the loan is the block's
pub record Matches (b : Block) (l : Loan) : Type 0 where
  pub serial : l.serial ≡ b.serial
  pub chunk : l.chunk ≡ b.chunk
  pub offset : l.offset ≡ b.offset
  pub size : l.size ≡ b.size

-- a block is on loan: some loan has its serial, chunk, offset and size
abbrev pub OnLoan : Block → List Loan → Type 0
OnLoan b ls = (l : Loan) × Memᴰ l ls × Matches b l

-- 7, tested: the loan is the block's
abbrev pub same_loan : Block → Loan → Bool
same_loan b l = eqb l.serial b.serial && (eqb l.chunk b.chunk && (eqb l.offset b.offset && eqb l.size b.size))

-- a loan is one of the blocks
abbrev pub among : List Block → Loan → Bool
among [] l = false
among (b ∷ bs) l = same_loan b l || among bs l

-- the loans that are none of them
abbrev pub loans_less : List Block → List Loan → List Loan
loans_less bs [] = []
loans_less bs (l ∷ ls) = cond (among bs l) (loans_less bs ls) (l ∷ loans_less bs ls)

module _ {A : Type 0} where
  -- P holds of each
  abbrev pub All : (A → Type 0) → List A → Type 0
  All P xs = (a : A) → Memᴰ a xs → P a

  -- no two have the same key
  abbrev pub Differ : (A → ℕ) → List A → Type 0
  Differ key xs = (a b : A) → Memᴰ a xs → Memᴰ b xs → key a ≡ key b → a ≡ b

-- the sum of f over a list
abbrev pub total : {A : Type 0} → (A → ℕ) → List A → ℕ
total f [] = 0
total f (a ∷ xs) = f a + total f xs

-- how many bytes the chunks have
abbrev pub sizes : List Chunk → ℕ
sizes cs = total (λ (c : Chunk). c.size) cs

-- ---- byte by byte

-- 1 where bytes lo to hi of chunk c hold byte x of chunk n, else 0
unfoldable pub on : ℕ → ℕ → ℕ → ℕ → ℕ → ℕ
on n x c lo hi = cond (eqb c n && (leb lo x && ltb x hi)) 1 0

-- how many free pieces, loans and chunks hold byte x of chunk n
abbrev pub free : ℕ → ℕ → List Region → ℕ
free n x rs = total (λ (r : Region). on n x r.chunk r.start r.end) rs

abbrev pub loaned : ℕ → ℕ → List Loan → ℕ
loaned n x ls = total (λ (l : Loan). on n x l.chunk l.offset (l.offset + l.size)) ls

abbrev pub held : ℕ → ℕ → List Chunk → ℕ
held n x cs = total (λ (c : Chunk). on n x c.number 0 c.size) cs

-- at every byte the loans and the free pieces that hold it are as many as the held chunks that have it
abbrev pub Filled : View → Type 0
Filled v = (n x : ℕ) → loaned n x v.loans + free n x v.free ≡ held n x v.chunks

-- "loans have distinct serials", "held memory numbers differ", and so do chunk numbers
pub record Apart (v : View) : Type 0 where
  pub serials : Distinct (map (λ (l : Loan). l.serial) v.loans)
  pub numbers : Distinct (map (λ (c : Chunk). c.number) v.chunks)
  pub memories : Distinct (map (λ (c : Chunk). c.memory) v.chunks)

-- ---- a new block

-- a block as it has to be: of the serials given so far and the loans before it, in the chunks held with it, for an ask of this
-- size and mask in a store with this atom mask
pub record GoodBlock (atom size mask given : ℕ) (loans : List Loan) (chunks : List Chunk) (serial number offset len : ℕ) : Type 0 where
  -- its serial is the next one
  pub next : serial ≡ given + 1
  -- it lies in a held chunk
  pub held : (c : Chunk) × Memᴰ c chunks × (c.number ≡ number) × (offset + len ≤ c.size)
  -- it starts where the ask's mask allows
  pub aligned : offset % (mask + 1) ≡ 0
  -- and at a whole atom unit
  pub atoms : offset % (atom + 1) ≡ 0
  -- it is as long as was asked for
  pub enough : size ≤ len
  -- no byte of it was on loan
  pub apart : (l : Loan) → Memᴰ l loans → l.chunk ≡ number → (l.offset + l.size ≤ offset) ⊎ (offset + len ≤ l.offset)
  -- every loan has a lower serial
  pub new : (l : Loan) → Memᴰ l loans → l.serial < serial

-- ---- chunks that go

-- of the held chunks cs those of ds are left, and ms are the memory numbers of the others
pub record Go (cs ds : List Chunk) (ms : List ℕ) : Type 0 where
  pub among : (c : Chunk) → Memᴰ c ds → Memᴰ c cs
  pub either : (c : Chunk) → Memᴰ c cs → Memᴰ c ds ⊎ (Memᴰ c ds → ⊥)
  pub count : length ms + length ds ≡ length cs
  pub bytes : sizes ds ≤ sizes cs
  pub tells : (m : ℕ) → Memᴰ m ms ↔ ((c : Chunk) × Memᴰ c cs × (c.memory ≡ m) × (Memᴰ c ds → ⊥))
