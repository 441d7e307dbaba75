-- A buddy store's chunk as a tree of nodes, a node of level l being minimal x 2^l bytes long. 01, "buddy.rs": "A node is
-- free, on loan, or split into a pair, and a pair is its two nodes".
use Rattle.std.specs.Prelude.{◌≡◌, Bool, false, cond, ◌⊎◌, ◌↔◌, List, [], ◌∷◌, ◌++◌, ℕ, zero, suc, ◌+◌, ◌*◌, ◌^◌, ◌≤◌, eqb, ltb}

-- a loan is named by a number, such as its place in the store's book
pub data Tree : Type 0 where
  free : Tree
  loan : ℕ → Tree
  split : Tree → Tree → Tree

-- on loan or split
abbrev pub Taken : Tree → Type 0
Taken free = ⊥
Taken (loan k) = Unit {0}
Taken (split a b) = Unit {0}

-- a pair's nodes are not both free: 01, "Sound": "no joinable pieces"
abbrev pub Apart : Tree → Tree → Type 0
Apart free free = ⊥
Apart free (loan k) = Unit {0}
Apart free (split c d) = Unit {0}
Apart (loan k) b = Unit {0}
Apart (split c d) b = Unit {0}

-- a tree of level l: a pair's nodes are of the level below, and none can be joined
abbrev pub Wf : ℕ → Tree → Type 0
Wf l free = Unit {0}
Wf l (loan k) = Unit {0}
Wf zero (split a b) = ⊥
Wf (suc l) (split a b) = Apart a b × Wf l a × Wf l b

-- d levels above lev
abbrev pub up : ℕ → ℕ → ℕ
up zero lev = lev
up (suc d) lev = suc (up d lev)

-- how long a node of level l is, the minimal size being u. 01, "Sound": "minimal x 2^L"
unfoldable pub bytes : ℕ → ℕ → ℕ
bytes u l = u * 2 ^ l

-- ---- what a tree fills

-- a piece: its offset in bytes, its level, and whose it is, 0 for free and k + 1 for loan k
pub record Piece : Type 0 where
  pub at : ℕ
  pub lev : ℕ
  pub who : ℕ

module _ (u : ℕ) where
  -- the pieces of a node of level l at offset o, from its start to its end
  abbrev pub pieces : ℕ → ℕ → Tree → List Piece
  pieces l o free = record { at = o; lev = l; who = 0 } ∷ []
  pieces l o (loan k) = record { at = o; lev = l; who = k + 1 } ∷ []
  pieces zero o (split a b) = []
  pieces (suc l) o (split a b) = pieces l o a ++ pieces l (o + bytes u l) b

  -- they fill o to e: each starts where the one before it ends
  abbrev pub Fills : ℕ → List Piece → ℕ → Type 0
  Fills o [] e = o ≡ e
  Fills o (p ∷ ps) e = (p.at ≡ o) × Fills (o + bytes u p.lev) ps e

  -- y is a loan of the node of level l at offset o
  abbrev pub Has : ℕ → ℕ → Tree → Piece → Type 0
  Has l o free y = ⊥
  Has l o (loan k) y = (y.at ≡ o) × (y.lev ≡ l) × (y.who ≡ k + 1)
  Has zero o (split a b) y = ⊥
  Has (suc l) o (split a b) y = Has l o a y ⊎ Has l (o + bytes u l) b y

  -- the node of level m at x is a free one of it
  abbrev pub Free : ℕ → ℕ → Tree → ℕ → ℕ → Type 0
  Free l o free x m = (x ≡ o) × (m ≡ l)
  Free l o (loan k) x m = ⊥
  Free zero o (split a b) x m = ⊥
  Free (suc l) o (split a b) x m = Free l o a x m ⊎ Free l (o + bytes u l) b x m

  -- no loan meets the stretch at x that is as long as a node of level lev. 01, "Sound": "a wholly free stretch"
  abbrev pub Quiet : ℕ → ℕ → Tree → ℕ → ℕ → Type 0
  Quiet l o t x lev = (y : Piece) → Has l o t y → (y.at + bytes u y.lev ≤ x) ⊎ (x + bytes u lev ≤ y.at)

  -- that stretch lies in a free node, the one of level n at z, which is as high or higher
  pub record Room (l o : ℕ) (t : Tree) (x lev : ℕ) : Type 0 where
    pub z : ℕ
    pub n : ℕ
    pub is : Free l o t z n
    pub high : lev ≤ n
    pub low : z ≤ x
    pub end : x + bytes u lev ≤ z + bytes u n

-- ---- how returns change it

-- a pair whose nodes are both free goes. 01, "buddy.rs": "When its twin is ready, the pair goes, .. and the return goes
-- on one level up"
abbrev pub merge : Tree → Tree → Tree
merge free free = free
merge free (loan k) = split free (loan k)
merge free (split c d) = split free (split c d)
merge (loan k) b = split (loan k) b
merge (split c d) b = split (split c d) b

-- the loans that p marks are given back at once
abbrev pub prune : (ℕ → Bool) → Tree → Tree
prune p free = free
prune p (loan k) = cond (p k) free (loan k)
prune p (split a b) = merge (prune p a) (prune p b)

abbrev pub remove : ℕ → Tree → Tree
remove k t = prune (eqb k) t

-- p does not mark the loan
abbrev pub Kept : (ℕ → Bool) → Piece → Type 0
Kept p y = (k : ℕ) → y.who ≡ k + 1 → p k ≡ false

-- ---- how loans change it

-- a node lent d levels down. 01, "buddy.rs": "The taken node is split down to the level, always keeping the left"
abbrev pub spine : ℕ → ℕ → Tree
spine zero k = loan k
spine (suc d) k = split (spine d k) free

module _ (u : ℕ) where
  -- the free node that offset x leads to becomes s
  abbrev pub plant : ℕ → ℕ → ℕ → Tree → Tree → Tree
  plant l o x s free = s
  plant l o x s (loan k) = loan k
  plant zero o x s (split a b) = split a b
  plant (suc l) o x s (split a b) = cond (ltb x (o + bytes u l)) (split (plant l o x s a) b) (split a (plant l (o + bytes u l) x s b))

  -- r is a tree of level l too, and has the loans of t and those of s, which stands at x with level m
  pub record Planted (l o : ℕ) (t s : Tree) (x m : ℕ) (r : Tree) : Type 0 where
    pub wf : Wf l r
    pub has : (y : Piece) → Has u l o r y ↔ (Has u l o t y ⊎ Has u m x s y)
