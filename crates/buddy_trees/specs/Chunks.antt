-- A buddy store by its chunks and loans alone: the tree that a chunk's loans make, what of it is free, and what returns leave. It
-- knows no pairs and no rings, so that any engine whose blocks are nodes can be held against it. 01, "buddy.rs" and "Sound".
use Rattle.std.specs.Prelude.{◌≡◌, Bool, false, cond, ◌||◌, ◌⊎◌, ◌↔◌, ℕ, zero, suc, ◌+◌, ◌-◌, ◌%◌, ◌≤◌, ◌<◌, eqb, ltb}
use mathlib.Core.List.{List, [], ◌∷◌, ◌++◌, Memᴰ}
use Rattle.rounding_rules.specs.Raising.{level_of}
use Rattle.counter.specs.declared.answers.Block.{Block}
use Rattle.store_rules.specs.Views.{View, region, loans_less}
use Rattle.store_rules.specs.declared.Chunk.{Chunk}
use Rattle.store_rules.specs.declared.Loan.{Loan}
use Rattle.store_rules.specs.declared.Region.{Region}
use Rattle.buddy_trees.specs.Trees.{Tree, free, loan, split, Piece, bytes, Wf, Taken, Has}

-- ---- the tree of a node by the loans in it

-- those that begin before x, and the others
abbrev pub before : ℕ → List Piece → List Piece
before x [] = []
before x (y ∷ ys) = cond (ltb y.at x) (y ∷ before x ys) (before x ys)

abbrev pub from : ℕ → List Piece → List Piece
from x [] = []
from x (y ∷ ys) = cond (ltb y.at x) (from x ys) (y ∷ from x ys)

-- a node of level l: free if no loan lies in it, on loan if one fills it, else its two halves
abbrev pub node_by : ℕ → List Piece → Tree → Tree
node_by l [] halves = free
node_by l (y ∷ ys) halves = cond (eqb y.lev l) (loan (y.who - 1)) halves

module _ (u : ℕ) where
  -- the node of level l at o with these loans
  unfoldable pub tree_of : ℕ → ℕ → List Piece → Tree
  tree_of zero o ys = node_by zero ys free
  tree_of (suc l) o ys = node_by (suc l) ys (split (tree_of l o (before (o + bytes u l) ys)) (tree_of l (o + bytes u l) (from (o + bytes u l) ys)))

  -- the free pieces of a node, of chunk c, from its start to its end
  unfoldable pub free_of : ℕ → ℕ → ℕ → Tree → List Region
  free_of c l o free = region c o (o + bytes u l) ∷ []
  free_of c l o (loan k) = []
  free_of c zero o (split a b) = []
  free_of c (suc l) o (split a b) = free_of c l o a ++ free_of c l (o + bytes u l) b

  -- ---- a store

  -- a loan as a piece of its chunk, named by its serial
  abbrev pub piece_of : Loan → Piece
  piece_of l = record { at = l.offset; lev = level_of l.size u; who = l.serial + 1 }

  -- the loans of chunk c
  unfoldable pub pieces_in : ℕ → List Loan → List Piece
  pieces_in c [] = []
  pieces_in c (l ∷ ls) = cond (eqb l.chunk c) (piece_of l ∷ pieces_in c ls) (pieces_in c ls)

  -- how high a chunk is, and its tree
  abbrev pub high_of : Chunk → ℕ
  high_of c = level_of c.size u

  abbrev pub tree_in : List Loan → Chunk → Tree
  tree_in ls c = tree_of (high_of c) 0 (pieces_in c.number ls)

  -- the free pieces of the held chunks
  unfoldable pub free_in : List Loan → List Chunk → List Region
  free_in ls [] = []
  free_in ls (c ∷ cs) = free_of c.number (high_of c) 0 (tree_in ls c) ++ free_in ls cs

  abbrev pub view_from : List Loan → List Chunk → View
  view_from ls cs = record { loans = ls; chunks = cs; free = free_in ls cs }

  -- what soundness says of chunks and loans: a loan is a node of a held chunk, and the loans of a chunk are those of its tree,
  -- whose halves are never both free; "a buddy store holds no wholly free chunk"; numbers and serials differ
  pub record Standing (ls : List Loan) (cs : List Chunk) : Type 0 where
    pub sized : (c : Chunk) → Memᴰ c cs → (c.size ≡ bytes u (high_of c)) × (0 < high_of c)
    pub loans_sized : (l : Loan) → Memᴰ l ls → l.size ≡ bytes u (level_of l.size u)
    pub held : (l : Loan) → Memᴰ l ls → (c : Chunk) × Memᴰ c cs × (c.number ≡ l.chunk)
    pub wf : (c : Chunk) → Memᴰ c cs → Wf (high_of c) (tree_in ls c)
    pub taken : (c : Chunk) → Memᴰ c cs → Taken (tree_in ls c)
    pub has : (c : Chunk) → Memᴰ c cs → (y : Piece) → Memᴰ y (pieces_in c.number ls) ↔ Has u (high_of c) 0 (tree_in ls c) y
    pub numbers : (c d : Chunk) → Memᴰ c cs → Memᴰ d cs → c.number ≡ d.number → c ≡ d
    pub serials : (k l : Loan) → Memᴰ k ls → Memᴰ l ls → k.serial ≡ l.serial → k ≡ l

-- ---- what can be served

-- 01, "Sound": "In a buddy store a fitting free place is a wholly free stretch of the rounded size at a multiple of it", in a
-- held chunk
pub record Fitting (z : ℕ) (v : View) : Type 0 where
  pub chunk : Chunk
  pub held : Memᴰ chunk v.chunks
  pub start : ℕ
  pub aligned : start % z ≡ 0
  pub inside : start + z ≤ chunk.size
  pub quiet : (l : Loan) → Memᴰ l v.loans → l.chunk ≡ chunk.number → (l.offset + l.size ≤ start) ⊎ (start + z ≤ l.offset)

-- ---- what returns leave

-- whether some loan lies in the chunk
abbrev pub lies : List Loan → Chunk → Bool
lies [] c = false
lies (l ∷ ls) c = eqb l.chunk c.number || lies ls c

-- the chunks in which one does: 01, "buddy.rs": "above the top the chunk is released"
unfoldable pub stay : List Loan → List Chunk → List Chunk
stay ls [] = []
stay ls (c ∷ cs) = cond (lies ls c) (c ∷ stay ls cs) (stay ls cs)

-- these blocks come back, in whatever order: the other loans remain, chunks are held exactly where one does, and what is free is
-- the canonical trees'
unfoldable pub at_once : ℕ → List Block → View → View
at_once u bs v = view_from u (loans_less bs v.loans) (stay (loans_less bs v.loans) v.chunks)
