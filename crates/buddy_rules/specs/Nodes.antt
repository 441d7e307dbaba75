-- What the words of a buddy store say of its nodes, as a table of pair entries level by level, and the trees that they
-- stand for. 01, "buddy.rs" and "Sound": "rings, parents and vacant chains agree with it".
use Rattle.std.specs.Prelude.{◌≡◌, Bool, true, false, ◌⊎◌, ℕ, zero, suc, ◌+◌, ◌*◌, ◌-◌, ◌/◌, ◌%◌, ◌≤◌, ◌<◌, eqb}
use Rattle.buddy_trees.specs.Trees.{Tree, free, loan, split, bytes}

-- ---- the word of a node: "A node is free, on loan, or split into a pair"

abbrev pub free_word : ℕ
free_word = 0

-- on loan k
abbrev pub loan_word : ℕ → ℕ
loan_word k = 2 * k + 1

-- split into pair q of the level below
abbrev pub split_word : ℕ → ℕ
split_word q = 2 * q + 2

-- whether a word says that the node is on loan, and which loan; which pair a split node's says
abbrev pub says_loan : ℕ → Bool
says_loan w = eqb (w % 2) 1

abbrev pub loan_said : ℕ → ℕ
loan_said w = w / 2

abbrev pub pair_said : ℕ → ℕ
pair_said w = w / 2 - 1

-- ---- the tag of a pair: its place is vacant, both its nodes are taken, or which of them is ready

abbrev pub vacant : ℕ
vacant = 0

abbrev pub exhausted : ℕ
exhausted = 1

abbrev pub left_ready : ℕ
left_ready = 2

abbrev pub right_ready : ℕ
right_ready = 3

-- a pair's entry: its tag, the chunk and offset of its stretch, the words of its two nodes; up: which node it is the pair of, as
-- node_of has it, or `nowhere` for a chunk's top node
pub record Ent : Type 0 where
  pub tag : ℕ
  pub chunk : ℕ
  pub off : ℕ
  pub left : ℕ
  pub right : ℕ
  pub up : ℕ

-- a loan: its chunk, its offset in bytes, its level, and the node that it is
pub record Loan : Type 0 where
  pub chunk : ℕ
  pub at : ℕ
  pub lev : ℕ
  pub node : ℕ

pub data Side : Type 0 where
  L R : Side

abbrev pub other : Side → Side
other L = R
other R = L

-- a node is named by its pair and its side, as in the crate
abbrev pub node_of : ℕ → Side → ℕ
node_of p L = 2 * p
node_of p R = 2 * p + 1

-- the pair of node n, and its side
abbrev pub pair_of : ℕ → ℕ
pair_of n = n / 2

abbrev pub is_left : ℕ → Bool
is_left n = eqb (n % 2) 0

abbrev pub word : Side → Ent → ℕ
word L e = e.left
word R e = e.right

abbrev pub is_free : Tree → Bool
is_free free = true
is_free (loan k) = false
is_free (split a b) = false

-- the tag of a pair whose left and right nodes are free or not
abbrev pub tag_of : Bool → Bool → ℕ
tag_of true b = left_ready
tag_of false true = right_ready
tag_of false false = exhausted

abbrev pub split_by : Side → Tree → Tree → Tree
split_by L x y = split x y
split_by R x y = split y x

module _ (u : ℕ) where
  -- where a side of a pair at o begins, its nodes being of level l
  abbrev pub base : Side → ℕ → ℕ → ℕ
  base L o l = o
  base R o l = o + bytes u l

  -- the pair's stretch begins within the node of level l at o of chunk c
  abbrev pub Inside : Ent → ℕ → ℕ → ℕ → Type 0
  Inside e c o l = (e.chunk ≡ c) × (o ≤ e.off) × (e.off < o + bytes u l)

  -- E l p is the entry of pair p whose nodes are of level l. No pair in use lies in that node
  abbrev pub None : (ℕ → ℕ → Ent) → ℕ → ℕ → ℕ → Type 0
  None E c l o = (i p : ℕ) → i < l → vacant < (E i p).tag → Inside (E i p) c o l → ⊥

  -- a split node n: its pair, which alone of its level lies there, and its two halves
  pub record Node (E : ℕ → ℕ → Ent) (c l o n w t : ℕ) (A B : Type 0) : Type 0 where
    pub is : w ≡ split_word (pair_said w)
    pub tag : (E l (pair_said w)).tag ≡ t
    pub chunk : (E l (pair_said w)).chunk ≡ c
    pub off : (E l (pair_said w)).off ≡ o
    pub up : (E l (pair_said w)).up ≡ n
    pub only : (p : ℕ) → vacant < (E l p).tag → Inside (E l p) c o (suc l) → p ≡ pair_said w
    pub this : A
    pub twin : B

  -- the node n of level l at o of chunk c, whose word is w, stands for the tree; K tells the loans
  abbrev pub Rep : (ℕ → ℕ → Ent) → (ℕ → Loan) → ℕ → ℕ → ℕ → ℕ → ℕ → Tree → Type 0
  Rep E K c l o n w free = (w ≡ free_word) × None E c l o
  Rep E K c l o n w (loan k) = (w ≡ loan_word k) × (K k ≡ record { chunk = c; at = o; lev = l; node = n }) × None E c l o
  Rep E K c zero o n w (split a b) = ⊥
  Rep E K c (suc l) o n w (split a b) =
      Node E c l o n w (tag_of (is_free a) (is_free b))
      (Rep E K c l o (node_of (pair_said w) L) (E l (pair_said w)).left a)
      (Rep E K c l (o + bytes u l) (node_of (pair_said w) R) (E l (pair_said w)).right b)

  -- ---- when entries change

  -- those of a stretch are the same
  abbrev pub Keep : (ℕ → ℕ → Ent) → (ℕ → ℕ → Ent) → ℕ → ℕ → ℕ → Type 0
  Keep E E' c o l =
      (i p : ℕ) → i < l
      → ((vacant < (E i p).tag → Inside (E i p) c o l → E' i p ≡ E i p)
      × (vacant < (E' i p).tag → Inside (E' i p) c o l → E' i p ≡ E i p))

  -- an entry of the stretch, or a vacant one
  abbrev pub Loc : (ℕ → ℕ → Ent) → ℕ → ℕ → ℕ → ℕ → ℕ → Type 0
  Loc E i p c o l = ((E i p).tag ≡ vacant) ⊎ ((i < l) × Inside (E i p) c o l)

  -- only those change
  abbrev pub Local : (ℕ → ℕ → Ent) → (ℕ → ℕ → Ent) → ℕ → ℕ → ℕ → Type 0
  Local E E' c o l = (i p : ℕ) → (E' i p ≡ E i p) ⊎ (Loc E i p c o l × Loc E' i p c o l)
