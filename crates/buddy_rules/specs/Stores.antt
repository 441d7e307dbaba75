-- A whole buddy store by what its words say: levels, loans and chunks, the trees that they stand for, and what its calls do
-- to it. 01, "buddy.rs" and "Sound".
use Rattle.std.specs.Prelude.{◌≡◌, Bool, true, false, cond, ℕ, suc, ◌+◌, ◌-◌, ◌*◌, ◌≤◌, ◌<◌, eqb}
use Rattle.slabs.specs.Slab.{nowhere}
use Rattle.buddy_trees.specs.Trees.{Tree, free, Piece, Wf, Has, up, bytes}
use Rattle.buddy_rules.specs.Nodes as Nodes
use Rattle.buddy_rules.specs.Nodes.{free_word, Ent, Loan, L, node_of, Rep}
use Rattle.buddy_rules.specs.Levels.{Ops, base_of}
use Rattle.buddy_rules.specs.Returns.{entries, Out, climb}
use Rattle.buddy_rules.specs.Lends.{grow, lend, head_node, loan_node}

-- a function with another value at c
abbrev pub with : {A : Type 0} → (ℕ → A) → ℕ → A → ℕ → A
with f c v x = cond (eqb x c) v (f x)

-- loan k as a piece of its chunk
abbrev pub piece : Loan → ℕ → Piece
piece d k = record { at = d.at; lev = d.lev; who = k + 1 }

module _ (u : ℕ) (O : Ops) where
  -- how many levels there are; the levels; the loans, and which of them are on loan; of each chunk place how high its top
  -- node is, 0 where the place is vacant, and that node's word
  pub record Store : Type 0 where
    pub count : ℕ
    pub levels : ℕ → O.Lv
    pub loans : ℕ → Loan
    pub live : ℕ → Bool
    pub high : ℕ → ℕ
    pub top : ℕ → ℕ

  -- the store stands for the trees T: each level's ring and vacant places are right; each held chunk's words stand for its
  -- tree, which is not free, and no pair in use is anything else's; loans are the trees' leaves, one for one
  pub record Sound (s : Store) (T : ℕ → Tree) : Type 0 where
    pub good : (i : ℕ) → i < s.count → O.Good (s.levels i)
    pub small : (i p : ℕ) → i < s.count → Nodes.vacant < (O.ent (s.levels i) p).tag → 2 * p + 1 < nowhere
    pub tall : (c : ℕ) → s.high c ≤ s.count
    pub held : (c : ℕ) → T c ≡ free → (s.high c ≡ 0) × (s.top c ≡ free_word)
    pub vacant : (c : ℕ) → s.high c ≡ 0 → T c ≡ free
    pub wf : (c : ℕ) → Wf (s.high c) (T c)
    pub rep : (c : ℕ) → Rep u (entries O s.levels) s.loans c (s.high c) 0 nowhere (s.top c) (T c)
    pub owned : (i p : ℕ) → i < s.count → Nodes.vacant < (O.ent (s.levels i) p).tag
        → (i < s.high (O.ent (s.levels i) p).chunk) × ((O.ent (s.levels i) p).off < bytes u (s.high (O.ent (s.levels i) p).chunk))
    pub has : (k : ℕ) → s.live k ≡ true → Has u (s.high (s.loans k).chunk) 0 (T (s.loans k).chunk) (piece (s.loans k) k)
    pub is_live : (c k : ℕ) (y : Piece) → Has u (s.high c) 0 (T c) y → y.who ≡ k + 1 → s.live k ≡ true

  -- ---- a return

  -- loan k comes back: the climb from its node
  abbrev pub climbs : Store → ℕ → Out O
  climbs s k = climb O s.levels (s.count - (s.loans k).lev) (s.loans k).lev (s.loans k).node

  -- "above the top the chunk is released"
  unfoldable pub returned : Store → ℕ → Store
  returned s k =
      let c = (s.loans k).chunk in
      let r = climbs s k in
      record {
        count = s.count;
        levels = r.levels;
        loans = s.loans;
        live = with s.live k false;
        high = with s.high c (cond r.freed 0 (s.high c));
        top = with s.top c (cond r.freed 0 (s.top c));
      }

  -- ---- a loan

  -- "Levels grow to hold it"
  abbrev pub grown_to : ℕ → Store → Store
  grown_to n s = record { count = n; levels = s.levels; loans = s.loans; live = s.live; high = s.high; top = s.top }

  -- loan k is made, and chunk c's top node is then h levels high and has the word w
  abbrev pub made : Store → ℕ → Loan → (ℕ → O.Lv) → ℕ → ℕ → Store
  made s k d W h w =
      record {
        count = s.count;
        levels = W;
        loans = with s.loans k d;
        live = with s.live k true;
        high = with s.high d.chunk h;
        top = with s.top d.chunk w;
      }

  -- the head pair's entry of level i
  abbrev pub head_ent : Store → ℕ → Ent
  head_ent s i = O.ent (s.levels i) (O.head (s.levels i))

  -- the loan of level lev that is cut out of the head's ready side d levels above it
  abbrev pub cut_loan : Store → ℕ → ℕ → Loan
  cut_loan s lev d =
      record {
        chunk = (head_ent s (up d lev)).chunk;
        at = base_of u (head_ent s (up d lev)) (up d lev);
        lev = lev;
        node = loan_node u O s.levels lev (head_node u O s.levels (up d lev)) d;
      }

  unfoldable pub lent : Store → ℕ → ℕ → ℕ → Store
  lent s lev d k =
      let c = (head_ent s (up d lev)).chunk in
      made s k (cut_loan s lev d) (lend u O s.levels lev d k) (s.high c) (s.top c)

  -- a new chunk at the vacant place c, twice as long as the top level's nodes: its left end is lent as k. The top level is d
  -- levels above lev
  abbrev pub new_loan : Store → ℕ → ℕ → Loan
  new_loan s lev c = record { chunk = c; at = 0; lev = lev; node = node_of (O.new_place (s.levels lev)) L }

  unfoldable pub delivered : Store → ℕ → ℕ → ℕ → ℕ → Store
  delivered s lev d k c =
      let g = grow u O s.levels lev c 0 k nowhere (suc d) in
      made s k (new_loan s lev c) g.levels (up (suc d) lev) g.top
