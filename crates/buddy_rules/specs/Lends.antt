-- A node lent: the head's ready side at some level is split down, always keeping the left. 01, "buddy.rs".
use Rattle.std.specs.Prelude.{ℕ, zero, suc}
use Rattle.buddy_trees.specs.Trees.{up}
use Rattle.buddy_rules.specs.Nodes.{loan_word, split_word, L, node_of}
use Rattle.buddy_rules.specs.Levels.{Ops, side_of, base_of}
use Rattle.buddy_rules.specs.Returns.{put}

module _ (u : ℕ) (O : Ops) where
  -- the word of a new pair's node, or of the loan's, and the levels
  pub record Grown : Type 0 where
    pub top : ℕ
    pub levels : ℕ → O.Lv

  -- node n, d levels above lev, at o of chunk c, becomes a chain of new pairs down to loan k: each pair's place is that of its
  -- level alone, so the chain can be told from its foot
  unfoldable pub grow : (ℕ → O.Lv) → ℕ → ℕ → ℕ → ℕ → ℕ → ℕ → Grown
  grow W lev c o k n zero = record { top = loan_word k; levels = W }
  grow W lev c o k n (suc d) =
      let m = up d lev in
      let g = grow W lev c o k (node_of (O.new_place (W m)) L) d in
      record { top = split_word (O.new_place (W m)); levels = put O g.levels m (O.add (g.levels m) c o n g.top) }

  -- the head's ready side at d levels above lev is split down to lev, and lent as k
  abbrev pub fill : Grown → ℕ → ℕ → O.Lv
  fill g i = put O g.levels i (O.take (g.levels i) g.top)

  -- the loan's node, where node n, d levels above lev, is split down to it
  abbrev pub loan_node : (ℕ → O.Lv) → ℕ → ℕ → ℕ → ℕ
  loan_node W lev n zero = n
  loan_node W lev n (suc d) = node_of (O.new_place (W lev)) L

  abbrev pub head_node : (ℕ → O.Lv) → ℕ → ℕ
  head_node W i = node_of (O.head (W i)) (side_of (O.ent (W i) (O.head (W i))).tag)

  unfoldable pub lend : (ℕ → O.Lv) → ℕ → ℕ → ℕ → ℕ → O.Lv
  lend W lev d k =
      let i = up d lev in
      let e = O.ent (W i) (O.head (W i)) in
      fill (grow W lev e.chunk (base_of u e i) k (head_node W i) d) i
