-- A block given back: by recursion from the chunk's top, which the theory speaks of, and by climbing from its node, which
-- 01 describes and the code does.
use Rattle.std.specs.Prelude.{Bool, true, false, cond, ℕ, zero, suc, ◌+◌, eqb, ltb}
use Rattle.slabs.specs.Slab.{nowhere}
use Rattle.buddy_trees.specs.Trees.{bytes}
use Rattle.buddy_rules.specs.Nodes.{free_word, says_loan, pair_said, Ent, Side, L, R, other, pair_of, word}
use Rattle.buddy_rules.specs.Levels.{Ops, side_in}

module _ (O : Ops) where
  abbrev pub entries : (ℕ → O.Lv) → ℕ → ℕ → Ent
  entries W i p = O.ent (W i) p

  abbrev pub put : (ℕ → O.Lv) → ℕ → O.Lv → ℕ → O.Lv
  put W i v j = cond (eqb j i) v (W j)

  -- whether the node is free now, and the levels
  pub record Out : Type 0 where
    pub freed : Bool
    pub levels : ℕ → O.Lv

  abbrev pub out : Bool → (ℕ → O.Lv) → Out
  out b W = record { freed = b; levels = W }

  -- side s of pair q of level l was given back: its twin is free and the pair goes, or it is ready
  abbrev pub settle : ℕ → ℕ → Side → Bool → (ℕ → O.Lv) → Out
  settle l q s false W = out false W
  settle l q s true W = cond (eqb (word (other s) (O.ent (W l) q)) free_word) (out true (put W l (O.drop (W l) q))) (out false (put W l (O.back (W l) q s)))

  abbrev pub settled : ℕ → ℕ → Side → Out → Out
  settled l q s r = settle l q s r.freed r.levels

  -- 01: "When its twin is ready, the pair goes, .. and the return goes on one level up; above the top the chunk is
  -- released": node n of level l was given back, with at most f levels to climb
  unfoldable pub climb : (ℕ → O.Lv) → ℕ → ℕ → ℕ → Out
  climb W zero l n = out true W
  climb W (suc f) l n =
      cond (eqb n nowhere) (out true W)
      (cond (eqb (word (other (side_in n)) (O.ent (W l) (pair_of n))) free_word)
      (climb (put W l (O.drop (W l) (pair_of n))) f (suc l) (O.ent (W l) (pair_of n)).up)
      (out false (put W l (O.back (W l) (pair_of n) (side_in n)))))

module _ (u : ℕ) (O : Ops) where
  -- the block at x, below the node of level l at o, whose word is w
  unfoldable pub give : (ℕ → O.Lv) → ℕ → ℕ → ℕ → ℕ → Out O
  give W zero w o x = out O true W
  give W (suc l) w o x =
      cond (says_loan w) (out O true W)
      (cond (ltb x (o + bytes u l))
      (settled O l (pair_said w) L (give W l (O.ent (W l) (pair_said w)).left o x))
      (settled O l (pair_said w) R (give W l (O.ent (W l) (pair_said w)).right (o + bytes u l) x)))
