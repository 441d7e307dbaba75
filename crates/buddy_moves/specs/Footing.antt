-- That a node can climb as far up as is asked: at each level on the way the pairs whose words it touches are there.
use Rattle.std.specs.Prelude.{◌≡◌, List, ℕ, zero, suc}
use Rattle.slabs.specs.Slab.{nowhere}
use Rattle.buddy_rules.specs.Nodes.{free_word, pair_of, other, word}
use Rattle.buddy_rules.specs.Level.{ent_of, dropped, level_start}
use Rattle.buddy_rules.specs.Moves.{side_in}
use Rattle.buddy_levels.specs.Stands.{Stands, Leaves, Joins}

-- at node n of the level at b its pair stands; where the twin is free that pair can go, and above it is as A says; else it can
-- be ready
pub record Foot (b n : ℕ) (t : List ℕ) (A : Type 0) : Type 0 where
  pub own : Stands b (pair_of n) t
  pub goes : word (other (side_in n)) (ent_of b t (pair_of n)) ≡ free_word → Leaves b (pair_of n) t
  pub above : word (other (side_in n)) (ent_of b t (pair_of n)) ≡ free_word → A
  pub stays : (word (other (side_in n)) (ent_of b t (pair_of n)) ≡ free_word → ⊥) → Joins b (pair_of n) t

module _ (pairs : ℕ) where
  -- f levels up from node n of level l, or to the chunk's top
  unfoldable pub Footing : ℕ → ℕ → ℕ → List ℕ → Type 0
  Footing zero l n t = Unit {0}
  Footing (suc f) l n t =
      (n ≡ nowhere → ⊥)
      → Foot (level_start pairs l) n t (Footing f (suc l) (ent_of (level_start pairs l) t (pair_of n)).up (dropped (level_start pairs l) (pair_of n) t))
