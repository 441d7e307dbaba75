-- A block taken back leaves the tables as they are defined.
use mathlib.Core.Path.{◌≡◌, refl, sym, ap, ◌∙◌}
use mathlib.Core.Bool.{Bool, true, false, cond}
use mathlib.Core.List.{List, []}
use Prim.Native.Nat.{ℕ, ◌+◌, ◌-◌}
use lib.ListN.{get_or, set}
use Rattle.words.specs.Words.{cell_of}
use Rattle.rounding_rules.specs.Raising.{level_of}
use Rattle.counter.specs.Limits.{levels_most}
use Rattle.counter.specs.declared.answers.Block.{Block}
use Rattle.counter.specs.declared.settings.BuddySettings.{BuddySettings}
use Rattle.slabs.specs.Slab.{record_of}
use Rattle.book_rules.specs.Book.{led_to, struck, struck_index}
use Rattle.buddy_rules.specs.Level.{level_start}
use Rattle.buddy_rules.specs.Tables.{Tables, tables, levels_at, chunk_words, chunk_size_at, after_at, place_words, nodes_from}
use Rattle.buddy_rules.specs.Moves.{Climbed, climbed}
use Rattle.buddy_moves.specs.Footing.{Footing}
use Rattle.buddy_outcomes.specs.Return.{climb_for, vacated_tree, given_tables}

-- a chunk's place vacated
pub vacated_done : (s : BuddySettings) (c at last r : ℕ) (tree t₁ t' : List ℕ) → at ≡ level_start s.pairs levels_most → last ≡ get_or tree at 0
    → t₁ ≡ set tree (cell_of (at + (place_words + after_at)) place_words c) last → r ≡ record_of c → t' ≡ set t₁ at r → t' ≡ vacated_tree s c tree
unfolding vacated_tree
vacated_done s c at last r tree t₁ t' e f g k h =
    h
    ∙ ap (λ (t : List ℕ). set t at r) g
    ∙ (λ j. set (set tree (cell_of (at + (place_words + after_at)) place_words c) (f j)) at (k j))
    ∙ (λ j. set (set tree (cell_of (e j + (place_words + after_at)) place_words c) (get_or tree (e j) 0)) (e j) (record_of c))

module _ (s : BuddySettings) (b : Block) (w : ℕ) (head index tree : List ℕ) (levels level k at node : ℕ) (top : levels ≡ get_or head levels_at 0) (low : level ≡ level_of b.size s.minimal) (leads : k ≡ led_to index w) (beside : at ≡ nodes_from s + (k + 1)) (reads : node ≡ get_or index at 0) where
  node_is : node ≡ get_or index (nodes_from s + (led_to index w + 1)) 0
  node_is = reads ∙ ap (λ (i : ℕ). get_or index i 0) beside ∙ ap (λ (x : ℕ). get_or index (nodes_from s + (x + 1)) 0) leads

  -- the climb from the node that was read
  pub climb_is : climbed s.pairs (levels - level) level node tree ≡ climb_for s b w (tables head [] [] index tree)
  climb_is = λ j. climbed s.pairs (top j - low j) (low j) (node_is j) tree

  -- its way up
  pub climb_foot : Footing s.pairs (get_or head levels_at 0 - level_of b.size s.minimal) (level_of b.size s.minimal) (get_or index (nodes_from s + (led_to index w + 1)) 0) tree
      → Footing s.pairs (levels - level) level node tree
  climb_foot h = rw (top, low, node_is) h

-- the tables when the block is taken back, by what the climb came to
module _ (s : BuddySettings) (b : Block) (w : ℕ) (head loans chunks index tree t₁ : List ℕ) (freed : Bool) where
  abbrev Climb : Climbed
  Climb = climb_for s b w (tables head [] [] index tree)

  module _ (out : freed ≡ Climb.freed) (rose : t₁ ≡ Climb.room) where
    abbrev after : Climbed → Tables
    after x =
        tables head (struck w index loans)
        (cond x.freed (set chunks (cell_of chunk_size_at chunk_words b.chunk) 0) chunks)
        (struck_index w index)
        (cond x.freed (vacated_tree s b.chunk x.room) x.room)

    -- the block's chunk gone or not, as a climb so says
    by : (f : Bool) → freed ≡ f → (l' c' i' t' : List ℕ)
        → c' ≡ cond f (set chunks (cell_of chunk_size_at chunk_words b.chunk) 0) chunks → t' ≡ cond f (vacated_tree s b.chunk t₁) t₁
        → l' ≡ struck w index loans → i' ≡ struck_index w index → tables head l' c' i' t' ≡ given_tables s b w (tables head loans chunks index tree)
    unfolding given_tables
    by f e l' c' i' t' c t l i =
        let o : f ≡ Climb.freed = sym e ∙ out in
        (λ j. tables head (l j) (c j) (i j) (t j)) ∙ (λ j. after (record { freed = o j; room = rose j }))

    pub given_freed : freed ≡ true → (l' c' i' t' : List ℕ) → c' ≡ set chunks (cell_of chunk_size_at chunk_words b.chunk) 0 → t' ≡ vacated_tree s b.chunk t₁
        → l' ≡ struck w index loans → i' ≡ struck_index w index → tables head l' c' i' t' ≡ given_tables s b w (tables head loans chunks index tree)
    given_freed e = by true e

    pub given_kept : freed ≡ false → (l' i' : List ℕ) → l' ≡ struck w index loans → i' ≡ struck_index w index
        → tables head l' chunks i' t₁ ≡ given_tables s b w (tables head loans chunks index tree)
    given_kept e l' i' = by false e l' chunks i' t₁ refl refl
