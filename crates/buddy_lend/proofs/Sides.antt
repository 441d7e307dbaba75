-- The ready side of a level's head pair taken, and split down to the asked level.
use mathlib.Core.Path.{◌≡◌, sym, ap, subst, ◌∙◌}
use mathlib.Core.List.{List}
use Prim.Native.Nat.{ℕ, ◌-◌, ◌<◌}
use native.Mathlib.Omega.{arith}
use lib.ListN.{get_or, set}
use Rattle.buddy_rules.specs.Nodes.{free_word, loan_word, Side, node_of, pair_of}
use Rattle.buddy_rules.specs.Levels.{side_of}
use Rattle.buddy_rules.proofs.Climbs.{node_pair, node_side}
use Rattle.buddy_rules.specs.Level.{tag_at, side_at, pair_cell, ring_head, acquired, level_start}
use Rattle.buddy_rules.specs.Moves.{Cut, ready_node, split_down}
use Rattle.buddy_rules.proofs.Worded.{acquired_again}
use Rattle.buddy_moves.specs.Roomy.{Roomy}
use Rattle.buddy_moves.proofs.Moved.{split_done}

module _ (pairs i : ℕ) (tree : List ℕ) where
  abbrev Base : ℕ
  Base = level_start pairs i

  abbrev Head : ℕ
  Head = ring_head Base tree

  abbrev Ready : Side
  Ready = side_of (get_or tree (pair_cell Base tag_at Head) 0)

  -- the ready side, as a node
  module _ (h : ℕ) (s : Side) (ring : h ≡ Head) (side : s ≡ side_of (get_or tree (pair_cell Base tag_at h) 0)) where
    pub node_is : (n : ℕ) → n ≡ node_of h s → n ≡ ready_node pairs i tree
    node_is n q = q ∙ ap (node_of h) side ∙ (λ j. node_of (ring j) (side_of (get_or tree (pair_cell Base tag_at (ring j)) 0)))

  module _ (lev c o k n b : ℕ) (ready : n ≡ ready_node pairs i tree) (at : b ≡ Base) where
    -- a node of the head pair
    pub node_low : Head < pairs → pair_of n < pairs
    node_low h = let q : pair_of n ≡ Head = ap (λ (x : ℕ). pair_of x) ready ∙ node_pair Head Ready in rw q h

    abbrev cut_from : ℕ → List ℕ → Cut
    cut_from m t = split_down pairs lev c o k m (i - lev) t

    -- of the asked level itself: the word of the loan is written at once
    pub took_whole : (w : ℕ) (t' : List ℕ) → i ≡ lev → w ≡ loan_word k → t' ≡ acquired b w tree → cut_from (ready_node pairs i tree) (acquired Base free_word tree) ≡ record { node = n; room = t' }
    took_whole w t' same said took =
        let v : t' ≡ set (acquired Base free_word tree) (pair_cell Base (side_at Ready) Head) w = took ∙ ap (λ (x : ℕ). acquired x w tree) at ∙ sym (acquired_again Base w tree) in
        let e = node_side Head Ready in
        let f = node_pair Head Ready in
        split_done pairs lev c o k (ready_node pairs i tree) (acquired Base free_word tree) (i - lev) (omega (arith, same)) Base (ap (level_start pairs) same) w said t'
        (v ∙ (λ j. set (acquired Base free_word tree) (pair_cell Base (side_at (sym e j)) (sym f j)) w))
        ∙ (λ j. record { node = sym ready j; room = t' })

    -- of a level above: it is split down
    module _ (t₁ : List ℕ) (took : t₁ ≡ acquired b free_word tree) where
      took_is : t₁ ≡ acquired Base free_word tree
      took_is = took ∙ ap (λ (x : ℕ). acquired x free_word tree) at

      abbrev RoomyFrom : ℕ → List ℕ → Type 0
      RoomyFrom m t = Roomy pairs lev c o m (i - lev) t

      pub still_roomy : RoomyFrom (ready_node pairs i tree) (acquired Base free_word tree) → RoomyFrom n t₁
      still_roomy r = subst (RoomyFrom n) (sym took_is) (subst (λ (m : ℕ). RoomyFrom m (acquired Base free_word tree)) (sym ready) r)

      pub took_split : cut_from n t₁ ≡ cut_from (ready_node pairs i tree) (acquired Base free_word tree)
      took_split = λ j. cut_from (ready j) (took_is j)
