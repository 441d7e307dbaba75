-- A node can be split down where each level on the way had a place for a pair before the first split: a split writes words of its
-- pair's level and of the level above alone.
use mathlib.Core.Path.{◌≡◌, sym, ap, ◌∙◌}
use mathlib.Core.Logic.{inl}
use mathlib.Core.List.{List}
use Prim.Native.Nat.{ℕ, zero, suc, ◌≤◌, ◌<◌}
use native.Mathlib.Omega.{arith}
use Rattle.counter.specs.Limits.{levels_most}
use Rattle.counter.specs.declared.settings.BuddySettings.{BuddySettings}
use Rattle.slabs.specs.declared.Taken.{Taken}
use Rattle.buddy_trees.specs.Trees.{up}
use Rattle.buddy_trees.proofs.Bytes.{up_le}
use Rattle.buddy_rules.specs.Nodes.{free_word, split_word, L, node_of, pair_of}
use Rattle.buddy_rules.proofs.Climbs.{node_pair}
use Rattle.buddy_rules.specs.Level.{pair_taken, added, Good, part}
use Rattle.buddy_rules.proofs.Parts.{part_good, part_taken, part_added}
use Rattle.buddy_rules.specs.Tables.{level_from}
use Rattle.buddy_rules.specs.Moves.{worded}
use Rattle.buddy_rules.proofs.Worded.{Short, Fits, within_left, worded_left}
use Rattle.buddy_moves.specs.Roomy.{Roomy}

module _ (s : BuddySettings) (tree : List ℕ) where
  -- ---- a level with the same words

  module _ (m : ℕ) (t : List ℕ) (same : part s.pairs m t ≡ part s.pairs m tree) (good : Good (level_from s m) s.pairs tree) where
    good_too : Good (level_from s m) s.pairs t
    good_too = (part_good s.pairs m t).1 (rw same ((part_good s.pairs m tree).0 good))

    taken_too : (pair_taken (level_from s m) t).place ≡ (pair_taken (level_from s m) tree).place
    taken_too =
        ap (λ (z : Taken). z.place) (part_taken s.pairs m t good_too)
        ∙ ap (λ (v : List ℕ). (pair_taken 0 v).place) same
        ∙ sym (ap (λ (z : Taken). z.place) (part_taken s.pairs m tree good))

  -- ---- down to level lev, in any tree with the words of the levels below

  module _ (lev c o : ℕ) where
    pub roomy : (d n : ℕ) (t : List ℕ) → up d lev ≤ levels_most → Fits s (up d lev) n → Short s t
        → ((i : ℕ) → lev ≤ i → i < up d lev → part s.pairs i t ≡ part s.pairs i tree)
        → ((i : ℕ) → lev ≤ i → i < up d lev → Good (level_from s i) s.pairs tree)
        → ((i : ℕ) → lev ≤ i → i < up d lev → (pair_taken (level_from s i) tree).place < s.pairs) → Roomy s.pairs lev c o n d t
    unfolding Roomy
    roomy zero n t high f h a g room = tt
    roomy (suc d) n t high f h a g room =
        let m = up d lev in
        let low : m < levels_most = omega arith in
        let am = a m (up_le d lev) (omega arith) in
        let gm = g m (up_le d lev) (omega arith) in
        let q = (pair_taken (level_from s m) t).place in
        let e : q ≡ (pair_taken (level_from s m) tree).place = taken_too m t am gm in
        let r : q < s.pairs = rw e (room m (up_le d lev) (omega arith)) in
        let t₁ : List ℕ = added (level_from s m) c o n free_word t in
        let D = within_left s m t t₁ _ low (part_added s.pairs m t (good_too m t am gm) c o n free_word r) in
        let B = worded_left s (suc m) n (split_word q) t₁ f (omega (arith, D.long)) in
        let k : pair_of (node_of q L) < s.pairs = rw (node_pair q L) r in (
          r,
          roomy d (node_of q L) (worded s.pairs (suc m) n (split_word q) t₁) (omega arith) (inl (low, k)) (omega (arith, B.long, D.long))
              (λ i j b. B.others i (λ x. omega arith) ∙ D.others i (λ x. omega arith) ∙ a i j (omega arith))
              (λ i j b. g i j (omega arith)) (λ i j b. room i j (omega arith)),
        )
