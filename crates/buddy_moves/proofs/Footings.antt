-- A node can climb where each level on the way was good before the first step: a pair that goes takes words of its own level alone.
use mathlib.Core.Path.{◌≡◌, sym, ap, ◌∙◌, subst}
use mathlib.Core.Logic.{◌⊎◌, inl, inr}
use mathlib.Core.List.{List}
use Prim.Native.Nat.{ℕ, zero, suc, ◌+◌, ◌/◌, ◌^◌, ◌≤◌, ◌<◌}
use native.Mathlib.Omega.{arith}
use lib.ListN.{length, get_or}
use Rattle.counter.specs.Limits.{levels_most}
use Rattle.counter.specs.declared.settings.BuddySettings.{BuddySettings}
use Rattle.slabs.specs.Slab.{nowhere}
use Rattle.buddy_rules.specs.Nodes.{Ent, other, word}
use Rattle.buddy_rules.specs.Level.{used_at, level_words, ent_of, pair_in, dropped, Good, part}
use Rattle.buddy_rules.specs.Moves.{side_in}
use Rattle.buddy_rules.specs.Returns.{entries}
use Rattle.buddy_rules.specs.Tables.{level_from, chunks_from}
use Rattle.buddy_rules.proofs.Abstract.{levels_in_lem}
use Rattle.buddy_rules.proofs.Cells.{pair_used, tagged_used}
use Rattle.buddy_rules.proofs.Climbing.{Step, Path}
use Rattle.buddy_rules.proofs.Ops.{level_ops}
use Rattle.buddy_rules.proofs.Parts.{part_pair, part_good, part_dropped}
use Rattle.buddy_rules.proofs.Rings.{ready_mem}
use Rattle.buddy_levels.proofs.Standing.{used_stands, member_leaves, used_joins}
use Rattle.buddy_moves.specs.Footing.{Foot, Footing}

-- in any tree with the words of the levels above
module _ (s : BuddySettings) (small : s.pairs ≤ 2 ^ 32) (tree : List ℕ) where
  abbrev Over : ℕ → ℕ → Ent
  Over = entries (level_ops s.pairs small) (λ (i : ℕ). part s.pairs i tree)

  -- a level with the same words
  module _ (l n : ℕ) (t : List ℕ) (same : part s.pairs l t ≡ part s.pairs l tree) (good : Good (level_from s l) s.pairs tree) where
    good_too : Good (level_from s l) s.pairs t
    good_too = (part_good s.pairs l t).1 (rw same ((part_good s.pairs l tree).0 good))

    pair_too : pair_in (level_from s l) t (n / 2) ≡ Over l (n / 2)
    pair_too = part_pair s.pairs l t (n / 2) good_too.parted.limit ∙ ap (λ (v : List ℕ). pair_in 0 v (n / 2)) same

    module _ (some : 0 < (Over l (n / 2)).tag) where
      used : n / 2 < get_or t (level_from s l + used_at) 0
      used = tagged_used (level_from s l) t (n / 2) (rw pair_too some)

      ent_too : ent_of (level_from s l) t (n / 2) ≡ Over l (n / 2)
      ent_too = sym (pair_used (level_from s l) t (n / 2) used) ∙ pair_too

  level_long : (l : ℕ) (t : List ℕ) → l < levels_most → chunks_from s ≤ length t → level_from s l + level_words s.pairs ≤ length t
  level_long l t low long = omega (arith, levels_in_lem s l low)

  -- the climbs from level l on
  abbrev Rest : ℕ → ℕ → Type 0
  Rest f l =
      (n : ℕ) (t : List ℕ) → l + f ≤ levels_most → chunks_from s ≤ length t
      → ((i : ℕ) → l ≤ i → i < l + f → part s.pairs i t ≡ part s.pairs i tree)
      → ((i : ℕ) → l ≤ i → i < l + f → Good (level_from s i) s.pairs tree) → Path Over f l n → Footing s.pairs f l n t

  pub footing : (f l : ℕ) → Rest f l
  unfolding Footing
  footing zero l n t h long a g p = tt
  footing (suc f) l n t h long a g p = λ o. by (footing f (suc l)) o p
    where
      same : part s.pairs l t ≡ part s.pairs l tree
      same = a l (omega arith) (omega arith)

      good : Good (level_from s l) s.pairs t
      good = good_too l n t same (g l (omega arith) (omega arith))

      fits : level_from s l + level_words s.pairs ≤ length t
      fits = level_long l t (omega arith) long

      by : Rest f (suc l) → (n ≡ nowhere → ⊥) → (n ≡ nowhere) ⊎ Step Over l n (Path Over f (suc l) (Over l (n / 2)).up)
          → Foot (level_from s l) n t (Footing s.pairs f (suc l) (ent_of (level_from s l) t (n / 2)).up (dropped (level_from s l) (n / 2) t))
      by rest o (inl e) = absurd (o e)
      by rest o (inr z) =
          let at : Good (level_from s l) s.pairs tree = g l (omega arith) (omega arith) in
          let e = ent_too l n t same at z.used in
          let w : word (other (side_in n)) (ent_of (level_from s l) t (n / 2)) ≡ word (other (side_in n)) (Over l (n / 2)) = ap (word (other (side_in n))) e in
          let k = used l n t same at z.used in
          let ready : word (other (side_in n)) (ent_of (level_from s l) t (n / 2)) ≡ 0 → 1 < (pair_in (level_from s l) t (n / 2)).tag = λ y. rw (pair_too l n t same at) (z.ready (sym w ∙ y)) in
          record {
            own = used_stands (level_from s l) s.pairs t good fits (n / 2) k;
            goes = λ y. member_leaves (level_from s l) s.pairs t good fits (n / 2) (ready_mem (level_from s l) s.pairs t good (n / 2) (ready y));
            above = λ y.
                let D = part_dropped s.pairs l t good (n / 2) (ready y) in
                rest (ent_of (level_from s l) t (n / 2)).up (dropped (level_from s l) (n / 2) t) (omega arith) (omega (arith, D.long))
                (λ i j b. D.others i (λ x. omega arith) ∙ a i (omega arith) (omega arith))
                (λ i j b. g i (omega arith) (omega arith)) (subst (λ (x : Ent). Path Over f (suc l) x.up) (sym e) z.above);
            stays = λ y. used_joins (level_from s l) s.pairs t good fits (n / 2) k;
          }
