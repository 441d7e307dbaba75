-- A level's ring when one pair leaves it or joins it and has its tag changed: the ring still has the ready pairs, and no
-- others.
use mathlib.Core.Path.{◌≡◌, refl, ap}
use mathlib.Core.Logic.{◌⊎◌, inl, inr, ⊎_elim}
use mathlib.Core.List.{List, [], ◌∷◌, ◌++◌}
use Prim.Native.Nat.{ℕ, ◌+◌, ◌^◌, ◌≤◌, ◌<◌}
use native.Mathlib.Omega.{arith}
use lib.ListN.{length, get_or}
use Rattle.lists.specs.Members.{Mem, NotIn, Below, head_or}
use Rattle.lists.proofs.Bools.{same?, lt_or_le}
use Rattle.lists.proofs.Members.{
  not_mem,
  mem_not,
  mem_left,
  mem_right,
  mem_cases,
  mem_swap,
  below_mem,
  split,
  mem_left_over,
  mem_of_left,
  distinct_out,
}
use Rattle.slabs.specs.Slab.{nowhere, place_of, link_at, Parted}
use Rattle.ring_rules.specs.Ring.{RingOf}
use Rattle.ring_rules.proofs.Keeps.{ring_frame}
use Rattle.ring_rules.proofs.Linking.{unlinked_member, linked_ring}
use Rattle.buddy_rules.specs.Level.{ring_at, used_at, pair_words, next_at, prev_at, level_words, field_at, pair_cell, ent_of, pair_in, ring_head, slab_in, leaves, joins, vacant_in, vacant_after, Good}
use Rattle.buddy_rules.proofs.Cells.{links_apart, pair_used, tagged_used}

-- what Good says of the ring
pub record Readies (b : ℕ) (t : List ℕ) : Type 0 where
  pub ring : List ℕ
  pub rings : RingOf (b + ring_at) (field_at b next_at) (field_at b prev_at) pair_words t ring
  pub below : (p : ℕ) → Mem p ring → p < get_or t (b + used_at) 0
  pub ready : (p : ℕ) → Mem p ring → 1 < (ent_of b t p).tag
  pub all : (p : ℕ) → p < get_or t (b + used_at) 0 → 1 < (ent_of b t p).tag → Mem p ring

pub good_both : (b pairs : ℕ) (t : List ℕ) → Readies b t → Parted (vacant_in b t) (vacant_after b t) (slab_in b t) pairs → Good b pairs t
good_both b pairs t r P = record {
  ring = r.ring;
  rings = r.rings;
  below = r.below;
  ready = r.ready;
  all = r.all;
  parted = P;
}

-- two tables have the same head and links
abbrev pub SameLinks : ℕ → List ℕ → List ℕ → Type 0
SameLinks b t t' =
    (get_or t' (b + ring_at) 0 ≡ get_or t (b + ring_at) 0)
    × ((x : ℕ) → (get_or t' (pair_cell b next_at x) 0 ≡ get_or t (pair_cell b next_at x) 0) × (get_or t' (pair_cell b prev_at x) 0 ≡ get_or t (pair_cell b prev_at x) 0))

-- so the links lead to the same places
pub same_led : (b : ℕ) (t t' : List ℕ) → SameLinks b t t' → (x : ℕ) → (link_at t' (field_at b next_at) pair_words x ≡ link_at t (field_at b next_at) pair_words x) × (link_at t' (field_at b prev_at) pair_words x ≡ link_at t (field_at b prev_at) pair_words x)
same_led b t t' same x = (ap place_of (same.1 x).0, ap place_of (same.1 x).1)

module _ (b pairs : ℕ) (t : List ℕ) (G : Good b pairs t) where
  -- a pair ever used is one of the level's
  pub used_below : (p : ℕ) → p < get_or t (b + used_at) 0 → p < pairs
  used_below p h = omega (arith, G.parted.limit)

  pub ring_below : Below pairs G.ring
  ring_below = below_mem pairs G.ring (λ x m. used_below x (G.below x m))

  -- a ready pair stands in the ring
  pub ready_mem : (p : ℕ) → 1 < (pair_in b t p).tag → Mem p G.ring
  ready_mem p h =
      let k : p < get_or t (b + used_at) 0 = tagged_used b t p (omega arith) in
      G.all p k (rw (pair_used b t p k) at h)

  -- an exhausted one does not
  pub exhausted_out : (p : ℕ) → (ent_of b t p).tag ≤ 1 → NotIn p G.ring
  exhausted_out p h = mem_not p G.ring (λ m. omega (arith, G.ready p m))

  -- the head of a ring is one of its places
  pub head_mem : (ring_head b t ≡ nowhere → ⊥) → Mem (ring_head b t) G.ring
  head_mem some = by G.ring G.rings.first
    where
      by : (R : List ℕ) → ring_head b t ≡ head_or nowhere R → Mem (ring_head b t) R
      by [] e = absurd (some e)
      by (x ∷ l) e = inl e

  module _ (few : pairs ≤ 2 ^ 32) where
    -- a ring that has a place has a head
    pub mem_head : (p : ℕ) → Mem p G.ring → ring_head b t ≡ nowhere → ⊥
    mem_head p m e = by G.ring G.rings.first m (λ x i. used_below x (G.below x i))
      where
        by : (R : List ℕ) → ring_head b t ≡ head_or nowhere R → Mem p R → ((x : ℕ) → Mem x R → x < pairs) → ⊥
        by [] f m k = m
        by (x ∷ l) f m k = omega (arith, k x (inl refl))

    pub no_head : ring_head b t ≡ nowhere → (p : ℕ) → p < get_or t (b + used_at) 0 → (ent_of b t p).tag ≤ 1
    no_head e p h = ⊎_elim (λ k. k) (λ k. absurd (mem_head p (G.all p h k) e)) (small (ent_of b t p).tag)
      where
        small : (n : ℕ) → (n ≤ 1) ⊎ (1 < n)
        small n = ⊎_elim (λ h. inr h) (λ h. inl h) (lt_or_le 1 n)

    module _ (fits : b + level_words pairs ≤ length t) (p : ℕ) (t' : List ℕ) (e : get_or t' (b + used_at) 0 ≡ get_or t (b + used_at) 0) (other : (x : ℕ) → (x ≡ p → ⊥) → (ent_of b t' x).tag ≡ (ent_of b t x).tag) where
      -- p leaves, and is ready no more
      pub left_ring : Mem p G.ring → SameLinks b (leaves b p t) t' → (ent_of b t' p).tag ≤ 1 → Readies b t'
      left_ring m same low =
          let s = split p G.ring m in
          let d = rw s.is at G.rings.ring.distinct in
          let out : (x : ℕ) → Mem x (s.b ++ s.a) → x ≡ p → ⊥ = λ x i q. distinct_out p s.a s.b d (mem_swap p s.b s.a (rw q at i)) in
          let was : (x : ℕ) → Mem x (s.b ++ s.a) → Mem x G.ring = λ x i. rw s.is (mem_of_left p x s.a s.b (mem_swap x s.b s.a i)) in
          record {
            ring = s.b ++ s.a;
            rings =
                ring_frame (b + ring_at) (field_at b next_at) (field_at b prev_at) pair_words (leaves b p t) t' (s.b ++ s.a) same.0 (λ x i. same_led b (leaves b p t) t' same x)
                (unlinked_member (b + ring_at) (field_at b next_at) (field_at b prev_at) pair_words pairs t (links_apart b pairs (length t) few fits) p G.ring m ring_below G.rings.ring);
            below = λ x i. rw e (G.below x (was x i));
            ready = λ x i. rw (other x (out x i)) (G.ready x (was x i));
            all = λ x h k.
                let ne : (x ≡ p → ⊥) = λ q. omega (arith, ap (λ y. (ent_of b t' y).tag) q) in
                let i : Mem x G.ring = G.all x (rw e at h) (rw (other x ne) at k) in
                mem_swap x s.a s.b (mem_left_over p x s.a s.b ne (rw s.is at i));
          }

      -- p joins, and is ready
      pub joined_ring : p < get_or t (b + used_at) 0 → (ent_of b t p).tag ≤ 1 → SameLinks b (joins b p t) t' → 1 < (ent_of b t' p).tag → Readies b t'
      joined_ring u low same high =
          let o : NotIn p G.ring = exhausted_out p low in
          record {
            ring = G.ring ++ (p ∷ []);
            rings =
                ring_frame (b + ring_at) (field_at b next_at) (field_at b prev_at) pair_words (joins b p t) t' (G.ring ++ (p ∷ [])) same.0 (λ x i. same_led b (joins b p t) t' same x)
                (linked_ring (b + ring_at) (field_at b next_at) (field_at b prev_at) pair_words pairs t (links_apart b pairs (length t) few fits) p G.ring (used_below p u) o ring_below G.rings);
            below = λ x i. rw e (⊎_elim (G.below x) (⊎_elim (λ q. rw q u) (λ k. absurd k)) (mem_cases x G.ring (p ∷ []) i));
            ready = λ x i. ⊎_elim
                (λ k. rw (other x (λ q. not_mem p G.ring o (rw q at k))) (G.ready x k))
                (⊎_elim (λ q. rw q high) (λ k. absurd k))
                (mem_cases x G.ring (p ∷ []) i);
            all = λ x h k. ⊎_elim
                (λ q. mem_right x G.ring (p ∷ []) (inl q))
                (λ ne. mem_left x G.ring (p ∷ []) (G.all x (rw e at h) (rw (other x ne) at k)))
                (same? x p);
          }
