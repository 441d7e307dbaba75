-- What is done to a level, by the order of its ring: the head taken leaves the tail, a pair that joins stands last, one that goes
-- leaves the rest from the one after it on, a new one stands alone.
use mathlib.Core.Path.{◌≡◌, refl, sym, ap, ap₂, ◌∙◌, subst}
use mathlib.Core.Logic.{⊎_elim}
use mathlib.Core.List.{List, [], ◌∷◌, ◌++◌}
use Prim.Native.Nat.{ℕ, ◌+◌, ◌*◌, ◌^◌, ◌≤◌, ◌<◌}
use native.Mathlib.Omega.{arith}
use lib.ListN.{length, get_or}
use borrow.Author.Tests.{eq-eqb, ne_eqb}
use Rattle.lists.specs.Members.{Mem, NotIn}
use Rattle.lists.proofs.Members.{mem_below, below_mem, mem_swap, mem_cases, mem_of_left, mem_left, mem_not, split, distinct_out}
use Rattle.slabs.specs.Slab.{nowhere, place_of}
use Rattle.ring_rules.specs.Ring.{next, prev, Run, RingOf}
use Rattle.ring_rules.proofs.Rings.{ring_same}
use Rattle.ring_rules.proofs.Keeps.{ring_frame}
use Rattle.ring_rules.proofs.Linking.{unlinked_first, unlinked_ring, linked_ring}
use Rattle.buddy_rules.specs.Nodes.{Side}
use Rattle.buddy_rules.specs.Levels.{side_of}
use Rattle.buddy_rules.specs.Level.{ring_at, used_at, next_at, prev_at, pair_words, header_words, level_words, ready_tag, field_at, pair_cell, ent_of, pair_in, ring_head, pair_taken, leaves, joins, dropped, backed, acquired, added, Good, part, level_start}
use Rattle.buddy_rules.specs.Ringed.{Ringed, before_in, past_in, out_of, tail_of}
use Rattle.buddy_rules.proofs.Stores.{puts}
use Rattle.buddy_rules.proofs.Rows.{tag_row, acquired_puts, backed_puts}
use Rattle.buddy_rules.proofs.Cells.{leaves_off, leaves_length, joins_off, joins_length, links_apart, pair_used, tagged_used}
use Rattle.buddy_rules.proofs.Rings.{SameLinks, same_led, used_below, ring_below, ready_mem, exhausted_out}
use Rattle.buddy_rules.proofs.Stored as Sides
use Rattle.buddy_rules.proofs.Dropped as Dropped
use Rattle.buddy_rules.proofs.Added.{added_alone}
use Rattle.buddy_rules.proofs.Parts.{part_word}

-- ---- a ring has one order

-- from c on to x, by next, there is one way
run_one : (f g : ℕ → ℕ) (x c d : ℕ) (l m : List ℕ) → c ≡ d → Run f g c (l ++ (x ∷ [])) → Run f g d (m ++ (x ∷ [])) → NotIn x l → NotIn x m → l ≡ m
run_one f g x c d [] [] e r q a b = refl
run_one f g x c d [] (y ∷ m) e r q a b = absurd (b.0 (sym r.0.0 ∙ ap f e ∙ q.0.0))
run_one f g x c d (y ∷ l) [] e r q a b = absurd (a.0 (sym q.0.0 ∙ ap f (sym e) ∙ r.0.0))
run_one f g x c d (y ∷ l) (z ∷ m) e r q a b =
    let h : y ≡ z = sym r.0.0 ∙ ap f e ∙ q.0.0 in
    ap₂ (λ (k : ℕ) (n : List ℕ). k ∷ n) h (run_one f g x y z l m h r.1 q.1 a.1 b.1)

pub ringed_one : (b pairs : ℕ) (t R Q : List ℕ) → pairs ≤ 2 ^ 32 → Ringed b pairs t R → Ringed b pairs t Q → R ≡ Q
ringed_one b pairs t [] [] few r q = refl
ringed_one b pairs t [] (y ∷ m) few r q = absurd (omega (arith, sym r.rings.first ∙ q.rings.first, q.below.0))
ringed_one b pairs t (x ∷ l) [] few r q = absurd (omega (arith, sym r.rings.first ∙ q.rings.first, r.below.0))
ringed_one b pairs t (x ∷ l) (y ∷ m) few r q =
    let e : x ≡ y = sym r.rings.first ∙ q.rings.first in
    let n : NotIn x m = subst (λ (k : ℕ). NotIn k m) (sym e) q.rings.ring.distinct.0 in
    let f = next (b + ring_at) (field_at b next_at) (field_at b prev_at) pair_words t in
    let g = prev (b + ring_at) (field_at b next_at) (field_at b prev_at) pair_words t in
    let c = subst (λ (k : ℕ). Run f g k (m ++ (k ∷ []))) (sym e) q.rings.ring.closed in
    ap₂ (λ (k : ℕ) (n : List ℕ). k ∷ n) e (run_one f g x x x l m refl r.rings.ring.closed c r.rings.ring.distinct.0 n)

-- a good level's ring is that of Good
pub good_ringed : (b pairs : ℕ) (t : List ℕ) (G : Good b pairs t) → Ringed b pairs t G.ring
good_ringed b pairs t G = record { rings = G.rings; below = ring_below b pairs t G }

-- ---- a pair out of its ring

pub out_of_lem : (p : ℕ) (a b : List ℕ) → NotIn p a → out_of p (a ++ (p ∷ b)) ≡ b ++ a
unfolding out_of past_in before_in
out_of_lem p a b n = ap₂ (λ (x y : List ℕ). x ++ y) (past a n) (front a n)
  where
    past : (a : List ℕ) → NotIn p a → past_in p (a ++ (p ∷ b)) ≡ b
    past [] n = rw (eq-eqb p p refl)
    past (x ∷ a) n = rw (ne_eqb x p (λ e. n.0 (sym e))) (past a n.1)

    front : (a : List ℕ) → NotIn p a → before_in p (a ++ (p ∷ b)) ≡ a
    front [] n = rw (eq-eqb p p refl)
    front (x ∷ a) n = rw (ne_eqb x p (λ e. n.0 (sym e))) (ap (λ (l : List ℕ). x ∷ l) (front a n.1))

-- ---- what is done

module _ (b pairs : ℕ) (t : List ℕ) (few : pairs ≤ 2 ^ 32) (fits : b + level_words pairs ≤ length t) (G : Good b pairs t) where
  -- "Acquire takes the head pair's ready side; the head becomes its next"
  pub acquired_ringed : (w p : ℕ) (R : List ℕ) → Ringed b pairs t (p ∷ R) → Ringed b pairs (acquired b w t) R
  acquired_ringed w p R r =
      let q = ring_head b t in
      let e : q ≡ p = r.rings.first in
      let s = side_of (ent_of b t q).tag in
      let u : List ℕ = leaves b q t in
      let same : SameLinks b u (puts u (tag_row b q 1 s w)) = Sides.links b q 1 s w t u (λ i o. leaves_off b q i t o) (leaves_length b q t) in
      let out : RingOf (b + ring_at) (field_at b next_at) (field_at b prev_at) pair_words u R =
      subst (λ (k : ℕ). RingOf (b + ring_at) (field_at b next_at) (field_at b prev_at) pair_words (leaves b k t) R) (sym e)
      (unlinked_first (b + ring_at) (field_at b next_at) (field_at b prev_at) pair_words pairs t (links_apart b pairs (length t) few fits) p R r.below r.rings.ring) in
      record {
        rings = rw (acquired_puts b w t) (ring_frame (b + ring_at) (field_at b next_at) (field_at b prev_at) pair_words u (puts u (tag_row b q 1 s w)) R same.0 (λ x i. same_led b u (puts u (tag_row b q 1 s w)) same x) out);
        below = r.below.1;
      }

  -- "the pair goes, the head becomes that pair's next even if it wasn't the head"
  pub dropped_ringed : (p : ℕ) (a c : List ℕ) → Ringed b pairs t (a ++ (p ∷ c)) → Ringed b pairs (dropped b p t) (c ++ a)
  dropped_ringed p a c r =
      let same = Dropped.links b p t in
      record {
        rings =
            ring_frame (b + ring_at) (field_at b next_at) (field_at b prev_at) pair_words (leaves b p t) (dropped b p t) (c ++ a) same.0 (λ x i. same_led b (leaves b p t) (dropped b p t) same x)
            (unlinked_ring (b + ring_at) (field_at b next_at) (field_at b prev_at) pair_words pairs t (links_apart b pairs (length t) few fits) p a c r.below r.rings.ring);
        below = below_mem pairs (c ++ a) (λ x m. mem_below pairs x (a ++ (p ∷ c)) r.below (mem_of_left p x a c (mem_swap x c a m)));
      }

  -- a ready pair goes
  pub dropped_out : (p : ℕ) (R : List ℕ) → 1 < (pair_in b t p).tag → Ringed b pairs t R → Ringed b pairs (dropped b p t) (out_of p R)
  dropped_out p R h r =
      let m : Mem p R = subst (Mem p) (ringed_one b pairs t G.ring R few (good_ringed b pairs t G) r) (ready_mem b pairs t G p h) in
      let z = split p R m in
      let q : Ringed b pairs t (z.a ++ (p ∷ z.b)) = subst (Ringed b pairs t) z.is r in
      let d : NotIn p z.a = mem_not p z.a (λ i. distinct_out p z.a z.b q.rings.ring.distinct (mem_left p z.a z.b i)) in
      subst (Ringed b pairs (dropped b p t)) (sym (out_of_lem p z.a z.b d) ∙ ap (out_of p) (sym z.is)) (dropped_ringed p z.a z.b q)

  -- the head's ready side is taken
  pub acquired_tail : (w : ℕ) (R : List ℕ) → (ring_head b t ≡ nowhere → ⊥) → Ringed b pairs t R → Ringed b pairs (acquired b w t) (tail_of R)
  unfolding tail_of
  acquired_tail w [] some r = absurd (some r.rings.first)
  acquired_tail w (p ∷ R) some r = acquired_ringed w p R r

  -- "A returned side of an exhausted pair joins the ring before the head, or as head if the ring is empty"
  pub backed_ringed : (p : ℕ) (s : Side) (R : List ℕ) → (pair_in b t p).tag ≡ 1 → Ringed b pairs t R → Ringed b pairs (backed b p s t) (R ++ (p ∷ []))
  backed_ringed p s R one r =
      let u : List ℕ = joins b p t in
      let same : SameLinks b u (puts u (tag_row b p (ready_tag s) s 0)) = Sides.links b p (ready_tag s) s 0 t u (λ i o. joins_off b p i t o) (joins_length b p t) in
      let k : p < get_or t (b + used_at) 0 = tagged_used b t p (omega arith) in
      let low : (ent_of b t p).tag ≡ 1 = rw (pair_used b t p k) at one in
      let out : NotIn p R = subst (NotIn p) (ringed_one b pairs t G.ring R few (good_ringed b pairs t G) r) (exhausted_out b pairs t G p (omega (arith, low))) in
      let n = used_below b pairs t G p k in
      record {
        rings = rw (backed_puts b p s t)
            (ring_frame (b + ring_at) (field_at b next_at) (field_at b prev_at) pair_words u (puts u (tag_row b p (ready_tag s) s 0)) (R ++ (p ∷ [])) same.0 (λ x i. same_led b u (puts u (tag_row b p (ready_tag s) s 0)) same x)
            (linked_ring (b + ring_at) (field_at b next_at) (field_at b prev_at) pair_words pairs t (links_apart b pairs (length t) few fits) p R n out r.below r.rings));
        below = below_mem pairs (R ++ (p ∷ [])) (λ x m. ⊎_elim (λ i. mem_below pairs x R r.below i) (⊎_elim (λ e. omega (arith, e, n)) (λ i. absurd i)) (mem_cases x R (p ∷ []) m));
      }

  -- a new pair is the whole ring
  pub added_ringed : (c o n w : ℕ) → (pair_taken b t).place < pairs → Ringed b pairs (added b c o n w t) ((pair_taken b t).place ∷ [])
  added_ringed c o n w room = record { rings = added_alone b c o n w t pairs few fits G room; below = (room, tt) }

-- ---- a level in a longer table and its words alone

ringed_as : (b b' pairs : ℕ) (t t' R : List ℕ) → ((i : ℕ) → i < level_words pairs → get_or t' (b' + i) 0 ≡ get_or t (b + i) 0) → Ringed b pairs t R → Ringed b' pairs t' R
ringed_as b b' pairs t t' R same r = record {
  rings = record {
    ring = ring_same _ _ _ _ R (λ x m. let k = mem_below pairs x R r.below m in (ap place_of (cell next_at x (omega arith) k), ap place_of (cell prev_at x (omega arith) k))) r.rings.ring;
    first = ap place_of (same ring_at (omega arith)) ∙ r.rings.first;
  };
  below = r.below;
}
  where
    cell : (f p : ℕ) → f < pair_words → p < pairs → get_or t' (pair_cell b' f p) 0 ≡ get_or t (pair_cell b f p) 0
    cell f p h k =
        ap (λ i. get_or t' i 0) (omega arith)
        ∙ same (header_words + f + pair_words * p) (omega arith)
        ∙ ap (λ i. get_or t i 0) (omega arith)

module _ (pairs l : ℕ) (t R : List ℕ) where
  pub part_ringed : Ringed (level_start pairs l) pairs t R → Ringed 0 pairs (part pairs l t) R
  part_ringed = ringed_as (level_start pairs l) 0 pairs t (part pairs l t) R (λ i h. ap (λ (k : ℕ). get_or (part pairs l t) k 0) (omega arith) ∙ part_word pairs l t i h)

  pub ringed_part : Ringed 0 pairs (part pairs l t) R → Ringed (level_start pairs l) pairs t R
  ringed_part = ringed_as 0 (level_start pairs l) pairs (part pairs l t) t R (λ i h. sym (ap (λ (k : ℕ). get_or (part pairs l t) k 0) (omega arith) ∙ part_word pairs l t i h))
