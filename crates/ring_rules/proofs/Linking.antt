-- A ring in the words of a table: when a place is taken out the rest is the ring, from the place after it on, and when one is
-- put in it stands before the head.
use mathlib.Core.Path.{◌≡◌, refl, sym, ap, ◌∙◌, subst}
use mathlib.Core.Logic.{inl, inr}
use mathlib.Core.List.{List, [], ◌∷◌, ◌++◌}
use Prim.Native.Nat.{ℕ, ◌≤◌, ◌<◌}
use native.Mathlib.Omega.{arith}
use lib.ListN.{length, get_or, set}
use lib.Seq.{get_or-set_same, get_or-set_other, lt-length-set}
use borrow.Author.Tests.{eq-eqb, ne_eqb}
use Rattle.lists.specs.Members.{Mem, NotIn, Below}
use Rattle.lists.proofs.Members.{not_mem, mem_swap, mem_below, below_mem, split}
use Rattle.words.specs.Words.{cell_of}
use Rattle.slabs.specs.Slab.{nowhere, place_of, record_of}
use Rattle.slabs.proofs.Links.{place_record}
use Rattle.slabs.proofs.Places.{link_here, link_other}
use Rattle.ring_rules.specs.Ring.{Ring, next, prev, head_in_ring, joined, unlinked, alone, between, linked, RingOf, Apart}
use Rattle.ring_rules.proofs.Rings.{last_of, last_mem, rotate, first_prev, ring_out, ring_in}

-- n places whose words lie apart, in a table as long as t
module _ (head next_at prev_at step n : ℕ) (t : List ℕ) (A : Apart head next_at prev_at step n (length t)) where
  -- a store to one of these words leaves the others
  next_by_prev : (u : List ℕ) (a v z : ℕ) → a < n → z < n → next head next_at prev_at step (set u (cell_of prev_at step a) v) z ≡ next head next_at prev_at step u z
  next_by_prev u a v z h k = ap place_of (get_or-set_other u (cell_of prev_at step a) (cell_of next_at step z) v 0 (A.links z a k h))

  prev_by_next : (u : List ℕ) (a v z : ℕ) → a < n → z < n → prev head next_at prev_at step (set u (cell_of next_at step a) v) z ≡ prev head next_at prev_at step u z
  prev_by_next u a v z h k = ap place_of (get_or-set_other u (cell_of next_at step a) (cell_of prev_at step z) v 0 (λ e. A.links a z h k (sym e)))

  next_by_head : (u : List ℕ) (v z : ℕ) → z < n → next head next_at prev_at step (set u head v) z ≡ next head next_at prev_at step u z
  next_by_head u v z k = ap place_of (get_or-set_other u head (cell_of next_at step z) v 0 (λ e. A.head_next z k (sym e)))

  prev_by_head : (u : List ℕ) (v z : ℕ) → z < n → prev head next_at prev_at step (set u head v) z ≡ prev head next_at prev_at step u z
  prev_by_head u v z k = ap place_of (get_or-set_other u head (cell_of prev_at step z) v 0 (λ e. A.head_prev z k (sym e)))

  unlink_empties : (p : ℕ) → Ring (next head next_at prev_at step t) (prev head next_at prev_at step t) (p ∷ []) → unlinked head next_at prev_at step p t ≡ set t head (record_of nowhere)
  unfolding unlinked
  unlink_empties p r = rw (eq-eqb (prev head next_at prev_at step t p) p (first_prev _ _ p [] r))

  unlink_joins : (p y : ℕ) (l : List ℕ) → Ring (next head next_at prev_at step t) (prev head next_at prev_at step t) (p ∷ y ∷ l) → unlinked head next_at prev_at step p t ≡ joined head next_at prev_at step (last_of y l) y t
  unfolding unlinked
  unlink_joins p y l r =
      let e : prev head next_at prev_at step t p ≡ last_of y l = first_prev _ _ p (y ∷ l) r in
      let f : next head next_at prev_at step t p ≡ y = r.closed.0.0 in
      let o : (last_of y l ≡ p → ⊥) = λ s. not_mem p (y ∷ l) r.distinct.0 (subst (λ z. Mem z (y ∷ l)) s (last_mem y l)) in
      rw (e, f, ne_eqb (last_of y l) p o)

  -- the first of a ring goes out
  pub unlinked_first : (p : ℕ) (l : List ℕ) → Below n (p ∷ l) → Ring (next head next_at prev_at step t) (prev head next_at prev_at step t) (p ∷ l) → RingOf head next_at prev_at step (unlinked head next_at prev_at step p t) l
  unlinked_first p [] b r = rw (unlink_empties p r) (record {
    ring = record { closed = tt; distinct = tt };
    first = ap place_of (get_or-set_same t head (record_of nowhere) 0 A.head_in) ∙ place_record nowhere;
  })
  unlinked_first p (y ∷ l) b r = rw (unlink_joins p y l r) (record {
    ring =
        ring_out _ _ _ _ p y l
        (λ z m o. next_by_head v (record_of y) z (under z m) ∙ next_by_prev u y (record_of q) z yn (under z m) ∙ link_other t next_at step q (record_of y) z A.stepped o)
        (λ z m. prev_by_head v (record_of y) z (under z (inr m)) ∙ link_other u prev_at step y (record_of q) z A.stepped (λ e. not_mem y l r.distinct.1.0 (rw e at m)) ∙ prev_by_next t q (record_of y) z qn (under z (inr m)))
        (next_by_head v (record_of y) q qn ∙ next_by_prev u y (record_of q) q yn qn ∙ link_here t next_at step q y (A.next_in_lem q qn), prev_by_head v (record_of y) y yn ∙ link_here u prev_at step y q (lt-length-set t (cell_of next_at step q) (record_of y) (A.prev_in y yn)))
        r;
    first = ap place_of (get_or-set_same v head (record_of y) 0 (lt-length-set u (cell_of prev_at step y) (record_of q) (lt-length-set t (cell_of next_at step q) (record_of y) A.head_in))) ∙ place_record y;
  })
    where
      q : ℕ
      q = last_of y l

      -- the table after the first store, and after the second
      u : List ℕ
      u = set t (cell_of next_at step q) (record_of y)

      v : List ℕ
      v = set u (cell_of prev_at step y) (record_of q)

      under : (z : ℕ) → Mem z (y ∷ l) → z < n
      under z m = mem_below n z (y ∷ l) b.1 m

      yn : y < n
      yn = b.1.0

      qn : q < n
      qn = under q (last_mem y l)

  -- a place goes out from wherever it stands: the ring is the rest, from the place after it on, and that one is the head
  pub unlinked_ring : (p : ℕ) (a b : List ℕ) → Below n (a ++ (p ∷ b)) → Ring (next head next_at prev_at step t) (prev head next_at prev_at step t) (a ++ (p ∷ b)) → RingOf head next_at prev_at step (unlinked head next_at prev_at step p t) (b ++ a)
  unlinked_ring p a b h r =
      unlinked_first p (b ++ a) (below_mem n (p ∷ b ++ a) (λ x m. mem_below n x (a ++ (p ∷ b)) h (mem_swap x (p ∷ b) a m))) (rotate _ _ a (p ∷ b) r)

  pub unlinked_member : (p : ℕ) (R : List ℕ) (m : Mem p R) → Below n R → Ring (next head next_at prev_at step t) (prev head next_at prev_at step t) R → RingOf head next_at prev_at step (unlinked head next_at prev_at step p t) ((split p R m).b ++ (split p R m).a)
  unlinked_member p R m h r = let s = split p R m in unlinked_ring p s.a s.b (rw s.is at h) (rw s.is at r)

  link_founds : (p : ℕ) → head_in_ring head next_at prev_at step t ≡ nowhere → linked head next_at prev_at step p t ≡ alone head next_at prev_at step p t
  unfolding linked
  link_founds p e = rw (eq-eqb (head_in_ring head next_at prev_at step t) nowhere e)

  link_adds : (p h : ℕ) (l : List ℕ) → h < n → RingOf head next_at prev_at step t (h ∷ l) → linked head next_at prev_at step p t ≡ between head next_at prev_at step (last_of h l) p h t
  unfolding linked
  link_adds p h l k r =
      let e : head_in_ring head next_at prev_at step t ≡ h = r.first in
      let f : prev head next_at prev_at step t h ≡ last_of h l = first_prev _ _ h l r.ring in
      let few : n ≤ nowhere = A.few in
      rw (e, f, ne_eqb h nowhere (λ s. omega arith))

  -- a place comes in before the head, or as the head of a ring that was empty
  pub linked_ring : (p : ℕ) (R : List ℕ) → p < n → NotIn p R → Below n R → RingOf head next_at prev_at step t R → RingOf head next_at prev_at step (linked head next_at prev_at step p t) (R ++ (p ∷ []))
  linked_ring p [] k o b r = rw (link_founds p r.first) (record {
    ring = record {
      closed = (
        (
          next_by_head v (record_of p) p k ∙ next_by_prev u p (record_of p) p k k ∙ link_here t next_at step p p (A.next_in_lem p k),
          prev_by_head v (record_of p) p k ∙ link_here u prev_at step p p (lt-length-set t (cell_of next_at step p) (record_of p) (A.prev_in p k)),
        ),
        tt,
      );
      distinct = (tt, tt);
    };
    first = ap place_of (get_or-set_same v head (record_of p) 0 (lt-length-set u (cell_of prev_at step p) (record_of p) (lt-length-set t (cell_of next_at step p) (record_of p) A.head_in))) ∙ place_record p;
  })
    where
      -- the table after the first store, and after the second
      u : List ℕ
      u = set t (cell_of next_at step p) (record_of p)

      v : List ℕ
      v = set u (cell_of prev_at step p) (record_of p)
  linked_ring p (h ∷ l) k o b r = rw (link_adds p h l b.0 r) (record {
    ring =
        ring_in _ _ _ _ p h l o
        (λ z m s. next_by_prev w p (record_of q) z k (under z m) ∙ link_other v next_at step p (record_of h) z A.stepped (other z m) ∙ link_other u next_at step q (record_of p) z A.stepped s ∙ next_by_prev t h (record_of p) z hn (under z m))
        (λ z m. link_other w prev_at step p (record_of q) z A.stepped (other z (inr m)) ∙ prev_by_next v p (record_of h) z k (under z (inr m)) ∙ prev_by_next u q (record_of p) z qn (under z (inr m)) ∙ link_other t prev_at step h (record_of p) z A.stepped (λ e. not_mem h l r.ring.distinct.0 (rw e at m))) (
          next_by_prev w p (record_of q) q k qn ∙ link_other v next_at step p (record_of h) q A.stepped (other q (last_mem h l)) ∙ link_here u next_at step q p (in_u (A.next_in_lem q qn)),
          link_here w prev_at step p q (in_w (A.prev_in p k)),
        ) (
          next_by_prev w p (record_of q) p k k ∙ link_here v next_at step p h (in_v (A.next_in_lem p k)),
          link_other w prev_at step p (record_of q) h A.stepped (other h (inl refl)) ∙ prev_by_next v p (record_of h) h k hn ∙ prev_by_next u q (record_of p) h qn hn ∙ link_here t prev_at step h p (A.prev_in h hn),
        )
        r.ring;
    first =
        ap place_of
        (get_or-set_other w (cell_of prev_at step p) head (record_of q) 0 (A.head_prev p k)
        ∙ get_or-set_other v (cell_of next_at step p) head (record_of h) 0 (A.head_next p k)
        ∙ get_or-set_other u (cell_of next_at step q) head (record_of p) 0 (A.head_next q qn)
        ∙ get_or-set_other t (cell_of prev_at step h) head (record_of p) 0 (A.head_prev h hn))
        ∙ r.first;
  })
    where
      q : ℕ
      q = last_of h l

      -- the table after the first store, the second and the third
      u : List ℕ
      u = set t (cell_of prev_at step h) (record_of p)

      v : List ℕ
      v = set u (cell_of next_at step q) (record_of p)

      w : List ℕ
      w = set v (cell_of next_at step p) (record_of h)

      in_u : {i : ℕ} → i < length t → i < length u
      in_u s = lt-length-set t (cell_of prev_at step h) (record_of p) s

      in_v : {i : ℕ} → i < length t → i < length v
      in_v s = lt-length-set u (cell_of next_at step q) (record_of p) (in_u s)

      in_w : {i : ℕ} → i < length t → i < length w
      in_w s = lt-length-set v (cell_of next_at step p) (record_of h) (in_v s)

      under : (z : ℕ) → Mem z (h ∷ l) → z < n
      under z m = mem_below n z (h ∷ l) b m

      other : (z : ℕ) → Mem z (h ∷ l) → z ≡ p → ⊥
      other z m e = not_mem p (h ∷ l) o (subst (λ x. Mem x (h ∷ l)) e m)

      hn : h < n
      hn = b.0

      qn : q < n
      qn = under q (last_mem h l)
