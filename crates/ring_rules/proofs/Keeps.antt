-- What taking a place out of a ring and putting one in leave as it was: the table's length, and every word but those named;
-- and what a ring does not depend on.
use mathlib.Core.Path.{◌≡◌, ◌∙◌, ap}
use mathlib.Core.Bool.{Bool, true, false, cond}
use mathlib.Core.List.{List, [], ◌∷◌}
use Prim.Native.Nat.{ℕ}
use lib.Dec.{eqb}
use lib.ListN.{length, get_or, set, length-set}
use lib.Seq.{get_or-set_other}
use Rattle.lists.specs.Members.{Mem, NotIn}
use Rattle.words.specs.Words.{cell_of}
use Rattle.slabs.specs.Slab.{nowhere, place_of, record_of}
use Rattle.ring_rules.specs.Ring.{head_in_ring, next, prev, joined, unlinked, unlinked_at, alone, between, linked, linked_at, RingOf}
use Rattle.ring_rules.proofs.Rings.{ring_same}

either : (b : Bool) (x y t : List ℕ) → length x ≡ length t → length y ≡ length t → length (cond b x y) ≡ length t
either true x y t e f = e
either false x y t e f = f

module _ (head next_at prev_at step : ℕ) where
  -- the table is as long as before
  pub unlinked_length : (p : ℕ) (t : List ℕ) → length (unlinked head next_at prev_at step p t) ≡ length t
  unfolding unlinked
  unlinked_length p t = either (eqb (prev head next_at prev_at step t p) p) _ _ t (simp length-set) (simp length-set)

  pub linked_length : (p : ℕ) (t : List ℕ) → length (linked head next_at prev_at step p t) ≡ length t
  unfolding linked
  linked_length p t = either (eqb (head_in_ring head next_at prev_at step t) nowhere) _ _ t (simp length-set) (simp length-set)

  -- no word changes but those named
  pub unlinked_keeps : (p i : ℕ) (t : List ℕ) → NotIn i (unlinked_at head next_at prev_at step p t) → get_or (unlinked head next_at prev_at step p t) i 0 ≡ get_or t i 0
  unfolding unlinked unlinked_at
  unlinked_keeps p i t = by (eqb q p)
    where
      q : ℕ
      q = prev head next_at prev_at step t p

      n : ℕ
      n = next head next_at prev_at step t p

      by : (b : Bool) → NotIn i (cond b (head ∷ []) (cell_of next_at step q ∷ cell_of prev_at step n ∷ head ∷ [])) → get_or (cond b (set t head (record_of nowhere)) (joined head next_at prev_at step q n t)) i 0 ≡ get_or t i 0
      by true o = get_or-set_other t head i (record_of nowhere) 0 o.0
      by false o =
          get_or-set_other (set (set t (cell_of next_at step q) (record_of n)) (cell_of prev_at step n) (record_of q)) head i (record_of n) 0 o.1.1.0
          ∙ get_or-set_other (set t (cell_of next_at step q) (record_of n)) (cell_of prev_at step n) i (record_of q) 0 o.1.0
          ∙ get_or-set_other t (cell_of next_at step q) i (record_of n) 0 o.0

  pub linked_keeps : (p i : ℕ) (t : List ℕ) → NotIn i (linked_at head next_at prev_at step p t) → get_or (linked head next_at prev_at step p t) i 0 ≡ get_or t i 0
  unfolding linked linked_at
  linked_keeps p i t = by (eqb h nowhere)
    where
      h : ℕ
      h = head_in_ring head next_at prev_at step t

      q : ℕ
      q = prev head next_at prev_at step t h

      by : (b : Bool) → NotIn i (cond b (cell_of next_at step p ∷ cell_of prev_at step p ∷ head ∷ []) (cell_of prev_at step h ∷ cell_of next_at step q ∷ cell_of next_at step p ∷ cell_of prev_at step p ∷ [])) → get_or (cond b (alone head next_at prev_at step p t) (between head next_at prev_at step q p h t)) i 0 ≡ get_or t i 0
      by true o =
          get_or-set_other (set (set t (cell_of next_at step p) (record_of p)) (cell_of prev_at step p) (record_of p)) head i (record_of p) 0 o.1.1.0
          ∙ get_or-set_other (set t (cell_of next_at step p) (record_of p)) (cell_of prev_at step p) i (record_of p) 0 o.1.0
          ∙ get_or-set_other t (cell_of next_at step p) i (record_of p) 0 o.0
      by false o =
          get_or-set_other (set (set (set t (cell_of prev_at step h) (record_of p)) (cell_of next_at step q) (record_of p)) (cell_of next_at step p) (record_of h)) (cell_of prev_at step p) i (record_of q) 0 o.1.1.1.0
          ∙ get_or-set_other (set (set t (cell_of prev_at step h) (record_of p)) (cell_of next_at step q) (record_of p)) (cell_of next_at step p) i (record_of h) 0 o.1.1.0
          ∙ get_or-set_other (set t (cell_of prev_at step h) (record_of p)) (cell_of next_at step q) i (record_of p) 0 o.1.0
          ∙ get_or-set_other t (cell_of prev_at step h) i (record_of p) 0 o.0

  -- words other than the head and the links of a ring's places do not matter to it
  pub ring_frame : (t t' R : List ℕ) → get_or t' head 0 ≡ get_or t head 0 → ((x : ℕ) → Mem x R → (next head next_at prev_at step t' x ≡ next head next_at prev_at step t x) × (prev head next_at prev_at step t' x ≡ prev head next_at prev_at step t x)) → RingOf head next_at prev_at step t R → RingOf head next_at prev_at step t' R
  ring_frame t t' R e f r = record { ring = ring_same _ _ _ _ R f r.ring; first = ap place_of e ∙ r.first }
