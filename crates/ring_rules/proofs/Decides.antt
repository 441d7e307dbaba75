-- The test of a ring tells its length where there is one, and that it is torn where there is none.
use mathlib.Core.Path.{◌≡◌, refl, sym, ap, ◌∙◌}
use mathlib.Core.Bool.{true}
use mathlib.Core.Logic.{◌⊎◌, inl, inr}
use mathlib.Core.List.{List, [], ◌∷◌, ◌++◌}
use Prim.Native.Nat.{ℕ, zero, suc, ◌+◌, ◌-◌, ◌≤◌, ◌<◌}
use native.Mathlib.Omega.{arith}
use lib.ListN.{length, get_or}
use Rattle.lists.specs.Members.{NotIn, Distinct, Below, picked}
use Rattle.lists.proofs.Bools.{same?, lt_or_le}
use Rattle.lists.proofs.Members.{mem_below, no_more}
use Rattle.lists.proofs.Picked.{picked_all}
use Rattle.slabs.specs.Slab.{nowhere}
use Rattle.ring_rules.specs.Ring.{head_in_ring, Run, next, prev, RingOf, HasRing}
use Rattle.ring_rules.specs.Test.{met_after, ring_length}
use Rattle.ring_rules.proofs.Rings.{run_cut}
use Rattle.ring_rules.proofs.Steps.{met_done, met_far, met_torn, met_back, met_on, length_none, length_far, length_walk}

-- distinct numbers below n are at most n
all_below : (n : ℕ) → length (picked (λ x. true) n) ≡ n
unfolding picked
all_below zero = refl
all_below (suc n) = ap suc (all_below n)

no_more_below : (n : ℕ) (l : List ℕ) → Distinct l → Below n l → length l ≤ n
no_more_below n l d b = omega (arith, no_more l (picked (λ x. true) n) d (λ x m. picked_all (λ x. true) n x (mem_below n x l b m) refl), all_below n)

step_more : (k m : ℕ) → k - (m + 1) ≡ suc k - (suc m + 1)
step_more k m = omega arith

module _ (next prev : ℕ → ℕ) where
  -- each place of a run leads back: so what the run does not begin with again it does not meet twice
  back : (x y z : ℕ) (m : List ℕ) → Run next prev z m → NotIn x (z ∷ m) → prev y ≡ x → NotIn y m
  back x y z [] r o e = tt
  back x y z (w ∷ m) r o e = ((λ q. o.0 (sym e ∙ ap prev q ∙ r.0.1)), back x y w m r.1 o.1 e)

  distinct_run : (x : ℕ) (l : List ℕ) → Run next prev x l → NotIn x l → Distinct (x ∷ l)
  distinct_run x [] r o = (tt, tt)
  distinct_run x (y ∷ l) r o = (o, distinct_run y l r.1 (back x y y l r.1 o r.0.1))

  -- what a walk of k steps at most has met, that is back at h
  record Walked (n h p k r : ℕ) : Type 0 where
    met : List ℕ
    run : Run next prev p (met ++ (h ∷ []))
    out : NotIn h met
    below : Below n met
    steps : length met < k
    count : r ≡ n - (k - (length met + 1))

  walked : (n h p k r : ℕ) → met_after next prev n h p k ≡ r → (r ≡ nowhere → ⊥) → Walked n h p k r
  walked n h p zero r e o = absurd (o (sym e ∙ met_done next prev n h p 0 (omega arith)))
  walked n h p (suc k) r e o = by (lt_or_le (next p) n) (same? (prev (next p)) p) (same? (next p) h) (λ f. walked n h (next p) k r f o)
    where
      by : (next p < n) ⊎ (n ≤ next p) → (prev (next p) ≡ p) ⊎ (prev (next p) ≡ p → ⊥) → (next p ≡ h) ⊎ (next p ≡ h → ⊥) → (met_after next prev n h (next p) k ≡ r → Walked n h (next p) k r) → Walked n h p (suc k) r
      by (inr f) b c more = absurd (o (sym e ∙ met_far next prev n h p (suc k) (next p) refl (omega arith) f))
      by (inl f) (inr b) c more = absurd (o (sym e ∙ met_torn next prev n h p (suc k) (next p) refl (omega arith) f b))
      by (inl f) (inl b) (inl c) more =
          let s : r ≡ n - (suc k - 1) = sym e ∙ met_back next prev n h p (suc k) (next p) refl (omega arith) f b c in
          record {
            met = [];
            run = ((c, ap prev (sym c) ∙ b), tt);
            out = tt;
            below = tt;
            steps = omega arith;
            count = omega arith;
          }
      by (inl f) (inl b) (inr c) more =
          let s = met_on next prev n h p (suc k) (next p) refl (omega arith) f b c in
          let z : suc k - 1 ≡ k = omega arith in
          let w = more (ap (met_after next prev n h (next p)) (sym z) ∙ sym s ∙ e) in
          let g : length w.met < k = w.steps in
          record {
            met = next p ∷ w.met;
            run = ((refl, b), w.run);
            out = ((λ q. c (sym q)), w.out);
            below = (f, w.below);
            steps = omega arith;
            count = w.count ∙ ap (λ i. n - i) (step_more k (length w.met));
          }

  -- a run back to h is walked
  walks : (n h p k : ℕ) (l : List ℕ) → Run next prev p (l ++ (h ∷ [])) → NotIn h l → Below n l → h < n → length l < k → met_after next prev n h p k ≡ n - (k - (length l + 1))
  walks n h p k [] r o b f s = met_back next prev n h p k h (sym r.0.0) (omega arith) f r.0.1 refl ∙ ap (λ j. n - (k - j)) (omega arith)
  walks n h p k (y ∷ l) r o b f s =
      met_on next prev n h p k y (sym r.0.0) (omega arith) b.0 r.0.1 (λ e. o.0 (sym e))
      ∙ walks n h y (k - 1) l r.1 o.1 b.1 f (omega arith)
      ∙ ap (λ j. n - j) (omega arith)

  -- two runs from one place, of one length, are one
  run_one : (x : ℕ) (l m : List ℕ) → Run next prev x l → Run next prev x m → length l ≡ length m → l ≡ m
  run_one x [] [] r s e = refl
  run_one x [] (z ∷ m) r s e = absurd (omega arith)
  run_one x (y ∷ l) [] r s e = absurd (omega arith)
  run_one x (y ∷ l) (z ∷ m) r s e =
      let q : z ≡ y = sym s.0.0 ∙ r.0.0 in
      let t : l ≡ m = run_one y l m r.1 (rw q at s.1) (omega arith) in
      cc

module _ (head next_at prev_at step n : ℕ) (t : List ℕ) where
  pub ring_length_yes : (k : ℕ) → ring_length head next_at prev_at step n t ≡ k → (k ≡ nowhere → ⊥) → HasRing head next_at prev_at step n k t
  ring_length_yes k e o = by (same? h nowhere) (lt_or_le h n)
    where
      h : ℕ
      h = head_in_ring head next_at prev_at step t

      by : (h ≡ nowhere) ⊎ (h ≡ nowhere → ⊥) → (h < n) ⊎ (n ≤ h) → HasRing head next_at prev_at step n k t
      by (inl s) f = record {
        places = [];
        ring = record { ring = record { closed = tt; distinct = tt }; first = s };
        below = tt;
        long = sym (length_none head next_at prev_at step n t h refl s) ∙ e;
      }
      by (inr s) (inr f) = absurd (o (sym e ∙ length_far head next_at prev_at step n t h refl s f))
      by (inr s) (inl f) =
          let w = walked (next head next_at prev_at step t) (prev head next_at prev_at step t) n h h n k (sym (length_walk head next_at prev_at step n t h refl s f) ∙ e) o in
          let d = distinct_run (next head next_at prev_at step t) (prev head next_at prev_at step t) h w.met (run_cut _ _ h w.met (h ∷ []) w.run).0 w.out in
          let g : length w.met < n = w.steps in
          let j : k ≡ n - (n - (length w.met + 1)) = w.count in
          record {
            places = h ∷ w.met;
            ring = record { ring = record { closed = w.run; distinct = d }; first = refl };
            below = (f, w.below);
            long = omega arith;
          }

  -- no more places stand in it than there are
  pub ring_length_most : (ring_length head next_at prev_at step n t ≡ nowhere → ⊥) → ring_length head next_at prev_at step n t ≤ n
  ring_length_most o =
      let r = ring_length_yes (ring_length head next_at prev_at step n t) refl o in
      omega (arith, r.long, no_more_below n r.places r.ring.ring.distinct r.below)

  ring_long : n ≤ nowhere → (R : List ℕ) → RingOf head next_at prev_at step t R → Below n R → ring_length head next_at prev_at step n t ≡ length R
  ring_long few [] r b = length_none head next_at prev_at step n t nowhere (sym r.first) refl
  ring_long few (x ∷ l) r b =
      let f : x < n = b.0 in
      let g : length l + 1 ≤ n = omega (arith, no_more_below n (x ∷ l) r.ring.distinct b) in
      length_walk head next_at prev_at step n t x (sym r.first) (λ s. omega arith) f
      ∙ walks (next head next_at prev_at step t) (prev head next_at prev_at step t) n x x n l r.ring.closed r.ring.distinct.0 b.1 f (omega arith)
      ∙ omega arith

  pub ring_length_all : (k : ℕ) → n ≤ nowhere → HasRing head next_at prev_at step n k t → ring_length head next_at prev_at step n t ≡ k
  ring_length_all k few r = ring_long few r.places r.ring r.below ∙ r.long

  -- a table has one ring at the head
  pub ring_one : n ≤ nowhere → (R S : List ℕ) → RingOf head next_at prev_at step t R → RingOf head next_at prev_at step t S → Below n R → Below n S → R ≡ S
  ring_one few [] [] r s b c = refl
  ring_one few [] (y ∷ m) r s b c = let k : y < n = c.0 in absurd (omega (arith, r.first, s.first))
  ring_one few (x ∷ l) [] r s b c = let k : x < n = b.0 in absurd (omega (arith, r.first, s.first))
  ring_one few (x ∷ l) (y ∷ m) r s b c =
      let e : y ≡ x = sym s.first ∙ r.first in
      let f : length (x ∷ l) ≡ length (y ∷ m) = sym (ring_long few (x ∷ l) r b) ∙ ring_long few (y ∷ m) s c in
      let u = (run_cut _ _ x l (x ∷ []) r.ring.closed).0 in
      let v = (run_cut _ _ y m (y ∷ []) s.ring.closed).0 in
      let g : l ≡ m = run_one (next head next_at prev_at step t) (prev head next_at prev_at step t) x l m u (rw e at v) (omega arith) in
      cc
