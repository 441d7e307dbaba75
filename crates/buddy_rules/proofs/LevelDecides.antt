-- The test of a level: it passes where the level is good, and where it passes, and chain and ring are as long as the pairs tell, the
-- level is good.
use mathlib.Core.Path.{◌≡◌, refl, sym, ap, ◌∙◌}
use mathlib.Core.Bool.{Bool, true, not}
use mathlib.Core.Logic.{inl, inr, ⊎_elim}
use mathlib.Core.List.{List, [], ◌∷◌}
use Prim.Native.Nat.{ℕ, ◌+◌, ◌-◌, ◌^◌, ◌≤◌, ◌<◌}
use native.Mathlib.Omega.{arith}
use lib.Dec.{eqb, leb}
use lib.ListN.{length, get_or}
use borrow.Author.Tests.{eqb-false, ne_eqb, ltb-true, lt-ltb, leb-true, le-leb}
use Rattle.lists.specs.Members.{Mem, picked}
use Rattle.lists.proofs.Bools.{not_yes, and_left, and_right, and_both}
use Rattle.lists.proofs.Members.{mem_below, below_mem, no_more, fills}
use Rattle.lists.proofs.Picked.{picked_all, picked_only, picked_once}
use Rattle.slabs.specs.Slab.{nowhere, link_at}
use Rattle.slabs.specs.Test.{vacancies}
use Rattle.slabs.proofs.Decides.{counted_long, decides_yes}
use Rattle.slabs.proofs.OffChain.{count_most, off_most, off_least, off_parted, parted_off}
use Rattle.ring_rules.specs.Ring.{Run, RingOf, HasRing}
use Rattle.ring_rules.proofs.Rings.{run_cut}
use Rattle.ring_rules.proofs.Decides.{ring_length_yes, ring_length_all}
use Rattle.buddy_rules.specs.Level.{
  ring_at,
  used_at,
  pair_words,
  next_at,
  prev_at,
  field_at,
  ent_of,
  ring_head,
  slab_in,
  vacant_in,
  vacant_after,
  Good,
}
use Rattle.buddy_rules.specs.LevelTest.{along, ready_in, ready_after, ringed, in_use, level_ok}

-- the walk meets each place of a run
module _ (f : ℕ → Bool) (next prev : ℕ → ℕ) where
  along_each : (x : ℕ) (l : List ℕ) → Run next prev x l → along f next x (length (x ∷ l)) ≡ true → (y : ℕ) → Mem y (x ∷ l) → f y ≡ true
  unfolding along
  along_each x [] r e y m = ⊎_elim (λ q. ap f q ∙ and_left (f x) _ e) (λ i. absurd i) m
  along_each x (z ∷ l) r e y m =
      let g : along f next z (length (z ∷ l)) ≡ true = ap (λ p. along f next p (length (z ∷ l))) (sym r.0.0) ∙ and_right (f x) _ e in
      ⊎_elim (λ q. ap f q ∙ and_left (f x) _ e) (along_each z l r.1 g y) m

  each_along : (x : ℕ) (l : List ℕ) → Run next prev x l → ((y : ℕ) → Mem y (x ∷ l) → f y ≡ true) → along f next x (length (x ∷ l)) ≡ true
  unfolding along
  each_along x [] r h = and_both (f x) true (h x (inl refl)) refl
  each_along x (z ∷ l) r h =
      and_both (f x) _ (h x (inl refl)) (ap (λ p. along f next p (length (z ∷ l))) r.0.0 ∙ each_along z l r.1 (λ y m. h y (inr m)))

module _ (b : ℕ) (t : List ℕ) where
  abbrev Rings : List ℕ → Type 0
  Rings R = RingOf (b + ring_at) (field_at b next_at) (field_at b prev_at) pair_words t R

  -- the walk along the whole ring
  ring_each : (R : List ℕ) → Rings R → along (ready_in b t) (ready_after b t) (ring_head b t) (length R) ≡ true → (y : ℕ) → Mem y R → ready_in b t y ≡ true
  ring_each [] r e y m = absurd m
  ring_each (x ∷ l) r e y m =
      let h : ring_head b t ≡ x = r.first in
      along_each (ready_in b t) (ready_after b t) (link_at t (field_at b prev_at) pair_words) x l (run_cut _ _ x l (x ∷ []) r.ring.closed).0 (rw h at e) y m

  each_ring : (R : List ℕ) → Rings R → ((y : ℕ) → Mem y R → ready_in b t y ≡ true) → along (ready_in b t) (ready_after b t) (ring_head b t) (length R) ≡ true
  unfolding along
  each_ring [] r h = refl
  each_ring (x ∷ l) r h =
      let e : ring_head b t ≡ x = r.first in
      rw e (each_along (ready_in b t) (ready_after b t) (link_at t (field_at b prev_at) pair_words) x l (run_cut _ _ x l (x ∷ []) r.ring.closed).0 h)

-- how many of the first k pairs are ready, counted as vacant places are
abbrev pub readies : ℕ → List ℕ → ℕ → ℕ
readies b t k = vacancies (ready_in b t) k

-- how many of the first k pair places are not vacant
abbrev pub taken : ℕ → List ℕ → ℕ → ℕ
taken b t k = k - vacancies (vacant_in b t) k

module _ (b pairs : ℕ) (t : List ℕ) (few : pairs ≤ 2 ^ 32) where
  abbrev used : ℕ
  used = get_or t (b + used_at) 0

  -- ---- what the test says

  module _ (e : level_ok b pairs t ≡ true) where
    pub level_few : used ≤ pairs
    unfolding level_ok
    level_few = leb-true used pairs (and_left (leb used pairs) _ e)

    off_some : in_use b t ≡ nowhere → ⊥
    unfolding level_ok
    off_some = eqb-false (in_use b t) nowhere (not_yes _ (and_left _ _ (and_right (leb used pairs) _ e)))

    rings : (ringed b t ≡ nowhere → ⊥) × (along (ready_in b t) (ready_after b t) (ring_head b t) (ringed b t) ≡ true)
    unfolding level_ok
    rings =
        let r = and_right (not (eqb (in_use b t) nowhere)) _ (and_right (leb used pairs) _ e) in
        (eqb-false (ringed b t) nowhere (not_yes _ (and_left _ _ r)), and_right (not (eqb (ringed b t) nowhere)) _ r)

    pub use_most : in_use b t ≤ used
    unfolding in_use
    use_most = off_most (vacant_in b t) (vacant_after b t) used (slab_in b t).vacant off_some

    pub use_least : taken b t used ≤ in_use b t
    unfolding in_use
    use_least = off_least (vacant_in b t) (vacant_after b t) used (slab_in b t).vacant (omega (arith, level_few)) off_some

    ring : HasRing (b + ring_at) (field_at b next_at) (field_at b prev_at) pair_words used (ringed b t) t
    ring = ring_length_yes (b + ring_at) (field_at b next_at) (field_at b prev_at) pair_words used t (ringed b t) refl rings.0

    ready : (x : ℕ) → Mem x ring.places → ready_in b t x ≡ true
    ready = let k : length ring.places ≡ ringed b t = ring.long in ring_each b t ring.places ring.ring (rw k rings.1)

    under : (x : ℕ) → Mem x ring.places → x < used
    under x m = mem_below used x ring.places ring.below m

    into : (x : ℕ) → Mem x ring.places → Mem x (picked (ready_in b t) used)
    into x m = picked_all (ready_in b t) used x (under x m) (ready x m)

    pub ring_most : ringed b t ≤ readies b t used
    ring_most = omega (arith, ring.long, counted_long (ready_in b t) used, no_more ring.places (picked (ready_in b t) used) ring.ring.ring.distinct into)

    -- where chain and ring lack none, the level is good
    pub level_good : in_use b t ≡ taken b t used → ringed b t ≡ readies b t used → Good b pairs t
    unfolding in_use
    level_good whole long =
        record {
          ring = ring.places;
          rings = ring.ring;
          below = under;
          ready = λ x m. ltb-true 1 (ent_of b t x).tag (ready x m);
          all = λ x h l.
              fills ring.places (picked (ready_in b t) used) ring.ring.ring.distinct into
              (omega (arith, ring.long, counted_long (ready_in b t) used)) x
              (picked_all (ready_in b t) used x h (lt-ltb 1 (ent_of b t x).tag l));
          parted =
              decides_yes (vacant_in b t) (vacant_after b t) (slab_in b t) pairs (omega (arith, level_few))
              (off_parted (vacant_in b t) (vacant_after b t) (slab_in b t) pairs level_few (omega (arith, level_few)) whole);
        }

  -- ---- a good level passes, and lacks none

  module _ (G : Good b pairs t) where
    pub good_use : in_use b t ≡ taken b t used
    unfolding in_use
    good_use = parted_off (vacant_in b t) (vacant_after b t) (slab_in b t) pairs (omega (arith, G.parted.limit)) G.parted

    -- the ring has as many places as there are ready pairs
    ring_long : length G.ring ≡ readies b t used
    ring_long =
        let a : length G.ring ≤ length (picked (ready_in b t) used) = no_more G.ring (picked (ready_in b t) used) G.rings.ring.distinct (λ x m. picked_all (ready_in b t) used x (G.below x m) (lt-ltb 1 (ent_of b t x).tag (G.ready x m))) in
        let c : length (picked (ready_in b t) used) ≤ length G.ring = no_more (picked (ready_in b t) used) G.ring (picked_once (ready_in b t) used) (λ x m. let r = picked_only (ready_in b t) used x m in G.all x r.0 (ltb-true 1 (ent_of b t x).tag r.1)) in
        omega (arith, counted_long (ready_in b t) used)

    ring_is : ringed b t ≡ length G.ring
    ring_is = ring_length_all (b + ring_at) (field_at b next_at) (field_at b prev_at) pair_words used t (length G.ring) (omega (arith, G.parted.limit)) (record { places = G.ring; ring = G.rings; below = below_mem used G.ring G.below; long = refl })

    pub good_ring : ringed b t ≡ readies b t used
    good_ring = ring_is ∙ ring_long

    pub good_level : level_ok b pairs t ≡ true
    unfolding level_ok
    good_level =
        let h : used ≤ pairs = G.parted.limit in
        let e : ringed b t ≡ length G.ring = ring_is in
        let i : in_use b t < nowhere = omega (arith, good_use) in
        let j : ringed b t < nowhere = omega (arith, good_ring, count_most (ready_in b t) used) in
        and_both (leb used pairs) _ (le-leb used pairs h)
        (and_both (not (eqb (in_use b t) nowhere)) _ (ap not (ne_eqb (in_use b t) nowhere (λ z. omega arith)))
        (and_both (not (eqb (ringed b t) nowhere)) _ (ap not (ne_eqb (ringed b t) nowhere (λ z. omega arith)))
        (rw e (each_ring b t G.ring G.rings (λ x m. lt-ltb 1 (ent_of b t x).tag (G.ready x m))))))
