-- The test of a slab decides what it stands for: it passes where the places are parted, and there only.
use Rattle.std.proofs.Common.{◌≡◌, ℕ, zero, suc, ◌+◌, ◌≤◌, Bool, true, false, cond, ltb, leb, List, [], ◌∷◌, length, sym, refl, ap, ◌∙◌, inl, inr, ⊎_elim, arith, ltb-true, lt-ltb, eq-eqb, eqb-true, le-leb, leb-true}
use Rattle.lists.specs.Members.{Mem, Below, picked}
use Rattle.lists.proofs.Bools.{and_left, and_right, and_both}
use Rattle.lists.proofs.Members.{mem_below, fills, no_more}
use Rattle.lists.proofs.Picked.{picked_all, picked_only, picked_once}
use Rattle.slabs.specs.declared.Slab.{Slab}
use Rattle.slabs.specs.Slab.{nowhere, Chain, Parted}
use Rattle.slabs.specs.Test.{vacancies, leads, parted_ok}
use Rattle.slabs.proofs.Places.{chain_distinct}

-- the test counts the vacant places
pub counted_long : (free : ℕ → Bool) (k : ℕ) → length (picked free k) ≡ vacancies free k
unfolding picked vacancies
counted_long free zero = refl
counted_long free (suc k) = by (free k) (counted_long free k)
  where
    by : (b : Bool) → length (picked free k) ≡ vacancies free k → length (cond b (k ∷ picked free k) (picked free k)) ≡ cond b (vacancies free k + 1) (vacancies free k)
    by true e = omega arith
    by false e = e

-- the chain that the test walked
pub record Walked (free : ℕ → Bool) (next : ℕ → ℕ) (n h k : ℕ) : Type 0 where
  pub places : List ℕ
  pub long : length places ≡ k
  pub chain : Chain next h places
  pub below : Below n places
  pub vacant : (x : ℕ) → Mem x places → free x ≡ true

pub walked : (free : ℕ → Bool) (next : ℕ → ℕ) (n h k : ℕ) → leads free next n h k ≡ true → Walked free next n h k
unfolding leads
walked free next n h zero e = record { places = []; long = refl; chain = eqb-true h nowhere e; below = tt; vacant = λ x m. absurd m }
walked free next n h (suc k) e =
    let f = and_right (ltb h n) _ e in
    let r = walked free next n (next h) k (and_right (free h) _ f) in
    record {
      places = h ∷ r.places;
      long = ap suc r.long;
      chain = (refl, r.chain);
      below = (ltb-true h n (and_left _ _ e), r.below);
      vacant = λ x m. ⊎_elim (λ q. ap free q ∙ and_left _ _ f) (r.vacant x) m;
    }

-- a chain of vacant places passes
passes : (free : ℕ → Bool) (next : ℕ → ℕ) (n h : ℕ) (l : List ℕ) → Chain next h l → Below n l → ((x : ℕ) → Mem x l → free x ≡ true) → leads free next n h (length l) ≡ true
unfolding leads
passes free next n h [] c b v = eq-eqb h nowhere c
passes free next n h (x ∷ l) c b v =
    let e : h ≡ x = c.0 in
    rw (e, lt-ltb x n b.0, v x (inl refl)) (passes free next n (next x) l c.1 b.1 (λ y m. v y (inr m)))

module _ (free : ℕ → Bool) (next : ℕ → ℕ) (s : Slab) (most : ℕ) where
  pub decides_yes : s.places ≤ nowhere → parted_ok free next s most ≡ true → Parted free next s most
  unfolding parted_ok
  decides_yes o e =
      let r = walked free next s.places s.vacant (vacancies free s.places) (and_right (leb s.places most) _ e) in
      let d = chain_distinct next s.places s.vacant r.places o r.chain r.below in
      let into : (x : ℕ) → Mem x r.places → Mem x (picked free s.places) = λ x m. picked_all free s.places x (mem_below s.places x r.places r.below m) (r.vacant x m) in
      let k : length (picked free s.places) ≤ length r.places = omega (arith, counted_long free s.places, r.long) in
      record {
        chained = r.places;
        chain = r.chain;
        distinct = d;
        below = r.below;
        vacant = r.vacant;
        all = λ p h t. fills r.places (picked free s.places) d into k p (picked_all free s.places p h t);
        limit = leb-true s.places most (and_left _ _ e);
      }

  -- the chain is as long as the count
  pub chained_long : (P : Parted free next s most) → length P.chained ≡ vacancies free s.places
  chained_long P =
      let a : length P.chained ≤ length (picked free s.places) = no_more P.chained (picked free s.places) P.distinct (λ x m. picked_all free s.places x (mem_below s.places x P.chained P.below m) (P.vacant x m)) in
      let b : length (picked free s.places) ≤ length P.chained = no_more (picked free s.places) P.chained (picked_once free s.places) (λ x m. let r = picked_only free s.places x m in P.all x r.0 r.1) in
      omega (arith, counted_long free s.places)

  pub decides_all : Parted free next s most → parted_ok free next s most ≡ true
  unfolding parted_ok
  decides_all P =
      and_both _ _ (le-leb s.places most P.limit)
      (ap (leads free next s.places s.vacant) (sym (chained_long P)) ∙ passes free next s.places s.vacant P.chained P.chain P.below P.vacant)
