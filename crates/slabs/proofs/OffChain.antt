-- What a chain leaves over of the places ever used: at least as many as are not vacant, and exactly so many where it has every
-- vacant place.
use Rattle.std.proofs.Common.{◌≡◌, ℕ, zero, suc, ◌+◌, ◌-◌, ◌<◌, ◌≤◌, Bool, true, false, cond, ◌&&◌, eqb, ltb, leb, sym, refl, ap, ◌∙◌, arith, ltb-true, ne_eqb, le-leb}
use Rattle.lists.specs.Members.{picked}
use Rattle.lists.proofs.Bools.{and_left, and_right, and_both}
use Rattle.lists.proofs.Members.{mem_below, no_more}
use Rattle.lists.proofs.Picked.{picked_all}
use Rattle.slabs.specs.declared.Slab.{Slab}
use Rattle.slabs.specs.Slab.{nowhere, Parted}
use Rattle.slabs.specs.Test.{vacancies, leads, parted_ok, off_chain}
use Rattle.slabs.proofs.Places.{chain_distinct}
use Rattle.slabs.proofs.Decides.{counted_long, walked, decides_all}

-- no more places are counted than there are
pub count_most : (free : ℕ → Bool) (k : ℕ) → vacancies free k ≤ k
unfolding vacancies
count_most free zero = omega arith
count_most free (suc k) = by (free k) (count_most free k)
  where
    by : (b : Bool) → vacancies free k ≤ k → cond b (vacancies free k + 1) (vacancies free k) ≤ suc k
    by true h = omega arith
    by false h = omega arith

module _ (free : ℕ → Bool) (next : ℕ → ℕ) (n : ℕ) where
  -- the places that are not left over are those that the chain leads through
  pub off_leads : (h k : ℕ) → (off_chain free next n h k ≡ nowhere → ⊥) → (off_chain free next n h k ≤ k) × (leads free next n h (k - off_chain free next n h k) ≡ true)
  unfolding off_chain leads
  off_leads h zero o = go (eqb h nowhere) refl o
    where
      go : (b : Bool) → eqb h nowhere ≡ b → (cond b zero nowhere ≡ nowhere → ⊥) → (cond b zero nowhere ≤ zero) × (leads free next n h (zero - cond b zero nowhere) ≡ true)
      go true e o = (omega arith, e)
      go false e o = absurd (o refl)
  off_leads h (suc k) o = go (eqb h nowhere) (ltb h n && free h) refl refl (off_leads (next h) k) o
    where
      m : ℕ
      m = off_chain free next n (next h) k

      go : (b c : Bool) → eqb h nowhere ≡ b → (ltb h n && free h) ≡ c
          → ((m ≡ nowhere → ⊥) → (m ≤ k) × (leads free next n (next h) (k - m) ≡ true))
          → (cond b (suc k) (cond c m nowhere) ≡ nowhere → ⊥)
          → (cond b (suc k) (cond c m nowhere) ≤ suc k) × (leads free next n h (suc k - cond b (suc k) (cond c m nowhere)) ≡ true)
      go true c e f r o = let z : suc k - suc k ≡ 0 = omega arith in (omega arith, rw z e)
      go false true e f r o =
          let q = r o in
          let z : suc k - m ≡ suc (k - m) = omega (arith, q.0) in
          (omega (arith, q.0), rw z (and_both (ltb h n) _ (and_left (ltb h n) (free h) f) (and_both (free h) _ (and_right (ltb h n) (free h) f) q.1)))
      go false false e f r o = absurd (o refl)

  leads_off : (h j k : ℕ) → n ≤ nowhere → leads free next n h j ≡ true → j ≤ k → off_chain free next n h k ≡ k - j
  unfolding off_chain leads
  leads_off h zero zero o e g = rw e refl
  leads_off h zero (suc k) o e g = rw e (omega arith)
  leads_off h (suc j) zero o e g = absurd (omega arith)
  leads_off h (suc j) (suc k) o e g =
      let a : ltb h n ≡ true = and_left (ltb h n) _ e in
      let f = and_right (ltb h n) _ e in
      let low : h < n = ltb-true h n a in
      rw (ne_eqb h nowhere (λ z. omega arith), a, and_left (free h) _ f) (leads_off (next h) j k o (and_right (free h) _ f) (omega arith) ∙ omega arith)

  -- a chain that ends has distinct vacant places
  leads_most : (h j : ℕ) → n ≤ nowhere → leads free next n h j ≡ true → j ≤ vacancies free n
  leads_most h j o e =
      let r = walked free next n h j e in
      let d = chain_distinct next n h r.places o r.chain r.below in
      omega (arith, r.long, counted_long free n, no_more r.places (picked free n) d (λ x m. picked_all free n x (mem_below n x r.places r.below m) (r.vacant x m)))

  pub off_most : (h : ℕ) → (off_chain free next n h n ≡ nowhere → ⊥) → off_chain free next n h n ≤ n
  off_most h e = (off_leads h n e).0

  pub off_least : (h : ℕ) → n ≤ nowhere → (off_chain free next n h n ≡ nowhere → ⊥) → n - vacancies free n ≤ off_chain free next n h n
  off_least h o e =
      let r = off_leads h n e in
      omega (arith, r.0, leads_most h (n - off_chain free next n h n) o r.1)

module _ (free : ℕ → Bool) (next : ℕ → ℕ) (s : Slab) (most : ℕ) where
  abbrev off : ℕ
  off = off_chain free next s.places s.vacant s.places

  -- where it leaves no more the places are parted
  pub off_parted : s.places ≤ most → s.places < nowhere → off ≡ s.places - vacancies free s.places → parted_ok free next s most ≡ true
  unfolding parted_ok
  off_parted few low e =
      let r = off_leads free next s.places s.vacant s.places (λ z. omega arith) in
      let k : s.places - off ≡ vacancies free s.places = omega (arith, count_most free s.places) in
      and_both (leb s.places most) _ (le-leb s.places most few) (sym (ap (leads free next s.places s.vacant) k) ∙ r.1)

  pub parted_off : s.places ≤ nowhere → Parted free next s most → off ≡ s.places - vacancies free s.places
  unfolding parted_ok
  parted_off o P =
      leads_off free next s.places s.vacant (vacancies free s.places) s.places o
      (and_right (leb s.places most) _ (decides_all free next s most P)) (count_most free s.places)
