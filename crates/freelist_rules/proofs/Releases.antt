-- A release keeps a store sound, and which chunks it leaves.
use mathlib.Core.Path.{◌≡◌, refl, sym, ◌∙◌, ap}
use mathlib.Core.Bool.{Bool, true, false, cond, ◌&&◌, ◌||◌, not}
use mathlib.Core.Logic.{◌⊎◌, inl, inr, ⊎_elim}
use mathlib.Core.List.{List, [], ◌∷◌, ◌++◌, Memᴰ}
use Prim.Native.Nat.{ℕ, suc, ◌+◌, ◌≤◌, ◌<◌}
use native.Mathlib.Omega.{arith}
use lib.Dec.{eqb}
use borrow.Author.Tests.{eqb-true, eq-eqb}
use Rattle.counter.specs.InTable.{FreeListIn}
use Rattle.counter.specs.declared.settings.FreeListSettings.{FreeListSettings}
use Rattle.lists.proofs.Bools.{and_left, and_right, and_both, or_cases, or_left, or_right, told, true_false, lt_or_le}
use Rattle.freelist_rules.specs.Records.{Store}
use Rattle.freelist_rules.specs.Pieces.{on, total, free, held, lo, hi, Rising}
use Rattle.freelist_rules.specs.Sound.{Sound}
use Rattle.freelist_rules.specs.Release.{covers, wholly, goes, staying, rotated, leaving, is_covered, remaining}
use Rattle.freelist_rules.specs.Steps.{released}
use Rattle.store_rules.specs.declared.Chunk.{Chunk}
use Rattle.store_rules.specs.declared.Region.{Region}
use Rattle.freelist_rules.proofs.Base.{on_in, total_mem, rising_mono, rising_low}
use Rattle.freelist_rules.proofs.Facts.{held_once, held_where, region_home, region_some, once}
use Rattle.freelist_rules.proofs.Meaning.{Idle, region_at_lem, at_region, chunk_one, wholly_free}

-- ---- one item that a test takes out of a list, or leaves in it

module _ {A : Type 0} where
  taken_in : (b : Bool) (a x : A) (xs : List A) → Memᴰ a (cond b (x ∷ xs) xs) → ((a ≡ x) × (b ≡ true)) ⊎ Memᴰ a xs
  taken_in true a x xs m = ⊎_elim (λ e. inl (e, refl)) (λ k. inr k) (mathlib.Core.List.Memᴰ.cases_cons m)
  taken_in false a x xs m = inr m

  left_in : (b : Bool) (a x : A) (xs : List A) → Memᴰ a (cond b xs (x ∷ xs)) → ((a ≡ x) × (b ≡ false)) ⊎ Memᴰ a xs
  left_in true a x xs m = inr m
  left_in false a x xs m = ⊎_elim (λ e. inl (e, refl)) (λ k. inr k) (mathlib.Core.List.Memᴰ.cases_cons m)

  in_taken : (b : Bool) (a x : A) (xs : List A) → ((a ≡ x) × (b ≡ true)) ⊎ Memᴰ a xs → Memᴰ a (cond b (x ∷ xs) xs)
  in_taken b a x xs (inl h) = rw h.1 (mathlib.Core.List.Memᴰ.head h.0)
  in_taken true a x xs (inr k) = mathlib.Core.List.Memᴰ.tail k
  in_taken false a x xs (inr k) = k

  in_left : (b : Bool) (a x : A) (xs : List A) → ((a ≡ x) × (b ≡ false)) ⊎ Memᴰ a xs → Memᴰ a (cond b xs (x ∷ xs))
  in_left b a x xs (inl h) = rw h.1 (mathlib.Core.List.Memᴰ.head h.0)
  in_left true a x xs (inr k) = k
  in_left false a x xs (inr k) = mathlib.Core.List.Memᴰ.tail k

  split_total : (f : A → ℕ) (b : Bool) (x : A) (xs ys zs : List A) → total f zs ≡ total f xs + total f ys → total f (x ∷ zs) ≡ total f (cond b xs (x ∷ xs)) + total f (cond b (x ∷ ys) ys)
  split_total f true x xs ys zs e = omega arith
  split_total f false x xs ys zs e = omega arith

  left_rise : (lo hi : A → ℕ) (g p : ℕ) (b : Bool) (x : A) (xs : List A) → p ≤ lo x → lo x < hi x → Rising lo hi g (g + hi x) xs → Rising lo hi g p (cond b xs (x ∷ xs))
  left_rise lo hi g p true x xs h k r = rising_mono lo hi g p (g + hi x) xs (omega arith) r
  left_rise lo hi g p false x xs h k r = (h, k, r)

  -- sending the first to the back loses none
  rotated_in : (a : A) (xs : List A) → Memᴰ a (rotated xs) → Memᴰ a xs
  rotated_in a [] m = m
  rotated_in a (x ∷ xs) m = ⊎_elim (λ k. mathlib.Core.List.Memᴰ.tail k) (λ k. mathlib.Core.List.Memᴰ.head (mathlib.Core.List.Memᴰ.eq_of_singleton k)) (mathlib.Core.List.Memᴰ.append_cases xs m)

  in_rotated : (a : A) (xs : List A) → Memᴰ a xs → Memᴰ a (rotated xs)
  in_rotated a [] m = m
  in_rotated a (x ∷ xs) m = ⊎_elim (λ e. mathlib.Core.List.Memᴰ.append_right xs (mathlib.Core.List.Memᴰ.head e)) (λ k. mathlib.Core.List.Memᴰ.append_left (x ∷ []) k) (mathlib.Core.List.Memᴰ.cases_cons m)

-- ---- what the tests say

pub covers_yes : (r : Region) (c : Chunk) → covers r c ≡ true → (r.chunk ≡ c.number) × (r.start ≡ 0) × (r.end ≡ c.size)
covers_yes r c e =
    let k = and_right (eqb r.chunk c.number) (eqb r.start 0 && eqb r.end c.size) e in (
      eqb-true r.chunk c.number (and_left (eqb r.chunk c.number) (eqb r.start 0 && eqb r.end c.size) e),
      eqb-true r.start 0 (and_left (eqb r.start 0) (eqb r.end c.size) k),
      eqb-true r.end c.size (and_right (eqb r.start 0) (eqb r.end c.size) k),
    )

pub yes_covers : (r : Region) (c : Chunk) → r.chunk ≡ c.number → r.start ≡ 0 → r.end ≡ c.size → covers r c ≡ true
yes_covers r c p q e = rw (eq-eqb r.chunk c.number p, eq-eqb r.start 0 q, eq-eqb r.end c.size e)

pub wholly_where : (cs : List Chunk) (r : Region) → wholly cs r ≡ true → (c : Chunk) × Memᴰ c cs × (covers r c ≡ true)
wholly_where [] r e = absurd (true_false false e refl)
wholly_where (c ∷ cs) r e = go (wholly_where cs r) (or_cases (covers r c) (wholly cs r) e)
  where
    go : (wholly cs r ≡ true → (d : Chunk) × Memᴰ d cs × (covers r d ≡ true)) → (covers r c ≡ true) ⊎ (wholly cs r ≡ true) → (d : Chunk) × Memᴰ d (c ∷ cs) × (covers r d ≡ true)
    go ih (inl h) = (c, mathlib.Core.List.Memᴰ.head refl, h)
    go ih (inr h) = let w = ih h in (w.0, mathlib.Core.List.Memᴰ.tail w.1, w.2)

pub where_wholly : (cs : List Chunk) (r : Region) (c : Chunk) → Memᴰ c cs → covers r c ≡ true → wholly cs r ≡ true
where_wholly [] r c m e = absurd (mathlib.Core.List.Memᴰ.not-nil m)
where_wholly (d ∷ cs) r c m e = go (where_wholly cs r c) (mathlib.Core.List.Memᴰ.cases_cons m)
  where
    go : (Memᴰ c cs → covers r c ≡ true → wholly cs r ≡ true) → (c ≡ d) ⊎ Memᴰ c cs → (covers r d || wholly cs r) ≡ true
    go ih (inl h) = or_left (covers r d) (wholly cs r) (sym (ap (covers r) h) ∙ e)
    go ih (inr k) = or_right (covers r d) (wholly cs r) (ih k e)

pub left_where : (rs : List Region) (c : Chunk) → is_covered rs c ≡ true → (r : Region) × Memᴰ r rs × (covers r c ≡ true)
left_where [] c e = absurd (true_false false e refl)
left_where (r ∷ rs) c e = go (left_where rs c) (or_cases (covers r c) (is_covered rs c) e)
  where
    go : (is_covered rs c ≡ true → (d : Region) × Memᴰ d rs × (covers d c ≡ true)) → (covers r c ≡ true) ⊎ (is_covered rs c ≡ true) → (d : Region) × Memᴰ d (r ∷ rs) × (covers d c ≡ true)
    go ih (inl h) = (r, mathlib.Core.List.Memᴰ.head refl, h)
    go ih (inr h) = let w = ih h in (w.0, mathlib.Core.List.Memᴰ.tail w.1, w.2)

pub where_left : (rs : List Region) (c : Chunk) (r : Region) → Memᴰ r rs → covers r c ≡ true → is_covered rs c ≡ true
where_left [] c r m e = absurd (mathlib.Core.List.Memᴰ.not-nil m)
where_left (d ∷ rs) c r m e = go (where_left rs c r) (mathlib.Core.List.Memᴰ.cases_cons m)
  where
    go : (Memᴰ r rs → covers r c ≡ true → is_covered rs c ≡ true) → (r ≡ d) ⊎ Memᴰ r rs → (covers d c || is_covered rs c) ≡ true
    go ih (inl h) = or_left (covers d c) (is_covered rs c) (sym (ap (λ (z : Region). covers z c) h) ∙ e)
    go ih (inr k) = or_right (covers d c) (is_covered rs c) (ih k e)

goes_wholly : (cs : List Chunk) (spare : Bool) (r : Region) (rs : List Region) → goes cs spare r rs ≡ true → wholly cs r ≡ true
goes_wholly cs spare r [] e = and_right (not spare) (wholly cs r) e
goes_wholly cs spare r (d ∷ rs) e = grind (arith, e)

-- ---- the regions that stay, and those that go

-- the region is the last of them
abbrev pub Last : Region → List Region → Type 0
Last r rs = (before : List Region) × (rs ≡ before ++ (r ∷ []))

-- those that go, as they stand
unfoldable pub going : List Chunk → Bool → List Region → List Region
going cs spare [] = []
going cs spare (r ∷ rs) = cond (goes cs spare r rs) (r ∷ going cs spare rs) (going cs spare rs)

module _ (cs : List Chunk) (spare : Bool) where
  pub going_in : (a : Region) (rs : List Region) → Memᴰ a (going cs spare rs) → Memᴰ a rs × (wholly cs a ≡ true)
  unfolding going
  going_in a [] m = absurd (mathlib.Core.List.Memᴰ.not-nil m)
  going_in a (r ∷ rs) m = go (going_in a rs) (taken_in (goes cs spare r rs) a r (going cs spare rs) m)
    where
      go : (Memᴰ a (going cs spare rs) → Memᴰ a rs × (wholly cs a ≡ true)) → ((a ≡ r) × (goes cs spare r rs ≡ true)) ⊎ Memᴰ a (going cs spare rs) → Memᴰ a (r ∷ rs) × (wholly cs a ≡ true)
      go ih (inl h) = (mathlib.Core.List.Memᴰ.head h.0, ap (wholly cs) h.0 ∙ goes_wholly cs spare r rs h.1)
      go ih (inr k) = let w = ih k in (mathlib.Core.List.Memᴰ.tail w.0, w.1)

  -- one that covers its chunk goes, but for the last where that is spared
  goes_or_last : (a : Region) (rs : List Region) → Memᴰ a rs → wholly cs a ≡ true → Memᴰ a (going cs spare rs) ⊎ ((spare ≡ true) × Last a rs)
  unfolding going
  goes_or_last a [] m e = absurd (mathlib.Core.List.Memᴰ.not-nil m)
  goes_or_last a (r ∷ []) m e = go spare refl
    where
      first : a ≡ r
      first = mathlib.Core.List.Memᴰ.eq_of_singleton m

      go : (b : Bool) → spare ≡ b → Memᴰ a (cond (not spare && wholly cs r) (r ∷ []) []) ⊎ ((spare ≡ true) × Last a (r ∷ []))
      go true h = inr (h, ([], ap (λ (z : Region). z ∷ []) (sym first)))
      go false h = inl (in_taken (not spare && wholly cs r) a r [] (inl (first, and_both (not spare) (wholly cs r) (ap not h) (sym (ap (wholly cs) first) ∙ e))))
  goes_or_last a (r ∷ d ∷ rs) m e = go (goes_or_last a (d ∷ rs)) (mathlib.Core.List.Memᴰ.cases_cons m)
    where
      go : (Memᴰ a (d ∷ rs) → wholly cs a ≡ true → Memᴰ a (going cs spare (d ∷ rs)) ⊎ ((spare ≡ true) × Last a (d ∷ rs))) → (a ≡ r) ⊎ Memᴰ a (d ∷ rs)
          → Memᴰ a (cond (wholly cs r) (r ∷ going cs spare (d ∷ rs)) (going cs spare (d ∷ rs))) ⊎ ((spare ≡ true) × Last a (r ∷ d ∷ rs))
      go ih (inl h) = inl (in_taken (wholly cs r) a r (going cs spare (d ∷ rs)) (inl (h, sym (ap (wholly cs) h) ∙ e)))
      go ih (inr k) =
          ⊎_elim (λ q. inl (in_taken (wholly cs r) a r (going cs spare (d ∷ rs)) (inr q))) (λ q. inr (q.0, (r ∷ q.1.0, ap (λ (z : List Region). r ∷ z) q.1.1))) (ih k e)

  pub staying_in : (a : Region) (rs : List Region) → Memᴰ a (staying cs spare rs) → Memᴰ a rs
  unfolding staying
  staying_in a [] m = m
  staying_in a (r ∷ rs) m = go (staying_in a rs) (left_in (goes cs spare r rs) a r (staying cs spare rs) m)
    where
      go : (Memᴰ a (staying cs spare rs) → Memᴰ a rs) → ((a ≡ r) × (goes cs spare r rs ≡ false)) ⊎ Memᴰ a (staying cs spare rs) → Memᴰ a (r ∷ rs)
      go ih (inl h) = mathlib.Core.List.Memᴰ.head h.0
      go ih (inr k) = mathlib.Core.List.Memᴰ.tail (ih k)

  pub staying_total : (f : Region → ℕ) (rs : List Region) → total f rs ≡ total f (staying cs spare rs) + total f (going cs spare rs)
  unfolding staying going
  staying_total f [] = refl
  staying_total f (r ∷ rs) = split_total f (goes cs spare r rs) r (staying cs spare rs) (going cs spare rs) rs (staying_total f rs)

  staying_rise : (lo hi : Region → ℕ) (g p : ℕ) (rs : List Region) → Rising lo hi g p rs → Rising lo hi g p (staying cs spare rs)
  unfolding staying
  staying_rise lo hi g p [] h = tt
  staying_rise lo hi g p (r ∷ rs) h = left_rise lo hi g p (goes cs spare r rs) r (staying cs spare rs) h.0 h.1 (staying_rise lo hi g (g + hi r) rs h.2)

  -- the walk lists those marked before it and those that go, in some order
  pub leaving_in : (a : Region) (marked rs : List Region) → Memᴰ a (leaving cs spare marked rs) → Memᴰ a marked ⊎ Memᴰ a (going cs spare rs)
  unfolding leaving going
  leaving_in a marked [] m = inl m
  leaving_in a marked (r ∷ rs) m = go (goes cs spare r rs) (leaving_in a (marked ++ (r ∷ [])) rs) (leaving_in a (rotated marked) rs) m
    where
      go : (b : Bool) → (Memᴰ a (leaving cs spare (marked ++ (r ∷ [])) rs) → Memᴰ a (marked ++ (r ∷ [])) ⊎ Memᴰ a (going cs spare rs))
          → (Memᴰ a (leaving cs spare (rotated marked) rs) → Memᴰ a (rotated marked) ⊎ Memᴰ a (going cs spare rs))
          → Memᴰ a (cond b (leaving cs spare (marked ++ (r ∷ [])) rs) (leaving cs spare (rotated marked) rs)) → Memᴰ a marked ⊎ Memᴰ a (cond b (r ∷ going cs spare rs) (going cs spare rs))
      go true f g k =
          ⊎_elim (λ h. ⊎_elim (λ q. inl q) (λ q. inr (mathlib.Core.List.Memᴰ.head (mathlib.Core.List.Memᴰ.eq_of_singleton q))) (mathlib.Core.List.Memᴰ.append_cases marked h)) (λ h. inr (mathlib.Core.List.Memᴰ.tail h)) (f k)
      go false f g k = ⊎_elim (λ h. inl (rotated_in a marked h)) (λ h. inr h) (g k)

  pub in_leaving : (a : Region) (marked rs : List Region) → Memᴰ a marked ⊎ Memᴰ a (going cs spare rs) → Memᴰ a (leaving cs spare marked rs)
  unfolding leaving going
  in_leaving a marked [] h = ⊎_elim (λ k. k) (λ k. absurd (mathlib.Core.List.Memᴰ.not-nil k)) h
  in_leaving a marked (r ∷ rs) h = go (goes cs spare r rs) (in_leaving a (marked ++ (r ∷ [])) rs) (in_leaving a (rotated marked) rs) h
    where
      go : (b : Bool) → (Memᴰ a (marked ++ (r ∷ [])) ⊎ Memᴰ a (going cs spare rs) → Memᴰ a (leaving cs spare (marked ++ (r ∷ [])) rs))
          → (Memᴰ a (rotated marked) ⊎ Memᴰ a (going cs spare rs) → Memᴰ a (leaving cs spare (rotated marked) rs))
          → Memᴰ a marked ⊎ Memᴰ a (cond b (r ∷ going cs spare rs) (going cs spare rs)) → Memᴰ a (cond b (leaving cs spare (marked ++ (r ∷ [])) rs) (leaving cs spare (rotated marked) rs))
      go true f g (inl k) = f (inl (mathlib.Core.List.Memᴰ.append_left (r ∷ []) k))
      go true f g (inr k) = f (⊎_elim (λ e. inl (mathlib.Core.List.Memᴰ.append_right marked (mathlib.Core.List.Memᴰ.head e))) (λ q. inr q) (mathlib.Core.List.Memᴰ.cases_cons k))
      go false f g (inl k) = g (inl (in_rotated a marked k))
      go false f g (inr k) = g (inr k)

-- the last, where it is spared, does not go
spared : (cs : List Chunk) (a r : Region) (before : List Region) → Memᴰ a (going cs true (before ++ (r ∷ []))) → Memᴰ a before
unfolding going
spared cs a r [] m = m
spared cs a r (d ∷ before) m = go (spared cs a r before) (taken_in (goes cs true d (before ++ (r ∷ []))) a d (going cs true (before ++ (r ∷ []))) m)
  where
    go : (Memᴰ a (going cs true (before ++ (r ∷ []))) → Memᴰ a before) → ((a ≡ d) × (goes cs true d (before ++ (r ∷ [])) ≡ true)) ⊎ Memᴰ a (going cs true (before ++ (r ∷ []))) → Memᴰ a (d ∷ before)
    go ih (inl h) = mathlib.Core.List.Memᴰ.head h.0
    go ih (inr k) = mathlib.Core.List.Memᴰ.tail (ih k)

-- all others end before it
before_last : (p : ℕ) (a r : Region) (before : List Region) → Rising lo hi 1 p (before ++ (r ∷ [])) → Memᴰ a before → hi a < lo r
before_last p a r [] h m = absurd (mathlib.Core.List.Memᴰ.not-nil m)
before_last p a r (d ∷ before) h m =
    ⊎_elim (λ e. omega (arith, ap hi e, (rising_low lo hi 1 (1 + hi d) (before ++ (r ∷ [])) h.2 r (mathlib.Core.List.Memᴰ.append_right before (mathlib.Core.List.Memᴰ.head refl))).0)) (λ k. before_last (1 + hi d) a r before h.2 k)
    (mathlib.Core.List.Memᴰ.cases_cons m)

-- ---- the chunks that remain, and those that do not

-- those that do not, as they stand
unfoldable pub removed : List Region → List Chunk → List Chunk
removed gone [] = []
removed gone (c ∷ cs) = cond (is_covered gone c) (c ∷ removed gone cs) (removed gone cs)

module _ (gone : List Region) where
  pub remaining_in : (a : Chunk) (cs : List Chunk) → Memᴰ a (remaining gone cs) → Memᴰ a cs × (is_covered gone a ≡ false)
  unfolding remaining
  remaining_in a [] m = absurd (mathlib.Core.List.Memᴰ.not-nil m)
  remaining_in a (c ∷ cs) m = go (remaining_in a cs) (left_in (is_covered gone c) a c (remaining gone cs) m)
    where
      go : (Memᴰ a (remaining gone cs) → Memᴰ a cs × (is_covered gone a ≡ false)) → ((a ≡ c) × (is_covered gone c ≡ false)) ⊎ Memᴰ a (remaining gone cs) → Memᴰ a (c ∷ cs) × (is_covered gone a ≡ false)
      go ih (inl h) = (mathlib.Core.List.Memᴰ.head h.0, ap (is_covered gone) h.0 ∙ h.1)
      go ih (inr k) = let w = ih k in (mathlib.Core.List.Memᴰ.tail w.0, w.1)

  pub in_remaining : (a : Chunk) (cs : List Chunk) → Memᴰ a cs → is_covered gone a ≡ false → Memᴰ a (remaining gone cs)
  unfolding remaining
  in_remaining a [] m e = m
  in_remaining a (c ∷ cs) m e =
      in_left (is_covered gone c) a c (remaining gone cs) (⊎_elim (λ h. inl (h, sym (ap (is_covered gone) h) ∙ e)) (λ k. inr (in_remaining a cs k e)) (mathlib.Core.List.Memᴰ.cases_cons m))

  pub removed_in : (a : Chunk) (cs : List Chunk) → Memᴰ a (removed gone cs) → is_covered gone a ≡ true
  unfolding removed
  removed_in a [] m = absurd (mathlib.Core.List.Memᴰ.not-nil m)
  removed_in a (c ∷ cs) m = go (removed_in a cs) (taken_in (is_covered gone c) a c (removed gone cs) m)
    where
      go : (Memᴰ a (removed gone cs) → is_covered gone a ≡ true) → ((a ≡ c) × (is_covered gone c ≡ true)) ⊎ Memᴰ a (removed gone cs) → is_covered gone a ≡ true
      go ih (inl h) = ap (is_covered gone) h.0 ∙ h.1
      go ih (inr k) = ih k

  pub in_removed : (a : Chunk) (cs : List Chunk) → Memᴰ a cs → is_covered gone a ≡ true → Memᴰ a (removed gone cs)
  unfolding removed
  in_removed a [] m e = m
  in_removed a (c ∷ cs) m e =
      in_taken (is_covered gone c) a c (removed gone cs) (⊎_elim (λ h. inl (h, sym (ap (is_covered gone) h) ∙ e)) (λ k. inr (in_removed a cs k e)) (mathlib.Core.List.Memᴰ.cases_cons m))

  pub remaining_total : (f : Chunk → ℕ) (cs : List Chunk) → total f cs ≡ total f (remaining gone cs) + total f (removed gone cs)
  unfolding remaining removed
  remaining_total f [] = refl
  remaining_total f (c ∷ cs) = split_total f (is_covered gone c) c (remaining gone cs) (removed gone cs) cs (remaining_total f cs)

  remaining_rise : (lo hi : Chunk → ℕ) (g p : ℕ) (cs : List Chunk) → Rising lo hi g p cs → Rising lo hi g p (remaining gone cs)
  unfolding remaining
  remaining_rise lo hi g p [] h = tt
  remaining_rise lo hi g p (c ∷ cs) h = left_rise lo hi g p (is_covered gone c) c (remaining gone cs) h.0 h.1 (remaining_rise lo hi g (g + hi c) cs h.2)

-- ---- a release: at every byte as many free regions go as chunks

module _ (s : FreeListSettings) (t : Store) (fit : FreeListIn s) (sound : Sound s t) (spare : Bool) where
  abbrev pub gone : List Region
  gone = leaving t.chunks spare [] t.regions

  in_gone : (r : Region) → Memᴰ r (going t.chunks spare t.regions) → Memᴰ r gone
  in_gone r m = in_leaving t.chunks spare r [] t.regions (inr m)

  pub gone_in : (r : Region) → Memᴰ r gone → Memᴰ r (going t.chunks spare t.regions)
  gone_in r m = ⊎_elim (λ k. absurd (mathlib.Core.List.Memᴰ.not-nil k)) (λ k. k) (leaving_in t.chunks spare r [] t.regions m)

  -- where a region that goes has a byte, a chunk that goes has it, and the other way round
  with_chunk : (n x : ℕ) → 0 < free n x (going t.chunks spare t.regions) → 0 < held n x (removed gone t.chunks)
  with_chunk n x h =
      let w = region_at_lem n x (going t.chunks spare t.regions) h in
      let v = wholly_where t.chunks w.0 (going_in t.chunks spare w.0 t.regions w.1).1 in
      let k = covers_yes w.0 v.0 v.2 in
      let m = in_removed gone v.0 t.chunks v.1 (where_left gone v.0 w.0 (in_gone w.0 w.1) v.2) in
      omega (
        arith,
        total_mem (λ (c : Chunk). on n x c.number 0 c.size) v.0 (removed gone t.chunks) m,
        on_in n x v.0.number 0 v.0.size (sym k.0 ∙ w.2) (omega arith) (omega (arith, w.4, k.2)),
      )

  with_region : (n x : ℕ) → 0 < held n x (removed gone t.chunks) → 0 < free n x (going t.chunks spare t.regions)
  with_region n x h =
      let w = held_where n x (removed gone t.chunks) h in
      let v = left_where gone w.0 (removed_in gone w.0 t.chunks w.1) in
      let k = covers_yes v.0 w.0 v.2 in
      at_region n x (going t.chunks spare t.regions) (v.0, gone_in v.0 v.1, k.0 ∙ w.2, omega (arith, k.1), omega (arith, k.2, w.3))

  -- so as many, since there is one or none
  as_many : (n x : ℕ) → free n x (going t.chunks spare t.regions) ≡ held n x (removed gone t.chunks)
  as_many n x = go (lt_or_le 0 (free n x (going t.chunks spare t.regions))) (lt_or_le 0 (held n x (removed gone t.chunks)))
    where
      one_free : free n x (going t.chunks spare t.regions) ≤ 1
      one_free = omega (arith, once s t fit sound n x, staying_total t.chunks spare (λ (r : Region). on n x r.chunk r.start r.end) t.regions)

      one_held : held n x (removed gone t.chunks) ≤ 1
      one_held = omega (arith, held_once 1 n x t.chunks sound.chunks_rise, remaining_total gone (λ (c : Chunk). on n x c.number 0 c.size) t.chunks)

      go : (0 < free n x (going t.chunks spare t.regions)) ⊎ (free n x (going t.chunks spare t.regions) ≤ 0) → (0 < held n x (removed gone t.chunks)) ⊎ (held n x (removed gone t.chunks) ≤ 0)
          → free n x (going t.chunks spare t.regions) ≡ held n x (removed gone t.chunks)
      go (inl p) q = omega (arith, with_chunk n x p, one_free, one_held)
      go (inr p) (inl q) = omega (arith, with_region n x q)
      go (inr p) (inr q) = omega arith

  pub released_sound : Sound s (released spare t)
  released_sound =
      let in_c : (c : Chunk) → Memᴰ c (remaining gone t.chunks) → Memᴰ c t.chunks = λ c m. (remaining_in gone c t.chunks m).0 in
      let in_r : (r : Region) → Memᴰ r (staying t.chunks spare t.regions) → Memᴰ r t.regions = λ r m. staying_in t.chunks spare r t.regions m in
      record {
        fills = λ n x.
            omega (
              arith,
              sound.fills n x,
              as_many n x,
              staying_total t.chunks spare (λ (r : Region). on n x r.chunk r.start r.end) t.regions,
              remaining_total gone (λ (c : Chunk). on n x c.number 0 c.size) t.chunks,
            );
        loans_rise = sound.loans_rise;
        regions_rise = staying_rise t.chunks spare lo hi 1 0 t.regions sound.regions_rise;
        chunks_rise = remaining_rise gone (λ (c : Chunk). c.number) (λ (c : Chunk). suc c.number) 0 1 t.chunks sound.chunks_rise;
        chunks_made = λ c m. sound.chunks_made c (in_c c m);
        memories_differ = λ a b m k. sound.memories_differ a b (in_c a m) (in_c b k);
        serials_given = sound.serials_given;
        serials_differ = sound.serials_differ;
        now_sized = sound.now_sized;
        chunks_sized = λ c m. sound.chunks_sized c (in_c c m);
        loans_units = sound.loans_units;
        regions_units = λ r m. sound.regions_units r (in_r r m);
      }

  -- "every wholly free chunk except the one of the last region is released": no other remains
  pub release_leaves : (c : Chunk) → Memᴰ c (released spare t).chunks → Idle t.loans c → (spare ≡ true) × (r : Region) × Last r t.regions × (r.chunk ≡ c.number)
  release_leaves c m f =
      let k = remaining_in gone c t.chunks m in
      let w = (wholly_free s t fit sound c k.0).0 f in
      let e = yes_covers w.0 c w.2 w.3 w.4 in
      ⊎_elim
      (λ g. absurd (true_false (is_covered gone c) (where_left gone c w.0 (in_gone w.0 g) e) k.1))
      (λ g. (g.0, w.0, g.1, w.2))
      (goes_or_last t.chunks spare w.0 t.regions w.1 (where_wholly t.chunks w.0 c k.0 e))

  -- a chunk that goes was wholly free
  pub released_idle : (c : Chunk) → Memᴰ c t.chunks → Memᴰ c (released spare t).chunks ⊎ Idle t.loans c
  released_idle c m = ⊎_elim (λ e. inr (idle (left_where gone c e))) (λ e. inl (in_remaining gone c t.chunks m e)) (told (is_covered gone c))
    where
      idle : (r : Region) × Memᴰ r gone × (covers r c ≡ true) → Idle t.loans c
      idle v =
          let k = covers_yes v.0 c v.2 in
          (wholly_free s t fit sound c m).1 (v.0, (going_in t.chunks spare v.0 t.regions (gone_in v.0 v.1)).0, k.0, k.1, k.2)

module _ (s : FreeListSettings) (t : Store) (fit : FreeListIn s) (sound : Sound s t) where
  -- "clean-up spares none"
  pub clean_up_leaves : (c : Chunk) → Memᴰ c (released false t).chunks → Idle t.loans c → ⊥
  clean_up_leaves c m f = true_false false (release_leaves s t fit sound false c m f).0 refl

  -- the chunk of the last region is spared
  pub last_spared : (r : Region) → Last r t.regions → (c : Chunk) → Memᴰ c t.chunks → r.chunk ≡ c.number → Memᴰ c (released true t).chunks
  last_spared r w c m e =
      ⊎_elim (λ h. absurd (other (left_where (gone s t fit sound true) c h))) (λ h. in_remaining (gone s t fit sound true) c t.chunks m h)
      (told (is_covered (gone s t fit sound true) c))
    where
      in_regions : Memᴰ r t.regions
      in_regions = rw w.1 (mathlib.Core.List.Memᴰ.append_right w.0 (mathlib.Core.List.Memᴰ.head refl))

      other : (d : Region) × Memᴰ d (gone s t fit sound true) × (covers d c ≡ true) → ⊥
      other v =
          let g : Memᴰ v.0 (going t.chunks true t.regions) = gone_in s t fit sound true v.0 v.1 in
          let q : Memᴰ v.0 (going t.chunks true (w.0 ++ (r ∷ []))) = rw w.1 at g in
          let rise : Rising lo hi 1 0 t.regions = sound.regions_rise in
          let k = before_last 0 v.0 r w.0 (rw w.1 at rise) (spared t.chunks v.0 r w.0 q) in
          let u = covers_yes v.0 c v.2 in
          let h = region_home s t fit sound r in_regions in
          let z = ap (λ (x : Chunk). x.size) (chunk_one s t fit sound h.0 c h.1 m (h.2 ∙ e)) in
          omega (arith, k, u.0, u.2, e, h.3, z, region_some s t fit sound r in_regions)
