-- Which chunks a release leaves: those with a loan and that of the last free region.
use mathlib.Core.Path.{◌≡◌, refl, sym, ◌∙◌, ap}
use mathlib.Core.Bool.{Bool, true, false, cond, ◌&&◌, ◌||◌, not}
use mathlib.Core.Logic.{◌⊎◌, inl, inr, ⊎_elim}
use mathlib.Core.List.Memᴰ
use mathlib.Core.List.{List, [], ◌∷◌, ◌++◌, Memᴰ}
use Prim.Native.Nat.{ℕ, ◌+◌, ◌≤◌}
use native.Mathlib.Omega.{arith}
use lib.Dec.{eqb}
use borrow.Author.Tests.{eqb-true, eqb-false, eq-eqb}
use Rattle.counter.specs.InTable.{FreeListIn}
use Rattle.counter.specs.declared.settings.FreeListSettings.{FreeListSettings}
use Rattle.lists.proofs.Bools.{and_right, and_both, or_cases, or_left, or_right}
use Rattle.store_rules.specs.declared.Loan.{Loan}
use Rattle.freelist_rules.specs.Records.{Store}
use Rattle.freelist_rules.specs.Pieces.{lo, hi, Rising, All}
use Rattle.freelist_rules.specs.Sound.{Sound}
use Rattle.freelist_rules.specs.Release.{covers, wholly, goes, staying, rotated, leaving, is_covered, remaining}
use Rattle.freelist_rules.specs.Steps.{released}
use Rattle.store_rules.specs.declared.Chunk.{Chunk}
use Rattle.store_rules.specs.declared.Region.{Region}
use Rattle.freelist_rules.proofs.Base.{never, rising_low}
use Rattle.freelist_rules.proofs.Facts.{region_home}
use Rattle.freelist_rules.proofs.Meaning.{chunk_one, wholly_free, idle_unnamed, unnamed_idle}
use Rattle.freelist_rules.proofs.Releases.{covers_yes, yes_covers, where_wholly}
use Rattle.freelist_rules.proofs.Giving.{those, some_of, some_where, some_yes}

-- ---- which chunks a release leaves

-- the chunk of the last region
abbrev pub last_or : ℕ → List Region → ℕ
last_or n [] = n
last_or n (r ∷ rs) = last_or r.chunk rs

-- some loan lies in chunk n
abbrev pub busy : List Loan → ℕ → Bool
busy ls n = some_of (λ (l : Loan). eqb l.chunk n) ls

abbrev pub stays : ℕ → List Loan → ℕ → Bool
stays spare ls n = busy ls n || eqb n spare

-- a region that goes covers the chunk
abbrev covered : List Chunk → List Region → Chunk → Bool
covered cs [] c = false
covered cs (r ∷ rs) c = (goes cs true r rs && covers r c) || covered cs rs c

or_swap : (a b c : Bool) → (a || (b || c)) ≡ ((a || b) || c)
or_swap true b c = refl
or_swap false b c = refl

or_turn : (a b : Bool) → (a || (b || false)) ≡ (b || a)
or_turn true true = refl
or_turn true false = refl
or_turn false true = refl
or_turn false false = refl

left_append : (xs ys : List Region) (c : Chunk) → is_covered (xs ++ ys) c ≡ (is_covered xs c || is_covered ys c)
left_append [] ys c = refl
left_append (x ∷ xs) ys c = ap (λ (z : Bool). covers x c || z) (left_append xs ys c) ∙ or_swap (covers x c) (is_covered xs c) (is_covered ys c)

left_rotated : (xs : List Region) (c : Chunk) → is_covered (rotated xs) c ≡ is_covered xs c
left_rotated [] c = refl
left_rotated (x ∷ xs) c = left_append xs (x ∷ []) c ∙ or_turn (is_covered xs c) (covers x c)

-- the order of those that leave does not matter
left_leaving : (cs : List Chunk) (marked rs : List Region) (c : Chunk) → is_covered (leaving cs true marked rs) c ≡ (is_covered marked c || covered cs rs c)
unfolding leaving
left_leaving cs marked [] c = or_none (is_covered marked c)
  where
    or_none : (a : Bool) → a ≡ (a || false)
    or_none true = refl
    or_none false = refl
left_leaving cs marked (r ∷ rs) c = go (goes cs true r rs) (left_leaving cs (marked ++ (r ∷ [])) rs c) (left_leaving cs (rotated marked) rs c)
  where
    one : (a b d : Bool) → ((a || (b || false)) || d) ≡ (a || (b || d))
    one true b d = refl
    one false true d = refl
    one false false d = refl

    go : (g : Bool) → is_covered (leaving cs true (marked ++ (r ∷ [])) rs) c ≡ (is_covered (marked ++ (r ∷ [])) c || covered cs rs c) → is_covered (leaving cs true (rotated marked) rs) c ≡ (is_covered (rotated marked) c || covered cs rs c)
        → is_covered (cond g (leaving cs true (marked ++ (r ∷ [])) rs) (leaving cs true (rotated marked) rs)) c ≡ (is_covered marked c || ((g && covers r c) || covered cs rs c))
    go true p q = p ∙ ap (λ (z : Bool). z || covered cs rs c) (left_append marked (r ∷ []) c) ∙ one (is_covered marked c) (covers r c) (covered cs rs c)
    go false p q = q ∙ ap (λ (z : Bool). z || covered cs rs c) (left_rotated marked c)

remaining_those : (gone : List Region) (p : Chunk → Bool) (cs : List Chunk) → ((c : Chunk) → Memᴰ c cs → is_covered gone c ≡ not (p c)) → remaining gone cs ≡ those p cs
unfolding remaining
remaining_those gone p [] h = refl
remaining_those gone p (c ∷ cs) h = go (p c) (h c (Memᴰ.head refl)) (remaining_those gone p cs (λ d m. h d (Memᴰ.tail m)))
  where
    go : (b : Bool) → is_covered gone c ≡ not b → remaining gone cs ≡ those p cs → cond (is_covered gone c) (remaining gone cs) (c ∷ remaining gone cs) ≡ cond b (c ∷ those p cs) (those p cs)
    go true e ih = rw (e, ih)
    go false e ih = rw (e, ih)

-- ---- on a sound store

covered_where : (cs : List Chunk) (rs : List Region) (c : Chunk) → covered cs rs c ≡ true → (r : Region) × Memᴰ r rs × (covers r c ≡ true)
covered_where cs [] c e = never (sym e)
covered_where cs (r ∷ rs) c e = go (or_cases (goes cs true r rs && covers r c) (covered cs rs c) e) (covered_where cs rs c)
  where
    go : ((goes cs true r rs && covers r c) ≡ true) ⊎ (covered cs rs c ≡ true) → (covered cs rs c ≡ true → (d : Region) × Memᴰ d rs × (covers d c ≡ true)) → (d : Region) × Memᴰ d (r ∷ rs) × (covers d c ≡ true)
    go (inl f) ih = (r, Memᴰ.head refl, and_right (goes cs true r rs) (covers r c) f)
    go (inr f) ih = let w = ih f in (w.0, Memᴰ.tail w.1, w.2)

-- the last region is one of them
last_in : (d : ℕ) (r : Region) (rs : List Region) → (y : Region) × Memᴰ y (r ∷ rs) × (last_or d (r ∷ rs) ≡ y.chunk)
last_in d r [] = (r, Memᴰ.head refl, refl)
last_in d r (x ∷ rs) = let w = last_in d x rs in (w.0, Memᴰ.tail w.1, w.2)

-- one that covers its chunk and leaves has none after it in that chunk
covered_not_last : (p d : ℕ) (cs : List Chunk) (rs : List Region) (c : Chunk) → Rising lo hi 1 p rs → All (λ (r : Region). r.chunk ≡ c.number → r.end ≤ c.size) rs → covered cs rs c ≡ true → c.number ≡ last_or d rs → ⊥
covered_not_last p d cs [] c r f e q = never (sym e)
covered_not_last p d cs (a ∷ []) c r f e q = never (sym e)
covered_not_last p d cs (a ∷ x ∷ rs) c r f e q =
    ⊎_elim
    (λ h.
    let k = covers_yes a c (and_right (goes cs true a (x ∷ rs)) (covers a c) h) in
    let w = last_in d x rs in
    let z = rising_low lo hi 1 (1 + hi a) (x ∷ rs) r.2 w.0 w.1 in
    let g : w.0.chunk ≡ c.number = sym (q ∙ w.2) in
    omega (arith, k.0, k.2, z.0, z.1, f w.0 (Memᴰ.tail w.1) g))
    (λ h. covered_not_last (1 + hi a) d cs (x ∷ rs) c r.2 (λ y m. f y (Memᴰ.tail m)) h q)
    (or_cases (goes cs true a (x ∷ rs) && covers a c) (covered cs (x ∷ rs) c) e)

-- one that covers its chunk leaves where the last is of another chunk
not_last_covered : (d : ℕ) (cs : List Chunk) (rs : List Region) (c : Chunk) (r : Region) → Memᴰ c cs → Memᴰ r rs → covers r c ≡ true → (c.number ≡ last_or d rs → ⊥) → covered cs rs c ≡ true
not_last_covered d cs [] c r k m e f = absurd (Memᴰ.not-nil m)
not_last_covered d cs (a ∷ []) c r k m e f =
    ⊎_elim (λ h. absurd (f (sym (covers_yes r c e).0 ∙ ap (λ (y : Region). y.chunk) h))) (λ h. absurd (Memᴰ.not-nil h)) (Memᴰ.cases_cons m)
not_last_covered d cs (a ∷ x ∷ rs) c r k m e f =
    ⊎_elim
    (λ h.
    let g : covers a c ≡ true = sym (ap (λ (y : Region). covers y c) h) ∙ e in
    or_left (goes cs true a (x ∷ rs) && covers a c) (covered cs (x ∷ rs) c) (and_both _ _ (where_wholly cs a c k g) g))
    (λ h. or_right (goes cs true a (x ∷ rs) && covers a c) (covered cs (x ∷ rs) c) (not_last_covered d cs (x ∷ rs) c r k h e f))
    (Memᴰ.cases_cons m)

opposite : (a b : Bool) → (a ≡ true → b ≡ true → ⊥) → (b ≡ false → a ≡ true) → a ≡ not b
opposite true true f g = absurd (f refl refl)
opposite true false f g = refl
opposite false true f g = refl
opposite false false f g = never (sym (g refl))

or_none : (a b : Bool) → (a || b) ≡ false → (a ≡ false) × (b ≡ false)
or_none true b e = never e
or_none false b e = (refl, e)

-- the last region stays
staying_last : (cs : List Chunk) (d : ℕ) (rs : List Region) → last_or d (staying cs true rs) ≡ last_or d rs
unfolding staying
staying_last cs d [] = refl
staying_last cs d (r ∷ []) = refl
staying_last cs d (r ∷ x ∷ rs) = go (wholly cs r) (staying_last cs d (x ∷ rs)) (staying_last cs r.chunk (x ∷ rs))
  where
    go : (b : Bool) → last_or d (staying cs true (x ∷ rs)) ≡ last_or d (x ∷ rs) → last_or r.chunk (staying cs true (x ∷ rs)) ≡ last_or r.chunk (x ∷ rs) → last_or d (cond b (staying cs true (x ∷ rs)) (r ∷ staying cs true (x ∷ rs))) ≡ last_or d (r ∷ x ∷ rs)
    go true p q = p
    go false p q = q

module _ (s : FreeListSettings) (t : Store) (fit : FreeListIn s) (sound : Sound s t) where
  -- a chunk leaves where no loan lies in it and the last region does not
  leaves : (c : Chunk) → Memᴰ c t.chunks → covered t.chunks t.regions c ≡ not (stays (last_or 0 t.regions) t.loans c.number)
  leaves c m = opposite (covered t.chunks t.regions c) (stays (last_or 0 t.regions) t.loans c.number) there back
    where
      fits : All (λ (r : Region). r.chunk ≡ c.number → r.end ≤ c.size) t.regions
      fits r k e = let h = region_home s t fit sound r k in omega (arith, h.3, ap (λ (d : Chunk). d.size) (chunk_one s t fit sound h.0 c h.1 m (h.2 ∙ e)))

      there : covered t.chunks t.regions c ≡ true → stays (last_or 0 t.regions) t.loans c.number ≡ true → ⊥
      there e f =
          let w = covered_where t.chunks t.regions c e in
          let k = covers_yes w.0 c w.2 in
          let idle = (wholly_free s t fit sound c m).1 (w.0, w.1, k.0, k.1, k.2) in
          ⊎_elim
          (λ h. let v = some_where (λ (l : Loan). eqb l.chunk c.number) t.loans h in idle_unnamed s t fit sound c m idle v.0 v.1 (eqb-true _ _ v.2))
          (λ h. covered_not_last 0 0 t.chunks t.regions c sound.regions_rise fits e (eqb-true _ _ h))
          (or_cases (busy t.loans c.number) (eqb c.number (last_or 0 t.regions)) f)

      back : stays (last_or 0 t.regions) t.loans c.number ≡ false → covered t.chunks t.regions c ≡ true
      back f =
          let g = or_none (busy t.loans c.number) (eqb c.number (last_or 0 t.regions)) f in
          let idle = unnamed_idle s t fit sound c (λ l k e. never (sym (some_yes (λ (d : Loan). eqb d.chunk c.number) t.loans l k (eq-eqb l.chunk c.number e)) ∙ g.0)) in
          let w = (wholly_free s t fit sound c m).0 idle in
          not_last_covered 0 t.chunks t.regions c w.0 m w.1 (yes_covers w.0 c w.2 w.3 w.4) (eqb-false _ _ g.1)

  -- a release leaves the chunks that have a loan, and the last region's
  pub released_chunks : (released true t).chunks ≡ those (λ (c : Chunk). stays (last_or 0 t.regions) t.loans c.number) t.chunks
  released_chunks = remaining_those (leaving t.chunks true [] t.regions) _ t.chunks (λ c m. left_leaving t.chunks [] t.regions c ∙ leaves c m)

  -- and the last region, so that the last region's chunk is the same
  pub released_last : last_or 0 (released true t).regions ≡ last_or 0 t.regions
  released_last = staying_last t.chunks 0 t.regions
