-- Set-up, an order and a good delivery: the store is sound after each, and a new chunk serves the ask.
use mathlib.Core.Path.{◌≡◌, refl, sym, ◌∙◌, ap}
use mathlib.Core.Bool.{true}
use mathlib.Core.Logic.{◌⊎◌, inl, inr, ⊎_elim}
use mathlib.Core.List.Memᴰ
use mathlib.Core.List.{List, [], ◌∷◌, ◌++◌, Memᴰ}
use Prim.Native.Nat.{ℕ, suc, ◌+◌, ◌*◌, ◌^◌, ◌≤◌, ◌<◌, min}
use native.Mathlib.Omega.{arith}
use native.Mathlib.Nat.{mul_assoc, mul-one, one-le-pow, le-mul_of_pos_right, zero-mod}
use lib.ListN.{length}
use lib.Pow.{pow-add}
use borrow.Author.Tests.{le-leb}
use Rattle.lists.proofs.Bools.{and_both, lt_or_le}
use Rattle.rounding_rules.specs.Growth.{grown, doubled}
use Rattle.rounding_rules.proofs.Growth.{grown_form, grown_least, doubled_form, doubled_least}
use Rattle.counter.specs.InTable.{FreeListIn}
use Rattle.counter.specs.declared.settings.FreeListSettings.{FreeListSettings}
use Rattle.freelist_rules.specs.Records.{Store, region, chunk}
use Rattle.freelist_rules.specs.Pieces.{on, total, lo, hi, Rising, All}
use Rattle.freelist_rules.specs.Sound.{Sized, Sound}
use Rattle.freelist_rules.specs.Place.{at, fits_in, find_from, find, cut}
use Rattle.freelist_rules.specs.Steps.{fresh, raised, delivered}
use Rattle.store_rules.specs.declared.Chunk.{Chunk}
use Rattle.store_rules.specs.declared.Region.{Region}
use Rattle.freelist_rules.proofs.Facts.{has, sized_low, sized_some, region_home, region_low}
use Rattle.freelist_rules.proofs.Units.{sized_units}

-- ---- set-up

pub fresh_sound : (s : FreeListSettings) → FreeListIn s → Sound s (fresh s)
fresh_sound s fit =
    record {
      fills = λ n x. refl;
      loans_rise = tt;
      regions_rise = tt;
      chunks_rise = tt;
      chunks_made = λ c m. absurd (Memᴰ.not-nil m);
      memories_differ = λ a b m k e. absurd (Memᴰ.not-nil m);
      serials_given = λ l m. absurd (Memᴰ.not-nil m);
      serials_differ = λ a b m k e. absurd (Memᴰ.not-nil m);
      now_sized = (0, omega (arith, mul-one s.start, fit.start_most));
      chunks_sized = λ c m. absurd (Memᴰ.not-nil m);
      loans_units = λ l m. absurd (Memᴰ.not-nil m);
      regions_units = λ r m. absurd (Memᴰ.not-nil m);
    }

-- ---- the size of a new chunk

module _ (s : FreeListSettings) where
  -- a size doubled j times, up to the final one, is such a size
  sized_more : (j z : ℕ) → Sized s z → Sized s (min (z * 2 ^ j) s.last)
  sized_more j z w =
      let e : s.start * 2 ^ (w.0 + j) ≡ s.start * 2 ^ w.0 * 2 ^ j = ap (λ (q : ℕ). s.start * q) (pow-add 2 w.0 j) ∙ sym (mul_assoc s.start (2 ^ w.0) (2 ^ j)) in
      (w.0 + j, rw e (go (lt_or_le s.last (s.start * 2 ^ w.0)) w.1))
    where
      some : 1 ≤ 2 ^ j
      some = one-le-pow j 2 (omega arith)

      go : (s.last < s.start * 2 ^ w.0) ⊎ (s.start * 2 ^ w.0 ≤ s.last) → z ≡ min (s.start * 2 ^ w.0) s.last → min (z * 2 ^ j) s.last ≡ min (s.start * 2 ^ w.0 * 2 ^ j) s.last
      go (inl h) q =
          let r : z ≡ s.last = omega arith in
          rw r (omega (arith, le-mul_of_pos_right {m = 2 ^ j} s.last some, le-mul_of_pos_right {m = 2 ^ j} (s.start * 2 ^ w.0) some))
      go (inr h) q = let r : z ≡ s.start * 2 ^ w.0 = omega arith in rw r

  pub grown_sized : (n z : ℕ) → Sized s z → Sized s (grown z n s.last)
  grown_sized n z w = let v = grown_form z n s.last in rw v.1 (sized_more v.0 z w)

  pub doubled_sized : (z : ℕ) → Sized s z → Sized s (doubled z s.last)
  doubled_sized z w = rw (doubled_form z s.last) (sized_more 1 z w)

-- ---- an order

pub raised_sound : (s : FreeListSettings) (t : Store) → Sound s t → (n : ℕ) → Sound s (raised (grown t.size n s.last) t)
raised_sound s t sound n =
    let more = grown_least t.size n s.last (sized_low s t.size sound.now_sized) in
    record {
      fills = sound.fills;
      loans_rise = sound.loans_rise;
      regions_rise = sound.regions_rise;
      chunks_rise = sound.chunks_rise;
      chunks_made = sound.chunks_made;
      memories_differ = sound.memories_differ;
      serials_given = sound.serials_given;
      serials_differ = sound.serials_differ;
      now_sized = grown_sized s n t.size sound.now_sized;
      chunks_sized = λ c m. ((sound.chunks_sized c m).0, omega (arith, (sound.chunks_sized c m).1, more));
      loans_units = sound.loans_units;
      regions_units = sound.regions_units;
    }

-- ---- one more at the end of a list

module _ {A : Type 0} where
  total_end : (f : A → ℕ) (xs : List A) (z : A) → total f (xs ++ (z ∷ [])) ≡ total f xs + f z
  total_end f [] z = omega arith
  total_end f (a ∷ xs) z = omega (arith, total_end f xs z)

  end_cases : (xs : List A) (z a : A) → Memᴰ a (xs ++ (z ∷ [])) → Memᴰ a xs ⊎ (a ≡ z)
  end_cases xs z a m = ⊎_elim (λ h. inl h) (λ h. inr (Memᴰ.eq_of_singleton h)) (Memᴰ.append_cases xs m)

  rising_end : (begin stop : A → ℕ) (g p : ℕ) (xs : List A) (z : A) → p ≤ begin z → begin z < stop z → ((a : A) → Memᴰ a xs → g + stop a ≤ begin z) → Rising begin stop g p xs
      → Rising begin stop g p (xs ++ (z ∷ []))
  rising_end begin stop g p [] z h k f r = (h, k, tt)
  rising_end begin stop g p (a ∷ xs) z h k f r = (r.0, r.1, rising_end begin stop g (g + stop a) xs z (f a (Memᴰ.head refl)) k (λ b m. f b (Memᴰ.tail m)) r.2)

-- ---- a good delivery: of the chunk size now, as the order raised it, under a memory number that is not held

module _ (s : FreeListSettings) (t : Store) (fit : FreeListIn s) (sound : Sound s t) (memory : ℕ) (new : All (λ (c : Chunk). c.memory ≡ memory → ⊥) t.chunks) where
  abbrev z : ℕ
  z = t.size

  abbrev last : Chunk
  last = chunk (t.made + 1) memory z

  abbrev whole : Region
  whole = region (t.made + 1) 0 z

  z_some : 0 < z
  z_some = sized_some s fit z sound.now_sized

  z_low : z ≤ doubled z s.last
  z_low = doubled_least z s.last (sized_low s z sound.now_sized)

  below : (r : Region) → Memᴰ r t.regions → 1 + hi r ≤ lo whole
  below r m =
      let w = region_home s t fit sound r m in
      omega (arith, sound.chunks_made w.0 w.1, w.2, region_low s t fit sound r m)

  differ : (a b : Chunk) → Memᴰ a t.chunks ⊎ (a ≡ last) → Memᴰ b t.chunks ⊎ (b ≡ last) → a.memory ≡ b.memory → a ≡ b
  differ a b (inl p) (inl q) e = sound.memories_differ a b p q e
  differ a b (inl p) (inr q) e = absurd (new a p (e ∙ ap (λ (d : Chunk). d.memory) q))
  differ a b (inr p) (inl q) e = absurd (new b q (sym e ∙ ap (λ (d : Chunk). d.memory) p))
  differ a b (inr p) (inr q) e = p ∙ sym q

  pub delivered_sound : Sound s (delivered s memory z t)
  delivered_sound =
      record {
        fills = λ n x. omega (arith, sound.fills n x, total_end (has n x) t.regions whole, total_end (λ (c : Chunk). on n x c.number 0 c.size) t.chunks last);
        loans_rise = sound.loans_rise;
        regions_rise = rising_end lo hi 1 0 t.regions whole (omega arith) (omega (arith, z_some)) below sound.regions_rise;
        chunks_rise = rising_end (λ (c : Chunk). c.number) (λ (c : Chunk). suc c.number) 0 1 t.chunks last (omega arith) (omega arith) (λ c m. omega (arith, sound.chunks_made c m)) sound.chunks_rise;
        chunks_made = λ c m. ⊎_elim (λ h. omega (arith, sound.chunks_made c h)) (λ h. omega (arith, ap (λ (d : Chunk). d.number) h)) (end_cases t.chunks last c m);
        memories_differ = λ a b m k e. differ a b (end_cases t.chunks last a m) (end_cases t.chunks last b k) e;
        serials_given = sound.serials_given;
        serials_differ = sound.serials_differ;
        now_sized = doubled_sized s z sound.now_sized;
        chunks_sized = λ c m. ⊎_elim (λ h. ((sound.chunks_sized c h).0, omega (arith, (sound.chunks_sized c h).1, z_low))) (λ h. rw h (sound.now_sized, z_low)) (end_cases t.chunks last c m);
        loans_units = sound.loans_units;
        regions_units = λ r m. ⊎_elim (λ h. sound.regions_units r h) (λ h. rw h (zero-mod (s.store.atom + 1), sized_units s fit z sound.now_sized)) (end_cases t.regions whole r m);
      }

-- ---- the block of a new chunk: the search begins at its region, and it fits

from_end : (mask n i : ℕ) (rs : List Region) (r : Region) → fits_in mask n r ≡ true → find_from mask n i (rs ++ (r ∷ [])) ≡ at (i + length rs)
unfolding find_from
from_end mask n i [] r e = let h : i ≡ i + 0 = omega arith in rw e (ap at h)
from_end mask n i (d ∷ rs) r e = let h : suc i + length rs ≡ i + length (d ∷ rs) = omega arith in rw (from_end mask n (suc i) rs r e) (ap at h)

pub delivered_serves : (s : FreeListSettings) (t : Store) (memory z mask n : ℕ) → n ≤ z → find mask n (delivered s memory z t).regions ≡ at (length t.regions)
unfolding fits_in
delivered_serves s t memory z mask n h =
    let r = region (t.made + 1) 0 z in
    let e : 0 + length t.regions ≡ length t.regions = omega arith in
    from_end mask n 0 t.regions r (and_both _ _ (le-leb n z h) (le-leb 0 (cut mask n r) (omega arith))) ∙ ap at e
