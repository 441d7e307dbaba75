-- A chunk is needed exactly when no held chunk has a fitting free place.
use mathlib.Core.Path.{◌≡◌, refl, sym, ◌∙◌}
use mathlib.Core.Bool.{true, false}
use mathlib.Core.Logic.{◌↔◌, ⊎_elim}
use mathlib.Core.List.Memᴰ
use mathlib.Core.List.{List, [], ◌∷◌, Memᴰ}
use Prim.Native.Nat.{ℕ, suc, ◌+◌, ◌-◌, ◌%◌, ◌≤◌, ◌<◌}
use native.Mathlib.Omega.{arith}
use lib.ListN.{length, get_or}
use borrow.Author.Tests.{le-leb}
use Rattle.counter.specs.InTable.{FreeListIn}
use Rattle.counter.specs.Table.{alignment_ok}
use Rattle.counter.specs.declared.settings.FreeListSettings.{FreeListSettings}
use Rattle.counter.proofs.Tables.{alignment_yes}
use Rattle.lists.proofs.Bools.{and_both, lt_or_le}
use Rattle.rounding_rules.specs.Raising.{down_to}
use Rattle.rounding_rules.proofs.Raising.{down_enough, down_multiple, down_most, down_same, up_least}
use Rattle.freelist_rules.specs.Records.{Store}
use Rattle.freelist_rules.specs.Pieces.{loaned}
use Rattle.freelist_rules.specs.Sound.{Sound}
use Rattle.freelist_rules.specs.Place.{Found, nowhere, at, size_for, mask_for, cut, fits_in, find}
use Rattle.freelist_rules.specs.Steps.{no_region}
use Rattle.store_rules.specs.declared.Chunk.{Chunk}
use Rattle.store_rules.specs.declared.Region.{Region}
use Rattle.freelist_rules.proofs.Base.{never, at_in}
use Rattle.freelist_rules.proofs.Facts.{region_home, once}
use Rattle.freelist_rules.proofs.Search.{find_fits, find_nowhere}
use Rattle.freelist_rules.proofs.Meaning.{at_region, one_piece, one_region}
use Rattle.freelist_rules.proofs.Lends.{multiple_less, greater_multiple, multiple_through, fits_is, lent_block}

-- an aligned place whose bytes lie in the region: the region fits
pub fits_all : (mask n x : ℕ) (r : Region) → x % (mask + 1) ≡ 0 → r.start ≤ x → x + n ≤ r.end → fits_in mask n r ≡ true
unfolding fits_in
fits_all mask n x r e p q = and_both _ _ (le-leb n r.end (omega arith)) (le-leb r.start (cut mask n r) (omega (arith, down_most (r.end - n) mask x e (omega arith))))

-- where none fits by index, no member does
none_fits : (mask n : ℕ) (rs : List Region) → ((m : ℕ) → m < length rs → fits_in mask n (get_or rs m no_region) ≡ false) → (r : Region) → Memᴰ r rs → fits_in mask n r ≡ false
none_fits mask n [] f r m = absurd (Memᴰ.not-nil m)
none_fits mask n (c ∷ rs) f r m = ⊎_elim (λ e. rw e (f 0 (omega arith))) (none_fits mask n rs (λ k h. f (suc k) (omega arith)) r) (Memᴰ.cases_cons m)

module _ (s : FreeListSettings) (t : Store) (fit : FreeListIn s) (sound : Sound s t) (mask size : ℕ) (aligned : alignment_ok mask ≡ true) (some_size : 0 < size) where
  -- an aligned place in a held chunk, with no byte on loan
  abbrev pub Room : Type 0
  Room = (c : Chunk) × Memᴰ c t.chunks × (x : ℕ) × (x % (mask + 1) ≡ 0) × (x + size ≤ c.size) × ((y : ℕ) → x ≤ y → y < x + size → loaned c.number y t.loans ≡ 0)

  -- an aligned place taken down to the atom unit is aligned to both
  down_aligned : (x : ℕ) → x % (mask + 1) ≡ 0 → down_to x s.store.atom % (mask_for s mask + 1) ≡ 0
  down_aligned x e = ⊎_elim less more (lt_or_le mask s.store.atom)
    where
      less : mask < s.store.atom → down_to x s.store.atom % (mask_for s mask + 1) ≡ 0
      less h = let k : mask_for s mask ≡ s.store.atom = omega arith in rw k (down_multiple x s.store.atom)

      more : s.store.atom ≤ mask → down_to x s.store.atom % (mask_for s mask + 1) ≡ 0
      more h =
          let k : mask_for s mask ≡ mask = omega arith in
          let g = greater_multiple fit.store.atom (alignment_yes mask aligned) h in
          rw (k, down_same x s.store.atom (multiple_through (s.store.atom + 1) (mask + 1) x g e)) e

  -- a room lies in one free region, which fits: it starts and ends in whole units
  room_fits : Room → (r : Region) × Memᴰ r t.regions × (fits_in (mask_for s mask) (size_for s size) r ≡ true)
  room_fits w =
      let a : ℕ = s.store.atom in
      let x : ℕ = w.2 in
      let v = one_region s t fit sound w.0.number x size some_size (λ y p q. omega (arith, one_piece s t fit sound w.0 w.1 y (omega (arith, w.4)), w.5 y p q)) in
      let r : Region = v.0 in
      let u = sound.regions_units r v.1 in
      let d : ℕ = down_to x a in
      let l = down_enough x a in
      let p : r.start ≤ d = down_most x a r.start u.0 v.3 in
      let q = up_least size a (r.end - d) (multiple_less (a + 1) r.end d u.1 (down_multiple x a)) (omega (arith, v.4)) in
      (r, v.1, fits_all (mask_for s mask) (size_for s size) d r (down_aligned x w.3) p (omega (arith, v.4)))

  -- what is found is a room
  found_room : (i : ℕ) → find (mask_for s mask) (size_for s size) t.regions ≡ at i → Room
  found_room i e =
      let r : Region = get_or t.regions i no_region in
      let m : ℕ = mask_for s mask in
      let n : ℕ = size_for s size in
      let w = find_fits m n i t.regions no_region e in
      let f = fits_is m n r w.1 in
      let k = at_in i t.regions no_region w.0 in
      let h = region_home s t fit sound r k in
      let b = lent_block s t fit sound mask size aligned some_size i e in (
        h.0,
        h.1,
        cut m n r,
        b.0,
        omega (arith, b.2, h.3),
        λ y p q. omega (arith, once s t fit sound h.0.number y, at_region h.0.number y t.regions (r, k, sym h.2, omega (arith, f.1), omega (arith, b.2))),
      )

  pub order_when : (find (mask_for s mask) (size_for s size) t.regions ≡ nowhere) ↔ (Room → ⊥)
  order_when = (there, λ f. back f (find (mask_for s mask) (size_for s size) t.regions) refl)
    where
      there : find (mask_for s mask) (size_for s size) t.regions ≡ nowhere → Room → ⊥
      there e w =
          let v = room_fits w in
          never (sym v.2 ∙ none_fits (mask_for s mask) (size_for s size) t.regions (find_nowhere (mask_for s mask) (size_for s size) t.regions no_region e) v.0 v.1)

      back : (Room → ⊥) → (o : Found) → find (mask_for s mask) (size_for s size) t.regions ≡ o → find (mask_for s mask) (size_for s size) t.regions ≡ nowhere
      back f (at i) e = absurd (f (found_room i e))
      back f nowhere e = e
