-- An ask that a region serves keeps a store sound, and what is lent.
use mathlib.Core.Path.{◌≡◌, refl, sym, ◌∙◌, ap}
use mathlib.Core.Bool.{true, false}
use mathlib.Core.Logic.{◌⊎◌, inl, inr, ⊎_elim}
use mathlib.Core.List.{List, [], ◌∷◌, Memᴰ}
use Prim.Native.Nat.{ℕ, zero, suc, ◌+◌, ◌-◌, ◌*◌, ◌/◌, ◌%◌, ◌≤◌, ◌<◌, max}
use native.Mathlib.Nat.{mul_comm, mul-sub, mul-mod_left, mod_self}
use native.Mathlib.Omega.{arith}
use lib.Dec.{ltb, leb}
use lib.ListN.{length, get_or, set}
use borrow.Author.Tests.{ltb-true, ltb-false, leb-true}
use Rattle.counter.specs.InTable.{FreeListIn}
use Rattle.counter.specs.Table.{alignment_ok}
use Rattle.counter.specs.declared.settings.FreeListSettings.{FreeListSettings}
use Rattle.counter.proofs.Tables.{alignment_yes}
use Rattle.lists.proofs.Bools.{and_left, and_right, told, lt_or_le}
use Rattle.rounding_rules.specs.Masks.{Ones}
use Rattle.rounding_rules.proofs.Masks.{ones_size}
use Rattle.rounding_rules.proofs.Powers.{log_le, power_multiple}
use Rattle.rounding_rules.proofs.Raising.{whole, down_enough, down_multiple, up_enough}
use Rattle.store_rules.specs.declared.Loan.{Loan}
use Rattle.words.specs.Rows.{remove_at}
use Rattle.freelist_rules.specs.Records.{Store, region}
use Rattle.freelist_rules.specs.Pieces.{on, total, piece, free, line, lo, hi, Rising, All}
use Rattle.freelist_rules.specs.Sound.{Units, Sound}
use Rattle.freelist_rules.specs.Place.{at, size_for, mask_for, cut, fits_in, find, cut_off, lent_loan, put_loan}
use Rattle.freelist_rules.specs.Steps.{no_region, served, lent}
use Rattle.store_rules.specs.declared.Region.{Region}
use Rattle.freelist_rules.proofs.Base.{on_join, total_mem, rising_mono, at_in}
use Rattle.freelist_rules.proofs.Facts.{has, apart_pieces, region_low, loan_some, loan_low, once}
use Rattle.freelist_rules.proofs.Gaps.{begins, stops}
use Rattle.freelist_rules.proofs.Units.{multiple_times}
use Rattle.freelist_rules.proofs.Search.{find_fits}

-- ---- multiples

pub multiple_less : (u a b : ℕ) → a % u ≡ 0 → b % u ≡ 0 → (a - b) % u ≡ 0
multiple_less u a b p q = ap (λ (x : ℕ). x % u) turned ∙ mul-mod_left (a / u - b / u) u
  where
    turned : a - b ≡ (a / u - b / u) * u
    turned = omega (arith, whole a u p, whole b u q, mul_comm (a / u - b / u) u, mul-sub u (a / u) (b / u), mul_comm u (a / u), mul_comm u (b / u))

pub multiple_through : (u v x : ℕ) → v % u ≡ 0 → x % v ≡ 0 → x % u ≡ 0
multiple_through u v x p q = ap (λ (k : ℕ). k % u) (sym (whole x v q) ∙ mul_comm (x / v) v) ∙ multiple_times u v (x / v) p

-- the unit of a mask divides that of a greater one
pub greater_multiple : {j k a b : ℕ} → Ones j a → Ones k b → a ≤ b → (b + 1) % (a + 1) ≡ 0
greater_multiple p q h = rw (ones_size p, ones_size q) (power_multiple p.log q.log (log_le p.log q.log (omega (arith, ones_size p, ones_size q))))

-- of two masks the greater is aligned to both
pub both_multiple : {j k a b : ℕ} → Ones j a → Ones k b → ((max a b + 1) % (a + 1) ≡ 0) × ((max a b + 1) % (b + 1) ≡ 0)
both_multiple {j} {k} {a} {b} p q = ⊎_elim less more (lt_or_le a b)
  where
    less : a < b → ((max a b + 1) % (a + 1) ≡ 0) × ((max a b + 1) % (b + 1) ≡ 0)
    less h = let e : max a b ≡ b = omega arith in rw e (greater_multiple p q (omega arith), mod_self (b + 1))

    more : b ≤ a → ((max a b + 1) % (a + 1) ≡ 0) × ((max a b + 1) % (b + 1) ≡ 0)
    more h = let e : max a b ≡ a = omega arith in rw e (mod_self (a + 1), greater_multiple q p h)

-- ---- a region that fits

pub fits_is : (mask n : ℕ) (r : Region) → fits_in mask n r ≡ true → (n ≤ r.end) × (r.start ≤ cut mask n r)
unfolding fits_in
fits_is mask n r e =
    let a = leb n r.end in
    let b = leb r.start (cut mask n r) in
    (leb-true n r.end (and_left a b e), leb-true r.start (cut mask n r) (and_right a b e))

pub cut_low : (mask n : ℕ) (r : Region) → n ≤ r.end → cut mask n r + n ≤ r.end
cut_low mask n r h = omega (arith, down_enough (r.end - n) mask)

-- ---- a block cut off the end of a region

-- b was taken from rs, and left is what stays
record Took (b : Region) (rs left : List Region) : Type 0 where
  count : (m x : ℕ) → free m x rs ≡ has m x b + free m x left
  rise : (p : ℕ) → Rising lo hi 1 p rs → Rising lo hi 1 p left
  parts : (r : Region) → Memᴰ r left → Memᴰ r rs ⊎ ((r.end ≡ b.start) × ((d : Region) × Memᴰ d rs × (r.start ≡ d.start)))

took_later : (r b : Region) (rs left : List Region) → Took b rs left → Took b (r ∷ rs) (r ∷ left)
took_later r b rs left k =
    record {
      count = λ m x. omega (arith, k.count m x);
      rise = λ p h. (h.0, h.1, k.rise (1 + hi r) h.2);
      parts = λ d m. ⊎_elim (λ e. inl (mathlib.Core.List.Memᴰ.head e)) (λ e. ⊎_elim (λ f. inl (mathlib.Core.List.Memᴰ.tail f)) (λ f. inr (f.0, (f.1.0, mathlib.Core.List.Memᴰ.tail f.1.1, f.1.2))) (k.parts d e)) (mathlib.Core.List.Memᴰ.cases_cons m);
    }

-- a part of the region stays
took_part : (x i : ℕ) (rs : List Region) (d : Region) → i < length rs → (get_or rs i d).start < x → x ≤ (get_or rs i d).end
    → Took (region (get_or rs i d).chunk x (get_or rs i d).end) rs (set rs i (region (get_or rs i d).chunk (get_or rs i d).start x))
took_part x i [] d h p q = absurd (omega arith)
took_part x zero (r ∷ rs) d h p q =
    record {
      count = λ m y. omega (arith, on_join m y r.chunk r.chunk r.start x r.end refl (omega arith) q);
      rise = λ b w. (w.0, omega arith, rising_mono lo hi 1 (1 + line r.chunk x) (1 + hi r) rs (omega arith) w.2);
      parts = λ c m. ⊎_elim (λ k. inr (ap (λ (z : Region). z.end) k, (r, mathlib.Core.List.Memᴰ.head refl, ap (λ (z : Region). z.start) k))) (λ k. inl (mathlib.Core.List.Memᴰ.tail k)) (mathlib.Core.List.Memᴰ.cases_cons m);
    }
took_part x (suc i) (r ∷ rs) d h p q = took_later r _ rs _ (took_part x i rs d (omega arith) p q)

-- the whole region goes
took_whole : (x i : ℕ) (rs : List Region) (d : Region) → i < length rs → x ≡ (get_or rs i d).start → Took (region (get_or rs i d).chunk x (get_or rs i d).end) rs (remove_at i rs)
took_whole x i [] d h e = absurd (omega arith)
took_whole x zero (r ∷ rs) d h e =
    record {
      count = λ m y. omega (arith, ap (λ (z : ℕ). on m y r.chunk z r.end) e);
      rise = λ b w. rising_mono lo hi 1 b (1 + hi r) rs (omega (arith, w.0, w.1)) w.2;
      parts = λ c m. inl (mathlib.Core.List.Memᴰ.tail m);
    }
took_whole x (suc i) (r ∷ rs) d h e = took_later r _ rs _ (took_whole x i rs d (omega arith) e)

took : (x i : ℕ) (rs : List Region) → i < length rs → (get_or rs i no_region).start ≤ x → x ≤ (get_or rs i no_region).end → Took (region (get_or rs i no_region).chunk x (get_or rs i no_region).end) rs (cut_off x i rs)
unfolding cut_off
took x i rs h p q =
    ⊎_elim
    (λ e. rw e (took_part x i rs no_region h (ltb-true (get_or rs i no_region).start x e) q))
    (λ e. rw e (took_whole x i rs no_region h (omega (arith, ltb-false (get_or rs i no_region).start x e))))
    (told (ltb (get_or rs i no_region).start x))

-- ---- a loan put among the loans

pub put_total : (f : Loan → ℕ) (l : Loan) (ls : List Loan) → total f (put_loan l ls) ≡ f l + total f ls
put_total f l [] = refl
put_total f l (m ∷ ms) = ⊎_elim (λ e. rw e) (λ e. rw e (omega (arith, put_total f l ms))) (told (ltb (begins l) (begins m)))

pub put_member : (l : Loan) (ls : List Loan) (a : Loan) → Memᴰ a (put_loan l ls) → (a ≡ l) ⊎ Memᴰ a ls
put_member l [] a m = mathlib.Core.List.Memᴰ.cases_cons m
put_member l (c ∷ ls) a m = go (told (ltb (begins l) (begins c))) (put_member l ls a)
  where
    go : (ltb (begins l) (begins c) ≡ true) ⊎ (ltb (begins l) (begins c) ≡ false) → (Memᴰ a (put_loan l ls) → (a ≡ l) ⊎ Memᴰ a ls) → (a ≡ l) ⊎ Memᴰ a (c ∷ ls)
    go (inl e) ih = mathlib.Core.List.Memᴰ.cases_cons (rw e at m)
    go (inr e) ih =
        let k : Memᴰ a (c ∷ put_loan l ls) = rw e at m in
        ⊎_elim (λ q. inr (mathlib.Core.List.Memᴰ.head q)) (λ q. ⊎_elim (λ z. inl z) (λ z. inr (mathlib.Core.List.Memᴰ.tail z)) (ih q)) (mathlib.Core.List.Memᴰ.cases_cons k)

pub put_rise : (p : ℕ) (l : Loan) (ls : List Loan) → p ≤ begins l → begins l < stops l → All (λ (d : Loan). (stops d ≤ begins l) ⊎ (stops l ≤ begins d)) ls → Rising begins stops 0 p ls → Rising begins stops 0 p (put_loan l ls)
put_rise p l [] h k c r = (h, k, tt)
put_rise p l (d ∷ ls) h k c r = go (told (ltb (begins l) (begins d))) (λ q. put_rise (0 + stops d) l ls q k (λ a m. c a (mathlib.Core.List.Memᴰ.tail m)) r.2)
  where
    cd : (stops d ≤ begins l) ⊎ (stops l ≤ begins d)
    cd = c d (mathlib.Core.List.Memᴰ.head refl)

    go : (ltb (begins l) (begins d) ≡ true) ⊎ (ltb (begins l) (begins d) ≡ false) → (0 + stops d ≤ begins l → Rising begins stops 0 (0 + stops d) (put_loan l ls)) → Rising begins stops 0 p (put_loan l (d ∷ ls))
    go (inl e) ih =
        let w = ltb-true (begins l) (begins d) e in
        rw e (h, k, (⊎_elim (λ q. omega (arith, r.1)) (λ q. omega arith) cd, r.1, r.2))
    go (inr e) ih =
        let w = ltb-false (begins l) (begins d) e in
        rw e (r.0, r.1, ih (⊎_elim (λ q. omega arith) (λ q. omega arith) cd))

-- ---- the loan of a block that was taken

module _ (s : FreeListSettings) (t : Store) (fit : FreeListIn s) (sound : Sound s t) (b r : Region) (rs : List Region) (member : Memᴰ r t.regions) (stop : b.end ≡ r.end) (some : b.start < b.end) (unit : Units s b.start) (k : Took b t.regions rs) where
  abbrev new : Loan
  new = lent_loan (t.given + 1) b

  ends : b.start + (b.end - b.start) ≡ b.end
  ends = omega (arith, some)

  taken_clear : (d : Loan) → Memᴰ d t.loans → (hi (piece d) ≤ lo b) ⊎ (hi b ≤ lo (piece d))
  taken_clear d m =
      apart_pieces b (piece d) (omega (arith, region_low s t fit sound r member, stop)) (loan_low s t fit sound d m) some (omega (arith, loan_some s t fit sound d m))
      (λ c x p q. omega (arith, once s t fit sound c x, k.count c x, total_mem (λ (z : Loan). has c x (piece z)) d t.loans m))

  unit_end : Units s b.end
  unit_end = rw stop (sound.regions_units r member).1

  abbrev after : Store
  after = record { given = t.given + 1; made = t.made; size = t.size; loans = put_loan new t.loans; chunks = t.chunks; regions = rs }

  taken_sound : Sound s after
  taken_sound =
      record {
        fills = λ c x. omega (arith, sound.fills c x, k.count c x, put_total (λ (z : Loan). has c x (piece z)) new t.loans, ap (λ (z : ℕ). on c x b.chunk b.start z) ends);
        loans_rise = put_rise 0 new t.loans (omega arith) (omega (arith, ends, some)) (λ d m. ⊎_elim (λ h. inl h) (λ h. inr (omega (arith, h, ends))) (taken_clear d m)) sound.loans_rise;
        regions_rise = k.rise 0 sound.regions_rise;
        chunks_rise = sound.chunks_rise;
        chunks_made = sound.chunks_made;
        memories_differ = sound.memories_differ;
        serials_given = λ d m. ⊎_elim (λ e. (omega (arith, serial e), omega (arith, serial e))) (λ e. ((sound.serials_given d e).0, omega (arith, (sound.serials_given d e).1))) (put_member new t.loans d m);
        serials_differ = λ a c p q e. differ a c (put_member new t.loans a p) (put_member new t.loans c q) e;
        now_sized = sound.now_sized;
        chunks_sized = sound.chunks_sized;
        loans_units = λ d m. ⊎_elim (λ e. rw e (unit, multiple_less (s.store.atom + 1) b.end b.start unit_end unit)) (λ e. sound.loans_units d e) (put_member new t.loans d m);
        regions_units = λ c m. ⊎_elim (λ e. sound.regions_units c e) (λ e. (rw e.1.2 (sound.regions_units e.1.0 e.1.1).0, rw e.0 unit)) (k.parts c m);
      }
    where
      serial : {x y : Loan} → x ≡ y → x.serial ≡ y.serial
      serial e = ap (λ (z : Loan). z.serial) e

      differ : (a c : Loan) → (a ≡ new) ⊎ Memᴰ a t.loans → (c ≡ new) ⊎ Memᴰ c t.loans → a.serial ≡ c.serial → a ≡ c
      differ a c (inl p) (inl q) e = p ∙ sym q
      differ a c (inl p) (inr q) e = absurd (omega (arith, serial p, (sound.serials_given c q).1))
      differ a c (inr p) (inl q) e = absurd (omega (arith, serial q, (sound.serials_given a p).1))
      differ a c (inr p) (inr q) e = sound.serials_differ a c p q e

-- ---- an ask

module _ (s : FreeListSettings) (t : Store) (fit : FreeListIn s) (sound : Sound s t) (mask size : ℕ) (aligned : alignment_ok mask ≡ true) (some_size : 0 < size) where
  -- the place is aligned as asked and to the atom unit
  pub mask_multiples : ((mask_for s mask + 1) % (mask + 1) ≡ 0) × ((mask_for s mask + 1) % (s.store.atom + 1) ≡ 0)
  mask_multiples = both_multiple (alignment_yes mask aligned) fit.store.atom

  pub lent_block : (i : ℕ) → find (mask_for s mask) (size_for s size) t.regions ≡ at i → let b = served (mask_for s mask) (size_for s size) t i in (b.start % (mask + 1) ≡ 0) × (b.start % (s.store.atom + 1) ≡ 0) × (b.start + size ≤ b.end)
  lent_block i e =
      let r : Region = get_or t.regions i no_region in
      let m : ℕ = mask_for s mask in
      let n : ℕ = size_for s size in
      let w = find_fits m n i t.regions no_region e in
      let c = cut_low m n r (fits_is m n r w.1).0 in
      let a = down_multiple (r.end - n) m in (
        multiple_through (mask + 1) (m + 1) (cut m n r) mask_multiples.0 a,
        multiple_through (s.store.atom + 1) (m + 1) (cut m n r) mask_multiples.1 a,
        omega (arith, c, up_enough size s.store.atom),
      )

  pub lent_sound : (i : ℕ) → find (mask_for s mask) (size_for s size) t.regions ≡ at i → Sound s (lent (mask_for s mask) (size_for s size) i t)
  lent_sound i e =
      let r : Region = get_or t.regions i no_region in
      let m : ℕ = mask_for s mask in
      let n : ℕ = size_for s size in
      let w = find_fits m n i t.regions no_region e in
      let b = lent_block i e in
      let h : cut m n r < r.end = omega (arith, b.2) in
      taken_sound s t fit sound (served m n t i) r (cut_off (cut m n r) i t.regions) (at_in i t.regions no_region w.0) refl h b.1
      (took (cut m n r) i t.regions w.0 (fits_is m n r w.1).1 (omega arith))
