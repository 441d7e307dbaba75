-- The test of soundness decides soundness, and the free regions of a sound store are the gaps between its loans.
use mathlib.Core.Path.{◌≡◌, refl, sym, ◌∙◌, ap}
use mathlib.Core.Bool.{Bool, true, ◌&&◌, not}
use mathlib.Core.Logic.{◌⊎◌, inl, inr, ⊎_elim}
use mathlib.Core.List.Memᴰ
use mathlib.Core.List.{List, [], ◌∷◌, map}
use Prim.Native.Nat.{ℕ, zero, suc, ◌+◌, ◌*◌, ◌^◌, ◌≤◌, ◌<◌, min}
use native.Mathlib.Nat.{mul-one, mul_comm, mul_assoc, pow-suc, pow-le-pow_right, le-mul_of_pos_right}
use native.Mathlib.Omega.{arith}
use lib.Dec.{ltb, leb, eqb}
use borrow.Author.Tests.{ltb-true, leb-true, le-leb, lt-ltb, eqb-true, eqb-false, eq-eqb, ne_eqb, not-true}
use Rattle.counter.specs.InTable.{FreeListIn}
use Rattle.counter.specs.declared.settings.FreeListSettings.{FreeListSettings}
use Rattle.lists.specs.Members.{NotIn, Distinct}
use Rattle.lists.specs.Tests.{all}
use Rattle.lists.proofs.Bools.{and_left, and_right, and_both, or_cases, or_right, all_each, each_all, lt_or_le}
use Rattle.store_rules.specs.declared.Loan.{Loan}
use Rattle.store_rules.proofs.Keyed.{not_key, distinct_differ}
use Rattle.freelist_rules.specs.Records.{Store}
use Rattle.freelist_rules.specs.Pieces.{loaned, free, held, Rising, All, Differ}
use Rattle.freelist_rules.specs.Sound.{Units, Sized, Sound}
use Rattle.freelist_rules.specs.Walk.{inside, gaps_of, same, same_all, fills_ok, all_ok, sized_from, sized_ok, units_ok, numbers_rise, chunk_ok, loan_ok, apart_from, apart, serials, memories, sound_row}
use Rattle.store_rules.specs.declared.Chunk.{Chunk}
use Rattle.store_rules.specs.declared.Region.{Region}
use Rattle.freelist_rules.proofs.Base.{never, rising_mono, rising_low}
use Rattle.freelist_rules.proofs.Facts.{Small, ChunksRise, same_regions, sized_low, chunks_small, region_low, loan_home}
use Rattle.freelist_rules.proofs.Gaps.{begins, stops, gaps_of_fill, gaps_of_rise, low_of, inside_rise, inside_ok}
use Rattle.freelist_rules.proofs.Units.{sized_units, gaps_of_units}

-- ---- each of a list

module _ {A : Type 0} where
  pub all_yes : (p : A → Bool) (xs : List A) → all_ok p xs ≡ true → All (λ (a : A). p a ≡ true) xs
  all_yes p [] e a m = absurd (Memᴰ.not-nil m)
  all_yes p (b ∷ xs) e a m = ⊎_elim (λ h. ap p h ∙ and_left (p b) (all_ok p xs) e) (λ h. all_yes p xs (and_right (p b) (all_ok p xs) e) a h) (Memᴰ.cases_cons m)

  pub all_all : (p : A → Bool) (xs : List A) → All (λ (a : A). p a ≡ true) xs → all_ok p xs ≡ true
  all_all p [] f = refl
  all_all p (b ∷ xs) f = and_both (p b) (all_ok p xs) (f b (Memᴰ.head refl)) (all_all p xs (λ a m. f a (Memᴰ.tail m)))

-- ---- no number twice

from_yes : (x : ℕ) (l : List ℕ) → apart_from x l ≡ true → NotIn x l
from_yes x [] e = tt
from_yes x (y ∷ l) e =
    (eqb-false x y (not-true (eqb x y) (and_left (not (eqb x y)) (apart_from x l) e)), from_yes x l (and_right (not (eqb x y)) (apart_from x l) e))

from_all : (x : ℕ) (l : List ℕ) → NotIn x l → apart_from x l ≡ true
from_all x [] n = refl
from_all x (y ∷ l) n = and_both (not (eqb x y)) (apart_from x l) (ap not (ne_eqb x y n.0)) (from_all x l n.1)

pub apart_yes : (xs : List ℕ) → apart xs ≡ true → Distinct xs
apart_yes [] e = tt
apart_yes (x ∷ xs) e = (from_yes x xs (and_left (apart_from x xs) (apart xs) e), apart_yes xs (and_right (apart_from x xs) (apart xs) e))

pub apart_all : (xs : List ℕ) → Distinct xs → apart xs ≡ true
apart_all [] d = refl
apart_all (x ∷ xs) d = and_both (apart_from x xs) (apart xs) (from_all x xs d.0) (apart_all xs d.1)

-- records whose keys are distinct differ by them, and records that rise and differ by their keys have distinct ones
module _ {A : Type 0} (key : A → ℕ) where
  pub differ_distinct : (begin stop : A → ℕ) (g b : ℕ) (xs : List A) → Rising begin stop g b xs → Differ key xs → Distinct (map key xs)
  differ_distinct begin stop g b [] r d = tt
  differ_distinct begin stop g b (c ∷ xs) r d = (
    not_key key (key c) xs (λ x m e. omega (arith, ap begin (d c x (Memᴰ.head refl) (Memᴰ.tail m) e), (rising_low begin stop g (g + stop c) xs r.2 x m).0, r.1)),
    differ_distinct begin stop g (g + stop c) xs r.2 (λ x y p q. d x y (Memᴰ.tail p) (Memᴰ.tail q)),
  )

-- ---- chunk sizes

again : (p f : ℕ) → p * 2 ^ suc f ≡ 2 * p * 2 ^ f
again p f = ap (λ (z : ℕ). p * z) (pow-suc 2 f ∙ mul_comm (2 ^ f) 2) ∙ sym (mul_assoc p 2 (2 ^ f)) ∙ ap (λ (z : ℕ). z * 2 ^ f) (mul_comm p 2)

from_sized : (f p y z : ℕ) → sized_from f p y z ≡ true → (k : ℕ) × (z ≡ min (p * 2 ^ k) y)
from_sized zero p y z e = (0, eqb-true z (min p y) e ∙ ap (λ (w : ℕ). min w y) (sym (mul-one p)))
from_sized (suc f) p y z e =
    ⊎_elim
    (λ h. (0, eqb-true z (min p y) h ∙ ap (λ (w : ℕ). min w y) (sym (mul-one p))))
    (λ h. let w = from_sized f (2 * p) y z h in (suc w.0, w.1 ∙ ap (λ (v : ℕ). min v y) (sym (again p w.0))))
    (or_cases (eqb z (min p y)) (sized_from f (2 * p) y z) e)

sized_from_lem : (k f p y z : ℕ) → k ≤ f → z ≡ min (p * 2 ^ k) y → sized_from f p y z ≡ true
sized_from_lem zero zero p y z h e = eq-eqb z (min p y) (e ∙ ap (λ (w : ℕ). min w y) (mul-one p))
sized_from_lem zero (suc f) p y z h e = rw (eq-eqb z (min p y) (e ∙ ap (λ (w : ℕ). min w y) (mul-one p)))
sized_from_lem (suc k) zero p y z h e = absurd (omega arith)
sized_from_lem (suc k) (suc f) p y z h e = or_right (eqb z (min p y)) (sized_from f (2 * p) y z) (sized_from_lem k f (2 * p) y z (omega arith) (e ∙ ap (λ (w : ℕ). min w y) (again p k)))

pub sized_yes : (s : FreeListSettings) (z : ℕ) → sized_ok s z ≡ true → Sized s z
unfolding sized_ok
sized_yes s z e = from_sized 40 s.start s.last z e

-- a start of 1 or more, doubled forty times, is past the final size
pub sized_all : (s : FreeListSettings) → FreeListIn s → (z : ℕ) → Sized s z → sized_ok s z ≡ true
unfolding sized_ok
sized_all s fit z w = go (lt_or_le 40 w.0)
  where
    big : (k : ℕ) → 40 ≤ k → s.last ≤ s.start * 2 ^ k
    big k h = omega (arith, pow-le-pow_right {n = 2} (omega arith) {i = 40} {j = k} h, le-mul_of_pos_right {m = s.start} (2 ^ k) fit.start_some, mul_comm (2 ^ k) s.start, fit.last_most)

    go : (40 < w.0) ⊎ (w.0 ≤ 40) → sized_from 40 s.start s.last z ≡ true
    go (inl h) = sized_from_lem 40 40 s.start s.last z (omega arith) (omega (arith, w.1, big w.0 (omega arith), big 40 (omega arith)))
    go (inr h) = sized_from_lem w.0 40 s.start s.last z h w.1

-- ---- chunk numbers

pub numbers_yes : (b : ℕ) (cs : List Chunk) → numbers_rise b cs ≡ true → ChunksRise b cs
numbers_yes b [] e = tt
numbers_yes b (c ∷ cs) e = (
  leb-true b c.number (and_left (leb b c.number) (numbers_rise (suc c.number) cs) e),
  omega arith,
  rising_mono _ _ 0 (0 + suc c.number) (suc c.number) cs (omega arith) (numbers_yes (suc c.number) cs (and_right (leb b c.number) (numbers_rise (suc c.number) cs) e)),
)

pub numbers_all : (b : ℕ) (cs : List Chunk) → ChunksRise b cs → numbers_rise b cs ≡ true
numbers_all b [] r = refl
numbers_all b (c ∷ cs) r =
    and_both (leb b c.number) (numbers_rise (suc c.number) cs) (le-leb b c.number r.0) (numbers_all (suc c.number) cs (rising_mono _ _ 0 (suc c.number) (0 + suc c.number) cs (omega arith) r.2))

-- ---- equal lists of regions

pub same_yes : (a b : Region) → same a b ≡ true → a ≡ b
same_yes a b e =
    let u = and_right (eqb a.chunk b.chunk) (eqb a.start b.start && eqb a.end b.end) e in
    let p = eqb-true a.chunk b.chunk (and_left (eqb a.chunk b.chunk) (eqb a.start b.start && eqb a.end b.end) e) in
    let q = eqb-true a.start b.start (and_left (eqb a.start b.start) (eqb a.end b.end) u) in
    let r = eqb-true a.end b.end (and_right (eqb a.start b.start) (eqb a.end b.end) u) in
    (λ i. record { chunk = p i; start = q i; end = r i })

same_self : (a : Region) → same a a ≡ true
same_self a = and_both _ _ (eq-eqb a.chunk a.chunk refl) (and_both _ _ (eq-eqb a.start a.start refl) (eq-eqb a.end a.end refl))

same_all_yes : (rs bs : List Region) → same_all rs bs ≡ true → rs ≡ bs
same_all_yes [] [] e = refl
same_all_yes [] (b ∷ bs) e = never (sym e)
same_all_yes (a ∷ rs) [] e = never (sym e)
same_all_yes (a ∷ rs) (b ∷ bs) e =
    let h = same_yes a b (and_left (same a b) (same_all rs bs) e) in
    let t = same_all_yes rs bs (and_right (same a b) (same_all rs bs) e) in
    cc

same_all_self : (rs : List Region) → same_all rs rs ≡ true
same_all_self [] = refl
same_all_self (a ∷ rs) = and_both (same a a) (same_all rs rs) (same_self a) (same_all_self rs)

-- ---- a chunk and a loan

module _ (s : FreeListSettings) (t : Store) where
  chunk_yes : (c : Chunk) → chunk_ok s t c ≡ true → (c.number ≤ t.made) × Sized s c.size × (c.size ≤ t.size)
  unfolding chunk_ok
  chunk_yes c e =
      let u = and_right (leb c.number t.made) (sized_ok s c.size && leb c.size t.size) e in (
        leb-true c.number t.made (and_left (leb c.number t.made) (sized_ok s c.size && leb c.size t.size) e),
        sized_yes s c.size (and_left (sized_ok s c.size) (leb c.size t.size) u),
        leb-true c.size t.size (and_right (sized_ok s c.size) (leb c.size t.size) u),
      )

  chunk_all : FreeListIn s → (c : Chunk) → c.number ≤ t.made → Sized s c.size → c.size ≤ t.size → chunk_ok s t c ≡ true
  unfolding chunk_ok
  chunk_all fit c a b d = and_both _ _ (le-leb _ _ a) (and_both _ _ (sized_all s fit c.size b) (le-leb _ _ d))

  loan_yes : (l : Loan) → loan_ok s t l ≡ true → (0 < l.serial) × (l.serial ≤ t.given) × Units s l.offset × Units s l.size
  unfolding loan_ok
  loan_yes l e =
      let u = and_right (ltb 0 l.serial) (leb l.serial t.given && (units_ok s l.offset && units_ok s l.size)) e in
      let v = and_right (leb l.serial t.given) (units_ok s l.offset && units_ok s l.size) u in (
        ltb-true 0 l.serial (and_left (ltb 0 l.serial) (leb l.serial t.given && (units_ok s l.offset && units_ok s l.size)) e),
        leb-true l.serial t.given (and_left (leb l.serial t.given) (units_ok s l.offset && units_ok s l.size) u),
        eqb-true _ 0 (and_left (units_ok s l.offset) (units_ok s l.size) v),
        eqb-true _ 0 (and_right (units_ok s l.offset) (units_ok s l.size) v),
      )

  loan_all : (l : Loan) → 0 < l.serial → l.serial ≤ t.given → Units s l.offset → Units s l.size → loan_ok s t l ≡ true
  unfolding loan_ok
  loan_all l a b c d = and_both _ _ (lt-ltb _ _ a) (and_both _ _ (le-leb _ _ b) (and_both _ _ (eq-eqb _ 0 c) (eq-eqb _ 0 d)))

-- ---- the whole

module _ (s : FreeListSettings) (t : Store) (fit : FreeListIn s) (sound : Sound s t) where
  loans_inside : inside t.chunks t.loans ≡ true
  loans_inside = inside_ok 1 0 t.chunks t.loans sound.chunks_rise (chunks_small s t fit sound) sound.loans_rise (loan_home s t fit sound)

  -- the free regions are the gaps between the loans
  pub regions_are : t.regions ≡ gaps_of t.chunks t.loans
  regions_are =
      let small = chunks_small s t fit sound in
      let gr = gaps_of_rise 0 1 t.chunks t.loans loans_inside sound.chunks_rise small (omega arith) in
      let gf : (n x : ℕ) → loaned n x t.loans + free n x (gaps_of t.chunks t.loans) ≡ held n x t.chunks = λ n x. gaps_of_fill n x t.chunks t.loans loans_inside in
      same_regions 0 0 t.regions (gaps_of t.chunks t.loans) (region_low s t fit sound) (low_of 0 t.chunks t.loans (gaps_of t.chunks t.loans) gf gr small) sound.regions_rise gr
      (λ n x. omega (arith, sound.fills n x, gf n x))

  pub fills_all : fills_ok t.chunks t.loans t.regions ≡ true
  unfolding fills_ok
  fills_all = and_both _ _ loans_inside (ap (λ (rs : List Region). same_all t.regions rs) (sym regions_are) ∙ same_all_self t.regions)

pub fills_yes : (cs : List Chunk) (ls : List Loan) (rs : List Region) → fills_ok cs ls rs ≡ true → (inside cs ls ≡ true) × (rs ≡ gaps_of cs ls)
unfolding fills_ok
fills_yes cs ls rs e = (and_left (inside cs ls) (same_all rs (gaps_of cs ls)) e, same_all_yes rs (gaps_of cs ls) (and_right (inside cs ls) (same_all rs (gaps_of cs ls)) e))

pub sound_yes : (s : FreeListSettings) (t : Store) → FreeListIn s → all (sound_row s t) ≡ true → Sound s t
sound_yes s t fit e =
    let at = all_each (sound_row s t) e in
    let cs : All (λ (c : Chunk). (c.number ≤ t.made) × Sized s c.size × (c.size ≤ t.size)) t.chunks = λ c m. chunk_yes s t c (all_yes (chunk_ok s t) t.chunks at.1.1.0 c m) in
    let ls : All (λ (l : Loan). (0 < l.serial) × (l.serial ≤ t.given) × Units s l.offset × Units s l.size) t.loans = λ l m. loan_yes s t l (all_yes (loan_ok s t) t.loans at.1.1.1.0 l m) in
    let f = fills_yes t.chunks t.loans t.regions at.1.1.1.1.0 in
    let cr = numbers_yes 1 t.chunks at.1.0 in
    let small : Small t.chunks = λ c m. omega (arith, sized_low s c.size (cs c m).1, fit.last_most) in
    record {
      fills = λ n x. rw f.1 (gaps_of_fill n x t.chunks t.loans f.0);
      loans_rise = inside_rise 0 1 t.chunks t.loans f.0 cr small (omega arith);
      regions_rise = rw f.1 (gaps_of_rise 0 1 t.chunks t.loans f.0 cr small (omega arith));
      chunks_rise = cr;
      chunks_made = λ c m. (cs c m).0;
      memories_differ = distinct_differ (λ (c : Chunk). c.memory) t.chunks (apart_yes (memories t.chunks) at.1.1.1.1.1.0);
      serials_given = λ l m. ((ls l m).0, (ls l m).1);
      serials_differ = distinct_differ (λ (l : Loan). l.serial) t.loans (apart_yes (serials t.loans) at.1.1.1.1.1.1.0);
      now_sized = sized_yes s t.size at.0;
      chunks_sized = λ c m. ((cs c m).1, (cs c m).2);
      loans_units = λ l m. ((ls l m).2, (ls l m).3);
      regions_units = rw f.1 (gaps_of_units s t.chunks t.loans (λ c m. sized_units s fit c.size (cs c m).1) (λ l m. ((ls l m).2, (ls l m).3)));
    }

pub sound_all : (s : FreeListSettings) (t : Store) → FreeListIn s → Sound s t → all (sound_row s t) ≡ true
sound_all s t fit sound =
    each_all (sound_row s t) (
      sized_all s fit t.size sound.now_sized,
      (
        numbers_all 1 t.chunks sound.chunks_rise,
        (
          all_all (chunk_ok s t) t.chunks (λ c m. chunk_all s t fit c (sound.chunks_made c m) (sound.chunks_sized c m).0 (sound.chunks_sized c m).1),
          (
            all_all (loan_ok s t) t.loans (λ l m. loan_all s t l (sound.serials_given l m).0 (sound.serials_given l m).1 (sound.loans_units l m).0 (sound.loans_units l m).1),
            (
              fills_all s t fit sound,
              (
                apart_all (memories t.chunks) (differ_distinct (λ (c : Chunk). c.memory) (λ (c : Chunk). c.number) (λ (c : Chunk). suc c.number) 0 1 t.chunks sound.chunks_rise sound.memories_differ),
                (apart_all (serials t.loans) (differ_distinct (λ (l : Loan). l.serial) begins stops 0 0 t.loans sound.loans_rise sound.serials_differ), tt),
              ),
            ),
          ),
        ),
      ),
    )
