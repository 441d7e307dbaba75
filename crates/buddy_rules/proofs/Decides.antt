-- One row of tests decides whether a buddy store's tables are sound, both ways.
use mathlib.Core.Path.{◌≡◌, refl, sym, ap, ◌∙◌}
use mathlib.Core.Bool.{Bool, true, ◌&&◌, ◌||◌, not}
use mathlib.Core.Logic.{⊎_elim}
use Prim.Native.Nat.{ℕ, zero, suc, ◌+◌, ◌*◌, ◌^◌, ◌%◌, ◌≤◌, ◌<◌}
use native.Mathlib.Omega.{arith}
use lib.Dec.{eqb, leb, ltb}
use borrow.Author.Tests.{eqb-true, eq-eqb, leb-true, le-leb, ltb-true}
use Rattle.lists.proofs.Bools.{told, true_false, and_left, and_right, and_both, or_cases, or_left, or_right, not_yes, lt_or_le, all_each, each_all}
use Rattle.counter.specs.InTable.{BuddyIn}
use Rattle.counter.specs.Limits.{levels_most, pairs_most}
use Rattle.counter.specs.declared.settings.BuddySettings.{BuddySettings}
use Rattle.slabs.specs.Slab.{nowhere}
use Rattle.slabs.specs.Test.{parted_ok}
use Rattle.slabs.proofs.Decides.{decides_yes, decides_all}
use Rattle.store_rules.specs.Loans.{size_at}
use Rattle.store_rules.proofs.Signed.{signed_yes, signed_all}
use Rattle.book_rules.specs.Book.{serial_of}
use Rattle.book_rules.proofs.Decides.{chains_yes, chains_all}
use Rattle.buddy_rules.specs.Level.{Good}
use Rattle.buddy_rules.specs.LevelTest.{ringed, in_use, level_ok}
use Rattle.buddy_rules.proofs.LevelDecides.{level_few, use_most, use_least, ring_most, level_good, good_use, good_ring, good_level}
use Rattle.buddy_rules.specs.Tables.{Tables, given_in, levels_in, places_in, chunk_places_in, memory_in, level_from, loan_cell, loan_in, live_in, held_in, vacant_chunk, chunk_after, chunk_slab, vacant_loan, loan_after, loan_slab, chain_start, chain_next, initial_levels, marks}
use Rattle.buddy_rules.specs.Sound.{Trees, Sound}
use Rattle.buddy_rules.specs.Test.{every, live_count, held_count, pairs_in_use, pairs_ready, leaves_ok, counted_ok, memories_ok, units_ok, sound_row, sound_ok}
use Rattle.buddy_rules.proofs.Looks.{chunk_ok}
use Rattle.buddy_rules.proofs.Tests.{every_yes, every_all}
use Rattle.buddy_rules.proofs.CountDown.{mets_in, counted_parts}
use Rattle.buddy_rules.proofs.Counted.{met_most, met_stand, met_leaves, trees_met}
use Rattle.buddy_rules.proofs.InUse.{taken_at, ready_at, pairs_used, readies_in, live_most}
use Rattle.buddy_rules.proofs.Totals.{total, total_most, total_same, total_less, total_each}

-- what a test of places says of their number
few_of : (free : ℕ → Bool) (next : ℕ → ℕ) (places vacant most : ℕ) → parted_ok free next (record { places = places; vacant = vacant }) most ≡ true → places ≤ most
unfolding parted_ok
few_of free next places vacant most e = leb-true places most (and_left (leb places most) _ e)

module _ (s : BuddySettings) (t : Tables) where
  -- ---- memory numbers

  abbrev pub Differ : Type 0
  Differ = (c d : ℕ) → held_in t c ≡ true → held_in t d ≡ true → memory_in t c ≡ memory_in t d → c ≡ d

  held_below : (c : ℕ) → held_in t c ≡ true → c < chunk_places_in t
  held_below c e = ltb-true c (chunk_places_in t) (and_left (ltb c (chunk_places_in t)) _ e)

  -- the test of two places
  abbrev pair_test : ℕ → ℕ → Bool
  pair_test c d = not (held_in t c && held_in t d) || not (eqb (memory_in t c) (memory_in t d))

  pair_yes : (c d : ℕ) → pair_test c d ≡ true → held_in t c ≡ true → held_in t d ≡ true → memory_in t c ≡ memory_in t d → ⊥
  pair_yes c d e h k m =
      ⊎_elim (λ q. true_false (held_in t c && held_in t d) (and_both (held_in t c) (held_in t d) h k) (not_yes _ q))
      (λ q. true_false (eqb (memory_in t c) (memory_in t d)) (eq-eqb (memory_in t c) (memory_in t d) m) (not_yes _ q))
      (or_cases (not (held_in t c && held_in t d)) (not (eqb (memory_in t c) (memory_in t d))) e)

  pair_all : (c d : ℕ) → (held_in t c ≡ true → held_in t d ≡ true → memory_in t c ≡ memory_in t d → ⊥) → pair_test c d ≡ true
  pair_all c d f =
      ⊎_elim
      (λ q.
      ⊎_elim (λ m. absurd (f (and_left (held_in t c) (held_in t d) q) (and_right (held_in t c) (held_in t d) q) (eqb-true (memory_in t c) (memory_in t d) m)))
      (λ m. or_right (not (held_in t c && held_in t d)) (not (eqb (memory_in t c) (memory_in t d))) (ap not m))
      (told (eqb (memory_in t c) (memory_in t d))))
      (λ q. or_left (not (held_in t c && held_in t d)) (not (eqb (memory_in t c) (memory_in t d))) (ap not q))
      (told (held_in t c && held_in t d))

  pub memories_yes : memories_ok s t ≡ true → Differ
  unfolding memories_ok
  memories_yes e c d h k m =
      let below : (a b : ℕ) → held_in t a ≡ true → held_in t b ≡ true → memory_in t a ≡ memory_in t b → b < a → ⊥ =
      λ a b x y z q. pair_yes a b (every_yes (pair_test a) a b (every_yes (λ (i : ℕ). every (pair_test i) i) (chunk_places_in t) a e (held_below a x)) q) x y z in
      ⊎_elim (λ q. absurd (below d c k h (sym m) q)) (λ q. ⊎_elim (λ z. absurd (below c d h k m z)) (λ z. omega arith) (lt_or_le d c)) (lt_or_le c d)

  pub memories_all : Differ → memories_ok s t ≡ true
  unfolding memories_ok
  memories_all f =
      every_all (λ (i : ℕ). every (pair_test i) i) (chunk_places_in t)
      (λ c h. every_all (pair_test c) c (λ d q. pair_all c d (λ x y m. omega (arith, f c d x y m))))

  -- ---- atom units

  Units : Type 0
  Units = (k : ℕ) → live_in t k ≡ true → ((loan_in s t k).at % (s.store.atom + 1) ≡ 0) × (loan_cell t size_at k % (s.store.atom + 1) ≡ 0)

  units_yes : every (units_ok s t) (places_in t) ≡ true → Units
  unfolding units_ok Units
  units_yes e k h =
      let a = eqb ((loan_in s t k).at % (s.store.atom + 1)) 0 in
      let b = eqb (loan_cell t size_at k % (s.store.atom + 1)) 0 in
      let w = every_yes (units_ok s t) (places_in t) k e (ltb-true k (places_in t) (and_left (ltb k (places_in t)) _ h)) in
      let q : (a && b) ≡ true = ⊎_elim (λ z. absurd (true_false (live_in t k) h (not_yes (live_in t k) z))) (λ z. z) (or_cases (not (live_in t k)) (a && b) w) in
      (eqb-true _ 0 (and_left a b q), eqb-true _ 0 (and_right a b q))

  units_all : Units → every (units_ok s t) (places_in t) ≡ true
  unfolding units_ok Units
  units_all f =
      every_all (units_ok s t) (places_in t)
      (λ k h.
      let a = eqb ((loan_in s t k).at % (s.store.atom + 1)) 0 in
      let b = eqb (loan_cell t size_at k % (s.store.atom + 1)) 0 in
      ⊎_elim (λ q. let w = f k q in or_right (not (live_in t k)) (a && b) (and_both a b (eq-eqb _ 0 w.0) (eq-eqb _ 0 w.1)))
      (λ q. or_left (not (live_in t k)) (a && b) (ap not q))
      (told (live_in t k)))

  -- ---- sums over the levels

  abbrev in_use_at : ℕ → ℕ
  in_use_at l = in_use (level_from s l) t.room

  abbrev ringed_at : ℕ → ℕ
  ringed_at l = ringed (level_from s l) t.room

  abbrev level_test : ℕ → Bool
  level_test l = level_ok (level_from s l) s.pairs t.room

  in_use_total : (n : ℕ) → pairs_in_use s t n ≡ total in_use_at n
  unfolding pairs_in_use total
  in_use_total zero = refl
  in_use_total (suc n) = ap (λ (i : ℕ). i + in_use_at n) (in_use_total n)

  ready_total : (n : ℕ) → pairs_ready s t n ≡ total ringed_at n
  unfolding pairs_ready total
  ready_total zero = refl
  ready_total (suc n) = ap (λ (i : ℕ). i + ringed_at n) (ready_total n)

  -- ---- the whole

  module _ (fit : BuddyIn s) where
    pairs_few : s.pairs ≤ 2 ^ 32
    pairs_few = omega (arith, fit.pairs_most_lem)

    -- the count begins below nowhere
    fits : levels_in t ≤ levels_most → ((l : ℕ) → l < levels_in t → in_use_at l ≤ s.pairs) → places_in t ≤ s.store.loans → pairs_in_use s t (levels_in t) + live_count t < nowhere
    fits levels f few =
        let a : total in_use_at (levels_in t) ≤ levels_in t * pairs_most = total_most in_use_at pairs_most (levels_in t) (λ l h. omega (arith, f l h, fit.pairs_most_lem)) in
        omega (arith, in_use_total (levels_in t), live_most s t, fit.store.loans_most_lem)

    -- ---- levels, leaves and walks together: no level by itself tells what its chain or its ring lacks, the sums do

    record Whole : Type 0 where
      good : (l : ℕ) → l < levels_in t → Good (level_from s l) s.pairs t.room
      standing : Trees s t

    whole_yes : levels_in t ≤ levels_most → places_in t ≤ s.store.loans → every level_test (levels_in t) ≡ true → leaves_ok s t ≡ true → counted_ok s t ≡ true → Whole
    unfolding leaves_ok
    whole_yes levels few ok leaves counted =
        let level : (l : ℕ) → l < levels_in t → level_test l ≡ true = λ l h. every_yes level_test (levels_in t) l ok h in
        let least : (l : ℕ) → l < levels_in t → taken_at s t l ≤ in_use_at l = λ l h. use_least (level_from s l) s.pairs t.room pairs_few (level l h) in
        let ready : (l : ℕ) → l < levels_in t → ringed_at l ≤ ready_at s t l = λ l h. ring_most (level_from s l) s.pairs t.room pairs_few (level l h) in
        let below : pairs_in_use s t (levels_in t) + live_count t < nowhere =
        fits levels (λ l h. omega (arith, use_most (level_from s l) s.pairs t.room pairs_few (level l h), level_few (level_from s l) s.pairs t.room pairs_few (level l h))) few in
        let both : (every (chunk_ok s t) (chunk_places_in t) && eqb (mets_in s t (chunk_places_in t)) (pairs_in_use s t (levels_in t) + live_count t)) ≡ true = sym (counted_parts s t below) ∙ counted in
        let walks : every (chunk_ok s t) (chunk_places_in t) ≡ true = and_left (every (chunk_ok s t) (chunk_places_in t)) _ both in
        let met : mets_in s t (chunk_places_in t) ≡ pairs_in_use s t (levels_in t) + live_count t = eqb-true _ _ (and_right (every (chunk_ok s t) (chunk_places_in t)) _ both) in
        let most : total in_use_at (levels_in t) ≤ pairs_used s t (levels_in t) = omega (arith, met, met_most s t fit levels walks, in_use_total (levels_in t)) in
        let all : mets_in s t (chunk_places_in t) ≡ pairs_used s t (levels_in t) + live_count t = omega (arith, met, in_use_total (levels_in t), total_less (taken_at s t) in_use_at (levels_in t) least) in
        let count : pairs_ready s t (levels_in t) + live_count t ≡ pairs_in_use s t (levels_in t) + held_count t = eqb-true _ _ leaves in
        let rings : readies_in s t (levels_in t) ≤ total ringed_at (levels_in t) = omega (arith, count, met, all, met_leaves s t fit levels walks all, ready_total (levels_in t)) in
        record {
          good = λ l h.
              level_good (level_from s l) s.pairs t.room pairs_few (level l h) (sym (total_each (taken_at s t) in_use_at (levels_in t) least most l h))
              (total_each ringed_at (ready_at s t) (levels_in t) ready rings l h);
          standing = met_stand s t fit levels walks all;
        }

    module _ (levels : levels_in t ≤ levels_most) (few : places_in t ≤ s.store.loans) (W : Whole) where
      use_is : (l : ℕ) → l < levels_in t → in_use_at l ≡ taken_at s t l
      use_is l h = good_use (level_from s l) s.pairs t.room pairs_few (W.good l h)

      pairs_are : pairs_in_use s t (levels_in t) ≡ pairs_used s t (levels_in t)
      pairs_are = in_use_total (levels_in t) ∙ total_same in_use_at (taken_at s t) (levels_in t) use_is

      rings_are : pairs_ready s t (levels_in t) ≡ readies_in s t (levels_in t)
      rings_are = ready_total (levels_in t) ∙ total_same ringed_at (ready_at s t) (levels_in t) (λ l h. good_ring (level_from s l) s.pairs t.room pairs_few (W.good l h))

      seen : (every (chunk_ok s t) (chunk_places_in t) ≡ true) × (mets_in s t (chunk_places_in t) ≡ pairs_used s t (levels_in t) + live_count t)
      seen = trees_met s t fit levels W.standing

      levels_all : every level_test (levels_in t) ≡ true
      levels_all = every_all level_test (levels_in t) (λ l h. good_level (level_from s l) s.pairs t.room pairs_few (W.good l h))

      leaves_all : leaves_ok s t ≡ true
      unfolding leaves_ok
      leaves_all =
          eq-eqb (pairs_ready s t (levels_in t) + live_count t) (pairs_in_use s t (levels_in t) + held_count t)
          (omega (arith, pairs_are, rings_are, met_leaves s t fit levels seen.0 seen.1))

      counted_all : counted_ok s t ≡ true
      counted_all =
          counted_parts s t (fits levels (λ l h. omega (arith, use_is l h, (W.good l h).parted.limit)) few)
          ∙ and_both _ _ seen.0 (eq-eqb _ _ (seen.1 ∙ ap (λ (i : ℕ). i + live_count t) (sym pairs_are)))

    pub tables_yes : sound_ok s t ≡ true → Sound s t
    unfolding sound_ok Units
    tables_yes e =
        let at = all_each (sound_row s t) e in
        let levels : levels_in t ≤ levels_most = leb-true (levels_in t) levels_most at.1.1.0 in
        let few : places_in t ≤ s.store.loans = few_of (vacant_loan t) (loan_after t) (places_in t) (loan_slab t).vacant s.store.loans at.1.1.1.0 in
        let low : places_in t < nowhere = omega (arith, few, fit.store.loans_most_lem) in
        let chunks : chunk_places_in t ≤ s.store.chunks = few_of (vacant_chunk t) (chunk_after s t) (chunk_places_in t) (chunk_slab s t).vacant s.store.chunks at.1.1.1.1.1.0 in
        let rest = at.1.1.1.1.1.1 in
        let whole = whole_yes levels few rest.1.0 rest.1.1.0 rest.1.1.1.0 in
        record {
          signed = signed_yes marks t at.0;
          levels_least = leb-true (initial_levels s) (levels_in t) at.1.0;
          levels_most_lem = levels;
          loans_parted = decides_yes (vacant_loan t) (loan_after t) (loan_slab t) s.store.loans (omega arith) at.1.1.1.0;
          chained = chains_yes (vacant_loan t) (chain_start t) (chain_next t) (serial_of t.loans) s.store.loans (places_in t) (given_in t) low at.1.1.1.1.0;
          chunks_parted = decides_yes (vacant_chunk t) (chunk_after s t) (chunk_slab s t) s.store.chunks (omega (arith, chunks, fit.store.chunks_most_lem)) at.1.1.1.1.1.0;
          memories_differ = memories_yes rest.0;
          good = whole.good;
          standing = whole.standing;
          loans_units = units_yes rest.1.1.1.1.0;
        }

    pub tables_all : Sound s t → sound_ok s t ≡ true
    unfolding sound_ok Units
    tables_all S =
        let low : places_in t < nowhere = omega (arith, S.loans_parted.limit, fit.store.loans_most_lem) in
        let levels = S.levels_most_lem in
        let few = S.loans_parted.limit in
        let whole : Whole = record { good = S.good; standing = S.standing } in
        each_all (sound_row s t) (
          signed_all marks t S.signed,
          (
            le-leb (initial_levels s) (levels_in t) S.levels_least,
            (
              le-leb (levels_in t) levels_most S.levels_most_lem,
              (
                decides_all (vacant_loan t) (loan_after t) (loan_slab t) s.store.loans S.loans_parted,
                (
                  chains_all (vacant_loan t) (chain_start t) (chain_next t) (serial_of t.loans) s.store.loans (places_in t) (given_in t) low fit.store.loans_some S.chained,
                  (
                    decides_all (vacant_chunk t) (chunk_after s t) (chunk_slab s t) s.store.chunks S.chunks_parted,
                    (
                      memories_all S.memories_differ,
                      (
                        levels_all levels few whole,
                        (
                          leaves_all levels few whole,
                          (counted_all levels few whole, (units_all S.loans_units, tt)),
                        ),
                      ),
                    ),
                  ),
                ),
              ),
            ),
          ),
        )
