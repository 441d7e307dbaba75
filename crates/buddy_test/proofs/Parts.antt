-- Head, chunk places, levels and units: what the code has read of them is what the tests are of.
use Rattle.std.specs.Prelude.{Option, Some, None, SomeIff, IfSome, is_some}
use mathlib.Core.Path.{◌≡◌, refl, sym, ap, ap₂, ◌∙◌}
use mathlib.Core.Bool.{Bool, true, false, ◌&&◌, ◌||◌, not}
use mathlib.Core.List.{List, []}
use Prim.Native.Nat.{ℕ, ◌+◌, ◌-◌, ◌%◌, ◌≤◌, ◌<◌}
use native.Mathlib.Omega.{arith}
use native.Mathlib.Nat.{mul-add, mul-le-mul_left}
use native.Mathlib.Numerals.{add-one}
use lib.Bits.{bit_and}
use lib.Dec.{eqb, leb}
use lib.ListN.{get_or}
use borrow.Author.Tests.{lt-ltb}
use Rattle.words.specs.Words.{cell_of}
use Rattle.words.specs.Rows.{row}
use Rattle.words.proofs.Records.{cell_row}
use Rattle.rounding_rules.proofs.Masks.{masked}
use Rattle.counter.specs.InTable.{BuddyIn}
use Rattle.counter.specs.Limits.{levels_most}
use Rattle.counter.specs.declared.settings.BuddySettings.{BuddySettings}
use Rattle.slabs.specs.Slab.{place_of, vacant_at, link_at}
use Rattle.slabs.specs.Test.{vacancies, parted_ok}
use Rattle.store_rules.specs.Loans.{places_at, loan_words, size_at, loan_row, offset_at}
use Rattle.store_rules.specs.declared.Loan.{Loan}
use Rattle.buddy_rules.specs.Level.{level_words, level_start}
use Rattle.buddy_rules.specs.LevelTest.{ringed, in_use, level_ok}
use Rattle.buddy_levels.specs.Seen.{part_settings, part_tables, level_part}
use Rattle.buddy_rules.specs.Tables.{levels_at, initial_levels, chunk_places_at, chunk_words, chunk_size_at, place_words, after_at, vacant_chunk, chunk_after, chunk_slab, marks, Tables, signed_ok}
use Rattle.buddy_rules.specs.Test.{held_count, pairs_in_use, pairs_ready, units_ok}

module _ (s : BuddySettings) where
  pub head_told : (t : Tables) (m : Bool) (l f : ℕ) → m ≡ signed_ok marks t → l ≡ get_or t.head levels_at 0 → f ≡ initial_levels s
      → (m && (leb f l && leb l levels_most)) ≡ (signed_ok marks t && (leb (initial_levels s) (get_or t.head levels_at 0) && leb (get_or t.head levels_at 0) levels_most))
  head_told t m l f e g h = λ j. e j && (leb (h j) (g j) && leb (g j) levels_most)

  pub places_told : (n at v : ℕ) (chunks tree : List ℕ) (r : Bool) → n ≡ get_or chunks chunk_places_at 0 → at ≡ level_start s.pairs levels_most → v ≡ place_of (get_or tree at 0)
      → r ≡ parted_ok (vacant_at chunks chunk_size_at chunk_words) (link_at tree (at + (place_words + after_at)) place_words) (record { places = n; vacant = v }) s.store.chunks
      → r ≡ parted_ok (vacant_chunk (level_part 0 chunks tree)) (chunk_after s (level_part 0 chunks tree)) (chunk_slab s (level_part 0 chunks tree)) s.store.chunks
  places_told n at v chunks tree r c e f g =
      g
      ∙ (λ j. parted_ok (vacant_at chunks chunk_size_at chunk_words) (link_at tree (at + (place_words + after_at)) place_words) (record { places = c j; vacant = f j }) s.store.chunks)
      ∙ (λ j. parted_ok (vacant_at chunks chunk_size_at chunk_words) (link_at tree (e j + (place_words + after_at)) place_words) (record { places = get_or chunks chunk_places_at 0; vacant = place_of (get_or tree (e j) 0) }) s.store.chunks)

  -- u of n places are used
  pub held_told : (n u : ℕ) (chunks : List ℕ) → n ≡ get_or chunks chunk_places_at 0 → u ≡ n - vacancies (vacant_at chunks chunk_size_at chunk_words) n → u ≡ held_count (level_part 0 chunks [])
  unfolding held_count
  held_told n u chunks e f = f ∙ (λ j. e j - vacancies (vacant_at chunks chunk_size_at chunk_words) (e j))

-- ---- a level, which begins at base

pub level_fits : (pairs l base m : ℕ) → l < levels_most → base ≡ level_start pairs l → level_start pairs levels_most ≤ m → base + level_words pairs ≤ m
level_fits pairs l base m h e f =
    let g : l + 1 ≤ levels_most = omega arith in
    omega (arith, e, f, mul-le-mul_left (level_words pairs) g, mul-add (level_words pairs) l 1)

pub good_told : (pairs l base : ℕ) (tree : List ℕ) (r : Bool) → base ≡ level_start pairs l → r ≡ level_ok base pairs tree → r ≡ level_ok (level_start pairs l) pairs tree
good_told pairs l base tree r e f = f ∙ ap (λ (b : ℕ). level_ok b pairs tree) e

-- ---- the pairs in use and the ready ones, level by level

module _ (pairs : ℕ) (tree : List ℕ) where
  pub pairs_none : 0 ≡ pairs_in_use (part_settings 0 pairs 0) (level_part 0 [] tree) 0
  unfolding pairs_in_use
  pairs_none = refl

  pub ready_none : 0 ≡ pairs_ready (part_settings 0 pairs 0) (level_part 0 [] tree) 0
  unfolding pairs_ready
  ready_none = refl

  -- u of the level that begins at base, x of those before it
  module _ (l base u x : ℕ) (b : base ≡ level_start pairs l) where
    pub pairs_next : x ≡ pairs_in_use (part_settings 0 pairs 0) (level_part 0 [] tree) l → u ≡ in_use base tree → x + u ≡ pairs_in_use (part_settings 0 pairs 0) (level_part 0 [] tree) (l + 1)
    unfolding pairs_in_use
    pairs_next e f = rw (add-one l) (ap₂ ◌+◌ e (f ∙ ap (λ (i : ℕ). in_use i tree) b))

    pub ready_next : x ≡ pairs_ready (part_settings 0 pairs 0) (level_part 0 [] tree) l → u ≡ ringed base tree → x + u ≡ pairs_ready (part_settings 0 pairs 0) (level_part 0 [] tree) (l + 1)
    unfolding pairs_ready
    ready_next e f = rw (add-one l) (ap₂ ◌+◌ e (f ∙ ap (λ (i : ℕ). ringed i tree) b))

-- ---- a loan's units

-- those of a loan that has a size
abbrev units : BuddySettings → Loan → Bool
units s l = eqb (l.offset % (s.store.atom + 1)) 0 && eqb (l.size % (s.store.atom + 1)) 0

-- the code takes them by the atom's mask
pub masked_told : (s : BuddySettings) → BuddyIn s → (l : Loan)
    → (eqb l.size 0 || (eqb (bit_and l.offset s.store.atom) 0 && eqb (bit_and l.size s.store.atom) 0)) ≡ (eqb l.size 0 || units s l)
masked_told s fit l = rw (masked l.offset fit.store.atom, masked l.size fit.store.atom)

twice : (a b : Bool) → (a || b) ≡ (not (not a) || b)
twice true b = refl
twice false b = refl

module _ (s : BuddySettings) (k : ℕ) (loans : List ℕ) (l : Loan) (is : l ≡ row loan_row k loans) (used : k < get_or loans places_at 0) where
  size_is : l.size ≡ get_or loans (cell_of size_at loan_words k) 0
  size_is = ap (λ (x : Loan). x.size) is ∙ sym (cell_row loans size_at loan_words k)

  offset_is : l.offset ≡ get_or loans (cell_of offset_at loan_words k) 0
  offset_is = ap (λ (x : Loan). x.offset) is ∙ sym (cell_row loans offset_at loan_words k)

  pub units_told : (r : Bool) → r ≡ (eqb l.size 0 || units s l) → r ≡ units_ok s (part_tables 0 loans [] [] []) k
  unfolding units_ok
  units_told r e = e ∙ rw (lt-ltb k (get_or loans places_at 0) used, sym size_is, sym offset_is) (twice (eqb l.size 0) (units s l))

-- ---- a count that is told exactly where a test holds

pub told_right : (r : Option ℕ) (b : Bool) (v : ℕ) → SomeIff r (b ≡ true) v → is_some r ≡ b
told_right None true v h = absurd (h refl)
told_right None false v h = refl
told_right (Some x) b v h = sym h.0

pub told_value : (r : Option ℕ) (b : Bool) (v n : ℕ) → SomeIff r (b ≡ true) v → IfSome r (λ k. k ≤ n) → IfSome r (λ k. (k ≡ v) × (k ≤ n))
told_value None b v n h g = tt
told_value (Some x) b v n h g = (h.1, g)
