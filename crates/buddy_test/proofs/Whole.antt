-- The parts come to the whole row: the first that fails decides it, and where none does the units are left; and what those
-- that hold say of the levels and the places in use.
use mathlib.Core.Path.{◌≡◌, refl, sym, ap, ◌∙◌}
use mathlib.Core.Bool.{Bool, true, false, ◌&&◌, not, and_assoc}
use mathlib.Core.List.{List, [], ◌∷◌}
use Prim.Native.Nat.{ℕ, ◌≤◌}
use native.Mathlib.Omega.{arith}
use lib.Dec.{leb}
use borrow.Author.Tests.{leb-true}
use Rattle.lists.specs.Tests.{all}
use Rattle.lists.proofs.Bools.{and_left, and_right}
use Rattle.counter.specs.InTable.{BuddyIn}
use Rattle.counter.specs.Limits.{levels_most, chunks_most}
use Rattle.counter.specs.declared.settings.BuddySettings.{BuddySettings}
use Rattle.slabs.specs.Test.{parted_ok}
use Rattle.book_rules.specs.Book.{serial_of}
use Rattle.book_rules.specs.Chains.{chains_ok}
use Rattle.book_rules.specs.Kept.{kept_ok}
use Rattle.book_rules.proofs.Keeping.{kept_most}
use Rattle.buddy_rules.specs.Level.{level_start}
use Rattle.buddy_rules.specs.LevelTest.{level_ok}
use Rattle.buddy_levels.specs.Seen.{part_settings, part_tables, level_part}
use Rattle.buddy_rules.specs.Tables.{Tables, given_in, levels_in, places_in, chunk_places_in, vacant_loan, loan_after, loan_slab, chain_start, chain_next, vacant_chunk, chunk_after, chunk_slab, initial_levels, marks, signed_ok}
use Rattle.buddy_rules.specs.Test.{every, memories_ok, leaves_ok, counted_ok, units_ok, sound_ok}
use Rattle.buddy_test.proofs.Trees.{leaves_shown, counted_shown}

-- eleven tests from the left, as a group of three, one of two, and six
regroup : (a b c d e f g h i j k : Bool) → all (a ∷ b ∷ c ∷ d ∷ e ∷ f ∷ g ∷ h ∷ i ∷ j ∷ k ∷ []) ≡ ((a && (b && c)) && ((d && e) && (f && (g && (h && (i && (j && k)))))))
regroup a b c d e f g h i j k = simp and_assoc

memories_shown : (s : BuddySettings) (t : Tables) → memories_ok s t ≡ memories_ok (part_settings 0 0 0) (level_part 0 t.chunks [])
unfolding memories_ok
memories_shown s t = refl

units_shown : (s : BuddySettings) (t : Tables) → every (units_ok s t) (places_in t) ≡ every (units_ok s (part_tables 0 t.loans [] [] [])) (places_in t)
unfolding units_ok
units_shown s t = refl

-- a test that fails, and one that fails behind another
stop : {a : Bool} (r : Bool) → false ≡ a → false ≡ (a && r)
stop r e = ap (λ (x : Bool). x && r) e

past : (a : Bool) {r : Bool} → false ≡ r → false ≡ (a && r)
past true e = e
past false e = refl

module _ (s : BuddySettings) (t : Tables) where
  abbrev whole : Bool
  whole = sound_ok s t

  -- the parts, by the numbers that the code reads
  abbrev head_part : Bool
  head_part = signed_ok marks t && (leb (initial_levels s) (levels_in t) && leb (levels_in t) levels_most)

  abbrev kept_part : ℕ → Bool
  kept_part places = kept_ok t.loans t.index s.store.loans places (given_in t)

  abbrev places_part : Bool
  places_part = parted_ok (vacant_chunk (level_part 0 t.chunks t.room)) (chunk_after s (level_part 0 t.chunks t.room)) (chunk_slab s (level_part 0 t.chunks t.room)) s.store.chunks

  abbrev memories_part : Bool
  memories_part = memories_ok (part_settings 0 0 0) (level_part 0 t.chunks [])

  abbrev good_part : ℕ → Bool
  good_part levels = every (λ (l : ℕ). level_ok (level_start s.pairs l) s.pairs t.room) levels

  abbrev leaves_part : ℕ → Bool
  leaves_part levels = leaves_ok s (part_tables levels t.loans t.chunks t.index t.room)

  abbrev met_part : ℕ → Bool
  met_part levels = counted_ok s (part_tables levels t.loans t.chunks t.index t.room)

  abbrev units_part : ℕ → Bool
  units_part places = every (units_ok s (part_tables 0 t.loans [] [] [])) places

  -- the row is its parts
  parts : whole ≡ (head_part && (kept_part (places_in t) && (places_part && (memories_part
      && (good_part (levels_in t) && (leaves_part (levels_in t) && (met_part (levels_in t) && units_part (places_in t))))))))
  unfolding sound_ok kept_ok
  parts =
      regroup
      (signed_ok marks t)
      (leb (initial_levels s) (levels_in t))
      (leb (levels_in t) levels_most)
      (parted_ok (vacant_loan t) (loan_after t) (loan_slab t) s.store.loans)
      (chains_ok (vacant_loan t) (chain_start t) (chain_next t) (serial_of t.loans) s.store.loans (places_in t) (given_in t))
      places_part
      (memories_ok s t)
      (good_part (levels_in t))
      (leaves_ok s t)
      (counted_ok s t)
      (every (units_ok s t) (places_in t))
      ∙ (λ j. head_part && (kept_part (places_in t) && (places_part && (memories_shown s t j
      && (good_part (levels_in t) && (leaves_shown s t j && (counted_shown s t j && units_shown s t j)))))))

  pub head_fails : false ≡ head_part → false ≡ whole
  head_fails e = stop _ e ∙ sym parts

  -- the first that fails decides, and where none before it does the units are left; the code has read levels and places
  module _ (levels places : ℕ) (ls : levels ≡ levels_in t) (ps : places ≡ places_in t) where
    read : (head_part && (kept_part places && (places_part && (memories_part && (good_part levels && (leaves_part levels && (met_part levels && units_part places))))))) ≡ whole
    read =
        (λ j. head_part && (kept_part (ps j) && (places_part && (memories_part && (good_part (ls j) && (leaves_part (ls j) && (met_part (ls j) && units_part (ps j))))))))
        ∙ sym parts

    pub kept_fails : false ≡ kept_part places → false ≡ whole
    kept_fails e = past head_part (stop (places_part && (memories_part && (good_part levels && (leaves_part levels && (met_part levels && units_part places))))) e) ∙ read

    pub places_fail : false ≡ places_part → false ≡ whole
    places_fail e = past head_part (past (kept_part places) (stop (memories_part && (good_part levels && (leaves_part levels && (met_part levels && units_part places)))) e)) ∙ read

    pub memories_fail : false ≡ memories_part → false ≡ whole
    memories_fail e = past head_part (past (kept_part places) (past places_part (stop (good_part levels && (leaves_part levels && (met_part levels && units_part places))) e))) ∙ read

    pub good_fail : false ≡ good_part levels → false ≡ whole
    good_fail e = past head_part (past (kept_part places) (past places_part (past memories_part (stop (leaves_part levels && (met_part levels && units_part places)) e)))) ∙ read

    pub leaves_fail : false ≡ leaves_part levels → false ≡ whole
    leaves_fail e = past head_part (past (kept_part places) (past places_part (past memories_part (past (good_part levels) (stop (met_part levels && units_part places) e))))) ∙ read

    pub met_fails : false ≡ met_part levels → false ≡ whole
    met_fails e = past head_part (past (kept_part places) (past places_part (past memories_part (past (good_part levels) (past (leaves_part levels) (stop (units_part places) e)))))) ∙ read

    pub units_left : true ≡ head_part → true ≡ kept_part places → true ≡ places_part → true ≡ memories_part → true ≡ good_part levels → true ≡ leaves_part levels → true ≡ met_part levels → (r : Bool) → r ≡ units_part places → r ≡ whole
    units_left a b c d e f g r h = h ∙ (λ j. a j && (b j && (c j && (d j && (e j && (f j && (g j && units_part places))))))) ∙ read

  -- ---- what the parts that hold say of the levels and the places in use

  pub levels_few : (levels : ℕ) → levels ≡ levels_in t → true ≡ head_part → levels ≤ levels_most
  levels_few levels ls e = rw ls (leb-true (levels_in t) levels_most (and_right (leb (initial_levels s) (levels_in t)) _ (and_right (signed_ok marks t) _ (sym e))))

  pub places_own : (places : ℕ) → true ≡ kept_part places → places ≤ s.store.loans
  places_own places e = kept_most t.loans t.index s.store.loans places (given_in t) (sym e)

  pub held_few : BuddyIn s → (used : ℕ) → used ≡ chunk_places_in t → true ≡ places_part → used ≤ chunks_most
  unfolding parted_ok
  held_few fit used cs e = omega (arith, cs, leb-true (chunk_places_in t) s.store.chunks (and_left (leb (chunk_places_in t) s.store.chunks) _ (sym e)), fit.store.chunks_most_lem)
