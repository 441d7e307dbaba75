-- The test of the trees by a walk and by counts, of what its code is given: it reads no more than the levels, and four tables.
use mathlib.Core.Path.{◌≡◌, refl, ap, ap₂, ◌∙◌}
use mathlib.Core.Bool.{Bool, true}
use mathlib.Core.List.{List, []}
use Prim.Native.Nat.{ℕ, zero, suc, ◌+◌, ◌-◌, ◌≤◌}
use native.Mathlib.Omega.{arith}
use lib.Dec.{eqb, leb}
use lib.ListN.{get_or}
use borrow.Author.Tests.{leb-true}
use Rattle.lists.proofs.Bools.{and_left}
use Rattle.counter.specs.InTable.{BuddyIn}
use Rattle.counter.specs.Limits.{levels_most}
use Rattle.counter.specs.declared.settings.BuddySettings.{BuddySettings}
use Rattle.slabs.specs.Slab.{vacant_at}
use Rattle.slabs.specs.Test.{vacancies}
use Rattle.store_rules.specs.Loans.{places_at, loan_words, size_at}
use Rattle.buddy_rules.specs.Level.{used_at, level_start}
use Rattle.buddy_rules.specs.LevelTest.{ringed, in_use, level_ok}
use Rattle.buddy_levels.specs.Seen.{part_settings, part_tables, level_part}
use Rattle.buddy_rules.specs.Tables.{Tables, Lengths, tables, chunk_places_at, chunk_words, chunk_size_at, levels_in, chunk_places_in}
use Rattle.buddy_rules.specs.Test.{every, left_chunks, pairs_in_use, pairs_ready, live_count, held_count, leaves_ok, counted_ok}
use Rattle.buddy_rules.proofs.Tests.{every_yes}
use Rattle.buddy_walk.specs.Walks.{Within}
use Rattle.buddy_walk.proofs.Shows.{chunks_show}
use Rattle.buddy_test.proofs.Parts.{level_fits}

-- how many pairs are in use and how many ready is a matter of the tree
pub pairs_seen : (s z : BuddySettings) (t v : Tables) → s.pairs ≡ z.pairs → t.room ≡ v.room → (n : ℕ) → pairs_in_use s t n ≡ pairs_in_use z v n
unfolding pairs_in_use
pairs_seen s z t v e f zero = refl
pairs_seen s z t v e f (suc n) = λ j. pairs_seen s z t v e f n j + in_use (level_start (e j) n) (f j)

pub ready_seen : (s z : BuddySettings) (t v : Tables) → s.pairs ≡ z.pairs → t.room ≡ v.room → (n : ℕ) → pairs_ready s t n ≡ pairs_ready z v n
unfolding pairs_ready
ready_seen s z t v e f zero = refl
ready_seen s z t v e f (suc n) = λ j. ready_seen s z t v e f n j + ringed (level_start (e j) n) (f j)

-- how many loans there are, of the loans, and chunks, of the chunks
pub live_seen : (t v : Tables) → t.loans ≡ v.loans → live_count t ≡ live_count v
unfolding live_count
live_seen t v e = λ j. get_or (e j) places_at 0 - vacancies (vacant_at (e j) size_at loan_words) (get_or (e j) places_at 0)

pub held_seen : (t v : Tables) → t.chunks ≡ v.chunks → held_count t ≡ held_count v
unfolding held_count
held_seen t v e = λ j. get_or (e j) chunk_places_at 0 - vacancies (vacant_at (e j) chunk_size_at chunk_words) (get_or (e j) chunk_places_at 0)

pub leaves_shown : (s : BuddySettings) (t : Tables) → leaves_ok s t ≡ leaves_ok s (part_tables (levels_in t) t.loans t.chunks t.index t.room)
unfolding leaves_ok
leaves_shown s t =
    let v = part_tables (levels_in t) t.loans t.chunks t.index t.room in
    λ j. eqb (ready_seen s s t v refl refl (levels_in t) j + live_seen t v refl j) (pairs_seen s s t v refl refl (levels_in t) j + held_seen t v refl j)

pub counted_shown : (s : BuddySettings) (t : Tables) → counted_ok s t ≡ counted_ok s (part_tables (levels_in t) t.loans t.chunks t.index t.room)
unfolding counted_ok
counted_shown s t =
    let v = part_tables (levels_in t) t.loans t.chunks t.index t.room in
    let k : pairs_in_use s t (levels_in t) + live_count t ≡ pairs_in_use s v (levels_in t) + live_count v =
    ap₂ ◌+◌ (pairs_seen s s t v refl refl (levels_in t)) (live_seen t v refl) in
    ap (λ (i : ℕ). eqb i 0) (chunks_show s t (chunk_places_in t) (pairs_in_use s t (levels_in t) + live_count t) ∙ ap (left_chunks s v (chunk_places_in t)) k)

module _ (s : BuddySettings) (levels : ℕ) (loans chunks index tree : List ℕ) where
  abbrev t : Tables
  t = part_tables levels loans chunks index tree

  -- u pairs in use, r ready, k loans and h chunks, as the levels' test, the book's and that of the chunk places told
  module _ (places u k : ℕ) (p : places ≡ get_or loans places_at 0) (us : u ≡ pairs_in_use (part_settings 0 s.pairs 0) (level_part 0 [] tree) levels)
      (ks : k ≡ places - vacancies (vacant_at loans size_at loan_words) places) where
    used_is : u ≡ pairs_in_use s t levels
    used_is = us ∙ pairs_seen (part_settings 0 s.pairs 0) s (level_part 0 [] tree) t refl refl levels

    live_is : k ≡ live_count t
    unfolding live_count
    live_is = ks ∙ (λ j. p j - vacancies (vacant_at loans size_at loan_words) (p j))

    pub count_told : u + k ≡ pairs_in_use s t levels + live_count t
    count_told = ap₂ ◌+◌ used_is live_is

    pub leaves_told : (r h : ℕ) (b : Bool) → r ≡ pairs_ready (part_settings 0 s.pairs 0) (level_part 0 [] tree) levels → h ≡ held_count (level_part 0 chunks [])
        → b ≡ eqb (r + k) (u + h) → b ≡ leaves_ok s t
    unfolding leaves_ok
    leaves_told r h b rs hs e =
        e ∙ (λ j. eqb ((rs ∙ ready_seen (part_settings 0 s.pairs 0) s (level_part 0 [] tree) t refl refl levels) j + live_is j) (used_is j + (hs ∙ held_seen (level_part 0 chunks []) t refl) j))

  pub met_told : (held count left : ℕ) → held ≡ get_or chunks chunk_places_at 0 → count ≡ pairs_in_use s t levels + live_count t → left ≡ left_chunks s t held count → eqb left 0 ≡ counted_ok s t
  unfolding counted_ok
  met_told held count left h c e = ap (λ (i : ℕ). eqb i 0) (e ∙ (λ j. left_chunks s t (h j) (c j)))

  -- the lengths and the levels' test say that no walk leads past a table's end
  pub within_told : (head : List ℕ) (places : ℕ) → BuddyIn s → Lengths s (tables head loans chunks index tree) → levels ≤ levels_most → places ≡ get_or loans places_at 0 → places ≤ s.store.loans
      → every (λ (l : ℕ). level_ok (level_start s.pairs l) s.pairs tree) levels ≡ true → Within levels s.pairs s.store.loans loans index tree
  unfolding level_ok
  within_told head places fit long low p few good =
      record {
        few_pairs = fit.pairs_most_lem;
        few_loans = fit.store.loans_most_lem;
        few_places = omega (arith, p, few);
        loans_there = omega (arith, long.loans);
        nodes_there = omega (arith, long.index);
        pairs_there = λ l h.
            let u : ℕ = get_or tree (level_start s.pairs l + used_at) 0 in
            let a : u ≤ s.pairs = leb-true u s.pairs (and_left (leb u s.pairs) _ (every_yes (λ (i : ℕ). level_ok (level_start s.pairs i) s.pairs tree) levels l good h)) in
            omega (arith, a, long.room, level_fits s.pairs l (level_start s.pairs l) (level_start s.pairs levels_most) (omega arith) refl (omega arith));
      }
