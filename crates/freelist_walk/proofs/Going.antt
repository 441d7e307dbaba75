-- The whole walk, by its turns, and its end.
use mathlib.Core.Path.{◌≡◌, refl, sym, ap, ◌∙◌, subst}
use mathlib.Core.Bool.{Bool, true, false, ◌&&◌}
use Rattle.std.specs.Prelude.{Option, Some}
use mathlib.Core.Logic.{⊎_elim}
use mathlib.Core.List.{List, []}
use Prim.Native.Nat.{ℕ, ◌≤◌}
use native.Mathlib.Omega.{arith}
use lib.Dec.{eqb}
use lib.ListN.{length, drop, get_or, drop_of_length-le, length-drop}
use borrow.Author.Tests.{eq-eqb, eqb-true}
use Rattle.lists.proofs.Bools.{told, true_false, same_test}
use Rattle.words.specs.Rows.{rows}
use Rattle.words.proofs.Records.{length_rows}
use Rattle.store_rules.specs.declared.Chunk.{Chunk}
use Rattle.freelist_rules.specs.Records.{chunk_row, gap_row}
use Rattle.freelist_rules.specs.Tables.{whole_at}
use Rattle.freelist_rules.specs.Threads.{after_in, before_in}
use Rattle.freelist_walk.specs.Left.{Ground, Left}
use Rattle.freelist_walk.specs.Turn.{ground_of, LeftAt, Stands, Turned, done_at}
use Rattle.freelist_walk.specs.Walked.{walk_ok}
use Rattle.freelist_walk.specs.declared.turns.Reached.{Reached}
use Rattle.freelist_walk.proofs.Decides.{walk_left, left_walk}
use Rattle.freelist_walk.proofs.Piecing.{some_is}
use Rattle.freelist_walk.proofs.Turning.{end_on, end_back}

-- what the code reads at the end
pub done_is : (most : ℕ) (index regions : List ℕ) (n : ℕ) (s : Reached) (next back whole : ℕ) → next ≡ after_in most index s.last → back ≡ before_in most index 0 → whole ≡ get_or regions whole_at 0
    → (eqb s.left 0 && (eqb next 0 && (eqb back s.last && (eqb s.region n && eqb s.whole whole)))) ≡ done_at most index regions n s
done_is most index regions n s next back whole p q r = rw (p, q, r)

-- and what it tests then
done_yes : (a b c d e : Bool) → (a && (b && (c && (d && e)))) ≡ true → (a ≡ true) × (b ≡ true) × (c ≡ true) × (d ≡ true) × (e ≡ true)
done_yes true true true true true h = (refl, refl, refl, refl, refl)
done_yes true true true true false h = absurd (true_false false h refl)
done_yes true true true false e h = absurd (true_false false h refl)
done_yes true true false d e h = absurd (true_false false h refl)
done_yes true false c d e h = absurd (true_false false h refl)
done_yes false b c d e h = absurd (true_false false h refl)

module _ (most k : ℕ) (chunks loans : List ℕ) (places : ℕ) (index regions : List ℕ) (n live : ℕ) where
  abbrev t : Ground
  t = ground_of most k chunks loans places index regions n

  abbrev whole : Bool
  whole = walk_ok most (rows chunk_row k chunks) loans places index (rows gap_row n regions) live (get_or regions whole_at 0)

  -- what is left to test where the walk stands decides what was to test
  pub record Going (s : Reached) : Type 0 where
    pub on : walk_ok most (rows chunk_row k chunks) loans places index (rows gap_row n regions) live (get_or regions whole_at 0) ≡ true → LeftAt (ground_of most k chunks loans places index regions n) s
    pub back : LeftAt (ground_of most k chunks loans places index regions n) s → walk_ok most (rows chunk_row k chunks) loans places index (rows gap_row n regions) live (get_or regions whole_at 0) ≡ true
    pub stands : Stands k n places s

  pub going_starts : live ≤ places → Going (record { chunk = 0; byte = 0; last = 0; left = live; region = 0; whole = 0 })
  going_starts few =
      record {
        on = walk_left most (rows chunk_row k chunks) loans places index (rows gap_row n regions) live (get_or regions whole_at 0);
        back = left_walk most (rows chunk_row k chunks) loans places index (rows gap_row n regions) live (get_or regions whole_at 0) few;
        stands = record { chunk = omega arith; region = omega arith; last = omega arith; whole = omega arith };
      }

  module _ (s : Reached) (g : Going s) where
    module _ (r : Option Reached) (w : Turned k n t s r) where
      pub going_on : (q : Reached) → r ≡ Some q → Going q
      going_on q e =
          record {
            on = λ h. let v = w.on (g.on h) in subst (LeftAt t) (some_is v.0 q (sym v.1 ∙ e)) v.2;
            back = λ L. g.back (w.back q e L);
            stands = w.stands q e;
          }

      pub going_stops : ((q : Reached) → r ≡ Some q → ⊥) → false ≡ whole
      going_stops f = ⊎_elim (λ h. let v = w.on (g.on h) in absurd (f v.0 v.1)) sym (told whole)

    -- no chunk is left, and the gaps that remain are none where all were passed
    no_chunk : k ≤ s.chunk → drop s.chunk (rows chunk_row k chunks) ≡ []
    no_chunk h = drop_of_length-le (rows chunk_row k chunks) {i = s.chunk} (omega (arith, length_rows chunk_row k chunks))

    no_gap_lem : s.region ≡ n → drop s.region (rows gap_row n regions) ≡ []
    no_gap_lem e = drop_of_length-le (rows gap_row n regions) {i = s.region} (omega (arith, length_rows gap_row n regions))

    all_gaps : drop s.region (rows gap_row n regions) ≡ [] → s.region ≡ n
    all_gaps e = omega (arith, g.stands.region, ap length e, length-drop s.region (rows gap_row n regions), length_rows gap_row n regions)

    done_left : k ≤ s.chunk → done_at most index regions n s ≡ true → LeftAt t s
    done_left h e =
        let v = done_yes (eqb s.left 0) (eqb (after_in most index s.last) 0) (eqb (before_in most index 0) s.last) (eqb s.region n) (eqb s.whole (get_or regions whole_at 0)) e in
        subst (λ (xs : List Chunk). Left t xs s.byte s.last s.left (drop s.region (rows gap_row n regions)) s.whole) (sym (no_chunk h))
        (end_back t s.byte s.last s.left (drop s.region (rows gap_row n regions)) s.whole (eqb-true s.left 0 v.0) (eqb-true (after_in most index s.last) 0 v.1) (eqb-true (before_in most index 0) s.last v.2) (no_gap_lem (eqb-true s.region n v.3)) (eqb-true s.whole (get_or regions whole_at 0) v.4))

    left_done : k ≤ s.chunk → LeftAt t s → done_at most index regions n s ≡ true
    left_done h L =
        let v = end_on t s.byte s.last s.left (drop s.region (rows gap_row n regions)) s.whole (subst (λ (xs : List Chunk). Left t xs s.byte s.last s.left (drop s.region (rows gap_row n regions)) s.whole) (no_chunk h) L) in
        rw (eq-eqb s.left 0 v.0, eq-eqb (after_in most index s.last) 0 v.1, eq-eqb (before_in most index 0) s.last v.2, eq-eqb s.region n (all_gaps v.3), eq-eqb s.whole (get_or regions whole_at 0) v.4)

    pub going_ends : k ≤ s.chunk → (b : Bool) → b ≡ done_at most index regions n s → b ≡ whole
    going_ends h b e = e ∙ same_test (done_at most index regions n s) whole (λ d. g.back (done_left h d)) (λ d. left_done h (g.on d))
