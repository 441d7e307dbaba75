-- The walk that lists the chunks that go, turn by turn.
use mathlib.Core.Path.{◌≡◌, refl, sym, ap, ◌∙◌}
use mathlib.Core.Bool.{Bool, ◌&&◌, not}
use Rattle.std.specs.Prelude.{Option, Some, None, is_some}
use mathlib.Core.List.{List, [], ◌∷◌, ◌++◌}
use Prim.Native.Nat.{ℕ, ◌+◌, ◌*◌, ◌≤◌, ◌<◌}
use native.Mathlib.Omega.{arith}
use lib.Dec.{eqb}
use lib.ListN.{length, drop, get_or, set, length-append, drop_of_length-le}
use lib.Seq.{sets, length-sets}
use Rattle.words.specs.Rows.{row, rows}
use Rattle.words.proofs.Records.{length_rows, get_d_rows}
use Rattle.counter.specs.Limits.{chunk_size_most}
use Rattle.freelist_rules.specs.Records.{gap_row}
use Rattle.freelist_rules.specs.Threads.{region_in, free_of, no_gap}
use Rattle.freelist_rules.specs.Steps.{no_region}
use Rattle.freelist_rules.proofs.GapLists.{free_at, free_length}
use Rattle.freelist_rules.specs.Release.{wholly, rotated, leaving, memory_of, memories_of, bytes_of}
use Rattle.store_rules.specs.declared.Chunk.{Chunk}
use Rattle.store_rules.specs.declared.Region.{Region}
use Rattle.freelist_rules.proofs.Listed.{memories_length}
use Rattle.freelist_rules.proofs.Base.{at_in}
use Rattle.freelist_marks.specs.Turned.{turned}
use Rattle.freelist_marks.specs.Releasable.{Releasable}
use Rattle.freelist_marks.proofs.Fronts.{sets_more, sets_turned, length_rotated}
use Rattle.freelist_marks.specs.Numbered.{going}
use Rattle.freelist_marks.proofs.Finding.{going_told, going_is}
use Rattle.freelist_marks.proofs.Leaving.{region_next, goes_told, leaving_long}

-- ---- sums and numbers of one more, and of a list turned

bytes_append : (rs : List Region) (r : Region) → bytes_of (rs ++ (r ∷ [])) ≡ bytes_of rs + r.end
bytes_append [] r = omega arith
bytes_append (d ∷ rs) r = omega (arith, bytes_append rs r)

bytes_rotated : (rs : List Region) → bytes_of (rotated rs) ≡ bytes_of rs
bytes_rotated [] = refl
bytes_rotated (r ∷ rs) = omega (arith, bytes_append rs r)

module _ (cs : List Chunk) where
  memories_append : (rs : List Region) (r : Region) → memories_of cs (rs ++ (r ∷ [])) ≡ memories_of cs rs ++ (memory_of cs r ∷ [])
  memories_append [] r = refl
  memories_append (d ∷ rs) r = ap (λ (l : List ℕ). memory_of cs d ∷ l) (memories_append rs r)

  memories_rotated : (rs : List Region) → memories_of cs (rotated rs) ≡ rotated (memories_of cs rs)
  memories_rotated [] = refl
  memories_rotated (r ∷ rs) = memories_append rs r

-- ---- after i regions

-- m chunks of so many bytes are listed in u, which was l
pub record Marking (cs : List Chunk) (spare : Bool) (rs : List Region) (l u : List ℕ) (i m bytes : ℕ) : Type 0 where
  pub marked : List Region
  pub same : leaving cs spare [] rs ≡ leaving cs spare marked (drop i rs)
  pub count : m ≡ length marked
  pub sum : bytes ≡ bytes_of marked
  pub words : u ≡ sets l 0 (memories_of cs marked)
  pub within : m ≤ i
  pub most : bytes ≤ chunk_size_most * m

pub marking_none : (cs : List Chunk) (spare : Bool) (rs : List Region) (l : List ℕ) → Marking cs spare rs l l 0 0 0
marking_none cs spare rs l = record { marked = []; same = refl; count = refl; sum = refl; words = refl; within = omega arith; most = omega arith }

pub marking_done : (cs : List Chunk) (spare : Bool) (rs : List Region) (l u : List ℕ) (i m bytes : ℕ) → length rs ≤ i → Marking cs spare rs l u i m bytes
    → (m ≡ length (leaving cs spare [] rs)) × (bytes ≡ bytes_of (leaving cs spare [] rs)) × (u ≡ sets l 0 (memories_of cs (leaving cs spare [] rs)))
unfolding leaving
marking_done cs spare rs l u i m bytes h w =
    let e : w.marked ≡ leaving cs spare [] rs = sym (w.same ∙ ap (leaving cs spare w.marked) (drop_of_length-le rs h)) in
    (w.count ∙ ap length e, w.sum ∙ ap bytes_of e, w.words ∙ ap (λ (g : List Region). sets l 0 (memories_of cs g)) e)

pub marking_length : (cs : List Chunk) (spare : Bool) (rs : List Region) (l u : List ℕ) (i m bytes : ℕ) → Marking cs spare rs l u i m bytes → length u ≡ length l
marking_length cs spare rs l u i m bytes w = ap length w.words ∙ length-sets l 0 (memories_of cs w.marked)

module _ (cs : List Chunk) (spare : Bool) (t : List ℕ) (n i : ℕ) (h : i < n) (l : List ℕ) (fit : Releasable cs (free_of (rows gap_row n t))) (room : length cs ≤ length l)
    (u : List ℕ) (m bytes : ℕ) (at : Marking cs spare (free_of (rows gap_row n t)) l u i m bytes) where
  abbrev rs : List Region
  rs = free_of (rows gap_row n t)

  abbrev rest : List Region
  rest = drop (i + 1) rs

  low : (r : Region) → r ≡ region_in (row gap_row i t) → r.end ≤ chunk_size_most
  low r is =
      let e : get_or rs i no_region ≡ r = free_at (rows gap_row n t) i ∙ ap region_in (get_d_rows gap_row n i t no_gap h) ∙ sym is in
      omega (arith, ap (λ (z : Region). z.end) e, fit.low (get_or rs i no_region) (at_in i rs no_region (omega (arith, free_length (rows gap_row n t), length_rows gap_row n t))))

  pub marking_fits : m ≤ length l
  marking_fits = omega (arith, room, fit.few spare, ap length at.same, leaving_long cs spare at.marked (drop i rs), at.count)

  pub marking_turns : m ≤ length u
  marking_turns = omega (arith, marking_fits, marking_length cs spare rs l u i m bytes at)

  -- the region of this turn, and what is found for it
  module _ (o : Option Chunk) (e : o ≡ going cs (spare && eqb (i + 1) n) (region_in (row gap_row i t))) where
    abbrev r : Region
    r = region_in (row gap_row i t)

    abbrev b : Bool
    b = not (spare && eqb (i + 1) n) && wholly cs r

    told : is_some o ≡ b
    told = going_told cs fit.numbers r (spare && eqb (i + 1) n) o e

    pub marking_room : (c : Chunk) → o ≡ Some c → bytes + c.size ≤ chunk_size_most * (m + 1)
    marking_room c q = omega (arith, low r refl, at.most, (going_is cs fit.numbers r (spare && eqb (i + 1) n) c (sym q ∙ e)).1)

    pub marking_stays : o ≡ None → (v : List ℕ) → v ≡ turned m u → Marking cs spare rs l v (i + 1) m bytes
    unfolding leaving
    marking_stays q v p =
        let long = memories_length cs at.marked in
        let ms : List ℕ = memories_of cs at.marked in
        let c : m ≡ length ms = at.count ∙ sym long in
        record {
          marked = rotated at.marked;
          same = at.same ∙ ap (leaving cs spare at.marked) (region_next t n i h) ∙ rw (goes_told cs spare t n i h b refl ∙ sym told ∙ ap is_some q);
          count = at.count ∙ sym (length_rotated at.marked);
          sum = at.sum ∙ sym (bytes_rotated at.marked);
          words = p ∙ ap (turned m) at.words ∙ ap (λ (z : ℕ). turned z (sets l 0 ms)) c ∙ sets_turned l ms (omega (arith, c, marking_fits)) ∙ ap (sets l 0) (sym (memories_rotated cs at.marked));
          within = omega (arith, at.within);
          most = at.most;
        }

    pub marking_goes : (d : Chunk) → o ≡ Some d → (v : List ℕ) → v ≡ set u m d.memory → Marking cs spare rs l v (i + 1) (m + 1) (bytes + d.size)
    unfolding leaving
    marking_goes d q v p =
        let is = going_is cs fit.numbers r (spare && eqb (i + 1) n) d (sym q ∙ e) in
        let long = memories_length cs at.marked in
        let ms : List ℕ = memories_of cs at.marked in
        let more : List Region = at.marked ++ (r ∷ []) in
        let c : m ≡ length ms = at.count ∙ sym long in
        let s : leaving cs spare [] rs ≡ leaving cs spare more rest =
        at.same ∙ ap (leaving cs spare at.marked) (region_next t n i h) ∙ rw (goes_told cs spare t n i h b refl ∙ sym told ∙ ap is_some q) in
        let y : length more ≡ length at.marked + 1 = length-append at.marked (r ∷ []) in
        let f : length ms < length l = omega (arith, room, fit.few spare, ap length s, leaving_long cs spare more rest, y, long) in
        record {
          marked = more;
          same = s;
          count = omega (arith, at.count, y);
          sum = omega (arith, at.sum, bytes_append at.marked r, is.1);
          words = p ∙ ap (λ (z : List ℕ). set z m d.memory) at.words ∙ ap (λ (z : ℕ). set (sets l 0 ms) z d.memory) c ∙ ap (λ (z : ℕ). set (sets l 0 ms) (length ms) z) is.0 ∙ sets_more l ms (memory_of cs r) f ∙ ap (sets l 0) (sym (memories_append cs at.marked r));
          within = omega (arith, at.within);
          most = marking_room d q;
        }
