-- The chunk with a number stands where a search by halves ends, and says whether a region is all of it.
use mathlib.Core.Path.{◌≡◌, refl, sym, ap, ◌∙◌}
use mathlib.Core.Bool.{Bool, true, false, cond, ◌&&◌, ◌||◌, not}
use Rattle.std.specs.Prelude.{Option, Some, None, is_some}
use mathlib.Core.Logic.{◌⊎◌, inl, inr, ⊎_elim}
use mathlib.Core.List.{List, [], ◌∷◌}
use Prim.Native.Nat.{ℕ, zero, suc, ◌+◌, ◌≤◌, ◌<◌}
use native.Mathlib.Omega.{arith}
use lib.Dec.{eqb, ltb}
use lib.ListN.{length, get_or}
use borrow.Author.Tests.{leb-true, leb-false, le-leb, lt-ltb, ltb-true, eqb-true, eq-eqb, ne_eqb}
use Rattle.words.specs.Words.{cell_of}
use Rattle.words.specs.Rows.{row, rows}
use Rattle.words.proofs.Records.{length_rows, get_d_rows, cell_row}
use Rattle.lists.proofs.Bools.{and_left, and_right, and_both, told, true_false, same?, lt_or_le}
use Rattle.freelist_rules.specs.Records.{chunk, chunk_row, gap_row, chunk_number_at, region_start_at, chunk_words, region_words}
use Rattle.freelist_rules.specs.Threads.{region_in}
use Rattle.freelist_rules.specs.Release.{covers, wholly, goes, memory_of}
use Rattle.store_rules.specs.declared.Chunk.{Chunk}
use Rattle.store_rules.specs.declared.Region.{Region}
use Rattle.freelist_rules.proofs.Base.{rising_low, at_in}
use Rattle.freelist_rules.proofs.Facts.{ChunksRise}
use Rattle.freelist_regions.specs.Stand.{Parting, Parts}
use Rattle.freelist_regions.specs.Seat.{reaches}
use Rattle.freelist_marks.specs.Numbered.{numbered, whole_in, going}
use Rattle.freelist_marks.specs.Releasable.{NumbersRise}

no_chunk : Chunk
no_chunk = chunk 0 0 0

abbrev number_at : List Chunk → ℕ → ℕ
number_at cs i = (get_or cs i no_chunk).number

number_low : (b : ℕ) (cs : List Chunk) → ChunksRise b cs → (i : ℕ) → i < length cs → b ≤ number_at cs i
number_low b cs up i h = (rising_low (λ (c : Chunk). c.number) (λ (c : Chunk). suc c.number) 0 b cs up (get_or cs i no_chunk) (at_in i cs no_chunk h)).0

numbers_order : (b : ℕ) (cs : List Chunk) → ChunksRise b cs → (i j : ℕ) → i < j → j < length cs → number_at cs i < number_at cs j
numbers_order b [] up i j h g = absurd (omega arith)
numbers_order b (c ∷ cs) up i zero h g = absurd (omega arith)
numbers_order b (c ∷ cs) up zero (suc j) h g = omega (arith, number_low (0 + suc c.number) cs up.2 j (omega arith))
numbers_order b (c ∷ cs) up (suc i) (suc j) h g = numbers_order (0 + suc c.number) cs up.2 i j (omega arith) (omega arith)

-- ---- None and Some

no_some : {A : Type 0} (a : A) → None ≡ Some a → ⊥
no_some a e = cc

some_same : {A : Type 0} (a b : A) → Some a ≡ Some b → a ≡ b
some_same a b e = cc

-- ---- the chunk with a number, by its place

found_at : (n b : ℕ) (cs : List Chunk) → ChunksRise b cs → (j : ℕ) → j < length cs → n ≡ number_at cs j → Some (get_or cs j no_chunk) ≡ numbered n cs
unfolding numbered
found_at n b [] up j h e = absurd (omega arith)
found_at n b (c ∷ cs) up zero h e = rw (eq-eqb n c.number e)
found_at n b (c ∷ cs) up (suc j) h e =
    rw (ne_eqb n c.number (λ q. omega (arith, e, q, number_low (0 + suc c.number) cs up.2 j (omega arith)))) (found_at n (0 + suc c.number) cs up.2 j (omega arith) e)

found_none : (n : ℕ) (cs : List Chunk) → ((i : ℕ) → i < length cs → n ≡ number_at cs i → ⊥) → None ≡ numbered n cs
unfolding numbered
found_none n [] never = refl
found_none n (c ∷ cs) never = rw (ne_eqb n c.number (never 0 (omega arith))) (found_none n cs (λ i h. never (suc i) (omega arith)))

module _ (t : List ℕ) (k n : ℕ) (up : NumbersRise (rows chunk_row k t)) where
  number_read : (i : ℕ) → i < k → get_or t (cell_of chunk_number_at chunk_words i) 0 ≡ number_at (rows chunk_row k t) i
  number_read i h = cell_row t chunk_number_at chunk_words i ∙ sym (ap (λ (c : Chunk). c.number) (get_d_rows chunk_row k i t no_chunk h))

  long : length (rows chunk_row k t) ≡ k
  long = length_rows chunk_row k t

  pub numbers_part : Parting (reaches t n) k
  numbers_part i j h g e =
      le-leb n (get_or t (cell_of chunk_number_at chunk_words j) 0)
      (omega (arith, leb-true n (get_or t (cell_of chunk_number_at chunk_words i) 0) e, number_read i (omega arith), number_read j g, numbers_order 1 (rows chunk_row k t) up i j h (omega (arith, long))))

  module _ (j : ℕ) (at : Parts (reaches t n) k j) (c : Chunk) (is : c ≡ row chunk_row j t) where
    in_rows : j < k → c ≡ get_or (rows chunk_row k t) j no_chunk
    in_rows h = is ∙ sym (get_d_rows chunk_row k j t no_chunk h)

    pub there : (ltb j k && eqb n c.number) ≡ true → Some c ≡ numbered n (rows chunk_row k t)
    there e =
        let h = ltb-true j k (and_left (ltb j k) (eqb n c.number) e) in
        let q = eqb-true n c.number (and_right (ltb j k) (eqb n c.number) e) in
        ap (λ (d : Chunk). Some d) (in_rows h) ∙ found_at n 1 (rows chunk_row k t) up j (omega (arith, long)) (q ∙ ap (λ (z : Chunk). z.number) (in_rows h))

    pub nowhere : (ltb j k && eqb n c.number) ≡ false → None ≡ numbered n (rows chunk_row k t)
    nowhere e = found_none n (rows chunk_row k t) none
      where
        other : (i : ℕ) → i < k → n ≡ number_at (rows chunk_row k t) i → (i < j) ⊎ (j ≤ i) → ⊥
        other i h q (inl a) = omega (arith, leb-false n (get_or t (cell_of chunk_number_at chunk_words i) 0) (at.below i a), number_read i h, q)
        other i h q (inr a) = ⊎_elim here past (same? i j)
          where
            here : i ≡ j → ⊥
            here s =
                let b : j < k = omega (arith, s, h) in
                true_false (ltb j k && eqb n c.number)
                (and_both (ltb j k) (eqb n c.number) (lt-ltb j k b) (eq-eqb n c.number (q ∙ ap (number_at (rows chunk_row k t)) s ∙ sym (ap (λ (z : Chunk). z.number) (in_rows b)))))
                e

            past : (i ≡ j → ⊥) → ⊥
            past s =
                let l : j < i = omega (arith, s, a) in
                omega (arith, q, leb-true n (get_or t (cell_of chunk_number_at chunk_words j) 0) (at.above j (omega arith) (omega arith)), number_read j (omega arith), numbers_order 1 (rows chunk_row k t) up j i l (omega (arith, long)))

        none : (i : ℕ) → i < length (rows chunk_row k t) → n ≡ number_at (rows chunk_row k t) i → ⊥
        none i h q = other i (omega (arith, long)) q (lt_or_le i j)

-- ---- what the definitions of a release say, by the chunk with the region's number

memory_numbered : (r : Region) (cs : List Chunk) (c : Chunk) → numbered r.chunk cs ≡ Some c → c.memory ≡ memory_of cs r
unfolding numbered
memory_numbered r [] c e = absurd (no_some c e)
memory_numbered r (d ∷ cs) c e = go (eqb r.chunk d.number) (memory_numbered r cs c) e
  where
    go : (b : Bool) → (numbered r.chunk cs ≡ Some c → c.memory ≡ memory_of cs r) → cond b (Some d) (numbered r.chunk cs) ≡ Some c → c.memory ≡ cond b d.memory (memory_of cs r)
    go true ih q = ap (λ (z : Chunk). z.memory) (sym (some_same d c q))
    go false ih q = ih q

-- none of higher numbers is the region's
wholly_higher : (r : Region) (b : ℕ) (cs : List Chunk) → r.chunk < b → ChunksRise b cs → wholly cs r ≡ false
wholly_higher r b [] h up = refl
wholly_higher r b (c ∷ cs) h up = rw (ne_eqb r.chunk c.number (λ q. omega (arith, q, up.0))) (wholly_higher r (0 + suc c.number) cs (omega (arith, up.0)) up.2)

or_none : (a : Bool) → (a || false) ≡ a
or_none true = refl
or_none false = refl

-- whether the chunk that was found, where there is one, ends where the region does
abbrev fills : Region → Option Chunk → Bool
fills r None = false
fills r (Some c) = eqb r.end c.size

wholly_from : (r : Region) → r.start ≡ 0 → (b : ℕ) → (cs : List Chunk) → ChunksRise b cs → fills r (numbered r.chunk cs) ≡ wholly cs r
unfolding numbered
wholly_from r z b [] up = refl
wholly_from r z b (c ∷ cs) up = ⊎_elim same (other (wholly_from r z (0 + suc c.number) cs up.2)) (told (eqb r.chunk c.number))
  where
    same : eqb r.chunk c.number ≡ true → fills r (cond (eqb r.chunk c.number) (Some c) (numbered r.chunk cs)) ≡ (covers r c || wholly cs r)
    same e =
        let q : wholly cs r ≡ false = wholly_higher r (0 + suc c.number) cs (omega (arith, eqb-true r.chunk c.number e)) up.2 in
        let o : eqb r.start 0 ≡ true = eq-eqb r.start 0 z in
        let n : cond (eqb r.chunk c.number) (Some c) (numbered r.chunk cs) ≡ Some c = rw e in
        ap (fills r) n ∙ rw (e, o, q) (sym (or_none (eqb r.end c.size)))

    other : fills r (numbered r.chunk cs) ≡ wholly cs r → eqb r.chunk c.number ≡ false → fills r (cond (eqb r.chunk c.number) (Some c) (numbered r.chunk cs)) ≡ (covers r c || wholly cs r)
    other ih e = rw e ih

wholly_late : (r : Region) → (r.start ≡ 0 → ⊥) → (cs : List Chunk) → wholly cs r ≡ false
wholly_late r z [] = refl
wholly_late r z (c ∷ cs) = go (eqb r.chunk c.number) (wholly_late r z cs)
  where
    go : (b : Bool) → wholly cs r ≡ false → ((b && (eqb r.start 0 && eqb r.end c.size)) || wholly cs r) ≡ false
    go true ih = rw (ne_eqb r.start 0 z) ih
    go false ih = ih

-- the chunk that a region is all of, by the chunk that was found for it
module _ (cs : List Chunk) (up : ChunksRise 1 cs) (r : Region) where
  pub whole_late : (r.start ≡ 0 → ⊥) → None ≡ whole_in cs r
  whole_late z = rw (wholly_late r z cs)

  module _ (z : r.start ≡ 0) where
    filled : wholly cs r ≡ fills r (numbered r.chunk cs)
    filled = sym (wholly_from r z 1 cs up)

    pub whole_none : numbered r.chunk cs ≡ None → None ≡ whole_in cs r
    whole_none e = rw (filled ∙ ap (fills r) e)

    pub whole_some : (c : Chunk) → numbered r.chunk cs ≡ Some c → r.end ≡ c.size → Some c ≡ whole_in cs r
    whole_some c e q = rw (filled ∙ ap (fills r) e ∙ eq-eqb r.end c.size q) (sym e)

    pub whole_short : (c : Chunk) → numbered r.chunk cs ≡ Some c → (r.end ≡ c.size → ⊥) → None ≡ whole_in cs r
    whole_short c e q = rw (filled ∙ ap (fills r) e ∙ ne_eqb r.end c.size q)

  -- only what starts at 0 is all of a chunk
  start_of : wholly cs r ≡ true → r.start ≡ 0
  start_of w = ⊎_elim (λ (z : r.start ≡ 0). z) (λ (z : r.start ≡ 0 → ⊥). absurd (true_false (wholly cs r) w (wholly_late r z cs))) (same? r.start 0)

  -- it is told where there is one, and then with its memory and its size
  told_whole : (w : Bool) → wholly cs r ≡ w → (o : Option Chunk) → o ≡ cond w (numbered r.chunk cs) None → is_some o ≡ w
  told_whole false e o q = ap is_some q
  told_whole true e o q = found (numbered r.chunk cs) refl
    where
      found : (p : Option Chunk) → numbered r.chunk cs ≡ p → is_some o ≡ true
      found None f = absurd (true_false (wholly cs r) e (filled (start_of e) ∙ ap (fills r) f))
      found (Some c) f = ap is_some (q ∙ f)

  pub whole_told : (o : Option Chunk) → o ≡ whole_in cs r → is_some o ≡ wholly cs r
  whole_told o q = told_whole (wholly cs r) refl o q

  pub going_told : (spared : Bool) (o : Option Chunk) → o ≡ going cs spared r → is_some o ≡ (not spared && wholly cs r)
  going_told true o q = ap is_some q
  going_told false o q = whole_told o q

  size_of : (w : Bool) → wholly cs r ≡ w → (c : Chunk) → Some c ≡ cond w (numbered r.chunk cs) None → (c.memory ≡ memory_of cs r) × (c.size ≡ r.end)
  size_of false e c q = absurd (no_some c (sym q))
  size_of true e c q =
      (memory_numbered r cs c (sym q), sym (eqb-true r.end c.size (ap (fills r) q ∙ sym (filled (start_of e)) ∙ e)))

  pub going_is : (spared : Bool) (c : Chunk) → Some c ≡ going cs spared r → (c.memory ≡ memory_of cs r) × (c.size ≡ r.end)
  going_is true c q = absurd (no_some c (sym q))
  going_is false c q = size_of (wholly cs r) refl c q

-- a region told by its start alone
module _ (cs : List Chunk) (u : List ℕ) (i : ℕ) (spared : Bool) (start : ℕ) (read : start ≡ get_or u (cell_of region_start_at region_words i) 0) where
  pub going_late : (eqb start 0 && not spared) ≡ false → None ≡ going cs spared (region_in (row gap_row i u))
  going_late e = go spared e
    where
      go : (s : Bool) → (eqb start 0 && not s) ≡ false → None ≡ going cs s (region_in (row gap_row i u))
      go true q = refl
      go false q = rw (wholly_late (region_in (row gap_row i u)) (λ z. true_false (eqb start 0 && not false) (and_both (eqb start 0) (not false) (eq-eqb start 0 (read ∙ cell_row u region_start_at region_words i ∙ z)) refl) q) cs)

  pub going_early : (eqb start 0 && not spared) ≡ true → (o : Option Chunk) → o ≡ whole_in cs (region_in (row gap_row i u)) → o ≡ going cs spared (region_in (row gap_row i u))
  going_early e o q = go spared e
    where
      go : (s : Bool) → (eqb start 0 && not s) ≡ true → o ≡ going cs s (region_in (row gap_row i u))
      go true f = absurd (true_false (eqb start 0 && not true) f (and_no_right (eqb start 0)))
        where
          and_no_right : (a : Bool) → (a && false) ≡ false
          and_no_right true = refl
          and_no_right false = refl
      go false f = q

-- ---- the last region, by its place

goes_last : (cs : List Chunk) (spare : Bool) (r : Region) (rest : List Region) (last : Bool) → (length rest ≡ 0 → last ≡ true) → (0 < length rest → last ≡ false)
    → (not (spare && last) && wholly cs r) ≡ goes cs spare r rest
goes_last cs true r [] last a b = rw (a refl)
goes_last cs false r [] last a b = refl
goes_last cs true r (d ∷ rest) last a b = rw (b (omega arith))
goes_last cs false r (d ∷ rest) last a b = refl

pub goes_by : (cs : List Chunk) (spare : Bool) (r : Region) (rest : List Region) (i n : ℕ) → length rest + (i + 1) ≡ n → (not (spare && eqb (i + 1) n) && wholly cs r) ≡ goes cs spare r rest
goes_by cs spare r rest i n e =
    goes_last cs spare r rest (eqb (i + 1) n) (λ z. eq-eqb (i + 1) n (omega (arith, z, e))) (λ z. ne_eqb (i + 1) n (λ q. omega (arith, z, e, q)))
