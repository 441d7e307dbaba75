-- What a release leaves, from what its passes leave.
use mathlib.Core.Path.{◌≡◌, sym, ap, ◌∙◌}
use mathlib.Core.Bool.{Bool}
use mathlib.Core.List.{List, [], ◌++◌}
use Prim.Native.Nat.{ℕ, ◌≤◌}
use native.Mathlib.Omega.{arith}
use lib.ListN.{length, take, drop}
use lib.Seq.{sets, length-sets, take-append_seam}
use Rattle.words.specs.Rows.{rows, laid}
use Rattle.words.proofs.Records.{length_rows}
use Rattle.freelist_rules.specs.Records.{chunk_row, gap_row}
use Rattle.freelist_rules.specs.Release.{leaving, remaining, memories_of, bytes_of}
use Rattle.freelist_rules.specs.declared.Gap.{Gap}
use Rattle.freelist_rules.specs.Threads.{free_of, staying_gaps}
use Rattle.store_rules.specs.declared.Chunk.{Chunk}
use Rattle.store_rules.specs.declared.Region.{Region}
use Rattle.freelist_release.specs.Listed.{unlisted}
use Rattle.freelist_marks.specs.Releasable.{Releasable}
use Rattle.freelist_rules.proofs.Listed.{sets_front, memories_length}
use Rattle.freelist_release.proofs.Listing.{unlisted_remain}

module _ (t : List ℕ) (k : ℕ) (u : List ℕ) (n : ℕ) (spare : Bool) (l : List ℕ) (fit : Releasable (rows chunk_row k t) (free_of (rows gap_row n u))) where
  abbrev cs : List Chunk
  cs = rows chunk_row k t

  abbrev gs : List Gap
  gs = rows gap_row n u

  abbrev gone : List Region
  gone = leaving cs spare [] (free_of gs)

  -- the tables and the list after a release, and what it says
  abbrev Released : ℕ → ℕ → ℕ → ℕ → List ℕ → List ℕ → List ℕ → Type 0
  Released count bytes chunks regions t' u' l' =
      (count ≡ length gone)
      × ((bytes ≡ bytes_of gone)
      × ((chunks ≡ length (remaining gone cs))
      × ((regions ≡ length (staying_gaps cs spare gs))
      × ((t' ≡ laid chunk_row (remaining gone cs) t)
      × ((u' ≡ laid gap_row (staying_gaps cs spare gs) u)
      × (l' ≡ sets l 0 (memories_of cs gone)))))))

  module _ (m : ℕ) (l' : List ℕ) (em : m ≡ length gone) (el : l' ≡ sets l 0 (memories_of cs gone)) (room : k ≤ length l) where
    few : m ≤ k
    few = omega (arith, em, fit.few spare, length_rows chunk_row k t)

    pub count_fits : m ≤ length l'
    count_fits = omega (arith, few, room, ap length el, length-sets l 0 (memories_of cs gone))

    -- the words at the list's front are the memory numbers
    front : take m l' ≡ memories_of cs gone
    front =
        let ms : List ℕ = memories_of cs gone in
        let e : m ≡ length ms = em ∙ sym (memories_length cs gone) in
        ap (take m) (el ∙ sets_front l ms (omega (arith, e, few, room)))
        ∙ ap (λ (z : ℕ). take z (ms ++ drop (length ms) l)) e
        ∙ take-append_seam ms (drop (length ms) l)

    pub released_some : (bytes chunks regions : ℕ) (t' u' : List ℕ) → bytes ≡ bytes_of gone → (regions ≡ length (staying_gaps cs spare gs)) × (u' ≡ laid gap_row (staying_gaps cs spare gs) u)
        → (chunks ≡ length (unlisted (take m l') cs)) × (t' ≡ laid chunk_row (unlisted (take m l') cs) t) → Released m bytes chunks regions t' u' l'
    released_some bytes chunks regions t' u' eb er ec =
        let e : unlisted (take m l') cs ≡ remaining gone cs = ap (λ (z : List ℕ). unlisted z cs) front ∙ unlisted_remain cs (free_of gs) spare fit in
        (em, (eb, (ec.0 ∙ ap length e, (er.0, (ec.1 ∙ ap (λ (z : List Chunk). laid chunk_row z t) e, (er.1, el))))))
