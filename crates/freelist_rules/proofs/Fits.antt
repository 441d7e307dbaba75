-- What the lengths of a store's tables and its soundness say of the counts in them, and its regions and chunks written back.
use mathlib.Core.Path.{◌≡◌, ap, ◌∙◌}
use mathlib.Core.Bool.{true}
use mathlib.Core.Logic.{⊎_elim}
use mathlib.Core.List.{List, [], ◌∷◌}
use Prim.Native.Nat.{ℕ, ◌+◌, ◌*◌, ◌≤◌}
use native.Mathlib.Omega.{arith}
use lib.Dec.{eqb}
use lib.ListN.{length, get_or, set, length-map}
use lib.Seq.{get_or-set_other}
use borrow.Author.Tests.{eqb-true, eq-eqb}
use Rattle.lists.proofs.Bools.{told, all_each, each_all}
use Rattle.words.specs.Rows.{rows, laid}
use Rattle.words.proofs.Records.{length_rows, own_laid}
use Rattle.words.specs.Words.{mark_at}
use Rattle.counter.specs.InTable.{FreeListIn}
use Rattle.counter.specs.declared.settings.FreeListSettings.{FreeListSettings}
use Rattle.store_rules.specs.Loans.{loan_row, on_loan, loans_of}
use Rattle.store_rules.specs.declared.Loan.{Loan}
use Rattle.freelist_rules.specs.declared.Gap.{Gap}
use Rattle.freelist_rules.specs.Records.{chunk_words, region_words, chunk_row, gap_row}
use Rattle.freelist_rules.specs.Tables.{Tables, regions_most, region_count_at, made_at, chunks_at, lengths_row, lengths_ok, Lengths, places_in, chunks_in, regions_in, store_of, SoundTables, gaps_in, whole_at, laid_gaps, laid_chunks, RegionsFit, gaps_of, regions_of, room_words}
use Rattle.freelist_rules.specs.Threads.{region_in, free_of}
use Rattle.store_rules.specs.declared.Chunk.{Chunk}
use Rattle.freelist_rules.proofs.Laid.{counted_length, counted_count, counted_rows, counted_own, noted_length, noted_count, noted_here, noted_rows, noted_own}
use Rattle.freelist_rules.proofs.Ordered.{ordered_length}

-- ---- the lengths

pub lengths_are : (s : FreeListSettings) (t : Tables) → lengths_ok s t ≡ true → Lengths s t
unfolding lengths_ok
lengths_are s t e =
    let r = all_each (lengths_row s t) e in
    record {
      head = eqb-true _ _ r.0;
      loans = eqb-true _ _ r.1.0;
      chunks = eqb-true _ _ r.1.1.0;
      index = eqb-true _ _ r.1.1.1.0;
      room = eqb-true _ _ r.1.1.1.1.0;
    }

pub are_lengths : (s : FreeListSettings) (t : Tables) → Lengths s t → lengths_ok s t ≡ true
unfolding lengths_ok
are_lengths s t l =
    each_all (lengths_row s t) (eq-eqb _ _ l.head, (eq-eqb _ _ l.loans, (eq-eqb _ _ l.chunks, (eq-eqb _ _ l.index, (eq-eqb _ _ l.room, tt)))))

pub regions_fit : (s : FreeListSettings) (t : Tables) → FreeListIn s → lengths_ok s t ≡ true → SoundTables s t → RegionsFit s t.room
regions_fit s t fit lengths sound = record { settings = fit; long = (lengths_are s t lengths).room; count = sound.regions_fit }

-- ---- how many records there are

on_loan_length : (ls : List Loan) → length (on_loan ls) ≤ length ls
on_loan_length [] = omega arith
on_loan_length (l ∷ ls) = ⊎_elim (λ e. rw e (omega (arith, on_loan_length ls))) (λ e. rw e (omega (arith, on_loan_length ls))) (told (eqb l.size 0))

module _ (s : FreeListSettings) (t : Tables) where
  pub chunks_length : length (store_of s t).chunks ≡ chunks_in t
  unfolding store_of
  chunks_length = length_rows chunk_row (chunks_in t) t.chunks

  pub regions_length : length (store_of s t).regions ≡ regions_in t
  unfolding store_of
  regions_length = length-map (gaps_in t) region_in ∙ length_rows gap_row (regions_in t) t.room

  -- no more are on loan than places were ever used
  pub loans_length : length (store_of s t).loans ≤ places_in t
  unfolding store_of loans_of
  loans_length =
      omega (
        arith,
        ordered_length (on_loan (rows loan_row (places_in t) t.loans)),
        on_loan_length (rows loan_row (places_in t) t.loans),
        length_rows loan_row (places_in t) t.loans,
      )

  -- nor than the limit
  pub loans_few : SoundTables s t → length (store_of s t).loans ≤ s.store.loans
  loans_few sound = omega (arith, loans_length, sound.parted.limit)

-- ---- the regions written back

module _ (s : FreeListSettings) (gs : List Gap) (whole : ℕ) (t : List ℕ) (fit : RegionsFit s t) (room : length gs ≤ regions_most s) where
  fits : region_words + region_words * length gs ≤ length t
  fits = omega (arith, fit.long)

  pub laid_long : length (laid_gaps gs whole t) ≡ room_words s
  unfolding laid_gaps
  laid_long = noted_length gap_row region_count_at (omega arith) gs t fits whole_at whole (omega arith) (λ e. omega arith) ∙ fit.long

  pub laid_count : get_or (laid_gaps gs whole t) region_count_at 0 ≡ length gs
  unfolding laid_gaps
  laid_count = noted_count gap_row region_count_at (omega arith) gs t fits whole_at whole (omega arith) (λ e. omega arith)

  pub laid_whole : get_or (laid_gaps gs whole t) whole_at 0 ≡ whole
  unfolding laid_gaps
  laid_whole = noted_here gap_row region_count_at (omega arith) gs t fits whole_at whole (omega arith) (λ e. omega arith)

  pub laid_fit : RegionsFit s (laid_gaps gs whole t)
  laid_fit = record { settings = fit.settings; long = laid_long; count = omega (arith, laid_count) }

  pub laid_gaps_lem : gaps_of (laid_gaps gs whole t) ≡ gs
  unfolding laid_gaps
  laid_gaps_lem = noted_rows gap_row region_count_at (omega arith) gs t fits whole_at whole (omega arith) (λ e. omega arith)

  pub laid_regions : regions_of (laid_gaps gs whole t) ≡ free_of gs
  laid_regions = ap free_of laid_gaps_lem

-- their table's mark stays
pub laid_mark : (s : FreeListSettings) (gs : List Gap) (whole : ℕ) (t : List ℕ) → RegionsFit s t → get_or (laid_gaps gs whole t) mark_at 0 ≡ get_or t mark_at 0
unfolding laid_gaps
laid_mark s gs whole t fit =
    get_or-set_other (set (laid gap_row gs t) region_count_at (length gs)) whole_at mark_at whole 0 (λ e. omega arith)
    ∙ get_or-set_other (laid gap_row gs t) region_count_at mark_at (length gs) 0 (λ e. omega arith)
    ∙ own_laid gap_row gs t mark_at 0 (omega (arith, fit.long)) (omega arith)

-- ---- the chunks written back

-- u is the table t of chunks with these chunks, and so many chunk numbers given
pub record Holding (t : List ℕ) (made : ℕ) (cs : List Chunk) (u : List ℕ) : Type 0 where
  pub long : length u ≡ length t
  pub mark : get_or u mark_at 0 ≡ get_or t mark_at 0
  pub number : get_or u made_at 0 ≡ made
  pub count : get_or u chunks_at 0 ≡ length cs
  pub records : rows chunk_row (get_or u chunks_at 0) u ≡ cs

module _ (cs : List Chunk) (t : List ℕ) (room : chunk_words + chunk_words * length cs ≤ length t) where
  -- as many numbers as before
  pub chunks_laid : Holding t (get_or t made_at 0) cs (laid_chunks cs t)
  unfolding laid_chunks
  chunks_laid = record {
    long = counted_length chunk_row chunks_at (omega arith) cs t room;
    mark = counted_own chunk_row chunks_at (omega arith) cs t room mark_at (omega arith) (λ e. omega arith);
    number = counted_own chunk_row chunks_at (omega arith) cs t room made_at (omega arith) (λ e. omega arith);
    count = counted_count chunk_row chunks_at (omega arith) cs t room;
    records = counted_rows chunk_row chunks_at (omega arith) cs t room;
  }

  -- or this many
  pub chunks_numbered : (made : ℕ) → Holding t made cs (set (laid_chunks cs t) made_at made)
  unfolding laid_chunks
  chunks_numbered made = record {
    long = noted_length chunk_row chunks_at (omega arith) cs t room made_at made (omega arith) (λ e. omega arith);
    mark = noted_own chunk_row chunks_at (omega arith) cs t room made_at made (omega arith) (λ e. omega arith) mark_at (omega arith) (λ e. omega arith) (λ e. omega arith);
    number = noted_here chunk_row chunks_at (omega arith) cs t room made_at made (omega arith) (λ e. omega arith);
    count = noted_count chunk_row chunks_at (omega arith) cs t room made_at made (omega arith) (λ e. omega arith);
    records = noted_rows chunk_row chunks_at (omega arith) cs t room made_at made (omega arith) (λ e. omega arith);
  }
