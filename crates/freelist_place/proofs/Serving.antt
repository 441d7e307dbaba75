-- A region serves as it is defined: the loan, and every table; and with the numbers that a plan carries, as an ask is.
use mathlib.Core.Path.{◌≡◌, refl, sym, ap, ◌∙◌}
use mathlib.Core.Bool.{cond}
use mathlib.Core.List.{List, []}
use Prim.Native.Nat.{ℕ, ◌+◌, ◌%◌, ◌≤◌, ◌-◌}
use native.Mathlib.Omega.{arith}
use lib.ListN.{length, get_or, set}
use Rattle.counter.specs.Limits.{loans_most}
use Rattle.counter.specs.declared.settings.FreeListSettings.{FreeListSettings}
use Rattle.words.specs.Rows.{row, rows, written}
use Rattle.words.proofs.Records.{get_d_rows}
use Rattle.slabs.specs.Slab.{record_of}
use Rattle.slabs.specs.declared.Taken.{Taken}
use Rattle.store_rules.specs.Loans.{given_at, loan_row}
use Rattle.store_rules.specs.declared.Loan.{Loan}
use Rattle.store_rules.specs.declared.Region.{Region}
use Rattle.book_rules.specs.Book.{vacated_at, first_of, next_of, taken_of, counted, entered, entered_index}
use Rattle.freelist_rules.specs.Records.{region, chunk_row, gap_row}
use Rattle.freelist_rules.specs.declared.Gap.{Gap}
use Rattle.freelist_rules.specs.Place.{lent_loan}
use Rattle.freelist_rules.specs.Release.{wholly}
use Rattle.freelist_rules.specs.Steps.{no_region}
use Rattle.freelist_rules.specs.Threads.{thread_words, after_from, after_in, threaded, cut_gaps, region_in, no_gap}
use Rattle.freelist_rules.specs.Tables.{Tables, tables, region_count_at, whole_at, chunks_at, places_in, store_of, laid_gaps, gaps_of, regions_of}
use Rattle.freelist_rules.proofs.GapLists.{free_at}
use Rattle.freelist_outcomes.specs.Ask.{block_at, loan_from, taken_tables}
use Rattle.freelist_place.specs.Lent.{lent_from, entered_at, lent_tables}
use Rattle.freelist_place.specs.Ready.{Lends}
use Rattle.freelist_place.proofs.Threading.{record_low, entered_length, entered_behind}

module _ (s : FreeListSettings) (i start : ℕ) (k : Taken) (loans chunks index regions : List ℕ) (lends : Lends s i start k.place loans chunks index regions) (g : Gap) (got : g ≡ row gap_row i regions) where
  abbrev n : ℕ
  n = s.store.loans

  abbrev now : Tables
  now = tables [] loans chunks index regions

  gap_is : g ≡ get_or (gaps_of regions) i no_gap
  gap_is = got ∙ sym (get_d_rows gap_row (get_or regions region_count_at 0) i regions no_gap lends.here)

  region_is : region_in g ≡ get_or (regions_of regions) i no_region
  region_is = ap region_in gap_is ∙ sym (free_at (gaps_of regions) i)

  pub start_within : start ≤ g.end
  start_within = omega (arith, lends.within, ap (λ (r : Region). r.end) region_is)

  pub loan_done : (l : Loan) → l ≡ lent_loan (get_or loans given_at 0 + 1) (region g.chunk start g.end) → l ≡ lent_from s start now i
  unfolding store_of
  loan_done l e = e ∙ (λ j. lent_loan (get_or loans given_at 0 + 1) (region (region_is j).chunk start (region_is j).end))

  front_is : g.front ≡ (get_or (gaps_of regions) i no_gap).front
  front_is = ap (λ (h : Gap). h.front) gap_is

  module _ (l : Loan) (served : l ≡ lent_loan (get_or loans given_at 0 + 1) (region g.chunk start g.end)) (i' : List ℕ)
      (enters : i' ≡ set (set (set index vacated_at (record_of k.slab.vacant)) (next_of k.place) (get_or index (first_of (l.serial % n)) 0)) (first_of (l.serial % n)) (record_of k.place)) where
    index_is : i' ≡ entered_at n k (get_or loans given_at 0 + 1) index
    unfolding entered_at
    index_is =
        enters ∙ (λ j. set (set (set index vacated_at (record_of k.slab.vacant)) (next_of k.place) (get_or index (first_of ((served j).serial % n)) 0)) (first_of ((served j).serial % n)) (record_of k.place))

    behind_is : after_in n i' g.front ≡ after_in n index (get_or (gaps_of regions) i no_gap).front
    behind_is =
        (λ j. get_or (index_is j) (after_from n + front_is j) 0)
        ∙ entered_behind n index k (get_or loans given_at 0 + 1) lends.opens.some lends.opens.place (after_from n + (get_or (gaps_of regions) i no_gap).front) (omega arith)

    -- what threading asks
    pub threads : (r : ℕ) → r ≡ record_of k.place → (n ≤ loans_most) × (length i' ≡ thread_words n) × (g.front ≤ n) × (r ≤ n) × (after_in n i' g.front ≤ n)
    threads r e =
        (lends.opens.most, ap length index_is ∙ entered_length n index k (get_or loans given_at 0 + 1) lends.opens.some lends.opens.place ∙ lends.long, omega (arith, front_is, lends.front), omega (arith, e, record_low n k.place lends.opens.most lends.opens.place), omega (arith, behind_is, lends.behind))

    abbrev left : ℕ → Region → ℕ
    left w r = w - cond (wholly (rows chunk_row (get_or chunks chunks_at 0) chunks) r) 1 0

    pub lent_done : (w whole r : ℕ) (l' j' r' : List ℕ) → w ≡ get_or regions whole_at 0 → whole ≡ left w (region_in g) → r ≡ record_of k.place
        → r' ≡ laid_gaps (cut_gaps start i r (gaps_of regions)) whole regions
        → l' ≡ written loan_row k.place l (counted l.serial k.slab.places loans)
        → j' ≡ threaded n g.front r (after_in n i' g.front) i'
        → tables [] l' chunks j' r' ≡ lent_tables s start k now i
    unfolding store_of lent_tables
    lent_done w whole r l' j' r' a b e c d f =
        let q = loan_done l served in
        let v = b ∙ (λ j. left (a j) (region_is j)) in
        (λ j. tables [] (d j) chunks (f j) (c j))
        ∙ (λ j. tables [] (written loan_row k.place (q j) (counted (q j).serial k.slab.places loans)) chunks (threaded n (front_is j) (e j) (behind_is j) (index_is j)) (laid_gaps (cut_gaps start i (e j) (gaps_of regions)) (v j) regions))

-- ---- with the start and the place that an ask comes to

module _ (s : FreeListSettings) (size mask start i : ℕ) (k : Taken) (t : Tables) (e : start ≡ (block_at s size mask t i).start) where
  pub loan_planned : lent_from s start t i ≡ loan_from s size mask t i
  loan_planned = λ j. lent_from s (e j) t i

  pub tables_planned : k ≡ taken_of (places_in t) t.index → lent_tables s start k t i ≡ taken_tables s size mask t i
  unfolding lent_tables entered_at taken_tables entered entered_index
  tables_planned f = (λ j. lent_tables s (e j) (f j) t i) ∙ refl
