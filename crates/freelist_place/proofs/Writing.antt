-- A chunk added and a block taken back leave the tables as they are defined.
use mathlib.Core.Path.{◌≡◌, ap, ◌∙◌}
use mathlib.Core.Bool.{cond}
use mathlib.Core.List.{List, [], ◌∷◌, ◌++◌}
use Prim.Native.Nat.{ℕ, ◌+◌, ◌≤◌}
use native.Mathlib.Omega.{arith}
use lib.ListN.{length, get_or, set, length-append}
use Rattle.rounding_rules.specs.Growth.{doubled}
use Rattle.words.specs.Rows.{rows, laid, written}
use Rattle.words.proofs.Records.{appended, length_rows}
use Rattle.counter.specs.Limits.{loans_most}
use Rattle.counter.specs.declared.answers.Block.{Block}
use Rattle.counter.specs.declared.settings.FreeListSettings.{FreeListSettings}
use Rattle.book_rules.specs.Book.{struck, struck_index}
use Rattle.freelist_rules.specs.Records.{region, chunk, chunk_row}
use Rattle.freelist_rules.specs.Release.{wholly}
use Rattle.freelist_rules.specs.Threads.{thread_words, after_from, before_from, after_in, before_in, unthreaded, gap, insert_gap, around}
use Rattle.freelist_rules.specs.Tables.{Tables, tables, made_at, chunk_size_at, chunks_at, whole_at, store_of, laid_gaps, laid_chunks, gaps_of, regions_of}
use Rattle.freelist_outcomes.specs.Deliver.{delivered_tables}
use Rattle.freelist_outcomes.specs.Return.{bytes_from, given_tables}
use Rattle.freelist_place.specs.Ready.{Adds, Backs}
use Rattle.freelist_place.proofs.Threading.{struck_length, struck_behind}

-- one word after the other
pub twice_set : (t u v : List ℕ) (i j a b : ℕ) → u ≡ set t i a → v ≡ set u j b → v ≡ set (set t i a) j b
twice_set t u v i j a b p q = q ∙ ap (λ (x : List ℕ). set x j b) p

module _ (s : FreeListSettings) (memory size : ℕ) (head chunks index regions : List ℕ) (adds : Adds s chunks regions) where
  -- the chunks with one of this number behind k others, which are then so many
  abbrev held : ℕ → ℕ → ℕ → List ℕ
  held k made n = set (set (laid chunk_row (rows chunk_row k chunks ++ (chunk (made + 1) memory size ∷ [])) chunks) chunks_at n) made_at (made + 1)

  -- its region behind the others
  abbrev more : ℕ → ℕ → List ℕ
  more made last = laid_gaps (gaps_of regions ++ (gap (region (made + 1) 0 size) last ∷ [])) (get_or regions whole_at 0 + 1) regions

  -- the tables as it leaves them
  abbrev after : ℕ → ℕ → ℕ → ℕ → ℕ → Tables
  after k made twice n last = tables (set head chunk_size_at twice) [] (held k made n) index (more made last)

  one_more : (k made : ℕ) → k + 1 ≡ length (rows chunk_row k chunks ++ (chunk (made + 1) memory size ∷ []))
  one_more k made = omega (arith, length-append (rows chunk_row k chunks) (chunk (made + 1) memory size ∷ []), length_rows chunk_row k chunks)

  pub added_done : (last k made twice : ℕ) (h' c' d' r' : List ℕ) → last ≡ before_in s.store.loans index 0 → k ≡ get_or chunks chunks_at 0 → made ≡ get_or chunks made_at 0 → twice ≡ doubled size s.last
      → c' ≡ written chunk_row k (chunk (made + 1) memory size) chunks
      → d' ≡ set (set c' chunks_at (k + 1)) made_at (made + 1)
      → r' ≡ more made last
      → h' ≡ set head chunk_size_at twice
      → tables h' [] d' index r' ≡ delivered_tables s memory size (tables head [] chunks index regions)
  unfolding store_of delivered_tables laid_chunks
  added_done last k made twice h' c' d' r' z a b d c f r h =
      let e = c ∙ appended chunk_row k (chunk (made + 1) memory size) chunks (omega (arith, a, adds.few, adds.long)) in
      let g = f ∙ ap (λ (x : List ℕ). set (set x chunks_at (k + 1)) made_at (made + 1)) e in
      (λ j. tables (h j) [] (g j) index (r j)) ∙ (λ j. after k made twice (one_more k made j) last) ∙ (λ j. after (a j) (b j) (d j) (length (rows chunk_row (a j) chunks ++ (chunk (b j + 1) memory size ∷ []))) (z j))

module _ (s : FreeListSettings) (b : Block) (at : ℕ) (chunks index regions : List ℕ) (backs : Backs s b at chunks index regions) (r : ℕ) (reads : r ≡ get_or index at 0) where
  abbrev n : ℕ
  n = s.store.loans

  -- what reading the record in front asks
  pub reads_front : (n ≤ loans_most) × (length index ≡ thread_words n) × (r ≤ n)
  reads_front = (backs.fit.settings.store.loans_most_lem, backs.long, omega (arith, reads, backs.most))

  module _ (i' : List ℕ) (strikes : i' ≡ struck_index at index) where
    stays : (j : ℕ) → after_from n ≤ j → get_or i' (j + r) 0 ≡ get_or index (j + get_or index at 0) 0
    stays j h =
        (λ k. get_or (strikes k) (j + reads k) 0) ∙ struck_behind n index at backs.word backs.some backs.most (j + get_or index at 0) (omega (arith, h))

    -- what unthreading asks
    pub unthreads : (n ≤ loans_most) × (length i' ≡ thread_words n) × (r ≤ n) × (after_in n i' r ≤ n) × (before_in n i' r ≤ n)
    unthreads =
        (reads_front.0, ap length strikes ∙ struck_length n index at backs.word backs.some backs.most ∙ backs.long, reads_front.2, omega (arith, stays (after_from n) (omega arith), backs.after), omega (arith, stays (before_from n) (omega arith), backs.before))

    -- the regions with the block among them, behind the record u
    abbrev joined : ℕ → ℕ → List ℕ
    joined q u =
        laid_gaps (insert_gap (bytes_from b) q u (gaps_of regions))
        (get_or regions whole_at 0 + cond (wholly (rows chunk_row (get_or chunks chunks_at 0) chunks) (around (bytes_from b) (regions_of regions))) 1 0)
        regions

    pub given_done : (u : ℕ) (loans l' j' r' : List ℕ) → u ≡ before_in n index r → r' ≡ joined r u → l' ≡ struck at index loans → j' ≡ unthreaded n r i'
        → tables [] l' chunks j' r' ≡ given_tables s b at (tables [] loans chunks index regions)
    unfolding store_of given_tables
    given_done u loans l' j' r' e c l i =
        (λ k. tables [] (l k) chunks (i k) ((c ∙ ap (joined r) e) k))
        ∙ (λ k. tables [] (struck at index loans) chunks (unthreaded n (reads k) (strikes k)) (joined (reads k) (before_in n index (reads k))))
