-- Test 7 in the paper's words, and what the tables hold when a block has been taken back.
use mathlib.Core.Path.{◌≡◌, sym, ap, subst, ◌∙◌}
use mathlib.Core.Bool.{true, false, not}
use mathlib.Core.Logic.{⊎_elim}
use mathlib.Core.List.{List, ◌∷◌, ◌++◌, Memᴰ}
use Prim.Native.Nat.{ℕ, ◌+◌, ◌*◌, ◌≤◌, ◌<◌}
use native.Mathlib.Omega.{arith}
use lib.Dec.{eqb}
use lib.ListN.{length, get_or}
use borrow.Author.Tests.{ne_eqb}
use Rattle.lists.proofs.Bools.{true_false, and_both, same?}
use Rattle.words.specs.Words.{mark_at}
use Rattle.words.specs.Rows.{row}
use Rattle.words.proofs.Records.{cell_row}
use Rattle.counter.specs.InTable.{FreeListIn}
use Rattle.counter.specs.declared.answers.Block.{Block}
use Rattle.counter.specs.declared.settings.FreeListSettings.{FreeListSettings}
use Rattle.slabs.specs.Slab.{nowhere, changed}
use Rattle.slabs.proofs.Places.{changed_here, changed_other}
use Rattle.store_rules.specs.Loans.{given_at, loan_words, serial_at, size_at, loan_row, loans_of, places_at}
use Rattle.store_rules.specs.Views.{OnLoan}
use Rattle.store_rules.specs.declared.Loan.{Loan}
use Rattle.store_rules.proofs.Loaned.{loan_same}
use Rattle.book_rules.specs.Book.{index_words, led_to, serial_of, first_in, next_in, word_to, struck, struck_index}
use Rattle.book_rules.proofs.Changed.{cleared, serial_kept, vacant_now}
use Rattle.book_rules.proofs.Columns.{parted_front, chained_front}
use Rattle.book_rules.proofs.Decides.{serial_once}
use Rattle.book_rules.proofs.Keeps.{BookChained, BookParted, free_in, found, struck_long, struck_wide, struck_chained, struck_parted}
use Rattle.book_rules.proofs.Owns.{struck_mark, struck_own, struck_index_mark, word_past_mark}
use Rattle.freelist_rules.specs.Join.{insert}
use Rattle.freelist_rules.specs.Pieces.{All, piece}
use Rattle.freelist_rules.specs.declared.Gap.{Gap}
use Rattle.freelist_rules.specs.Records.{Store, region}
use Rattle.freelist_rules.specs.Seek.{same_loan}
use Rattle.freelist_rules.specs.Sound.{Sound}
use Rattle.freelist_rules.specs.Steps.{no_loan}
use Rattle.freelist_rules.specs.Tables.{Tables, Lengths, SoundTables, RegionsFit, places_in, ordered, regions_most, store_of, given_in, gaps_in}
use Rattle.freelist_rules.specs.Threads.{before_in, free_of, Fronts, insert_gap, wholes}
use Rattle.store_rules.specs.declared.Region.{Region}
use Rattle.freelist_rules.proofs.Search.{same_loan_lem}
use Rattle.freelist_rules.proofs.Base.{at_in}
use Rattle.freelist_rules.proofs.Fits.{are_lengths, regions_fit, laid_long, laid_count, laid_whole, laid_gaps_lem, laid_regions, laid_mark}
use Rattle.freelist_rules.proofs.GapLists.{free_length, insert_free}
use Rattle.freelist_rules.proofs.Gaps.{LoansRise}
use Rattle.freelist_rules.proofs.Giving.{without, give, give_sound}
use Rattle.freelist_rules.proofs.Ordered.{ordered_out, loan_place_lem}
use Rattle.freelist_rules.proofs.Struck.{earlier, later, loans_with, loans_less_lem, ordered_less}
use Rattle.freelist_rules.proofs.Threads.{unthreaded_length, unthreaded_front}
use Rattle.freelist_outcomes.specs.Return.{word_for, on_loan_ok, record_at, bytes_from, whole_now, given_tables}
use Rattle.freelist_outcomes.proofs.Backs.{returning, back_room}
use Rattle.freelist_outcomes.proofs.Loaned.{block_leads, block_stands}
use Rattle.freelist_outcomes.proofs.Outgoing.{index', old_thread, old_fronts, old_whole}

-- where a loan of the first n places stands, in the book's words
record Place (n : ℕ) (t : List ℕ) (l : Loan) : Type 0 where
  loan_place : ℕ
  below : loan_place < n
  is : row loan_row loan_place t ≡ l
  used : free_in t loan_place ≡ false
  serial : serial_of t loan_place ≡ l.serial

place_of_lem : (n : ℕ) (t : List ℕ) (l : Loan) → Memᴰ l (loans_of n t) → Place n t l
place_of_lem n t l m =
    let w = loan_place_lem n t l m in
    record {
      loan_place = w.0;
      below = w.1;
      is = w.2;
      used = ap (λ (v : ℕ). eqb v 0) (cell_row t size_at loan_words w.0) ∙ ap (λ (d : Loan). eqb d.size 0) w.2 ∙ w.3;
      serial = cell_row t serial_at loan_words w.0 ∙ ap (λ (d : Loan). d.serial) w.2;
    }

-- ---- 7: the test holds exactly when a loan has this serial, chunk, offset and size

module _ (s : FreeListSettings) (t : Tables) (fit : FreeListIn s) (sound : SoundTables s t) (b : Block) where
  pub on_loan_is : on_loan_ok s b t ≡ true → OnLoan b (store_of s t).loans
  on_loan_is e =
      let ls = (store_of s t).loans in
      let w = block_stands s t fit sound b e in
      let l = get_or ls w.rank no_loan in
      (l, at_in w.rank ls no_loan w.here, same_loan_lem b l w.same)

  pub is_on_loan : OnLoan b (store_of s t).loans → on_loan_ok s b t ≡ true
  unfolding on_loan_ok store_of
  is_on_loan v =
      let n = s.store.loans in
      let w = place_of_lem (places_in t) t.loans v.0 (ordered_out v.0 (loans_of (places_in t) t.loans) v.1) in
      let f = found t.loans t.index n (places_in t) (given_in t) fit.store.loans_some sound.parted.limit (omega (arith, fit.store.loans_most_lem)) sound.chained w.loan_place w.below w.used in
      let g : (word_for s b t < index_words n) × (led_to t.index (word_for s b t) ≡ w.loan_place) =
      subst (λ (k : ℕ). (word_to t.loans t.index n (places_in t) k < index_words n) × (led_to t.index (word_to t.loans t.index n (places_in t) k) ≡ w.loan_place)) (w.serial ∙ v.2.serial) f in
      let there : not (eqb (word_for s b t) nowhere) ≡ true = ap not (ne_eqb (word_for s b t) nowhere (λ e. omega (arith, g.0, fit.store.loans_most_lem))) in
      let same : same_loan b (row loan_row (led_to t.index (word_for s b t)) t.loans) ≡ true =
      ap (λ (p : ℕ). same_loan b (row loan_row p t.loans)) g.1 ∙ ap (same_loan b) w.is ∙ loan_same b v.0 v.2 in
      and_both _ _ there same

-- ---- a block on loan has been taken back

module _ (s : FreeListSettings) (t : Tables) (fit : FreeListIn s) (lengths : Lengths s t) (sound : SoundTables s t) (b : Block) (on : on_loan_ok s b t ≡ true) where
  abbrev word : ℕ
  word = word_for s b t

  abbrev place : ℕ
  place = led_to t.index word

  abbrev n : ℕ
  n = s.store.loans

  abbrev given : ℕ
  given = given_in t

  few : n < nowhere
  few = omega (arith, fit.store.loans_most_lem)

  limit : places_in t ≤ n
  limit = sound.parted.limit

  leads : (place < places_in t) × (free_in t.loans place ≡ false) × (serial_of t.loans place ≡ b.serial)
  leads = block_leads s t fit sound b on

  -- ---- the free regions

  regions_whole : RegionsFit s t.room
  regions_whole = regions_fit s t fit (are_lengths s t lengths) sound

  abbrev joined : List Gap
  joined = insert_gap (bytes_from b) (record_at word t) (before_in n t.index (record_at word t)) (gaps_in t)

  joined_free : free_of joined ≡ insert (returning b) (store_of s t).regions
  unfolding store_of
  joined_free = insert_free (bytes_from b) (record_at word t) (before_in n t.index (record_at word t)) (gaps_in t)

  room : length joined ≤ regions_most s
  room = omega (arith, free_length joined, ap length joined_free, back_room s t fit sound b on)

  -- the index: the book's entries, and the thread behind them
  abbrev thread : List ℕ
  thread = index' s t fit lengths sound b on

  thread_front : (k : ℕ) → k < index_words n → get_or thread k 0 ≡ get_or (struck_index word t.index) k 0
  thread_front = unthreaded_front n (record_at word t) (struck_index word t.index)

  pub given_lengths : Lengths s (given_tables s b (word_for s b t) t)
  unfolding given_tables
  given_lengths =
      record {
        head = lengths.head;
        loans = struck_long _ t.index t.loans ∙ lengths.loans;
        chunks = lengths.chunks;
        room = laid_long s joined (whole_now s b t) t.room regions_whole room;
        index = unthreaded_length n (record_at word t) (struck_index word t.index) ∙ struck_wide word t.index ∙ lengths.index;
      }

  -- ---- the loans

  abbrev after : List ℕ
  after = cleared t.loans place

  inside : place < n
  inside = omega (arith, leads.0, limit)

  -- each of those left has another serial
  others : All (λ (d : Loan). d.serial ≡ serial_of t.loans place → ⊥) (loans_of (places_in t) after)
  others d m e =
      let w = place_of_lem (places_in t) after d m in
      let v : changed (free_in t.loans) place true w.loan_place ≡ false = sym (vacant_now t.loans n place lengths.loans inside w.loan_place) ∙ w.used in
      let k : (w.loan_place ≡ place → ⊥) → serial_of t.loans w.loan_place ≡ serial_of t.loans place = λ q. sym (serial_kept t.loans n place lengths.loans inside w.loan_place q) ∙ w.serial ∙ e in
      ⊎_elim (λ q. true_false _ (changed_here (free_in t.loans) place true w.loan_place q) v)
      (λ q. q (serial_once (free_in t.loans) (first_in t.index) (next_in t.index) (serial_of t.loans) n (places_in t) given w.loan_place place fit.store.loans_some sound.chained w.below leads.0 (sym (changed_other (free_in t.loans) place true w.loan_place q) ∙ v) leads.1 (k q)))
      (same? w.loan_place place)

  given_loans : ordered (loans_of (places_in t) after) ≡ without b.serial (store_of s t).loans
  unfolding store_of
  given_loans =
      let l = row loan_row place t.loans in
      let long : loan_words + loan_words * places_in t ≤ length t.loans = omega (arith, lengths.loans, limit) in
      let xs = earlier (places_in t) place t.loans leads.0 long in
      let ys = later (places_in t) place t.loans leads.0 long in
      let serial : serial_of t.loans place ≡ l.serial = cell_row t.loans serial_at loan_words place in
      let less : loans_of (places_in t) after ≡ xs ++ ys = loans_less_lem (places_in t) place t.loans leads.0 long in
      let full : loans_of (places_in t) t.loans ≡ xs ++ (l ∷ ys) =
      loans_with (places_in t) place t.loans leads.0 long (ap (λ (v : ℕ). eqb v 0) (sym (cell_row t.loans size_at loan_words place)) ∙ leads.1) in
      let rise : LoansRise 0 (ordered (xs ++ (l ∷ ys))) = subst (λ (ls : List Loan). LoansRise 0 (ordered ls)) full sound.store.loans_rise in
      let other : All (λ (d : Loan). d.serial ≡ l.serial → ⊥) (xs ++ ys) =
      subst (λ (ls : List Loan). All (λ (d : Loan). d.serial ≡ l.serial → ⊥) ls) less (λ d m e. others d m (e ∙ sym serial)) in
      ap ordered less
      ∙ sym (ordered_less l xs ys rise other)
      ∙ ap (λ (k : ℕ). without k (ordered (xs ++ (l ∷ ys)))) (sym serial ∙ leads.2)
      ∙ ap (λ (ls : List Loan). without b.serial (ordered ls)) (sym full)

  -- ---- the store

  abbrev loans' : List ℕ
  loans' = struck word t.index t.loans

  given_stays : get_or loans' given_at 0 ≡ given_in t
  given_stays = struck_own word given_at t.index t.loans (omega arith)

  places_stay : get_or loans' places_at 0 ≡ places_in t
  places_stay = struck_own word places_at t.index t.loans (omega arith)

  -- the store that the tables hold is the one with the loan given back that matches the block
  pub given_store : store_of s (given_tables s b (word_for s b t) t) ≡ give (on_loan_is s t fit sound b on).0 (store_of s t)
  unfolding store_of given_tables struck
  given_store =
      let v = on_loan_is s t fit sound b on in
      let m = v.2 in
      let l = ap (λ (k : ℕ). ordered (loans_of k loans')) places_stay ∙ given_loans ∙ ap (λ (k : ℕ). without k (store_of s t).loans) (sym m.serial) in
      let p : returning b ≡ piece v.0 = λ j. region (sym m.chunk j) (sym m.offset j) (sym m.offset j + sym m.size j) in
      let r = laid_regions s joined (whole_now s b t) t.room regions_whole room ∙ joined_free ∙ ap (λ (x : Region). insert x (store_of s t).regions) p in
      (λ j. record { given = given_stays j; made = (store_of s t).made; size = (store_of s t).size; loans = l j; chunks = (store_of s t).chunks; regions = r j })

  given_chained : BookChained (struck word t.index t.loans) thread n (places_in t) given
  given_chained =
      chained_front n (places_in t) loans' (struck_index word t.index) thread limit thread_front given
      (subst (λ (k : ℕ). BookChained (struck (word_to t.loans t.index n (places_in t) k) t.index t.loans) (struck_index (word_to t.loans t.index n (places_in t) k) t.index) n (places_in t) given) leads.2
      (struck_chained t.loans t.index n (places_in t) given fit.store.loans_some limit few sound.chained place leads.0 leads.1 lengths.loans (omega (arith, lengths.index))))

  given_parted : BookParted (struck word t.index t.loans) thread n (places_in t)
  given_parted =
      parted_front n (places_in t) loans' (struck_index word t.index) thread limit thread_front
      (subst (λ (k : ℕ). BookParted (struck (word_to t.loans t.index n (places_in t) k) t.index t.loans) (struck_index (word_to t.loans t.index n (places_in t) k) t.index) n (places_in t)) leads.2
      (struck_parted t.loans t.index n (places_in t) given fit.store.loans_some limit few sound.chained place leads.0 leads.1 lengths.loans (omega (arith, lengths.index)) sound.parted))

  pub given_sound : SoundTables s (given_tables s b (word_for s b t) t)
  unfolding given_tables
  given_sound =
      let v = on_loan_is s t fit sound b on in
      let whole : ℕ = whole_now s b t in
      let T = old_thread s t fit lengths sound b on in
      let after_is : give v.0 (store_of s t) ≡ store_of s (given_tables s b word t) = sym given_store in
      let bytes_is : bytes_from b ≡ piece v.0 = λ j. region (sym v.2.chunk j) (sym v.2.offset j) (sym v.2.offset j + sym v.2.size j) in
      record {
        signed =
            record {
              head = sound.signed.head;
              loans = struck_mark word t.index t.loans ∙ sound.signed.loans;
              chunks = sound.signed.chunks;
              index = thread_front mark_at (omega arith) ∙ struck_index_mark word t.index (word_past_mark t.loans t.index n (places_in t) b.serial) ∙ sound.signed.index;
              room = laid_mark s joined whole t.room regions_whole ∙ sound.signed.room;
            };
        chunks_fit = sound.chunks_fit;
        regions_fit = omega (arith, laid_count s joined whole t.room regions_whole room, room);
        parted = subst (λ (k : ℕ). BookParted loans' thread n k) (sym places_stay) given_parted;
        chained =
            subst (λ (k : ℕ). BookChained loans' thread n k (get_or loans' given_at 0)) (sym places_stay)
            (subst (λ (g : ℕ). BookChained loans' thread n (places_in t) g) (sym given_stays) given_chained);
        store = subst (Sound s) after_is (give_sound s (store_of s t) fit sound.store v.0 v.1);
        threaded =
            record {
              records = T.records;
              leads = T.leads;
              right = λ q m. let w = T.right q m in (w.0, omega (arith, w.1, places_stay), w.2);
              are = T.are ∙ ap (λ (k : ℕ). without k (store_of s t).loans) (sym v.2.serial) ∙ ap (λ (u : Store). u.loans) after_is;
            };
        fronts = subst (Fronts loans' T.records) (sym (laid_gaps_lem s joined whole t.room regions_whole room)) (old_fronts s t fit lengths sound b on);
        whole =
            laid_whole s joined whole t.room regions_whole room
            ∙ old_whole s t fit lengths sound b on
            ∙ ap (λ (x : Region). wholes (store_of s t).chunks (insert x (store_of s t).regions)) bytes_is
            ∙ ap (λ (u : Store). wholes u.chunks u.regions) after_is;
      }
