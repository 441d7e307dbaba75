-- What the tables hold when a block has been lent: the store with the block lent, and it is sound.
use mathlib.Core.Path.{◌≡◌, refl, sym, ap, subst, ◌∙◌}
use mathlib.Core.Bool.{true, false}
use mathlib.Core.Logic.{inl, inr, ⊎_elim}
use mathlib.Core.List.{List}
use Prim.Native.Nat.{ℕ, ◌≤◌, ◌<◌}
use native.Mathlib.Omega.{arith}
use lib.Dec.{eqb, ltb}
use lib.ListN.{length, get_or, length-set}
use borrow.Author.Tests.{ne_eqb}
use Rattle.lists.proofs.Bools.{told}
use Rattle.words.specs.Words.{mark_at}
use Rattle.words.proofs.Records.{length_remove_at}
use Rattle.counter.specs.InTable.{FreeListIn}
use Rattle.counter.specs.Table.{alignment_ok}
use Rattle.counter.specs.declared.settings.FreeListSettings.{FreeListSettings}
use Rattle.slabs.specs.Slab.{nowhere}
use Rattle.store_rules.specs.Loans.{given_at, places_at, loans_of}
use Rattle.store_rules.specs.declared.Loan.{Loan}
use Rattle.book_rules.specs.Book.{index_words, taken_of, entered, entered_index}
use Rattle.book_rules.proofs.Columns.{parted_front, chained_front}
use Rattle.book_rules.proofs.Entering.{entered_amid}
use Rattle.book_rules.proofs.Keeps.{BookChained, BookParted, entered_long, entered_wide, entered_chained, entered_parted}
use Rattle.book_rules.proofs.Owns.{entered_mark, entered_index_mark}
use Rattle.freelist_rules.specs.declared.Gap.{Gap}
use Rattle.freelist_rules.specs.Records.{Store}
use Rattle.freelist_rules.specs.Pieces.{All}
use Rattle.freelist_rules.specs.Place.{size_for, mask_for, at, cut_off, put_loan}
use Rattle.freelist_rules.specs.Sound.{Sound}
use Rattle.freelist_rules.specs.Steps.{no_region, lent}
use Rattle.freelist_rules.specs.Tables.{Tables, regions_most, Lengths, places_in, ordered, store_of, SoundTables, RegionsFit, given_in, gaps_in}
use Rattle.freelist_rules.specs.Threads.{threaded, thread_words, free_of, Fronts, cut_gaps, wholes}
use Rattle.store_rules.specs.declared.Region.{Region}
use Rattle.freelist_rules.proofs.Base.{rising_low, rising_apart}
use Rattle.freelist_rules.proofs.Enters.{put_amid}
use Rattle.freelist_rules.proofs.Fits.{regions_length, laid_long, laid_count, laid_whole, laid_gaps_lem, laid_regions, laid_mark}
use Rattle.freelist_rules.proofs.GapLists.{free_length, cut_free}
use Rattle.freelist_rules.proofs.Gaps.{begins, stops}
use Rattle.freelist_rules.proofs.Lends.{lent_block, lent_sound}
use Rattle.freelist_rules.proofs.Ordered.{put_in, ordered_in}
use Rattle.freelist_rules.proofs.Search.{find_fits}
use Rattle.freelist_rules.proofs.Threads.{threaded_length, threaded_front}
use Rattle.freelist_outcomes.specs.Ask.{found_for, block_at, loan_from, record_for, front_at, whole_left, taken_tables}
use Rattle.freelist_outcomes.proofs.Between.{new_thread, new_fronts, new_whole}
use Rattle.book_rules.proofs.Counted.{entered_given, entered_places}

cut_length : (x i : ℕ) (rs : List Region) → i < length rs → length (cut_off x i rs) ≤ length rs
unfolding cut_off
cut_length x i rs h =
    let r : Region = get_or rs i no_region in
    ⊎_elim
    (λ e. rw e (omega (arith, length-set rs i (record { chunk = r.chunk; start = r.start; end = x }))))
    (λ e. rw e (omega (arith, length_remove_at i rs h)))
    (told (ltb r.start x))

-- ---- a block is lent

module _ (s : FreeListSettings) (t : Tables) (fit : FreeListIn s) (lengths : Lengths s t) (sound : SoundTables s t) (size mask i : ℕ)
    (aligned : alignment_ok mask ≡ true) (some_size : 0 < size) (place : (taken_of (places_in t) t.index).place < s.store.loans)
    (found : found_for s size mask t ≡ at i) where
  abbrev before : Store
  before = store_of s t

  abbrev new : Loan
  new = loan_from s size mask t i

  -- the regions that are left, with the loans in front of them
  abbrev left : List Gap
  left = cut_gaps (block_at s size mask t i).start i (record_for t) (gaps_in t)

  left_free : free_of left ≡ cut_off (block_at s size mask t i).start i before.regions
  unfolding store_of
  left_free = cut_free (block_at s size mask t i).start i (record_for t) (gaps_in t)

  abbrev after : Store
  after = lent (mask_for s mask) (size_for s size) i before

  -- how many places are used then
  abbrev used : ℕ
  used = (taken_of (places_in t) t.index).slab.places

  after_sound : Sound s after
  after_sound = lent_sound s before fit sound.store mask size aligned some_size i found

  new_some : new.size ≡ 0 → ⊥
  new_some e = omega (arith, (lent_block s before fit sound.store mask size aligned some_size i found).2)

  -- it begins where no other loan does
  new_clear : All (λ (d : Loan). begins d ≡ begins new → ⊥) before.loans
  new_clear d m e =
      let rise = after_sound.loans_rise in
      let k = put_in d new before.loans (inr m) in
      let l = put_in new new before.loans (inl refl) in
      let a = (rising_low begins stops 0 0 after.loans rise d k).1 in
      let b = (rising_low begins stops 0 0 after.loans rise new l).1 in
      ⊎_elim (λ z. omega (arith, ap (λ (c : Loan). c.serial) z, (sound.store.serials_given d m).1))
      (λ z. ⊎_elim (λ h. omega arith) (λ h. omega arith) z)
      (rising_apart begins stops 0 0 after.loans rise d new k l)

  few : s.store.loans < nowhere
  few = omega (arith, fit.store.loans_most_lem)

  -- ---- the loans

  loans_after : ordered (loans_of used (entered (places_in t) t.index new t.loans)) ≡ put_loan new before.loans
  unfolding store_of
  loans_after =
      let n : ℕ = places_in t in
      let o : All (λ (d : Loan). begins d ≡ begins new → ⊥) (loans_of n t.loans) = λ d m. new_clear d (ordered_in d (loans_of n t.loans) m) in
      let some : eqb new.size 0 ≡ false = ne_eqb new.size 0 new_some in
      put_amid new (loans_of n t.loans) _ (entered_amid new some t.loans t.index s.store.loans n few sound.parted place (omega (arith, lengths.loans))) o

  abbrev loans' : List ℕ
  loans' = entered (places_in t) t.index new t.loans

  given_now : get_or loans' given_at 0 ≡ new.serial
  given_now = entered_given (places_in t) t.index new t.loans (omega (arith, lengths.loans))

  places_now : get_or loans' places_at 0 ≡ used
  places_now = entered_places (places_in t) t.index new t.loans (omega (arith, lengths.loans))

  -- ---- the regions

  table_fit : RegionsFit s t.room
  table_fit = record { settings = fit; long = lengths.room; count = sound.regions_fit }

  left_room : length left ≤ regions_most s
  left_room =
      let h = (find_fits (mask_for s mask) (size_for s size) i before.regions no_region found).0 in
      omega (arith, free_length left, ap length left_free, cut_length (block_at s size mask t i).start i before.regions h, regions_length s t, sound.regions_fit)

  -- ---- the index: the book's entries, and the thread behind them

  abbrev entries : List ℕ
  entries = entered_index s.store.loans (places_in t) new.serial t.index

  -- whichever loan follows the new one
  abbrev thread : ℕ → List ℕ
  thread after = threaded s.store.loans (front_at t i) (record_for t) after entries

  thread_wide : (after : ℕ) → length (thread after) ≡ thread_words s.store.loans
  thread_wide after = threaded_length s.store.loans (front_at t i) (record_for t) after entries ∙ entered_wide s.store.loans (places_in t) new.serial t.index ∙ lengths.index

  thread_front : (after k : ℕ) → k < index_words s.store.loans → get_or (thread after) k 0 ≡ get_or entries k 0
  thread_front after = threaded_front s.store.loans (front_at t i) (record_for t) after entries

  parted_now : (after : ℕ) → BookParted loans' (thread after) s.store.loans used
  parted_now after =
      let P = entered_parted t.loans t.index s.store.loans (places_in t) few sound.parted before.given new lengths.loans (omega (arith, lengths.index)) place refl new_some in
      parted_front s.store.loans used loans' entries (thread after) P.limit (thread_front after) P

  chained_now : (after : ℕ) → BookChained loans' (thread after) s.store.loans used new.serial
  unfolding store_of
  chained_now after =
      let P = entered_parted t.loans t.index s.store.loans (places_in t) few sound.parted before.given new lengths.loans (omega (arith, lengths.index)) place refl new_some in
      chained_front s.store.loans used loans' entries (thread after) P.limit (thread_front after) new.serial
      (entered_chained t.loans t.index s.store.loans (places_in t) few sound.parted (given_in t) new lengths.loans (omega (arith, lengths.index)) place refl new_some sound.chained)

  -- the tables are as long as before
  pub taken_lengths : Lengths s (taken_tables s size mask t i)
  unfolding taken_tables
  taken_lengths =
      record {
        head = lengths.head;
        loans = entered_long (places_in t) t.index new t.loans ∙ lengths.loans;
        chunks = lengths.chunks;
        room = laid_long s left (whole_left s t i) t.room table_fit left_room;
        index = thread_wide _;
      }

  -- the store that they hold is the one with the block lent
  pub taken_store : store_of s (taken_tables s size mask t i) ≡ lent (mask_for s mask) (size_for s size) i (store_of s t)
  unfolding taken_tables store_of
  taken_store =
      let d = ap (λ (k : ℕ). ordered (loans_of k loans')) places_now ∙ loans_after in
      let f = laid_regions s left (whole_left s t i) t.room table_fit left_room ∙ left_free in
      (λ j. record { given = given_now j; made = before.made; size = before.size; loans = d j; chunks = before.chunks; regions = f j })

  -- and they are sound
  pub taken_sound : SoundTables s (taken_tables s size mask t i)
  unfolding taken_tables
  taken_sound =
      let n : ℕ = s.store.loans in
      let whole : ℕ = whole_left s t i in
      let T = new_thread s t fit lengths sound size mask i aligned some_size place found in
      let after_is : after ≡ store_of s (taken_tables s size mask t i) = sym taken_store in
      record {
        signed =
            record {
              head = sound.signed.head;
              loans = entered_mark (places_in t) t.index new t.loans ∙ sound.signed.loans;
              chunks = sound.signed.chunks;
              index = thread_front _ mark_at (omega arith) ∙ entered_index_mark n (places_in t) new.serial t.index ∙ sound.signed.index;
              room = laid_mark s left whole t.room table_fit ∙ sound.signed.room;
            };
        chunks_fit = sound.chunks_fit;
        regions_fit = omega (arith, laid_count s left whole t.room table_fit left_room, left_room);
        parted = subst (λ (k : ℕ). BookParted loans' (taken_tables s size mask t i).index n k) (sym places_now) (parted_now _);
        chained =
            subst (λ (k : ℕ). BookChained loans' (taken_tables s size mask t i).index n k (get_or loans' given_at 0)) (sym places_now)
            (subst (λ (k : ℕ). BookChained loans' (taken_tables s size mask t i).index n used k) (sym given_now) (chained_now _));
        store = subst (Sound s) after_is after_sound;
        threaded =
            record {
              records = T.records;
              leads = T.leads;
              right = λ q m. let w = T.right q m in (w.0, omega (arith, w.1, places_now), w.2);
              are = T.are ∙ ap (λ (v : Store). v.loans) after_is;
            };
        fronts = subst (Fronts loans' T.records) (sym (laid_gaps_lem s left whole t.room table_fit left_room)) (new_fronts s t fit lengths sound size mask i aligned some_size place found);
        whole =
            laid_whole s left whole t.room table_fit left_room
            ∙ new_whole s t fit lengths sound size mask i aligned some_size place found
            ∙ ap (λ (v : Store). wholes v.chunks v.regions) after_is;
      }
