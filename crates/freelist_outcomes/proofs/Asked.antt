-- An ask's tests 5, 6, 8, 10 and 9 decide 01's rows, and what an ask comes to in the paper's words.
use mathlib.Core.Path.{◌≡◌, refl, sym, ap, subst, ◌∙◌}
use mathlib.Core.Bool.{Bool, true, false, ◌&&◌, ◌||◌, not}
use mathlib.Core.Logic.Iff
use mathlib.Core.Logic.{◌⊎◌, inl, inr, ⊎_elim, ◌↔◌}
use mathlib.Core.List.{List, [], ◌∷◌}
use Prim.Native.Nat.{ℕ, zero, suc, ◌+◌, ◌^◌, ◌≤◌, ◌<◌}
use native.Mathlib.Numerals.{add-one}
use native.Mathlib.Omega.{arith}
use lib.Dec.{eqb, leb, ltb}
use lib.ListN.{length, get_or, length-append}
use Rattle.lists.specs.Members.{Below, head_or}
use Rattle.lists.proofs.Bools.{told, true_false}
use Rattle.words.specs.Rows.{row, rows}
use Rattle.words.proofs.Records.{rows_snoc, cell_row}
use Rattle.counter.specs.Account.{value}
use Rattle.counter.specs.Gate.{pass, Row, first}
use Rattle.counter.specs.InTable.{FreeListIn}
use Rattle.counter.specs.Limits.{heap_bytes_most, spent}
use Rattle.counter.specs.Reasons.{reason, Clear, Decides}
use Rattle.counter.specs.Reasons as Reasons
use Rattle.counter.specs.Table.{alignment_ok}
use Rattle.counter.specs.declared.account.Heap.{Heap}
use Rattle.counter.specs.declared.settings.FreeListSettings.{FreeListSettings}
use Rattle.counter.proofs.Gates.{passed}
use Rattle.counter.proofs.Reasoned.{clear_first}
use Rattle.heap.specs.Heap.{bears_ok}
use Rattle.slabs.specs.Slab.{vacant_at}
use Rattle.slabs.specs.Slab as Slab
use Rattle.slabs.specs.Test.{vacancies}
use Rattle.slabs.proofs.Decides.{chained_long}
use Rattle.slabs.proofs.Places.{insert_last}
use Rattle.slabs.proofs.Steps.{vacancies_none, vacancies_more, vacancies_same}
use Rattle.store_rules.specs.Loans.{loan_words, size_at, loan_row, on_loan, loans_of}
use Rattle.store_rules.specs.Orders.{take, buy}
use Rattle.store_rules.proofs.Refused.{or_never, mask_off}
use Rattle.store_rules.proofs.Tested.{off_and, off_where, off_less, off_within, off_some, off_room, bears_off}
use Rattle.book_rules.specs.Book.{entry_words, vacant_after_at, slab_of, taken_of}
use Rattle.freelist_rules.specs.Place.{Found, nowhere, at, size_for, mask_for, cut}
use Rattle.freelist_rules.specs.Records.{Store}
use Rattle.freelist_rules.specs.Steps.{no_region}
use Rattle.freelist_rules.specs.Tables.{Tables, places_in, chunks_in, store_of, vacant_in, vacant_after_in, SoundTables}
use Rattle.store_rules.specs.declared.Chunk.{Chunk}
use Rattle.store_rules.specs.declared.Region.{Region}
use Rattle.freelist_rules.proofs.Base.{at_in}
use Rattle.book_rules.proofs.Entering.{on_loan_amid, on_loan_past}
use Rattle.freelist_rules.proofs.Facts.{region_home, once}
use Rattle.freelist_rules.proofs.Fits.{chunks_length}
use Rattle.freelist_rules.proofs.Lends.{fits_is, lent_block}
use Rattle.freelist_rules.proofs.Meaning.{at_region, chunk_one}
use Rattle.freelist_rules.proofs.Ordered.{ordered_length}
use Rattle.freelist_rules.proofs.Orders.{order_when}
use Rattle.freelist_rules.proofs.Search.{find_fits}
use Rattle.freelist_outcomes.specs.Ask.{found_for, needs, raised_for, size_ok, room_ok, count_ok, objects_ok, late_row, ask_row, planned, decide_ask}
use Rattle.freelist_outcomes.specs.Refusals.{SizeOff, Fitting, Needed, list_words}
use Rattle.store_rules.specs.Rows.{Full, NoObject, Spent, ask_tests}
use Rattle.freelist_outcomes.proofs.Plans.{planned_take, planned_buy, size_some}

-- ---- how many are on loan

-- a place is in use or vacant, so that both together are all of them
used_and_vacant : (t : List ℕ) (n : ℕ) → length (loans_of n t) + vacancies (vacant_at t size_at loan_words) n ≡ n
unfolding loans_of
used_and_vacant t zero = omega (arith, vacancies_none (vacant_at t size_at loan_words))
used_and_vacant t (suc n) =
    subst (λ (k : ℕ). length (on_loan (rows loan_row k t)) + vacancies (vacant_at t size_at loan_words) k ≡ k) (add-one n)
    (go (told (vacant_at t size_at loan_words n)) (used_and_vacant t n))
  where
    sized : (b : Bool) → vacant_at t size_at loan_words n ≡ b → eqb (row loan_row n t).size 0 ≡ b
    sized b e = ap (λ (k : ℕ). eqb k 0) (sym (cell_row t size_at loan_words n)) ∙ e

    go : (vacant_at t size_at loan_words n ≡ true) ⊎ (vacant_at t size_at loan_words n ≡ false) → length (on_loan (rows loan_row n t)) + vacancies (vacant_at t size_at loan_words) n ≡ n
        → length (on_loan (rows loan_row (n + 1) t)) + vacancies (vacant_at t size_at loan_words) (n + 1) ≡ n + 1
    go (inl e) ih =
        let a = ap on_loan (rows_snoc loan_row n t) ∙ on_loan_past (row loan_row n t) (rows loan_row n t) [] (sized true e) in
        omega (arith, ap length a, length-append (on_loan (rows loan_row n t)) [], vacancies_more (vacant_at t size_at loan_words) n e)
    go (inr e) ih =
        let a = ap on_loan (rows_snoc loan_row n t) ∙ on_loan_amid (row loan_row n t) (rows loan_row n t) [] (sized false e) in
        omega (arith, ap length a, length-append (on_loan (rows loan_row n t)) (row loan_row n t ∷ []), vacancies_same (vacant_at t size_at loan_words) n e)

-- ---- the tests

-- 6
size_off : (s : FreeListSettings) (size : ℕ) → (size_ok s size ≡ false) ↔ SizeOff s size
unfolding size_ok
size_off s size = off_and (ltb 0 size) (leb size s.last) (off_some size) (off_within size s.last)

-- a chunk is needed where the search found none
needs_none : (f : Found) → (needs f ≡ true) ↔ (f ≡ nowhere)
needs_none nowhere = ((λ e. refl), (λ e. refl))
needs_none (at i) = ((λ e. absurd (true_false false e refl)), (λ e. ap needs e))

module _ (s : FreeListSettings) (t : Tables) (fit : FreeListIn s) (sound : SoundTables s t) where
  loans_are : length (store_of s t).loans + vacancies (vacant_in t) (places_in t) ≡ places_in t
  unfolding store_of
  loans_are = omega (arith, ordered_length (loans_of (places_in t) t.loans), used_and_vacant t.loans (places_in t))

  -- a loan place is vacant exactly when fewer loans than the limit are in use
  pub place_left : ((taken_of (places_in t) t.index).place < s.store.loans) ↔ (length (store_of s t).loans < s.store.loans)
  place_left =
      let few : s.store.loans < Slab.nowhere = omega (arith, fit.store.loans_most_lem) in
      let P = sound.parted in
      let place = insert_last (vacant_in t) t.index vacant_after_at entry_words (slab_of (places_in t) t.index) s.store.loans P few in
      let many = chained_long (vacant_in t) (vacant_after_in t) (slab_of (places_in t) t.index) s.store.loans P in
      by P.chained P.below place many P.limit
    where
      by : (l : List ℕ) → Below (places_in t) l → (taken_of (places_in t) t.index).place ≡ head_or (places_in t) l → length l ≡ vacancies (vacant_in t) (places_in t) → places_in t ≤ s.store.loans
          → ((taken_of (places_in t) t.index).place < s.store.loans) ↔ (length (store_of s t).loans < s.store.loans)
      by [] b e v h = ((λ k. omega (arith, loans_are)), (λ k. omega (arith, loans_are)))
      by (x ∷ l) b e v h = ((λ k. omega (arith, loans_are)), (λ k. omega (arith, b.0)))

  -- the region that serves has a fitting free place
  found_fitting : (size mask i : ℕ) → alignment_ok mask ≡ true → 0 < size → found_for s size mask t ≡ at i → Fitting size mask (store_of s t)
  found_fitting size mask i aligned some e =
      let u : Store = store_of s t in
      let r : Region = get_or u.regions i no_region in
      let w = find_fits (mask_for s mask) (size_for s size) i u.regions no_region e in
      let k = at_in i u.regions no_region w.0 in
      let h = region_home s u fit sound.store r k in
      let b = lent_block s u fit sound.store mask size aligned some i e in
      record {
        chunk = h.0;
        held = h.1;
        region = r;
        free = k;
        its = sym h.2;
        start = cut (mask_for s mask) (size_for s size) r;
        aligned = b.0;
        from = (fits_is (mask_for s mask) (size_for s size) r w.1).1;
        to = b.2;
      }

  -- the search finds no region exactly when no held chunk has a fitting free place
  pub needed_is : (size mask : ℕ) → alignment_ok mask ≡ true → 0 < size → (found_for s size mask t ≡ nowhere) ↔ Needed s size mask t
  needed_is size mask aligned some = (there, λ f. back f (found_for s size mask t) refl)
    where
      -- no byte of it is on loan
      there : found_for s size mask t ≡ nowhere → Needed s size mask t
      there e w =
          let r : Region = w.region in
          let h = region_home s (store_of s t) fit sound.store r w.free in
          let one = ap (λ (c : Chunk). c.size) (chunk_one s (store_of s t) fit sound.store h.0 w.chunk h.1 w.held (h.2 ∙ w.its)) in
          (order_when s (store_of s t) fit sound.store mask size aligned some).0 e (
            w.chunk,
            w.held,
            w.start,
            w.aligned,
            omega (arith, w.to, h.3, one),
            λ y p q. omega (arith, once s (store_of s t) fit sound.store w.chunk.number y, at_region w.chunk.number y (store_of s t).regions (r, w.free, w.its, omega (arith, w.from), omega (arith, w.to))),
          )

      back : Needed s size mask t → (f : Found) → found_for s size mask t ≡ f → found_for s size mask t ≡ nowhere
      back n (at i) e = absurd (n (found_fitting size mask i aligned some e))
      back n nowhere e = e

  module _ (h : Heap) (objects size mask : ℕ) where
    abbrev found : Found
    found = found_for s size mask t

    -- the tests 8, 10 and 9, where those before them hold
    module _ (needed : (needs found ≡ true) ↔ Needed s size mask t) where
      room_off : (room_ok s t found ≡ false) ↔ Full list_words s size mask t
      unfolding room_ok
      room_off =
          Iff.trans
          (off_and (ltb (taken_of (places_in t) t.index).place s.store.loans) (not (needs found) || ltb (chunks_in t) s.store.chunks) places
          (off_where (needs found) (ltb (chunks_in t) s.store.chunks) needed chunks))
          (⊎_elim (λ x. inl x) (λ x. inr (inl x)), ⊎_elim (λ x. inl x) (⊎_elim (λ x. inr x) (λ x. absurd x)))
        where
          places : (ltb (taken_of (places_in t) t.index).place s.store.loans ≡ false) ↔ (s.store.loans ≤ length (store_of s t).loans)
          places = off_room (taken_of (places_in t) t.index).place (length (store_of s t).loans) s.store.loans place_left

          chunks : (ltb (chunks_in t) s.store.chunks ≡ false) ↔ (s.store.chunks ≤ length (store_of s t).chunks)
          chunks = rw (chunks_length s t) (off_less (chunks_in t) s.store.chunks)

      count_off : (count_ok s h size t found ≡ false) ↔ Spent list_words s h size mask t
      unfolding count_ok store_of
      count_off =
          off_and (ltb (store_of s t).given spent) (not (needs found) || (bears_ok h (raised_for s size t) && ltb (store_of s t).made spent)) (off_less (store_of s t).given spent)
          (off_where (needs found) (bears_ok h (raised_for s size t) && ltb (store_of s t).made spent) needed three)
        where
          two : ((bears_ok h (raised_for s size t) && ltb (store_of s t).made spent) ≡ false) ↔ (((heap_bytes_most < h.used + raised_for s size t) ⊎ (2 ^ 128 ≤ value h.allocated + raised_for s size t)) ⊎ (spent ≤ (store_of s t).made))
          two = off_and (bears_ok h (raised_for s size t)) (ltb (store_of s t).made spent) (bears_off h (raised_for s size t)) (off_less (store_of s t).made spent)

          three : ((bears_ok h (raised_for s size t) && ltb (store_of s t).made spent) ≡ false) ↔ ((heap_bytes_most < h.used + raised_for s size t) ⊎ ((2 ^ 128 ≤ value h.allocated + raised_for s size t) ⊎ (spent ≤ (store_of s t).made)))
          three = (
            (λ e. ⊎_elim (λ w. ⊎_elim (λ p. inl p) (λ p. inr (inl p)) w) (λ w. inr (inr w)) (two.0 e)),
            (λ w. two.1 (⊎_elim (λ p. inl (inl p)) (λ v. ⊎_elim (λ p. inl (inr p)) (λ p. inr p) v) w)),
          )

      objects_off : (objects_ok objects found ≡ false) ↔ NoObject list_words s objects size mask t
      unfolding objects_ok
      objects_off = off_where (needs found) (ltb 0 objects) needed (off_some objects)

    -- each test fails exactly when its row's words hold, where those before it do not
    pub ask_decided : Decides (ask_row s h objects size mask t (found_for s size mask t)) (ask_tests list_words s h objects size mask t)
    ask_decided = (refl, or_never (mask_off mask), λ a. (refl, size_off s size, λ z. late (Iff.trans (needs_none found) (needed_is size mask a (size_some s size z)))))
      where
        late : (needs found ≡ true) ↔ Needed s size mask t → Decides (late_row s h objects size t found) (reason (Full list_words s size mask t) 8 (reason (Spent list_words s h size mask t) 10 (reason (NoObject list_words s objects size mask t) 9 Reasons.none)))
        late n = (refl, room_off n, λ p. (refl, count_off n, λ q. (refl, objects_off n, λ r. tt)))

    -- ---- what the ask comes to, in the paper's words

    abbrev tests : Row
    tests = ask_row s h objects size mask t found

    passing : first tests ≡ pass → (alignment_ok mask ≡ true) × (0 < size)
    passing e = let w = passed tests e in (w.0, size_some s size w.1.0)

    pub ask_buys : (z : ℕ) → (decide_ask s h objects size mask t ≡ buy z) ↔ (Clear (ask_tests list_words s h objects size mask t) × Needed s size mask t × (z ≡ raised_for s size t))
    unfolding decide_ask
    ask_buys z = (there, back)
      where
        there : planned s size t found (first tests) ≡ buy z → Clear (ask_tests list_words s h objects size mask t) × Needed s size mask t × (z ≡ raised_for s size t)
        there e =
            let w = planned_buy s size z t found (first tests) e in
            let k = passing w.2 in
            ((clear_first tests (ask_tests list_words s h objects size mask t) ask_decided).0 w.2, (needed_is size mask k.0 k.1).0 w.0, w.1)

        back : Clear (ask_tests list_words s h objects size mask t) × Needed s size mask t × (z ≡ raised_for s size t) → planned s size t found (first tests) ≡ buy z
        back w =
            let p = (clear_first tests (ask_tests list_words s h objects size mask t) ask_decided).1 w.0 in
            let k = passing p in
            let f = (needed_is size mask k.0 k.1).1 w.1 in
            (λ j. planned s size t (f j) (p j)) ∙ ap buy (sym w.2)

    pub ask_takes : ((i : ℕ) × (decide_ask s h objects size mask t ≡ take i)) ↔ (Clear (ask_tests list_words s h objects size mask t) × Fitting size mask (store_of s t))
    unfolding decide_ask
    ask_takes = (there, back)
      where
        there : (i : ℕ) × (planned s size t found (first tests) ≡ take i) → Clear (ask_tests list_words s h objects size mask t) × Fitting size mask (store_of s t)
        there e =
            let w = planned_take s size e.0 t found (first tests) e.1 in
            let k = passing w.1 in
            ((clear_first tests (ask_tests list_words s h objects size mask t) ask_decided).0 w.1, found_fitting size mask e.0 k.0 k.1 w.0)

        back : Clear (ask_tests list_words s h objects size mask t) × Fitting size mask (store_of s t) → (i : ℕ) × (planned s size t found (first tests) ≡ take i)
        back w = by found refl
          where
            p : first tests ≡ pass
            p = (clear_first tests (ask_tests list_words s h objects size mask t) ask_decided).1 w.0

            by : (f : Found) → found ≡ f → (i : ℕ) × (planned s size t found (first tests) ≡ take i)
            by (at i) e = (i, λ j. planned s size t (e j) (p j))
            by nowhere e = let k = passing p in absurd ((needed_is size mask k.0 k.1).0 e w.1)
