-- The test of a store's tables decides whether they are sound.
use mathlib.Core.Path.{◌≡◌, refl, sym, ap, ◌∙◌, subst}
use mathlib.Core.Bool.{true, false}
use mathlib.Core.Logic.{⊎_elim}
use mathlib.Core.List.Memᴰ
use mathlib.Core.List.{List, [], ◌∷◌}
use Prim.Native.Nat.{ℕ, ◌-◌, ◌≤◌, ◌<◌}
use native.Mathlib.Omega.{arith}
use lib.Dec.{eqb, leb}
use lib.ListN.{length}
use borrow.Author.Tests.{leb-true, le-leb, eqb-true, eq-eqb}
use Rattle.lists.specs.Members.{Mem}
use Rattle.lists.proofs.Bools.{and_left, and_right, and_both, all_each, each_all}
use Rattle.words.specs.Rows.{row}
use Rattle.words.proofs.Records.{cell_row}
use Rattle.counter.specs.InTable.{FreeListIn}
use Rattle.counter.specs.declared.settings.FreeListSettings.{FreeListSettings}
use Rattle.slabs.specs.Slab.{nowhere}
use Rattle.slabs.specs.Test.{vacancies, parted_ok}
use Rattle.slabs.proofs.Decides.{decides_yes, decides_all}
use Rattle.store_rules.specs.Loans.{loan_words, serial_at, size_at, loan_row, loans_of}
use Rattle.store_rules.specs.declared.Loan.{Loan}
use Rattle.store_rules.proofs.Signed.{signed_yes, signed_all}
use Rattle.book_rules.specs.Book.{serial_of, slab_of}
use Rattle.book_rules.specs.Chains.{Chained}
use Rattle.book_rules.proofs.Decides.{chains_yes, chains_all, serial_once}
use Rattle.freelist_rules.specs.declared.Gap.{Gap}
use Rattle.freelist_rules.specs.Pieces.{Differ}
use Rattle.freelist_rules.specs.Walk.{all_ok, sized_ok, chunk_ok, loan_ok, serials, fills_ok}
use Rattle.freelist_rules.specs.Walk as Walk
use Rattle.freelist_rules.specs.Tables.{Tables, marks, places_in, chunks_in, regions_in, regions_most, ordered, store_of, vacant_in, vacant_after_in, chain_start, chain_next, SoundTables, sound_row, sound_ok, given_in, gaps_in, records_in, along_in, threaded_in}
use Rattle.freelist_rules.specs.Threads.{after_in, before_in, Leads, Threaded, region_in, front_of, Fronts, leads_ok, fronts_ok}
use Rattle.freelist_rules.proofs.Decides.{all_yes, all_all, apart_all, differ_distinct, sized_yes, numbers_yes, fills_yes, sound_yes, sound_all}
use Rattle.freelist_rules.proofs.Facts.{Small, sized_low}
use Rattle.freelist_rules.proofs.Gaps.{begins, stops, LoansRise, inside_rise}
use Rattle.freelist_rules.proofs.Ordered.{ordered_in, ordered_out, loan_place_lem}
use Rattle.freelist_rules.proofs.Threads.{Right, leads_distinct, followed_over, leads_ok_lem, ok_leads}
use Rattle.freelist_rules.proofs.Along.{records_all, loans_order, along_ordered}
use Rattle.freelist_rules.proofs.Threading.{records_count, records_are, along_are}

-- the test of the fronts

pub fronts_yes : (loans records : List ℕ) (gs : List Gap) → fronts_ok loans records gs ≡ true → Fronts loans records gs
unfolding fronts_ok
fronts_yes loans records [] e g m = absurd (Memᴰ.not-nil m)
fronts_yes loans records (h ∷ gs) e g m =
    ⊎_elim (λ q. rw q (eqb-true _ _ (and_left _ _ e))) (λ k. fronts_yes loans records gs (and_right (eqb h.front (front_of loans 0 records (region_in h))) _ e) g k) (Memᴰ.cases_cons m)

pub fronts_all : (loans records : List ℕ) (gs : List Gap) → Fronts loans records gs → fronts_ok loans records gs ≡ true
unfolding fronts_ok
fronts_all loans records [] f = refl
fronts_all loans records (h ∷ gs) f = and_both _ _ (eq-eqb _ _ (f h (Memᴰ.head refl))) (fronts_all loans records gs (λ g m. f g (Memᴰ.tail m)))

-- the test of all

module _ (s : FreeListSettings) (t : Tables) (fit : FreeListIn s) where
  abbrev loans : List Loan
  loans = loans_of (places_in t) t.loans

  abbrev Links : Type 0
  Links = Chained (vacant_in t) (chain_start t) (chain_next t) (serial_of t.loans) s.store.loans (places_in t) (given_in t)

  -- the chains lead to each serial once
  serials_differ : Links → Differ (λ (l : Loan). l.serial) (ordered loans)
  serials_differ C a b m k e =
      let p = loan_place_lem (places_in t) t.loans a (ordered_out a loans m) in
      let q = loan_place_lem (places_in t) t.loans b (ordered_out b loans k) in
      let same : p.0 ≡ q.0 = serial_once (vacant_in t) (chain_start t) (chain_next t) (serial_of t.loans) s.store.loans (places_in t) (given_in t) p.0 q.0 fit.store.loans_some C p.1 q.1
      (used p.0 a p.2 p.3) (used q.0 b q.2 q.3) (serial p.0 a p.2 ∙ e ∙ sym (serial q.0 b q.2)) in
      sym p.2 ∙ ap (λ (i : ℕ). row loan_row i t.loans) same ∙ q.2
    where
      used : (i : ℕ) (l : Loan) → row loan_row i t.loans ≡ l → eqb l.size 0 ≡ false → vacant_in t i ≡ false
      used i l g f = ap (λ (n : ℕ). eqb n 0) (cell_row t.loans size_at loan_words i ∙ ap (λ (d : Loan). d.size) g) ∙ f

      serial : (i : ℕ) (l : Loan) → row loan_row i t.loans ≡ l → serial_of t.loans i ≡ l.serial
      serial i l g = cell_row t.loans serial_at loan_words i ∙ ap (λ (d : Loan). d.serial) g

  -- what the test of the places says of their number
  few_places : parted_ok (vacant_in t) (vacant_after_in t) (slab_of (places_in t) t.index) s.store.loans ≡ true → places_in t ≤ s.store.loans
  unfolding parted_ok
  few_places e = leb-true (places_in t) s.store.loans (and_left (leb (places_in t) s.store.loans) _ e)

  small : all_ok (chunk_ok s (store_of s t)) (store_of s t).chunks ≡ true → Small (store_of s t).chunks
  unfolding chunk_ok
  small e c m =
      let k = all_yes (chunk_ok s (store_of s t)) (store_of s t).chunks e c m in
      let z = and_left (sized_ok s c.size) _ (and_right (leb c.number (store_of s t).made) _ k) in
      omega (arith, sized_low s c.size (sized_yes s c.size z), fit.last_most)

  -- the loans in order pass what they pass in any
  loans_in_order : all_ok (loan_ok s (store_of s t)) loans ≡ true → all_ok (loan_ok s (store_of s t)) (ordered loans) ≡ true
  loans_in_order e = all_all (loan_ok s (store_of s t)) (ordered loans) (λ l m. all_yes (loan_ok s (store_of s t)) loans e l (ordered_out l loans m))

  -- ---- the loans by place

  abbrev after : ℕ → ℕ
  after = after_in s.store.loans t.index

  abbrev before : ℕ → ℕ
  before = before_in s.store.loans t.index

  -- what the test of them says
  pub threads_yes : threaded_in s t ≡ true → Leads after before 0 (records_in s t) × ((r : ℕ) → Mem r (records_in s t) → Right (vacant_in t) (places_in t) r) × (length (records_in s t) ≡ places_in t - vacancies (vacant_in t) (places_in t))
  threads_yes e =
      let w = ok_leads after before (vacant_in t) (places_in t) (places_in t) (and_left _ _ e) in
      (w.0, w.1, eqb-true _ _ (and_right (leads_ok after before (vacant_in t) (places_in t) 0 (records_in s t)) _ e))

  -- their loans are the store's in order, where they rise
  pub along_is : threaded_in s t ≡ true → LoansRise 0 (along_in s t) → ordered loans ≡ along_in s t
  along_is e rise =
      let w = threads_yes e in
      let once = leads_distinct after before (records_in s t) w.0 (followed_over after before 0 (places_in t)) in
      along_ordered t.loans (places_in t) (records_in s t) (loans_order t.loans 0 (records_in s t) rise) w.1 (records_all (vacant_in t) (places_in t) (records_in s t) once w.1 w.2)

  pub tables_yes : sound_ok s t ≡ true → SoundTables s t
  unfolding sound_ok store_of
  tables_yes e =
      let at = all_each (sound_row s t) e in
      let few : places_in t ≤ s.store.loans = few_places at.1.1.1.0 in
      let low : places_in t < nowhere = omega (arith, few, fit.store.loans_most_lem) in
      let chained : Links = chains_yes (vacant_in t) (chain_start t) (chain_next t) (serial_of t.loans) s.store.loans (places_in t) (given_in t) low at.1.1.1.1.0 in
      let sized = at.1.1.1.1.1 in
      let numbers = sized.1 in
      let chunks = numbers.1 in
      let differ = chunks.1 in
      let each = differ.1 in
      let threads = each.1 in
      let fills = threads.1 in
      let fronts = fills.1 in
      let cs = (store_of s t).chunks in
      let thread = threads_yes threads.0 in
      let rise = inside_rise 0 1 cs (along_in s t) (fills_yes cs (along_in s t) (store_of s t).regions fills.0).0 (numbers_yes 1 cs numbers.0) (small chunks.0) (omega arith) in
      let along : ordered loans ≡ along_in s t = along_is threads.0 rise in
      let rise' : LoansRise 0 (ordered loans) = subst (LoansRise 0) (sym along) rise in
      let fills' : fills_ok cs (ordered loans) (store_of s t).regions ≡ true = ap (λ (ls : List Loan). fills_ok cs ls (store_of s t).regions) along ∙ fills.0 in
      let once = apart_all (serials (ordered loans)) (differ_distinct (λ (l : Loan). l.serial) begins stops 0 0 (ordered loans) rise' (serials_differ chained)) in
      record {
        signed = signed_yes marks t at.0;
        chunks_fit = leb-true (chunks_in t) s.store.chunks at.1.0;
        regions_fit = leb-true (regions_in t) (regions_most s) at.1.1.0;
        parted = decides_yes (vacant_in t) (vacant_after_in t) (slab_of (places_in t) t.index) s.store.loans (omega arith) at.1.1.1.0;
        chained = chained;
        store = sound_yes s (store_of s t) fit (each_all (Walk.sound_row s (store_of s t)) (sized.0, (numbers.0, (chunks.0, (loans_in_order each.0, (fills', (differ.0, (once, tt))))))));
        threaded = record { records = records_in s t; leads = thread.0; right = thread.1; are = sym along };
        fronts = fronts_yes t.loans (records_in s t) (gaps_in t) fronts.0;
        whole = eqb-true _ _ fronts.1.0;
      }

  threads_all : (T : Threaded s.store.loans (places_in t) t.loans t.index (store_of s t).loans) → threaded_in s t ≡ true
  threads_all T =
      and_both _ _
      (ap (leads_ok after before (vacant_in t) (places_in t) 0) (records_are s t T) ∙ leads_ok_lem after before (vacant_in t) (places_in t) T.records T.leads T.right)
      (eq-eqb _ _ (ap length (records_are s t T) ∙ records_count s t T))

  pub tables_all : SoundTables s t → sound_ok s t ≡ true
  unfolding sound_ok store_of
  tables_all S =
      let at = all_each (Walk.sound_row s (store_of s t)) (sound_all s (store_of s t) fit S.store) in
      let each = all_all (loan_ok s (store_of s t)) loans (λ l m. all_yes (loan_ok s (store_of s t)) (ordered loans) at.1.1.1.0 l (ordered_in l loans m)) in
      let low : places_in t < nowhere = omega (arith, S.parted.limit, fit.store.loans_most_lem) in
      let fills = ap (λ (ls : List Loan). fills_ok (store_of s t).chunks ls (store_of s t).regions) (along_are s t S.threaded) ∙ at.1.1.1.1.0 in
      let fronts = ap (λ (rs : List ℕ). fronts_ok t.loans rs (gaps_in t)) (records_are s t S.threaded) ∙ fronts_all t.loans S.threaded.records (gaps_in t) S.fronts in
      each_all (sound_row s t) (
        signed_all marks t S.signed,
        (
          le-leb (chunks_in t) s.store.chunks S.chunks_fit,
          (
            le-leb (regions_in t) (regions_most s) S.regions_fit,
            (
              decides_all (vacant_in t) (vacant_after_in t) (slab_of (places_in t) t.index) s.store.loans S.parted,
              (
                chains_all (vacant_in t) (chain_start t) (chain_next t) (serial_of t.loans) s.store.loans (places_in t) (given_in t) low fit.store.loans_some S.chained,
                (at.0, (at.1.0, (at.1.1.0, (at.1.1.1.1.1.0, (each, (threads_all S.threaded, (fills, (fronts, (eq-eqb _ _ S.whole, tt))))))))),
              ),
            ),
          ),
        ),
      )
