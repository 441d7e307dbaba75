-- The loan of a new block by place: it stands between those in front of the region that serves and those behind it.
use mathlib.Core.Path.{◌≡◌, refl, sym, ap, subst, ◌∙◌}
use mathlib.Core.Bool.{true, false, cond}
use mathlib.Core.Logic.{◌⊎◌, ⊎_elim}
use mathlib.Core.List.Memᴰ
use mathlib.Core.List.{List, ◌∷◌, ◌++◌, map, Memᴰ}
use Prim.Native.Nat.{ℕ, ◌+◌, ◌-◌, ◌≤◌, ◌<◌}
use native.Mathlib.Omega.{arith}
use lib.Dec.{eqb}
use lib.ListN.{length, get_or}
use borrow.Author.Tests.{ne_eqb}
use Rattle.lists.specs.Members.{Mem, NotIn, Distinct, head_or}
use Rattle.lists.proofs.Bools.{true_false}
use Rattle.lists.proofs.Members.{mem_not, mem_left, mem_right, mem_cases}
use Rattle.words.specs.Rows.{row}
use Rattle.counter.specs.InTable.{FreeListIn}
use Rattle.counter.specs.Table.{alignment_ok}
use Rattle.counter.specs.declared.settings.FreeListSettings.{FreeListSettings}
use Rattle.slabs.specs.Slab.{nowhere}
use Rattle.slabs.proofs.Links.{record_some}
use Rattle.store_rules.specs.Loans.{loan_row}
use Rattle.store_rules.specs.declared.Loan.{Loan}
use Rattle.store_rules.specs.declared.Region.{Region}
use Rattle.book_rules.specs.Book.{taken_of, entered, entered_index}
use Rattle.book_rules.proofs.Columns.{entered_behind}
use Rattle.book_rules.proofs.Keeps.{free_in, taken_where, entered_wide}
use Rattle.freelist_rules.specs.declared.Gap.{Gap}
use Rattle.freelist_rules.specs.Pieces.{lo, hi}
use Rattle.freelist_rules.specs.Place.{size_for, mask_for, at, cut_off, put_loan}
use Rattle.freelist_rules.specs.Records.{Store, region}
use Rattle.freelist_rules.specs.Release.{wholly}
use Rattle.freelist_rules.specs.Steps.{no_region}
use Rattle.freelist_rules.specs.Tables.{Tables, Lengths, SoundTables, places_in, store_of, gaps_in}
use Rattle.freelist_rules.specs.Threads.{thread_words, after_in, before_in, threaded, loan_by, Leads, Threaded, no_gap, region_in, front_of, Fronts, cut_gaps, wholes}
use Rattle.freelist_rules.proofs.Along.{size_is}
use Rattle.freelist_rules.proofs.Base.{at_in, rising_low}
use Rattle.freelist_rules.proofs.Booked.{entered_here, entered_other}
use Rattle.freelist_rules.proofs.Columns.{leads_stays}
use Rattle.freelist_rules.proofs.Facts.{apart_from_lem, region_home}
use Rattle.freelist_rules.proofs.GapLists.{Order, as_member, free_length, free_at, front_last, cut_fronts, cut_wholes}
use Rattle.freelist_rules.proofs.Gaps.{begins, stops}
use Rattle.freelist_rules.proofs.Lends.{fits_is, lent_block}
use Rattle.freelist_rules.proofs.Parting.{Parts, parts, between}
use Rattle.freelist_rules.proofs.Search.{find_fits}
use Rattle.freelist_rules.proofs.Threading.{records_once, records_order}
use Rattle.freelist_rules.proofs.Threads.{last_or, leads_ends, thread_put}
use Rattle.freelist_outcomes.specs.Ask.{found_for, block_at, loan_from, record_for, front_at, whole_left}

module _ (s : FreeListSettings) (t : Tables) (fit : FreeListIn s) (lengths : Lengths s t) (sound : SoundTables s t) (size mask i : ℕ)
    (aligned : alignment_ok mask ≡ true) (some_size : 0 < size) (place : (taken_of (places_in t) t.index).place < s.store.loans)
    (found : found_for s size mask t ≡ at i) where
  abbrev before : Store
  before = store_of s t

  abbrev n : ℕ
  n = s.store.loans

  abbrev new : Loan
  new = loan_from s size mask t i

  abbrev records : List ℕ
  records = sound.threaded.records

  -- ---- the region that serves

  abbrev g : Gap
  g = get_or (gaps_in t) i no_gap

  under : i < length (gaps_in t)
  unfolding store_of
  under = omega (arith, (find_fits (mask_for s mask) (size_for s size) i before.regions no_region found).0, free_length (gaps_in t))

  region_is : get_or before.regions i no_region ≡ region_in g
  unfolding store_of
  region_is = free_at (gaps_in t) i

  region_in_lem : Memᴰ (region_in g) before.regions
  unfolding store_of
  region_in_lem = Memᴰ.map region_in (at_in i (gaps_in t) no_gap under)

  -- the block is cut off its end
  cut_from_lem : (g.start ≤ new.offset) × (new.offset < g.end) × (new.chunk ≡ g.chunk)
  cut_from_lem =
      let r : Region = get_or before.regions i no_region in
      let w = fits_is (mask_for s mask) (size_for s size) r (find_fits (mask_for s mask) (size_for s size) i before.regions no_region found).1 in
      let b = lent_block s before fit sound.store mask size aligned some_size i found in
      let p = ap (λ (d : Region). d.start) region_is in
      let q = ap (λ (d : Region). d.end) region_is in
      (omega (arith, w.1, p), omega (arith, b.2, q), ap (λ (d : Region). d.chunk) region_is)

  -- ---- the records in front of it and behind it

  order : Order t.loans records
  order = records_order s t sound.threaded sound.store.loans_rise

  apart : Parts t.loans (lo (region_in g)) records
  apart = parts t.loans (lo (region_in g)) 0 records order

  abbrev A : List ℕ
  A = apart.ahead

  abbrev B : List ℕ
  B = apart.past

  -- each of them is one of the records
  is_record : (q : ℕ) → Mem q (A ++ B) → Mem q records
  is_record q m = subst (Mem q) (sym apart.are) m

  is_loan : (q : ℕ) → Mem q records → Memᴰ (loan_by t.loans q) before.loans
  is_loan q m = subst (Memᴰ (loan_by t.loans q)) sound.threaded.are (Memᴰ.map (loan_by t.loans) (as_member q records m))

  low : (q : ℕ) → Mem q records → (0 < q) × (q ≤ n)
  low q m = let w = sound.threaded.right q m in (w.0, omega (arith, w.1, sound.parted.limit))

  behind : (q : ℕ) → Mem q B → hi (region_in g) ≤ begins (loan_by t.loans q)
  behind q m =
      let k = is_loan q (is_record q (mem_right q A B m)) in
      let l = apart.late q m in
      ⊎_elim (λ h. h) (λ h. absurd (omega (arith, (rising_low begins stops 0 0 before.loans sound.store.loans_rise (loan_by t.loans q) k).1)))
      (apart_from_lem s before fit sound.store (loan_by t.loans q) k (region_in g) region_in_lem)

  -- the region names the last of those in front, and that leads to the first of those behind
  front_is : front_at t i ≡ last_or 0 A
  front_is =
      sound.fronts g (at_in i (gaps_in t) no_gap under)
      ∙ ap (λ (rs : List ℕ). front_of t.loans 0 rs (region_in g)) apart.are
      ∙ front_last t.loans A B (region_in g) apart.early apart.late

  leads : Leads (after_in n t.index) (before_in n t.index) 0 (A ++ B)
  leads = subst (Leads (after_in n t.index) (before_in n t.index) 0) apart.are sound.threaded.leads

  next_is_lem : after_in n t.index (front_at t i) ≡ head_or 0 B
  next_is_lem = ap (after_in n t.index) front_is ∙ (leads_ends (after_in n t.index) (before_in n t.index) 0 A B leads).0

  -- ---- the new record

  few : n < nowhere
  few = omega (arith, fit.store.loans_most_lem)

  abbrev p : ℕ
  p = (taken_of (places_in t) t.index).place

  abbrev r : ℕ
  r = record_for t

  -- how many places are used then
  abbrev used : ℕ
  used = (taken_of (places_in t) t.index).slab.places

  record_is : r ≡ p + 1
  record_is = record_some p (λ e. omega (arith, place))

  grown : (places_in t ≤ used) × (p < used)
  grown = ⊎_elim (λ w. (omega (arith, w.0, w.1), omega (arith, w.0, w.1))) (λ w. (omega (arith, w.2), omega (arith, w.0, w.2))) (taken_where t.loans t.index n (places_in t) few sound.parted)

  -- no record has been it
  record_new : (q : ℕ) → Mem q records → q ≡ r → ⊥
  record_new q m e =
      let w = sound.threaded.right q m in
      let z : q - 1 ≡ p = omega (arith, record_is) in
      ⊎_elim (λ v. omega (arith, v.0, w.1, record_is)) (λ v. true_false (free_in t.loans p) v.1 (ap (free_in t.loans) (sym z) ∙ w.2))
      (taken_where t.loans t.index n (places_in t) few sound.parted)

  abbrev loans' : List ℕ
  loans' = entered (places_in t) t.index new t.loans

  same : (q : ℕ) → Mem q records → loan_by loans' q ≡ loan_by t.loans q
  same q m =
      let w = low q m in
      entered_other (places_in t) t.index new t.loans n lengths.loans place (q - 1) (omega (arith, w.0, w.1)) (λ e. record_new q m (omega (arith, w.0, record_is)))

  lent : loan_by loans' r ≡ new
  lent =
      let z : r - 1 ≡ p = omega (arith, record_is) in
      ap (λ (k : ℕ). row loan_row k loans') z ∙ entered_here (places_in t) t.index new t.loans n lengths.loans place

  -- ---- the thread with it

  abbrev entries : List ℕ
  entries = entered_index n (places_in t) new.serial t.index

  abbrev pub index' : List ℕ
  index' = threaded n (front_at t i) r (after_in n t.index (front_at t i)) entries

  put : Leads (after_in n index') (before_in n index') 0 (A ++ (r ∷ B))
  put =
      let is : threaded n (last_or 0 A) r (head_or 0 B) entries ≡ index' = λ j. threaded n (sym front_is j) r (sym next_is_lem j) entries in
      let long : length entries ≡ thread_words n = entered_wide n (places_in t) new.serial t.index ∙ lengths.index in
      let stays = leads_stays n t.index entries (λ k h. entered_behind n t.index k h (places_in t) new.serial fit.store.loans_some place) 0 (A ++ B) leads in
      let none : NotIn 0 (A ++ B) = mem_not 0 (A ++ B) (λ m. let h : 0 < 0 = (low 0 (is_record 0 m)).0 in omega arith) in
      let out : NotIn r (A ++ B) = mem_not r (A ++ B) (λ m. record_new r (is_record r m) refl) in
      subst (λ (index : List ℕ). Leads (after_in n index) (before_in n index) 0 (A ++ (r ∷ B))) is
      (thread_put n r A B entries long stays none (λ q m. (low q (is_record q m)).1) (omega (arith, record_is)) (omega (arith, record_is, place)) out)

  in_use_lem : (q : ℕ) (l : Loan) → loan_by loans' q ≡ l → eqb l.size 0 ≡ false → free_in loans' (q - 1) ≡ false
  in_use_lem q l e h = size_is loans' (q - 1) ∙ ap (λ (d : Loan). eqb d.size 0) e ∙ h

  right : (q : ℕ) → Mem q (A ++ (r ∷ B)) → (0 < q) × (q ≤ used) × (free_in loans' (q - 1) ≡ false)
  right q m = ⊎_elim (λ k. old (is_record q (mem_left q A B k))) (⊎_elim here (λ k. old (is_record q (mem_right q A B k)))) (mem_cases q A (r ∷ B) m)
    where
      old : Mem q records → (0 < q) × (q ≤ used) × (free_in loans' (q - 1) ≡ false)
      old k =
          let w = sound.threaded.right q k in
          (w.0, omega (arith, w.1, grown.0), in_use_lem q (loan_by t.loans q) (same q k) (sym (size_is t.loans (q - 1)) ∙ w.2))

      here : q ≡ r → (0 < q) × (q ≤ used) × (free_in loans' (q - 1) ≡ false)
      here e =
          (omega (arith, record_is), omega (arith, record_is, grown.1), in_use_lem q new (ap (loan_by loans') e ∙ lent) (ne_eqb new.size 0 (λ z. omega (arith, (lent_block s before fit sound.store mask size aligned some_size i found).2))))

  pub new_thread : Threaded s.store.loans (taken_of (places_in t) t.index).slab.places (entered (places_in t) t.index (loan_from s size mask t i) t.loans) index' (put_loan (loan_from s size mask t i) (store_of s t).loans)
  new_thread =
      record {
        records = A ++ (r ∷ B);
        leads = put;
        right = right;
        are =
            between t.loans loans' r new A B lent (λ q m. same q (is_record q m))
            (λ q m. omega (arith, apart.early q m, cut_from_lem.0, cut_from_lem.2))
            (λ q m. omega (arith, behind q m, cut_from_lem.1, cut_from_lem.2))
            ∙ ap (λ (rs : List ℕ). put_loan new (map (loan_by t.loans) rs)) (sym apart.are)
            ∙ ap (put_loan new) sound.threaded.are;
      }

  -- ---- the regions that are left

  pub new_fronts : Fronts (entered (places_in t) t.index (loan_from s size mask t i) t.loans) new_thread.records (cut_gaps (block_at s size mask t i).start i (record_for t) (gaps_in t))
  unfolding store_of new_thread
  new_fronts =
      cut_fronts 1 t.loans loans' A B r new.offset i (gaps_in t) (subst (λ (rs : List ℕ). Fronts t.loans rs (gaps_in t)) apart.are sound.fronts)
      sound.store.regions_rise under cut_from_lem.0 cut_from_lem.1 apart.early behind (λ q m. same q (is_record q m))
      (ap begins lent ∙ ap (λ (c : ℕ). lo (region c new.offset g.end)) cut_from_lem.2)
      (subst Distinct apart.are (records_once s t sound.threaded)) (λ q m. (low q (is_record q m)).0)

  pub new_whole : whole_left s t i ≡ wholes (store_of s t).chunks (cut_off (block_at s size mask t i).start i (store_of s t).regions)
  new_whole =
      let r : Region = get_or before.regions i no_region in
      let w = find_fits (mask_for s mask) (size_for s size) i before.regions no_region found in
      ap (λ (k : ℕ). k - cond (wholly before.chunks r) 1 0) sound.whole
      ∙ sym (cut_wholes before.chunks 1 new.offset i before.regions sound.store.chunks_rise (omega (arith, (lent_block s before fit sound.store mask size aligned some_size i found).2)) (region_home s before fit sound.store r (at_in i before.regions no_region w.0)))
