-- The loan of a block that comes back, by place: it goes out from between those in front of it and those behind it.
use mathlib.Core.Path.{◌≡◌, refl, sym, ap, subst, ◌∙◌}
use mathlib.Core.Bool.{true, false, cond, not}
use mathlib.Core.Logic.{◌⊎◌, inl, inr, ⊎_elim}
use mathlib.Core.List.Memᴰ
use mathlib.Core.List.{List, ◌∷◌, ◌++◌, map, Memᴰ}
use Prim.Native.Nat.{ℕ, suc, ◌+◌, ◌-◌, ◌≤◌, ◌<◌}
use native.Mathlib.Omega.{arith}
use lib.Dec.{eqb}
use Rattle.lists.specs.Members.{Mem, NotIn, Distinct}
use Rattle.lists.proofs.Bools.{and_right}
use Rattle.lists.proofs.Members.{Split, split, mem_left, mem_right, mem_of_left, distinct_out}
use Rattle.words.specs.Rows.{row}
use Rattle.counter.specs.InTable.{FreeListIn}
use Rattle.counter.specs.declared.answers.Block.{Block}
use Rattle.counter.specs.declared.settings.FreeListSettings.{FreeListSettings}
use Rattle.slabs.specs.Slab.{nowhere, place_of}
use Rattle.slabs.proofs.Links.{place_none, place_some}
use Rattle.store_rules.specs.Loans.{loan_row}
use Rattle.store_rules.specs.Views.{Matches}
use Rattle.store_rules.specs.declared.Chunk.{Chunk}
use Rattle.store_rules.specs.declared.Loan.{Loan}
use Rattle.book_rules.specs.Book.{index_words, led_to, serial_of, word_to, struck, struck_index}
use Rattle.book_rules.proofs.Columns.{struck_behind}
use Rattle.book_rules.proofs.Keeps.{free_in, found, struck_wide}
use Rattle.freelist_rules.specs.declared.Gap.{Gap}
use Rattle.freelist_rules.specs.Join.{insert}
use Rattle.freelist_rules.specs.Pieces.{All, piece, lo, hi}
use Rattle.freelist_rules.specs.Records.{Store, region}
use Rattle.freelist_rules.specs.Release.{wholly}
use Rattle.freelist_rules.specs.Tables.{Tables, Lengths, SoundTables, places_in, store_of, given_in, gaps_in}
use Rattle.freelist_rules.specs.Threads.{after_in, before_in, unthreaded, loan_by, Leads, Threaded, region_in, Fronts, insert_gap, around, wholes}
use Rattle.freelist_rules.proofs.Along.{size_is, order_once}
use Rattle.freelist_rules.proofs.Booked.{struck_other}
use Rattle.freelist_rules.proofs.Columns.{leads_stays}
use Rattle.freelist_rules.proofs.Facts.{apart_from_lem, loan_some, loan_home}
use Rattle.freelist_rules.proofs.GapLists.{Order, as_member, insert_fronts}
use Rattle.freelist_rules.proofs.Gaps.{begins}
use Rattle.freelist_rules.proofs.Giving.{without}
use Rattle.freelist_rules.proofs.Meaning.{chunk_one}
use Rattle.freelist_rules.proofs.Parting.{left_out}
use Rattle.freelist_rules.proofs.Search.{same_loan_lem}
use Rattle.freelist_rules.proofs.Threading.{records_over, records_once, records_order, records_each}
use Rattle.freelist_rules.proofs.Threads.{last_or, leads_next, thread_out}
use Rattle.freelist_rules.proofs.Wholes.{insert_wholes}
use Rattle.freelist_outcomes.specs.Return.{word_for, on_loan_ok, record_at, bytes_from, whole_now}
use Rattle.freelist_outcomes.proofs.Loaned.{block_leads}

module _ (s : FreeListSettings) (t : Tables) (fit : FreeListIn s) (lengths : Lengths s t) (sound : SoundTables s t) (b : Block) (on : on_loan_ok s b t ≡ true) where
  abbrev before : Store
  before = store_of s t

  abbrev n : ℕ
  n = s.store.loans

  abbrev word : ℕ
  word = word_for s b t

  abbrev place : ℕ
  place = led_to t.index word

  abbrev r : ℕ
  r = record_at word t

  abbrev records : List ℕ
  records = sound.threaded.records

  -- ---- the record that goes

  leads_to_lem : (place < places_in t) × (free_in t.loans place ≡ false) × (serial_of t.loans place ≡ b.serial)
  leads_to_lem = block_leads s t fit sound b on

  inside : place < n
  inside = omega (arith, leads_to_lem.0, sound.parted.limit)

  -- the word that leads to it is one of the book's entries
  pub word_inside : word_for s b t < index_words s.store.loans
  word_inside =
      subst (λ (k : ℕ). word_to t.loans t.index n (places_in t) k < index_words n) leads_to_lem.2
      (found t.loans t.index n (places_in t) (given_in t) fit.store.loans_some sound.parted.limit (omega (arith, fit.store.loans_most_lem)) sound.chained place leads_to_lem.0 leads_to_lem.1).0

  pub record_is : record_at (word_for s b t) t ≡ suc (led_to t.index (word_for s b t))
  record_is =
      let some : r ≡ 0 → ⊥ = λ e. omega (arith, ap place_of e ∙ place_none, inside, fit.store.loans_most_lem) in
      omega (arith, place_some r some, some)

  loan_is : loan_by t.loans r ≡ row loan_row place t.loans
  loan_is = let e : r - 1 ≡ place = omega (arith, record_is) in ap (λ (x : ℕ). row loan_row x t.loans) e

  matches : Matches b (loan_by t.loans r)
  unfolding on_loan_ok
  matches = subst (Matches b) (sym loan_is) (same_loan_lem b (row loan_row place t.loans) (and_right (not (eqb word nowhere)) _ on))

  bytes_are : piece (loan_by t.loans r) ≡ bytes_from b
  bytes_are = λ j. region (matches.chunk j) (matches.offset j) (matches.offset j + matches.size j)

  -- ---- those in front of it and behind it

  parted : Split r records
  parted = split r records (subst (λ (x : ℕ). Mem x records) (sym record_is) (records_each s t sound.threaded place leads_to_lem.0 leads_to_lem.1))

  abbrev A : List ℕ
  A = parted.a

  abbrev B : List ℕ
  B = parted.b

  is_record : (q : ℕ) → Mem q (A ++ (r ∷ B)) → Mem q records
  is_record q m = subst (Mem q) (sym parted.is) m

  is_other : (q : ℕ) → Mem q (A ++ B) → Mem q records
  is_other q m = is_record q (mem_of_left r q A B m)

  is_loan : (q : ℕ) → Mem q records → Memᴰ (loan_by t.loans q) before.loans
  is_loan q m = subst (Memᴰ (loan_by t.loans q)) sound.threaded.are (Memᴰ.map (loan_by t.loans) (as_member q records m))

  pub record_in : Mem (record_at (word_for s b t) t) sound.threaded.records
  record_in = is_record r (mem_right r A (r ∷ B) (inl refl))

  order : Order t.loans records
  order = records_order s t sound.threaded sound.store.loans_rise

  once : Distinct (A ++ (r ∷ B))
  once = subst Distinct parted.is (records_once s t sound.threaded)

  other : (q : ℕ) → Mem q (A ++ B) → q ≡ r → ⊥
  other q m e = distinct_out r A B once (subst (λ (x : ℕ). Mem x (A ++ B)) e m)

  leads : Leads (after_in n t.index) (before_in n t.index) 0 (A ++ (r ∷ B))
  leads = subst (Leads (after_in n t.index) (before_in n t.index) 0) parted.is sound.threaded.leads

  front_is : before_in n t.index r ≡ last_or 0 A
  front_is = (leads_next (after_in n t.index) (before_in n t.index) 0 r A B leads).0

  -- ---- the thread without it

  abbrev loans' : List ℕ
  loans' = struck word t.index t.loans

  same : (q : ℕ) → Mem q (A ++ B) → loan_by loans' q ≡ loan_by t.loans q
  same q m =
      let w = sound.threaded.right q (is_other q m) in
      struck_other word t.index t.loans (q - 1) (λ e. other q m (omega (arith, w.0, record_is)))

  abbrev entries : List ℕ
  entries = struck_index word t.index

  abbrev pub index' : List ℕ
  index' = unthreaded n r entries

  out : Leads (after_in n index') (before_in n index') 0 (A ++ B)
  out =
      thread_out n r A B entries (struck_wide word t.index ∙ lengths.index)
      (leads_stays n t.index entries (λ k h. struck_behind n t.index k h word word_inside inside) 0 (A ++ (r ∷ B)) leads)
      (subst (NotIn 0) parted.is (records_over s t sound.threaded))
      (λ q m. omega (arith, (sound.threaded.right q (is_record q m)).1, sound.parted.limit))

  -- each of the others has another serial
  serials : (q : ℕ) → Mem q (A ++ B) → (loan_by t.loans q).serial ≡ b.serial → ⊥
  serials q m e =
      let k = is_other q m in
      let same = sound.store.serials_differ (loan_by t.loans q) (loan_by t.loans r) (is_loan q k) (is_loan r record_in) (e ∙ sym matches.serial) in
      other q m (order_once t.loans 0 records order q r (as_member q records k) (as_member r records record_in) (ap begins same))

  pub old_thread : Threaded s.store.loans (places_in t) (struck (word_for s b t) t.index t.loans) index' (without b.serial (store_of s t).loans)
  old_thread =
      record {
        records = A ++ B;
        leads = out;
        right = λ q m.
            let w = sound.threaded.right q (is_other q m) in
            (w.0, w.1, size_is loans' (q - 1) ∙ ap (λ (d : Loan). eqb d.size 0) (same q m) ∙ sym (size_is t.loans (q - 1)) ∙ w.2);
        are =
            left_out t.loans loans' r b.serial A B matches.serial same serials
            ∙ ap (λ (rs : List ℕ). without b.serial (map (loan_by t.loans) rs)) (sym parted.is)
            ∙ ap (without b.serial) sound.threaded.are;
      }

  -- ---- the regions with its bytes

  aside : All (λ (g : Gap). (q : ℕ) → Mem q A → (hi (piece (loan_by t.loans q)) ≤ lo (region_in g)) ⊎ (hi (region_in g) ≤ lo (piece (loan_by t.loans q)))) (gaps_in t)
  unfolding store_of
  aside g m q k =
      ⊎_elim (λ h. inr h) (λ h. inl h)
      (apart_from_lem s before fit sound.store (loan_by t.loans q) (is_loan q (is_record q (mem_left q A (r ∷ B) k))) (region_in g) (Memᴰ.map region_in m))

  pub old_fronts : Fronts (struck (word_for s b t) t.index t.loans) old_thread.records (insert_gap (bytes_from b) (record_at (word_for s b t) t) (before_in s.store.loans t.index (record_at (word_for s b t) t)) (gaps_in t))
  unfolding store_of old_thread
  old_fronts =
      let is : insert_gap (piece (loan_by t.loans r)) r (last_or 0 A) (gaps_in t) ≡ insert_gap (bytes_from b) r (before_in n t.index r) (gaps_in t) = λ j. insert_gap (bytes_are j) r (sym front_is j) (gaps_in t) in
      subst (Fronts loans' (A ++ B)) is
      (insert_fronts t.loans loans' A B r (subst (Order t.loans) parted.is order) same once (gaps_in t)
      (subst (λ (rs : List ℕ). Fronts t.loans rs (gaps_in t)) parted.is sound.fronts) sound.store.regions_rise aside)

  pub old_whole : whole_now s b t ≡ wholes (store_of s t).chunks (insert (bytes_from b) (store_of s t).regions)
  old_whole =
      let l : Loan = loan_by t.loans r in
      let k = is_loan r record_in in
      let w = loan_home s before fit sound.store l k in
      let fits : (c : Chunk) → Memᴰ c before.chunks → c.number ≡ b.chunk → b.offset + b.size ≤ c.size =
      λ c m e. omega (arith, w.3, matches.offset, matches.size, ap (λ (d : Chunk). d.size) (chunk_one s before fit sound.store w.0 c w.1 m (w.2 ∙ matches.chunk ∙ sym e))) in
      ap (λ (x : ℕ). x + cond (wholly before.chunks (around (bytes_from b) before.regions)) 1 0) sound.whole
      ∙ sym (insert_wholes before.chunks (bytes_from b) before.regions (omega (arith, loan_some s before fit sound.store l k, matches.size)) fits)
