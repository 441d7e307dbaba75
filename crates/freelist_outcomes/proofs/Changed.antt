-- What the tables hold after set-up, an order, a delivery's chunk and a release: the store that each leads to, and they are
-- sound.
use mathlib.Core.Path.{◌≡◌, refl, sym, ap, subst, ◌∙◌}
use mathlib.Core.Bool.{Bool}
use mathlib.Core.List.{List, [], ◌∷◌, ◌++◌, append-nil, Memᴰ}
use Prim.Native.Nat.{ℕ, ◌+◌, ◌-◌, ◌*◌, ◌≤◌, ◌<◌}
use native.Mathlib.Omega.{arith}
use lib.ListN.{length, get_or, set, length-append}
use Rattle.lists.specs.Members.{Mem}
use Rattle.words.specs.Rows.{rows}
use Rattle.words.specs.Words.{mark_at}
use Rattle.words.proofs.Filled.{blank_mark, blank_other}
use Rattle.counter.specs.InTable.{FreeListIn}
use Rattle.counter.specs.declared.settings.FreeListSettings.{FreeListSettings}
use Rattle.slabs.specs.Slab.{nowhere, place_of, Parted}
use Rattle.slabs.proofs.Places.{parted_fresh}
use Rattle.slabs.specs.declared.Slab.{Slab}
use Rattle.store_rules.specs.Loans.{given_at, places_at, loan_words, loans_of}
use Rattle.store_rules.specs.declared.Loan.{Loan}
use Rattle.book_rules.specs.Book.{vacated_at, first_of, led_to}
use Rattle.book_rules.proofs.Keeps.{BookChained, fresh_chained}
use Rattle.freelist_rules.specs.declared.Gap.{Gap}
use Rattle.freelist_rules.specs.Records.{Store, region, chunk, chunk_words, chunk_row, gap_row}
use Rattle.freelist_rules.specs.Pieces.{All, piece, lo}
use Rattle.freelist_rules.specs.Place.{size_for}
use Rattle.freelist_rules.specs.Release.{remaining}
use Rattle.freelist_rules.specs.Sound.{Sound}
use Rattle.freelist_rules.specs.Steps.{fresh, raised, delivered, released}
use Rattle.freelist_rules.specs.Tables.{Tables, tables, made_at, chunk_size_at, chunks_at, head_words, regions_most, region_count_at, Lengths, places_in, chunks_in, regions_in, ordered, store_of, vacant_in, vacant_after_in, SoundTables, Signed, whole_at, gaps_in, whole_in, laid_gaps, laid_chunks, RegionsFit, room_words, marks, given_in, made_in}
use Rattle.freelist_rules.specs.Threads.{thread_words, after_from, before_from, after_in, before_in, loan_by, Leads, gap, region_in, free_of, Fronts, staying_gaps, wholes}
use Rattle.store_rules.specs.declared.Chunk.{Chunk}
use Rattle.store_rules.specs.declared.Region.{Region}
use Rattle.freelist_rules.proofs.Delivers.{fresh_sound, raised_sound, delivered_sound}
use Rattle.freelist_rules.proofs.Facts.{loan_home, loan_low}
use Rattle.freelist_rules.proofs.Fits.{chunks_length, loans_few, laid_long, laid_count, laid_whole, laid_gaps_lem, laid_regions, laid_mark, Holding, chunks_laid, chunks_numbered}
use Rattle.freelist_rules.proofs.GapLists.{free_length, staying_free, append_fronts, staying_fronts, as_member}
use Rattle.freelist_rules.proofs.GivesBack.{gone_count}
use Rattle.freelist_rules.proofs.Meaning.{room_enough}
use Rattle.freelist_rules.proofs.Releases.{released_sound}
use Rattle.freelist_rules.proofs.Threads.{last_or, leads_ends}
use Rattle.freelist_rules.proofs.Wholes.{delivered_wholes, released_wholes}
use Rattle.freelist_outcomes.specs.Ask.{raised_for, ordered_tables}
use Rattle.freelist_outcomes.specs.Deliver.{delivered_tables}
use Rattle.freelist_outcomes.specs.Return.{gone_from, released_tables}
use Rattle.freelist_outcomes.specs.SetUp.{fresh_tables}

-- a head is its two words, so that words set and read are compared by computing
two_words : (h : List ℕ) → length h ≡ head_words → h ≡ get_or h mark_at 0 ∷ get_or h chunk_size_at 0 ∷ []
two_words [] l = absurd (omega arith)
two_words (a ∷ []) l = absurd (omega arith)
two_words (a ∷ b ∷ []) l = refl
two_words (a ∷ b ∷ c ∷ h) l = absurd (omega arith)

-- one gap more at the end is one region more
free_append : (gs : List Gap) (g : Gap) → free_of (gs ++ (g ∷ [])) ≡ free_of gs ++ (region_in g ∷ [])
free_append [] g = refl
free_append (h ∷ gs) g = ap (λ (rs : List Region). region_in h ∷ rs) (free_append gs g)

-- ---- set-up

module _ (s : FreeListSettings) where
  -- nothing is given, used, held or counted
  fresh_given : given_in (fresh_tables s) ≡ 0
  unfolding fresh_tables
  fresh_given = blank_other (loan_words + loan_words * s.store.loans) marks.loans 0 given_at (omega arith) (omega arith)

  fresh_places : places_in (fresh_tables s) ≡ 0
  unfolding fresh_tables
  fresh_places = blank_other (loan_words + loan_words * s.store.loans) marks.loans 0 places_at (omega arith) (omega arith)

  fresh_made : made_in (fresh_tables s) ≡ 0
  unfolding fresh_tables
  fresh_made = blank_other (chunk_words + chunk_words * s.store.chunks) marks.chunks 0 made_at (omega arith) (omega arith)

  fresh_held : chunks_in (fresh_tables s) ≡ 0
  unfolding fresh_tables
  fresh_held = blank_other (chunk_words + chunk_words * s.store.chunks) marks.chunks 0 chunks_at (omega arith) (omega arith)

  fresh_count : regions_in (fresh_tables s) ≡ 0
  unfolding fresh_tables
  fresh_count = blank_other (room_words s) marks.room 0 region_count_at (omega arith) (omega arith)

  fresh_whole : whole_in (fresh_tables s) ≡ 0
  unfolding fresh_tables
  fresh_whole = blank_other (room_words s) marks.room 0 whole_at (omega arith) (omega arith)

  -- no word of the index behind its mark leads anywhere
  fresh_word : (k : ℕ) → 0 < k → k < thread_words s.store.loans → get_or (fresh_tables s).index k 0 ≡ 0
  unfolding fresh_tables
  fresh_word k o h = blank_other (thread_words s.store.loans) marks.index 0 k o h

  fresh_leads : Leads (after_in s.store.loans (fresh_tables s).index) (before_in s.store.loans (fresh_tables s).index) 0 []
  fresh_leads = (fresh_word (after_from s.store.loans + 0) (omega arith) (omega arith), fresh_word (before_from s.store.loans + 0) (omega arith) (omega arith))

  -- so nothing is on loan
  pub fresh_loans : loans_of (places_in (fresh_tables s)) (fresh_tables s).loans ≡ []
  unfolding loans_of
  fresh_loans = ap (λ (n : ℕ). loans_of n (fresh_tables s).loans) fresh_places

module _ (s : FreeListSettings) (t : Tables) (fit : FreeListIn s) (lengths : Lengths s t) where
  pub fresh_store : store_of s (fresh_tables s) ≡ fresh s
  unfolding fresh_tables store_of loans_of ordered
  fresh_store =
      let u = fresh_tables s in
      (λ j. record {
        given = (fresh_given s) j;
        made = (fresh_made s) j;
        size = s.start;
        loans = ordered (loans_of ((fresh_places s) j) u.loans);
        chunks = rows chunk_row ((fresh_held s) j) u.chunks;
        regions = free_of (rows gap_row ((fresh_count s) j) u.room);
      })

  fresh_signed : Signed marks (fresh_tables s)
  unfolding fresh_tables
  fresh_signed =
      record {
        head = refl;
        loans = blank_mark _ marks.loans 0 (omega arith);
        chunks = blank_mark _ marks.chunks 0 (omega arith);
        index = blank_mark _ marks.index 0 (omega arith);
        room = blank_mark _ marks.room 0 (omega arith);
      }

  pub fresh_tables_sound : SoundTables s (fresh_tables s)
  fresh_tables_sound =
      let u = fresh_tables s in
      let n = s.store.loans in
      let none : gaps_in u ≡ [] = ap (λ (k : ℕ). rows gap_row k u.room) (fresh_count s) in
      let vacated : led_to u.index vacated_at ≡ nowhere = ap place_of (fresh_word s vacated_at (omega arith) (omega arith)) in
      record {
        signed = fresh_signed;
        chunks_fit = omega (arith, fresh_held s);
        regions_fit = omega (arith, fresh_count s);
        parted =
            subst (λ (d : Slab). Parted (vacant_in u) (vacant_after_in u) d s.store.loans)
            (λ j. record { places = sym (fresh_places s) j; vacant = sym vacated j })
            (parted_fresh (vacant_in u) (vacant_after_in u) s.store.loans);
        chained =
            subst (λ (k : ℕ). BookChained u.loans u.index s.store.loans k (given_in u)) (sym (fresh_places s))
            (fresh_chained u.loans u.index n (given_in u) (λ i h. ap place_of (fresh_word s (first_of i) (omega arith) (omega arith))));
        store = subst (Sound s) (sym fresh_store) (fresh_sound s fit);
        threaded = record { records = []; leads = fresh_leads s; right = λ r m. absurd m; are = sym (ap (λ (v : Store). v.loans) fresh_store) };
        fronts = subst (Fronts u.loans []) (sym none) (λ g m. absurd (mathlib.Core.List.Memᴰ.not-nil m));
        whole = fresh_whole s ∙ sym (ap (wholes (store_of s u).chunks) (ap (λ (v : Store). v.regions) fresh_store));
      }

  module _ (sound : SoundTables s t) where
    -- ---- tables with another chunk size now, and other chunks and regions: the book of loans is the same

    abbrev changed : ℕ → List ℕ → List ℕ → Tables
    changed size chunks regions = tables (get_or t.head mark_at 0 ∷ size ∷ []) t.loans chunks t.index regions

    changed_lengths : (size : ℕ) (chunks regions : List ℕ) → length chunks ≡ length t.chunks → length regions ≡ length t.room → Lengths s (changed size chunks regions)
    changed_lengths size chunks regions c r =
        record { head = refl; loans = lengths.loans; chunks = c ∙ lengths.chunks; room = r ∙ lengths.room; index = lengths.index }

    -- the loans by place are those that they were
    abbrev records : List ℕ
    records = sound.threaded.records

    changed_sound : (size : ℕ) (chunks regions : List ℕ) → get_or chunks mark_at 0 ≡ get_or t.chunks mark_at 0 → get_or regions mark_at 0 ≡ get_or t.room mark_at 0 → get_or chunks chunks_at 0 ≤ s.store.chunks → get_or regions region_count_at 0 ≤ regions_most s → Sound s (store_of s (changed size chunks regions))
        → Fronts t.loans records (gaps_in (changed size chunks regions))
        → whole_in (changed size chunks regions) ≡ wholes (store_of s (changed size chunks regions)).chunks (store_of s (changed size chunks regions)).regions
        → SoundTables s (changed size chunks regions)
    unfolding store_of
    changed_sound size chunks regions p q c r w f h =
        record {
          signed = record { head = sound.signed.head; loans = sound.signed.loans; chunks = p ∙ sound.signed.chunks; index = sound.signed.index; room = q ∙ sound.signed.room };
          chunks_fit = c;
          regions_fit = r;
          parted = sound.parted;
          chained = sound.chained;
          store = w;
          threaded = sound.threaded;
          fronts = f;
          whole = h;
        }

    -- ---- an order for this size raises the chunk size and nothing else

    ordered_is : (z : ℕ) → ordered_tables z t ≡ changed z t.chunks t.room
    unfolding ordered_tables
    ordered_is z = ap (λ (h : List ℕ). tables (set h chunk_size_at z) t.loans t.chunks t.index t.room) (two_words t.head lengths.head)

    pub ordered_store : (z : ℕ) → store_of s (ordered_tables z t) ≡ raised z (store_of s t)
    unfolding store_of
    ordered_store z = ap (store_of s) (ordered_is z)

    pub ordered_sound : (size : ℕ) → SoundTables s (ordered_tables (raised_for s size t) t)
    unfolding store_of
    ordered_sound size =
        let z = raised_for s size t in
        subst (SoundTables s) (sym (ordered_is z)) (
        changed_sound z t.chunks t.room refl refl sound.chunks_fit sound.regions_fit
        (raised_sound s (store_of s t) sound.store (size_for s size)) sound.fronts sound.whole
        )

    -- ---- other chunks and regions laid in the tables

    abbrev next : ℕ → ℕ → List Chunk → List Region → Store
    next made size cs rs = record { given = (store_of s t).given; made = made; size = size; loans = (store_of s t).loans; chunks = cs; regions = rs }

    -- u is the table of the chunks
    abbrev laid_tables : ℕ → List ℕ → List Gap → ℕ → Tables
    laid_tables size u gs whole = changed size u (laid_gaps gs whole t.room)

    module _ (made size : ℕ) (cs : List Chunk) (u : List ℕ) (H : Holding t.chunks made cs u) (gs : List Gap) (whole : ℕ) (few : length cs ≤ s.store.chunks) (w : Sound s (next made size cs (free_of gs))) where
      -- regions are no more than loans and chunks
      room : length gs ≤ regions_most s
      room = omega (arith, free_length gs, room_enough s (next made size cs (free_of gs)) fit w, loans_few s t sound)

      before : RegionsFit s t.room
      before = record { settings = fit; long = lengths.room; count = sound.regions_fit }

      laid_lengths : Lengths s (laid_tables size u gs whole)
      laid_lengths = changed_lengths size u (laid_gaps gs whole t.room) H.long (laid_long s gs whole t.room before room ∙ sym lengths.room)

      laid_store : store_of s (laid_tables size u gs whole) ≡ next made size cs (free_of gs)
      unfolding store_of
      laid_store = (λ j. next (H.number j) size (H.records j) (laid_regions s gs whole t.room before room j))

      laid_sound : Fronts t.loans records gs → whole ≡ wholes cs (free_of gs) → SoundTables s (laid_tables size u gs whole)
      laid_sound f h =
          changed_sound size u (laid_gaps gs whole t.room) H.mark (laid_mark s gs whole t.room before)
          (omega (arith, H.count, few))
          (omega (arith, laid_count s gs whole t.room before room, room))
          (subst (Sound s) (sym laid_store) w)
          (subst (Fronts t.loans records) (sym (laid_gaps_lem s gs whole t.room before room)) f)
          (laid_whole s gs whole t.room before room ∙ h ∙ sym (ap (λ (v : Store). wholes v.chunks v.regions) laid_store))

    -- ---- a release

    module _ (spare : Bool) where
      abbrev kept : List Chunk
      kept = remaining (gone_from s spare t) (store_of s t).chunks

      abbrev stays : List Gap
      stays = staying_gaps (store_of s t).chunks spare (gaps_in t)

      abbrev whole : ℕ
      whole = whole_in t - length (gone_from s spare t)

      stays_free : free_of stays ≡ (released spare (store_of s t)).regions
      unfolding store_of
      stays_free = staying_free (store_of s t).chunks spare (gaps_in t)

      kept_few : length kept ≤ s.store.chunks
      kept_few = omega (arith, gone_count s (store_of s t) fit sound.store spare, chunks_length s t, sound.chunks_fit)

      kept_is : next (store_of s t).made (store_of s t).size kept (free_of stays) ≡ released spare (store_of s t)
      kept_is = ap (λ (rs : List Region). next (store_of s t).made (store_of s t).size kept rs) stays_free

      kept_sound : Sound s (next (store_of s t).made (store_of s t).size kept (free_of stays))
      kept_sound = subst (Sound s) (sym kept_is) (released_sound s (store_of s t) fit sound.store spare)

      kept_held : Holding t.chunks (store_of s t).made kept (laid_chunks kept t.chunks)
      unfolding store_of
      kept_held = chunks_laid kept t.chunks (omega (arith, kept_few, lengths.chunks))

      released_is : released_tables s spare t ≡ laid_tables (store_of s t).size (laid_chunks kept t.chunks) stays whole
      unfolding released_tables store_of
      released_is = ap (λ (h : List ℕ). tables h t.loans (laid_chunks kept t.chunks) t.index (laid_gaps stays whole t.room)) (two_words t.head lengths.head)

    pub released_lengths : (spare : Bool) → Lengths s (released_tables s spare t)
    released_lengths spare =
        subst (Lengths s) (sym (released_is spare)) (laid_lengths (store_of s t).made (store_of s t).size (kept spare) _ (kept_held spare) (stays spare) (whole spare) (kept_few spare) (kept_sound spare))

    pub released_store : (spare : Bool) → store_of s (released_tables s spare t) ≡ released spare (store_of s t)
    released_store spare =
        ap (store_of s) (released_is spare)
        ∙ laid_store (store_of s t).made (store_of s t).size (kept spare) _ (kept_held spare) (stays spare) (whole spare) (kept_few spare) (kept_sound spare)
        ∙ kept_is spare

    pub released_tables_sound : (spare : Bool) → SoundTables s (released_tables s spare t)
    released_tables_sound spare =
        subst (SoundTables s) (sym (released_is spare))
        (laid_sound (store_of s t).made (store_of s t).size (kept spare) _ (kept_held spare) (stays spare) (whole spare) (kept_few spare) (kept_sound spare)
        (staying_fronts t.loans records (store_of s t).chunks spare (gaps_in t) sound.fronts)
        (ap (λ (k : ℕ). k - length (gone_from s spare t)) sound.whole ∙ sym (released_wholes s (store_of s t) fit sound.store spare) ∙ ap (wholes (kept spare)) (sym (stays_free spare))))

    -- ---- a chunk delivered for an order, where a chunk place is vacant and its memory number is new

    module _ (size memory : ℕ) (few : chunks_in t < s.store.chunks) (new : All (λ (c : Chunk). c.memory ≡ memory → ⊥) (store_of s t).chunks) where
      abbrev z : ℕ
      z = raised_for s size t

      abbrev after : Store
      after = delivered s memory z (store_of s t)

      one_more : length after.chunks ≡ chunks_in t + 1
      one_more = omega (arith, length-append (store_of s t).chunks (chunk ((store_of s t).made + 1) memory z ∷ []), chunks_length s t)

      after_few : length after.chunks ≤ s.store.chunks
      after_few = omega (arith, one_more, few)

      -- the order raised the chunk size first
      after_sound : Sound s after
      after_sound = delivered_sound s (raised z (store_of s t)) fit (raised_sound s (store_of s t) sound.store (size_for s size)) memory new

      abbrev chunks' : List ℕ
      chunks' = set (laid_chunks after.chunks t.chunks) made_at after.made

      after_held : Holding t.chunks after.made after.chunks chunks'
      after_held = chunks_numbered after.chunks t.chunks (omega (arith, after_few, lengths.chunks)) after.made

      -- the new region stands behind the last loan
      abbrev gaps' : List Gap
      gaps' = gaps_in t ++ (gap (region ((store_of s t).made + 1) 0 z) (before_in s.store.loans t.index 0) ∷ [])

      gaps_free : free_of gaps' ≡ after.regions
      unfolding store_of
      gaps_free = free_append (gaps_in t) (gap (region ((store_of s t).made + 1) 0 z) (before_in s.store.loans t.index 0))

      after_is : next after.made after.size after.chunks (free_of gaps') ≡ after
      after_is = ap (λ (rs : List Region). next after.made after.size after.chunks rs) gaps_free

      gaps_sound : Sound s (next after.made after.size after.chunks (free_of gaps'))
      gaps_sound = subst (Sound s) (sym after_is) after_sound

      last_before : before_in s.store.loans t.index 0 ≡ last_or 0 records
      last_before =
          (leads_ends (after_in s.store.loans t.index) (before_in s.store.loans t.index) 0 records []
          (subst (Leads (after_in s.store.loans t.index) (before_in s.store.loans t.index) 0) (sym (append-nil records)) sound.threaded.leads)).1

      -- every loan is in an older chunk
      loans_older : (q : ℕ) → Mem q records → lo (piece (loan_by t.loans q)) < lo (region ((store_of s t).made + 1) 0 z)
      loans_older q m =
          let l : Loan = loan_by t.loans q in
          let k : Memᴰ l (store_of s t).loans = subst (Memᴰ l) sound.threaded.are (mathlib.Core.List.Memᴰ.map (loan_by t.loans) (as_member q records m)) in
          let w = loan_home s (store_of s t) fit sound.store l k in
          omega (arith, sound.store.chunks_made w.0 w.1, w.2, loan_low s (store_of s t) fit sound.store l k)

      after_fronts : Fronts t.loans records gaps'
      after_fronts =
          subst (λ (u : ℕ). Fronts t.loans records (gaps_in t ++ (gap (region ((store_of s t).made + 1) 0 z) u ∷ []))) (sym last_before)
          (append_fronts t.loans records (gaps_in t) (region ((store_of s t).made + 1) 0 z) sound.fronts loans_older)

      after_whole : whole_in t + 1 ≡ wholes after.chunks (free_of gaps')
      after_whole = ap (λ (k : ℕ). k + 1) sound.whole ∙ sym (delivered_wholes s (store_of s t) fit sound.store memory z) ∙ ap (wholes after.chunks) (sym gaps_free)

      delivered_is : delivered_tables s memory z t ≡ laid_tables after.size chunks' gaps' (whole_in t + 1)
      unfolding delivered_tables
      delivered_is =
          ap (λ (h : List ℕ). tables (set h chunk_size_at after.size) t.loans chunks' t.index (laid_gaps gaps' (whole_in t + 1) t.room)) (two_words t.head lengths.head)

      pub delivered_lengths : Lengths s (delivered_tables s memory (raised_for s size t) t)
      delivered_lengths =
          subst (Lengths s) (sym delivered_is) (laid_lengths after.made after.size after.chunks _ after_held gaps' (whole_in t + 1) after_few gaps_sound)

      pub delivered_store : store_of s (delivered_tables s memory (raised_for s size t) t) ≡ delivered s memory (raised_for s size t) (store_of s t)
      delivered_store =
          ap (store_of s) delivered_is ∙ laid_store after.made after.size after.chunks _ after_held gaps' (whole_in t + 1) after_few gaps_sound ∙ after_is

      pub delivered_tables_sound : SoundTables s (delivered_tables s memory (raised_for s size t) t)
      delivered_tables_sound =
          subst (SoundTables s) (sym delivered_is)
          (laid_sound after.made after.size after.chunks _ after_held gaps' (whole_in t + 1) after_few gaps_sound after_fronts after_whole)
