-- Where an ask comes to an order there is room for its chunk, the chunk's region can be lent from, and the loan entered in the
-- book.
use mathlib.Core.Path.{◌≡◌, refl, sym, ap, subst, ◌∙◌}
use mathlib.Core.Bool.{true}
use mathlib.Core.List.{List, [], ◌∷◌, ◌++◌}
use Prim.Native.Nat.{ℕ, ◌+◌, ◌-◌, ◌*◌, ◌≤◌, ◌<◌}
use native.Mathlib.Omega.{arith}
use lib.ListN.{length, get_or, length-append}
use Rattle.words.specs.Rows.{rows}
use Rattle.words.proofs.Records.{length_rows}
use Rattle.rounding_rules.proofs.Raising.{down_enough}
use Rattle.slabs.specs.declared.Taken.{Taken}
use Rattle.counter.specs.declared.account.KeptOrder.{KeptOrder}
use Rattle.counter.specs.InTable.{FreeListIn}
use Rattle.counter.specs.declared.account.Heap.{Heap}
use Rattle.counter.specs.declared.settings.FreeListSettings.{FreeListSettings}
use Rattle.counter.proofs.Tables.{alignment_yes}
use Rattle.store_rules.specs.Orders.{buy}
use Rattle.book_rules.specs.Book.{taken_of}
use Rattle.book_rules.specs.Ready.{Opens}
use Rattle.freelist_rules.specs.declared.Gap.{Gap}
use Rattle.freelist_rules.specs.Records.{region, chunk, chunk_words, chunk_row, gap_row}
use Rattle.freelist_rules.specs.Place.{nowhere, cut}
use Rattle.freelist_rules.specs.Steps.{no_region}
use Rattle.freelist_rules.specs.Tables.{Tables, chunks_at, regions_most, region_count_at, lengths_ok, places_in, chunks_in, regions_in, whole_in, gaps_in, store_of, SoundTables, gaps_of, regions_of, RegionsFit}
use Rattle.freelist_rules.specs.Threads.{after_in, before_in, gap, no_gap, region_in}
use Rattle.store_rules.specs.declared.Chunk.{Chunk}
use Rattle.store_rules.specs.declared.Region.{Region}
use Rattle.freelist_rules.proofs.Fits.{lengths_are, regions_fit, regions_length, chunks_length, loans_few, laid_fit, laid_count, laid_gaps_lem, chunks_numbered}
use Rattle.freelist_rules.proofs.GapLists.{free_at}
use Rattle.freelist_rules.proofs.Meaning.{room_enough}
use Rattle.freelist_outcomes.specs.Ask.{decide_ask}
use Rattle.freelist_outcomes.specs.Deliver.{delivered_tables}
use Rattle.freelist_outcomes.proofs.Plans.{not_spent, buy_held, chunk_place, chunk_number}
use Rattle.freelist_outcomes.proofs.Comes.{buys_bought}
use Rattle.freelist_outcomes.proofs.Arrives.{order_enough}
use Rattle.freelist_regions.proofs.Asking.{both_ones}
use Rattle.std.specs.Prelude.{Ok}
use Rattle.freelist_decide.specs.Plans.{Planned}
use Rattle.freelist_decide.specs.declared.deciding.Buying.{Buying}
use Rattle.freelist_decide.specs.declared.deciding.Plan.TheVariants.{Buy}
use Rattle.freelist_place.specs.Ready.{Lends, Adds}
use Rattle.freelist.specs.Ready.{KeepReady}
use Rattle.freelist_marks.specs.Releasable.{NumbersRise}
use Rattle.freelist.proofs.Lending.{opens_below}
use Rattle.freelist.proofs.Links.{none_ends, ends_low, after_ends, before_ends, whole_few, numbered_end}

-- as many gaps as are counted
gaps_length : (t : Tables) → length (gaps_in t) ≡ regions_in t
gaps_length t = length_rows gap_row (regions_in t) t.room

-- the last of a list
last_at : {A : Type 0} (xs : List A) (x d : A) → get_or (xs ++ (x ∷ [])) (length xs) d ≡ x
last_at [] x d = refl
last_at (y ∷ xs) x d = last_at xs x d

module _ (s : FreeListSettings) (h : Heap) (objects size mask : ℕ) (t : Tables) (fit : FreeListIn s) (lengths : lengths_ok s t ≡ true) (sound : SoundTables s t) (z : ℕ)
    (order : decide_ask s h objects size mask t ≡ buy z) where
  few : chunks_in t < s.store.chunks
  few = chunk_place s t (buy_held s h objects size mask t z order).2.1.1.0

  -- regions are no more than loans and chunks, of which one more is allowed
  room : regions_in t < regions_most s
  room = omega (arith, room_enough s (store_of s t) fit sound.store, regions_length s t, chunks_length s t, loans_few s t sound, few)

  pub adds_ready : Adds s t.chunks t.room
  adds_ready =
      record {
        fit = regions_fit s t fit lengths sound;
        room = room;
        long = (lengths_are s t lengths).chunks;
        few = few;
        number = chunk_number s h size t (buy_held s h objects size mask t z order).2.1.1.1.0;
        whole = whole_few s t sound;
      }

  -- test 8 asked for a loan place too, before the order
  pub ordered_opens : Opens s.store.loans (taken_of (places_in t) t.index).place t.loans t.index
  ordered_opens = opens_below s t fit lengths (taken_of (places_in t) t.index).place (buys_bought s h objects size mask t z order).1.place

  module _ (memory : ℕ) where
    -- the last loan by place is in front of the chunk's region
    abbrev front : ℕ
    front = before_in s.store.loans t.index 0

    abbrev last : Gap
    last = gap (region ((store_of s t).made + 1) 0 z) front

    abbrev after : List Gap
    after = gaps_in t ++ (last ∷ [])

    after_length : length after ≡ regions_in t + 1
    after_length = omega (arith, length-append (gaps_in t) (last ∷ []), gaps_length t)

    after_room : length after ≤ regions_most s
    after_room = omega (arith, after_length, room)

    after_gaps : gaps_of (delivered_tables s memory z t).room ≡ after
    unfolding delivered_tables
    after_gaps = laid_gaps_lem s after (whole_in t + 1) t.room (regions_fit s t fit lengths sound) after_room

    last_gap : get_or (gaps_of (delivered_tables s memory z t).room) (length (store_of s t).regions) no_gap ≡ last
    last_gap =
        (λ j. get_or (after_gaps j) ((regions_length s t ∙ sym (gaps_length t)) j) no_gap) ∙ last_at (gaps_in t) last no_gap

    abbrev held : List Chunk
    held = (store_of s t).chunks ++ (chunk ((store_of s t).made + 1) memory z ∷ [])

    -- and the table has room for it
    held_room : chunk_words + chunk_words * length held ≤ length t.chunks
    held_room =
        omega (arith, length-append (store_of s t).chunks (chunk ((store_of s t).made + 1) memory z ∷ []), chunks_length s t, few, (lengths_are s t lengths).chunks)

    delivered_counted : chunks_at < length (delivered_tables s memory z t).chunks
    unfolding delivered_tables
    delivered_counted =
        omega (arith, (chunks_numbered held t.chunks held_room ((store_of s t).made + 1)).long, (lengths_are s t lengths).chunks)

    -- its number is over those of the others
    delivered_numbers : NumbersRise (rows chunk_row (get_or (delivered_tables s memory z t).chunks chunks_at 0) (delivered_tables s memory z t).chunks)
    unfolding delivered_tables
    delivered_numbers =
        subst NumbersRise (sym (chunks_numbered held t.chunks held_room ((store_of s t).made + 1)).records)
        (numbered_end 1 (store_of s t).chunks (chunk ((store_of s t).made + 1) memory z) (omega arith) (λ c m. omega (arith, sound.store.chunks_made c m)) sound.store.chunks_rise)

    delivered_fit : RegionsFit s (delivered_tables s memory z t).room
    unfolding delivered_tables
    delivered_fit = laid_fit s after (whole_in t + 1) t.room (regions_fit s t fit lengths sound) after_room

    delivered_count : get_or (delivered_tables s memory z t).room region_count_at 0 ≡ length after
    unfolding delivered_tables
    delivered_count = laid_count s after (whole_in t + 1) t.room (regions_fit s t fit lengths sound) after_room

    pub delivered_ready : (n m : ℕ) (k : Taken) → k ≡ taken_of (places_in t) t.index
        → Lends s (length (store_of s t).regions) (cut m n (region 0 0 z)) k.place t.loans (delivered_tables s memory z t).chunks t.index (delivered_tables s memory z t).room
    delivered_ready n m k g =
        let w = (buy_held s h objects size mask t z order).2 in
        let i = length (store_of s t).regions in
        let e : get_or (regions_of (delivered_tables s memory z t).room) i no_region ≡ region_in last = free_at (gaps_of (delivered_tables s memory z t).room) i ∙ ap region_in last_gap in
        let f = ap (λ (d : Gap). d.front) last_gap in
        let ends = before_ends s t sound 0 (none_ends s t sound) in
        record {
          fit = delivered_fit;
          here = omega (arith, delivered_count, after_length, regions_length s t);
          within = omega (arith, down_enough (z - n) m, ap (λ (r : Region). r.end) e);
          serial = omega (arith, not_spent s h size t nowhere w.1.1.1.0);
          opens = subst (λ (x : Taken). Opens s.store.loans x.place t.loans t.index) (sym g) ordered_opens;
          long = (lengths_are s t lengths).index;
          front = omega (arith, f, ends_low s t sound front ends);
          behind = omega (arith, ap (after_in s.store.loans t.index) f, ends_low s t sound (after_in s.store.loans t.index front) (after_ends s t sound front ends));
          counted = delivered_counted;
          numbers = delivered_numbers;
        }

-- the region of a chunk that is added is the last
pub delivered_last : (s : FreeListSettings) (memory z : ℕ) (t : Tables) → Adds s t.chunks t.room
    → get_or (regions_of (delivered_tables s memory z t).room) (length (store_of s t).regions) no_region ≡ region ((store_of s t).made + 1) 0 z
unfolding delivered_tables
delivered_last s memory z t adds =
    let last : Gap = gap (region ((store_of s t).made + 1) 0 z) (before_in s.store.loans t.index 0) in
    let after = gaps_in t ++ (last ∷ []) in
    let room : length after ≤ regions_most s = omega (arith, length-append (gaps_in t) (last ∷ []), gaps_length t, adds.room) in
    free_at (gaps_of (delivered_tables s memory z t).room) (length (store_of s t).regions)
    ∙ ap region_in ((λ j. get_or (laid_gaps_lem s after (whole_in t + 1) t.room adds.fit room j) ((regions_length s t ∙ sym (gaps_length t)) j) no_gap) ∙ last_at (gaps_in t) last no_gap)

-- with the numbers that the plan carries
module _ (s : FreeListSettings) (t : Tables) (fit : FreeListIn s) (lengths : lengths_ok s t ≡ true) (sound : SoundTables s t) (memory : ℕ) (k : KeptOrder) (b : Buying) where
  pub keep_ready : (h : Heap) (objects : ℕ) → decide_ask s h objects k.ask.size k.ask.mask t ≡ buy k.order.size → Planned s k.ask.size k.ask.mask t (Ok (Buy b)) → KeepReady s k memory t b
  keep_ready h objects order p =
      let w = buys_bought s h objects k.ask.size k.ask.mask t k.order.size order in
      record {
        planned = p;
        aligned = both_ones s fit k.ask.mask b.mask (alignment_yes k.ask.mask w.1.aligned) p.1;
        small = omega (arith, p.0, w.0, order_enough s fit t sound k.ask.size w.1.most);
        adds = adds_ready s h objects k.ask.size k.ask.mask t fit lengths sound k.order.size order;
        lends = delivered_ready s h objects k.ask.size k.ask.mask t fit lengths sound k.order.size order memory b.size b.mask b.loan p.2;
      }
