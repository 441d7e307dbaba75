-- Where an ask comes to a region that serves, that region can be lent from, and the loan entered in the book.
use mathlib.Core.Path.{◌≡◌, sym, subst}
use mathlib.Core.Bool.{true}
use Prim.Native.Nat.{ℕ, ◌-◌, ◌<◌}
use native.Mathlib.Omega.{arith}
use lib.ListN.{get_or}
use Rattle.rounding_rules.proofs.Raising.{down_enough}
use Rattle.counter.specs.InTable.{FreeListIn}
use Rattle.counter.specs.declared.account.Heap.{Heap}
use Rattle.counter.specs.declared.settings.FreeListSettings.{FreeListSettings}
use Rattle.slabs.specs.declared.Taken.{Taken}
use Rattle.store_rules.specs.declared.Region.{Region}
use Rattle.store_rules.specs.Orders.{take}
use Rattle.book_rules.specs.Book.{taken_of}
use Rattle.book_rules.specs.Ready.{Opens}
use Rattle.freelist_rules.specs.Place.{at, size_for, mask_for}
use Rattle.freelist_rules.specs.Steps.{no_region}
use Rattle.freelist_rules.specs.Tables.{Tables, lengths_ok, places_in, regions_in, store_of, SoundTables, regions_of}
use Rattle.freelist_rules.proofs.Fits.{lengths_are, regions_length, regions_fit}
use Rattle.freelist_rules.proofs.Search.{find_fits}
use Rattle.freelist_outcomes.specs.Ask.{decide_ask, block_at}
use Rattle.freelist_outcomes.proofs.Plans.{not_spent, take_is}
use Rattle.freelist_outcomes.proofs.Comes.{takes_serves}
use Rattle.freelist_place.specs.Ready.{Lends}
use Rattle.freelist.proofs.Links.{ends_low, after_ends, front_ends}

-- the tables have a place for each loan up to the limit
pub opens_below : (s : FreeListSettings) (t : Tables) → FreeListIn s → lengths_ok s t ≡ true → (p : ℕ) → p < s.store.loans → Opens s.store.loans p t.loans t.index
opens_below s t fit lengths p below =
    let long = lengths_are s t lengths in
    record {
      some = fit.store.loans_some;
      most = fit.store.loans_most_lem;
      loans_long = long.loans;
      index_long = omega (arith, long.index);
      place = below;
    }

module _ (s : FreeListSettings) (h : Heap) (objects size mask : ℕ) (t : Tables) where
  pub lends_ready : FreeListIn s → lengths_ok s t ≡ true → SoundTables s t → (i start : ℕ) (k : Taken) → decide_ask s h objects size mask t ≡ take i
      → start ≡ (block_at s size mask t i).start → k ≡ taken_of (places_in t) t.index → Lends s i start k.place t.loans t.chunks t.index t.room
  unfolding store_of
  lends_ready fit lengths sound i start k e f g =
      let w = take_is s h objects size mask t i e in
      let r : Region = get_or (regions_of t.room) i no_region in
      let under : i < regions_in t = omega (arith, (find_fits (mask_for s mask) (size_for s size) i (store_of s t).regions no_region w.0).0, regions_length s t) in
      let front = front_ends s t sound i under in
      record {
        fit = regions_fit s t fit lengths sound;
        here = under;
        within = omega (arith, f, down_enough (r.end - size_for s size) (mask_for s mask));
        serial = not_spent s h size t (at i) w.1.1.1.1.0;
        opens =
            subst (λ (x : Taken). Opens s.store.loans x.place t.loans t.index) (sym g)
            (opens_below s t fit lengths (taken_of (places_in t) t.index).place (takes_serves s h objects size mask t i e).place);
        long = (lengths_are s t lengths).index;
        front = ends_low s t sound _ front;
        behind = ends_low s t sound _ (after_ends s t sound _ front);
        counted = omega (arith, (lengths_are s t lengths).chunks);
        numbers = sound.store.chunks_rise;
      }
