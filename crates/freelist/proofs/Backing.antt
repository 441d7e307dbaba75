-- A block that is on loan may go back among the free regions, and its loan can be struck out of the book and out of the thread.
use mathlib.Core.Path.{◌≡◌, refl}
use mathlib.Core.Bool.{true}
use mathlib.Core.Logic.{inr}
use mathlib.Core.List.{List, [], ◌∷◌}
use Prim.Native.Nat.{ℕ, zero, suc, ◌+◌, ◌<◌}
use native.Mathlib.Omega.{arith}
use lib.ListN.{length, get_or}
use Rattle.counter.specs.InTable.{FreeListIn}
use Rattle.counter.specs.declared.answers.Block.{Block}
use Rattle.counter.specs.declared.settings.FreeListSettings.{FreeListSettings}
use Rattle.book_rules.specs.Book.{led_to}
use Rattle.book_rules.specs.Ready.{Strikes}
use Rattle.freelist_rules.specs.Pieces.{lo, hi, Rising}
use Rattle.freelist_rules.specs.Steps.{no_region}
use Rattle.freelist_rules.specs.Tables.{Tables, Lengths, lengths_ok, store_of, SoundTables, regions_of}
use Rattle.store_rules.specs.declared.Region.{Region}
use Rattle.freelist_rules.proofs.Base.{at_in}
use Rattle.freelist_rules.proofs.Facts.{Low, region_low}
use Rattle.freelist_rules.proofs.Fits.{lengths_are, regions_fit}
use Rattle.freelist_rules.proofs.Inserts.{rising_at}
use Rattle.freelist_outcomes.specs.Return.{word_for, on_loan_ok, record_at}
use Rattle.freelist_outcomes.proofs.Backs.{back_room, block_low}
use Rattle.freelist_outcomes.proofs.Loaned.{block_leads}
use Rattle.freelist_outcomes.proofs.Outgoing.{word_inside, record_is, record_in}
use Rattle.freelist_regions.specs.Order.{RegionsStand}
use Rattle.freelist_place.specs.Ready.{Backs}
use Rattle.freelist.proofs.Links.{Ends, ends_low, after_ends, before_ends, whole_few}

-- ---- regions that rise stand in order

rising_between : (q i j : ℕ) (rs : List Region) (d : Region) → Rising lo hi 1 q rs → i < j → j < length rs → lo (get_or rs i d) < lo (get_or rs j d)
rising_between q i j [] d r h g = absurd (omega arith)
rising_between q i zero (a ∷ rs) d r h g = absurd (omega arith)
rising_between q zero (suc j) (a ∷ rs) d r h g = omega (arith, r.1, (rising_at (1 + hi a) j rs d r.2 (omega arith)).0)
rising_between q (suc i) (suc j) (a ∷ rs) d r h g = rising_between (1 + hi a) i j rs d r.2 (omega arith) (omega arith)

pub regions_stand : (rs : List Region) → Rising lo hi 1 0 rs → Low rs → RegionsStand rs
regions_stand rs r low =
    record {
      rise = λ i j h g. rising_between 0 i j rs no_region r h g;
      low = λ i h. omega (arith, (rising_at 0 i rs no_region r h).1, low (get_or rs i no_region) (at_in i rs no_region h));
    }

module _ (s : FreeListSettings) (t : Tables) (fit : FreeListIn s) (sound : SoundTables s t) (b : Block) (lent : on_loan_ok s b t ≡ true) (lengths : lengths_ok s t ≡ true) where
  long : Lengths s t
  long = lengths_are s t lengths

  abbrev r : ℕ
  r = record_at (word_for s b t) t

  -- the record of its loan is one of those that the index leads through by place
  record_ends : Ends s t sound r
  record_ends = inr (record_in s t fit long sound b lent)

  pub backs_ready : Backs s b (word_for s b t) t.chunks t.index t.room
  unfolding store_of
  backs_ready =
      record {
        fit = regions_fit s t fit lengths sound;
        rise = sound.store.regions_rise;
        stand = regions_stand (regions_of t.room) sound.store.regions_rise (region_low s (store_of s t) fit sound.store);
        low = omega (arith, block_low s t fit sound b lent);
        short = omega (arith, block_low s t fit sound b lent);
        room = back_room s t fit sound b lent;
        whole = whole_few s t sound;
        counted = omega (arith, long.chunks);
        numbers = sound.store.chunks_rise;
        long = long.index;
        word = word_inside s t fit long sound b lent;
        some = omega (arith, record_is s t fit long sound b lent);
        most = ends_low s t sound r record_ends;
        after = ends_low s t sound _ (after_ends s t sound r record_ends);
        before = ends_low s t sound _ (before_ends s t sound r record_ends);
      }

  -- the word that was found stands in the index, and leads to a place below the limit
  pub strikes_ready : Strikes (word_for s b t) (led_to t.index (word_for s b t)) t.loans t.index
  strikes_ready =
      let at = block_leads s t fit sound b lent in
      record {
        leads = refl;
        word = omega (arith, word_inside s t fit long sound b lent, long.index);
        size = omega (arith, at.0, sound.parted.limit, long.loans);
        after = omega (arith, at.0, sound.parted.limit, long.index);
      }
