-- Sound tables of the right lengths have every word of the book that an ask and a return look at.
use mathlib.Core.Path.{◌≡◌}
use mathlib.Core.Bool.{true}
use Prim.Native.Nat.{◌<◌}
use native.Mathlib.Omega.{arith}
use lib.ListN.{length}
use Rattle.counter.specs.InTable.{FreeListIn}
use Rattle.counter.specs.declared.settings.FreeListSettings.{FreeListSettings}
use Rattle.book_rules.specs.Ready.{Reads}
use Rattle.freelist_rules.specs.Tables.{Tables, chunks_at, RegionsFit, lengths_ok, places_in, SoundTables}
use Rattle.freelist_rules.proofs.Fits.{lengths_are, regions_fit}

module _ (s : FreeListSettings) (t : Tables) (fit : FreeListIn s) (lengths : lengths_ok s t ≡ true) (sound : SoundTables s t) where
  pub book_reads : Reads s.store.loans (places_in t) t.loans t.index
  book_reads =
      let long = lengths_are s t lengths in
      record {
        some = fit.store.loans_some;
        most = fit.store.loans_most_lem;
        loans_long = long.loans;
        index_long = omega (arith, long.index);
        few = sound.parted.limit;
      }

  -- what an ask looks at
  pub sees : RegionsFit s t.room × Reads s.store.loans (places_in t) t.loans t.index × (chunks_at < length t.chunks)
  sees = (regions_fit s t fit lengths sound, book_reads, omega (arith, (lengths_are s t lengths).chunks))
