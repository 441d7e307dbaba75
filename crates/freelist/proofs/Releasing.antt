-- A sound store's chunks and regions can be released, and the device objects that are then allowed stay within their limit.
use mathlib.Core.Path.{◌≡◌}
use mathlib.Core.Bool.{Bool, true}
use mathlib.Core.List.{List}
use Prim.Native.Nat.{ℕ, ◌+◌, ◌≤◌}
use native.Mathlib.Omega.{arith}
use lib.ListN.{length}
use Rattle.counter.specs.InTable.{FreeListIn}
use Rattle.counter.specs.Limits.{objects_most}
use Rattle.counter.specs.declared.account.Heap.{Heap}
use Rattle.counter.specs.declared.settings.FreeListSettings.{FreeListSettings}
use Rattle.store_rules.specs.Tests.{covers_ok}
use Rattle.freelist_rules.specs.Tables.{Tables, lengths_ok, chunks_in, store_of, SoundTables}
use Rattle.freelist_rules.proofs.Fits.{lengths_are, regions_fit, chunks_length}
use Rattle.freelist_outcomes.specs.Return.{gone_from}
use Rattle.freelist_outcomes.proofs.Accounts.{covers_yes}
use Rattle.freelist_release.specs.Frees.{Frees}
use Rattle.freelist_release.proofs.Sounds.{releasable}

module _ (s : FreeListSettings) (t : Tables) (fit : FreeListIn s) (sound : SoundTables s t) where
  pub frees_ready : lengths_ok s t ≡ true → (list : List ℕ) → chunks_in t ≤ length list → Frees s t.chunks t.room list
  unfolding store_of
  frees_ready lengths list long =
      let held = regions_fit s t fit lengths sound in
      record {
        settings = fit;
        ready = releasable s (store_of s t) fit sound.store;
        chunks_fit = omega (arith, sound.chunks_fit, (lengths_are s t lengths).chunks);
        regions_fit = omega (arith, held.count, held.long);
        few = omega (arith, held.count, fit.store.loans_most_lem, fit.store.chunks_most_lem);
        long = long;
        whole = sound.whole;
      }

  pub objects_ready : (h : Heap) (objects bytes : ℕ) (spare : Bool) → covers_ok h objects (chunks_in t) bytes ≡ true → objects + length (gone_from s spare t) ≤ objects_most
  objects_ready h objects bytes spare e =
      omega (arith, (covers_yes h objects (chunks_in t) bytes e).2, (releasable s (store_of s t) fit sound.store).few spare, chunks_length s t)
