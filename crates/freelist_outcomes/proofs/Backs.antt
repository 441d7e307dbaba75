-- The store as it is when a block on loan has gone back among its free regions.
use mathlib.Core.Path.{◌≡◌, refl, ap}
use mathlib.Core.Bool.{true}
use Prim.Native.Nat.{◌+◌, ◌≤◌}
use native.Mathlib.Omega.{arith}
use lib.ListN.{length, get_or}
use Rattle.words.proofs.Records.{length_remove_at}
use Rattle.counter.specs.InTable.{FreeListIn}
use Rattle.counter.specs.Limits.{chunk_size_most}
use Rattle.counter.specs.declared.answers.Block.{Block}
use Rattle.counter.specs.declared.settings.FreeListSettings.{FreeListSettings}
use Rattle.freelist_rules.specs.Records.{Store, region}
use Rattle.freelist_rules.specs.Sound.{Sound}
use Rattle.freelist_rules.specs.Join.{insert}
use Rattle.freelist_rules.specs.Steps.{no_loan, given_back}
use Rattle.freelist_rules.specs.Tables.{Tables, regions_most, store_of, SoundTables}
use Rattle.store_rules.specs.declared.Region.{Region}
use Rattle.freelist_rules.proofs.Base.{at_in}
use Rattle.freelist_rules.proofs.Facts.{loan_low}
use Rattle.freelist_rules.proofs.Fits.{chunks_length, loans_few}
use Rattle.freelist_rules.proofs.Meaning.{room_enough}
use Rattle.freelist_rules.proofs.Returns.{given_back_sound}
use Rattle.freelist_rules.proofs.Search.{same_loan_lem}
use Rattle.freelist_outcomes.specs.Return.{on_loan_ok}
use Rattle.freelist_outcomes.proofs.Loaned.{Stands, block_stands, block_piece}

abbrev pub returning : Block → Region
returning b = region b.chunk b.offset (b.offset + b.size)

-- the store as it is when the block is back
pub record Back (s : FreeListSettings) (t : Tables) (b : Block) : Type 0 where
  pub store : Store
  pub sound : Sound s store
  pub chunks : store.chunks ≡ (store_of s t).chunks
  pub regions : store.regions ≡ insert (returning b) (store_of s t).regions
  pub loans : length store.loans + 1 ≡ length (store_of s t).loans

module _ (s : FreeListSettings) (t : Tables) (fit : FreeListIn s) (sound : SoundTables s t) (b : Block) (lent : on_loan_ok s b t ≡ true) where
  stands : Stands s t b
  stands = block_stands s t fit sound b lent

  abbrev before : Store
  before = store_of s t

  pub block_back : Back s t b
  block_back =
      record {
        store = given_back stands.rank before;
        sound = given_back_sound s before fit sound.store stands.rank stands.here;
        chunks = refl;
        regions = ap (λ (r : Region). insert r before.regions) (block_piece s t b stands);
        loans = let h = stands.here in omega (arith, length_remove_at stands.rank before.loans h);
      }

  pub back_room : length (insert (returning b) (store_of s t).regions) ≤ regions_most s
  back_room =
      let k = block_back in
      omega (
        arith,
        room_enough s k.store fit k.sound,
        ap length k.regions,
        ap length k.chunks,
        k.loans,
        chunks_length s t,
        sound.chunks_fit,
        loans_few s t sound,
      )

  pub block_low : b.offset + b.size ≤ chunk_size_most
  block_low =
      let l = get_or before.loans stands.rank no_loan in
      let e = same_loan_lem b l stands.same in
      omega (arith, loan_low s before fit sound.store l (at_in stands.rank before.loans no_loan stands.here), e.offset, e.size)
