-- A chunk that has arrived serves the ask that ordered it, from its region, the last.
use mathlib.Core.Path.{◌≡◌, sym, ap, subst, ◌∙◌, refl}
use Prim.Native.Nat.{ℕ, ◌≤◌}
use native.Mathlib.Omega.{arith}
use lib.ListN.{length}
use Rattle.rounding_rules.proofs.Growth.{grown_enough}
use Rattle.rounding_rules.proofs.Raising.{up_least}
use Rattle.counter.specs.InTable.{FreeListIn}
use Rattle.counter.specs.declared.account.Account.{Account}
use Rattle.counter.specs.declared.account.KeptOrder.{KeptOrder}
use Rattle.counter.specs.declared.settings.FreeListSettings.{FreeListSettings}
use Rattle.book_rules.specs.Book.{taken_of}
use Rattle.freelist_rules.specs.Place.{find, size_for, mask_for}
use Rattle.freelist_rules.specs.Pieces.{All}
use Rattle.freelist_rules.specs.Steps.{delivered, lent}
use Rattle.freelist_rules.specs.Records.{Store}
use Rattle.freelist_rules.specs.Tables.{Tables, Lengths, places_in, store_of, SoundTables}
use Rattle.store_rules.specs.declared.Chunk.{Chunk}
use Rattle.freelist_rules.proofs.Delivers.{delivered_serves}
use Rattle.freelist_rules.proofs.Facts.{sized_some}
use Rattle.freelist_rules.proofs.Fits.{lengths_are}
use Rattle.freelist_outcomes.specs.Ask.{raised_for, taken_tables}
use Rattle.freelist_outcomes.specs.Deliver.{delivered_tables}
use Rattle.freelist_outcomes.proofs.Taken.{taken_lengths, taken_store, taken_sound}
use Rattle.freelist_outcomes.proofs.Changed.{delivered_lengths, delivered_store, delivered_tables_sound}
use Rattle.freelist_outcomes.proofs.Comes.{Serves, Open}

-- the size that is looked for is at most the final one
pub raised_most : (s : FreeListSettings) → FreeListIn s → (size : ℕ) → size ≤ s.last → size_for s size ≤ s.last
raised_most s fit size h = up_least size s.store.atom s.last fit.last_multiple h

-- and an order is for no fewer bytes
pub order_enough : (s : FreeListSettings) → FreeListIn s → (t : Tables) → SoundTables s t → (size : ℕ) → size ≤ s.last → size_for s size ≤ raised_for s size t
order_enough s fit t sound size h =
    let m = raised_most s fit size h in
    grown_enough (store_of s t).size (size_for s size) s.last (sized_some s fit (store_of s t).size sound.store.now_sized) m (omega (arith, m, fit.last_most))

module _ (s : FreeListSettings) (a : Account) (t : Tables) (k : KeptOrder) (w : Open s a t k) (memory : ℕ) (new : All (λ (c : Chunk). c.memory ≡ memory → ⊥) (store_of s t).chunks) where
  abbrev pub arrived : Tables
  arrived = delivered_tables s memory k.order.size t

  abbrev size : ℕ
  size = k.ask.size

  abbrev lengths : Lengths s t
  lengths = lengths_are s t w.lengths

  -- the chunk size that was ordered
  as_ordered_lem : delivered_tables s memory (raised_for s size t) t ≡ arrived
  as_ordered_lem = ap (λ (z : ℕ). delivered_tables s memory z t) (sym w.size)

  pub arrived_lengths : Lengths s arrived
  arrived_lengths = subst (Lengths s) as_ordered_lem (delivered_lengths s t w.settings lengths w.sound size memory w.buys.room new)

  pub arrived_sound : SoundTables s arrived
  arrived_sound = subst (SoundTables s) as_ordered_lem (delivered_tables_sound s t w.settings lengths w.sound size memory w.buys.room new)

  pub arrived_store : store_of s arrived ≡ delivered s memory k.order.size (store_of s t)
  arrived_store =
      ap (store_of s) (sym as_ordered_lem)
      ∙ delivered_store s t w.settings lengths w.sound size memory w.buys.room new
      ∙ ap (λ (z : ℕ). delivered s memory z (store_of s t)) (sym w.size)

  same_place : (taken_of (places_in arrived) arrived.index).place ≡ (taken_of (places_in t) t.index).place
  unfolding delivered_tables
  same_place = refl

  pub arrived_serves : Serves s size k.ask.mask arrived (length (store_of s t).regions)
  arrived_serves =
      record {
        aligned = w.buys.aligned;
        some = w.buys.some;
        place = omega (arith, same_place, w.buys.place);
        found =
            ap (λ (v : Store). find (mask_for s k.ask.mask) (size_for s size) v.regions) arrived_store
            ∙ delivered_serves s (store_of s t) memory k.order.size (mask_for s k.ask.mask) (size_for s size)
            (omega (arith, w.size, order_enough s w.settings t w.sound size w.buys.most));
      }

  -- and lends from it
  abbrev pub lent_tables : Tables
  lent_tables = taken_tables s size k.ask.mask arrived (length (store_of s t).regions)

  pub lent_lengths : Lengths s lent_tables
  lent_lengths =
      let v = arrived_serves in
      taken_lengths s arrived w.settings arrived_lengths arrived_sound size k.ask.mask (length (store_of s t).regions) v.aligned v.some v.place v.found

  pub lent_tables_sound : SoundTables s lent_tables
  lent_tables_sound =
      let v = arrived_serves in
      taken_sound s arrived w.settings arrived_lengths arrived_sound size k.ask.mask (length (store_of s t).regions) v.aligned v.some v.place v.found

  pub lent_store : store_of s lent_tables ≡ lent (mask_for s k.ask.mask) (size_for s size) (length (store_of s t).regions) (delivered s memory k.order.size (store_of s t))
  lent_store =
      let v = arrived_serves in
      taken_store s arrived w.settings arrived_lengths arrived_sound size k.ask.mask (length (store_of s t).regions) v.aligned v.some v.place v.found
      ∙ ap (lent (mask_for s k.ask.mask) (size_for s size) (length (store_of s t).regions)) arrived_store
