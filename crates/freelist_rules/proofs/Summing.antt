-- The sizes of a sound store's chunks, summed: no sum on the way passes what as many of the largest chunks hold.
use mathlib.Core.Path.{refl, subst}
use mathlib.Core.List.{List, [], ◌∷◌, Memᴰ}
use Prim.Native.Nat.{ℕ, zero, suc, ◌*◌, ◌≤◌}
use native.Mathlib.Nat.{suc-mul}
use native.Mathlib.Omega.{arith}
use lib.ListN.{take}
use Rattle.words.specs.Rows.{rows}
use Rattle.words.proofs.Records.{take_rows}
use Rattle.counter.specs.InTable.{FreeListIn}
use Rattle.counter.specs.Limits.{chunk_size_most}
use Rattle.counter.specs.declared.settings.FreeListSettings.{FreeListSettings}
use Rattle.freelist_rules.specs.Records.{chunk_row}
use Rattle.freelist_rules.specs.Pieces.{total}
use Rattle.freelist_rules.specs.Tables.{Tables, chunks_in, store_of, SoundTables}
use Rattle.store_rules.specs.declared.Chunk.{Chunk}
use Rattle.freelist_rules.proofs.Facts.{Small, chunks_small}

-- a sum of numbers of which none is more than m, taken from the front
pub total_front : {A : Type 0} (f : A → ℕ) (m k : ℕ) (xs : List A) → ((a : A) → Memᴰ a xs → f a ≤ m) → total f (take k xs) ≤ k * m
total_front f m zero xs h = omega arith
total_front f m (suc k) [] h = omega arith
total_front f m (suc k) (x ∷ xs) h = omega (arith, h x (Memᴰ.head refl), total_front f m k xs (λ a i. h a (Memᴰ.tail i)), suc-mul k m)

module _ (s : FreeListSettings) (t : Tables) (fit : FreeListIn s) (sound : SoundTables s t) where
  held_small : Small (rows chunk_row (chunks_in t) t.chunks)
  unfolding store_of
  held_small = chunks_small s (store_of s t) fit sound.store

  pub chunks_low : (k : ℕ) → k ≤ chunks_in t → total (λ (c : Chunk). c.size) (rows chunk_row k t.chunks) ≤ k * chunk_size_most
  chunks_low k h =
      subst (λ (cs : List Chunk). total (λ (c : Chunk). c.size) cs ≤ k * chunk_size_most) (take_rows chunk_row k (chunks_in t) t.chunks h)
      (total_front (λ (c : Chunk). c.size) chunk_size_most k (rows chunk_row (chunks_in t) t.chunks) held_small)
