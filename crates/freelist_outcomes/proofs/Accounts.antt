-- The account that a call leaves: that every heap stays in 01's table, and that test 4 holds again of the chunks that are
-- left.
use mathlib.Core.Path.{◌≡◌, sym, ap, ◌∙◌}
use mathlib.Core.Bool.{Bool, true}
use mathlib.Core.List.{List, [], ◌∷◌, ◌++◌}
use Prim.Native.Nat.{ℕ, ◌+◌, ◌<◌}
use native.Mathlib.Omega.{arith}
use lib.ListN.{length, length-append}
use Rattle.counter.specs.Account.{heap_at}
use Rattle.counter.specs.InTable.{FreeListIn}
use Rattle.counter.specs.Table.{heaps_ok}
use Rattle.counter.specs.declared.account.Account.{Account}
use Rattle.counter.specs.declared.settings.FreeListSettings.{FreeListSettings}
use Rattle.heap.specs.Heap.{bears_ok, Within}
use Rattle.store_rules.specs.Outcomes.{charged_account, lost_account, released_account}
use Rattle.store_rules.specs.Tests.{covers_ok}
use Rattle.store_rules.proofs.Accounts as Shared
use Rattle.store_rules.proofs.Accounts.{released_covered, charged_covered, lost_covered}
pub use Rattle.store_rules.proofs.Accounts.{covers_yes}
use Rattle.freelist_rules.specs.Pieces.{total}
use Rattle.freelist_rules.specs.Release.{bytes_of}
use Rattle.freelist_rules.specs.Records.{Store}
use Rattle.freelist_rules.specs.Steps.{released}
use Rattle.freelist_rules.specs.Tables.{Tables, Lengths, store_of, SoundTables}
use Rattle.store_rules.specs.declared.Chunk.{Chunk}
use Rattle.freelist_rules.proofs.Fits.{chunks_length}
use Rattle.freelist_rules.proofs.GivesBack.{total_append, gone_bytes, gone_count}
use Rattle.freelist_outcomes.specs.Gate.{account_ok}
use Rattle.freelist_outcomes.specs.Return.{gone_from, released_tables}
use Rattle.freelist_outcomes.proofs.Changed.{released_store}

-- ---- test 4, of a store

abbrev bytes_in : List Chunk → ℕ
bytes_in cs = total (λ (c : Chunk). c.size) cs

-- it is of the chunks alone
pub account_is : (s : FreeListSettings) (a : Account) (t : Tables) → account_ok s a t ≡ covers_ok (heap_at a s.store.heap) a.objects (length (store_of s t).chunks) (total (λ (c : Chunk). c.size) (store_of s t).chunks)
unfolding account_ok
account_is s a t = ap (λ (n : ℕ). covers_ok (heap_at a s.store.heap) a.objects n (bytes_in (store_of s t).chunks)) (sym (chunks_length s t))

pub account_same : (s : FreeListSettings) (a : Account) (t u : Tables) → (store_of s u).chunks ≡ (store_of s t).chunks → account_ok s a t ≡ true → account_ok s a u ≡ true
account_same s a t u e covered =
    account_is s a u
    ∙ ap (λ (cs : List Chunk). covers_ok (heap_at a s.store.heap) a.objects (length cs) (bytes_in cs)) e
    ∙ sym (account_is s a t)
    ∙ covered

-- ---- a release: the heap is in the table, agrees and covers the chunks left, and the objects are within the limit

module _ (s : FreeListSettings) (a : Account) (t : Tables) (fit : FreeListIn s) where
  module _ (lengths : Lengths s t) (sound : SoundTables s t) (spare : Bool) where
    abbrev gone : ℕ
    gone = length (gone_from s spare t)

    abbrev bytes : ℕ
    bytes = bytes_of (gone_from s spare t)

    pub released_heaps : heaps_ok a.heaps ≡ true → heaps_ok (released_account s.store a (length (gone_from s spare t)) (bytes_of (gone_from s spare t))).heaps ≡ true
    released_heaps e = Shared.released_heaps s.store a fit.store.heap gone bytes e

    pub released_account_lem : Within (heap_at a s.store.heap) → account_ok s a t ≡ true
        → account_ok s (released_account s.store a (length (gone_from s spare t)) (bytes_of (gone_from s spare t))) (released_tables s spare t) ≡ true
    released_account_lem w covered =
        let u = released_tables s spare t in
        let after : Account = released_account s.store a gone bytes in
        let e : (store_of s u).chunks ≡ (released spare (store_of s t)).chunks = ap (λ (x : Store). x.chunks) (released_store s t fit lengths sound spare) in
        let cs = (released spare (store_of s t)).chunks in
        account_is s after u
        ∙ ap (λ (ds : List Chunk). covers_ok (heap_at after s.store.heap) after.objects (length ds) (bytes_in ds)) e
        ∙ released_covered s.store a fit.store.heap (length cs) (bytes_in cs) gone bytes w
        ((λ j. covers_ok (heap_at a s.store.heap) a.objects (gone_count s (store_of s t) fit sound.store spare j) (gone_bytes s (store_of s t) fit sound.store spare j)) ∙ sym (account_is s a t) ∙ covered)

  -- ---- a delivery of a chunk that the heap bears: it is charged for, and kept, lost or given back

  module _ (z : ℕ) (bears : bears_ok (heap_at a s.store.heap) z ≡ true) where
    pub charged_heaps : heaps_ok a.heaps ≡ true → heaps_ok (charged_account s.store a z).heaps ≡ true
    charged_heaps e = Shared.charged_heaps s.store a fit.store.heap z bears e

    -- in an account that has the heap, the chunk that came is covered
    pub charged_account_lem : s.store.heap < length a.heaps → 0 < a.objects → account_ok s a t ≡ true → (u : Tables) (c : Chunk) → c.size ≡ z → (store_of s u).chunks ≡ (store_of s t).chunks ++ (c ∷ [])
        → account_ok s (charged_account s.store a z) u ≡ true
    charged_account_lem there some covered u c e more =
        let after : Account = charged_account s.store a z in
        let cs = (store_of s t).chunks in
        let count : length (cs ++ (c ∷ [])) ≡ length cs + 1 = length-append cs (c ∷ []) in
        let sum : bytes_in (cs ++ (c ∷ [])) ≡ bytes_in cs + z = omega (arith, e, total_append (λ (d : Chunk). d.size) cs (c ∷ [])) in
        account_is s after u
        ∙ ap (λ (ds : List Chunk). covers_ok (heap_at after s.store.heap) after.objects (length ds) (bytes_in ds)) more
        ∙ (λ j. covers_ok (heap_at after s.store.heap) after.objects (count j) (sum j))
        ∙ charged_covered s.store a fit.store.heap z bears there some (length cs) (bytes_in cs) (sym (account_is s a t) ∙ covered)

    pub lost_heaps : (charged : Bool) (back : List ℕ) → heaps_ok a.heaps ≡ true → heaps_ok (lost_account s.store a z charged back).heaps ≡ true
    lost_heaps charged back e = Shared.lost_heaps s.store a fit.store.heap z bears charged back e

    pub lost_account_lem : (charged : Bool) (back : List ℕ) → account_ok s a t ≡ true → account_ok s (lost_account s.store a z charged back) t ≡ true
    lost_account_lem charged back covered =
        let cs = (store_of s t).chunks in
        account_is s (lost_account s.store a z charged back) t
        ∙ lost_covered s.store a fit.store.heap z bears charged back (length cs) (bytes_in cs) (sym (account_is s a t) ∙ covered)
