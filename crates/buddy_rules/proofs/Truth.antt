-- Head, loans and chunks are the truth of a buddy store: what index and tree say follows. Two sound stores with the same truth have the same
-- chains and vacant loan places, and the same free nodes, each the ready side of one pair. What may differ: the order of vacant places, that of a
-- ring, and at which places of a level its pairs stand.
use mathlib.Core.Path.{◌≡◌, refl, sym, ap, subst}
use mathlib.Core.Bool.{cond}
use mathlib.Core.Logic.{◌↔◌}
use mathlib.Core.List.{List, [], ◌∷◌, ◌++◌, Memᴰ}
use Prim.Native.Nat.{ℕ, zero, suc, ◌<◌}
use Rattle.lists.specs.Members.{Mem}
use Rattle.counter.specs.InTable.{BuddyIn}
use Rattle.counter.specs.declared.settings.BuddySettings.{BuddySettings}
use Rattle.store_rules.specs.declared.Region.{Region}
use Rattle.store_rules.specs.declared.Chunk.{Chunk}
use Rattle.store_rules.specs.Views.{View, chunk}
use Rattle.book_rules.proofs.Truth.{chain_follows, vacant_follows}
use Rattle.buddy_rules.specs.Sound.{Sound}
use Rattle.buddy_rules.specs.Tables.{tables, chunk_places_in, memory_in, chunk_size_in, held_in}
use Rattle.buddy_rules.specs.Views.{ReadySide, FreeNode, chunks_of, loans_in, view_of}
use Rattle.buddy_rules.proofs.Frees.{free_seen, free_words}
use Rattle.buddy_trees.specs.Chunks.{view_from}

-- two stores' tables, with one head, one table of loans and one of chunks
module _ (s : BuddySettings) (fit : BuddyIn s) (head loans chunks index room index' room' : List ℕ)
    (T : Sound s (tables head loans chunks index room)) (U : Sound s (tables head loans chunks index' room')) where
  pub chains_follow : (i : ℕ) (low : i < s.store.loans) → (T.chained i low).members ≡ (U.chained i low).members
  chains_follow i low = chain_follows _ _ _ _ _ _ s.store.loans _ _ i (T.chained i low) (U.chained i low)

  pub vacant_follow : (p : ℕ) → Mem p T.loans_parted.chained ↔ Mem p U.loans_parted.chained
  vacant_follow p = vacant_follows _ _ _ _ _ _ s.store.loans T.loans_parted U.loans_parted p

  pub chunk_vacant_follow : (c : ℕ) → Mem c T.chunks_parted.chained ↔ Mem c U.chunks_parted.chained
  chunk_vacant_follow c = vacant_follows _ _ _ _ _ _ s.store.chunks T.chunks_parted U.chunks_parted c

  chunks_alike : (n : ℕ) → chunks_of (tables head loans chunks index room) n ≡ chunks_of (tables head loans chunks index' room') n
  unfolding chunks_of
  chunks_alike zero = refl
  chunks_alike (suc n) = ap (λ (cs : List Chunk). cs ++ cond (held_in (tables head loans chunks index room) n) (chunk n (memory_in (tables head loans chunks index room) n) (chunk_size_in (tables head loans chunks index room) n) ∷ []) []) (chunks_alike n)

  -- both are seen with the same free pieces
  pub view_follows : view_of s (tables head loans chunks index room) ≡ view_of s (tables head loans chunks index' room')
  view_follows = ap (λ (cs : List Chunk). view_from s.minimal (loans_in (tables head loans chunks index room)) cs) (chunks_alike (chunk_places_in (tables head loans chunks index room)))

  there : (r : Region) → Memᴰ r (view_of s (tables head loans chunks index room)).free → Memᴰ r (view_of s (tables head loans chunks index' room')).free
  there r = subst (λ (v : View). Memᴰ r v.free) view_follows

  back : (r : Region) → Memᴰ r (view_of s (tables head loans chunks index' room')).free → Memᴰ r (view_of s (tables head loans chunks index room)).free
  back r = subst (λ (v : View). Memᴰ r v.free) (sym view_follows)

  -- a stretch is the ready side of a pair of the one exactly when it is of the other
  pub ready_follows : (r : Region) → ReadySide s (tables head loans chunks index room) r ↔ ReadySide s (tables head loans chunks index' room') r
  ready_follows r =
      let a = free_seen s (tables head loans chunks index room) fit T r in
      let b = free_seen s (tables head loans chunks index' room') fit U r in
      ((λ x. b.0 (there r (a.1 x))), (λ x. a.0 (back r (b.1 x))))

  -- and likewise a free node
  pub free_follows : (r : Region) → FreeNode s (tables head loans chunks index room) r ↔ FreeNode s (tables head loans chunks index' room') r
  free_follows r =
      let a = free_words s (tables head loans chunks index room) fit T r in
      let b = free_words s (tables head loans chunks index' room') fit U r in
      ((λ x. b.0 (there r (a.1 x))), (λ x. a.0 (back r (b.1 x))))
