-- What the search upward says of the levels, and what the test for room says of the places.
use mathlib.Core.Path.{◌≡◌, refl, sym, ap, ◌∙◌}
use mathlib.Core.Bool.{Bool, true, false, ◌&&◌, ◌||◌, not}
use mathlib.Core.Logic.{◌⊎◌, inl, inr, ⊎_elim}
use mathlib.Core.List.{List}
use Prim.Native.Nat.{ℕ, zero, suc, ◌+◌, ◌-◌, ◌≤◌, ◌<◌}
use native.Mathlib.Omega.{arith}
use lib.Dec.{eqb, leb, ltb}
use borrow.Author.Tests.{eqb-true, eqb-false, ltb-true, leb-true}
use Rattle.lists.proofs.Bools.{told, true_false, and_left, and_right, or_cases, same?}
use Rattle.counter.specs.declared.settings.BuddySettings.{BuddySettings}
use Rattle.slabs.specs.Slab.{nowhere}
use Rattle.book_rules.specs.Book.{taken_of}
use Rattle.buddy_rules.specs.Level.{ring_head, pair_taken}
use Rattle.buddy_rules.specs.Tables.{Tables, levels_in, places_in, level_from}
use Rattle.buddy_outcomes.specs.Ask.{Found, at, needs, search_from, level_for, split_from, pair_room, pairs_room, chunk_taken, room_ok}
use Rattle.buddy_outcomes.specs.Ask as Ask

abbrev level_in : Found → ℕ
level_in Ask.nowhere = 0
level_in (at i) = i

module _ (s : BuddySettings) (t : List ℕ) where
  abbrev head : ℕ → ℕ
  head j = ring_head (level_from s j) t

  -- none has a ready side
  pub search_none : (l n : ℕ) → search_from s t l n ≡ Ask.nowhere → (j : ℕ) → l ≤ j → j < l + n → ring_head (level_from s j) t ≡ nowhere
  unfolding search_from
  search_none l zero e j h k = absurd (omega arith)
  search_none l (suc n) e j h k = go (search_none (suc l) n) (told (eqb (head l) nowhere))
    where
      go : (search_from s t (suc l) n ≡ Ask.nowhere → (i : ℕ) → suc l ≤ i → i < suc l + n → head i ≡ nowhere)
          → (eqb (head l) nowhere ≡ true) ⊎ (eqb (head l) nowhere ≡ false) → head j ≡ nowhere
      go ih (inl z) = ⊎_elim (λ q. ap head q ∙ eqb-true (head l) nowhere z) (λ q. ih (rw z at e) j (omega arith) (omega arith)) (same? j l)
      go ih (inr z) = let f : at l ≡ Ask.nowhere = rw z at e in absurd (true_false true refl (sym (ap needs f)))

  -- i is the first that has one
  pub search_at : (l n i : ℕ) → search_from s t l n ≡ at i
      → (l ≤ i) × (i < l + n) × (ring_head (level_from s i) t ≡ nowhere → ⊥) × ((j : ℕ) → l ≤ j → j < i → ring_head (level_from s j) t ≡ nowhere)
  unfolding search_from
  search_at l zero i e = absurd (true_false true refl (ap needs e))
  search_at l (suc n) i e = go (search_at (suc l) n i) (told (eqb (head l) nowhere))
    where
      go : (search_from s t (suc l) n ≡ at i → (suc l ≤ i) × (i < suc l + n) × (head i ≡ nowhere → ⊥) × ((j : ℕ) → suc l ≤ j → j < i → head j ≡ nowhere))
          → (eqb (head l) nowhere ≡ true) ⊎ (eqb (head l) nowhere ≡ false)
          → (l ≤ i) × (i < l + suc n) × (head i ≡ nowhere → ⊥) × ((j : ℕ) → l ≤ j → j < i → head j ≡ nowhere)
      go ih (inl z) =
          let r = ih (rw z at e) in
          (omega (arith, r.0), omega (arith, r.1), r.2, λ j h k. ⊎_elim (λ q. ap head q ∙ eqb-true (head l) nowhere z) (λ q. r.3 j (omega arith) k) (same? j l))
      go ih (inr z) =
          let f : at l ≡ at i = rw z at e in
          let q : l ≡ i = ap level_in f in
          (omega arith, omega arith, (λ k. eqb-false (head l) nowhere z (ap head q ∙ k)), λ j h k. absurd (omega arith))

module _ (s : BuddySettings) (t : Tables) where
  pub room_each : (l n : ℕ) → pairs_room s t l n ≡ true → (j : ℕ) → l ≤ j → j < l + n → pair_room s t j ≡ true
  unfolding pairs_room
  room_each l zero e j h k = absurd (omega arith)
  room_each l (suc n) e j h k = ⊎_elim
      (λ q. ap (pair_room s t) q ∙ and_left (pair_room s t l) (pairs_room s t (suc l) n) e)
      (λ q. room_each (suc l) n (and_right (pair_room s t l) (pairs_room s t (suc l) n) e) j (omega arith) (omega arith))
      (same? j l)

  module _ (size mask : ℕ) (f : Found) (room : room_ok s (level_for s size mask) t f ≡ true) where
    abbrev place : Bool
    place = ltb (taken_of (places_in t) t.index).place s.store.loans

    abbrev chunk : Bool
    chunk = not (needs f) || ltb (chunk_taken s t).place s.store.chunks

    abbrev pairs : Bool
    pairs = pairs_room s t (level_for s size mask) (split_from (level_for s size mask) t f - level_for s size mask)

    pub room_place : (taken_of (places_in t) t.index).place < s.store.loans
    unfolding room_ok
    room_place = ltb-true (taken_of (places_in t) t.index).place s.store.loans (and_left place (chunk && pairs) room)

    pub room_chunk : needs f ≡ true → (chunk_taken s t).place < s.store.chunks
    unfolding room_ok
    room_chunk e =
        let r : chunk ≡ true = and_left chunk pairs (and_right place (chunk && pairs) room) in
        ltb-true (chunk_taken s t).place s.store.chunks (rw e at r)

    -- a level that is there has a vacant pair place
    pub room_pair : (j : ℕ) → level_for s size mask ≤ j → j < split_from (level_for s size mask) t f → j < levels_in t → (pair_taken (level_from s j) t.room).place < s.pairs
    unfolding room_ok
    room_pair j h k l =
        let r : pairs ≡ true = and_right chunk pairs (and_right place (chunk && pairs) room) in
        let e = room_each (level_for s size mask) (split_from (level_for s size mask) t f - level_for s size mask) r j h (omega arith) in
        ⊎_elim
        (λ z. absurd (omega (arith, leb-true (levels_in t) j z)))
        (λ z. ltb-true (pair_taken (level_from s j) t.room).place s.pairs z)
        (or_cases (leb (levels_in t) j) (ltb (pair_taken (level_from s j) t.room).place s.pairs) e)
