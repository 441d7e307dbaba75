-- Test 8 of an ask says by counts in use what 01 says of a full store.
use mathlib.Core.Path.{◌≡◌, refl, sym, ap, ◌∙◌, subst}
use mathlib.Core.Bool.{Bool, true, false, cond, ◌&&◌, ◌||◌, not}
use mathlib.Core.Logic.Iff
use mathlib.Core.Logic.{◌⊎◌, inl, inr, ⊎_elim, ◌↔◌}
use mathlib.Core.List.{List, [], ◌∷◌}
use Prim.Native.Nat.{ℕ, zero, suc, ◌+◌, ◌-◌, ◌≤◌, ◌<◌}
use native.Mathlib.Omega.{arith}
use lib.Dec.{eqb, leb, ltb}
use lib.ListN.{length, get_or}
use borrow.Author.Tests.{lt-ltb, le-ltb, leb-false, lt-leb, eq-eqb, ne_eqb}
use Rattle.lists.specs.Members.{Mem, Below, head_or}
use Rattle.lists.proofs.Bools.{told, true_false, lt_or_le, same?}
use Rattle.counter.specs.InTable.{BuddyIn}
use Rattle.counter.specs.Table.{alignment_ok}
use Rattle.counter.specs.declared.settings.BuddySettings.{BuddySettings}
use Rattle.slabs.specs.Slab.{nowhere, link_at, inserted, Parted}
use Rattle.slabs.specs.Test.{vacancies}
use Rattle.slabs.specs.declared.Slab.{Slab}
use Rattle.slabs.proofs.Decides.{chained_long}
use Rattle.slabs.proofs.Places.{insert_last}
use Rattle.store_rules.proofs.Tested.{off_and, off_where, off_room}
use Rattle.book_rules.specs.Book.{entry_words, vacant_after_at, taken_of}
use Rattle.buddy_rules.specs.Nodes.{Ent}
use Rattle.buddy_rules.specs.Level.{used_at, off_at, pair_words, field_at, ent_of, ring_head, slab_in, pair_taken, vacant_in, no_pair}
use Rattle.buddy_rules.specs.Sound.{Sound}
use Rattle.buddy_rules.specs.Tables.{Tables, Lengths, levels_in, places_in, chunk_places_in, level_from, pairs_in, live_in, held_in, place_at, after_at, place_words, vacant_chunk, chunk_slab, vacant_loan, loan_slab}
use Rattle.buddy_outcomes.specs.Ask as Ask
use Rattle.buddy_outcomes.specs.Ask.{Found, at, needs, level_for, found_from, split_from, size_ok, pair_room, pairs_room, chunk_taken, room_ok}
use Rattle.buddy_outcomes.specs.Gate.{held_count}
use Rattle.buddy_outcomes.specs.Refusals.{live_count, pair_count, Splits, buddy_words}
use Rattle.store_rules.specs.Rows.{Full}
use Rattle.buddy_outcomes.proofs.Searches.{search_none, search_at, room_each}
use Rattle.buddy_outcomes.proofs.Fitted.{needs_when}
use Rattle.buddy_outcomes.proofs.Counting.{loans_is, count_is}
use Rattle.buddy_rules.specs.Views.{loans_in, chunks_in}

-- ---- places

-- a place is in use or vacant, so that both together are all of them
used_and_vacant : (c : ℕ → ℕ) (f free : ℕ → Bool) → c 0 ≡ 0 → ((n : ℕ) → c (suc n) ≡ c n + cond (f n) 1 0)
    → (n : ℕ) → ((x : ℕ) → x < n → f x ≡ not (free x)) → c n + vacancies free n ≡ n
unfolding vacancies
used_and_vacant c f free z more zero same = omega (arith, z)
used_and_vacant c f free z more (suc n) same = go (told (free n)) (used_and_vacant c f free z more n (λ x h. same x (omega arith)))
  where
    go : (free n ≡ true) ⊎ (free n ≡ false) → c n + vacancies free n ≡ n → c (suc n) + cond (free n) (vacancies free n + 1) (vacancies free n) ≡ suc n
    go (inl e) ih =
        let g : f n ≡ false = same n (omega arith) ∙ ap not e in
        let a : c (suc n) ≡ c n + 0 = more n ∙ ap (λ (b : Bool). c n + cond b 1 0) g in
        rw e (omega (arith, a, ih))
    go (inr e) ih =
        let g : f n ≡ true = same n (omega arith) ∙ ap not e in
        let a : c (suc n) ≡ c n + 1 = more n ∙ ap (λ (b : Bool). c n + cond b 1 0) g in
        rw e (omega (arith, a, ih))

-- the place taken next is below the limit exactly when the number in use is
slab_room : (free : ℕ → Bool) (links : List ℕ) (link step : ℕ) (s : Slab) (most used : ℕ) → Parted free (link_at links link step) s most → most < nowhere
    → used + vacancies free s.places ≡ s.places → ((inserted s links link step).place < most) ↔ (used < most)
slab_room free links link step s most used P few all =
    by P.chained P.below (insert_last free links link step s most P few) (chained_long free (link_at links link step) s most P) P.limit
  where
    by : (l : List ℕ) → Below s.places l → (inserted s links link step).place ≡ head_or s.places l → length l ≡ vacancies free s.places → s.places ≤ most
        → ((inserted s links link step).place < most) ↔ (used < most)
    by [] b e v h = ((λ k. omega (arith, all)), (λ k. omega (arith, all)))
    by (x ∷ l) b e v h = ((λ k. omega (arith, all)), (λ k. omega (arith, b.0)))

-- a tag above 0 is one that is not 0
some_tag : (n : ℕ) → ltb 0 n ≡ not (eqb n 0)
some_tag n = ⊎_elim (λ h. lt-ltb 0 n h ∙ sym (ap not (ne_eqb n 0 (λ e. omega arith)))) (λ h. le-ltb 0 n h ∙ sym (ap not (eq-eqb n 0 (omega arith)))) (lt_or_le 0 n)

module _ (s : BuddySettings) (t : Tables) (fit : BuddyIn s) (sound : Sound s t) where
  live_used : (n : ℕ) → n < places_in t → live_in t n ≡ not (vacant_loan t n)
  live_used n h = rw (lt-ltb n (places_in t) h)

  held_used : (n : ℕ) → n < chunk_places_in t → held_in t n ≡ not (vacant_chunk t n)
  held_used n h = rw (lt-ltb n (chunk_places_in t) h)

  -- of loans, of chunks, and of the pairs of a level
  pub place_left : ((taken_of (places_in t) t.index).place < s.store.loans) ↔ (live_count t (places_in t) < s.store.loans)
  unfolding live_count
  place_left =
      slab_room (vacant_loan t) t.index vacant_after_at entry_words (loan_slab t) s.store.loans (live_count t (places_in t)) sound.loans_parted (omega (arith, fit.store.loans_most_lem))
      (used_and_vacant (live_count t) (live_in t) (vacant_loan t) refl (λ n. refl) (places_in t) live_used)

  pub chunk_left : ((chunk_taken s t).place < s.store.chunks) ↔ (held_count t (chunk_places_in t) < s.store.chunks)
  unfolding held_count
  chunk_left =
      slab_room (vacant_chunk t) t.room (place_at s after_at) place_words (chunk_slab s t) s.store.chunks (held_count t (chunk_places_in t)) sound.chunks_parted (omega (arith, fit.store.chunks_most_lem))
      (used_and_vacant (held_count t) (held_in t) (vacant_chunk t) refl (λ n. refl) (chunk_places_in t) held_used)

  module _ (l : ℕ) (below : l < levels_in t) where
    abbrev used : ℕ
    used = get_or t.room (level_from s l + used_at) 0

    abbrev free : ℕ → Bool
    free = vacant_in (level_from s l) t.room

    pair_used : (n : ℕ) → n < used → ltb 0 (pairs_in s t l n).tag ≡ not (free n)
    pair_used n h = rw (lt-ltb n used h) (some_tag (ent_of (level_from s l) t.room n).tag)

    -- a place that was never used has no pair
    past : (n : ℕ) → used ≤ n → pair_count s t l n ≡ pair_count s t l used
    unfolding pair_count
    past zero h = let e : zero ≡ used = omega arith in ap (pair_count s t l) e
    past (suc n) h = ⊎_elim (λ q. ap (pair_count s t l) (sym q)) (λ q. more (past n (omega arith)) (omega arith)) (same? used (suc n))
      where
        more : pair_count s t l n ≡ pair_count s t l used → used ≤ n → pair_count s t l n + cond (ltb 0 (pairs_in s t l n).tag) 1 0 ≡ pair_count s t l used
        more ih k =
            let e : pairs_in s t l n ≡ no_pair = rw (le-ltb n used k) in
            let a : ◌≡◌ {A = ℕ} (cond (ltb 0 (pairs_in s t l n).tag) 1 0) 0 = ap (λ (x : Ent). cond (ltb 0 x.tag) 1 0) e in
            omega (arith, a, ih)

    pub pair_left : ((pair_taken (level_from s l) t.room).place < s.pairs) ↔ (pair_count s t l s.pairs < s.pairs)
    unfolding pair_count
    pair_left =
        let P = (sound.good l below).parted in
        let c : pair_count s t l s.pairs ≡ pair_count s t l used = past s.pairs P.limit in
        slab_room free t.room (field_at (level_from s l) off_at) pair_words (slab_in (level_from s l) t.room) s.pairs (pair_count s t l s.pairs) P (omega (arith, fit.pairs_most_lem))
        (omega (arith, c, used_and_vacant (pair_count s t l) (λ (n : ℕ). ltb 0 (pairs_in s t l n).tag) free refl (λ n. refl) used pair_used))

-- ---- where a test fails

off_or : (a b : Bool) → (a || b) ≡ false → (a ≡ false) × (b ≡ false)
off_or true b e = absurd (true_false true refl e)
off_or false b e = (refl, e)

or_off : (a b : Bool) → a ≡ false → b ≡ false → (a || b) ≡ false
or_off a b p q = rw (p, q)

-- ---- levels

module _ (s : BuddySettings) (t : Tables) where
  -- some level there has no room
  rooms_off : (l n : ℕ) → pairs_room s t l n ≡ false → (j : ℕ) × (l ≤ j) × (j < l + n) × (pair_room s t j ≡ false)
  unfolding pairs_room
  rooms_off l zero e = absurd (true_false true refl e)
  rooms_off l (suc n) e = go (rooms_off (suc l) n) (told (pair_room s t l))
    where
      go : (pairs_room s t (suc l) n ≡ false → (j : ℕ) × (suc l ≤ j) × (j < suc l + n) × (pair_room s t j ≡ false))
          → (pair_room s t l ≡ true) ⊎ (pair_room s t l ≡ false) → (j : ℕ) × (l ≤ j) × (j < l + suc n) × (pair_room s t j ≡ false)
      go ih (inl z) = let r = ih (rw z at e) in (r.0, omega (arith, r.1), omega (arith, r.2), r.3)
      go ih (inr z) = (l, omega arith, omega arith, z)

  off_rooms : (l n j : ℕ) → l ≤ j → j < l + n → pair_room s t j ≡ false → pairs_room s t l n ≡ false
  off_rooms l n j h k e = ⊎_elim (λ z. absurd (true_false (pair_room s t j) (room_each s t l n z j h k) e)) (λ z. z) (told (pairs_room s t l n))

module _ (s : BuddySettings) (t : Tables) (fit : BuddyIn s) (sound : Sound s t) where
  -- a level has no room exactly when it is there and all its pairs are in use
  pair_off : (l : ℕ) → (pair_room s t l ≡ false) ↔ ((l < levels_in t) × (s.pairs ≤ pair_count s t l s.pairs))
  pair_off l = (there, λ w. or_off (leb (levels_in t) l) (ltb taken s.pairs) (lt-leb (levels_in t) l w.0) ((full w.0).1 w.1))
    where
      taken : ℕ
      taken = (pair_taken (level_from s l) t.room).place

      full : l < levels_in t → (ltb taken s.pairs ≡ false) ↔ (s.pairs ≤ pair_count s t l s.pairs)
      full h = off_room taken (pair_count s t l s.pairs) s.pairs (pair_left s t fit sound l h)

      there : pair_room s t l ≡ false → (l < levels_in t) × (s.pairs ≤ pair_count s t l s.pairs)
      there e =
          let r = off_or (leb (levels_in t) l) (ltb taken s.pairs) e in
          let h : l < levels_in t = leb-false (levels_in t) l r.0 in
          (h, (full h).0 r.1)

  -- a level has a ready side exactly when its ring has a head
  ready_none : (j : ℕ) → j < levels_in t → ring_head (level_from s j) t.room ≡ nowhere → (p : ℕ) → 1 < (pairs_in s t j p).tag → ⊥
  ready_none j h e p k = ⊎_elim inside outside (lt_or_le p used)
    where
      used : ℕ
      used = get_or t.room (level_from s j + used_at) 0

      outside : used ≤ p → ⊥
      outside i =
          let n : pairs_in s t j p ≡ no_pair = rw (le-ltb p used i) in
          let z : (pairs_in s t j p).tag ≡ 0 = ap (λ (x : Ent). x.tag) n in omega arith

      in_ring : (R : List ℕ) → ring_head (level_from s j) t.room ≡ head_or nowhere R → ((x : ℕ) → Mem x R → x < used) → Mem p R → ⊥
      in_ring [] f b m = m
      in_ring (x ∷ R) f b m = let a = b x (inl refl) in omega (arith, e, f, (sound.good j h).parted.limit, fit.pairs_most_lem)

      inside : p < used → ⊥
      inside i =
          let n : pairs_in s t j p ≡ ent_of (level_from s j) t.room p = rw (lt-ltb p used i) in
          let z : (pairs_in s t j p).tag ≡ (ent_of (level_from s j) t.room p).tag = ap (λ (x : Ent). x.tag) n in
          let G = sound.good j h in
          in_ring G.ring G.rings.first G.below (G.all p i (omega arith))

  ready_some : (j : ℕ) → j < levels_in t → (ring_head (level_from s j) t.room ≡ nowhere → ⊥) → (p : ℕ) × (1 < (pairs_in s t j p).tag)
  ready_some j h f = let G = sound.good j h in by G.ring G.rings.first G.below G.ready
    where
      used : ℕ
      used = get_or t.room (level_from s j + used_at) 0

      by : (R : List ℕ) → ring_head (level_from s j) t.room ≡ head_or nowhere R → ((x : ℕ) → Mem x R → x < used) → ((x : ℕ) → Mem x R → 1 < (ent_of (level_from s j) t.room x).tag)
          → (p : ℕ) × (1 < (pairs_in s t j p).tag)
      by [] e b r = absurd (f e)
      by (x ∷ R) e b r =
          let n : pairs_in s t j x ≡ ent_of (level_from s j) t.room x = rw (lt-ltb x used (b x (inl refl))) in
          let z : (pairs_in s t j x).tag ≡ (ent_of (level_from s j) t.room x).tag = ap (λ (y : Ent). y.tag) n in
          (x, omega (arith, r x (inl refl)))

  module _ (size mask : ℕ) where
    abbrev lev : ℕ
    lev = level_for s size mask

    -- a level needs a new pair exactly when it lies between the asked one and where the search ended
    splits_when : (f : Found) → found_from s (level_for s size mask) t ≡ f → (l : ℕ) → Splits s size mask t l ↔ ((lev ≤ l) × (l < levels_in t) × (l < split_from (level_for s size mask) t f))
    unfolding found_from
    splits_when Ask.nowhere e l = (
      (λ w. (w.from, w.there, omega (arith, w.there))),
      (λ w. record {
        from = w.0;
        there = w.1;
        none = λ j p h k. ready_none j (omega (arith, w.1)) (search_none s t.room lev (levels_in t - lev) e j h (omega (arith, w.1))) p;
      }),
    )
    splits_when (at i) e l =
        let r = search_at s t.room lev (levels_in t - lev) i e in
        let b : i < levels_in t = omega (arith, r.0, r.1) in
        let p = ready_some i b r.2 in (
          (λ w. (w.from, w.there, ⊎_elim (λ k. k) (λ k. absurd (w.none i p.0 r.0 k p.1)) (lt_or_le l i))),
          (λ w. record { from = w.0; there = w.1; none = λ j q h k. ready_none j (omega (arith, w.1)) (r.3 j h (omega (arith, w.2))) q }),
        )

    -- the test of the pairs fails exactly when a level that needs a new pair has none
    pairs_off : (f : Found) → found_from s (level_for s size mask) t ≡ f
        → (pairs_room s t lev (split_from (level_for s size mask) t f - lev) ≡ false) ↔ ((l : ℕ) × Splits s size mask t l × (s.pairs ≤ pair_count s t l s.pairs))
    pairs_off f e = (
      (λ z.
          let r = rooms_off s t lev (split_from (level_for s size mask) t f - lev) z in
          let o = (pair_off r.0).0 r.3 in
          (r.0, (splits_when f e r.0).1 (r.1, o.0, omega (arith, r.1, r.2)), o.1)),
      (λ w.
          let r = (splits_when f e w.0).0 w.1 in
          off_rooms s t lev (split_from (level_for s size mask) t f - lev) w.0 r.0 (omega (arith, r.0, r.2)) ((pair_off w.0).1 (r.1, w.2))),
    )

-- a chunk is needed where the search found no level
pub needs_none : (f : Found) → (needs f ≡ true) ↔ (f ≡ Ask.nowhere)
needs_none Ask.nowhere = ((λ e. refl), (λ e. refl))
needs_none (at i) = ((λ e. absurd (true_false false e refl)), (λ e. ap needs e))

-- 8 fails exactly when the store is full
pub full_when : (s : BuddySettings) (t : Tables) → BuddyIn s → Lengths s t → Sound s t → (size mask : ℕ) → alignment_ok mask ≡ true → size_ok s size mask ≡ true
    → (room_ok s (level_for s size mask) t (found_from s (level_for s size mask) t) ≡ false) ↔ Full buddy_words s size mask t
unfolding room_ok
full_when s t fit lengths sound size mask aligned sized =
    let f = found_from s (level_for s size mask) t in
    let place = ltb (taken_of (places_in t) t.index).place s.store.loans in
    let chunk = ltb (chunk_taken s t).place s.store.chunks in
    let pairs = pairs_room s t (level_for s size mask) (split_from (level_for s size mask) t f - level_for s size mask) in
    let loans : (s.store.loans ≤ live_count t (places_in t)) ↔ (s.store.loans ≤ length (loans_in t)) = (subst (λ (n : ℕ). s.store.loans ≤ n) (sym (loans_is t)), subst (λ (n : ℕ). s.store.loans ≤ n) (loans_is t)) in
    let chunks : (s.store.chunks ≤ held_count t (chunk_places_in t)) ↔ (s.store.chunks ≤ length (chunks_in t)) = (subst (λ (n : ℕ). s.store.chunks ≤ n) (sym (count_is t)), subst (λ (n : ℕ). s.store.chunks ≤ n) (count_is t)) in
    Iff.trans
    (off_and place ((not (needs f) || chunk) && pairs)
    (off_room (taken_of (places_in t) t.index).place (live_count t (places_in t)) s.store.loans (place_left s t fit sound))
    (off_and (not (needs f) || chunk) pairs
    (off_where (needs f) chunk (Iff.trans (needs_none f) (needs_when s t fit lengths sound size mask aligned sized))
    (off_room (chunk_taken s t).place (held_count t (chunk_places_in t)) s.store.chunks (chunk_left s t fit sound)))
    (pairs_off s t fit sound size mask f refl)))
    (⊎_elim (λ x. inl (loans.0 x)) (⊎_elim (λ x. inr (inl (x.0, chunks.0 x.1))) (λ x. inr (inr x))), ⊎_elim (λ x. inl (loans.1 x)) (⊎_elim (λ x. inr (inl (x.0, chunks.1 x.1))) (λ x. inr (inr x))))
