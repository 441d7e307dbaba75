-- An ask's tests in the code's order come to the plan that is defined.
use mathlib.Core.Path.{◌≡◌, refl, sym, ap, ◌∙◌, subst}
use mathlib.Core.Bool.{Bool, true, false, ◌&&◌}
use mathlib.Core.List.{List, [], ◌∷◌}
use Rattle.std.specs.Prelude.{Result, Ok, Err}
use Rattle.counter.specs.declared.refusal.Refusal.{Refusal}
use Prim.Native.Nat.{ℕ, ◌+◌, ◌-◌, ◌^◌, ◌≤◌, ◌<◌}
use native.Mathlib.Omega.{arith}
use lib.Dec.{ltb}
use lib.ListN.{get_or}
use borrow.Author.Tests.{lt-ltb, le-ltb}
use Rattle.lists.proofs.Bools.{and_both}
use Rattle.rounding_rules.specs.Raising.{level_of, raised}
use Rattle.std.specs.Prelude.{Option, Some, None}
use Rattle.rounding_rules.proofs.Masks.{power_top}
use Rattle.rounding_rules.proofs.Raising.{raised_is, raised_not}
use Rattle.counter.specs.Gate.{first}
use Rattle.counter.specs.InTable.{BuddyIn}
use Rattle.counter.specs.Limits.{levels_most, minimal_bits, spent}
use Rattle.counter.specs.Table.{alignment_ok}
use Rattle.counter.specs.declared.account.Heap.{Heap}
use Rattle.counter.specs.declared.settings.BuddySettings.{BuddySettings}
use Rattle.heap.specs.Heap.{bears_ok}
use Rattle.slabs.specs.declared.Taken.{Taken}
use Rattle.store_rules.specs.Orders.{Plan, deny, take, buy}
use Rattle.store_rules.specs.Loans.{given_at, places_at}
use Rattle.book_rules.specs.Book.{taken_of}
use Rattle.buddy_trees.specs.Trees.{bytes}
use Rattle.buddy_levels.specs.Seen.{part_settings, level_part}
use Rattle.buddy_levels.proofs.Bounds.{node_bytes_most}
use Rattle.buddy_rules.specs.Tables.{Tables, tables, levels_at}
use Rattle.buddy_outcomes.specs.Ask.{Found, at, nowhere, size_for, level_for, grown_to, search_from, found_from, fits_at, size_ok, pairs_room, chunk_taken, room_ok, count_ok, objects_ok, order_bytes, late_row, planned, decide_ask}
use Rattle.buddy_outcomes.proofs.Rounds.{level_low}
use Rattle.buddy_outcomes.proofs.Searches.{search_at}
use Rattle.buddy_decide.specs.Plans.{plan_of, PlannedAt, Planned, places_room, Tells, TryTake, TrySized, TryOf}
use Rattle.buddy_decide.specs.declared.plans.Tried.{Tried}
use Rattle.buddy_decide.specs.declared.plans.Tried.TheVariants as L
use Rattle.buddy_decide.specs.declared.plans.Needing.{Needing}
use Rattle.buddy_decide.specs.declared.plans.Plan as Decided
use Rattle.buddy_decide.proofs.Reading.{pairs_read}

-- what tells of one plan tells of its equal
tells_same : (s : BuddySettings) (z l : ℕ) (t : Tables) (p q : Heap → ℕ → Plan ℕ) (r : Result Tried Refusal) → ((h : Heap) (objects : ℕ) → p h objects ≡ q h objects) → Tells s z l t p r → Tells s z l t q r
tells_same s z l t p q (Err k) e f = (λ h objects. f.0 h objects ∙ e h objects, f.1)
tells_same s z l t p q (Ok (L.Take k)) e f = (λ h objects. f.0 h objects ∙ e h objects, f.1)
tells_same s z l t p q (Ok (L.Need n)) e f = (f.0, f.1, f.2, f.3, f.4, λ h objects. f.5 h objects ∙ e h objects)

-- the size is below that of level 32
module _ (s : BuddySettings) (size b : ℕ) (e : b ≡ bytes s.minimal levels_most) where
  pub fits_yes : size < b → fits_at levels_most s size ≡ true
  fits_yes l = lt-ltb size (bytes s.minimal levels_most) (omega (arith, e, l))

  fits_no : b ≤ size → fits_at levels_most s size ≡ false
  fits_no l = le-ltb size (bytes s.minimal levels_most) (omega (arith, e, l))

module _ (s : BuddySettings) (level : ℕ) (head loans chunks index tree : List ℕ) where
  abbrev now : Tables
  now = tables head loans chunks index tree

  -- a loan place is left
  abbrev pub left : Bool
  left = ltb (taken_of (get_or loans places_at 0) index).place s.store.loans

  module _ (k : Taken) (next : k ≡ taken_of (get_or loans places_at 0) index) where
    place_is : k.place ≡ (taken_of (get_or loans places_at 0) index).place
    place_is = ap (λ (x : Taken). x.place) next

    pub left_no : s.store.loans ≤ k.place → left ≡ false
    left_no h = le-ltb (taken_of (get_or loans places_at 0) index).place s.store.loans (omega (arith, place_is, h))

    pub left_yes : k.place < s.store.loans → left ≡ true
    left_yes h = lt-ltb (taken_of (get_or loans places_at 0) index).place s.store.loans (omega (arith, place_is, h))

  pub pairs_are : (n levels : ℕ) (r : Bool) → levels ≡ get_or head levels_at 0 → r ≡ pairs_room (part_settings 0 s.pairs 0) (level_part levels [] tree) level n → r ≡ pairs_room s now level n
  pairs_are n levels r d e = e ∙ ap (λ (x : ℕ). pairs_room (part_settings 0 s.pairs 0) (level_part x [] tree) level n) d ∙ pairs_read s now level n

  -- ---- the head pair of level i serves

  module _ (i : ℕ) where
    abbrev pub Taking : Plan ℕ
    Taking = planned s level now (at i) (first ((room_ok s level now (at i), 8) ∷ (ltb (get_or loans given_at 0) spent, 10) ∷ []))

    pub take_full : left ≡ false → deny 8 ≡ Taking
    unfolding room_ok
    take_full e = rw e refl

    pub take_none : left ≡ true → pairs_room s now level (i - level) ≡ false → deny 8 ≡ Taking
    unfolding room_ok
    take_none e p = rw (e, p) refl

    pub take_spent : (w : ℕ) → left ≡ true → pairs_room s now level (i - level) ≡ true → w ≡ get_or loans given_at 0 → w ≡ spent → deny 10 ≡ Taking
    unfolding room_ok
    take_spent w e p g h = rw (e, p, le-ltb (get_or loans given_at 0) spent (omega (arith, g, h))) refl

    pub take_go : (w : ℕ) → left ≡ true → pairs_room s now level (i - level) ≡ true → w ≡ get_or loans given_at 0 → w < spent → take i ≡ Taking
    unfolding room_ok
    take_go w e p g h = rw (e, p, lt-ltb (get_or loans given_at 0) spent (omega (arith, g, h))) refl

  -- ---- a chunk is needed

  -- the places that the code found, and its number of levels
  pub room_is : (top : ℕ) (loan chunk : Taken) (has : Bool)
      → top ≡ grown_to level (tables head [] [] [] []) → loan ≡ taken_of (get_or loans places_at 0) index → chunk ≡ chunk_taken s now
      → has ≡ places_room s level top loan.place chunk.place (tables head [] [] [] tree) → has ≡ room_ok s level now nowhere
  unfolding room_ok
  room_is top loan chunk has a c g e =
      let p : pairs_room s (tables head [] [] [] tree) level (top - level) ≡ pairs_room s now level (grown_to level now - level) = sym (pairs_read s (tables head [] [] [] tree) level (top - level)) ∙ pairs_read s now level (top - level) ∙ ap (λ (x : ℕ). pairs_room s now level (x - level)) a in
      e ∙ (λ j. ltb (c j).place s.store.loans && (ltb (g j).place s.store.chunks && p j))

  module _ (h : Heap) (objects : ℕ) where
    abbrev pub Buying : Plan ℕ
    Buying = planned s level now nowhere (first (late_row s h objects level now nowhere))

    -- what the code read says the same
    pub counts_are : (order w : ℕ) (bears v : Bool) → order ≡ order_bytes s level (tables head [] [] [] []) → w ≡ get_or loans given_at 0 → bears ≡ bears_ok h order
        → (ltb w spent && bears) ≡ v → count_ok s h level now nowhere ≡ v
    unfolding count_ok
    counts_are order w bears v o g e r =
        let f : bears ≡ bears_ok h (order_bytes s level now) = e ∙ ap (bears_ok h) o in
        (λ j. ltb (sym g j) spent && sym f j) ∙ r

    module _ (r : Bool) (d : r ≡ room_ok s level now nowhere) where
      pub buy_full : r ≡ false → deny 8 ≡ Buying
      buy_full e = rw (sym d ∙ e) refl

      pub buy_spent : r ≡ true → count_ok s h level now nowhere ≡ false → deny 10 ≡ Buying
      buy_spent e c = rw (sym d ∙ e, c) refl

      pub buy_none : r ≡ true → count_ok s h level now nowhere ≡ true → objects ≡ 0 → deny 9 ≡ Buying
      unfolding objects_ok
      buy_none e c z = rw (sym d ∙ e, c, le-ltb 0 objects (omega arith)) refl

      pub buy_go : (order : ℕ) → order ≡ order_bytes s level (tables head [] [] [] []) → r ≡ true → count_ok s h level now nowhere ≡ true → 0 < objects → buy order ≡ Buying
      unfolding objects_ok
      buy_go order o e c z = ap buy o ∙ rw (sym d ∙ e, c, lt-ltb 0 objects z) refl

    -- ---- the size is found

    module _ (size : ℕ) where
      abbrev pub Sizing : Found → Plan ℕ
      Sizing f = planned s level now f (first ((fits_at levels_most s size, 6) ∷ late_row s h objects level now f))

      pub sized_not : (f : Found) (b : ℕ) → b ≡ bytes s.minimal levels_most → b ≤ size → deny 6 ≡ Sizing f
      sized_not f b e l = rw (fits_no s size b e l) refl

      -- of a level that serves, two tests are left
      fewer : (i : ℕ) (r g : Bool) → planned s level now (at i) (first ((r, 8) ∷ (g, 10) ∷ [])) ≡ planned s level now (at i) (first ((r, 8) ∷ (g && true, 10) ∷ (true, 9) ∷ []))
      fewer i true true = refl
      fewer i true false = refl
      fewer i false g = refl

      sized_at : (i : ℕ) (f : Found) → fits_at levels_most s size ≡ true → f ≡ at i → Taking i ≡ Sizing f
      unfolding objects_ok count_ok
      sized_at i f e g = fewer i (room_ok s level now (at i)) (ltb (get_or loans given_at 0) spent) ∙ rw (e, g) refl

      sized_nowhere : (f : Found) → fits_at levels_most s size ≡ true → f ≡ nowhere → Buying ≡ Sizing f
      sized_nowhere f e g = rw (e, g) refl

  -- the code's level is that of the size, l
  module _ (size l : ℕ) (d : level ≡ l) (fits : fits_at levels_most s size ≡ true) where
    pub look_at : (i : ℕ) (r : Result Tried Refusal) → found_from s level now ≡ at i → TryTake s size level i now r → TrySized s size l now r
    look_at i r g f =
        subst (λ (x : ℕ). TrySized s size x now r) d
        (tells_same s size level now (λ h objects. Taking i) (λ h objects. Sizing h objects size (found_from s level now)) r (λ h objects. sized_at h objects size i (found_from s level now) fits g) f)

    pub look_nowhere : found_from s level now ≡ nowhere → (h : Heap) (objects : ℕ)
        → Buying h objects ≡ planned s l now (found_from s l now) (first ((fits_at levels_most s size, 6) ∷ late_row s h objects l now (found_from s l now)))
    look_nowhere g h objects =
        sized_nowhere h objects size (found_from s level now) fits g
        ∙ ap (λ (x : ℕ). planned s x now (found_from s x now) (first ((fits_at levels_most s size, 6) ∷ late_row s h objects x now (found_from s x now)))) d

-- ---- where the search ended

-- the level found is there
pub found_low : (s : BuddySettings) (tree : List ℕ) (level levels i : ℕ) → levels ≤ levels_most → level < levels_most → search_from s tree level (levels - level) ≡ at i → (level ≤ i) × (i ≤ levels_most)
found_low s tree level levels i a b e = let r = search_at s tree level (levels - level) i e in (r.0, omega (arith, r.0, r.1))

-- ---- the whole of it

-- of the size looked for, z bytes where a word holds it
module _ (s : BuddySettings) (size mask : ℕ) where
  zero_size : size ≡ 0 → size_ok s size mask ≡ false
  unfolding size_ok
  zero_size z = rw (le-ltb 0 size (omega arith)) refl

  -- what no word holds is longer than any level's
  over_size : BuddyIn s → 0 < size → 2 ^ 64 ≤ size_for s size mask → size_ok s size mask ≡ false
  unfolding size_ok
  over_size fit some past =
      let b : bytes s.minimal levels_most ≤ 2 ^ (minimal_bits + levels_most) = node_bytes_most s.minimal levels_most (power_top fit.minimal) (omega arith) in
      rw (lt-ltb 0 size some, le-ltb (size_for s size mask) (bytes s.minimal levels_most) (omega arith)) refl

  pub size_is : (r : Option ℕ) → r ≡ raised (size_for s size mask) → (z : ℕ) → r ≡ Some z → z ≡ size_for s size mask
  size_is r d z f = sym (raised_is (sym d ∙ f)).0

  module _ (z : ℕ) (d : z ≡ size_for s size mask) where
    pub level_below : BuddyIn s → 0 < size → fits_at levels_most s z ≡ true → level_of z s.minimal < levels_most
    unfolding size_ok level_for
    level_below fit some f =
        let g : fits_at levels_most s (size_for s size mask) ≡ true = ap (fits_at levels_most s) (sym d) ∙ f in
        let k = level_low s fit size mask (and_both (ltb 0 size) (fits_at levels_most s (size_for s size mask)) (lt-ltb 0 size some) g) in
        subst (λ (x : ℕ). level_of x s.minimal < levels_most) (sym d) k

module _ (s : BuddySettings) (h : Heap) (objects size mask : ℕ) (t : Tables) where
  pub decide_mask : alignment_ok mask ≡ false → deny 5 ≡ decide_ask s h objects size mask t
  unfolding decide_ask
  decide_mask e = rw e refl

  unsized : alignment_ok mask ≡ true → size_ok s size mask ≡ false → deny 6 ≡ decide_ask s h objects size mask t
  unfolding decide_ask
  unsized e f = rw (e, f) refl

  pub decide_zero : alignment_ok mask ≡ true → size ≡ 0 → deny 6 ≡ decide_ask s h objects size mask t
  decide_zero e z = unsized e (zero_size s size mask z)

  pub decide_over : (r : Option ℕ) → r ≡ raised (size_for s size mask) → BuddyIn s → alignment_ok mask ≡ true → 0 < size → r ≡ None → deny 6 ≡ decide_ask s h objects size mask t
  decide_over r d fit e some f = unsized e (over_size s size mask fit some (raised_not (sym d ∙ f)))

  abbrev Then : ℕ → Plan ℕ
  Then z = Sizing s (level_of z s.minimal) t.head t.loans t.chunks t.index t.room h objects z (found_from s (level_of z s.minimal) t)

  sized : alignment_ok mask ≡ true → 0 < size → Then (size_for s size mask) ≡ decide_ask s h objects size mask t
  unfolding decide_ask size_ok room_ok count_ok level_for found_from
  sized e some = rw (e, lt-ltb 0 size some) refl

-- z is the size looked for
pub look_sized : (s : BuddySettings) (size mask : ℕ) (t : Tables) (z : ℕ) (r : Result Tried Refusal) → z ≡ size_for s size mask → alignment_ok mask ≡ true → 0 < size
    → TrySized s z (level_of z s.minimal) t r → TryOf s size mask t r
unfolding level_for
look_sized s size mask t z r d e some f =
    tells_same s (size_for s size mask) (level_for s size mask) t (λ h objects. Then s h objects size mask t (size_for s size mask)) (λ h objects. decide_ask s h objects size mask t) r
    (λ h objects. sized s h objects size mask t e some)
    (subst (λ (x : ℕ). TrySized s x (level_of x s.minimal) t r) d f)

-- where a chunk is needed, what its tests come to is the plan
pub look_buys : (s : BuddySettings) (size mask : ℕ) (t : Tables) (n : Needing) (h : Heap) (objects : ℕ) (p : Result Decided.Plan Refusal) → TryOf s size mask t (Ok (L.Need n))
    → plan_of p ≡ planned s n.level t nowhere (first (late_row s h objects n.level t nowhere)) → PlannedAt s n.size n.level t p
    → (plan_of p ≡ decide_ask s h objects size mask t) × Planned s size mask t p
look_buys s size mask t n h objects p f e g =
    (e ∙ f.5 h objects, subst (λ (x : ℕ). PlannedAt s x (level_for s size mask) t p) f.0 (subst (λ (x : ℕ). PlannedAt s n.size x t p) f.1 g))
