-- The pairs in use and the live loans as a list of numbers: each stands once, there are as many as the tables count, and so are their
-- leaves.
use mathlib.Core.Path.{◌≡◌, refl, ap, ap₂, ◌∙◌}
use mathlib.Core.Bool.{Bool, true, false, cond, not}
use mathlib.Core.Logic.{◌⊎◌, inl, inr, ⊎_elim}
use mathlib.Core.List.{List, [], ◌∷◌, ◌++◌}
use Prim.Native.Nat.{ℕ, zero, suc, ◌+◌, ◌*◌, ◌-◌, ◌/◌, ◌%◌, ◌≤◌, ◌<◌}
use native.Mathlib.Omega.{arith}
use lib.Dec.{eqb, ltb}
use lib.ListN.{length, get_or, length-append}
use borrow.Author.Tests.{eqb-true, eqb-false, ne_eqb, ltb-true, lt-ltb, le-ltb}
use Rattle.lists.specs.Members.{Mem, Distinct, picked}
use Rattle.lists.proofs.Bools.{told, same?, true_false, not_yes, not_no, and_left, and_right, and_both}
use Rattle.lists.proofs.Members.{not_mem, mem_not, mem_left, mem_right, mem_cases, distinct_append}
use Rattle.lists.proofs.Picked.{picked_all, picked_only, picked_once}
use Rattle.counter.specs.declared.settings.BuddySettings.{BuddySettings}
use Rattle.slabs.specs.Test.{vacancies}
use Rattle.buddy_rules.specs.Nodes.{Ent, exhausted}
use Rattle.buddy_rules.specs.Level.{used_at, tag_at, pair_cell, vacant_in}
use Rattle.buddy_rules.specs.LevelTest.{ready_in}
use Rattle.buddy_rules.specs.Tables.{Tables, levels_in, places_in, level_from, pairs_in, live_in, vacant_loan}
use Rattle.buddy_rules.specs.Test.{live_count}
use Rattle.buddy_rules.proofs.Items.{item, item_kind, item_place}
use Rattle.buddy_rules.proofs.LevelDecides.{readies, taken}
use Rattle.buddy_rules.proofs.Leaves.{one, leafs, loan_leafs, pair_leafs}
use Rattle.buddy_rules.proofs.Totals.{total, weight, weight_append}

-- ---- places of one kind

-- those at which a test fails and those at which it holds are all
parted_long : (f : ℕ → Bool) (k : ℕ) → length (picked (λ p. not (f p)) k) + vacancies f k ≡ k
unfolding picked vacancies
parted_long f zero = refl
parted_long f (suc k) = by (f k) (parted_long f k)
  where
    by : (b : Bool) → length (picked (λ p. not (f p)) k) + vacancies f k ≡ k
        → length (cond (not b) (k ∷ picked (λ p. not (f p)) k) (picked (λ p. not (f p)) k)) + cond b (vacancies f k + 1) (vacancies f k) ≡ suc k
    by true e = omega arith
    by false e = omega arith

others_long : (f : ℕ → Bool) (k : ℕ) → length (picked (λ p. not (f p)) k) ≡ k - vacancies f k
others_long f k = let e = parted_long f k in omega arith

-- the items of kind i at the places of a list
abbrev items_at : ℕ → List ℕ → List ℕ
items_at i [] = []
items_at i (p ∷ l) = item i p ∷ items_at i l

at_all : (i p : ℕ) (l : List ℕ) → Mem p l → Mem (item i p) (items_at i l)
at_all i p [] m = absurd m
at_all i p (q ∷ l) (inl e) = inl (ap (item i) e)
at_all i p (q ∷ l) (inr m) = inr (at_all i p l m)

at_only : (i x : ℕ) (l : List ℕ) → i < 64 → Mem x (items_at i l) → (x % 64 ≡ i) × Mem (x / 64) l
at_only i x [] h m = absurd m
at_only i x (q ∷ l) h (inl e) = (ap (λ (y : ℕ). y % 64) e ∙ item_kind i q h, inl (ap (λ (y : ℕ). y / 64) e ∙ item_place i q h))
at_only i x (q ∷ l) h (inr m) = let r = at_only i x l h m in (r.0, inr r.1)

at_once_lem : (i : ℕ) (l : List ℕ) → i < 64 → Distinct l → Distinct (items_at i l)
at_once_lem i [] h d = tt
at_once_lem i (q ∷ l) h d =
    (mem_not (item i q) (items_at i l) (λ m. not_mem q l d.0 (rw (item_place i q h) at (at_only i (item i q) l h m).1)), at_once_lem i l h d.1)

at_long : (i : ℕ) (l : List ℕ) → length (items_at i l) ≡ length l
at_long i [] = refl
at_long i (q ∷ l) = ap suc (at_long i l)

-- those at which g holds weigh as many as those at which r does, where each weighs 1 or nothing
at_weigh : (f : ℕ → ℕ) (g r : ℕ → Bool) (i k : ℕ) → ((p : ℕ) → p < k → g p ≡ true → f (item i p) ≡ one (r p)) → ((p : ℕ) → p < k → g p ≡ false → r p ≡ false)
    → weight f (items_at i (picked g k)) ≡ vacancies r k
unfolding picked vacancies
at_weigh f g r i zero h o = refl
at_weigh f g r i (suc k) h o = go (g k) (r k) refl refl (at_weigh f g r i k (λ p z. h p (omega arith)) (λ p z. o p (omega arith)))
  where
    go : (b c : Bool) → g k ≡ b → r k ≡ c → weight f (items_at i (picked g k)) ≡ vacancies r k
        → weight f (items_at i (cond b (k ∷ picked g k) (picked g k))) ≡ cond c (vacancies r k + 1) (vacancies r k)
    go true true d e w = let z : f (item i k) ≡ 1 = h k (omega arith) d ∙ ap one e in omega arith
    go true false d e w = let z : f (item i k) ≡ 0 = h k (omega arith) d ∙ ap one e in omega arith
    go false true d e w = absurd (true_false (r k) e (o k (omega arith) d))
    go false false d e w = w

loans_weigh : (E : ℕ → ℕ → Ent) (l : List ℕ) → weight (leafs E) (items_at 0 l) ≡ 2 * length l
loans_weigh E [] = refl
loans_weigh E (k ∷ l) = omega (arith, loan_leafs E k, loans_weigh E l)

-- an item is of its kind and place
pub item_is : (x i : ℕ) → x % 64 ≡ i → x ≡ item i (x / 64)
item_is x i e = omega arith

module _ (s : BuddySettings) (t : Tables) where
  -- ---- pairs

  abbrev used : ℕ → ℕ
  used l = get_or t.room (level_from s l + used_at) 0

  -- how many pairs of the first n levels are in use, and how many are ready, as the records of the pairs tell it
  abbrev pub taken_at : ℕ → ℕ
  taken_at l = taken (level_from s l) t.room (used l)

  abbrev pub ready_at : ℕ → ℕ
  ready_at l = readies (level_from s l) t.room (used l)

  abbrev pub pairs_used : ℕ → ℕ
  pairs_used n = total taken_at n

  abbrev pub readies_in : ℕ → ℕ
  readies_in n = total ready_at n

  abbrev in_use : ℕ → ℕ → Bool
  in_use l p = not (vacant_in (level_from s l) t.room p)

  tag_yes : (l p : ℕ) → 0 < (pairs_in s t l p).tag → (p < used l) × (in_use l p ≡ true)
  tag_yes l p h = go (told (ltb p (used l)))
    where
      some : (x : ℕ) → 0 < x → not (eqb x 0) ≡ true
      some x h = rw (ne_eqb x 0 (λ e. omega arith))

      go : (ltb p (used l) ≡ true) ⊎ (ltb p (used l) ≡ false) → (p < used l) × (in_use l p ≡ true)
      go (inl e) = (ltb-true p (used l) e, some _ (rw e at h))
      go (inr e) = let z : 0 < 0 = rw e at h in absurd (omega arith)

  tag_all : (l p : ℕ) → p < used l → in_use l p ≡ true → 0 < (pairs_in s t l p).tag
  tag_all l p h e = rw (lt-ltb p (used l) h) (some _ (not_yes _ e))
    where
      some : (x : ℕ) → eqb x 0 ≡ false → 0 < x
      some x e = let z = eqb-false x 0 e in omega arith

  -- the pairs in use of the first n levels
  unfoldable pub used_pairs : ℕ → List ℕ
  used_pairs zero = []
  used_pairs (suc l) = used_pairs l ++ items_at (suc l) (picked (in_use l) (used l))

  pairs_all : (n l p : ℕ) → l < n → 0 < (pairs_in s t l p).tag → Mem (item (suc l) p) (used_pairs n)
  unfolding used_pairs
  pairs_all zero l p h e = absurd (omega arith)
  pairs_all (suc n) l p h e =
      ⊎_elim
      (λ z. mem_right (item (suc l) p) (used_pairs n) (items_at (suc n) (picked (in_use n) (used n)))
      (rw z (let y = tag_yes n p (rw z at e) in at_all (suc n) p (picked (in_use n) (used n)) (picked_all (in_use n) (used n) p y.0 y.1))))
      (λ z. mem_left (item (suc l) p) (used_pairs n) (items_at (suc n) (picked (in_use n) (used n))) (pairs_all n l p (omega arith) e))
      (same? l n)

  -- what an item of theirs is
  pub record PairItem (n x : ℕ) : Type 0 where
    pub l : ℕ
    pub low : l < n
    pub kind : x % 64 ≡ suc l
    pub used : 0 < (pairs_in s t l (x / 64)).tag

  pairs_only : (n x : ℕ) → n < 64 → Mem x (used_pairs n) → PairItem n x
  unfolding used_pairs
  pairs_only zero x h m = absurd m
  pairs_only (suc n) x h m =
      ⊎_elim
      (λ z. let r = pairs_only n x (omega arith) z in record { l = r.l; low = omega (arith, r.low); kind = r.kind; used = r.used })
      (λ z.
      let r = at_only (suc n) x (picked (in_use n) (used n)) h z in
      let y = picked_only (in_use n) (used n) (x / 64) r.1 in
      record { l = n; low = omega arith; kind = r.0; used = tag_all n (x / 64) y.0 y.1 })
      (mem_cases x (used_pairs n) (items_at (suc n) (picked (in_use n) (used n))) m)

  pairs_once : (n : ℕ) → n < 64 → Distinct (used_pairs n)
  unfolding used_pairs
  pairs_once zero h = tt
  pairs_once (suc n) h =
      distinct_append (used_pairs n) (items_at (suc n) (picked (in_use n) (used n))) (pairs_once n (omega arith))
      (at_once_lem (suc n) (picked (in_use n) (used n)) h (picked_once (in_use n) (used n)))
      (λ x i j. let r = pairs_only n x (omega arith) i in omega (arith, r.low, r.kind, (at_only (suc n) x (picked (in_use n) (used n)) h j).0))

  pairs_long : (n : ℕ) → length (used_pairs n) ≡ pairs_used n
  unfolding used_pairs total
  pairs_long zero = refl
  pairs_long (suc l) =
      length-append (used_pairs l) (items_at (suc l) (picked (in_use l) (used l)))
      ∙ ap₂ ◌+◌ (pairs_long l) (at_long (suc l) (picked (in_use l) (used l)) ∙ others_long (vacant_in (level_from s l) t.room) (used l))

  -- the leaves of those that are ready
  pairs_weigh : (n : ℕ) → n < 64 → weight (leafs (pairs_in s t)) (used_pairs n) ≡ readies_in n
  unfolding used_pairs total
  pairs_weigh zero h = refl
  pairs_weigh (suc l) h =
      weight_append (leafs (pairs_in s t)) (used_pairs l) (items_at (suc l) (picked (in_use l) (used l)))
      ∙ ap₂ ◌+◌ (pairs_weigh l (omega arith))
      (at_weigh (leafs (pairs_in s t)) (in_use l) (ready_in (level_from s l) t.room) (suc l) (used l)
      (λ p g e. pair_leafs (pairs_in s t) l p (omega arith) ∙ (rw (lt-ltb p (used l) g) refl))
      (λ p g e. none (get_or t.room (pair_cell (level_from s l) tag_at p) 0) (not_no _ e)))
    where
      none : (x : ℕ) → eqb x 0 ≡ true → ltb exhausted x ≡ false
      none x e = let z : x ≡ 0 = eqb-true x 0 e in le-ltb exhausted x (omega arith)

  -- ---- loans

  abbrev lent : ℕ → Bool
  lent k = not (vacant_loan t k)

  abbrev live_loans : List ℕ
  live_loans = items_at 0 (picked lent (places_in t))

  pub live_most : live_count t ≤ places_in t
  unfolding live_count
  live_most = omega arith

  -- ---- both

  unfoldable pub in_use_items : List ℕ
  in_use_items = used_pairs (levels_in t) ++ live_loans

  pub pair_listed : (l p : ℕ) → l < levels_in t → 0 < (pairs_in s t l p).tag → Mem (item (suc l) p) in_use_items
  unfolding in_use_items
  pair_listed l p h e = mem_left (item (suc l) p) (used_pairs (levels_in t)) live_loans (pairs_all (levels_in t) l p h e)

  pub loan_listed : (k : ℕ) → live_in t k ≡ true → Mem (item 0 k) in_use_items
  unfolding in_use_items
  loan_listed k e =
      mem_right (item 0 k) (used_pairs (levels_in t)) live_loans
      (at_all 0 k (picked lent (places_in t))
      (picked_all lent (places_in t) k (ltb-true k (places_in t) (and_left (ltb k (places_in t)) _ e)) (and_right (ltb k (places_in t)) _ e)))

  -- nothing else is listed
  pub listed_only : (x : ℕ) → levels_in t < 64 → Mem x in_use_items → PairItem (levels_in t) x ⊎ ((x % 64 ≡ 0) × (live_in t (x / 64) ≡ true))
  unfolding in_use_items
  listed_only x h m =
      ⊎_elim
      (λ z. inl (pairs_only (levels_in t) x h z))
      (λ z.
      let r = at_only 0 x (picked lent (places_in t)) (omega arith) z in
      let y = picked_only lent (places_in t) (x / 64) r.1 in
      inr (r.0, and_both _ _ (lt-ltb (x / 64) (places_in t) y.0) y.1))
      (mem_cases x (used_pairs (levels_in t)) live_loans m)

  pub listed_once : levels_in t < 64 → Distinct in_use_items
  unfolding in_use_items
  listed_once h =
      distinct_append (used_pairs (levels_in t)) live_loans (pairs_once (levels_in t) h) (at_once_lem 0 (picked lent (places_in t)) (omega arith) (picked_once lent (places_in t)))
      (λ x i j. omega (arith, (pairs_only (levels_in t) x h i).kind, (at_only 0 x (picked lent (places_in t)) (omega arith) j).0))

  pub listed_long : length in_use_items ≡ pairs_used (levels_in t) + live_count t
  unfolding in_use_items live_count
  listed_long =
      length-append (used_pairs (levels_in t)) live_loans
      ∙ ap₂ ◌+◌ (pairs_long (levels_in t)) (at_long 0 (picked lent (places_in t)) ∙ others_long (vacant_loan t) (places_in t))

  pub listed_weigh : levels_in t < 64 → weight (leafs (pairs_in s t)) in_use_items ≡ readies_in (levels_in t) + 2 * live_count t
  unfolding in_use_items live_count
  listed_weigh h =
      weight_append (leafs (pairs_in s t)) (used_pairs (levels_in t)) live_loans
      ∙ ap₂ ◌+◌ (pairs_weigh (levels_in t) h)
      (loans_weigh (pairs_in s t) (picked lent (places_in t)) ∙ ap (λ (i : ℕ). 2 * i) (others_long (vacant_loan t) (places_in t)))
