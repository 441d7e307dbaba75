-- A block put among free regions that rise, by index: what a loop that looked for its neighbours is to write.
use mathlib.Core.Path.{◌≡◌, refl, sym, ◌∙◌, ap}
use mathlib.Core.Bool.{true, false, ◌&&◌}
use mathlib.Core.Logic.{◌⊎◌, inl, inr}
use mathlib.Core.List.Memᴰ
use mathlib.Core.List.{List, [], ◌∷◌, ◌++◌, Memᴰ}
use Prim.Native.Nat.{ℕ, zero, suc, ◌+◌, ◌-◌, ◌≤◌, ◌<◌}
use native.Mathlib.Omega.{arith}
use lib.Dec.{eqb}
use lib.ListN.{length, take, drop, get_or, set}
use lib.Seq.{split_at, take-suc, drop-cons, append_snoc, set_split, take-suc-set, drop-set-lt}
use Rattle.words.specs.Rows.{remove_at, insert_at}
use Rattle.freelist_rules.specs.Pieces.{lo, hi, Rising, All}
use Rattle.freelist_rules.specs.Join.{meets, join, absorb, insert}
use Rattle.store_rules.specs.declared.Region.{Region}
use Rattle.freelist_rules.proofs.Joins.{Past, first_meets, meets_is, meets_never, insert_past, insert_first, insert_onto, insert_after, absorb_alone, absorb_next}

-- ---- at an index

pub rising_at : (q k : ℕ) (rs : List Region) (d : Region) → Rising lo hi 1 q rs → k < length rs → (q ≤ lo (get_or rs k d)) × (lo (get_or rs k d) < hi (get_or rs k d))
rising_at q k [] d r h = absurd (omega arith)
rising_at q zero (a ∷ rs) d r h = (r.0, r.1)
rising_at q (suc k) (a ∷ rs) d r h = let w = rising_at (1 + hi a) k rs d r.2 (omega arith) in (omega (arith, r.0, r.1, w.0), w.1)

-- those before the one at k end before it
rising_before : (q k : ℕ) (rs : List Region) (d : Region) → Rising lo hi 1 q rs → k < length rs → All (λ (a : Region). (lo a < hi a) × (1 + hi a ≤ lo (get_or rs k d))) (take k rs)
rising_before q k [] d r h a m = absurd (omega arith)
rising_before q zero (c ∷ rs) d r h a m = absurd (Memᴰ.not-nil m)
rising_before q (suc k) (c ∷ rs) d r h a m = go (rising_at (1 + hi c) k rs d r.2 (omega arith)) (rising_before (1 + hi c) k rs d r.2 (omega arith) a) (Memᴰ.cases_cons m)
  where
    go : (1 + hi c ≤ lo (get_or rs k d)) × (lo (get_or rs k d) < hi (get_or rs k d)) → (Memᴰ a (take k rs) → (lo a < hi a) × (1 + hi a ≤ lo (get_or rs k d))) → (a ≡ c) ⊎ Memᴰ a (take k rs) → (lo a < hi a) × (1 + hi a ≤ lo (get_or rs k d))
    go w ih (inl e) = rw e (r.1, w.0)
    go w ih (inr i) = ih i

past_at : (b : Region) (i : ℕ) (rs : List Region) (d : Region) → i ≤ length rs → (i < length rs → lo b < lo (get_or rs i d)) → Past b (drop i rs)
past_at b zero [] d h f = tt
past_at b (suc i) [] d h f = absurd (omega arith)
past_at b zero (r ∷ rs) d h f = f (omega arith)
past_at b (suc i) (r ∷ rs) d h f = past_at b i rs d (omega arith) (λ g. f (omega arith))

meets_at : (b : Region) (i : ℕ) (rs : List Region) (d : Region) → i ≤ length rs → (i < length rs → meets b (get_or rs i d) ≡ false) → first_meets b (drop i rs) ≡ false
meets_at b zero [] d h f = refl
meets_at b (suc i) [] d h f = absurd (omega arith)
meets_at b zero (r ∷ rs) d h f = f (omega arith)
meets_at b (suc i) (r ∷ rs) d h f = meets_at b i rs d (omega arith) (λ g. f (omega arith))

-- a region joined to b before it meets what b meets
join_meets : (p b n : Region) → meets p b ≡ true → meets (join p b) n ≡ meets b n
join_meets p b n e = ap (λ (c : ℕ). eqb c n.chunk && eqb b.end n.start) (meets_is p b e).0

-- ---- an insertion

-- those before i lie before b, and the last of them does not meet it
abbrev pub Apart : Region → List Region → Region → ℕ → Type 0
Apart b rs d i = 0 < i → (lo (get_or rs (i - 1) d) ≤ lo b) × (meets (get_or rs (i - 1) d) b ≡ false)

-- the one at i lies past b
abbrev pub Ahead : Region → List Region → Region → ℕ → Type 0
Ahead b rs d i = i < length rs → lo b < lo (get_or rs i d)

module _ (b : Region) (q : ℕ) (rs : List Region) (d : Region) (r : Rising lo hi 1 q rs) where
  -- it passes those before the one at k
  passes : (k : ℕ) → k < length rs → lo (get_or rs k d) ≤ lo b → insert b rs ≡ take k rs ++ insert b (get_or rs k d ∷ drop (suc k) rs)
  passes k h g =
      ap (insert b) (split_at rs k d h)
      ∙ insert_past b (take k rs) (get_or rs k d ∷ drop (suc k) rs)
      (λ a m. let w = rising_before q k rs d r h a m in (omega (arith, w.0, w.1), meets_never a b (omega (arith, w.0, w.1))))

  stands : (i : ℕ) → i ≤ length rs → Apart b rs d i → Ahead b rs d i → insert b rs ≡ take i rs ++ absorb b (drop i rs)
  stands zero h f g = insert_first b rs (past_at b 0 rs d h g)
  stands (suc k) h f g =
      let e : suc k - 1 ≡ k = omega arith in
      let w : (lo (get_or rs k d) ≤ lo b) × (meets (get_or rs k d) b ≡ false) = rw e at (f (omega arith)) in
      let t : take (suc k) rs ≡ take k rs ++ (get_or rs k d ∷ []) = take-suc rs k d (omega arith) in
      passes k (omega arith) w.0
      ∙ ap (λ (xs : List Region). take k rs ++ xs) (insert_after b (get_or rs k d) (drop (suc k) rs) w.0 w.1 ∙ ap (λ (xs : List Region). get_or rs k d ∷ xs) (insert_first b (drop (suc k) rs) (past_at b (suc k) rs d h g)))
      ∙ sym (ap (λ (xs : List Region). xs ++ absorb b (drop (suc k) rs)) t ∙ append_snoc (take k rs) (get_or rs k d) (absorb b (drop (suc k) rs)))

  -- it meets neither neighbour
  pub insert_alone : (i : ℕ) → i ≤ length rs → Apart b rs d i → Ahead b rs d i → (i < length rs → meets b (get_or rs i d) ≡ false) → insert b rs ≡ insert_at i b rs
  insert_alone i h f g e = stands i h f g ∙ ap (λ (xs : List Region). take i rs ++ xs) (absorb_alone b (drop i rs) (meets_at b i rs d h e))

  -- the one at i only
  pub insert_right : (i : ℕ) → i < length rs → Apart b rs d i → lo b < lo (get_or rs i d) → meets b (get_or rs i d) ≡ true → insert b rs ≡ set rs i (join b (get_or rs i d))
  insert_right i h f g e =
      stands i (omega arith) f (λ k. g)
      ∙ ap (λ (xs : List Region). take i rs ++ xs) (ap (absorb b) (drop-cons rs i d h) ∙ absorb_next b (get_or rs i d) (drop (suc i) rs) e)
      ∙ sym (set_split rs i (join b (get_or rs i d)) h)

  -- the one at k meets it
  module _ (k : ℕ) (h : k < length rs) (g : lo (get_or rs k d) ≤ lo b) (e : meets (get_or rs k d) b ≡ true) where
    onto : insert b rs ≡ take k rs ++ absorb (join (get_or rs k d) b) (drop (suc k) rs)
    onto = passes k h g ∙ ap (λ (xs : List Region). take k rs ++ xs) (insert_onto b (get_or rs k d) (drop (suc k) rs) g e)

    -- and the next does not
    pub insert_left : (suc k < length rs → meets b (get_or rs (suc k) d) ≡ false) → insert b rs ≡ set rs k (join (get_or rs k d) b)
    insert_left f =
        onto
        ∙ ap (λ (xs : List Region). take k rs ++ xs) (absorb_alone (join (get_or rs k d) b) (drop (suc k) rs) (meets_at (join (get_or rs k d) b) (suc k) rs d (omega arith) (λ i. join_meets (get_or rs k d) b (get_or rs (suc k) d) e ∙ f i)))
        ∙ sym (set_split rs k (join (get_or rs k d) b) h)

    -- and so does the next
    pub insert_both : suc k < length rs → meets b (get_or rs (suc k) d) ≡ true → insert b rs ≡ remove_at (suc k) (set rs k (join (join (get_or rs k d) b) (get_or rs (suc k) d)))
    insert_both i f =
        let n : Region = get_or rs (suc k) d in
        let j : Region = join (join (get_or rs k d) b) n in
        onto
        ∙ ap (λ (xs : List Region). take k rs ++ xs)
        (ap (absorb (join (get_or rs k d) b)) (drop-cons rs (suc k) d i) ∙ absorb_next (join (get_or rs k d) b) n (drop (suc (suc k)) rs) (join_meets (get_or rs k d) b n e ∙ f))
        ∙ sym
        (ap (λ (xs : List Region). xs ++ drop (suc (suc k)) (set rs k j)) (take-suc-set rs k j h)
        ∙ append_snoc (take k rs) j (drop (suc (suc k)) (set rs k j))
        ∙ ap (λ (xs : List Region). take k rs ++ (j ∷ xs)) (drop-set-lt (suc (suc k)) rs k j (omega arith)))
