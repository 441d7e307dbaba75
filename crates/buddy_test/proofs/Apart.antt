-- The memory numbers gathered: they are distinct exactly where no two held chunks have one.
use mathlib.Core.Path.{◌≡◌, refl, sym, ap, ◌∙◌}
use mathlib.Core.Bool.{Bool, true, false, cond}
use mathlib.Core.Logic.{inl, ⊎_elim}
use mathlib.Core.List.{List, [], ◌∷◌, ◌++◌, append-nil}
use Prim.Native.Nat.{ℕ, zero, suc, ◌+◌, ◌*◌, ◌≤◌, ◌<◌}
use native.Mathlib.Omega.{arith}
use native.Mathlib.Numerals.{add-one}
use lib.Dec.{ltb}
use lib.ListN.{length, get_or, take, drop, set}
use lib.Seq.{take-suc-set, drop-cons}
use borrow.Author.Tests.{lt-ltb, ltb-true, eq-eqb, ne_eqb}
use Rattle.lists.specs.Members.{Mem, Distinct}
use Rattle.lists.proofs.Members.{mem_left, mem_right, mem_cases, distinct_append, distinct_out}
use Rattle.lists.proofs.Bools.{told, same?, same_test, lt_or_le, and_left}
use Rattle.distinct.specs.Column.{column, column_from}
use Rattle.distinct.proofs.Counts.{count_append, distinct_once, once_distinct}
use Rattle.buddy_levels.specs.Seen.{part_settings, level_part}
use Rattle.buddy_rules.specs.Tables.{Tables, chunk_places_at, held_in, memory_in, chunk_size_in, memories}
use Rattle.buddy_rules.specs.Test.{memories_ok}
use Rattle.buddy_rules.proofs.Decides.{Differ, memories_yes, memories_all}

-- ---- one place more

module _ (t : Tables) (m : ℕ) where
  memories_held : held_in t m ≡ true → memories t (suc m) ≡ memories t m ++ (memory_in t m ∷ [])
  unfolding memories
  memories_held h = ap (λ (b : Bool). memories t m ++ cond b (memory_in t m ∷ []) []) h

  memories_none : held_in t m ≡ false → memories t (suc m) ≡ memories t m
  unfolding memories
  memories_none h = ap (λ (b : Bool). memories t m ++ cond b (memory_in t m ∷ []) []) h ∙ append-nil (memories t m)

-- a loop that gathers them: k of the first c places have been put
module _ (c k : ℕ) (chunks found : List ℕ) (size : ℕ) (low : c < get_or chunks chunk_places_at 0) (is : size ≡ chunk_size_in (level_part 0 chunks []) c) (so : take k found ≡ memories (level_part 0 chunks []) c) where
  abbrev t : Tables
  t = level_part 0 chunks []

  pub gather_put : (v : ℕ) → (size ≡ 0 → ⊥) → v ≡ memory_in t c → k < length found → take (k + 1) (set found k v) ≡ memories t (c + 1)
  gather_put v z e h =
      let held : held_in t c ≡ true = rw (lt-ltb c (get_or chunks chunk_places_at 0) low, sym is, ne_eqb size 0 z) refl in
      rw (add-one k, add-one c) (take-suc-set found k v h ∙ (λ j. so j ++ (e j ∷ [])) ∙ sym (memories_held t c held))

  pub gather_pass : size ≡ 0 → take k found ≡ memories t (c + 1)
  gather_pass z =
      let none : held_in t c ≡ false = rw (lt-ltb c (get_or chunks chunk_places_at 0) low, sym is, eq-eqb size 0 z) refl in
      rw (add-one c) (so ∙ sym (memories_none t c none))

pub gather_none : (chunks found : List ℕ) → take 0 found ≡ memories (level_part 0 chunks []) 0
unfolding memories
gather_none chunks found = refl

-- ---- distinct numbers, places that differ

-- the front of a list without a number twice has none twice
distinct_left : (a b : List ℕ) → Distinct (a ++ b) → Distinct a
distinct_left a b d = once_distinct a (λ x. omega (arith, count_append x a b, distinct_once (a ++ b) d x))

module _ (t : Tables) where
  -- what the next place adds
  more : (m x : ℕ) → Mem x (memories t m) → Mem x (memories t (suc m))
  more m x i =
      ⊎_elim (λ q. rw (memories_held t m q) (mem_left x (memories t m) (memory_in t m ∷ []) i)) (λ q. rw (memories_none t m q) i) (told (held_in t m))

  newest : (m c : ℕ) → c ≡ m → held_in t c ≡ true → Mem (memory_in t c) (memories t (suc m))
  newest m c z e =
      let k : held_in t m ≡ true = ap (held_in t) (sym z) ∙ e in
      rw (memories_held t m k) (mem_right (memory_in t c) (memories t m) (memory_in t m ∷ []) (inl (ap (memory_in t) z)))

  there : (m c : ℕ) → c < m → held_in t c ≡ true → Mem (memory_in t c) (memories t m)
  there zero c h e = absurd (omega arith)
  there (suc m) c h e = ⊎_elim (λ z. newest m c z e) (λ z. more m (memory_in t c) (there m c (omega (arith, z)) e)) (same? c m)

  front : (m : ℕ) → Distinct (memories t (suc m)) → Distinct (memories t m)
  front m d =
      ⊎_elim
      (λ q. distinct_left (memories t m) (memory_in t m ∷ []) (rw (memories_held t m q) at d))
      (λ q. rw (memories_none t m q) at d)
      (told (held_in t m))

  twice : (m c d : ℕ) → c ≡ m → Distinct (memories t (suc m)) → d < c → held_in t c ≡ true → held_in t d ≡ true → memory_in t c ≡ memory_in t d → ⊥
  twice m c d z u h p q e =
      let k : held_in t m ≡ true = ap (held_in t) (sym z) ∙ p in
      let v : Distinct (memories t m ++ (memory_in t m ∷ [])) = rw (memories_held t m k) at u in
      let s : memory_in t d ≡ memory_in t m = sym e ∙ ap (memory_in t) z in
      let i : Mem (memory_in t m) (memories t m) = rw s at (there m d (omega arith) q) in
      distinct_out (memory_in t m) (memories t m) [] v (mem_left (memory_in t m) (memories t m) [] i)

  distinct_apart : (m c d : ℕ) → Distinct (memories t m) → d < c → c < m → held_in t c ≡ true → held_in t d ≡ true → memory_in t c ≡ memory_in t d → ⊥
  distinct_apart zero c d u h k p q e = omega arith
  distinct_apart (suc m) c d u h k p q e = ⊎_elim (λ z. twice m c d z u h p q e) (λ z. distinct_apart m c d (front m u) h (omega (arith, z)) p q e) (same? c m)

  -- a number that no place has is not among them
  fresh : (m x : ℕ) → ((c : ℕ) → c < m → held_in t c ≡ true → x ≡ memory_in t c → ⊥) → Mem x (memories t m) → ⊥
  unfolding memories
  fresh zero x f i = i
  fresh (suc m) x f i =
      let on = fresh m x (λ c h. f c (omega arith)) in
      ⊎_elim
      (λ q. ⊎_elim on (⊎_elim (f m (omega arith) q) (λ z. z)) (mem_cases x (memories t m) (memory_in t m ∷ []) (rw q at i)))
      (λ q. ⊎_elim on (λ z. z) (mem_cases x (memories t m) [] (rw q at i)))
      (told (held_in t m))

  apart_distinct : Differ (part_settings 0 0 0) t → (m : ℕ) → Distinct (memories t m)
  unfolding memories
  apart_distinct f zero = tt
  apart_distinct f (suc m) =
      let d = apart_distinct f m in
      let new : held_in t m ≡ true → (x : ℕ) → Mem x (memories t m) → Mem x (memory_in t m ∷ []) → ⊥ =
      λ q x i. ⊎_elim (λ e. fresh m x (λ c h p z. let same : m ≡ c = f m c q p (sym e ∙ z) in omega arith) i) (λ z. z) in
      ⊎_elim
      (λ q. rw q (distinct_append (memories t m) (memory_in t m ∷ []) d (tt, tt) (new q)))
      (λ q. rw q (distinct_append (memories t m) [] d tt (λ x i z. z)))
      (told (held_in t m))

-- the test of the tables by the distinct numbers of their places
module _ (n k : ℕ) (chunks found : List ℕ) (count : n ≡ get_or chunks chunk_places_at 0) (so : take k found ≡ memories (level_part 0 chunks []) n) (fits : k ≤ length found) where
  abbrev at : Tables
  at = level_part 0 chunks []

  columned : (i m : ℕ) → i + m ≤ length found → column_from found 0 1 i m ≡ take m (drop i found)
  columned i zero h = refl
  columned i (suc m) h =
      let e : 0 + 1 * i ≡ i = omega arith in
      rw (drop-cons found i 0 (omega arith), e, columned (suc i) m (omega arith))

  column_is : column found 0 1 k ≡ memories at n
  column_is = columned 0 k (omega arith) ∙ so

  pub memories_told : (r : Bool) → (r ≡ true → Distinct (column found 0 1 k)) → (Distinct (column found 0 1 k) → r ≡ true) → r ≡ memories_ok (part_settings 0 0 0) at
  memories_told r f g =
      same_test r (memories_ok (part_settings 0 0 0) at)
      (λ e. memories_all (part_settings 0 0 0) at (differ (rw column_is at (f e))))
      (λ e. g (rw column_is (apart_distinct at (memories_yes (part_settings 0 0 0) at e) n)))
    where
      differ : Distinct (memories at n) → Differ (part_settings 0 0 0) at
      differ u c d h q m =
          let low : (a : ℕ) → held_in at a ≡ true → a < n = λ a e. omega (arith, ltb-true a (get_or chunks chunk_places_at 0) (and_left (ltb a (get_or chunks chunk_places_at 0)) _ e), count) in
          ⊎_elim (λ z. absurd (distinct_apart at n d c u z (low d q) q h (sym m)))
          (λ z. ⊎_elim (λ y. absurd (distinct_apart at n c d u y (low c h) h q m)) (λ y. omega arith) (lt_or_le d c))
          (lt_or_le c d)
