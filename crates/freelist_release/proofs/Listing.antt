-- Whether a number is listed; the chunks that are not listed are those that remain.
use mathlib.Core.Path.{◌≡◌, refl, sym, ap, ◌∙◌}
use mathlib.Core.Bool.{Bool, true, false, cond, ◌||◌}
use mathlib.Core.Logic.{◌⊎◌, inl, inr, ⊎_elim}
use mathlib.Core.List.Memᴰ
use mathlib.Core.List.{List, [], ◌∷◌, Memᴰ}
use Prim.Native.Nat.{ℕ}
use lib.Dec.{eqb}
use borrow.Author.Tests.{eqb-true, eq-eqb}
use Rattle.std.specs.Prelude.{nat_eq}
use Rattle.std.specs.List.{list_any}
use Rattle.lists.proofs.Bools.{or_cases, or_left, or_right, true_false, same_test}
use Rattle.freelist_rules.specs.Pieces.{All}
use Rattle.freelist_rules.specs.Release.{covers, leaving, is_covered, remaining, memories_of}
use Rattle.store_rules.specs.declared.Chunk.{Chunk}
use Rattle.store_rules.specs.declared.Region.{Region}
use Rattle.freelist_rules.proofs.Releases.{covers_yes, wholly_where, left_where, where_left, going_in, leaving_in}
use Rattle.freelist_rules.proofs.GivesBack.{memory_of_lem, memory_in_lem, in_memory}
use Rattle.freelist_release.specs.Listed.{among, unlisted}
use Rattle.freelist_marks.specs.Releasable.{Releasable}

-- ---- the library's test of a list

pub any_among : (x : ℕ) (l : List ℕ) → list_any (λ (y : ℕ). nat_eq y x) l ≡ among x l
unfolding among
any_among x [] = refl
any_among x (y ∷ l) =
    (λ j. same_test (nat_eq y x) (eqb x y) (λ e. eq-eqb x y (sym (eqb-true y x e))) (λ e. eq-eqb y x (sym (eqb-true x y e))) j || any_among x l j)

-- ---- the test and membership

among_in : (x : ℕ) (l : List ℕ) → among x l ≡ true → Memᴰ x l
unfolding among
among_in x [] e = absurd (true_false false e refl)
among_in x (y ∷ l) e = go (among_in x l) (or_cases (eqb x y) (among x l) e)
  where
    go : (among x l ≡ true → Memᴰ x l) → (eqb x y ≡ true) ⊎ (among x l ≡ true) → Memᴰ x (y ∷ l)
    go ih (inl h) = Memᴰ.head (eqb-true x y h)
    go ih (inr h) = Memᴰ.tail (ih h)

in_among : (x : ℕ) (l : List ℕ) → Memᴰ x l → among x l ≡ true
unfolding among
in_among x [] m = absurd (Memᴰ.not-nil m)
in_among x (y ∷ l) m = go (in_among x l) (Memᴰ.cases_cons m)
  where
    go : (Memᴰ x l → among x l ≡ true) → (x ≡ y) ⊎ Memᴰ x l → (eqb x y || among x l) ≡ true
    go ih (inl h) = or_left (eqb x y) (among x l) (eq-eqb x y h)
    go ih (inr h) = or_right (eqb x y) (among x l) (ih h)

-- ---- no two chunks have one memory number, so the listed chunks are those that a region that leaves covers

unlisted_as : (ms : List ℕ) (gone : List Region) (cs : List Chunk) → All (λ (c : Chunk). among c.memory ms ≡ is_covered gone c) cs → unlisted ms cs ≡ remaining gone cs
unfolding unlisted remaining
unlisted_as ms gone [] a = refl
unlisted_as ms gone (c ∷ cs) a =
    ap (λ (b : Bool). cond b (unlisted ms cs) (c ∷ unlisted ms cs)) (a c (Memᴰ.head refl))
    ∙ ap (λ (z : List Chunk). cond (is_covered gone c) z (c ∷ z)) (unlisted_as ms gone cs (λ d m. a d (Memᴰ.tail m)))

module _ (cs : List Chunk) (rs : List Region) (spare : Bool) (fit : Releasable cs rs) where
  abbrev gone : List Region
  gone = leaving cs spare [] rs

  covering : (r : Region) → Memᴰ r gone → (c : Chunk) × Memᴰ c cs × (covers r c ≡ true)
  covering r m = wholly_where cs r (⊎_elim (λ k. absurd (Memᴰ.not-nil k)) (λ k. (going_in cs spare r rs k).1) (leaving_in cs spare r [] rs m))

  listed_left : (c : Chunk) → Memᴰ c cs → among c.memory (memories_of cs gone) ≡ is_covered gone c
  listed_left c m = same_test (among c.memory (memories_of cs gone)) (is_covered gone c) there back
    where
      there : among c.memory (memories_of cs gone) ≡ true → is_covered gone c ≡ true
      there e =
          let w = memory_in_lem cs c.memory gone (among_in c.memory (memories_of cs gone) e) in
          let v = covering w.0 w.1 in
          let d = memory_of_lem 1 cs fit.numbers w.0 v.0 v.1 (covers_yes w.0 v.0 v.2).0 in
          where_left gone c w.0 w.1 (sym (ap (covers w.0) (fit.memories v.0 c v.1 m (sym d ∙ w.2))) ∙ v.2)

      back : is_covered gone c ≡ true → among c.memory (memories_of cs gone) ≡ true
      back e =
          let w = left_where gone c e in
          in_among c.memory (memories_of cs gone)
          (in_memory cs c.memory w.0 gone w.1 (memory_of_lem 1 cs fit.numbers w.0 c m (covers_yes w.0 c w.2).0))

  pub unlisted_remain : unlisted (memories_of cs gone) cs ≡ remaining gone cs
  unlisted_remain = unlisted_as (memories_of cs gone) gone cs listed_left
