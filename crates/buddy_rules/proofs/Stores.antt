-- A row of stores to a table, one after the other: which words it leaves, and what it leaves in the others.
use mathlib.Core.Path.{◌≡◌, refl, ap, ◌∙◌}
use mathlib.Core.Bool.{cond}
use mathlib.Core.Logic.{◌⊎◌, inl, inr}
use mathlib.Core.List.{List, [], ◌∷◌, ◌++◌}
use Prim.Native.Nat.{ℕ, ◌<◌}
use lib.Dec.{eqb}
use lib.ListN.{length, get_or, set, length-set}
use lib.Seq.{get_or-set_same, get_or-set_other, lt-length-set}
use borrow.Author.Tests.{eq-eqb, ne_eqb}
use Rattle.lists.specs.Members.{NotIn, Below}
use Rattle.lists.proofs.Bools.{same?}

-- t after the stores: each is a place and what is stored there
abbrev pub puts : List ℕ → List (ℕ × ℕ) → List ℕ
puts t [] = t
puts t (s ∷ l) = puts (set t s.0 s.1) l

-- the places stored to
abbrev pub stored : List (ℕ × ℕ) → List ℕ
stored [] = []
stored (s ∷ l) = s.0 ∷ stored l

pub length_puts : (t : List ℕ) (l : List (ℕ × ℕ)) → length (puts t l) ≡ length t
length_puts t [] = refl
length_puts t (s ∷ l) = length_puts (set t s.0 s.1) l ∙ length-set t s.0 s.1

pub puts_append : (t : List ℕ) (l k : List (ℕ × ℕ)) → puts t (l ++ k) ≡ puts (puts t l) k
puts_append t [] k = refl
puts_append t (s ∷ l) k = puts_append (set t s.0 s.1) l k

-- any other word is left
pub kept : (t : List ℕ) (l : List (ℕ × ℕ)) (i : ℕ) → NotIn i (stored l) → get_or (puts t l) i 0 ≡ get_or t i 0
kept t [] i o = refl
kept t (s ∷ l) i o = kept (set t s.0 s.1) l i o.1 ∙ get_or-set_other t s.0 i s.1 0 o.0

-- and what is stored stays where nothing is stored later
pub found : (t : List ℕ) (a : List (ℕ × ℕ)) (i v : ℕ) (c : List (ℕ × ℕ)) → i < length t → NotIn i (stored c) → get_or (puts t (a ++ ((i, v) ∷ c))) i 0 ≡ v
found t [] i v c h o = kept (set t i v) c i o ∙ get_or-set_same t i v 0 h
found t (s ∷ a) i v c h o = found (set t s.0 s.1) a i v c (rw (length-set t s.0 s.1) h) o

-- ---- stores to numbered places: what a table shows at each

-- what stands at number k, d having stood there
abbrev pub latest : List (ℕ × ℕ) → ℕ → ℕ → ℕ
latest [] k d = d
latest (s ∷ l) k d = latest l k (cond (eqb k s.0) s.1 d)

module _ (at : ℕ → ℕ) where
  -- the stores, by where the numbers stand
  abbrev pub placed : List (ℕ × ℕ) → List (ℕ × ℕ)
  placed [] = []
  placed (s ∷ l) = (at s.0, s.1) ∷ placed l

  module _ (m : ℕ) (one : (j k : ℕ) → j < m → k < m → at j ≡ at k → j ≡ k) where
    pub reads : (t : List ℕ) (l : List (ℕ × ℕ)) → ((k : ℕ) → k < m → at k < length t) → Below m (stored l) → (k : ℕ) → k < m → get_or (puts t (placed l)) (at k) 0 ≡ latest l k (get_or t (at k) 0)
    reads t [] fit b k h = refl
    reads t (s ∷ l) fit b k h =
        reads (set t (at s.0) s.1) l (λ j i. lt-length-set t (at s.0) s.1 (fit j i)) b.1 k h
        ∙ ap (latest l k) (by (same? k s.0))
      where
        by : (k ≡ s.0) ⊎ (k ≡ s.0 → ⊥) → get_or (set t (at s.0) s.1) (at k) 0 ≡ cond (eqb k s.0) s.1 (get_or t (at k) 0)
        by (inl e) = rw (eq-eqb k s.0 e, e) (get_or-set_same t (at s.0) s.1 0 (fit s.0 b.0))
        by (inr ne) = rw (ne_eqb k s.0 ne) (get_or-set_other t (at s.0) (at k) s.1 0 (λ e. ne (one k s.0 h b.0 e)))
