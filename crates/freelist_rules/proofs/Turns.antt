-- The soundness walk as a loop makes it: each turn passes one loan or one chunk, and each early end is a refusal.
use mathlib.Core.Path.{◌≡◌, refl, sym, ◌∙◌, ap}
use mathlib.Core.Bool.{Bool, true, false, ◌&&◌}
use mathlib.Core.Logic.{⊎_elim}
use mathlib.Core.List.{List, [], ◌∷◌}
use Prim.Native.Nat.{ℕ, ◌+◌, ◌≤◌, ◌<◌}
use native.Mathlib.Omega.{arith}
use lib.Dec.{ltb, leb, eqb}
use borrow.Author.Tests.{lt-ltb, le-ltb, le-leb, lt-leb}
use Rattle.lists.proofs.Bools.{told}
use Rattle.store_rules.specs.declared.Loan.{Loan}
use Rattle.freelist_rules.specs.Records.{region}
use Rattle.freelist_rules.specs.Walk.{front, behind, within, inside, same, fills_ok}
use Rattle.freelist_rules.specs.Rest.{rest, next_is}
use Rattle.store_rules.specs.declared.Chunk.{Chunk}
use Rattle.store_rules.specs.declared.Region.{Region}
use Rattle.freelist_rules.proofs.Gaps.{within_le, within_rest}

-- the first loan lies in chunk n
abbrev pub first_in : ℕ → List Loan → Bool
first_in n [] = false
first_in n (l ∷ ls) = eqb l.chunk n

-- ---- the order of tests

and_assoc : (a b c : Bool) → ((a && b) && c) ≡ (a && (b && c))
and_assoc true b c = refl
and_assoc false b c = refl

pub and_no : (a : Bool) → (a && false) ≡ false
and_no true = refl
and_no false = refl

and_swap : (a b c : Bool) → (a && (b && c)) ≡ (b && (a && c))
and_swap true b c = refl
and_swap false b c = sym (and_no b)

-- a test that comes third may come first
third : (w i a x : Bool) → (w && (i && (a && x))) ≡ (a && (w && (i && x)))
third w i a x = ap (λ (b : Bool). w && b) (and_swap i a x) ∙ and_swap w a (i && x)

-- ---- the test begins, and ends

pub rest_start : (cs : List Chunk) (ls : List Loan) (rs : List Region) → fills_ok cs ls rs ≡ rest cs 0 ls rs
unfolding fills_ok rest
rest_start [] ls rs = refl
rest_start (c ∷ cs) ls rs = and_assoc (within 0 c.size (front c.number ls)) (inside cs (behind c.number ls)) _

-- no chunk is left: nothing else may be
pub rest_done : (p : ℕ) → rest [] p [] [] ≡ true
unfolding rest
rest_done p = refl

pub rest_loan_left : (p : ℕ) (l : Loan) (ls : List Loan) (rs : List Region) → rest [] p (l ∷ ls) rs ≡ false
unfolding rest
rest_loan_left p l ls rs = refl

pub rest_region_left : (p : ℕ) (ls : List Loan) (r : Region) (rs : List Region) → rest [] p ls (r ∷ rs) ≡ false
unfolding rest
rest_region_left p ls r rs = and_no (inside [] ls)

-- ---- a loan of this chunk

module _ (c : Chunk) (cs : List Chunk) (p : ℕ) (l : Loan) (ls : List Loan) (e : eqb l.chunk c.number ≡ true) where
  -- at p
  pub rest_loan : (rs : List Region) → p ≡ l.offset → rest (c ∷ cs) p (l ∷ ls) rs ≡ (ltb 0 l.size && rest (c ∷ cs) (l.offset + l.size) ls rs)
  unfolding rest
  rest_loan rs h =
      rw (e, le-ltb p l.offset (omega arith), le-leb p l.offset (omega arith))
      (and_assoc (ltb 0 l.size) (within (l.offset + l.size) c.size (front c.number ls)) _)

  -- past p: the next region is what lies before it
  pub rest_gap : (rs : List Region) → p < l.offset → rest (c ∷ cs) p (l ∷ ls) rs ≡ (ltb 0 l.size && next_is (region c.number p l.offset) rs (rest (c ∷ cs) (l.offset + l.size) ls))
  unfolding rest
  rest_gap [] h =
      rw (e, lt-ltb p l.offset h, le-leb p l.offset (omega arith))
      (and_assoc (ltb 0 l.size) (within (l.offset + l.size) c.size (front c.number ls)) _
      ∙ ap (λ (b : Bool). ltb 0 l.size && b) (none' (within (l.offset + l.size) c.size (front c.number ls)) (inside cs (behind c.number ls))))
    where
      none' : (w i : Bool) → (w && (i && false)) ≡ false
      none' w i = ap (λ (b : Bool). w && b) (and_no i) ∙ and_no w
  rest_gap (r ∷ rs) h =
      rw (e, lt-ltb p l.offset h, le-leb p l.offset (omega arith))
      (and_assoc (ltb 0 l.size) (within (l.offset + l.size) c.size (front c.number ls)) _
      ∙ ap (λ (b : Bool). ltb 0 l.size && b)
      (third (within (l.offset + l.size) c.size (front c.number ls)) (inside cs (behind c.number ls)) (same r (region c.number p l.offset)) _))

  -- what fails for this loan fails
  loan_fails : (rs : List Region) → within p c.size (l ∷ front c.number ls) ≡ false → rest (c ∷ cs) p (l ∷ ls) rs ≡ false
  unfolding rest
  loan_fails rs w = rw (e, w)

  -- before p
  pub rest_before : (rs : List Region) → l.offset < p → rest (c ∷ cs) p (l ∷ ls) rs ≡ false
  rest_before rs h = loan_fails rs (rw (lt-leb p l.offset h))

  -- empty
  pub rest_empty : (rs : List Region) → l.size ≡ 0 → rest (c ∷ cs) p (l ∷ ls) rs ≡ false
  rest_empty rs h = loan_fails rs (rw (le-ltb 0 l.size (omega arith)) (and_no (leb p l.offset)))

  -- not within the chunk
  pub rest_past : (rs : List Region) → c.size < l.offset + l.size → rest (c ∷ cs) p (l ∷ ls) rs ≡ false
  rest_past rs h = loan_fails rs (⊎_elim (λ w. absurd (omega (arith, ends w))) (λ w. w) (told (within p c.size (l ∷ front c.number ls))))
    where
      ends : within p c.size (l ∷ front c.number ls) ≡ true → l.offset + l.size ≤ c.size
      ends w = within_le (l.offset + l.size) c.size (front c.number ls) (within_rest p c.size l (front c.number ls) w)

-- ---- no further loan of this chunk

front_none : (n : ℕ) (ls : List Loan) → first_in n ls ≡ false → front n ls ≡ []
front_none n [] e = refl
front_none n (l ∷ ls) e = rw e

behind_none : (n : ℕ) (ls : List Loan) → first_in n ls ≡ false → behind n ls ≡ ls
behind_none n [] e = refl
behind_none n (l ∷ ls) e = rw e

module _ (c : Chunk) (cs : List Chunk) (p : ℕ) (ls : List Loan) (none : first_in c.number ls ≡ false) where
  no_front : front c.number ls ≡ []
  no_front = front_none c.number ls none

  all_behind : behind c.number ls ≡ ls
  all_behind = behind_none c.number ls none

  -- and p is its end
  pub rest_end : (rs : List Region) → p ≡ c.size → rest (c ∷ cs) p ls rs ≡ rest cs 0 ls rs
  unfolding fills_ok rest
  rest_end rs h = rw (no_front, all_behind, le-leb p c.size (omega arith), le-ltb p c.size (omega arith)) (rest_start cs ls rs)

  -- and p lies before its end: the next region is the rest of it
  pub rest_tail : (rs : List Region) → p < c.size → rest (c ∷ cs) p ls rs ≡ next_is (region c.number p c.size) rs (rest cs 0 ls)
  unfolding fills_ok rest
  rest_tail [] h = rw (no_front, all_behind, le-leb p c.size (omega arith), lt-ltb p c.size h) (and_no (inside cs ls))
  rest_tail (r ∷ rs) h =
      rw (no_front, all_behind, le-leb p c.size (omega arith), lt-ltb p c.size h)
      (and_swap (inside cs ls) (same r (region c.number p c.size)) _ ∙ ap (λ (b : Bool). same r (region c.number p c.size) && b) (rest_start cs ls rs))

  -- or p lies past it
  pub rest_over : (rs : List Region) → c.size < p → rest (c ∷ cs) p ls rs ≡ false
  unfolding rest
  rest_over rs h = rw (no_front, lt-leb p c.size h)
