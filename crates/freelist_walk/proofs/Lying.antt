-- What lies at a byte of a chunk where loans and regions fill it: the next loan, with or without a region before it, or what is left
-- of the chunk; and no loan or region that remains begins before that byte.
use mathlib.Core.Path.{◌≡◌, refl, sym, ap, ◌∙◌, subst}
use mathlib.Core.Bool.{Bool, true, false}
use mathlib.Core.Logic.{◌⊎◌, inl, inr, ⊎_elim}
use mathlib.Core.List.Memᴰ
use mathlib.Core.List.{List, [], ◌∷◌, Memᴰ}
use Prim.Native.Nat.{ℕ, suc, ◌+◌, ◌≤◌, ◌<◌}
use native.Mathlib.Omega.{arith}
use lib.Dec.{eqb, ltb}
use borrow.Author.Tests.{eq-eqb, eqb-true, lt-ltb}
use Rattle.lists.proofs.Bools.{and_left, and_right, and_both, told, true_false, same?, lt_or_le}
use Rattle.store_rules.specs.declared.Chunk.{Chunk}
use Rattle.store_rules.specs.declared.Loan.{Loan}
use Rattle.store_rules.specs.declared.Region.{Region}
use Rattle.freelist_rules.specs.Records.{region}
use Rattle.freelist_rules.specs.Pieces.{line, lo, All}
use Rattle.freelist_rules.specs.Walk.{same}
use Rattle.freelist_rules.specs.Rest.{rest, next_is}
use Rattle.freelist_rules.proofs.Base.{never}
use Rattle.freelist_rules.proofs.Decides.{same_yes}
use Rattle.freelist_rules.proofs.Facts.{Small, ChunksRise}
use Rattle.freelist_rules.proofs.Gaps.{begins}
use Rattle.freelist_rules.proofs.Turns.{first_in, rest_loan_left, rest_region_left, rest_loan, rest_gap, rest_before, rest_empty, rest_past, rest_end, rest_tail, rest_over}

-- what lies from p to x of chunk n is nothing, or the first of the regions; and more follow
abbrev pub Amid : ℕ → ℕ → ℕ → List Region → List Region → Type 0
Amid n p x rs more = ((p ≡ x) × (rs ≡ more)) ⊎ ((p < x) × (rs ≡ region n p x ∷ more))

-- ---- the first region is r

next_yes : (r : Region) (rs : List Region) (more : List Region → Bool) → next_is r rs more ≡ true → (qs : List Region) × (rs ≡ r ∷ qs) × (more qs ≡ true)
next_yes r [] more e = never (sym e)
next_yes r (d ∷ rs) more e = (rs, ap (λ (x : Region). x ∷ rs) (same_yes d r (and_left (same d r) (more rs) e)), and_right (same d r) (more rs) e)

same_self : (r : Region) → same r r ≡ true
same_self r = rw (eq-eqb r.chunk r.chunk refl, eq-eqb r.start r.start refl, eq-eqb r.end r.end refl)

next_all : (r : Region) (rs qs : List Region) (more : List Region → Bool) → rs ≡ r ∷ qs → more qs ≡ true → next_is r rs more ≡ true
next_all r rs qs more e f = ap (λ (xs : List Region). next_is r xs more) e ∙ and_both (same r r) (more qs) (same_self r) f

-- ---- a loan of this chunk

module _ (c : Chunk) (cs : List Chunk) (p : ℕ) (l : Loan) (ls : List Loan) (rs : List Region) (e : l.chunk ≡ c.number) where
  here : eqb l.chunk c.number ≡ true
  here = eq-eqb l.chunk c.number e

  abbrev Past : Type 0
  Past = (more : List Region) × Amid c.number p l.offset rs more × (rest (c ∷ cs) (l.offset + l.size) ls more ≡ true)

  loan_some : rest (c ∷ cs) p (l ∷ ls) rs ≡ true → 0 < l.size
  loan_some h = ⊎_elim (λ g. g) (λ g. absurd (true_false _ h (rest_empty c cs p l ls here rs (omega arith)))) (lt_or_le 0 l.size)

  loan_ends : rest (c ∷ cs) p (l ∷ ls) rs ≡ true → l.offset + l.size ≤ c.size
  loan_ends h = ⊎_elim (λ g. absurd (true_false _ h (rest_past c cs p l ls here rs g))) (λ g. g) (lt_or_le c.size (l.offset + l.size))

  loan_amid : rest (c ∷ cs) p (l ∷ ls) rs ≡ true → Past
  loan_amid h = by (lt_or_le p l.offset) (same? p l.offset)
    where
      gap' : p < l.offset → Past
      gap' g =
          let k = and_right (ltb 0 l.size) _ (sym (rest_gap c cs p l ls here rs g) ∙ h) in
          let w = next_yes (region c.number p l.offset) rs (rest (c ∷ cs) (l.offset + l.size) ls) k in
          (w.0, inr (g, w.1), w.2)

      by : (p < l.offset) ⊎ (l.offset ≤ p) → (p ≡ l.offset) ⊎ (p ≡ l.offset → ⊥) → Past
      by (inl g) d = gap' g
      by (inr g) (inl d) = (rs, inl (d, refl), and_right (ltb 0 l.size) _ (sym (rest_loan c cs p l ls here rs d) ∙ h))
      by (inr g) (inr d) = absurd (true_false _ h (rest_before c cs p l ls here rs (omega arith)))

  pub loan_yes : rest (c ∷ cs) p (l ∷ ls) rs ≡ true → (0 < l.size) × (l.offset + l.size ≤ c.size) × (more : List Region) × Amid c.number p l.offset rs more × (rest (c ∷ cs) (l.offset + l.size) ls more ≡ true)
  loan_yes h = let w = loan_amid h in (loan_some h, loan_ends h, w.0, w.1, w.2)

  pub loan_all : (more : List Region) → 0 < l.size → Amid c.number p l.offset rs more → rest (c ∷ cs) (l.offset + l.size) ls more ≡ true → rest (c ∷ cs) p (l ∷ ls) rs ≡ true
  loan_all more s (inl (d, f)) h =
      rest_loan c cs p l ls here rs d ∙ and_both (ltb 0 l.size) _ (lt-ltb 0 l.size s) (ap (rest (c ∷ cs) (l.offset + l.size) ls) f ∙ h)
  loan_all more s (inr (d, f)) h =
      rest_gap c cs p l ls here rs d
      ∙ and_both (ltb 0 l.size) _ (lt-ltb 0 l.size s) (next_all (region c.number p l.offset) rs more (rest (c ∷ cs) (l.offset + l.size) ls) f h)

-- ---- no further loan of this chunk

module _ (c : Chunk) (cs : List Chunk) (p : ℕ) (ls : List Loan) (rs : List Region) (none : first_in c.number ls ≡ false) where
  pub chunk_yes : rest (c ∷ cs) p ls rs ≡ true → (p ≤ c.size) × (more : List Region) × Amid c.number p c.size rs more × (rest cs 0 ls more ≡ true)
  chunk_yes h = by (lt_or_le c.size p) (same? p c.size)
    where
      by : (c.size < p) ⊎ (p ≤ c.size) → (p ≡ c.size) ⊎ (p ≡ c.size → ⊥) → (p ≤ c.size) × (more : List Region) × Amid c.number p c.size rs more × (rest cs 0 ls more ≡ true)
      by (inl g) d = absurd (true_false _ h (rest_over c cs p ls none rs g))
      by (inr g) (inl d) = (g, rs, inl (d, refl), sym (rest_end c cs p ls none rs d) ∙ h)
      by (inr g) (inr d) =
          let k : p < c.size = omega arith in
          let w = next_yes (region c.number p c.size) rs (rest cs 0 ls) (sym (rest_tail c cs p ls none rs k) ∙ h) in
          (g, w.0, inr (k, w.1), w.2)

  pub chunk_all : (more : List Region) → Amid c.number p c.size rs more → rest cs 0 ls more ≡ true → rest (c ∷ cs) p ls rs ≡ true
  chunk_all more (inl (d, f)) h = rest_end c cs p ls none rs d ∙ ap (rest cs 0 ls) f ∙ h
  chunk_all more (inr (d, f)) h = rest_tail c cs p ls none rs d ∙ next_all (region c.number p c.size) rs more (rest cs 0 ls) f h

-- ---- no chunk is left

pub end_yes : (p : ℕ) (ls : List Loan) (rs : List Region) → rest [] p ls rs ≡ true → (ls ≡ []) × (rs ≡ [])
end_yes p [] [] h = (refl, refl)
end_yes p [] (r ∷ rs) h = absurd (true_false _ h (rest_region_left p [] r rs))
end_yes p (l ∷ ls) rs h = absurd (true_false _ h (rest_loan_left p l ls rs))

-- ---- nothing that remains begins before the byte

-- b is no more than byte p of the first chunk
abbrev pub Upto : ℕ → List Chunk → ℕ → Type 0
Upto b [] p = Unit {0}
Upto b (c ∷ cs) p = b ≤ line c.number p

abbrev pub Low : ℕ → List Loan → List Region → Type 0
Low b ls rs = All (λ (l : Loan). b ≤ begins l) ls × All (λ (r : Region). b ≤ lo r) rs

pub amid_le : (n p x : ℕ) (rs more : List Region) → Amid n p x rs more → p ≤ x
amid_le n p x rs more (inl (d, e)) = omega arith
amid_le n p x rs more (inr (d, e)) = omega arith

low_amid : (b n p x : ℕ) (rs more : List Region) → b ≤ line n p → Amid n p x rs more → All (λ (r : Region). b ≤ lo r) more → All (λ (r : Region). b ≤ lo r) rs
low_amid b n p x rs more h (inl (d, e)) f r m = f r (subst (Memᴰ r) e m)
low_amid b n p x rs more h (inr (d, e)) f r m = ⊎_elim (λ q. omega (arith, ap lo q)) (f r) (Memᴰ.cases_cons (subst (Memᴰ r) e m))

-- so is it for the first byte of the chunk behind
pub upto_next : (b q : ℕ) (c : Chunk) (cs : List Chunk) (p : ℕ) → ChunksRise q (c ∷ cs) → Small (c ∷ cs) → p ≤ c.size → b ≤ line c.number p → Upto b cs 0
upto_next b q c [] p rise small h k = tt
upto_next b q c (d ∷ cs) p rise small h k = omega (arith, rise.2.0, small c (Memᴰ.head refl))

-- what is said of the chunks behind holds of what is left where no loan of this chunk is
low_chunk : (b q : ℕ) (c : Chunk) (cs : List Chunk) (p : ℕ) (ls : List Loan) (rs : List Region) → ChunksRise q (c ∷ cs) → Small (c ∷ cs) → rest (c ∷ cs) p ls rs ≡ true → b ≤ line c.number p
    → first_in c.number ls ≡ false → ((more : List Region) → rest cs 0 ls more ≡ true → Upto b cs 0 → Low b ls more) → Low b ls rs
low_chunk b q c cs p ls rs rise small h k none ih =
    let w = chunk_yes c cs p ls rs none h in
    let v = ih w.1 w.3 (upto_next b q c cs p rise small w.0 k) in
    (v.0, low_amid b c.number p c.size rs w.1 k w.2 v.1)

low_loan : (b : ℕ) (c : Chunk) (cs : List Chunk) (p : ℕ) (l : Loan) (ls : List Loan) (rs : List Region) → rest (c ∷ cs) p (l ∷ ls) rs ≡ true → b ≤ line c.number p
    → l.chunk ≡ c.number → ((more : List Region) → rest (c ∷ cs) (l.offset + l.size) ls more ≡ true → b ≤ line c.number (l.offset + l.size) → Low b ls more) → Low b (l ∷ ls) rs
low_loan b c cs p l ls rs h k e ih =
    let w = loan_yes c cs p l ls rs e h in
    let a = amid_le c.number p l.offset rs w.2 w.3 in
    let v = ih w.2 w.4 (omega arith) in
    (λ d m. ⊎_elim (λ q. omega (arith, ap begins q)) (v.0 d) (Memᴰ.cases_cons m), low_amid b c.number p l.offset rs w.2 k w.3 v.1)

pub rest_low : (b q : ℕ) (cs : List Chunk) (p : ℕ) (ls : List Loan) (rs : List Region) → ChunksRise q cs → Small cs → rest cs p ls rs ≡ true → Upto b cs p → Low b ls rs
rest_low b q [] p ls rs rise small h k =
    let w = end_yes p ls rs h in
    ((λ l m. absurd (Memᴰ.not-nil (subst (Memᴰ l) w.0 m))), (λ r m. absurd (Memᴰ.not-nil (subst (Memᴰ r) w.1 m))))
rest_low b q (c ∷ cs) p [] rs rise small h k =
    low_chunk b q c cs p [] rs rise small h k refl (λ more. rest_low b (0 + suc c.number) cs 0 [] more rise.2 (λ d m. small d (Memᴰ.tail m)))
rest_low b q (c ∷ cs) p (l ∷ ls) rs rise small h k =
    ⊎_elim
    (λ e. low_loan b c cs p l ls rs h k (eqb-true l.chunk c.number e) (λ more. rest_low b q (c ∷ cs) (l.offset + l.size) ls more rise small))
    (λ e. low_chunk b q c cs p (l ∷ ls) rs rise small h k e (λ more. rest_low b (0 + suc c.number) cs 0 (l ∷ ls) more rise.2 (λ d m. small d (Memᴰ.tail m))))
    (told (eqb l.chunk c.number))
