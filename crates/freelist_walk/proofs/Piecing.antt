-- A gap and a loan passed, in the code's words.
use mathlib.Core.Path.{◌≡◌, refl, sym, ap, ◌∙◌, subst}
use mathlib.Core.Bool.{Bool, true, false, ◌&&◌, ◌||◌}
use Rattle.std.specs.Prelude.{Option, Some, None}
use mathlib.Core.Logic.{inl, inr, ⊎_elim}
use mathlib.Core.List.{List, [], ◌∷◌}
use Prim.Native.Nat.{ℕ, suc, ◌+◌, ◌-◌, ◌≤◌, ◌<◌}
use native.Mathlib.Omega.{arith}
use lib.Dec.{eqb, leb, ltb}
use lib.ListN.{drop, drop_of_length-le}
use lib.Seq.{drop-cons}
use borrow.Author.Tests.{eq-eqb, eqb-true, lt-ltb, ltb-true, le-leb, lt-leb, leb-true}
use Rattle.lists.proofs.Bools.{and_left, and_right, and_both, or_cases, same_test, true_false}
use Rattle.words.specs.Rows.{row, rows}
use Rattle.words.proofs.Records.{length_rows, get_d_rows}
use Rattle.store_rules.specs.declared.Loan.{Loan}
use Rattle.freelist_rules.specs.declared.Gap.{Gap}
use Rattle.freelist_rules.specs.Records.{region, gap_row}
use Rattle.freelist_rules.specs.Threads.{gap}
use Rattle.freelist_rules.proofs.Turns.{and_no}
use Rattle.freelist_walk.specs.Left.{Between}
use Rattle.freelist_walk.specs.Turn.{within, GapPassed, LoanPassed}
use Rattle.freelist_walk.specs.declared.passes.Passed.{Passed}

-- ---- two gaps

-- two gaps are the same
abbrev same_gap : Gap → Gap → Bool
same_gap a b =
    eqb a.chunk b.chunk && (eqb a.start b.start && (eqb a.end b.end && eqb a.front b.front))

same_yes : (a b : Gap) → same_gap a b ≡ true → a ≡ b
same_yes a b e =
    let f = and_right (eqb a.chunk b.chunk) _ e in
    let g = and_right (eqb a.start b.start) _ f in
    let p = eqb-true a.chunk b.chunk (and_left (eqb a.chunk b.chunk) _ e) in
    let q = eqb-true a.start b.start (and_left (eqb a.start b.start) _ f) in
    let r = eqb-true a.end b.end (and_left (eqb a.end b.end) (eqb a.front b.front) g) in
    let s = eqb-true a.front b.front (and_right (eqb a.end b.end) (eqb a.front b.front) g) in
    (λ i. record { chunk = p i; start = q i; end = r i; front = s i })

same_self : (a : Gap) → same_gap a a ≡ true
same_self a = rw (eq-eqb a.chunk a.chunk refl, eq-eqb a.start a.start refl, eq-eqb a.end a.end refl, eq-eqb a.front a.front refl)

-- ---- what the code says of a gap

-- None is not Some
pub not_some : {A : Type 0} (q : A) → None ≡ Some q → ⊥
not_some q e = cc

-- what Some has
pub some_is : {A : Type 0} (p q : A) → Some p ≡ Some q → p ≡ q
some_is p q e = cc

module _ (t : List ℕ) (n d c p x u : ℕ) (h : d ≤ n) where
  abbrev gs : List Gap
  gs = rows gap_row n t

  pub passed_none : p ≡ x → GapPassed c p x u gs d (Some (record { byte = x; region = d }))
  passed_none e =
      record {
        on = λ q s. subst (λ (r : Passed). Between c p x u (drop d gs) (drop r.region gs)) (some_is _ q s) (inl (e, refl));
        back = λ more b. (_, refl);
        most = λ q s. omega (arith, length_rows gap_row n t, ap (λ (r : Passed). r.region) (some_is _ q s));
      }

  -- no piece is passed where what lies there could not be
  refused : ((more : List Gap) → Between c p x u (drop d gs) more → ⊥) → GapPassed c p x u gs d None
  refused f = record { on = λ q s. absurd (not_some q s); back = λ more b. absurd (f more b); most = λ q s. absurd (not_some q s) }

  pub passed_out : (p ≡ x → ⊥) → (ltb x p || leb n d) ≡ true → GapPassed c p x u gs d None
  passed_out ne o = refused out
    where
      out : (more : List Gap) → Between c p x u (drop d gs) more → ⊥
      out more (inl (e, f)) = ne e
      out more (inr (e, f)) =
          let k : n ≤ d = ⊎_elim (λ g. absurd (omega (arith, e, ltb-true x p g))) (λ g. leb-true n d g) (or_cases (ltb x p) (leb n d) o) in
          let nil : drop d gs ≡ [] = drop_of_length-le gs {i = d} (omega (arith, length_rows gap_row n t, k)) in
          let z : [] ≡ gap (region c p x) u ∷ more = sym nil ∙ f in cc

  -- the region that is next is read
  module _ (l : p < x) (k : d < n) (g : Gap) (e : g ≡ row gap_row d t) where
    first : drop d gs ≡ g ∷ drop (d + 1) gs
    first =
        let s : d + 1 ≡ suc d = omega arith in
        drop-cons gs d g (omega (arith, length_rows gap_row n t)) ∙ rw s (ap (λ (a : Gap). a ∷ drop (suc d) gs) (get_d_rows gap_row n d t g k ∙ sym e))

    pub passed_gap : same_gap g (gap (region c p x) u) ≡ true → GapPassed c p x u gs d (Some (record { byte = x; region = d + 1 }))
    passed_gap f =
        let b : Between c p x u (drop d gs) (drop (d + 1) gs) = inr (l, first ∙ ap (λ (a : Gap). a ∷ drop (d + 1) gs) (same_yes g (gap (region c p x) u) f)) in
        record {
          on = λ q s. subst (λ (r : Passed). Between c p x u (drop d gs) (drop r.region gs)) (some_is _ q s) b;
          back = λ more a. (_, refl);
          most = λ q s. omega (arith, length_rows gap_row n t, ap (λ (r : Passed). r.region) (some_is _ q s));
        }

    pub refused_gap : same_gap g (gap (region c p x) u) ≡ false → GapPassed c p x u gs d None
    refused_gap f = refused out
      where
        out : (more : List Gap) → Between c p x u (drop d gs) more → ⊥
        out more (inl (a, r)) = absurd (omega arith)
        out more (inr (a, r)) =
            let z : g ∷ drop (d + 1) gs ≡ gap (region c p x) u ∷ more = sym first ∙ r in
            let y : g ≡ gap (region c p x) u = cc in
            true_false _ (ap (λ (b : Gap). same_gap b (gap (region c p x) u)) y ∙ same_self (gap (region c p x) u)) f

-- ---- and of a loan

pub within_low : (l : Loan) (z : ℕ) → l.offset ≤ z → (ltb 0 l.size && leb l.size (z - l.offset)) ≡ within l z
unfolding within
within_low l z h = ap (λ (b : Bool). ltb 0 l.size && b) (same_test _ _ (λ e. le-leb _ _ (yes e)) (λ e. le-leb _ _ (back e)))
  where
    yes : leb l.size (z - l.offset) ≡ true → l.offset + l.size ≤ z
    yes e = omega (arith, leb-true l.size (z - l.offset) e)

    back : leb (l.offset + l.size) z ≡ true → l.size ≤ z - l.offset
    back e = omega (arith, leb-true (l.offset + l.size) z e)

pub within_high : (l : Loan) (z : ℕ) → z < l.offset → false ≡ within l z
unfolding within
within_high l z h = let e : z < l.offset + l.size = omega arith in rw (lt-leb (l.offset + l.size) z e) (sym (and_no (ltb 0 l.size)))

pub within_yes : (l : Loan) (z : ℕ) → within l z ≡ true → (0 < l.size) × (l.offset + l.size ≤ z)
unfolding within
within_yes l z e = (ltb-true _ _ (and_left (ltb 0 l.size) (leb (l.offset + l.size) z) e), leb-true _ _ (and_right (ltb 0 l.size) (leb (l.offset + l.size) z) e))

within_all : (l : Loan) (z : ℕ) → 0 < l.size → l.offset + l.size ≤ z → within l z ≡ true
unfolding within
within_all l z a b = and_both _ _ (lt-ltb _ _ a) (le-leb _ _ b)

module _ (z p u : ℕ) (l : Loan) (gs : List Gap) (d : ℕ) where
  pub refused_loan : within l z ≡ false → LoanPassed z p u l gs d None
  refused_loan w = record { on = λ q e. absurd (not_some q e); back = λ more s k a. absurd (true_false _ (within_all l z s k) w); most = λ q e. absurd (not_some q e) }

  module _ (w : within l z ≡ true) (g : Option Passed) (a : GapPassed l.chunk p l.offset u gs d g) where
    pub passed_loan : (q : Passed) → g ≡ Some q → LoanPassed z p u l gs d (Some (record { byte = l.offset + l.size; region = q.region }))
    passed_loan q e =
        let v = within_yes l z w in
        record {
          on = λ r s. subst (λ (x : Passed). (0 < l.size) × (l.offset + l.size ≤ z) × (x.byte ≡ l.offset + l.size) × Between l.chunk p l.offset u (drop d gs) (drop x.region gs)) (some_is _ r s) (v.0, v.1, refl, a.on q e);
          back = λ more s k b. (_, refl);
          most = λ r s. omega (arith, a.most q e, ap (λ (x : Passed). x.region) (some_is _ r s));
        }

    pub stopped_loan : g ≡ None → LoanPassed z p u l gs d None
    stopped_loan e =
        record {
          on = λ q s. absurd (not_some q s);
          back = λ more s k b. let v = a.back more b in absurd (not_some v.0 (sym e ∙ v.1));
          most = λ q s. absurd (not_some q s);
        }
