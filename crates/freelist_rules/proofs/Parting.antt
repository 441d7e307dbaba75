-- The records of the loans parted where a gap stands: a loan put between them, or taken out.
use mathlib.Core.Path.{◌≡◌, refl, sym, ap, ◌∙◌}
use mathlib.Core.Logic.{inl, inr, ⊎_elim}
use mathlib.Core.List.{List, [], ◌∷◌, ◌++◌, map}
use Prim.Native.Nat.{ℕ, ◌+◌, ◌≤◌, ◌<◌}
use native.Mathlib.Omega.{arith}
use borrow.Author.Tests.{eq-eqb, ne_eqb}
use Rattle.lists.specs.Members.{Mem}
use Rattle.lists.proofs.Bools.{lt_or_le}
use Rattle.store_rules.specs.declared.Loan.{Loan}
use Rattle.store_rules.proofs.Keyed.{stands}
use Rattle.freelist_rules.specs.Pieces.{Rising}
use Rattle.freelist_rules.specs.Place.{put_loan}
use Rattle.freelist_rules.specs.Threads.{loan_by}
use Rattle.freelist_rules.proofs.Along.{put_least}
use Rattle.freelist_rules.proofs.Base.{rising_low}
use Rattle.freelist_rules.proofs.GapLists.{as_member}
use Rattle.freelist_rules.proofs.Gaps.{begins, stops}
use Rattle.freelist_rules.proofs.Giving.{without}
use Rattle.freelist_rules.proofs.Ordered.{put_past}

-- those whose loan begins before y, and the others
pub record Parts (t : List ℕ) (y : ℕ) (rs : List ℕ) : Type 0 where
  pub ahead : List ℕ
  pub past : List ℕ
  pub are : rs ≡ ahead ++ past
  pub early : (q : ℕ) → Mem q ahead → begins (loan_by t q) < y
  pub late : (q : ℕ) → Mem q past → y ≤ begins (loan_by t q)

pub parts : (t : List ℕ) (y b : ℕ) (rs : List ℕ) → Rising (λ (q : ℕ). begins (loan_by t q)) (λ (q : ℕ). stops (loan_by t q)) 0 b rs → Parts t y rs
parts t y b [] h = record { ahead = []; past = []; are = refl; early = λ q m. absurd m; late = λ q m. absurd m }
parts t y b (r ∷ rs) h = ⊎_elim (more (parts t y (0 + stops (loan_by t r)) rs h.2)) none (lt_or_le (begins (loan_by t r)) y)
  where
    more : Parts t y rs → begins (loan_by t r) < y → Parts t y (r ∷ rs)
    more w i =
        record {
          ahead = r ∷ w.ahead;
          past = w.past;
          are = ap (λ (qs : List ℕ). r ∷ qs) w.are;
          early = λ q. ⊎_elim (λ e. rw e i) (w.early q);
          late = w.late;
        }

    none : y ≤ begins (loan_by t r) → Parts t y (r ∷ rs)
    none i =
        record {
          ahead = [];
          past = r ∷ rs;
          are = refl;
          early = λ q m. absurd m;
          late = λ q. ⊎_elim (λ e. rw e i) (λ m. omega (arith, h.1, (rising_low (λ (q : ℕ). begins (loan_by t q)) (λ (q : ℕ). stops (loan_by t q)) 0 (0 + stops (loan_by t r)) rs h.2 q (as_member q rs m)).0));
        }

module _ (t t' : List ℕ) (r : ℕ) where
  -- r comes between them
  pub between : (l : Loan) (a b : List ℕ) → loan_by t' r ≡ l → ((q : ℕ) → Mem q (a ++ b) → loan_by t' q ≡ loan_by t q) → ((q : ℕ) → Mem q a → begins (loan_by t q) ≤ begins l) → ((q : ℕ) → Mem q b → begins l < begins (loan_by t q))
      → map (loan_by t') (a ++ (r ∷ b)) ≡ put_loan l (map (loan_by t) (a ++ b))
  between l [] b e same early late =
      ap (λ (d : Loan). d ∷ map (loan_by t') b) e
      ∙ ap (λ (ls : List Loan). l ∷ ls) (all_same b same)
      ∙ sym (put_least t l b (λ q m. late q (stands q b m)))
    where
      all_same : (qs : List ℕ) → ((q : ℕ) → Mem q qs → loan_by t' q ≡ loan_by t q) → map (loan_by t') qs ≡ map (loan_by t) qs
      all_same [] f = refl
      all_same (q ∷ qs) f = let h = f q (inl refl) in let k = all_same qs (λ x m. f x (inr m)) in cc
  between l (p ∷ a) b e same early late =
      let h : loan_by t' p ≡ loan_by t p = same p (inl refl) in
      ap (λ (d : Loan). d ∷ map (loan_by t') (a ++ (r ∷ b))) h
      ∙ ap (λ (ls : List Loan). loan_by t p ∷ ls) (between l a b e (λ q m. same q (inr m)) (λ q m. early q (inr m)) late)
      ∙ sym (put_past l (loan_by t p) (map (loan_by t) (a ++ b)) (early p (inl refl)))

  -- r goes out from between them
  pub left_out : (k : ℕ) (a b : List ℕ) → (loan_by t r).serial ≡ k → ((q : ℕ) → Mem q (a ++ b) → loan_by t' q ≡ loan_by t q) → ((q : ℕ) → Mem q (a ++ b) → (loan_by t q).serial ≡ k → ⊥)
      → map (loan_by t') (a ++ b) ≡ without k (map (loan_by t) (a ++ (r ∷ b)))
  left_out k [] b e same others = rw (eq-eqb (loan_by t r).serial k e) (rest b same others)
    where
      rest : (qs : List ℕ) → ((q : ℕ) → Mem q qs → loan_by t' q ≡ loan_by t q) → ((q : ℕ) → Mem q qs → (loan_by t q).serial ≡ k → ⊥) → map (loan_by t') qs ≡ without k (map (loan_by t) qs)
      rest [] f g = refl
      rest (q ∷ qs) f g =
          rw (ne_eqb (loan_by t q).serial k (g q (inl refl)))
          (ap (λ (d : Loan). d ∷ map (loan_by t') qs) (f q (inl refl)) ∙ ap (λ (ls : List Loan). loan_by t q ∷ ls) (rest qs (λ x m. f x (inr m)) (λ x m. g x (inr m))))
  left_out k (p ∷ a) b e same others =
      rw (ne_eqb (loan_by t p).serial k (others p (inl refl)))
      (ap (λ (d : Loan). d ∷ map (loan_by t') (a ++ b)) (same p (inl refl)) ∙ ap (λ (ls : List Loan). loan_by t p ∷ ls) (left_out k a b e (λ q m. same q (inr m)) (λ q m. others q (inr m))))
