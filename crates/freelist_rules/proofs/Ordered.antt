-- Loans put in order by chunk and place are the same loans.
use mathlib.Core.Path.{◌≡◌, refl, sym, ap, ◌∙◌}
use mathlib.Core.Bool.{true, false}
use mathlib.Core.Logic.{◌⊎◌, inl, inr, ⊎_elim}
use mathlib.Core.List.Memᴰ
use mathlib.Core.List.{List, [], ◌∷◌, ◌++◌, Memᴰ}
use Prim.Native.Nat.{◌+◌, ◌≤◌, ◌<◌}
use native.Mathlib.Omega.{arith}
use lib.Dec.{ltb}
use lib.ListN.{length}
use borrow.Author.Tests.{lt-ltb, le-ltb}
use Rattle.lists.proofs.Bools.{told, lt_or_le}
use Rattle.store_rules.specs.declared.Loan.{Loan}
pub use Rattle.store_rules.proofs.Placed.{on_loan_in, on_loan_append, loan_place_lem}
use Rattle.freelist_rules.specs.Pieces.{All}
use Rattle.freelist_rules.specs.Place.{put_loan}
use Rattle.freelist_rules.specs.Tables.{ordered}
use Rattle.freelist_rules.proofs.Gaps.{begins}
use Rattle.freelist_rules.proofs.Lends.{put_member}

-- ---- one put among others

pub put_in : (a l : Loan) (ls : List Loan) → (a ≡ l) ⊎ Memᴰ a ls → Memᴰ a (put_loan l ls)
put_in a l [] (inl e) = Memᴰ.head e
put_in a l [] (inr m) = Memᴰ.tail m
put_in a l (c ∷ ls) m = go (told (ltb (begins l) (begins c))) m (put_in a l ls)
  where
    go : (ltb (begins l) (begins c) ≡ true) ⊎ (ltb (begins l) (begins c) ≡ false) → (a ≡ l) ⊎ Memᴰ a (c ∷ ls) → ((a ≡ l) ⊎ Memᴰ a ls → Memᴰ a (put_loan l ls)) → Memᴰ a (put_loan l (c ∷ ls))
    go (inl q) (inl e) ih = rw q (Memᴰ.head e)
    go (inl q) (inr k) ih = rw q (Memᴰ.tail k)
    go (inr q) (inl e) ih = rw q (Memᴰ.tail (ih (inl e)))
    go (inr q) (inr k) ih = rw q (⊎_elim (λ e. Memᴰ.head e) (λ i. Memᴰ.tail (ih (inr i))) (Memᴰ.cases_cons k))

-- ---- all of them

pub ordered_in : (a : Loan) (ls : List Loan) → Memᴰ a ls → Memᴰ a (ordered ls)
unfolding ordered
ordered_in a [] m = m
ordered_in a (l ∷ ls) m = put_in a l (ordered ls) (⊎_elim (λ e. inl e) (λ k. inr (ordered_in a ls k)) (Memᴰ.cases_cons m))

pub ordered_out : (a : Loan) (ls : List Loan) → Memᴰ a (ordered ls) → Memᴰ a ls
unfolding ordered
ordered_out a [] m = m
ordered_out a (l ∷ ls) m = ⊎_elim (λ e. Memᴰ.head e) (λ k. Memᴰ.tail (ordered_out a ls k)) (put_member l (ordered ls) a m)

-- ---- which is put in first makes no difference where they stand at different places

pub put_front : (l c : Loan) (ls : List Loan) → begins l < begins c → put_loan l (c ∷ ls) ≡ l ∷ c ∷ ls
put_front l c ls h = rw (lt-ltb (begins l) (begins c) h)

pub put_past : (l c : Loan) (ls : List Loan) → begins c ≤ begins l → put_loan l (c ∷ ls) ≡ c ∷ put_loan l ls
put_past l c ls h = rw (le-ltb (begins l) (begins c) h)

put_less : (a b : Loan) (ls : List Loan) → begins a < begins b → put_loan a (put_loan b ls) ≡ put_loan b (put_loan a ls)
put_less a b [] h = put_front a b [] h ∙ sym (put_past b a [] (omega arith))
put_less a b (c ∷ ls) h = go (lt_or_le (begins b) (begins c)) (lt_or_le (begins a) (begins c)) (put_less a b ls h)
  where
    go : (begins b < begins c) ⊎ (begins c ≤ begins b) → (begins a < begins c) ⊎ (begins c ≤ begins a) → put_loan a (put_loan b ls) ≡ put_loan b (put_loan a ls) → put_loan a (put_loan b (c ∷ ls)) ≡ put_loan b (put_loan a (c ∷ ls))
    go (inl q) p ih =
        ap (put_loan a) (put_front b c ls q)
        ∙ put_front a b (c ∷ ls) h
        ∙ ap (λ (xs : List Loan). a ∷ xs) (sym (put_front b c ls q))
        ∙ sym (put_past b a (c ∷ ls) (omega arith))
        ∙ ap (put_loan b) (sym (put_front a c ls (omega arith)))
    go (inr q) (inl p) ih =
        ap (put_loan a) (put_past b c ls q)
        ∙ put_front a c (put_loan b ls) p
        ∙ ap (λ (xs : List Loan). a ∷ xs) (sym (put_past b c ls q))
        ∙ sym (put_past b a (c ∷ ls) (omega arith))
        ∙ ap (put_loan b) (sym (put_front a c ls p))
    go (inr q) (inr p) ih =
        ap (put_loan a) (put_past b c ls q)
        ∙ put_past a c (put_loan b ls) p
        ∙ ap (λ (xs : List Loan). c ∷ xs) ih
        ∙ sym (put_past b c (put_loan a ls) q)
        ∙ ap (put_loan b) (sym (put_past a c ls p))

pub put_swap : (a b : Loan) (ls : List Loan) → (begins a ≡ begins b → ⊥) → put_loan a (put_loan b ls) ≡ put_loan b (put_loan a ls)
put_swap a b ls n =
    ⊎_elim (λ h. put_less a b ls h)
    (λ h. ⊎_elim (λ k. sym (put_less b a ls k)) (λ k. absurd (n (omega arith))) (lt_or_le (begins b) (begins a)))
    (lt_or_le (begins a) (begins b))

-- one that stands amid others at a place of its own is put among them in the end
pub ordered_amid : (l : Loan) (xs ys : List Loan) → All (λ (d : Loan). begins d ≡ begins l → ⊥) xs → ordered (xs ++ (l ∷ ys)) ≡ put_loan l (ordered (xs ++ ys))
unfolding ordered
ordered_amid l [] ys h = refl
ordered_amid l (x ∷ xs) ys h =
    ap (put_loan x) (ordered_amid l xs ys (λ d m. h d (Memᴰ.tail m)))
    ∙ put_swap x l (ordered (xs ++ ys)) (h x (Memᴰ.head refl))

-- ---- how many they are

pub put_length : (l : Loan) (ls : List Loan) → length (put_loan l ls) ≡ length ls + 1
put_length l [] = refl
put_length l (m ∷ ms) = ⊎_elim (λ e. rw e (omega arith)) (λ e. rw e (omega (arith, put_length l ms))) (told (ltb (begins l) (begins m)))

pub ordered_length : (ls : List Loan) → length (ordered ls) ≡ length ls
unfolding ordered
ordered_length [] = refl
ordered_length (l ∷ ls) = omega (arith, put_length l (ordered ls), ordered_length ls)
