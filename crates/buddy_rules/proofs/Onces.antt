-- No loan and no chunk that a buddy store's user sees stands twice.
use mathlib.Core.Path.{◌≡◌, refl, sym, ap, ◌∙◌}
use mathlib.Core.Bool.{Bool, true, false, cond}
use mathlib.Core.Logic.{⊎_elim}
use mathlib.Core.List.Memᴰ
use mathlib.Core.List.{List, [], ◌∷◌, ◌++◌, Memᴰ}
use Prim.Native.Nat.{ℕ, zero, suc, ◌<◌}
use native.Mathlib.Omega.{arith}
use lib.Dec.{eqb}
use lib.ListN.{length, get_or}
use borrow.Author.Tests.{lt-ltb}
use Rattle.lists.proofs.Bools.{and_both}
use Rattle.words.specs.Rows.{rows}
use Rattle.words.proofs.Records.{length_rows, get_d_rows, cell_row}
use Rattle.counter.specs.InTable.{BuddyIn}
use Rattle.counter.specs.declared.settings.BuddySettings.{BuddySettings}
use Rattle.store_rules.specs.Loans.{loan_words, size_at, no_loan, loan_row, on_loan, loans_of}
use Rattle.store_rules.specs.declared.Chunk.{Chunk}
use Rattle.store_rules.specs.declared.Loan.{Loan}
use Rattle.store_rules.proofs.Placed.{mem_at, on_loan_out}
use Rattle.buddy_trees.proofs.Onces.{Once}
use Rattle.buddy_rules.specs.Tables.{Tables, places_in, chunk_places_in, loan_cell, live_in, held_in}
use Rattle.buddy_rules.specs.Sound.{Sound}
use Rattle.buddy_rules.specs.Views.{loans_in, chunks_of, chunks_in}
use Rattle.buddy_rules.proofs.Viewed.{loan_at, chunk_at, chunk_held}
use Rattle.buddy_rules.proofs.Named.{serial_place}

-- one more at the end
pub once_last : {A : Type 0} (xs : List A) (d : A) → Once xs → (Memᴰ d xs → ⊥) → Once (xs ++ (d ∷ []))
once_last [] d o n = (Memᴰ.not-nil, tt)
once_last (x ∷ xs) d o n = ((λ m. ⊎_elim o.0 last (Memᴰ.append_cases xs m)), once_last xs d o.1 (λ m. n (Memᴰ.tail m)))
  where
    last : Memᴰ x (d ∷ []) → ⊥
    last m = ⊎_elim (λ e. n (Memᴰ.head (sym e))) (λ q. Memᴰ.not-nil q) (Memᴰ.cases_cons m)

-- ---- loans

-- no two places have the same record of a loan
abbrev Alone : List Loan → Type 0
Alone ls = (i j : ℕ) → i < length ls → j < length ls → eqb (get_or ls i no_loan).size 0 ≡ false → get_or ls i no_loan ≡ get_or ls j no_loan → i ≡ j

on_loan_once : (ls : List Loan) → Alone ls → Once (on_loan ls)
on_loan_once [] f = tt
on_loan_once (l ∷ ls) f = go (eqb l.size 0) refl (on_loan_once ls (λ i j h k z e. let q = f (suc i) (suc j) (omega arith) (omega arith) z e in omega (arith, q)))
  where
    go : (b : Bool) → eqb l.size 0 ≡ b → Once (on_loan ls) → Once (cond b (on_loan ls) (l ∷ on_loan ls))
    go true e o = o
    go false e o = ((λ m. let w = mem_at l ls no_loan (on_loan_out l ls m).0 in let q = f 0 (suc w.0) (omega arith) (omega (arith, w.1)) e (sym w.2) in omega (arith, q)), o)

module _ (s : BuddySettings) (t : Tables) (fit : BuddyIn s) (sound : Sound s t) where
  -- a loan is seen once, since its serial is its own
  pub loans_once : Once (loans_in t)
  unfolding loans_of
  loans_once = on_loan_once (rows loan_row (places_in t) t.loans) alone
    where
      at : (i : ℕ) → i < length (rows loan_row (places_in t) t.loans) → (i < places_in t) × (get_or (rows loan_row (places_in t) t.loans) i no_loan ≡ loan_at t i)
      at i h = let k : i < places_in t = omega (arith, h, length_rows loan_row (places_in t) t.loans) in (k, get_d_rows loan_row (places_in t) i t.loans no_loan k)

      live : (i : ℕ) → i < places_in t → eqb (loan_at t i).size 0 ≡ false → live_in t i ≡ true
      live i h z =
          let e : eqb (loan_cell t size_at i) 0 ≡ false = ap (λ (n : ℕ). eqb n 0) (cell_row t.loans size_at loan_words i) ∙ z in
          and_both _ _ (lt-ltb i (places_in t) h) (rw e refl)

      alone : Alone (rows loan_row (places_in t) t.loans)
      alone i j h k z e =
          let v = at i h in
          let w = at j k in
          let f : loan_at t i ≡ loan_at t j = sym v.1 ∙ e ∙ w.1 in
          let y : eqb (loan_at t i).size 0 ≡ false = ap (λ (d : Loan). eqb d.size 0) (sym v.1) ∙ z in
          serial_place s t fit sound i j (live i v.0 y) (live j w.0 (ap (λ (d : Loan). eqb d.size 0) (sym f) ∙ y)) (ap (λ (d : Loan). d.serial) f)

-- ---- chunks

module _ (t : Tables) where
  chunks_once_in : (n : ℕ) → Once (chunks_of t n)
  unfolding chunks_of
  chunks_once_in zero = tt
  chunks_once_in (suc n) = go (held_in t n) (chunks_once_in n)
    where
      new : Memᴰ (chunk_at t n) (chunks_of t n) → ⊥
      new m = let w = chunk_held t n (chunk_at t n) m in omega (arith, w.0)

      none : (xs : List Chunk) → Once xs → Once (xs ++ [])
      none [] o = tt
      none (x ∷ xs) o = ((λ m. ⊎_elim o.0 (λ q. Memᴰ.not-nil q) (Memᴰ.append_cases xs m)), none xs o.1)

      go : (b : Bool) → Once (chunks_of t n) → Once (chunks_of t n ++ cond b (chunk_at t n ∷ []) [])
      go true o = once_last (chunks_of t n) (chunk_at t n) o new
      go false o = none (chunks_of t n) o

  -- a chunk is seen once, since its number is its place
  pub chunks_once : Once (chunks_in t)
  chunks_once = chunks_once_in (chunk_places_in t)
