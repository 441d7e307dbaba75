-- What a buddy store counts of its loans and chunks is what its user sees of them: how many, how many bytes, which memory
-- numbers.
use mathlib.Core.Path.{◌≡◌, refl, sym, ap, ◌∙◌, subst}
use mathlib.Core.Bool.{Bool, true, false, cond, not, ◌&&◌}
use mathlib.Core.List.{List, [], ◌∷◌, ◌++◌, map}
use Prim.Native.Nat.{ℕ, zero, suc, ◌+◌, ◌≤◌}
use native.Mathlib.Omega.{arith}
use lib.Dec.{eqb}
use lib.ListN.{length, length-append}
use borrow.Author.Tests.{lt-ltb}
use Rattle.words.specs.Rows.{row, rows}
use Rattle.words.proofs.Records.{rows_snoc, cell_row}
use Rattle.store_rules.specs.Loans.{loan_words, size_at, loan_row, on_loan, loans_of}
use Rattle.store_rules.specs.Views.{sizes}
use Rattle.store_rules.specs.declared.Chunk.{Chunk}
use Rattle.store_rules.specs.declared.Loan.{Loan}
use Rattle.store_rules.proofs.Placed.{on_loan_append}
use Rattle.buddy_rules.specs.Tables.{Tables, places_in, live_in, loan_cell, chunk_places_in, chunk_size_in, memory_in, held_in, memories}
use Rattle.buddy_rules.specs.Views.{loans_in, chunks_of, chunks_in}
use Rattle.buddy_rules.proofs.Viewed.{chunk_at}
use Rattle.buddy_outcomes.specs.Gate.{held_count, held_bytes}
use Rattle.buddy_outcomes.specs.Refusals.{live_count}

-- ---- lists one after the other

-- their bytes
pub sizes_append : (cs ds : List Chunk) → sizes (cs ++ ds) ≡ sizes cs + sizes ds
sizes_append [] ds = omega arith
sizes_append (c ∷ cs) ds = omega (arith, sizes_append cs ds)

-- their memory numbers
abbrev pub memories_of : List Chunk → List ℕ
memories_of cs = map (λ (c : Chunk). c.memory) cs

memories_append : (cs ds : List Chunk) → memories_of (cs ++ ds) ≡ memories_of cs ++ memories_of ds
memories_append [] ds = refl
memories_append (c ∷ cs) ds = ap (λ (ms : List ℕ). c.memory ∷ ms) (memories_append cs ds)

module _ (t : Tables) where
  -- ---- those at the first n places

  count_of : (n : ℕ) → length (chunks_of t n) ≡ held_count t n
  unfolding chunks_of held_count
  count_of zero = refl
  count_of (suc n) = go (held_in t n) (count_of n)
    where
      go : (b : Bool) → length (chunks_of t n) ≡ held_count t n → length (chunks_of t n ++ cond b (chunk_at t n ∷ []) []) ≡ held_count t n + cond b 1 0
      go true ih = omega (arith, ih, length-append (chunks_of t n) (chunk_at t n ∷ []))
      go false ih = omega (arith, ih, length-append (chunks_of t n) [])

  bytes_of : (n : ℕ) → sizes (chunks_of t n) ≡ held_bytes t n
  unfolding chunks_of held_bytes
  bytes_of zero = refl
  bytes_of (suc n) = go (held_in t n) (bytes_of n)
    where
      go : (b : Bool) → sizes (chunks_of t n) ≡ held_bytes t n → sizes (chunks_of t n ++ cond b (chunk_at t n ∷ []) []) ≡ held_bytes t n + cond b (chunk_size_in t n) 0
      go true ih = omega (arith, ih, sizes_append (chunks_of t n) (chunk_at t n ∷ []))
      go false ih = omega (arith, ih, sizes_append (chunks_of t n) [])

  -- the memory numbers of the chunks at the first n places
  pub memories_of_lem : (n : ℕ) → memories t n ≡ map (λ (c : Chunk). c.memory) (chunks_of t n)
  unfolding chunks_of memories
  memories_of_lem zero = refl
  memories_of_lem (suc n) = go (held_in t n) (memories_of_lem n)
    where
      go : (b : Bool) → memories t n ≡ memories_of (chunks_of t n) → memories t n ++ cond b (memory_in t n ∷ []) [] ≡ memories_of (chunks_of t n ++ cond b (chunk_at t n ∷ []) [])
      go true ih = ap (λ (ms : List ℕ). ms ++ (memory_in t n ∷ [])) ih ∙ sym (memories_append (chunks_of t n) (chunk_at t n ∷ []))
      go false ih = ap (λ (ms : List ℕ). ms ++ []) ih ∙ sym (memories_append (chunks_of t n) [])

  -- the loans there, where all of them are places that were used
  loans_of_lem : (n : ℕ) → n ≤ places_in t → length (on_loan (rows loan_row n t.loans)) ≡ live_count t n
  unfolding live_count
  loans_of_lem zero h = refl
  loans_of_lem (suc n) h =
      let r : Loan = row loan_row n t.loans in
      let one : n + 1 ≡ suc n = omega arith in
      let more : rows loan_row (suc n) t.loans ≡ rows loan_row n t.loans ++ (r ∷ [])
      = subst (λ (k : ℕ). rows loan_row k t.loans ≡ rows loan_row n t.loans ++ (r ∷ [])) one (rows_snoc loan_row n t.loans) in
      let size : eqb r.size 0 ≡ eqb (loan_cell t size_at n) 0 = ap (λ (z : ℕ). eqb z 0) (sym (cell_row t.loans size_at loan_words n)) in
      let live : not (eqb (loan_cell t size_at n) 0) ≡ live_in t n = ap (λ (b : Bool). b && not (eqb (loan_cell t size_at n) 0)) (sym (lt-ltb n (places_in t) (omega (arith, h)))) in
      ap (λ (ls : List Loan). length (on_loan ls)) more
      ∙ ap length (on_loan_append (rows loan_row n t.loans) (r ∷ []))
      ∙ ap (λ (b : Bool). length (on_loan (rows loan_row n t.loans) ++ cond b [] (r ∷ []))) size
      ∙ go r (eqb (loan_cell t size_at n) 0) (loans_of_lem n (omega (arith, h)))
      ∙ ap (λ (b : Bool). live_count t n + cond b 1 0) live
    where
      go : (r : Loan) (b : Bool) → length (on_loan (rows loan_row n t.loans)) ≡ live_count t n
          → length (on_loan (rows loan_row n t.loans) ++ cond b [] (r ∷ [])) ≡ live_count t n + cond (not b) 1 0
      go r true ih = omega (arith, ih, length-append (on_loan (rows loan_row n t.loans)) [])
      go r false ih = omega (arith, ih, length-append (on_loan (rows loan_row n t.loans)) (r ∷ []))

  -- ---- the store's

  -- as many loans are seen as are counted
  pub loans_is : length (loans_in t) ≡ live_count t (places_in t)
  unfolding loans_of
  loans_is = loans_of_lem (places_in t) (omega arith)

  -- as many chunks are seen as are counted
  pub count_is : length (chunks_in t) ≡ held_count t (chunk_places_in t)
  count_is = count_of (chunk_places_in t)

  -- with as many bytes
  pub bytes_is : sizes (chunks_in t) ≡ held_bytes t (chunk_places_in t)
  bytes_is = bytes_of (chunk_places_in t)

  -- and the same memory numbers
  pub memories_is : memories t (chunk_places_in t) ≡ map (λ (c : Chunk). c.memory) (chunks_in t)
  memories_is = memories_of_lem (chunk_places_in t)
