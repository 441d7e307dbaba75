-- The loans and the chunks that a buddy store's user sees are those that its tables show.
use mathlib.Core.Path.{◌≡◌, refl, sym, ap, subst, ◌∙◌}
use mathlib.Core.Bool.{Bool, true, false, cond, not}
use mathlib.Core.Logic.{◌⊎◌, inl, inr, ⊎_elim}
use mathlib.Core.List.Memᴰ
use mathlib.Core.List.{List, [], ◌∷◌, ◌++◌, Memᴰ}
use Prim.Native.Nat.{ℕ, zero, suc, ◌<◌}
use native.Mathlib.Omega.{arith}
use lib.Dec.{eqb, ltb}
use borrow.Author.Tests.{lt-ltb, ltb-true}
use Rattle.lists.proofs.Bools.{same?, and_left, and_right, and_both, not_yes}
use Rattle.words.specs.Rows.{row}
use Rattle.words.proofs.Records.{cell_row}
use Rattle.store_rules.specs.Loans.{loan_words, size_at, loan_row}
use Rattle.store_rules.specs.Views.{chunk}
use Rattle.store_rules.specs.declared.Chunk.{Chunk}
use Rattle.store_rules.specs.declared.Loan.{Loan}
use Rattle.store_rules.proofs.Placed.{loan_place_lem, place_loan}
use Rattle.buddy_rules.specs.Tables.{Tables, places_in, chunk_places_in, loan_cell, live_in, held_in, memory_in, chunk_size_in}
use Rattle.buddy_rules.specs.Views.{loans_in, chunks_of, chunks_in}

module _ (t : Tables) where
  -- ---- loans

  -- the loan at a place
  abbrev pub loan_at : ℕ → Loan
  loan_at k = row loan_row k t.loans

  size_at_lem : (k : ℕ) → loan_cell t size_at k ≡ (loan_at k).size
  size_at_lem k = cell_row t.loans size_at loan_words k

  -- one on loan is seen
  pub live_loan : (k : ℕ) → live_in t k ≡ true → Memᴰ (loan_at k) (loans_in t)
  live_loan k h =
      let a = ltb k (places_in t) in
      let z = eqb (loan_cell t size_at k) 0 in
      place_loan (places_in t) t.loans k (ltb-true k (places_in t) (and_left a (not z) h)) (ap (λ (n : ℕ). eqb n 0) (sym (size_at_lem k)) ∙ not_yes z (and_right a (not z) h))

  -- and what is seen stands at a place
  pub loan_live : (l : Loan) → Memᴰ l (loans_in t) → (k : ℕ) × (live_in t k ≡ true) × (loan_at k ≡ l)
  loan_live l m =
      let w = loan_place_lem (places_in t) t.loans l m in
      let z : eqb (loan_cell t size_at w.0) 0 ≡ false = ap (λ (n : ℕ). eqb n 0) (size_at_lem w.0 ∙ ap (λ (d : Loan). d.size) w.2) ∙ w.3 in
      (w.0, and_both _ _ (lt-ltb w.0 (places_in t) w.1) (ap not z), w.2)

  -- ---- chunks

  -- the chunk at a place
  abbrev pub chunk_at : ℕ → Chunk
  chunk_at c = chunk c (memory_in t c) (chunk_size_in t c)

  abbrev here : ℕ → List Chunk
  here n = cond (held_in t n) (chunk_at n ∷ []) []

  here_in : (n : ℕ) → held_in t n ≡ true → Memᴰ (chunk_at n) (here n)
  here_in n h = rw h (Memᴰ.head refl)

  in_here : (n : ℕ) (d : Chunk) → Memᴰ d (here n) → (held_in t n ≡ true) × (d ≡ chunk_at n)
  in_here n d m = go (held_in t n) refl m
    where
      go : (b : Bool) → held_in t n ≡ b → Memᴰ d (cond b (chunk_at n ∷ []) []) → (held_in t n ≡ true) × (d ≡ chunk_at n)
      go true e k = (e, ⊎_elim (λ q. q) (λ q. absurd (Memᴰ.not-nil q)) (Memᴰ.cases_cons k))
      go false e k = absurd (Memᴰ.not-nil k)

  -- one that is held at the first n places is among theirs
  pub held_chunk : (n c : ℕ) → c < n → held_in t c ≡ true → Memᴰ (chunk_at c) (chunks_of t n)
  unfolding chunks_of
  held_chunk zero c l h = absurd (omega arith)
  held_chunk (suc n) c l h = go (same? c n) (held_chunk n c)
    where
      go : (c ≡ n) ⊎ (c ≡ n → ⊥) → (c < n → held_in t c ≡ true → Memᴰ (chunk_at c) (chunks_of t n)) → Memᴰ (chunk_at c) (chunks_of t n ++ here n)
      go (inl e) ih = Memᴰ.append_right (chunks_of t n) (subst (λ (x : ℕ). Memᴰ (chunk_at x) (here n)) (sym e) (here_in n (sym (ap (held_in t) e) ∙ h)))
      go (inr e) ih = Memᴰ.append_left (here n) (ih (omega arith) h)

  pub chunk_held : (n : ℕ) (d : Chunk) → Memᴰ d (chunks_of t n) → (d.number < n) × (held_in t d.number ≡ true) × (d ≡ chunk_at d.number)
  unfolding chunks_of
  chunk_held zero d m = absurd (Memᴰ.not-nil m)
  chunk_held (suc n) d m = ⊎_elim (λ k. let w = chunk_held n d k in (omega (arith, w.0), w.1, w.2)) last (Memᴰ.append_cases (chunks_of t n) m)
    where
      last : Memᴰ d (here n) → (d.number < suc n) × (held_in t d.number ≡ true) × (d ≡ chunk_at d.number)
      last k =
          let w = in_here n d k in
          let e : d.number ≡ n = ap (λ (x : Chunk). x.number) w.1 in
          (omega (arith, e), ap (held_in t) e ∙ w.0, w.1 ∙ ap chunk_at (sym e))

  -- of all places
  pub held_seen : (c : ℕ) → held_in t c ≡ true → Memᴰ (chunk_at c) (chunks_in t)
  held_seen c h = held_chunk (chunk_places_in t) c (ltb-true c (chunk_places_in t) (and_left _ _ h)) h

  pub seen_held : (d : Chunk) → Memᴰ d (chunks_in t) → (held_in t d.number ≡ true) × (d ≡ chunk_at d.number)
  seen_held d m = let w = chunk_held (chunk_places_in t) d m in (w.1, w.2)
