-- The loan at a place in use is one of the store's loans, and a block that is on loan is one of them.
use mathlib.Core.Path.{◌≡◌, sym, ap, subst, ◌∙◌}
use mathlib.Core.Bool.{true, false, not}
use mathlib.Core.List.{Memᴰ}
use Prim.Native.Nat.{ℕ, ◌+◌, ◌<◌}
use native.Mathlib.Omega.{arith}
use lib.Dec.{eqb}
use lib.ListN.{length, get_or}
use borrow.Author.Tests.{eqb-false}
use Rattle.lists.proofs.Bools.{and_left, and_right, not_yes}
use Rattle.words.specs.Rows.{row, rows}
use Rattle.words.proofs.Records.{length_rows, get_d_rows, cell_row}
use Rattle.counter.specs.InTable.{FreeListIn}
use Rattle.counter.specs.declared.answers.Block.{Block}
use Rattle.counter.specs.declared.settings.FreeListSettings.{FreeListSettings}
use Rattle.slabs.specs.Slab.{nowhere}
use Rattle.store_rules.specs.Loans.{loan_words, size_at, loan_row, on_loan, loans_of}
use Rattle.store_rules.specs.declared.Loan.{Loan}
use Rattle.book_rules.specs.Book.{led_to, serial_of}
use Rattle.freelist_rules.specs.Records.{region}
use Rattle.freelist_rules.specs.Pieces.{piece}
use Rattle.freelist_rules.specs.Seek.{same_loan}
use Rattle.freelist_rules.specs.Steps.{no_loan}
use Rattle.freelist_rules.specs.Tables.{Tables, places_in, store_of, vacant_in, SoundTables, given_in}
use Rattle.freelist_rules.proofs.Base.{at_in}
use Rattle.freelist_rules.proofs.Giving.{mem_at}
use Rattle.freelist_rules.proofs.Ordered.{ordered_in, on_loan_in}
use Rattle.freelist_rules.proofs.Search.{same_loan_lem}
use Rattle.freelist_outcomes.specs.Return.{word_for, on_loan_ok}
use Rattle.book_rules.proofs.Uses.{leads_used}

-- ---- a place in use

module _ (s : FreeListSettings) (t : Tables) where
  pub used_loan : (p : ℕ) → p < places_in t → vacant_in t p ≡ false → Memᴰ (row loan_row p t.loans) (store_of s t).loans
  unfolding store_of loans_of
  used_loan p h u =
      let ls = rows loan_row (places_in t) t.loans in
      let l = row loan_row p t.loans in
      let m : Memᴰ (get_or ls p no_loan) ls = at_in p ls no_loan (omega (arith, length_rows loan_row (places_in t) t.loans)) in
      let k : Memᴰ l ls = subst (λ (d : Loan). Memᴰ d ls) (get_d_rows loan_row (places_in t) p t.loans no_loan h) m in
      ordered_in l (on_loan ls) (on_loan_in l ls k (ap (λ (n : ℕ). eqb n 0) (sym (cell_row t.loans size_at loan_words p)) ∙ u))

  -- ---- a block on loan

  -- which of the loans it is
  pub record Stands (b : Block) : Type 0 where
    pub rank : ℕ
    pub here : rank < length (store_of s t).loans
    pub same : same_loan b (get_or (store_of s t).loans rank no_loan) ≡ true

  -- the word that leads to its serial leads to a place in use that has it
  pub block_leads : FreeListIn s → SoundTables s t → (b : Block) → on_loan_ok s b t ≡ true
      → (led_to t.index (word_for s b t) < places_in t)
      × (vacant_in t (led_to t.index (word_for s b t)) ≡ false)
      × (serial_of t.loans (led_to t.index (word_for s b t)) ≡ b.serial)
  unfolding on_loan_ok
  block_leads fit sound b e =
      let w = word_for s b t in
      let l = row loan_row (led_to t.index w) t.loans in
      let there = eqb-false w nowhere (not_yes (eqb w nowhere) (and_left (not (eqb w nowhere)) (same_loan b l) e)) in
      leads_used t.loans t.index s.store.loans (places_in t) (given_in t) b.serial fit.store.loans_some (omega (arith, sound.parted.limit, fit.store.loans_most_lem)) sound.chained there

  pub block_stands : FreeListIn s → SoundTables s t → (b : Block) → on_loan_ok s b t ≡ true → Stands b
  unfolding on_loan_ok
  block_stands fit sound b e =
      let w = word_for s b t in
      let p = led_to t.index w in
      let l = row loan_row p t.loans in
      let u = block_leads fit sound b e in
      let m = mem_at l (store_of s t).loans no_loan (used_loan p u.0 u.1) in
      record { rank = m.0; here = m.1; same = ap (same_loan b) m.2 ∙ and_right (not (eqb w nowhere)) (same_loan b l) e }

  pub block_piece : (b : Block) (w : Stands b) → piece (get_or (store_of s t).loans w.rank no_loan) ≡ region b.chunk b.offset (b.offset + b.size)
  block_piece b w = let e = same_loan_lem b (get_or (store_of s t).loans w.rank no_loan) w.same in (λ i. region (e.chunk i) (e.offset i) (e.offset i + e.size i))
