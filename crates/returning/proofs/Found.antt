-- A word that leads to a loan is one of the index, and the loan one of the book's.
use mathlib.Core.Path.{◌≡◌, refl, ◌∙◌}
use mathlib.Core.Bool.{Bool, true, false, cond}
use mathlib.Core.List.{List}
use Prim.Native.Nat.{ℕ, zero, suc, ◌%◌, ◌≤◌, ◌<◌}
use native.Mathlib.Omega.{arith}
use native.Mathlib.Nat.{mod-lt}
use lib.Dec.{eqb, ltb}
use lib.ListN.{length}
use borrow.Author.Tests.{ltb-true}
use Rattle.words.specs.Words.{cell_of}
use Rattle.slabs.specs.Slab.{nowhere}
use Rattle.store_rules.specs.Loans.{loan_words, size_at}
use Rattle.book_rules.specs.Book.{index_words, first_of, next_of, led_to, serial_of, seek_in, word_to}
use Rattle.book_rules.specs.Ready.{Reads}

module _ (loans index : List ℕ) (n places serial : ℕ) (few : places ≤ n) where
  -- the word w leads to a place
  abbrev Leads : ℕ → Type 0
  Leads w = (w < index_words n) × (led_to index w < places)

  -- by what is tested at the word `at`, and r behind it
  by : (at r : ℕ) → at < index_words n → (x y : Bool) → ltb (led_to index at) places ≡ x → ((r ≡ nowhere → ⊥) → led_to index at < places → Leads r)
      → (cond x (cond y at r) nowhere ≡ nowhere → ⊥) → Leads (cond x (cond y at r) nowhere)
  by at r h true true e rest o = (h, ltb-true (led_to index at) places e)
  by at r h true false e rest o = rest o (ltb-true (led_to index at) places e)
  by at r h false y e rest o = absurd (o refl)

  leads : (at k : ℕ) → at < index_words n → (seek_in loans index places serial at k ≡ nowhere → ⊥) → Leads (seek_in loans index places serial at k)
  unfolding seek_in
  leads at zero h o = absurd (o refl)
  leads at (suc k) h o =
      by at (seek_in loans index places serial (next_of (led_to index at)) k) h (ltb (led_to index at) places) (eqb (serial_of loans (led_to index at)) serial) refl
      (λ q l. leads (next_of (led_to index at)) k (omega arith) q) o

  word_leads : 0 < n → (word_to loans index n places serial ≡ nowhere → ⊥) → Leads (word_to loans index n places serial)
  unfolding word_to
  word_leads some o = leads (first_of (serial % n)) places (omega (arith, mod-lt serial some)) o

module _ (loans index : List ℕ) (n places serial : ℕ) (reads : Reads n places loans index) (w : ℕ) (found : w ≡ word_to loans index n places serial) (other : w ≡ nowhere → ⊥) where
  there : (w < index_words n) × (led_to index w < places)
  there = rw found (word_leads loans index n places serial reads.few reads.some (λ e. other (found ∙ e)))

  pub word_in : w < length index
  word_in = omega (arith, there.0, reads.index_long)

  pub loan_in_lem : (p : ℕ) → p ≡ led_to index w → cell_of size_at loan_words p < length loans
  loan_in_lem p e = omega (arith, there.1, e, reads.few, reads.loans_long)
