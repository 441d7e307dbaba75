-- Test 7 in the paper's words: it holds exactly when a loan has the block's serial, chunk, offset and size; and a loan's serial
-- was given.
use mathlib.Core.Path.{◌≡◌, refl, sym, ap, subst, ◌∙◌}
use mathlib.Core.Bool.{true, false, not}
use Prim.Native.Nat.{ℕ, ◌%◌, ◌≤◌, ◌<◌}
use native.Mathlib.Nat.{mod-lt}
use native.Mathlib.Omega.{arith}
use lib.Dec.{eqb, ltb}
use borrow.Author.Tests.{eqb-false, ne_eqb, lt-ltb, ltb-true}
use Rattle.lists.proofs.Bools.{and_left, and_right, and_both, not_yes}
use Rattle.words.specs.Rows.{row}
use Rattle.words.proofs.Records.{cell_row}
use Rattle.counter.specs.InTable.{BuddyIn}
use Rattle.counter.specs.declared.answers.Block.{Block}
use Rattle.counter.specs.declared.settings.BuddySettings.{BuddySettings}
use Rattle.slabs.specs.Slab.{nowhere}
use Rattle.store_rules.specs.Loans.{loan_words, serial_at, size_at, loan_row}
use Rattle.store_rules.specs.Views.{Matches, OnLoan, same_loan}
use Rattle.store_rules.proofs.Loaned.{same_loan_lem, loan_same}
use Rattle.book_rules.specs.Book.{index_words, led_to, serial_of, word_to}
use Rattle.book_rules.proofs.Falling.{falling_most}
use Rattle.book_rules.proofs.Keeps.{free_in, found}
use Rattle.book_rules.proofs.Uses.{leads_used}
use Rattle.buddy_rules.specs.Tables.{Tables, Lengths, given_in, places_in, loan_cell, live_in, chain_start, chain_next}
use Rattle.buddy_rules.specs.Sound.{Sound}
use Rattle.buddy_rules.specs.Views.{loans_in}
use Rattle.buddy_rules.proofs.Viewed.{loan_live}
use Rattle.buddy_outcomes.specs.Return.{word_for, on_loan_ok}

-- a place of a live loan is one in use, in the book's words, and back
pub live_used : (t : Tables) (k : ℕ) → live_in t k ≡ true → (k < places_in t) × (free_in t.loans k ≡ false)
live_used t k h =
    let a = ltb k (places_in t) in
    let z = eqb (loan_cell t size_at k) 0 in
    (ltb-true k (places_in t) (and_left a (not z) h), not_yes z (and_right a (not z) h))

pub used_live : (t : Tables) (k : ℕ) → k < places_in t → free_in t.loans k ≡ false → live_in t k ≡ true
used_live t k h u = and_both _ _ (lt-ltb k (places_in t) h) (ap not u)

-- a live loan's serial was given
pub live_given : (s : BuddySettings) (t : Tables) → BuddyIn s → Sound s t → (k : ℕ) → live_in t k ≡ true → serial_of t.loans k ≤ given_in t
live_given s t fit sound k h =
    let u = live_used t k h in
    let c = sound.chained (serial_of t.loans k % s.store.loans) (mod-lt (serial_of t.loans k) fit.store.loans_some) in
    falling_most (free_in t.loans) (chain_start t) (chain_next t) (serial_of t.loans) (given_in t) c.members c.falling k (c.all k u.0 u.1 refl)

-- a block on loan has a live place, whose words are the block's
pub lent_live : (t : Tables) (b : Block) → OnLoan b (loans_in t) → (k : ℕ) × (live_in t k ≡ true) × Matches b (row loan_row k t.loans)
lent_live t b w = let v = loan_live t w.0 w.1 in (v.0, v.1, subst (Matches b) (sym v.2) w.2)

module _ (s : BuddySettings) (t : Tables) (fit : BuddyIn s) (lengths : Lengths s t) (sound : Sound s t) (b : Block) where
  pub on_loan_is : on_loan_ok s b t ≡ true
      → (live_in t (led_to t.index (word_for s b t)) ≡ true)
      × Matches b (row loan_row (led_to t.index (word_for s b t)) t.loans)
  unfolding on_loan_ok
  on_loan_is e =
      let w = word_for s b t in
      let k = led_to t.index w in
      let l = row loan_row k t.loans in
      let there = eqb-false w nowhere (not_yes (eqb w nowhere) (and_left (not (eqb w nowhere)) (same_loan b l) e)) in
      let u = leads_used t.loans t.index s.store.loans (places_in t) (given_in t) b.serial fit.store.loans_some (omega (arith, sound.loans_parted.limit, fit.store.loans_most_lem)) sound.chained there in
      (used_live t k u.0 u.1, same_loan_lem b l (and_right (not (eqb w nowhere)) (same_loan b l) e))

  pub is_on_loan : (k : ℕ) → live_in t k ≡ true → Matches b (row loan_row k t.loans) → on_loan_ok s b t ≡ true
  unfolding on_loan_ok
  is_on_loan k h r =
      let n = s.store.loans in
      let u = live_used t k h in
      let serial : serial_of t.loans k ≡ b.serial = cell_row t.loans serial_at loan_words k ∙ r.serial in
      let f = found t.loans t.index n (places_in t) (given_in t) fit.store.loans_some sound.loans_parted.limit (omega (arith, fit.store.loans_most_lem)) sound.chained k u.0 u.1 in
      let g : (word_for s b t < index_words n) × (led_to t.index (word_for s b t) ≡ k) =
      subst (λ (x : ℕ). (word_to t.loans t.index n (places_in t) x < index_words n) × (led_to t.index (word_to t.loans t.index n (places_in t) x) ≡ k)) serial f in
      let there : not (eqb (word_for s b t) nowhere) ≡ true = ap not (ne_eqb (word_for s b t) nowhere (λ e. omega (arith, g.0, fit.store.loans_most_lem))) in
      let same : same_loan b (row loan_row (led_to t.index (word_for s b t)) t.loans) ≡ true =
      ap (λ (p : ℕ). same_loan b (row loan_row p t.loans)) g.1 ∙ loan_same b (row loan_row k t.loans) r in
      and_both _ _ there same
