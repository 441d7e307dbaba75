-- What a user sees of a buddy store after an ask: a block lent is one loan more and changes no chunk; an order changes nothing.
use mathlib.Core.Path.{◌≡◌, sym, ap, subst, ◌∙◌}
use Prim.Native.Nat.{ℕ}
use Rattle.counter.specs.Paper as Paper
use Rattle.counter.specs.declared.account.Account.{Account}
use Rattle.counter.specs.declared.account.Order.{Order}
use Rattle.counter.specs.declared.settings.BuddySettings.{BuddySettings}
use Rattle.store_rules.specs.Outcomes.{Out}
use Rattle.store_rules.specs.Views.{block, Matches}
use Rattle.store_rules.specs.declared.Loan.{Loan}
use Rattle.store_rules.proofs.Amid.{Amid}
use Rattle.buddy_rules.specs.Tables.{Tables}
use Rattle.buddy_rules.specs.Views.{loans_in, chunks_in, view_of}
use Rattle.buddy_outcomes.specs.Ask.{size_for, level_for, grown_to, loan_from, taken_tables, ask_of}
use Rattle.buddy_outcomes.proofs.Comes.{taken_amid}
use Rattle.buddy_outcomes.proofs.Deliverable.{order_buying}
use Rattle.buddy_outcomes.proofs.Lendings.{ask_served, grown_view, taken_chunks}

module _ (s : BuddySettings) (a : Account) (size mask : ℕ) (t : Tables) where
  abbrev after : Tables
  after = (ask_of s a size mask t).tables

  -- after a block the loans are those before and one that matches the block, and the chunks are the same
  pub ask_view : (serial chunk offset len : ℕ) → (ask_of s a size mask t).said ≡ Paper.block serial chunk offset len
      → (l : Loan) × Matches (block serial chunk offset len) l × Amid l (view_of s t).loans (view_of s (ask_of s a size mask t).tables).loans
      × ((view_of s (ask_of s a size mask t).tables).chunks ≡ (view_of s t).chunks)
  ask_view serial chunk offset len q =
      let v = ask_served s a size mask t serial chunk offset len q in
      let e : after ≡ taken_tables s (size_for s size mask) (level_for s size mask) t v.level = ap (λ (r : Out Tables). r.tables) v.left in
      let g = taken_amid s t v.passed.lent.settings v.passed.lent.lengths v.passed.sound size mask v.level v.taken in (
        loan_from s (size_for s size mask) t v.level,
        record { serial = sym v.serial_is; chunk = sym v.chunk_is; offset = sym v.offset_is; size = sym v.len_is },
        subst (λ (u : Tables). Amid (loan_from s (size_for s size mask) t v.level) (loans_in t) (loans_in u)) (sym e) g,
        ap chunks_in e ∙ taken_chunks s size mask t v.level,
      )

  -- after an order nothing that is seen has changed
  pub order_view : (o : Order) → (ask_of s a size mask t).said ≡ Paper.order_of o → view_of s (ask_of s a size mask t).tables ≡ view_of s t
  order_view o q =
      let b = order_buying s a size mask t o.store o.size o.memtype o.map q in
      ap (λ (r : Out Tables). view_of s r.tables) b.leaves ∙ grown_view s (grown_to (level_for s size mask) t) t
