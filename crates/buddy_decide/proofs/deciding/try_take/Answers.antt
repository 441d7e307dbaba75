use mathlib.Core.Path.{refl, sym, ◌∙◌}
use Rattle.buddy_decide.proofs.Tests.{left_no, left_yes, pairs_are, take_full, take_none, take_spent, take_go}
use borrow.Author.Rules.{rules}
use Rattle.buddy_decide.proofs.deciding.try_take.Goals as goal

pub returns-then-own-loan : goal.returns-then-own-loan
returns-then-own-loan c =
    let a = c.args in
    λ chunks. (λ h objects. take_full a.v.now.settings a.level a.v.now.head.now a.v.now.loans.now chunks a.v.now.index.now a.v.now.tree.now a.from (left_no a.v.now.settings a.level a.v.now.head.now a.v.now.loans.now chunks a.v.now.index.now a.v.now.tree.now _ c.next_loan-loan.ensures c.if-own-loan.true), refl)

pub has_pairs-requires : goal.has_pairs-requires
has_pairs-requires c = record { pairs_le_pairs_most = search rules; by_index = c.requires.0.takes }

pub returns-then-not-has_pairs : goal.returns-then-not-has_pairs
returns-then-not-has_pairs c =
    let a = c.args in
    λ chunks. (λ h objects. take_none a.v.now.settings a.level a.v.now.head.now a.v.now.loans.now chunks a.v.now.index.now a.v.now.tree.now a.from (left_yes a.v.now.settings a.level a.v.now.head.now a.v.now.loans.now chunks a.v.now.index.now a.v.now.tree.now _ c.next_loan-loan.ensures c.if-own-loan.false) (sym (pairs_are a.v.now.settings a.level a.v.now.head.now a.v.now.loans.now chunks a.v.now.index.now a.v.now.tree.now _ _ _ refl c.has_pairs.ensures) ∙ c.if-not-has_pairs.true), refl)

pub returns-then-v : goal.returns-then-v
returns-then-v c =
    let a = c.args in
    λ chunks. (λ h objects. take_spent a.v.now.settings a.level a.v.now.head.now a.v.now.loans.now chunks a.v.now.index.now a.v.now.tree.now a.from _ (left_yes a.v.now.settings a.level a.v.now.head.now a.v.now.loans.now chunks a.v.now.index.now a.v.now.tree.now _ c.next_loan-loan.ensures c.if-own-loan.false) (sym (pairs_are a.v.now.settings a.level a.v.now.head.now a.v.now.loans.now chunks a.v.now.index.now a.v.now.tree.now _ _ _ refl c.has_pairs.ensures) ∙ c.if-not-has_pairs.false) refl c.if-v.true, refl)

pub returns : goal.returns
returns c =
    let a = c.args in
    λ chunks. (λ h objects. take_go a.v.now.settings a.level a.v.now.head.now a.v.now.loans.now chunks a.v.now.index.now a.v.now.tree.now a.from _ (left_yes a.v.now.settings a.level a.v.now.head.now a.v.now.loans.now chunks a.v.now.index.now a.v.now.tree.now _ c.next_loan-loan.ensures c.if-own-loan.false) (sym (pairs_are a.v.now.settings a.level a.v.now.head.now a.v.now.loans.now chunks a.v.now.index.now a.v.now.tree.now _ _ _ refl c.has_pairs.ensures) ∙ c.if-not-has_pairs.false) refl (search rules), record { size = refl; level = refl; pair = c.requires.3; loan = c.next_loan-loan.ensures })
