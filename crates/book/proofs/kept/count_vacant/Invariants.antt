use Rattle.std.proofs.Common.{◌≡◌, ◌≤◌}
use Rattle.slabs.specs.Slab.{vacant_at}
use Rattle.slabs.specs.Test.{vacancies}
use Rattle.store_rules.specs.Loans.{loan_words, size_at}
use Rattle.book.proofs.kept.count_vacant.Given as goal

abbrev pub invariant-loop-p : goal.invariant-loop-p
invariant-loop-p l = (l.count ≤ l.p) × (l.count ≡ vacancies (vacant_at l.loans size_at loan_words) l.p)
