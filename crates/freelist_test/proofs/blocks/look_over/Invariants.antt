use Rattle.std.proofs.Common.{◌≡◌, ◌&&◌}
use Rattle.slabs.specs.Slab.{vacant_at}
use Rattle.slabs.specs.Test.{vacancies}
use Rattle.store_rules.specs.Loans.{loan_words, size_at, loans_of}
use Rattle.freelist_rules.specs.Walk.{all_ok, loan_ok}
use Rattle.freelist_test.specs.Parts.{counted}
use Rattle.freelist_test.proofs.Turns.{loans_from}
use Rattle.freelist_test.proofs.blocks.look_over.Given as goal

abbrev pub invariant-loop-p : goal.invariant-loop-p
invariant-loop-p l =
    (l.vacant ≡ vacancies (vacant_at l.loans size_at loan_words) l.p)
    × (all_ok (loan_ok l.s (counted l.given 0 0)) (loans_of l.n l.loans) ≡ (l.ok && loans_from (loan_ok l.s (counted l.given 0 0)) l.loans l.n l.p))
