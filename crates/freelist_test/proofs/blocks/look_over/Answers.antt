use Rattle.std.proofs.Common.{◌≡◌, sym, ap, ◌∙◌, ◌+◌, arith, rules}
use Rattle.slabs.specs.Slab.{vacant_at}
use Rattle.slabs.specs.Test.{vacancies}
use Rattle.slabs.proofs.Steps.{vacancies_none}
use Rattle.store_rules.specs.Loans.{loan_words, size_at, loans_of}
use Rattle.book_rules.proofs.Following.{vacancies_most}
use Rattle.freelist_rules.specs.Walk.{all_ok, loan_ok}
use Rattle.freelist_test.specs.Parts.{counted}
use Rattle.freelist_test.proofs.Groups.{none_told, some_told}
use Rattle.freelist_test.proofs.Turns.{loans_start, loan_next, loans_end, vacant_next}
use Rattle.freelist_test.proofs.blocks.look_over.Goals as goal

pub loop-p-init : goal.loop-p-init
loop-p-init c =
    let a = c.args in
    (sym (vacancies_none _), loans_start (loan_ok a.s (counted a.given 0 0)) a.loans.now a.n)

pub overflow_add-vacant : goal.overflow_add-vacant
overflow_add-vacant c =
    let a = c.args in
    omega (
      arith,
      vacant_next a.loans.now c.loop-p.p c.loan_in-l.result c.loop-p.vacant c.vacancy-vacant.result c.loan_in-l.ensures c.loop-p.invariant.0 c.vacancy-vacant.ensures,
      vacancies_most (vacant_at a.loans.now size_at loan_words) (c.loop-p.p + 1),
    )

pub loop-p-preserved : goal.loop-p-preserved
loop-p-preserved c =
    let a = c.args in (
      vacant_next a.loans.now c.loop-p.p c.loan_in-l.result c.loop-p.vacant c.vacancy-vacant.result c.loan_in-l.ensures c.loop-p.invariant.0 c.vacancy-vacant.ensures,
      loan_next (loan_ok a.s (counted a.given 0 0)) a.loans.now a.n c.loop-p.p (search rules) c.loan_in-l.result c.is_loan.result c.loan_in-l.ensures c.is_loan.ensures _ c.loop-p.ok c.loop-p.invariant.1,
    )

pub returns-then-ok : goal.returns-then-ok
returns-then-ok c =
    let a = c.args in
    let e : c.loop-p.p ≡ a.n = omega arith in
    let all = loans_end (loan_ok a.s (counted a.given 0 0)) a.loans.now a.n c.loop-p.p (search rules) _ c.loop-p.ok c.loop-p.invariant.1 in
    some_told (all_ok (loan_ok a.s (counted a.given 0 0)) (loans_of a.n a.loans.now)) (vacancies (vacant_at a.loans.now size_at loan_words) a.n) (sym all ∙ c.if-ok.true) _ (c.loop-p.invariant.0 ∙ ap (vacancies (vacant_at a.loans.now size_at loan_words)) e)

pub returns-else-ok : goal.returns-else-ok
returns-else-ok c =
    let a = c.args in
    let all = loans_end (loan_ok a.s (counted a.given 0 0)) a.loans.now a.n c.loop-p.p (search rules) _ c.loop-p.ok c.loop-p.invariant.1 in
    none_told (all_ok (loan_ok a.s (counted a.given 0 0)) (loans_of a.n a.loans.now)) (vacancies (vacant_at a.loans.now size_at loan_words) a.n) (sym c.if-ok.false ∙ all)
