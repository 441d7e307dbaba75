use Rattle.std.proofs.Common.{ℕ, ◌-◌, sym, ap, ◌∙◌, arith}
use Rattle.lists.proofs.Bools.{true_false}
use Rattle.slabs.specs.Slab.{vacant_at}
use Rattle.store_rules.specs.Loans.{loan_words, size_at}
use Rattle.book_rules.proofs.Following.{vacancies_most}
use Rattle.book_rules.proofs.Keeping.{kept_over}
use Rattle.book.proofs.kept.are_kept.Goals as goal

pub returns-then-n-places-clause-live : goal.returns-then-n-places-clause-live
returns-then-n-places-clause-live c e = let a = c.args in true_false _ e (sym (kept_over a.loans.now a.index.now a.n a.places a.given (omega arith)))

pub overflow_sub-result : goal.overflow_sub-result
overflow_sub-result c =
    let a = c.args in
    omega (arith, c.count_vacant-vacant.ensures, vacancies_most (vacant_at a.loans.now size_at loan_words) a.places)

pub returns-then-led-clause-live : goal.returns-then-led-clause-live
returns-then-led-clause-live c =
    let a = c.args in
    (sym c.is_led-led.ensures ∙ c.if-led.true, ap (λ (x : ℕ). a.places - x) c.count_vacant-vacant.ensures)

pub returns-else-led-clause-live : goal.returns-else-led-clause-live
returns-else-led-clause-live c e = true_false _ (c.is_led-led.ensures ∙ e) c.if-led.false
