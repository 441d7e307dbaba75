use Rattle.std.proofs.Common.{sym, refl, ◌∙◌, arith}
use Rattle.slabs.specs.Slab.{vacant_at}
use Rattle.slabs.specs.Test.{vacancies}
use Rattle.store_rules.specs.Loans.{loan_words, size_at, loans_of}
use Rattle.book_rules.proofs.Following.{vacancies_most}
use Rattle.freelist_rules.specs.Seen.{seen}
use Rattle.freelist_rules.specs.Walk.{all_ok, loan_ok}
use Rattle.freelist_rules.proofs.Fits.{lengths_are}
use Rattle.freelist_test.specs.Parts.{counted, lent_ok, live_count}
use Rattle.freelist_test.proofs.Groups.{none_told, some_told, told_none, told_some, lent_told, lent_not, lent_over, live_told}
use Rattle.freelist_test.proofs.loans.are_lent.Goals as goal

pub returns-then-most-places : goal.returns-then-most-places
returns-then-most-places c =
    let t = c.args.t.now in
    none_told (lent_ok t.settings t.loans.now t.index.now) (live_count t.loans.now) (lent_over t.settings t.loans.now t.index.now c.word-places.result c.word-places.ensures (omega arith))

pub look_over-requires : goal.look_over-requires
look_over-requires c =
    let t = c.args.t.now in
    (t.in_table, omega (arith, t.in_table.store.loans_most_lem), omega (arith, (lengths_are t.settings (seen t) c.requires).loans))

pub returns-in_err-vacant : goal.returns-in_err-vacant
returns-in_err-vacant c =
    let t = c.args.t.now in
    let tested = all_ok (loan_ok t.settings (counted c.word-given.result 0 0)) (loans_of c.word-places.result t.loans.now) in
    let failed = told_none tested (vacancies (vacant_at t.loans.now size_at loan_words) c.word-places.result) c.look_over.result c.look_over.ensures c.in_err-vacant.was in
    rw c.from_residual.ensures (none_told (lent_ok t.settings t.loans.now t.index.now) (live_count t.loans.now) (lent_not t.settings t.loans.now t.index.now c.word-places.result c.word-given.result c.word-places.ensures c.word-given.ensures tested refl failed))

pub is_led-requires : goal.is_led-requires
is_led-requires c =
    let t = c.args.t.now in
    let long = lengths_are t.settings (seen t) c.requires in
    let tested = all_ok (loan_ok t.settings (counted c.word-given.result 0 0)) (loans_of c.word-places.result t.loans.now) in (
      record {
        some = t.in_table.store.loans_some;
        most = t.in_table.store.loans_most_lem;
        loans_long = long.loans;
        index_long = omega (arith, long.index);
        few = omega arith;
      },
      (told_some tested (vacancies (vacant_at t.loans.now size_at loan_words) c.word-places.result) c.look_over.result c.look_over.ensures c.in_ok-vacant.vacant c.in_ok-vacant.was).1,
    )

pub overflow_sub-result : goal.overflow_sub-result
overflow_sub-result c =
    let t = c.args.t.now in
    let tested = all_ok (loan_ok t.settings (counted c.word-given.result 0 0)) (loans_of c.word-places.result t.loans.now) in
    let many = told_some tested (vacancies (vacant_at t.loans.now size_at loan_words) c.word-places.result) c.look_over.result c.look_over.ensures c.in_ok-vacant.vacant c.in_ok-vacant.was in
    omega (arith, many.1, vacancies_most (vacant_at t.loans.now size_at loan_words) c.word-places.result)

pub returns-then-is_led : goal.returns-then-is_led
returns-then-is_led c =
    let t = c.args.t.now in
    let tested = all_ok (loan_ok t.settings (counted c.word-given.result 0 0)) (loans_of c.word-places.result t.loans.now) in
    let many = told_some tested (vacancies (vacant_at t.loans.now size_at loan_words) c.word-places.result) c.look_over.result c.look_over.ensures c.in_ok-vacant.vacant c.in_ok-vacant.was in
    let led = lent_told t.settings t.loans.now t.index.now c.word-places.result c.word-given.result c.word-places.ensures c.word-given.ensures tested c.is_led.result refl many.0 c.is_led.ensures in
    some_told (lent_ok t.settings t.loans.now t.index.now) (live_count t.loans.now) (sym led ∙ c.if-is_led.true) _ (live_told t.loans.now c.word-places.result c.in_ok-vacant.vacant c.word-places.ensures many.1)

pub returns-else-is_led : goal.returns-else-is_led
returns-else-is_led c =
    let t = c.args.t.now in
    let tested = all_ok (loan_ok t.settings (counted c.word-given.result 0 0)) (loans_of c.word-places.result t.loans.now) in
    let many = told_some tested (vacancies (vacant_at t.loans.now size_at loan_words) c.word-places.result) c.look_over.result c.look_over.ensures c.in_ok-vacant.vacant c.in_ok-vacant.was in
    let led = lent_told t.settings t.loans.now t.index.now c.word-places.result c.word-given.result c.word-places.ensures c.word-given.ensures tested c.is_led.result refl many.0 c.is_led.ensures in
    none_told (lent_ok t.settings t.loans.now t.index.now) (live_count t.loans.now) (sym c.if-is_led.false ∙ led)
