use Rattle.std.proofs.Common.{◌<◌, length, sym, ◌∙◌, arith, rules}
use Rattle.freelist_decide.proofs.Tests.{left_is, take_full, take_spent, take_go}
use Rattle.freelist_decide.proofs.deciding.decide_take.Goals as goal

pub bounds-t-2 : goal.bounds-t-2
bounds-t-2 c = let h = c.requires.loans_long in search rules

pub next_place_in-loan-requires : goal.next_place_in-loan-requires
next_place_in-loan-requires c = let h = c.requires in omega (arith, h.few, h.index_long)

pub bounds-t-1 : goal.bounds-t-1
bounds-t-1 c = let h = c.requires.loans_long in search rules

pub returns-then-not-is_place : goal.returns-then-not-is_place
returns-then-not-is_place c =
    let t = c.args.t.now in
    record { result_value = take_full t.settings t.loans.now t.index.now c.args.fit.region (sym (left_is t.settings t.loans.now t.index.now _ c.next_place_in-loan.ensures _ c.is_place.ensures) ∙ c.if-not-is_place.true); by_index = λ from n m e. tt }

pub returns-then-t-ge18446744073709551615 : goal.returns-then-t-ge18446744073709551615
returns-then-t-ge18446744073709551615 c =
    let t = c.args.t.now in
    record { result_value = take_spent t.settings t.loans.now t.index.now c.args.fit.region (sym (left_is t.settings t.loans.now t.index.now _ c.next_place_in-loan.ensures _ c.is_place.ensures) ∙ c.if-not-is_place.false) c.if-t-ge18446744073709551615.true; by_index = λ from n m e. tt }

pub returns : goal.returns
returns c =
    let t = c.args.t.now in
    record { result_value = take_go t.settings t.loans.now t.index.now c.args.fit.region (sym (left_is t.settings t.loans.now t.index.now _ c.next_place_in-loan.ensures _ c.is_place.ensures) ∙ c.if-not-is_place.false) (search rules); by_index = λ from n m e. (e, c.next_place_in-loan.ensures) }
