use Rattle.std.proofs.Common.{refl, ap, ◌∙◌, arith, rules}
use Rattle.store_rules.specs.Orders as Orders
use Rattle.freelist_decide.proofs.Tests.{left_is, room_is, counts_is, raised_is, buy_full, buy_spent, buy_none, buy_go}
use Rattle.freelist_decide.proofs.deciding.decide_buy.Goals as goal

pub bounds-t-2 : goal.bounds-t-2
bounds-t-2 c = let h = c.requires.0.loans_long in search rules

pub next_place_in-loan-requires : goal.next_place_in-loan-requires
next_place_in-loan-requires c = let h = c.requires.0 in omega (arith, h.few, h.index_long)

-- what the counts are read from, whichever table it is

pub bounds-t-2-2 : goal.bounds-t-2-2
bounds-t-2-2 c = let h = c.requires.0.loans_long in let k = c.requires.1 in search rules

pub bounds-t-1 : goal.bounds-t-1
bounds-t-1 c = let h = c.requires.0.loans_long in let k = c.requires.1 in search rules

pub bounds-t-1-2 : goal.bounds-t-1-2
bounds-t-1-2 c = let h = c.requires.0.loans_long in let k = c.requires.1 in search rules

pub returns-then-not-is_place-vacant : goal.returns-then-not-is_place-vacant
returns-then-not-is_place-vacant c =
    let t = c.args.t.now in
    let room = room_is t.settings t.head.now t.loans.now t.chunks.now t.index.now _ _ (left_is t.settings t.loans.now t.index.now _ c.next_place_in-loan.ensures _ c.is_place.ensures) c.if-not-is_place-vacant.true in
    record { by_index = λ asked e. buy_full t.settings t.head.now t.loans.now t.chunks.now t.index.now c.args.h c.args.objects asked room; by_index_2 = λ from. tt }

pub returns-then-not-given-bears : goal.returns-then-not-given-bears
returns-then-not-given-bears c =
    let t = c.args.t.now in
    let room = room_is t.settings t.head.now t.loans.now t.chunks.now t.index.now _ _ (left_is t.settings t.loans.now t.index.now _ c.next_place_in-loan.ensures _ c.is_place.ensures) c.if-not-is_place-vacant.false in
    record { by_index = λ asked e. buy_spent t.settings t.head.now t.loans.now t.chunks.now t.index.now c.args.h c.args.objects asked room (counts_is t.settings t.head.now t.loans.now t.chunks.now t.index.now c.args.h c.args.objects asked _ _ _ _ _ e c.word.ensures c.grow-z.ensures c.bears.ensures c.if-not-given-bears.true); by_index_2 = λ from. tt }

pub returns-then-objects-eq0 : goal.returns-then-objects-eq0
returns-then-objects-eq0 c =
    let t = c.args.t.now in
    let room = room_is t.settings t.head.now t.loans.now t.chunks.now t.index.now _ _ (left_is t.settings t.loans.now t.index.now _ c.next_place_in-loan.ensures _ c.is_place.ensures) c.if-not-is_place-vacant.false in
    record { by_index = λ asked e. buy_none t.settings t.head.now t.loans.now t.chunks.now t.index.now c.args.h c.args.objects asked room (counts_is t.settings t.head.now t.loans.now t.chunks.now t.index.now c.args.h c.args.objects asked _ _ _ _ _ e c.word.ensures c.grow-z.ensures c.bears.ensures c.if-not-given-bears.false) c.if-objects-eq0.true; by_index_2 = λ from. tt }

pub returns : goal.returns
returns c =
    let t = c.args.t.now in
    let room = room_is t.settings t.head.now t.loans.now t.chunks.now t.index.now _ _ (left_is t.settings t.loans.now t.index.now _ c.next_place_in-loan.ensures _ c.is_place.ensures) c.if-not-is_place-vacant.false in
    record {
      by_index = λ asked e.
          ap Orders.buy (raised_is t.settings t.head.now t.loans.now t.chunks.now t.index.now c.args.h c.args.objects asked _ _ _ e c.word.ensures c.grow-z.ensures)
          ∙ buy_go t.settings t.head.now t.loans.now t.chunks.now t.index.now c.args.h c.args.objects asked room (counts_is t.settings t.head.now t.loans.now t.chunks.now t.index.now c.args.h c.args.objects asked _ _ _ _ _ e c.word.ensures c.grow-z.ensures c.bears.ensures c.if-not-given-bears.false) (search rules);
      by_index_2 = λ from. (refl, refl, c.next_place_in-loan.ensures);
    }
