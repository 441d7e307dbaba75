use borrow.Author.Rules.{rules}
use mathlib.Core.Path.{refl}
use native.Mathlib.Omega.{arith}
use Rattle.buddy_decide.proofs.Tests.{room_is, counts_are, buy_full, buy_spent, buy_none, buy_go}
use Rattle.buddy_decide.proofs.deciding.decide_buy.Goals as goal

pub has_room-requires : goal.has_room-requires
has_room-requires c = let p = c.requires in (p.0, omega (arith, p.3), omega (arith, p.0.levels, p.1, p.3))

pub returns-then-not-has_room : goal.returns-then-not-has_room
returns-then-not-has_room c = let a = c.args in
    let room = room_is a.v.now.settings a.n.level a.v.now.head.now a.v.now.loans.now a.v.now.chunks.now a.v.now.index.now a.v.now.tree.now _ _ _ _ c.requires.3 c.next_loan-loan.ensures c.chunk_taken-chunk.ensures c.has_room.ensures in record { result_value = buy_full a.v.now.settings a.n.level a.v.now.head.now a.v.now.loans.now a.v.now.chunks.now a.v.now.index.now a.v.now.tree.now a.h a.objects _ room c.if-not-has_room.true; planned_at = refl }

pub returns-then-not-given-bears : goal.returns-then-not-given-bears
returns-then-not-given-bears c = let a = c.args in
    let room = room_is a.v.now.settings a.n.level a.v.now.head.now a.v.now.loans.now a.v.now.chunks.now a.v.now.index.now a.v.now.tree.now _ _ _ _ c.requires.3 c.next_loan-loan.ensures c.chunk_taken-chunk.ensures c.has_room.ensures in record { result_value = buy_spent a.v.now.settings a.n.level a.v.now.head.now a.v.now.loans.now a.v.now.chunks.now a.v.now.index.now a.v.now.tree.now a.h a.objects _ room c.if-not-has_room.false (counts_are a.v.now.settings a.n.level a.v.now.head.now a.v.now.loans.now a.v.now.chunks.now a.v.now.index.now a.v.now.tree.now a.h a.objects _ _ _ _ c.requires.2 c.word-given.ensures c.bears.ensures c.if-not-given-bears.true); planned_at = refl }

pub returns-then-objects-eq0 : goal.returns-then-objects-eq0
returns-then-objects-eq0 c = let a = c.args in
    let room = room_is a.v.now.settings a.n.level a.v.now.head.now a.v.now.loans.now a.v.now.chunks.now a.v.now.index.now a.v.now.tree.now _ _ _ _ c.requires.3 c.next_loan-loan.ensures c.chunk_taken-chunk.ensures c.has_room.ensures in record { result_value = buy_none a.v.now.settings a.n.level a.v.now.head.now a.v.now.loans.now a.v.now.chunks.now a.v.now.index.now a.v.now.tree.now a.h a.objects _ room c.if-not-has_room.false (counts_are a.v.now.settings a.n.level a.v.now.head.now a.v.now.loans.now a.v.now.chunks.now a.v.now.index.now a.v.now.tree.now a.h a.objects _ _ _ _ c.requires.2 c.word-given.ensures c.bears.ensures c.if-not-given-bears.false) c.if-objects-eq0.true; planned_at = c.requires.3 }

pub returns : goal.returns
returns c = let a = c.args in
    let room = room_is a.v.now.settings a.n.level a.v.now.head.now a.v.now.loans.now a.v.now.chunks.now a.v.now.index.now a.v.now.tree.now _ _ _ _ c.requires.3 c.next_loan-loan.ensures c.chunk_taken-chunk.ensures c.has_room.ensures in record {
      result_value = buy_go a.v.now.settings a.n.level a.v.now.head.now a.v.now.loans.now a.v.now.chunks.now a.v.now.index.now a.v.now.tree.now a.h a.objects _ room _ c.requires.2 c.if-not-has_room.false (counts_are a.v.now.settings a.n.level a.v.now.head.now a.v.now.loans.now a.v.now.chunks.now a.v.now.index.now a.v.now.tree.now a.h a.objects _ _ _ _ c.requires.2 c.word-given.ensures c.bears.ensures c.if-not-given-bears.false) (search rules);
      planned_at = record {
        size = refl;
        level = refl;
        levels = c.requires.3;
        loan = c.next_loan-loan.ensures;
        chunk = c.chunk_taken-chunk.ensures;
      };
    }
