use Rattle.std.proofs.Common.{ℕ, ◌<◌, ◌≤◌, arith}
use Rattle.freelist_regions.proofs.Settling.{settles_both, settles_before, settles_next, settles_between}
use Rattle.freelist_regions.proofs.joins.settle.Goals as goal

some : (k n : ℕ) → k < n → 1 ≤ n
some k n l = omega arith

pub overflow_sub-k : goal.overflow_sub-k
overflow_sub-k c = c.requires.some c.if-before.true

pub put_gap-requires : goal.put_gap-requires
put_gap-requires c =
    let h = c.requires.some c.if-before.true in
    omega (arith, h, c.requires.most, c.requires.room)

pub overflow_sub-result : goal.overflow_sub-result
overflow_sub-result c = some _ _ (c.requires.under c.if-next.true)

pub returns-then-next : goal.returns-then-next
returns-then-next c = let a = c.args in let all = settles_both a.before a.next a.n a.k a.t.now c.requires a.g c.if-before.true c.if-next.true _ _ c.close_row.ensures c.put_gap.ensures in
    record { value = all.0; t_after = all.1 }

pub overflow_sub-k-then-before : goal.overflow_sub-k-then-before
overflow_sub-k-then-before c = c.requires.some c.if-before.true

pub put_gap-requires-then-before : goal.put_gap-requires-then-before
put_gap-requires-then-before c =
    let h = c.requires.some c.if-before.true in
    omega (arith, h, c.requires.most, c.requires.room)

pub returns-then-before : goal.returns-then-before
returns-then-before c = let a = c.args in let all = settles_before a.before a.next a.n a.k a.t.now c.requires a.g c.if-before.true c.if-next.false _ c.put_gap-then-before.ensures in
    record { value = all.0; t_after = all.1 }

pub put_gap-requires-then-next-2 : goal.put_gap-requires-then-next-2
put_gap-requires-then-next-2 c =
    let h = c.requires.under c.if-next-2.true in
    omega (arith, h, c.requires.room)

pub returns-then-next-2 : goal.returns-then-next-2
returns-then-next-2 c = let a = c.args in let all = settles_next a.before a.next a.n a.k a.t.now c.requires a.g c.if-before.false c.if-next-2.true _ c.put_gap-then-next-2.ensures in
    record { value = all.0; t_after = all.1 }

pub put_gap-requires-2 : goal.put_gap-requires-2
put_gap-requires-2 c =
    let h = c.requires.more c.if-before.false c.if-next-2.false in
    omega (arith, h, c.requires.most)

pub returns : goal.returns
returns c = let a = c.args in let all = settles_between a.before a.next a.n a.k a.t.now c.requires a.g c.if-before.false c.if-next-2.false _ _ c.open_row.ensures c.put_gap-2.ensures in
    record { value = all.0; t_after = all.1 }
