use mathlib.Core.Path.{sym, subst}
use Prim.Native.Nat.{ℕ, ◌<◌}
use native.Mathlib.Omega.{arith}
use lib.ListN.{length}
use Rattle.words.specs.Words.{cell_of}
use Rattle.ring_rules.proofs.Steps.{unlink_alone, unlink_one}
use Rattle.ring.proofs.unlink.Goals as goal

pub put_link_in-requires : goal.put_link_in-requires
put_link_in-requires c =
    let a = c.args in
    subst (λ (x : ℕ). cell_of a.next_at a.step x < length a.t.now) (sym c.link_in-q.ensures) c.requires.before

pub put_link_in-requires-else-q-p : goal.put_link_in-requires-else-q-p
put_link_in-requires-else-q-p c =
    let a = c.args in
    let h : cell_of a.prev_at a.step c.link_in-n.result < length a.t.now = subst (λ (x : ℕ). cell_of a.prev_at a.step x < length a.t.now) (sym c.link_in-n.ensures) c.requires.after in
    omega (arith, h)

pub returns-then-q-p : goal.returns-then-q-p
returns-then-q-p c =
    let a = c.args in
    unlink_alone a.head a.next_at a.prev_at a.step a.p a.t.now _ _ c.link_in-q.ensures c.if-q-p.true c.put_head.ensures

pub returns-else-q-p : goal.returns-else-q-p
returns-else-q-p c =
    let a = c.args in
    unlink_one a.head a.next_at a.prev_at a.step a.p a.t.now _ _ _ _ _
    c.link_in-n.ensures c.link_in-q.ensures c.if-q-p.false c.put_link_in.ensures c.put_link_in-else-q-p.ensures c.put_head-else-q-p.ensures
