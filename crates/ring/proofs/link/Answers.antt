use mathlib.Core.Path.{◌≡◌, refl, sym, ap, ◌∙◌, subst}
use Prim.Native.Nat.{ℕ, ◌<◌}
use native.Mathlib.Omega.{arith}
use lib.ListN.{length}
use Rattle.words.specs.Words.{cell_of}
use Rattle.slabs.specs.Slab.{link_at}
use Rattle.ring_rules.specs.Ring.{prev, head_in_ring}
use Rattle.ring_rules.proofs.Steps.{link_first, link_last}
use Rattle.ring.proofs.link.Goals as goal

pub link_in-q-requires : goal.link_in-q-requires
link_in-q-requires c =
    let a = c.args in
    let e = c.head_in-h.ensures in
    subst (λ (x : ℕ). cell_of a.prev_at a.step x < length a.t.now) (sym e) (c.requires.first (λ f. c.if-h.false (e ∙ f)))

pub put_link_in-requires : goal.put_link_in-requires
put_link_in-requires c =
    let a = c.args in
    let e = c.head_in-h.ensures in
    subst (λ (x : ℕ). cell_of a.prev_at a.step x < length a.t.now) (sym e) (c.requires.first (λ f. c.if-h.false (e ∙ f)))

pub put_link_in-requires-else-h : goal.put_link_in-requires-else-h
put_link_in-requires-else-h c =
    let a = c.args in
    let e = c.head_in-h.ensures in
    let q : c.link_in-q.result ≡ prev a.head a.next_at a.prev_at a.step a.t.now (head_in_ring a.head a.next_at a.prev_at a.step a.t.now) = c.link_in-q.ensures ∙ ap (link_at a.t.now a.prev_at a.step) e in
    let h : cell_of a.next_at a.step c.link_in-q.result < length a.t.now = subst (λ (x : ℕ). cell_of a.next_at a.step x < length a.t.now) (sym q) (c.requires.last (λ f. c.if-h.false (e ∙ f))) in
    omega (arith, h)

pub returns-then-h : goal.returns-then-h
returns-then-h c =
    let a = c.args in
    link_first a.head a.next_at a.prev_at a.step a.p a.t.now _ _ _ _
    c.head_in-h.ensures c.if-h.true refl c.put_links.ensures c.put_head.ensures

pub returns-else-h : goal.returns-else-h
returns-else-h c =
    let a = c.args in
    link_last a.head a.next_at a.prev_at a.step a.p a.t.now _ _ _ _ _ _
    c.head_in-h.ensures c.if-h.false c.link_in-q.ensures c.put_link_in.ensures c.put_link_in-else-h.ensures refl c.put_links-else-h.ensures
