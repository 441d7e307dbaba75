use Rattle.std.proofs.Common.{◌≡◌, ◌/◌, sym, ◌∙◌, arith}
use Rattle.freelist_rules.specs.Records.{region_words, region_chunk_at}
use Rattle.freelist_regions.specs.Stand.{after}
use Rattle.freelist_regions.proofs.Halves.{stays, moves}
use Rattle.freelist_regions.proofs.stands.stands_at.Goals as goal
use Rattle.freelist_regions.proofs.stands.stands_at.Goals.{then-is_after, else-is_after}

pub loop-left-init : goal.loop-left-init
loop-left-init c = (omega arith, omega arith, (λ i h. absurd (omega arith)), (λ i h g. absurd (omega arith)))

pub loop-left-preserved : goal.loop-left-preserved
loop-left-preserved c =
    let l = c.loop-left in
    let a = c.args in
    let f = after a.t.now region_chunk_at region_words a.chunk a.place in
    elim c.if-is_after.branch [
      | then-is_after w ↦ rw w.lo-is (stays f a.n l.lo l.left (l.left / 2) c.requires.parting l.invariant (omega arith) (omega arith) (sym c.is_after.ensures ∙ w.if-is_after.true))
      | else-is_after w ↦ rw w.lo-is (moves f a.n l.lo l.left (l.left / 2) c.requires.parting l.invariant (omega arith) (omega arith) (sym c.is_after.ensures ∙ w.if-is_after.false))
    ]

pub returns : goal.returns
returns c =
    let l = c.loop-left in
    let e : l.left ≡ 1 = omega arith in
    record { most = omega arith; below = l.invariant.2; above = λ i h g. l.invariant.3 i (omega arith) g }
