use mathlib.Core.Path.{ap, ◌∙◌}
use Prim.Native.Nat.{ℕ}
use Rattle.words.specs.Words.{blank}
use Rattle.buddy_rules.specs.Tables.{marks}
use Rattle.buddy_grow.proofs.Grown.{fresh_done}
use Rattle.buddy_grow.proofs.blank.fresh.Goals as goal

pub fresh_head-requires : goal.fresh_head-requires
fresh_head-requires c =
    let p = c.requires in
    (p.0, p.1.head)

pub fresh_rows-requires : goal.fresh_rows-requires
fresh_rows-requires c =
    let p = c.requires in
    (p.1.loans, p.1.chunks, p.1.index)

pub returns : goal.returns
returns c =
    let a = c.args in
    let p = c.requires in
    let w = c.fresh_rows.ensures in
    fresh_done a.s _ _ _ _ _ c.fresh_head.ensures w.loans_after w.chunks_after w.index_after (c.put_blank.ensures ∙ ap (λ (n : ℕ). blank n marks.room 0) p.1.room)
