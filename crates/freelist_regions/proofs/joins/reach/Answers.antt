use Rattle.std.proofs.Common.{◌≡◌, ℕ, ◌-◌, cond, ◌∙◌, Bool}
use Rattle.words.proofs.Records.{cell_row}
use Rattle.words.specs.Rows.{row}
use Rattle.store_rules.specs.declared.Region.{Region}
use Rattle.freelist_rules.specs.Records.{region, gap_row, region_start_at, region_end_at, region_words}
use Rattle.freelist_rules.specs.Threads.{region_in}
use Rattle.freelist_regions.specs.Settled.{reached}
use Rattle.freelist_regions.proofs.joins.reach.Goals as goal
use Rattle.freelist_regions.proofs.joins.reach.Goals.{then-before, else-before}

-- its start and its end, each by whether there is a neighbour
reaches : (before next : Bool) (p n b : Region) (start end : ℕ) → start ≡ cond before p.start b.start → end ≡ cond next n.end b.end → region b.chunk start end ≡ reached before next p n b
unfolding reached
reaches before next p n b start end x y = (λ j. region b.chunk (x j) (y j))

pub returns-then-next : goal.returns-then-next
returns-then-next c =
    let a = c.args in
    let y = c.word_at-end.ensures ∙ cell_row a.t.now region_end_at region_words a.k in
    elim c.if-before.branch [
      | then-before w ↦ reaches a.before a.next _ _ a.b _ _ (rw w.if-before.true (w.start-is ∙ w.word_at-start.ensures ∙ cell_row a.t.now region_start_at region_words (a.k - 1))) (rw c.if-next.true y)
      | else-before w ↦ reaches a.before a.next (region_in (row gap_row (a.k - 1) a.t.now)) _ a.b _ _ (rw w.if-before.false w.start-is) (rw c.if-next.true y)
    ]

pub returns-else-next : goal.returns-else-next
returns-else-next c =
    let a = c.args in
    let q : Region = region_in (row gap_row a.k a.t.now) in
    elim c.if-before.branch [
      | then-before w ↦ reaches a.before a.next _ q a.b _ a.b.end (rw w.if-before.true (w.start-is ∙ w.word_at-start.ensures ∙ cell_row a.t.now region_start_at region_words (a.k - 1))) (rw c.if-next.false)
      | else-before w ↦ reaches a.before a.next (region_in (row gap_row (a.k - 1) a.t.now)) q a.b _ a.b.end (rw w.if-before.false w.start-is) (rw c.if-next.false)
    ]
