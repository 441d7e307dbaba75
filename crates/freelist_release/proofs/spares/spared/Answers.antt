use mathlib.Core.Path.{refl}
use borrow.Author.Rules.{rules}
use native.Mathlib.Omega.{arith}
use lib.Dec.{ltb}
use borrow.Author.Tests.{ltb-true}
use Rattle.lists.proofs.Bools.{and_right}
use Rattle.words.specs.Rows.{rows}
use Rattle.freelist_rules.specs.Records.{chunk_row}
use Rattle.freelist_release.proofs.Sparing.{spared_off, spared_on}
use Rattle.freelist_release.proofs.spares.spared.Goals as goal

pub returns-then-not-spare-n : goal.returns-then-not-spare-n
returns-then-not-spare-n c =
    let a = c.args in
    spared_off (rows chunk_row a.k a.chunks.now) a.spare a.regions.now a.n c.if-not-spare-n.true

pub overflow_sub-n : goal.overflow_sub-n
overflow_sub-n c =
    let a = c.args in
    omega (arith, ltb-true 0 a.n (and_right a.spare (ltb 0 a.n) c.if-not-spare-n.false))

pub returns : goal.returns
returns c =
    let a = c.args in
    let h = spared_on (rows chunk_row a.k a.chunks.now) a.spare a.regions.now a.n c.if-not-spare-n.false _ c.goes_at.result c.goes_at.ensures refl in
    search rules
