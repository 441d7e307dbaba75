use Rattle.std.proofs.Common.{sym, refl, ◌∙◌, arith, rules}
use Rattle.freelist_regions.proofs.Renaming.{rest_next, rest_stop, rest_end}
use Rattle.freelist_regions.proofs.fronts.rename.Goals as goal

pub loop-i-init : goal.loop-i-init
loop-i-init c = (refl, refl)

pub loop-i-preserved : goal.loop-i-preserved
loop-i-preserved c =
    let a = c.args in (
      search rules,
      rest_next a.n c.loop-i.i a.a a.b c.loop-i.t (omega (arith, c.loop-i.invariant.0, c.requires.1)) (search rules) _ c.word_at-front.ensures c.if-front-a.false _ c.put_word_at.ensures ∙ c.loop-i.invariant.1,
    )

pub shape_of-t-then-front-a : goal.shape_of-t-then-front-a
shape_of-t-then-front-a c = c.loop-i.invariant.0

pub returns-then-front-a : goal.returns-then-front-a
returns-then-front-a c =
    let a = c.args in
    sym (rest_stop a.n c.loop-i.i a.a a.b c.loop-i.t (omega (arith, c.loop-i.invariant.0, c.requires.1)) (search rules) _ c.word_at-front.ensures c.if-front-a.true) ∙ c.loop-i.invariant.1

pub shape_of-t : goal.shape_of-t
shape_of-t c = c.loop-i.invariant.0

pub returns : goal.returns
returns c =
    let a = c.args in
    sym (rest_end a.n c.loop-i.i a.a a.b c.loop-i.t (omega (arith, c.loop-i.invariant.0, c.requires.1)) (search rules)) ∙ c.loop-i.invariant.1
