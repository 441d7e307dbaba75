use Rattle.buddy_decide.specs.Sees.{beside}
use borrow.Author.Rules.{rules}
use mathlib.Core.Path.{refl, sym, ◌∙◌}
use Rattle.counter.proofs.Tables.{alignment_yes}
use Rattle.buddy_decide.proofs.Tests.{decide_mask, decide_zero, decide_over, size_is, level_below, look_sized}
use Rattle.buddy_decide.proofs.deciding.try_held.Goals as goal

pub returns-then-not-is_alignment : goal.returns-then-not-is_alignment
returns-then-not-is_alignment c =
    let a = c.args in
    λ chunks. (λ h objects. decide_mask a.v.now.settings h objects a.size a.mask (beside a.v.now chunks) (sym c.is_alignment.ensures ∙ c.if-not-is_alignment.true), refl)

pub returns-then-size-eq0 : goal.returns-then-size-eq0
returns-then-size-eq0 c =
    let a = c.args in
    λ chunks. (λ h objects. decide_zero a.v.now.settings h objects a.size a.mask (beside a.v.now chunks) (sym c.is_alignment.ensures ∙ c.if-not-is_alignment.false) c.if-size-eq0.true, refl)

pub size_for-raised-requires : goal.size_for-raised-requires
size_for-raised-requires c =
    (c.requires.fit, alignment_yes c.args.mask (sym c.is_alignment.ensures ∙ c.if-not-is_alignment.false))

pub try_sized-requires : goal.try_sized-requires
try_sized-requires c =
    let a = c.args in
    let size = size_is a.v.now.settings a.size a.mask _ c.size_for-raised.ensures _ c.in-Some.is in
    (c.requires, level_below a.v.now.settings a.size a.mask _ size c.requires.fit (search rules))

pub returns-in-Some : goal.returns-in-Some
returns-in-Some c =
    let a = c.args in
    let size = size_is a.v.now.settings a.size a.mask _ c.size_for-raised.ensures _ c.in-Some.is in
    let aligned = sym c.is_alignment.ensures ∙ c.if-not-is_alignment.false in
    λ chunks. look_sized a.v.now.settings a.size a.mask (beside a.v.now chunks) _ c.try_sized.result size aligned (search rules) (c.try_sized.ensures chunks)

pub returns-in-None : goal.returns-in-None
returns-in-None c =
    let a = c.args in
    let aligned = sym c.is_alignment.ensures ∙ c.if-not-is_alignment.false in
    λ chunks. (λ h objects. decide_over a.v.now.settings h objects a.size a.mask (beside a.v.now chunks) _ c.size_for-raised.ensures c.requires.fit aligned (search rules) c.in-None.is, refl)
