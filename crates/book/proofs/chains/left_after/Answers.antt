use Rattle.std.proofs.Common.{◌<◌, sym, refl, ◌∙◌, arith}
use Rattle.book_rules.proofs.Following.{link_alone, link_serial, link_below, after_end, after_none, after_torn, after_on}
use Rattle.book.proofs.chains.left_after.Goals as goal

pub loop-p-init : goal.loop-p-init
loop-p-init c = refl

pub returns-then-left-eq0 : goal.returns-then-left-eq0
returns-then-left-eq0 c =
    let b = c.loop-p in
    sym (b.invariant ∙ after_none _ _ _ _ _ _ _ _ _ _ c.loop-p-test.true c.if-left-eq0.true)

pub serial_of-most-requires : goal.serial_of-most-requires
serial_of-most-requires c =
    omega (arith, c.requires.loans_long, c.requires.few, link_below _ _ _ _ _ _ _ _ _ (sym c.is_link.ensures ∙ c.if-is_link.true))

pub overflow_sub-most : goal.overflow_sub-most
overflow_sub-most c =
    let e = sym c.is_link.ensures ∙ c.if-is_link.true in
    omega (arith, c.serial_of-most.ensures, link_serial _ _ _ _ _ _ _ _ _ e)

pub next_of-p-requires : goal.next_of-p-requires
next_of-p-requires c =
    omega (arith, c.requires.index_long, c.requires.few, link_below _ _ _ _ _ _ _ _ _ (sym c.is_link.ensures ∙ c.if-is_link.true))

pub loop-p-preserved : goal.loop-p-preserved
loop-p-preserved c =
    let b = c.loop-p in
    let o : 0 < b.left = omega arith in
    let e = sym c.is_link.ensures ∙ c.if-is_link.true in
    b.invariant ∙ after_on _ _ _ _ _ _ _ _ _ _ _ _ c.loop-p-test.true o (link_alone _ _ _ _ _ _ _ _ _ _ _ ∙ e) c.serial_of-most.ensures c.next_of-p.ensures

pub returns-else-is_link : goal.returns-else-is_link
returns-else-is_link c =
    let b = c.loop-p in
    let o : 0 < b.left = omega arith in
    let e = sym c.is_link.ensures ∙ c.if-is_link.false in
    sym (b.invariant ∙ after_torn _ _ _ _ _ _ _ _ _ _ c.loop-p-test.true o (link_alone _ _ _ _ _ _ _ _ _ _ _ ∙ e))

pub returns : goal.returns
returns c =
    let b = c.loop-p in
    sym (b.invariant ∙ after_end _ _ _ _ _ _ _ _ _ _ c.loop-p-test.false)
