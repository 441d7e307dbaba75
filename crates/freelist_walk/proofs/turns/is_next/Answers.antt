use mathlib.Core.Path.{refl}
use native.Mathlib.Omega.{arith}
use Rattle.freelist_walk.proofs.Stepping.{next_there, next_read, next_none}
use Rattle.freelist_walk.proofs.turns.is_next.Goals as goal

pub overflow_sub-result : goal.overflow_sub-result
overflow_sub-result c =
    let a = c.args in
    omega (arith, next_there a.left a.r a.places a.loans.now a.number c.if-left-r.true)

pub overflow_mul-result : goal.overflow_mul-result
overflow_mul-result c =
    let a = c.args in
    omega (arith, next_there a.left a.r a.places a.loans.now a.number c.if-left-r.true)

pub overflow_add-result : goal.overflow_add-result
overflow_add-result c =
    let a = c.args in
    omega (arith, next_there a.left a.r a.places a.loans.now a.number c.if-left-r.true)

pub offset_bounds-loans-r : goal.offset_bounds-loans-r
offset_bounds-loans-r c =
    let a = c.args in
    omega (arith, next_there a.left a.r a.places a.loans.now a.number c.if-left-r.true)

pub bounds-loans-r : goal.bounds-loans-r
bounds-loans-r c =
    let a = c.args in
    omega (arith, next_there a.left a.r a.places a.loans.now a.number c.if-left-r.true)

pub returns-then-left-r : goal.returns-then-left-r
returns-then-left-r c =
    let a = c.args in
    next_read a.left a.r a.places a.loans.now a.number _ c.if-left-r.true refl

pub returns : goal.returns
returns c =
    let a = c.args in
    next_none a.left a.r a.places a.loans.now a.number c.if-left-r.false
