use Rattle.buddy_decide.specs.Sees.{beside}
use mathlib.Core.Path.{refl}
use native.Mathlib.Omega.{arith}
use Rattle.rounding_rules.specs.Raising.{level_of}
use Rattle.rounding_rules.proofs.Masks.{power_top}
use Rattle.buddy_outcomes.specs.Ask.{found_from}
use Rattle.buddy_decide.proofs.Reading.{sought_at, sought_order}
use Rattle.buddy_decide.proofs.Tests.{fits_yes, sized_not, found_low, look_at, look_nowhere}
use Rattle.buddy_decide.proofs.deciding.try_sized.Goals as goal

pub node_bytes-requires : goal.node_bytes-requires
node_bytes-requires c = (power_top c.requires.0.fit.minimal, omega arith)

pub returns-then-node_bytes-size : goal.returns-then-node_bytes-size
returns-then-node_bytes-size c =
    let a = c.args in
    λ chunks. (λ h objects. sized_not a.v.now.settings (level_of a.size a.v.now.settings.minimal) a.v.now.head.now a.v.now.loans.now chunks a.v.now.index.now a.v.now.tree.now h objects a.size (found_from a.v.now.settings (level_of a.size a.v.now.settings.minimal) (beside a.v.now chunks)) _ c.node_bytes.ensures.value c.if-node_bytes-size.true, refl)

pub seek-found-requires : goal.seek-found-requires
seek-found-requires c =
    let a = c.args in
    let fits = fits_yes a.v.now.settings a.size _ c.node_bytes.ensures.value c.if-node_bytes-size.false in
    (power_top c.requires.0.fit.minimal, c.requires.0.fit.pairs_most_lem, omega (arith, c.level-level.ensures, c.requires.1 fits), c.requires.0.levels, c.requires.0.tree_long)

pub try_take-requires : goal.try_take-requires
try_take-requires c =
    let a = c.args in
    let fits = fits_yes a.v.now.settings a.size _ c.node_bytes.ensures.value c.if-node_bytes-size.false in
    let found = sought_at a.v.now.settings _ a.v.now.head.now a.v.now.tree.now _ _ refl c.seek-found.ensures _ _ c.in-At.is in
    let low = found_low a.v.now.settings a.v.now.tree.now _ _ _ c.requires.0.levels (omega (arith, c.level-level.ensures, c.requires.1 fits)) found.0 in
    (c.requires.0, low.0, low.1, found.1)

pub returns-in-At : goal.returns-in-At
unfolding found_from
returns-in-At c =
    let a = c.args in
    let l = c.level-level.result in
    let fits = fits_yes a.v.now.settings a.size _ c.node_bytes.ensures.value c.if-node_bytes-size.false in
    let found = sought_at a.v.now.settings l a.v.now.head.now a.v.now.tree.now _ _ refl c.seek-found.ensures _ _ c.in-At.is in
    λ chunks. look_at a.v.now.settings l a.v.now.head.now a.v.now.loans.now chunks a.v.now.index.now a.v.now.tree.now a.size _ c.level-level.ensures fits _ c.try_take.result found.0 (c.try_take.ensures chunks)

pub returns-in-Order : goal.returns-in-Order
unfolding found_from
returns-in-Order c =
    let a = c.args in
    let l = c.level-level.result in
    let fits = fits_yes a.v.now.settings a.size _ c.node_bytes.ensures.value c.if-node_bytes-size.false in
    let found = sought_order a.v.now.settings l a.v.now.head.now a.v.now.tree.now _ _ refl c.seek-found.ensures _ _ c.in-Order.is in
    λ chunks. (refl, c.level-level.ensures, omega (arith, c.level-level.ensures, c.requires.1 fits), found.1, found.2, look_nowhere a.v.now.settings l a.v.now.head.now a.v.now.loans.now chunks a.v.now.index.now a.v.now.tree.now a.size _ c.level-level.ensures fits found.0)
