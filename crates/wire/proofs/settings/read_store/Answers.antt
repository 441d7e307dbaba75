use native.Mathlib.Omega.{arith}
use Rattle.wire_rules.proofs.Settled.{settings_whole, settings_narrow}
-- there are at least as many words as are read
use Rattle.wire.proofs.settings.read_store.Goals as goal

pub bounds-w-0 : goal.bounds-w-0
bounds-w-0 c = omega (arith, settings_whole c.args.n c.args.w.now c.requires.0)

pub narrow-requires : goal.narrow-requires
narrow-requires c =
    let n = settings_narrow c.args.n c.args.w.now c.requires.0 in
    omega (arith, n.number_most, n.memtype_most, n.properties_most_lem)

pub bounds-w-1 : goal.bounds-w-1
bounds-w-1 c = omega (arith, settings_whole c.args.n c.args.w.now c.requires.0)

pub narrow-requires-2 : goal.narrow-requires-2
narrow-requires-2 c =
    let n = settings_narrow c.args.n c.args.w.now c.requires.0 in
    omega (arith, n.number_most, n.memtype_most, n.properties_most_lem)

pub bounds-w-2 : goal.bounds-w-2
bounds-w-2 c = omega (arith, settings_whole c.args.n c.args.w.now c.requires.0)

pub narrow-requires-3 : goal.narrow-requires-3
narrow-requires-3 c =
    let n = settings_narrow c.args.n c.args.w.now c.requires.0 in
    omega (arith, n.number_most, n.memtype_most, n.properties_most_lem)

pub bounds-w-3 : goal.bounds-w-3
bounds-w-3 c = omega (arith, settings_whole c.args.n c.args.w.now c.requires.0)

pub bounds-w-4 : goal.bounds-w-4
bounds-w-4 c = omega (arith, settings_whole c.args.n c.args.w.now c.requires.0)

pub bounds-w-5 : goal.bounds-w-5
bounds-w-5 c = omega (arith, settings_whole c.args.n c.args.w.now c.requires.0)

pub bounds-w-6 : goal.bounds-w-6
bounds-w-6 c = omega (arith, settings_whole c.args.n c.args.w.now c.requires.0)

pub returns : goal.returns
returns c =
    rw (c.narrow.ensures, c.narrow-2.ensures, c.narrow-3.ensures)
