use native.Mathlib.Omega.{arith}
use Rattle.wire_rules.specs.Wire.{buddy_words}
use Rattle.wire_rules.proofs.Settled.{settings_whole}
use Rattle.wire.proofs.settings.read_buddy.Goals as goal

pub read_store-requires : goal.read_store-requires
read_store-requires c = (c.requires, omega arith)

pub bounds-w-7 : goal.bounds-w-7
bounds-w-7 c = omega (arith, settings_whole buddy_words c.args.w.now c.requires)

pub bounds-w-8 : goal.bounds-w-8
bounds-w-8 c = omega (arith, settings_whole buddy_words c.args.w.now c.requires)

pub bounds-w-9 : goal.bounds-w-9
bounds-w-9 c = omega (arith, settings_whole buddy_words c.args.w.now c.requires)

pub returns : goal.returns
returns c = cc
