use Rattle.std.proofs.Common.{rules}
use Rattle.freelist_regions.proofs.Asking.{unit_ones, size_small, size_raised}
use Rattle.freelist_regions.proofs.asks.size_for.Goals as goal

pub overflow_add-size : goal.overflow_add-size
overflow_add-size c =
    let h = size_small c.args.s c.requires.0 c.args.size c.requires.1 in
    search rules

pub lower_to_unit-requires : goal.lower_to_unit-requires
lower_to_unit-requires c = unit_ones c.args.s c.requires.0

pub returns : goal.returns
returns c = size_raised c.args.s c.requires.0 c.args.size _ c.lower_to_unit.ensures
