use Rattle.freelist_regions.proofs.Asking.{unit_ones, mask_ones}
use Rattle.freelist_regions.proofs.asks.mask_for.Goals as goal

pub join_masks-requires : goal.join_masks-requires
join_masks-requires c =
    (mask_ones c.args.mask c.requires.1, unit_ones c.args.s c.requires.0)
