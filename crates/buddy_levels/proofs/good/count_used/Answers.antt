use Rattle.buddy_levels.proofs.Turns.{used_is}
use Rattle.buddy_levels.proofs.good.count_used.Goals as goal

pub returns : goal.returns
returns c =
    used_is c.args.base c.args.tree.now c.args.places c.led_to-last.result c.off_chain.result c.requires.2 c.led_to-last.ensures c.off_chain.ensures
