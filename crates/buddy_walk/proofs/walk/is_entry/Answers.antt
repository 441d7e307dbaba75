use mathlib.Core.List.{[]}
use Rattle.buddy_levels.specs.Pairs.{ent_from}
use Rattle.buddy_levels.specs.Seen.{part_settings, loan_part}
use Rattle.buddy_walk.proofs.Downs.{entry_is}
use Rattle.buddy_walk.proofs.walk.is_entry.Goals as goal

pub returns : goal.returns
returns c =
    let g = c.tag_of in
    let a = c.args in
    entry_is (part_settings 0 0 0) (loan_part [] [] []) (ent_from a.e) a.chunk a.offset a.node g.result g.ensures
