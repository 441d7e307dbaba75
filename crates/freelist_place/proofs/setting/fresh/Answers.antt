use Rattle.freelist_place.proofs.SettingUp.{fresh_done}
use Rattle.freelist_rules.specs.Tables.{tables}
use Rattle.freelist_place.proofs.setting.fresh.Goals as goal

pub returns : goal.returns
returns c =
    let a = c.args in
    fresh_done a.s (tables a.head.now a.loans.now a.chunks.now a.index.now a.regions.now) _ _ _ _ _ c.requires.1 c.fresh_head.ensures c.clear.ensures.loans_after c.clear.ensures.chunks_after c.clear.ensures.regions_after c.put_blank.ensures
