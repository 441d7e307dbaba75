use Rattle.freelist_place.proofs.SettingUp.{head_fresh}
use Rattle.freelist_place.proofs.setting.fresh_head.Goals as goal

pub returns : goal.returns
returns c =
    head_fresh c.args.s c.args.head.now _ _ c.requires c.put.ensures c.put-2.ensures
