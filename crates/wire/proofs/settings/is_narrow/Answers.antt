use Rattle.wire.proofs.settings.is_narrow.Goals as goal

pub returns : goal.returns
returns c = cc
