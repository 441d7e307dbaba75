use Rattle.counter.specs.Table.{alignment_ok}
use Rattle.counter.proofs.settings.is_alignment.Goals as goal

pub returns : goal.returns
unfolding alignment_ok
returns c = c.is_ones.ensures
