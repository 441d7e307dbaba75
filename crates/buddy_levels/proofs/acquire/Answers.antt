use Rattle.buddy_levels.proofs.Steps.{head_acquired}
use Rattle.buddy_levels.proofs.acquire.Goals as goal

pub returns : goal.returns
returns c =
    let a = c.args in
    head_acquired a.base a.tree.now a.w a.h _ _ _ _ c.requires.h_value.0 c.requires.h_value.1 c.leave.ensures c.put_field_in.ensures c.word_at.ensures c.put_field_in-2.ensures
