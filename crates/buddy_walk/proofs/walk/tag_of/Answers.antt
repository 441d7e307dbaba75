use Rattle.buddy_walk.proofs.Downs.{tag_left, tag_right, tag_none}
use Rattle.buddy_walk.proofs.walk.tag_of.Goals as goal

pub returns-then-left-eq-FREE_WORD : goal.returns-then-left-eq-FREE_WORD
returns-then-left-eq-FREE_WORD c = let a = c.args in tag_left a.left a.right c.if-left-eq-FREE_WORD.true

pub returns-then-right-eq-FREE_WORD : goal.returns-then-right-eq-FREE_WORD
returns-then-right-eq-FREE_WORD c = let a = c.args in tag_right a.left a.right c.if-left-eq-FREE_WORD.false c.if-right-eq-FREE_WORD.true

pub returns-else-right-eq-FREE_WORD : goal.returns-else-right-eq-FREE_WORD
returns-else-right-eq-FREE_WORD c = let a = c.args in tag_none a.left a.right c.if-left-eq-FREE_WORD.false c.if-right-eq-FREE_WORD.false
