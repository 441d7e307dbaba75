use mathlib.Core.Path.{ap, ◌∙◌}
use mathlib.Core.List.{List, [], ◌∷◌}
use Prim.Native.Nat.{ℕ}
use lib.ListN.{set}
use Rattle.buddy_rules.specs.Tables.{levels_at, marks}
use Rattle.buddy_grow.proofs.Grown.{head_fresh}
use Rattle.buddy_grow.proofs.blank.fresh_head.Goals as goal

pub returns : goal.returns
returns c =
    c.put-2.ensures
    ∙ ap (λ (t : List ℕ). set t levels_at c.level-levels.result) c.put.ensures
    ∙ head_fresh c.args.head.now c.level-levels.result c.requires.1
    ∙ ap (λ (n : ℕ). marks.head ∷ n ∷ []) c.level-levels.ensures
