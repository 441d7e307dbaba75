use native.Mathlib.Omega.{arith}
use mathlib.Core.Path.{refl, ap, ◌∙◌}
use Rattle.buddy_rules.specs.Moves.{Climbed}
use Rattle.buddy_back.proofs.Returned.{climb_is, climb_foot}
use Rattle.buddy_back.proofs.backing.strike_out.Goals as goal

pub climb-requires : goal.climb-requires
climb-requires c = let a = c.args in record { pairs_le_pairs_most = (c.requires.fit.pairs_most_lem, omega (arith, c.level-level.ensures, c.requires.below, c.requires.low)); footing = climb_foot a.s a.b a.at a.head.now a.index.now a.tree.now _ _ _ _ _ refl c.level-level.ensures c.place_of-p.ensures c.node_at-from.ensures refl c.requires.footing }

pub returns : goal.returns
returns c = let a = c.args in
    let climb = climb_is a.s a.b a.at a.head.now a.index.now a.tree.now _ _ _ _ _ refl c.level-level.ensures c.place_of-p.ensures c.node_at-from.ensures refl in record { value = c.climb.ensures.value ∙ ap (λ (x : Climbed). x.freed) climb; tree_after = c.climb.ensures.tree_after ∙ ap (λ (x : Climbed). x.room) climb; loans_after = (c.strike.ensures.loans_after, c.strike.ensures.index_after) }
