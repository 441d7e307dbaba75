use Rattle.usage_rules.specs.Ranking.{rank_of}
use Rattle.linked_rank.proofs.Rows.{ranked_told}
use Rattle.linked_rank.proofs.tibrezkam_rank.Goals as goal

pub returns : goal.returns
returns c = let a = c.args in let all = ranked_told (rank_of a.types.now) _ _ a.rows.now _ a.answer.now _ c.rank-r.ensures c.put_rows.ensures c.tell_ranked.ensures in
    record { rows_after = all.0; answer_after = all.1 }
