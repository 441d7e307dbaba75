use mathlib.Core.List.{[]}
use Rattle.buddy_rules.specs.Tables.{tables}
use Rattle.buddy_moves.proofs.Backing.{backs_rest}
use Rattle.buddy_back.proofs.Frees.{freed_yes, freed_no}
use Rattle.buddy_back.proofs.Returned.{given_freed, given_kept}
use Rattle.buddy_back.proofs.freeing.take_back.Goals as goal

pub strike_out-requires : goal.strike_out-requires
strike_out-requires c = let a = c.args in backs_rest a.s a.b a.at (tables a.head.now a.loans.now a.chunks.now a.index.now a.tree.now) [] c.requires

pub shape_of-loans-then-strike_out : goal.shape_of-loans-then-strike_out
shape_of-loans-then-strike_out c = c.loans-1.given

pub shape_of-index-then-strike_out : goal.shape_of-index-then-strike_out
shape_of-index-then-strike_out c = c.index-1.given

pub returns-then-strike_out : goal.returns-then-strike_out
returns-then-strike_out c = let a = c.args in
    let back = given_freed a.s a.b a.at a.head.now a.loans.now a.chunks.now a.index.now a.tree.now _ _ c.strike_out.ensures.value c.strike_out.ensures.tree_after c.if-strike_out.true _ _ _ _ c.vacate.ensures.chunks_after c.vacate.ensures.tree_after c.strike_out.ensures.loans_after.0 c.strike_out.ensures.loans_after.1 in
    let told = freed_yes a.s a.b a.at (tables a.head.now a.loans.now a.chunks.now a.index.now a.tree.now) a.list.now _ c.strike_out.ensures.value _ _ _ c.if-strike_out.true c.cell-memory.ensures c.cell-bytes.ensures c.put.ensures in record { value = told.0; tree_after = back; list_after = told.1 }

pub returns : goal.returns
returns c = let a = c.args in
    let back = given_kept a.s a.b a.at a.head.now a.loans.now a.chunks.now a.index.now a.tree.now _ _ c.strike_out.ensures.value c.strike_out.ensures.tree_after c.if-strike_out.false _ _ c.strike_out.ensures.loans_after.0 c.strike_out.ensures.loans_after.1 in
    let told = freed_no a.s a.b a.at (tables a.head.now a.loans.now a.chunks.now a.index.now a.tree.now) a.list.now _ c.strike_out.ensures.value c.if-strike_out.false in record { value = told.0; tree_after = back; list_after = told.1 }
