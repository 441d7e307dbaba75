use mathlib.Core.Path.{ap, ◌∙◌}
use mathlib.Core.List.{List}
use Prim.Native.Nat.{ℕ}
use lib.ListN.{set}
use Rattle.words.specs.Words.{cell_of}
use Rattle.buddy_rules.specs.Tables.{chunk_words, memory_at, chunk_size_at}
use Rattle.buddy_lend.proofs.serving.put_chunk.Goals as goal

pub returns : goal.returns
returns c =
    let a = c.args in
    c.put_cell-2.ensures
    ∙ ap (λ (t : List ℕ). set t (cell_of chunk_size_at chunk_words a.c) a.bytes) c.put_cell.ensures
    ∙ ap (λ (t : List ℕ). set (set t (cell_of memory_at chunk_words a.c) a.memory) (cell_of chunk_size_at chunk_words a.c) a.bytes) c.put.ensures
