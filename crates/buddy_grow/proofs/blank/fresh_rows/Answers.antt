use mathlib.Core.Path.{ap, ◌∙◌}
use Prim.Native.Nat.{ℕ}
use Rattle.words.specs.Words.{blank}
use Rattle.buddy_rules.specs.Tables.{marks}
use Rattle.buddy_grow.proofs.blank.fresh_rows.Goals as goal

pub returns : goal.returns
returns c = record { loans_after = c.put_blank.ensures ∙ ap (λ (n : ℕ). blank n marks.loans 0) c.requires.0; chunks_after = c.put_blank-2.ensures ∙ ap (λ (n : ℕ). blank n marks.chunks 0) c.requires.1; index_after = c.put_blank-3.ensures ∙ ap (λ (n : ℕ). blank n marks.index 0) c.requires.2 }
