-- What the code decides of a return, in the definitions' words.
use Rattle.std.specs.Prelude.{ℕ, Result, Ok, Err}
use Rattle.counter.specs.Paper.{number_of}
use Rattle.counter.specs.declared.refusal.Refusal.{Refusal}
use Rattle.book_rules.specs.Returns.{Plan, deny, back}

-- a refusal, or the word of the index that leads to the loan
abbrev pub back_of : Result ℕ Refusal → Plan
back_of (Err r) = deny (number_of r)
back_of (Ok w) = back w
