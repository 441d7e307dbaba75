-- What a return comes to by a store's book of loans, the same of every engine. 01, "When the counter says no": 7.
use Rattle.std.specs.Prelude.{Bool, cond, ◌&&◌, not, List, ℕ, eqb}
use Rattle.words.specs.Rows.{row}
use Rattle.counter.specs.declared.answers.Block.{Block}
use Rattle.slabs.specs.Slab.{nowhere}
use Rattle.store_rules.specs.Loans.{loan_row}
use Rattle.store_rules.specs.Views.{same_loan}
use Rattle.book_rules.specs.Book.{word_to, led_to}

-- a refusal, or the word of the index that leads to the loan
pub data Plan : Type 0 where
  deny : ℕ → Plan
  back : ℕ → Plan

-- by whether the block is on loan, and the word that leads to it
abbrev pub decided : Bool → ℕ → Plan
decided on w = cond on (back w) (deny 7)

module _ (loans index : List ℕ) (n places : ℕ) (b : Block) where
  -- the word of the index that leads to the loan with the block's serial
  abbrev pub word_for : ℕ
  word_for = word_to loans index n places b.serial

  -- 7: "no loan has this serial, chunk, offset and size"
  abbrev pub on_loan_ok : Bool
  on_loan_ok = not (eqb word_for nowhere) && same_loan b (row loan_row (led_to index word_for) loans)

  abbrev pub decide_return : Plan
  decide_return = decided on_loan_ok word_for
