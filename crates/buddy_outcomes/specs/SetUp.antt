-- What set-up of a buddy store says and leaves.
use Rattle.std.specs.Prelude.{Bool, ◌&&◌, List, [], ◌∷◌, ℕ, ◌*◌, ◌+◌}
use Rattle.words.specs.Words.{blank}
use Rattle.counter.specs.Gate.{Verdict, pass, refuse, first}
use Rattle.counter.specs.Paper as Paper
use Rattle.counter.specs.Table.{buddy_ok}
use Rattle.counter.specs.declared.settings.BuddySettings.{BuddySettings}
use Rattle.store_rules.specs.Loans.{loan_words}
pub use Rattle.store_rules.specs.Tables.{Begun, begun}
use Rattle.buddy_rules.specs.Tables.{Tables, tables, marks, lengths_ok, chunk_words, book_words, tree_words, initial_levels}

-- the mark, and "Initial levels"
abbrev pub fresh_head : BuddySettings → List ℕ
fresh_head s = marks.head ∷ initial_levels s ∷ []

-- every word of every table is written, whatever was lent: the marks; no loan, no chunk, no link, no pair
unfoldable pub fresh_tables : BuddySettings → Tables
fresh_tables s =
    tables
    (fresh_head s)
    (blank (loan_words + loan_words * s.store.loans) marks.loans 0)
    (blank (chunk_words + chunk_words * s.store.chunks) marks.chunks 0)
    (blank (book_words s) marks.index 0)
    (blank (tree_words s) marks.room 0)

-- 1, but for the account, which set-up does not take
unfoldable pub fit_ok : BuddySettings → Tables → Bool
fit_ok s t = buddy_ok s && lengths_ok s t

-- "Set-up and ranking test only 1"
unfoldable pub plan_set_up : BuddySettings → Tables → Verdict
plan_set_up s t = first ((fit_ok s t, 1) ∷ [])

-- a refused set-up leaves every word as it was
unfoldable pub carry_set_up : BuddySettings → Tables → Verdict → Begun
carry_set_up s t (refuse n) = begun (Paper.refusal n []) t
carry_set_up s t pass = begun Paper.ready (fresh_tables s)

-- what set-up says and leaves, for every input
unfoldable pub set_up_of : BuddySettings → Tables → Begun
set_up_of s t = carry_set_up s t (plan_set_up s t)
