-- What set-up says and leaves.
use Rattle.std.specs.Prelude.{Bool, ◌&&◌, List, [], ◌∷◌, ℕ, ◌+◌, ◌*◌}
use Rattle.words.specs.Words.{blank}
use Rattle.counter.specs.Gate.{Verdict, pass, refuse, first}
use Rattle.counter.specs.Paper as Paper
use Rattle.counter.specs.Table.{free_list_ok}
use Rattle.counter.specs.declared.settings.FreeListSettings.{FreeListSettings}
use Rattle.store_rules.specs.Loans.{loan_words}
use Rattle.freelist_rules.specs.Threads.{thread_words}
pub use Rattle.store_rules.specs.Tables.{Begun, begun}
use Rattle.freelist_rules.specs.Records.{chunk_words}
use Rattle.freelist_rules.specs.Tables.{Tables, tables, marks, lengths_ok, room_words}

-- the mark, and the chunk size of the settings
abbrev pub fresh_head : FreeListSettings → List ℕ
fresh_head s = marks.head ∷ s.start ∷ []

-- every word of every table is written, whatever was lent: the marks; no loan, no chunk, no link, no region
unfoldable pub fresh_tables : FreeListSettings → Tables
fresh_tables s =
    tables
    (fresh_head s)
    (blank (loan_words + loan_words * s.store.loans) marks.loans 0)
    (blank (chunk_words + chunk_words * s.store.chunks) marks.chunks 0)
    (blank (thread_words s.store.loans) marks.index 0)
    (blank (room_words s) marks.room 0)

-- 1, but for the account, which set-up does not take
unfoldable pub fit_ok : FreeListSettings → Tables → Bool
fit_ok s t = free_list_ok s && lengths_ok s t

-- "Set-up and ranking test only 1"
unfoldable pub plan_set_up : FreeListSettings → Tables → Verdict
plan_set_up s t = first ((fit_ok s t, 1) ∷ [])

-- a refusal leaves every word as it was
unfoldable pub carry_set_up : FreeListSettings → Tables → Verdict → Begun
carry_set_up s t (refuse n) = begun (Paper.refusal n []) t
carry_set_up s t pass = begun Paper.ready (fresh_tables s)

-- the call
unfoldable pub set_up_of : FreeListSettings → Tables → Begun
set_up_of s t = carry_set_up s t (plan_set_up s t)
