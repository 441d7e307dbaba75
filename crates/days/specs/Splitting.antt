-- 01's worked days of a buddy store.
use Rattle.std.specs.Prelude.{false, List, [], ◌∷◌, ℕ, ◌+◌, ◌^◌, replicate}
use Rattle.counter.specs.Paper as Paper
use Rattle.counter.specs.declared.account.Account.{Account}
use Rattle.std.specs.Prelude.{None}
use Rattle.counter.specs.declared.settings.BuddySettings.{BuddySettings}
use Rattle.store_rules.specs.Outcomes.{Out, Listed}
use Rattle.buddy_rules.specs.Tables.{Tables, tables, book_words, tree_words}
use Rattle.buddy_outcomes.specs.Ask.{level_for, ask_of}
use Rattle.buddy_outcomes.specs.Deliver.{deliver_of}
use Rattle.buddy_outcomes.specs.Return.{return_of}
use Rattle.buddy_outcomes.specs.SetUp.{set_up_of}
use Rattle.days.specs.Facts.{row, heard, Day, day, account, open_for, made}

-- ---- "All masks 0 unless given. Buddy, minimal 256, initial 4,096."

abbrev pub halves : BuddySettings
halves = record { store = record { number = 7; memtype = 0; properties = 1; heap = 0; atom = 0; loans = 4; chunks = 2 }; minimal = 256; initial = 4096; pairs = 2 }

-- a store as it is set up, whatever stood in its tables
abbrev pub empty : Tables
empty =
    (set_up_of halves (tables (replicate 2 9) (replicate 20 9) (replicate 6 9) (replicate (book_words halves) 9) (replicate (tree_words halves) 9))).tables

-- the day's calls, each on what the one before left
abbrev pub asked : Out Tables
asked = ask_of halves (account 0 0 0 10 None) 300 0 empty

abbrev pub first : Out Tables
first = deliver_of halves asked.account (made 50) asked.tables

abbrev pub second : Out Tables
second = ask_of halves first.account 512 0 first.tables

abbrev pub third : Out Tables
third = ask_of halves second.account 512 0 second.tables

abbrev pub returned : Account → Tables → ℕ → ℕ → Listed Tables
returned a t serial offset = return_of halves a (record { serial = serial; chunk = 0; offset = offset; size = 512 }) t (replicate 2 0)

abbrev pub back_one : Listed Tables
back_one = returned third.account third.tables 1 0

abbrev pub back_two : Listed Tables
back_two = returned back_one.account back_one.tables 2 512

abbrev pub back_three : Listed Tables
back_three = returned back_two.account back_two.tables 3 1024

unfoldable pub splitting : List Day
splitting =
    -- "Ask 300: order 4,096; block offset 0, size 512."
    day (heard asked.said asked.account) (heard (Paper.order 7 4096 0 false) (account 0 0 0 10 (open_for 300 4096)))
    ∷ day (heard first.said first.account) (heard (Paper.block 1 0 0 512) (account 4096 4096 0 9 None))
    -- "Ask 512: offset 512." "Ask 512: offset 1,024."
    ∷ day (heard second.said second.account) (heard (Paper.block 2 0 512 512) (account 4096 4096 0 9 None))
    ∷ day (heard third.said third.account) (heard (Paper.block 3 0 1024 512) (account 4096 4096 0 9 None))
    -- "Return all three in that order: only the last releases the chunk."
    ∷ day (heard back_one.said back_one.account) (heard (Paper.released 0) (account 4096 4096 0 9 None))
    ∷ day (heard back_two.said back_two.account) (heard (Paper.released 0) (account 4096 4096 0 9 None))
    ∷ day (heard back_three.said back_three.account) (heard (Paper.released 1) (account 0 4096 4096 10 None))
    ∷ day (row back_three.list) (row (50 ∷ 0 ∷ []))
    -- "Ask 2^39 is level 31." "Ask 2^39 + 1: refusal 6."
    ∷ day (row (level_for halves (2 ^ 39) 0 ∷ [])) (row (31 ∷ []))
    ∷ day (heard (ask_of halves (account 0 0 0 10 None) (2 ^ 39 + 1) 0 empty).said (account 0 0 0 10 None)) (heard (Paper.refusal 6 []) (account 0 0 0 10 None))
    ∷ []
