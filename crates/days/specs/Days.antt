-- The worked days of 01 that are marked * : what the definitions give beside what the paper says, as one checked table.
use Rattle.std.specs.Prelude.{false, List, [], ◌∷◌, ◌++◌, ℕ, take, replicate}
use Rattle.counter.specs.Paper as Paper
use Rattle.std.specs.Prelude.{None}
use Rattle.counter.specs.declared.settings.FreeListSettings.{FreeListSettings}
use Rattle.store_rules.specs.Outcomes.{out, listed}
use Rattle.freelist_rules.specs.Tables.{Tables, tables, marks}
use Rattle.freelist_outcomes.specs.Ask.{ask_of}
use Rattle.freelist_outcomes.specs.Deliver.{deliver_of}
use Rattle.freelist_outcomes.specs.Return.{return_of}
use Rattle.freelist_outcomes.specs.SetUp.{set_up_of}
use Rattle.days.specs.Facts.{left, back, Day, day, ranks, account, open_for, made}
use Rattle.days.specs.Splitting.{splitting}
use Rattle.usage_rules.specs.Usage.{wanted_of}
use Rattle.usage_rules.specs.Ranking.{order, row_of}
use Rattle.usage_rules.specs.declared.Row.{Row}

-- a row's types, the best first
abbrev pub types : Row → List ℕ
types r = take r.count r.types

-- and its mask after them
abbrev pub types_mask : Row → List ℕ
types_mask r = types r ++ (r.mask ∷ [])

-- "Types with words 1, 6, 14, 7, 17."
abbrev pub stand : List ℕ
stand = 1 ∷ 6 ∷ 14 ∷ 7 ∷ 17 ∷ []

unfoldable pub ranking : List Day
ranking =
    -- "Usage 0: 0, 3, 1, 2, mask 15."
    ranks (types_mask (row_of stand 0)) (0 ∷ 3 ∷ 1 ∷ 2 ∷ 15 ∷ [])
    -- "Usage 4: 2, 1, 3, mask 14."
    ∷ ranks (types_mask (row_of stand 4)) (2 ∷ 1 ∷ 3 ∷ 14 ∷ [])
    -- "Usage 8: 1, 2, 3."
    ∷ ranks (types (row_of stand 8)) (1 ∷ 2 ∷ 3 ∷ [])
    -- "Usage 16: 1, 2, 0, 3, mask 15."
    ∷ ranks (types_mask (row_of stand 16)) (1 ∷ 2 ∷ 0 ∷ 3 ∷ 15 ∷ [])
    -- "Wanted: usage 0 gives 8, 16 gives 0, 5 gives 15."
    ∷ ranks (wanted_of 0 ∷ wanted_of 16 ∷ wanted_of 5 ∷ []) (8 ∷ 0 ∷ 15 ∷ [])
    ∷ []

-- "Free list, atom mask 63, start 4,096, final 16,384."
abbrev pub list : FreeListSettings
list = record { store = record { number = 7; memtype = 0; properties = 1; heap = 0; atom = 63; loans = 3; chunks = 2 }; start = 4096; last = 16384 }

-- ---- the store's tables, word by word, as the day goes on

-- as set-up leaves it, whatever was lent: no word of the index leads anywhere; the first ask's order raises nothing
abbrev pub opening : Tables
opening =
    tables
    (marks.head ∷ 4096 ∷ [])
    (marks.loans ∷ 0 ∷ 0 ∷ 0 ∷ 0 ∷ 0 ∷ 0 ∷ 0 ∷ 0 ∷ 0 ∷ 0 ∷ 0 ∷ 0 ∷ 0 ∷ 0 ∷ 0 ∷ [])
    (marks.chunks ∷ 0 ∷ 0 ∷ 0 ∷ 0 ∷ 0 ∷ 0 ∷ 0 ∷ 0 ∷ [])
    (marks.index ∷ 0 ∷ 0 ∷ 0 ∷ 0 ∷ 0 ∷ 0 ∷ 0 ∷ 0 ∷ 0 ∷ 0 ∷ 0 ∷ 0 ∷ 0 ∷ 0 ∷ 0 ∷ 0 ∷ 0 ∷ 0 ∷ 0 ∷ [])
    (marks.room ∷ 0 ∷ 0 ∷ 0 ∷ 0 ∷ 0 ∷ 0 ∷ 0 ∷ 0 ∷ 0 ∷ 0 ∷ 0 ∷ 0 ∷ 0 ∷ 0 ∷ 0 ∷ 0 ∷ 0 ∷ 0 ∷ 0 ∷ 0 ∷ 0 ∷ 0 ∷ 0 ∷ [])

-- the 128 is on loan
abbrev pub with_one : Tables
with_one =
    tables
    (marks.head ∷ 8192 ∷ [])
    (marks.loans ∷ 1 ∷ 1 ∷ 0 ∷ 1 ∷ 1 ∷ 3968 ∷ 128 ∷ 0 ∷ 0 ∷ 0 ∷ 0 ∷ 0 ∷ 0 ∷ 0 ∷ 0 ∷ [])
    (marks.chunks ∷ 1 ∷ 1 ∷ 1 ∷ 50 ∷ 4096 ∷ 0 ∷ 0 ∷ 0 ∷ [])
    (marks.index ∷ 0 ∷ 0 ∷ 0 ∷ 0 ∷ 0 ∷ 1 ∷ 0 ∷ 0 ∷ 0 ∷ 0 ∷ 0 ∷ 1 ∷ 0 ∷ 0 ∷ 0 ∷ 1 ∷ 0 ∷ 0 ∷ 0 ∷ [])
    (marks.room ∷ 1 ∷ 0 ∷ 0 ∷ 1 ∷ 0 ∷ 3968 ∷ 0 ∷ 0 ∷ 0 ∷ 0 ∷ 0 ∷ 0 ∷ 0 ∷ 0 ∷ 0 ∷ 0 ∷ 0 ∷ 0 ∷ 0 ∷ 0 ∷ 0 ∷ 0 ∷ 0 ∷ [])

-- and the 896; the next order raises nothing: 8,192 it is already
abbrev pub with_two : Tables
with_two =
    tables
    (marks.head ∷ 8192 ∷ [])
    (marks.loans ∷ 2 ∷ 2 ∷ 0 ∷ 1 ∷ 1 ∷ 3968 ∷ 128 ∷ 2 ∷ 1 ∷ 3072 ∷ 896 ∷ 0 ∷ 0 ∷ 0 ∷ 0 ∷ [])
    (marks.chunks ∷ 1 ∷ 1 ∷ 1 ∷ 50 ∷ 4096 ∷ 0 ∷ 0 ∷ 0 ∷ [])
    (marks.index ∷ 0 ∷ 0 ∷ 0 ∷ 0 ∷ 0 ∷ 1 ∷ 0 ∷ 0 ∷ 2 ∷ 0 ∷ 0 ∷ 2 ∷ 0 ∷ 1 ∷ 0 ∷ 1 ∷ 2 ∷ 0 ∷ 0 ∷ [])
    (marks.room ∷ 1 ∷ 0 ∷ 0 ∷ 1 ∷ 0 ∷ 3072 ∷ 0 ∷ 0 ∷ 0 ∷ 0 ∷ 0 ∷ 0 ∷ 0 ∷ 0 ∷ 0 ∷ 0 ∷ 0 ∷ 0 ∷ 0 ∷ 0 ∷ 0 ∷ 0 ∷ 0 ∷ [])

-- and the 5,056, of chunk 2
abbrev pub with_three : Tables
with_three =
    tables
    (marks.head ∷ 16384 ∷ [])
    (marks.loans ∷ 3 ∷ 3 ∷ 0 ∷ 1 ∷ 1 ∷ 3968 ∷ 128 ∷ 2 ∷ 1 ∷ 3072 ∷ 896 ∷ 3 ∷ 2 ∷ 3136 ∷ 5056 ∷ [])
    (marks.chunks ∷ 2 ∷ 2 ∷ 1 ∷ 50 ∷ 4096 ∷ 2 ∷ 51 ∷ 8192 ∷ [])
    (marks.index ∷ 0 ∷ 0 ∷ 3 ∷ 0 ∷ 0 ∷ 1 ∷ 0 ∷ 0 ∷ 2 ∷ 0 ∷ 0 ∷ 2 ∷ 3 ∷ 1 ∷ 0 ∷ 3 ∷ 2 ∷ 0 ∷ 1 ∷ [])
    (marks.room ∷ 2 ∷ 0 ∷ 0 ∷ 1 ∷ 0 ∷ 3072 ∷ 0 ∷ 2 ∷ 0 ∷ 3136 ∷ 1 ∷ 0 ∷ 0 ∷ 0 ∷ 0 ∷ 0 ∷ 0 ∷ 0 ∷ 0 ∷ 0 ∷ 0 ∷ 0 ∷ 0 ∷ [])

-- the 128 is back
abbrev pub less_one : Tables
less_one =
    tables
    (marks.head ∷ 16384 ∷ [])
    (marks.loans ∷ 3 ∷ 3 ∷ 0 ∷ 0 ∷ 1 ∷ 3968 ∷ 0 ∷ 2 ∷ 1 ∷ 3072 ∷ 896 ∷ 3 ∷ 2 ∷ 3136 ∷ 5056 ∷ [])
    (marks.chunks ∷ 2 ∷ 2 ∷ 1 ∷ 50 ∷ 4096 ∷ 2 ∷ 51 ∷ 8192 ∷ [])
    (marks.index ∷ 0 ∷ 1 ∷ 3 ∷ 0 ∷ 0 ∷ 0 ∷ 0 ∷ 0 ∷ 2 ∷ 0 ∷ 0 ∷ 2 ∷ 3 ∷ 3 ∷ 0 ∷ 3 ∷ 2 ∷ 0 ∷ 2 ∷ [])
    (marks.room ∷ 3 ∷ 0 ∷ 0 ∷ 1 ∷ 0 ∷ 3072 ∷ 0 ∷ 1 ∷ 3968 ∷ 4096 ∷ 2 ∷ 2 ∷ 0 ∷ 3136 ∷ 2 ∷ 0 ∷ 0 ∷ 0 ∷ 0 ∷ 0 ∷ 0 ∷ 0 ∷ 0 ∷ [])

-- and the 896: chunk 1 is gone
abbrev pub less_two : Tables
less_two =
    tables
    (marks.head ∷ 16384 ∷ [])
    (marks.loans ∷ 3 ∷ 3 ∷ 0 ∷ 0 ∷ 1 ∷ 3968 ∷ 0 ∷ 0 ∷ 1 ∷ 3072 ∷ 0 ∷ 3 ∷ 2 ∷ 3136 ∷ 5056 ∷ [])
    (marks.chunks ∷ 2 ∷ 1 ∷ 2 ∷ 51 ∷ 8192 ∷ 2 ∷ 51 ∷ 8192 ∷ [])
    (marks.index ∷ 0 ∷ 2 ∷ 3 ∷ 0 ∷ 0 ∷ 0 ∷ 0 ∷ 1 ∷ 0 ∷ 0 ∷ 0 ∷ 3 ∷ 3 ∷ 3 ∷ 0 ∷ 3 ∷ 2 ∷ 0 ∷ 0 ∷ [])
    (marks.room ∷ 1 ∷ 0 ∷ 0 ∷ 2 ∷ 0 ∷ 3136 ∷ 0 ∷ 2 ∷ 0 ∷ 3136 ∷ 0 ∷ 2 ∷ 0 ∷ 3136 ∷ 2 ∷ 0 ∷ 0 ∷ 0 ∷ 0 ∷ 0 ∷ 0 ∷ 0 ∷ 0 ∷ [])

-- ---- the day

unfoldable pub lending : List Day
lending =
    day (left (out (set_up_of list (tables (replicate 2 9) (replicate 16 9) (replicate 9 9) (replicate 20 9) (replicate 24 9))).said
    (account 0 0 0 10 None)
    (set_up_of list (tables (replicate 2 9) (replicate 16 9) (replicate 9 9) (replicate 20 9) (replicate 24 9))).tables))
    (left (out Paper.ready (account 0 0 0 10 None) opening))
    -- "Ask 100: order 4,096, block 3,968 size 128."
    ∷ day (left (ask_of list (account 0 0 0 10 None) 100 0 opening))
    (left (out (Paper.order 7 4096 0 false) (account 0 0 0 10 (open_for 100 4096)) opening))
    ∷ day (left (deliver_of list (account 0 0 0 10 (open_for 100 4096)) (made 50) opening))
    (left (out (Paper.block 1 1 3968 128) (account 4096 4096 0 9 None) with_one))
    -- "Then 256 with mask 1,023: offset 3,072, size 896."
    ∷ day (left (ask_of list (account 4096 4096 0 9 None) 256 1023 with_one))
    (left (out (Paper.block 2 1 3072 896) (account 4096 4096 0 9 None) with_two))
    -- "Then 5,000: order 8,192, chunk 2, offset 3,136, size 5,056."
    ∷ day (left (ask_of list (account 4096 4096 0 9 None) 5000 0 with_two))
    (left (out (Paper.order 7 8192 0 false) (account 4096 4096 0 9 (open_for 5000 8192)) with_two))
    ∷ day (left (deliver_of list (account 4096 4096 0 9 (open_for 5000 8192)) (made 51) with_two))
    (left (out (Paper.block 3 2 3136 5056) (account 12288 12288 0 8 None) with_three))
    -- "Return the 128, then the 896: chunk 1 is released."
    ∷ day (back (return_of list (account 12288 12288 0 8 None) (record { serial = 1; chunk = 1; offset = 3968; size = 128 }) with_three (replicate 2 0)))
    (back (listed (Paper.released 0) (account 12288 12288 0 8 None) less_one (replicate 2 0)))
    ∷ day (back (return_of list (account 12288 12288 0 8 None) (record { serial = 2; chunk = 1; offset = 3072; size = 896 }) less_one (replicate 2 0)))
    (back (listed (Paper.released 1) (account 8192 12288 4096 9 None) less_two (50 ∷ 0 ∷ [])))
    ∷ []

unfoldable pub days : List Day
days = (ranking ++ lending) ++ splitting
