-- 01's worked day of a buddy store again, with every word of every table that its calls leave.
use Rattle.std.specs.Prelude.{false, List, [], ◌∷◌, ◌++◌, ℕ, ◌+◌, ◌^◌, replicate}
use Rattle.counter.specs.Paper as Paper
use Rattle.counter.specs.declared.account.Account.{Account}
use Rattle.std.specs.Prelude.{None}
use Rattle.counter.specs.declared.answers.Block.{Block}
use Rattle.slabs.specs.Slab.{nowhere}
use Rattle.store_rules.specs.Outcomes.{out, listed}
use Rattle.buddy_rules.specs.Tables.{Tables, tables, marks, book_words, tree_words}
use Rattle.buddy_outcomes.specs.Ask.{level_for, ask_of}
use Rattle.buddy_outcomes.specs.Deliver.{deliver_of}
use Rattle.buddy_outcomes.specs.Return.{return_of}
use Rattle.buddy_outcomes.specs.SetUp.{set_up_of}
use Rattle.days.specs.Facts.{row, left, back, Day, day, account, open_for, made}
use Rattle.days.specs.Splitting.{halves}

-- whatever stands in the tables that are lent for it
abbrev pub lent : Tables
lent = tables (replicate 2 9) (replicate 20 9) (replicate 6 9) (replicate (book_words halves) 9) (replicate (tree_words halves) 9)

-- ---- its tables, word by word, as the day goes on

-- a pair: its tag (1 exhausted, 2 and 3 ready at its left and right, 0 gone), its chunk, its offset or the vacant record after it, the
-- words of its two nodes (0 free, 1, 3, 5 the loans, 2, 4 the pairs below), its ring's next and previous record, its node above
abbrev pub pair : ℕ → ℕ → ℕ → ℕ → ℕ → ℕ → ℕ → List ℕ
pair tag off l r next prev up = tag ∷ 0 ∷ off ∷ l ∷ r ∷ next ∷ prev ∷ up ∷ []

-- a level: its ring's head, how many records were used, the one vacated last; and its two pairs
abbrev pub level : ℕ → ℕ → ℕ → List ℕ → List ℕ → List ℕ
level ring used vacated p q = (ring ∷ used ∷ vacated ∷ replicate 5 0) ++ (p ++ q)

abbrev pub unused : List ℕ
unused = replicate 8 0

-- the tree: its mark; the levels of nodes of 256, 512, 1,024 and 2,048 bytes, and those above, which nothing reached; the chunk place
-- vacated last, and of the first of the two its top node's word
abbrev pub tree : List ℕ → List ℕ → List ℕ → ℕ → ℕ → List ℕ
tree one two three vacated top =
    (marks.room ∷ replicate 7 0)
    ++ (replicate 24 0 ++ (one ++ (two ++ (three ++ (replicate 672 0 ++ ((vacated ∷ replicate 7 0) ++ ((top ∷ replicate 7 0) ++ replicate 8 0)))))))

-- the loans: serials given and records used, and the first three records
abbrev pub loans : ℕ → List ℕ → List ℕ → List ℕ → List ℕ
loans n one two three = (marks.loans ∷ n ∷ n ∷ 0 ∷ []) ++ (one ++ (two ++ (three ++ replicate 4 0)))

-- the index: the record vacated last, the four entries (a chain's first, the next in its chain, the vacant one after it), and the
-- nodes of the loans
abbrev pub index : ℕ → List ℕ → List ℕ → List ℕ → ℕ → ℕ → List ℕ
index vacated one two three b c = (marks.index ∷ 0 ∷ vacated ∷ 0 ∷ 0 ∷ 0 ∷ []) ++ (one ++ (two ++ (three ++ (0 ∷ 0 ∷ b ∷ c ∷ 0 ∷ []))))

abbrev pub chunks : ℕ → ℕ → ℕ → List ℕ
chunks places memory size = marks.chunks ∷ places ∷ memory ∷ size ∷ 0 ∷ 0 ∷ []

abbrev pub record4 : ℕ → ℕ → ℕ → List ℕ
record4 serial offset size = serial ∷ 0 ∷ offset ∷ size ∷ []

abbrev pub entry : ℕ → ℕ → List ℕ
entry first after = first ∷ 0 ∷ after ∷ []

-- four levels, and nothing else: as set-up leaves it, whatever stood in its tables; the first order raises nothing
abbrev pub none_lent : Tables
none_lent = tables (marks.head ∷ 4 ∷ []) (marks.loans ∷ replicate 19 0) (marks.chunks ∷ replicate 5 0) (marks.index ∷ replicate 19 0) (marks.room ∷ replicate 799 0)

-- the chunk is split down to 512 bytes, whose left node is lent
abbrev pub one_lent : Tables
one_lent =
    tables
    (marks.head ∷ 4 ∷ [])
    (loans 1 (record4 1 0 512) (record4 0 0 0) (record4 0 0 0))
    (chunks 1 50 4096)
    (index 0 (entry 1 0) (entry 0 0) (entry 0 0) 0 0)
    (tree (level 1 1 0 (pair 3 0 1 0 1 1 0) unused) (level 1 1 0 (pair 3 0 2 0 1 1 0) unused) (level 1 1 0 (pair 3 0 2 0 1 1 nowhere) unused) 0 2)

-- and its right one
abbrev pub two_lent : Tables
two_lent =
    tables
    (marks.head ∷ 4 ∷ [])
    (loans 2 (record4 1 0 512) (record4 2 512 512) (record4 0 0 0))
    (chunks 1 50 4096)
    (index 0 (entry 1 0) (entry 2 0) (entry 0 0) 1 0)
    (tree (level 0 1 0 (pair 1 0 1 3 1 1 0) unused) (level 1 1 0 (pair 3 0 2 0 1 1 0) unused) (level 1 1 0 (pair 3 0 2 0 1 1 nowhere) unused) 0 2)

-- and the left one of the second pair, which the free node of 1,024 bytes is split into
abbrev pub three_lent : Tables
three_lent =
    tables
    (marks.head ∷ 4 ∷ [])
    (loans 3 (record4 1 0 512) (record4 2 512 512) (record4 3 1024 512))
    (chunks 1 50 4096)
    (index 0 (entry 1 0) (entry 2 0) (entry 3 0) 1 2)
    (tree (level 2 2 0 (pair 1 0 1 3 1 1 0) (pair 3 1024 5 0 2 2 1)) (level 0 1 0 (pair 1 0 2 4 1 1 0) unused) (level 1 1 0 (pair 3 0 2 0 1 1 nowhere) unused) 0 2)

-- the first block is back: its pair joins the ring before the head
abbrev pub one_returned : Tables
one_returned =
    tables
    (marks.head ∷ 4 ∷ [])
    (loans 3 (record4 0 0 0) (record4 2 512 512) (record4 3 1024 512))
    (chunks 1 50 4096)
    (index 1 (entry 0 0) (entry 2 0) (entry 3 0) 1 2)
    (tree (level 2 2 0 (pair 2 0 0 3 2 2 0) (pair 3 1024 5 0 1 1 1)) (level 0 1 0 (pair 1 0 2 4 1 1 0) unused) (level 1 1 0 (pair 3 0 2 0 1 1 nowhere) unused) 0 2)

-- and the second: their pair is gone, and the node above it free
abbrev pub two_returned : Tables
two_returned =
    tables
    (marks.head ∷ 4 ∷ [])
    (loans 3 (record4 0 0 0) (record4 0 512 0) (record4 3 1024 512))
    (chunks 1 50 4096)
    (index 2 (entry 0 1) (entry 0 0) (entry 3 0) 1 2)
    (tree (level 2 2 1 (pair 0 0 0 3 2 2 0) (pair 3 1024 5 0 2 2 1)) (level 1 1 0 (pair 2 0 0 4 1 1 0) unused) (level 1 1 0 (pair 3 0 2 0 1 1 nowhere) unused) 0 2)

-- and the third: all pairs are gone, and the chunk
abbrev pub all_returned : Tables
all_returned =
    tables
    (marks.head ∷ 4 ∷ [])
    (loans 3 (record4 0 0 0) (record4 0 512 0) (record4 0 1024 0))
    (chunks 1 50 0)
    (index 3 (entry 0 1) (entry 0 2) (entry 0 0) 1 2)
    (tree (level 0 2 2 (pair 0 0 0 3 2 2 0) (pair 0 1 5 0 2 2 1)) (level 0 1 1 (pair 0 0 0 4 1 1 0) unused) (level 0 1 1 (pair 0 0 2 0 1 1 nowhere) unused) 1 2)

-- ---- the day

abbrev pub idle : Account
idle = account 0 0 0 10 None

abbrev pub holding : Account
holding = account 4096 4096 0 9 None

abbrev pub slip : ℕ → ℕ → Block
slip serial offset = record { serial = serial; chunk = 0; offset = offset; size = 512 }

unfoldable pub split_tables : List Day
split_tables =
    day (left (out (set_up_of halves lent).said idle (set_up_of halves lent).tables)) (left (out Paper.ready idle none_lent))
    -- "Ask 300: order 4,096; block offset 0, size 512."
    ∷ day (left (ask_of halves idle 300 0 none_lent)) (left (out (Paper.order 7 4096 0 false) (account 0 0 0 10 (open_for 300 4096)) none_lent))
    ∷ day (left (deliver_of halves (account 0 0 0 10 (open_for 300 4096)) (made 50) none_lent)) (left (out (Paper.block 1 0 0 512) holding one_lent))
    -- "Ask 512: offset 512." "Ask 512: offset 1,024."
    ∷ day (left (ask_of halves holding 512 0 one_lent)) (left (out (Paper.block 2 0 512 512) holding two_lent))
    ∷ day (left (ask_of halves holding 512 0 two_lent)) (left (out (Paper.block 3 0 1024 512) holding three_lent))
    -- "Return all three in that order: only the last releases the chunk."
    ∷ day (back (return_of halves holding (slip 1 0) three_lent (replicate 2 0))) (back (listed (Paper.released 0) holding one_returned (replicate 2 0)))
    ∷ day (back (return_of halves holding (slip 2 512) one_returned (replicate 2 0))) (back (listed (Paper.released 0) holding two_returned (replicate 2 0)))
    ∷ day (back (return_of halves holding (slip 3 1024) two_returned (replicate 2 0))) (back (listed (Paper.released 1) (account 0 4096 4096 10 None) all_returned (50 ∷ 0 ∷ [])))
    -- "Ask 2^39 is level 31." "Ask 2^39 + 1: refusal 6."
    ∷ day (row (level_for halves (2 ^ 39) 0 ∷ [])) (row (31 ∷ []))
    ∷ day (left (ask_of halves idle (2 ^ 39 + 1) 0 none_lent)) (left (out (Paper.refusal 6 []) idle none_lent))
    ∷ []
