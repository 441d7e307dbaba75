-- What a return and a clean-up say and leave. 01, "freelist.rs", and test 7.
use Rattle.std.specs.Prelude.{Bool, true, false, cond, List, [], ℕ, ◌+◌, ◌-◌, length, get_or}
use Rattle.std.proofs.lemmas.List.Edits.{sets}
use Rattle.counter.specs.Gate.{Verdict, pass, refuse, gated}
use Rattle.counter.specs.Paper as Paper
use Rattle.counter.specs.declared.account.Account.{Account}
use Rattle.counter.specs.declared.answers.Block.{Block}
use Rattle.counter.specs.declared.settings.FreeListSettings.{FreeListSettings}
use Rattle.store_rules.specs.Outcomes.{Listed, listed, list_ok, released_account}
use Rattle.book_rules.specs.Book.{struck, struck_index}
use Rattle.book_rules.specs.Returns as Returns
pub use Rattle.book_rules.specs.Returns.{Plan, deny, back, decided}
use Rattle.freelist_rules.specs.Records.{region}
use Rattle.freelist_rules.specs.Release.{leaving, remaining, memories_of, bytes_of, wholly}
use Rattle.freelist_rules.specs.Tables.{Tables, tables, places_in, store_of, laid_chunks, gaps_in, whole_in, laid_gaps}
use Rattle.store_rules.specs.declared.Region.{Region}
use Rattle.freelist_outcomes.specs.Gate.{gate_of}
use Rattle.freelist_rules.specs.Threads.{before_in, unthreaded, insert_gap, around, staying_gaps}

-- the word of the index that leads to the loan with the block's serial
abbrev pub word_for : FreeListSettings → Block → Tables → ℕ
word_for s b t = Returns.word_for t.loans t.index s.store.loans (places_in t) b

-- 7: "no loan has this serial, chunk, offset and size"
unfoldable pub on_loan_ok : FreeListSettings → Block → Tables → Bool
on_loan_ok s b t = Returns.on_loan_ok t.loans t.index s.store.loans (places_in t) b

-- the record that the word w leads to, and the bytes of the block
abbrev pub record_at : ℕ → Tables → ℕ
record_at w t = get_or t.index w 0

abbrev pub bytes_from : Block → Region
bytes_from b = region b.chunk b.offset (b.offset + b.size)

-- how many regions are whole once they are free: one more, if they then are all of their chunk
abbrev pub whole_now : FreeListSettings → Block → Tables → ℕ
whole_now s b t = whole_in t + cond (wholly (store_of s t).chunks (around (bytes_from b) (store_of s t).regions)) 1 0

-- the loan that the word w leads to is struck out, and its bytes go back among the free regions
unfoldable pub given_tables : FreeListSettings → Block → ℕ → Tables → Tables
given_tables s b w t =
    tables
    t.head
    (struck w t.index t.loans)
    t.chunks
    (unthreaded s.store.loans (record_at w t) (struck_index w t.index))
    (laid_gaps (insert_gap (bytes_from b) (record_at w t) (before_in s.store.loans t.index (record_at w t)) (gaps_in t)) (whole_now s b t) t.room)

-- ---- the release

-- the regions whose chunks go, in the order of the list
abbrev pub gone_from : FreeListSettings → Bool → Tables → List Region
gone_from s spare t = leaving (store_of s t).chunks spare [] (store_of s t).regions

unfoldable pub released_tables : FreeListSettings → Bool → Tables → Tables
released_tables s spare t =
    tables
    t.head
    t.loans
    (laid_chunks (remaining (gone_from s spare t) (store_of s t).chunks) t.chunks)
    t.index
    (laid_gaps (staying_gaps (store_of s t).chunks spare (gaps_in t)) (whole_in t - length (gone_from s spare t)) t.room)

unfoldable pub release_of : FreeListSettings → Account → Bool → Tables → List ℕ → Listed Tables
release_of s a spare t list =
    listed
    (Paper.released (length (gone_from s spare t)))
    (released_account s.store a (length (gone_from s spare t)) (bytes_of (gone_from s spare t)))
    (released_tables s spare t)
    (sets list 0 (memories_of (store_of s t).chunks (gone_from s spare t)))

-- ---- the calls

unfoldable pub decide_return : FreeListSettings → Block → Tables → Plan
decide_return s b t = decided (on_loan_ok s b t) (word_for s b t)

unfoldable pub plan_return : FreeListSettings → Account → Block → Tables → Bool → Plan
plan_return s a b t list = gated deny (gate_of s a t list) (decide_return s b t)

unfoldable pub carry_return : FreeListSettings → Account → Block → Tables → List ℕ → Plan → Listed Tables
carry_return s a b t list (deny n) = listed (Paper.refusal n []) a t list
carry_return s a b t list (back w) = release_of s a true (given_tables s b w t) list

unfoldable pub return_of : FreeListSettings → Account → Block → Tables → List ℕ → Listed Tables
return_of s a b t list = carry_return s a b t list (plan_return s a b t (list_ok s.store list))

-- a clean-up has no test behind the gate
abbrev pub plan_clean_up : FreeListSettings → Account → Tables → Bool → Verdict
plan_clean_up s a t list = gate_of s a t list

unfoldable pub carry_clean_up : FreeListSettings → Account → Tables → List ℕ → Verdict → Listed Tables
carry_clean_up s a t list (refuse n) = listed (Paper.refusal n []) a t list
carry_clean_up s a t list pass = release_of s a false t list

unfoldable pub clean_up_of : FreeListSettings → Account → Tables → List ℕ → Listed Tables
clean_up_of s a t list = carry_clean_up s a t list (plan_clean_up s a t (list_ok s.store list))
