-- What a return to a buddy store says and leaves. 01, "buddy.rs", and test 7.
use Rattle.std.specs.Prelude.{Bool, cond, List, [], ◌∷◌, ℕ, ◌+◌, ◌-◌, get_or, set}
use Rattle.std.proofs.lemmas.List.Edits.{sets}
use Rattle.words.specs.Words.{cell_of}
use Rattle.slabs.specs.Slab.{record_of}
use Rattle.rounding_rules.specs.Raising.{level_of}
use Rattle.counter.specs.Gate.{gated}
use Rattle.counter.specs.Paper as Paper
use Rattle.counter.specs.declared.account.Account.{Account}
use Rattle.counter.specs.declared.answers.Block.{Block}
use Rattle.counter.specs.declared.settings.BuddySettings.{BuddySettings}
use Rattle.store_rules.specs.Outcomes.{Listed, listed, list_ok, released_account}
use Rattle.book_rules.specs.Book.{led_to, struck, struck_index}
use Rattle.book_rules.specs.Returns as Returns
pub use Rattle.book_rules.specs.Returns.{Plan, deny, back, decided}
use Rattle.buddy_rules.specs.Tables.{Tables, tables, given_in, chunk_words, chunk_size_at, levels_in, places_in, memory_in, chunk_size_in, chunks_from, place_at, after_at, place_words, node_of_loan}
use Rattle.buddy_rules.specs.Moves.{Climbed, climbed}
use Rattle.buddy_outcomes.specs.Gate.{gate_of}

-- the word of the index that leads to the loan with the block's serial, and the loan's place
abbrev pub word_for : BuddySettings → Block → Tables → ℕ
word_for s b t = Returns.word_for t.loans t.index s.store.loans (places_in t) b

-- 7: "no loan has this serial, chunk, offset and size"
unfoldable pub on_loan_ok : BuddySettings → Block → Tables → Bool
on_loan_ok s b t = Returns.on_loan_ok t.loans t.index s.store.loans (places_in t) b

-- the climb from node n of level l
abbrev pub climb_from : BuddySettings → ℕ → ℕ → Tables → Climbed
climb_from s l n t = climbed s.pairs (levels_in t - l) l n t.room

-- and that from the node of the block's loan, to which the word w leads
abbrev pub climb_for : BuddySettings → Block → ℕ → Tables → Climbed
climb_for s b w t = climb_from s (level_of b.size s.minimal) (node_of_loan s t (led_to t.index w)) t

-- "above the top the chunk is released": its place is vacant, and the next to be taken
unfoldable pub vacated_tree : BuddySettings → ℕ → List ℕ → List ℕ
vacated_tree s c t = set (set t (cell_of (place_at s after_at) place_words c) (get_or t (chunks_from s) 0)) (chunks_from s) (record_of c)

unfoldable pub given_tables : BuddySettings → Block → ℕ → Tables → Tables
given_tables s b w t =
    tables
    t.head
    (struck w t.index t.loans)
    (cond (climb_for s b w t).freed (set t.chunks (cell_of chunk_size_at chunk_words b.chunk) 0) t.chunks)
    (struck_index w t.index)
    (cond (climb_for s b w t).freed (vacated_tree s b.chunk (climb_for s b w t).room) (climb_for s b w t).room)

-- ---- the call

unfoldable pub decide_return : BuddySettings → Block → Tables → Plan
decide_return s b t = decided (on_loan_ok s b t) (word_for s b t)

unfoldable pub plan_return : BuddySettings → Account → Block → Tables → Bool → Plan
plan_return s a b t list = gated deny (gate_of s a t list) (decide_return s b t)

-- how many chunks go, and what they have: the block's or none
unfoldable pub released_by : BuddySettings → Account → Block → ℕ → Tables → List ℕ → Listed Tables
released_by s a b w t list =
    cond (climb_for s b w t).freed
    (listed (Paper.released 1) (released_account s.store a 1 (chunk_size_in t b.chunk)) (given_tables s b w t) (sets list 0 (memory_in t b.chunk ∷ [])))
    (listed (Paper.released 0) (released_account s.store a 0 0) (given_tables s b w t) list)

unfoldable pub carry_return : BuddySettings → Account → Block → Tables → List ℕ → Plan → Listed Tables
carry_return s a b t list (deny n) = listed (Paper.refusal n []) a t list
carry_return s a b t list (back w) = released_by s a b w t list

unfoldable pub return_of : BuddySettings → Account → Block → Tables → List ℕ → Listed Tables
return_of s a b t list = carry_return s a b t list (plan_return s a b t (list_ok s.store list))
