-- That the definitions give every word of the tables of a buddy store's day.
use Rattle.std.specs.Prelude.{◌≡◌, refl, false, [], ◌∷◌, map, ◌+◌, ◌^◌, replicate}
use Rattle.std.specs.Int.Count.{count_trailing_zeros}
use Rattle.rounding_rules.specs.Masks.{ones_ok, power_ok}
use Rattle.rounding_rules.specs.Raising.{up_to, bits, power_up, level_of}
use Rattle.counter.specs.Paper as Paper
use Rattle.counter.specs.Table.{alignment_ok, store_ok, buddy_ok, heaps_upto}
use Rattle.std.specs.Prelude.{None}
use Rattle.heap.specs.Heap.{plus_of, charged_of, released_of, bears_ok, agrees_ok}
use Rattle.words.specs.Words.{blank}
use Rattle.slabs.specs.Slab.{inserted}
use Rattle.store_rules.specs.Tables.{signed_ok}
use Rattle.slabs.specs.Test.{parted_ok, leads, vacancies, off_chain}
use Rattle.ring_rules.specs.Ring.{unlinked, linked}
use Rattle.ring_rules.specs.Test.{met_after, ring_length}
use Rattle.store_rules.specs.Delivery.{delivery_ok}
use Rattle.store_rules.specs.Outcomes.{charged_account, released_account}
use Rattle.store_rules.specs.Tests.{covers_ok}
use Rattle.book_rules.specs.Book.{counted, entered, entered_index, seek_in, word_to, struck, struck_index}
use Rattle.book_rules.specs.Chains.{chains_ok, left_of, left_after, link_ok}
use Rattle.buddy_trees.specs.Trees.{bytes}
use Rattle.buddy_rules.specs.Level.{dropped, backed, acquired, added, fresh_level}
use Rattle.buddy_rules.specs.Level as Level
use Rattle.buddy_rules.specs.LevelTest.{along, in_use, level_ok}
use Rattle.buddy_rules.specs.Tables.{lengths_ok, memories}
use Rattle.buddy_rules.specs.Test.{leaf_ok, entry_ok, and_then, left_node, left_chunk, left_chunks, live_count, pairs_in_use, pairs_ready, leaves_ok, counted_ok, memories_ok, units_ok, sound_ok}
use Rattle.buddy_rules.specs.Test as Test
use Rattle.buddy_rules.specs.Moves.{climbed, worded, split_down, split_chunk}
use Rattle.buddy_outcomes.specs.Gate.{in_table_ok, held_count, held_bytes, account_ok, gate_of}
use Rattle.buddy_outcomes.specs.Ask.{size_for, level_for, search_from, found_from, size_ok, pairs_room, room_ok, count_ok, objects_ok, decide_ask, fresh_levels, grown_tables, booked_tables, taken_tables, denied_tables, carry_ask, plan_ask, ask_of}
use Rattle.buddy_outcomes.specs.Deliver.{deliver_gate_of, chunk_tables, served_tables, carry_fate, plan_deliver, carry_deliver, deliver_of}
use Rattle.buddy_outcomes.specs.Return.{on_loan_ok, vacated_tree, given_tables, decide_return, plan_return, released_by, carry_return, return_of}
use Rattle.buddy_outcomes.specs.SetUp.{fresh_tables, fit_ok, plan_set_up, carry_set_up, set_up_of}
use Rattle.store_rules.specs.Outcomes.{out, listed}
use Rattle.days.specs.Facts.{row, left, back, Day, account, open_for, made}
use Rattle.days.specs.Splitting.{halves}
use Rattle.days.specs.SplitTables.{lent, idle, holding, slip, none_lent, one_lent, two_lent, three_lent, one_returned, two_returned, all_returned, split_tables}

-- each of its calls, computed
pub tables_worked : map (λ (d : Day). d.gives) split_tables ≡ map (λ (d : Day). d.says) split_tables
unfolding split_tables count_trailing_zeros ones_ok power_ok up_to bits power_up level_of alignment_ok store_ok buddy_ok heaps_upto
    plus_of charged_of released_of bears_ok agrees_ok inserted parted_ok leads vacancies off_chain unlinked linked met_after ring_length
    delivery_ok charged_account released_account covers_ok blank signed_ok counted entered entered_index seek_in
    word_to struck struck_index chains_ok left_of left_after link_ok bytes dropped backed acquired Level.entered added
    fresh_level along in_use level_ok lengths_ok leaf_ok entry_ok and_then left_node left_chunk left_chunks live_count Test.held_count pairs_in_use pairs_ready
    leaves_ok counted_ok memories_ok units_ok sound_ok climbed worded split_down split_chunk in_table_ok held_count held_bytes account_ok gate_of size_for level_for search_from
    found_from size_ok pairs_room room_ok count_ok objects_ok decide_ask fresh_levels grown_tables booked_tables taken_tables
    denied_tables carry_ask plan_ask ask_of deliver_gate_of memories chunk_tables served_tables carry_fate plan_deliver
    carry_deliver deliver_of on_loan_ok vacated_tree given_tables decide_return plan_return released_by carry_return return_of
    fresh_tables fit_ok plan_set_up carry_set_up set_up_of
tables_worked =
    λ j. begun j ∷ order_300 j ∷ block_300 j ∷ block_512 j ∷ next_512 j ∷ one_back j ∷ two_back j ∷ three_back j ∷ level_31 j ∷ past_31 j ∷ []
  where
    begun : left (out (set_up_of halves lent).said idle (set_up_of halves lent).tables) ≡ left (out Paper.ready idle none_lent)
    begun = refl

    order_300 : left (ask_of halves idle 300 0 none_lent) ≡ left (out (Paper.order 7 4096 0 false) (account 0 0 0 10 (open_for 300 4096)) none_lent)
    order_300 = refl

    block_300 : left (deliver_of halves (account 0 0 0 10 (open_for 300 4096)) (made 50) none_lent) ≡ left (out (Paper.block 1 0 0 512) holding one_lent)
    block_300 = refl

    block_512 : left (ask_of halves holding 512 0 one_lent) ≡ left (out (Paper.block 2 0 512 512) holding two_lent)
    block_512 = refl

    next_512 : left (ask_of halves holding 512 0 two_lent) ≡ left (out (Paper.block 3 0 1024 512) holding three_lent)
    next_512 = refl

    one_back : back (return_of halves holding (slip 1 0) three_lent (replicate 2 0)) ≡ back (listed (Paper.released 0) holding one_returned (replicate 2 0))
    one_back = refl

    two_back : back (return_of halves holding (slip 2 512) one_returned (replicate 2 0)) ≡ back (listed (Paper.released 0) holding two_returned (replicate 2 0))
    two_back = refl

    three_back : back (return_of halves holding (slip 3 1024) two_returned (replicate 2 0)) ≡ back (listed (Paper.released 1) (account 0 4096 4096 10 None) all_returned (50 ∷ 0 ∷ []))
    three_back = refl

    level_31 : row (level_for halves (2 ^ 39) 0 ∷ []) ≡ row (31 ∷ [])
    level_31 = refl

    past_31 : left (ask_of halves idle (2 ^ 39 + 1) 0 none_lent) ≡ left (out (Paper.refusal 6 []) idle none_lent)
    past_31 = refl
