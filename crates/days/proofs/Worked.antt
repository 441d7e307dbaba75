-- That the definitions give what the paper says of each worked day.
use Rattle.std.specs.Prelude.{◌≡◌, refl, List, [], ◌∷◌, ◌++◌, map}
use Rattle.std.proofs.Common.{sym, ap, ◌∙◌}
use Rattle.rounding_rules.specs.Masks.{ones_ok, power_ok}
use Rattle.rounding_rules.specs.Raising.{up_to, down_to, bits, power_up}
use Rattle.rounding_rules.specs.Growth.{ceil_div, grown, doubled}
use Rattle.counter.specs.Table.{alignment_ok, store_ok, free_list_ok, heaps_upto}
use Rattle.heap.specs.Heap.{plus_of, charged_of, released_of, bears_ok, agrees_ok}
use Rattle.words.specs.Words.{blank}
use Rattle.slabs.specs.Slab.{inserted}
use Rattle.store_rules.specs.Tables.{signed_ok}
use Rattle.slabs.specs.Test.{vacancies, leads, parted_ok}
use Rattle.store_rules.specs.Delivery.{delivery_ok}
use Rattle.store_rules.specs.Loans.{loans_of}
use Rattle.store_rules.specs.Outcomes.{charged_account, released_account}
use Rattle.store_rules.specs.Tests.{covers_ok}
use Rattle.book_rules.specs.Book.{counted, entered, entered_index, seek_in, word_to, struck, struck_index}
use Rattle.book_rules.specs.Chains.{link_ok, left_after, left_of, chains_ok}
use Rattle.freelist_rules.specs.Walk.{fills_ok, sized_ok, chunk_ok, loan_ok}
use Rattle.freelist_rules.specs.Place.{fits_in, find_from, cut_off}
use Rattle.freelist_rules.specs.Join.{insert}
use Rattle.freelist_rules.specs.Threads.{threaded, unthreaded, cut_gaps, insert_gap, around, staying_gaps, followed, leads_ok, fronts_ok}
use Rattle.freelist_rules.specs.Release.{staying, leaving, remaining}
use Rattle.freelist_rules.specs.Tables.{lengths_ok, ordered, store_of, sound_ok, laid_gaps, laid_chunks}
use Rattle.freelist_outcomes.specs.Gate.{in_table_ok, account_ok, gate_of}
use Rattle.freelist_outcomes.specs.Ask.{size_ok, room_ok, count_ok, objects_ok, decide_ask, taken_tables, ordered_tables, carry_ask, plan_ask, ask_of}
use Rattle.freelist_outcomes.specs.Deliver.{deliver_gate_of, delivered_tables, carry_fate, plan_deliver, carry_deliver, deliver_of}
use Rattle.freelist_outcomes.specs.Return.{on_loan_ok, given_tables, released_tables, release_of, decide_return, plan_return, carry_return, return_of}
use Rattle.freelist_outcomes.specs.SetUp.{fresh_tables, fit_ok, plan_set_up, carry_set_up, set_up_of}
use Rattle.days.specs.Facts.{Fact, Day}
use Rattle.usage_rules.specs.Usage.{serves_ok, pattern_of, wanted_of, key_of}
use Rattle.usage_rules.specs.Ranking.{before, placed, order, row_as}
use Rattle.days.specs.Splitting.{splitting}
use Rattle.days.specs.Days.{ranking, lending, days}
use Rattle.days.proofs.SplitWorked.{split_worked}

-- on each of these days the definitions give what the paper says
first_worked : map (λ (d : Day). d.gives) (ranking ++ lending) ≡ map (λ (d : Day). d.says) (ranking ++ lending)
unfolding ranking lending serves_ok pattern_of wanted_of key_of before placed order row_as alignment_ok store_ok free_list_ok
    heaps_upto ones_ok power_ok up_to down_to bits power_up ceil_div grown doubled plus_of charged_of released_of bears_ok
    agrees_ok inserted vacancies leads parted_ok delivery_ok loans_of charged_account released_account covers_ok
    blank signed_ok counted entered entered_index seek_in word_to struck struck_index link_ok left_after left_of chains_ok
    fills_ok sized_ok chunk_ok loan_ok fits_in find_from cut_off insert staying leaving remaining lengths_ok ordered store_of
    sound_ok laid_gaps laid_chunks in_table_ok account_ok gate_of size_ok room_ok count_ok objects_ok decide_ask taken_tables ordered_tables
    carry_ask plan_ask ask_of deliver_gate_of delivered_tables carry_fate plan_deliver carry_deliver deliver_of on_loan_ok
    given_tables released_tables release_of decide_return plan_return carry_return return_of fresh_tables fit_ok
    plan_set_up carry_set_up set_up_of threaded unthreaded cut_gaps insert_gap around staying_gaps followed leads_ok fronts_ok
first_worked = refl

map_append : (f : Day → Fact) (xs ys : List Day) → map f (xs ++ ys) ≡ map f xs ++ map f ys
map_append f [] ys = refl
map_append f (x ∷ xs) ys = ap (λ (zs : List Fact). f x ∷ zs) (map_append f xs ys)

pub worked : map (λ (d : Day). d.gives) days ≡ map (λ (d : Day). d.says) days
unfolding days
worked =
    map_append (λ (d : Day). d.gives) (ranking ++ lending) splitting
    ∙ (λ j. first_worked j ++ split_worked j)
    ∙ sym (map_append (λ (d : Day). d.says) (ranking ++ lending) splitting)
