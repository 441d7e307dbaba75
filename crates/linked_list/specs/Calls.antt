-- A free list's calls on words alone, as they are exported.
use Rattle.std.specs.Prelude.{Bool, cond, ◌&&◌, List, [], ℕ}
use Rattle.counter.specs.Paper as Paper
use Rattle.counter.specs.declared.answers.Block.{Block}
use Rattle.store_rules.specs.Outcomes.{Out, Listed}
use Rattle.freelist_rules.specs.Tables.{Tables}
use Rattle.freelist_outcomes.specs.Ask.{ask_of}
use Rattle.freelist_outcomes.specs.Deliver.{deliver_of}
use Rattle.freelist_outcomes.specs.Return.{return_of, clean_up_of}
use Rattle.freelist_outcomes.specs.SetUp.{Begun, begun, set_up_of}
use Rattle.wire_rules.specs.Linked.{Left, left, lent_right}
use Rattle.wire_rules.specs.Wire.{list_words, list_in, settings_ok, account_in, account_ok, outcome_in, outcome_ok}

-- the tables, and the lent list
pub record Listing : Type 0 where
  pub tables : Tables
  pub list : List ℕ

abbrev pub listing : Tables → List ℕ → Listing
listing t l = record { tables = t; list = l }

-- settings and account are right
abbrev pub right_ok : List ℕ → List ℕ → Bool
right_ok s a = settings_ok list_words s && account_ok a

unfoldable pub linked_set_up : List ℕ → Tables → Begun
linked_set_up s t = cond (settings_ok list_words s) (set_up_of (list_in s) t) (begun (Paper.refusal 1 []) t)

abbrev pub left_by : List ℕ → Out Tables → Left Tables
left_by a r = left a r.said r.account r.tables

abbrev pub left_listed : List ℕ → Listed Tables → Left Listing
left_listed a r = left a r.said r.account (listing r.tables r.list)

unfoldable pub linked_ask : List ℕ → List ℕ → ℕ → ℕ → Tables → Left Tables
linked_ask s a size mask t = lent_right (right_ok s a) a t (left_by a (ask_of (list_in s) (account_in a) size mask t))

unfoldable pub linked_deliver : List ℕ → List ℕ → ℕ → ℕ → ℕ → Tables → Left Tables
linked_deliver s a what memory mapping t =
    lent_right (right_ok s a && outcome_ok what mapping) a t (left_by a (deliver_of (list_in s) (account_in a) (outcome_in what memory mapping) t))

unfoldable pub linked_return : List ℕ → List ℕ → Block → Tables → List ℕ → Left Listing
linked_return s a b t list = lent_right (right_ok s a) a (listing t list) (left_listed a (return_of (list_in s) (account_in a) b t list))

unfoldable pub linked_clean_up : List ℕ → List ℕ → Tables → List ℕ → Left Listing
linked_clean_up s a t list = lent_right (right_ok s a) a (listing t list) (left_listed a (clean_up_of (list_in s) (account_in a) t list))
