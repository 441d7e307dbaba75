-- A loan entered in the book and its node beside it are the tables with the loan booked.
use mathlib.Core.Path.{◌≡◌, refl, ap, ◌∙◌}
use mathlib.Core.List.{List, []}
use Prim.Native.Nat.{ℕ, ◌+◌, ◌%◌, ◌<◌}
use native.Mathlib.Omega.{arith}
use lib.ListN.{get_or, set}
use Rattle.words.specs.Rows.{written}
use Rattle.counter.specs.declared.settings.BuddySettings.{BuddySettings}
use Rattle.slabs.specs.Slab.{record_of}
use Rattle.slabs.specs.declared.Taken.{Taken}
use Rattle.store_rules.specs.Loans.{given_at, places_at, loan, loan_row}
use Rattle.store_rules.specs.declared.Loan.{Loan}
use Rattle.book_rules.specs.Book.{vacated_at, first_of, next_of, taken_of, counted, entered, entered_index}
use Rattle.book.proofs.Entering.{entered_loans, entered_index_lem}
use Rattle.buddy_rules.specs.Tables.{Tables, tables, nodes_from}
use Rattle.buddy_outcomes.specs.Ask.{booked_tables}

module _ (s : BuddySettings) (loans index : List ℕ) (taken : Taken) (next : taken ≡ taken_of (get_or loans places_at 0) index) where
  -- the place that the loan takes is one of the store's
  pub place_in : (taken_of (get_or loans places_at 0) index).place < s.store.loans → taken.place < s.store.loans
  place_in h = let e : taken.place ≡ (taken_of (get_or loans places_at 0) index).place = ap (λ (x : Taken). x.place) next in rw e h

  -- and so is its node's word
  pub node_in : (n : ℕ) → nodes_from s + ((taken_of (get_or loans places_at 0) index).place + 1) < n → nodes_from s + (taken.place + 1) < n
  node_in n h = let e : taken.place ≡ (taken_of (get_or loans places_at 0) index).place = ap (λ (x : Taken). x.place) next in omega (arith, e, h)

  module _ (l : Loan) (serial : l.serial ≡ get_or loans given_at 0 + 1) (node : ℕ) (head tree : List ℕ) where
    abbrev Places : ℕ
    Places = get_or loans places_at 0

    -- the tables as the loan leaves them
    abbrev after : Taken → ℕ → Tables
    after t g =
        tables
        head
        (entered Places index (loan g l.chunk l.offset l.size) loans)
        []
        (set (entered_index s.store.loans Places g index) (nodes_from s + (t.place + 1)) node)
        tree

    pub booked_done : (l' i₁ i' : List ℕ)
        → l' ≡ written loan_row taken.place l (counted l.serial taken.slab.places loans)
        → i₁ ≡ set (set (set index vacated_at (record_of taken.slab.vacant)) (next_of taken.place) (get_or index (first_of (l.serial % s.store.loans)) 0)) (first_of (l.serial % s.store.loans)) (record_of taken.place)
        → i' ≡ set i₁ (nodes_from s + (taken.place + 1)) node
        → tables head l' [] i' tree ≡ booked_tables s l.chunk l.offset l.size (record { node = node; room = tree }) (tables head loans [] index [])
    unfolding booked_tables
    booked_done l' i₁ i' ls is put =
        let x : l' ≡ entered Places index l loans = entered_loans Places index taken l loans l' next ls in
        let y : i₁ ≡ entered_index s.store.loans Places l.serial index = entered_index_lem Places index taken s.store.loans l.serial _ i₁ next refl is in
        let z : i' ≡ set (entered_index s.store.loans Places l.serial index) (nodes_from s + (taken.place + 1)) node = put ∙ ap (λ (i : List ℕ). set i (nodes_from s + (taken.place + 1)) node) y in
        (λ j. tables head (x j) [] (z j) tree) ∙ (λ j. after (next j) (serial j))
