-- The marks of a buddy store's tables over its calls: set-up writes them, every other call leaves them, and is refused without them.
use mathlib.Core.Path.{◌≡◌, refl, ap, ◌∙◌}
use mathlib.Core.Bool.{Bool, true, false, cond}
use mathlib.Core.Logic.{⊎_elim}
use mathlib.Core.List.{List, []}
use Prim.Native.Nat.{ℕ, ◌+◌, ◌-◌, ◌≤◌, ◌<◌}
use native.Mathlib.Omega.{arith}
use lib.Dec.{eqb}
use lib.ListN.{get_or, set}
use lib.Seq.{get_or-set_other}
use Rattle.lists.proofs.Bools.{told}
use Rattle.words.specs.Words.{cell_of, mark_at}
use Rattle.counter.specs.Paper as Paper
use Rattle.counter.specs.declared.account.Account.{Account}
use Rattle.counter.specs.declared.account.KeptOrder.{KeptOrder}
use Rattle.counter.specs.declared.answers.Block.{Block}
use Rattle.counter.specs.declared.settings.BuddySettings.{BuddySettings}
use Rattle.store_rules.specs.Delivery.{Fate, kept, lost}
use Rattle.store_rules.specs.Loans.{given_at, places_at, loan, loans_of}
use Rattle.store_rules.specs.Outcomes.{Listed, listed}
use Rattle.store_rules.specs.Orders.{Plan, deny, take, buy}
use Rattle.store_rules.specs.Arrivals as Arrivals
use Rattle.store_rules.specs.Arrivals.{Arrival}
use Rattle.book_rules.specs.Book.{taken_of, entered_index}
use Rattle.book_rules.proofs.Owns.{entered_mark, entered_index_mark, struck_mark, struck_index_mark, word_past_mark}
use Rattle.engines.specs.Pools.{Slot, of_head, of_loans, of_chunks, of_index, of_room, table_of, seal, sign_of, Marking, Sealed}
use Rattle.engines.proofs.Signs.{in_slot}
use Rattle.engines.specs.Shapes.{Call, sets_up, asks, delivers, returns, others, does, lent_list}
use Rattle.buddy_rules.specs.Moves.{Cut}
use Rattle.buddy_rules.specs.Tables.{Tables, marks, chunk_words, chunk_size_at, given_in, levels_in, places_in, level_from, nodes_from}
use Rattle.buddy_rules.proofs.Owns.{acquired_own, climbed_own, split_down_own, split_chunk_own}
use Rattle.buddy_outcomes.specs.Ask.{grown_to, level_for, size_for, grown_tables, booked_tables, taken_tables, denied_tables, carry_ask, plan_ask, ask_of}
use Rattle.buddy_outcomes.specs.Deliver.{as_ordered, chunk_tables, served_tables, carry_fate, plan_deliver, carry_deliver, deliver_of}
use Rattle.buddy_outcomes.specs.Return.{word_for, climb_for, vacated_tree, given_tables, return_of}
use Rattle.buddy_outcomes.specs.SetUp.{set_up_of}
use Rattle.buddy_outcomes.proofs.Changed.{fresh_levels_own}
use Rattle.buddy_outcomes.proofs.Heads.{grown_word, chunk_mark, chunk_room_mark}
use Rattle.buddy_outcomes.proofs.Returned.{ReturnComes, denied, takes, return_comes, given_tables_lem}
use Rattle.buddy_outcomes.proofs.Vacated.{tree_mark_by}
use Rattle.buddy_outcomes.proofs.Sounds.{is_begun, set_up_sound}
use Rattle.buddy_engine.specs.Shape.{buddy_shape}
use Rattle.buddy_engine.proofs.Refusing.{unsigned_refused}

-- a set-up that is accepted signs all five
pub buddy_signs : (s : BuddySettings) (t : Tables) → (set_up_of s t).said ≡ Paper.ready → (z : Slot) → seal (table_of (set_up_of s t).tables z) ≡ sign_of marks z
buddy_signs s t e = in_slot marks (set_up_of s t).tables (set_up_sound s t (is_begun s t e)).signed

-- unless each of the five has its mark, each call but set-up is refused, by 1, 2 or 3, and leaves everything
pub buddy_unsigned : (s : BuddySettings) (a : Account) (t : Tables) (c : Call ⊥) → (c ≡ sets_up → ⊥) → (((z : Slot) → seal (table_of t z) ≡ sign_of marks z) → ⊥)
    → (n : ℕ) × (does buddy_shape s a t c ≡ listed (Paper.refusal n []) a t (lent_list c)) × (0 < n) × (n ≤ 3)
buddy_unsigned s a t c f h = unsigned_refused s a t c f (λ S. h (in_slot marks t S))

-- ---- every step leaves the five first words, of any tables

abbrev Stays : Tables → Tables → Type 0
Stays t u = (z : Slot) → seal (table_of u z) ≡ seal (table_of t z)

module _ (s : BuddySettings) where
  grown_stays : (n : ℕ) (t : Tables) → Stays t (grown_tables s n t)
  unfolding grown_tables
  grown_stays n t of_head = grown_word s n t mark_at (λ e. omega arith)
  grown_stays n t of_loans = refl
  grown_stays n t of_chunks = refl
  grown_stays n t of_index = refl
  grown_stays n t of_room = fresh_levels_own s mark_at (omega arith) (levels_in t) (n - levels_in t) t.room

  booked_stays : (c o size : ℕ) (cut : Cut) (t : Tables) → get_or cut.room mark_at 0 ≡ get_or t.room mark_at 0 → Stays t (booked_tables s c o size cut t)
  unfolding booked_tables
  booked_stays c o size cut t own of_head = refl
  booked_stays c o size cut t own of_loans = entered_mark (places_in t) t.index (loan (given_in t + 1) c o size) t.loans
  booked_stays c o size cut t own of_chunks = refl
  booked_stays c o size cut t own of_index =
      let n = s.store.loans in
      get_or-set_other (entered_index n (places_in t) (given_in t + 1) t.index) (nodes_from s + ((taken_of (places_in t) t.index).place + 1)) mark_at cut.node 0 (λ e. omega arith)
      ∙ entered_index_mark n (places_in t) (given_in t + 1) t.index
  booked_stays c o size cut t own of_room = own

  taken_stays : (z l i : ℕ) (t : Tables) → Stays t (taken_tables s z l t i)
  unfolding taken_tables
  taken_stays z l i t = booked_stays _ _ _ _ t (split_down_own s.pairs mark_at (omega arith) _ _ _ _ _ _ _ ∙ acquired_own (level_from s i) mark_at (omega arith) _ t.room)

  chunk_stays : (memory z : ℕ) (t : Tables) → Stays t (chunk_tables s memory z t)
  unfolding chunk_tables
  chunk_stays memory z t of_head = refl
  chunk_stays memory z t of_loans = refl
  chunk_stays memory z t of_chunks = chunk_mark s memory z t
  chunk_stays memory z t of_index = refl
  chunk_stays memory z t of_room = chunk_room_mark s memory z t

  served_stays : (z l memory bytes : ℕ) (t : Tables) → Stays t (served_tables s z l memory bytes t)
  unfolding served_tables
  served_stays z l memory bytes t i =
      booked_stays _ 0 z _ (chunk_tables s memory bytes t) (split_chunk_own s.pairs mark_at (omega arith) _ _ _ _ _) i ∙ chunk_stays memory bytes t i

  given_stays : (b : Block) (w : ℕ) (t : Tables) → 0 < w → Stays t (given_tables s b w t)
  unfolding given_tables vacated_tree
  given_stays b w t h of_head = refl
  given_stays b w t h of_loans = struck_mark w t.index t.loans
  given_stays b w t h of_chunks = by (climb_for s b w t).freed
    where
      by : (f : Bool) → get_or (cond f (set t.chunks (cell_of chunk_size_at chunk_words b.chunk) 0) t.chunks) mark_at 0 ≡ get_or t.chunks mark_at 0
      by true = get_or-set_other t.chunks (cell_of chunk_size_at chunk_words b.chunk) mark_at 0 0 (λ e. omega arith)
      by false = refl
  given_stays b w t h of_index = struck_index_mark w t.index h
  given_stays b w t h of_room =
      tree_mark_by s t b.chunk (climb_for s b w t).room [] [] (climb_for s b w t).freed ∙ climbed_own s.pairs mark_at (omega arith) _ _ _ t.room

-- ---- the calls

module _ (s : BuddySettings) (a : Account) (t : Tables) where
  ask_stays : (size mask : ℕ) (p : Plan ℕ) → Stays t (carry_ask s a size mask t p).tables
  unfolding carry_ask denied_tables
  ask_stays size mask (deny n) z = ⊎_elim (λ e. rw e (grown_stays s (grown_to (level_for s size mask) t) t z)) (λ e. rw e refl) (told (eqb n 9))
  ask_stays size mask (take i) z = taken_stays s (size_for s size mask) (level_for s size mask) i t z
  ask_stays size mask (buy y) z = grown_stays s (grown_to (level_for s size mask) t) t z

  fate_stays : (k : KeptOrder) (f : Fate) → Stays t (carry_fate s a k t f).tables
  unfolding carry_fate
  fate_stays k (kept m) z = served_stays s _ _ m _ (as_ordered s k t) z ∙ grown_stays s _ t z
  fate_stays k (lost n charged back) z = grown_stays s _ t z

  deliver_stays : (x : Arrival) → Stays t (carry_deliver s a t x).tables
  unfolding carry_deliver
  deliver_stays (Arrivals.deny n) z = refl
  deliver_stays (Arrivals.go k f) z = fate_stays k f z

  return_stays : (b : Block) (list : List ℕ) (r : Listed Tables) → ReturnComes s a b t list r → Stays t r.tables
  return_stays b list _ (denied n) z = refl
  return_stays b list _ (takes p on) z =
      ap (λ (u : Tables). seal (table_of u z)) (given_tables_lem s a b t list (word_for s b t))
      ∙ given_stays s b (word_for s b t) t (word_past_mark t.loans t.index s.store.loans (places_in t) b.serial) z

-- any call but set-up leaves the five first words
pub buddy_seals_stay : (s : BuddySettings) (a : Account) (t : Tables) (c : Call ⊥) → (c ≡ sets_up → ⊥) → (z : Slot)
    → seal (table_of (does buddy_shape s a t c).tables z) ≡ seal (table_of t z)
unfolding ask_of deliver_of
buddy_seals_stay s a t sets_up f z = absurd (f refl)
buddy_seals_stay s a t (asks size mask) f z = ask_stays s a t size mask (plan_ask s a size mask t) z
buddy_seals_stay s a t (delivers o) f z = deliver_stays s a t (plan_deliver s a o t) z
buddy_seals_stay s a t (returns b list) f z = return_stays s a t b list (return_of s a b t list) (return_comes s a b t list) z
buddy_seals_stay s a t (others c list) f z = absurd c

abbrev pub buddy_marking : Marking buddy_shape
buddy_marking = record { sign = sign_of marks; head_sign = refl; signs = buddy_signs; seals_stay = buddy_seals_stay; unsigned = buddy_unsigned }

-- the loans table alone says how many serials were given and which blocks are on loan
abbrev pub buddy_sealed : Sealed buddy_shape
buddy_sealed =
    record {
      marking = buddy_marking;
      given_in = λ loans. get_or loans given_at 0;
      loans_in = λ loans. loans_of (get_or loans places_at 0) loans;
      given_there = λ t. refl;
      loans_there = λ t. refl;
    }
