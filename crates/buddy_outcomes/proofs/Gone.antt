-- A serial that was given and that no loan has: over one call of a buddy store, with any settings, account and arguments, it
-- stays so; a return that is taken makes it so; and where it is so the return of its block is refused.
use mathlib.Core.Path.{◌≡◌, refl, sym, ap, subst, ◌∙◌}
use mathlib.Core.Bool.{Bool, true, not, ◌&&◌}
use mathlib.Core.Logic.{◌⊎◌, inl, inr, ⊎_elim}
use mathlib.Core.List.{List, []}
use Prim.Native.Nat.{ℕ, ◌+◌, ◌*◌, ◌≤◌, ◌<◌}
use native.Mathlib.Omega.{arith}
use lib.Dec.{eqb, ltb}
use lib.ListN.{length, get_or}
use Rattle.lists.proofs.Bools.{told, same?}
use Rattle.words.specs.Words.{mark_at}
use Rattle.counter.specs.Account.{heap_at}
use Rattle.counter.specs.Gate.{Verdict, refuse, pass, gated}
use Rattle.counter.specs.InTable.{BuddyIn}
use Rattle.counter.specs.Paper as Paper
use Rattle.counter.specs.Reasons.{none, reason, Given}
use Rattle.counter.specs.declared.account.Account.{Account}
use Rattle.counter.specs.declared.account.KeptOrder.{KeptOrder}
use Rattle.counter.specs.Open.{OpenOrder}
use Rattle.std.specs.Prelude.{None, Some}
use Rattle.counter.specs.declared.answers.Block.{Block}
use Rattle.counter.specs.declared.answers.Outcome.{Outcome}
use Rattle.counter.specs.declared.settings.BuddySettings.{BuddySettings}
use Rattle.counter.proofs.Papers.{kind_of}
use Rattle.counter.proofs.Reasoned.{given_then}
use Rattle.store_rules.specs.Delivery.{Fate, kept, lost, buddy, fate_of, delivery_ok}
use Rattle.store_rules.specs.Loans.{loan, loan_words, size_at, serial_at}
use Rattle.store_rules.specs.Orders.{Plan, deny, take, buy}
use Rattle.store_rules.specs.Outcomes.{Listed, listed, list_ok}
use Rattle.store_rules.specs.declared.Loan.{Loan}
use Rattle.book_rules.specs.Book.{taken_of, serial_of, led_to}
use Rattle.book_rules.proofs.Decides.{serial_once}
use Rattle.book_rules.proofs.Keeps.{BookParted, free_in, taken_where}
use Rattle.buddy_rules.specs.Tables.{Tables, Lengths, given_in, places_in, chunk_places_in, loan_cell, live_in, chain_start, chain_next, memories, marks}
use Rattle.buddy_rules.specs.Moves.{Cut}
use Rattle.buddy_rules.specs.Sound.{Sound}
use Rattle.buddy_outcomes.specs.Gate.{gate_of}
use Rattle.buddy_outcomes.specs.Ask as Ask
use Rattle.buddy_outcomes.specs.Ask.{grown_to, decide_ask, grown_tables, booked_tables, taken_tables, denied_tables, carry_ask, plan_ask, ask_of, size_for, level_for}
use Rattle.buddy_outcomes.specs.Deliver as Deliver
use Rattle.buddy_outcomes.specs.Deliver.{deliver_gate_of, chunk_tables, served_tables, carry_fate, decide_deliver, plan_deliver, carry_deliver, deliver_of}
use Rattle.buddy_outcomes.specs.Refusals.{buddy_words}
use Rattle.store_rules.specs.Rows.{Stale, list_rows}
use Rattle.buddy_outcomes.specs.Return.{word_for, on_loan_ok, given_tables, released_by, return_of}
use Rattle.buddy_outcomes.proofs.Booked.{lower}
use Rattle.buddy_outcomes.proofs.Changed.{grown_lengths}
use Rattle.buddy_outcomes.proofs.Delivered.{grown_sound, place, gate_sound, opened}
use Rattle.buddy_outcomes.proofs.Given as Back
use Rattle.buddy_outcomes.proofs.Heads.{grown_word, booked_given, booked_places, back_given}
use Rattle.buddy_outcomes.proofs.Loaned.{live_used, live_given}
use Rattle.buddy_outcomes.proofs.Passing.{Passed, gate_passed}
use Rattle.buddy_outcomes.proofs.Plans.{Takes, takes, Buys}
use Rattle.buddy_outcomes.proofs.Refused.{return_refused}
use Rattle.buddy_outcomes.proofs.Returned.{ReturnComes, return_comes, given_tables_lem}
use Rattle.buddy_outcomes.proofs.Searches.{room_place}
use Rattle.buddy_outcomes.proofs.Written.{OfLoan, entered_serial, entered_other}

-- serial k was given by a buddy store, and no loan of these tables has it
pub record Gone (k : ℕ) (t : Tables) : Type 0 where
  pub old : k ≤ given_in t
  pub away : (p : ℕ) → live_in t p ≡ true → loan_cell t serial_at p ≡ k → ⊥
  pub marked : get_or t.head mark_at 0 ≡ marks.head

-- ---- levels grow, and a chunk arrives: the loans, their places and the serials given are as they were

grown_gone : (k : ℕ) (s : BuddySettings) (n : ℕ) (t : Tables) → Gone k t → Gone k (grown_tables s n t)
unfolding grown_tables
grown_gone k s n t g = record { old = g.old; away = g.away; marked = grown_word s n t mark_at (λ e. omega arith) ∙ g.marked }

chunk_gone : (k : ℕ) (s : BuddySettings) (memory z : ℕ) (t : Tables) → Gone k t → Gone k (chunk_tables s memory z t)
unfolding chunk_tables
chunk_gone k s memory z t g = record { old = g.old; away = g.away; marked = g.marked }

-- ---- a loan is entered: its serial is a new one, and the others are as they were

-- what is asked of the book
record Roomy (s : BuddySettings) (t : Tables) : Type 0 where
  loans : length t.loans ≡ loan_words + loan_words * s.store.loans
  place : (taken_of (places_in t) t.index).place < s.store.loans
  parted : BookParted t.loans t.index s.store.loans (places_in t)

module _ (k : ℕ) (s : BuddySettings) (t : Tables) (fit : BuddyIn s) (r : Roomy s t) (c o size : ℕ) (cut : Cut) where
  abbrev here : ℕ
  here = (taken_of (places_in t) t.index).place

  abbrev new : Loan
  new = loan (given_in t + 1) c o size

  abbrev booked : Tables
  booked = booked_tables s c o size cut t

  some : loan_words ≤ length t.loans
  some = omega (arith, r.loans)

  booked_serial : loan_cell booked serial_at here ≡ given_in t + 1
  unfolding booked_tables
  booked_serial = entered_serial (places_in t) t.index new t.loans s.store.loans r.loans r.place

  booked_cell : (f x : ℕ) → OfLoan f → (x ≡ here → ⊥) → loan_cell booked f x ≡ loan_cell t f x
  unfolding booked_tables
  booked_cell = entered_other (places_in t) t.index new t.loans s.store.loans r.loans r.place

  booked_live : (x : ℕ) → (x ≡ here → ⊥) → live_in booked x ≡ live_in t x
  booked_live x n =
      let q = (taken_of (places_in t) t.index).slab.places in
      let w : ((here ≡ places_in t) × (q ≡ places_in t + 1)) ⊎ ((here < places_in t) × (q ≡ places_in t)) =
      ⊎_elim (λ w. inl w) (λ w. inr (w.0, w.2))
      (taken_where t.loans t.index s.store.loans (places_in t) (omega (arith, fit.store.loans_most_lem)) r.parted) in
      ap (λ (p : ℕ). ltb x p && not (eqb (loan_cell booked size_at x) 0)) (booked_places s t c o size cut some)
      ∙ ap (λ (y : ℕ). ltb x q && not (eqb y 0)) (booked_cell size_at x (omega arith) n)
      ∙ ap (λ (b : Bool). b && not (eqb (loan_cell t size_at x) 0)) (lower x here (places_in t) q w n)

  booked_gone : Gone k t → Gone k booked
  unfolding booked_tables
  booked_gone g = record {
    old = omega (arith, g.old, booked_given s t c o size cut some);
    away = λ p h e. ⊎_elim
        (λ i. let z : loan_cell booked serial_at p ≡ given_in t + 1 = ap (loan_cell booked serial_at) i ∙ booked_serial in omega (arith, g.old, z, e))
        (λ n. g.away p (sym (booked_live p n) ∙ h) (sym (booked_cell serial_at p (omega arith) n) ∙ e))
        (same? p here);
    marked = g.marked;
  }

-- ---- an ask

module _ (k : ℕ) (s : BuddySettings) (a : Account) (size mask : ℕ) (t : Tables) (g : Gone k t) where
  denied_gone : (n : ℕ) → Gone k (denied_tables s (level_for s size mask) n t)
  unfolding denied_tables
  denied_gone n = ⊎_elim (λ e. rw e (grown_gone k s (grown_to (level_for s size mask) t) t g)) (λ e. rw e g) (told (eqb n 9))

  taken_gone : (i : ℕ) → Passed s a t true → Takes s size mask t i → Gone k (taken_tables s (size_for s size mask) (level_for s size mask) t i)
  unfolding taken_tables
  taken_gone i p h =
      let r : Roomy s t = record {
        loans = p.lent.lengths.loans;
        place = room_place s t size mask (Ask.at i) h.room;
        parted = p.sound.loans_parted;
      } in
      booked_gone k s t p.lent.settings r _ _ _ _ g

  carried_gone : (p : Plan ℕ) → ((i : ℕ) → p ≡ take i → Gone k (taken_tables s (size_for s size mask) (level_for s size mask) t i)) → Gone k (carry_ask s a size mask t p).tables
  unfolding carry_ask
  carried_gone (deny n) f = denied_gone n
  carried_gone (take i) f = f i refl
  carried_gone (buy z) f = grown_gone k s (grown_to (level_for s size mask) t) t g

  asked_gone : (v : Verdict) → gate_of s a t true ≡ v → Gone k (carry_ask s a size mask t (gated Ask.deny v (decide_ask s (heap_at a s.store.heap) a.objects size mask t))).tables
  unfolding carry_ask
  asked_gone (refuse n) e = denied_gone n
  asked_gone pass e =
      carried_gone (decide_ask s (heap_at a s.store.heap) a.objects size mask t)
      (λ i q. taken_gone i (gate_passed s a t true (sym e)) (takes s (heap_at a s.store.heap) a.objects size mask t i q))

  pub ask_gone : Gone k (ask_of s a size mask t).tables
  unfolding ask_of plan_ask
  ask_gone = asked_gone (gate_of s a t true) refl

-- ---- a delivery

roomy_chunk : (s : BuddySettings) (memory z : ℕ) (t : Tables) → Roomy s t → Roomy s (chunk_tables s memory z t)
unfolding chunk_tables
roomy_chunk s memory z t r = record { loans = r.loans; place = r.place; parted = r.parted }

module _ (k : ℕ) (s : BuddySettings) (a : Account) (o : Outcome) (t : Tables) (g : Gone k t) where
  served_gone : BuddyIn s → Lengths s t → Sound s t → (size mask z memory : ℕ) → Buys s size mask t z → Gone k (served_tables s (size_for s size mask) (level_for s size mask) memory z (grown_tables s (grown_to (level_for s size mask) t) t))
  unfolding served_tables
  served_gone fit lengths sound size mask z memory b =
      let u : Tables = grown_tables s (grown_to (level_for s size mask) t) t in
      let l = grown_lengths s t fit lengths sound (grown_to (level_for s size mask) t) in
      let r : Roomy s u = record {
        loans = l.loans;
        place = place s t fit lengths sound size mask z b;
        parted = (grown_sound s t fit lengths sound size mask z b).loans_parted;
      } in
      booked_gone k s (chunk_tables s memory z u) fit (roomy_chunk s memory z u r) _ _ _ _ (chunk_gone k s memory z u (grown_gone k s (grown_to (level_for s size mask) t) t g))

  fate_gone : BuddyIn s → Lengths s t → Sound s t → (x : KeptOrder) → Buys s x.ask.size x.ask.mask t x.order.size → (f : Fate) → Gone k (carry_fate s a x t f).tables
  unfolding carry_fate
  fate_gone fit lengths sound x b (kept m) = served_gone fit lengths sound x.ask.size x.ask.mask x.order.size m b
  fate_gone fit lengths sound x b (lost n c back) = grown_gone k s (grown_to (level_for s x.ask.size x.ask.mask) t) t g

  delivered_gone : (v : Verdict) → deliver_gate_of s a t ≡ v → (ord : OpenOrder) → a.order ≡ ord
      → Gone k (carry_deliver s a t (gated Deliver.deny v (decide_deliver o (memories t (chunk_places_in t)) ord))).tables
  unfolding carry_deliver
  delivered_gone (refuse n) e ord h = g
  delivered_gone pass e None h = g
  delivered_gone pass e (Some x) h =
      let sound = gate_sound s a t e in
      let p = opened s a o t sound x h e in
      ⊎_elim (λ d. rw d (fate_gone p.lent.settings p.lent.lengths sound x p.buys_it (fate_of buddy o))) (λ d. rw d g)
      (told (delivery_ok x.order.map (memories t (chunk_places_in t)) o))

  pub deliver_gone : Gone k (deliver_of s a o t).tables
  unfolding deliver_of plan_deliver
  deliver_gone = delivered_gone (deliver_gate_of s a t) refl a.order refl

-- ---- a return

module _ (s : BuddySettings) (b : Block) (t : Tables) (fit : BuddyIn s) (lengths : Lengths s t) (sound : Sound s t) (on : on_loan_ok s b t ≡ true) where
  -- the place of the loan that comes back
  abbrev back : ℕ
  back = led_to t.index (word_for s b t)

  abbrev given : Tables
  given = given_tables s b (word_for s b t) t

  -- a loan that is left was there, and has the serial that it had
  left : (j : ℕ) → live_in given j ≡ true → (j ≡ back → ⊥) × (live_in t j ≡ true)
  left j h = Back.given_live s t fit lengths sound b on j h

  left_serial : (j : ℕ) → live_in given j ≡ true → loan_cell given serial_at j ≡ loan_cell t serial_at j
  left_serial j h = Back.given_cell s t fit lengths sound b on serial_at j (omega arith) (left j h).0

  given_gone : (k : ℕ) → Gone k t → Gone k given
  unfolding given_tables
  given_gone k g = record { old = omega (arith, g.old, back_given s b (word_for s b t) t); away = λ j h e. g.away j (left j h).1 (sym (left_serial j h) ∙ e); marked = g.marked }

  -- the serial that comes back was given
  back_old : b.serial ≤ given_in t
  back_old =
      omega (arith, live_given s t fit sound back (Back.live s t fit lengths sound b on), (Back.says s t fit lengths sound b on).serial)

  -- and one loan alone had it
  back_once : (j : ℕ) → live_in t j ≡ true → loan_cell t serial_at j ≡ b.serial → j ≡ back
  back_once j h e =
      let u = live_used t j h in
      let v = live_used t back (Back.live s t fit lengths sound b on) in
      serial_once (free_in t.loans) (chain_start t) (chain_next t) (serial_of t.loans) s.store.loans (places_in t) (given_in t) j back fit.store.loans_some sound.chained u.0 v.0 u.1 v.1
      (e ∙ sym (Back.says s t fit lengths sound b on).serial)

  back_away : (j : ℕ) → live_in given j ≡ true → loan_cell given serial_at j ≡ b.serial → ⊥
  back_away j h e = (left j h).0 (back_once j (left j h).1 (sym (left_serial j h) ∙ e))

  back_gone : Gone b.serial given
  unfolding given_tables
  back_gone = record { old = omega (arith, back_old, back_given s b (word_for s b t) t); away = back_away; marked = sound.signed.head }

module _ (s : BuddySettings) (a : Account) (b : Block) (t : Tables) (list : List ℕ) where
  pub return_gone_stays : (k : ℕ) → Gone k t → Gone k (return_of s a b t list).tables
  return_gone_stays k g = by (return_of s a b t list) (return_comes s a b t list)
    where
      by : (r : Listed Tables) → ReturnComes s a b t list r → Gone k r.tables
      by _ (ReturnComes.denied n) = g
      by _ (ReturnComes.takes p on) =
          subst (Gone k) (sym (given_tables_lem s a b t list (word_for s b t))) (given_gone s b t p.lent.settings p.lent.lengths p.sound on k g)

  -- a return that is taken leaves no loan with the block's serial
  pub return_gives_gone : Passed s a t (list_ok s.store list) → on_loan_ok s b t ≡ true → Gone b.serial (released_by s a b (word_for s b t) t list).tables
  return_gives_gone p on =
      subst (Gone b.serial) (sym (given_tables_lem s a b t list (word_for s b t))) (back_gone s b t p.lent.settings p.lent.lengths p.sound on)

  -- as does one that says what it released
  pub released_gone : (n : ℕ) → (return_of s a b t list).said ≡ Paper.released n → Gone b.serial (return_of s a b t list).tables
  released_gone n e = by (return_of s a b t list) (return_comes s a b t list) (ap kind_of e)
    where
      by : (r : Listed Tables) → ReturnComes s a b t list r → kind_of r.said ≡ 3 → Gone b.serial r.tables
      by _ (ReturnComes.denied m) q = absurd (omega arith)
      by _ (ReturnComes.takes p on) q = return_gives_gone p on

  -- ---- and where no loan has it the block is refused

  gone_denied : Gone b.serial t → (n : ℕ) × (return_of s a b t list ≡ listed (Paper.refusal n []) a t list)
  gone_denied g = by (return_of s a b t list) (return_comes s a b t list)
    where
      by : (r : Listed Tables) → ReturnComes s a b t list r → (n : ℕ) × (r ≡ listed (Paper.refusal n []) a t list)
      by _ (ReturnComes.denied n) = (n, refl)
      by _ (ReturnComes.takes p on) =
          let fit = p.lent.settings in
          let lengths = p.lent.lengths in
          absurd (g.away (led_to t.index (word_for s b t)) (Back.live s t fit lengths p.sound b on) (Back.says s t fit lengths p.sound b on).serial)

  -- with nothing changed: as 7, or as one of the earlier rows 1 to 4
  pub gone_refused : Gone b.serial t → (n : ℕ) × (return_of s a b t list ≡ listed (Paper.refusal n []) a t list) × ((n ≡ 7) ⊎ Given (list_rows buddy_words s a t list) n)
  gone_refused g =
      let r = gone_denied g in
      let c = given_then (list_rows buddy_words s a t list) (reason (Stale buddy_words s b t) 7 none) r.0 ((return_refused s a b t list r.0).0 (ap (λ (x : Listed Tables). x.said) r.1)) in
      (r.0, r.1, ⊎_elim (λ e. inr e) (λ e. ⊎_elim (λ z. inl z.1) (λ z. absurd z.1) e) c)
