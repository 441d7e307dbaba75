-- What an ask and a delivery of a buddy store come to, and what they do to its loans and chunks.
use mathlib.Core.Path.{◌≡◌, refl, sym, ap, subst, ◌∙◌}
use mathlib.Core.Bool.{Bool, true, false, cond}
use mathlib.Core.Logic.{◌⊎◌, inl, inr, ⊎_elim}
use mathlib.Core.List.{List, [], ◌∷◌, ◌++◌, append-nil}
use Prim.Native.Nat.{ℕ, suc, ◌+◌, ◌*◌, ◌<◌}
use native.Mathlib.Omega.{arith}
use lib.Dec.{eqb, ltb}
use lib.ListN.{length}
use borrow.Author.Tests.{ltb-true, ne_eqb}
use Rattle.lists.proofs.Bools.{told, and_left}
use Rattle.counter.specs.Account.{heap_at}
use Rattle.counter.specs.Gate.{Verdict, pass, refuse, gated}
use Rattle.counter.specs.InTable.{BuddyIn}
use Rattle.counter.specs.Paper as Paper
use Rattle.counter.specs.declared.account.Account.{Account}
use Rattle.counter.specs.declared.account.KeptOrder.{KeptOrder}
use Rattle.counter.specs.Open.{OpenOrder}
use Rattle.std.specs.Prelude.{None, Some}
use Rattle.counter.specs.declared.answers.Mapping.{Mapping}
use Rattle.counter.specs.declared.answers.Mapping.TheVariants as M
use Rattle.counter.specs.declared.answers.Memory.{Memory}
use Rattle.counter.specs.declared.answers.Outcome.{Outcome}
use Rattle.counter.specs.declared.answers.Outcome.TheVariants as O
use Rattle.counter.specs.declared.settings.BuddySettings.{BuddySettings}
use Rattle.store_rules.specs.Delivery.{kept, lost, buddy, fate_of, back_of, delivery_ok}
use Rattle.store_rules.specs.Loans.{loan_words, loan, loans_of}
use Rattle.store_rules.specs.Orders.{Plan, deny, take, buy}
use Rattle.store_rules.specs.Outcomes.{Out, out, block_said}
use Rattle.store_rules.specs.Views.{View, chunk}
use Rattle.store_rules.specs.declared.Chunk.{Chunk}
use Rattle.store_rules.specs.declared.Loan.{Loan}
use Rattle.book_rules.specs.Book.{taken_of, entered}
use Rattle.store_rules.proofs.Amid.{Amid}
use Rattle.book_rules.proofs.Entering.{entered_amid}
use Rattle.book_rules.proofs.Keeps.{BookParted}
use Rattle.buddy_trees.specs.Trees.{bytes}
use Rattle.buddy_rules.specs.Moves.{Cut}
use Rattle.buddy_rules.specs.Sound.{Sound}
use Rattle.buddy_rules.specs.Tables.{Tables, Lengths, given_in, levels_in, places_in, chunk_places_in, memories, held_in}
use Rattle.buddy_rules.specs.Views.{loans_in, chunks_of, chunks_in}
use Rattle.buddy_rules.proofs.Viewed.{chunk_at}
use Rattle.buddy_outcomes.specs.Ask as Ask
use Rattle.buddy_outcomes.specs.Ask.{size_for, grown_to, size_ok, chunk_taken, grown_tables, booked_tables, loan_from, taken_tables, denied_tables, decide_ask, carry_ask, plan_ask, ask_of, level_for}
use Rattle.buddy_outcomes.specs.Deliver as Deliver
use Rattle.buddy_outcomes.specs.Deliver.{chunk_tables, loan_in, served_tables, carry_fate, decide_deliver, deliver_gate_of, plan_deliver, carry_deliver, deliver_of}
use Rattle.buddy_outcomes.specs.Gate.{gate_of}
use Rattle.buddy_outcomes.proofs.Changed.{grown_lengths}
use Rattle.buddy_outcomes.proofs.Chunked.{chunked, places_now, size_here, size_other, memory_here, memory_other, taken_low, within_places, taken_dead, held_here, held_other}
use Rattle.buddy_outcomes.proofs.Delivered.{grown_sound, count, place, chunk_room, gate_sound, opened}
use Rattle.buddy_outcomes.proofs.Goes.{SameAt, Parts, parts}
use Rattle.buddy_outcomes.proofs.Heads.{booked_places}
use Rattle.buddy_outcomes.proofs.Lendings.{grown_view, booked_chunks}
use Rattle.buddy_outcomes.proofs.Passing.{Lent, Passed, gate_passed}
use Rattle.buddy_outcomes.proofs.Plans.{Takes, takes, Buys}
use Rattle.buddy_outcomes.proofs.Rounds.{size_enough}
use Rattle.buddy_outcomes.proofs.Searches.{room_place}

-- ---- an ask

pub data AskComes (s : BuddySettings) (a : Account) (size mask : ℕ) (t : Tables) : Out Tables → Type 0 where
  denied : (n : ℕ) → AskComes s a size mask t (out (Paper.refusal n []) a (denied_tables s (level_for s size mask) n t))
  lends : (i : ℕ) → Passed s a t true → Takes s size mask t i → AskComes s a size mask t (out (block_said (loan_from s (size_for s size mask) t i)) a (taken_tables s (size_for s size mask) (level_for s size mask) t i))
  orders : (z : ℕ) → Passed s a t true → decide_ask s (heap_at a s.store.heap) a.objects size mask t ≡ buy z → AskComes s a size mask t (carry_ask s a size mask t (buy z))

module _ (s : BuddySettings) (a : Account) (size mask : ℕ) (t : Tables) where
  abbrev decided : Plan ℕ
  decided = decide_ask s (heap_at a s.store.heap) a.objects size mask t

  after_gate : (v : Verdict) (p : Plan ℕ) → gate_of s a t true ≡ v → decided ≡ p → AskComes s a size mask t (carry_ask s a size mask t (gated Ask.deny v p))
  unfolding carry_ask
  after_gate (refuse n) p g e = denied n
  after_gate pass (deny n) g e = denied n
  after_gate pass (take i) g e = lends i (gate_passed s a t true (sym g)) (takes s (heap_at a s.store.heap) a.objects size mask t i e)
  after_gate pass (buy z) g e = orders z (gate_passed s a t true (sym g)) e

  pub ask_comes : AskComes s a size mask t (ask_of s a size mask t)
  unfolding ask_of plan_ask
  ask_comes = after_gate (gate_of s a t true) decided refl refl

-- ---- a delivery

pub data DeliverComes (s : BuddySettings) (a : Account) (o : Outcome) (t : Tables) : Out Tables → Type 0 where
  early : (n : ℕ) → DeliverComes s a o t (out (Paper.refusal n []) a t)
  loses : (k : KeptOrder) (n : ℕ) (charged : Bool) (back : List ℕ) → DeliverComes s a o t (carry_fate s a k t (lost n charged back))
  keeps : (k : KeptOrder) (m : Memory) → o ≡ O.Made m → a.order ≡ Some k → Lent s a t → Sound s t → Buys s k.ask.size k.ask.mask t k.order.size
      → DeliverComes s a o t (carry_fate s a k t (kept m.number))

module _ (s : BuddySettings) (a : Account) (o : Outcome) (t : Tables) where
  fated : (k : KeptOrder) → a.order ≡ Some k → deliver_gate_of s a t ≡ pass → (x : Outcome) → o ≡ x → DeliverComes s a o t (carry_fate s a k t (fate_of buddy x))
  fated k e g O.OutOfDevice f = loses k 11 false []
  fated k e g O.OutOfHost f = loses k 12 false []
  fated k e g (O.Made m) f = by m.mapping refl
    where
      stays : DeliverComes s a o t (carry_fate s a k t (kept m.number))
      stays =
          let sound = gate_sound s a t g in
          let p = opened s a o t sound k e g in
          keeps k m f e p.lent sound p.buys_it

      by : (x : Mapping) → m.mapping ≡ x → DeliverComes s a o t (carry_fate s a k t (fate_of buddy (O.Made m)))
      by M.Mapped q = rw q stays
      by M.NotWanted q = rw q stays
      by M.Failed q = rw q (loses k 12 true (back_of buddy M.Failed m.number))
      by M.OutOfDevice q = rw q (loses k 11 true (back_of buddy M.OutOfDevice m.number))
      by M.OutOfHost q = rw q (loses k 12 true (back_of buddy M.OutOfHost m.number))

  abbrev held : List ℕ
  held = memories t (chunk_places_in t)

  after_delivery : (v : Verdict) → deliver_gate_of s a t ≡ v → (x : OpenOrder) → a.order ≡ x → DeliverComes s a o t (carry_deliver s a t (gated Deliver.deny v (decide_deliver o held x)))
  unfolding carry_deliver
  after_delivery (refuse n) g x e = early n
  after_delivery pass g None e = early 2
  after_delivery pass g (Some k) e = ⊎_elim (λ d. rw d (fated k e g o refl)) (λ d. rw d (early 13)) (told (delivery_ok k.order.map held o))

  pub deliver_comes : DeliverComes s a o t (deliver_of s a o t)
  unfolding deliver_of plan_deliver
  deliver_comes = after_delivery (deliver_gate_of s a t) refl a.order refl

-- ---- the loans

-- grown levels change none, nor any chunk
pub grown_loans : (s : BuddySettings) (n : ℕ) (t : Tables) → loans_in (grown_tables s n t) ≡ loans_in t
grown_loans s n t = ap (λ (v : View). v.loans) (grown_view s n t)

pub grown_chunks : (s : BuddySettings) (n : ℕ) (t : Tables) → chunks_in (grown_tables s n t) ≡ chunks_in t
grown_chunks s n t = ap (λ (v : View). v.chunks) (grown_view s n t)

pub denied_tables_lem : (s : BuddySettings) (size mask n : ℕ) (t : Tables) → (denied_tables s (level_for s size mask) n t ≡ grown_tables s (grown_to (level_for s size mask) t) t) ⊎ (denied_tables s (level_for s size mask) n t ≡ t)
unfolding denied_tables
denied_tables_lem s size mask n t = ⊎_elim (λ e. inl (rw e)) (λ e. inr (rw e)) (told (eqb n 9))

-- a loan that is entered stands amid those that there were
booked_amid : (s : BuddySettings) (t : Tables) (c o size : ℕ) (cut : Cut) → BuddyIn s → length t.loans ≡ loan_words + loan_words * s.store.loans → BookParted t.loans t.index s.store.loans (places_in t)
    → (taken_of (places_in t) t.index).place < s.store.loans → (size ≡ 0 → ⊥) → Amid (loan (given_in t + 1) c o size) (loans_in t) (loans_in (booked_tables s c o size cut t))
unfolding booked_tables
booked_amid s t c o size cut fit long parted room some =
    let l : Loan = loan (given_in t + 1) c o size in
    let e = booked_places s t c o size cut (omega (arith, long)) in
    subst (λ (k : ℕ). Amid l (loans_in t) (loans_of k (entered (places_in t) t.index l t.loans))) (sym e)
    (entered_amid l (ne_eqb size 0 some) t.loans t.index s.store.loans (places_in t) (omega (arith, fit.store.loans_most_lem)) parted room (omega (arith, long)))

-- no block is empty
size_some : (s : BuddySettings) → BuddyIn s → (size mask : ℕ) → size_ok s size mask ≡ true → size_for s size mask ≡ 0 → ⊥
unfolding size_ok
size_some s fit size mask e z = omega (arith, ltb-true 0 size (and_left (ltb 0 size) _ e), size_enough s fit size mask e)

pub taken_amid : (s : BuddySettings) (t : Tables) → BuddyIn s → Lengths s t → Sound s t → (size mask i : ℕ) → Takes s size mask t i → Amid (loan_from s (size_for s size mask) t i) (loans_in t) (loans_in (taken_tables s (size_for s size mask) (level_for s size mask) t i))
unfolding taken_tables
taken_amid s t fit lengths sound size mask i w =
    booked_amid s t _ _ _ _ fit lengths.loans sound.loans_parted (room_place s t size mask (Ask.at i) w.room) (size_some s fit size mask w.sized)

-- a place that holds no chunk shows none
past_one : (t : Tables) (n : ℕ) → held_in t n ≡ false → chunks_of t (suc n) ≡ chunks_of t n
unfolding chunks_of
past_one t n e = ap (λ (b : Bool). chunks_of t n ++ cond b (chunk_at t n ∷ []) []) e ∙ append-nil (chunks_of t n)

module _ (s : BuddySettings) (t : Tables) (fit : BuddyIn s) (lengths : Lengths s t) (sound : Sound s t) (size mask z memory : ℕ) (b : Buys s size mask t z) where
  abbrev g : Tables
  g = grown_tables s (grown_to (level_for s size mask) t) t

  g_lengths : Lengths s g
  g_lengths = grown_lengths s t fit lengths sound (grown_to (level_for s size mask) t)

  g_sound : Sound s g
  g_sound = grown_sound s t fit lengths sound size mask z b

  abbrev u : Tables
  u = chunked s g fit g_lengths memory z

  abbrev p : ℕ
  p = (chunk_taken s g).place

  -- the new chunk's block stands amid the loans that there were
  pub served_amid : Amid (loan_in s size mask g) (loans_in t) (loans_in (served_tables s (size_for s size mask) (level_for s size mask) memory z g))
  unfolding served_tables chunk_tables
  served_amid =
      let A = booked_amid s (chunk_tables s memory z g) p 0 (size_for s size mask) _ fit g_lengths.loans g_sound.loans_parted (place s t fit lengths sound size mask z b) (size_some s fit size mask b.sized) in
      subst (λ (ls : List Loan). Amid (loan (given_in g + 1) p 0 (size_for s size mask)) ls (loans_in (served_tables s (size_for s size mask) (level_for s size mask) memory z g))) (grown_loans s (grown_to (level_for s size mask) t) t) A

  -- ---- the chunks

  room : p < s.store.chunks
  room = chunk_room s t fit lengths sound size mask z b

  tall : 0 < levels_in g
  tall = omega (arith, count s t fit lengths sound size mask z b)

  is_chunk : z ≡ bytes s.minimal (levels_in g)
  is_chunk = sym b.order ∙ ap (bytes s.minimal) (sym (count s t fit lengths sound size mask z b))

  -- the chunks are those before and the new one: its place is vacant or past the last
  pub served_chunks : Amid (chunk (chunk_taken s (grown_tables s (grown_to (level_for s size mask) t) t)).place memory z) (chunks_in t) (chunks_in (served_tables s (size_for s size mask) (level_for s size mask) memory z (grown_tables s (grown_to (level_for s size mask) t) t)))
  unfolding served_tables chunk_tables
  served_chunks = by_parts (parts u g p q (within_places s g fit g_lengths memory z room g_sound tall is_chunk) (held_here s g fit g_lengths memory z room g_sound tall is_chunk) (taken_dead s g fit g_lengths memory z room g_sound tall is_chunk) same)
    where
      q : ℕ
      q = (chunk_taken s g).slab.places

      same : (x : ℕ) → (x ≡ (chunk_taken s g).place → ⊥) → SameAt u g x
      same x o =
          let m = sym (memory_other s g fit g_lengths memory z room x o) in
          let y = sym (size_other s g fit g_lengths memory z room x o) in
          (sym (held_other s g fit g_lengths memory z room g_sound tall is_chunk x o), λ j. chunk x (m j) (y j))

      all : chunks_of g (chunk_taken s g).slab.places ≡ chunks_in g
      all =
          ⊎_elim
          (λ w. ap (chunks_of g) (omega (arith, w.1)) ∙ past_one g (chunk_places_in g) (subst (λ (x : ℕ). held_in g x ≡ false) w.0 (taken_dead s g fit g_lengths memory z room g_sound tall is_chunk)))
          (λ w. ap (chunks_of g) w.1)
          (taken_low s g fit g_lengths memory z room g_sound tall is_chunk)

      by_parts : Parts u g p q → Amid (chunk p memory z) (chunks_in t) (chunks_in (served_tables s (size_for s size mask) (level_for s size mask) memory z g))
      by_parts w =
          let f : chunks_in u ≡ chunks_of u q = ap (chunks_of u) (places_now s g fit g_lengths memory z) in
          let m = memory_here s g fit g_lengths memory z room in
          let y = size_here s g fit g_lengths memory z room in
          record {
            earlier = w.before;
            later = w.past;
            were = sym (grown_chunks s (grown_to (level_for s size mask) t) t) ∙ sym all ∙ w.is;
            are = booked_chunks s _ _ _ _ u ∙ f ∙ w.was ∙ ap (λ (d : Chunk). w.before ++ (d ∷ w.past)) (λ j. chunk p (m j) (y j));
          }
