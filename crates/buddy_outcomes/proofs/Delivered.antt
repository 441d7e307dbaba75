-- A delivery on a sound store leaves it sound, whatever it answers: the memory kept, lost, or refused.
use mathlib.Core.Path.{◌≡◌, refl, sym, ap, subst, ◌∙◌}
use mathlib.Core.Bool.{Bool, true, false, cond, not, ◌&&◌, ◌||◌}
use mathlib.Core.Logic.{⊎_elim}
use mathlib.Core.List.{List, [], ◌∷◌, ◌++◌}
use Prim.Native.Nat.{ℕ, zero, suc, ◌+◌, ◌-◌, ◌≤◌, ◌<◌}
use native.Mathlib.Omega.{arith}
use lib.Dec.{eqb, ltb}
use borrow.Author.Tests.{eqb-false, ltb-true}
use Rattle.lists.proofs.Bools.{told, true_false, and_left, and_right, not_yes, same?}
use Rattle.counter.specs.Account.{heap_at}
use Rattle.counter.specs.Gate.{Verdict, refuse, pass, gated}
use Rattle.counter.specs.InTable.{BuddyIn}
use Rattle.counter.specs.Limits.{levels_most}
use Rattle.counter.specs.declared.account.Account.{Account}
use Rattle.counter.specs.declared.account.KeptOrder.{KeptOrder}
use Rattle.counter.specs.Open.{OpenOrder}
use Rattle.std.specs.Prelude.{None, Some}
use Rattle.counter.specs.declared.account.Order.{Order}
use Rattle.counter.specs.declared.answers.Mapping.{Mapping}
use Rattle.counter.specs.declared.answers.Mapping.TheVariants as M
use Rattle.counter.specs.declared.answers.Memory.{Memory}
use Rattle.counter.specs.declared.answers.Outcome.{Outcome}
use Rattle.counter.specs.declared.answers.Outcome.TheVariants as O
use Rattle.counter.specs.declared.settings.BuddySettings.{BuddySettings}
use Rattle.counter.proofs.Gates.{passed}
use Rattle.heap.specs.Heap.{bears_ok}
use Rattle.slabs.specs.Slab.{inserted}
use Rattle.slabs.specs.declared.Slab.{Slab}
use Rattle.store_rules.specs.Delivery.{buddy, holds, suits, delivery_ok, mapped, fate_of}
use Rattle.store_rules.specs.Tests.{open_for, gate_row}
use Rattle.store_rules.proofs.Refused.{leads_buy}
use Rattle.book_rules.specs.Book.{taken_of}
use Rattle.buddy_trees.specs.Trees.{bytes}
use Rattle.buddy_rules.specs.Level.{pair_taken, ring_head}
use Rattle.buddy_rules.specs.Tables.{Tables, Lengths, levels_in, places_in, chunk_places_in, held_in, memory_in, level_from, place_at, after_at, place_words, memories}
use Rattle.buddy_rules.specs.Sound.{Sound}
use Rattle.buddy_rules.specs.Test.{sound_ok}
use Rattle.buddy_rules.proofs.Decides.{tables_yes}
use Rattle.slabs.specs.Slab as Slab
use Rattle.buddy_outcomes.specs.Gate.{in_table_ok, account_ok}
use Rattle.buddy_outcomes.specs.Ask as Ask
use Rattle.buddy_outcomes.specs.Ask.{level_for, grown_to, found_from, chunk_taken, decide_ask, grown_tables, size_for}
use Rattle.buddy_outcomes.specs.Deliver as Deliver
use Rattle.buddy_outcomes.specs.Deliver.{still_ok, deliver_gate_of, served_tables, carry_fate, decide_deliver, plan_deliver, carry_deliver, deliver_of}
use Rattle.buddy_outcomes.proofs.Passing.{Lent, lent_in_lem}
use Rattle.buddy_outcomes.proofs.Plans.{Buys, buys, buy_bears}
use Rattle.buddy_outcomes.proofs.Rounds.{level_low}
use Rattle.buddy_outcomes.proofs.Changed.{grown_lengths, grown_tables_sound, grown_count, grown_held, grown_slab, grown_head, grown_place}
use Rattle.buddy_outcomes.proofs.Heads.{grown_places}
use Rattle.buddy_outcomes.proofs.Searches.{search_none, room_place, room_chunk, room_pair}
use Rattle.buddy_outcomes.proofs.Served.{served_lengths, served_sound}

-- ---- the chunk arrives

-- which place is taken next hangs on the slab alone
place_same : (z : Slab) (x y : List ℕ) (f w : ℕ) → (inserted z x f w).place ≡ (inserted z y f w).place
unfolding inserted
place_same z x y f w = ⊎_elim (λ e. rw e refl) (λ e. rw e refl) (told (ltb z.vacant z.places))

module _ (s : BuddySettings) (t : Tables) (fit : BuddyIn s) (lengths : Lengths s t) (sound : Sound s t) (size mask z : ℕ) (b : Buys s size mask t z) where
  abbrev n : ℕ
  n = grown_to (level_for s size mask) t

  pub more : levels_in t ≤ n
  more = omega arith

  pub most : n ≤ levels_most
  most = omega (arith, level_low s fit size mask b.sized, sound.levels_most_lem)

  pub grown_sound : Sound s (grown_tables s n t)
  grown_sound = grown_tables_sound s t fit lengths sound n more most

  pub count : levels_in (grown_tables s n t) ≡ n
  count = grown_count s t fit lengths sound n more most

  place_before : (taken_of (places_in t) (grown_tables s n t).index).place < s.store.loans
  unfolding grown_tables
  place_before = room_place s t size mask Ask.nowhere b.room

  pub place : (taken_of (places_in (grown_tables s n t)) (grown_tables s n t).index).place < s.store.loans
  place = subst (λ (p : ℕ). (taken_of p (grown_tables s n t).index).place < s.store.loans) (sym (grown_places s n t)) place_before

  pub chunk_room : (chunk_taken s (grown_tables s n t)).place < s.store.chunks
  chunk_room =
      let e : (chunk_taken s (grown_tables s n t)).place ≡ (chunk_taken s t).place =
      ap (λ (z : Slab). (inserted z (grown_tables s n t).room (place_at s after_at) place_words).place) (grown_slab s t fit lengths sound n more most)
      ∙ place_same _ (grown_tables s n t).room t.room (place_at s after_at) place_words in
      omega (arith, e, room_chunk s t size mask Ask.nowhere b.room refl)

  pub empty : (j : ℕ) → level_for s size mask ≤ j → j < levels_in (grown_tables s n t) → ring_head (level_from s j) (grown_tables s n t).room ≡ Slab.nowhere
  unfolding found_from
  empty j h g =
      grown_head s t fit lengths sound n more most j (omega (arith, count))
      (λ k. search_none s t.room (level_for s size mask) (levels_in t - level_for s size mask) b.found j h (omega arith))

  pub pair : (j : ℕ) → level_for s size mask ≤ j → j < levels_in (grown_tables s n t) → (pair_taken (level_from s j) (grown_tables s n t).room).place < s.pairs
  pair j h g =
      grown_place s t fit lengths sound n more most j (omega (arith, count)) (λ k. room_pair s t size mask Ask.nowhere b.room j h (omega (arith, count)) k)

  module _ (memory : ℕ) (new : (c : ℕ) → held_in t c ≡ true → memory_in t c ≡ memory → ⊥) where
    new_in : (c : ℕ) → held_in (grown_tables s n t) c ≡ true → memory_in (grown_tables s n t) c ≡ memory → ⊥
    unfolding grown_tables
    new_in c h e = new c (sym (grown_held s t fit lengths sound n more most c) ∙ h) e

    pub arrived_lengths : Lengths s (served_tables s (size_for s size mask) (level_for s size mask) memory z (grown_tables s n t))
    arrived_lengths =
        let e : bytes s.minimal (levels_in (grown_tables s n t)) ≡ z = ap (bytes s.minimal) count ∙ b.order in
        subst (λ (x : ℕ). Lengths s (served_tables s (size_for s size mask) (level_for s size mask) memory x (grown_tables s n t))) e
        (served_lengths s (grown_tables s n t) fit (grown_lengths s t fit lengths sound n) grown_sound size mask memory b.sized (omega (arith, count)) new_in empty pair place chunk_room)

    pub arrived_sound : Sound s (served_tables s (size_for s size mask) (level_for s size mask) memory z (grown_tables s n t))
    arrived_sound =
        let e : bytes s.minimal (levels_in (grown_tables s n t)) ≡ z = ap (bytes s.minimal) count ∙ b.order in
        subst (λ (x : ℕ). Sound s (served_tables s (size_for s size mask) (level_for s size mask) memory x (grown_tables s n t))) e
        (served_sound s (grown_tables s n t) fit (grown_lengths s t fit lengths sound n) grown_sound size mask memory b.sized (omega (arith, count)) new_in empty pair place chunk_room)

-- ---- the memory is new

holds_there : (m : ℕ) (xs ys : List ℕ) → holds m (xs ++ ys) ≡ false → (holds m xs ≡ false) × (holds m ys ≡ false)
holds_there m [] ys e = (refl, e)
holds_there m (x ∷ xs) ys e = by (holds_there m xs ys) (eqb x m) e
  where
    by : (holds m (xs ++ ys) ≡ false → (holds m xs ≡ false) × (holds m ys ≡ false)) → (b : Bool) → (b || holds m (xs ++ ys)) ≡ false
        → ((b || holds m xs) ≡ false) × (holds m ys ≡ false)
    by rest true e = absurd (true_false true refl e)
    by rest false e = rest e

pub new_memory : (m : ℕ) (t : Tables) (n : ℕ) → holds m (memories t n) ≡ false → (c : ℕ) → c < n → held_in t c ≡ true → memory_in t c ≡ m → ⊥
unfolding memories
new_memory m t zero e c h k q = absurd (omega arith)
new_memory m t (suc n) e c h k q =
    let r = holds_there m (memories t n) (cond (held_in t n) (memory_in t n ∷ []) []) e in
    ⊎_elim
    (λ i. here n (ap (held_in t) (sym i) ∙ k) (ap (memory_in t) (sym i) ∙ q) r.1)
    (λ i. new_memory m t n r.0 c (omega arith) k q)
    (same? c n)
  where
    here : (d : ℕ) → held_in t d ≡ true → memory_in t d ≡ m → holds m (cond (held_in t d) (memory_in t d ∷ []) []) ≡ false → ⊥
    here d k q e =
        let f : holds m (memory_in t d ∷ []) ≡ false = ap (λ (x : Bool). holds m (cond x (memory_in t d ∷ []) [])) (sym k) ∙ e in
        eqb-false (memory_in t d) m (by (eqb (memory_in t d) m) f) q
      where
        by : (x : Bool) → (x || false) ≡ false → x ≡ false
        by true e = e
        by false e = refl

pub held_low : (t : Tables) (c : ℕ) → held_in t c ≡ true → c < chunk_places_in t
held_low t c e = ltb-true c (chunk_places_in t) (and_left (ltb c (chunk_places_in t)) _ e)

-- ---- the call

-- a delivery passes the gate on a sound store alone
pub gate_sound : (s : BuddySettings) (a : Account) (t : Tables) → deliver_gate_of s a t ≡ pass → Sound s t
unfolding deliver_gate_of
gate_sound s a t e =
    let r = passed (gate_row (in_table_ok s a t) (open_for s.store.number a.order) (sound_ok s t && still_ok s a t a.order) (account_ok s a t)) e in
    tables_yes s t (lent_in_lem s a t r.0).settings (and_left (sound_ok s t) (still_ok s a t a.order) r.1.1.0)

module _ (s : BuddySettings) (a : Account) (o : Outcome) (t : Tables) (sound : Sound s t) where
  abbrev held : List ℕ
  held = memories t (chunk_places_in t)

  module _ (k : KeptOrder) (fit : BuddyIn s) (lengths : Lengths s t) (b : Buys s k.ask.size k.ask.mask t k.order.size) where
    lost_sound : Sound s (grown_tables s (grown_to (level_for s k.ask.size k.ask.mask) t) t)
    lost_sound = grown_sound s t fit lengths sound k.ask.size k.ask.mask k.order.size b

    made_sound : (m : Memory) (x : Mapping) → holds m.number held ≡ false → Sound s (carry_fate s a k t (mapped buddy m.number x)).tables
    unfolding carry_fate
    made_sound m M.Failed e = lost_sound
    made_sound m M.OutOfDevice e = lost_sound
    made_sound m M.OutOfHost e = lost_sound
    made_sound m M.Mapped e = arrived_sound s t fit lengths sound k.ask.size k.ask.mask k.order.size b m.number (λ c h. new_memory m.number t (chunk_places_in t) e c (held_low t c h) h)
    made_sound m M.NotWanted e = arrived_sound s t fit lengths sound k.ask.size k.ask.mask k.order.size b m.number (λ c h. new_memory m.number t (chunk_places_in t) e c (held_low t c h) h)

    fate_sound : (x : Outcome) → delivery_ok k.order.map held x ≡ true → Sound s (carry_fate s a k t (fate_of buddy x)).tables
    unfolding carry_fate delivery_ok
    fate_sound O.OutOfDevice e = lost_sound
    fate_sound O.OutOfHost e = lost_sound
    fate_sound (O.Made m) e = made_sound m m.mapping (not_yes (holds m.number held) (and_left (not (holds m.number held)) (suits k.order.map m.mapping) e))

  -- what a passed gate says
  pub record Open (k : KeptOrder) : Type 0 where
    pub lent : Lent s a t
    pub buys_it : Buys s k.ask.size k.ask.mask t k.order.size
    pub bears : bears_ok (heap_at a s.store.heap) k.order.size ≡ true
    pub object : 0 < a.objects
    pub covered : account_ok s a t ≡ true

  pub opened : (k : KeptOrder) → a.order ≡ Some k → deliver_gate_of s a t ≡ pass → Open k
  unfolding deliver_gate_of
  opened k e g =
      let r = passed (gate_row (in_table_ok s a t) (open_for s.store.number a.order) (sound_ok s t && still_ok s a t a.order) (account_ok s a t)) g in
      let still : still_ok s a t (Some k) ≡ true = ap (still_ok s a t) (sym e) ∙ and_right (sound_ok s t) (still_ok s a t a.order) r.1.1.0 in
      let l = leads_buy s.store k.order (decide_ask s (heap_at a s.store.heap) a.objects k.ask.size k.ask.mask t) still in
      let z : k.order.size ≡ l.0 = ap (λ (x : Order). x.size) l.2 in
      let b = buy_bears s (heap_at a s.store.heap) a.objects k.ask.size k.ask.mask t l.0 l.1 in
      record {
        lent = lent_in_lem s a t r.0;
        bears = ap (bears_ok (heap_at a s.store.heap)) z ∙ b.0;
        object = b.1;
        covered = r.1.1.1.0;
        buys_it = subst (λ (z : ℕ). Buys s k.ask.size k.ask.mask t z) (sym z) (buys s (heap_at a s.store.heap) a.objects k.ask.size k.ask.mask t l.0 l.1);
      }

  after : (v : Verdict) → deliver_gate_of s a t ≡ v → (ord : OpenOrder) → a.order ≡ ord → Sound s (carry_deliver s a t (gated Deliver.deny v (decide_deliver o held ord))).tables
  unfolding carry_deliver
  after (refuse n) g ord e = sound
  after pass g None e = sound
  after pass g (Some k) e =
      let p = opened k e g in
      ⊎_elim (λ d. rw d (fate_sound k p.lent.settings p.lent.lengths p.buys_it o d)) (λ d. rw d sound) (told (delivery_ok k.order.map held o))

  pub deliver_sound : Sound s (deliver_of s a o t).tables
  unfolding deliver_of plan_deliver
  deliver_sound = after (deliver_gate_of s a t) refl a.order refl
