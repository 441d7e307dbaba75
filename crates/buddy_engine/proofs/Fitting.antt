-- The lent tables of a buddy keep their lengths.
use mathlib.Core.Path.{◌≡◌, refl, sym, subst}
use mathlib.Core.Bool.{Bool, true, false, not}
use mathlib.Core.Logic.{⊎_elim}
use mathlib.Core.List.{List, [], ◌∷◌}
use Prim.Native.Nat.{ℕ}
use Rattle.lists.proofs.Bools.{told, and_left, and_right, not_yes}
use Rattle.counter.specs.Gate.{Verdict, pass, refuse, gated, first}
use Rattle.counter.specs.InTable.{BuddyIn}
use Rattle.counter.specs.Paper as Paper
use Rattle.counter.specs.Table.{buddy_ok}
use Rattle.counter.specs.declared.account.Account.{Account}
use Rattle.counter.specs.declared.account.KeptOrder.{KeptOrder}
use Rattle.counter.specs.Open.{OpenOrder}
use Rattle.std.specs.Prelude.{None, Some}
use Rattle.counter.specs.declared.answers.Block.{Block}
use Rattle.counter.specs.declared.answers.Mapping.{Mapping}
use Rattle.counter.specs.declared.answers.Mapping.TheVariants as M
use Rattle.counter.specs.declared.answers.Memory.{Memory}
use Rattle.counter.specs.declared.answers.Outcome.{Outcome}
use Rattle.counter.specs.declared.answers.Outcome.TheVariants as O
use Rattle.counter.specs.declared.settings.BuddySettings.{BuddySettings}
use Rattle.counter.proofs.Tables.{buddy_yes}
use Rattle.store_rules.specs.Delivery.{buddy, holds, suits, delivery_ok, mapped, fate_of}
use Rattle.store_rules.specs.Outcomes.{Out, Listed}
use Rattle.engines.specs.Shapes.{Call, sets_up, asks, delivers, returns, others, does}
use Rattle.buddy_rules.specs.Sound.{Sound}
use Rattle.buddy_rules.specs.Tables.{Tables, Lengths, lengths_ok, chunk_places_in, memories}
use Rattle.buddy_outcomes.specs.Ask.{grown_to, grown_tables, carry_ask, ask_of, level_for}
use Rattle.buddy_outcomes.specs.Deliver as Deliver
use Rattle.buddy_outcomes.specs.Deliver.{deliver_gate_of, carry_fate, decide_deliver, plan_deliver, carry_deliver, deliver_of}
use Rattle.buddy_outcomes.specs.Return.{word_for, climb_for, released_by, return_of}
use Rattle.buddy_outcomes.specs.SetUp.{fit_ok, plan_set_up, carry_set_up, set_up_of}
use Rattle.buddy_outcomes.proofs.Changed.{fresh_lengths, grown_lengths}
use Rattle.buddy_outcomes.proofs.Comes.{AskComes, lends, orders, ask_comes, denied_tables_lem}
use Rattle.buddy_outcomes.proofs.Delivered.{arrived_lengths, new_memory, held_low, Open, opened}
use Rattle.buddy_outcomes.proofs.Given.{given_lengths}
use Rattle.buddy_outcomes.proofs.Passing.{lengths_are}
use Rattle.buddy_outcomes.proofs.Returned as Returned
use Rattle.buddy_outcomes.proofs.Returned.{ReturnComes, return_comes}
use Rattle.buddy_outcomes.proofs.Sounds.{is_begun}
use Rattle.buddy_outcomes.proofs.Taken.{taken_lengths}
use Rattle.buddy_engine.specs.Shape.{buddy_shape}

-- ---- set-up

-- it leaves what was lent or new tables
set_up_long : (s : BuddySettings) (t : Tables) → BuddyIn s → Lengths s t → Lengths s (set_up_of s t).tables
unfolding set_up_of plan_set_up carry_set_up
set_up_long s t fit lengths = by (fit_ok s t)
  where
    by : (b : Bool) → Lengths s (carry_set_up s t (first ((b, 1) ∷ []))).tables
    by true = fresh_lengths s t fit lengths
    by false = lengths

pub set_up_fits : (s : BuddySettings) (t : Tables) → (set_up_of s t).said ≡ Paper.ready → BuddyIn s × Lengths s (set_up_of s t).tables
unfolding fit_ok
set_up_fits s t e =
    let b = is_begun s t e in
    let fit = buddy_yes s (and_left (buddy_ok s) (lengths_ok s t) b) in
    (fit, set_up_long s t fit (lengths_are s t (and_right (buddy_ok s) (lengths_ok s t) b)))

-- ---- the other calls

module _ (s : BuddySettings) (a : Account) (t : Tables) (fit : BuddyIn s) (lengths : Lengths s t) (sound : Sound s t) where
  ask_long : (size mask : ℕ) (r : Out Tables) → AskComes s a size mask t r → Lengths s r.tables
  unfolding carry_ask
  ask_long size mask _ (AskComes.denied n) =
      ⊎_elim
      (λ e. subst (Lengths s) (sym e) (grown_lengths s t fit lengths sound (grown_to (level_for s size mask) t)))
      (λ e. subst (Lengths s) (sym e) lengths)
      (denied_tables_lem s size mask n t)
  ask_long size mask _ (lends i p v) = taken_lengths s t fit lengths sound size mask i v.found v.aligned v.sized v.room
  ask_long size mask _ (orders z p e) = grown_lengths s t fit lengths sound (grown_to (level_for s size mask) t)

  abbrev held : List ℕ
  held = memories t (chunk_places_in t)

  module _ (o : Outcome) (k : KeptOrder) (w : Open s a o t sound k) where
    lost_long : Lengths s (grown_tables s (grown_to (level_for s k.ask.size k.ask.mask) t) t)
    lost_long = grown_lengths s t fit lengths sound (grown_to (level_for s k.ask.size k.ask.mask) t)

    made_long : (m : Memory) (x : Mapping) → holds m.number held ≡ false → Lengths s (carry_fate s a k t (mapped buddy m.number x)).tables
    unfolding carry_fate
    made_long m M.Failed e = lost_long
    made_long m M.OutOfDevice e = lost_long
    made_long m M.OutOfHost e = lost_long
    made_long m M.Mapped e = arrived_lengths s t fit lengths sound k.ask.size k.ask.mask k.order.size w.buys_it m.number (λ c h. new_memory m.number t (chunk_places_in t) e c (held_low t c h) h)
    made_long m M.NotWanted e = arrived_lengths s t fit lengths sound k.ask.size k.ask.mask k.order.size w.buys_it m.number (λ c h. new_memory m.number t (chunk_places_in t) e c (held_low t c h) h)

    fate_long : (x : Outcome) → delivery_ok k.order.map held x ≡ true → Lengths s (carry_fate s a k t (fate_of buddy x)).tables
    unfolding carry_fate delivery_ok
    fate_long O.OutOfDevice e = lost_long
    fate_long O.OutOfHost e = lost_long
    fate_long (O.Made m) e = made_long m m.mapping (not_yes (holds m.number held) (and_left (not (holds m.number held)) (suits k.order.map m.mapping) e))

  after_delivery : (o : Outcome) (v : Verdict) → deliver_gate_of s a t ≡ v → (x : OpenOrder) → a.order ≡ x → Lengths s (carry_deliver s a t (gated Deliver.deny v (decide_deliver o held x))).tables
  unfolding carry_deliver
  after_delivery o (refuse n) g x e = lengths
  after_delivery o pass g None e = lengths
  after_delivery o pass g (Some k) e = ⊎_elim (λ d. rw d (fate_long o k (opened s a o t sound k e g) o d)) (λ d. rw d lengths) (told (delivery_ok k.order.map held o))

  deliver_long : (o : Outcome) → Lengths s (deliver_of s a o t).tables
  unfolding deliver_of plan_deliver
  deliver_long o = after_delivery o (deliver_gate_of s a t) refl a.order refl

  return_long : (b : Block) (list : List ℕ) (r : Listed Tables) → ReturnComes s a b t list r → Lengths s r.tables
  unfolding released_by
  return_long b list _ (Returned.denied n) = lengths
  return_long b list _ (Returned.takes p on) =
      ⊎_elim (λ f. rw f (given_lengths s t fit lengths sound b on)) (λ f. rw f (given_lengths s t fit lengths sound b on)) (told (climb_for s b (word_for s b t) t).freed)

  pub still_long : (c : Call ⊥) → Lengths s (does buddy_shape s a t c).tables
  still_long sets_up = set_up_long s t fit lengths
  still_long (asks size mask) = ask_long size mask (ask_of s a size mask t) (ask_comes s a size mask t)
  still_long (delivers o) = deliver_long o
  still_long (returns b list) = return_long b list (return_of s a b t list) (return_comes s a b t list)
  still_long (others c list) = absurd c
