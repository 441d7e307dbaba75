-- Each call of a buddy but set-up gives as many serials as it lends blocks, the next ones, and leaves its tables their mark.
use mathlib.Core.Path.{◌≡◌, refl, sym, ap, ◌∙◌}
use mathlib.Core.Bool.{true, ◌&&◌}
use mathlib.Core.Logic.{⊎_elim}
use mathlib.Core.List.{List, [], ◌∷◌}
use Prim.Native.Nat.{ℕ, ◌+◌, ◌≤◌}
use native.Mathlib.Omega.{arith}
use lib.Dec.{eqb}
use lib.ListN.{length, get_or}
use Rattle.lists.proofs.Bools.{told}
use Rattle.counter.specs.Account.{heap_at}
use Rattle.counter.specs.Gate.{Verdict, refuse, pass, gated}
use Rattle.counter.specs.Paper.{Said}
use Rattle.counter.specs.Paper as Paper
use Rattle.counter.specs.declared.account.Account.{Account}
use Rattle.counter.specs.declared.account.KeptOrder.{KeptOrder}
use Rattle.counter.specs.Open.{OpenOrder}
use Rattle.std.specs.Prelude.{None, Some}
use Rattle.counter.specs.declared.answers.Block.{Block}
use Rattle.counter.specs.declared.answers.Outcome.{Outcome}
use Rattle.counter.specs.declared.settings.BuddySettings.{BuddySettings}
use Rattle.counter.proofs.Gates.{passed}
use Rattle.store_rules.specs.Delivery.{Fate, kept, lost, buddy, fate_of, delivery_ok}
use Rattle.store_rules.specs.Orders.{Plan, deny, take, buy}
use Rattle.store_rules.specs.Outcomes.{Listed}
use Rattle.store_rules.specs.Tests.{open_for, gate_row}
use Rattle.engines.specs.Serials.{serial_said, up_from}
use Rattle.store_rules.specs.Loans.{loan_words}
use Rattle.buddy_rules.specs.Tables.{Tables, given_in, chunk_places_in, memories, marks}
use Rattle.buddy_rules.specs.Test.{sound_ok}
use Rattle.buddy_outcomes.specs.Gate.{in_table_ok, account_ok, gate_of}
use Rattle.buddy_outcomes.specs.Ask as Ask
use Rattle.buddy_outcomes.specs.Ask.{grown_to, decide_ask, grown_tables, booked_tables, taken_tables, denied_tables, carry_ask, plan_ask, ask_of, size_for, level_for}
use Rattle.buddy_outcomes.specs.Deliver as Deliver
use Rattle.buddy_outcomes.specs.Deliver.{still_ok, deliver_gate_of, chunk_tables, as_ordered, served_tables, carry_fate, decide_deliver, plan_deliver, carry_deliver, deliver_of}
use Rattle.buddy_outcomes.specs.Return.{word_for, climb_for, given_tables, released_by, return_of}
use Rattle.buddy_outcomes.proofs.Heads.{grown_word, grown_given, booked_given, back_given}
use Rattle.buddy_outcomes.proofs.Passing.{gate_passed, lent_in_lem}
use Rattle.buddy_outcomes.proofs.Returned.{ReturnComes, denied, takes, return_comes}
use Rattle.words.specs.Words.{mark_at}

-- what a call leaves: as many serials more as it lent blocks, the next ones, and the mark
pub record Stepped (t t' : Tables) (said : Said) : Type 0 where
  pub gives : given_in t' ≡ given_in t + length (serial_said said)
  pub nexts : serial_said said ≡ up_from (given_in t) (length (serial_said said))
  pub mark_stays : get_or t.head mark_at 0 ≡ marks.head → get_or t'.head mark_at 0 ≡ marks.head

-- nothing is lent: the tables are as they were, or their levels have grown
abbrev Silent : Tables → Tables → Type 0
Silent t t' = (given_in t' ≡ given_in t) × (get_or t'.head mark_at 0 ≡ get_or t.head mark_at 0)

quiet : (t t' : Tables) (said : Said) → serial_said said ≡ [] → Silent t t' → Stepped t t' said
quiet t t' said e w =
    record {
      gives = let z : length (serial_said said) ≡ 0 = ap length e in omega (arith, w.0, z);
      nexts = rw e;
      mark_stays = λ m. w.1 ∙ m;
    }

grown_silent : (s : BuddySettings) (n : ℕ) (t : Tables) → Silent t (grown_tables s n t)
grown_silent s n t = (grown_given s n t, grown_word s n t mark_at (λ e. omega arith))

-- ---- an ask

module _ (s : BuddySettings) (a : Account) (size mask : ℕ) (t : Tables) where
  denied_silent : (n : ℕ) → Silent t (denied_tables s (level_for s size mask) n t)
  unfolding denied_tables
  denied_silent n = ⊎_elim (λ e. rw e (grown_silent s (grown_to (level_for s size mask) t) t)) (λ e. rw e (refl, refl)) (told (eqb n 9))

  taken_given : loan_words ≤ length t.loans → (i : ℕ) → given_in (taken_tables s (size_for s size mask) (level_for s size mask) t i) ≡ given_in t + 1
  unfolding taken_tables
  taken_given some i = booked_given s t _ _ _ _ some

  taken_mark : (i : ℕ) → get_or (taken_tables s (size_for s size mask) (level_for s size mask) t i).head mark_at 0 ≡ get_or t.head mark_at 0
  unfolding taken_tables booked_tables
  taken_mark i = refl

  carried : loan_words ≤ length t.loans → (p : Plan ℕ) → Stepped t (carry_ask s a size mask t p).tables (carry_ask s a size mask t p).said
  unfolding carry_ask
  carried some (deny n) = quiet t (denied_tables s (level_for s size mask) n t) (Paper.refusal n []) refl (denied_silent n)
  carried some (take i) = record { gives = taken_given some i; nexts = refl; mark_stays = λ m. taken_mark i ∙ m }
  carried some (buy z) = quiet t (grown_tables s (grown_to (level_for s size mask) t) t) _ refl (grown_silent s (grown_to (level_for s size mask) t) t)

  after_ask : (v : Verdict) → gate_of s a t true ≡ v → (p : Plan ℕ) → Stepped t (carry_ask s a size mask t (gated Ask.deny v p)).tables (carry_ask s a size mask t (gated Ask.deny v p)).said
  unfolding carry_ask
  after_ask (refuse n) e p = quiet t (denied_tables s (level_for s size mask) n t) (Paper.refusal n []) refl (denied_silent n)
  after_ask pass e p = carried (omega (arith, (gate_passed s a t true (sym e)).lent.lengths.loans)) p

  -- an ask
  pub ask_stepped : Stepped t (ask_of s a size mask t).tables (ask_of s a size mask t).said
  unfolding ask_of plan_ask
  ask_stepped = after_ask (gate_of s a t true) refl (decide_ask s (heap_at a s.store.heap) a.objects size mask t)

-- ---- a delivery

module _ (s : BuddySettings) (a : Account) (t : Tables) where
  module _ (size mask memory z : ℕ) (u : Tables) where
    served_given : loan_words ≤ length u.loans → given_in (served_tables s (size_for s size mask) (level_for s size mask) memory z u) ≡ given_in u + 1
    unfolding served_tables chunk_tables
    served_given some = booked_given s (chunk_tables s memory z u) _ _ _ _ some

    served_mark : get_or (served_tables s (size_for s size mask) (level_for s size mask) memory z u).head mark_at 0 ≡ get_or u.head mark_at 0
    unfolding served_tables booked_tables chunk_tables
    served_mark = refl

  fated : loan_words ≤ length t.loans → (k : KeptOrder) (f : Fate) → Stepped t (carry_fate s a k t f).tables (carry_fate s a k t f).said
  unfolding carry_fate grown_tables
  fated some k (kept m) =
      let u : Tables = as_ordered s k t in
      let w = grown_silent s (grown_to (level_for s k.ask.size k.ask.mask) t) t in
      record {
        gives = served_given k.ask.size k.ask.mask m k.order.size u some ∙ ap (λ (g : ℕ). g + 1) w.0;
        nexts = ap (λ (g : ℕ). (g + 1) ∷ []) w.0;
        mark_stays = λ e. served_mark k.ask.size k.ask.mask m k.order.size u ∙ w.1 ∙ e;
      }
  fated some k (lost n c back) = quiet t (as_ordered s k t) (Paper.refusal n back) refl (grown_silent s (grown_to (level_for s k.ask.size k.ask.mask) t) t)

  gate_some : deliver_gate_of s a t ≡ pass → loan_words ≤ length t.loans
  unfolding deliver_gate_of
  gate_some e =
      let p = (passed (gate_row (in_table_ok s a t) (open_for s.store.number a.order) (sound_ok s t && still_ok s a t a.order) (account_ok s a t)) e).0 in
      omega (arith, (lent_in_lem s a t p).lengths.loans)

  stayed : (n : ℕ) → Stepped t t (Paper.refusal n [])
  stayed n = quiet t t (Paper.refusal n []) refl (refl, refl)

  module _ (o : Outcome) where
    abbrev held : List ℕ
    held = memories t (chunk_places_in t)

    after_delivery : (v : Verdict) → deliver_gate_of s a t ≡ v → (x : OpenOrder)
        → Stepped t (carry_deliver s a t (gated Deliver.deny v (decide_deliver o held x))).tables (carry_deliver s a t (gated Deliver.deny v (decide_deliver o held x))).said
    unfolding carry_deliver
    after_delivery (refuse n) e x = stayed n
    after_delivery pass e None = stayed 2
    after_delivery pass e (Some k) = ⊎_elim (λ d. rw d (fated (gate_some e) k (fate_of buddy o))) (λ d. rw d (stayed 13)) (told (delivery_ok k.order.map held o))

    -- a delivery
    pub deliver_stepped : Stepped t (deliver_of s a o t).tables (deliver_of s a o t).said
    unfolding deliver_of plan_deliver
    deliver_stepped = after_delivery (deliver_gate_of s a t) refl a.order

  -- ---- a return

  module _ (b : Block) (list : List ℕ) where
    given_silent : (w : ℕ) → Silent t (given_tables s b w t)
    unfolding given_tables
    given_silent w = (back_given s b w t, refl)

    released_stepped : (w : ℕ) → Stepped t (released_by s a b w t list).tables (released_by s a b w t list).said
    unfolding released_by
    released_stepped w =
        let u : Tables = given_tables s b w t in
        ⊎_elim (λ e. rw e (quiet t u (Paper.released 1) refl (given_silent w))) (λ e. rw e (quiet t u (Paper.released 0) refl (given_silent w)))
        (told (climb_for s b w t).freed)

    -- a return
    pub return_stepped : Stepped t (return_of s a b t list).tables (return_of s a b t list).said
    return_stepped = go (return_of s a b t list) (return_comes s a b t list)
      where
        go : (r : Listed Tables) → ReturnComes s a b t list r → Stepped t r.tables r.said
        go _ (denied n) = stayed n
        go _ (takes p on) = released_stepped (word_for s b t)
