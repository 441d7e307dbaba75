-- Set-up gives a sound store, and an ask on a sound store leaves it sound, whatever its numbers: lent from, ordered for, refused,
-- also where the refusal leaves the levels grown.
use mathlib.Core.Path.{◌≡◌, refl, sym, ap, ◌∙◌}
use mathlib.Core.Bool.{Bool, true, false, ◌&&◌}
use mathlib.Core.Logic.{◌⊎◌, inl, inr, ⊎_elim}
use mathlib.Core.List.{[], ◌∷◌}
use Prim.Native.Nat.{ℕ}
use native.Mathlib.Omega.{arith}
use lib.Dec.{eqb}
use borrow.Author.Tests.{ne_eqb}
use Rattle.lists.proofs.Bools.{told, and_left, and_right}
use Rattle.counter.specs.Account.{heap_at}
use Rattle.counter.specs.Gate.{Verdict, refuse, pass, first, gated}
use Rattle.counter.specs.InTable.{BuddyIn}
use Rattle.counter.specs.Paper as Paper
use Rattle.counter.specs.Table.{buddy_ok, alignment_ok}
use Rattle.counter.specs.declared.account.Account.{Account}
use Rattle.counter.specs.declared.settings.BuddySettings.{BuddySettings}
use Rattle.counter.proofs.Gates.{passed, same_number}
use Rattle.counter.proofs.Tables.{buddy_yes}
use Rattle.store_rules.specs.Tests.{no_order, gate_row}
use Rattle.store_rules.proofs.Said.{not_refused}
use Rattle.store_rules.proofs.Tested.{gate_low}
use Rattle.buddy_rules.specs.Tables.{Tables, Lengths, lengths_ok}
use Rattle.buddy_rules.specs.Sound.{Sound}
use Rattle.buddy_rules.specs.Test.{sound_ok}
use Rattle.buddy_outcomes.specs.Gate.{in_table_ok, account_ok, gate_of}
use Rattle.buddy_outcomes.specs.Ask.{Found, nowhere, at, grown_to, found_from, size_ok, room_ok, count_ok, objects_ok, ask_row, planned, decide_ask, grown_tables, denied_tables, carry_ask, deny, plan_ask, ask_of, level_for}
use Rattle.buddy_outcomes.specs.SetUp.{begun, fresh_tables, fit_ok, plan_set_up, carry_set_up, set_up_of}
use Rattle.buddy_outcomes.proofs.Passing.{gate_passed, lengths_are}
use Rattle.buddy_outcomes.proofs.Rounds.{initial_few, level_low}
use Rattle.buddy_outcomes.proofs.Changed.{fresh_sound, grown_tables_sound}
use Rattle.buddy_outcomes.proofs.Taken.{taken_sound}

-- ---- set-up

-- what fits is set up
set_up_fit : (s : BuddySettings) (t : Tables) → fit_ok s t ≡ true → set_up_of s t ≡ begun Paper.ready (fresh_tables s)
unfolding set_up_of plan_set_up carry_set_up
set_up_fit s t e = ap (λ (b : Bool). carry_set_up s t (first ((b, 1) ∷ []))) e

-- what was set up passed its test
pub is_begun : (s : BuddySettings) (t : Tables) → (set_up_of s t).said ≡ Paper.ready → fit_ok s t ≡ true
unfolding set_up_of plan_set_up carry_set_up
is_begun s t = by (fit_ok s t)
  where
    by : (b : Bool) → (carry_set_up s t (first ((b, 1) ∷ []))).said ≡ Paper.ready → b ≡ true
    by true e = refl
    by false e = not_refused Paper.ready 1 [] refl (sym e)

-- what set-up leaves does not depend on what was lent
pub set_up_alike : (s : BuddySettings) (t u : Tables) → (set_up_of s t).said ≡ Paper.ready → (set_up_of s u).said ≡ Paper.ready → set_up_of s t ≡ set_up_of s u
set_up_alike s t u p q = set_up_fit s t (is_begun s t p) ∙ sym (set_up_fit s u (is_begun s u q))

pub set_up_sound : (s : BuddySettings) (t : Tables) → fit_ok s t ≡ true → Sound s (set_up_of s t).tables
unfolding fit_ok
set_up_sound s t e =
    let fit = buddy_yes s (and_left (buddy_ok s) (lengths_ok s t) e) in
    rw (set_up_fit s t e) (fresh_sound s t fit (lengths_are s t (and_right (buddy_ok s) (lengths_ok s t) e)) (initial_few s fit))

-- ---- an ask

-- none of the gate's numbers is 9
pub gate_number : (a b c d : Bool) (n : ℕ) → first (gate_row a b c d) ≡ refuse n → eqb n 9 ≡ false
gate_number a b c d n e = ne_eqb n 9 (λ z. omega (arith, gate_low a b c d n e))

-- and where an ask's own is, its size is one that a level holds
ask_number : (a b c d e : Bool) (n : ℕ) → first ((a, 5) ∷ (b, 6) ∷ (c, 8) ∷ (d, 10) ∷ (e, 9) ∷ []) ≡ refuse n → (eqb n 9 ≡ false) ⊎ (b ≡ true)
ask_number a true c d e n h = inr refl
ask_number false false c d e n h = inl (ne_eqb n 9 (λ z. omega (arith, same_number 5 n h)))
ask_number true false c d e n h = inl (ne_eqb n 9 (λ z. omega (arith, same_number 6 n h)))

module _ (s : BuddySettings) (a : Account) (size mask : ℕ) (t : Tables) (sound : Sound s t) where
  untouched : (n : ℕ) → eqb n 9 ≡ false → Sound s (denied_tables s (level_for s size mask) n t)
  unfolding denied_tables
  untouched n e = rw e sound

  module _ (fit : BuddyIn s) (lengths : Lengths s t) where
    grown : size_ok s size mask ≡ true → Sound s (grown_tables s (grown_to (level_for s size mask) t) t)
    grown z =
        grown_tables_sound s t fit lengths sound (grown_to (level_for s size mask) t) (omega arith) (omega (arith, level_low s fit size mask z, sound.levels_most_lem))

    denied_sound : (n : ℕ) → (eqb n 9 ≡ false) ⊎ (size_ok s size mask ≡ true) → Sound s (denied_tables s (level_for s size mask) n t)
    unfolding denied_tables
    denied_sound n (inl e) = untouched n e
    denied_sound n (inr z) = ⊎_elim (λ e. rw e (grown z)) (λ e. rw e sound) (told (eqb n 9))

    decided : (f : Found) → found_from s (level_for s size mask) t ≡ f
        → (v : Verdict) → first (ask_row s (heap_at a s.store.heap) a.objects size mask t f) ≡ v
        → Sound s (carry_ask s a size mask t (planned s (level_for s size mask) t f v)).tables
    unfolding carry_ask
    decided f e (refuse n) w =
        let h = heap_at a s.store.heap in
        denied_sound n (ask_number (alignment_ok mask) (size_ok s size mask) (room_ok s (level_for s size mask) t f) (count_ok s h (level_for s size mask) t f) (objects_ok a.objects f) n w)
    decided (at i) e pass w =
        let h = passed (ask_row s (heap_at a s.store.heap) a.objects size mask t (at i)) w in
        taken_sound s t fit lengths sound size mask i e h.0 h.1.0 h.1.1.0
    decided nowhere e pass w =
        let h = passed (ask_row s (heap_at a s.store.heap) a.objects size mask t nowhere) w in
        grown h.1.0

  after_ask : (v : Verdict) → gate_of s a t true ≡ v → Sound s (carry_ask s a size mask t (gated deny v (decide_ask s (heap_at a s.store.heap) a.objects size mask t))).tables
  unfolding carry_ask decide_ask gate_of
  after_ask (refuse n) g = untouched n (gate_number (in_table_ok s a t && true) (no_order a.order) (sound_ok s t) (account_ok s a t) n g)
  after_ask pass g =
      let p = gate_passed s a t true (sym g) in
      decided p.lent.settings p.lent.lengths (found_from s (level_for s size mask) t) refl _ refl

  pub ask_sound : Sound s (ask_of s a size mask t).tables
  unfolding ask_of plan_ask
  ask_sound = after_ask (gate_of s a t true) refl
