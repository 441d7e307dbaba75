-- An ask's tests 5, 6, 8, 10 and 9 decide 01's rows, and when an ask comes to an order, in the paper's words.
use mathlib.Core.Path.{◌≡◌, refl, sym, ap, ◌∙◌}
use mathlib.Core.Bool.{true, false, ◌||◌, not}
use mathlib.Core.Logic.Iff
use mathlib.Core.Logic.{◌↔◌, ⊎_elim, inl, inr}
use Prim.Native.Nat.{ℕ}
use lib.Dec.{ltb}
use Rattle.counter.specs.Gate.{pass, Row, first}
use Rattle.counter.specs.InTable.{BuddyIn}
use Rattle.counter.specs.Limits.{levels_most, spent}
use Rattle.counter.specs.Reasons.{Clear, Decides}
use Rattle.counter.specs.Table.{alignment_ok}
use Rattle.counter.specs.declared.account.Heap.{Heap}
use Rattle.counter.specs.declared.settings.BuddySettings.{BuddySettings}
use Rattle.counter.proofs.Gates.{passed}
use Rattle.counter.proofs.Reasoned.{clear_first}
use Rattle.heap.specs.Heap.{bears_ok}
use Rattle.store_rules.specs.Orders.{buy}
use Rattle.store_rules.proofs.Refused.{or_never, mask_off}
use Rattle.store_rules.proofs.Tested.{off_and, off_where, off_less, off_some, bears_off}
use Rattle.buddy_trees.specs.Trees.{bytes}
use Rattle.buddy_rules.specs.Sound.{Sound}
use Rattle.buddy_rules.specs.Tables.{Tables, Lengths, given_in}
use Rattle.buddy_outcomes.specs.Ask.{nowhere, needs, size_for, found_from, order_bytes, size_ok, count_ok, objects_ok, ask_row, planned, decide_ask, level_for}
use Rattle.buddy_outcomes.specs.Refusals.{SizeOff, Needed, buddy_words}
use Rattle.store_rules.specs.Rows.{NoObject, Spent, ask_tests}
use Rattle.buddy_outcomes.proofs.Fitted.{needs_when}
use Rattle.buddy_outcomes.proofs.Plans.{planned_buy}
use Rattle.buddy_outcomes.proofs.Roomed.{needs_none, full_when}

-- 6
size_off : (s : BuddySettings) (size mask : ℕ) → (size_ok s size mask ≡ false) ↔ SizeOff s size mask
unfolding size_ok
size_off s size mask =
    off_and (ltb 0 size) (ltb (size_for s size mask) (bytes s.minimal levels_most)) (off_some size)
    (off_less (size_for s size mask) (bytes s.minimal levels_most))

module _ (s : BuddySettings) (t : Tables) (fit : BuddyIn s) (lengths : Lengths s t) (sound : Sound s t) (h : Heap) (objects size mask : ℕ) where
  needed : alignment_ok mask ≡ true → size_ok s size mask ≡ true → (needs (found_from s (level_for s size mask) t) ≡ true) ↔ Needed s size mask t
  needed a z = Iff.trans (needs_none (found_from s (level_for s size mask) t)) (needs_when s t fit lengths sound size mask a z)

  -- 10
  spent_off : alignment_ok mask ≡ true → size_ok s size mask ≡ true → (count_ok s h (level_for s size mask) t (found_from s (level_for s size mask) t) ≡ false) ↔ Spent buddy_words s h size mask t
  unfolding count_ok
  spent_off a z =
      Iff.trans
      (off_and (ltb (given_in t) spent) (not (needs (found_from s (level_for s size mask) t)) || bears_ok h (order_bytes s (level_for s size mask) t)) (off_less (given_in t) spent)
      (off_where (needs (found_from s (level_for s size mask) t)) (bears_ok h (order_bytes s (level_for s size mask) t)) (needed a z) (bears_off h (order_bytes s (level_for s size mask) t))))
      (⊎_elim (λ x. inl x) (λ x. inr (x.0, ⊎_elim (λ y. inl y) (λ y. inr (inl y)) x.1)), ⊎_elim (λ x. inl x) (λ x. inr (x.0, ⊎_elim (λ y. inl y) (⊎_elim (λ y. inr y) (λ y. absurd y)) x.1)))

  -- 9
  object_off : alignment_ok mask ≡ true → size_ok s size mask ≡ true → (objects_ok objects (found_from s (level_for s size mask) t) ≡ false) ↔ NoObject buddy_words s objects size mask t
  unfolding objects_ok
  object_off a z =
      off_where (needs (found_from s (level_for s size mask) t)) (ltb 0 objects) (needed a z) (off_some objects)

  pub ask_decided : Decides (ask_row s h objects size mask t (found_from s (level_for s size mask) t)) (ask_tests buddy_words s h objects size mask t)
  ask_decided = (
    refl,
    or_never (mask_off mask),
    (λ a. (refl, size_off s size mask, (λ z. (refl, full_when s t fit lengths sound size mask a z, (λ e. (refl, spent_off a z, (λ f. (refl, object_off a z, (λ g. tt))))))))),
  )

  abbrev tests : Row
  tests = ask_row s h objects size mask t (found_from s (level_for s size mask) t)

  -- an ask comes to an order exactly when none of its rows speaks and a chunk is needed, and to the order for that
  pub ask_buys : (z : ℕ) → (decide_ask s h objects size mask t ≡ buy z) ↔ (Clear (ask_tests buddy_words s h objects size mask t) × Needed s size mask t × (z ≡ order_bytes s (level_for s size mask) t))
  unfolding decide_ask
  ask_buys z = (there, back)
    where
      clear : (first tests ≡ pass) ↔ Clear (ask_tests buddy_words s h objects size mask t)
      clear = clear_first tests (ask_tests buddy_words s h objects size mask t) ask_decided

      lacks : first tests ≡ pass → (found_from s (level_for s size mask) t ≡ nowhere) ↔ Needed s size mask t
      lacks e = let w = passed tests e in needs_when s t fit lengths sound size mask w.0 w.1.0

      there : planned s (level_for s size mask) t (found_from s (level_for s size mask) t) (first tests) ≡ buy z → Clear (ask_tests buddy_words s h objects size mask t) × Needed s size mask t × (z ≡ order_bytes s (level_for s size mask) t)
      there e = let w = planned_buy s size mask t z (found_from s (level_for s size mask) t) (first tests) e in (clear.0 w.1, (lacks w.1).0 w.0, w.2)

      back : Clear (ask_tests buddy_words s h objects size mask t) × Needed s size mask t × (z ≡ order_bytes s (level_for s size mask) t) → planned s (level_for s size mask) t (found_from s (level_for s size mask) t) (first tests) ≡ buy z
      back w =
          let p = clear.1 w.0 in
          let f = (lacks p).1 w.1 in
          (λ j. planned s (level_for s size mask) t (f j) (p j)) ∙ ap buy (sym w.2)
