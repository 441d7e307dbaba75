-- What an ask's plan tells of the search and the tests.
use mathlib.Core.Path.{◌≡◌, refl, sym, ap, subst}
use mathlib.Core.Bool.{Bool, true, false}
use mathlib.Core.List.{[], ◌∷◌}
use Prim.Native.Nat.{ℕ, ◌<◌}
use native.Mathlib.Omega.{arith}
use lib.Dec.{ltb}
use borrow.Author.Tests.{ltb-true}
use Rattle.lists.proofs.Bools.{true_false, and_left, and_right}
use Rattle.counter.specs.Limits.{spent}
use Rattle.counter.specs.Gate.{Verdict, refuse, pass, first}
use Rattle.counter.specs.Table.{alignment_ok}
use Rattle.counter.specs.declared.account.Heap.{Heap}
use Rattle.counter.specs.declared.settings.BuddySettings.{BuddySettings}
use Rattle.counter.proofs.Gates.{passed, same_number}
use Rattle.heap.specs.Heap.{bears_ok}
use Rattle.store_rules.specs.Orders.{Plan, deny, take, buy}
use Rattle.buddy_trees.specs.Trees.{bytes}
use Rattle.buddy_rules.specs.Tables.{Tables, given_in}
use Rattle.buddy_outcomes.specs.Ask.{Found, nowhere, at, grown_to, found_from, order_bytes, size_ok, room_ok, count_ok, objects_ok, ask_row, planned, decide_ask, level_for}

-- ---- no plan is two

abbrev is_take : Plan ℕ → Bool
is_take (deny n) = false
is_take (take i) = true
is_take (buy z) = false

abbrev is_buy : Plan ℕ → Bool
is_buy (deny n) = false
is_buy (take i) = false
is_buy (buy z) = true

abbrev is_deny : Plan ℕ → Bool
is_deny (deny n) = true
is_deny (take i) = false
is_deny (buy z) = false

-- its level, its bytes or its number
abbrev number_in : Plan ℕ → ℕ
number_in (deny n) = n
number_in (take i) = i
number_in (buy z) = z

-- ---- what an ask has shown that finds a level with a ready side, and one that opens an order

pub record Takes (s : BuddySettings) (size mask : ℕ) (t : Tables) (i : ℕ) : Type 0 where
  pub found : found_from s (level_for s size mask) t ≡ at i
  pub aligned : alignment_ok mask ≡ true
  pub sized : size_ok s size mask ≡ true
  pub room : room_ok s (level_for s size mask) t (at i) ≡ true
  pub serial : given_in t < spent

pub record Buys (s : BuddySettings) (size mask : ℕ) (t : Tables) (z : ℕ) : Type 0 where
  pub found : found_from s (level_for s size mask) t ≡ nowhere
  pub aligned : alignment_ok mask ≡ true
  pub sized : size_ok s size mask ≡ true
  pub room : room_ok s (level_for s size mask) t nowhere ≡ true
  pub serial : given_in t < spent
  pub order : bytes s.minimal (grown_to (level_for s size mask) t) ≡ z

-- a plan to buy: the search found no level, every test held, and the order is for this many bytes
pub planned_buy : (s : BuddySettings) (size mask : ℕ) (t : Tables) (z : ℕ) (f : Found) (v : Verdict) → planned s (level_for s size mask) t f v ≡ buy z → (f ≡ nowhere) × (v ≡ pass) × (z ≡ order_bytes s (level_for s size mask) t)
planned_buy s size mask t z f (refuse n) p = absurd (true_false true refl (sym (ap is_buy p)))
planned_buy s size mask t z (at i) pass p = absurd (true_false true refl (sym (ap is_buy p)))
planned_buy s size mask t z nowhere pass p = (refl, refl, sym (ap number_in p))

-- 9 comes after the tests of mask and size
before_nine : (a b c d e : Bool) → first ((a, 5) ∷ (b, 6) ∷ (c, 8) ∷ (d, 10) ∷ (e, 9) ∷ []) ≡ refuse 9 → (a ≡ true) × (b ≡ true)
before_nine true true c d e h = (refl, refl)
before_nine true false c d e h = absurd (omega (arith, same_number 6 9 h))
before_nine false b c d e h = absurd (omega (arith, same_number 5 9 h))

module _ (s : BuddySettings) (h : Heap) (objects size mask : ℕ) (t : Tables) where
  not_spent : (f : Found) → count_ok s h (level_for s size mask) t f ≡ true → given_in t < spent
  unfolding count_ok
  not_spent f e = ltb-true (given_in t) spent (and_left (ltb (given_in t) spent) _ e)

  take_by : (i : ℕ) (f : Found) → found_from s (level_for s size mask) t ≡ f → (v : Verdict) → first (ask_row s h objects size mask t f) ≡ v → planned s (level_for s size mask) t f v ≡ take i → Takes s size mask t i
  take_by i f e (refuse n) w p = absurd (true_false true refl (sym (ap is_take p)))
  take_by i nowhere e pass w p = absurd (true_false true refl (sym (ap is_take p)))
  take_by i (at j) e pass w p =
      let r = passed (ask_row s h objects size mask t (at j)) w in
      subst (λ (x : ℕ). Takes s size mask t x) (ap number_in p)
      (record { found = e; aligned = r.0; sized = r.1.0; room = r.1.1.0; serial = not_spent (at j) r.1.1.1.0 })

  pub takes : (i : ℕ) → decide_ask s h objects size mask t ≡ take i → Takes s size mask t i
  unfolding decide_ask
  takes i p = take_by i (found_from s (level_for s size mask) t) refl _ refl p

  buy_by : (z : ℕ) (f : Found) → found_from s (level_for s size mask) t ≡ f → (v : Verdict) → first (ask_row s h objects size mask t f) ≡ v → planned s (level_for s size mask) t f v ≡ buy z → Buys s size mask t z
  buy_by z f e (refuse n) w p = absurd (true_false true refl (sym (ap is_buy p)))
  buy_by z (at i) e pass w p = absurd (true_false true refl (sym (ap is_buy p)))
  buy_by z nowhere e pass w p =
      let r = passed (ask_row s h objects size mask t nowhere) w in
      record { found = e; aligned = r.0; sized = r.1.0; room = r.1.1.0; serial = not_spent nowhere r.1.1.1.0; order = ap number_in p }

  pub buys : (z : ℕ) → decide_ask s h objects size mask t ≡ buy z → Buys s size mask t z
  unfolding decide_ask
  buys z p = buy_by z (found_from s (level_for s size mask) t) refl _ refl p

  bears_by : (z : ℕ) (f : Found) (v : Verdict) → first (ask_row s h objects size mask t f) ≡ v → planned s (level_for s size mask) t f v ≡ buy z → (bears_ok h z ≡ true) × (0 < objects)
  unfolding count_ok objects_ok
  bears_by z f (refuse n) w p = absurd (true_false true refl (sym (ap is_buy p)))
  bears_by z (at i) pass w p = absurd (true_false true refl (sym (ap is_buy p)))
  bears_by z nowhere pass w p =
      let r = (passed (ask_row s h objects size mask t nowhere) w).1.1.1 in
      let b : bears_ok h (order_bytes s (level_for s size mask) t) ≡ true = and_right (ltb (given_in t) spent) (bears_ok h (order_bytes s (level_for s size mask) t)) r.0 in
      (subst (λ (x : ℕ). bears_ok h x ≡ true) (ap number_in p) b, ltb-true 0 objects r.1.0)

  -- the heap bears what is ordered, and a device object remains
  pub buy_bears : (z : ℕ) → decide_ask s h objects size mask t ≡ buy z → (bears_ok h z ≡ true) × (0 < objects)
  unfolding decide_ask
  buy_bears z p = bears_by z (found_from s (level_for s size mask) t) _ refl p

  nine_by : (f : Found) (v : Verdict) → first (ask_row s h objects size mask t f) ≡ v → planned s (level_for s size mask) t f v ≡ deny 9 → (alignment_ok mask ≡ true) × (size_ok s size mask ≡ true)
  nine_by (at i) pass w p = absurd (true_false true refl (sym (ap is_deny p)))
  nine_by nowhere pass w p = absurd (true_false true refl (sym (ap is_deny p)))
  nine_by f (refuse n) w p =
      let z : n ≡ 9 = ap number_in p in
      before_nine (alignment_ok mask) (size_ok s size mask) (room_ok s (level_for s size mask) t f) (count_ok s h (level_for s size mask) t f) (objects_ok objects f) (rw z at w)

  -- an ask refused as 9 passed the tests of mask and size
  pub nine : decide_ask s h objects size mask t ≡ deny 9 → (alignment_ok mask ≡ true) × (size_ok s size mask ≡ true)
  unfolding decide_ask
  nine p = nine_by (found_from s (level_for s size mask) t) _ refl p
