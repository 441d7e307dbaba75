-- What an ask's plan tells of the gate, the search and the tests.
use mathlib.Core.Path.{◌≡◌, refl, sym, ap, ◌∙◌}
use mathlib.Core.Bool.{true, ◌&&◌}
use Prim.Native.Nat.{ℕ, ◌≤◌, ◌<◌}
use native.Mathlib.Omega.{arith}
use lib.Dec.{leb, ltb}
use borrow.Author.Tests.{ltb-true, leb-true}
use Rattle.lists.proofs.Bools.{and_left, and_right}
use Rattle.counter.specs.Limits.{spent}
use Rattle.counter.specs.Account.{heap_at}
use Rattle.counter.specs.Gate.{Verdict, pass, refuse, first, Held, gated}
use Rattle.counter.specs.declared.account.Account.{Account}
use Rattle.counter.specs.declared.account.Heap.{Heap}
use Rattle.counter.specs.declared.settings.FreeListSettings.{FreeListSettings}
use Rattle.counter.proofs.Gates.{passed}
use Rattle.heap.specs.Heap.{bears_ok}
use Rattle.store_rules.specs.Orders.{Plan, deny, take, buy}
use Rattle.book_rules.specs.Book.{taken_of}
use Rattle.freelist_rules.specs.Place.{Found, nowhere, at}
use Rattle.freelist_rules.specs.Tables.{Tables, places_in, chunks_in, store_of, given_in, made_in}
use Rattle.freelist_outcomes.specs.Gate.{gate_of}
use Rattle.freelist_outcomes.specs.Ask.{found_for, raised_for, size_ok, room_ok, count_ok, ask_row, planned, decide_ask, plan_ask}
use Rattle.freelist_outcomes.proofs.Passing.{Passed, gate_passed}

-- ---- no plan is two

deny_take : {A : Type 0} (n i : ℕ) → ◌≡◌ {A = Plan ℕ} (deny n) (take i) → A
deny_take n i e = let z : ◌≡◌ {A = ℕ} 0 1 = cc in absurd (omega arith)

deny_buy : {A : Type 0} (n z : ℕ) → ◌≡◌ {A = Plan ℕ} (deny n) (buy z) → A
deny_buy n z e = let q : ◌≡◌ {A = ℕ} 0 1 = cc in absurd (omega arith)

take_buy : {A : Type 0} (i z : ℕ) → ◌≡◌ {A = Plan ℕ} (take i) (buy z) → A
take_buy i z e = let q : ◌≡◌ {A = ℕ} 0 1 = cc in absurd (omega arith)

buy_take : {A : Type 0} (z i : ℕ) → ◌≡◌ {A = Plan ℕ} (buy z) (take i) → A
buy_take z i e = let q : ◌≡◌ {A = ℕ} 0 1 = cc in absurd (omega arith)

same_take : (i j : ℕ) → ◌≡◌ {A = Plan ℕ} (take i) (take j) → i ≡ j
same_take i j e = cc

same_buy : (y z : ℕ) → ◌≡◌ {A = Plan ℕ} (buy y) (buy z) → y ≡ z
same_buy y z e = cc

-- ---- what a plan tells of the search and the tests

pub planned_take : (s : FreeListSettings) (size i : ℕ) (t : Tables) (f : Found) (v : Verdict) → planned s size t f v ≡ take i → (f ≡ at i) × (v ≡ pass)
planned_take s size i t (at j) pass e = (ap at (same_take j i e), refl)
planned_take s size i t nowhere pass e = buy_take (raised_for s size t) i e
planned_take s size i t (at j) (refuse n) e = deny_take n i e
planned_take s size i t nowhere (refuse n) e = deny_take n i e

pub planned_buy : (s : FreeListSettings) (size z : ℕ) (t : Tables) (f : Found) (v : Verdict) → planned s size t f v ≡ buy z → (f ≡ nowhere) × (z ≡ raised_for s size t) × (v ≡ pass)
planned_buy s size z t (at j) pass e = take_buy j z e
planned_buy s size z t nowhere pass e = (refl, sym (same_buy (raised_for s size t) z e), refl)
planned_buy s size z t (at j) (refuse n) e = deny_buy n z e
planned_buy s size z t nowhere (refuse n) e = deny_buy n z e

pub size_some : (s : FreeListSettings) (size : ℕ) → size_ok s size ≡ true → 0 < size
unfolding size_ok
size_some s size e = ltb-true 0 size (and_left (ltb 0 size) (leb size s.last) e)

pub size_most_lem : (s : FreeListSettings) (size : ℕ) → size_ok s size ≡ true → size ≤ s.last
unfolding size_ok
size_most_lem s size e = leb-true size s.last (and_right (ltb 0 size) (leb size s.last) e)

pub not_spent : (s : FreeListSettings) (h : Heap) (size : ℕ) (t : Tables) (f : Found) → count_ok s h size t f ≡ true → given_in t < spent
unfolding count_ok store_of
not_spent s h size t f e = ltb-true (given_in t) spent (and_left (ltb (given_in t) spent) _ e)

module _ (s : FreeListSettings) (h : Heap) (objects size mask : ℕ) (t : Tables) where
  pub take_is : (i : ℕ) → decide_ask s h objects size mask t ≡ take i → (found_for s size mask t ≡ at i) × Held (ask_row s h objects size mask t (at i))
  unfolding decide_ask
  take_is i e =
      let f = found_for s size mask t in
      let w = planned_take s size i t f (first (ask_row s h objects size mask t f)) e in
      (w.0, passed (ask_row s h objects size mask t (at i)) (ap (λ (g : Found). first (ask_row s h objects size mask t g)) (sym w.0) ∙ w.1))

  pub buy_held : (z : ℕ) → decide_ask s h objects size mask t ≡ buy z → (found_for s size mask t ≡ nowhere) × (z ≡ raised_for s size t) × Held (ask_row s h objects size mask t nowhere)
  unfolding decide_ask
  buy_held z e =
      let f = found_for s size mask t in
      let w = planned_buy s size z t f (first (ask_row s h objects size mask t f)) e in
      (w.0, w.1, passed (ask_row s h objects size mask t nowhere) (ap (λ (g : Found). first (ask_row s h objects size mask t g)) (sym w.0) ∙ w.2))

-- a chunk is needed: a chunk place is vacant, and a chunk number is left
pub chunk_place : (s : FreeListSettings) (t : Tables) → room_ok s t nowhere ≡ true → chunks_in t < s.store.chunks
unfolding room_ok
chunk_place s t e =
    ltb-true (chunks_in t) s.store.chunks (and_right (ltb (taken_of (places_in t) t.index).place s.store.loans) (ltb (chunks_in t) s.store.chunks) e)

pub chunk_number : (s : FreeListSettings) (h : Heap) (size : ℕ) (t : Tables) → count_ok s h size t nowhere ≡ true → made_in t < spent
unfolding count_ok store_of
chunk_number s h size t e =
    let a = ltb (given_in t) spent in
    let b = bears_ok h (raised_for s size t) in
    let c = ltb (made_in t) spent in
    ltb-true (made_in t) spent (and_right b c (and_right a (b && c) e))

-- ---- what a plan says

gated_take : (v : Verdict) (p : Plan ℕ) (i : ℕ) → gated deny v p ≡ take i → (v ≡ pass) × (p ≡ take i)
gated_take pass p i e = (refl, e)
gated_take (refuse n) p i e = deny_take n i e

gated_buy : (v : Verdict) (p : Plan ℕ) (z : ℕ) → gated deny v p ≡ buy z → (v ≡ pass) × (p ≡ buy z)
gated_buy pass p z e = (refl, e)
gated_buy (refuse n) p z e = deny_buy n z e

pub plan_take : (s : FreeListSettings) (a : Account) (size mask : ℕ) (t : Tables) (i : ℕ) → plan_ask s a size mask t ≡ take i
    → Passed s a t true × (decide_ask s (heap_at a s.store.heap) a.objects size mask t ≡ take i)
unfolding plan_ask
plan_take s a size mask t i e =
    let w = gated_take (gate_of s a t true) (decide_ask s (heap_at a s.store.heap) a.objects size mask t) i e in
    (gate_passed s a t true (sym w.0), w.1)

pub plan_buy : (s : FreeListSettings) (a : Account) (size mask : ℕ) (t : Tables) (z : ℕ) → plan_ask s a size mask t ≡ buy z
    → Passed s a t true × (decide_ask s (heap_at a s.store.heap) a.objects size mask t ≡ buy z)
unfolding plan_ask
plan_buy s a size mask t z e =
    let w = gated_buy (gate_of s a t true) (decide_ask s (heap_at a s.store.heap) a.objects size mask t) z e in
    (gate_passed s a t true (sym w.0), w.1)
