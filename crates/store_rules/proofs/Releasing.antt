-- Releases one after the other are one release of all their chunks and bytes.
use mathlib.Core.Path.{◌≡◌, refl, sym, ap, ◌∙◌}
use mathlib.Core.Bool.{Bool, true, false, cond}
use mathlib.Core.Logic.{⊎_elim}
use mathlib.Core.List.{List}
use Prim.Native.Nat.{ℕ, ◌+◌, ◌-◌, ◌/◌, ◌%◌, ◌^◌, ◌<◌}
use native.Mathlib.Nat.{mod-add-mod, mod-eq_of_lt, le_trans, not-le_of_lt, mul-le-mul_right}
use native.Mathlib.Omega.{arith}
use lib.Dec.{ltb}
use lib.ListN.{length, get_or, set}
use lib.Pow.{field, high, low, mod-pow-add, mod-mod-pow}
use lib.Seq.{set-get_or, set-set}
use borrow.Author.Tests.{lt-ltb}
use Rattle.lists.proofs.Bools.{lt_or_le}
use Rattle.counter.specs.Account.{Typed, value, heap_at, no_heap}
use Rattle.counter.specs.Limits.{heaps_most}
use Rattle.counter.specs.declared.account.Account.{Account}
use Rattle.counter.specs.declared.account.Heap.{Heap}
use Rattle.counter.specs.declared.account.Total.{Total}
use Rattle.counter.specs.declared.settings.StoreSettings.{StoreSettings}
use Rattle.heap.specs.Heap.{total_of, plus_of, released_of}
use Rattle.store_rules.specs.Outcomes.{released_account}
use Rattle.store_rules.proofs.Accounts.{settled_own}

-- ---- a total

-- its two words are those of the number modulo 2^128
abbrev words_of : ℕ → Total
words_of x = record { hi = x / 2 ^ 64; lo = x % 2 ^ 64 }

whole_words : (n : ℕ) → total_of n ≡ words_of (n % 2 ^ (64 + 64))
whole_words n = λ j. record { hi = sym (field n 64 64) j; lo = sym (mod-mod-pow n 64 64) j }

-- so what is added in two parts is added at once
total_twice : (n y : ℕ) → total_of (value (total_of n) + y) ≡ total_of (n + y)
total_twice n y =
    whole_words (value (total_of n) + y)
    ∙ ap words_of (ap (λ (v : ℕ). (v + y) % 2 ^ (64 + 64)) (sym (mod-pow-add n 64 64)) ∙ mod-add-mod n (2 ^ (64 + 64)) y)
    ∙ sym (whole_words (n + y))

plus_twice : (t : Total) (x y : ℕ) → plus_of (plus_of t x) y ≡ plus_of t (x + y)
unfolding plus_of
plus_twice t x y = let e : value t + x + y ≡ value t + (x + y) = omega arith in total_twice (value t + x) y ∙ ap total_of e

-- and where its two words are words, nothing added leaves it as it is
plus_none : (t : Total) → value t < 2 ^ 128 → t.lo < 2 ^ 64 → plus_of t 0 ≡ t
unfolding plus_of
plus_none t h l = let e : value t + 0 ≡ value t = omega arith in ap total_of e ∙ (λ j. record { hi = a j; lo = low t.hi 64 l j })
  where
    below : t.hi < 2 ^ 64
    below = ⊎_elim (λ k. k) (λ k. absurd (not-le_of_lt h (le_trans (mul-le-mul_right (2 ^ 64) k) (omega arith)))) (lt_or_le t.hi (2 ^ 64))

    a : value t / 2 ^ 64 % 2 ^ 64 ≡ t.hi
    a = ap (λ (v : ℕ). v % 2 ^ 64) (high t.hi 64 l) ∙ mod-eq_of_lt below

-- ---- a heap

heap_twice : (h : Heap) (x y : ℕ) → released_of (released_of h x) y ≡ released_of h (x + y)
unfolding released_of
heap_twice h x y =
    let u : h.used - x - y ≡ h.used - (x + y) = omega arith in
    let d = plus_twice h.deallocated x y in
    (λ j. record { size = h.size; used = u j; allocated = h.allocated; deallocated = d j })

heap_none : (h : Heap) → value h.deallocated < 2 ^ 128 → h.deallocated.lo < 2 ^ 64 → released_of h 0 ≡ h
unfolding released_of
heap_none h v l =
    let u : h.used - 0 ≡ h.used = omega arith in
    let d = plus_none h.deallocated v l in
    (λ j. record { size = h.size; used = u j; allocated = h.allocated; deallocated = d j })

-- ---- an account that has all its heaps

-- the same heap written anew twice, and written as it was
written_twice : (b : Bool) (hs : List Heap) (i : ℕ) (g h : Heap) → cond b (set (cond b (set hs i g) hs) i h) (cond b (set hs i g) hs) ≡ cond b (set hs i h) hs
written_twice true hs i g h = set-set hs i g h
written_twice false hs i g h = refl

written_same : (b : Bool) (hs : List Heap) (i : ℕ) → cond b (set hs i (get_or hs i no_heap)) hs ≡ hs
written_same true hs i = set-get_or hs i no_heap
written_same false hs i = refl

module _ (s : StoreSettings) (a : Account) (typed : Typed a) (low : s.heap < heaps_most) where
  there : s.heap < length a.heaps
  there = omega (arith, typed.heaps)

  -- two releases, of m chunks and then of n, are one of m + n
  pub released_twice : (m x n y : ℕ) → released_account s (released_account s a m x) n y ≡ released_account s a (m + n) (x + y)
  unfolding released_account
  released_twice m x n y =
      let first = released_of (heap_at a s.heap) x in
      let o : a.objects + m + n ≡ a.objects + (m + n) = omega arith in
      let own : released_of (heap_at (released_account s a m x) s.heap) y ≡ released_of (heap_at a s.heap) (x + y) =
      ap (λ (h : Heap). released_of h y) (settled_own a s.heap first (a.objects + m) a.order low there) ∙ heap_twice (heap_at a s.heap) x y in
      let hs : cond (ltb s.heap heaps_most) (set (released_account s a m x).heaps s.heap (released_of (heap_at (released_account s a m x) s.heap) y)) (released_account s a m x).heaps
      ≡ cond (ltb s.heap heaps_most) (set a.heaps s.heap (released_of (heap_at a s.heap) (x + y))) a.heaps =
      ap (λ (h : Heap). cond (ltb s.heap heaps_most) (set (released_account s a m x).heaps s.heap h) (released_account s a m x).heaps) own
      ∙ written_twice (ltb s.heap heaps_most) a.heaps s.heap first (released_of (heap_at a s.heap) (x + y)) in
      (λ j. record { heaps = hs j; objects = o j; order = a.order })

  -- nothing released changes nothing, where the heap's total is of two words
  pub released_none : value (heap_at a s.heap).deallocated < 2 ^ 128 → (heap_at a s.heap).deallocated.lo < 2 ^ 64 → released_account s a 0 0 ≡ a
  unfolding released_account
  released_none v l =
      let o : a.objects + 0 ≡ a.objects = omega arith in
      let own : heap_at a s.heap ≡ get_or a.heaps s.heap no_heap = rw (lt-ltb s.heap heaps_most low) in
      let hs : cond (ltb s.heap heaps_most) (set a.heaps s.heap (released_of (heap_at a s.heap) 0)) a.heaps ≡ a.heaps =
      ap (λ (h : Heap). cond (ltb s.heap heaps_most) (set a.heaps s.heap h) a.heaps) (heap_none (heap_at a s.heap) v l ∙ own)
      ∙ written_same (ltb s.heap heaps_most) a.heaps s.heap in
      (λ j. record { heaps = hs j; objects = o j; order = a.order })
