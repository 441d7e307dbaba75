-- What the tests of a heap's bounds say, and that a charge or release within them wraps nothing.
use Rattle.std.proofs.Common.{◌≡◌, ℕ, ◌+◌, ◌-◌, ◌*◌, ◌%◌, ◌^◌, ◌<◌, ◌≤◌, Bool, true, false, not, ◌&&◌, ◌||◌, eqb, ltb, leb, sym, refl, ap, ◌∙◌, mod-eq_of_lt, arith, ltb-true, lt-ltb, eq-eqb, ne_eqb, eqb-true, le-leb, leb-true}
use Rattle.std.specs.Bool.{FalseIff}
use Rattle.std.specs.Int.{from_bool}
use borrow.Author.Tests.{lt-leb}
use Rattle.lists.proofs.Bools.{and_left, and_right, and_both, same_test}
use Rattle.counter.specs.Account.{value}
use Rattle.counter.specs.Limits.{heap_bytes_most}
use Rattle.counter.specs.declared.account.Heap.{Heap}
use Rattle.counter.specs.declared.account.Total.{Total}
use Rattle.heap.specs.Heap.{charged_of, released_of, bears_ok, agrees_ok}
use Rattle.heap.proofs.Totals.{carry, carried, words_equal, holds_more, plus_value}

-- ---- the tests as code makes them

-- each word of a total is a word
abbrev pub Words : Total → Type 0
Words t = (t.hi < 2 ^ 64) × (t.lo < 2 ^ 64)

module _ (h : Heap) (w : Words h.allocated) (bytes : ℕ) (bb : bytes < 2 ^ 64) where
  pub bears_near : bytes ≤ heap_bytes_most
      → (leb h.used (0x4000_0000_0000_0000 - bytes) && (leb bytes (0xffff_ffff_ffff_ffff - h.allocated.lo) || ltb h.allocated.hi 0xffff_ffff_ffff_ffff)) ≡ bears_ok h bytes
  unfolding bears_ok
  bears_near g =
      rw (same_test (leb h.used (0x4000_0000_0000_0000 - bytes)) (leb (h.used + bytes) heap_bytes_most) there back, holds_more h.allocated.hi h.allocated.lo bytes w.0 w.1 bb)
    where
      there : leb h.used (0x4000_0000_0000_0000 - bytes) ≡ true → leb (h.used + bytes) heap_bytes_most ≡ true
      there p = le-leb (h.used + bytes) heap_bytes_most (omega (arith, leb-true h.used (0x4000_0000_0000_0000 - bytes) p))

      back : leb (h.used + bytes) heap_bytes_most ≡ true → leb h.used (0x4000_0000_0000_0000 - bytes) ≡ true
      back p = le-leb h.used (0x4000_0000_0000_0000 - bytes) (omega (arith, leb-true (h.used + bytes) heap_bytes_most p))

  pub bears_far : heap_bytes_most < bytes → false ≡ bears_ok h bytes
  unfolding bears_ok
  bears_far g = let e : leb (h.used + bytes) heap_bytes_most ≡ false = lt-leb (h.used + bytes) heap_bytes_most (omega arith) in rw e

-- the words of what was deallocated and what is used, with their carries
pub agrees_carried : (h : Heap) (a : Words h.allocated) (d : Words h.deallocated) (u : h.used < 2 ^ 64) (r x : ℕ) (o v : Bool) → r < 2 ^ 64
    → r ≡ (h.deallocated.lo + h.used) % 2 ^ 64 → FalseIff o (h.deallocated.lo + h.used < 2 ^ 64)
    → x ≡ (h.deallocated.hi + from_bool o) % 2 ^ 64 → FalseIff v (h.deallocated.hi + from_bool o < 2 ^ 64)
    → ((not v && eqb r h.allocated.lo) && eqb x h.allocated.hi) ≡ agrees_ok h
unfolding agrees_ok
agrees_carried h a d u r x o v rb e f g k = by v k
  where
    y : ℕ
    y = h.deallocated.hi + from_bool o

    s : value h.deallocated + h.used ≡ y * 2 ^ 64 + r
    s = carried h.deallocated.hi h.deallocated.lo h.used r (from_bool o) (carry h.deallocated.lo h.used r o d.1 u e f)

    by : (v : Bool) → FalseIff v (y < 2 ^ 64) → ((not v && eqb r h.allocated.lo) && eqb x h.allocated.hi) ≡ eqb (value h.deallocated + h.used) (value h.allocated)
    by true k =
        let l : 2 ^ 64 ≤ y = omega (arith, k) in
        sym (ne_eqb _ _ (λ q. let z : y * 2 ^ 64 + r ≡ h.allocated.hi * 2 ^ 64 + h.allocated.lo = sym s ∙ q in omega (arith, z, l, a.0, a.1)))
    by false k =
        let z : x ≡ y = g ∙ mod-eq_of_lt k in
        rw z (words_equal y r h.allocated.hi h.allocated.lo rb a.1 ∙ ap (λ (n : ℕ). eqb n (value h.allocated)) (sym s))

-- ---- what they mean, in plain numbers

pub bears_yes : (h : Heap) (bytes : ℕ) → bears_ok h bytes ≡ true → (h.used + bytes ≤ heap_bytes_most) × (value h.allocated + bytes < 2 ^ 128)
unfolding bears_ok
bears_yes h bytes e = (leb-true _ _ (and_left _ _ e), ltb-true _ _ (and_right (leb (h.used + bytes) heap_bytes_most) _ e))

pub bears_all : (h : Heap) (bytes : ℕ) → h.used + bytes ≤ heap_bytes_most → value h.allocated + bytes < 2 ^ 128 → bears_ok h bytes ≡ true
unfolding bears_ok
bears_all h bytes p q = and_both _ _ (le-leb _ _ p) (lt-ltb _ _ q)

pub agrees_yes : (h : Heap) → agrees_ok h ≡ true → value h.deallocated + h.used ≡ value h.allocated
unfolding agrees_ok
agrees_yes h e = eqb-true _ _ e

pub agrees_all : (h : Heap) → value h.deallocated + h.used ≡ value h.allocated → agrees_ok h ≡ true
unfolding agrees_ok
agrees_all h e = eq-eqb _ _ e

-- ---- within the bounds nothing wraps

-- a heap after a charge
pub record Charged (h : Heap) (bytes : ℕ) (g : Heap) : Type 0 where
  pub size : g.size ≡ h.size
  pub used : g.used ≡ h.used + bytes
  pub allocated : value g.allocated ≡ value h.allocated + bytes
  pub deallocated : g.deallocated ≡ h.deallocated

pub charged_is : (h : Heap) (bytes : ℕ) → h.used + bytes ≤ heap_bytes_most → value h.allocated + bytes < 2 ^ 128 → Charged h bytes (charged_of h bytes)
unfolding charged_of
charged_is h bytes p q = record {
  size = refl;
  used = mod-eq_of_lt (omega arith);
  allocated = plus_value h.allocated bytes q;
  deallocated = refl;
}

-- and after a release
pub record Released (h : Heap) (bytes : ℕ) (g : Heap) : Type 0 where
  pub size : g.size ≡ h.size
  pub used : g.used + bytes ≡ h.used
  pub allocated : g.allocated ≡ h.allocated
  pub deallocated : value g.deallocated ≡ value h.deallocated + bytes

pub released_is : (h : Heap) (bytes : ℕ) → bytes ≤ h.used → value h.deallocated + bytes < 2 ^ 128 → Released h bytes (released_of h bytes)
unfolding released_of
released_is h bytes p q = record {
  size = refl;
  used = omega arith;
  allocated = refl;
  deallocated = plus_value h.deallocated bytes q;
}

-- a heap that agrees still does, charged or released within its bounds
pub charged_agrees : (h : Heap) (bytes : ℕ) → h.used + bytes ≤ heap_bytes_most → value h.allocated + bytes < 2 ^ 128 → agrees_ok h ≡ true → agrees_ok (charged_of h bytes) ≡ true
charged_agrees h bytes p q e =
    let c = charged_is h bytes p q in
    agrees_all (charged_of h bytes) (rw (c.deallocated, c.used, c.allocated) (omega (arith, agrees_yes h e)))

pub released_agrees : (h : Heap) (bytes : ℕ) → bytes ≤ h.used → value h.deallocated + bytes < 2 ^ 128 → agrees_ok h ≡ true → agrees_ok (released_of h bytes) ≡ true
released_agrees h bytes p q e =
    let c = released_is h bytes p q in
    agrees_all (released_of h bytes) (rw (c.deallocated, c.allocated) (omega (arith, agrees_yes h e, c.used)))
