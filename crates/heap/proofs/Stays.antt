-- A heap in 01's table stays in it, agrees and keeps within its totals, charged, released or both within its bounds.
use Rattle.std.proofs.Common.{◌≡◌, ℕ, ◌+◌, ◌-◌, ◌^◌, ◌<◌, ◌≤◌, true, leb, sym, refl, ap, ◌∙◌, subst, lt_of_le_of_lt, arith, le-leb, leb-true}
use Rattle.lists.proofs.Bools.{and_left, and_right, and_both}
use Rattle.counter.specs.Account.{value}
use Rattle.counter.specs.Limits.{heap_bytes_most}
use Rattle.counter.specs.Table.{heap_ok}
use Rattle.counter.specs.declared.account.Heap.{Heap}
use Rattle.heap.specs.Heap.{charged_of, released_of, bears_ok, agrees_ok, Within}
use Rattle.heap.proofs.Bounds.{bears_yes, agrees_yes, charged_is, charged_agrees, released_agrees}

heap_in_lem : (h g : Heap) → heap_ok h ≡ true → g.size ≡ h.size → g.used ≤ heap_bytes_most → heap_ok g ≡ true
heap_in_lem h g e s u =
    and_both (leb g.size heap_bytes_most) (leb g.used heap_bytes_most)
    (ap (λ (n : ℕ). leb n heap_bytes_most) s ∙ and_left (leb h.size heap_bytes_most) (leb h.used heap_bytes_most) e)
    (le-leb g.used heap_bytes_most u)

heap_most : (h : Heap) → heap_ok h ≡ true → h.used ≤ heap_bytes_most
heap_most h e = leb-true h.used heap_bytes_most (and_right (leb h.size heap_bytes_most) (leb h.used heap_bytes_most) e)

module _ (h : Heap) (bytes : ℕ) where
  -- ---- charged with what it bears

  module _ (bears : bears_ok h bytes ≡ true) where
    pub charged_used : (charged_of h bytes).used ≡ h.used + bytes
    charged_used = let b = bears_yes h bytes bears in (charged_is h bytes b.0 b.1).used

    pub charged_in : heap_ok h ≡ true → heap_ok (charged_of h bytes) ≡ true
    charged_in e =
        let b = bears_yes h bytes bears in
        let c = charged_is h bytes b.0 b.1 in
        heap_in_lem h (charged_of h bytes) e c.size (subst (λ (n : ℕ). n ≤ heap_bytes_most) (sym c.used) b.0)

    pub charged_right : agrees_ok h ≡ true → agrees_ok (charged_of h bytes) ≡ true
    charged_right e = let b = bears_yes h bytes bears in charged_agrees h bytes b.0 b.1 e

    pub charged_within : Within (charged_of h bytes)
    charged_within = let b = bears_yes h bytes bears in subst (λ (n : ℕ). n < 2 ^ 128) (sym (charged_is h bytes b.0 b.1).allocated) b.1

  -- ---- released of no more than is used

  pub released_used : (released_of h bytes).used ≡ h.used - bytes
  unfolding released_of
  released_used = refl

  pub released_in : heap_ok h ≡ true → heap_ok (released_of h bytes) ≡ true
  unfolding released_of
  released_in e = heap_in_lem h (released_of h bytes) e refl (omega (arith, heap_most h e))

  -- the bytes deallocated never pass those allocated
  pub released_right : Within h → bytes ≤ h.used → agrees_ok h ≡ true → agrees_ok (released_of h bytes) ≡ true
  released_right w p e =
      let below : value h.deallocated + bytes ≤ value h.allocated = omega (arith, agrees_yes h e) in
      released_agrees h bytes p (lt_of_le_of_lt below w) e
