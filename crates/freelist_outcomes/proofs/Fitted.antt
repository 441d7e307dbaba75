-- When an ask gives an order, and which place is taken of a block that it lends.
use mathlib.Core.Path.{◌≡◌, refl, sym, ap, ◌∙◌}
use mathlib.Core.Bool.{true}
use mathlib.Core.Logic.{◌↔◌}
use mathlib.Core.List.{List, []}
use Prim.Native.Nat.{ℕ, ◌+◌, ◌-◌, ◌%◌, ◌≤◌, ◌<◌}
use native.Mathlib.Omega.{arith}
use lib.ListN.{length, get_or}
use Rattle.lists.proofs.Bools.{true_false}
use Rattle.rounding_rules.proofs.Raising.{down_most}
use Rattle.counter.specs.Account.{heap_at}
use Rattle.counter.specs.Paper as Paper
use Rattle.counter.specs.declared.account.Account.{Account}
use Rattle.counter.specs.declared.settings.FreeListSettings.{FreeListSettings}
pub use Rattle.store_rules.proofs.Said.{order_block, refusal_block, same_block_lem}
use Rattle.store_rules.specs.Orders.{Plan, deny, take, buy, order_from}
use Rattle.store_rules.specs.declared.Loan.{Loan}
use Rattle.store_rules.specs.Outcomes.{block_said}
use Rattle.freelist_rules.specs.Place.{size_for, mask_for, fits_in}
use Rattle.freelist_rules.specs.Steps.{no_region}
use Rattle.freelist_rules.specs.Tables.{Tables, store_of}
use Rattle.store_rules.specs.declared.Region.{Region}
use Rattle.freelist_rules.proofs.Lends.{fits_is, cut_low}
use Rattle.freelist_rules.proofs.Orders.{fits_all}
use Rattle.freelist_rules.proofs.Search.{find_fits, find_last}
use Rattle.freelist_outcomes.specs.Ask.{loan_from, carry_ask, decide_ask, plan_ask, ask_of}
use Rattle.freelist_outcomes.specs.Refusals.{Needed}
use Rattle.freelist_outcomes.proofs.Passing.{Passed}
use Rattle.freelist_outcomes.proofs.Plans.{take_is, plan_take, plan_buy}
use Rattle.freelist_outcomes.proofs.Asked.{ask_buys, ask_takes}

-- ---- no answer is two

-- ---- an ask answered by a block

-- the region that served it; the block is the loan of what was cut off there, and the account is as it was
pub record Served (s : FreeListSettings) (a : Account) (size mask : ℕ) (t : Tables) (serial chunk offset len : ℕ) : Type 0 where
  pub region_at : ℕ
  pub passed : Passed s a t true
  pub taken : decide_ask s (heap_at a s.store.heap) a.objects size mask t ≡ take region_at
  pub serial_is : (loan_from s size mask t region_at).serial ≡ serial
  pub chunk_is : (loan_from s size mask t region_at).chunk ≡ chunk
  pub offset_is : (loan_from s size mask t region_at).offset ≡ offset
  pub len_is : (loan_from s size mask t region_at).size ≡ len
  pub account_is : (ask_of s a size mask t).account ≡ a

module _ (s : FreeListSettings) (a : Account) (size mask : ℕ) (t : Tables) where
  -- what is said of each plan
  denied_said : (n : ℕ) → plan_ask s a size mask t ≡ deny n → (ask_of s a size mask t).said ≡ Paper.refusal n []
  unfolding ask_of carry_ask
  denied_said n e = ap (λ (p : Plan ℕ). (carry_ask s a size mask t p).said) e

  taken_said : (i : ℕ) → plan_ask s a size mask t ≡ take i → (ask_of s a size mask t).said ≡ block_said (loan_from s size mask t i)
  unfolding ask_of carry_ask
  taken_said i e = ap (λ (p : Plan ℕ). (carry_ask s a size mask t p).said) e

  taken_account : (i : ℕ) → plan_ask s a size mask t ≡ take i → (ask_of s a size mask t).account ≡ a
  unfolding ask_of carry_ask
  taken_account i e = ap (λ (p : Plan ℕ). (carry_ask s a size mask t p).account) e

  ordered_said : (z : ℕ) → plan_ask s a size mask t ≡ buy z → (ask_of s a size mask t).said ≡ Paper.order_of (order_from s.store z)
  unfolding ask_of carry_ask
  ordered_said z e = ap (λ (p : Plan ℕ). (carry_ask s a size mask t p).said) e

  pub ask_served : (serial chunk offset len : ℕ) → (ask_of s a size mask t).said ≡ Paper.block serial chunk offset len → Served s a size mask t serial chunk offset len
  ask_served serial chunk offset len q = by (plan_ask s a size mask t) refl
    where
      by : (p : Plan ℕ) → plan_ask s a size mask t ≡ p → Served s a size mask t serial chunk offset len
      by (deny n) e = refusal_block n [] serial chunk offset len (sym (denied_said n e) ∙ q)
      by (buy z) e = order_block (order_from s.store z) serial chunk offset len (sym (ordered_said z e) ∙ q)
      by (take i) e =
          let l : Loan = loan_from s size mask t i in
          let w = plan_take s a size mask t i e in
          let b = same_block_lem l.serial l.chunk l.offset l.size serial chunk offset len (sym (taken_said i e) ∙ q) in
          record {
            region_at = i;
            passed = w.0;
            taken = w.1;
            serial_is = b.0;
            chunk_is = b.1;
            offset_is = b.2;
            len_is = b.3;
            account_is = taken_account i e;
          }

  -- on an ask that is not refused an order is given exactly when no held chunk has a fitting free place
  pub orders_when : ((n : ℕ) (back : List ℕ) → (ask_of s a size mask t).said ≡ Paper.refusal n back → ⊥) → ((z : ℕ) × ((ask_of s a size mask t).said ≡ Paper.order_of (order_from s.store z))) ↔ Needed s size mask t
  orders_when f = by (plan_ask s a size mask t) refl
    where
      by : (p : Plan ℕ) → plan_ask s a size mask t ≡ p → ((z : ℕ) × ((ask_of s a size mask t).said ≡ Paper.order_of (order_from s.store z))) ↔ Needed s size mask t
      by (deny n) e = absurd (f n [] (denied_said n e))
      by (take i) e =
          let w = plan_take s a size mask t i e in
          let l : Loan = loan_from s size mask t i in
          let g = (ask_takes s t w.0.settings w.0.sound (heap_at a s.store.heap) a.objects size mask).0 (i, w.1) in (
            (λ q. order_block (order_from s.store q.0) l.serial l.chunk l.offset l.size (sym q.1 ∙ taken_said i e)),
            (λ n. absurd (n g.1)),
          )
      by (buy z) e =
          let w = plan_buy s a size mask t z e in
          let g = (ask_buys s t w.0.settings w.0.sound (heap_at a s.store.heap) a.objects size mask z).0 w.1 in
          ((λ q. g.1), (λ n. (z, ordered_said z e)))

  -- the place that is taken: in the last region that has one, the highest
  pub taken_highest : (serial chunk offset len : ℕ) → (ask_of s a size mask t).said ≡ Paper.block serial chunk offset len
      → (i : ℕ) × (i < length (store_of s t).regions)
      × ((get_or (store_of s t).regions i no_region).chunk ≡ chunk)
      × (offset + len ≡ (get_or (store_of s t).regions i no_region).end)
      × ((x : ℕ) → x % (mask_for s mask + 1) ≡ 0 → (get_or (store_of s t).regions i no_region).start ≤ x → x + size_for s size ≤ (get_or (store_of s t).regions i no_region).end → x ≤ offset)
      × ((j x : ℕ) → i < j → j < length (store_of s t).regions → x % (mask_for s mask + 1) ≡ 0 → (get_or (store_of s t).regions j no_region).start ≤ x → x + size_for s size ≤ (get_or (store_of s t).regions j no_region).end → ⊥)
  taken_highest serial chunk offset len q =
      let v = ask_served serial chunk offset len q in
      let i : ℕ = v.region_at in
      let m : ℕ = mask_for s mask in
      let n : ℕ = size_for s size in
      let rs : List Region = (store_of s t).regions in
      let r : Region = get_or rs i no_region in
      let f = (take_is s (heap_at a s.store.heap) a.objects size mask t i v.taken).0 in
      let w = find_fits m n i rs no_region f in
      let c = cut_low m n r (fits_is m n r w.1).0 in (
        i,
        w.0,
        v.chunk_is,
        omega (arith, v.offset_is, v.len_is, c),
        λ x e p k. omega (arith, down_most (r.end - n) m x e (omega arith), v.offset_is),
        λ j x g b e p k. true_false (fits_in m n (get_or rs j no_region)) (fits_all m n x (get_or rs j no_region) e p k) (find_last m n i rs no_region f j g b),
      )
