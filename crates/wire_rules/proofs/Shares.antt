-- A store's share of the account, in words: as the code reads and writes it; and what a call writes of it is what it would write of
-- the whole account, since all else is in the words as it was.
use mathlib.Core.Path.{◌≡◌, refl, sym, ap, subst, ◌∙◌}
use mathlib.Core.Bool.{Bool, true, false, cond, ◌&&◌}
use mathlib.Core.List.{List}
use Prim.Native.Nat.{ℕ, ◌+◌, ◌*◌, ◌≤◌, ◌<◌}
use native.Mathlib.Nat.{add_comm, zero-add}
use native.Mathlib.Omega.{arith}
use lib.Dec.{ltb, leb, eqb}
use lib.ListN.{length, get_or, set, length-set}
use lib.Seq.{set-get_or, get_or-set_same, get_or-set_other}
use borrow.Author.Tests.{ltb-true, lt-ltb, le-ltb}
use Rattle.counter.specs.Account.{no_heap, heap_at}
use Rattle.counter.specs.Limits.{heaps_most, heap_bytes_most}
use Rattle.counter.specs.Paper.{Said}
use Rattle.counter.specs.Paper as Paper
use Rattle.counter.specs.Table.{heap_ok, heaps_upto, heaps_ok}
use Rattle.counter.specs.declared.account.Heap.{Heap}
use Rattle.counter.specs.declared.account.KeptOrder.{KeptOrder}
use Rattle.counter.specs.Open.{OpenOrder}
use Rattle.std.specs.Prelude.{None, Some}
use Rattle.counter.specs.declared.settings.StoreSettings.{StoreSettings}
use Rattle.counter.proofs.Tables.{heaps_more}
use Rattle.store_rules.specs.Outcomes.{with_order}
use Rattle.store_rules.specs.Shares.{share_of, with_share, ask_left}
use Rattle.store_rules.specs.Alike.{Alike}
use Rattle.store_rules.proofs.Holders.{holding, holder}
use Rattle.store_rules.specs.Tests.{no_order}
use Rattle.store_rules.specs.declared.Share.{Share}
use Rattle.store_rules.proofs.Shares.{held_alike, holder_alike}
use Rattle.wire_rules.specs.Wire.{objects_at, open_at, order_store_at, order_size_at, order_memtype_at, order_map_at, ask_size_at, ask_mask_at, heap_in, heaps_in, order_in, account_in, account_ok, heap_out, heaps_out, order_out, account_out, share_out, asked_out}
use Rattle.wire_rules.proofs.Heaps.{read_six, heap_length, heap_other, heaps_many, heaps_at, heaps_stay, heaps_one}
use Rattle.wire_rules.proofs.Orders.{right_yes, order_stays}

-- ---- as the code reads a share

module _ (w : List ℕ) where
  abbrev heaps : List Heap
  heaps = heaps_in w heaps_most

  fits_read : (i : ℕ) → (leb (get_or w (6 * i) 0) heap_bytes_most && leb (get_or w (6 * i + 1) 0) heap_bytes_most) ≡ heap_ok (heap_in w i)
  unfolding heap_in
  fits_read i = rw (zero-add (6 * i), add_comm 1 (6 * i))

  -- with the heap at i tested too, one heap more is
  pub table_more : (i : ℕ) (ok : Bool) → i < heaps_most → ok ≡ heaps_upto heaps i
      → (ok && (leb (get_or w (6 * i) 0) heap_bytes_most && leb (get_or w (6 * i + 1) 0) heap_bytes_most)) ≡ heaps_upto heaps (i + 1)
  table_more i ok l e = ap (λ (b : Bool). ok && b) (fits_read i ∙ ap heap_ok (sym (heaps_at w heaps_most i l))) ∙ heaps_more heaps i ok e

  -- a heap with a number, by its six words
  pub read_own : (i : ℕ) → i < heaps_most
      → record { size = get_or w (6 * i) 0; used = get_or w (6 * i + 1) 0; allocated = record { hi = get_or w (6 * i + 2) 0; lo = get_or w (6 * i + 3) 0 }; deallocated = record { hi = get_or w (6 * i + 4) 0; lo = get_or w (6 * i + 5) 0 } } ≡ heap_at (account_in w) i
  read_own i l = rw (lt-ltb i heaps_most l) (read_six w i ∙ sym (heaps_at w heaps_most i l))

  -- there is none past the last
  pub read_none : (i : ℕ) → heaps_most ≤ i → no_heap ≡ heap_at (account_in w) i
  read_none i l = rw (le-ltb i heaps_most l)

  free_read : eqb (get_or w open_at 0) 0 ≡ no_order (order_in w)
  unfolding order_in
  free_read =
      by (eqb (get_or w open_at 0) 0)
      (record {
        ask = record { size = get_or w ask_size_at 0; mask = get_or w ask_mask_at 0 };
        order = record { store = get_or w order_store_at 0; size = get_or w order_size_at 0; memtype = get_or w order_memtype_at 0; map = eqb (get_or w order_map_at 0) 1 };
      })
    where
      by : (b : Bool) (k : KeptOrder) → b ≡ no_order (cond b None (Some k))
      by true k = refl
      by false k = refl

  pub read_share : (s : StoreSettings) (table : Bool) (g : Heap) (n : ℕ) → g ≡ heap_at (account_in w) s.heap → table ≡ heaps_ok heaps → n ≡ get_or w objects_at 0
      → record { bounded = table; idle = eqb (get_or w open_at 0) 0; heap = g; objects = n } ≡ share_of s (account_in w)
  read_share s table g n e f k = rw (e, f, k, free_read)

-- what was read of an account, held by an account that has nothing else
module _ (s : StoreSettings) (w : List ℕ) (share : Share) (e : share ≡ share_of s (account_in w)) where
  pub holds : Alike s (account_in w) (holder s share)
  holds = subst (λ (x : Share). Alike s (account_in w) (holder s x)) (sym e) (holder_alike s (account_in w))

  -- with the order too
  module _ (o : OpenOrder) (f : o ≡ order_in w) where
    pub holds_order : Alike s (account_in w) (holding s share o)
    holds_order = subst (λ (x : Share). Alike s (account_in w) (holding s x o)) (sym e) (held_alike s (account_in w) o (ap no_order (sym f)))

    pub order_held : (account_in w).order ≡ (holding s share o).order
    unfolding holding
    order_held = sym f

-- ---- as the code writes one

module _ (i : ℕ) (share : Share) (w v : List ℕ) where
  -- the heap's part
  abbrev pub own_out : List ℕ
  own_out = cond (ltb i heaps_most) (heap_out share.heap i w) w

  pub put_own : i < heaps_most → v ≡ heap_out share.heap i w → v ≡ own_out
  put_own l e = rw (lt-ltb i heaps_most l) e

  pub put_past : heaps_most ≤ i → v ≡ w → v ≡ own_out
  put_past l e = rw (le-ltb i heaps_most l) e

  -- and the objects
  pub put_share : (u : List ℕ) → v ≡ own_out → u ≡ set v objects_at share.objects → u ≡ share_out i share w
  unfolding share_out
  put_share u e f = f ∙ ap (λ (x : List ℕ). set x objects_at share.objects) e

pub share_length : (i : ℕ) (share : Share) (w : List ℕ) → length (share_out i share w) ≡ length w
unfolding share_out
share_length i share w =
    length-set (cond (ltb i heaps_most) (heap_out share.heap i w) w) objects_at share.objects ∙ by (ltb i heaps_most)
  where
    by : (b : Bool) → length (cond b (heap_out share.heap i w) w) ≡ length w
    by true = heap_length share.heap i w
    by false = refl

-- ---- what is left of the whole account

module _ (w : List ℕ) where
  heaps_kept : heaps_out (heaps_in w heaps_most) heaps_most w ≡ w
  heaps_kept = heaps_stay (heaps_in w heaps_most) heaps_most w (heaps_at w heaps_most)

  -- with its own heaps and objects, only the order is written
  order_alone : (o : OpenOrder) → account_out (with_order (account_in w) o) w ≡ order_out o w
  unfolding account_out
  order_alone o = ap (order_out o) (ap (λ (v : List ℕ). set v objects_at (get_or w objects_at 0)) heaps_kept ∙ set-get_or w objects_at 0)

  -- an account that was read, written again, leaves the words
  pub account_kept : account_ok w ≡ true → account_out (account_in w) w ≡ w
  account_kept ok = let r = right_yes w ok in order_alone (order_in w) ∙ order_stays w r.opened_most r.map_most

  -- what an ask leaves
  pub asked_out_lem : account_ok w ≡ true → (size mask : ℕ) (said : Said) → account_out (ask_left (account_in w) size mask said) w ≡ asked_out size mask said w
  asked_out_lem ok size mask Paper.ready = account_kept ok
  asked_out_lem ok size mask (Paper.block serial chunk offset z) = account_kept ok
  asked_out_lem ok size mask (Paper.order store z memtype map) = order_alone _
  asked_out_lem ok size mask (Paper.released n) = account_kept ok
  asked_out_lem ok size mask Paper.ranked = account_kept ok
  asked_out_lem ok size mask (Paper.refusal n back) = account_kept ok

  -- ---- one heap written anew

  abbrev anew : Bool → ℕ → Heap → List Heap
  anew b i g = cond b (set (heaps_in w heaps_most) i g) (heaps_in w heaps_most)

  one_heap : (i : ℕ) (g : Heap) (b : Bool) → ltb i heaps_most ≡ b → heaps_out (anew b i g) heaps_most w ≡ cond b (heap_out g i w) w
  one_heap i g false e = heaps_kept
  one_heap i g true e =
      let l : i < heaps_most = ltb-true i heaps_most e in
      heaps_one (set (heaps_in w heaps_most) i g) heaps_most w i l
      (λ j m ne. get_or-set_other (heaps_in w heaps_most) i j g no_heap ne ∙ heaps_at w heaps_most j m)
      ∙ ap (λ (x : Heap). heap_out x i w) (get_or-set_same (heaps_in w heaps_most) i g no_heap (omega (arith, heaps_many w heaps_most)))

  -- the account with a share and an order in it
  pub share_out_lem : (s : StoreSettings) (share : Share) (o : OpenOrder) → account_out (with_share s (account_in w) share o) w ≡ order_out o (share_out s.heap share w)
  unfolding account_out share_out
  share_out_lem s share o =
      ap (λ (v : List ℕ). order_out o (set v objects_at share.objects)) (one_heap s.heap share.heap (ltb s.heap heaps_most) refl)

  -- ---- the order stays where a share is written

  module _ (i : ℕ) (share : Share) where
    share_past : (k : ℕ) → objects_at < k → get_or (share_out i share w) k 0 ≡ get_or w k 0
    unfolding share_out
    share_past k l =
        get_or-set_other (cond (ltb i heaps_most) (heap_out share.heap i w) w) objects_at k share.objects 0 (λ e. omega arith)
        ∙ by (ltb i heaps_most) refl
      where
        by : (b : Bool) → ltb i heaps_most ≡ b → get_or (cond b (heap_out share.heap i w) w) k 0 ≡ get_or w k 0
        by false e = refl
        by true e = let below : i < heaps_most = ltb-true i heaps_most e in heap_other share.heap i w k (λ f lf q. omega arith)

    order_past : order_in (share_out i share w) ≡ order_in w
    unfolding order_in
    order_past =
        rw (share_past open_at (omega arith), share_past order_store_at (omega arith), share_past order_size_at (omega arith), share_past order_memtype_at (omega arith), share_past order_map_at (omega arith), share_past ask_size_at (omega arith), share_past ask_mask_at (omega arith))

    pub order_kept_out : account_ok w ≡ true → order_out (order_in w) (share_out i share w) ≡ share_out i share w
    order_kept_out ok =
        let r = right_yes w ok in
        ap (λ (o : OpenOrder). order_out o (share_out i share w)) (sym order_past)
        ∙ order_stays (share_out i share w) (omega (arith, share_past open_at (omega arith), r.opened_most)) (omega (arith, share_past order_map_at (omega arith), r.map_most))

  -- so what a return or a clean-up leaves of the account is the share
  pub released_out : account_ok w ≡ true → (s : StoreSettings) (share : Share) → account_out (with_share s (account_in w) share (order_in w)) w ≡ share_out s.heap share w
  released_out ok s share = share_out_lem s share (order_in w) ∙ order_kept_out s.heap share ok
