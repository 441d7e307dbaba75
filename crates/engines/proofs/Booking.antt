-- What is booked where a call of an engine leaves the heaps as they were, charges its own, gives back what it charged, or
-- releases.
use mathlib.Core.Path.{◌≡◌, refl, sym, ap, subst, ◌∙◌}
use mathlib.Core.Bool.{true, false, cond}
use mathlib.Core.List.{List, [], ◌∷◌}
use Prim.Native.Nat.{ℕ, ◌+◌, ◌-◌, ◌^◌, ◌≤◌, ◌<◌}
use native.Mathlib.Omega.{arith}
use lib.Dec.{ltb}
use lib.ListN.{length, get_or}
use borrow.Author.Tests.{ne_eqb}
use Rattle.counter.specs.Account.{Typed, value, no_heap, heap_at}
use Rattle.counter.specs.Limits.{heaps_most, heap_bytes_most}
use Rattle.counter.specs.Paper.{Said}
use Rattle.counter.specs.Paper as Paper
use Rattle.counter.specs.declared.account.Account.{Account}
use Rattle.counter.specs.declared.account.Heap.{Heap}
use Rattle.counter.specs.declared.account.KeptOrder.{KeptOrder}
use Rattle.std.specs.Prelude.{None, Some}
use Rattle.counter.specs.declared.account.Total.{Total}
use Rattle.counter.specs.declared.answers.Memory.{Memory}
use Rattle.counter.specs.declared.answers.Outcome.{Outcome}
use Rattle.counter.specs.declared.answers.Outcome.TheVariants as O
use Rattle.counter.specs.declared.settings.StoreSettings.{StoreSettings}
use Rattle.heap.specs.Heap.{charged_of, released_of, bears_ok, Within}
use Rattle.heap.specs.History.{Entry, charge, release, after, AllFitting}
use Rattle.heap.proofs.Bounds.{bears_yes, agrees_yes, charged_is}
use Rattle.store_rules.specs.Outcomes.{Listed, listed, to_free, charged_account, back_account, released_account}
use Rattle.store_rules.specs.Tests.{covers_ok}
use Rattle.store_rules.proofs.Accounts.{covers_yes, settled_own, settled_other, settled_length}
use Rattle.engines.specs.Shapes.{Tables}
use Rattle.engines.specs.Books.{order_size, accepted, delivery_books, delivery_takes, Booked}

-- what is released was used, so its total ends where that of what was allocated does
below : (d b u x top : ℕ) → b ≤ u → d + u ≡ x → x < top → d + b < top
below d b u x top p e q = omega arith

-- a refusal that is neither 11 nor 12 accepts nothing
pub not_accepted : (n : ℕ) → (n ≡ 11 → ⊥) → (n ≡ 12 → ⊥) → accepted (Paper.refusal n []) ≡ false
not_accepted n x y = rw (ne_eqb n 11 x, ne_eqb n 12 y)

-- nothing: the heaps and objects are as they were
pub still : (h : ℕ) (a : Account) (entries : List Entry) (takes : ℕ) (d : Listed Tables) → d.account.heaps ≡ a.heaps → d.account.objects ≡ a.objects → entries ≡ [] → takes ≡ 0 → to_free d.said ≡ 0
    → Booked h a entries takes d
still i a entries takes d h k b x y =
    let same : (j : ℕ) → heap_at d.account j ≡ heap_at a j = λ j. ap (λ (hs : List Heap). cond (ltb j heaps_most) (get_or hs j no_heap) no_heap) h in
    record {
      heaps = ap length h;
      others = λ j ne. same j;
      heap = λ w. same i ∙ ap (after (heap_at a i)) (sym b);
      fitting = λ w. subst (AllFitting (heap_at a i)) (sym b) tt;
      objects = omega (arith, k, x, y);
    }

module _ (s : StoreSettings) (a : Account) where
  abbrev own : Heap
  own = heap_at a s.heap

  -- ---- a delivery

  -- what one books, of what it says
  abbrev pub Delivery : Outcome → Listed Tables → Type 0
  Delivery o d = Booked s.heap a (delivery_books o (order_size a.order) d.said) (delivery_takes o d.said) d

  abbrev delivered : Said → Account → Tables → Listed Tables
  delivered said b u = listed said b u []

  -- one that is refused before its outcome counts
  pub early_booked : (n : ℕ) (u : Tables) → accepted (Paper.refusal n []) ≡ false → (o : Outcome) → Delivery o (delivered (Paper.refusal n []) a u)
  early_booked n u e O.OutOfDevice = still s.heap a _ _ _ refl refl refl refl refl
  early_booked n u e O.OutOfHost = still s.heap a _ _ _ refl refl refl refl refl
  early_booked n u e (O.Made m) = still s.heap a _ _ _ refl refl (rw e) (rw e) refl

-- the open order is k, the account's heap is right and bears it, and an object is left
pub record Bears (s : StoreSettings) (a : Account) (k : KeptOrder) : Type 0 where
  pub is : a.order ≡ Some k
  pub low : s.heap < heaps_most
  pub bears : bears_ok (heap_at a s.heap) k.order.size ≡ true
  pub object : 0 < a.objects
  pub right : value (heap_at a s.heap).deallocated + (heap_at a s.heap).used ≡ value (heap_at a s.heap).allocated

module _ (s : StoreSettings) (a : Account) (k : KeptOrder) (w : Bears s a k) where
  abbrev z : ℕ
  z = k.order.size

  has : Typed a → s.heap < length a.heaps
  has v = omega (arith, v.heaps, w.low)

  size_is : order_size a.order ≡ z
  size_is = ap order_size w.is

  room : ((own s a).used + z ≤ heap_bytes_most) × (value (own s a).allocated + z < 2 ^ 128)
  room = bears_yes (own s a) z w.bears

  back_fits : AllFitting (own s a) (charge z ∷ release z ∷ [])
  back_fits =
      let h = own s a in
      let c = charged_is h z room.0 room.1 in
      let used : z ≤ (charged_of h z).used = omega (arith, c.used) in
      let low : value h.deallocated + z < 2 ^ 128 = below (value h.deallocated) z (h.used + z) (value h.allocated + z) (2 ^ 128) (omega arith) (omega (arith, w.right)) room.1 in
      (room, ((used, subst (λ (x : Total). value x + z < 2 ^ 128) (sym c.deallocated) low), tt))

  -- the memory number is accepted
  pub charged_booked : (m : Memory) (said : Said) (u : Tables) → accepted said ≡ true → to_free said ≡ 0
      → Delivery s a (O.Made m) (listed said (charged_account s a z) u [])
  unfolding charged_account
  charged_booked m said u x y =
      let g = charged_of (own s a) z in
      let b : delivery_books (O.Made m) (order_size a.order) said ≡ charge z ∷ [] = rw (x, y, size_is) in
      record {
        heaps = settled_length a s.heap g (a.objects - 1) None;
        others = settled_other a s.heap g (a.objects - 1) None;
        heap = λ v. settled_own a s.heap g (a.objects - 1) None w.low (has v) ∙ ap (after (own s a)) (sym b);
        fitting = λ v. subst (AllFitting (own s a)) (sym b) (room, tt);
        objects = let e : delivery_takes (O.Made m) said ≡ 1 = rw x in omega (arith, e, y, w.object);
      }

  -- and given back
  pub back_booked : (m : Memory) (said : Said) (u : Tables) → accepted said ≡ true → to_free said ≡ 1
      → Delivery s a (O.Made m) (listed said (back_account s a z) u [])
  unfolding back_account
  back_booked m said u x y =
      let g = released_of (charged_of (own s a) z) z in
      let b : delivery_books (O.Made m) (order_size a.order) said ≡ charge z ∷ release z ∷ [] = rw (x, y, size_is) in
      record {
        heaps = settled_length a s.heap g a.objects None;
        others = settled_other a s.heap g a.objects None;
        heap = λ v. settled_own a s.heap g a.objects None w.low (has v) ∙ ap (after (own s a)) (sym b);
        fitting = λ v. subst (AllFitting (own s a)) (sym b) back_fits;
        objects = let e : delivery_takes (O.Made m) said ≡ 1 = rw x in omega (arith, e, y);
      }

-- ---- a release of n chunks, of bytes among those that the account's test covers

module _ (s : StoreSettings) (a : Account) (low : s.heap < heaps_most) (chunks held : ℕ) (covered : covers_ok (heap_at a s.heap) a.objects chunks held ≡ true) (n bytes : ℕ) (among : bytes ≤ held) where
  release_fits : Within (own s a) → AllFitting (own s a) (release bytes ∷ [])
  release_fits w =
      let c = covers_yes (own s a) a.objects chunks held covered in
      let used : bytes ≤ (own s a).used = omega (arith, c.0) in
      ((used, below (value (own s a).deallocated) bytes (own s a).used (value (own s a).allocated) (2 ^ 128) used (agrees_yes (own s a) c.1) w), tt)

  -- it books that release alone, and gives n objects
  pub release_booked : (entries : List Entry) (takes : ℕ) (u : Tables) (list : List ℕ) → entries ≡ release bytes ∷ [] → takes ≡ 0
      → Booked s.heap a entries takes (listed (Paper.released n) (released_account s a n bytes) u list)
  unfolding released_account
  release_booked entries takes u list b none =
      let g = released_of (own s a) bytes in
      record {
        heaps = settled_length a s.heap g (a.objects + n) a.order;
        others = settled_other a s.heap g (a.objects + n) a.order;
        heap = λ v. settled_own a s.heap g (a.objects + n) a.order low (omega (arith, v.heaps, low)) ∙ ap (after (own s a)) (sym b);
        fitting = λ v. subst (AllFitting (own s a)) (sym b) (release_fits v);
        objects = omega (arith, none);
      }
