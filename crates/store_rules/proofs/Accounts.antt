-- The account that a call leaves: which heap is changed, that every heap stays in 01's table, and that test 4 holds again of
-- the chunks that are left.
use mathlib.Core.Path.{◌≡◌, refl, sym, ap, subst, ◌∙◌}
use mathlib.Core.Bool.{Bool, true, false, cond, ◌&&◌}
use mathlib.Core.Logic.{◌⊎◌, inl, inr, ⊎_elim}
use mathlib.Core.List.{List, [], ◌∷◌}
use Prim.Native.Nat.{ℕ, zero, suc, ◌+◌, ◌-◌, ◌≤◌, ◌<◌}
use native.Mathlib.Omega.{arith}
use lib.Dec.{leb, ltb}
use lib.ListN.{length, get_or, set, length-set}
use lib.Seq.{get_or-set_same, get_or-set_other, set-get_or}
use borrow.Author.Tests.{leb-true, le-leb, lt-ltb}
use Rattle.lists.proofs.Bools.{and_left, and_right, and_both, same?, lt_or_le}
use Rattle.counter.specs.Account.{no_heap, heap_at, settled_of}
use Rattle.counter.specs.Limits.{heaps_most, objects_most}
use Rattle.counter.specs.Table.{heap_ok, heaps_ok}
use Rattle.counter.specs.declared.account.Account.{Account}
use Rattle.counter.specs.declared.account.Heap.{Heap}
use Rattle.counter.specs.Open.{OpenOrder}
use Rattle.std.specs.Prelude.{None}
use Rattle.counter.specs.declared.settings.StoreSettings.{StoreSettings}
use Rattle.counter.proofs.Tables.{heaps_each, each_heaps}
use Rattle.heap.specs.Heap.{charged_of, released_of, bears_ok, agrees_ok, Within}
use Rattle.heap.proofs.Stays.{charged_used, charged_in, charged_right, charged_within, released_used, released_in, released_right}
use Rattle.store_rules.specs.Outcomes.{with_order, charged_account, back_account, lost_account, released_account}
use Rattle.store_rules.specs.Tests.{covers_ok}

-- ---- nothing but the order is another

module _ (a : Account) (i : ℕ) where
  same : (b : Bool) → cond b (set a.heaps i (cond b (get_or a.heaps i no_heap) no_heap)) a.heaps ≡ a.heaps
  same true = set-get_or a.heaps i no_heap
  same false = refl

  -- with what it has, only the order is another
  pub settled_same : (o : OpenOrder) → settled_of a i (heap_at a i) a.objects o ≡ with_order a o
  settled_same o = λ j. record { heaps = same (ltb i heaps_most) j; objects = a.objects; order = o }

-- an order lost before memory was made
pub lost_nothing : (s : StoreSettings) (a : Account) (z : ℕ) (back : List ℕ) → lost_account s a z false back ≡ with_order a None
unfolding lost_account
lost_nothing s a z back = settled_same a s.heap None

-- ---- one heap is written anew

module _ (a : Account) (i : ℕ) (h : Heap) (objects : ℕ) (o : OpenOrder) where
  abbrev settled : Account
  settled = settled_of a i h objects o

  other_heap : (b : Bool) (j : ℕ) → (j ≡ i → ⊥) → get_or (cond b (set a.heaps i h) a.heaps) j no_heap ≡ get_or a.heaps j no_heap
  other_heap true j n = get_or-set_other a.heaps i j h no_heap n
  other_heap false j n = refl

  -- the others stay
  pub settled_other : (j : ℕ) → (j ≡ i → ⊥) → heap_at (settled_of a i h objects o) j ≡ heap_at a j
  settled_other j n = ap (λ (g : Heap). cond (ltb j heaps_most) g no_heap) (other_heap (ltb i heaps_most) j n)

  -- it is the new one, in an account that has it
  pub settled_own : i < heaps_most → i < length a.heaps → heap_at (settled_of a i h objects o) i ≡ h
  settled_own below there = rw (lt-ltb i heaps_most below) (get_or-set_same a.heaps i h no_heap there)

  past : (hs : List Heap) (k : ℕ) → length hs ≤ k → set hs k h ≡ hs
  past [] k p = refl
  past (x ∷ hs) zero p = absurd (omega arith)
  past (x ∷ hs) (suc k) p = ap (λ (r : List Heap). x ∷ r) (past hs k (omega arith))

  -- in one that does not have it nothing changes
  pub settled_past : length a.heaps ≤ i → (settled_of a i h objects o).heaps ≡ a.heaps
  settled_past p = go (ltb i heaps_most)
    where
      go : (b : Bool) → cond b (set a.heaps i h) a.heaps ≡ a.heaps
      go true = past a.heaps i p
      go false = refl

  -- so it is the new one or the old one
  pub settled_either : i < heaps_most → (heap_at (settled_of a i h objects o) i ≡ h) ⊎ (heap_at (settled_of a i h objects o) i ≡ heap_at a i)
  settled_either below =
      ⊎_elim (λ there. inl (settled_own below there)) (λ p. inr (ap (λ (hs : List Heap). cond (ltb i heaps_most) (get_or hs i no_heap) no_heap) (settled_past p)))
      (lt_or_le i (length a.heaps))

  -- there are as many
  pub settled_length : length (settled_of a i h objects o).heaps ≡ length a.heaps
  settled_length = go (ltb i heaps_most)
    where
      go : (b : Bool) → length (cond b (set a.heaps i h) a.heaps) ≡ length a.heaps
      go true = length-set a.heaps i h
      go false = refl

  -- and all are in 01's table if the new one is
  pub settled_heaps : i < heaps_most → heap_ok h ≡ true → heaps_ok a.heaps ≡ true → heaps_ok (settled_of a i h objects o).heaps ≡ true
  settled_heaps below k e = each_heaps settled.heaps heaps_most each
    where
      old : (j : ℕ) → j < heaps_most → heap_ok (get_or a.heaps j no_heap) ≡ true
      old = heaps_each a.heaps heaps_most e

      own : heap_ok (get_or settled.heaps i no_heap) ≡ true
      own =
          ⊎_elim (λ there. rw (lt-ltb i heaps_most below, get_or-set_same a.heaps i h no_heap there) k)
          (λ p. rw (settled_past p) (old i below))
          (lt_or_le i (length a.heaps))

      each : (j : ℕ) → j < heaps_most → heap_ok (get_or settled.heaps j no_heap) ≡ true
      each j q =
          ⊎_elim (λ n. subst (λ (m : ℕ). heap_ok (get_or settled.heaps m no_heap) ≡ true) (sym n) own)
          (λ n. ap heap_ok (other_heap (ltb i heaps_most) j n) ∙ old j q)
          (same? j i)

-- the store's own heap is in the table
pub own_in : (a : Account) (i : ℕ) → i < heaps_most → heaps_ok a.heaps ≡ true → heap_ok (heap_at a i) ≡ true
own_in a i below e = rw (lt-ltb i heaps_most below) (heaps_each a.heaps heaps_most e i below)

-- ---- test 4, of one heap

pub covers_yes : (h : Heap) (objects chunks bytes : ℕ) → covers_ok h objects chunks bytes ≡ true → (bytes ≤ h.used) × (agrees_ok h ≡ true) × (objects + chunks ≤ objects_most)
unfolding covers_ok
covers_yes h objects chunks bytes e =
    let rest = and_right (leb bytes h.used) (agrees_ok h && leb (objects + chunks) objects_most) e in (
      leb-true bytes h.used (and_left (leb bytes h.used) (agrees_ok h && leb (objects + chunks) objects_most) e),
      and_left (agrees_ok h) (leb (objects + chunks) objects_most) rest,
      leb-true (objects + chunks) objects_most (and_right (agrees_ok h) (leb (objects + chunks) objects_most) rest),
    )

pub covers_all : (h : Heap) (objects chunks bytes : ℕ) → bytes ≤ h.used → agrees_ok h ≡ true → objects + chunks ≤ objects_most → covers_ok h objects chunks bytes ≡ true
unfolding covers_ok
covers_all h objects chunks bytes b g n =
    and_both (leb bytes h.used) (agrees_ok h && leb (objects + chunks) objects_most) (le-leb bytes h.used b)
    (and_both (agrees_ok h) (leb (objects + chunks) objects_most) g (le-leb (objects + chunks) objects_most n))

module _ (h : Heap) (objects chunks bytes : ℕ) where
  -- n chunks go, and their bytes are released from the heap
  pub released_covers : (n gone : ℕ) → Within h → covers_ok h objects (chunks + n) (bytes + gone) ≡ true → covers_ok (released_of h gone) (objects + n) chunks bytes ≡ true
  released_covers n gone w e =
      let c = covers_yes h objects (chunks + n) (bytes + gone) e in
      let few = c.0 in
      let most = c.2 in
      covers_all (released_of h gone) (objects + n) chunks bytes (omega (arith, released_used h gone, few)) (released_right h gone w (omega (arith, few)) c.1) (omega (arith, most))

  -- or the account does not have that heap, and nothing is released
  pub left_covers : (n gone : ℕ) → covers_ok h objects (chunks + n) (bytes + gone) ≡ true → covers_ok h (objects + n) chunks bytes ≡ true
  left_covers n gone e =
      let c = covers_yes h objects (chunks + n) (bytes + gone) e in
      let few = c.0 in
      let most = c.2 in
      covers_all h (objects + n) chunks bytes (omega (arith, few)) c.1 (omega (arith, most))

  -- an object fewer is allowed
  pub fewer_covers : covers_ok h objects chunks bytes ≡ true → covers_ok h (objects - 1) chunks bytes ≡ true
  fewer_covers e =
      let c = covers_yes h objects chunks bytes e in
      let most = c.2 in
      covers_all h (objects - 1) chunks bytes c.0 c.1 (omega (arith, most))

  module _ (z : ℕ) (bears : bears_ok h z ≡ true) (covered : covers_ok h objects chunks bytes ≡ true) where
    -- a chunk of z bytes comes
    pub charged_covers : 0 < objects → covers_ok (charged_of h z) (objects - 1) (chunks + 1) (bytes + z) ≡ true
    charged_covers some =
        let c = covers_yes h objects chunks bytes covered in
        let few = c.0 in
        let most = c.2 in
        covers_all (charged_of h z) (objects - 1) (chunks + 1) (bytes + z) (omega (arith, charged_used h z bears, few)) (charged_right h z bears c.1) (omega (arith, most))

    -- or is charged for and lost
    pub lost_covers : covers_ok (charged_of h z) (objects - 1) chunks bytes ≡ true
    lost_covers =
        let c = covers_yes h objects chunks bytes covered in
        let few = c.0 in
        let most = c.2 in
        covers_all (charged_of h z) (objects - 1) chunks bytes (omega (arith, charged_used h z bears, few)) (charged_right h z bears c.1) (omega (arith, most))

    -- or is charged for and given back
    pub back_covers : covers_ok (released_of (charged_of h z) z) objects chunks bytes ≡ true
    back_covers =
        let c = covers_yes h objects chunks bytes covered in
        let few = c.0 in
        let u = charged_used h z bears in
        covers_all (released_of (charged_of h z) z) objects chunks bytes (omega (arith, released_used (charged_of h z) z, u, few))
        (released_right (charged_of h z) z (charged_within h z bears) (omega (arith, u)) (charged_right h z bears c.1))
        c.2

-- ---- what a call does to the account of a store that holds n chunks of so many bytes

module _ (s : StoreSettings) (a : Account) (below : s.heap < heaps_most) where
  abbrev heap : Heap
  heap = heap_at a s.heap

  -- the store's heap written anew: it is the new one, or the account does not have it and it is the old one
  settled_covers : (g : Heap) (objects : ℕ) (o : OpenOrder) (n bytes : ℕ) → covers_ok g objects n bytes ≡ true → covers_ok heap objects n bytes ≡ true
      → covers_ok (heap_at (settled_of a s.heap g objects o) s.heap) objects n bytes ≡ true
  settled_covers g objects o n bytes new old =
      ⊎_elim (λ e. ap (λ (x : Heap). covers_ok x objects n bytes) e ∙ new) (λ e. ap (λ (x : Heap). covers_ok x objects n bytes) e ∙ old)
      (settled_either a s.heap g objects o below)

  -- k chunks of y bytes in all are released: every heap stays in 01's table
  pub released_heaps : (k y : ℕ) → heaps_ok a.heaps ≡ true → heaps_ok (released_account s a k y).heaps ≡ true
  unfolding released_account
  released_heaps k y e = settled_heaps a s.heap (released_of heap y) (a.objects + k) a.order below (released_in heap y (own_in a s.heap below e)) e

  -- and the account covers what is left
  pub released_covered : (n bytes k y : ℕ) → Within (heap_at a s.heap) → covers_ok (heap_at a s.heap) a.objects (n + k) (bytes + y) ≡ true
      → covers_ok (heap_at (released_account s a k y) s.heap) (released_account s a k y).objects n bytes ≡ true
  unfolding released_account
  released_covered n bytes k y w e =
      settled_covers (released_of heap y) (a.objects + k) a.order n bytes (released_covers heap a.objects n bytes k y w e) (left_covers heap a.objects n bytes k y e)

  module _ (z : ℕ) (bears : bears_ok (heap_at a s.heap) z ≡ true) where
    -- a chunk of z bytes comes, and is charged for
    pub charged_heaps : heaps_ok a.heaps ≡ true → heaps_ok (charged_account s a z).heaps ≡ true
    unfolding charged_account
    charged_heaps e = settled_heaps a s.heap (charged_of heap z) (a.objects - 1) None below (charged_in heap z bears (own_in a s.heap below e)) e

    -- in an account that has the heap it is covered
    pub charged_covered : s.heap < length a.heaps → 0 < a.objects → (n bytes : ℕ) → covers_ok (heap_at a s.heap) a.objects n bytes ≡ true
        → covers_ok (heap_at (charged_account s a z) s.heap) (charged_account s a z).objects (n + 1) (bytes + z) ≡ true
    unfolding charged_account
    charged_covered there some n bytes e =
        ap (λ (x : Heap). covers_ok x (a.objects - 1) (n + 1) (bytes + z)) (settled_own a s.heap (charged_of heap z) (a.objects - 1) None below there)
        ∙ charged_covers heap a.objects n bytes z bears e some

    -- or it is lost, charged for or not, given back or not
    pub lost_heaps : (charged : Bool) (back : List ℕ) → heaps_ok a.heaps ≡ true → heaps_ok (lost_account s a z charged back).heaps ≡ true
    unfolding lost_account charged_account back_account
    lost_heaps false back e = subst (λ (b : Account). heaps_ok b.heaps ≡ true) (sym (lost_nothing s a z back)) e
    lost_heaps true [] e = charged_heaps e
    lost_heaps true (m ∷ back) e =
        settled_heaps a s.heap (released_of (charged_of heap z) z) a.objects None below (released_in (charged_of heap z) z (charged_in heap z bears (own_in a s.heap below e))) e

    -- and what was covered still is
    pub lost_covered : (charged : Bool) (back : List ℕ) (n bytes : ℕ) → covers_ok (heap_at a s.heap) a.objects n bytes ≡ true
        → covers_ok (heap_at (lost_account s a z charged back) s.heap) (lost_account s a z charged back).objects n bytes ≡ true
    unfolding lost_account charged_account back_account
    lost_covered false back n bytes e = subst (λ (b : Account). covers_ok (heap_at b s.heap) b.objects n bytes ≡ true) (sym (lost_nothing s a z back)) e
    lost_covered true [] n bytes e =
        settled_covers (charged_of heap z) (a.objects - 1) None n bytes (lost_covers heap a.objects n bytes z bears e) (fewer_covers heap a.objects n bytes e)
    lost_covered true (m ∷ back) n bytes e =
        settled_covers (released_of (charged_of heap z) z) a.objects None n bytes (back_covers heap a.objects n bytes z bears e) e
