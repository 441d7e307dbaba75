-- What a call does to a store's share is what it does to an account that holds it, and two accounts in which a store's share is the
-- same are left alike.
use mathlib.Core.Path.{◌≡◌, refl, sym, ap, subst, ◌∙◌}
use mathlib.Core.Bool.{Bool, true, false, cond, ◌&&◌}
use mathlib.Core.Logic.{◌⊎◌, ⊎_elim}
use mathlib.Core.List.{List, [], ◌∷◌}
use Prim.Native.Nat.{ℕ, ◌-◌, ◌+◌, ◌<◌, ◌≤◌}
use native.Mathlib.Omega.{arith}
use lib.Dec.{ltb}
use lib.ListN.{length, get_or, set, get_or-replicate}
use lib.Seq.{set-get_or, set-set}
use borrow.Author.Tests.{lt-ltb, ltb-true}
use Rattle.lists.proofs.Bools.{told, same_test, and_left, and_right, and_both, same?, lt_or_le}
use Rattle.counter.specs.Account.{no_heap, heap_at, settled_of}
use Rattle.counter.specs.Limits.{heaps_most}
use Rattle.counter.specs.Table.{heap_ok, heaps_upto, heaps_ok}
use Rattle.counter.specs.declared.account.Account.{Account}
use Rattle.counter.specs.declared.account.Heap.{Heap}
use Rattle.counter.specs.Open.{OpenOrder}
use Rattle.std.specs.Prelude.{None}
use Rattle.counter.specs.declared.settings.StoreSettings.{StoreSettings}
use Rattle.heap.specs.Heap.{charged_of, released_of}
use Rattle.store_rules.specs.Outcomes.{with_order, charged_account, back_account, lost_account, released_account}
use Rattle.store_rules.specs.Shares.{share_of, with_share, charged_share, back_share, lost_share, released_share}
use Rattle.store_rules.specs.Alike.{Alike, taken_over}
use Rattle.store_rules.proofs.Holders.{over_heap, others, holding, order_by, holder}
use Rattle.store_rules.specs.Tests.{no_order}
use Rattle.store_rules.specs.declared.Share.{Share}
use Rattle.store_rules.proofs.Accounts.{settled_same, settled_own, settled_other, settled_length, settled_heaps, own_in}

-- ---- a settled account settled again

module _ (a : Account) (i : ℕ) where
  again : (b : Bool) (g h : Heap) → cond b (set (cond b (set a.heaps i g) a.heaps) i h) (cond b (set a.heaps i g) a.heaps) ≡ cond b (set a.heaps i h) a.heaps
  again true g h = set-set a.heaps i g h
  again false g h = refl

  pub settled_again : (g h : Heap) (m n : ℕ) (o p : OpenOrder) → settled_of (settled_of a i g m o) i h n p ≡ settled_of a i h n p
  settled_again g h m n o p = λ j. record { heaps = again (ltb i heaps_most) g h j; objects = n; order = p }

  past : (b : Bool) → b ≡ false → (g h : Heap) → cond b (set a.heaps i g) a.heaps ≡ cond b (set a.heaps i h) a.heaps
  past b e g h = rw e refl

  -- an account has no heap past the last
  pub settled_none : heaps_most ≤ i → (g h : Heap) (n : ℕ) (o : OpenOrder) → settled_of a i g n o ≡ settled_of a i h n o
  settled_none q g h n o =
      let e : ltb i heaps_most ≡ false = ⊎_elim (λ y. absurd (omega (arith, q, ltb-true i heaps_most y))) (λ y. y) (told (ltb i heaps_most)) in
      λ j. record { heaps = past (ltb i heaps_most) e g h j; objects = n; order = o }

-- ---- an account that holds a share

others_table : (b : Bool) → heaps_ok (others b) ≡ b
unfolding heaps_upto
others_table true = refl
others_table false = refl

module _ (s : StoreSettings) (share : Share) where
  abbrev blank : Account
  blank = record { heaps = others share.bounded; objects = 0; order = None }

  sixteen : length (others share.bounded) ≡ heaps_most
  sixteen = by share.bounded
    where
      by : (b : Bool) → length (others b) ≡ heaps_most
      by true = refl
      by false = refl

  -- its heap is the share's
  pub held_heap : (o : OpenOrder) → s.heap < heaps_most → heap_at (holding s share o) s.heap ≡ share.heap
  unfolding holding
  held_heap o below = settled_own blank s.heap share.heap share.objects o below (subst (λ (n : ℕ). s.heap < n) (sym sixteen) below)

  -- settled, it holds what it is settled with
  pub held_settled : (o p : OpenOrder) (free : Bool) (g : Heap) (n : ℕ) → settled_of (holding s share o) s.heap g n p ≡ holding s (record { bounded = share.bounded; idle = free; heap = g; objects = n }) p
  unfolding holding
  held_settled o p free g n = settled_again blank s.heap share.heap g share.objects n o p

  -- by what is done to its heap
  held_changed : (f : Heap → Heap) (o p : OpenOrder) (free : Bool) (n : ℕ)
      → settled_of (holding s share o) s.heap (f (heap_at (holding s share o) s.heap)) n p ≡ holding s (record { bounded = share.bounded; idle = free; heap = f share.heap; objects = n }) p
  held_changed f o p free n =
      ⊎_elim
      (λ below. ap (λ (g : Heap). settled_of (holding s share o) s.heap (f g) n p) (held_heap o below) ∙ held_settled o p free (f share.heap) n)
      (λ past. settled_none (holding s share o) s.heap past (f (heap_at (holding s share o) s.heap)) (f share.heap) n p ∙ held_settled o p free (f share.heap) n)
      (lt_or_le s.heap heaps_most)

  pub held_charged : (o : OpenOrder) (z : ℕ) → charged_account s (holding s share o) z ≡ holding s (charged_share share z) None
  unfolding charged_account holding
  held_charged o z = held_changed (λ (g : Heap). charged_of g z) o None true (share.objects - 1)

  pub held_back : (o : OpenOrder) (z : ℕ) → back_account s (holding s share o) z ≡ holding s (back_share share z) None
  unfolding back_account holding
  held_back o z = held_changed (λ (g : Heap). released_of (charged_of g z) z) o None true share.objects

  pub held_lost : (o : OpenOrder) (z : ℕ) (charged : Bool) (back : List ℕ) → lost_account s (holding s share o) z charged back ≡ holding s (lost_share share z charged back) None
  unfolding lost_account holding
  held_lost o z false back = held_changed (λ (g : Heap). g) o None true share.objects
  held_lost o z true [] = held_changed (λ (g : Heap). charged_of g z) o None true (share.objects - 1)
  held_lost o z true (m ∷ back) = held_changed (λ (g : Heap). released_of (charged_of g z) z) o None true share.objects

  pub held_released : (o : OpenOrder) (n bytes : ℕ) → released_account s (holding s share o) n bytes ≡ holding s (released_share share n bytes) o
  unfolding released_account holding
  held_released o n bytes = held_changed (λ (g : Heap). released_of g bytes) o o share.idle (share.objects + n)

  -- ---- its heaps are in the table

  blank_heap : (j : ℕ) → j < heaps_most → get_or (others share.bounded) j no_heap ≡ cond share.bounded no_heap over_heap
  blank_heap j q = by share.bounded
    where
      by : (b : Bool) → get_or (others b) j no_heap ≡ cond b no_heap over_heap
      by true = get_or-replicate heaps_most j no_heap no_heap q
      by false = get_or-replicate heaps_most j over_heap no_heap q

  pub held_table : (o : OpenOrder) → s.heap < heaps_most → heaps_ok (holding s share o).heaps ≡ (share.bounded && heap_ok share.heap)
  unfolding holding
  held_table o below = same_test (heaps_ok (holding s share o).heaps) (share.bounded && heap_ok share.heap) yes all
    where
      own : heaps_ok (holding s share o).heaps ≡ true → heap_ok share.heap ≡ true
      own e = sym (ap heap_ok (held_heap o below)) ∙ own_in (holding s share o) s.heap below e

      -- of the first two one is another
      one : heaps_ok (holding s share o).heaps ≡ true → (j : ℕ) → j < heaps_most → (j ≡ s.heap → ⊥) → heap_ok (cond share.bounded no_heap over_heap) ≡ true
      one e j q n =
          let k : heap_at blank j ≡ cond share.bounded no_heap over_heap = rw (lt-ltb j heaps_most q) (blank_heap j q) in
          sym (ap heap_ok (settled_other blank s.heap share.heap share.objects o j n ∙ k)) ∙ own_in (holding s share o) j q e

      tabled : (b : Bool) → heap_ok (cond b no_heap over_heap) ≡ true → b ≡ true
      tabled true e = refl
      tabled false e = e

      yes : heaps_ok (holding s share o).heaps ≡ true → (share.bounded && heap_ok share.heap) ≡ true
      yes e =
          and_both share.bounded (heap_ok share.heap)
          (tabled share.bounded
          (⊎_elim (λ z. one e 1 (omega arith) (λ q. absurd (omega (arith, z, q)))) (λ n. one e 0 (omega arith) (λ q. n (sym q))) (same? s.heap 0)))
          (own e)

      all : (share.bounded && heap_ok share.heap) ≡ true → heaps_ok (holding s share o).heaps ≡ true
      all e =
          settled_heaps blank s.heap share.heap share.objects o below (and_right share.bounded _ e)
          (others_table share.bounded ∙ and_left share.bounded _ e)

-- no order is open where the share says so
pub held_free : (b : Bool) → no_order (order_by b) ≡ b
held_free true = refl
held_free false = refl

-- ---- two accounts in which the share is the same

module _ (s : StoreSettings) (a : Account) where
  abbrev own : Share
  own = share_of s a

  -- an account with an order as it has one, or none, that holds the share and nothing else
  pub held_alike : (o : OpenOrder) → no_order a.order ≡ no_order o → Alike s a (holding s own o)
  unfolding holding
  held_alike o free =
      ⊎_elim
      (λ below.
      record {
        table =
            same_test (heaps_ok a.heaps) (heaps_ok (holding s own o).heaps)
            (λ e. held_table s own o below ∙ and_both (heaps_ok a.heaps) (heap_ok (heap_at a s.heap)) e (own_in a s.heap below e))
            (λ e. and_left (heaps_ok a.heaps) (heap_ok (heap_at a s.heap)) (sym (held_table s own o below) ∙ e));
        free = free;
        heap = sym (held_heap s own o below);
        objects = refl;
        sixteen = settled_length (blank s own) s.heap (heap_at a s.heap) a.objects o ∙ sixteen s own;
      })
      (λ past.
      let e : ltb s.heap heaps_most ≡ false = ⊎_elim (λ y. absurd (omega (arith, past, ltb-true s.heap heaps_most y))) (λ y. y) (told (ltb s.heap heaps_most)) in
      record {
        table = rw e (sym (others_table (heaps_ok a.heaps)));
        free = free;
        heap = rw e refl;
        objects = refl;
        sixteen = rw e (sixteen s own);
      })
      (lt_or_le s.heap heaps_most)

  pub holder_alike : Alike s a (holder s own)
  holder_alike = held_alike (order_by (no_order a.order)) (sym (held_free (no_order a.order)))

  -- what is left of a share, in the account itself
  pub over_held : (share : Share) (o p : OpenOrder) → taken_over s a (holding s share o) p ≡ with_share s a share p
  unfolding holding
  over_held share o p =
      ⊎_elim (λ below. ap (λ (g : Heap). settled_of a s.heap g share.objects p) (held_heap s share o below))
      (λ past. settled_none a s.heap past (heap_at (holding s share o) s.heap) share.heap share.objects p)
      (lt_or_le s.heap heaps_most)

  module _ (b : Account) (alike : Alike s a b) where
    -- nothing done to the share
    pub over_same : (o p : OpenOrder) → taken_over s a (with_order b p) o ≡ with_order a o
    over_same o p =
        (λ j. settled_of a s.heap (sym alike.heap j) (sym alike.objects j) o) ∙ settled_same a s.heap o

    over_changed : (f : Heap → Heap) (n : ℕ) (o p : OpenOrder) → taken_over s a (settled_of b s.heap (f (heap_at b s.heap)) n o) p ≡ settled_of a s.heap (f (heap_at a s.heap)) n p
    over_changed f n o p =
        ⊎_elim
        (λ below.
        ap (λ (g : Heap). settled_of a s.heap g n p)
        (settled_own b s.heap (f (heap_at b s.heap)) n o below (subst (λ (m : ℕ). s.heap < m) (sym alike.sixteen) below) ∙ ap f (sym alike.heap)))
        (λ past. settled_none a s.heap past (heap_at (settled_of b s.heap (f (heap_at b s.heap)) n o) s.heap) (f (heap_at a s.heap)) n p)
        (lt_or_le s.heap heaps_most)

    pub over_charged : (z : ℕ) → taken_over s a (charged_account s b z) None ≡ charged_account s a z
    unfolding charged_account
    over_charged z =
        over_changed (λ (g : Heap). charged_of g z) (b.objects - 1) None None
        ∙ ap (λ (n : ℕ). settled_of a s.heap (charged_of (heap_at a s.heap) z) (n - 1) None) (sym alike.objects)

    pub over_back : (z : ℕ) → taken_over s a (back_account s b z) None ≡ back_account s a z
    unfolding back_account
    over_back z =
        over_changed (λ (g : Heap). released_of (charged_of g z) z) b.objects None None
        ∙ ap (λ (n : ℕ). settled_of a s.heap (released_of (charged_of (heap_at a s.heap) z) z) n None) (sym alike.objects)

    pub over_lost : (z : ℕ) (charged : Bool) (back : List ℕ) → taken_over s a (lost_account s b z charged back) None ≡ lost_account s a z charged back
    unfolding lost_account charged_account back_account
    over_lost z false back =
        over_changed (λ (g : Heap). g) b.objects None None
        ∙ ap (λ (n : ℕ). settled_of a s.heap (heap_at a s.heap) n None) (sym alike.objects)
    over_lost z true [] = over_charged z
    over_lost z true (m ∷ back) = over_back z

    pub over_released : (n bytes : ℕ) → taken_over s a (released_account s b n bytes) a.order ≡ released_account s a n bytes
    unfolding released_account
    over_released n bytes =
        over_changed (λ (g : Heap). released_of g bytes) (b.objects + n) b.order a.order
        ∙ ap (λ (m : ℕ). settled_of a s.heap (released_of (heap_at a s.heap) bytes) (m + n) a.order) (sym alike.objects)
