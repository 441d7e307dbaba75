-- The tests of the rows that both engines share decide exactly the paper's words.
use mathlib.Core.Path.{◌≡◌, refl, sym, ap, ◌∙◌}
use mathlib.Core.Bool.{Bool, true, false, ◌&&◌, not}
use mathlib.Core.Logic.{◌⊎◌, inl, inr, ⊎_elim, ◌↔◌}
use mathlib.Core.List.Memᴰ
use mathlib.Core.List.{List, [], ◌∷◌, Memᴰ}
use Prim.Native.Nat.{ℕ, ◌+◌}
use lib.Dec.{eqb, leb}
use lib.ListN.{get_or}
use borrow.Author.Tests.{eqb-true, eq-eqb, ne_eqb, leb-true, le-leb}
use Rattle.lists.proofs.Bools.{told, true_false, and_left, and_right, and_both, or_cases, or_left, or_right, not_no}
use Rattle.counter.specs.Account.{no_heap}
use Rattle.counter.specs.Limits.{heaps_most, heap_bytes_most, objects_most}
use Rattle.counter.specs.Table.{alignment_ok, heaps_ok}
use Rattle.counter.specs.declared.account.Account.{Account}
use Rattle.counter.specs.declared.account.Heap.{Heap}
use Rattle.counter.specs.declared.account.KeptOrder.{KeptOrder}
use Rattle.counter.specs.Open.{OpenOrder}
use Rattle.std.specs.Prelude.{None, Some}
use Rattle.counter.specs.declared.account.Order.{Order}
use Rattle.counter.specs.declared.answers.Mapping.{Mapping}
use Rattle.counter.specs.declared.answers.Mapping.TheVariants as M
use Rattle.counter.specs.declared.answers.Memory.{Memory}
use Rattle.counter.specs.declared.answers.Outcome.{Outcome}
use Rattle.counter.specs.declared.answers.Outcome.TheVariants as O
use Rattle.counter.proofs.Tables.{alignment_yes, alignment_all, heaps_each, each_heaps}
use Rattle.heap.specs.Heap.{agrees_ok}
use Rattle.heap.proofs.Bounds.{agrees_yes, agrees_all}
use Rattle.counter.specs.declared.settings.StoreSettings.{StoreSettings}
use Rattle.store_rules.specs.Delivery.{suits, holds, delivery_ok}
use Rattle.store_rules.specs.Orders.{Plan, deny, take, buy, order_from, same_bool, same_order, leads_to}
use Rattle.store_rules.specs.Refusals.{HeapsIn, OrderOpen, NoneFor, Uncovered, MaskOff, Unsuited, Unwelcome}
use Rattle.store_rules.specs.Tests.{no_order, open_for, covers_ok}
use Rattle.store_rules.proofs.Tested.{off_and, off_within}

-- ---- tests that fail

-- a test that holds exactly where some words do fails exactly where they do not
pub fails : (b : Bool) {W : Type 0} → (b ≡ true → W) → (W → b ≡ true) → (b ≡ false) ↔ (W → ⊥)
fails b to from = ((λ e w. true_false b (from w) e), (λ f. ⊎_elim (λ e. absurd (f (to e))) (λ e. e) (told b)))

-- what decides some words decides them beside words that never hold
pub or_never : {A W : Type 0} → A ↔ W → A ↔ (W ⊎ ⊥)
or_never w = ((λ a. inl (w.0 a)), ⊎_elim w.1 (λ n. absurd n))

-- ---- 1

pub heaps_in_lem : (a : Account) → (heaps_ok a.heaps ≡ true) ↔ HeapsIn a
heaps_in_lem a = (there, back)
  where
    there : heaps_ok a.heaps ≡ true → HeapsIn a
    there e i low =
        let h = get_or a.heaps i no_heap in
        let size = leb h.size heap_bytes_most in
        let used = leb h.used heap_bytes_most in
        let each = heaps_each a.heaps heaps_most e i low in
        (leb-true h.size heap_bytes_most (and_left size used each), leb-true h.used heap_bytes_most (and_right size used each))

    back : HeapsIn a → heaps_ok a.heaps ≡ true
    back w =
        each_heaps a.heaps heaps_most
        (λ i low.
        let h = get_or a.heaps i no_heap in
        and_both (leb h.size heap_bytes_most) (leb h.used heap_bytes_most) (le-leb h.size heap_bytes_most (w i low).0) (le-leb h.used heap_bytes_most (w i low).1))

-- ---- 2

pub order_open : (a : Account) → (no_order a.order ≡ false) ↔ OrderOpen a
order_open a = (there a.order, (λ w. ap no_order w.1))
  where
    there : (o : OpenOrder) → no_order o ≡ false → (k : KeptOrder) × (o ≡ Some k)
    there None e = absurd (true_false true refl e)
    there (Some k) e = (k, refl)

pub none_for : (store : ℕ) (a : Account) → (open_for store a.order ≡ false) ↔ NoneFor store a
none_for store a = (there, back a.order)
  where
    there : open_for store a.order ≡ false → NoneFor store a
    there e k q s = true_false (open_for store a.order) (ap (open_for store) q ∙ eq-eqb k.order.store store s) e

    back : (o : OpenOrder) → ((k : KeptOrder) → o ≡ Some k → k.order.store ≡ store → ⊥) → open_for store o ≡ false
    back None f = refl
    back (Some k) f = ne_eqb k.order.store store (f k refl)

-- ---- 4

pub uncovered : (h : Heap) (objects chunks bytes : ℕ) → (covers_ok h objects chunks bytes ≡ false) ↔ Uncovered h objects chunks bytes
unfolding covers_ok
uncovered h objects chunks bytes =
    off_and (leb bytes h.used) (agrees_ok h && leb (objects + chunks) objects_most) (off_within bytes h.used)
    (off_and (agrees_ok h) (leb (objects + chunks) objects_most) (fails (agrees_ok h) (agrees_yes h) (agrees_all h)) (off_within (objects + chunks) objects_most))

-- ---- 5

pub mask_off : (mask : ℕ) → (alignment_ok mask ≡ false) ↔ MaskOff mask
mask_off mask = (there, back)
  where
    there : alignment_ok mask ≡ false → MaskOff mask
    there e k h q = true_false (alignment_ok mask) (alignment_all mask (record { log = k; small = h; is = q })) e

    back : MaskOff mask → alignment_ok mask ≡ false
    back f = ⊎_elim (λ y. let w = alignment_yes mask y in absurd (f w.log w.small w.is)) (λ n. n) (told (alignment_ok mask))

-- ---- 13

pub holds_in : (m : ℕ) (l : List ℕ) → holds m l ≡ true → Memᴰ m l
holds_in m [] e = absurd (true_false false e refl)
holds_in m (x ∷ l) e =
    ⊎_elim
    (λ (p : eqb x m ≡ true). Memᴰ.head (sym (eqb-true x m p)))
    (λ (p : holds m l ≡ true). Memᴰ.tail (holds_in m l p))
    (or_cases (eqb x m) (holds m l) e)

pub in_holds : (m : ℕ) (l : List ℕ) → Memᴰ m l → holds m l ≡ true
in_holds m [] w = absurd (Memᴰ.not-nil w)
in_holds m (x ∷ l) w =
    ⊎_elim
    (λ (p : m ≡ x). or_left (eqb x m) (holds m l) (eq-eqb x m (sym p)))
    (λ (p : Memᴰ m l). or_right (eqb x m) (holds m l) (in_holds m l p))
    (Memᴰ.cases_cons w)

held_off : (m : ℕ) (l : List ℕ) → (not (holds m l) ≡ false) ↔ Memᴰ m l
held_off m l = ((λ e. holds_in m l (not_no (holds m l) e)), (λ w. ap not (in_holds m l w)))

suits_off : (map : Bool) (m : Mapping) → (suits map m ≡ false) ↔ Unsuited map m
suits_off true m = (there m, back)
  where
    there : (m : Mapping) → suits true m ≡ false → Unsuited true m
    there M.NotWanted e = inl (refl, refl)
    there M.Mapped e = absurd (true_false true refl e)
    there M.Failed e = absurd (true_false true refl e)
    there M.OutOfDevice e = absurd (true_false true refl e)
    there M.OutOfHost e = absurd (true_false true refl e)

    back : Unsuited true m → suits true m ≡ false
    back (inl w) = ap (suits true) w.1
    back (inr w) = absurd (true_false true refl w.0)
suits_off false m = (there, back m)
  where
    there : suits false m ≡ false → Unsuited false m
    there e = inr (refl, (λ q. true_false (suits false m) (ap (suits false) q) e))

    back : (m : Mapping) → Unsuited false m → suits false m ≡ false
    back m (inl w) = absurd (true_false false w.0 refl)
    back M.NotWanted (inr w) = absurd (w.1 refl)
    back M.Mapped (inr w) = refl
    back M.Failed (inr w) = refl
    back M.OutOfDevice (inr w) = refl
    back M.OutOfHost (inr w) = refl

pub unwelcome : (map : Bool) (held : List ℕ) (o : Outcome) → (delivery_ok map held o ≡ false) ↔ Unwelcome map held o
unfolding delivery_ok
unwelcome map held o = (there o, back)
  where
    made : (m : Memory) → (delivery_ok map held (O.Made m) ≡ false) ↔ (Memᴰ m.number held ⊎ Unsuited map m.mapping)
    made m = off_and (not (holds m.number held)) (suits map m.mapping) (held_off m.number held) (suits_off map m.mapping)

    there : (o : Outcome) → delivery_ok map held o ≡ false → Unwelcome map held o
    there (O.Made m) e = (m, refl, (made m).0 e)
    there O.OutOfDevice e = absurd (true_false true refl e)
    there O.OutOfHost e = absurd (true_false true refl e)

    back : Unwelcome map held o → delivery_ok map held o ≡ false
    back w = ap (delivery_ok map held) w.1 ∙ (made w.0).1 w.2

-- ---- the order of a delivery

same_bool_is : (a b : Bool) → same_bool a b ≡ true → a ≡ b
same_bool_is true b e = sym e
same_bool_is false true e = e
same_bool_is false false e = refl

bool_same : (a : Bool) → same_bool a a ≡ true
bool_same true = refl
bool_same false = refl

pub same_order_is : (o p : Order) → same_order o p ≡ true → o ≡ p
same_order_is o p e =
    let store = and_left (eqb o.store p.store) _ e in
    let rest = and_right (eqb o.store p.store) _ e in
    let size = and_left (eqb o.size p.size) _ rest in
    let memtypes = and_right (eqb o.size p.size) _ rest in
    let memtype = and_left (eqb o.memtype p.memtype) _ memtypes in
    let map = and_right (eqb o.memtype p.memtype) _ memtypes in
    (λ j. record {
      store = eqb-true o.store p.store store j;
      size = eqb-true o.size p.size size j;
      memtype = eqb-true o.memtype p.memtype memtype j;
      map = same_bool_is o.map p.map map j;
    })

order_same : (o : Order) → same_order o o ≡ true
order_same o =
    and_both (eqb o.store o.store) _ (eq-eqb o.store o.store refl)
    (and_both (eqb o.size o.size) _ (eq-eqb o.size o.size refl)
    (and_both (eqb o.memtype o.memtype) _ (eq-eqb o.memtype o.memtype refl) (bool_same o.map)))

pub is_same_order : (o p : Order) → o ≡ p → same_order o p ≡ true
is_same_order o p e = ap (same_order o) (sym e) ∙ order_same o

-- 3: the kept ask leads to that order
pub leads_buy : (s : StoreSettings) (o : Order) (p : Plan ℕ) → leads_to s o p ≡ true → (z : ℕ) × (p ≡ buy z) × (o ≡ order_from s z)
leads_buy s o (deny n) e = absurd (true_false false e refl)
leads_buy s o (take i) e = absurd (true_false false e refl)
leads_buy s o (buy z) e = (z, refl, same_order_is o (order_from s z) e)
