-- The words past the heaps: what a test of them says, the order read and written, and read again.
use mathlib.Core.Path.{◌≡◌, refl, sym, ap, ◌∙◌}
use mathlib.Core.Bool.{Bool, true, false, ◌&&◌}
use mathlib.Core.List.{List}
use mathlib.Core.Logic.{⊎_elim}
use Prim.Native.Nat.{ℕ, ◌≤◌, ◌<◌}
use native.Mathlib.Omega.{arith}
use mir.Val.{bool_byte}
use lib.Dec.{eqb, leb}
use lib.ListN.{length, get_or, set, length-set}
use lib.Seq.{get_or-set_other, set-get_or}
use borrow.Author.Tests.{leb-true, eqb-true, le-leb, eq-eqb, ne_eqb}
use Rattle.lists.proofs.Bools.{and_left, and_right, and_both, same?}
use Rattle.counter.specs.Paper.{ask_said, AskAnswer}
use Rattle.counter.specs.declared.account.KeptOrder.{KeptOrder}
use Rattle.counter.specs.Open.{OpenOrder}
use Rattle.std.specs.Prelude.{None, Some, Ok}
use Rattle.counter.specs.declared.account.Order.{Order}
use Rattle.counter.specs.declared.answers.Granted.TheVariants as G
use Rattle.wire_rules.specs.Wire.{narrow_most, narrow_ok, account_words, objects_at, open_at, order_store_at, order_size_at, order_memtype_at, order_map_at, ask_size_at, ask_mask_at, order_in, account_ok, flag, order_words_out, order_out, asked_out}
use Rattle.wire_rules.proofs.Heaps.{over, on}
use Rattle.wire_rules.proofs.Flags.{cast_flag}

-- what the test of an account's words says
pub record Right (w : List ℕ) : Type 0 where
  pub whole : length w ≡ account_words
  pub objects_most_lem : get_or w objects_at 0 ≤ narrow_most
  pub opened_most : get_or w open_at 0 ≤ 1
  pub store_most : get_or w order_store_at 0 ≤ narrow_most
  pub memtype_most : get_or w order_memtype_at 0 ≤ narrow_most
  pub map_most : get_or w order_map_at 0 ≤ 1

-- five tests, put together from the left or from the right
five : (a b c d e : Bool) → ((((a && b) && c) && d) && e) ≡ (a && (b && (c && (d && e))))
five false b c d e = refl
five true false c d e = refl
five true true false d e = refl
five true true true d e = refl

-- the test, as the code makes it where there are as many words as there are to be
pub account_told : (w : List ℕ) (b d e : Bool) (n m : ℕ) → length w ≡ account_words → b ≡ narrow_ok w objects_at → n ≡ get_or w open_at 0 → d ≡ narrow_ok w order_store_at
    → e ≡ narrow_ok w order_memtype_at → m ≡ get_or w order_map_at 0
    → ((((b && leb n 1) && d) && e) && leb m 1) ≡ account_ok w
unfolding account_ok
account_told w b d e n m l hb hn hd he hm =
    rw (eq-eqb (length w) account_words l, hb, hn, hd, he, hm)
    (five (narrow_ok w objects_at) (leb (get_or w open_at 0) 1) (narrow_ok w order_store_at) (narrow_ok w order_memtype_at) (leb (get_or w order_map_at 0) 1))

-- and where there are not
pub account_not : (w : List ℕ) → (length w ≡ account_words → ⊥) → false ≡ account_ok w
unfolding account_ok
account_not w l = rw (ne_eqb (length w) account_words l)

-- words that pass the test are right
pub right_yes : (w : List ℕ) → account_ok w ≡ true → Right w
unfolding account_ok
right_yes w e =
    let e1 = and_right (eqb (length w) account_words) _ e in
    let e2 = and_right (narrow_ok w objects_at) _ e1 in
    let e3 = and_right (leb (get_or w open_at 0) 1) _ e2 in
    let e4 = and_right (narrow_ok w order_store_at) _ e3 in
    record {
      whole = eqb-true _ _ (and_left _ _ e);
      objects_most_lem = leb-true _ _ (and_left _ _ e1);
      opened_most = leb-true _ _ (and_left _ _ e2);
      store_most = leb-true _ _ (and_left _ _ e3);
      memtype_most = leb-true _ _ (and_left _ _ e4);
      map_most = leb-true _ _ (and_right (narrow_ok w order_memtype_at) _ e4);
    }

-- and words that are right pass it
pub right_all : (w : List ℕ) → Right w → account_ok w ≡ true
unfolding account_ok
right_all w r =
    and_both _ _ (eq-eqb _ _ r.whole)
    (and_both _ _ (le-leb _ _ r.objects_most_lem)
    (and_both _ _ (le-leb _ _ r.opened_most)
    (and_both _ _ (le-leb _ _ r.store_most) (and_both _ _ (le-leb _ _ r.memtype_most) (le-leb _ _ r.map_most)))))

-- ---- as the code reads an order

-- where none is open
pub order_none : (w : List ℕ) (n : ℕ) → n ≡ get_or w open_at 0 → n ≡ 0 → None ≡ order_in w
unfolding order_in
order_none w n e z = rw (eq-eqb (get_or w open_at 0) 0 (sym e ∙ z))

-- where one is; t and l are its store and type, by numbers of 32 bits
pub order_kept : (w : List ℕ) (n a b s t z k l m : ℕ) → n ≡ get_or w open_at 0 → (n ≡ 0 → ⊥)
    → a ≡ get_or w ask_size_at 0 → b ≡ get_or w ask_mask_at 0 → s ≡ get_or w order_store_at 0 → t ≡ s → z ≡ get_or w order_size_at 0
    → k ≡ get_or w order_memtype_at 0 → l ≡ k → m ≡ get_or w order_map_at 0
    → Some (record { ask = record { size = a; mask = b }; order = record { store = t; size = z; memtype = l; map = eqb m 1 } }) ≡ order_in w
unfolding order_in
order_kept w n a b s t z k l m e ne ea eb es et ez ek el em =
    rw (ne_eqb (get_or w open_at 0) 0 (λ q. ne (e ∙ q)), ea, eb, et, es, ez, el, ek, em)

-- ---- as the code writes one

-- seven words put in turn are a kept order's
pub put_kept : (k : KeptOrder) (w a b c d e f g : List ℕ)
    → a ≡ set w open_at 1 → b ≡ set a order_store_at k.order.store → c ≡ set b order_size_at k.order.size → d ≡ set c order_memtype_at k.order.memtype
    → e ≡ set d order_map_at (bool_byte k.order.map) → f ≡ set e ask_size_at k.ask.size → g ≡ set f ask_mask_at k.ask.mask
    → g ≡ order_out (Some k) w
unfolding order_out order_words_out
put_kept k w a b c d e f g e0 e1 e2 e3 e4 e5 e6 = rw (e6, e5, e4, e3, e2, e1, e0, cast_flag k.order.map)

-- none, by its first word
pub put_none : (o : OpenOrder) (w v : List ℕ) → o ≡ None → v ≡ set w open_at 0 → v ≡ order_out o w
unfolding order_out
put_none o w v e f = rw e f

-- one, as it is kept
pub put_some : (o : OpenOrder) (k : KeptOrder) (w v : List ℕ) → o ≡ Some k → v ≡ order_out (Some k) w → v ≡ order_out o w
put_some o k w v e f = rw e f

-- one that an ask told, kept with the ask
pub put_told : (answer : AskAnswer) (o : Order) (size mask : ℕ) (w v : List ℕ) → answer ≡ Ok (G.Order o)
    → v ≡ order_out (Some (record { ask = record { size = size; mask = mask }; order = o })) w → v ≡ asked_out size mask (ask_said answer) w
put_told answer o size mask w v e f = rw e f

-- ---- what was written, read again

-- writing an order leaves as many words
pub order_words_length : (o s z k m a b : ℕ) (w : List ℕ) → length (order_words_out o s z k m a b w) ≡ length w
unfolding order_words_out
order_words_length o s z k m a b w = simp length-set

pub order_length : (o : OpenOrder) (w : List ℕ) → length (order_out o w) ≡ length w
unfolding order_out
order_length None w = length-set w open_at 0
order_length (Some k) w = order_words_length _ _ _ _ _ _ _ w

order_words_before : (o s z k m a b : ℕ) (w : List ℕ) (i : ℕ) → i < open_at → get_or (order_words_out o s z k m a b w) i 0 ≡ get_or w i 0
unfolding order_words_out
order_words_before o s z k m a b w i l =
    let n0 : i ≡ open_at → ⊥ = λ e. omega arith in
    let n1 : i ≡ order_store_at → ⊥ = λ e. omega arith in
    let n2 : i ≡ order_size_at → ⊥ = λ e. omega arith in
    let n3 : i ≡ order_memtype_at → ⊥ = λ e. omega arith in
    let n4 : i ≡ order_map_at → ⊥ = λ e. omega arith in
    let n5 : i ≡ ask_size_at → ⊥ = λ e. omega arith in
    let n6 : i ≡ ask_mask_at → ⊥ = λ e. omega arith in
    rw (get_or-set_other, get_or-set_other, get_or-set_other, get_or-set_other, get_or-set_other, get_or-set_other, get_or-set_other)

-- a word before the order's stays
pub order_before : (o : OpenOrder) (w : List ℕ) (i : ℕ) → i < open_at → get_or (order_out o w) i 0 ≡ get_or w i 0
unfolding order_out
order_before None w i l = get_or-set_other w open_at i 0 0 (λ e. omega arith)
order_before (Some k) w i l = order_words_before _ _ _ _ _ _ _ w i l

-- the seven words
record Seven (v : List ℕ) (o s z k m a b : ℕ) : Type 0 where
  pub open_is : get_or v open_at 0 ≡ o
  pub store_is : get_or v order_store_at 0 ≡ s
  pub size_is : get_or v order_size_at 0 ≡ z
  pub memtype_is : get_or v order_memtype_at 0 ≡ k
  pub map_is : get_or v order_map_at 0 ≡ m
  pub asked_is : get_or v ask_size_at 0 ≡ a
  pub mask_is : get_or v ask_mask_at 0 ≡ b

seven : (o s z k m a b : ℕ) (w : List ℕ) → length w ≡ account_words → Seven (order_words_out o s z k m a b w) o s z k m a b
unfolding order_words_out
seven o s z k m a b w l =
    let w0 = set w open_at o in
    let l0 : length w0 ≡ account_words = length-set w open_at o ∙ l in
    let w1 = set w0 order_store_at s in
    let l1 : length w1 ≡ account_words = length-set w0 order_store_at s ∙ l0 in
    let w2 = set w1 order_size_at z in
    let l2 : length w2 ≡ account_words = length-set w1 order_size_at z ∙ l1 in
    let w3 = set w2 order_memtype_at k in
    let l3 : length w3 ≡ account_words = length-set w2 order_memtype_at k ∙ l2 in
    let w4 = set w3 order_map_at m in
    let l4 : length w4 ≡ account_words = length-set w3 order_map_at m ∙ l3 in
    let w5 = set w4 ask_size_at a in
    let l5 : length w5 ≡ account_words = length-set w4 ask_size_at a ∙ l4 in
    record {
      open_is = over w5 ask_mask_at open_at b o (omega arith) (over w4 ask_size_at open_at a o (omega arith) (over w3 order_map_at open_at m o (omega arith) (over w2 order_memtype_at open_at k o (omega arith) (over w1 order_size_at open_at z o (omega arith) (over w0 order_store_at open_at s o (omega arith) (on w open_at o account_words l (omega arith)))))));
      store_is = over w5 ask_mask_at order_store_at b s (omega arith) (over w4 ask_size_at order_store_at a s (omega arith) (over w3 order_map_at order_store_at m s (omega arith) (over w2 order_memtype_at order_store_at k s (omega arith) (over w1 order_size_at order_store_at z s (omega arith) (on w0 order_store_at s account_words l0 (omega arith))))));
      size_is = over w5 ask_mask_at order_size_at b z (omega arith) (over w4 ask_size_at order_size_at a z (omega arith) (over w3 order_map_at order_size_at m z (omega arith) (over w2 order_memtype_at order_size_at k z (omega arith) (on w1 order_size_at z account_words l1 (omega arith)))));
      memtype_is = over w5 ask_mask_at order_memtype_at b k (omega arith) (over w4 ask_size_at order_memtype_at a k (omega arith) (over w3 order_map_at order_memtype_at m k (omega arith) (on w2 order_memtype_at k account_words l2 (omega arith))));
      map_is = over w5 ask_mask_at order_map_at b m (omega arith) (over w4 ask_size_at order_map_at a m (omega arith) (on w3 order_map_at m account_words l3 (omega arith)));
      asked_is = over w5 ask_mask_at ask_size_at b a (omega arith) (on w4 ask_size_at a account_words l4 (omega arith));
      mask_is = on w5 ask_mask_at b account_words l5 (omega arith);
    }

unflag : (b : Bool) → eqb (flag b) 1 ≡ b
unflag true = refl
unflag false = refl

flag_most : (b : Bool) → flag b ≤ 1
flag_most true = omega arith
flag_most false = omega arith

-- the order that was written is read again
pub order_again : (o : OpenOrder) (w : List ℕ) → length w ≡ account_words → order_in (order_out o w) ≡ o
unfolding order_in order_out
order_again None w l = let e : get_or (set w open_at 0) open_at 0 ≡ 0 = on w open_at 0 account_words l (omega arith) in rw e
order_again (Some k) w l =
    let t = seven 1 k.order.store k.order.size k.order.memtype (flag k.order.map) k.ask.size k.ask.mask w l in
    rw (t.open_is, t.store_is, t.size_is, t.memtype_is, t.map_is, t.asked_is, t.mask_is, unflag k.order.map)

-- the tested words of an order
pub record Tested (v : List ℕ) : Type 0 where
  pub opened : get_or v open_at 0 ≤ 1
  pub store : get_or v order_store_at 0 ≤ narrow_most
  pub memtype : get_or v order_memtype_at 0 ≤ narrow_most
  pub map : get_or v order_map_at 0 ≤ 1

-- and passes the test, where its store and type are of 32 bits, and where the words that none leaves passed it
pub order_tested : (o : OpenOrder) (w : List ℕ) → length w ≡ account_words → Tested w
    → ((k : KeptOrder) → o ≡ Some k → (k.order.store ≤ narrow_most) × (k.order.memtype ≤ narrow_most)) → Tested (order_out o w)
unfolding order_out
order_tested None w l t h =
    let past : (k : ℕ) → open_at < k → get_or (set w open_at 0) k 0 ≡ get_or w k 0 = λ k q. get_or-set_other w open_at k 0 0 (λ e. omega arith) in
    record {
      opened = omega (arith, on w open_at 0 account_words l (omega arith));
      store = omega (arith, past order_store_at (omega arith), t.store);
      memtype = omega (arith, past order_memtype_at (omega arith), t.memtype);
      map = omega (arith, past order_map_at (omega arith), t.map);
    }
order_tested (Some k) w l tested h =
    let t = seven 1 k.order.store k.order.size k.order.memtype (flag k.order.map) k.ask.size k.ask.mask w l in
    let n = h k refl in
    record {
      opened = omega (arith, t.open_is);
      store = omega (arith, t.store_is, n.0);
      memtype = omega (arith, t.memtype_is, n.1);
      map = omega (arith, t.map_is, flag_most k.order.map);
    }

-- ---- what was read, written again

flag_back : (m : ℕ) → m ≤ 1 → flag (eqb m 1) ≡ m
flag_back m q =
    ⊎_elim (λ (e : m ≡ 1). rw (e)) (λ (n : m ≡ 1 → ⊥). let z : m ≡ 0 = omega (arith, n) in rw (z)) (same? m 1)

-- leaves the words as they are
pub order_stays : (w : List ℕ) → get_or w open_at 0 ≤ 1 → get_or w order_map_at 0 ≤ 1 → order_out (order_in w) w ≡ w
unfolding order_in order_out order_words_out
order_stays w opened map =
    ⊎_elim
    (λ (e : get_or w open_at 0 ≡ 0).
    rw (eq-eqb (get_or w open_at 0) 0 e) (ap (set w open_at) (sym e) ∙ set-get_or w open_at 0))
    (λ (n : get_or w open_at 0 ≡ 0 → ⊥).
    let e : 1 ≡ get_or w open_at 0 = omega (arith, n) in
    rw (ne_eqb (get_or w open_at 0) 0 n, flag_back (get_or w order_map_at 0) map, e, set-get_or w open_at 0, set-get_or w order_store_at 0, set-get_or w order_size_at 0, set-get_or w order_memtype_at 0, set-get_or w order_map_at 0, set-get_or w ask_size_at 0, set-get_or w ask_mask_at 0))
    (same? (get_or w open_at 0) 0)
