-- What a call writes of the account is read again as the account that it left.
use mathlib.Core.Path.{◌≡◌, ◌∙◌}
use mathlib.Core.Bool.{true}
use mathlib.Core.List.{List}
use Prim.Native.Nat.{ℕ, ◌≤◌, ◌<◌}
use native.Mathlib.Omega.{arith}
use lib.ListN.{length, get_or, set, length-set}
use lib.Seq.{take_all, get_or-set_same, get_or-set_other}
use Rattle.counter.specs.Account.{no_heap}
use Rattle.counter.specs.Limits.{heaps_most}
use Rattle.counter.specs.declared.account.Account.{Account}
use Rattle.counter.specs.declared.account.KeptOrder.{KeptOrder}
use Rattle.std.specs.Prelude.{Some}
use Rattle.wire_rules.specs.Wire.{narrow_most, account_words, objects_at, open_at, order_store_at, order_memtype_at, order_map_at, heap_at, heap_in, heaps_in, order_in, account_in, account_ok, heaps_out, account_out}
use Rattle.wire_rules.proofs.Heaps.{heaps_length, heap_same, heaps_each, heaps_front, heaps_past}
use Rattle.wire_rules.proofs.Orders.{Right, right_yes, right_all, order_length, order_before, order_again, Tested, order_tested}

-- as many words as before
pub words_stay : (a : Account) (w : List ℕ) → length (account_out a w) ≡ length w
unfolding account_out
words_stay a w = order_length a.order _ ∙ length-set (heaps_out a.heaps heaps_most w) objects_at a.objects ∙ heaps_length a.heaps heaps_most w

module _ (a : Account) (w : List ℕ) (right : Right w) where
  whole : length w ≡ account_words
  whole = right.whole

  -- the words before the order is written
  abbrev unordered : List ℕ
  unordered = set (heaps_out a.heaps heaps_most w) objects_at a.objects

  unordered_whole : length unordered ≡ account_words
  unordered_whole = length-set (heaps_out a.heaps heaps_most w) objects_at a.objects ∙ heaps_length a.heaps heaps_most w ∙ whole

  -- a word past the objects stays
  unordered_past : (k : ℕ) → objects_at < k → get_or unordered k 0 ≡ get_or w k 0
  unordered_past k l =
      get_or-set_other (heaps_out a.heaps heaps_most w) objects_at k a.objects 0 (λ e. omega arith)
      ∙ heaps_past a.heaps heaps_most w k (omega arith)

  unordered_tested : Tested unordered
  unordered_tested =
      record {
        opened = omega (arith, unordered_past open_at (omega arith), right.opened_most);
        store = omega (arith, unordered_past order_store_at (omega arith), right.store_most);
        memtype = omega (arith, unordered_past order_memtype_at (omega arith), right.memtype_most);
        map = omega (arith, unordered_past order_map_at (omega arith), right.map_most);
      }

  objects_again : get_or (account_out a w) objects_at 0 ≡ a.objects
  unfolding account_out
  objects_again =
      order_before a.order unordered objects_at (omega arith)
      ∙ get_or-set_same (heaps_out a.heaps heaps_most w) objects_at a.objects 0 (omega (arith, heaps_length a.heaps heaps_most w))

  -- a heap's word, as the heaps were written
  heap_word : (k : ℕ) → k < objects_at → get_or (account_out a w) k 0 ≡ get_or (heaps_out a.heaps heaps_most w) k 0
  unfolding account_out
  heap_word k l =
      order_before a.order unordered k (omega arith)
      ∙ get_or-set_other (heaps_out a.heaps heaps_most w) objects_at k a.objects 0 (λ e. omega arith)

  heap_back : (i : ℕ) → i < heaps_most → heap_in (account_out a w) i ≡ get_or a.heaps i no_heap
  heap_back i l =
      heap_same (account_out a w) (heaps_out a.heaps heaps_most w) i (λ f lf. heap_word (heap_at f i) (omega arith))
      ∙ heaps_each a.heaps heaps_most w i (omega arith) l

  heaps_back : length a.heaps ≡ heaps_most → heaps_in (account_out a w) heaps_most ≡ a.heaps
  heaps_back l = heaps_front (account_out a w) a.heaps heaps_most (omega arith) heap_back ∙ take_all heaps_most a.heaps (omega arith)

  order_back : order_in (account_out a w) ≡ a.order
  unfolding account_out
  order_back = order_again a.order unordered unordered_whole

  order_right : ((k : KeptOrder) → a.order ≡ Some k → (k.order.store ≤ narrow_most) × (k.order.memtype ≤ narrow_most)) → Tested (account_out a w)
  unfolding account_out
  order_right n = order_tested a.order unordered unordered_whole unordered_tested n

-- what a call writes is the words of an account, and read again it is the account that the call left
pub account_again : (a : Account) (w : List ℕ) → account_ok w ≡ true → length a.heaps ≡ heaps_most → a.objects ≤ narrow_most
    → ((k : KeptOrder) → a.order ≡ Some k → (k.order.store ≤ narrow_most) × (k.order.memtype ≤ narrow_most))
    → (account_ok (account_out a w) ≡ true) × (account_in (account_out a w) ≡ a)
account_again a w ok heaps objects narrow =
    let r = right_yes w ok in
    let t = order_right a w r narrow in (
      right_all (account_out a w) (record {
        whole = words_stay a w ∙ r.whole;
        objects_most_lem = omega (arith, objects_again a w r);
        opened_most = t.opened;
        store_most = t.store;
        memtype_most = t.memtype;
        map_most = t.map;
      }),
      rw (heaps_back a w r heaps, objects_again a w r, order_back a w r),
    )
