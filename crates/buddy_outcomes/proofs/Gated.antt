-- The gate of a buddy store decides rows 1 to 4 of 01's table.
use mathlib.Core.Path.{◌≡◌, refl, subst, sym}
use mathlib.Core.Bool.{Bool, true, false, ◌&&◌}
use mathlib.Core.Logic.{◌↔◌}
use mathlib.Core.List.{List}
use Prim.Native.Nat.{ℕ}
use lib.ListN.{length}
use borrow.Author.Tests.{leb-true, le-leb}
use Rattle.lists.proofs.Bools.{and_left, and_right, and_both}
use Rattle.counter.specs.Account.{heap_at}
use Rattle.counter.specs.InTable.{BuddyIn}
use Rattle.counter.specs.Reasons.{none, reason, Decides}
use Rattle.counter.specs.Table.{buddy_ok, heaps_ok}
use Rattle.counter.specs.declared.account.Account.{Account}
use Rattle.counter.specs.declared.settings.BuddySettings.{BuddySettings}
use Rattle.counter.proofs.Tables.{buddy_all}
use Rattle.store_rules.specs.Outcomes.{list_ok}
use Rattle.store_rules.specs.Refusals.{OrderOpen, Uncovered}
use Rattle.store_rules.specs.Tests.{no_order, gate_row}
use Rattle.store_rules.proofs.Refused.{fails, heaps_in_lem, order_open, uncovered}
use Rattle.buddy_rules.specs.Sound.{Sound}
use Rattle.buddy_rules.specs.Tables.{Tables, lengths_ok, chunk_places_in}
use Rattle.buddy_rules.specs.Test.{sound_ok}
use Rattle.buddy_rules.proofs.Decides.{tables_yes, tables_all}
use Rattle.buddy_outcomes.specs.Gate.{in_table_ok, held_count, held_bytes, account_ok}
use Rattle.buddy_outcomes.specs.Refusals.{buddy_words}
use Rattle.store_rules.specs.Rows.{InTable, Short, WithList, gate_rows, list_rows}
use Rattle.buddy_outcomes.proofs.Passing.{lent_in_lem, are_lengths}
use Rattle.buddy_outcomes.proofs.Counting.{count_is, bytes_is}
use Rattle.buddy_rules.specs.Views.{chunks_in}
use Rattle.store_rules.specs.Views.{sizes}

-- ---- 1

pub in_table : (s : BuddySettings) (a : Account) (t : Tables) → (in_table_ok s a t ≡ true) ↔ InTable buddy_words s a t
unfolding in_table_ok
in_table s a t = (there, back)
  where
    there : in_table_ok s a t ≡ true → InTable buddy_words s a t
    there e =
        let l = lent_in_lem s a t e in
        ((l.settings, l.lengths), (heaps_in_lem a).0 l.heaps)

    back : InTable buddy_words s a t → in_table_ok s a t ≡ true
    back w =
        and_both (buddy_ok s) (heaps_ok a.heaps && lengths_ok s t) (buddy_all s w.0.0)
        (and_both (heaps_ok a.heaps) (lengths_ok s t) ((heaps_in_lem a).1 w.1) (are_lengths s t w.0.1))

module _ (s : BuddySettings) (a : Account) (t : Tables) where
  with_list : (list : List ℕ) → ((in_table_ok s a t && list_ok s.store list) ≡ true) ↔ WithList buddy_words s a t list
  with_list list = (
    (λ e. (
      (in_table s a t).0 (and_left (in_table_ok s a t) (list_ok s.store list) e),
      leb-true s.store.chunks (length list) (and_right (in_table_ok s a t) (list_ok s.store list) e),
    )),
    (λ w. and_both (in_table_ok s a t) (list_ok s.store list) ((in_table s a t).1 w.0) (le-leb s.store.chunks (length list) w.1)),
  )

  -- ---- 4

  pub short : (account_ok s a t ≡ false) ↔ Short buddy_words s a t
  unfolding account_ok
  short =
      let h = heap_at a s.store.heap in
      subst (λ (n : ℕ). (account_ok s a t ≡ false) ↔ Uncovered h a.objects n (sizes (chunks_in t))) (sym (count_is t))
      (subst (λ (z : ℕ). (account_ok s a t ≡ false) ↔ Uncovered h a.objects (held_count t (chunk_places_in t)) z) (sym (bytes_is t))
      (uncovered h a.objects (held_count t (chunk_places_in t)) (held_bytes t (chunk_places_in t))))

  -- ---- 1 to 4

  decided : (lent : Bool) {W : Type 0} → (lent ≡ true) ↔ W → (W → BuddyIn s)
      → Decides (gate_row lent (no_order a.order) (sound_ok s t) (account_ok s a t)) (reason (W → ⊥) 1 (reason (OrderOpen a) 2 (reason (Sound s t → ⊥) 3 (reason (Short buddy_words s a t) 4 none))))
  decided lent w fit = (
    refl,
    fails lent w.0 w.1,
    (λ e. (
      refl,
      order_open a,
      (λ _. (
        refl,
        fails (sound_ok s t) (tables_yes s t (fit (w.0 e))) (tables_all s t (fit (w.0 e))),
        (λ _. (refl, short, (λ _. tt))),
      )),
    )),
  )

  pub list_decided : (list : List ℕ) → Decides (gate_row (in_table_ok s a t && list_ok s.store list) (no_order a.order) (sound_ok s t) (account_ok s a t)) (list_rows buddy_words s a t list)
  list_decided list = decided (in_table_ok s a t && list_ok s.store list) (with_list list) (λ (i : WithList buddy_words s a t list). i.0.0.0)

  pub gate_decided : Decides (gate_row (in_table_ok s a t && true) (no_order a.order) (sound_ok s t) (account_ok s a t)) (gate_rows buddy_words s a t)
  gate_decided =
      decided (in_table_ok s a t && true)
      ((λ e. (in_table s a t).0 (and_left (in_table_ok s a t) true e)), (λ w. and_both (in_table_ok s a t) true ((in_table s a t).1 w) refl))
      (λ (i : InTable buddy_words s a t). i.0.0)
