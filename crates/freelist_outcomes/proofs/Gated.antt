-- The gate of a free-list store decides rows 1 to 4 of 01's table.
use mathlib.Core.Path.{◌≡◌, refl, subst}
use mathlib.Core.Bool.{Bool, true, false, ◌&&◌}
use mathlib.Core.Logic.{◌↔◌}
use mathlib.Core.List.{List}
use Prim.Native.Nat.{ℕ}
use lib.ListN.{length}
use borrow.Author.Tests.{leb-true, le-leb}
use Rattle.lists.proofs.Bools.{and_left, and_right, and_both}
use Rattle.counter.specs.Account.{heap_at}
use Rattle.counter.specs.InTable.{FreeListIn}
use Rattle.counter.specs.Reasons.{none, reason, Decides}
use Rattle.counter.specs.Table.{free_list_ok, heaps_ok}
use Rattle.counter.specs.declared.account.Account.{Account}
use Rattle.counter.specs.declared.settings.FreeListSettings.{FreeListSettings}
use Rattle.counter.proofs.Tables.{free_list_yes, free_list_all}
use Rattle.store_rules.specs.Outcomes.{list_ok}
use Rattle.store_rules.specs.Refusals.{OrderOpen}
use Rattle.store_rules.specs.Tests.{no_order, covers_ok, gate_row}
use Rattle.store_rules.proofs.Refused.{fails, heaps_in_lem, order_open, uncovered}
use Rattle.freelist_rules.specs.Pieces.{total}
use Rattle.freelist_rules.specs.Tables.{Tables, lengths_ok, store_of, sound_ok, SoundTables}
use Rattle.store_rules.specs.declared.Chunk.{Chunk}
use Rattle.freelist_rules.proofs.Fits.{lengths_are, are_lengths, chunks_length}
use Rattle.freelist_rules.proofs.Tested.{tables_yes, tables_all}
use Rattle.freelist_outcomes.specs.Gate.{in_table_ok, account_ok}
use Rattle.freelist_outcomes.specs.Refusals.{list_words}
use Rattle.store_rules.specs.Rows.{InTable, Short, WithList, gate_rows, list_rows}

-- ---- 1

pub in_table : (s : FreeListSettings) (a : Account) (t : Tables) → (in_table_ok s a t ≡ true) ↔ InTable list_words s a t
unfolding in_table_ok
in_table s a t = (there, back)
  where
    there : in_table_ok s a t ≡ true → InTable list_words s a t
    there e =
        let rest = and_right (free_list_ok s) (heaps_ok a.heaps && lengths_ok s t) e in (
          (free_list_yes s (and_left (free_list_ok s) (heaps_ok a.heaps && lengths_ok s t) e), lengths_are s t (and_right (heaps_ok a.heaps) (lengths_ok s t) rest)),
          (heaps_in_lem a).0 (and_left (heaps_ok a.heaps) (lengths_ok s t) rest),
        )

    back : InTable list_words s a t → in_table_ok s a t ≡ true
    back w =
        and_both (free_list_ok s) (heaps_ok a.heaps && lengths_ok s t) (free_list_all s w.0.0)
        (and_both (heaps_ok a.heaps) (lengths_ok s t) ((heaps_in_lem a).1 w.1) (are_lengths s t w.0.1))

module _ (s : FreeListSettings) (a : Account) (t : Tables) where
  with_list : (list : List ℕ) → ((in_table_ok s a t && list_ok s.store list) ≡ true) ↔ WithList list_words s a t list
  with_list list = (
    (λ e. (
      (in_table s a t).0 (and_left (in_table_ok s a t) (list_ok s.store list) e),
      leb-true s.store.chunks (length list) (and_right (in_table_ok s a t) (list_ok s.store list) e),
    )),
    (λ w. and_both (in_table_ok s a t) (list_ok s.store list) ((in_table s a t).1 w.0) (le-leb s.store.chunks (length list) w.1)),
  )

  -- ---- 4

  pub short : (account_ok s a t ≡ false) ↔ Short list_words s a t
  unfolding account_ok
  short =
      let h = heap_at a s.store.heap in
      let bytes = total (λ (c : Chunk). c.size) (store_of s t).chunks in
      subst (λ (n : ℕ). (covers_ok h a.objects n bytes ≡ false) ↔ Short list_words s a t) (chunks_length s t) (uncovered h a.objects (length (store_of s t).chunks) bytes)

  -- ---- 1 to 4

  decided : (lent : Bool) {W : Type 0} → (lent ≡ true) ↔ W → (W → FreeListIn s)
      → Decides (gate_row lent (no_order a.order) (sound_ok s t) (account_ok s a t)) (reason (W → ⊥) 1 (reason (OrderOpen a) 2 (reason (SoundTables s t → ⊥) 3 (reason (Short list_words s a t) 4 none))))
  decided lent w fit = (
    refl,
    fails lent w.0 w.1,
    (λ e. (
      refl,
      order_open a,
      (λ _. (
        refl,
        fails (sound_ok s t) (tables_yes s t (fit (w.0 e))) (tables_all s t (fit (w.0 e))),
        (λ _. (refl, short, (λ _. tt))),
      )),
    )),
  )

pub gate_decided : (s : FreeListSettings) (a : Account) (t : Tables) → Decides (gate_row (in_table_ok s a t && true) (no_order a.order) (sound_ok s t) (account_ok s a t)) (gate_rows list_words s a t)
gate_decided s a t = decided s a t (in_table_ok s a t && true) w (λ (i : InTable list_words s a t). i.0.0)
  where
    w : ((in_table_ok s a t && true) ≡ true) ↔ InTable list_words s a t
    w = ((λ e. (in_table s a t).0 (and_left (in_table_ok s a t) true e)), (λ i. and_both (in_table_ok s a t) true ((in_table s a t).1 i) refl))

pub list_decided : (s : FreeListSettings) (a : Account) (t : Tables) (list : List ℕ) → Decides (gate_row (in_table_ok s a t && list_ok s.store list) (no_order a.order) (sound_ok s t) (account_ok s a t)) (list_rows list_words s a t list)
list_decided s a t list =
    decided s a t (in_table_ok s a t && list_ok s.store list) (with_list s a t list) (λ (i : WithList list_words s a t list). i.0.0.0)
