-- What a passed gate says of the store and the account.
use mathlib.Core.Path.{◌≡◌, sym}
use mathlib.Core.Bool.{Bool, true, ◌&&◌}
use native.Mathlib.Omega.{arith}
use Prim.Native.Nat.{◌≤◌}
use Rattle.lists.proofs.Bools.{and_left, and_right}
use Rattle.counter.specs.Gate.{pass}
use Rattle.counter.specs.InTable.{FreeListIn}
use Rattle.counter.specs.Limits.{loans_most}
use Rattle.counter.specs.Table.{free_list_ok, heaps_ok}
use Rattle.counter.specs.declared.account.Account.{Account}
use Rattle.counter.specs.declared.settings.FreeListSettings.{FreeListSettings}
use Rattle.counter.proofs.Gates.{passed}
use Rattle.counter.proofs.Tables.{free_list_yes}
use Rattle.store_rules.specs.Tests.{no_order, gate_row}
use Rattle.freelist_rules.specs.Tables.{Tables, places_in, lengths_ok, sound_ok, SoundTables}
use Rattle.freelist_rules.proofs.Tested.{tables_yes}
use Rattle.freelist_outcomes.specs.Gate.{in_table_ok, account_ok, gate_of}

-- what test 1 says
pub lent_in_lem : (s : FreeListSettings) (a : Account) (t : Tables) → in_table_ok s a t ≡ true → FreeListIn s × (lengths_ok s t ≡ true)
unfolding in_table_ok
lent_in_lem s a t e = (free_list_yes s (and_left (free_list_ok s) _ e), and_right (heaps_ok a.heaps) _ (and_right (free_list_ok s) _ e))

pub lent_heaps : (s : FreeListSettings) (a : Account) (t : Tables) → in_table_ok s a t ≡ true → heaps_ok a.heaps ≡ true
unfolding in_table_ok
lent_heaps s a t e = and_left (heaps_ok a.heaps) _ (and_right (free_list_ok s) _ e)

pub record Passed (s : FreeListSettings) (a : Account) (t : Tables) (list : Bool) : Type 0 where
  pub settings : FreeListIn s
  pub heaps : heaps_ok a.heaps ≡ true
  pub lengths : lengths_ok s t ≡ true
  pub listed : list ≡ true
  pub sound : SoundTables s t
  pub covered : account_ok s a t ≡ true

pub gate_passed : (s : FreeListSettings) (a : Account) (t : Tables) (list : Bool) → pass ≡ gate_of s a t list → Passed s a t list
unfolding gate_of
gate_passed s a t list e =
    let held = passed (gate_row (in_table_ok s a t && list) (no_order a.order) (sound_ok s t) (account_ok s a t)) (sym e) in
    let lent = lent_in_lem s a t (and_left (in_table_ok s a t) list held.0) in
    record {
      settings = lent.0;
      heaps = lent_heaps s a t (and_left (in_table_ok s a t) list held.0);
      lengths = lent.1;
      listed = and_right (in_table_ok s a t) list held.0;
      sound = tables_yes s t lent.0 held.1.1.0;
      covered = held.1.1.1.0;
    }

pub few_places : (s : FreeListSettings) (a : Account) (t : Tables) (list : Bool) → Passed s a t list → places_in t ≤ loans_most
few_places s a t list p = omega (arith, p.sound.parted.limit, p.settings.store.loans_most_lem)
