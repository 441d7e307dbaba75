-- What a passed gate says of the store and the account.
use mathlib.Core.Path.{◌≡◌, sym}
use mathlib.Core.Bool.{Bool, true, ◌&&◌}
use borrow.Author.Tests.{eqb-true, eq-eqb}
use Rattle.lists.proofs.Bools.{and_left, and_right, all_each, each_all}
use Rattle.counter.specs.Gate.{pass}
use Rattle.counter.specs.InTable.{BuddyIn}
use Rattle.counter.specs.Table.{buddy_ok, heaps_ok}
use Rattle.counter.specs.declared.account.Account.{Account}
use Rattle.counter.specs.declared.settings.BuddySettings.{BuddySettings}
use Rattle.counter.proofs.Gates.{passed}
use Rattle.counter.proofs.Tables.{buddy_yes}
use Rattle.store_rules.specs.Tests.{no_order, gate_row}
use Rattle.buddy_rules.specs.Tables.{Tables, Lengths, lengths_row, lengths_ok}
use Rattle.buddy_rules.specs.Test.{sound_ok}
use Rattle.buddy_rules.specs.Sound.{Sound}
use Rattle.buddy_rules.proofs.Decides.{tables_yes}
use Rattle.buddy_outcomes.specs.Gate.{in_table_ok, account_ok, gate_of}

pub lengths_are : (s : BuddySettings) (t : Tables) → lengths_ok s t ≡ true → Lengths s t
unfolding lengths_ok
lengths_are s t e =
    let r = all_each (lengths_row s t) e in
    record {
      head = eqb-true _ _ r.0;
      loans = eqb-true _ _ r.1.0;
      chunks = eqb-true _ _ r.1.1.0;
      index = eqb-true _ _ r.1.1.1.0;
      room = eqb-true _ _ r.1.1.1.1.0;
    }

pub are_lengths : (s : BuddySettings) (t : Tables) → Lengths s t → lengths_ok s t ≡ true
unfolding lengths_ok
are_lengths s t w =
    each_all (lengths_row s t) (eq-eqb _ _ w.head, (eq-eqb _ _ w.loans, (eq-eqb _ _ w.chunks, (eq-eqb _ _ w.index, (eq-eqb _ _ w.room, tt)))))

-- what test 1 says
pub record Lent (s : BuddySettings) (a : Account) (t : Tables) : Type 0 where
  pub settings : BuddyIn s
  pub heaps : heaps_ok a.heaps ≡ true
  pub lengths : Lengths s t

pub lent_in_lem : (s : BuddySettings) (a : Account) (t : Tables) → in_table_ok s a t ≡ true → Lent s a t
unfolding in_table_ok
lent_in_lem s a t e =
    let r = and_right (buddy_ok s) (heaps_ok a.heaps && lengths_ok s t) e in
    record {
      settings = buddy_yes s (and_left (buddy_ok s) _ e);
      heaps = and_left (heaps_ok a.heaps) (lengths_ok s t) r;
      lengths = lengths_are s t (and_right (heaps_ok a.heaps) (lengths_ok s t) r);
    }

pub record Passed (s : BuddySettings) (a : Account) (t : Tables) (list : Bool) : Type 0 where
  pub lent : Lent s a t
  pub listed : list ≡ true
  pub sound : Sound s t
  pub covered : account_ok s a t ≡ true

pub gate_passed : (s : BuddySettings) (a : Account) (t : Tables) (list : Bool) → pass ≡ gate_of s a t list → Passed s a t list
unfolding gate_of
gate_passed s a t list e =
    let held = passed (gate_row (in_table_ok s a t && list) (no_order a.order) (sound_ok s t) (account_ok s a t)) (sym e) in
    let lent = lent_in_lem s a t (and_left (in_table_ok s a t) list held.0) in
    record {
      lent = lent;
      listed = and_right (in_table_ok s a t) list held.0;
      sound = tables_yes s t lent.settings held.1.1.0;
      covered = held.1.1.1.0;
    }
