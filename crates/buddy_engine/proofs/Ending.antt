-- Blocks handed back to a buddy store end as an engine's have to: by the set of them.
use mathlib.Core.Path.{◌≡◌, refl, sym, ap, subst, ◌∙◌}
use mathlib.Core.Bool.{true}
use mathlib.Core.Logic.{◌↔◌}
use mathlib.Core.List.{List, [], ◌∷◌, Memᴰ}
use Prim.Native.Nat.{ℕ, ◌≤◌}
use lib.ListN.{length}
use Rattle.counter.specs.Account.{heap_at}
use Rattle.counter.specs.Gate.{pass}
use Rattle.counter.specs.declared.account.Account.{Account}
use Rattle.counter.specs.declared.answers.Block.{Block}
use Rattle.counter.specs.declared.settings.BuddySettings.{BuddySettings}
use Rattle.store_rules.specs.Views.{View, Matches, OnLoan, loans_less}
use Rattle.store_rules.specs.declared.Loan.{Loan}
use Rattle.store_rules.proofs.Accounts.{covers_yes}
use Rattle.store_rules.proofs.Lessening.{less_one}
use Rattle.engines.specs.Ends.{Ends}
use Rattle.buddy_trees.specs.Chunks.{at_once}
use Rattle.buddy_trees.proofs.Ending.{at_once_none, at_once_next, at_once_same}
use Rattle.buddy_rules.specs.Tables.{Tables, levels_in, chunk_places_in}
use Rattle.buddy_rules.specs.Views.{loans_in, view_of}
use Rattle.buddy_rules.proofs.Named.{has_loan}
use Rattle.buddy_outcomes.specs.Gate.{held_count, held_bytes, account_ok, gate_of}
use Rattle.buddy_outcomes.specs.Return.{word_for, return_of, given_tables}
use Rattle.buddy_outcomes.proofs.Ended.{return_told, return_view}
use Rattle.buddy_outcomes.proofs.Heads.{back_given}
use Rattle.buddy_outcomes.proofs.Passing.{gate_passed}
use Rattle.buddy_engine.specs.Shape.{buddy_shape, counts_of}

module _ (s : BuddySettings) (a : Account) (b : Block) (t : Tables) (list : List ℕ) (passes : gate_of s a t true ≡ pass)
    (lent : OnLoan b (loans_in t)) (long : s.store.chunks ≤ length list) where
  -- the loans left are the others
  loans_left : loans_in (return_of s a b t list).tables ≡ loans_less (b ∷ []) (loans_in t)
  unfolding at_once
  loans_left = ap (λ (v : View). v.loans) (return_view s a b t list passes lent long)

  loans_are : (l : Loan) → Memᴰ l (loans_in (return_of s a b t list).tables) ↔ (Memᴰ l (loans_in t) × (Matches b l → ⊥))
  loans_are l = subst (λ (ls : List Loan). Memᴰ l ls ↔ (Memᴰ l (loans_in t) × (Matches b l → ⊥))) (sym loans_left) (less_one b (loans_in t) l)

-- every order of returns ends alike
pub ends : Ends buddy_shape
unfolding account_ok given_tables
ends =
    record {
      taken = λ s a b t list passes lent long.
          let h = return_told s a b t list passes lent long in
          record {
            said = h.said;
            loans = loans_are s a b t list passes lent long;
            account = h.account;
            goes = h.goes;
          };
      rest_stays = λ s a b t list passes lent long.
          let g = back_given s b (word_for s b t) t in
          ap counts_of (return_told s a b t list passes lent long).tables ∙ (λ j. record { given = g j; levels = levels_in t });
      none = λ s a t passes.
          let p = gate_passed s a t true (sym passes) in
          at_once_none s.minimal (view_of s t) (has_loan s t p.lent.settings p.sound) refl;
      next = λ s a b bs t list passes lot long.
          ap (at_once s.minimal bs) (return_view s a b t list passes (lot.lent b (Memᴰ.head refl)) long)
          ∙ at_once_next s.minimal b bs (view_of s t);
      same = λ s a bs cs t passes lot e. at_once_same s.minimal (view_of s t) e;
      heap_low = λ s a t passes. (gate_passed s a t true (sym passes)).lent.settings.store.heap;
      heap_agrees = λ s a t passes.
          let u : Tables = t in
          (covers_yes (heap_at a s.store.heap) a.objects (held_count u (chunk_places_in u)) (held_bytes u (chunk_places_in u)) (gate_passed s a u true (sym passes)).covered).1;
    }
