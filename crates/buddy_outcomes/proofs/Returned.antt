-- A return on a sound store leaves it sound, refused or not; a refused one leaves everything; and when its earlier tests hold
-- it is refused as 7 exactly when no loan matches the block.
use mathlib.Core.Path.{◌≡◌, refl, sym, ap, ◌∙◌}
use mathlib.Core.Bool.{true}
use mathlib.Core.Logic.{⊎_elim}
use mathlib.Core.List.{List, []}
use Prim.Native.Nat.{ℕ}
use Rattle.lists.proofs.Bools.{told}
use Rattle.words.specs.Rows.{row}
use Rattle.counter.specs.Gate.{Verdict, refuse, pass, gated}
use Rattle.counter.specs.Paper as Paper
use Rattle.counter.specs.declared.account.Account.{Account}
use Rattle.counter.specs.declared.answers.Block.{Block}
use Rattle.counter.specs.declared.settings.BuddySettings.{BuddySettings}
use Rattle.store_rules.specs.Loans.{loan_row}
use Rattle.store_rules.specs.Outcomes.{Listed, listed, list_ok}
use Rattle.store_rules.specs.Views.{Matches}
use Rattle.buddy_rules.specs.Tables.{Tables, live_in}
use Rattle.buddy_rules.specs.Sound.{Sound}
use Rattle.buddy_outcomes.specs.Gate.{gate_of}
use Rattle.buddy_outcomes.specs.Return as Return
use Rattle.buddy_outcomes.specs.Return.{word_for, on_loan_ok, climb_for, given_tables, released_by, decide_return, plan_return, carry_return, return_of}
use Rattle.buddy_outcomes.proofs.Passing.{Passed, gate_passed}
use Rattle.buddy_outcomes.proofs.Loaned.{is_on_loan}
use Rattle.buddy_outcomes.proofs.Given.{given_sound}

-- what a return comes to
pub data ReturnComes (s : BuddySettings) (a : Account) (b : Block) (t : Tables) (list : List ℕ) : Listed Tables → Type 0 where
  denied : (n : ℕ) → ReturnComes s a b t list (listed (Paper.refusal n []) a t list)
  takes : Passed s a t (list_ok s.store list) → on_loan_ok s b t ≡ true → ReturnComes s a b t list (released_by s a b (word_for s b t) t list)

module _ (s : BuddySettings) (a : Account) (b : Block) (t : Tables) (list : List ℕ) where
  after_return : (v : Verdict) → gate_of s a t (list_ok s.store list) ≡ v → ReturnComes s a b t list (carry_return s a b t list (gated Return.deny v (decide_return s b t)))
  unfolding carry_return decide_return
  after_return (refuse n) g = denied n
  after_return pass g =
      ⊎_elim (λ e. rw e (takes (gate_passed s a t (list_ok s.store list) (sym g)) e)) (λ e. rw e (denied 7)) (told (on_loan_ok s b t))

  pub return_comes : ReturnComes s a b t list (return_of s a b t list)
  unfolding return_of plan_return
  return_comes = after_return (gate_of s a t (list_ok s.store list)) refl

  -- what is written is the same whether the chunk goes or stays
  pub given_tables_lem : (w : ℕ) → (released_by s a b w t list).tables ≡ given_tables s b w t
  unfolding released_by
  given_tables_lem w = ⊎_elim (λ e. rw e) (λ e. rw e) (told (climb_for s b w t).freed)

  -- whatever its numbers
  pub return_sound : Sound s t → Sound s (return_of s a b t list).tables
  return_sound sound = go (return_of s a b t list) return_comes
    where
      go : (r : Listed Tables) → ReturnComes s a b t list r → Sound s r.tables
      go _ (denied n) = sound
      go _ (takes p on) = rw (given_tables_lem (word_for s b t)) (given_sound s t p.lent.settings p.lent.lengths p.sound b on)

  module _ (gate : gate_of s a t (list_ok s.store list) ≡ pass) where
    went : Passed s a t (list_ok s.store list)
    went = gate_passed s a t (list_ok s.store list) (sym gate)

    answer : return_of s a b t list ≡ carry_return s a b t list (decide_return s b t)
    unfolding return_of plan_return
    answer = ap (λ (v : Verdict). carry_return s a b t list (gated Return.deny v (decide_return s b t))) gate

    pub held_taken : (k : ℕ) → live_in t k ≡ true → Matches b (row loan_row k t.loans) → return_of s a b t list ≡ released_by s a b (word_for s b t) t list
    unfolding carry_return decide_return
    held_taken k live is =
        let p = went in
        let e = is_on_loan s t p.lent.settings p.lent.lengths p.sound b k live is in
        answer ∙ rw e refl
