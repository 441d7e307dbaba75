-- What follows where a return is taken: tests 1 to 4 passed, the block was on loan, and the loans left are the others. And
-- what follows where an ask gives an order: tests 1 to 4 passed.
use mathlib.Core.Path.{◌≡◌, refl, ap}
use mathlib.Core.Bool.{false}
use mathlib.Core.Logic.{inl, inr, ⊎_elim, ◌↔◌}
use mathlib.Core.List.{List, [], Memᴰ}
use Prim.Native.Nat.{ℕ, ◌≤◌}
use native.Mathlib.Omega.{arith}
use lib.ListN.{length}
use Rattle.lists.proofs.Bools.{lt_or_le}
use Rattle.counter.specs.Gate.{pass}
use Rattle.counter.specs.Paper as Paper
use Rattle.counter.specs.Reasons.{Reasons, none, reason, Given, Clear}
use Rattle.counter.specs.declared.account.Account.{Account}
use Rattle.counter.specs.declared.answers.Block.{Block}
use Rattle.store_rules.specs.Views.{Matches, OnLoan}
use Rattle.store_rules.specs.declared.Loan.{Loan}
use Rattle.store_rules.proofs.Loaned.{loan_or_not}
use Rattle.store_rules.proofs.Said.{refuses, not_refused}
use Rattle.engines.specs.Ends.{Taken}
use Rattle.engines.specs.Engines.{Engine}
use Rattle.store_rules.specs.Rows.{return_rows, ask_rows}
use Rattle.engines.specs.Shapes.{Tables, words_of}

-- where no number is given no row's words hold
pub none_given : (rs : Reasons) → ((n : ℕ) → Given rs n → ⊥) → Clear rs
none_given none f = tt
none_given (reason words number rest) f =
    let not : words → ⊥ = λ w. f number (inl (w, refl)) in
    (not, none_given rest (λ n g. f n (inr (not, g))))

module _ (E : Engine) (s : E.shape.Settings) (a : Account) (t : Tables) where
  -- ---- a return that is not refused

  module _ (b : Block) (list : List ℕ) (taken : refuses (E.shape.return s a b t list).said ≡ false) where
    clear : Clear (return_rows (words_of E.shape) s a b t list)
    clear =
        none_given (return_rows (words_of E.shape) s a b t list)
        (λ n g. not_refused (E.shape.return s a b t list).said n [] taken ((E.refuses.return_refused s a b t list n).1 g))

    pub return_passed : E.shape.gate s a t ≡ pass
    return_passed =
        (E.refuses.gate_clear s a t).1
        ((λ x. clear.0 (λ w. x w.0)), (clear.1.0, (clear.1.1.0, (clear.1.1.1.0, tt))))

    pub return_listed : (E.shape.store s).chunks ≤ length list
    return_listed = ⊎_elim (λ x. absurd (clear.0 (λ w. let h = w.1 in omega arith))) (λ x. x) (lt_or_le (length list) (E.shape.store s).chunks)

    pub return_lent : OnLoan b (E.shape.loans t)
    return_lent =
        ⊎_elim (λ w. (w.0, (E.keeps.loans_seen s t w.0).0 w.1, w.2)) (λ n. absurd (clear.1.1.1.1.0 n))
        (loan_or_not b (E.shape.view s t).loans)

    pub return_taken : Taken E.shape s a b t (E.shape.return s a b t list)
    return_taken = E.ends.taken s a b t list return_passed return_lent return_listed

  -- a return that was taken: what it comes to
  pub released_taken : (b : Block) (list : List ℕ) (n : ℕ) → (E.shape.return s a b t list).said ≡ Paper.released n → Taken E.shape s a b t (E.shape.return s a b t list)
  released_taken b list n e = return_taken b list (ap refuses e)

  -- the block was on loan, and the loans left are the others
  pub released_loans : (b : Block) (list : List ℕ) (n : ℕ) → (E.shape.return s a b t list).said ≡ Paper.released n
      → OnLoan b (E.shape.loans t)
      × ((l : Loan) → Memᴰ l (E.shape.loans (E.shape.return s a b t list).tables) ↔ (Memᴰ l (E.shape.loans t) × (Matches b l → ⊥)))
  released_loans b list n e = (return_lent b list (ap refuses e), (released_taken b list n e).loans)

  -- ---- an ask that is not refused

  module _ (size mask : ℕ) (taken : refuses (E.shape.ask s a size mask t).said ≡ false) where
    pub ask_clear : Clear (ask_rows (words_of E.shape) s a size mask t)
    ask_clear =
        none_given (ask_rows (words_of E.shape) s a size mask t)
        (λ n g. not_refused (E.shape.ask s a size mask t).said n [] taken ((E.refuses.ask_refused s a size mask t n).1 g))

    pub ask_passed : E.shape.gate s a t ≡ pass
    ask_passed = let c = ask_clear in (E.refuses.gate_clear s a t).1 (c.0, (c.1.0, (c.1.1.0, (c.1.1.1.0, tt))))
