-- What a call leaves of the words that were lent to it, by what the tests of those words said.
use mathlib.Core.Path.{◌≡◌, sym, ap, ◌∙◌}
use mathlib.Core.Bool.{Bool, true, false, ◌&&◌}
use mathlib.Core.List.{List, []}
use Prim.Native.Nat.{ℕ}
use Rattle.lists.proofs.Bools.{and_left, and_right}
use Rattle.counter.specs.Paper.{Said, refusal}
use Rattle.counter.specs.declared.account.Account.{Account}
use Rattle.wire_rules.specs.Linked.{Left, left, untouched, lent_right}
use Rattle.wire_rules.specs.Wire.{settings_ok, account_ok, account_out, outcome_ok, said_out}

-- settings and account, tested by p and by q
pub both_tested : (n : ℕ) (s a : List ℕ) (p q : Bool) → p ≡ settings_ok n s → q ≡ account_ok a → (settings_ok n s && account_ok a) ≡ (p && q)
both_tested n s a p q e f = rw (e, f)

-- and an outcome by r
pub all_tested : (n : ℕ) (s a : List ℕ) (what mapping : ℕ) (p q r : Bool) → p ≡ settings_ok n s → q ≡ account_ok a → r ≡ outcome_ok what mapping
    → ((settings_ok n s && account_ok a) && outcome_ok what mapping) ≡ ((p && q) && r)
all_tested n s a what mapping p q r e f g = rw (e, f, g)

-- where both tests hold, each does
pub both_right : (n : ℕ) (s a : List ℕ) (p q : Bool) → p ≡ settings_ok n s → q ≡ account_ok a → (p && q) ≡ true
    → (settings_ok n s ≡ true) × (account_ok a ≡ true)
both_right n s a p q e f t = (sym e ∙ and_left p q t, sym f ∙ and_right p q t)

-- and where all three do
pub all_right : (n : ℕ) (s a : List ℕ) (p q r : Bool) → p ≡ settings_ok n s → q ≡ account_ok a → ((p && q) && r) ≡ true
    → (settings_ok n s ≡ true) × (account_ok a ≡ true)
all_right n s a p q r e f t = both_right n s a p q e f (and_left (p && q) r t)

-- where the words are right the call is made
pub call_made : {T : Type 0} (ok : Bool) (a : List ℕ) (t : T) (l k : Left T) → ok ≡ true → l ≡ k → lent_right ok a t l ≡ k
call_made ok a t l k e f = rw (e, f)

-- and else it is not
pub call_refused : {T : Type 0} (ok : Bool) (a : List ℕ) (t : T) (l : Left T) → ok ≡ false → lent_right ok a t l ≡ untouched a t
call_refused ok a t l e = rw e

-- the account's words, the tables and the answer's words are those that l says; w are the answer's words before
abbrev pub Ends : {T : Type 0} → List ℕ → T → List ℕ → List ℕ → Left T → Type 0
Ends a t w v l = (a ≡ l.account) × ((t ≡ l.tables) × (v ≡ said_out l.said w))

-- a call that was made leaves its account, its tables and its answer
pub ends_made : {T : Type 0} (a b w v : List ℕ) (t : T) (said : Said) (after : Account) (l : Left T) → l ≡ left a said after t
    → b ≡ account_out after a → v ≡ said_out said w → Ends b t w v l
ends_made {T = T} a b w v t said after l e f g = (
  f ∙ sym (ap (λ (x : Left T). x.account) e),
  (sym (ap (λ (x : Left T). x.tables) e), g ∙ sym (ap (λ (x : Left T). said_out x.said w) e)),
)

-- a call that was not leaves all but the answer
pub ends_refused : {T : Type 0} (a w v : List ℕ) (t : T) (l : Left T) → l ≡ untouched a t → v ≡ said_out (refusal 1 []) w → Ends a t w v l
ends_refused {T = T} a w v t l e g = (
  sym (ap (λ (x : Left T). x.account) e),
  (sym (ap (λ (x : Left T). x.tables) e), g ∙ sym (ap (λ (x : Left T). said_out x.said w) e)),
)
