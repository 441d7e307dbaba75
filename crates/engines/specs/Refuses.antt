-- Demand 1 of an engine: each number is given exactly when, and a refusal leaves all as it was but for what 01 lists.
use Rattle.std.specs.Prelude.{◌≡◌, ◌⊎◌, ◌↔◌, List, [], ℕ, ◌≤◌, ◌<◌}
use Rattle.counter.specs.Paper as Paper
use Rattle.counter.specs.Gate.{pass}
use Rattle.counter.specs.Reasons.{Given, Clear}
use Rattle.counter.specs.declared.account.Account.{Account}
use Rattle.counter.specs.declared.account.KeptOrder.{KeptOrder}
use Rattle.std.specs.Prelude.{Some}
use Rattle.counter.specs.declared.answers.Block.{Block}
use Rattle.counter.specs.declared.answers.Outcome.{Outcome}
use Rattle.store_rules.specs.Outcomes.{out, listed}
use Rattle.store_rules.specs.Refusals.{lost_for}
use Rattle.store_rules.specs.Rows.{gate_rows, kept_rows, set_up_rows, ask_rows, deliver_rows, return_rows}
use Rattle.engines.specs.Shapes.{Tables, Call, sets_up, Shape, does, Marked, lent_list, words_of}

pub record Refuses (E : Shape) : Type 0 where
  -- a call is refused with n exactly when n is the number of the first of its rows whose words hold
  pub set_up_refused : (s : E.Settings) (t : Tables) (n : ℕ) → ((E.set_up s t).said ≡ Paper.refusal n []) ↔ Given (set_up_rows (words_of E) s t) n
  pub ask_refused : (s : E.Settings) (a : Account) (size mask : ℕ) (t : Tables) (n : ℕ)
      → ((E.ask s a size mask t).said ≡ Paper.refusal n []) ↔ Given (ask_rows (words_of E) s a size mask t) n
  pub deliver_refused : (s : E.Settings) (a : Account) (o : Outcome) (t : Tables) (n : ℕ)
      → ((back : List ℕ) × ((E.deliver s a o t).said ≡ Paper.refusal n back)) ↔ Given (deliver_rows (words_of E) s a o t) n
  pub return_refused : (s : E.Settings) (a : Account) (b : Block) (t : Tables) (list : List ℕ) (n : ℕ)
      → ((E.return s a b t list).said ≡ Paper.refusal n []) ↔ Given (return_rows (words_of E) s a b t list) n
  pub other_refused : (s : E.Settings) (a : Account) (c : E.Own) (t : Tables) (list : List ℕ) (n : ℕ)
      → ((E.other s a c t list).said ≡ Paper.refusal n []) ↔ Given (E.own_rows s a c t list) n
  -- the tests 1 to 4 of an ask and of a delivery pass exactly when none of those rows' words hold
  pub gate_clear : (s : E.Settings) (a : Account) (t : Tables) → (E.gate s a t ≡ pass) ↔ Clear (gate_rows (words_of E) s a t)
  pub deliver_clear : (s : E.Settings) (a : Account) (t : Tables) → (E.deliver_gate s a t ≡ pass) ↔ Clear (kept_rows (words_of E) s a t)
  -- and leaves the account and every word of every table and list; 9, 11 and 12 apart
  pub set_up_leaves : (s : E.Settings) (t : Tables) (n : ℕ) (back : List ℕ) → (E.set_up s t).said ≡ Paper.refusal n back
      → E.set_up s t ≡ record { said = Paper.refusal n []; tables = t }
  pub ask_leaves : (s : E.Settings) (a : Account) (size mask : ℕ) (t : Tables) (n : ℕ) (back : List ℕ) → (E.ask s a size mask t).said ≡ Paper.refusal n back
      → (n ≡ 9 → ⊥) → E.ask s a size mask t ≡ out (Paper.refusal n []) a t
  pub deliver_leaves : (s : E.Settings) (a : Account) (o : Outcome) (t : Tables) (n : ℕ) (back : List ℕ) → (E.deliver s a o t).said ≡ Paper.refusal n back
      → (n ≡ 11 → ⊥) → (n ≡ 12 → ⊥) → E.deliver s a o t ≡ out (Paper.refusal n []) a t
  pub return_leaves : (s : E.Settings) (a : Account) (b : Block) (t : Tables) (list : List ℕ) (n : ℕ) (back : List ℕ) → (E.return s a b t list).said ≡ Paper.refusal n back
      → E.return s a b t list ≡ listed (Paper.refusal n []) a t list
  pub other_leaves : (s : E.Settings) (a : Account) (c : E.Own) (t : Tables) (list : List ℕ) (n : ℕ) (back : List ℕ) → (E.other s a c t list).said ≡ Paper.refusal n back
      → E.other s a c t list ≡ listed (Paper.refusal n []) a t list
  -- what these leave: 9 the account, and 11 and 12 of the account what 01 says; all three leave what a user sees of the store
  pub nine_leaves : (s : E.Settings) (a : Account) (size mask : ℕ) (t : Tables) (back : List ℕ) → (E.ask s a size mask t).said ≡ Paper.refusal 9 back
      → ((E.ask s a size mask t).account ≡ a) × (E.view s (E.ask s a size mask t).tables ≡ E.view s t)
  pub lost_leaves : (s : E.Settings) (a : Account) (o : Outcome) (t : Tables) (k : KeptOrder) (n : ℕ) (back : List ℕ) → a.order ≡ Some k → (E.deliver s a o t).said ≡ Paper.refusal n back
      → (n ≡ 11) ⊎ (n ≡ 12)
      → ((E.deliver s a o t).account ≡ lost_for E.engine (E.store s) a k o) × (E.view s (E.deliver s a o t).tables ≡ E.view s t)
  -- on tables that another engine set up each call but set-up is refused, by 1, 2 or 3, and leaves everything
  pub foreign : (s : E.Settings) (a : Account) (t : Tables) (c : Call E.Own) → (c ≡ sets_up → ⊥) → (Marked E t → ⊥)
      → (n : ℕ) × (does E s a t c ≡ listed (Paper.refusal n []) a t (lent_list c)) × (0 < n) × (n ≤ 3)
