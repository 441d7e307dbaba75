-- Demand 3 of an engine: "return any set of different blocks on loan, nothing else between: none is refused, and every order
-- ends with the same loans, free pieces, held and released chunks, heap totals and object count".
use Rattle.std.specs.Prelude.{◌≡◌, true, ◌↔◌, ℕ, ◌-◌, ◌≤◌, ◌<◌, length, take}
use mathlib.Core.List.{List, [], ◌∷◌, Memᴰ, Permᴰ, map}
use Rattle.lists.specs.Members.{Distinct}
use Rattle.counter.specs.Account.{heap_at}
use Rattle.counter.specs.Gate.{pass}
use Rattle.counter.specs.Limits.{heaps_most}
use Rattle.counter.specs.Paper as Paper
use Rattle.counter.specs.declared.account.Account.{Account}
use Rattle.counter.specs.declared.answers.Block.{Block}
use Rattle.heap.specs.Heap.{agrees_ok}
use Rattle.store_rules.specs.Outcomes.{Listed, to_free, released_account}
use Rattle.store_rules.specs.Views.{Matches, OnLoan, All, sizes, Go}
use Rattle.store_rules.specs.declared.Loan.{Loan}
use Rattle.engines.specs.Shapes.{Tables, Shape}

-- different blocks, each on loan
pub record Lot (E : Shape) (bs : List Block) (t : Tables) : Type 0 where
  pub lent : All (λ (b : Block). OnLoan b (E.loans t)) bs
  pub apart : Distinct (map (λ (b : Block). b.serial) bs)

-- what a return of a block on loan comes to: it is taken; the loans are the others; the account gives back the chunks that
-- went, and the list tells their memory numbers
pub record Taken (E : Shape) (s : E.Settings) (a : Account) (b : Block) (t : Tables) (r : Listed Tables) : Type 0 where
  pub said : (n : ℕ) × (r.said ≡ Paper.released n)
  pub loans : (l : Loan) → Memᴰ l (E.loans r.tables) ↔ (Memᴰ l (E.loans t) × (Matches b l → ⊥))
  pub account : r.account
      ≡ released_account (E.store s) a (length (E.view s t).chunks - length (E.view s r.tables).chunks) (sizes (E.view s t).chunks - sizes (E.view s r.tables).chunks)
  pub goes : Go (E.view s t).chunks (E.view s r.tables).chunks (take (to_free r.said) r.list)

pub record Ends (E : Shape) : Type 0 where
  pub taken : (s : E.Settings) (a : Account) (b : Block) (t : Tables) (list : List ℕ) → E.gate s a t ≡ pass → OnLoan b (E.loans t)
      → (E.store s).chunks ≤ length list → Taken E s a b t (E.return s a b t list)
  -- the counts stay
  pub rest_stays : (s : E.Settings) (a : Account) (b : Block) (t : Tables) (list : List ℕ) → E.gate s a t ≡ pass → OnLoan b (E.loans t)
      → (E.store s).chunks ≤ length list → E.rest s (E.return s a b t list).tables ≡ E.rest s t
  -- the end that is named: where nothing comes back nothing changes; and it may be reached block by block
  pub none : (s : E.Settings) (a : Account) (t : Tables) → E.gate s a t ≡ pass → E.at_once s [] t ≡ E.view s t
  pub next : (s : E.Settings) (a : Account) (b : Block) (bs : List Block) (t : Tables) (list : List ℕ) → E.gate s a t ≡ pass → Lot E (b ∷ bs) t
      → (E.store s).chunks ≤ length list → E.at_once s bs (E.return s a b t list).tables ≡ E.at_once s (b ∷ bs) t
  -- it is the set's, whatever the order
  pub same : (s : E.Settings) (a : Account) (bs cs : List Block) (t : Tables) → E.gate s a t ≡ pass → Lot E bs t → Permᴰ bs cs
      → E.at_once s bs t ≡ E.at_once s cs t
  -- test 1 passed: the settings name one of the account's heaps
  pub heap_low : (s : E.Settings) (a : Account) (t : Tables) → E.gate s a t ≡ pass → (E.store s).heap < heaps_most
  -- test 4 passed: what that heap's totals say is used is what it uses
  pub heap_agrees : (s : E.Settings) (a : Account) (t : Tables) → E.gate s a t ≡ pass → agrees_ok (heap_at a (E.store s).heap) ≡ true
