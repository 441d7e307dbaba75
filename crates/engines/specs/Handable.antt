-- Demand 3, what its sentence on returns asks for and nothing besides: "In a sound store, with all values in 01's table, a covering
-- account (01's number 4), no order open and long enough lists, return any set of different blocks on loan".
use Rattle.std.specs.Prelude.{◌≡◌, ◌≤◌, length}
use mathlib.Core.List.{List, [], ◌∷◌, Memᴰ}
use Rattle.counter.specs.declared.account.Account.{Account}
use Rattle.counter.specs.declared.answers.Block.{Block}
use Rattle.store_rules.specs.Refusals.{HeapsIn, OrderOpen}
use Rattle.store_rules.specs.Rows.{Short}
use Rattle.store_rules.specs.Views.{OnLoan, All}
use Rattle.engines.specs.Histories.{Slip, blocks_of}
use Rattle.engines.specs.Shapes.{Tables, Shape, words_of}

-- "different blocks": none of them stands in the list again
abbrev pub DifferentBlocks : List Block → Type 0
DifferentBlocks [] = Unit {0}
DifferentBlocks (b ∷ bs) = ((c : Block) → Memᴰ c bs → b ≡ c → ⊥) × DifferentBlocks bs

-- blocks, each with the list that is lent for its return
pub record Handable (E : Shape) (s : E.Settings) (a : Account) (t : Tables) (ps : List Slip) : Type 0 where
  -- "with all values in 01's table": settings, tables and the account's heaps
  pub fits : E.Fits s t
  pub heaps : HeapsIn a
  -- "no order open"
  pub shut : OrderOpen a → ⊥
  -- "In a sound store"
  pub sound : E.Sound s t
  -- "a covering account (01's number 4)"
  pub covered : Short (words_of E) s a t → ⊥
  -- "long enough lists"
  pub long : All (λ (p : Slip). (E.store s).chunks ≤ length p.1) ps
  -- "different blocks on loan"
  pub lent : All (λ (b : Block). OnLoan b (E.loans t)) (blocks_of ps)
  pub different : DifferentBlocks (blocks_of ps)
