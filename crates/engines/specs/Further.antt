-- What an engine shows besides: which chunks it holds by its tables alone, what becomes of the lent list, which chunks a return may
-- leave without a block on loan, and which memory a lost order names.
use Rattle.std.specs.Prelude.{◌≡◌, ◌⊎◌, ℕ, ◌-◌, ◌≤◌, length, take, drop}
use mathlib.Core.List.{List, [], Memᴰ}
use Rattle.counter.specs.Gate.{pass}
use Rattle.counter.specs.Paper as Paper
use Rattle.counter.specs.declared.account.Account.{Account}
use Rattle.counter.specs.declared.answers.Block.{Block}
use Rattle.counter.specs.declared.answers.Outcome.{Outcome}
use Rattle.counter.specs.declared.answers.Outcome.TheVariants as O
use Rattle.store_rules.specs.Delivery.{Engine, back_of}
use Rattle.store_rules.specs.Outcomes.{released_account}
use Rattle.store_rules.specs.Views.{View, OnLoan, sizes, Go}
use Rattle.store_rules.specs.declared.Chunk.{Chunk}
use Rattle.store_rules.specs.declared.Loan.{Loan}
use Rattle.engines.specs.Shapes.{Tables, Shape}

-- 01, after the table: "only a free list's "map failed" gives the memory back .., and the refusal then says which memory to free":
-- what a refusal of this outcome names
abbrev pub named_by : Engine → Outcome → List ℕ
named_by e (O.Made m) = back_of e m.mapping m.number
named_by e O.OutOfDevice = []
named_by e O.OutOfHost = []

-- the words behind the first n of a lent list are as they were, and as many
abbrev pub Untouched : ℕ → List ℕ → List ℕ → Type 0
Untouched n list after = (drop n after ≡ drop n list) × (length after ≡ length list)

-- a held chunk in which no block is on loan
pub record Unlent (v : View) (c : Chunk) : Type 0 where
  pub held : Memᴰ c v.chunks
  pub none : (l : Loan) → Memᴰ l v.loans → l.chunk ≡ c.number → ⊥

abbrev pub AtMostOne : (Chunk → Type 0) → Type 0
AtMostOne P = (c d : Chunk) → P c → P d → c ≡ d

pub record Further (E : Shape) : Type 0 where
  -- the held chunks, as its tables have them
  pub chunks : Tables → List Chunk
  -- what is seen held are these, whatever the settings
  pub chunks_seen : (s : E.Settings) (t : Tables) → (E.view s t).chunks ≡ chunks t
  -- a store set up holds none
  pub fresh_chunks : (s : E.Settings) (t : Tables) → (E.set_up s t).said ≡ Paper.ready → chunks (E.set_up s t).tables ≡ []
  -- the tests of a delivery passed: settings and tables are in 01's table, and the store is sound
  pub kept_fits : (s : E.Settings) (a : Account) (t : Tables) → E.deliver_gate s a t ≡ pass → E.Fits s t
  pub kept_sound : (s : E.Settings) (a : Account) (t : Tables) → E.deliver_gate s a t ≡ pass → E.Sound s t
  -- a call that only this engine has, where it is taken: chunks go, and the list tells their memory numbers, as many as it says
  pub other_goes : (s : E.Settings) (a : Account) (c : E.Own) (t : Tables) (list : List ℕ) (n : ℕ) → (E.other s a c t list).said ≡ Paper.released n
      → (length (take n (E.other s a c t list).list) ≡ n)
      × Go (E.view s t).chunks (E.view s (E.other s a c t list).tables).chunks (take n (E.other s a c t list).list)
  -- and the account gives back what went
  pub other_account : (s : E.Settings) (a : Account) (c : E.Own) (t : Tables) (list : List ℕ) (n : ℕ) → (E.other s a c t list).said ≡ Paper.released n
      → (E.other s a c t list).account ≡ released_account (E.store s) a n (sizes (E.view s t).chunks - sizes (E.view s (E.other s a c t list).tables).chunks)
  -- it passed the tests 1 to 4
  pub other_passed : (s : E.Settings) (a : Account) (c : E.Own) (t : Tables) (list : List ℕ) (n : ℕ) → (E.other s a c t list).said ≡ Paper.released n
      → E.gate s a t ≡ pass
  -- 01, "What one store holds": "places past the count are untouched"
  pub past : (s : E.Settings) (a : Account) (b : Block) (t : Tables) (list : List ℕ) (n : ℕ) → (E.return s a b t list).said ≡ Paper.released n
      → Untouched n list (E.return s a b t list).list
  pub other_past : (s : E.Settings) (a : Account) (c : E.Own) (t : Tables) (list : List ℕ) (n : ℕ) → (E.other s a c t list).said ≡ Paper.released n
      → Untouched n list (E.other s a c t list).list
  -- 01: "every wholly free chunk except the one of the last region is released", "a buddy store holds no wholly free chunk": of the
  -- chunks that a return leaves at most one is so
  pub idle_one : (s : E.Settings) (a : Account) (b : Block) (t : Tables) (list : List ℕ) → E.gate s a t ≡ pass → OnLoan b (E.loans t)
      → (E.store s).chunks ≤ length list → AtMostOne (Unlent (E.view s (E.return s a b t list).tables))
  -- 11 and 12 name the memory that is given back, and no other
  pub lost_names : (s : E.Settings) (a : Account) (o : Outcome) (t : Tables) (n : ℕ) (back : List ℕ) → (E.deliver s a o t).said ≡ Paper.refusal n back
      → (n ≡ 11) ⊎ (n ≡ 12) → back ≡ named_by E.engine o
