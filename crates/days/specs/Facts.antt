-- A fact of a worked day: what a definition gives, and what the paper says.
use Rattle.std.specs.Prelude.{false, List, ◌∷◌, ℕ, replicate}
use Rattle.counter.specs.Account.{no_heap}
use Rattle.counter.specs.Paper.{Said}
use Rattle.counter.specs.declared.account.Account.{Account}
use Rattle.counter.specs.Open.{OpenOrder}
use Rattle.std.specs.Prelude.{Some}
use Rattle.counter.specs.declared.answers.Mapping.TheVariants as M
use Rattle.counter.specs.declared.answers.Outcome.{Outcome}
use Rattle.counter.specs.declared.answers.Outcome.TheVariants as O
use Rattle.store_rules.specs.Outcomes.{Out, Listed}
use Rattle.freelist_rules.specs.Tables.{Tables}

-- numbers, all that a call of a free list leaves, or what a call says and leaves of the account
pub data Fact : Type 0 where
  row : List ℕ → Fact
  left : Out Tables → Fact
  back : Listed Tables → Fact
  heard : Said → Account → Fact

pub record Day : Type 0 where
  pub gives : Fact
  pub says : Fact

abbrev pub day : Fact → Fact → Day
day g s = record { gives = g; says = s }

abbrev pub ranks : List ℕ → List ℕ → Day
ranks g s = day (row g) (row s)

-- an account with so much used of heap 0, allocated and deallocated, so many objects still allowed, and an order or none
abbrev pub account : ℕ → ℕ → ℕ → ℕ → OpenOrder → Account
account used allocated deallocated objects order =
    record {
      heaps =
          record { size = 0; used = used; allocated = record { hi = 0; lo = allocated }; deallocated = record { hi = 0; lo = deallocated } }
          ∷ replicate 15 no_heap;
      objects = objects;
      order = order;
    }

abbrev pub open_for : ℕ → ℕ → OpenOrder
open_for size z =
    Some (record { ask = record { size = size; mask = 0 }; order = record { store = 7; size = z; memtype = 0; map = false } })

-- the memory is made, and a map was not wanted
abbrev pub made : ℕ → Outcome
made memory = O.Made (record { number = memory; mapping = M.NotWanted })
