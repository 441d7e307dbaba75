-- Two columns of a free list's index stand behind its book's entries: what is written in the entries leaves the thread.
use mathlib.Core.Path.{◌≡◌}
use mathlib.Core.List.{List}
use Prim.Native.Nat.{ℕ, ◌+◌, ◌≤◌}
use native.Mathlib.Omega.{arith}
use lib.ListN.{get_or}
use Rattle.book_rules.specs.Book.{index_words}
use Rattle.freelist_rules.specs.Threads.{after_from, before_from, after_in, before_in, Leads}
use Rattle.freelist_rules.proofs.Threads.{leads_same}

module _ (n : ℕ) (index index' : List ℕ) (behind : (k : ℕ) → index_words n ≤ k → get_or index' k 0 ≡ get_or index k 0) where
  pub after_stays : (r : ℕ) → after_in n index' r ≡ after_in n index r
  after_stays r = behind (after_from n + r) (omega arith)

  pub before_stays : (r : ℕ) → before_in n index' r ≡ before_in n index r
  before_stays r = behind (before_from n + r) (omega arith)

  pub leads_stays : (u : ℕ) (rs : List ℕ) → Leads (after_in n index) (before_in n index) u rs → Leads (after_in n index') (before_in n index') u rs
  leads_stays u rs L = leads_same (after_in n index) (before_in n index) (after_in n index') (before_in n index') u rs L (λ x m. after_stays x) (λ x m. before_stays x)
