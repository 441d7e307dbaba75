-- When the chains of a book are right, and the test of it: linear in the places ever used.
use Rattle.std.specs.Prelude.{◌≡◌, Bool, false, cond, ◌&&◌, List, [], ◌∷◌, ℕ, zero, suc, ◌-◌, ◌%◌, ◌≤◌, ◌<◌, eqb, leb, ltb}
use Rattle.lists.specs.Members.{Mem}
use Rattle.slabs.specs.Slab.{nowhere, Chain}
use Rattle.slabs.specs.Test.{vacancies}

-- free tells vacant places, next leads on in a chain, first to a chain, serial tells a place's serial
module _ (free : ℕ → Bool) (first next serial : ℕ → ℕ) where
  -- the serials fall along the chain, from `most` on
  abbrev pub Falling : ℕ → List ℕ → Type 0
  Falling most [] = Unit {0}
  Falling most (p ∷ l) = (0 < serial p) × (serial p ≤ most) × Falling (serial p - 1) l

  -- chain i of n: from its first on through exactly the loans, of those in the first `places` places, whose serial modulo
  -- n is i
  pub record InChain (n places given i : ℕ) : Type 0 where
    pub members : List ℕ
    pub chain : Chain next (first i) members
    pub falling : Falling given members
    pub right : (p : ℕ) → Mem p members → (p < places) × (free p ≡ false) × (serial p % n ≡ i)
    pub all : (p : ℕ) → p < places → free p ≡ false → serial p % n ≡ i → Mem p members

  -- every chain is
  abbrev pub Chained : ℕ → ℕ → ℕ → Type 0
  Chained n places given = (i : ℕ) → i < n → InChain n places given i

  -- ---- the test

  -- p is a loan of chain i, with a serial from 1 to most
  unfoldable pub link_ok : ℕ → ℕ → ℕ → ℕ → ℕ → Bool
  link_ok n places i most p =
      cond (ltb p places) (cond (free p) false (ltb 0 (serial p) && (leb (serial p) most && eqb (serial p % n) i))) false

  -- how many of k loans are left when chain i has been followed from p on: nowhere, where it is torn
  unfoldable pub left_after : ℕ → ℕ → ℕ → ℕ → ℕ → ℕ → ℕ
  left_after n places i most p zero = cond (eqb p nowhere) 0 nowhere
  left_after n places i most p (suc k) =
      cond (eqb p nowhere) (suc k) (cond (link_ok n places i most p) (left_after n places i (serial p - 1) (next p) k) nowhere)

  -- and when the first i chains have been
  unfoldable pub left_of : ℕ → ℕ → ℕ → ℕ → ℕ → ℕ
  left_of n places given k zero = k
  left_of n places given k (suc i) =
      cond (eqb (left_of n places given k i) nowhere) nowhere (left_after n places i given (first i) (left_of n places given k i))

  -- the chains have as many loans as there are
  unfoldable pub chains_ok : ℕ → ℕ → ℕ → Bool
  chains_ok n places given = eqb (left_of n places given (places - vacancies free places) n) 0
