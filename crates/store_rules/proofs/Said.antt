-- What is said against a verdict: a refusal says the verdict's number, and nothing else is a refusal.
use mathlib.Core.Path.{◌≡◌, refl, sym, ap}
use mathlib.Core.Bool.{Bool, true, false}
use mathlib.Core.Logic.{◌↔◌}
use mathlib.Core.List.{List, []}
use native.Mathlib.Omega.{arith}
use Prim.Native.Nat.{ℕ}
use borrow.Author.Tests.{eq-eqb}
use Rattle.lists.proofs.Bools.{true_false, and_both}
use Rattle.counter.specs.Gate.{Verdict, pass, refuse}
use Rattle.counter.specs.Paper.{Said}
use Rattle.counter.specs.Paper as Paper
use Rattle.counter.specs.declared.account.Order.{Order}
use Rattle.counter.proofs.Gates.{never, same_number}
use Rattle.store_rules.specs.Orders.{same_bool, same_order}

-- whether it is a refusal
abbrev pub refuses : Said → Bool
refuses Paper.ready = false
refuses (Paper.block n c o z) = false
refuses (Paper.order s z k m) = false
refuses (Paper.released n) = false
refuses Paper.ranked = false
refuses (Paper.refusal n back) = true

-- what is no refusal is not said as one
pub not_refused : {A : Type 0} (w : Said) (n : ℕ) (back : List ℕ) → refuses w ≡ false → w ≡ Paper.refusal n back → A
not_refused w n back q e = absurd (true_false (refuses w) (ap refuses e) q)

-- a refusal has one number
pub said_number : (m n : ℕ) (b c : List ℕ) → Paper.refusal m b ≡ Paper.refusal n c → m ≡ n
said_number m n b c e = cc

-- and one list of memory to be freed
pub said_back : (m n : ℕ) (b c : List ℕ) → Paper.refusal m b ≡ Paper.refusal n c → b ≡ c
said_back m n b c e = cc

-- ---- what is said is the verdict's number

abbrev pub Says : Said → Verdict → ℕ → Type 0
Says w v n = (w ≡ Paper.refusal n []) ↔ (v ≡ refuse n)

-- of a refusal
pub says_refused : (m n : ℕ) → Says (Paper.refusal m []) (refuse m) n
says_refused m n = ((λ e. ap refuse (said_number m n [] [] e)), (λ e. ap (λ (k : ℕ). Paper.refusal k []) (same_number m n e)))

-- of what is none
pub says_passed : (w : Said) (n : ℕ) → refuses w ≡ false → Says w pass n
says_passed w n q = ((λ e. not_refused w n [] q e), (λ e. never n (sym e)))

-- ---- the same, whatever memory is to be freed

abbrev pub Tells : Said → Verdict → ℕ → Type 0
Tells w v n = ((back : List ℕ) × (w ≡ Paper.refusal n back)) ↔ (v ≡ refuse n)

-- of a refusal
pub tells_refused : (m n : ℕ) (back : List ℕ) → Tells (Paper.refusal m back) (refuse m) n
tells_refused m n back = (
  (λ w. ap refuse (said_number m n back w.0 w.1)),
  (λ e. (back, ap (λ (k : ℕ). Paper.refusal k back) (same_number m n e))),
)

-- of what is none
pub tells_passed : (w : Said) (n : ℕ) → refuses w ≡ false → Tells w pass n
tells_passed w n q = ((λ x. not_refused w n x.0 q x.1), (λ e. never n (sym e)))

-- ---- a block is neither an order nor a refusal, and its four numbers are its own

pub order_block : {A : Type 0} (o : Order) (b c d e : ℕ) → Paper.order_of o ≡ Paper.block b c d e → A
order_block o b c d e q = let z : ◌≡◌ {A = ℕ} 0 1 = cc in absurd (omega arith)

pub refusal_block : {A : Type 0} (n : ℕ) (back : List ℕ) (b c d e : ℕ) → Paper.refusal n back ≡ Paper.block b c d e → A
refusal_block n back b c d e q = let z : ◌≡◌ {A = ℕ} 0 1 = cc in absurd (omega arith)

pub same_block_lem : (a b c d e f g h : ℕ) → Paper.block a b c d ≡ Paper.block e f g h → (a ≡ e) × (b ≡ f) × (c ≡ g) × (d ≡ h)
same_block_lem a b c d e f g h q = (cc, cc, cc, cc)

-- ---- an order is neither a refusal nor a block, and the same as itself

pub refusal_order : {A : Type 0} (n : ℕ) (back : List ℕ) (store size memtype : ℕ) (map : Bool) → Paper.refusal n back ≡ Paper.order store size memtype map → A
refusal_order n back store size memtype map e = let z : ◌≡◌ {A = ℕ} 0 1 = cc in absurd (omega arith)

pub block_order : {A : Type 0} (b c d f store size memtype : ℕ) (map : Bool) → Paper.block b c d f ≡ Paper.order store size memtype map → A
block_order b c d f store size memtype map e = let z : ◌≡◌ {A = ℕ} 0 1 = cc in absurd (omega arith)

same_bool_lem : (b : Bool) → same_bool b b ≡ true
same_bool_lem true = refl
same_bool_lem false = refl

pub same_order_lem : (o : Order) → same_order o o ≡ true
same_order_lem o =
    and_both _ _ (eq-eqb o.store o.store refl)
    (and_both _ _ (eq-eqb o.size o.size refl) (and_both _ _ (eq-eqb o.memtype o.memtype refl) (same_bool_lem o.map)))
