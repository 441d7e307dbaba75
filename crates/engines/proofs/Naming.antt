-- Which memory a refused delivery says is to be freed: by 11 and 12 what the outcome names, and else none.
use mathlib.Core.Path.{◌≡◌, refl, sym, ap, ◌∙◌}
use mathlib.Core.Bool.{Bool, true, false, cond, ◌||◌}
use mathlib.Core.Logic.{◌⊎◌, inl, inr, ⊎_elim}
use mathlib.Core.List.{List, []}
use Prim.Native.Nat.{ℕ, ◌≤◌}
use native.Mathlib.Omega.{arith}
use lib.Dec.{eqb}
use borrow.Author.Tests.{ne_eqb}
use Rattle.lists.proofs.Bools.{same?}
use Rattle.counter.specs.Gate.{Verdict, pass, refuse, gated}
use Rattle.counter.specs.Paper.{Said}
use Rattle.counter.specs.Paper as Paper
use Rattle.counter.specs.declared.account.Account.{Account}
use Rattle.counter.specs.declared.account.KeptOrder.{KeptOrder}
use Rattle.counter.specs.Open.{OpenOrder}
use Rattle.std.specs.Prelude.{None, Some}
use Rattle.counter.specs.declared.answers.Mapping.{Mapping}
use Rattle.counter.specs.declared.answers.Mapping.TheVariants as M
use Rattle.counter.specs.declared.answers.Outcome.{Outcome}
use Rattle.counter.specs.declared.answers.Outcome.TheVariants as O
use Rattle.store_rules.specs.Arrivals.{Arrival, deny, go, arrival_of}
use Rattle.store_rules.specs.Delivery as D
use Rattle.store_rules.specs.Delivery.{Fate, lost, back_of, mapped, fate_of, delivery_ok}
use Rattle.store_rules.specs.Outcomes.{Out}
use Rattle.store_rules.proofs.Fates.{same_fate, no_fate}
use Rattle.store_rules.proofs.Said.{said_number, said_back}
use Rattle.engines.specs.Engines.{Engine}
use Rattle.engines.specs.Further.{named_by, Further}
use Rattle.engines.specs.Shapes.{Tables}

-- ---- what an engine's own proof rests on

module _ (e : D.Engine) (o : Outcome) where
  -- an order that is lost names what the outcome names
  loss_names : (n : ℕ) (c : Bool) (back : List ℕ) → fate_of e o ≡ lost n c back → back ≡ named_by e o
  loss_names n c back = by o
    where
      by : (x : Outcome) → fate_of e x ≡ lost n c back → back ≡ named_by e x
      by O.OutOfDevice q = sym (same_fate 11 n false c [] back q).2
      by O.OutOfHost q = sym (same_fate 12 n false c [] back q).2
      by (O.Made m) q = made m.mapping q
        where
          made : (w : Mapping) → mapped e m.number w ≡ lost n c back → back ≡ back_of e w m.number
          made M.Mapped q = no_fate m.number n c back q
          made M.NotWanted q = no_fate m.number n c back q
          made M.Failed q = sym (same_fate 12 n true c (back_of e M.Failed m.number) back q).2
          made M.OutOfDevice q = sym (same_fate 11 n true c (back_of e M.OutOfDevice m.number) back q).2
          made M.OutOfHost q = sym (same_fate 12 n true c (back_of e M.OutOfHost m.number) back q).2

  -- so does a delivery whose plans are said by their numbers
  module _ (held : List ℕ) (say : Arrival → Said) (n : ℕ) (back : List ℕ) (number : (n ≡ 11) ⊎ (n ≡ 12)) (denies : (m : ℕ) → say (deny m) ≡ Paper.refusal m [])
      (fates : (k : KeptOrder) (f : Fate) → say (go k f) ≡ Paper.refusal n back → (c : Bool) × (f ≡ lost n c back)) where
    denied : (m : ℕ) → (m ≡ 11 → ⊥) → (m ≡ 12 → ⊥) → say (deny m) ≡ Paper.refusal n back → back ≡ named_by e o
    denied m x y q =
        let z = said_number m n [] back (sym (denies m) ∙ q) in
        absurd (⊎_elim (λ p. x (z ∙ p)) (λ p. y (z ∙ p)) number)

    went : (b : Bool) (k : KeptOrder) → say (cond b (go k (fate_of e o)) (deny 13)) ≡ Paper.refusal n back → back ≡ named_by e o
    went true k q = let w = fates k (fate_of e o) q in loss_names n w.0 back w.1
    went false k q = denied 13 (λ z. omega arith) (λ z. omega arith) q

    pub arrival_names : (v : Verdict) → ((m : ℕ) → v ≡ refuse m → m ≤ 4) → (ord : OpenOrder) → say (gated deny v (arrival_of e o held ord)) ≡ Paper.refusal n back → back ≡ named_by e o
    arrival_names (refuse m) low ord q = let h = low m refl in denied m (λ z. omega arith) (λ z. omega arith) q
    arrival_names pass low None q = denied 2 (λ z. omega arith) (λ z. omega arith) q
    arrival_names pass low (Some k) q = went (delivery_ok k.order.map held o) k q

-- ---- of any engine that gives `Further`

-- the numbers that lose the memory
lost_number : (n : ℕ) → (n ≡ 11) ⊎ (n ≡ 12) → (eqb n 11 || eqb n 12) ≡ true
lost_number n (inl e) = rw e
lost_number n (inr e) = rw e

other_number : (n : ℕ) → (n ≡ 11 → ⊥) → (n ≡ 12 → ⊥) → (eqb n 11 || eqb n 12) ≡ false
other_number n x y = rw (ne_eqb n 11 x, ne_eqb n 12 y)

-- a refused delivery names what its outcome names where the memory is lost, by 11 or 12, and else nothing
pub deliver_names : (E : Engine) (F : Further E.shape) (s : E.shape.Settings) (a : Account) (o : Outcome) (t : Tables) (n : ℕ) (back : List ℕ) → (E.shape.deliver s a o t).said ≡ Paper.refusal n back
    → back ≡ cond (eqb n 11 || eqb n 12) (named_by E.shape.engine o) []
deliver_names E F s a o t n back e = ⊎_elim (λ x. is (inl x)) (λ x. ⊎_elim (λ y. is (inr y)) (λ y. none x y) (same? n 12)) (same? n 11)
  where
    is : (n ≡ 11) ⊎ (n ≡ 12) → back ≡ cond (eqb n 11 || eqb n 12) (named_by E.shape.engine o) []
    is w = rw (lost_number n w) (F.lost_names s a o t n back e w)

    none : (n ≡ 11 → ⊥) → (n ≡ 12 → ⊥) → back ≡ cond (eqb n 11 || eqb n 12) (named_by E.shape.engine o) []
    none x y =
        rw (other_number n x y)
        (said_back n n back [] (sym e ∙ ap (λ (r : Out Tables). r.said) (E.refuses.deliver_leaves s a o t n back e x y)))
