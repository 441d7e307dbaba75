-- Whether a size is the start size doubled so often, or the final size: what the turns of the code show.
use mathlib.Core.Path.{◌≡◌, refl, sym, ◌∙◌}
use mathlib.Core.Bool.{true, false}
use mathlib.Core.Logic.{⊎_elim}
use Prim.Native.Nat.{ℕ, zero, suc, ◌+◌, ◌*◌, ◌^◌, ◌≤◌, ◌<◌, min}
use native.Mathlib.Nat.{two-pow-succ}
use native.Mathlib.Omega.{arith}
use lib.Dec.{eqb}
use borrow.Author.Tests.{eq-eqb, ne_eqb}
use Rattle.counter.specs.InTable.{FreeListIn}
use Rattle.counter.specs.declared.settings.FreeListSettings.{FreeListSettings}
use Rattle.lists.proofs.Bools.{same?, or_left, or_right}
use Rattle.freelist_rules.specs.Walk.{sized_from, sized_ok}

-- a size past the final one is none
over : (f p y z : ℕ) → y < z → sized_from f p y z ≡ false
over zero p y z h = ne_eqb z (min p y) (λ e. omega arith)
over (suc f) p y z h =
    let e : eqb z (min p y) ≡ false = ne_eqb z (min p y) (λ q. omega arith) in
    rw e (over f (2 * p) y z h)

-- nor is one below p and the final size
under : (f p y z : ℕ) → z < p → z < y → sized_from f p y z ≡ false
under zero p y z h g = ne_eqb z (min p y) (λ e. omega arith)
under (suc f) p y z h g =
    let e : eqb z (min p y) ≡ false = ne_eqb z (min p y) (λ q. omega arith) in
    rw e (under f (2 * p) y z (omega arith) g)

-- p itself is one
here : (f p y z : ℕ) → z ≡ p → z < y → sized_from f p y z ≡ true
here zero p y z e h = eq-eqb z (min p y) (omega arith)
here (suc f) p y z e h = or_left (eqb z (min p y)) (sized_from f (2 * p) y z) (eq-eqb z (min p y) (omega arith))

-- and so is the final size, when the doublings that are left reach it
last : (d f p y : ℕ) → d + f ≡ 40 → 2 ^ d ≤ p → y ≤ 2 ^ 40 → sized_from f p y y ≡ true
last d zero p y e h g =
    let q : d ≡ 40 = omega arith in
    let k : 2 ^ 40 ≤ p = rw q at h in
    eq-eqb y (min p y) (omega arith)
last d (suc f) p y e h g =
    or_right (eqb y (min p y)) (sized_from f (2 * p) y y) (last (suc d) f (2 * p) y (omega arith) (omega (arith, two-pow-succ d)) g)

-- a was doubled so often, and p is reached: below any final size y, whether z is a chunk size is still to be seen from p on
pub record Doubling (a z p : ℕ) : Type 0 where
  pub done : ℕ
  pub left : ℕ
  pub turns : done + left ≡ 40
  pub some : 0 < p
  pub reach : 2 ^ done ≤ p
  pub same : (y : ℕ) → z < y → sized_from 40 a y z ≡ sized_from left p y z

pub doubling_starts : (a z : ℕ) → 0 < a → Doubling a z a
doubling_starts a z h = record { done = 0; left = 40; turns = refl; some = h; reach = h; same = λ y g. refl }

pub doubling_next : (a z p : ℕ) → z < 2 ^ 40 → p < z → Doubling a z p → Doubling a z (2 * p)
doubling_next a z p h g d = by d.left d.turns d.same
  where
    by : (f : ℕ) → d.done + f ≡ 40 → ((y : ℕ) → z < y → sized_from 40 a y z ≡ sized_from f p y z) → Doubling a z (2 * p)
    by zero t e =
        let q : d.done ≡ 40 = omega arith in
        let k : 2 ^ 40 ≤ p = rw q at d.reach in
        absurd (omega arith)
    by (suc f) t e = record {
      done = suc d.done;
      left = f;
      turns = omega arith;
      some = omega (arith, d.some);
      reach = omega (arith, two-pow-succ d.done, d.reach);
      same = λ y o. e y o ∙ let n : eqb z (min p y) ≡ false = ne_eqb z (min p y) (λ q. omega arith) in rw n refl;
    }

module _ (s : FreeListSettings) (fit : FreeListIn s) (z : ℕ) where
  pub sized_past : s.last ≤ z → eqb z s.last ≡ sized_ok s z
  unfolding sized_ok
  sized_past h =
      ⊎_elim
      (λ e. eq-eqb z s.last e ∙ sym (rw e (last 0 40 s.start s.last refl fit.start_some fit.last_most)))
      (λ ne. ne_eqb z s.last ne ∙ sym (over 40 s.start s.last z (omega (arith, ne))))
      (same? z s.last)

  pub sized_below : (p : ℕ) → z < s.last → z ≤ p → Doubling s.start z p → eqb z p ≡ sized_ok s z
  unfolding sized_ok
  sized_below p h g d =
      ⊎_elim
      (λ e. eq-eqb z p e ∙ sym (d.same s.last h ∙ here d.left p s.last z e h))
      (λ ne. ne_eqb z p ne ∙ sym (d.same s.last h ∙ under d.left p s.last z (omega (arith, ne)) h))
      (same? z p)
