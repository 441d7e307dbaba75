-- A place written as the number of its record, and read again.
use Rattle.std.proofs.Common.{◌≡◌, ℕ, ◌+◌, ◌-◌, sym, refl, ap, ◌∙◌, ⊎_elim, arith, ne_eqb}
use Rattle.lists.proofs.Bools.{same?}
use Rattle.slabs.specs.Slab.{nowhere, place_of, record_of}

pub place_none : place_of 0 ≡ nowhere
place_none = refl

pub place_some : (w : ℕ) → (w ≡ 0 → ⊥) → place_of w ≡ w - 1
place_some w o = rw (ne_eqb w 0 o)

pub record_none : record_of nowhere ≡ 0
record_none = refl

pub record_some : (p : ℕ) → (p ≡ nowhere → ⊥) → record_of p ≡ p + 1
record_some p o = rw (ne_eqb p nowhere o)

-- what was written is read
pub place_record : (p : ℕ) → place_of (record_of p) ≡ p
place_record p = ⊎_elim
    (λ (e : p ≡ nowhere). ap (λ (q : ℕ). place_of (record_of q)) e ∙ sym e)
    (λ (o : p ≡ nowhere → ⊥). rw (record_some p o) (place_some (p + 1) (λ e. omega arith) ∙ omega arith))
    (same? p nowhere)
