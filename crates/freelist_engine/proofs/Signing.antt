-- The marks of a free list's tables over its calls: set-up writes them, every other call leaves them, and is refused without them.
use mathlib.Core.Path.{◌≡◌, sym, ap, ◌∙◌, refl}
use mathlib.Core.Logic.{⊎_elim}
use mathlib.Core.List.{[]}
use Prim.Native.Nat.{ℕ, ◌≤◌, ◌<◌}
use Rattle.lists.proofs.Bools.{told, true_false}
use Rattle.counter.specs.Paper as Paper
use Rattle.counter.specs.declared.account.Account.{Account}
use Rattle.counter.specs.declared.settings.FreeListSettings.{FreeListSettings}
use Rattle.store_rules.specs.Outcomes.{Listed, listed}
use Rattle.store_rules.proofs.Signed.{signed_yes, signed_all}
use Rattle.engines.specs.Pools.{Slot, table_of, seal, sign_of, Marking, Sealed}
use Rattle.engines.proofs.Signs.{in_slot}
use Rattle.engines.specs.Shapes.{Tables, Call, sets_up, does, lent_list}
use Rattle.freelist_rules.specs.Tables.{signed_ok, marks}
use Rattle.freelist_outcomes.specs.SetUp.{set_up_of}
use Rattle.freelist_outcomes.proofs.Sounds.{set_up_sound}
use Rattle.freelist_engine.specs.Shape.{OwnCall, list_shape}
use Rattle.freelist_engine.proofs.Refusing.{unsigned_refused}
use Rattle.freelist_engine.proofs.Stepping.{call_steps}
use lib.ListN.{get_or}
use Rattle.store_rules.specs.Loans.{given_at, places_at, loans_of}

-- a set-up that is accepted signs all five
pub list_signs : (s : FreeListSettings) (t : Tables) → (set_up_of s t).said ≡ Paper.ready → (z : Slot) → seal (table_of (set_up_of s t).tables z) ≡ sign_of marks z
list_signs s t e = in_slot marks (set_up_of s t).tables (set_up_sound s t e).signed

-- unless each of the five has its mark, each call but set-up is refused, by 1, 2 or 3, and leaves everything
pub list_unsigned : (s : FreeListSettings) (a : Account) (t : Tables) (c : Call OwnCall) → (c ≡ sets_up → ⊥) → (((z : Slot) → seal (table_of t z) ≡ sign_of marks z) → ⊥)
    → (n : ℕ) × (does list_shape s a t c ≡ listed (Paper.refusal n []) a t (lent_list c)) × (0 < n) × (n ≤ 3)
list_unsigned s a t c f h = unsigned_refused s a t c f (λ S. h (in_slot marks t S))

-- any call but set-up leaves the five first words
pub list_seals_stay : (s : FreeListSettings) (a : Account) (t : Tables) (c : Call OwnCall) → (c ≡ sets_up → ⊥) → (z : Slot)
    → seal (table_of (does list_shape s a t c).tables z) ≡ seal (table_of t z)
list_seals_stay s a t c f z =
    ⊎_elim
    (λ e. let S = signed_yes marks t e in in_slot marks (does list_shape s a t c).tables ((call_steps s a t c f).signs S) z ∙ sym (in_slot marks t S z))
    (λ e. ap (λ (r : Listed Tables). seal (table_of r.tables z)) (unsigned_refused s a t c f (λ S. true_false (signed_ok marks t) (signed_all marks t S) e)).1)
    (told (signed_ok marks t))

abbrev pub list_marking : Marking list_shape
list_marking = record { sign = sign_of marks; head_sign = refl; signs = list_signs; seals_stay = list_seals_stay; unsigned = list_unsigned }

-- serials given and loans are read from the loans table alone
abbrev pub list_sealed : Sealed list_shape
list_sealed =
    record {
      marking = list_marking;
      given_in = λ loans. get_or loans given_at 0;
      loans_in = λ loans. loans_of (get_or loans places_at 0) loans;
      given_there = λ t. refl;
      loans_there = λ t. refl;
    }
