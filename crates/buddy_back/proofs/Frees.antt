-- What the code tells as freed is what the climb came to.
use mathlib.Core.Path.{◌≡◌, refl, sym, ap, ◌∙◌}
use mathlib.Core.Bool.{Bool, true, false}
use mathlib.Core.List.{List}
use Prim.Native.Nat.{ℕ}
use lib.ListN.{set}
use Rattle.counter.specs.declared.answers.Block.{Block}
use Rattle.counter.specs.declared.settings.BuddySettings.{BuddySettings}
use Rattle.buddy_rules.specs.Tables.{Tables, memory_in, chunk_size_in}
use Rattle.buddy_outcomes.specs.Return.{climb_for}
use Rattle.buddy_back.specs.Frees.{freed_by, freed_list}
use Rattle.buddy_back.specs.declared.freeing.Freed.{Freed}

abbrev freed : ℕ → ℕ → Freed
freed n z = record { count = n; bytes = z }

module _ (s : BuddySettings) (b : Block) (w : ℕ) (t : Tables) (list : List ℕ) (went : Bool) (is : went ≡ (climb_for s b w t).freed) where
  -- the chunk went
  pub freed_yes : (m z : ℕ) (list' : List ℕ) → went ≡ true → m ≡ memory_in t b.chunk → z ≡ chunk_size_in t b.chunk → list' ≡ set list 0 m
      → (freed 1 z ≡ freed_by s b w t) × (list' ≡ freed_list s b w t list)
  freed_yes m z list' gone g d i =
      let q : (climb_for s b w t).freed ≡ true = sym is ∙ gone in
      (ap (freed 1) d ∙ sym (rw q refl), i ∙ ap (set list 0) g ∙ sym (rw q refl))

  -- it stayed
  pub freed_no : went ≡ false → (freed 0 0 ≡ freed_by s b w t) × (list ≡ freed_list s b w t list)
  freed_no stays = let q : (climb_for s b w t).freed ≡ false = sym is ∙ stays in (sym (rw q refl), sym (rw q refl))
