-- What a delivered outcome leads to. 01, "When the counter says no": 11, 12 and 13, and the paragraph after the table.
use Rattle.std.specs.Prelude.{Bool, true, false, cond, ◌&&◌, ◌||◌, not, List, [], ◌∷◌, ℕ, eqb}
use Rattle.counter.specs.declared.answers.Mapping.{Mapping}
use Rattle.counter.specs.declared.answers.Mapping.TheVariants as M
use Rattle.counter.specs.declared.answers.Outcome.{Outcome}
use Rattle.counter.specs.declared.answers.Outcome.TheVariants as O

-- 13: "the map outcome doesn't suit the order": an order to map is mapped or fails, another is not wanted mapped
abbrev pub suits : Bool → Mapping → Bool
suits true M.NotWanted = false
suits true M.Mapped = true
suits true M.Failed = true
suits true M.OutOfDevice = true
suits true M.OutOfHost = true
suits false M.NotWanted = true
suits false M.Mapped = false
suits false M.Failed = false
suits false M.OutOfDevice = false
suits false M.OutOfHost = false

-- a memory number is among those held
abbrev pub holds : ℕ → List ℕ → Bool
holds m [] = false
holds m (x ∷ l) = eqb x m || holds m l

-- 13: "the memory number is already held by this store, or the map outcome doesn't suit the order"
unfoldable pub delivery_ok : Bool → List ℕ → Outcome → Bool
delivery_ok map held (O.Made m) = not (holds m.number held) && suits map m.mapping
delivery_ok map held O.OutOfDevice = true
delivery_ok map held O.OutOfHost = true

-- what becomes of the order: the memory is kept, or it is lost with this number, the heap charged and the object counted
-- or not, and the memory given back or not
pub data Fate : Type 0 where
  kept : ℕ → Fate
  lost : ℕ → Bool → List ℕ → Fate

-- which engine gives the memory of a failed map back: "only a free list's map failed"
pub data Engine : Type 0 where
  buddy : Engine
  free_list : Engine

abbrev pub gives_back : Engine → Mapping → Bool
gives_back buddy m = false
gives_back free_list M.Failed = true
gives_back free_list M.Mapped = false
gives_back free_list M.NotWanted = false
gives_back free_list M.OutOfDevice = false
gives_back free_list M.OutOfHost = false

abbrev pub back_of : Engine → Mapping → ℕ → List ℕ
back_of e m memory = cond (gives_back e m) (memory ∷ []) []

-- "11 DEVICE: out of device memory, by allocation or map"; "12 HOST: out of host memory, or map failed"
abbrev pub mapped : Engine → ℕ → Mapping → Fate
mapped e memory M.Mapped = kept memory
mapped e memory M.NotWanted = kept memory
mapped e memory M.Failed = lost 12 true (back_of e M.Failed memory)
mapped e memory M.OutOfDevice = lost 11 true (back_of e M.OutOfDevice memory)
mapped e memory M.OutOfHost = lost 12 true (back_of e M.OutOfHost memory)

abbrev pub fate_of : Engine → Outcome → Fate
fate_of e (O.Made m) = mapped e m.number m.mapping
fate_of e O.OutOfDevice = lost 11 false []
fate_of e O.OutOfHost = lost 12 false []
