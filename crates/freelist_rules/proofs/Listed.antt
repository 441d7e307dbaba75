-- Memory numbers as they are listed: from the front of a list, as many as regions go.
use mathlib.Core.Path.{◌≡◌, refl, ap, ◌∙◌}
use mathlib.Core.List.{List, [], ◌∷◌, ◌++◌}
use Prim.Native.Nat.{ℕ, suc, ◌≤◌}
use native.Mathlib.Nat.{zero-add}
use native.Mathlib.Omega.{arith}
use lib.ListN.{length, drop}
use lib.Seq.{sets, sets-eq}
use Rattle.freelist_rules.specs.Release.{memories_of}
use Rattle.store_rules.specs.declared.Chunk.{Chunk}
use Rattle.store_rules.specs.declared.Region.{Region}

pub sets_front : (l ys : List ℕ) → length ys ≤ length l → sets l 0 ys ≡ ys ++ drop (length ys) l
sets_front l ys h = sets-eq ys l 0 (omega arith) ∙ ap (λ (k : ℕ). ys ++ drop k l) (zero-add (length ys))

pub memories_length : (cs : List Chunk) (rs : List Region) → length (memories_of cs rs) ≡ length rs
memories_length cs [] = refl
memories_length cs (r ∷ rs) = ap suc (memories_length cs rs)
