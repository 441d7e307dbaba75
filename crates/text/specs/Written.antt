-- What a write leaves of what was written before.
use Rattle.std.specs.Prelude.{◌≡◌, List, ℕ, ◌++◌, None, Some}
use Rattle.std.specs.declared.option.Option.{Option}

-- the bytes that a writer holds are known, and begin with these
unfoldable pub BeginsWith : Option (List ℕ) → List ℕ → Type 0
BeginsWith None xs = ⊥
BeginsWith (Some ys) xs = (zs : List ℕ) × (ys ≡ xs ++ zs)

-- whatever they began with, they begin with afterwards
abbrev pub Stays : Option (List ℕ) → Option (List ℕ) → Type 0
Stays old new = (xs : List ℕ) → BeginsWith old xs → BeginsWith new xs
