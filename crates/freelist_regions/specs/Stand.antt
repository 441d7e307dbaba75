-- Where a place of a chunk stands among records that are sorted by chunk and place.
use Rattle.std.specs.Prelude.{◌≡◌, ℕ, ◌+◌, ◌<◌, ◌≤◌, Bool, true, false, List, slice_index}
use Rattle.lists.specs.Pairs.{earlier}
use Rattle.words.specs.Words.{cell_of}

-- the record at i, whose chunk stands at `at` and whose place after it, comes after the place p of chunk c
abbrev pub after : List ℕ → ℕ → ℕ → ℕ → ℕ → ℕ → Bool
after t at w c p i = earlier c p (slice_index t (cell_of at w i)) (slice_index t (cell_of (at + 1) w i))

-- once a record comes after, the later ones do: so it is where the records are sorted
abbrev pub Parting : (ℕ → Bool) → ℕ → Type 0
Parting f n = (i j : ℕ) → i < j → j < n → f i ≡ true → f j ≡ true

-- k is where those that come after begin
pub record Parts (f : ℕ → Bool) (n k : ℕ) : Type 0 where
  pub most : k ≤ n
  pub below : (i : ℕ) → i < k → f i ≡ false
  pub above : (i : ℕ) → k ≤ i → i < n → f i ≡ true
