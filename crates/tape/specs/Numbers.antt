-- Numbers in bytes. 02, Req 04: "numbers little-endian".
use Rattle.std.specs.Prelude.{List, [], ◌∷◌, ◌++◌, ℕ, ◌+◌, ◌*◌, get_or}

abbrev pub word_bytes : ℕ
word_bytes = 8

-- the number that bytes make, the least byte first
abbrev pub little : List ℕ → ℕ
little [] = 0
little (b ∷ bs) = b + 256 * little bs

-- four bytes, from the k-th after a place on; each past the end counts as 0
abbrev pub four : List ℕ → ℕ → ℕ → List ℕ
four bs at k = get_or bs (at + k) 0 ∷ get_or bs (at + (k + 1)) 0 ∷ get_or bs (at + (k + 2)) 0 ∷ get_or bs (at + (k + 3)) 0 ∷ []

-- the word at a place, a u64: its eight bytes
unfoldable pub word_at : List ℕ → ℕ → ℕ
word_at bs at = little (four bs at 0 ++ four bs at 4)
