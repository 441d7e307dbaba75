-- One word of each record of a lent table.
use Rattle.std.specs.Prelude.{List, [], ◌∷◌, ℕ, zero, suc, get_or}
use Rattle.words.specs.Words.{cell_of}

-- the words at `at` of n records of w words, from the i-th on
abbrev pub column_from : List ℕ → ℕ → ℕ → ℕ → ℕ → List ℕ
column_from t at w i zero = []
column_from t at w i (suc n) = get_or t (cell_of at w i) 0 ∷ column_from t at w (suc i) n

-- the words at `at` of the first n records
abbrev pub column : List ℕ → ℕ → ℕ → ℕ → List ℕ
column t at w n = column_from t at w 0 n
