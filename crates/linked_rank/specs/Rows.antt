-- The rows of a ranking as words, for callers that lend slices alone: of each usage its 32 type numbers, then their count, then their
-- mask. Words past the end of what is lent are not written.
use Rattle.std.specs.Prelude.{List, [], ℕ, zero, suc, get_or, set}
use Rattle.words.specs.Words.{cell_of}
use Rattle.counter.specs.Limits.{types_most}
use Rattle.usage_rules.specs.declared.Row.{Row}

abbrev pub row_count_at : ℕ
row_count_at = 32

abbrev pub mask_at : ℕ
mask_at = 33

abbrev pub row_words : ℕ
row_words = 34

-- word f of the row of usage u
abbrev pub row_at : ℕ → ℕ → ℕ
row_at f u = cell_of f row_words u

-- the first n type numbers of usage u
unfoldable pub types_out : List ℕ → ℕ → ℕ → List ℕ → List ℕ
types_out ts u zero w = w
types_out ts u (suc n) w = set (types_out ts u n w) (row_at n u) (get_or ts n 0)

unfoldable pub row_out : Row → ℕ → List ℕ → List ℕ
row_out r u w = set (set (types_out r.types u types_most w) (row_at row_count_at u) r.count) (row_at mask_at u) r.mask

-- past the last row; a ranking always has a row for each usage
abbrev pub no_row : Row
no_row = record { types = []; count = 0; mask = 0 }

-- the rows of the first n usages
unfoldable pub rows_out : List Row → ℕ → List ℕ → List ℕ
rows_out rs zero w = w
rows_out rs (suc n) w = row_out (get_or rs n no_row) n (rows_out rs n w)
