-- Where a chunk's number stands among chunks that are sorted by number.
use Rattle.std.specs.Prelude.{ℕ, Bool, List, nat_le, slice_index}
use Rattle.words.specs.Words.{cell_of}
use Rattle.freelist_rules.specs.Records.{chunk_words, chunk_number_at}

-- the i-th chunk record of a table has the number n or a higher one
abbrev pub reaches : List ℕ → ℕ → ℕ → Bool
reaches t n i = nat_le n (slice_index t (cell_of chunk_number_at chunk_words i))
