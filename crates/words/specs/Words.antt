-- Words of a lent table, and words moved within it. 01, "What one store holds": a store's tables are lent by the caller.
use Rattle.std.specs.Prelude.{cond, ◌&&◌, List, ℕ, ◌+◌, ◌*◌, ◌-◌, ◌^◌, leb, length, set, drop, replicate}
use Rattle.std.proofs.Math.Seq.{paste}

-- the widest record, in words
abbrev pub widest : ℕ
widest = 8

-- where the first record begins at most, for the code: no table has that many words, and a place past it still fits a word
abbrev pub at_most : ℕ
at_most = 2 ^ 61

-- where a record's word stands: `at` words into the record at i, records being w words wide
abbrev pub cell_of : ℕ → ℕ → ℕ → ℕ
cell_of at w i = at + w * i

-- the first word of a table's own record is its mark
abbrev pub mark_at : ℕ
mark_at = 0

-- n words, the mark m and then v in each
unfoldable pub blank : ℕ → ℕ → ℕ → List ℕ
blank n m v = set (replicate n v) mark_at m

-- t, with the m words from dst on replaced by the m from src on, as they were;
-- t itself where either run of words leaves it
unfoldable pub moved : ℕ → ℕ → ℕ → List ℕ → List ℕ
moved src dst m t = cond (leb (src + m) (length t) && leb (dst + m) (length t)) (paste t dst (drop src t) m) t

-- of n records of w words behind the table's own, those past the i-th go down by one: the i-th is gone
abbrev pub closed : ℕ → ℕ → ℕ → List ℕ → List ℕ
closed w n i t = moved (w + w * i + w) (w + w * i) (w * (n - i - 1)) t

-- of n records of w words behind the table's own, those from the i-th on go up by one: there is room at i
abbrev pub opened : ℕ → ℕ → ℕ → List ℕ → List ℕ
opened w n i t = moved (w + w * i) (w + w * i + w) (w * (n - i)) t
