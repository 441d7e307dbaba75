-- Where the pieces of a store lie, byte by byte.
use Rattle.std.specs.Prelude.{List, [], ◌∷◌, ℕ, ◌+◌, ◌*◌, ◌≤◌, ◌<◌}
use Rattle.counter.specs.Limits.{chunk_size_most}
use Rattle.store_rules.specs.declared.Loan.{Loan}
use Rattle.freelist_rules.specs.Records.{region}
unfoldable pub use Rattle.store_rules.specs.Views.{on}
pub use Rattle.store_rules.specs.Views.{All, Differ, total, free, loaned, held}
use Rattle.store_rules.specs.declared.Region.{Region}

-- the bytes of a loan
abbrev pub piece : Loan → Region
piece l = region l.chunk l.offset (l.offset + l.size)

-- byte x of chunk c on one line: chunks are at most 2^40 bytes long and lie twice as far apart, so that pieces of two
-- chunks never meet
abbrev pub line : ℕ → ℕ → ℕ
line c x = 2 * chunk_size_most * c + x

abbrev pub lo : Region → ℕ
lo r = line r.chunk r.start

abbrev pub hi : Region → ℕ
hi r = line r.chunk r.end

module _ {A : Type 0} where
  -- each stands at b or past it, is not empty, and ends g or more before the next begins
  abbrev pub Rising : (A → ℕ) → (A → ℕ) → ℕ → ℕ → List A → Type 0
  Rising begin stop g b [] = Unit {0}
  Rising begin stop g b (a ∷ xs) = (b ≤ begin a) × (begin a < stop a) × Rising begin stop g (g + stop a) xs
