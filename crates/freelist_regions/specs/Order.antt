-- What the search by halves asks of a store's free regions: that they stand in order, at places a chunk can have.
use Rattle.std.specs.Prelude.{ℕ, ◌*◌, ◌<◌, List, length, get_or, slice_index_or}
use Rattle.counter.specs.Limits.{chunk_size_most}
use Rattle.freelist_rules.specs.Pieces.{lo}
use Rattle.freelist_rules.specs.Steps.{no_region}
use Rattle.store_rules.specs.declared.Region.{Region}

abbrev pub LowPlace : ℕ → Type 0
LowPlace x = x < 2 * chunk_size_most

-- each region begins before those after it do
pub record RegionsStand (rs : List Region) : Type 0 where
  pub rise : (i j : ℕ) → i < j → j < length rs → lo (slice_index_or rs i no_region) < lo (slice_index_or rs j no_region)
  pub low : (i : ℕ) → i < length rs → LowPlace (get_or rs i no_region).start
