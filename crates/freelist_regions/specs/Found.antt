-- What the code's searches say, in the definitions' words.
use Rattle.std.specs.Prelude.{◌≡◌, ℕ, ◌<◌, ◌≤◌, false, Option, Some, None, List, slice_index_or}
use Rattle.words.specs.Rows.{row}
use Rattle.freelist_rules.specs.Records.{gap_row}
use Rattle.freelist_rules.specs.Threads.{region_in}
use Rattle.freelist_rules.specs.Place as Place
use Rattle.freelist_rules.specs.Place.{cut, fits_in}
use Rattle.freelist_rules.specs.Steps.{no_region}
use Rattle.store_rules.specs.declared.Region.{Region}
use Rattle.freelist_regions.specs.declared.search.Fit.{Fit}

-- which region serves
abbrev pub found_of : Option Fit → Place.Found
found_of None = Place.nowhere
found_of (Some f) = Place.at f.region

-- and where its block starts: "the highest aligned place that ends within the region"
abbrev pub Starts : ℕ → ℕ → List Region → Option Fit → Type 0
Starts mask n rs None = Unit {0}
Starts mask n rs (Some f) = f.start ≡ cut mask n (slice_index_or rs f.region no_region)

-- none of the regions from i on, of the first n in a table, has a place for so many bytes, whatever the mask
abbrev pub NoneFits : ℕ → List ℕ → ℕ → ℕ → Type 0
NoneFits size t i n = (j : ℕ) → i ≤ j → j < n → (mask : ℕ) → fits_in mask size (region_in (row gap_row j t)) ≡ false
