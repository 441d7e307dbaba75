-- Places numbered from 0, and the chain of those that are vacant. 01, "slab.rs": insert takes the most recently vacated
-- place, else the next new one; length counts places ever used. Nothing is said of a place that was never used.
use Rattle.std.specs.Prelude.{◌≡◌, ℕ, ◌+◌, ◌-◌, ◌%◌, ◌^◌, ◌<◌, ◌≤◌, Bool, true, cond, List, [], ◌∷◌, ◌==◌, nat_lt, slice_index, slice_set}
use Rattle.lists.specs.Members.{Mem, Distinct, Below}
use Rattle.words.specs.Words.{cell_of}
use Rattle.slabs.specs.declared.Slab.{Slab}
use Rattle.slabs.specs.declared.Taken.{Taken}

-- the end of a chain: no place has this number
abbrev pub nowhere : ℕ
nowhere = 0xffff_ffff_ffff_ffff

-- the record at p shows by itself that its place is vacant: its marking word is 0
abbrev pub vacant_at : List ℕ → ℕ → ℕ → ℕ → Bool
vacant_at records mark width p = slice_index records (cell_of mark width p) == 0

-- ---- a link in a table is the number of a record, one more than the place's; 0 tells none

abbrev pub place_of : ℕ → ℕ
place_of w = cond (w == 0) nowhere (w - 1)

abbrev pub record_of : ℕ → ℕ
record_of p = cond (p == nowhere) 0 (p + 1)

-- the vacant place after p in the chain
abbrev pub link_at : List ℕ → ℕ → ℕ → ℕ → ℕ
link_at links at step p = place_of (slice_index links (cell_of at step p))

-- no place used yet
abbrev pub fresh : Slab
fresh = record { places = 0; vacant = nowhere }

-- "insert takes the most recently vacated place, else the next new one"
unfoldable pub inserted : Slab → List ℕ → ℕ → ℕ → Taken
inserted s links at step =
    cond (nat_lt s.vacant s.places)
    (record { place = s.vacant; slab = record { places = s.places; vacant = link_at links at step s.vacant } })
    (record { place = s.places; slab = record { places = (s.places + 1) % 2 ^ 64; vacant = s.vacant } })

-- a removal makes p the most recently vacated place
unfoldable pub removed : Slab → ℕ → Slab
removed s p = record { places = s.places; vacant = p }

-- and links it to the one before
unfoldable pub removed_links : Slab → List ℕ → ℕ → ℕ → ℕ → List ℕ
removed_links s links at step p = slice_set links (cell_of at step p) (record_of s.vacant)

-- from h on the links lead through the places of F, and end
abbrev pub Chain : (ℕ → ℕ) → ℕ → List ℕ → Type 0
Chain next h [] = h ≡ nowhere
Chain next h (x ∷ l) = (h ≡ x) × Chain next (next x) l

-- used places and the vacant chain part the places 0 .. places, at most `most` of them: which are vacant is told by
-- their records (free) and again by the chain (next)
pub record Parted (free : ℕ → Bool) (next : ℕ → ℕ) (s : Slab) (most : ℕ) : Type 0 where
  pub chained : List ℕ
  pub chain : Chain next s.vacant chained
  pub distinct : Distinct chained
  pub below : Below s.places chained
  pub vacant : (p : ℕ) → Mem p chained → free p ≡ true
  pub all : (p : ℕ) → p < s.places → free p ≡ true → Mem p chained
  pub limit : s.places ≤ most

-- a test of places, with another answer at p
abbrev pub changed : (ℕ → Bool) → ℕ → Bool → ℕ → Bool
changed free p b x = cond (x == p) b (free x)
