-- One level of a buddy store's pairs in words: eight words of its own, then eight for each pair. 01, "buddy.rs". What is
-- done to it is defined for all words; Good says when its ring and its vacant places are those that the pairs show.
use Rattle.std.specs.Prelude.{Bool, cond, List, ℕ, ◌+◌, ◌*◌, ◌^◌, ◌<◌, ltb, get_or, set, take, drop}
use Rattle.lists.specs.Members.{Mem}
use Rattle.words.specs.Words.{cell_of}
use Rattle.slabs.specs.Slab.{place_of, record_of, vacant_at, link_at, inserted, Parted}
use Rattle.slabs.specs.declared.Slab.{Slab}
use Rattle.slabs.specs.declared.Taken.{Taken}
use Rattle.ring_rules.specs.Ring.{unlinked, linked, alone, RingOf}
use Rattle.buddy_rules.specs.Nodes.{free_word, vacant, exhausted, left_ready, right_ready, Ent, Side, L, R}
use Rattle.buddy_rules.specs.Levels.{side_of}

-- ---- where the words stand

-- of the level: the ring's head, how many pair places were ever used, the one vacated last
abbrev pub header_words : ℕ
header_words = 8

abbrev pub ring_at : ℕ
ring_at = 0

abbrev pub used_at : ℕ
used_at = 1

abbrev pub vacated_at : ℕ
vacated_at = 2

-- of a pair: its tag; chunk; offset in bytes, or the vacant place after it; the words of its two nodes; the ring's links; the
-- node that it is the pair of
abbrev pub pair_words : ℕ
pair_words = 8

abbrev pub tag_at : ℕ
tag_at = 0

abbrev pub chunk_at : ℕ
chunk_at = 1

abbrev pub off_at : ℕ
off_at = 2

abbrev pub left_at : ℕ
left_at = 3

abbrev pub right_at : ℕ
right_at = 4

abbrev pub next_at : ℕ
next_at = 5

abbrev pub prev_at : ℕ
prev_at = 6

abbrev pub up_at : ℕ
up_at = 7

abbrev pub side_at : Side → ℕ
side_at L = left_at
side_at R = right_at

-- the tag of a pair that is ready at that side
abbrev pub ready_tag : Side → ℕ
ready_tag L = left_ready
ready_tag R = right_ready

-- how many words a level of so many pairs takes
abbrev pub level_words : ℕ → ℕ
level_words pairs = header_words + pair_words * pairs

-- the table's own record stands before the first level
abbrev pub own_words : ℕ
own_words = 8

-- where level l begins
abbrev pub level_start : ℕ → ℕ → ℕ
level_start pairs l = own_words + level_words pairs * l

-- where a level begins at most, for the code: no table has that many words
abbrev pub base_most : ℕ
base_most = 2 ^ 60

abbrev pub no_pair : Ent
no_pair = record { tag = vacant; chunk = 0; off = 0; left = free_word; right = free_word; up = 0 }

-- ---- a level whose words begin at b

module _ (b : ℕ) where
  -- where field f of pair 0 stands, and of pair p
  abbrev pub field_at : ℕ → ℕ
  field_at f = b + (header_words + f)

  abbrev pub pair_cell : ℕ → ℕ → ℕ
  pair_cell f p = cell_of (field_at f) pair_words p

  -- what pair p says
  abbrev pub ent_of : List ℕ → ℕ → Ent
  ent_of t p =
      record {
        tag = get_or t (pair_cell tag_at p) 0;
        chunk = get_or t (pair_cell chunk_at p) 0;
        off = get_or t (pair_cell off_at p) 0;
        left = get_or t (pair_cell left_at p) 0;
        right = get_or t (pair_cell right_at p) 0;
        up = get_or t (pair_cell up_at p) 0;
      }

  -- of a place that was ever used; the words of any other are spare, and say nothing
  abbrev pub pair_in : List ℕ → ℕ → Ent
  pair_in t p = cond (ltb p (get_or t (b + used_at) 0)) (ent_of t p) no_pair

  abbrev pub ring_head : List ℕ → ℕ
  ring_head t = place_of (get_or t (b + ring_at) 0)

  -- its places: how many were ever used, and the one vacated last
  abbrev pub slab_in : List ℕ → Slab
  slab_in t = record { places = get_or t (b + used_at) 0; vacant = place_of (get_or t (b + vacated_at) 0) }

  -- the place that a new pair takes, and the slab from then on
  abbrev pub pair_taken : List ℕ → Taken
  pair_taken t = inserted (slab_in t) t (field_at off_at) pair_words

  -- pair p leaves the ring, or joins it
  abbrev pub leaves : ℕ → List ℕ → List ℕ
  leaves p t = unlinked (b + ring_at) (field_at next_at) (field_at prev_at) pair_words p t

  abbrev pub joins : ℕ → List ℕ → List ℕ
  joins p t = linked (b + ring_at) (field_at next_at) (field_at prev_at) pair_words p t

  -- "the pair goes": p leaves the ring, and its place is the one vacated last
  unfoldable pub dropped : ℕ → List ℕ → List ℕ
  dropped p t =
      set (set (set (leaves p t) (pair_cell tag_at p) vacant) (pair_cell off_at p) (get_or t (b + vacated_at) 0)) (b + vacated_at) (record_of p)

  -- "A returned side of an exhausted pair joins the ring before the head, or as head if the ring is empty"
  unfoldable pub backed : ℕ → Side → List ℕ → List ℕ
  backed p s t = set (set (joins p t) (pair_cell tag_at p) (ready_tag s)) (pair_cell (side_at s) p) free_word

  -- "Acquire takes the head pair's ready side; the head becomes its next": the side's node has the word w
  unfoldable pub acquired : ℕ → List ℕ → List ℕ
  acquired w t =
      set (set (leaves (ring_head t) t) (pair_cell tag_at (ring_head t)) exhausted) (pair_cell (side_at (side_of (ent_of t (ring_head t)).tag)) (ring_head t)) w

  -- a new pair of node n, at o of chunk c, whose left node has the word w: it is ready at its right, and alone in the ring
  unfoldable pub entered : ℕ → ℕ → ℕ → ℕ → ℕ → List ℕ → List ℕ
  entered p c o n w t =
      alone (b + ring_at) (field_at next_at) (field_at prev_at) pair_words p
      (set (set (set (set (set (set t (pair_cell tag_at p) right_ready) (pair_cell chunk_at p) c) (pair_cell off_at p) o) (pair_cell left_at p) w) (pair_cell right_at p) free_word) (pair_cell up_at p) n)

  unfoldable pub added : ℕ → ℕ → ℕ → ℕ → List ℕ → List ℕ
  added c o n w t =
      entered (pair_taken t).place c o n w (set (set t (b + used_at) (pair_taken t).slab.places) (b + vacated_at) (record_of (pair_taken t).slab.vacant))

  -- a level with no pair
  unfoldable pub fresh_level : List ℕ → List ℕ
  fresh_level t = set (set (set t (b + ring_at) 0) (b + used_at) 0) (b + vacated_at) 0

  -- a pair place is vacant: its tag says so, and it links to the next
  abbrev pub vacant_in : List ℕ → ℕ → Bool
  vacant_in t = vacant_at t (field_at tag_at) pair_words

  abbrev pub vacant_after : List ℕ → ℕ → ℕ
  vacant_after t = link_at t (field_at off_at) pair_words

  -- the ring has exactly the pairs in use that are ready, and used and vacant places part; there is room for `pairs` of them
  pub record Good (pairs : ℕ) (t : List ℕ) : Type 0 where
    pub ring : List ℕ
    pub rings : RingOf (b + ring_at) (field_at next_at) (field_at prev_at) pair_words t ring
    pub below : (p : ℕ) → Mem p ring → p < get_or t (b + used_at) 0
    pub ready : (p : ℕ) → Mem p ring → exhausted < (ent_of t p).tag
    pub all : (p : ℕ) → p < get_or t (b + used_at) 0 → exhausted < (ent_of t p).tag → Mem p ring
    pub parted : Parted (vacant_in t) (vacant_after t) (slab_in t) pairs

-- ---- the levels of a table, one after the other

-- the words of level l
abbrev pub part : ℕ → ℕ → List ℕ → List ℕ
part pairs l t = take (level_words pairs) (drop (level_start pairs l) t)
