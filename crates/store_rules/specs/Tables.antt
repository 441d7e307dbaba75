-- The five tables that a store of every engine lends, in one order. 01: "All state is in tables that the caller lends".
use Rattle.std.specs.Prelude.{◌≡◌, Bool, List, [], ◌∷◌, ℕ, eqb, get_or}
use Rattle.lists.specs.Tests.{all}
use Rattle.words.specs.Words.{mark_at}
use Rattle.counter.specs.Paper.{Said}

-- head, loans and chunks are the truth; index and room can be made again from them. room says what of the chunks is free: a free
-- list's regions, a buddy store's tree
pub record Tables : Type 0 where
  pub head : List ℕ
  pub loans : List ℕ
  pub chunks : List ℕ
  pub index : List ℕ
  pub room : List ℕ

abbrev pub tables : List ℕ → List ℕ → List ℕ → List ℕ → List ℕ → Tables
tables h l c i r = record { head = h; loans = l; chunks = c; index = i; room = r }

abbrev pub no_tables : Tables
no_tables = tables [] [] [] [] []

-- ---- the first word of each table is a mark: it tells which engine's table it is, and which of the five

-- an engine's marks
pub record Marks : Type 0 where
  pub head : ℕ
  pub loans : ℕ
  pub chunks : ℕ
  pub index : ℕ
  pub room : ℕ

-- the tables have them
pub record Signed (m : Marks) (t : Tables) : Type 0 where
  pub head : get_or t.head mark_at 0 ≡ m.head
  pub loans : get_or t.loans mark_at 0 ≡ m.loans
  pub chunks : get_or t.chunks mark_at 0 ≡ m.chunks
  pub index : get_or t.index mark_at 0 ≡ m.index
  pub room : get_or t.room mark_at 0 ≡ m.room

-- the test of it
abbrev pub signed_row : Marks → Tables → List Bool
signed_row m t =
    eqb (get_or t.head mark_at 0) m.head
    ∷ eqb (get_or t.loans mark_at 0) m.loans
    ∷ eqb (get_or t.chunks mark_at 0) m.chunks
    ∷ eqb (get_or t.index mark_at 0) m.index
    ∷ eqb (get_or t.room mark_at 0) m.room
    ∷ []

unfoldable pub signed_ok : Marks → Tables → Bool
signed_ok m t = all (signed_row m t)

-- what a set-up says and leaves
pub record Begun : Type 0 where
  pub said : Said
  pub tables : Tables

abbrev pub begun : Said → Tables → Begun
begun s t = record { said = s; tables = t }
