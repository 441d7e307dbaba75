-- What a tape's header says: 13 words, which name a store's settings and the account it begins with.
-- A header is refused here, before any set-up, exactly where it is short; where the store number, the memory type or the
-- property word is no u32; where heap size or device objects are outside 01's table ("at most 2^62", any u32); where the
-- engine is neither 1 nor 2; or where a free list's has pairs. All other words fit their fields, and whether 01's table
-- allows the settings is set-up's own test.
use Rattle.std.specs.Prelude.{Bool, cond, ◌&&◌, List, [], ◌∷◌, ℕ, ◌*◌, ◌^◌, ◌-◌, eqb, leb, length, Option, None, Some}
use Rattle.lists.specs.Tests.{all}
use Rattle.counter.specs.Limits.{heap_bytes_most, objects_most}
use Rattle.counter.specs.declared.settings.StoreSettings.{StoreSettings}
use Rattle.tape.specs.Numbers.{word_bytes, word_at}
use Rattle.counter.specs.declared.settings.BuddySettings.{BuddySettings}
use Rattle.counter.specs.declared.settings.FreeListSettings.{FreeListSettings}
use Rattle.tape.specs.declared.header.Settings.{Settings}
use Rattle.tape.specs.declared.header.Settings.TheVariants.{FreeList, Buddy}
use Rattle.tape.specs.declared.header.Start.{Start}

abbrev pub header_words : ℕ
header_words = 13

abbrev pub header_bytes : ℕ
header_bytes = word_bytes * header_words

-- the greatest number of a field of 32 bits
abbrev pub narrow_most : ℕ
narrow_most = 2 ^ 32 - 1

-- ---- engines

abbrev pub buddy_engine : ℕ
buddy_engine = 1

abbrev pub free_list_engine : ℕ
free_list_engine = 2

-- ---- what each word holds

abbrev pub engine : ℕ
engine = 0

abbrev pub number : ℕ
number = 1

abbrev pub memtype : ℕ
memtype = 2

abbrev pub properties : ℕ
properties = 3

abbrev pub heap : ℕ
heap = 4

abbrev pub atom : ℕ
atom = 5

-- a buddy's minimal size, a free list's start chunk
abbrev pub least : ℕ
least = 6

-- a buddy's initial size, a free list's final chunk
abbrev pub greatest : ℕ
greatest = 7

abbrev pub loans : ℕ
loans = 8

abbrev pub chunks : ℕ
chunks = 9

abbrev pub pairs : ℕ
pairs = 10

abbrev pub size_of_heap : ℕ
size_of_heap = 11

abbrev pub objects : ℕ
objects = 12

-- the header's word i
abbrev pub field : ℕ → List ℕ → ℕ
field i bs = word_at bs (word_bytes * i)

-- ---- what it says

abbrev pub fits_row : List ℕ → List Bool
fits_row bs =
    leb header_bytes (length bs)
    ∷ leb (field number bs) narrow_most
    ∷ leb (field memtype bs) narrow_most
    ∷ leb (field properties bs) narrow_most
    ∷ leb (field size_of_heap bs) heap_bytes_most
    ∷ leb (field objects bs) objects_most
    ∷ []

unfoldable pub fits_ok : List ℕ → Bool
fits_ok bs = all (fits_row bs)

abbrev pub store_in : List ℕ → StoreSettings
store_in bs =
    record { number = field number bs; memtype = field memtype bs; properties = field properties bs; heap = field heap bs; atom = field atom bs; loans = field loans bs; chunks = field chunks bs }

abbrev pub free_list_in : List ℕ → FreeListSettings
free_list_in bs = record { store = store_in bs; start = field least bs; last = field greatest bs }

abbrev pub buddy_in : List ℕ → BuddySettings
buddy_in bs = record { store = store_in bs; minimal = field least bs; initial = field greatest bs; pairs = field pairs bs }

abbrev pub start_in : List ℕ → Settings → Start
start_in bs settings = record { settings = settings; heap_size = field size_of_heap bs; objects = field objects bs }

-- none where it is refused
unfoldable pub header_of : List ℕ → Option Start
header_of bs =
    cond (fits_ok bs)
    (cond (eqb (field engine bs) free_list_engine && eqb (field pairs bs) 0)
    (Some (start_in bs (FreeList (free_list_in bs))))
    (cond (eqb (field engine bs) buddy_engine) (Some (start_in bs (Buddy (buddy_in bs)))) None))
    None
