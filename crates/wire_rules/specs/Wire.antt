-- Settings, account, outcomes and answers as words, for callers that lend numbers and slices alone.
use Rattle.std.specs.Prelude.{Bool, cond, ◌&&◌, List, [], ◌∷◌, ◌++◌, ℕ, zero, suc, ◌^◌, ◌-◌, eqb, leb, ltb, length, get_or, set}
use Rattle.words.specs.Words.{cell_of}
use Rattle.counter.specs.Account.{no_heap}
use Rattle.counter.specs.Limits.{heaps_most}
use Rattle.counter.specs.Paper.{Said}
use Rattle.counter.specs.Paper as Paper
use Rattle.counter.specs.declared.account.Account.{Account}
use Rattle.counter.specs.declared.account.Heap.{Heap}
use Rattle.counter.specs.Open.{OpenOrder}
use Rattle.std.specs.Prelude.{None, Some}
use Rattle.counter.specs.declared.answers.Mapping.{Mapping}
use Rattle.counter.specs.declared.answers.Mapping.TheVariants as M
use Rattle.counter.specs.declared.answers.Outcome.{Outcome}
use Rattle.counter.specs.declared.answers.Outcome.TheVariants as O
use Rattle.counter.specs.declared.settings.BuddySettings.{BuddySettings}
use Rattle.counter.specs.declared.settings.FreeListSettings.{FreeListSettings}
use Rattle.counter.specs.declared.settings.StoreSettings.{StoreSettings}
use Rattle.store_rules.specs.declared.Share.{Share}

-- the greatest number of a field of 32 bits
abbrev pub narrow_most : ℕ
narrow_most = 2 ^ 32 - 1

abbrev pub narrow_ok : List ℕ → ℕ → Bool
narrow_ok w i = leb (get_or w i 0) narrow_most

-- ---- settings: number, memory type, properties, heap, atom mask, loans, chunks; then a free list's start and final chunk, or a
-- buddy's minimal size, initial size and pairs

abbrev pub list_words : ℕ
list_words = 9

abbrev pub buddy_words : ℕ
buddy_words = 10

abbrev pub store_in : List ℕ → StoreSettings
store_in w =
    record {
      number = get_or w 0 0;
      memtype = get_or w 1 0;
      properties = get_or w 2 0;
      heap = get_or w 3 0;
      atom = get_or w 4 0;
      loans = get_or w 5 0;
      chunks = get_or w 6 0;
    }

abbrev pub list_in : List ℕ → FreeListSettings
list_in w = record { store = store_in w; start = get_or w 7 0; last = get_or w 8 0 }

abbrev pub buddy_in : List ℕ → BuddySettings
buddy_in w = record { store = store_in w; minimal = get_or w 7 0; initial = get_or w 8 0; pairs = get_or w 9 0 }

-- as many words as there are to be, and number, type and properties of 32 bits
unfoldable pub settings_ok : ℕ → List ℕ → Bool
settings_ok n w = eqb (length w) n && (narrow_ok w 0 && (narrow_ok w 1 && narrow_ok w 2))

-- ---- the account: of each heap size, used, allocated (high word, low word) and deallocated; the objects; whether an order is open,
-- its store, size, memory type and whether to map, and the size and mask that were asked

abbrev pub heap_words : ℕ
heap_words = 6

abbrev pub objects_at : ℕ
objects_at = 96

abbrev pub open_at : ℕ
open_at = 97

abbrev pub order_store_at : ℕ
order_store_at = 98

abbrev pub order_size_at : ℕ
order_size_at = 99

abbrev pub order_memtype_at : ℕ
order_memtype_at = 100

abbrev pub order_map_at : ℕ
order_map_at = 101

abbrev pub ask_size_at : ℕ
ask_size_at = 102

abbrev pub ask_mask_at : ℕ
ask_mask_at = 103

abbrev pub account_words : ℕ
account_words = 104

-- word f of heap i
abbrev pub heap_at : ℕ → ℕ → ℕ
heap_at f i = cell_of f heap_words i

unfoldable pub heap_in : List ℕ → ℕ → Heap
heap_in w i =
    record {
      size = get_or w (heap_at 0 i) 0;
      used = get_or w (heap_at 1 i) 0;
      allocated = record { hi = get_or w (heap_at 2 i) 0; lo = get_or w (heap_at 3 i) 0 };
      deallocated = record { hi = get_or w (heap_at 4 i) 0; lo = get_or w (heap_at 5 i) 0 };
    }

-- the first n heaps
unfoldable pub heaps_in : List ℕ → ℕ → List Heap
heaps_in w zero = []
heaps_in w (suc n) = heaps_in w n ++ (heap_in w n ∷ [])

unfoldable pub order_in : List ℕ → OpenOrder
order_in w =
    cond (eqb (get_or w open_at 0) 0) None
    (Some
    (record {
      ask = record { size = get_or w ask_size_at 0; mask = get_or w ask_mask_at 0 };
      order = record { store = get_or w order_store_at 0; size = get_or w order_size_at 0; memtype = get_or w order_memtype_at 0; map = eqb (get_or w order_map_at 0) 1 };
    }))

abbrev pub account_in : List ℕ → Account
account_in w = record { heaps = heaps_in w heaps_most; objects = get_or w objects_at 0; order = order_in w }

-- as many words as there are to be; objects, store and type of 32 bits; open or not, to map or not
unfoldable pub account_ok : List ℕ → Bool
account_ok w =
    eqb (length w) account_words
    && (narrow_ok w objects_at && (leb (get_or w open_at 0) 1 && (narrow_ok w order_store_at && (narrow_ok w order_memtype_at && leb (get_or w order_map_at 0) 1))))

-- written again
unfoldable pub heap_out : Heap → ℕ → List ℕ → List ℕ
heap_out h i w =
    set
    (set
    (set (set (set (set w (heap_at 0 i) h.size) (heap_at 1 i) h.used) (heap_at 2 i) h.allocated.hi) (heap_at 3 i) h.allocated.lo)
    (heap_at 4 i)
    h.deallocated.hi)
    (heap_at 5 i)
    h.deallocated.lo

unfoldable pub heaps_out : List Heap → ℕ → List ℕ → List ℕ
heaps_out hs zero w = w
heaps_out hs (suc n) w = heap_out (get_or hs n no_heap) n (heaps_out hs n w)

abbrev pub flag : Bool → ℕ
flag b = cond b 1 0

-- the seven words of an order
unfoldable pub order_words_out : ℕ → ℕ → ℕ → ℕ → ℕ → ℕ → ℕ → List ℕ → List ℕ
order_words_out opened store size memtype map asked mask w =
    set (set (set (set (set (set (set w open_at opened) order_store_at store) order_size_at size) order_memtype_at memtype) order_map_at map) ask_size_at asked) ask_mask_at mask

-- the words of an order that is not open are spare
unfoldable pub order_out : OpenOrder → List ℕ → List ℕ
order_out None w = set w open_at 0
order_out (Some k) w = order_words_out 1 k.order.store k.order.size k.order.memtype (flag k.order.map) k.ask.size k.ask.mask w

unfoldable pub account_out : Account → List ℕ → List ℕ
account_out a w = order_out a.order (set (heaps_out a.heaps heaps_most w) objects_at a.objects)

-- of a store's share: its heap, with the number i, and the objects
unfoldable pub share_out : ℕ → Share → List ℕ → List ℕ
share_out i h w = set (cond (ltb i heaps_most) (heap_out h.heap i w) w) objects_at h.objects

-- of an ask, by what it said: an order, with the size and mask that were asked
abbrev pub asked_out : ℕ → ℕ → Said → List ℕ → List ℕ
asked_out size mask Paper.ready w = w
asked_out size mask (Paper.block serial chunk offset z) w = w
asked_out size mask (Paper.order store z memtype map) w =
    order_out
    (Some (record { ask = record { size = size; mask = mask }; order = record { store = store; size = z; memtype = memtype; map = map } }))
    w
asked_out size mask (Paper.released n) w = w
asked_out size mask Paper.ranked w = w
asked_out size mask (Paper.refusal n back) w = w

-- ---- an outcome: 0 memory was made, 1 out of device memory, 2 out of host memory; of made memory its number, and 0 mapped, 1 not
-- wanted, 2 map failed, 3 out of device memory, 4 out of host memory

abbrev pub mapping_in : ℕ → Mapping
mapping_in m = cond (eqb m 0) M.Mapped (cond (eqb m 1) M.NotWanted (cond (eqb m 2) M.Failed (cond (eqb m 3) M.OutOfDevice M.OutOfHost)))

unfoldable pub outcome_in : ℕ → ℕ → ℕ → Outcome
outcome_in what memory mapping =
    cond (eqb what 0) (O.Made (record { number = memory; mapping = mapping_in mapping })) (cond (eqb what 1) O.OutOfDevice O.OutOfHost)

unfoldable pub outcome_ok : ℕ → ℕ → Bool
outcome_ok what mapping = leb what 2 && leb mapping 4

-- ---- an answer, in six words: 0 ready; 1 block, serial, chunk, offset, size; 2 order, store, size, memory type, whether to map;
-- 3 released, how many; 4 refused, its number, how many memory numbers to free, the first of them; 5 ranked

unfoldable pub answer_out : ℕ → ℕ → ℕ → ℕ → ℕ → List ℕ → List ℕ
answer_out what a b c d w = set (set (set (set (set (set w 0 what) 1 a) 2 b) 3 c) 4 d) 5 0

unfoldable pub said_out : Said → List ℕ → List ℕ
said_out Paper.ready w = answer_out 0 0 0 0 0 w
said_out (Paper.block serial chunk offset size) w = answer_out 1 serial chunk offset size w
said_out (Paper.order store size memtype map) w = answer_out 2 store size memtype (flag map) w
said_out (Paper.released n) w = answer_out 3 n 0 0 0 w
said_out Paper.ranked w = answer_out 5 0 0 0 0 w
said_out (Paper.refusal n back) w = answer_out 4 n (length back) (get_or back 0 0) 0 w
