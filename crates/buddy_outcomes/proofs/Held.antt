-- How many chunks a buddy store holds and how many bytes they have, after each call's step: as many as before, one more, or
-- one less.
use mathlib.Core.Path.{◌≡◌, refl, sym, ap, ◌∙◌}
use mathlib.Core.Bool.{Bool, true, false, cond, ◌&&◌, not}
use mathlib.Core.Logic.{⊎_elim}
use mathlib.Core.List.{List}
use Prim.Native.Nat.{ℕ, zero, suc, ◌+◌, ◌≤◌, ◌<◌}
use native.Mathlib.Omega.{arith}
use lib.Dec.{eqb, ltb}
use lib.ListN.{get_or, set}
use lib.Seq.{get_or-set_same, get_or-set_other}
use borrow.Author.Tests.{le-ltb}
use Rattle.lists.proofs.Bools.{same?, lt_or_le}
use Rattle.words.specs.Words.{cell_of}
use Rattle.counter.specs.Account.{heap_at}
use Rattle.counter.specs.InTable.{BuddyIn}
use Rattle.counter.specs.declared.account.Account.{Account}
use Rattle.counter.specs.declared.answers.Block.{Block}
use Rattle.counter.specs.declared.settings.BuddySettings.{BuddySettings}
use Rattle.store_rules.specs.Tests.{covers_ok}
use Rattle.buddy_trees.specs.Trees.{bytes}
use Rattle.buddy_rules.specs.Tables.{Tables, Lengths, chunk_words, chunk_size_at, chunk_places_at, levels_in, chunk_places_in, chunk_size_in, held_in}
use Rattle.buddy_rules.specs.Moves.{Cut}
use Rattle.buddy_rules.specs.Sound.{Sound}
use Rattle.buddy_outcomes.specs.Gate.{held_count, held_bytes, account_ok}
use Rattle.buddy_outcomes.specs.Ask.{chunk_taken, grown_tables, booked_tables, taken_tables, size_for, level_for}
use Rattle.buddy_outcomes.specs.Deliver.{chunk_tables, served_tables}
use Rattle.buddy_outcomes.specs.Return.{word_for, on_loan_ok, climb_for, given_tables}
use Rattle.buddy_outcomes.proofs.Chunked.{chunked, places_now, size_here, size_other, taken_low, within_places, taken_dead, held_here, held_other}
use Rattle.buddy_outcomes.proofs.Given.{held, place}
use Rattle.buddy_outcomes.proofs.Heads.{back_chunk_places}

-- ---- sums over the first n places

unfoldable sums : (ℕ → ℕ) → ℕ → ℕ
sums f zero = 0
sums f (suc n) = sums f n + f n

sums_same : (f g : ℕ → ℕ) (n : ℕ) → ((x : ℕ) → x < n → f x ≡ g x) → sums f n ≡ sums g n
unfolding sums
sums_same f g zero h = refl
sums_same f g (suc n) h = omega (arith, sums_same f g n (λ x k. h x (omega arith)), h n (omega arith))

-- past the places that count, nothing does
sums_past : (f : ℕ → ℕ) (m : ℕ) → ((x : ℕ) → m ≤ x → f x ≡ 0) → (n : ℕ) → m ≤ n → sums f n ≡ sums f m
unfolding sums
sums_past f m h zero k = let e : m ≡ 0 = omega arith in rw e refl
sums_past f m h (suc n) k =
    ⊎_elim (λ (l : m < suc n). omega (arith, sums_past f m h n (omega arith), h n (omega arith))) (λ l. let e : m ≡ suc n = omega arith in rw e refl)
    (lt_or_le m (suc n))

-- where one place has y less and the others have theirs, all have y less
sums_less : (f g : ℕ → ℕ) (c y : ℕ) → f c + y ≡ g c → ((x : ℕ) → (x ≡ c → ⊥) → f x ≡ g x) → (n : ℕ) → c < n → sums f n + y ≡ sums g n
unfolding sums
sums_less f g c y less same zero h = absurd (omega arith)
sums_less f g c y less same (suc n) h =
    ⊎_elim
    (λ (e : n ≡ c). let l : f n + y ≡ g n = rw e less in omega (arith, sums_same f g n (λ x k. same x (λ q. omega arith)), l))
    (λ (o : n ≡ c → ⊥). omega (arith, sums_less f g c y less same n (lower o), same n o))
    (same? n c)
  where
    lower : (n ≡ c → ⊥) → c < n
    lower o = ⊎_elim (λ k. k) (λ k. absurd (o (omega arith))) (lt_or_le c n)

-- ---- of the chunks

abbrev held_one : Tables → ℕ → ℕ
held_one t c = cond (held_in t c) 1 0

abbrev bytes_at : Tables → ℕ → ℕ
bytes_at t c = cond (held_in t c) (chunk_size_in t c) 0

count_is : (t : Tables) (n : ℕ) → held_count t n ≡ sums (held_one t) n
unfolding held_count sums
count_is t zero = refl
count_is t (suc n) = omega (arith, count_is t n)

bytes_is : (t : Tables) (n : ℕ) → held_bytes t n ≡ sums (bytes_at t) n
unfolding held_bytes sums
bytes_is t zero = refl
bytes_is t (suc n) = omega (arith, bytes_is t n)

-- how many chunks are held, and how many bytes they have
abbrev pub chunks_held : Tables → ℕ
chunks_held t = held_count t (chunk_places_in t)

abbrev pub bytes_held : Tables → ℕ
bytes_held t = held_bytes t (chunk_places_in t)

abbrev pub Holds : Tables → ℕ → ℕ → Type 0
Holds t n y = (chunks_held t ≡ n) × (bytes_held t ≡ y)

-- test 4 is of these numbers
pub holds_account : (s : BuddySettings) (a : Account) (t : Tables) (n y : ℕ) → Holds t n y → covers_ok (heap_at a s.store.heap) a.objects n y ≡ true → account_ok s a t ≡ true
unfolding account_ok
holds_account s a t n y h e = (λ j. covers_ok (heap_at a s.store.heap) a.objects (h.0 j) (h.1 j)) ∙ e

-- and the account covers them where it passes
pub account_covers : (s : BuddySettings) (a : Account) (t : Tables) → account_ok s a t ≡ true → covers_ok (heap_at a s.store.heap) a.objects (chunks_held t) (bytes_held t) ≡ true
unfolding account_ok
account_covers s a t e = e

-- the chunk at c goes, and the others stay
pub chunk_goes : (t u : Tables) (c n : ℕ) → c < n → held_in t c ≡ true → held_in u c ≡ false
    → ((x : ℕ) → (x ≡ c → ⊥) → (held_in u x ≡ held_in t x) × (chunk_size_in u x ≡ chunk_size_in t x))
    → (held_count u n + 1 ≡ held_count t n) × (held_bytes u n + chunk_size_in t c ≡ held_bytes t n)
chunk_goes t u c n low was gone others =
    let one : held_one u c + 1 ≡ held_one t c = rw (was, gone) refl in
    let size : bytes_at u c + chunk_size_in t c ≡ bytes_at t c = rw (was, gone) (omega arith) in (
      omega (arith, count_is u n, count_is t n, sums_less (held_one u) (held_one t) c 1 one (λ x o. ap (λ (b : Bool). cond b 1 0) (others x o).0) n low),
      omega (arith, bytes_is u n, bytes_is t n, sums_less (bytes_at u) (bytes_at t) c (chunk_size_in t c) size (λ x o. (λ j. cond ((others x o).0 j) ((others x o).1 j) 0)) n low),
    )

-- past the places in use no chunk is held
pub held_past : (t : Tables) (n : ℕ) → chunk_places_in t ≤ n → (held_count t n ≡ chunks_held t) × (held_bytes t n ≡ bytes_held t)
held_past t n h =
    let m = chunk_places_in t in
    let none : (x : ℕ) → chunk_places_in t ≤ x → held_in t x ≡ false = λ x k. rw (le-ltb x (chunk_places_in t) k) refl in (
      count_is t n ∙ sums_past (held_one t) m (λ x k. ap (λ (b : Bool). cond b 1 0) (none x k)) n h ∙ sym (count_is t m),
      bytes_is t n ∙ sums_past (bytes_at t) m (λ x k. ap (λ (b : Bool). cond b (chunk_size_in t x) 0) (none x k)) n h ∙ sym (bytes_is t m),
    )

-- where the words of the chunks and the count of their places are the same, so is what is held
pub same_holds : (t u : Tables) → u.chunks ≡ t.chunks → Holds u (chunks_held t) (bytes_held t)
same_holds t u words =
    let n = chunk_places_in u in
    let places : chunk_places_in u ≡ chunk_places_in t = ap (λ (w : List ℕ). get_or w chunk_places_at 0) words in
    let held_same : (x : ℕ) → held_in u x ≡ held_in t x = λ x. (λ j. ltb x (places j) && not (eqb (get_or (words j) (cell_of chunk_size_at chunk_words x) 0) 0)) in
    let size_same : (x : ℕ) → chunk_size_in u x ≡ chunk_size_in t x = λ x. ap (λ (w : List ℕ). get_or w (cell_of chunk_size_at chunk_words x) 0) words in (
      count_is u n ∙ sums_same (held_one u) (held_one t) n (λ x h. ap (λ (b : Bool). cond b 1 0) (held_same x)) ∙ sym (count_is t n) ∙ ap (held_count t) places,
      bytes_is u n ∙ sums_same (bytes_at u) (bytes_at t) n (λ x h. (λ j. cond (held_same x j) (size_same x j) 0)) ∙ sym (bytes_is t n) ∙ ap (held_bytes t) places,
    )

-- ---- an ask: levels grow, or a loan is booked

-- grown levels change no chunk
pub grown_holds : (s : BuddySettings) (t : Tables) (n : ℕ) → Holds (grown_tables s n t) (chunks_held t) (bytes_held t)
unfolding grown_tables
grown_holds s t n = same_holds t (grown_tables s n t) refl

booked_holds : (s : BuddySettings) (c o size : ℕ) (cut : Cut) (t : Tables) → Holds (booked_tables s c o size cut t) (chunks_held t) (bytes_held t)
unfolding booked_tables
booked_holds s c o size cut t = same_holds t (booked_tables s c o size cut t) refl

-- nor does a loan from a level with a ready side
pub taken_holds : (s : BuddySettings) (size mask : ℕ) (t : Tables) (i : ℕ) → Holds (taken_tables s (size_for s size mask) (level_for s size mask) t i) (chunks_held t) (bytes_held t)
unfolding taken_tables
taken_holds s size mask t i = booked_holds s _ _ _ _ t

-- ---- a delivery: a chunk of z bytes stands at a place that was vacant

module _ (s : BuddySettings) (t : Tables) (fit : BuddyIn s) (lengths : Lengths s t) (sound : Sound s t) (memory z : ℕ)
    (room : (chunk_taken s t).place < s.store.chunks) (tall : 0 < levels_in t) (is : z ≡ bytes s.minimal (levels_in t)) where
  abbrev p : ℕ
  p = (chunk_taken s t).place

  abbrev q : ℕ
  q = (chunk_taken s t).slab.places

  chunked_holds : Holds (chunked s t fit lengths memory z) (chunks_held t + 1) (bytes_held t + z)
  chunked_holds =
      let u = chunked s t fit lengths memory z in
      let low : p < q = within_places s t fit lengths memory z room sound tall is in
      let after : chunk_places_in t ≤ q = ⊎_elim (λ w. omega (arith, w.1)) (λ w. omega (arith, w.1)) (taken_low s t fit lengths memory z room sound tall is) in
      let e : chunk_places_in u ≡ q = places_now s t fit lengths memory z in
      let here : chunk_size_in u p ≡ z = size_here s t fit lengths memory z room in
      let r = chunk_goes u t p q low (held_here s t fit lengths memory z room sound tall is) (taken_dead s t fit lengths memory z room sound tall is)
      (λ x o. (sym (held_other s t fit lengths memory z room sound tall is x o), sym (size_other s t fit lengths memory z room x o))) in
      let l = held_past t q after in (
        ap (held_count u) e ∙ sym r.0 ∙ ap (λ (n : ℕ). n + 1) l.0,
        ap (held_bytes u) e ∙ sym r.1 ∙ (λ j. l.1 j + here j),
      )

  -- it is one more, and its bytes are more
  pub served_holds : (size mask : ℕ) → Holds (served_tables s (size_for s size mask) (level_for s size mask) memory z t) (chunks_held t + 1) (bytes_held t + z)
  unfolding served_tables chunk_tables
  served_holds size mask =
      let b = booked_holds s _ _ _ _ (chunked s t fit lengths memory z) in
      (b.0 ∙ chunked_holds.0, b.1 ∙ chunked_holds.1)

-- ---- a return: the block's chunk goes, or stays

module _ (s : BuddySettings) (t : Tables) (fit : BuddyIn s) (lengths : Lengths s t) (sound : Sound s t) (b : Block) (on : on_loan_ok s b t ≡ true) where
  abbrev u : Tables
  u = given_tables s b (word_for s b t) t

  abbrev cell : ℕ → ℕ
  cell x = cell_of chunk_size_at chunk_words x

  module _ (f : (climb_for s b (word_for s b t) t).freed ≡ true) where
    chunks_freed : u.chunks ≡ set t.chunks (cell b.chunk) 0
    unfolding given_tables
    chunks_freed = rw f

    gone_here : chunk_size_in u b.chunk ≡ 0
    gone_here =
        ap (λ (cs : List ℕ). get_or cs (cell b.chunk) 0) chunks_freed
        ∙ get_or-set_same t.chunks (cell b.chunk) 0 0 (omega (arith, (place s t fit lengths sound b on).0, sound.chunks_parted.limit, lengths.chunks))

    stays_other : (x : ℕ) → (x ≡ b.chunk → ⊥) → chunk_size_in u x ≡ chunk_size_in t x
    stays_other x o = ap (λ (cs : List ℕ). get_or cs (cell x) 0) chunks_freed ∙ get_or-set_other t.chunks (cell b.chunk) (cell x) 0 0 (λ e. o (omega arith))

    dead : held_in u b.chunk ≡ false
    dead = ap (λ (z : ℕ). ltb b.chunk (chunk_places_in u) && not (eqb z 0)) gone_here ∙ by (ltb b.chunk (chunk_places_in u))
      where
        by : (x : Bool) → (x && false) ≡ false
        by true = refl
        by false = refl

    -- a chunk that goes is one less, and its bytes are less
    pub freed_holds : (held_count (given_tables s b (word_for s b t) t) (chunk_places_in t) + 1 ≡ chunks_held t)
        × (held_bytes (given_tables s b (word_for s b t) t) (chunk_places_in t) + chunk_size_in t b.chunk ≡ bytes_held t)
    freed_holds =
        chunk_goes t u b.chunk (chunk_places_in t) (place s t fit lengths sound b on).0 (held s t fit lengths sound b on) dead
        (λ x o. ((λ j. ltb x (back_chunk_places s b (word_for s b t) t j) && not (eqb (stays_other x o j) 0)), stays_other x o))

  -- one that stays changes nothing
  pub kept_holds : (climb_for s b (word_for s b t) t).freed ≡ false → Holds (given_tables s b (word_for s b t) t) (chunks_held t) (bytes_held t)
  unfolding given_tables
  kept_holds f = same_holds t u (rw f refl)
