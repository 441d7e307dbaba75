-- How many bytes of chunks a buddy's return leaves: those that there were less the chunk that goes.
use mathlib.Core.Path.{◌≡◌, refl, ap, ◌∙◌}
use mathlib.Core.Bool.{Bool, true, false, cond, ◌&&◌, not}
use mathlib.Core.Logic.{⊎_elim}
use mathlib.Core.List.{List}
use Prim.Native.Nat.{ℕ, zero, suc, ◌+◌, ◌≤◌, ◌<◌}
use native.Mathlib.Omega.{arith}
use lib.Dec.{eqb, ltb}
use lib.ListN.{get_or, set}
use lib.Seq.{get_or-set_same, get_or-set_other}
use Rattle.lists.proofs.Bools.{same?, lt_or_le}
use Rattle.words.specs.Words.{cell_of}
use Rattle.counter.specs.InTable.{BuddyIn}
use Rattle.counter.specs.declared.answers.Block.{Block}
use Rattle.counter.specs.declared.settings.BuddySettings.{BuddySettings}
use Rattle.buddy_rules.specs.Sound.{Sound}
use Rattle.buddy_rules.specs.Tables.{Tables, Lengths, chunk_words, chunk_size_at, chunk_size_in, chunk_places_in, held_in}
use Rattle.buddy_outcomes.specs.Gate.{held_bytes}
use Rattle.buddy_outcomes.specs.Return.{word_for, on_loan_ok, climb_for, given_tables}
use Rattle.buddy_outcomes.proofs.Given.{held, place}
use Rattle.buddy_outcomes.proofs.Heads.{back_chunk_places}

abbrev bytes_at : Tables → ℕ → ℕ
bytes_at t c = cond (held_in t c) (chunk_size_in t c) 0

-- a place whose size is 0 holds none, whatever stands there
none_at : (b : Bool) → ◌≡◌ {A = ℕ} (cond b 0 0) 0
none_at true = refl
none_at false = refl

at_none : (t : Tables) (c : ℕ) → chunk_size_in t c ≡ 0 → bytes_at t c ≡ 0
at_none t c e = ap (λ (z : ℕ). cond (ltb c (chunk_places_in t) && not (eqb z 0)) z 0) e ∙ none_at (ltb c (chunk_places_in t) && false)

-- where one place has y bytes less and the others have theirs, all have y less
module _ (t u : Tables) (c y : ℕ) (less : bytes_at u c + y ≡ bytes_at t c) (same : (x : ℕ) → (x ≡ c → ⊥) → bytes_at u x ≡ bytes_at t x) where
  before : (n : ℕ) → n ≤ c → held_bytes u n ≡ held_bytes t n
  unfolding held_bytes
  before zero h = refl
  before (suc n) h = omega (arith, before n (omega arith), same n (λ e. omega arith))

  less_bytes : (n : ℕ) → c < n → held_bytes u n + y ≡ held_bytes t n
  unfolding held_bytes
  less_bytes zero h = absurd (omega arith)
  less_bytes (suc n) h =
      ⊎_elim
      (λ (e : n ≡ c). let l : bytes_at u n + y ≡ bytes_at t n = rw e less in omega (arith, before n (omega arith), l))
      (λ (o : n ≡ c → ⊥). omega (arith, less_bytes n (lower o), same n o))
      (same? n c)
    where
      lower : (n ≡ c → ⊥) → c < n
      lower o = ⊎_elim (λ k. k) (λ k. absurd (o (omega arith))) (lt_or_le c n)

module _ (s : BuddySettings) (t : Tables) (fit : BuddyIn s) (lengths : Lengths s t) (sound : Sound s t) (b : Block) (on : on_loan_ok s b t ≡ true) where
  abbrev c : ℕ
  c = b.chunk

  abbrev word : ℕ
  word = word_for s b t

  abbrev u : Tables
  u = given_tables s b word t

  abbrev cell : ℕ → ℕ
  cell x = cell_of chunk_size_at chunk_words x

  low : c < chunk_places_in t
  low = (place s t fit lengths sound b on).0

  chunks_freed : (climb_for s b word t).freed ≡ true → u.chunks ≡ set t.chunks (cell c) 0
  unfolding given_tables
  chunks_freed f = rw f

  size_gone : (climb_for s b word t).freed ≡ true → chunk_size_in u c ≡ 0
  size_gone f =
      ap (λ (cs : List ℕ). get_or cs (cell c) 0) (chunks_freed f)
      ∙ get_or-set_same t.chunks (cell c) 0 0 (omega (arith, low, sound.chunks_parted.limit, lengths.chunks))

  size_other : (climb_for s b word t).freed ≡ true → (x : ℕ) → (x ≡ c → ⊥) → chunk_size_in u x ≡ chunk_size_in t x
  size_other f x o =
      ap (λ (cs : List ℕ). get_or cs (cell x) 0) (chunks_freed f)
      ∙ get_or-set_other t.chunks (cell c) (cell x) 0 0 (λ e. o (omega arith))

  -- where the chunk goes
  pub freed_bytes : (climb_for s b (word_for s b t) t).freed ≡ true
      → held_bytes (given_tables s b (word_for s b t) t) (chunk_places_in t) + chunk_size_in t b.chunk ≡ held_bytes t (chunk_places_in t)
  unfolding given_tables
  freed_bytes f =
      let h : bytes_at t c ≡ chunk_size_in t c = rw (held s t fit lengths sound b on) in
      less_bytes t u c (chunk_size_in t c) (omega (arith, at_none u c (size_gone f), h))
      (λ x o.
      let z = size_other f x o in
      let p = back_chunk_places s b (word_for s b t) t in
      (λ j. cond (ltb x (p j) && not (eqb (z j) 0)) (z j) 0))
      (chunk_places_in t) low

  -- and where it stays
  pub kept_bytes : (climb_for s b (word_for s b t) t).freed ≡ false → held_bytes (given_tables s b (word_for s b t) t) (chunk_places_in t) + 0 ≡ held_bytes t (chunk_places_in t)
  unfolding given_tables
  kept_bytes f = less_bytes t u c 0 (rw f (omega arith)) (λ x o. rw f refl) (chunk_places_in t) low
