-- Each group of tests, as the code takes it: what it comes to by what the code has read, and what it says where it holds.
use mathlib.Core.Path.{◌≡◌, refl, sym, ap, ◌∙◌}
use mathlib.Core.Bool.{Bool, true, false, cond, ◌&&◌}
use Rattle.std.specs.Prelude.{Option, Some, None}
use mathlib.Core.List.{List}
use Prim.Native.Nat.{ℕ, zero, suc, ◌+◌, ◌-◌, ◌*◌, ◌≤◌, ◌<◌}
use native.Mathlib.Omega.{arith}
use lib.Bits.{bit_and}
use lib.Dec.{eqb, leb, ltb}
use lib.ListN.{drop, get_or}
use lib.Seq.{drop-drop}
use borrow.Author.Tests.{leb-true}
use Rattle.lists.specs.Members.{Distinct}
use Rattle.lists.proofs.Bools.{and_left, and_right, same_test}
use Rattle.words.specs.Rows.{rows}
use Rattle.words.proofs.Records.{cell_row}
use Rattle.counter.specs.InTable.{FreeListIn}
use Rattle.counter.specs.Limits.{chunk_size_most}
use Rattle.counter.specs.declared.settings.FreeListSettings.{FreeListSettings}
use Rattle.slabs.specs.Slab.{vacant_at}
use Rattle.slabs.specs.Test.{vacancies}
use Rattle.distinct.specs.Column.{column, column_from}
use Rattle.store_rules.specs.Loans.{given_at, places_at, loan_words, size_at, loans_of}
use Rattle.store_rules.specs.declared.Loan.{Loan}
use Rattle.rounding_rules.proofs.Masks.{masked}
use Rattle.book_rules.specs.Kept.{kept_ok}
use Rattle.book_rules.proofs.Keeping.{kept_most, kept_over}
use Rattle.freelist_rules.specs.Records.{chunk_row, chunk_memory_at, chunk_words}
use Rattle.freelist_rules.specs.Pieces.{All}
use Rattle.freelist_rules.specs.Tables.{chunks_in, regions_most, marks, Tables, signed_ok}
use Rattle.freelist_rules.specs.Walk.{all_ok, sized_ok, numbers_rise, chunk_ok, loan_ok, apart, memories}
use Rattle.store_rules.specs.declared.Chunk.{Chunk}
use Rattle.freelist_rules.proofs.Decides.{all_yes, apart_yes, apart_all, sized_yes}
use Rattle.freelist_rules.proofs.Facts.{sized_low}
use Rattle.freelist_test.specs.Parts.{counted, head_ok, lent_ok, live_count, each_ok, chunks_ok}

-- ---- what an Option tells

module _ {A : Type 0} (b : Bool) (x : A) where
  abbrev Told : Option A → Type 0
  Told o = o ≡ cond b (Some x) None

  pub none_told : false ≡ b → Told None
  none_told e = rw (sym e) refl

  pub some_told : b ≡ true → (y : A) → y ≡ x → Told (Some y)
  some_told e y f = rw e (ap (λ (z : A). Some z) f)

  pub told_none : (o : Option A) → Told o → o ≡ None → b ≡ false
  told_none o t e = by b (sym e ∙ t)
    where
      by : (c : Bool) → None ≡ cond c (Some x) None → c ≡ false
      by true q = let z : None ≡ Some x = q in cc
      by false q = refl

  pub told_some : (o : Option A) → Told o → (y : A) → o ≡ Some y → (b ≡ true) × (y ≡ x)
  told_some o t y e = by b (sym e ∙ t)
    where
      by : (c : Bool) → Some y ≡ cond c (Some x) None → (c ≡ true) × (y ≡ x)
      by true q = (refl, let z : Some y ≡ Some x = q in cc)
      by false q = let z : Some y ≡ None = q in cc

-- ---- the memories, as the code reads them

memories_from : (t : List ℕ) (i k : ℕ) → column_from t chunk_memory_at chunk_words i k ≡ memories (rows chunk_row k (drop (3 * i) t))
memories_from t i zero = refl
memories_from t i (suc k) =
    let e : 3 * i + 3 ≡ 3 * suc i = omega arith in
    rw (cell_row t chunk_memory_at chunk_words i, memories_from t (suc i) k, drop-drop, e)

memories_read : (t : List ℕ) (k : ℕ) → column t chunk_memory_at chunk_words k ≡ memories (rows chunk_row k t)
memories_read t k = memories_from t 0 k

pub apart_told : (t : List ℕ) (k : ℕ) (r : Bool) → (r ≡ true → Distinct (column t chunk_memory_at chunk_words k)) → (Distinct (column t chunk_memory_at chunk_words k) → r ≡ true) → r ≡ apart (memories (rows chunk_row k t))
apart_told t k r f g =
    same_test r (apart (memories (rows chunk_row k t)))
    (λ e. apart_all (memories (rows chunk_row k t)) (rw (memories_read t k) at (f e)))
    (λ e. g (rw (memories_read t k) (apart_yes (memories (rows chunk_row k t)) e)))

-- ---- the chunks

pub chunk_told : (s : FreeListSettings) (made size : ℕ) (c : Chunk) (ok : Bool) → ok ≡ sized_ok s c.size
    → (leb c.number made && (ok && leb c.size size)) ≡ chunk_ok s (counted 0 made size) c
unfolding chunk_ok
chunk_told s made size c ok e = rw e

module _ (s : FreeListSettings) (made size : ℕ) (cs : List Chunk) where
  -- the chunk size now fails, or the chunks do
  pub size_fails : (z : Bool) → z ≡ sized_ok s size → z ≡ false → false ≡ chunks_ok s made size cs
  unfolding chunks_ok
  size_fails z zs f = rw (sym zs ∙ f) refl

  pub each_fails : (z o : Bool) → z ≡ sized_ok s size → z ≡ true → o ≡ each_ok s made size cs → o ≡ false → false ≡ chunks_ok s made size cs
  unfolding chunks_ok
  each_fails z o zs t os f = rw (sym zs ∙ t, sym os ∙ f) refl

  -- they hold, and the memories are left
  pub memories_left : (z o r : Bool) → z ≡ sized_ok s size → z ≡ true → o ≡ each_ok s made size cs → o ≡ true → r ≡ apart (memories cs) → r ≡ chunks_ok s made size cs
  unfolding chunks_ok
  memories_left z o r zs t os u rs = rs ∙ rw (sym zs ∙ t, sym os ∙ u) refl

  each_right : chunks_ok s made size cs ≡ true → each_ok s made size cs ≡ true
  unfolding chunks_ok
  each_right e = and_left (each_ok s made size cs) _ (and_right (sized_ok s size) _ e)

  -- what chunks that pass are
  pub chunks_rise : chunks_ok s made size cs ≡ true → numbers_rise 1 cs ≡ true
  unfolding each_ok
  chunks_rise e = and_left (numbers_rise 1 cs) _ (each_right e)

  chunk_sized : (c : Chunk) → chunk_ok s (counted 0 made size) c ≡ true → sized_ok s c.size ≡ true
  unfolding chunk_ok
  chunk_sized c e = and_left (sized_ok s c.size) _ (and_right (leb c.number made) _ e)

  pub chunks_small : FreeListIn s → chunks_ok s made size cs ≡ true → All (λ (c : Chunk). c.size ≤ chunk_size_most) cs
  unfolding each_ok
  chunks_small fit e c m =
      let o = all_yes (chunk_ok s (counted 0 made size)) cs (and_right (numbers_rise 1 cs) _ (each_right e)) c m in
      omega (arith, sized_low s c.size (sized_yes s c.size (chunk_sized c o)), fit.last_most)

-- ---- a loan, in units by its mask

pub loan_told : (s : FreeListSettings) → FreeListIn s → (given : ℕ) (l : Loan)
    → (ltb 0 l.serial && (leb l.serial given && (eqb (bit_and l.offset s.store.atom) 0 && eqb (bit_and l.size s.store.atom) 0))) ≡ loan_ok s (counted given 0 0) l
unfolding loan_ok
loan_told s fit given l = rw (masked l.offset fit.store.atom, masked l.size fit.store.atom)

-- ---- the head

pub head_told : (s : FreeListSettings) (t : Tables) (n : ℕ) (m : Bool) (k : ℕ) → m ≡ signed_ok marks t → k ≡ chunks_in t
    → ((m && leb k s.store.chunks) && leb n (regions_most s)) ≡ head_ok s t n
unfolding head_ok
head_told s t n m k e f = rw (e, f)

pub head_chunks : (s : FreeListSettings) (t : Tables) (n : ℕ) → head_ok s t n ≡ true → chunks_in t ≤ s.store.chunks
unfolding head_ok
head_chunks s t n e = leb-true _ _ (and_right (signed_ok marks t) _ (and_left _ (leb n (regions_most s)) e))

pub head_regions : (s : FreeListSettings) (t : Tables) (n : ℕ) → head_ok s t n ≡ true → n ≤ regions_most s
unfolding head_ok
head_regions s t n e = leb-true _ _ (and_right (signed_ok marks t && leb (chunks_in t) s.store.chunks) _ e)

-- ---- the loans and their book, by the numbers that the code reads

module _ (s : FreeListSettings) (loans index : List ℕ) where
  abbrev lent_by : ℕ → ℕ → Bool
  lent_by places given =
      kept_ok loans index s.store.loans places given && all_ok (loan_ok s (counted given 0 0)) (loans_of places loans)

  module _ (places given : ℕ) (ps : places ≡ get_or loans places_at 0) (gs : given ≡ get_or loans given_at 0) where
    lent_is : lent_by places given ≡ lent_ok s loans index
    unfolding lent_ok
    lent_is = (λ j. lent_by (ps j) (gs j))

    -- the loans are right where each is and the book is
    pub lent_told : (ok r : Bool) → ok ≡ all_ok (loan_ok s (counted given 0 0)) (loans_of places loans) → ok ≡ true → r ≡ kept_ok loans index s.store.loans places given → r ≡ lent_ok s loans index
    lent_told ok r os t rs = by r ∙ (λ j. rs j && (sym t ∙ os) j) ∙ lent_is
      where
        by : (r : Bool) → r ≡ (r && true)
        by true = refl
        by false = refl

    pub lent_not : (ok : Bool) → ok ≡ all_ok (loan_ok s (counted given 0 0)) (loans_of places loans) → ok ≡ false → false ≡ lent_ok s loans index
    lent_not ok os f = by (kept_ok loans index s.store.loans places given) ∙ (λ j. kept_ok loans index s.store.loans places given && (sym f ∙ os) j) ∙ lent_is
      where
        by : (r : Bool) → false ≡ (r && false)
        by true = refl
        by false = refl

  -- there are more places than the limit
  pub lent_over : (places : ℕ) → places ≡ get_or loans places_at 0 → s.store.loans < places → false ≡ lent_ok s loans index
  lent_over places ps h =
      let given = get_or loans given_at 0 in
      (λ j. kept_over loans index s.store.loans places given h j && all_ok (loan_ok s (counted given 0 0)) (loans_of places loans)) ∙ lent_is places given ps refl

  -- they are no more
  pub lent_few : lent_ok s loans index ≡ true → get_or loans places_at 0 ≤ s.store.loans
  unfolding lent_ok
  lent_few e = kept_most loans index s.store.loans (get_or loans places_at 0) (get_or loans given_at 0) (and_left _ _ e)

-- the places that are not vacant
pub live_told : (loans : List ℕ) (places vacant : ℕ) → places ≡ get_or loans places_at 0 → vacant ≡ vacancies (vacant_at loans size_at loan_words) places → places - vacant ≡ live_count loans
live_told loans places vacant ps vs =
    let e = vs ∙ ap (vacancies (vacant_at loans size_at loan_words)) ps in
    (λ j. ps j - e j)
