-- A turn, in the code's words.
use mathlib.Core.Path.{◌≡◌, refl, sym, ap, ◌∙◌, subst}
use mathlib.Core.Bool.{Bool, true, false, ◌&&◌}
use Rattle.std.specs.Prelude.{Option, Some, None}
use mathlib.Core.Logic.{◌⊎◌, inl, inr, ⊎_elim}
use mathlib.Core.List.{List, [], ◌∷◌, Memᴰ}
use Prim.Native.Nat.{ℕ, zero, suc, ◌+◌, ◌-◌, ◌≤◌, ◌<◌}
use native.Mathlib.Omega.{arith}
use lib.Dec.{eqb, leb, ltb}
use lib.ListN.{drop, get_or}
use lib.Seq.{drop-cons}
use borrow.Author.Tests.{eq-eqb, eqb-true, lt-ltb, ltb-true, le-leb, leb-true}
use Rattle.lists.proofs.Bools.{and_left, and_right, told, true_false}
use Rattle.words.specs.Words.{cell_of}
use Rattle.words.specs.Rows.{row, rows}
use Rattle.words.proofs.Records.{cell_row, length_rows, get_d_rows}
use Rattle.store_rules.specs.Loans.{loan_words, chunk_at}
use Rattle.store_rules.specs.declared.Chunk.{Chunk}
use Rattle.store_rules.specs.declared.Loan.{Loan}
use Rattle.freelist_rules.specs.declared.Gap.{Gap}
use Rattle.freelist_rules.specs.Records.{chunk_row, gap_row}
use Rattle.freelist_rules.specs.Pieces.{Rising}
use Rattle.freelist_rules.specs.Threads.{after_in, before_in, loan_by}
use Rattle.freelist_rules.specs.Walk.{numbers_rise}
use Rattle.freelist_rules.proofs.Base.{at_in, rising_mono, rising_apart}
use Rattle.freelist_rules.proofs.Decides.{numbers_yes}
use Rattle.freelist_rules.proofs.Facts.{Small, ChunksRise}
use Rattle.freelist_walk.specs.Left.{Ground, Between, all_of, Left}
use Rattle.freelist_walk.specs.Turn.{GapPassed, LoanPassed, over_loan, over_chunk, ground_of, LeftAt, Stands, next_ok, togo, Turned}
use Rattle.freelist_walk.specs.declared.passes.Passed.{Passed}
use Rattle.freelist_walk.specs.declared.turns.Reached.{Reached}
use Rattle.freelist_walk.proofs.Passing.{between_one}
use Rattle.freelist_walk.proofs.Piecing.{not_some, some_is}
use Rattle.freelist_walk.proofs.Turning.{First, Over, loan_on, loan_back, NoLoan, Through, chunk_on, chunk_back}

-- ---- what remains of a list

drop_in : {A : Type 0} (i : ℕ) (xs : List A) (a : A) → Memᴰ a (drop i xs) → Memᴰ a xs
drop_in zero xs a m = m
drop_in (suc i) [] a m = m
drop_in (suc i) (x ∷ xs) a m = Memᴰ.tail (drop_in i xs a m)

drop_rise : {A : Type 0} (begin stop : A → ℕ) (g b i : ℕ) (xs : List A) → Rising begin stop g b xs → Rising begin stop g b (drop i xs)
drop_rise begin stop g b zero xs r = r
drop_rise begin stop g b (suc i) [] r = r
drop_rise begin stop g b (suc i) (x ∷ xs) r = drop_rise begin stop g b i xs (rising_mono begin stop g b (g + stop x) xs (omega (arith, r.0, r.1)) r.2)

-- ---- the chunk where the walk stands

module _ (chunks : List ℕ) (k i : ℕ) (c : Chunk) (h : i < k) (is : c ≡ row chunk_row i chunks) (rise : numbers_rise 1 (rows chunk_row k chunks) ≡ true) (small : Small (rows chunk_row k chunks)) where
  abbrev cs : List Chunk
  cs = rows chunk_row k chunks

  chunks_from_lem : drop i cs ≡ c ∷ drop (suc i) cs
  chunks_from_lem =
      drop-cons cs i c (omega (arith, length_rows chunk_row k chunks)) ∙ ap (λ (d : Chunk). d ∷ drop (suc i) cs) (get_d_rows chunk_row k i chunks c h ∙ sym is)

  climb : ChunksRise 1 cs
  climb = numbers_yes 1 cs rise

  rise_from : ChunksRise 1 (c ∷ drop (suc i) cs)
  rise_from = subst (ChunksRise 1) chunks_from_lem (drop_rise _ _ 0 1 i cs climb)

  small_from : Small (c ∷ drop (suc i) cs)
  small_from = subst Small chunks_from_lem (λ d m. small d (drop_in i cs d m))

  chunk_in : Memᴰ c cs
  chunk_in = subst (λ (d : Chunk). Memᴰ d cs) (get_d_rows chunk_row k i chunks c h ∙ sym is) (at_in i cs c (omega (arith, length_rows chunk_row k chunks)))

  chunk_one : (d : Chunk) → Memᴰ d cs → d.number ≡ c.number → d.size ≡ c.size
  chunk_one d m e = by (rising_apart _ _ 0 1 cs climb d c m chunk_in)
    where
      by : (d ≡ c) ⊎ ((0 + suc d.number ≤ c.number) ⊎ (0 + suc c.number ≤ d.number)) → d.size ≡ c.size
      by (inl p) = ap (λ (x : Chunk). x.size) p
      by (inr (inl p)) = absurd (omega arith)
      by (inr (inr p)) = absurd (omega arith)

-- ---- what is tested before a loan is passed

module _ (left r places : ℕ) (loans : List ℕ) (c : ℕ) where
  abbrev x : ℕ
  x = (loan_by loans r).chunk

  pub test_yes : next_ok left r places loans c ≡ true → (0 < left) × (0 < r) × (r ≤ places) × (x ≡ c)
  unfolding next_ok
  test_yes e =
      let a = and_left (ltb 0 left && ltb 0 r) (leb r places && eqb x c) e in
      let b = and_right (ltb 0 left && ltb 0 r) (leb r places && eqb x c) e in
      (ltb-true 0 left (and_left (ltb 0 left) (ltb 0 r) a), ltb-true 0 r (and_right (ltb 0 left) (ltb 0 r) a), leb-true r places (and_left (leb r places) (eqb x c) b), eqb-true x c (and_right (leb r places) (eqb x c) b))

  test_all : 0 < left → 0 < r → r ≤ places → x ≡ c → next_ok left r places loans c ≡ true
  unfolding next_ok
  test_all a b d e = rw (lt-ltb 0 left a, lt-ltb 0 r b, le-leb r places d, eq-eqb x c e)

  -- in the code's words: where the first three hold, the record is there, and is read
  pub next_there : ((ltb 0 left && ltb 0 r) && leb r places) ≡ true → (0 < r) × (r ≤ places)
  next_there e =
      let a = and_left (ltb 0 left && ltb 0 r) (leb r places) e in
      (ltb-true 0 r (and_right (ltb 0 left) (ltb 0 r) a), leb-true r places (and_right (ltb 0 left && ltb 0 r) (leb r places) e))

  pub next_read : (w : ℕ) → ((ltb 0 left && ltb 0 r) && leb r places) ≡ true → w ≡ get_or loans (cell_of chunk_at loan_words (r - 1)) 0 → eqb w c ≡ next_ok left r places loans c
  unfolding next_ok
  next_read w e f = ap (λ (v : ℕ). eqb v c) (f ∙ cell_row loans chunk_at loan_words (r - 1)) ∙ by (ltb 0 left && ltb 0 r) (leb r places) (eqb x c) e
    where
      by : (a b d : Bool) → (a && b) ≡ true → d ≡ (a && (b && d))
      by true true d e = refl
      by true false d e = absurd (true_false false e refl)
      by false b d e = absurd (true_false false e refl)

  pub next_none : ((ltb 0 left && ltb 0 r) && leb r places) ≡ false → false ≡ next_ok left r places loans c
  unfolding next_ok
  next_none e = by (ltb 0 left && ltb 0 r) (leb r places) (eqb x c) e
    where
      by : (a b d : Bool) → (a && b) ≡ false → false ≡ (a && (b && d))
      by true true d e = absurd (true_false true refl e)
      by true false d e = refl
      by false b d e = refl

pub all_one : (p z : ℕ) → all_of p z ≤ 1
all_one p z = ⊎_elim (λ e. rw e (omega arith)) (λ e. rw e (omega arith)) (told (eqb p 0 && ltb 0 z))

-- ---- the turns

module _ (most k : ℕ) (chunks loans : List ℕ) (places : ℕ) (index regions : List ℕ) (n : ℕ) (s : Reached) (c : Chunk) (r : ℕ) (h : s.chunk < k) (st : Stands k n places s)
    (rise : numbers_rise 1 (rows chunk_row k chunks) ≡ true) (small : Small (rows chunk_row k chunks)) (is_lem : c ≡ row chunk_row s.chunk chunks) (next : r ≡ after_in most index s.last) where
  abbrev t : Ground
  t = ground_of most k chunks loans places index regions n

  abbrev gs : List Gap
  gs = rows gap_row n regions

  -- the chunks that remain behind the first
  abbrev ds : List Chunk
  ds = drop (suc s.chunk) (rows chunk_row k chunks)

  abbrev l : Loan
  l = loan_by loans r

  at : First t c ds
  at =
      record {
        rise = rise_from chunks k s.chunk c h is_lem rise small;
        small = small_from chunks k s.chunk c h is_lem rise small;
        has = chunk_in chunks k s.chunk c h is_lem rise small;
        one = chunk_one chunks k s.chunk c h is_lem rise small;
      }

  here : LeftAt t s → Left t (c ∷ ds) s.byte s.last s.left (drop s.region gs) s.whole
  here L = subst (λ (xs : List Chunk). Left t xs s.byte s.last s.left (drop s.region gs) s.whole) (chunks_from_lem chunks k s.chunk c h is_lem rise small) L

  back_here : Left t (c ∷ ds) s.byte s.last s.left (drop s.region gs) s.whole → LeftAt t s
  back_here L = subst (λ (xs : List Chunk). Left t xs s.byte s.last s.left (drop s.region gs) s.whole) (sym (chunks_from_lem chunks k s.chunk c h is_lem rise small)) L

  -- no turn is made where nothing can be left to test
  unturned : (LeftAt t s → ⊥) → Turned k n t s None
  unturned f =
      record {
        on = λ L. absurd (f L);
        back = λ q e. absurd (not_some q e);
        less = λ q e. absurd (not_some q e);
        stands = λ q e. absurd (not_some q e);
      }

  -- the turn that was made
  turned : (q : Reached) → (LeftAt t s → LeftAt t q) → (LeftAt t q → LeftAt t s) → togo k q < togo k s → Stands k n places q → Turned k n t s (Some q)
  turned q on back less stands =
      record {
        on = λ L. (q, refl, on L);
        back = λ r e. subst (λ (x : Reached). LeftAt t x → LeftAt t s) (some_is q r e) back;
        less = λ r e. subst (λ (x : Reached). togo k x < togo k s) (some_is q r e) less;
        stands = λ r e. subst (Stands k n places) (some_is q r e) stands;
      }

  -- a loan is passed, or cannot be
  module _ (yes : next_ok s.left r places loans c.number ≡ true) (o : Option Passed) (w : LoanPassed c.size s.byte s.last l gs s.region o) where
    said : (0 < s.left) × (0 < r) × (r ≤ places) × (l.chunk ≡ c.number)
    said = test_yes s.left r places loans c.number yes

    abbrev Went : Type 0
    Went = Over t c ds s.byte s.last s.left (drop s.region gs) s.whole r

    went : LeftAt t s → Went
    went L = loan_on t c ds at s.byte s.last s.left (drop s.region gs) s.whole r said.0 next said.3 (here L)

    goes : (v : Went) → (p : Passed) × (o ≡ Some p)
    goes v = w.back v.more v.some v.ends (subst (λ (x : ℕ). Between x s.byte l.offset s.last (drop s.region gs) v.more) (sym said.3) v.between)

    stopped : o ≡ None → LeftAt t s → ⊥
    stopped e L = let v = goes (went L) in not_some v.0 (sym e ∙ v.1)

    module _ (p : Passed) (is : o ≡ Some p) where
      abbrev past : Reached
      past = over_loan s r p

      told_lem : (0 < l.size) × (l.offset + l.size ≤ c.size) × (p.byte ≡ l.offset + l.size) × Between l.chunk s.byte l.offset s.last (drop s.region gs) (drop p.region gs)
      told_lem = w.on p is

      between : Between c.number s.byte l.offset s.last (drop s.region gs) (drop p.region gs)
      between = subst (λ (x : ℕ). Between x s.byte l.offset s.last (drop s.region gs) (drop p.region gs)) said.3 told_lem.3

      past_on : LeftAt t s → LeftAt t past
      past_on L =
          let v : Went = went L in
          let e : v.more ≡ drop p.region gs = between_one c.number s.byte l.offset s.last (drop s.region gs) v.more (drop p.region gs) v.between between in
          subst (λ (xs : List Chunk). Left t xs p.byte r (s.left - 1) (drop p.region gs) s.whole) (sym (chunks_from_lem chunks k s.chunk c h is_lem rise small))
          (subst (λ (x : ℕ). Left t (c ∷ ds) x r (s.left - 1) (drop p.region gs) s.whole) (sym told_lem.2) (subst (λ (xs : List Gap). Left t (c ∷ ds) (l.offset + l.size) r (s.left - 1) xs s.whole) e v.left))

      past_back : before_in most index r ≡ s.last → LeftAt t past → LeftAt t s
      past_back led L =
          let v : Went = record {
            back = led;
            some = told_lem.0;
            ends = told_lem.1;
            more = drop p.region gs;
            between = between;
            left =
                subst (λ (x : ℕ). Left t (c ∷ ds) x r (s.left - 1) (drop p.region gs) s.whole) told_lem.2
                (subst (λ (xs : List Chunk). Left t xs p.byte r (s.left - 1) (drop p.region gs) s.whole) (chunks_from_lem chunks k s.chunk c h is_lem rise small) L);
          }
          in
          back_here (loan_back t c ds at s.byte s.last s.left (drop s.region gs) s.whole r said.0 next said.3 said.1 said.2 v)

      turned_loan : before_in most index r ≡ s.last → Turned k n t s (Some past)
      turned_loan led =
          turned past past_on (past_back led) (omega (arith, said.0))
          (record { chunk = st.chunk; region = omega (arith, w.most p is, length_rows gap_row n regions); last = said.2; whole = st.whole })

      unled : (before_in most index r ≡ s.last → ⊥) → LeftAt t s → ⊥
      unled ne L = ne (went L).back

  -- what is left of a chunk is passed, or cannot be
  module _ (no : next_ok s.left r places loans c.number ≡ false) (o : Option Passed) (w : GapPassed c.number s.byte c.size s.last gs s.region o) where
    none : NoLoan t c s.last s.left
    none b d e f = true_false _ (test_all s.left r places loans c.number b (omega arith) (omega arith) (ap (λ (x : ℕ). (loan_by loans x).chunk) next ∙ f)) no

    abbrev Gone : Type 0
    Gone = Through t c ds s.byte s.last s.left (drop s.region gs) s.whole

    gone : LeftAt t s → Gone
    gone L = chunk_on t c ds at s.byte s.last s.left (drop s.region gs) s.whole none (here L)

    ended : o ≡ None → LeftAt t s → ⊥
    ended e L = let g = gone L in let v = w.back g.more g.between in not_some v.0 (sym e ∙ v.1)

    module _ (p : Passed) (is : o ≡ Some p) where
      abbrev over : Reached
      over = over_chunk s c.size p

      chunk_next : s.chunk + 1 ≡ suc s.chunk
      chunk_next = omega arith

      over_on : LeftAt t s → LeftAt t over
      over_on L =
          let v : Gone = gone L in
          let e = between_one c.number s.byte c.size s.last (drop s.region gs) v.more (drop p.region gs) v.between (w.on p is) in
          rw chunk_next (subst (λ (xs : List Gap). Left t ds 0 s.last s.left xs (s.whole + all_of s.byte c.size)) e v.left)

      over_back : LeftAt t over → LeftAt t s
      over_back L =
          let v : Gone = record { more = drop p.region gs; between = w.on p is; left = rw chunk_next at L } in
          back_here (chunk_back t c ds at s.byte s.last s.left (drop s.region gs) s.whole none v)

      turned_chunk : Turned k n t s (Some over)
      turned_chunk =
          turned over over_on over_back (omega arith)
          (record { chunk = omega arith; region = omega (arith, w.most p is, length_rows gap_row n regions); last = st.last; whole = omega (arith, st.whole, all_one s.byte c.size) })

  -- the same of a loan that was read, and of what is made of it
  module _ (yes : next_ok s.left r places loans c.number ≡ true) (d : Loan) (same : d ≡ loan_by loans r) (o : Option Passed) (w : LoanPassed c.size s.byte s.last d gs s.region o) where
    w' : LoanPassed c.size s.byte s.last l gs s.region o
    w' = subst (λ (y : Loan). LoanPassed c.size s.byte s.last y gs s.region o) same w

    pub loan_stopped : o ≡ None → Turned k n (ground_of most k chunks loans places index regions n) s None
    loan_stopped e = unturned (stopped yes o w' e)

    module _ (p : Passed) (is : o ≡ Some p) (back : ℕ) (led : back ≡ before_in most index r) where
      pub loan_unled : (back ≡ s.last → ⊥) → Turned k n (ground_of most k chunks loans places index regions n) s None
      loan_unled ne = unturned (unled yes o w' p is (λ e. ne (led ∙ e)))

      pub loan_turned : back ≡ s.last → (x : Reached) → x ≡ over_loan s r p → Turned k n (ground_of most k chunks loans places index regions n) s (Some x)
      loan_turned e x f = subst (λ (y : Reached). Turned k n t s (Some y)) (sym f) (turned_loan yes o w' p is (sym led ∙ e))

  module _ (no : next_ok s.left r places loans c.number ≡ false) (o : Option Passed) (w : GapPassed c.number s.byte c.size s.last gs s.region o) where
    pub chunk_stopped : o ≡ None → Turned k n (ground_of most k chunks loans places index regions n) s None
    chunk_stopped e = unturned (ended no o w e)

    pub chunk_turned : (p : Passed) → o ≡ Some p → (x : Reached) → x ≡ over_chunk s c.size p → Turned k n (ground_of most k chunks loans places index regions n) s (Some x)
    chunk_turned p is x f = subst (λ (y : Reached). Turned k n t s (Some y)) (sym f) (turned_chunk no o w p is)
