-- A turn of the walk over chunks, loans and free regions together.
use Rattle.std.specs.Prelude.{◌≡◌, Bool, ◌&&◌, Option, Some, List, ℕ, ◌+◌, ◌-◌, ◌*◌, ◌≤◌, ◌<◌, eqb, leb, ltb, length, drop, get_or}
use Rattle.words.specs.Rows.{rows}
use Rattle.counter.specs.Limits.{loans_most, chunks_most}
use Rattle.store_rules.specs.Loans.{loan_words}
use Rattle.store_rules.specs.declared.Loan.{Loan}
use Rattle.freelist_rules.specs.declared.Gap.{Gap}
use Rattle.freelist_rules.specs.Records.{chunk_words, region_words, chunk_row, gap_row}
use Rattle.freelist_rules.specs.Tables.{whole_at}
use Rattle.freelist_rules.specs.Threads.{thread_words, after_in, before_in, loan_by}
use Rattle.freelist_walk.specs.Left.{Ground, ground, Between, all_of, Left}
use Rattle.freelist_walk.specs.declared.passes.Passed.{Passed}
use Rattle.freelist_walk.specs.declared.turns.Reached.{Reached}

-- a loan is not empty, and ends within z bytes
unfoldable pub within : Loan → ℕ → Bool
within l z = ltb 0 l.size && leb (l.offset + l.size) z

-- what lies from p to x of chunk n is passed, or cannot be: the gap that is next then
pub record GapPassed (n p x u : ℕ) (gs : List Gap) (d : ℕ) (r : Option Passed) : Type 0 where
  pub on : (q : Passed) → r ≡ Some q → Between n p x u (drop d gs) (drop q.region gs)
  pub back : (more : List Gap) → Between n p x u (drop d gs) more → (q : Passed) × (r ≡ Some q)
  pub most : (q : Passed) → r ≡ Some q → q.region ≤ length gs

-- a loan of a chunk of z bytes is passed, and what lies before it: the byte and the gap that are next then
pub record LoanPassed (z p u : ℕ) (l : Loan) (gs : List Gap) (d : ℕ) (r : Option Passed) : Type 0 where
  pub on : (q : Passed) → r ≡ Some q → (0 < l.size) × (l.offset + l.size ≤ z) × (q.byte ≡ l.offset + l.size) × Between l.chunk p l.offset u (drop d gs) (drop q.region gs)
  pub back : (more : List Gap) → 0 < l.size → l.offset + l.size ≤ z → Between l.chunk p l.offset u (drop d gs) more → (q : Passed) × (r ≡ Some q)
  pub most : (q : Passed) → r ≡ Some q → q.region ≤ length gs

-- past the loan of record r, where p tells of its bytes
abbrev pub over_loan : Reached → ℕ → Passed → Reached
over_loan s r p =
    record {
      chunk = s.chunk;
      byte = p.byte;
      last = r;
      left = s.left - 1;
      region = p.region;
      whole = s.whole;
    }

-- past a chunk of z bytes, where p tells of what was left of it
abbrev pub over_chunk : Reached → ℕ → Passed → Reached
over_chunk s z p =
    record {
      chunk = s.chunk + 1;
      byte = 0;
      last = s.last;
      left = s.left;
      region = p.region;
      whole = s.whole + all_of s.byte z;
    }

-- the ground in the tables' words
abbrev pub ground_of : ℕ → ℕ → List ℕ → List ℕ → ℕ → List ℕ → List ℕ → ℕ → Ground
ground_of most k chunks loans places index regions n =
    ground most (rows chunk_row k chunks) loans places index (rows gap_row n regions) (get_or regions whole_at 0)

-- what is left to test where the walk stands
abbrev pub LeftAt : Ground → Reached → Type 0
LeftAt t s = Left t (drop s.chunk t.chunks) s.byte s.last s.left (drop s.region t.gaps) s.whole

-- the walk stands within k chunks, n gaps and so many places
pub record Stands (k n places : ℕ) (s : Reached) : Type 0 where
  pub chunk : s.chunk ≤ k
  pub region : s.region ≤ n
  pub last : s.last ≤ places
  pub whole : s.whole ≤ s.chunk

-- the first k chunks, the first `places` loans, an index of `most` loans and the first n regions are in their tables, and no more than
-- the limits allow
pub record Laid (most k n places : ℕ) (chunks loans index regions : List ℕ) : Type 0 where
  pub chunks_most_lem : k ≤ chunks_most
  pub loans_most_lem : most ≤ loans_most
  pub few : places ≤ most
  pub chunks_long : chunk_words + chunk_words * k ≤ length chunks
  pub loans_long : loan_words + loan_words * places ≤ length loans
  pub index_long : thread_words most ≤ length index
  pub regions_long : region_words + region_words * n ≤ length regions

-- record r is that of a loan, of so many that are left in the first `places` places, and of chunk c
unfoldable pub next_ok : ℕ → ℕ → ℕ → List ℕ → ℕ → Bool
next_ok left r places loans c = (ltb 0 left && ltb 0 r) && (leb r places && eqb (loan_by loans r).chunk c)

-- how many turns are left at most
abbrev pub togo : ℕ → Reached → ℕ
togo k s = (k - s.chunk) + s.left

-- one turn made, or none: what was left to test before it is what it tested and what is left then
pub record Turned (k n : ℕ) (t : Ground) (s : Reached) (r : Option Reached) : Type 0 where
  pub on : LeftAt t s → (q : Reached) × (r ≡ Some q) × LeftAt t q
  pub back : (q : Reached) → r ≡ Some q → LeftAt t q → LeftAt t s
  pub less : (q : Reached) → r ≡ Some q → togo k q < togo k s
  pub stands : (q : Reached) → r ≡ Some q → Stands k n t.places q

-- nothing is left where no chunk is
abbrev pub done_at : ℕ → List ℕ → List ℕ → ℕ → Reached → Bool
done_at most index regions n s =
    eqb s.left 0
    && (eqb (after_in most index s.last) 0
    && (eqb (before_in most index 0) s.last && (eqb s.region n && eqb s.whole (get_or regions whole_at 0))))
