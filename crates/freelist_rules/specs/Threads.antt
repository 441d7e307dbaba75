-- The loans of a free list by place: each record of the loans leads to the one behind it, by chunk and offset, and back; record 0
-- stands before the first and behind the last. A free region names the record of the loan in front of it.
use Rattle.std.specs.Prelude.{◌≡◌, Bool, true, false, cond, ◌&&◌, List, [], ◌∷◌, ◌++◌, map, ℕ, zero, suc, ◌+◌, ◌-◌, ◌*◌, ◌≤◌, ◌<◌, eqb, ltb, get_or, set, take, drop}
use Rattle.lists.specs.Members.{Mem}
use Rattle.words.specs.Rows.{row, remove_at}
use Rattle.slabs.specs.Slab.{vacant_at}
use Rattle.store_rules.specs.Loans.{loan_words, size_at, loan_row}
use Rattle.store_rules.specs.declared.Chunk.{Chunk}
use Rattle.store_rules.specs.declared.Loan.{Loan}
use Rattle.store_rules.specs.declared.Region.{Region}
use Rattle.book_rules.specs.Book.{index_words}
use Rattle.freelist_rules.specs.declared.Gap.{Gap}
use Rattle.freelist_rules.specs.Records.{region}
use Rattle.freelist_rules.specs.Pieces.{piece, lo, All}
use Rattle.freelist_rules.specs.Join.{meets, join}
use Rattle.freelist_rules.specs.Release.{wholly, goes}

-- ---- in the index, behind the book's entries: a column of the records behind, and one of those in front; a word for each record

abbrev pub after_from : ℕ → ℕ
after_from n = index_words n

abbrev pub before_from : ℕ → ℕ
before_from n = index_words n + (n + 1)

-- how many words an index of n loans takes
abbrev pub columns : ℕ
columns = 2

abbrev pub thread_words : ℕ → ℕ
thread_words n = index_words n + columns * (n + 1)

module _ (n : ℕ) where
  abbrev pub after_in : List ℕ → ℕ → ℕ
  after_in index r = get_or index (after_from n + r) 0

  abbrev pub before_in : List ℕ → ℕ → ℕ
  before_in index r = get_or index (before_from n + r) 0

  -- record r stands between u and w
  unfoldable pub threaded : ℕ → ℕ → ℕ → List ℕ → List ℕ
  threaded u r w index =
      set (set (set (set index (after_from n + r) w) (before_from n + r) u) (after_from n + u) r) (before_from n + w) r

  -- record r is gone from between its two neighbours
  unfoldable pub unthreaded : ℕ → List ℕ → List ℕ
  unthreaded r index = set (set index (after_from n + before_in index r) (after_in index r)) (before_from n + after_in index r) (before_in index r)

-- the loan of record r
abbrev pub loan_by : List ℕ → ℕ → Loan
loan_by loans r = row loan_row (r - 1) loans

-- from u on the records lead through those of the list and back at each step, and then to record 0 and back from it
abbrev pub Leads : (ℕ → ℕ) → (ℕ → ℕ) → ℕ → List ℕ → Type 0
Leads after before u [] = (after u ≡ 0) × (before 0 ≡ u)
Leads after before u (r ∷ rs) = (after u ≡ r) × (before r ≡ u) × Leads after before r rs

-- the records of these loans, in their order: from record 0 on through all of them and back to it; they are of places in use
pub record Threaded (n places : ℕ) (loans index : List ℕ) (ls : List Loan) : Type 0 where
  pub records : List ℕ
  pub leads : Leads (after_in n index) (before_in n index) 0 records
  pub right : (r : ℕ) → Mem r records → (0 < r) × (r ≤ places) × (vacant_at loans size_at loan_words (r - 1) ≡ false)
  pub are : map (loan_by loans) records ≡ ls

-- ---- a free region, and the record of the last loan in front of it, also one of an earlier chunk; 0 where there is none

abbrev pub gap : Region → ℕ → Gap
gap r f = record { chunk = r.chunk; start = r.start; end = r.end; front = f }

abbrev pub region_in : Gap → Region
region_in g = region g.chunk g.start g.end

abbrev pub free_of : List Gap → List Region
free_of gs = map region_in gs

abbrev pub no_gap : Gap
no_gap = gap (region 0 0 0) 0

-- the last of the records, in the order of their loans, whose loan begins before the region; u where none does
abbrev pub front_of : List ℕ → ℕ → List ℕ → Region → ℕ
front_of loans u [] g = u
front_of loans u (r ∷ rs) g = cond (ltb (lo (piece (loan_by loans r))) (lo g)) (front_of loans r rs g) u

-- each gap names the loan in front of it
abbrev pub Fronts : List ℕ → List ℕ → List Gap → Type 0
Fronts loans records gs = All (λ (g : Gap). g.front ≡ front_of loans 0 records (region_in g)) gs

-- those of the list, from the first on, that name a as the loan in front name b from now on, up to the first that does not
abbrev pub renamed : ℕ → ℕ → List Gap → List Gap
renamed a b [] = []
renamed a b (g ∷ gs) = cond (eqb g.front a) (gap (region_in g) b ∷ renamed a b gs) (g ∷ gs)

-- and of a list those from the i-th on
abbrev pub renamed_from : ℕ → ℕ → ℕ → List Gap → List Gap
renamed_from i a b gs = take i gs ++ renamed a b (drop i gs)

-- ---- what an ask leaves of them: gap i ends at x, where the block of record r starts, or is gone; the gaps behind the block that
-- named the loan in front of gap i name r

unfoldable pub cut_gaps : ℕ → ℕ → ℕ → List Gap → List Gap
cut_gaps x i r gs =
    cond (ltb (get_or gs i no_gap).start x)
    (renamed_from (suc i) (get_or gs i no_gap).front r (set gs i (gap (region (get_or gs i no_gap).chunk (get_or gs i no_gap).start x) (get_or gs i no_gap).front)))
    (renamed_from i (get_or gs i no_gap).front r (remove_at i gs))

-- ---- what a return leaves of them: b, which record r was on loan on, is put among them by its place and joined with both
-- neighbours; u is in front of it, and of the gaps behind it that named r

abbrev pub absorb_gap : Region → ℕ → ℕ → List Gap → List Gap
absorb_gap b r u [] = gap b u ∷ []
absorb_gap b r u (g ∷ gs) = cond (meets b (region_in g)) (gap (join b (region_in g)) u ∷ renamed r u gs) (gap b u ∷ renamed r u (g ∷ gs))

unfoldable pub insert_gap : Region → ℕ → ℕ → List Gap → List Gap
insert_gap b r u [] = gap b u ∷ []
insert_gap b r u (g ∷ gs) =
    cond (ltb (lo b) (lo (region_in g))) (absorb_gap b r u (g ∷ gs))
    (cond (meets (region_in g) b) (absorb_gap (join (region_in g) b) r u gs) (g ∷ insert_gap b r u gs))

-- the region that b is part of then
abbrev pub absorbed : Region → List Region → Region
absorbed b [] = b
absorbed b (r ∷ rs) = cond (meets b r) (join b r) b

unfoldable pub around : Region → List Region → Region
around b [] = b
around b (r ∷ rs) = cond (ltb (lo b) (lo r)) (absorbed b (r ∷ rs)) (cond (meets r b) (absorbed (join r b) rs) (around b rs))

-- ---- what a release leaves of them

unfoldable pub staying_gaps : List Chunk → Bool → List Gap → List Gap
staying_gaps cs spare [] = []
staying_gaps cs spare (g ∷ gs) = cond (goes cs spare (region_in g) (free_of gs)) (staying_gaps cs spare gs) (g ∷ staying_gaps cs spare gs)

-- ---- how many of the regions are all of their chunk

abbrev pub wholes : List Chunk → List Region → ℕ
wholes cs [] = 0
wholes cs (r ∷ rs) = cond (wholly cs r) (suc (wholes cs rs)) (wholes cs rs)

-- ---- the test: the records followed by `after`, at most k of them, while each leads back and is of a place in use

-- the records that are met; an end that is not record 0 is told by what is followed next
unfoldable pub followed : (ℕ → ℕ) → ℕ → ℕ → List ℕ
followed after u zero = []
followed after u (suc k) = cond (eqb (after u) 0) [] (after u ∷ followed after (after u) k)

-- from u on they lead back at each step, are of the first `places` places and in use, and end at record 0
unfoldable pub leads_ok : (ℕ → ℕ) → (ℕ → ℕ) → (ℕ → Bool) → ℕ → ℕ → List ℕ → Bool
leads_ok after before free places u [] = eqb (after u) 0 && eqb (before 0) u
leads_ok after before free places u (r ∷ rs) =
    eqb (before r) u && (ltb (r - 1) places && (cond (free (r - 1)) false (leads_ok after before free places r rs)))

-- each gap names the loan in front of it
unfoldable pub fronts_ok : List ℕ → List ℕ → List Gap → Bool
fronts_ok loans records [] = true
fronts_ok loans records (g ∷ gs) = eqb g.front (front_of loans 0 records (region_in g)) && fronts_ok loans records gs
