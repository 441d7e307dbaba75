-- What is left to test on the way: the records that remain lead on, their loans and the gaps that remain fill what is left of the
-- chunks, each gap names the loan in front of it, and so many of them are all of their chunk.
use Rattle.std.specs.Prelude.{◌≡◌, true, false, cond, ◌&&◌, ◌⊎◌, List, ◌∷◌, map, ℕ, ◌+◌, ◌-◌, ◌≤◌, ◌<◌, eqb, ltb, length}
use Rattle.lists.specs.Members.{Mem}
use Rattle.slabs.specs.Slab.{vacant_at}
use Rattle.store_rules.specs.Loans.{loan_words, size_at}
use Rattle.store_rules.specs.declared.Chunk.{Chunk}
use Rattle.freelist_rules.specs.declared.Gap.{Gap}
use Rattle.freelist_rules.specs.Records.{region}
use Rattle.freelist_rules.specs.Pieces.{All}
use Rattle.freelist_rules.specs.Rest.{rest}
use Rattle.freelist_rules.specs.Threads.{after_in, before_in, loan_by, Leads, gap, region_in, free_of, front_of, wholes}

-- what the walk goes over: chunks, gaps, and the tables of loans and index; so many gaps are said to be all of their chunk
pub record Ground : Type 0 where
  pub most : ℕ
  pub places : ℕ
  pub loans : List ℕ
  pub index : List ℕ
  pub chunks : List Chunk
  pub gaps : List Gap
  pub whole : ℕ

abbrev pub ground : ℕ → List Chunk → List ℕ → ℕ → List ℕ → List Gap → ℕ → Ground
ground n cs loans places index gs whole =
    record { most = n; places = places; loans = loans; index = index; chunks = cs; gaps = gs; whole = whole }

-- what lies from p to x of chunk n is nothing, or the first of the gaps, with u in front of it; and more gaps follow
abbrev pub Between : ℕ → ℕ → ℕ → ℕ → List Gap → List Gap → Type 0
Between n p x u gs more = ((p ≡ x) × (gs ≡ more)) ⊎ ((p < x) × (gs ≡ gap (region n p x) u ∷ more))

-- 1 where what is left of a chunk of z bytes from byte p on is all of it, and not empty
abbrev pub all_of : ℕ → ℕ → ℕ
all_of p z = cond (eqb p 0 && ltb 0 z) 1 0

-- at byte p of the first of the chunks cs, behind record u: m loans and the gaps gs are still to be passed, w whole ones were met
pub record Left (t : Ground) (cs : List Chunk) (p u m : ℕ) (gs : List Gap) (w : ℕ) : Type 0 where
  pub records : List ℕ
  pub leads : Leads (after_in t.most t.index) (before_in t.most t.index) u records
  pub right : (r : ℕ) → Mem r records → (0 < r) × (r ≤ t.places) × (vacant_at t.loans size_at loan_words (r - 1) ≡ false)
  pub many : length records ≡ m
  pub fills : rest cs p (map (loan_by t.loans) records) (free_of gs) ≡ true
  pub fronts : All (λ (g : Gap). g.front ≡ front_of t.loans u records (region_in g)) gs
  pub counted : t.whole ≡ w + wholes t.chunks (free_of gs)
