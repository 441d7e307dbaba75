-- When a free-list store is sound, as 01 defines it.
use Rattle.std.specs.Prelude.{◌≡◌, ℕ, suc, ◌+◌, ◌*◌, ◌^◌, ◌%◌, ◌≤◌, ◌<◌, min}
use Rattle.counter.specs.declared.settings.FreeListSettings.{FreeListSettings}
use Rattle.store_rules.specs.declared.Loan.{Loan}
use Rattle.freelist_rules.specs.Records.{Store}
use Rattle.freelist_rules.specs.Pieces.{piece, free, loaned, held, lo, hi, Rising, All, Differ}
use Rattle.store_rules.specs.declared.Chunk.{Chunk}
use Rattle.store_rules.specs.declared.Region.{Region}

-- a multiple of the atom unit
abbrev pub Units : FreeListSettings → ℕ → Type 0
Units s x = x % (s.store.atom + 1) ≡ 0

-- "min(start x 2^k, final)"
abbrev pub Sized : FreeListSettings → ℕ → Type 0
Sized s z = (k : ℕ) × (z ≡ min (s.start * 2 ^ k) s.last)

pub record Sound (s : FreeListSettings) (t : Store) : Type 0 where
  -- "blocks on loan and free pieces fill each held chunk without gap or overlap": at every byte, the loans and the free
  -- regions that hold it are as many as the held chunks that have it, which is one or none
  pub fills : (n x : ℕ) → loaned n x t.loans + free n x t.regions ≡ held n x t.chunks
  -- loans, free regions and chunks stand in order and are not empty; "no joinable pieces": between two free regions lies
  -- something
  pub loans_rise : Rising (λ (l : Loan). lo (piece l)) (λ (l : Loan). hi (piece l)) 0 0 t.loans
  pub regions_rise : Rising lo hi 1 0 t.regions
  pub chunks_rise : Rising (λ (c : Chunk). c.number) (λ (c : Chunk). suc c.number) 0 1 t.chunks
  -- "loans and chunks only numbers already given out", "loans have distinct serials", "held memory numbers differ"
  pub chunks_made : All (λ (c : Chunk). c.number ≤ t.made) t.chunks
  pub memories_differ : Differ (λ (c : Chunk). c.memory) t.chunks
  pub serials_given : All (λ (l : Loan). (0 < l.serial) × (l.serial ≤ t.given)) t.loans
  pub serials_differ : Differ (λ (l : Loan). l.serial) t.loans
  -- "a free list's, and its chunk size now, are min(start x 2^k, final)", "every chunk is at most the chunk size"
  pub now_sized : Sized s t.size
  pub chunks_sized : All (λ (c : Chunk). Sized s c.size × (c.size ≤ t.size)) t.chunks
  -- "alignment to atom"
  pub loans_units : All (λ (l : Loan). Units s l.offset × Units s l.size) t.loans
  pub regions_units : All (λ (r : Region). Units s r.start × Units s r.end) t.regions
