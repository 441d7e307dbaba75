-- A free-list store as lists of records, and its records in words.
use Rattle.std.specs.Prelude.{◌≡◌, refl, List, [], ◌∷◌, ◌++◌, ℕ, ◌≤◌, length, take, drop, get_or}
use Rattle.std.proofs.Common.{arith, length-drop, get_or-drop}
use Rattle.words.specs.Rows.{Layout}
use Rattle.store_rules.specs.Loans as Loans
use Rattle.store_rules.specs.declared.Loan.{Loan}
pub use Rattle.store_rules.specs.Views.{region, chunk}
use Rattle.store_rules.specs.declared.Chunk.{Chunk}
use Rattle.store_rules.specs.declared.Region.{Region}
use Rattle.freelist_rules.specs.declared.Gap.{Gap}

-- serials given, chunk numbers given, chunk size now; loans and regions by chunk and place, chunks by number
pub record Store : Type 0 where
  pub given : ℕ
  pub made : ℕ
  pub size : ℕ
  pub loans : List Loan
  pub chunks : List Chunk
  pub regions : List Region

-- ---- in words: how many each takes, and where those of the first stand, behind the table's own record

abbrev pub chunk_words : ℕ
chunk_words = 3

abbrev pub chunk_number_at : ℕ
chunk_number_at = 3

abbrev pub chunk_memory_at : ℕ
chunk_memory_at = 4

abbrev pub chunk_bytes_at : ℕ
chunk_bytes_at = 5

abbrev pub region_words : ℕ
region_words = 4

abbrev pub region_chunk_at : ℕ
region_chunk_at = 4

abbrev pub region_start_at : ℕ
region_start_at = 5

abbrev pub region_end_at : ℕ
region_end_at = 6

abbrev pub region_front_at : ℕ
region_front_at = 7

abbrev pub chunk_of : List ℕ → Chunk
chunk_of t = chunk (get_or t chunk_number_at 0) (get_or t chunk_memory_at 0) (get_or t chunk_bytes_at 0)

abbrev pub gap_of : List ℕ → Gap
gap_of t =
    record { chunk = get_or t region_chunk_at 0; start = get_or t region_start_at 0; end = get_or t region_end_at 0; front = get_or t region_front_at 0 }

abbrev pub words_of_chunk : Chunk → List ℕ
words_of_chunk c = c.number ∷ c.memory ∷ c.size ∷ []

abbrev pub words_of_gap : Gap → List ℕ
words_of_gap g = g.chunk ∷ g.start ∷ g.end ∷ g.front ∷ []

-- three words behind three others, read and written again
whole : (t : List ℕ) → 3 ≤ length t → get_or t 0 0 ∷ get_or t 1 0 ∷ get_or t 2 0 ∷ [] ≡ take 3 t
whole [] h = absurd (omega arith)
whole (a ∷ []) h = absurd (omega arith)
whole (a ∷ b ∷ []) h = absurd (omega arith)
whole (a ∷ b ∷ c ∷ t) h = refl

pub read_again : (t : List ℕ) → 6 ≤ length t → get_or t 3 0 ∷ get_or t 4 0 ∷ get_or t 5 0 ∷ [] ≡ take 3 (drop 3 t)
read_again t h = rw (← get_or-drop 3 t 0 0, ← get_or-drop 3 t 1 0, ← get_or-drop 3 t 2 0) (whole (drop 3 t) (simp length-drop (omega arith)))

-- the words behind three others
pub three : (own : List ℕ) → length own ≡ 3 → (a : ℕ) × (b : ℕ) × (c : ℕ) × (own ≡ a ∷ b ∷ c ∷ [])
three [] h = absurd (omega (arith, h))
three (a ∷ []) h = absurd (omega (arith, h))
three (a ∷ b ∷ []) h = absurd (omega (arith, h))
three (a ∷ b ∷ c ∷ []) h = (a, b, c, refl)
three (a ∷ b ∷ c ∷ d ∷ own) h = absurd (omega (arith, h))

pub chunk_again : (own : List ℕ) (c : Chunk) (rest : List ℕ) → length own ≡ 3 → chunk_of (own ++ (words_of_chunk c ++ rest)) ≡ c
chunk_again own c rest h = rw (three own h).3

pub gap_again : (own : List ℕ) (g : Gap) (rest : List ℕ) → length own ≡ 4 → gap_of (own ++ (words_of_gap g ++ rest)) ≡ g
gap_again [] g rest h = absurd (omega (arith, h))
gap_again (a ∷ own) g rest h = rw (three own (omega (arith, h))).3

abbrev pub chunk_row : Layout Chunk
chunk_row = record { width = chunk_words; enc = words_of_chunk; dec = chunk_of; enc_length = λ c. refl; dec_enc = chunk_again; enc_dec = read_again }

abbrev pub gap_row : Layout Gap
gap_row = record { width = region_words; enc = words_of_gap; dec = gap_of; enc_length = λ g. refl; dec_enc = gap_again; enc_dec = Loans.read_again }
