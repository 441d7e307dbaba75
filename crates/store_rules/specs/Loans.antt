-- A loan in words: 01, "A block carries serial, chunk, offset, size."
use Rattle.std.specs.Prelude.{◌≡◌, refl, cond, List, [], ◌∷◌, ◌++◌, ℕ, ◌≤◌, eqb, length, take, drop, get_or}
use Rattle.std.proofs.Common.{arith, length-drop, get_or-drop}
use Rattle.words.specs.Rows.{Layout, rows}
use Rattle.store_rules.specs.declared.Loan.{Loan}

-- of the table's own record, behind its mark: serials given, and loan places ever used
abbrev pub given_at : ℕ
given_at = 1

abbrev pub places_at : ℕ
places_at = 2

-- how many words a loan takes, and where those of the one at place 0 stand: behind the table's own record
abbrev pub loan_words : ℕ
loan_words = 4

abbrev pub serial_at : ℕ
serial_at = 4

abbrev pub chunk_at : ℕ
chunk_at = 5

abbrev pub offset_at : ℕ
offset_at = 6

abbrev pub size_at : ℕ
size_at = 7

abbrev pub loan : ℕ → ℕ → ℕ → ℕ → Loan
loan serial chunk offset size = record { serial = serial; chunk = chunk; offset = offset; size = size }

abbrev pub no_loan : Loan
no_loan = loan 0 0 0 0

abbrev pub words_of : Loan → List ℕ
words_of l = l.serial ∷ l.chunk ∷ l.offset ∷ l.size ∷ []

abbrev pub loan_of : List ℕ → Loan
loan_of t = loan (get_or t serial_at 0) (get_or t chunk_at 0) (get_or t offset_at 0) (get_or t size_at 0)

-- four words behind four others, read and written again
whole : (t : List ℕ) → 4 ≤ length t → get_or t 0 0 ∷ get_or t 1 0 ∷ get_or t 2 0 ∷ get_or t 3 0 ∷ [] ≡ take 4 t
whole [] h = absurd (omega arith)
whole (a ∷ []) h = absurd (omega arith)
whole (a ∷ b ∷ []) h = absurd (omega arith)
whole (a ∷ b ∷ c ∷ []) h = absurd (omega arith)
whole (a ∷ b ∷ c ∷ d ∷ t) h = refl

pub read_again : (t : List ℕ) → 8 ≤ length t → words_of (loan_of t) ≡ take 4 (drop 4 t)
read_again t h =
    rw (← get_or-drop 4 t 0 0, ← get_or-drop 4 t 1 0, ← get_or-drop 4 t 2 0, ← get_or-drop 4 t 3 0) (whole (drop 4 t) (simp length-drop (omega arith)))

pub written_again : (own : List ℕ) (l : Loan) (rest : List ℕ) → length own ≡ 4 → loan_of (own ++ (words_of l ++ rest)) ≡ l
written_again [] l rest h = absurd (omega (arith, h))
written_again (a ∷ []) l rest h = absurd (omega (arith, h))
written_again (a ∷ b ∷ []) l rest h = absurd (omega (arith, h))
written_again (a ∷ b ∷ c ∷ []) l rest h = absurd (omega (arith, h))
written_again (a ∷ b ∷ c ∷ d ∷ []) l rest h = refl
written_again (a ∷ b ∷ c ∷ d ∷ e ∷ own) l rest h = absurd (omega (arith, h))

abbrev pub loan_row : Layout Loan
loan_row = record { width = loan_words; enc = words_of; dec = loan_of; enc_length = λ l. refl; dec_enc = written_again; enc_dec = read_again }

-- no block is empty: a record with size 0 is that of a vacant place. Those of the others
abbrev pub on_loan : List Loan → List Loan
on_loan [] = []
on_loan (l ∷ ls) = cond (eqb l.size 0) (on_loan ls) (l ∷ on_loan ls)

-- the loans in the first n places of a table
unfoldable pub loans_of : ℕ → List ℕ → List Loan
loans_of n t = on_loan (rows loan_row n t)
