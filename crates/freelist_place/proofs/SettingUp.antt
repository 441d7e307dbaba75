-- Set-up's words are the tables of a store with nothing in it.
use mathlib.Core.Path.{◌≡◌, ap, ◌∙◌}
use mathlib.Core.List.{List, [], ◌∷◌}
use Prim.Native.Nat.{ℕ}
use native.Mathlib.Omega.{arith}
use lib.ListN.{length, set}
use Rattle.counter.specs.declared.settings.FreeListSettings.{FreeListSettings}
use Rattle.freelist_rules.specs.Tables.{Tables, tables, chunk_size_at, head_words, Lengths, marks}
use Rattle.freelist_outcomes.specs.SetUp.{fresh_head, fresh_tables}
use Rattle.words.specs.Words.{mark_at, blank}

pub head_fresh : (s : FreeListSettings) (t u v : List ℕ) → length t ≡ head_words → u ≡ set t mark_at marks.head → v ≡ set u chunk_size_at s.start → v ≡ fresh_head s
head_fresh s [] u v l p q = absurd (omega arith)
head_fresh s (a ∷ []) u v l p q = absurd (omega arith)
head_fresh s (a ∷ b ∷ []) u v l p q = q ∙ ap (λ (x : List ℕ). set x chunk_size_at s.start) p
head_fresh s (a ∷ b ∷ c ∷ t) u v l p q = absurd (omega arith)

-- a table of n words that is cleared is its mark and noughts
none : (t : List ℕ) (n m : ℕ) (u : List ℕ) → length t ≡ n → u ≡ blank (length t) m 0 → u ≡ blank n m 0
none t n m u l e = e ∙ ap (λ (k : ℕ). blank k m 0) l

pub fresh_done : (s : FreeListSettings) (t : Tables) (h l c i r : List ℕ) → Lengths s t → h ≡ fresh_head s → l ≡ blank (length t.loans) marks.loans 0 → c ≡ blank (length t.chunks) marks.chunks 0
    → r ≡ blank (length t.room) marks.room 0 → i ≡ blank (length t.index) marks.index 0 → tables h l c i r ≡ fresh_tables s
unfolding fresh_tables
fresh_done s t h l c i r long p q v w x =
    let q' = none t.loans _ marks.loans l long.loans q in
    let v' = none t.chunks _ marks.chunks c long.chunks v in
    let w' = none t.room _ marks.room r long.room w in
    let x' = none t.index _ marks.index i long.index x in
    (λ j. tables (p j) (q' j) (v' j) (x' j) (w' j))
