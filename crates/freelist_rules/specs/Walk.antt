-- The test of soundness: one walk over chunks, loans and regions together, and a look at each record.
use Rattle.std.specs.Prelude.{Bool, true, false, cond, ◌&&◌, ◌||◌, not, List, [], ◌∷◌, map, ℕ, zero, suc, ◌+◌, ◌*◌, ◌%◌, min, eqb, leb, ltb}
use Rattle.counter.specs.declared.settings.FreeListSettings.{FreeListSettings}
use Rattle.store_rules.specs.declared.Loan.{Loan}
use Rattle.freelist_rules.specs.Records.{Store, region}
use Rattle.store_rules.specs.declared.Chunk.{Chunk}
use Rattle.store_rules.specs.declared.Region.{Region}

-- ---- the walk

-- the loans of chunk n at the front of a list, and those behind them
abbrev pub front : ℕ → List Loan → List Loan
front n [] = []
front n (l ∷ ls) = cond (eqb l.chunk n) (l ∷ front n ls) []

abbrev pub behind : ℕ → List Loan → List Loan
behind n [] = []
behind n (l ∷ ls) = cond (eqb l.chunk n) (behind n ls) (l ∷ ls)

-- the loans of one chunk lie in order from p to z
abbrev pub within : ℕ → ℕ → List Loan → Bool
within p z [] = leb p z
within p z (l ∷ ls) = leb p l.offset && (ltb 0 l.size && within (l.offset + l.size) z ls)

-- every loan lies in a chunk, in the chunks' order
abbrev pub inside : List Chunk → List Loan → Bool
inside [] [] = true
inside [] (l ∷ ls) = false
inside (c ∷ cs) ls = within 0 c.size (front c.number ls) && inside cs (behind c.number ls)

-- what lies between the loans of chunk n from p to z is free, and then rest
abbrev pub gaps : ℕ → ℕ → ℕ → List Loan → List Region → List Region
gaps n p z [] rest = cond (ltb p z) (region n p z ∷ rest) rest
gaps n p z (l ∷ ls) rest =
    cond (ltb p l.offset) (region n p l.offset ∷ gaps n (l.offset + l.size) z ls rest) (gaps n (l.offset + l.size) z ls rest)

abbrev pub gaps_of : List Chunk → List Loan → List Region
gaps_of [] ls = []
gaps_of (c ∷ cs) ls = gaps c.number 0 c.size (front c.number ls) (gaps_of cs (behind c.number ls))

abbrev pub same : Region → Region → Bool
same a b = eqb a.chunk b.chunk && (eqb a.start b.start && eqb a.end b.end)

abbrev pub same_all : List Region → List Region → Bool
same_all [] [] = true
same_all [] (b ∷ bs) = false
same_all (a ∷ rs) [] = false
same_all (a ∷ rs) (b ∷ bs) = same a b && same_all rs bs

-- the loans lie in the chunks, and the regions are the gaps between them
unfoldable pub fills_ok : List Chunk → List Loan → List Region → Bool
fills_ok cs ls rs = inside cs ls && same_all rs (gaps_of cs ls)

-- ---- a look at each record

module _ {A : Type 0} where
  abbrev pub all_ok : (A → Bool) → List A → Bool
  all_ok p [] = true
  all_ok p (a ∷ xs) = p a && all_ok p xs

-- z is min(start x 2^k, final) for some k up to f, start being p
abbrev pub sized_from : ℕ → ℕ → ℕ → ℕ → Bool
sized_from zero p y z = eqb z (min p y)
sized_from (suc f) p y z = eqb z (min p y) || sized_from f (2 * p) y z

-- forty doublings reach 2^40 from 1
unfoldable pub sized_ok : FreeListSettings → ℕ → Bool
sized_ok s z = sized_from 40 s.start s.last z

abbrev pub units_ok : FreeListSettings → ℕ → Bool
units_ok s x = eqb (x % (s.store.atom + 1)) 0

-- the chunks' numbers rise from b on
abbrev pub numbers_rise : ℕ → List Chunk → Bool
numbers_rise b [] = true
numbers_rise b (c ∷ cs) = leb b c.number && numbers_rise (suc c.number) cs

unfoldable pub chunk_ok : FreeListSettings → Store → Chunk → Bool
chunk_ok s t c = leb c.number t.made && (sized_ok s c.size && leb c.size t.size)

unfoldable pub loan_ok : FreeListSettings → Store → Loan → Bool
loan_ok s t l = ltb 0 l.serial && (leb l.serial t.given && (units_ok s l.offset && units_ok s l.size))

-- no number stands twice, by comparing each with each: the code sorts
abbrev pub apart_from : ℕ → List ℕ → Bool
apart_from x [] = true
apart_from x (y ∷ l) = not (eqb x y) && apart_from x l

abbrev pub apart : List ℕ → Bool
apart [] = true
apart (x ∷ l) = apart_from x l && apart l

abbrev pub serials : List Loan → List ℕ
serials ls = map (λ (l : Loan). l.serial) ls

abbrev pub memories : List Chunk → List ℕ
memories cs = map (λ (c : Chunk). c.memory) cs

-- ---- the whole

abbrev pub sound_row : FreeListSettings → Store → List Bool
sound_row s t =
    sized_ok s t.size
    ∷ numbers_rise 1 t.chunks
    ∷ all_ok (chunk_ok s t) t.chunks
    ∷ all_ok (loan_ok s t) t.loans
    ∷ fills_ok t.chunks t.loans t.regions
    ∷ apart (memories t.chunks)
    ∷ apart (serials t.loans)
    ∷ []
