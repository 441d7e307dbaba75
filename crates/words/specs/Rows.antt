-- A lent table is records of one width. Record 0 is the table's own; behind it the others stand densely, the one at place i
-- as record i + 1. Every law of them (proofs/Records) is stated over the width.
use Rattle.std.specs.Prelude.{◌≡◌, List, [], ◌∷◌, ◌++◌, ℕ, zero, suc, ◌+◌, ◌*◌, ◌≤◌, length, take, drop}
use Rattle.std.proofs.lemmas.List.Edits.{sets}

-- how a record lies in words: enc has its words, dec reads the one behind the first `width` words of a table
pub record Layout (R : Type 0) : Type 0 where
  pub width : ℕ
  pub enc : R → List ℕ
  pub dec : List ℕ → R
  pub enc_length : (r : R) → length (enc r) ≡ width
  pub dec_enc : (own : List ℕ) (r : R) (rest : List ℕ) → length own ≡ width → dec (own ++ (enc r ++ rest)) ≡ r
  pub enc_dec : (t : List ℕ) → width + width ≤ length t → enc (dec t) ≡ take width (drop width t)

module _ {R : Type 0} (L : Layout R) where
  -- the record at place i
  abbrev pub row : ℕ → List ℕ → R
  row i t = L.dec (drop (L.width * i) t)

  -- the records of the first n places
  abbrev pub rows : ℕ → List ℕ → List R
  rows zero t = []
  rows (suc n) t = L.dec t ∷ rows n (drop L.width t)

  -- the records' words, one after the other
  abbrev pub flat : List R → List ℕ
  flat [] = []
  flat (r ∷ rs) = L.enc r ++ flat rs

  -- t with the records rs behind its own: every other word is as it was
  abbrev pub laid : List R → List ℕ → List ℕ
  laid rs t = take L.width t ++ (flat rs ++ drop (L.width + L.width * length rs) t)

  -- t with r's words stored over those of the record at place i
  abbrev pub written : ℕ → R → List ℕ → List ℕ
  written i r t = sets t (L.width + L.width * i) (L.enc r)

module _ {R : Type 0} where
  -- rs without the one at i
  abbrev pub remove_at : ℕ → List R → List R
  remove_at i rs = take i rs ++ drop (suc i) rs

  -- rs with r before the one at i
  abbrev pub insert_at : ℕ → R → List R → List R
  insert_at i r rs = take i rs ++ (r ∷ drop i rs)
