-- What a loop has filled of a table, one store a turn: the words it has put are the front of what is to stand there.
use mathlib.Core.Path.{◌≡◌, ◌∙◌}
use mathlib.Core.List.{List, ◌∷◌, ◌++◌, append-nil}
use Prim.Native.Nat.{ℕ, suc, ◌+◌, ◌-◌, ◌≤◌, ◌<◌}
use native.Mathlib.Omega.{arith}
use native.Mathlib.Numerals.{add-one}
use lib.ListN.{length, get_or, take, drop, set, replicate, length-drop, length-replicate}
use lib.Seq.{length-take-le, drop-length, get_or-drop, paste, paste-suc}
use Rattle.words.specs.Words.{cell_of}
use Rattle.words.proofs.Filled.{put_next}
use Rattle.distinct.specs.Column.{column, column_from}

-- ---- a column gathered, a word a turn

column_from_lem : (t : List ℕ) (at w i n : ℕ) → i < n → column_from t at w i (n - i) ≡ get_or t (cell_of at w i) 0 ∷ column_from t at w (i + 1) (n - (i + 1))
column_from_lem t at w i n h = let e : n - i ≡ suc (n - (i + 1)) = omega arith in rw (e, add-one i)

pub column_next : (t f : List ℕ) (at w i n : ℕ) → i < n → n ≡ length f
    → column t at w n ≡ take i f ++ column_from t at w i (n - i)
    → column t at w n ≡ take (i + 1) (set f i (get_or t (cell_of at w i) 0)) ++ column_from t at w (i + 1) (n - (i + 1))
column_next t f at w i n h l e =
    put_next (column t at w n) f i (get_or t (cell_of at w i) 0) (column_from t at w (i + 1) (n - (i + 1))) (omega arith)
    (e ∙ rw (column_from_lem t at w i n h))

-- ---- words copied from one table to another, a word a turn

pub paste_next : (a t b : List ℕ) (src dst i : ℕ) → src + i < length a → dst + i < length t
    → b ≡ paste t dst (drop src a) i → set b (dst + i) (get_or a (src + i) 0) ≡ paste t dst (drop src a) (i + 1)
paste_next a t b src dst i h k e =
    rw (add-one i, e, ← get_or-drop src a i 0) (paste-suc t dst (drop src a) i 0 k (simp length-drop (omega arith)))

-- as many words as the table has, copied from its start on
pub paste_all : (a b c m : List ℕ) → c ≡ paste a 0 b (length a) → take (length a) b ≡ m → c ≡ m
paste_all a b c m p q =
    let e : 0 + length a ≡ length a = omega arith in
    p ∙ rw (e, drop-length a) (append-nil (take (length a) b) ∙ q)

-- ---- the front of a table of m words that are all z. The laws are stated of any m, so that no proof writes a table out

pub new_room : (n m z : ℕ) → n ≤ m → n ≤ length (replicate m z)
new_room n m z h = rw (length-replicate m z) h

pub new_front : (n m z : ℕ) → n ≤ m → length (take n (replicate m z)) ≡ n
new_front n m z h = length-take-le n (replicate m z) (new_room n m z h)

pub new_fits : (n m z : ℕ) → n ≤ m → length (take n (replicate m z)) ≤ length (replicate m z)
new_fits n m z h = rw (new_front n m z h, length-replicate m z) h
