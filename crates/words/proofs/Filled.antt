-- What a loop has filled of a table, one store a turn: the words that it has put are the front of what is to stand there.
use mathlib.Core.Path.{◌≡◌, sym, ap, ◌∙◌}
use mathlib.Core.List.{List, [], ◌∷◌, ◌++◌, append_assoc}
use Prim.Native.Nat.{ℕ, ◌+◌, ◌<◌}
use native.Mathlib.Omega.{arith}
use native.Mathlib.Numerals.{add-one}
use lib.ListN.{length, take, get_or, set, replicate, length-set, length-replicate, get_or-replicate}
use lib.Seq.{take-suc-set, get_or-set_same, get_or-set_other}
use Rattle.words.specs.Words.{mark_at, blank}

-- the next word of what is to stand there, put after those that do
pub put_next : (whole t : List ℕ) (k v : ℕ) (rest : List ℕ) → k < length t → whole ≡ take k t ++ (v ∷ rest) → whole ≡ take (k + 1) (set t k v) ++ rest
put_next whole t k v rest h e = e ∙ rw (add-one k, take-suc-set t k v h) (sym (append_assoc (take k t) (v ∷ []) rest))

-- ---- a table with its mark, and every other word the same

pub blank_put : (n m v : ℕ) (x y : List ℕ) → x ≡ replicate n v → y ≡ set x mark_at m → y ≡ blank n m v
unfolding blank
blank_put n m v x y e f = f ∙ ap (λ (t : List ℕ). set t mark_at m) e

module _ (n m v : ℕ) where
  pub blank_long : length (blank n m v) ≡ n
  unfolding blank
  blank_long = length-set (replicate n v) mark_at m ∙ length-replicate n v

  pub blank_mark : 0 < n → get_or (blank n m v) mark_at 0 ≡ m
  unfolding blank
  blank_mark h = get_or-set_same (replicate n v) mark_at m 0 (omega (arith, length-replicate n v))

  pub blank_other : (i : ℕ) → 0 < i → i < n → get_or (blank n m v) i 0 ≡ v
  unfolding blank
  blank_other i h k = get_or-set_other (replicate n v) mark_at i m 0 (λ e. omega arith) ∙ get_or-replicate n i v 0 k
