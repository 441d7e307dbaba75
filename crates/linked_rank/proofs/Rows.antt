-- Rows written word by word: one number more, a row's last two words, one row more; as many words are left.
use mathlib.Core.Path.{◌≡◌, refl, ap, ◌∙◌}
use mathlib.Core.List.{List}
use Prim.Native.Nat.{ℕ, zero, suc, ◌+◌, ◌*◌}
use native.Mathlib.Nat.{add_comm}
use native.Mathlib.Numerals.{add-one}
use lib.ListN.{length, get_or, set, length-set}
use Rattle.counter.specs.Limits.{types_most, usages}
use Rattle.counter.specs.Paper.{Said}
use Rattle.usage_rules.specs.Ranking.{Out, out}
use Rattle.usage_rules.specs.declared.Row.{Row}
use Rattle.wire_rules.specs.Wire.{said_out}
use Rattle.linked_rank.specs.Rows.{row_at, types_out, row_out, no_row, rows_out}

-- with number n put too, one number more is written
pub types_more : (ts : List ℕ) (u n : ℕ) (w v x : List ℕ) → v ≡ types_out ts u n w → x ≡ set v (34 * u + n) (get_or ts n 0) → x ≡ types_out ts u (n + 1) w
unfolding types_out
types_more ts u n w v x e f = rw (add-one n) (f ∙ (λ j. set (e j) (add_comm (34 * u) n j) (get_or ts n 0)))

-- numbers, count and mask are a row
pub row_put : (r : Row) (u : ℕ) (w a b c : List ℕ) → a ≡ types_out r.types u types_most w → b ≡ set a (34 * u + 32) r.count → c ≡ set b (34 * u + 33) r.mask
    → c ≡ row_out r u w
unfolding row_out
row_put r u w a b c e f g = cc (add_comm 32 (34 * u), add_comm 33 (34 * u))

-- with row n put too, one row more is written
pub rows_more : (rs : List Row) (n : ℕ) (w v x : List ℕ) → v ≡ rows_out rs n w → x ≡ row_out (get_or rs n no_row) n v → x ≡ rows_out rs (n + 1) w
unfolding rows_out
rows_more rs n w v x e f = rw (add-one n) (f ∙ ap (row_out (get_or rs n no_row) n) e)

-- as many words are left
pub types_length : (ts : List ℕ) (u n : ℕ) (w : List ℕ) → length (types_out ts u n w) ≡ length w
unfolding types_out
types_length ts u zero w = refl
types_length ts u (suc n) w = length-set (types_out ts u n w) (row_at n u) (get_or ts n 0) ∙ types_length ts u n w

row_length : (r : Row) (u : ℕ) (w : List ℕ) → length (row_out r u w) ≡ length w
unfolding row_out
row_length r u w = simp length-set (types_length r.types u types_most w)

pub rows_length : (rs : List Row) (n : ℕ) (w : List ℕ) → length (rows_out rs n w) ≡ length w
unfolding rows_out
rows_length rs zero w = refl
rows_length rs (suc n) w = row_length (get_or rs n no_row) n (rows_out rs n w) ∙ rows_length rs n w

-- rows and answer are those of what ranking says
pub ranked_told : (o : Out) (s : Said) (rs : List Row) (w w' v v' : List ℕ) → out s rs ≡ o → w' ≡ rows_out rs usages w → v' ≡ said_out s v
    → (w' ≡ rows_out o.rows usages w) × (v' ≡ said_out o.said v)
ranked_told o s rs w w' v v' e f g = (f ∙ ap (λ (x : Out). rows_out x.rows usages w) e, g ∙ ap (λ (x : Out). said_out x.said v) e)
