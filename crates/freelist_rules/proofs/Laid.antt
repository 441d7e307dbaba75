-- Records laid from the front of a table and counted in its own record, once over the layout: a free list's chunks and its regions.
use mathlib.Core.Path.{◌≡◌, sym, ap, ◌∙◌}
use mathlib.Core.List.{List}
use Prim.Native.Nat.{ℕ, ◌+◌, ◌*◌, ◌≤◌, ◌<◌}
use native.Mathlib.Omega.{arith}
use lib.ListN.{length, get_or, set, length-set}
use lib.Seq.{get_or-set_same, get_or-set_other}
use Rattle.words.specs.Rows.{Layout, rows, laid}
use Rattle.words.proofs.Records.{length_laid, own_laid, rows_laid, rows_own}

module _ {R : Type 0} (L : Layout R) (at : ℕ) (own : at < L.width) (rs : List R) (t : List ℕ) (room : L.width + L.width * length rs ≤ length t) where
  abbrev counted : List ℕ
  counted = set (laid L rs t) at (length rs)

  laid_length : length (laid L rs t) ≡ length t
  laid_length = length_laid L rs t room

  pub counted_length : length counted ≡ length t
  counted_length = length-set (laid L rs t) at (length rs) ∙ laid_length

  pub counted_count : get_or counted at 0 ≡ length rs
  counted_count = get_or-set_same (laid L rs t) at (length rs) 0 (omega (arith, laid_length))

  pub counted_rows : rows L (get_or counted at 0) counted ≡ rs
  counted_rows =
      ap (λ (k : ℕ). rows L k counted) counted_count
      ∙ rows_own L (length rs) at (length rs) (laid L rs t) own (omega (arith, laid_length))
      ∙ rows_laid L rs t room

  -- the other words of the table's own record stay
  pub counted_own : (j : ℕ) → j < L.width → (j ≡ at → ⊥) → get_or counted j 0 ≡ get_or t j 0
  counted_own j h o = get_or-set_other (laid L rs t) at j (length rs) 0 o ∙ own_laid L rs t j 0 (omega arith) h

  -- and another of them written too
  module _ (k v : ℕ) (within : k < L.width) (other : k ≡ at → ⊥) where
    abbrev noted : List ℕ
    noted = set counted k v

    pub noted_length : length noted ≡ length t
    noted_length = length-set counted k v ∙ counted_length

    pub noted_count : get_or noted at 0 ≡ length rs
    noted_count = get_or-set_other counted k at v 0 (λ e. other (sym e)) ∙ counted_count

    pub noted_here : get_or noted k 0 ≡ v
    noted_here = get_or-set_same counted k v 0 (omega (arith, counted_length))

    pub noted_rows : rows L (get_or noted at 0) noted ≡ rs
    noted_rows =
        ap (λ (n : ℕ). rows L n noted) (get_or-set_other counted k at v 0 (λ e. other (sym e)))
        ∙ rows_own L (get_or counted at 0) k v counted within (omega (arith, counted_length, ap (λ (n : ℕ). L.width * n) counted_count))
        ∙ counted_rows

    pub noted_own : (j : ℕ) → j < L.width → (j ≡ at → ⊥) → (j ≡ k → ⊥) → get_or noted j 0 ≡ get_or t j 0
    noted_own j h o p = get_or-set_other counted k j v 0 p ∙ counted_own j h o
