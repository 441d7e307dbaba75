-- Records read word by word are read whole.
use mathlib.Core.Path.{◌≡◌, ap, ◌∙◌}
use mathlib.Core.List.{List}
use Prim.Native.Nat.{ℕ, ◌+◌, ◌*◌}
use native.Mathlib.Omega.{arith}
use lib.ListN.{get_or, drop}
use Rattle.words.specs.Rows.{row}
use Rattle.words.proofs.Records.{cell_row}
use Rattle.freelist_rules.specs.Records.{chunk, chunk_words, chunk_number_at, chunk_memory_at, chunk_bytes_at, chunk_row}

module _ (t : List ℕ) (i : ℕ) where
  -- word k of the record at i, of records of w words
  word : (w k : ℕ) → get_or t (w * i + k) 0 ≡ get_or (drop (w * i) t) k 0
  word w k = ap (λ (j : ℕ). get_or t j 0) (omega arith) ∙ cell_row t k w i

  pub chunk_read : chunk (get_or t (chunk_words * i + chunk_number_at) 0) (get_or t (chunk_words * i + chunk_memory_at) 0) (get_or t (chunk_words * i + chunk_bytes_at) 0) ≡ row chunk_row i t
  chunk_read =
      let x = word chunk_words chunk_number_at in
      let y = word chunk_words chunk_memory_at in
      let z = word chunk_words chunk_bytes_at in
      (λ j. chunk (x j) (y j) (z j))
