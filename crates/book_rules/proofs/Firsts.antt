-- An index with no loan in it, its mark and noughts: no word leads anywhere.
use mathlib.Core.Path.{◌≡◌, ap}
use Prim.Native.Nat.{ℕ, ◌≤◌, ◌<◌}
use native.Mathlib.Omega.{arith}
use Rattle.words.specs.Words.{blank}
use Rattle.words.proofs.Filled.{blank_other}
use Rattle.slabs.specs.Slab.{nowhere, place_of}
use Rattle.book_rules.specs.Book.{vacated_at, index_words, led_to, first_in, first_of}

module _ (mark n words : ℕ) (wide : index_words n ≤ words) where
  pub fresh_vacated : led_to (blank words mark 0) vacated_at ≡ nowhere
  fresh_vacated = ap place_of (blank_other words mark 0 vacated_at (omega arith) (omega arith))

  pub fresh_first : (i : ℕ) → i < n → first_in (blank words mark 0) i ≡ nowhere
  fresh_first i h = ap place_of (blank_other words mark 0 (first_of i) (omega arith) (omega arith))
