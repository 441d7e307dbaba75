-- What a caller is told of a release: a count, and as many memory numbers in the lent list. 01, "freelist.rs": "every
-- wholly free chunk except the one of the last region is released".
use Rattle.std.specs.Prelude.{◌≡◌, ◌↔◌, ℕ, ◌+◌, length, take, drop}
use mathlib.Core.List.{List, Memᴰ}
use Rattle.counter.specs.declared.settings.FreeListSettings.{FreeListSettings}
pub use Rattle.store_rules.specs.Outcomes.{to_free}
use Rattle.freelist_rules.specs.Tables.{Tables, store_of}
use Rattle.store_rules.specs.declared.Chunk.{Chunk}

-- a return or a clean-up that says `released n` has written n memory numbers, those of the chunks that were held and are
-- held no more; places past the count are untouched
pub record Told (s : FreeListSettings) (t t' : Tables) (list list' : List ℕ) (n : ℕ) : Type 0 where
  pub count : length (store_of s t').chunks + n ≡ length (store_of s t).chunks
  pub numbers : (m : ℕ) → Memᴰ m (take n list') ↔ ((c : Chunk) × Memᴰ c (store_of s t).chunks × (c.memory ≡ m) × (Memᴰ c (store_of s t').chunks → ⊥))
  pub rest : drop n list' ≡ drop n list
  pub long : length list' ≡ length list
