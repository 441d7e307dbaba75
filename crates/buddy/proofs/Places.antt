-- Which places a loan and a chunk take next does not hang on the levels: found before these grow, they are the same after.
use mathlib.Core.Path.{◌≡◌, refl, ap, ◌∙◌}
use mathlib.Core.Bool.{cond}
use mathlib.Core.List.{List}
use Prim.Native.Nat.{ℕ, ◌+◌, ◌-◌, ◌%◌, ◌^◌, ◌≤◌}
use native.Mathlib.Omega.{arith}
use lib.Dec.{ltb}
use lib.ListN.{get_or}
use Rattle.words.specs.Words.{cell_of}
use Rattle.counter.specs.Limits.{levels_most}
use Rattle.counter.specs.declared.settings.BuddySettings.{BuddySettings}
use Rattle.slabs.specs.Slab.{place_of, inserted, link_at}
use Rattle.slabs.specs.declared.Slab.{Slab}
use Rattle.book_rules.specs.Book.{taken_of}
use Rattle.buddy_rules.specs.Tables.{Tables, levels_in, places_in, chunk_places_in, chunks_from, place_at, after_at, place_words, chunk_slab}
use Rattle.buddy_outcomes.specs.Ask.{chunk_taken, fresh_levels, grown_tables}
use Rattle.buddy_outcomes.proofs.Same.{freshened}

inserted_same : (z : Slab) (x y : List ℕ) (f w : ℕ) → link_at x f w z.vacant ≡ link_at y f w z.vacant → inserted z x f w ≡ inserted z y f w
unfolding inserted
inserted_same z x y f w e =
    ap (λ (v : ℕ). cond (ltb z.vacant z.places) (record { place = z.vacant; slab = record { places = z.places; vacant = v } })
    (record { place = z.places; slab = record { places = (z.places + 1) % 2 ^ 64; vacant = z.vacant } })) e

module _ (s : BuddySettings) (t : Tables) (n : ℕ) where
  pub grown_next : taken_of (places_in (grown_tables s n t)) (grown_tables s n t).index ≡ taken_of (places_in t) t.index
  unfolding grown_tables
  grown_next = refl

  pub grown_taken : levels_in t ≤ n → n ≤ levels_most → chunk_taken s (grown_tables s n t) ≡ chunk_taken s t
  unfolding grown_tables
  grown_taken more most =
      let made = freshened s (levels_in t) (n - levels_in t) t.room (omega arith) in
      let u : List ℕ = fresh_levels s (levels_in t) (n - levels_in t) t.room in
      let b : get_or u (chunks_from s) 0 ≡ get_or t.room (chunks_from s) 0 = made.past (chunks_from s) (omega arith) in
      (λ j. inserted (record { places = chunk_places_in t; vacant = place_of (b j) }) u (place_at s after_at) place_words)
      ∙ inserted_same (chunk_slab s t) u t.room (place_at s after_at) place_words (ap place_of (made.past (cell_of (place_at s after_at) place_words (chunk_slab s t).vacant) (omega arith)))
