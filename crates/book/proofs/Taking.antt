-- The place that a loan takes next, as the code reads it.
use Rattle.std.proofs.Common.{◌≡◌, ℕ, ◌+◌, ◌%◌, ◌^◌, ◌<◌, ◌≤◌, true, false, ltb, List, sym, ap, ◌∙◌, arith, le-ltb, lt-ltb}
use Rattle.slabs.specs.Slab.{link_at, inserted}
use Rattle.slabs.specs.declared.Taken.{Taken}
use Rattle.book_rules.specs.Book.{entry_words, vacated_at, vacant_after_at, led_to, taken_of}

abbrev taking : ℕ → ℕ → ℕ → Taken
taking place places vacant = record { place = place; slab = record { places = places; vacant = vacant } }

-- the place vacated last is `last`
module _ (places : ℕ) (index : List ℕ) (last : ℕ) (at : last ≡ led_to index vacated_at) where
  pub taken_last : last < places → (next : ℕ) → next ≡ link_at index vacant_after_at entry_words last → taking last places next ≡ taken_of places index
  unfolding inserted
  taken_last h next e =
      let f : ltb (led_to index vacated_at) places ≡ true = lt-ltb (led_to index vacated_at) places (omega (arith, at)) in
      let g : next ≡ link_at index vacant_after_at entry_words (led_to index vacated_at) = e ∙ ap (link_at index vacant_after_at entry_words) at in
      (λ j. taking (at j) places (g j)) ∙ sym (simp f)

  pub taken_new : places ≤ last → (more : ℕ) → more ≡ (places + 1) % 2 ^ 64 → taking places more last ≡ taken_of places index
  unfolding inserted
  taken_new h more e =
      let f : ltb (led_to index vacated_at) places ≡ false = le-ltb (led_to index vacated_at) places (omega (arith, at)) in
      (λ j. taking places (e j) (at j)) ∙ sym (simp f)
