-- A level whose own words are 0 is good: it has no ring, and none of its pairs was ever used. So is a fresh level.
use mathlib.Core.Path.{◌≡◌, ap, sym, ◌∙◌, subst}
use mathlib.Core.List.{List, [], ◌∷◌}
use Prim.Native.Nat.{ℕ, ◌+◌, ◌≤◌}
use native.Mathlib.Omega.{arith}
use lib.ListN.{length, get_or}
use Rattle.slabs.specs.Slab.{nowhere, place_of, Parted}
use Rattle.slabs.specs.declared.Slab.{Slab}
use Rattle.slabs.specs.declared.Taken.{Taken}
use Rattle.slabs.proofs.Links.{place_none}
use Rattle.slabs.proofs.Places.{parted_fresh, insert_next}
use Rattle.buddy_rules.specs.Level.{header_words, ring_at, used_at, vacated_at, off_at, pair_words, field_at, no_pair, pair_in, ring_head, slab_in, pair_taken, fresh_level, vacant_in, vacant_after, Good}
use Rattle.buddy_rules.proofs.Stores.{length_puts, found}
use Rattle.buddy_rules.proofs.Rows.{fresh_row, fresh_puts}
use Rattle.buddy_rules.proofs.Cells.{pair_unused}

module _ (b : ℕ) (t : List ℕ) (ring : get_or t (b + ring_at) 0 ≡ 0) (used : get_or t (b + used_at) 0 ≡ 0) (vacated : get_or t (b + vacated_at) 0 ≡ 0) where
  pub empty_head : ring_head b t ≡ nowhere
  empty_head = ap place_of ring ∙ place_none

  last : (slab_in b t).vacant ≡ nowhere
  last = ap place_of vacated ∙ place_none

  -- its first place is the next one taken
  pub empty_taken : (pair_taken b t).place ≡ 0
  empty_taken = ap (λ (x : Taken). x.place) (insert_next (slab_in b t) t (field_at b off_at) pair_words (omega (arith, used, last))) ∙ used

  pub empty_none : (p : ℕ) → pair_in b t p ≡ no_pair
  empty_none p = pair_unused b t p (omega (arith, used))

  pub empty_good : (pairs : ℕ) → Good b pairs t
  empty_good pairs = record {
    ring = [];
    rings = record { ring = record { closed = tt; distinct = tt }; first = empty_head };
    below = λ p m. absurd m;
    ready = λ p m. absurd m;
    all = λ p h k. absurd (omega (arith, used));
    parted =
        subst (λ (s : Slab). Parted (vacant_in b t) (vacant_after b t) s pairs)
        (λ j. record { places = sym used j; vacant = sym last j })
        (parted_fresh (vacant_in b t) (vacant_after b t) pairs);
  }

module _ (b : ℕ) (t : List ℕ) where
  pub fresh_length : length (fresh_level b t) ≡ length t
  fresh_length = ap length (fresh_puts b t) ∙ length_puts t (fresh_row b)

  -- where its own words are inside the table
  module _ (fits : b + header_words ≤ length t) where
    ring : get_or (fresh_level b t) (b + ring_at) 0 ≡ 0
    ring = ap (λ u. get_or u (b + ring_at) 0) (fresh_puts b t) ∙ found t [] (b + ring_at) 0 ((b + used_at, 0) ∷ (b + vacated_at, 0) ∷ []) (omega arith) ((λ e. omega arith), ((λ e. omega arith), tt))

    used : get_or (fresh_level b t) (b + used_at) 0 ≡ 0
    used = ap (λ u. get_or u (b + used_at) 0) (fresh_puts b t) ∙ found t ((b + ring_at, 0) ∷ []) (b + used_at) 0 ((b + vacated_at, 0) ∷ []) (omega arith) ((λ e. omega arith), tt)

    vacated : get_or (fresh_level b t) (b + vacated_at) 0 ≡ 0
    vacated = ap (λ u. get_or u (b + vacated_at) 0) (fresh_puts b t) ∙ found t ((b + ring_at, 0) ∷ (b + used_at, 0) ∷ []) (b + vacated_at) 0 [] (omega arith) tt

    pub fresh_head_lem : ring_head b (fresh_level b t) ≡ nowhere
    fresh_head_lem = empty_head b (fresh_level b t) ring used vacated

    pub fresh_taken : (pair_taken b (fresh_level b t)).place ≡ 0
    fresh_taken = empty_taken b (fresh_level b t) ring used vacated

    pub fresh_none : (p : ℕ) → pair_in b (fresh_level b t) p ≡ no_pair
    fresh_none = empty_none b (fresh_level b t) ring used vacated

    pub fresh_good : (pairs : ℕ) → Good b pairs (fresh_level b t)
    fresh_good = empty_good b (fresh_level b t) ring used vacated
