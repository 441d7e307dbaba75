-- The place that a new pair of a level takes: it says nothing until then, and is the only one that was not in use and is.
use mathlib.Core.Path.{◌≡◌, ap, ◌∙◌}
use mathlib.Core.Bool.{true}
use mathlib.Core.Logic.{◌⊎◌, inl, inr, ⊎_elim}
use mathlib.Core.List.{List, [], ◌∷◌}
use Prim.Native.Nat.{ℕ, ◌+◌, ◌^◌, ◌%◌, ◌≤◌, ◌<◌}
use native.Mathlib.Nat.{mod-eq_of_lt}
use native.Mathlib.Omega.{arith}
use lib.ListN.{get_or}
use borrow.Author.Tests.{eqb-true}
use Rattle.lists.specs.Members.{Mem}
use Rattle.lists.proofs.Bools.{lt_or_le}
use Rattle.slabs.specs.Slab.{Chain}
use Rattle.slabs.specs.declared.Taken.{Taken}
use Rattle.slabs.proofs.Places.{insert_first, insert_next}
use Rattle.buddy_rules.specs.Level.{used_at, pair_words, off_at, field_at, ent_of, pair_in, slab_in, pair_taken, vacant_in, vacant_after, Good}
use Rattle.buddy_rules.proofs.Cells.{pair_used, pair_unused}

module _ (b pairs : ℕ) (t : List ℕ) (few : pairs ≤ 2 ^ 32) (G : Good b pairs t) where
  abbrev used : ℕ
  used = get_or t (b + used_at) 0

  abbrev last : ℕ
  last = (slab_in b t).vacant

  -- the one vacated last, or the next new one
  abbrev Again : Type 0
  Again = (last < used) × (pair_taken b t ≡ record { place = last; slab = record { places = used; vacant = vacant_after b t last } })

  abbrev New : Type 0
  New = pair_taken b t ≡ record { place = used; slab = record { places = used + 1; vacant = last } }

  cases : Again ⊎ New
  cases = by (lt_or_le last used)
    where
      by : (last < used) ⊎ (used ≤ last) → Again ⊎ New
      by (inl h) = inl (h, insert_first (slab_in b t) t (field_at b off_at) pair_words h)
      by (inr h) =
          let m : (used + 1) % 2 ^ 64 ≡ used + 1 = mod-eq_of_lt (omega (arith, G.parted.limit)) in
          inr (insert_next (slab_in b t) t (field_at b off_at) pair_words h ∙ rw m)

  -- the place is then one ever used, and no other place is that was not
  pub taken_used : (pair_taken b t).place < (pair_taken b t).slab.places
  taken_used = by cases
    where
      by : Again ⊎ New → (pair_taken b t).place < (pair_taken b t).slab.places
      by (inl c) = rw c.1 c.0
      by (inr c) = rw c (omega arith)

  pub taken_more : (x : ℕ) → x < used → x < (pair_taken b t).slab.places
  taken_more x h = by cases
    where
      by : Again ⊎ New → x < (pair_taken b t).slab.places
      by (inl c) = rw c.1 h
      by (inr c) = rw c (omega arith)

  pub taken_only : (x : ℕ) → (x ≡ (pair_taken b t).place → ⊥) → x < (pair_taken b t).slab.places → x < used
  taken_only x ne h = by cases
    where
      by : Again ⊎ New → x < used
      by (inl c) = omega (arith, ap (λ (z : Taken). z.slab.places) c.1)
      by (inr c) = ⊎_elim (λ k. k) (λ k. absurd (ne (omega (arith, ap (λ (z : Taken). z.place) c, ap (λ (z : Taken). z.slab.places) c)))) (lt_or_le x used)

  -- the place vacated last is vacant
  first_vacant : last < used → vacant_in b t last ≡ true
  first_vacant h = G.parted.vacant last (by G.parted.chained G.parted.chain)
    where
      by : (l : List ℕ) → Chain (vacant_after b t) last l → Mem last l
      by [] e = absurd (omega (arith, G.parted.limit))
      by (x ∷ l) c = inl c.0

  pub taken_vacant : (pair_in b t (pair_taken b t).place).tag ≡ 0
  taken_vacant = by cases
    where
      by : Again ⊎ New → (pair_in b t (pair_taken b t).place).tag ≡ 0
      by (inl c) = rw (c.1, pair_used b t last c.0) (eqb-true (ent_of b t last).tag 0 (first_vacant c.0))
      by (inr c) = rw (c, pair_unused b t used (omega arith))
