-- A pair's tag and the word of one of its sides are stored, as it leaves the ring or joins it: what the level shows then.
use mathlib.Core.Path.{◌≡◌, refl, sym, ap, ◌∙◌, subst}
use mathlib.Core.Logic.{inl, inr, ⊎_elim}
use mathlib.Core.List.{List, [], ◌∷◌}
use Prim.Native.Nat.{ℕ, ◌+◌, ◌≤◌, ◌<◌}
use native.Mathlib.Omega.{arith}
use lib.Dec.{eqb}
use lib.ListN.{length, get_or}
use borrow.Author.Tests.{ne_eqb}
use Rattle.lists.proofs.Bools.{same?}
use Rattle.slabs.specs.Slab.{place_of, Parted}
use Rattle.slabs.specs.declared.Slab.{Slab}
use Rattle.slabs.proofs.Places.{parted_same}
use Rattle.buddy_rules.specs.Nodes.{Ent, Side, L, R}
use Rattle.buddy_rules.specs.Level.{ring_at, used_at, vacated_at, pair_words, tag_at, chunk_at, off_at, left_at, right_at, next_at, prev_at, up_at, side_at, pair_cell, ent_of, pair_in, slab_in, vacant_in, vacant_after}
use Rattle.buddy_rules.proofs.Stores.{puts, kept, found}
use Rattle.buddy_rules.proofs.Rows.{tag_row}
use Rattle.buddy_rules.proofs.Cells.{Plain, Off, other_cell, plain_off, header_off, ent_same, pair_same}
use Rattle.buddy_rules.proofs.Rings.{SameLinks}

-- the entry with the tag n, and w as the word of side s
abbrev pub sided : ℕ → Side → ℕ → Ent → Ent
sided n L w e = record { tag = n; chunk = e.chunk; off = e.off; left = w; right = e.right; up = e.up }
sided n R w e = record { tag = n; chunk = e.chunk; off = e.off; left = e.left; right = w; up = e.up }

pub side_in_lem : (s : Side) → (2 < side_at s) × (side_at s < next_at)
side_in_lem L = (omega arith, omega arith)
side_in_lem R = (omega arith, omega arith)

-- ---- over a table u that has t's words but for links and head

module _ (b p n : ℕ) (s : Side) (w : ℕ) (t u : List ℕ) (same : (i : ℕ) → Off b i → get_or u i 0 ≡ get_or t i 0) (long : length u ≡ length t) where
  abbrev pub t' : List ℕ
  t' = puts u (tag_row b p n s w)

  left : (i : ℕ) → (i ≡ pair_cell b tag_at p → ⊥) → (i ≡ pair_cell b (side_at s) p → ⊥) → get_or t' i 0 ≡ get_or u i 0
  left i j k = kept u (tag_row b p n s w) i (j, (k, tt))

  pub links : SameLinks b u t'
  links =
      let h : side_at s < next_at = (side_in_lem s).1 in (
        left (b + ring_at) (λ e. omega arith) (λ e. omega arith),
        λ x. (left (pair_cell b next_at x) (λ e. omega arith) (λ e. omega arith), left (pair_cell b prev_at x) (λ e. omega arith) (λ e. omega arith)),
      )

  pub used : get_or t' (b + used_at) 0 ≡ get_or t (b + used_at) 0
  used =
      left (b + used_at) (λ e. omega arith) (λ e. omega arith)
      ∙ same (b + used_at) (header_off b used_at (omega arith) (omega arith))

  vacated : get_or t' (b + vacated_at) 0 ≡ get_or t (b + vacated_at) 0
  vacated =
      left (b + vacated_at) (λ e. omega arith) (λ e. omega arith)
      ∙ same (b + vacated_at) (header_off b vacated_at (omega arith) (omega arith))

  pub other : (x : ℕ) → (x ≡ p → ⊥) → (f : ℕ) → Plain f → get_or t' (pair_cell b f x) 0 ≡ get_or t (pair_cell b f x) 0
  other x ne f h =
      let k : side_at s < next_at = (side_in_lem s).1 in
      left (pair_cell b f x) (other_cell b f tag_at p x h (omega arith) ne) (other_cell b f (side_at s) p x h (omega arith) ne)
      ∙ same (pair_cell b f x) (plain_off b f x h)

  -- a field of p that is not stored
  field : (f : ℕ) → Plain f → (f ≡ tag_at → ⊥) → (f ≡ side_at s → ⊥) → get_or t' (pair_cell b f p) 0 ≡ get_or t (pair_cell b f p) 0
  field f h j k = left (pair_cell b f p) (λ e. j (omega arith)) (λ e. k (omega arith)) ∙ same (pair_cell b f p) (plain_off b f p h)

  module _ (h : pair_cell b pair_words p ≤ length t) where
    pub tag : (ent_of b t' p).tag ≡ n
    tag =
        let k : 2 < side_at s = (side_in_lem s).0 in
        found u [] (pair_cell b tag_at p) n ((pair_cell b (side_at s) p, w) ∷ []) (rw long (omega arith)) ((λ e. omega arith), tt)

    side : get_or t' (pair_cell b (side_at s) p) 0 ≡ w
    side =
        let k : side_at s < next_at = (side_in_lem s).1 in
        found u ((pair_cell b tag_at p, n) ∷ []) (pair_cell b (side_at s) p) w [] (rw long (omega arith)) tt

    low : (f : ℕ) → f < next_at → (f ≡ tag_at → ⊥) → (f ≡ side_at s → ⊥) → get_or t' (pair_cell b f p) 0 ≡ get_or t (pair_cell b f p) 0
    low f k = field f (inl k)

  -- nothing changes for the vacant places where p was in use and is
  pub parted : (pairs : ℕ) → pair_cell b pair_words p ≤ length t → 0 < n → 0 < (ent_of b t p).tag → Parted (vacant_in b t) (vacant_after b t) (slab_in b t) pairs → Parted (vacant_in b t') (vacant_after b t') (slab_in b t') pairs
  parted pairs h k l P =
      subst (λ (z : Slab). Parted (vacant_in b t') (vacant_after b t') z pairs) (λ j. record { places = sym used j; vacant = ap place_of (sym vacated) j })
      (parted_same (vacant_in b t) (vacant_in b t') (vacant_after b t) (vacant_after b t') (slab_in b t) pairs (λ x i. vacant x) (λ x i. chain x) P)
    where
      vacant : (x : ℕ) → vacant_in b t' x ≡ vacant_in b t x
      vacant x = ⊎_elim
          (λ e. rw e (ne_eqb (ent_of b t' p).tag 0 (λ q. omega (arith, tag h)) ∙ sym (ne_eqb (ent_of b t p).tag 0 (λ q. omega arith))))
          (λ ne. ap (λ m. eqb m 0) (other x ne tag_at (inl (omega arith))))
          (same? x p)

      chain : (x : ℕ) → vacant_after b t' x ≡ vacant_after b t x
      chain x =
          let k : 2 < side_at s = (side_in_lem s).0 in
          ⊎_elim (λ e. rw e (ap place_of (low h off_at (omega arith) (λ q. omega arith) (λ q. omega arith)))) (λ ne. ap place_of (other x ne off_at (inl (omega arith)))) (same? x p)

  pub others : (x : ℕ) → (x ≡ p → ⊥) → pair_in b t' x ≡ pair_in b t x
  others x ne = pair_same b b t t' x used (λ h. ent_same b b t t' x (other x ne))

-- what p says then
pub here : (b p n : ℕ) (s : Side) (w : ℕ) (t u : List ℕ) → ((i : ℕ) → Off b i → get_or u i 0 ≡ get_or t i 0) → length u ≡ length t → pair_cell b pair_words p ≤ length t → ent_of b (puts u (tag_row b p n s w)) p ≡ sided n s w (ent_of b t p)
here b p n L w t u same long h =
    let low : (f : ℕ) → f < left_at → (f ≡ tag_at → ⊥) → get_or (puts u (tag_row b p n L w)) (pair_cell b f p) 0 ≡ get_or t (pair_cell b f p) 0 = λ f k o. field b p n L w t u same long f (inl (omega arith)) o (λ e. omega arith) in
    λ j. record {
      tag = tag b p n L w t u same long h j;
      chunk = low chunk_at (omega arith) (λ e. omega arith) j;
      off = low off_at (omega arith) (λ e. omega arith) j;
      left = side b p n L w t u same long h j;
      right = field b p n L w t u same long right_at (inl (omega arith)) (λ e. omega arith) (λ e. omega arith) j;
      up = field b p n L w t u same long up_at (inr refl) (λ e. omega arith) (λ e. omega arith) j;
    }
here b p n R w t u same long h =
    let low : (f : ℕ) → f < right_at → (f ≡ tag_at → ⊥) → get_or (puts u (tag_row b p n R w)) (pair_cell b f p) 0 ≡ get_or t (pair_cell b f p) 0 = λ f k o. field b p n R w t u same long f (inl (omega arith)) o (λ e. omega arith) in
    λ j. record {
      tag = tag b p n R w t u same long h j;
      chunk = low chunk_at (omega arith) (λ e. omega arith) j;
      off = low off_at (omega arith) (λ e. omega arith) j;
      left = low left_at (omega arith) (λ e. omega arith) j;
      right = side b p n R w t u same long h j;
      up = field b p n R w t u same long up_at (inr refl) (λ e. omega arith) (λ e. omega arith) j;
    }
