-- "The pair goes": a ready pair leaves the ring and its place is vacant. The level stays good, and no other pair says
-- anything else.
use mathlib.Core.Path.{◌≡◌, sym, ap, ◌∙◌, subst}
use mathlib.Core.Bool.{true, false}
use mathlib.Core.Logic.{inl, ⊎_elim}
use mathlib.Core.List.{List, [], ◌∷◌}
use Prim.Native.Nat.{ℕ, ◌+◌, ◌^◌, ◌≤◌, ◌<◌}
use native.Mathlib.Omega.{arith}
use lib.Dec.{eqb}
use lib.ListN.{length, get_or}
use borrow.Author.Tests.{eq-eqb, ne_eqb}
use Rattle.lists.specs.Members.{NotIn}
use Rattle.lists.proofs.Bools.{same?}
use Rattle.slabs.specs.Slab.{place_of, link_at, removed, removed_links, changed, Parted, record_of}
use Rattle.slabs.specs.declared.Slab.{Slab}
use Rattle.slabs.proofs.Links.{place_record}
use Rattle.slabs.proofs.Places.{changed_here, changed_other, link_here, link_other, parted_same, removed_parted}
use Rattle.buddy_rules.specs.Nodes.{Ent}
use Rattle.buddy_rules.specs.Level.{
  ring_at,
  used_at,
  vacated_at,
  pair_words,
  tag_at,
  off_at,
  next_at,
  prev_at,
  level_words,
  field_at,
  pair_cell,
  ent_of,
  pair_in,
  slab_in,
  leaves,
  dropped,
  vacant_in,
  vacant_after,
  Good,
}
use Rattle.buddy_rules.proofs.Stores.{stored, length_puts, kept, found}
use Rattle.buddy_rules.proofs.Rows.{dropped_row, dropped_puts}
use Rattle.buddy_rules.proofs.Cells.{
  Plain,
  other_cell,
  plain_off,
  header_off,
  leaves_off,
  leaves_length,
  ent_same,
  pair_same,
  pair_used,
  tagged_used,
}
use Rattle.buddy_rules.proofs.Rings.{good_both, SameLinks, used_below, ready_mem, left_ring}

-- ---- which words differ

module _ (b p : ℕ) (t : List ℕ) where
  pub dropped_length : length (dropped b p t) ≡ length t
  dropped_length = ap length (dropped_puts b p t) ∙ length_puts (leaves b p t) (dropped_row b p t) ∙ leaves_length b p t

  left : (i : ℕ) → NotIn i (stored (dropped_row b p t)) → get_or (dropped b p t) i 0 ≡ get_or (leaves b p t) i 0
  left i o = ap (λ u. get_or u i 0) (dropped_puts b p t) ∙ kept (leaves b p t) (dropped_row b p t) i o

  pub links : SameLinks b (leaves b p t) (dropped b p t)
  links = (
    left (b + ring_at) ((λ e. omega arith), ((λ e. omega arith), ((λ e. omega arith), tt))),
    λ x. (
      left (pair_cell b next_at x) ((λ e. omega arith), ((λ e. omega arith), ((λ e. omega arith), tt))),
      left (pair_cell b prev_at x) ((λ e. omega arith), ((λ e. omega arith), ((λ e. omega arith), tt))),
    ),
  )

  used : get_or (dropped b p t) (b + used_at) 0 ≡ get_or t (b + used_at) 0
  used =
      left (b + used_at) ((λ e. omega arith), ((λ e. omega arith), ((λ e. omega arith), tt)))
      ∙ leaves_off b p (b + used_at) t (header_off b used_at (omega arith) (omega arith))

  other : (x : ℕ) → (x ≡ p → ⊥) → (f : ℕ) → Plain f → get_or (dropped b p t) (pair_cell b f x) 0 ≡ get_or t (pair_cell b f x) 0
  other x ne f h =
      left (pair_cell b f x) (other_cell b f tag_at p x h (omega arith) ne, (other_cell b f off_at p x h (omega arith) ne, ((λ e. omega arith), tt)))
      ∙ leaves_off b p (pair_cell b f x) t (plain_off b f x h)

  module _ (h : pair_cell b pair_words p ≤ length t) where
    tag : (ent_of b (dropped b p t) p).tag ≡ 0
    tag =
        ap (λ u. (ent_of b u p).tag) (dropped_puts b p t)
        ∙ found (leaves b p t) [] (pair_cell b tag_at p) 0 ((pair_cell b off_at p, get_or t (b + vacated_at) 0) ∷ (b + vacated_at, record_of p) ∷ []) (rw (leaves_length b p t) (omega arith)) ((λ e. omega arith), ((λ e. omega arith), tt))

    after : (ent_of b (dropped b p t) p).off ≡ get_or t (b + vacated_at) 0
    after =
        ap (λ u. (ent_of b u p).off) (dropped_puts b p t)
        ∙ found (leaves b p t) ((pair_cell b tag_at p, 0) ∷ []) (pair_cell b off_at p) (get_or t (b + vacated_at) 0) ((b + vacated_at, record_of p) ∷ []) (rw (leaves_length b p t) (omega arith)) ((λ e. omega arith), tt)

    first : get_or (dropped b p t) (b + vacated_at) 0 ≡ record_of p
    first =
        ap (λ u. get_or u (b + vacated_at) 0) (dropped_puts b p t)
        ∙ found (leaves b p t) ((pair_cell b tag_at p, 0) ∷ (pair_cell b off_at p, get_or t (b + vacated_at) 0) ∷ []) (b + vacated_at) (record_of p) [] (rw (leaves_length b p t) (omega arith)) tt

-- ---- the level stays good

module _ (b pairs : ℕ) (t : List ℕ) (few : pairs ≤ 2 ^ 32) (fits : b + level_words pairs ≤ length t) (G : Good b pairs t) (p : ℕ) (r : 1 < (pair_in b t p).tag) where
  in_use_lem : p < get_or t (b + used_at) 0
  in_use_lem = tagged_used b t p (omega arith)

  inside : pair_cell b pair_words p ≤ length t
  inside = omega (arith, used_below b pairs t G p in_use_lem)

  -- the vacant places are those that were, and p
  vacant : (x : ℕ) → vacant_in b (dropped b p t) x ≡ changed (vacant_in b t) p true x
  vacant x = ⊎_elim
      (λ e. ap (vacant_in b (dropped b p t)) e ∙ eq-eqb (ent_of b (dropped b p t) p).tag 0 (tag b p t inside) ∙ sym (changed_here (vacant_in b t) p true x e))
      (λ ne. ap (λ n. eqb n 0) (other b p t x ne tag_at (inl (omega arith))) ∙ sym (changed_other (vacant_in b t) p true x ne))
      (same? x p)

  -- and p comes before the one vacated last until now
  chain : (x : ℕ) → vacant_after b (dropped b p t) x ≡ link_at (removed_links (slab_in b t) t (field_at b off_at) pair_words p) (field_at b off_at) pair_words x
  unfolding removed_links
  chain x = ⊎_elim
      (λ e. rw e (ap place_of (after b p t inside) ∙ sym (link_here t (field_at b off_at) pair_words p (slab_in b t).vacant (omega (arith, inside)))))
      (λ ne. ap place_of (other b p t x ne off_at (inl (omega arith))) ∙ sym (link_other t (field_at b off_at) pair_words p (record_of (slab_in b t).vacant) x (omega arith) ne))
      (same? x p)

  places : removed (slab_in b t) p ≡ slab_in b (dropped b p t)
  unfolding removed
  places = λ j. record { places = sym (used b p t) j; vacant = sym (ap place_of (first b p t inside) ∙ place_record p) j }

  parted : Parted (vacant_in b (dropped b p t)) (vacant_after b (dropped b p t)) (slab_in b (dropped b p t)) pairs
  parted =
      let z : vacant_in b t p ≡ false = ne_eqb (ent_of b t p).tag 0 (λ e. omega (arith, ap (λ (y : Ent). y.tag) (pair_used b t p in_use_lem))) in
      let P = removed_parted (vacant_in b t) t (field_at b off_at) pair_words (slab_in b t) pairs p G.parted in_use_lem z (omega (arith, inside)) (omega arith) in
      subst (λ (s : Slab). Parted (vacant_in b (dropped b p t)) (vacant_after b (dropped b p t)) s pairs) places
      (parted_same _ (vacant_in b (dropped b p t)) _ (vacant_after b (dropped b p t)) (removed (slab_in b t) p) pairs (λ x h. vacant x) (λ x h. chain x) P)

  pub dropped_good : Good b pairs (dropped b p t)
  dropped_good =
      good_both b pairs (dropped b p t)
      (left_ring b pairs t G few fits p (dropped b p t) (used b p t) (λ x ne. other b p t x ne tag_at (inl (omega arith))) (ready_mem b pairs t G p r) (links b p t) (omega (arith, tag b p t inside)))
      parted

  pub dropped_here : (pair_in b (dropped b p t) p).tag ≡ 0
  dropped_here = ap (λ (e : Ent). e.tag) (pair_used b (dropped b p t) p (rw (used b p t) in_use_lem)) ∙ tag b p t inside

  pub dropped_other : (x : ℕ) → (x ≡ p → ⊥) → pair_in b (dropped b p t) x ≡ pair_in b t x
  dropped_other x ne = pair_same b b t (dropped b p t) x (used b p t) (λ h. ent_same b b t (dropped b p t) x (other b p t x ne))
