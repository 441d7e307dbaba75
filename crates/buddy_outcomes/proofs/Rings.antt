-- The rings and the vacant chains of a sound buddy store, in its words: each level's ring has exactly the pairs with one free side,
-- none of them twice, and each place that was used is either in use or in its chain.
use mathlib.Core.Path.{◌≡◌, refl, ap, ◌∙◌}
use mathlib.Core.Bool.{Bool, true, false, not, ◌&&◌}
use mathlib.Core.Logic.{◌⊎◌, inl, inr, ⊎_elim, ◌↔◌}
use Prim.Native.Nat.{ℕ, ◌+◌, ◌<◌}
use native.Mathlib.Omega.{arith}
use lib.Dec.{eqb, ltb}
use lib.ListN.{get_or}
use borrow.Author.Tests.{eqb-true, eqb-false, eq-eqb, ne_eqb, lt-ltb}
use Rattle.lists.specs.Members.{Mem, Distinct}
use Rattle.lists.proofs.Bools.{told, same?, true_false, and_both}
use Rattle.counter.specs.declared.settings.BuddySettings.{BuddySettings}
use Rattle.slabs.specs.Slab.{nowhere, Parted}
use Rattle.slabs.specs.declared.Slab.{Slab}
use Rattle.buddy_rules.specs.Nodes.{Ent, tag_of, Inside}
use Rattle.buddy_rules.proofs.Frees.{Sided, pair_sided}
use Rattle.buddy_rules.specs.Level.{used_at, ent_of}
use Rattle.buddy_rules.proofs.Cells.{pair_used}
use Rattle.buddy_rules.specs.Tables.{Tables, places_in, chunk_places_in, levels_in, level_from, pairs_in, chunk_size_in, loan_in, live_in, held_in, high_in, top_in, vacant_loan, vacant_chunk}
use Rattle.buddy_rules.specs.Sound.{Sound}
use Rattle.buddy_rules.proofs.Stands.{Met, rep_met}
use Rattle.buddy_outcomes.proofs.Booked.{and_no}

-- one of the pair's two nodes is free: its word is 0, the other's is not
abbrev pub OneFree : Ent → Type 0
OneFree e = ((e.left ≡ 0) × (e.right ≡ 0 → ⊥)) ⊎ ((e.left ≡ 0 → ⊥) × (e.right ≡ 0))

-- ---- a pair's tag tells its words

-- ready exactly where one is free
abbrev Tells : Ent → Type 0
Tells e = (1 < e.tag) ↔ OneFree e

sided_tells : (e : Ent) → Sided e → Tells e
sided_tells e s = go (eqb e.left 0) (eqb e.right 0) refl refl s.0
  where
    go : (x y : Bool) → eqb e.left 0 ≡ x → eqb e.right 0 ≡ y → e.tag ≡ tag_of x y → Tells e
    go true true a b q = absurd (s.1 (eqb-true e.left 0 a) (eqb-true e.right 0 b))
    go true false a b q = ((λ i. inl (eqb-true e.left 0 a, eqb-false e.right 0 b)), λ i. omega (arith, q))
    go false true a b q = ((λ i. inr (eqb-false e.left 0 a, eqb-true e.right 0 b)), λ i. omega (arith, q))
    go false false a b q = (
      (λ i. absurd (omega (arith, q))),
      λ i. ⊎_elim (λ z. absurd (eqb-false e.left 0 a z.0)) (λ z. absurd (eqb-false e.right 0 b z.1)) i,
    )

module _ (s : BuddySettings) (t : Tables) (sound : Sound s t) where
  -- each pair in use lies in a held chunk
  used_in : (l p : ℕ) → l < levels_in t → 0 < (pairs_in s t l p).tag → Inside s.minimal (pairs_in s t l p) (pairs_in s t l p).chunk 0 (high_in s t (pairs_in s t l p).chunk)
  used_in l p h g = let o = sound.standing.owned l p h g in (refl, omega arith, omega (arith, (sound.standing.sized (pairs_in s t l p).chunk o.0).0, o.2))

  -- it is that of a node of its tree
  used_met : (l p : ℕ) → l < levels_in t → 0 < (pairs_in s t l p).tag
      → Met s.minimal (pairs_in s t) (high_in s t (pairs_in s t l p).chunk) 0 nowhere (top_in s t (pairs_in s t l p).chunk) (sound.standing.trees (pairs_in s t l p).chunk) l p
  used_met l p h g =
      let S = sound.standing in
      let c = (pairs_in s t l p).chunk in
      let o = S.owned l p h g in
      rep_met s.minimal (pairs_in s t) (loan_in s t) c (high_in s t c) 0 nowhere (top_in s t c) (S.trees c) (S.rep c o.0) l p o.1 g (used_in l p h g)

  -- and its tag tells its words
  used_tells : (l p : ℕ) → l < levels_in t → 0 < (pairs_in s t l p).tag → Tells (pairs_in s t l p)
  used_tells l p h g =
      let S = sound.standing in
      let c = (pairs_in s t l p).chunk in
      let o = S.owned l p h g in
      sided_tells (pairs_in s t l p)
      (pair_sided s.minimal (pairs_in s t) (loan_in s t) c (high_in s t c) 0 nowhere (top_in s t c) l p (S.trees c) (S.wf c o.0) (S.rep c o.0) o.1 g (used_in l p h g))

  -- ---- rings

  -- a level's ring has exactly the pairs in use with one free side
  pub ring_exactly : (l : ℕ) (below : l < levels_in t) (p : ℕ) → Mem p (sound.good l below).ring
      ↔ ((p < get_or t.room (level_from s l + used_at) 0) × (0 < (pairs_in s t l p).tag) × OneFree (pairs_in s t l p))
  ring_exactly l below p = (there, back)
    where
      same : p < get_or t.room (level_from s l + used_at) 0 → (pairs_in s t l p).tag ≡ (ent_of (level_from s l) t.room p).tag
      same h = ap (λ (e : Ent). e.tag) (pair_used (level_from s l) t.room p h)

      there : Mem p (sound.good l below).ring → (p < get_or t.room (level_from s l + used_at) 0) × (0 < (pairs_in s t l p).tag) × OneFree (pairs_in s t l p)
      there m =
          let h = (sound.good l below).below p m in
          let g : 1 < (pairs_in s t l p).tag = omega (arith, same h, (sound.good l below).ready p m) in
          let k : 0 < (pairs_in s t l p).tag = omega arith in
          (h, k, (used_tells l p below k).0 g)

      back : (p < get_or t.room (level_from s l + used_at) 0) × (0 < (pairs_in s t l p).tag) × OneFree (pairs_in s t l p) → Mem p (sound.good l below).ring
      back w = let g : 1 < (pairs_in s t l p).tag = (used_tells l p below w.1).1 w.2 in (sound.good l below).all p w.0 (omega (arith, same w.0))

  -- and none of them twice
  pub ring_once : (l : ℕ) (below : l < levels_in t) → Distinct (sound.good l below).ring
  ring_once l below = (sound.good l below).rings.ring.distinct

  -- ---- places

  -- a place that is not vacant is not in the chain
  not_chained : (dead : ℕ → Bool) (next : ℕ → ℕ) (b : Slab) (most : ℕ) (P : Parted dead next b most) (p : ℕ) → dead p ≡ false → Mem p P.chained → ⊥
  not_chained dead next b most P p e m = true_false (dead p) (P.vacant p m) e

  -- a pair place that was used: a pair stands there, which is that of a node of a held chunk's tree and lies in that chunk, or it
  -- is vacant and in its level's chain, never both
  pub place_either : (l : ℕ) (below : l < levels_in t) (p : ℕ) → p < get_or t.room (level_from s l + used_at) 0
      → ((0 < (pairs_in s t l p).tag) × (held_in t (pairs_in s t l p).chunk ≡ true) × (l < high_in s t (pairs_in s t l p).chunk) × ((pairs_in s t l p).off < chunk_size_in t (pairs_in s t l p).chunk)
      × Met s.minimal (pairs_in s t) (high_in s t (pairs_in s t l p).chunk) 0 nowhere (top_in s t (pairs_in s t l p).chunk) (sound.standing.trees (pairs_in s t l p).chunk) l p
      × (Mem p (sound.good l below).parted.chained → ⊥))
      ⊎ (((pairs_in s t l p).tag ≡ 0) × Mem p (sound.good l below).parted.chained)
  place_either l below p h =
      let e : (pairs_in s t l p).tag ≡ (ent_of (level_from s l) t.room p).tag = ap (λ (x : Ent). x.tag) (pair_used (level_from s l) t.room p h) in
      let P = (sound.good l below).parted in
      ⊎_elim
      (λ z. inr (e ∙ z, P.all p h (eq-eqb (ent_of (level_from s l) t.room p).tag 0 z)))
      (λ z.
      let g : 0 < (pairs_in s t l p).tag = omega arith in
      let o = sound.standing.owned l p below g in
      inl (g, o.0, o.1, o.2, used_met l p below g, not_chained _ _ _ _ P p (ne_eqb (ent_of (level_from s l) t.room p).tag 0 z)))
      (same? (ent_of (level_from s l) t.room p).tag 0)

  -- a loan place that was used: a loan stands there, or it is vacant and in the chain, never both
  pub loan_place_either : (k : ℕ) → k < places_in t
      → ((live_in t k ≡ true) × (Mem k sound.loans_parted.chained → ⊥)) ⊎ ((live_in t k ≡ false) × Mem k sound.loans_parted.chained)
  loan_place_either k h =
      let P = sound.loans_parted in
      ⊎_elim
      (λ z. inr (ap (λ (b : Bool). ltb k (places_in t) && not b) z ∙ and_no (ltb k (places_in t)) false refl, P.all k h z))
      (λ z. inl (and_both _ _ (lt-ltb k (places_in t) h) (ap not z), not_chained _ _ _ _ P k z))
      (told (vacant_loan t k))

  -- a chunk place that was used: a chunk is held there, or it is vacant and in the chain, never both
  pub chunk_place_either : (c : ℕ) → c < chunk_places_in t
      → ((held_in t c ≡ true) × (Mem c sound.chunks_parted.chained → ⊥)) ⊎ ((held_in t c ≡ false) × Mem c sound.chunks_parted.chained)
  chunk_place_either c h =
      let P = sound.chunks_parted in
      ⊎_elim
      (λ z. inr (ap (λ (b : Bool). ltb c (chunk_places_in t) && not b) z ∙ and_no (ltb c (chunk_places_in t)) false refl, P.all c h z))
      (λ z. inl (and_both _ _ (lt-ltb c (chunk_places_in t) h) (ap not z), not_chained _ _ _ _ P c z))
      (told (vacant_chunk t c))
