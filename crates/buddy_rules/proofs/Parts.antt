-- A level in a longer table and its words alone: its pairs say the same, it is good in both or in neither, and what is done to
-- it in the table is done to its words, and to no others.
use mathlib.Core.Path.{◌≡◌, refl, sym, ap, ◌∙◌, subst}
use mathlib.Core.Bool.{false}
use mathlib.Core.Logic.{◌⊎◌, inl, inr, ◌↔◌}
use mathlib.Core.List.{List, ◌∷◌, ◌++◌}
use Prim.Native.Nat.{ℕ, ◌+◌, ◌*◌, ◌≤◌, ◌<◌}
use native.Mathlib.Nat.{mul-suc}
use native.Mathlib.Omega.{arith}
use lib.Dec.{eqb}
use lib.ListN.{length, get_or, drop, length-drop}
use lib.Seq.{length-take-le, get_or-take, get_or-drop}
use borrow.Author.Tests.{eqb-false}
use Rattle.lists.specs.Members.{Mem}
use Rattle.lists.proofs.Bools.{lt_or_le}
use Rattle.slabs.specs.Slab.{nowhere, place_of, record_of, link_at, Parted}
use Rattle.slabs.specs.declared.Slab.{Slab}
use Rattle.slabs.proofs.Places.{parted_same, insert_first, insert_next}
use Rattle.ring_rules.proofs.Rings.{ring_same, ring_near}
use Rattle.buddy_rules.specs.Nodes.{Side}
use Rattle.buddy_rules.specs.Levels.{side_of}
use Rattle.buddy_rules.specs.Level.{header_words, ring_at, used_at, vacated_at, pair_words, tag_at, chunk_at, off_at, left_at, right_at, up_at, ready_tag, next_at, prev_at, side_at, level_words, field_at, pair_cell, ent_of, pair_in, ring_head, slab_in, pair_taken, dropped, backed, acquired, added, fresh_level, vacant_in, vacant_after, Good, part, level_start}
use Rattle.buddy_rules.proofs.Cells.{plain_in, ent_same, pair_same, tagged_used}
use Rattle.buddy_rules.proofs.Rings.{used_below, ready_mem, head_mem}
use Rattle.buddy_rules.proofs.Rows.{
  before,
  after,
  joined_row,
  leaves_row,
  between_row,
  joins_row,
  dropped_row,
  dropped_row_lem,
  tag_row,
  backed_row,
  acquired_row,
  entered_row,
  added_row,
  added_puts,
  fresh_row,
  fresh_puts,
}
use Rattle.buddy_rules.proofs.Stored.{side_in_lem}
use Rattle.buddy_rules.proofs.Within.{Moved, moved_append, moved_either, Within, within}

-- ---- two tables that have the words of one level, from b and from b' on

module _ (b b' pairs : ℕ) (t t' : List ℕ) (same : (i : ℕ) → i < level_words pairs → get_or t' (b' + i) 0 ≡ get_or t (b + i) 0) where
  cell_as : (f p : ℕ) → f < pair_words → p < pairs → get_or t' (pair_cell b' f p) 0 ≡ get_or t (pair_cell b f p) 0
  cell_as f p h k =
      ap (λ i. get_or t' i 0) (omega arith)
      ∙ same (header_words + f + pair_words * p) (omega arith)
      ∙ ap (λ i. get_or t i 0) (omega arith)

  link_as : (f p : ℕ) → f < pair_words → p < pairs → link_at t' (field_at b' f) pair_words p ≡ link_at t (field_at b f) pair_words p
  link_as f p h k = ap place_of (cell_as f p h k)

  ent_as : (p : ℕ) → p < pairs → ent_of b' t' p ≡ ent_of b t p
  ent_as p h = ent_same b b' t t' p (λ f k. cell_as f p (plain_in f k) h)

  used_as : get_or t' (b' + used_at) 0 ≡ get_or t (b + used_at) 0
  used_as = same used_at (omega arith)

  slab_as : slab_in b t ≡ slab_in b' t'
  slab_as = λ j. record { places = sym used_as j; vacant = ap place_of (sym (same vacated_at (omega arith))) j }

  good_as : Good b pairs t → Good b' pairs t'
  good_as G =
      let under : (x : ℕ) → x < get_or t (b + used_at) 0 → x < pairs = used_below b pairs t G in
      let tag : (x : ℕ) → x < get_or t (b + used_at) 0 → (ent_of b' t' x).tag ≡ (ent_of b t x).tag = λ x h. cell_as tag_at x (omega arith) (under x h) in
      record {
        ring = G.ring;
        rings = record {
          ring =
              ring_same _ _ _ _ G.ring
              (λ x m. (link_as next_at x (omega arith) (under x (G.below x m)), link_as prev_at x (omega arith) (under x (G.below x m))))
              G.rings.ring;
          first = ap place_of (same ring_at (omega arith)) ∙ G.rings.first;
        };
        below = λ x m. rw used_as (G.below x m);
        ready = λ x m. rw (tag x (G.below x m)) (G.ready x m);
        all = λ x h k. let i : x < get_or t (b + used_at) 0 = rw used_as at h in G.all x i (rw (tag x i) at k);
        parted =
            subst (λ (s : Slab). Parted (vacant_in b' t') (vacant_after b' t') s pairs) slab_as
            (parted_same (vacant_in b t) (vacant_in b' t') (vacant_after b t) (vacant_after b' t') (slab_in b t) pairs (λ x h. ap (λ n. eqb n 0) (tag x h)) (λ x h. link_as off_at x (omega arith) (under x h)) G.parted);
      }

-- ---- level l of a table

module _ (pairs l : ℕ) (t : List ℕ) where
  abbrev b : ℕ
  b = level_start pairs l

  abbrev v : List ℕ
  v = part pairs l t

  pub part_length : level_start pairs (l + 1) ≤ length t → length (part pairs l t) ≡ level_words pairs
  part_length h = length-take-le (level_words pairs) (drop b t) (rw (length-drop b t) (omega (arith, mul-suc (level_words pairs) l)))

  pub part_word : (i : ℕ) → i < level_words pairs → get_or (part pairs l t) i 0 ≡ get_or t (level_start pairs l + i) 0
  part_word i h = get_or-take (level_words pairs) (drop b t) i 0 h ∙ get_or-drop b t i 0

  word_out : (i : ℕ) → i < level_words pairs → get_or v (0 + i) 0 ≡ get_or t (b + i) 0
  word_out i h = ap (λ k. get_or v k 0) (omega arith) ∙ part_word i h

  pub part_ent : (p : ℕ) → p < pairs → ent_of (level_start pairs l) t p ≡ ent_of 0 (part pairs l t) p
  part_ent p h = sym (ent_as b 0 pairs t v word_out p h)

  pub part_pair : (p : ℕ) → get_or t (level_start pairs l + used_at) 0 ≤ pairs → pair_in (level_start pairs l) t p ≡ pair_in 0 (part pairs l t) p
  part_pair p k = sym (pair_same b 0 t v p (used_as b 0 pairs t v word_out) (λ h. ent_as b 0 pairs t v word_out p (omega arith)))

  pub part_good : Good (level_start pairs l) pairs t ↔ Good 0 pairs (part pairs l t)
  part_good = (good_as b 0 pairs t v word_out, good_as 0 b pairs v t (λ i h. sym (word_out i h)))

  pub part_head : ring_head (level_start pairs l) t ≡ ring_head 0 (part pairs l t)
  part_head = ap place_of (sym (word_out ring_at (omega arith)))

  pub part_taken : Good (level_start pairs l) pairs t → pair_taken (level_start pairs l) t ≡ pair_taken 0 (part pairs l t)
  part_taken G = by (lt_or_le (slab_in b t).vacant (slab_in b t).places)
    where
      by : ((slab_in b t).vacant < (slab_in b t).places) ⊎ ((slab_in b t).places ≤ (slab_in b t).vacant) → pair_taken b t ≡ pair_taken 0 v
      by (inl h) =
          let e : vacant_after 0 v (slab_in b t).vacant ≡ vacant_after b t (slab_in b t).vacant = link_as b 0 pairs t v word_out off_at (slab_in b t).vacant (omega arith) (used_below b pairs t G (slab_in b t).vacant h) in
          rw (← slab_as b 0 pairs t v word_out) (insert_first (slab_in b t) t (field_at b off_at) pair_words h ∙ rw (← e) (sym (insert_first (slab_in b t) v (field_at 0 off_at) pair_words h)))
      by (inr h) =
          rw (← slab_as b 0 pairs t v word_out) (insert_next (slab_in b t) t (field_at b off_at) pair_words h ∙ sym (insert_next (slab_in b t) v (field_at 0 off_at) pair_words h))

  -- ---- what is done to it, store by store

  -- a store to a word of a pair
  cell_moved : (f q x y : ℕ) → f < pair_words → q < pairs → x ≡ y → (pair_cell b f q ≡ b + pair_cell 0 f q) × (pair_cell 0 f q < level_words pairs) × (x ≡ y)
  cell_moved f q x y h k e = (omega arith, omega arith, e)

  joined_moved : (q n : ℕ) → q < pairs → n < pairs → Moved b (level_words pairs) (joined_row b q n) (joined_row 0 q n)
  joined_moved q n h k = (cell_moved next_at q _ _ (omega arith) h refl, (cell_moved prev_at n _ _ (omega arith) k refl, ((refl, omega arith, refl), tt)))

  leaves_moved : (p : ℕ) → p < pairs → before b t p < pairs → after b t p < pairs → Moved b (level_words pairs) (leaves_row b p t) (leaves_row 0 p v)
  leaves_moved p h q n =
      rw (link_as b 0 pairs t v word_out prev_at p (omega arith) h, link_as b 0 pairs t v word_out next_at p (omega arith) h)
      (moved_either b (level_words pairs) (eqb (before b t p) p) _ _ _ _ (λ e. ((refl, omega arith, refl), tt)) (λ e. joined_moved (before b t p) (after b t p) q n))

  joins_moved : (p : ℕ) → p < pairs → ((ring_head b t ≡ nowhere → ⊥) → (ring_head b t < pairs) × (before b t (ring_head b t) < pairs)) → Moved b (level_words pairs) (joins_row b p t) (joins_row 0 p v)
  joins_moved p h near =
      rw (sym part_head)
      (moved_either b (level_words pairs) (eqb (ring_head b t) nowhere) _ _ _ _
      (λ e. (cell_moved next_at p _ _ (omega arith) h refl, (cell_moved prev_at p _ _ (omega arith) h refl, ((refl, omega arith, refl), tt)))) some)
    where
      some : eqb (ring_head b t) nowhere ≡ false → Moved b (level_words pairs) (between_row b (before b t (ring_head b t)) p (ring_head b t)) (between_row 0 (before 0 v (ring_head b t)) p (ring_head b t))
      some e =
          let n = near (eqb-false (ring_head b t) nowhere e) in
          let q = before b t (ring_head b t) in
          rw (link_as b 0 pairs t v word_out prev_at (ring_head b t) (omega arith) n.0) (
            cell_moved prev_at (ring_head b t) _ _ (omega arith) n.0 refl,
            (cell_moved next_at q _ _ (omega arith) n.1 refl, (cell_moved next_at p _ _ (omega arith) h refl, (cell_moved prev_at p _ _ (omega arith) h refl, tt))),
          )

  tag_moved : (p n : ℕ) (s : Side) (w : ℕ) → p < pairs → Moved b (level_words pairs) (tag_row b p n s w) (tag_row 0 p n s w)
  tag_moved p n s w h = (cell_moved tag_at p n n (omega arith) h refl, (cell_moved (side_at s) p w w (omega (arith, (side_in_lem s).1)) h refl, tt))

  -- ---- so level l of the table becomes what its words alone become, and nothing else changes

  pub part_fresh : Within pairs l t (fresh_level (level_start pairs l) t) (fresh_level 0 (part pairs l t))
  part_fresh = rw (fresh_puts b t, fresh_puts 0 v) (within pairs l t (fresh_row b) (fresh_row 0) ((refl, omega arith, refl), ((refl, omega arith, refl), ((refl, omega arith, refl), tt))))

  module _ (G : Good (level_start pairs l) pairs t) where
    mem_in : (p : ℕ) → Mem p G.ring → p < pairs
    mem_in p m = used_below b pairs t G p (G.below p m)

    -- a place of the ring, and its neighbours
    near_in : (p : ℕ) → Mem p G.ring → (before b t p < pairs) × (after b t p < pairs)
    near_in p m =
        let n = ring_near _ _ p G.ring G.rings.ring m in
        (mem_in (before b t p) n.1, mem_in (after b t p) n.0)

    member_moved : (p : ℕ) → Mem p G.ring → Moved b (level_words pairs) (leaves_row b p t) (leaves_row 0 p v)
    member_moved p m = leaves_moved p (mem_in p m) (near_in p m).0 (near_in p m).1

    pub part_dropped : (p : ℕ) → 1 < (pair_in (level_start pairs l) t p).tag → Within pairs l t (dropped (level_start pairs l) p t) (dropped 0 p (part pairs l t))
    part_dropped p r =
        let m = ready_mem b pairs t G p r in
        let h = mem_in p m in
        rw (dropped_row_lem b p t, dropped_row_lem 0 p v)
        (within pairs l t (leaves_row b p t ++ dropped_row b p t) (leaves_row 0 p v ++ dropped_row 0 p v)
        (moved_append b (level_words pairs) (leaves_row b p t) (leaves_row 0 p v) (dropped_row b p t) (dropped_row 0 p v) (member_moved p m)
        (cell_moved tag_at p 0 0 (omega arith) h refl, (cell_moved off_at p _ _ (omega arith) h (sym (word_out vacated_at (omega arith))), ((refl, omega arith, refl), tt)))))

    pub part_backed : (p : ℕ) (s : Side) → (pair_in (level_start pairs l) t p).tag ≡ 1 → Within pairs l t (backed (level_start pairs l) p s t) (backed 0 p s (part pairs l t))
    part_backed p s e =
        let h : p < pairs = used_below b pairs t G p (tagged_used b t p (omega arith)) in
        let near : (ring_head b t ≡ nowhere → ⊥) → (ring_head b t < pairs) × (before b t (ring_head b t) < pairs) = λ some. (mem_in (ring_head b t) (head_mem b pairs t G some), (near_in (ring_head b t) (head_mem b pairs t G some)).0) in
        rw (backed_row b p s t, backed_row 0 p s v)
        (within pairs l t (joins_row b p t ++ tag_row b p (ready_tag s) s 0) (joins_row 0 p v ++ tag_row 0 p (ready_tag s) s 0)
        (moved_append b (level_words pairs) (joins_row b p t) (joins_row 0 p v) (tag_row b p (ready_tag s) s 0) (tag_row 0 p (ready_tag s) s 0) (joins_moved p h near) (tag_moved p (ready_tag s) s 0 h)))

    pub part_acquired : (w : ℕ) → (ring_head (level_start pairs l) t ≡ nowhere → ⊥) → Within pairs l t (acquired (level_start pairs l) w t) (acquired 0 w (part pairs l t))
    part_acquired w some =
        let p = ring_head b t in
        let m = head_mem b pairs t G some in
        let s = side_of (ent_of b t p).tag in
        rw (acquired_row b w t, acquired_row 0 w v, ← part_head, cell_as b 0 pairs t v word_out tag_at p (omega arith) (mem_in p m))
        (within pairs l t (leaves_row b p t ++ tag_row b p 1 s w) (leaves_row 0 p v ++ tag_row 0 p 1 s w)
        (moved_append b (level_words pairs) (leaves_row b p t) (leaves_row 0 p v) (tag_row b p 1 s w) (tag_row 0 p 1 s w) (member_moved p m) (tag_moved p 1 s w (mem_in p m))))

    pub part_added : (c o n w : ℕ) → (pair_taken (level_start pairs l) t).place < pairs → Within pairs l t (added (level_start pairs l) c o n w t) (added 0 c o n w (part pairs l t))
    part_added c o n w h =
        rw (added_puts b c o n w t, added_puts 0 c o n w v, ← part_taken G)
        (within pairs l t (added_row b c o n w t) ((0 + used_at, (pair_taken b t).slab.places) ∷ (0 + vacated_at, record_of (pair_taken b t).slab.vacant) ∷ entered_row 0 p c o n w) (
          (refl, omega arith, refl),
          (
            (refl, omega arith, refl),
            (
              cell tag_at 3 (omega arith),
              (cell chunk_at c (omega arith), (cell off_at o (omega arith), (cell left_at w (omega arith), (cell right_at 0 (omega arith), (cell up_at n (omega arith), (cell next_at (record_of p) (omega arith), (cell prev_at (record_of p) (omega arith), ((refl, omega arith, refl), tt)))))))),
            ),
          ),
        ))
      where
        p : ℕ
        p = (pair_taken b t).place

        cell : (f x : ℕ) → f < pair_words → (pair_cell b f p ≡ b + pair_cell 0 f p) × (pair_cell 0 f p < level_words pairs) × (x ≡ x)
        cell f x k = cell_moved f p x x k h refl
