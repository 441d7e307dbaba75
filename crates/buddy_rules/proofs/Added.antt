-- A new pair is the whole ring of a level that had none: the level stays good, and no other pair says anything else.
use mathlib.Core.Path.{◌≡◌, refl, sym, ap, ◌∙◌, subst}
use mathlib.Core.Bool.{Bool, true, false, cond}
use mathlib.Core.Logic.{◌⊎◌, inl, inr, ⊎_elim}
use mathlib.Core.List.{List, [], ◌∷◌}
use Prim.Native.Nat.{ℕ, ◌+◌, ◌*◌, ◌^◌, ◌≤◌, ◌<◌}
use native.Mathlib.Omega.{arith}
use lib.Dec.{eqb, ltb}
use lib.ListN.{length, get_or}
use borrow.Author.Tests.{lt-ltb, le-ltb}
use Rattle.lists.proofs.Bools.{same?, lt_or_le}
use Rattle.slabs.specs.Slab.{nowhere, place_of, record_of, changed, Parted}
use Rattle.slabs.specs.declared.Slab.{Slab}
use Rattle.slabs.proofs.Links.{place_record}
use Rattle.slabs.proofs.Places.{chain_same, changed_here, changed_other, still_free, insert_last, inserted_parted}
use Rattle.ring_rules.specs.Ring.{RingOf}
use Rattle.buddy_rules.specs.Level.{ring_at, used_at, pair_words, tag_at, chunk_at, off_at, left_at, right_at, next_at, prev_at, up_at, level_words, field_at, pair_cell, ent_of, pair_in, ring_head, slab_in, pair_taken, added, vacant_in, vacant_after, Good}
use Rattle.buddy_rules.proofs.Stores.{puts, length_puts, kept, latest, reads}
use Rattle.buddy_rules.proofs.Rows.{added_row, added_puts}
use Rattle.buddy_rules.proofs.Cells.{plain_in, ent_same, pair_used, pair_unused}
use Rattle.buddy_rules.proofs.Rings.{Readies, good_both, no_head}
use Rattle.buddy_rules.proofs.TakenPairs.{taken_used, taken_more, taken_only}

-- what parts the places parts them by other links too, where the vacant places keep theirs
parted_vacant : (free free' : ℕ → Bool) (next next' : ℕ → ℕ) (s : Slab) (most : ℕ) → ((x : ℕ) → free' x ≡ free x) → ((x : ℕ) → free x ≡ true → next' x ≡ next x) → Parted free next s most → Parted free' next' s most
parted_vacant free free' next next' s most f g P = record {
  chained = P.chained;
  chain = chain_same next next' s.vacant P.chained (λ x m. g x (P.vacant x m)) P.chain;
  distinct = P.distinct;
  below = P.below;
  vacant = λ x m. f x ∙ P.vacant x m;
  all = λ x h e. P.all x h (sym (f x) ∙ e);
  limit = P.limit;
}

module _ (b c o n w : ℕ) (t : List ℕ) where
  abbrev p : ℕ
  p = (pair_taken b t).place

  abbrev row : List (ℕ × ℕ)
  row = added_row b c o n w t

  abbrev t' : List ℕ
  t' = puts t row

  pub added_length : length (added b c o n w t) ≡ length t
  added_length = ap length (added_puts b c o n w t) ∙ length_puts t row

  -- ---- which words differ

  other : (x : ℕ) → (x ≡ p → ⊥) → (f : ℕ) → f < pair_words → get_or t' (pair_cell b f x) 0 ≡ get_or t (pair_cell b f x) 0
  other x ne f h = kept t row (pair_cell b f x) (
    (λ e. omega arith),
    ((λ e. omega arith), (no tag_at (omega arith), (no chunk_at (omega arith), (no off_at (omega arith), (no left_at (omega arith), (no right_at (omega arith), (no up_at (omega arith), (no next_at (omega arith), (no prev_at (omega arith), ((λ e. omega arith), tt)))))))))),
  )
    where
      no : (g : ℕ) → g < pair_words → pair_cell b f x ≡ pair_cell b g p → ⊥
      no g k e = ne (omega arith)

  -- the level's words and those of p, by number
  abbrev at : ℕ → ℕ
  at k = cond (ltb k 8) (b + k) (b + k + 8 * p)

  abbrev numbered : List (ℕ × ℕ)
  numbered =
      (1, (pair_taken b t).slab.places)
      ∷ (2, record_of (pair_taken b t).slab.vacant)
      ∷ (8, 3)
      ∷ (9, c)
      ∷ (10, o)
      ∷ (11, w)
      ∷ (12, 0)
      ∷ (15, n)
      ∷ (13, record_of p)
      ∷ (14, record_of p)
      ∷ (0, record_of p)
      ∷ []

  at_one : (j k : ℕ) → j < 16 → k < 16 → at j ≡ at k → j ≡ k
  at_one j k g h = by (lt_or_le j 8) (lt_or_le k 8)
    where
      by : (j < 8) ⊎ (8 ≤ j) → (k < 8) ⊎ (8 ≤ k) → at j ≡ at k → j ≡ k
      by (inl x) (inl y) = rw (lt-ltb j 8 x, lt-ltb k 8 y) (λ e. omega arith)
      by (inl x) (inr y) = rw (lt-ltb j 8 x, le-ltb k 8 y) (λ e. omega arith)
      by (inr x) (inl y) = rw (le-ltb j 8 x, lt-ltb k 8 y) (λ e. omega arith)
      by (inr x) (inr y) = rw (le-ltb j 8 x, le-ltb k 8 y) (λ e. omega arith)

  module _ (inside : pair_cell b pair_words p ≤ length t) where
    at_fits : (k : ℕ) → k < 16 → at k < length t
    at_fits k h = by (lt_or_le k 8)
      where
        by : (k < 8) ⊎ (8 ≤ k) → at k < length t
        by (inl x) = rw (lt-ltb k 8 x) (omega arith)
        by (inr x) = rw (le-ltb k 8 x) (omega arith)

    -- what stands at each of these words
    now : (k : ℕ) → k < 16 → get_or t' (at k) 0 ≡ latest numbered k (get_or t (at k) 0)
    now = reads at 16 at_one t numbered at_fits (omega arith, (omega arith, (omega arith, (omega arith, (omega arith, (omega arith, (omega arith, (omega arith, (omega arith, (omega arith, (omega arith, tt)))))))))))

    used : get_or t' (b + used_at) 0 ≡ (pair_taken b t).slab.places
    used = now 1 (omega arith)

    -- and what the links of p lead to
    led : (k : ℕ) → k < 16 → latest numbered k (get_or t (at k) 0) ≡ record_of p → place_of (get_or t' (at k) 0) ≡ p
    led k h e = ap place_of (now k h ∙ e) ∙ place_record p

    here : ent_of b t' p ≡ record { tag = 3; chunk = c; off = o; left = w; right = 0; up = n }
    here = λ j. record {
      tag = now 8 (omega arith) j;
      chunk = now 9 (omega arith) j;
      off = now 10 (omega arith) j;
      left = now 11 (omega arith) j;
      right = now 12 (omega arith) j;
      up = now 15 (omega arith) j;
    }

    slab : (pair_taken b t).slab ≡ slab_in b t'
    slab = λ j. record { places = sym (now 1 (omega arith)) j; vacant = sym (ap place_of (now 2 (omega arith)) ∙ place_record (pair_taken b t).slab.vacant) j }

  module _ (pairs : ℕ) (few : pairs ≤ 2 ^ 32) (fits : b + level_words pairs ≤ length t) (G : Good b pairs t) (room : p < pairs) where
    inside : pair_cell b pair_words p ≤ length t
    inside = omega arith

    -- ---- the level stays good

    vacant : (x : ℕ) → vacant_in b t' x ≡ changed (vacant_in b t) p false x
    vacant x = ⊎_elim
        (λ e. rw (e, now inside 8 (omega arith)) (sym (changed_here (vacant_in b t) p false p refl)))
        (λ ne. ap (λ m. eqb m 0) (other x ne tag_at (omega arith)) ∙ sym (changed_other (vacant_in b t) p false x ne))
        (same? x p)

    parted : Parted (vacant_in b t') (vacant_after b t') (slab_in b t') pairs
    parted =
        let most : pairs < nowhere = omega arith in
        let e = insert_last (vacant_in b t) t (field_at b off_at) pair_words (slab_in b t) pairs G.parted most in
        let P = inserted_parted (vacant_in b t) t (field_at b off_at) pair_words (slab_in b t) pairs G.parted most (rw e at room) in
        subst (λ (s : Slab). Parted (vacant_in b t') (vacant_after b t') s pairs) (slab inside)
        (parted_vacant _ (vacant_in b t') _ (vacant_after b t') (pair_taken b t).slab pairs vacant
        (λ x f. ap place_of (other x (still_free (vacant_in b t) p x f).0 off_at (omega arith))) P)

    none : ring_head b t ≡ nowhere → (x : ℕ) → (x ≡ p → ⊥) → x < get_or t' (b + used_at) 0 → (ent_of b t' x).tag ≤ 1
    none e x ne h =
        let k : x < get_or t (b + used_at) 0 = taken_only b pairs t few G x ne (rw (used inside) at h) in
        rw (other x ne tag_at (omega arith)) (no_head b pairs t G few e x k)

    readies : ring_head b t ≡ nowhere → Readies b t'
    readies e = record {
      ring = p ∷ [];
      rings = record {
        ring = record { closed = ((led inside 13 (omega arith) refl, led inside 14 (omega arith) refl), tt); distinct = (tt, tt) };
        first = led inside 0 (omega arith) refl;
      };
      below = λ x m. ⊎_elim (λ q. omega (arith, q, used inside, taken_used b pairs t few G)) (λ i. absurd i) m;
      ready = λ x m. ⊎_elim (λ q. rw (q, now inside 8 (omega arith)) (omega arith)) (λ i. absurd i) m;
      all = λ x h k. ⊎_elim (λ q. inl q) (λ ne. absurd (omega (arith, none e x ne h))) (same? x p);
    }

    -- the new pair is linked to itself, and is the head
    pub added_alone : RingOf (b + ring_at) (field_at b next_at) (field_at b prev_at) pair_words (added b c o n w t) (p ∷ [])
    added_alone = rw (added_puts b c o n w t) (record {
      ring = record { closed = ((led inside 13 (omega arith) refl, led inside 14 (omega arith) refl), tt); distinct = (tt, tt) };
      first = led inside 0 (omega arith) refl;
    })

    pub added_good : ring_head b t ≡ nowhere → Good b pairs (added b c o n w t)
    added_good e = rw (added_puts b c o n w t) (good_both b pairs t' (readies e) parted)

    pub added_here : pair_in b (added b c o n w t) p ≡ record { tag = 3; chunk = c; off = o; left = w; right = 0; up = n }
    added_here = rw (added_puts b c o n w t) (pair_used b t' p (rw (used inside) (taken_used b pairs t few G)) ∙ here inside)

    pub added_other : (x : ℕ) → (x ≡ p → ⊥) → pair_in b (added b c o n w t) x ≡ pair_in b t x
    added_other x ne = rw (added_puts b c o n w t) (by (lt_or_le x (get_or t (b + used_at) 0)))
      where
        by : (x < get_or t (b + used_at) 0) ⊎ (get_or t (b + used_at) 0 ≤ x) → pair_in b t' x ≡ pair_in b t x
        by (inl h) =
            pair_used b t' x (rw (used inside) (taken_more b pairs t few G x h))
            ∙ ent_same b b t t' x (λ f k. other x ne f (plain_in f k))
            ∙ sym (pair_used b t x h)
        by (inr h) =
            pair_unused b t' x (⊎_elim (λ k. absurd (omega (arith, taken_only b pairs t few G x ne (rw (used inside) at k)))) (λ k. k) (lt_or_le x (get_or t' (b + used_at) 0)))
            ∙ sym (pair_unused b t x h)
