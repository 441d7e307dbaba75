-- What the code of a level has done where it returns.
use Rattle.std.proofs.Common.{◌≡◌, ℕ, ◌+◌, ◌%◌, ◌^◌, ◌<◌, ◌≤◌, List, get_or, set, sym, ap, ◌∙◌}
use Rattle.slabs.specs.Slab.{place_of, record_of, inserted}
use Rattle.slabs.specs.declared.Taken.{Taken}
use Rattle.slabs.proofs.Places.{insert_first, insert_next}
use Rattle.ring_rules.specs.Ring.{alone}
use Rattle.buddy_rules.specs.Nodes.{Side, free_word, vacant, exhausted, right_ready}
use Rattle.buddy_rules.specs.Levels.{side_of}
use Rattle.buddy_rules.specs.Level.{
  ring_at,
  used_at,
  vacated_at,
  tag_at,
  chunk_at,
  off_at,
  left_at,
  right_at,
  next_at,
  prev_at,
  up_at,
  pair_words,
  side_at,
  ready_tag,
  field_at,
  pair_cell,
  ring_head,
  pair_taken,
  leaves,
  joins,
  dropped,
  backed,
  acquired,
  entered,
  added,
  fresh_level,
}

-- ---- what the stores, one after the other, have made of a level that begins at b of t

module _ (b : ℕ) (t : List ℕ) where
  pub level_fresh : (x y z : List ℕ) → x ≡ set t (b + ring_at) 0 → y ≡ set x (b + used_at) 0 → z ≡ set y (b + vacated_at) 0 → z ≡ fresh_level b t
  unfolding fresh_level
  level_fresh x y z e f g = g ∙ rw (f, e)

  pub pair_dropped : (p v r : ℕ) (w x y z : List ℕ) → v ≡ get_or t (b + vacated_at) 0 → w ≡ leaves b p t → x ≡ set w (pair_cell b tag_at p) vacant → y ≡ set x (pair_cell b off_at p) v → r ≡ record_of p → z ≡ set y (b + vacated_at) r → z ≡ dropped b p t
  unfolding dropped
  pair_dropped p v r w x y z d e f g k h = h ∙ rw (g, f, e, d, k)

  pub pair_backed : (p g f : ℕ) (x y z : List ℕ) (s : Side) → x ≡ joins b p t → g ≡ ready_tag s → y ≡ set x (pair_cell b tag_at p) g → f ≡ side_at s → z ≡ set y (pair_cell b f p) free_word → z ≡ backed b p s t
  unfolding backed
  pair_backed p g f x y z s d e h i j = j ∙ rw (i, h, e, d)

  pub head_acquired : (w h f : ℕ) (x y z : List ℕ) {s : Side} → h ≡ ring_head b t → s ≡ side_of (get_or t (pair_cell b tag_at h) 0) → x ≡ leaves b h t → y ≡ set x (pair_cell b tag_at h) exhausted → f ≡ side_at s → z ≡ set y (pair_cell b f h) w → z ≡ acquired b w t
  unfolding acquired
  head_acquired w h f x y z c d e g i j = j ∙ rw (i, g, e, d, c)

  module _ (p c o n w : ℕ) where
    pub pair_entered : (x y : List ℕ) → x ≡ set (set (set (set (set (set t (pair_cell b tag_at p) right_ready) (pair_cell b chunk_at p) c) (pair_cell b off_at p) o) (pair_cell b left_at p) w) (pair_cell b right_at p) free_word) (pair_cell b up_at p) n
        → y ≡ alone (b + ring_at) (field_at b next_at) (field_at b prev_at) pair_words p x → y ≡ entered b p c o n w t
    unfolding entered
    pair_entered x y e f = f ∙ ap (alone (b + ring_at) (field_at b next_at) (field_at b prev_at) pair_words p) e

  -- ---- the place that a new pair takes

  pub taken_read : (u v : ℕ) (k : Taken) → u ≡ get_or t (b + used_at) 0 → v ≡ place_of (get_or t (b + vacated_at) 0) → k ≡ inserted (record { places = u; vacant = v }) t (field_at b off_at) pair_words → k ≡ pair_taken b t
  taken_read u v k d e f = f ∙ (λ j. inserted (record { places = d j; vacant = e j }) t (field_at b off_at) pair_words)

  -- as the code of a level whose words are there tells it
  module _ (u v : ℕ) (d : u ≡ get_or t (b + used_at) 0) (e : v ≡ place_of (get_or t (b + vacated_at) 0)) where
    pub taken_last : v < u → (w x : ℕ) → w ≡ get_or t (pair_cell b off_at v) 0 → x ≡ place_of w → record { place = v; slab = record { places = u; vacant = x } } ≡ pair_taken b t
    taken_last h w x g f =
        taken_read u v _ d e
        (ap (λ (z : ℕ). record { place = v; slab = record { places = u; vacant = z } }) (f ∙ ap place_of g) ∙ sym (insert_first (record { places = u; vacant = v }) t (field_at b off_at) pair_words h))

    pub taken_next : u ≤ v → (m : ℕ) → m ≡ (u + 1) % 2 ^ 64 → record { place = u; slab = record { places = m; vacant = v } } ≡ pair_taken b t
    taken_next h m f =
        taken_read u v _ d e
        (ap (λ (z : ℕ). record { place = u; slab = record { places = z; vacant = v } }) f ∙ sym (insert_next (record { places = u; vacant = v }) t (field_at b off_at) pair_words h))

  module _ (k : Taken) (s : k ≡ pair_taken b t) where
    pub taken_place : k.place ≡ (pair_taken b t).place
    taken_place = ap (λ (u : Taken). u.place) s

    pub pair_added : (c o n w r : ℕ) (x y z : List ℕ) → x ≡ set t (b + used_at) k.slab.places → r ≡ record_of k.slab.vacant → y ≡ set x (b + vacated_at) r → z ≡ entered b k.place c o n w y → z ≡ added b c o n w t
    unfolding added
    pair_added c o n w r x y z e d f g =
        g ∙ rw (f, e, d) (ap (λ (u : Taken). entered b u.place c o n w (set (set t (b + used_at) u.slab.places) (b + vacated_at) (record_of u.slab.vacant))) s)
