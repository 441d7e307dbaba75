-- What is done to a level is a row of stores: which they are.
use mathlib.Core.Path.{◌≡◌, refl, sym, ap, ◌∙◌}
use mathlib.Core.Bool.{Bool, true, false, cond}
use mathlib.Core.List.{List, [], ◌∷◌, ◌++◌}
use Prim.Native.Nat.{ℕ, ◌+◌}
use lib.Dec.{eqb}
use lib.ListN.{get_or}
use Rattle.slabs.specs.Slab.{nowhere, record_of, link_at}
use Rattle.ring_rules.specs.Ring.{unlinked, linked}
use Rattle.buddy_rules.specs.Nodes.{Side}
use Rattle.buddy_rules.specs.Levels.{side_of}
use Rattle.buddy_rules.specs.Level.{ring_at, used_at, vacated_at, tag_at, chunk_at, off_at, left_at, right_at, next_at, prev_at, up_at, pair_words, side_at, ready_tag, field_at, pair_cell, ent_of, ring_head, pair_taken, leaves, joins, dropped, backed, acquired, entered, added, fresh_level}
use Rattle.buddy_rules.proofs.Stores.{puts, puts_append}

either : (c : Bool) (t x y : List ℕ) (l m : List (ℕ × ℕ)) → x ≡ puts t l → y ≡ puts t m → cond c x y ≡ puts t (cond c l m)
either true t x y l m e f = e
either false t x y l m e f = f

-- a row of stores, and then another
then : (t u : List ℕ) (l k : List (ℕ × ℕ)) → u ≡ puts t l → puts u k ≡ puts t (l ++ k)
then t u l k e = ap (λ x. puts x k) e ∙ sym (puts_append t l k)

module _ (b : ℕ) where
  -- ---- the ring

  -- the pair after p, and the one before it
  abbrev pub after : List ℕ → ℕ → ℕ
  after t = link_at t (field_at b next_at) pair_words

  abbrev pub before : List ℕ → ℕ → ℕ
  before t = link_at t (field_at b prev_at) pair_words

  -- q and n are joined, and n is the head
  abbrev pub joined_row : ℕ → ℕ → List (ℕ × ℕ)
  joined_row q n = (pair_cell b next_at q, record_of n) ∷ (pair_cell b prev_at n, record_of q) ∷ (b + ring_at, record_of n) ∷ []

  abbrev pub leaves_row : ℕ → List ℕ → List (ℕ × ℕ)
  leaves_row p t =
      cond (eqb (before t p) p) ((b + ring_at, record_of nowhere) ∷ []) (joined_row (before t p) (after t p))

  pub leaves_puts : (p : ℕ) (t : List ℕ) → leaves b p t ≡ puts t (leaves_row p t)
  unfolding unlinked
  leaves_puts p t = either (eqb (before t p) p) t _ _ _ _ refl refl

  -- p alone is the ring, or stands between q and h
  abbrev pub alone_row : ℕ → List (ℕ × ℕ)
  alone_row p = (pair_cell b next_at p, record_of p) ∷ (pair_cell b prev_at p, record_of p) ∷ (b + ring_at, record_of p) ∷ []

  abbrev pub between_row : ℕ → ℕ → ℕ → List (ℕ × ℕ)
  between_row q p h = (pair_cell b prev_at h, record_of p) ∷ (pair_cell b next_at q, record_of p) ∷ (pair_cell b next_at p, record_of h) ∷ (pair_cell b prev_at p, record_of q) ∷ []

  abbrev pub joins_row : ℕ → List ℕ → List (ℕ × ℕ)
  joins_row p t =
      cond (eqb (ring_head b t) nowhere) (alone_row p) (between_row (before t (ring_head b t)) p (ring_head b t))

  pub joins_puts : (p : ℕ) (t : List ℕ) → joins b p t ≡ puts t (joins_row p t)
  unfolding linked
  joins_puts p t = either (eqb (ring_head b t) nowhere) t _ _ _ _ refl refl

  -- ---- and what is stored when a pair has left it, or joined it

  abbrev pub dropped_row : ℕ → List ℕ → List (ℕ × ℕ)
  dropped_row p t = (pair_cell b tag_at p, 0) ∷ (pair_cell b off_at p, get_or t (b + vacated_at) 0) ∷ (b + vacated_at, record_of p) ∷ []

  pub dropped_puts : (p : ℕ) (t : List ℕ) → dropped b p t ≡ puts (leaves b p t) (dropped_row p t)
  unfolding dropped
  dropped_puts p t = refl

  pub dropped_row_lem : (p : ℕ) (t : List ℕ) → dropped b p t ≡ puts t (leaves_row p t ++ dropped_row p t)
  dropped_row_lem p t = dropped_puts p t ∙ then t (leaves b p t) (leaves_row p t) (dropped_row p t) (leaves_puts p t)

  abbrev pub tag_row : ℕ → ℕ → Side → ℕ → List (ℕ × ℕ)
  tag_row p n s w = (pair_cell b tag_at p, n) ∷ (pair_cell b (side_at s) p, w) ∷ []

  pub backed_puts : (p : ℕ) (s : Side) (t : List ℕ) → backed b p s t ≡ puts (joins b p t) (tag_row p (ready_tag s) s 0)
  unfolding backed
  backed_puts p s t = refl

  pub backed_row : (p : ℕ) (s : Side) (t : List ℕ) → backed b p s t ≡ puts t (joins_row p t ++ tag_row p (ready_tag s) s 0)
  backed_row p s t = backed_puts p s t ∙ then t (joins b p t) (joins_row p t) (tag_row p (ready_tag s) s 0) (joins_puts p t)

  pub acquired_puts : (w : ℕ) (t : List ℕ) → acquired b w t ≡ puts (leaves b (ring_head b t) t) (tag_row (ring_head b t) 1 (side_of (ent_of b t (ring_head b t)).tag) w)
  unfolding acquired
  acquired_puts w t = refl

  pub acquired_row : (w : ℕ) (t : List ℕ) → acquired b w t ≡ puts t (leaves_row (ring_head b t) t ++ tag_row (ring_head b t) 1 (side_of (ent_of b t (ring_head b t)).tag) w)
  acquired_row w t = acquired_puts w t ∙ then t (leaves b (ring_head b t) t) (leaves_row (ring_head b t) t) (tag_row (ring_head b t) 1 (side_of (ent_of b t (ring_head b t)).tag) w) (leaves_puts (ring_head b t) t)

  -- ---- a new pair, and a new level

  abbrev pub entered_row : ℕ → ℕ → ℕ → ℕ → ℕ → List (ℕ × ℕ)
  entered_row p c o n w =
      (pair_cell b tag_at p, 3)
      ∷ (pair_cell b chunk_at p, c)
      ∷ (pair_cell b off_at p, o)
      ∷ (pair_cell b left_at p, w)
      ∷ (pair_cell b right_at p, 0)
      ∷ (pair_cell b up_at p, n)
      ∷ alone_row p

  abbrev pub added_row : ℕ → ℕ → ℕ → ℕ → List ℕ → List (ℕ × ℕ)
  added_row c o n w t =
      (b + used_at, (pair_taken b t).slab.places) ∷ (b + vacated_at, record_of (pair_taken b t).slab.vacant) ∷ entered_row (pair_taken b t).place c o n w

  pub added_puts : (c o n w : ℕ) (t : List ℕ) → added b c o n w t ≡ puts t (added_row c o n w t)
  unfolding added entered
  added_puts c o n w t = refl

  abbrev pub fresh_row : List (ℕ × ℕ)
  fresh_row = (b + ring_at, 0) ∷ (b + used_at, 0) ∷ (b + vacated_at, 0) ∷ []

  pub fresh_puts : (t : List ℕ) → fresh_level b t ≡ puts t fresh_row
  unfolding fresh_level
  fresh_puts t = refl
