-- What is done to the levels leaves every word before them: the words of the table's own record.
use mathlib.Core.Path.{◌≡◌, refl, ◌∙◌}
use mathlib.Core.Bool.{Bool, true, false, cond}
use mathlib.Core.List.{List}
use Prim.Native.Nat.{ℕ, zero, suc, ◌+◌, ◌<◌}
use native.Mathlib.Omega.{arith}
use lib.Dec.{eqb}
use lib.ListN.{get_or, set}
use lib.Seq.{get_or-set_other}
use Rattle.words.specs.Words.{cell_of}
use Rattle.slabs.specs.Slab.{nowhere, record_of}
use Rattle.ring_rules.specs.Ring.{next, prev, head_in_ring, joined, unlinked, alone, between, linked}
use Rattle.buddy_trees.specs.Trees.{up}
use Rattle.buddy_rules.specs.Nodes.{free_word, vacant, exhausted, right_ready, Side, other, word, pair_of, split_word, loan_word}
use Rattle.buddy_rules.specs.Levels.{side_of, side_in}
use Rattle.buddy_rules.specs.Level.{own_words, level_start, ring_at, used_at, vacated_at, tag_at, chunk_at, off_at, left_at, right_at, next_at, prev_at, up_at, pair_words, side_at, ready_tag, field_at, pair_cell, ent_of, ring_head, pair_taken, leaves, joins, dropped, backed, acquired, entered, added, fresh_level}
use Rattle.buddy_rules.specs.Moves.{climbed, worded, left_next, split_into, split_down, split_chunk}

-- a store past i leaves word i
past : (t : List ℕ) (j v i : ℕ) → i < j → get_or (set t j v) i 0 ≡ get_or t i 0
past t j v i h = get_or-set_other t j i v 0 (λ e. omega arith)

module _ (head next_at prev_at step i : ℕ) (h : i < head) (n : i < next_at) (p : i < prev_at) where
  unlinked_own : (x : ℕ) (t : List ℕ) → get_or (unlinked head next_at prev_at step x t) i 0 ≡ get_or t i 0
  unfolding unlinked
  unlinked_own x t = by (eqb (prev head next_at prev_at step t x) x)
    where
      q : ℕ
      q = prev head next_at prev_at step t x

      y : ℕ
      y = next head next_at prev_at step t x

      by : (b : Bool) → get_or (cond b (set t head (record_of nowhere)) (joined head next_at prev_at step q y t)) i 0 ≡ get_or t i 0
      by true = past t head (record_of nowhere) i h
      by false =
          past (set (set t (cell_of next_at step q) (record_of y)) (cell_of prev_at step y) (record_of q)) head (record_of y) i h
          ∙ past (set t (cell_of next_at step q) (record_of y)) (cell_of prev_at step y) (record_of q) i (omega arith)
          ∙ past t (cell_of next_at step q) (record_of y) i (omega arith)

  alone_own : (x : ℕ) (t : List ℕ) → get_or (alone head next_at prev_at step x t) i 0 ≡ get_or t i 0
  alone_own x t =
      past (set (set t (cell_of next_at step x) (record_of x)) (cell_of prev_at step x) (record_of x)) head (record_of x) i h
      ∙ past (set t (cell_of next_at step x) (record_of x)) (cell_of prev_at step x) (record_of x) i (omega arith)
      ∙ past t (cell_of next_at step x) (record_of x) i (omega arith)

  linked_own : (x : ℕ) (t : List ℕ) → get_or (linked head next_at prev_at step x t) i 0 ≡ get_or t i 0
  unfolding linked
  linked_own x t = by (eqb (head_in_ring head next_at prev_at step t) nowhere)
    where
      y : ℕ
      y = head_in_ring head next_at prev_at step t

      q : ℕ
      q = prev head next_at prev_at step t y

      by : (b : Bool) → get_or (cond b (alone head next_at prev_at step x t) (between head next_at prev_at step q x y t)) i 0 ≡ get_or t i 0
      by true = alone_own x t
      by false =
          past (set (set (set t (cell_of prev_at step y) (record_of x)) (cell_of next_at step q) (record_of x)) (cell_of next_at step x) (record_of y)) (cell_of prev_at step x) (record_of q) i (omega arith)
          ∙ past (set (set t (cell_of prev_at step y) (record_of x)) (cell_of next_at step q) (record_of x)) (cell_of next_at step x) (record_of y) i (omega arith)
          ∙ past (set t (cell_of prev_at step y) (record_of x)) (cell_of next_at step q) (record_of x) i (omega arith)
          ∙ past t (cell_of prev_at step y) (record_of x) i (omega arith)

-- ---- a level that begins at b, past word i

module _ (b i : ℕ) (h : i < b) where
  dropped_own : (p : ℕ) (t : List ℕ) → get_or (dropped b p t) i 0 ≡ get_or t i 0
  unfolding dropped
  dropped_own p t =
      past (set (set (leaves b p t) (pair_cell b tag_at p) vacant) (pair_cell b off_at p) (get_or t (b + vacated_at) 0)) (b + vacated_at) (record_of p) i (omega arith)
      ∙ past (set (leaves b p t) (pair_cell b tag_at p) vacant) (pair_cell b off_at p) (get_or t (b + vacated_at) 0) i (omega arith)
      ∙ past (leaves b p t) (pair_cell b tag_at p) vacant i (omega arith)
      ∙ unlinked_own (b + ring_at) (field_at b next_at) (field_at b prev_at) pair_words i (omega arith) (omega arith) (omega arith) p t

  backed_own : (p : ℕ) (s : Side) (t : List ℕ) → get_or (backed b p s t) i 0 ≡ get_or t i 0
  unfolding backed
  backed_own p s t =
      past (set (joins b p t) (pair_cell b tag_at p) (ready_tag s)) (pair_cell b (side_at s) p) free_word i (omega arith)
      ∙ past (joins b p t) (pair_cell b tag_at p) (ready_tag s) i (omega arith)
      ∙ linked_own (b + ring_at) (field_at b next_at) (field_at b prev_at) pair_words i (omega arith) (omega arith) (omega arith) p t

  pub acquired_own : (w : ℕ) (t : List ℕ) → get_or (acquired b w t) i 0 ≡ get_or t i 0
  unfolding acquired
  acquired_own w t =
      past (set (leaves b (ring_head b t) t) (pair_cell b tag_at (ring_head b t)) exhausted) (pair_cell b (side_at (side_of (ent_of b t (ring_head b t)).tag)) (ring_head b t)) w i (omega arith)
      ∙ past (leaves b (ring_head b t) t) (pair_cell b tag_at (ring_head b t)) exhausted i (omega arith)
      ∙ unlinked_own (b + ring_at) (field_at b next_at) (field_at b prev_at) pair_words i (omega arith) (omega arith) (omega arith) (ring_head b t) t

  entered_own : (p c o n w : ℕ) (t : List ℕ) → get_or (entered b p c o n w t) i 0 ≡ get_or t i 0
  unfolding entered
  entered_own p c o n w t =
      let t1 = set t (pair_cell b tag_at p) right_ready in
      let t2 = set t1 (pair_cell b chunk_at p) c in
      let t3 = set t2 (pair_cell b off_at p) o in
      let t4 = set t3 (pair_cell b left_at p) w in
      let t5 = set t4 (pair_cell b right_at p) free_word in
      alone_own (b + ring_at) (field_at b next_at) (field_at b prev_at) pair_words i (omega arith) (omega arith) (omega arith) p (set t5 (pair_cell b up_at p) n)
      ∙ past t5 (pair_cell b up_at p) n i (omega arith)
      ∙ past t4 (pair_cell b right_at p) free_word i (omega arith)
      ∙ past t3 (pair_cell b left_at p) w i (omega arith)
      ∙ past t2 (pair_cell b off_at p) o i (omega arith)
      ∙ past t1 (pair_cell b chunk_at p) c i (omega arith)
      ∙ past t (pair_cell b tag_at p) right_ready i (omega arith)

  added_own : (c o n w : ℕ) (t : List ℕ) → get_or (added b c o n w t) i 0 ≡ get_or t i 0
  unfolding added
  added_own c o n w t =
      let k = pair_taken b t in
      let u = set t (b + used_at) k.slab.places in
      entered_own k.place c o n w (set u (b + vacated_at) (record_of k.slab.vacant))
      ∙ past u (b + vacated_at) (record_of k.slab.vacant) i (omega arith)
      ∙ past t (b + used_at) k.slab.places i (omega arith)

  pub fresh_own : (t : List ℕ) → get_or (fresh_level b t) i 0 ≡ get_or t i 0
  unfolding fresh_level
  fresh_own t =
      past (set (set t (b + ring_at) 0) (b + used_at) 0) (b + vacated_at) 0 i (omega arith)
      ∙ past (set t (b + ring_at) 0) (b + used_at) 0 i (omega arith)
      ∙ past t (b + ring_at) 0 i (omega arith)

-- ---- over the levels

module _ (pairs i : ℕ) (h : i < own_words) where
  pub climbed_own : (f l n : ℕ) (t : List ℕ) → get_or (climbed pairs f l n t).room i 0 ≡ get_or t i 0
  unfolding climbed
  climbed_own zero l n t = refl
  climbed_own (suc f) l n t =
      by (eqb n nowhere) (eqb (word (other (side_in n)) (ent_of (level_start pairs l) t (pair_of n))) free_word)
      (climbed_own f (suc l) (ent_of (level_start pairs l) t (pair_of n)).up (dropped (level_start pairs l) (pair_of n) t) ∙ dropped_own (level_start pairs l) i (omega arith) (pair_of n) t)
    where
      by : (a b : Bool) → get_or (climbed pairs f (suc l) (ent_of (level_start pairs l) t (pair_of n)).up (dropped (level_start pairs l) (pair_of n) t)).room i 0 ≡ get_or t i 0
          → get_or (cond a (record { freed = true; room = t }) (cond b (climbed pairs f (suc l) (ent_of (level_start pairs l) t (pair_of n)).up (dropped (level_start pairs l) (pair_of n) t))
          (record { freed = false; room = backed (level_start pairs l) (pair_of n) (side_in n) t }))).room i 0 ≡ get_or t i 0
      by true b r = refl
      by false true r = r
      by false false r = backed_own (level_start pairs l) i (omega arith) (pair_of n) (side_in n) t

  worded_own : (l n w : ℕ) (t : List ℕ) → get_or (worded pairs l n w t) i 0 ≡ get_or t i 0
  unfolding worded
  worded_own l n w t = past t (pair_cell (level_start pairs l) (side_at (side_in n)) (pair_of n)) w i (omega arith)

  split_own : (l c o n : ℕ) (t : List ℕ) → get_or (split_into pairs l c o n t) i 0 ≡ get_or t i 0
  split_own l c o n t =
      worded_own (suc l) n (split_word (pair_taken (level_start pairs l) t).place) (added (level_start pairs l) c o n free_word t)
      ∙ added_own (level_start pairs l) i (omega arith) c o n free_word t

  pub split_down_own : (lev c o k n d : ℕ) (t : List ℕ) → get_or (split_down pairs lev c o k n d t).room i 0 ≡ get_or t i 0
  unfolding split_down
  split_down_own lev c o k n zero t = worded_own lev n (loan_word k) t
  split_down_own lev c o k n (suc d) t =
      split_down_own lev c o k (left_next pairs (up d lev) t) d (split_into pairs (up d lev) c o n t) ∙ split_own (up d lev) c o n t

  pub split_chunk_own : (lev c k d : ℕ) (t : List ℕ) → get_or (split_chunk pairs lev c k d t).room i 0 ≡ get_or t i 0
  unfolding split_chunk
  split_chunk_own lev c k d t =
      split_down_own lev c 0 k (left_next pairs (up d lev) t) d (added (level_start pairs (up d lev)) c 0 nowhere free_word t)
      ∙ added_own (level_start pairs (up d lev)) i (omega arith) c 0 nowhere free_word t
