-- A node's word stored again: a level whose pair was entered or taken with the word 0 is then the one with that word; and
-- nothing else changes.
use mathlib.Core.Path.{◌≡◌, refl, sym, ap, ◌∙◌}
use mathlib.Core.Logic.{◌⊎◌, inl, inr}
use mathlib.Core.List.{List, [], ◌∷◌, ◌++◌}
use Prim.Native.Nat.{ℕ, ◌+◌, ◌/◌, ◌^◌, ◌≤◌, ◌<◌}
use native.Mathlib.Omega.{arith}
use lib.ListN.{length, get_or, set}
use lib.Seq.{set_out, set-set, set_comm}
use Rattle.lists.specs.Members.{NotIn}
use Rattle.counter.specs.Limits.{levels_most}
use Rattle.counter.specs.declared.settings.BuddySettings.{BuddySettings}
use Rattle.slabs.specs.Slab.{nowhere, record_of}
use Rattle.buddy_rules.specs.Levels.{side_of}
use Rattle.buddy_rules.specs.Level.{ring_at, used_at, vacated_at, tag_at, chunk_at, off_at, left_at, right_at, next_at, prev_at, up_at, side_at, pair_cell, ent_of, ring_head, pair_taken, leaves, acquired, added, part}
use Rattle.buddy_rules.proofs.Stores.{puts, stored}
use Rattle.buddy_rules.proofs.Rows.{added_puts}
use Rattle.buddy_rules.proofs.Stored.{side_in_lem}
use Rattle.buddy_rules.proofs.Within.{Within, within}
use Rattle.buddy_rules.specs.Tables.{level_from, chunks_from}
use Rattle.buddy_rules.specs.Moves.{side_in, worded}
use Rattle.buddy_rules.proofs.Abstract.{levels_in_lem}

-- ---- a store done first or last

last : (t : List ℕ) (l : List (ℕ × ℕ)) (i v : ℕ) → NotIn i (stored l) → puts (set t i v) l ≡ set (puts t l) i v
last t [] i v h = refl
last t (x ∷ l) i v h = ap (λ (z : List ℕ). puts z l) (set_comm t i x.0 v x.1 h.0) ∙ last (set t x.0 x.1) l i v h.1

again : (t : List ℕ) (a : List (ℕ × ℕ)) (i v w : ℕ) (c : List (ℕ × ℕ)) → NotIn i (stored c) → set (puts t (a ++ ((i, v) ∷ c))) i w ≡ puts t (a ++ ((i, w) ∷ c))
again t [] i v w c h = sym (last (set t i v) c i w h) ∙ ap (λ (z : List ℕ). puts z c) (set-set t i v w)
again t (x ∷ a) i v w c h = again (set t x.0 x.1) a i v w c h

module _ (b : ℕ) (w : ℕ) (t : List ℕ) where
  pub added_again : (c o n : ℕ) → set (added b c o n 0 t) (pair_cell b left_at (pair_taken b t).place) w ≡ added b c o n w t
  added_again c o n =
      let p = (pair_taken b t).place in
      rw (added_puts b c o n 0 t, added_puts b c o n w t)
      (again t
      ((b + used_at, (pair_taken b t).slab.places) ∷ (b + vacated_at, record_of (pair_taken b t).slab.vacant) ∷ (pair_cell b tag_at p, 3) ∷ (pair_cell b chunk_at p, c) ∷ (pair_cell b off_at p, o) ∷ [])
      (pair_cell b left_at p) 0 w
      ((pair_cell b right_at p, 0) ∷ (pair_cell b up_at p, n) ∷ (pair_cell b next_at p, record_of p) ∷ (pair_cell b prev_at p, record_of p) ∷ (b + ring_at, record_of p) ∷ [])
      ((λ e. omega arith), ((λ e. omega arith), ((λ e. omega arith), ((λ e. omega arith), ((λ e. omega arith), tt))))))

  pub acquired_again : set (acquired b 0 t) (pair_cell b (side_at (side_of (ent_of b t (ring_head b t)).tag)) (ring_head b t)) w ≡ acquired b w t
  unfolding acquired
  acquired_again = set-set (set (leaves b (ring_head b t) t) (pair_cell b tag_at (ring_head b t)) 1) (pair_cell b (side_at (side_of (ent_of b t (ring_head b t)).tag)) (ring_head b t)) 0 w

-- ---- a node's word in the table of levels

module _ (s : BuddySettings) where
  -- the table ends before the pair that a chunk's top node would be of
  abbrev pub Short : List ℕ → Type 0
  Short t = length t ≤ 2 ^ 62

  -- node n is of a pair of level l, or is a chunk's top
  abbrev pub Fits : ℕ → ℕ → Type 0
  Fits l n = ((l < levels_most) × (n / 2 < s.pairs)) ⊎ (n ≡ nowhere)

  pub worded_in : (l n w : ℕ) (t : List ℕ) → n / 2 < s.pairs → Within s.pairs l t (worded s.pairs l n w t) (set (part s.pairs l t) (pair_cell 0 (side_at (side_in n)) (n / 2)) w)
  unfolding worded
  worded_in l n w t h =
      let k : side_at (side_in n) < next_at = (side_in_lem (side_in n)).1 in
      within s.pairs l t ((pair_cell (level_from s l) (side_at (side_in n)) (n / 2), w) ∷ []) ((pair_cell 0 (side_at (side_in n)) (n / 2), w) ∷ []) ((omega arith, omega arith, refl), tt)

  -- a chunk's top has its word elsewhere
  pub worded_top : (l n w : ℕ) (t : List ℕ) → n ≡ nowhere → Short t → worded s.pairs l n w t ≡ t
  unfolding worded
  worded_top l n w t e h = set_out t (pair_cell (level_from s l) (side_at (side_in n)) (n / 2)) w (omega arith)

  -- level l may change, and nothing else does
  pub record Left (l : ℕ) (t t' : List ℕ) : Type 0 where
    pub others : (j : ℕ) → (j ≡ l → ⊥) → part s.pairs j t' ≡ part s.pairs j t
    pub past : (i : ℕ) → chunks_from s ≤ i → get_or t' i 0 ≡ get_or t i 0
    pub long : length t' ≡ length t

  pub within_left : (l : ℕ) (t t' v : List ℕ) → l < levels_most → Within s.pairs l t t' v → Left l t t'
  within_left l t t' v h D = record { others = D.others; past = λ i k. D.past i (omega (arith, levels_in_lem s l h)); long = D.long }

  pub worded_left : (l n w : ℕ) (t : List ℕ) → Fits l n → Short t → Left l t (worded s.pairs l n w t)
  worded_left l n w t (inl f) h = within_left l t (worded s.pairs l n w t) _ f.0 (worded_in l n w t f.1)
  worded_left l n w t (inr e) h = rw (worded_top l n w t e h) (record { others = λ j k. refl; past = λ i k. refl; long = refl })

  -- what level l is then hangs on what it was
  pub worded_same : (l n w : ℕ) (t t' : List ℕ) → Fits l n → Short t → Short t' → part s.pairs l t' ≡ part s.pairs l t
      → part s.pairs l (worded s.pairs l n w t') ≡ part s.pairs l (worded s.pairs l n w t)
  worded_same l n w t t' (inl f) h h' e =
      (worded_in l n w t' f.1).here
      ∙ ap (λ (v : List ℕ). set v (pair_cell 0 (side_at (side_in n)) (n / 2)) w) e
      ∙ sym (worded_in l n w t f.1).here
  worded_same l n w t t' (inr z) h h' e = rw (worded_top l n w t z h, worded_top l n w t' z h') e
