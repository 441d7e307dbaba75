-- What each turn of the climb and of the split comes to.
use mathlib.Core.Path.{◌≡◌, refl, sym, ap, ◌∙◌, subst}
use mathlib.Core.Bool.{true, false, cond}
use mathlib.Core.List.{List}
use Prim.Native.Nat.{ℕ, zero, suc, ◌+◌, ◌-◌, ◌≤◌, ◌<◌}
use native.Mathlib.Omega.{arith}
use native.Mathlib.Nat.{mul-le-mul_left}
use lib.Dec.{eqb}
use lib.ListN.{length, get_or, set}
use borrow.Author.Tests.{eq-eqb, ne_eqb}
use Rattle.counter.specs.Limits.{levels_most}
use Rattle.slabs.specs.Slab.{nowhere}
use Rattle.buddy_rules.specs.Nodes.{free_word, loan_word, split_word, Side, L, node_of, pair_of, other, word}
use Rattle.buddy_rules.specs.Level.{ent_of, pair_cell, side_at, up_at, pair_taken, dropped, backed, added, level_words, level_start}
use Rattle.buddy_rules.specs.Moves.{Cut, side_in, climbed, worded, left_next, split_into, split_down, split_chunk}
use Rattle.buddy_trees.specs.Trees.{up}
use Rattle.buddy_rules.proofs.Fitting.{up_add}
use Rattle.buddy_rules.proofs.Climbs.{node_pair}
use Rattle.buddy_levels.specs.Stands.{Stands, Leaves, Joins}
use Rattle.buddy_moves.specs.Footing.{Foot, Footing}
use Rattle.buddy_moves.specs.Roomy.{Roomy}

-- ---- the climb

module _ (pairs f l n : ℕ) (t : List ℕ) where
  pub climb_none : f ≡ 0 → climbed pairs f l n t ≡ record { freed = true; room = t }
  unfolding climbed
  climb_none e = rw e refl

  pub climb_top : n ≡ nowhere → climbed pairs f l n t ≡ record { freed = true; room = t }
  unfolding climbed
  climb_top e = by f
    where
      by : (g : ℕ) → climbed pairs g l n t ≡ record { freed = true; room = t }
      by zero = refl
      by (suc g) = rw (eq-eqb n nowhere e) refl

  module _ (o : 0 < f) (top : n ≡ nowhere → ⊥) (b : ℕ) (at : b ≡ level_start pairs l) (w : ℕ) (twin : w ≡ word (other (side_in n)) (ent_of b t (pair_of n)))
      (p : ℕ) (of : p ≡ pair_of n) where
    twin_is : w ≡ word (other (side_in n)) (ent_of (level_start pairs l) t (pair_of n))
    twin_is = twin ∙ ap (λ (d : ℕ). word (other (side_in n)) (ent_of d t (pair_of n))) at

    step : climbed pairs f l n t
        ≡ cond (eqb w free_word) (climbed pairs (f - 1) (l + 1) (get_or t (pair_cell b up_at p) 0) (dropped b p t))
        (record { freed = false; room = backed b p (side_in n) t })
    unfolding climbed
    step = by f o
      where
        by : (f : ℕ) → 0 < f → climbed pairs f l n t
            ≡ cond (eqb w free_word) (climbed pairs (f - 1) (l + 1) (get_or t (pair_cell b up_at p) 0) (dropped b p t))
            (record { freed = false; room = backed b p (side_in n) t })
        by zero o = absurd (omega arith)
        by (suc g) o =
            let i : suc g - 1 ≡ g = omega arith in
            let j : l + 1 ≡ suc l = omega arith in
            rw (i, j, at, of, twin_is, ne_eqb n nowhere top) refl

    pub climb_on : (g : ℕ) → g ≡ f - 1 → w ≡ free_word → (m : ℕ) → m ≡ get_or t (pair_cell b up_at p) 0 → (t' : List ℕ) → t' ≡ dropped b p t
        → climbed pairs f l n t ≡ climbed pairs g (l + 1) m t'
    climb_on g i z m e t' d = step ∙ simp (eq-eqb w free_word z, e, d, i)

    pub climb_stays : (w ≡ free_word → ⊥) → (q : Side) → q ≡ side_in n → (t' : List ℕ) → t' ≡ backed b p q t
        → climbed pairs f l n t ≡ record { freed = false; room = t' }
    climb_stays z q s t' d = step ∙ simp (ne_eqb w free_word z, d, s)

  -- ---- the words that it touches are there

  module _ (o : 0 < f) (top : n ≡ nowhere → ⊥) (b : ℕ) (at : b ≡ level_start pairs l) (h : Footing pairs f l n t) where
    foot : Foot b n t (Footing pairs (f - 1) (l + 1) (ent_of b t (pair_of n)).up (dropped b (pair_of n) t))
    unfolding Footing
    foot = by f o h
      where
        by : (f : ℕ) → 0 < f → Footing pairs f l n t → Foot b n t (Footing pairs (f - 1) (l + 1) (ent_of b t (pair_of n)).up (dropped b (pair_of n) t))
        by zero o h = absurd (omega arith)
        by (suc g) o h =
            let i : suc g - 1 ≡ g = omega arith in
            let j : l + 1 ≡ suc l = omega arith in
            rw (i, j, at) (h top)

    pub foot_stands : Stands b (pair_of n) t
    foot_stands = foot.own

    module _ (w : ℕ) (twin : w ≡ word (other (side_in n)) (ent_of b t (pair_of n))) (p : ℕ) (of : p ≡ pair_of n) where
      pub foot_own : Stands b p t
      foot_own = subst (λ (x : ℕ). Stands b x t) (sym of) foot.own

      pub foot_joins : (w ≡ free_word → ⊥) → Joins b p t
      foot_joins z = subst (λ (x : ℕ). Joins b x t) (sym of) (foot.stays (λ e. z (twin ∙ e)))

      pub foot_leaves : w ≡ free_word → Leaves b p t
      foot_leaves z = subst (λ (x : ℕ). Leaves b x t) (sym of) (foot.goes (sym twin ∙ z))

      pub foot_above : (g : ℕ) → g ≡ f - 1 → w ≡ free_word → (m : ℕ) → m ≡ get_or t (pair_cell b up_at p) 0 → (t' : List ℕ) → t' ≡ dropped b p t → Footing pairs g (l + 1) m t'
      foot_above g i z m e t' d = rw (i, e, d, of) (foot.above (sym twin ∙ z))

-- ---- the split

-- the words of every pair come before those of the chunks
pub in_level : (pairs l p : ℕ) → l < levels_most → p < pairs → pair_cell (level_start pairs l) up_at p < level_start pairs levels_most
in_level pairs l p h k = let m : l + 1 ≤ levels_most = omega arith in omega (arith, mul-le-mul_left (level_words pairs) m)

-- the half that is kept is one of the new pair
pub half_in : (pairs p m : ℕ) → m ≡ node_of p L → p < pairs → pair_of m < pairs
half_in pairs p m e h = let q : pair_of m ≡ p = ap (λ (x : ℕ). pair_of x) e ∙ node_pair p L in rw q h

up_sum : (d lev : ℕ) → up d lev ≡ lev + d
up_sum zero lev = omega arith
up_sum (suc d) lev = omega (arith, up_sum d lev)

module _ (pairs lev c o k n : ℕ) (t : List ℕ) where
  pub split_done : (d : ℕ) → d ≤ 0 → (b : ℕ) → b ≡ level_start pairs lev → (w : ℕ) → w ≡ loan_word k
      → (t' : List ℕ) → t' ≡ set t (pair_cell b (side_at (side_in n)) (pair_of n)) w → split_down pairs lev c o k n d t ≡ record { node = n; room = t' }
  unfolding split_down worded
  split_done zero h b e w i t' f = rw (f, e, i) refl
  split_done (suc d) h b e w i t' f = absurd (omega arith)

  -- one level, from d levels above
  module _ (b p : ℕ) (place : p ≡ (pair_taken b t).place) where
    pub roomy_place : (d : ℕ) → 0 < d → b ≡ level_start pairs (lev + (d - 1)) → Roomy pairs lev c o n d t → p < pairs
    unfolding Roomy
    roomy_place zero h e r = absurd (omega arith)
    roomy_place (suc d) h e r =
        let q : lev + (suc d - 1) ≡ up d lev = omega (arith, up_sum d lev) in
        let i : p ≡ (pair_taken (level_start pairs (up d lev)) t).place = place ∙ ap (λ (z : ℕ). (pair_taken z t).place) (e ∙ ap (level_start pairs) q) in
        rw i r.0

    -- w is the word of the node that is split, m the half that is kept
    module _ (t₁ t₂ : List ℕ) (g w m : ℕ) (more : t₁ ≡ added b c o n free_word t) (word_is : w ≡ split_word p)
        (cut : t₂ ≡ set t₁ (pair_cell g (side_at (side_in n)) (pair_of n)) w) (half : m ≡ node_of p L) where
      into_is : (l : ℕ) → b ≡ level_start pairs l → g ≡ level_start pairs (suc l) → t₂ ≡ split_into pairs l c o n t
      unfolding worded
      into_is l e f = rw (cut, word_is, more, place, e, f) refl

      pub split_roomy : (d : ℕ) → 0 < d → b ≡ level_start pairs (lev + (d - 1)) → g ≡ level_start pairs (lev + (d - 1) + 1) → Roomy pairs lev c o n d t
          → Roomy pairs lev c o m (d - 1) t₂
      unfolding Roomy
      split_roomy zero h e f r = absurd (omega arith)
      split_roomy (suc d) h e f r =
          let q : lev + (suc d - 1) ≡ up d lev = omega (arith, up_sum d lev) in
          let i : suc d - 1 ≡ d = omega arith in
          let j : lev + (suc d - 1) + 1 ≡ suc (up d lev) = omega (arith, up_sum d lev) in
          let e' : b ≡ level_start pairs (up d lev) = e ∙ ap (level_start pairs) q in
          let x : t₂ ≡ split_into pairs (up d lev) c o n t = into_is (up d lev) e' (f ∙ ap (level_start pairs) j) in
          let y : p ≡ (pair_taken (level_start pairs (up d lev)) t).place = place ∙ ap (λ (z : ℕ). (pair_taken z t).place) e' in
          rw (i, x, half, y) r.1

      pub split_on : (d : ℕ) → 0 < d → b ≡ level_start pairs (lev + (d - 1)) → g ≡ level_start pairs (lev + (d - 1) + 1)
          → split_down pairs lev c o k n d t ≡ split_down pairs lev c o k m (d - 1) t₂
      unfolding split_down
      split_on zero h e f = absurd (omega arith)
      split_on (suc d) h e f =
          let q : lev + (suc d - 1) ≡ up d lev = omega (arith, up_sum d lev) in
          let i : suc d - 1 ≡ d = omega arith in
          let j : lev + (suc d - 1) + 1 ≡ suc (up d lev) = omega (arith, up_sum d lev) in
          let e' : b ≡ level_start pairs (up d lev) = e ∙ ap (level_start pairs) q in
          let x : t₂ ≡ split_into pairs (up d lev) c o n t = into_is (up d lev) e' (f ∙ ap (level_start pairs) j) in
          let y : p ≡ (pair_taken (level_start pairs (up d lev)) t).place = place ∙ ap (λ (z : ℕ). (pair_taken z t).place) e' in
          rw (i, x, half, y) refl

-- ---- a new chunk: its own pair p entered in the level that begins at b, and its left node split down

pub top_stands : (pairs level above b : ℕ) (t : List ℕ) → b ≡ level_start pairs (level + above) → level + above < levels_most → (pair_taken (level_start pairs (up above level)) t).place < pairs → level_start pairs levels_most ≤ length t
    → Stands b (pair_taken b t).place t
top_stands pairs level above b t at low h long =
    let e : b ≡ level_start pairs (up above level) = at ∙ ap (level_start pairs) (omega (arith, up_add above level)) in
    let p : (pair_taken b t).place < pairs = rw e h in
    omega (arith, in_level pairs (level + above) (pair_taken b t).place low p, at, long)

module _ (pairs level above c k b p : ℕ) (t t₁ : List ℕ) (at : b ≡ level_start pairs (level + above)) (place : p ≡ (pair_taken b t).place) (entered : t₁ ≡ added b c 0 nowhere free_word t) where
  top_at_lem : b ≡ level_start pairs (up above level)
  top_at_lem = at ∙ ap (level_start pairs) (omega (arith, up_add above level))

  pub top_place : (pair_taken (level_start pairs (up above level)) t).place < pairs → p < pairs
  top_place h = let e = top_at_lem in rw (place, e) h

  module _ (m : ℕ) (half : m ≡ node_of p L) where
    pub top_roomy : Roomy pairs level c 0 (left_next pairs (up above level) t) above (added (level_start pairs (up above level)) c 0 nowhere free_word t) → Roomy pairs level c 0 m above t₁
    top_roomy h = let e = top_at_lem in rw (entered, half, place, e) h

    top_split : split_down pairs level c 0 k m above t₁ ≡ split_chunk pairs level c k above t
    unfolding split_chunk
    top_split = let e = top_at_lem in rw (entered, half, place, e) refl

    pub top_node : (n : ℕ) → n ≡ (split_down pairs level c 0 k m above t₁).node → n ≡ (split_chunk pairs level c k above t).node
    top_node n e = e ∙ ap (λ (r : Cut). r.node) top_split

    pub top_tree : (t₂ : List ℕ) → t₂ ≡ (split_down pairs level c 0 k m above t₁).room → t₂ ≡ (split_chunk pairs level c k above t).room
    top_tree t₂ e = e ∙ ap (λ (r : Cut). r.room) top_split
