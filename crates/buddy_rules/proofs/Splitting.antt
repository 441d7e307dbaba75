-- The loan in words is the abstract one: a node split down in the tree's words is split down in their levels.
use mathlib.Core.Path.{◌≡◌, refl, sym, ap, ap₂, ◌∙◌, subst}
use mathlib.Core.Bool.{cond}
use mathlib.Core.Logic.{inl, inr, ⊎_elim}
use mathlib.Core.List.{List}
use Prim.Native.Nat.{ℕ, zero, suc, ◌+◌, ◌*◌, ◌/◌, ◌^◌, ◌≤◌, ◌<◌}
use native.Mathlib.Omega.{arith}
use lib.Dec.{eqb}
use lib.ListN.{length, get_or, set}
use borrow.Author.Tests.{eq-eqb, ne_eqb}
use Rattle.lists.proofs.Bools.{same?, lt_or_le}
use Rattle.counter.specs.Limits.{levels_most}
use Rattle.counter.specs.InTable.{BuddyIn}
use Rattle.counter.specs.declared.settings.BuddySettings.{BuddySettings}
use Rattle.slabs.specs.Slab.{nowhere}
use Rattle.buddy_trees.specs.Trees.{up}
use Rattle.buddy_trees.proofs.Bytes.{up_le}
use Rattle.buddy_rules.specs.Nodes.{Ent, Side, L, node_of}
use Rattle.buddy_rules.specs.Levels.{side_of, base_of}
use Rattle.buddy_rules.specs.Lends.{Grown, grow, loan_node, head_node, lend}
use Rattle.buddy_rules.specs.Stores.{head_ent}
use Rattle.buddy_rules.proofs.Added.{added_length}
use Rattle.buddy_rules.proofs.Grown.{grow_above}
use Rattle.buddy_rules.proofs.Climbs.{node_pair, node_side}
use Rattle.buddy_rules.specs.Level.{used_at, left_at, side_at, pair_cell, ent_of, pair_in, ring_head, pair_taken, acquired, added, Good, part}
use Rattle.buddy_rules.proofs.Ops.{level_ops}
use Rattle.buddy_rules.proofs.Cells.{pair_used}
use Rattle.buddy_rules.proofs.Rings.{used_below, head_mem}
use Rattle.buddy_rules.proofs.Parts.{part_ent, part_pair, part_good, part_taken, part_head, part_added, part_acquired}
use Rattle.buddy_rules.proofs.Within.{Within}
use Rattle.buddy_rules.specs.Tables.{Tables, Lengths, levels_in, level_from, chunks_from, tree_words}
use Rattle.buddy_rules.specs.Sound.{Sound}
use Rattle.buddy_rules.specs.Moves.{side_in, Cut, worded, left_next, split_into, split_down, split_chunk, ready_node}
use Rattle.buddy_rules.proofs.Abstract.{store_of}
use Rattle.buddy_rules.proofs.Worded.{added_again, acquired_again, Short, Fits, worded_in, worded_top, Left, within_left, worded_left, worded_same}

module _ (s : BuddySettings) (small : s.pairs ≤ 2 ^ 32) (lev c o k : ℕ) where
  -- the chain of pairs from node n, d levels above lev, down to the loan
  abbrev chain : (ℕ → List ℕ) → ℕ → ℕ → Grown s.minimal (level_ops s.pairs small)
  chain W n d = grow s.minimal (level_ops s.pairs small) W lev c o k n d

  -- what the split leaves: the levels below node n are the chain's, n has its word, and nothing else changes
  record Chain (W : ℕ → List ℕ) (n d : ℕ) (t : List ℕ) (r : Cut) : Type 0 where
    pub node : r.node ≡ loan_node s.minimal (level_ops s.pairs small) W lev n d
    pub below : (i : ℕ) → i < up d lev → part s.pairs i r.room ≡ (chain W n d).levels i
    pub here : part s.pairs (up d lev) r.room ≡ part s.pairs (up d lev) (worded s.pairs (up d lev) n (chain W n d).top t)
    pub above : (i : ℕ) → up d lev < i → part s.pairs i r.room ≡ part s.pairs i t
    pub past : (i : ℕ) → chunks_from s ≤ i → get_or r.room i 0 ≡ get_or t i 0
    pub long : length r.room ≡ length t

  chain_above : (W : ℕ → List ℕ) (n d j : ℕ) → up d lev ≤ j → (chain W n d).levels j ≡ W j
  chain_above W n d j h = grow_above s.minimal (level_ops s.pairs small) (λ (i : ℕ). record { chunk = 0; at = 0; lev = 0; node = 0 }) W lev c o k n d j h

  -- the loan's node is the same seen from the left node one level down
  node_left : (W : ℕ → List ℕ) (d : ℕ)
      → loan_node s.minimal (level_ops s.pairs small) W lev (node_of (pair_taken 0 (W (up d lev))).place L) d ≡ node_of (pair_taken 0 (W lev)).place L
  node_left W zero = refl
  node_left W (suc d) = refl

  module _ (W : ℕ → List ℕ) (m n : ℕ) (t : List ℕ) (low : m < levels_most) (a : part s.pairs m t ≡ W m) (g : Good 0 s.pairs (W m)) where
    good_in : Good (level_from s m) s.pairs t
    good_in = (part_good s.pairs m t).1 (rw a g)

    place_in : (pair_taken (level_from s m) t).place ≡ (pair_taken 0 (W m)).place
    place_in = ap (λ z. z.place) (part_taken s.pairs m t good_in) ∙ ap (λ (v : List ℕ). (pair_taken 0 v).place) a

    add_in : (pair_taken 0 (W m)).place < s.pairs → Within s.pairs m t (added (level_from s m) c o n 0 t) (added 0 c o n 0 (part s.pairs m t))
    add_in h = part_added s.pairs m t good_in c o n 0 (rw place_in h)

    -- the new pair's left node gets its word: t' is the table with it
    filled_in : (w : ℕ) (t' : List ℕ) → (pair_taken 0 (W m)).place < s.pairs → part s.pairs m t' ≡ part s.pairs m (added (level_from s m) c o n 0 t)
        → part s.pairs m (worded s.pairs m (node_of (pair_taken 0 (W m)).place L) w t') ≡ added 0 c o n w (W m)
    filled_in w t' h e =
        let q = (pair_taken 0 (W m)).place in
        let i : node_of q L / 2 ≡ q = node_pair q L in
        let j : side_in (node_of q L) ≡ L = node_side q L in
        let x : part s.pairs m t' ≡ added 0 c o n 0 (W m) = e ∙ (add_in h).here ∙ ap (added 0 c o n 0) a in
        let y : pair_cell 0 (side_at (side_in (node_of q L))) (node_of q L / 2) ≡ pair_cell 0 left_at q = rw (i, j) in
        (worded_in s m (node_of q L) w t' (rw i h)).here ∙ rw (x, y) (added_again 0 w (W m) c o n)

  -- one step: node n of level up (suc d) is split, the rest of the way down being r
  split_step : (d n : ℕ) (t : List ℕ) (W : ℕ → List ℕ) (r : Cut) → up (suc d) lev ≤ levels_most → Fits s (up (suc d) lev) n → Short s t → part s.pairs (up d lev) t ≡ W (up d lev)
      → Good 0 s.pairs (W (up d lev)) → (pair_taken 0 (W (up d lev))).place < s.pairs
      → Chain W (node_of (pair_taken (level_from s (up d lev)) t).place L) d
      (worded s.pairs (up (suc d) lev) n (2 * (pair_taken (level_from s (up d lev)) t).place + 2) (added (level_from s (up d lev)) c o n 0 t)) r
      → Chain W n (suc d) t r
  unfolding grow
  split_step d n t W r high f h a g room x =
      let q = (pair_taken 0 (W (up d lev))).place in
      let m = up d lev in
      let e : (pair_taken (level_from s m) t).place ≡ q = place_in W m n t low a g in
      let t₁ : List ℕ = added (level_from s m) c o n 0 t in
      let t₂ : List ℕ = worded s.pairs (suc m) n (2 * q + 2) t₁ in
      let D = within_left s m t t₁ _ low (add_in W m n t low a g room) in
      let short : Short s t₁ = omega (arith, D.long) in
      let B = worded_left s (suc m) n (2 * q + 2) t₁ f short in
      let y : Chain W (node_of q L) d t₂ r = subst (λ (z : ℕ). Chain W (node_of z L) d (worded s.pairs (suc m) n (2 * z + 2) t₁) r) e x in
      record {
        node = y.node ∙ node_left W d;
        below = λ i k. ⊎_elim
            (λ z. rw (eq-eqb i m z, z)
            (y.here ∙ filled_in W m n t low a g (chain W (node_of q L) d).top t₂ room (B.others m (λ b. omega arith))
            ∙ ap (added 0 c o n (chain W (node_of q L) d).top) (sym (chain_above W (node_of q L) d m (omega arith)))))
            (λ z. rw (ne_eqb i m z) (y.below i (omega arith)))
            (same? i m);
        here = y.above (suc m) (omega arith) ∙ worded_same s (suc m) n (2 * q + 2) t t₁ f h short (D.others (suc m) (λ b. omega arith));
        above = λ i k. y.above i (omega arith) ∙ B.others i (λ b. omega arith) ∙ D.others i (λ b. omega arith);
        past = λ i k. y.past i k ∙ B.past i k ∙ D.past i k;
        long = y.long ∙ B.long ∙ D.long;
      }
    where
      low : up d lev < levels_most
      low = omega arith

  split_is : (d n : ℕ) (t : List ℕ) (W : ℕ → List ℕ) → up d lev ≤ levels_most → Fits s (up d lev) n → Short s t → ((i : ℕ) → i < up d lev → part s.pairs i t ≡ W i)
      → ((i : ℕ) → lev ≤ i → i < up d lev → Good 0 s.pairs (W i)) → ((i : ℕ) → lev ≤ i → i < up d lev → (pair_taken 0 (W i)).place < s.pairs)
      → Chain W n d t (split_down s.pairs lev c o k n d t)
  unfolding split_down grow
  split_is zero n t W high f h a g room =
      let B = worded_left s lev n (2 * k + 1) t f h in
      record {
        node = refl;
        below = λ i j. B.others i (λ b. omega arith) ∙ a i j;
        here = refl;
        above = λ i j. B.others i (λ b. omega arith);
        past = B.past;
        long = B.long;
      }
  split_is (suc d) n t W high f h a g room =
      let m = up d lev in
      let low : m < levels_most = omega arith in
      let q = (pair_taken (level_from s m) t).place in
      let am = a m (omega arith) in
      let gm = g m (up_le d lev) (omega arith) in
      let rm = room m (up_le d lev) (omega arith) in
      let e : q ≡ (pair_taken 0 (W m)).place = place_in W m n t low am gm in
      let t₁ : List ℕ = added (level_from s m) c o n 0 t in
      let D = within_left s m t t₁ _ low (add_in W m n t low am gm rm) in
      let short : Short s t₁ = omega (arith, D.long) in
      let B = worded_left s (suc m) n (2 * q + 2) t₁ f short in
      let in_pairs : node_of q L / 2 < s.pairs = rw (node_pair q L, e) rm in
      split_step d n t W (split_down s.pairs lev c o k (node_of q L) d (worded s.pairs (suc m) n (2 * q + 2) t₁)) high f h am gm rm
      (split_is d (node_of q L) (worded s.pairs (suc m) n (2 * q + 2) t₁) W (omega arith) (inl (low, in_pairs)) (omega (arith, B.long))
      (λ i j. B.others i (λ b. omega arith) ∙ D.others i (λ b. omega arith) ∙ a i (omega arith))
      (λ i j b. g i j (omega arith)) (λ i j b. room i j (omega arith)))

module _ (s : BuddySettings) (small : s.pairs ≤ 2 ^ 32) where
  pub tree_short : (t : List ℕ) → BuddyIn s → length t ≡ tree_words s → Short s t
  tree_short t fit e = omega (arith, fit.store.loans_most_lem, fit.store.chunks_most_lem)

  -- ---- a new chunk

  -- its top node is no node of a level: split as if it were, no word is written but the pair's
  pub first_into : (t : List ℕ) → Short s t → (l c : ℕ) → split_into s.pairs l c 0 nowhere t ≡ added (level_from s l) c 0 nowhere 0 t
  first_into t short l c =
      worded_top s (suc l) nowhere (2 * (pair_taken (level_from s l) t).place + 2) (added (level_from s l) c 0 nowhere 0 t) refl
      (omega (arith, added_length (level_from s l) c 0 nowhere 0 t, short))

  first_split : (t : List ℕ) → Short s t → (lev d c k : ℕ) → split_down s.pairs lev c 0 k nowhere (suc d) t ≡ split_chunk s.pairs lev c k d t
  unfolding split_down split_chunk
  first_split t short lev d c k = ap (λ (y : List ℕ). split_down s.pairs lev c 0 k (left_next s.pairs (up d lev) t) d y) (first_into t short (up d lev) c)

  -- for any tree that has the levels W
  grown_as : (t : List ℕ) (W : ℕ → List ℕ) → BuddyIn s → length t ≡ tree_words s → ((i : ℕ) → i < levels_most → part s.pairs i t ≡ W i) → (lev d c k : ℕ) → up d lev < levels_most
      → ((i : ℕ) → lev ≤ i → i ≤ up d lev → Good 0 s.pairs (W i)) → ((i : ℕ) → lev ≤ i → i ≤ up d lev → (level_ops s.pairs small).Room (W i))
      → let r = split_down s.pairs lev c 0 k nowhere (suc d) t in
      (r.node ≡ node_of ((level_ops s.pairs small).new_place (W lev)) L)
      × ((i : ℕ) → i < levels_most → part s.pairs i r.room ≡ (grow s.minimal (level_ops s.pairs small) W lev c 0 k nowhere (suc d)).levels i)
      × ((i : ℕ) → chunks_from s ≤ i → get_or r.room i 0 ≡ get_or t i 0) × (length r.room ≡ length t)
  grown_as t W fit len a lev d c k h g room = (X.node, levels, X.past, X.long)
    where
      X : Chain s small lev c 0 k W nowhere (suc d) t (split_down s.pairs lev c 0 k nowhere (suc d) t)
      X = split_is s small lev c 0 k (suc d) nowhere t W (omega arith) (inr refl) (tree_short t fit len) (λ i j. a i (omega arith)) (λ i j b. g i j (omega arith)) (λ i j b. room i j (omega arith))

      same : (i : ℕ) → i < levels_most → up (suc d) lev ≤ i → part s.pairs i (split_down s.pairs lev c 0 k nowhere (suc d) t).room ≡ part s.pairs i t
      same i l j = ⊎_elim
          (λ e. rw e (X.here ∙ ap (part s.pairs (up (suc d) lev)) (worded_top s (up (suc d) lev) nowhere (chain s small lev c 0 k W nowhere (suc d)).top t refl (tree_short t fit len))))
          (λ e. X.above i (omega arith))
          (same? i (up (suc d) lev))

      levels : (i : ℕ) → i < levels_most → part s.pairs i (split_down s.pairs lev c 0 k nowhere (suc d) t).room ≡ (chain s small lev c 0 k W nowhere (suc d)).levels i
      levels i l = ⊎_elim (X.below i) (λ j. same i l j ∙ a i l ∙ sym (chain_above s small lev c 0 k W nowhere (suc d) i j)) (lt_or_le i (up (suc d) lev))

  pub grown_in : (t : List ℕ) (W : ℕ → List ℕ) → BuddyIn s → length t ≡ tree_words s → ((i : ℕ) → i < levels_most → part s.pairs i t ≡ W i) → (lev d c k : ℕ) → up d lev < levels_most
      → ((i : ℕ) → lev ≤ i → i ≤ up d lev → Good 0 s.pairs (W i)) → ((i : ℕ) → lev ≤ i → i ≤ up d lev → (level_ops s.pairs small).Room (W i))
      → let r = split_chunk s.pairs lev c k d t in
      (r.node ≡ node_of ((level_ops s.pairs small).new_place (W lev)) L)
      × ((i : ℕ) → i < levels_most → part s.pairs i r.room ≡ (grow s.minimal (level_ops s.pairs small) W lev c 0 k nowhere (suc d)).levels i)
      × ((i : ℕ) → chunks_from s ≤ i → get_or r.room i 0 ≡ get_or t i 0) × (length r.room ≡ length t)
  grown_in t W fit len a lev d c k h g room =
      subst (λ (r : Cut).
      (r.node ≡ node_of ((level_ops s.pairs small).new_place (W lev)) L)
      × ((i : ℕ) → i < levels_most → part s.pairs i r.room ≡ (grow s.minimal (level_ops s.pairs small) W lev c 0 k nowhere (suc d)).levels i)
      × ((i : ℕ) → chunks_from s ≤ i → get_or r.room i 0 ≡ get_or t i 0) × (length r.room ≡ length t))
      (first_split t (tree_short t fit len) lev d c k) (grown_as t W fit len a lev d c k h g room)

  -- ---- the head's ready side at level i

  module _ (t : Tables) (S : Sound s t) (i : ℕ) (h : i < levels_in t) (some : (level_ops s.pairs small).Some (part s.pairs i t.room)) where
    abbrev head_entry : Ent
    head_entry = ent_of (level_from s i) t.room (ring_head (level_from s i) t.room)

    head_some : ring_head (level_from s i) t.room ≡ nowhere → ⊥
    head_some e = some (sym (part_head s.pairs i t.room) ∙ e)

    pub head_used : ring_head (level_from s i) t.room < get_or t.room (level_from s i + used_at) 0
    head_used = (S.good i h).below _ (head_mem (level_from s i) s.pairs t.room (S.good i h) head_some)

    pub head_low : ring_head (level_from s i) t.room < s.pairs
    head_low = used_below (level_from s i) s.pairs t.room (S.good i h) _ head_used

    -- its pair says the same in the table and in its level
    pub head_is : ent_of (level_from s i) t.room (ring_head (level_from s i) t.room) ≡ head_ent s.minimal (level_ops s.pairs small) (store_of s small t) i
    head_is =
        sym (pair_used (level_from s i) t.room (ring_head (level_from s i) t.room) head_used)
        ∙ part_pair s.pairs i t.room (ring_head (level_from s i) t.room) (S.good i h).parted.limit
        ∙ ap (pair_in 0 (part s.pairs i t.room)) (part_head s.pairs i t.room)

    pub ready_is : ready_node s.pairs i t.room ≡ head_node s.minimal (level_ops s.pairs small) (store_of s small t).levels i
    ready_is = ap₂ node_of (part_head s.pairs i t.room) (ap (λ (e : Ent). side_of e.tag) head_is)

    pub acquire_in : Within s.pairs i t.room (acquired (level_from s i) 0 t.room) (acquired 0 0 (part s.pairs i t.room))
    acquire_in = part_acquired s.pairs i t.room (S.good i h) 0 head_some

    -- the side taken gets its word
    taken_in : (w : ℕ) → part s.pairs i (worded s.pairs i (ready_node s.pairs i t.room) w (acquired (level_from s i) 0 t.room)) ≡ acquired 0 w (part s.pairs i t.room)
    taken_in w =
        let p = ring_head (level_from s i) t.room in
        let v : List ℕ = part s.pairs i t.room in
        let d = side_of head_entry.tag in
        let n = ready_node s.pairs i t.room in
        let x : n / 2 ≡ p = node_pair p d in
        let y : side_in n ≡ d = node_side p d in
        let z : head_entry ≡ ent_of 0 v (ring_head 0 v) = part_ent s.pairs i t.room p head_low ∙ ap (ent_of 0 v) (part_head s.pairs i t.room) in
        let cell : pair_cell 0 (side_at (side_in n)) (n / 2) ≡ pair_cell 0 (side_at (side_of (ent_of 0 v (ring_head 0 v)).tag)) (ring_head 0 v) = ap₂ (λ (b : Side) (q : ℕ). pair_cell 0 (side_at b) q) (y ∙ ap (λ (e : Ent). side_of e.tag) z) (x ∙ part_head s.pairs i t.room) in
        (worded_in s i n w (acquired (level_from s i) 0 t.room) (rw x head_low)).here
        ∙ ap₂ (λ (a : List ℕ) (q : ℕ). set a q w) acquire_in.here cell
        ∙ acquired_again 0 w v

  -- ---- a loan out of it

  pub lent_is : (t : Tables) → BuddyIn s → Lengths s t → Sound s t → (lev d k : ℕ) → up d lev < levels_in t → (level_ops s.pairs small).Some (part s.pairs (up d lev) t.room)
      → ((i : ℕ) → lev ≤ i → i < up d lev → (level_ops s.pairs small).Room (part s.pairs i t.room))
      → let O = level_ops s.pairs small in
      let W = (store_of s small t).levels in
      let e = ent_of (level_from s (up d lev)) t.room (ring_head (level_from s (up d lev)) t.room) in
      let r = split_down s.pairs lev e.chunk (base_of s.minimal e (up d lev)) k (ready_node s.pairs (up d lev) t.room) d (acquired (level_from s (up d lev)) 0 t.room) in
      (r.node ≡ loan_node s.minimal O W lev (head_node s.minimal O W (up d lev)) d)
      × ((i : ℕ) → i < levels_most → part s.pairs i r.room ≡ lend s.minimal O W lev d k i)
      × ((i : ℕ) → chunks_from s ≤ i → get_or r.room i 0 ≡ get_or t.room i 0) × (length r.room ≡ length t.room)
  unfolding lend
  lent_is t fit len S lev d k h some room = (X.node ∙ ap (λ (z : ℕ). loan_node s.minimal (level_ops s.pairs small) (store_of s small t).levels lev z d) (ready_is t S (up d lev) h some), levels, (λ i j. X.past i j ∙ D.past i j), X.long ∙ D.long)
    where
      m : ℕ
      m = up d lev

      e : Ent
      e = ent_of (level_from s (up d lev)) t.room (ring_head (level_from s (up d lev)) t.room)

      n : ℕ
      n = ready_node s.pairs (up d lev) t.room

      W : ℕ → List ℕ
      W = (store_of s small t).levels

      low : up d lev < levels_most
      low = omega (arith, S.levels_most_lem)

      t₁ : List ℕ
      t₁ = acquired (level_from s (up d lev)) 0 t.room

      r : Cut
      r = split_down s.pairs lev e.chunk (base_of s.minimal e (up d lev)) k n d t₁

      D : Left s (up d lev) t.room t₁
      D = within_left s (up d lev) t.room t₁ _ low (acquire_in t S (up d lev) h some)

      fits : Fits s (up d lev) n
      fits = inl (low, rw (node_pair (ring_head (level_from s (up d lev)) t.room) (side_of e.tag)) (head_low t S (up d lev) h some))

      X : Chain s small lev e.chunk (base_of s.minimal e (up d lev)) k W n d t₁ r
      X = split_is s small lev e.chunk (base_of s.minimal e (up d lev)) k d n t₁ W (omega arith) fits (rw D.long (tree_short t.room fit len.room))
          (λ i j. D.others i (λ b. omega arith)) (λ i j b. (part_good s.pairs i t.room).0 (S.good i (omega arith))) room

      -- the chain that the abstract loan has
      g : Ent → ℕ → Grown s.minimal (level_ops s.pairs small)
      g a b = chain s small lev a.chunk (base_of s.minimal a (up d lev)) k W b d

      one : (i : ℕ) → i < levels_most → part s.pairs i r.room ≡ cond (eqb i (up d lev)) (acquired 0 (g e n).top ((g e n).levels (up d lev))) ((g e n).levels i)
      one i j = ⊎_elim
          (λ z. rw (eq-eqb i (up d lev) z, z)
          (X.here ∙ taken_in t S (up d lev) h some (g e n).top ∙ ap (acquired 0 (g e n).top) (sym (chain_above s small lev e.chunk (base_of s.minimal e (up d lev)) k W n d (up d lev) (omega arith)))))
          (λ z. rw (ne_eqb i (up d lev) z) (⊎_elim (X.below i)
          (λ b. X.above i (omega arith) ∙ D.others i z ∙ sym (chain_above s small lev e.chunk (base_of s.minimal e (up d lev)) k W n d i b)) (lt_or_le i (up d lev))))
          (same? i (up d lev))

      levels : (i : ℕ) → i < levels_most → part s.pairs i r.room ≡ lend s.minimal (level_ops s.pairs small) W lev d k i
      levels i j = one i j ∙ ap₂ (λ (a : Ent) (b : ℕ). cond (eqb i (up d lev)) (acquired 0 (g a b).top ((g a b).levels (up d lev))) ((g a b).levels i)) (head_is t S (up d lev) h some) (ready_is t S (up d lev) h some)
