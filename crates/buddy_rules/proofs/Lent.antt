-- A block lent: the levels stand for the tree with that loan planted.
use mathlib.Core.Path.{◌≡◌, refl, sym, ap, ◌∙◌, subst}
use mathlib.Core.Bool.{true, false}
use mathlib.Core.Logic.{◌⊎◌, inl, inr, ⊎_elim}
use Prim.Native.Nat.{ℕ, zero, suc, ◌+◌, ◌≤◌, ◌<◌}
use native.Mathlib.Omega.{arith}
use lib.Dec.{ltb}
use borrow.Author.Tests.{lt-ltb, le-ltb}
use Rattle.lists.proofs.Bools.{same?}
use Rattle.slabs.specs.Slab.{nowhere}
use Rattle.buddy_trees.specs.Trees.{Tree, free, loan, split, Wf, up, bytes, spine, plant}
use Rattle.buddy_trees.proofs.Bytes.{bytes_pos}
use Rattle.buddy_trees.proofs.Fills.{free_in_lem}
use Rattle.buddy_trees.proofs.Plants.{spine_taken, plant_taken}
use Rattle.buddy_rules.specs.Nodes.{Ent, Loan, Side, L, R, other, node_of, word, pair_said, is_free, split_by, base, Inside, Rep}
use Rattle.buddy_rules.specs.Levels.{filled, side_of, base_of, Ops}
use Rattle.buddy_rules.specs.Returns.{entries, put}
use Rattle.buddy_rules.specs.Lends.{grow, loan_node, head_node, lend}
use Rattle.buddy_rules.proofs.Frames.{inside_same, inside_own, inside_cases, frame, local_up, local_trans}
use Rattle.buddy_rules.proofs.Sides.{merge_split, taken_not, not_taken, tag_one, filled_tag, filled_chunk, filled_off, filled_up, filled_this, filled_twin, NodeBy, from_side, to_side, occupied}
use Rattle.buddy_rules.proofs.Puts.{put_at, put_good, put_below, put_local}
use Rattle.buddy_rules.proofs.Gave.{Done, mid_twin, mid_only, mid_own, step_same}
use Rattle.buddy_rules.proofs.Readies.{side_of_lem, base_is, ready_free, free_none}
use Rattle.buddy_rules.proofs.Grown.{grow_above, grown}

module _ (u : ℕ) (O : Ops) (K : ℕ → Loan) where
  -- pair q of level i is filled, v being that level: its ready side stands for t
  pub record Fill (W W₁ : ℕ → O.Lv) (c i q w : ℕ) (t : Tree) (v : O.Lv) : Type 0 where
    pub ready : 1 < (O.ent (W i) q).tag
    pub node : Done u O K W W₁ c i (base_of u (O.ent (W i) q) i) (node_of q (side_of (O.ent (W i) q).tag)) w t
    pub taken : is_free t ≡ false
    pub level : O.Good v
    pub here : O.ent v q ≡ filled (side_of (O.ent (W i) q).tag) w (O.ent (W i) q)
    pub others : (x : ℕ) → (x ≡ q → ⊥) → O.ent v x ≡ O.ent (W₁ i) x

  fill_side : 0 < u → (W W₁ : ℕ → O.Lv) (c i o n w w' : ℕ) (t : Tree) (v : O.Lv) (s : Side) (x y : Tree)
      → NodeBy u (entries O W) K c i o n w s x y → side_of (O.ent (W i) (pair_said w)).tag ≡ s → is_free y ≡ false → base_of u (O.ent (W i) (pair_said w)) i ≡ base u s o i
      → Fill W W₁ c i (pair_said w) w' t v → Done u O K W (put O W₁ i v) c (suc i) o n w (split_by s t y)
  fill_side pu W W₁ c i o n w w' t v s x y r es ty eb f =
      let q = pair_said w in
      let E = entries O W in
      let E₁ = entries O W₁ in
      let E₂ = entries O (put O W₁ i v) in
      let d : Done u O K W W₁ c i (base u s o i) (node_of q s) w' t = subst (λ (z : ℕ). Done u O K W W₁ c i z (node_of q s) w' t) eb (subst (λ (z : Side). Done u O K W W₁ c i (base_of u (E i q) i) (node_of q z) w' t) es f.node) in
      let a : E₂ i q ≡ filled s w' (E i q) = put_at O W₁ i v q ∙ f.here ∙ ap (λ z. filled z w' (E i q)) es in
      let ch : (E₂ i q).chunk ≡ c = ap (λ z. z.chunk) a ∙ filled_chunk s w' (E i q) ∙ r.chunk in
      let of : (E₂ i q).off ≡ o = ap (λ z. z.off) a ∙ filled_off s w' (E i q) ∙ r.off in
      record {
        rep = from_side u E₂ K c i o n w s t y (record {
          is = r.is;
          tag = ap (λ z. z.tag) a ∙ filled_tag s w' (E i q) ∙ sym (tag_one s t y f.taken ty);
          chunk = ch;
          off = of;
          up = ap (λ z. z.up) a ∙ filled_up s w' (E i q) ∙ r.up;
          only = λ p g j. ⊎_elim (λ k. k) (λ k.
              let z : E₂ i p ≡ E₁ i p = put_at O W₁ i v p ∙ f.others p k in
              mid_only u O K pu W c i o n w s x y W₁ r d.local p (rw z at g) (inside_same u _ _ c o (suc i) z j)) (same? p q);
          this = rw (ap (word s) a ∙ filled_this s w' (E i q)) (frame u E₁ E₂ K c i (base u s o i) (node_of q s) w' t pu (put_below u O W₁ i v c (base u s o i)) d.rep);
          twin = rw (ap (word (other s)) a ∙ filled_twin s w' (E i q))
              (frame u E₁ E₂ K c i (base u (other s) o i) _ _ y pu (put_below u O W₁ i v c (base u (other s) o i)) (mid_twin u O K pu W c i o n w s x y W₁ r d.local));
        });
        local = local_trans u E E₁ E₂ c o (suc i) (local_up u s E E₁ c o i d.local)
            (put_local u O W₁ i v q c o f.others (inr (mid_own u O K pu W c i o n w s x y W₁ r d.local))
            (inr (inside_same u (E₂ i q) (O.ent v q) c o (suc i) (put_at O W₁ i v q) (inside_own u (E₂ i q) c o (suc i) pu ch of))));
        good = put_good O W W₁ i v d.good f.level;
      }

  -- the node whose own pair is filled
  fill_node : 0 < u → (W W₁ : ℕ → O.Lv) (c i o n w w' q : ℕ) (t : Tree) (v : O.Lv) (a b : Tree)
      → Wf (suc i) (split a b) → Rep u (entries O W) K c (suc i) o n w (split a b) → q ≡ pair_said w → Fill W W₁ c i q w' t v
      → Done u O K W (put O W₁ i v) c (suc i) o n w (plant u (suc i) o (base_of u (O.ent (W i) q) i) t (split a b))
  fill_node pu W W₁ c i o n w w' q t v a b k r e f = rw e (at (rw e at f))
    where
      at : Fill W W₁ c i (pair_said w) w' t v → Done u O K W (put O W₁ i v) c (suc i) o n w (plant u (suc i) o (base_of u (O.ent (W i) (pair_said w)) i) t (split a b))
      at f = ⊎_elim
          (λ z.
          let eb = base_is u (entries O W) K c i o n w a b L r z.2 in
          let lt : ltb o (o + bytes u i) ≡ true = lt-ltb o (o + bytes u i) (omega (arith, bytes_pos u i pu)) in
          rw (eb, lt, z.0) (fill_side pu W W₁ c i o n w w' t v L a b r (ap side_of r.tag ∙ z.2) z.1 eb f))
          (λ z.
          let eb = base_is u (entries O W) K c i o n w a b R r z.2 in
          let lt : ltb (o + bytes u i) (o + bytes u i) ≡ false = le-ltb (o + bytes u i) (o + bytes u i) (omega arith) in
          rw (eb, lt, z.0) (fill_side pu W W₁ c i o n w w' t v R b a (to_side u (entries O W) K c i o n w R b a r) (ap side_of r.tag ∙ z.2) z.1 eb f))
          (side_of_lem a b k.0 (rw r.tag at f.ready))

  -- the same, anywhere in a tree: the ready side becomes t
  pub placed : 0 < u → (W W₁ : ℕ → O.Lv) (c l o n w i w' q : ℕ) (t : Tree) (v : O.Lv) (z : Tree)
      → Wf l z → Rep u (entries O W) K c l o n w z → i < l → Inside u (O.ent (W i) q) c o l → Fill W W₁ c i q w' t v
      → Done u O K W (put O W₁ i v) c l o n w (plant u l o (base_of u (O.ent (W i) q) i) t z)
  placed pu W W₁ c l o n w i w' q t v free k r h s f = absurd (r.1 i q h (omega (arith, f.ready)) s)
  placed pu W W₁ c l o n w i w' q t v (loan j) k r h s f = absurd (r.2 i q h (omega (arith, f.ready)) s)
  placed pu W W₁ c zero o n w i w' q t v (split a b) k r h s f = absurd r
  placed pu W W₁ c (suc l) o n w i w' q t v (split a b) k r h s f =
      go (same? i l)
      (λ g j. placed pu W W₁ c l o (node_of (pair_said w) L) (O.ent (W l) (pair_said w)).left i w' q t v a k.1 r.this g j f)
      (λ g j. placed pu W W₁ c l (o + bytes u l) (node_of (pair_said w) R) (O.ent (W l) (pair_said w)).right i w' q t v b k.2 r.twin g j f)
    where
      x : ℕ
      x = base_of u (O.ent (W i) q) i

      taken : (o : ℕ) (z : Tree) → is_free (plant u l o x t z) ≡ false
      taken o z = taken_not (plant u l o x t z) (plant_taken u l o x t z (not_taken t f.taken))

      go : (i ≡ l) ⊎ (i ≡ l → ⊥)
          → (i < l → Inside u (O.ent (W i) q) c o l → Done u O K W (put O W₁ i v) c l o (node_of (pair_said w) L) (O.ent (W l) (pair_said w)).left (plant u l o x t a))
          → (i < l → Inside u (O.ent (W i) q) c (o + bytes u l) l → Done u O K W (put O W₁ i v) c l (o + bytes u l) (node_of (pair_said w) R) (O.ent (W l) (pair_said w)).right (plant u l (o + bytes u l) x t b))
          → Done u O K W (put O W₁ i v) c (suc l) o n w (plant u (suc l) o x t (split a b))
      go (inl e) fa fb =
          let r' : Rep u (entries O W) K c (suc i) o n w (split a b) = rw (← e) at r in
          let s' : Inside u (O.ent (W i) q) c o (suc i) = rw (← e) at s in
          rw (← e) (fill_node pu W W₁ c i o n w w' q t v a b (rw (← e) at k) r' (r'.only q (omega (arith, f.ready)) s') f)
      go (inr m) fa fb =
          let g : i < l = omega arith in
          ⊎_elim
          (λ j.
          let fr = free_in_lem u l o a x i (ready_free u (entries O W) K c l o _ (O.ent (W l) (pair_said w)).left i q a k.1 r.this g f.ready j) in
          let lt : ltb x (o + bytes u l) ≡ true = lt-ltb x (o + bytes u l) (omega (arith, fr.1, bytes_pos u i pu)) in
          rw lt (rw (merge_split L (plant u l o x t a) b (taken o a)) at
          (step_same u O K pu W c l o n w L a b (plant u l o x t a) (put O W₁ i v) r (occupied u (entries O W) K c l o _ _ i q a r.this g (omega (arith, f.ready)) j) (fa g j))))
          (λ j.
          let fr = free_in_lem u l (o + bytes u l) b x i (ready_free u (entries O W) K c l (o + bytes u l) _ (O.ent (W l) (pair_said w)).right i q b k.2 r.twin g f.ready j) in
          let lt : ltb x (o + bytes u l) ≡ false = le-ltb x (o + bytes u l) fr.0 in
          rw lt (rw (merge_split R (plant u l (o + bytes u l) x t b) a (taken (o + bytes u l) b)) at
          (step_same u O K pu W c l o n w R b a (plant u l (o + bytes u l) x t b) (put O W₁ i v) (to_side u (entries O W) K c l o n w R b a r) (occupied u (entries O W) K c l (o + bytes u l) _ _ i q b r.twin g (omega (arith, f.ready)) j) (fb g j))))
          (inside_cases u L (O.ent (W i) q) c o l s)

  abbrev pub head_e : (ℕ → O.Lv) → ℕ → Ent
  head_e W i = O.ent (W i) (O.head (W i))

  take_moved : (v₁ v : O.Lv) (w : ℕ) → v₁ ≡ v → O.Good v → O.Some v → O.ent (O.take v₁ w) (O.head v) ≡ filled (side_of (O.ent v (O.head v)).tag) w (O.ent v (O.head v))
  take_moved v₁ v w e g s = rw e (O.take_here v w g s)

  take_rest : (v₁ v : O.Lv) (w x : ℕ) → v₁ ≡ v → O.Good v → O.Some v → (x ≡ O.head v → ⊥) → O.ent (O.take v₁ w) x ≡ O.ent v₁ x
  take_rest v₁ v w x e g s n = rw e (O.take_other v w x g s n)

  -- the head of the first level that has one is split down, and its left end lent as k
  pub lent : 0 < u → (W : ℕ → O.Lv) (l w lev d k : ℕ) (t : Tree) → ((i : ℕ) → i < l → O.Good (W i)) → O.Some (W (up d lev))
      → Wf l t → Rep u (entries O W) K (head_e W (up d lev)).chunk l 0 nowhere w t → up d lev < l → (head_e W (up d lev)).off < bytes u l
      → K k ≡ record { chunk = (head_e W (up d lev)).chunk; at = base_of u (head_e W (up d lev)) (up d lev); lev = lev; node = loan_node u O W lev (head_node u O W (up d lev)) d }
      → ((i : ℕ) → i < up d lev → lev ≤ i → O.Room (W i)) → ((i : ℕ) → i < up d lev → lev ≤ i → O.Some (W i) → ⊥)
      → Done u O K W (lend u O W lev d k) (head_e W (up d lev)).chunk l 0 nowhere w (plant u l 0 (base_of u (head_e W (up d lev)) (up d lev)) (spine d k) t)
  unfolding lend
  lent pu W l w lev d k t g sm v r h s kk rm em =
      let i = up d lev in
      let q = O.head (W i) in
      let c = (head_e W i).chunk in
      let x = base_of u (head_e W i) i in
      let m = head_node u O W i in
      let G = grow u O W lev c x k m d in
      let rd : 1 < (head_e W i).tag = O.head_ready (W i) (g i h) sm in
      let s' : Inside u (head_e W i) c 0 l = (refl, omega arith, omega arith) in
      let n = free_none u (entries O W) K c l 0 nowhere w x i t r (ready_free u (entries O W) K c l 0 nowhere w i q t v r h rd s') in
      let b : G.levels i ≡ W i = grow_above u O K W lev c x k m d i (omega arith) in
      placed pu W G.levels c l 0 nowhere w i G.top q (spine d k) (O.take (G.levels i) G.top) t v r h s' (record {
        ready = rd;
        node = grown u O K pu W lev c x k m d (λ j z. g j (omega arith)) kk n rm em;
        taken = taken_not (spine d k) (spine_taken d k);
        level = O.take_good (G.levels i) G.top (rw b (g i h)) (rw b sm);
        here = take_moved (G.levels i) (W i) G.top b (g i h) sm;
        others = λ y z. take_rest (G.levels i) (W i) G.top y b (g i h) sm z;
      })
