-- A free node split down to a loan, and a new chunk: the chain of new pairs stands for the spine.
use mathlib.Core.Path.{◌≡◌, refl, sym, ap, ◌∙◌}
use mathlib.Core.Bool.{false}
use mathlib.Core.Logic.{inl, inr, ⊎_elim}
use Prim.Native.Nat.{ℕ, zero, suc, ◌+◌, ◌*◌, ◌≤◌, ◌<◌}
use native.Mathlib.Omega.{arith}
use Rattle.lists.proofs.Bools.{same?}
use Rattle.slabs.specs.Slab.{nowhere}
use Rattle.buddy_trees.specs.Trees.{Tree, free, split, bytes, spine, up}
use Rattle.buddy_trees.proofs.Bytes.{up_le}
use Rattle.buddy_trees.proofs.Plants.{spine_taken}
use Rattle.buddy_rules.specs.Nodes.{Ent, Loan, L, node_of, pair_said, is_free, None}
use Rattle.buddy_rules.specs.Levels.{Ops}
use Rattle.buddy_rules.specs.Returns.{entries, put}
use Rattle.buddy_rules.specs.Lends.{grow, loan_node}
use Rattle.buddy_rules.proofs.Frames.{inside_same, inside_own, inside_left, inside_right, halves, frame_none, frame, local_keep, local_up, local_trans, local_there}
use Rattle.buddy_rules.proofs.Sides.{taken_not}
use Rattle.buddy_rules.proofs.Puts.{put_other, put_at, put_good, put_below, put_local}
use Rattle.buddy_rules.proofs.Gave.{Done}

module _ (u : ℕ) where
  -- the halves of an empty stretch are empty
  none_left : (E : ℕ → ℕ → Ent) (c l o : ℕ) → None u E c (suc l) o → None u E c l o
  none_left E c l o n i p h t s = n i p (omega arith) t (inside_left u (E i p) c o l s)

  none_right : (E : ℕ → ℕ → Ent) (c l o : ℕ) → None u E c (suc l) o → None u E c l (o + bytes u l)
  none_right E c l o n i p h t s = n i p (omega arith) t (inside_right u (E i p) c o l s)

module _ (u : ℕ) (O : Ops) (K : ℕ → Loan) where
  -- the chain of pairs touches only the levels below its top
  pub grow_above : (W : ℕ → O.Lv) (lev c o k n d j : ℕ) → up d lev ≤ j → (grow u O W lev c o k n d).levels j ≡ W j
  unfolding grow
  grow_above W lev c o k n zero j h = refl
  grow_above W lev c o k n (suc d) j h =
      let m = node_of (O.new_place (W (up d lev))) L in
      put_other O (grow u O W lev c o k m d).levels (up d lev) j _ (λ e. omega arith) ∙ grow_above W lev c o k m d j (omega arith)

  -- a new pair q of node n at level m, over its left node, whose word is w
  new_pair : 0 < u → (W W₁ : ℕ → O.Lv) (c m o n w q : ℕ) (x : Tree) → O.Good (W m) → None u (entries O W) c (suc m) o → is_free x ≡ false → O.new_place (W₁ m) ≡ q
      → Done u O K W W₁ c m o (node_of q L) w x → O.Room (W₁ m) → (O.Some (W₁ m) → ⊥)
      → Done u O K W (put O W₁ m (O.add (W₁ m) c o n w)) c (suc m) o n (2 * q + 2) (split x free)
  new_pair pu W W₁ c m o n w q x gm empty f e d rm sm =
      let v = O.add (W₁ m) c o n w in
      let E = entries O W in
      let E₁ = entries O W₁ in
      let E₂ = entries O (put O W₁ m v) in
      let gd = d.good m gm in
      let pl : pair_said (2 * q + 2) ≡ q = omega arith in
      let h : O.ent v q ≡ record { tag = 3; chunk = c; off = o; left = w; right = 0; up = n } = ap (O.ent v) (sym e) ∙ O.add_here (W₁ m) c o n w gd rm sm in
      let a : E₂ m q ≡ record { tag = 3; chunk = c; off = o; left = w; right = 0; up = n } = put_at O W₁ m v q ∙ h in
      let g : (p : ℕ) → (p ≡ q → ⊥) → O.ent v p ≡ O.ent (W₁ m) p = λ p k. O.add_other (W₁ m) c o n w p gd rm sm (λ z. k (z ∙ e)) in
      record {
        rep = record {
          is = omega arith;
          tag = rw (pl, a, f) refl;
          chunk = rw (pl, a) refl;
          off = rw (pl, a) refl;
          up = rw (pl, a) refl;
          only = λ p t i. rw pl (⊎_elim (λ k. k) (λ k.
              let y : E₂ m p ≡ E₁ m p = put_at O W₁ m v p ∙ g p k in
              let t₁ : 0 < (E₁ m p).tag = rw y at t in
              let z : E₁ m p ≡ E m p = local_there u E E₁ c o m p d.local t₁ in
              absurd (empty m p (omega arith) (rw z at t₁) (inside_same u (E₂ m p) (E m p) c o (suc m) (y ∙ z) i))) (same? p q));
          this = rw (pl, a) (frame u E₁ E₂ K c m o (node_of q L) w x pu (put_below u O W₁ m v c o) d.rep);
          twin = rw (pl, a) (
            refl,
            frame_none u E₁ E₂ c m (o + bytes u m) (put_below u O W₁ m v c (o + bytes u m))
                (frame_none u E E₁ c m (o + bytes u m) (local_keep u E E₁ c o m c (o + bytes u m) m (halves u L c o m) d.local) (none_right u E c m o empty)),
          );
        };
        local = local_trans u E E₁ E₂ c o (suc m) (local_up u L E E₁ c o m d.local)
            (put_local u O W₁ m v q c o g (inl (ap (λ z. (O.ent (W₁ m) z).tag) (sym e) ∙ O.new_place_vacant (W₁ m) gd rm))
            (inr (rw h (inside_own u (record { tag = 3; chunk = c; off = o; left = w; right = 0; up = n }) c o (suc m) pu refl refl))));
        good = put_good O W W₁ m v d.good (O.add_good (W₁ m) c o n w gd rm sm);
      }

  -- the loan's node is the same seen from the left node one level down
  loan_left : (W : ℕ → O.Lv) (lev d : ℕ) → loan_node u O W lev (node_of (O.new_place (W (up d lev))) L) d ≡ node_of (O.new_place (W lev)) L
  loan_left W lev zero = refl
  loan_left W lev (suc d) = refl

  -- the chain of new pairs stands for the spine
  pub grown : 0 < u → (W : ℕ → O.Lv) (lev c o k n d : ℕ) → ((i : ℕ) → i < up d lev → O.Good (W i)) → K k ≡ record { chunk = c; at = o; lev = lev; node = loan_node u O W lev n d } → None u (entries O W) c (up d lev) o
      → ((i : ℕ) → i < up d lev → lev ≤ i → O.Room (W i)) → ((i : ℕ) → i < up d lev → lev ≤ i → O.Some (W i) → ⊥)
      → Done u O K W (grow u O W lev c o k n d).levels c (up d lev) o n (grow u O W lev c o k n d).top (spine d k)
  unfolding grow
  grown pu W lev c o k n zero g e empty rm sm = record { rep = (refl, e, empty); local = λ i p. inl refl; good = λ i h. h }
  grown pu W lev c o k n (suc d) g e empty rm sm =
      let m = up d lev in
      let q = O.new_place (W m) in
      let b = grow_above W lev c o k (node_of q L) d m (omega arith) in
      let f = e ∙ (λ j. record { chunk = c; at = o; lev = lev; node = sym (loan_left W lev d) j }) in
      new_pair pu W (grow u O W lev c o k (node_of q L) d).levels c m o n (grow u O W lev c o k (node_of q L) d).top q (spine d k) (g m (omega arith)) empty (taken_not (spine d k) (spine_taken d k)) (ap O.new_place b)
      (grown pu W lev c o k (node_of q L) d (λ i h. g i (omega arith)) f (none_left u (entries O W) c m o empty) (λ i h j. rm i (omega arith) j) (λ i h j. sm i (omega arith) j))
      (rw b (rm m (omega arith) (up_le d lev))) (rw b (sm m (omega arith) (up_le d lev)))

  -- a new chunk, of which no pair was in use: its top node is split down to the loan
  pub new_chunk : 0 < u → (W : ℕ → O.Lv) (lev c k d : ℕ) → ((i : ℕ) → i < up (suc d) lev → O.Good (W i))
      → K k ≡ record { chunk = c; at = 0; lev = lev; node = node_of (O.new_place (W lev)) L }
      → ((i p : ℕ) → i < up (suc d) lev → 0 < (entries O W i p).tag → (entries O W i p).chunk ≡ c → ⊥)
      → ((i : ℕ) → lev ≤ i → i ≤ up d lev → O.Room (W i)) → ((i : ℕ) → lev ≤ i → i ≤ up d lev → O.Some (W i) → ⊥)
      → Done u O K W (grow u O W lev c 0 k nowhere (suc d)).levels c (up (suc d) lev) 0 nowhere (grow u O W lev c 0 k nowhere (suc d)).top (spine (suc d) k)
  new_chunk pu W lev c k d g e empty rm sm =
      grown pu W lev c 0 k nowhere (suc d) g e (λ i p h t s. empty i p h t s.0) (λ i h j. rm i j (omega arith)) (λ i h j. sm i j (omega arith))
