-- A block given back by recursion from the top: the levels stand for the tree without that loan.
use mathlib.Core.Path.{◌≡◌, refl, sym, ap, ◌∙◌}
use mathlib.Core.Bool.{Bool, true, false, cond}
use mathlib.Core.Logic.{◌⊎◌, inl, inr, ⊎_elim}
use Prim.Native.Nat.{ℕ, zero, suc, ◌+◌, ◌%◌, ◌≤◌, ◌<◌}
use native.Mathlib.Omega.{arith}
use lib.Dec.{ltb}
use borrow.Author.Tests.{eq-eqb, ne_eqb, lt-ltb, le-ltb}
use Rattle.lists.proofs.Bools.{same?, told}
use Rattle.buddy_trees.specs.Trees.{Tree, free, loan, split, Wf, bytes, Has, remove}
use Rattle.buddy_trees.proofs.Bytes.{bytes_pos}
use Rattle.buddy_trees.proofs.Fills.{has_in}
use Rattle.buddy_rules.specs.Nodes.{Ent, Loan, Side, L, R, other, node_of, word, pair_said, is_free, split_by, base, Inside, None, Rep, Local}
use Rattle.buddy_rules.specs.Levels.{readied, Ops}
use Rattle.buddy_rules.specs.Returns.{entries, put, settle, give}
use Rattle.buddy_rules.proofs.Frames.{inside_same, inside_own, inside_cases, halves, frame_none, frame, local_keep, local_up, local_trans, local_here, local_there, rep_zero, rep_free, rep_taken, rep_loan, remove_absent}
use Rattle.buddy_rules.proofs.Sides.{merge_by, merge_split, merge_free, merge_both, tag_one, tag_ready, tag_any, tag_kept, ready_tag_lem, ready_chunk, ready_off, ready_up, ready_this, ready_twin, NodeBy, from_side, to_side, not_free, has_taken}
use Rattle.buddy_rules.proofs.Puts.{put_other, put_at, put_good, put_below, put_local}

module _ (u : ℕ) (O : Ops) (K : ℕ → Loan) where
  -- from W to W' node n of level l at o of chunk c came to stand for t, by a change within it
  pub record Done (W W' : ℕ → O.Lv) (c l o n w : ℕ) (t : Tree) : Type 0 where
    pub rep : Rep u (entries O W') K c l o n w t
    pub local : Local u (entries O W) (entries O W') c o l
    pub good : (i : ℕ) → O.Good (W i) → O.Good (W' i)

  -- ---- after a half is done, its pair's entry, its twin and the rest of the level are as before

  module _ (pu : 0 < u) (W : ℕ → O.Lv) (c l o n w : ℕ) (s : Side) (x y : Tree) (W₁ : ℕ → O.Lv) (r : NodeBy u (entries O W) K c l o n w s x y) (loc : Local u (entries O W) (entries O W₁) c (base u s o l) l) where
    pub mid_entry : O.ent (W₁ l) (pair_said w) ≡ O.ent (W l) (pair_said w)
    mid_entry = local_here u (entries O W) (entries O W₁) c (base u s o l) l (pair_said w) loc (rw r.tag (tag_any s x y))

    pub mid_twin : Rep u (entries O W₁) K c l (base u (other s) o l) (node_of (pair_said w) (other s)) (word (other s) (O.ent (W l) (pair_said w))) y
    mid_twin =
        frame u (entries O W) (entries O W₁) K c l (base u (other s) o l) (node_of (pair_said w) (other s)) (word (other s) (O.ent (W l) (pair_said w))) y pu
        (local_keep u (entries O W) (entries O W₁) c (base u s o l) l c (base u (other s) o l) l (halves u s c o l) loc) r.twin

    pub mid_only : (p : ℕ) → 0 < (O.ent (W₁ l) p).tag → Inside u (O.ent (W₁ l) p) c o (suc l) → p ≡ pair_said w
    mid_only p h i =
        let f : O.ent (W₁ l) p ≡ O.ent (W l) p = local_there u (entries O W) (entries O W₁) c (base u s o l) l p loc h in
        r.only p (rw f at h) (inside_same u (O.ent (W₁ l) p) (O.ent (W l) p) c o (suc l) f i)

    pub mid_own : Inside u (O.ent (W₁ l) (pair_said w)) c o (suc l)
    mid_own = rw mid_entry (inside_own u (O.ent (W l) (pair_said w)) c o (suc l) pu r.chunk r.off)

  -- ---- one level up

  -- the node below stays taken
  pub step_same : 0 < u → (W : ℕ → O.Lv) (c l o n w : ℕ) (s : Side) (x y x' : Tree) (W₁ : ℕ → O.Lv)
      → NodeBy u (entries O W) K c l o n w s x y → is_free x ≡ false
      → Done W W₁ c l (base u s o l) (node_of (pair_said w) s) (word s (O.ent (W l) (pair_said w))) x'
      → Done W W₁ c (suc l) o n w (merge_by s x' y)
  step_same pu W c l o n w s x y x' W₁ r h d =
      let nf : is_free x' ≡ false = not_free u (entries O W₁) K c l (base u s o l) _ _ x' d.rep (rep_taken u (entries O W) K c l (base u s o l) _ _ x r.this h) in
      let e = mid_entry pu W c l o n w s x y W₁ r d.local in
      record {
        rep = rw (merge_split s x' y nf) (from_side u (entries O W₁) K c l o n w s x' y (record {
          is = r.is;
          tag = ap (λ d. d.tag) e ∙ r.tag ∙ tag_kept s x x' y (h ∙ sym nf);
          chunk = ap (λ d. d.chunk) e ∙ r.chunk;
          off = ap (λ d. d.off) e ∙ r.off;
          up = ap (λ d. d.up) e ∙ r.up;
          only = mid_only pu W c l o n w s x y W₁ r d.local;
          this = rw e d.rep;
          twin = rw e (mid_twin pu W c l o n w s x y W₁ r d.local);
        }));
        local = local_up u s (entries O W) (entries O W₁) c o l d.local;
        good = d.good;
      }

  -- nothing is left of the node once its pair is vacant
  gone : 0 < u → (W : ℕ → O.Lv) (c l o n w : ℕ) (s : Side) (x : Tree) (W₁ : ℕ → O.Lv) (r : NodeBy u (entries O W) K c l o n w s x free) (d : Done W W₁ c l (base u s o l) (node_of (pair_said w) s) 0 free) (v : O.Lv)
      → (O.ent v (pair_said w)).tag ≡ 0 → ((p : ℕ) → (p ≡ pair_said w → ⊥) → O.ent v p ≡ O.ent (W₁ l) p) → None u (entries O (put O W₁ l v)) c (suc l) o
  gone pu W c l o n w s x W₁ r d v h f i p b t m = ⊎_elim here below (same? i l)
    where
      here : i ≡ l → ⊥
      here e =
          let g : O.ent (put O W₁ l v i) p ≡ O.ent v p = ap (λ j. O.ent (put O W₁ l v j) p) e ∙ put_at O W₁ l v p in
          ⊎_elim
          (λ k. let z : (O.ent (put O W₁ l v i) p).tag ≡ 0 = ap (λ d. d.tag) g ∙ ap (λ j. (O.ent v j).tag) k ∙ h in omega arith)
          (λ a. let k : O.ent (put O W₁ l v i) p ≡ O.ent (W₁ l) p = g ∙ f p a in a (mid_only pu W c l o n w s x free W₁ r d.local p (rw k at t) (inside_same u _ _ c o (suc l) k m)))
          (same? p (pair_said w))

      below : (i ≡ l → ⊥) → ⊥
      below a =
          let k : O.ent (put O W₁ l v i) p ≡ O.ent (W₁ i) p = ap (λ z. O.ent z p) (put_other O W₁ l i v a) in
          let g : 0 < (O.ent (W₁ i) p).tag = rw k at t in
          let j : i < l = omega arith in
          ⊎_elim
          (λ z. d.rep.1 i p j g z)
          (λ z. (mid_twin pu W c l o n w s x free W₁ r d.local).1 i p j g z)
          (inside_cases u s (O.ent (W₁ i) p) c o l (inside_same u _ _ c o (suc l) k m))

  -- both halves are free: the pair goes
  step_drop : 0 < u → (W : ℕ → O.Lv) (c l o n w : ℕ) (s : Side) (x : Tree) (W₁ : ℕ → O.Lv) → O.Good (W l)
      → NodeBy u (entries O W) K c l o n w s x free
      → Done W W₁ c l (base u s o l) (node_of (pair_said w) s) 0 free
      → Done W (put O W₁ l (O.drop (W₁ l) (pair_said w))) c (suc l) o n 0 free
  step_drop pu W c l o n w s x W₁ gl r d =
      let q = pair_said w in
      let e = mid_entry pu W c l o n w s x free W₁ r d.local in
      let t : 1 < (O.ent (W₁ l) q).tag = rw (e, r.tag) (tag_ready s x free refl) in
      let v = O.drop (W₁ l) q in
      let h = O.drop_here (W₁ l) q (d.good l gl) t in
      let f : (p : ℕ) → (p ≡ q → ⊥) → O.ent v p ≡ O.ent (W₁ l) p = λ p a. O.drop_other (W₁ l) q p (d.good l gl) t a in
      record {
        rep = (refl, gone pu W c l o n w s x W₁ r d v h f);
        local = local_trans u (entries O W) (entries O W₁) (entries O (put O W₁ l v)) c o (suc l)
            (local_up u s (entries O W) (entries O W₁) c o l d.local)
            (put_local u O W₁ l v q c o f (inr (mid_own pu W c l o n w s x free W₁ r d.local)) (inl h));
        good = put_good O W W₁ l v d.good (O.drop_good (W₁ l) q (d.good l gl) t);
      }

  -- the twin is taken: the pair is ready
  step_back : 0 < u → (W : ℕ → O.Lv) (c l o n w : ℕ) (s : Side) (x y : Tree) (W₁ : ℕ → O.Lv) → O.Good (W l)
      → NodeBy u (entries O W) K c l o n w s x y → is_free x ≡ false → is_free y ≡ false
      → Done W W₁ c l (base u s o l) (node_of (pair_said w) s) 0 free
      → Done W (put O W₁ l (O.back (W₁ l) (pair_said w) s)) c (suc l) o n w (split_by s free y)
  step_back pu W c l o n w s x y W₁ gl r hx hy d =
      let q = pair_said w in
      let e = mid_entry pu W c l o n w s x y W₁ r d.local in
      let t : (O.ent (W₁ l) q).tag ≡ 1 = ap (λ d. d.tag) e ∙ r.tag ∙ tag_one s x y hx hy in
      let v = O.back (W₁ l) q s in
      let h : O.ent v q ≡ readied s (O.ent (W₁ l) q) = O.back_here (W₁ l) q s (d.good l gl) t in
      let a : O.ent (put O W₁ l v l) q ≡ readied s (O.ent (W l) q) = put_at O W₁ l v q ∙ h ∙ ap (readied s) e in
      let f : (p : ℕ) → (p ≡ q → ⊥) → O.ent v p ≡ O.ent (W₁ l) p = λ p k. O.back_other (W₁ l) q s p (d.good l gl) t k in
      let ch : (O.ent (put O W₁ l v l) q).chunk ≡ c = ap (λ d. d.chunk) a ∙ ready_chunk s (O.ent (W l) q) ∙ r.chunk in
      let of : (O.ent (put O W₁ l v l) q).off ≡ o = ap (λ d. d.off) a ∙ ready_off s (O.ent (W l) q) ∙ r.off in
      record {
        rep = from_side u (entries O (put O W₁ l v)) K c l o n w s free y (record {
          is = r.is;
          tag = ap (λ d. d.tag) a ∙ ready_tag_lem s (O.ent (W l) q) y hy;
          chunk = ch;
          off = of;
          up = ap (λ d. d.up) a ∙ ready_up s (O.ent (W l) q) ∙ r.up;
          only = λ p g i. ⊎_elim (λ k. k) (λ k.
              let z : O.ent (put O W₁ l v l) p ≡ O.ent (W₁ l) p = put_at O W₁ l v p ∙ f p k in
              mid_only pu W c l o n w s x y W₁ r d.local p (rw z at g) (inside_same u _ _ c o (suc l) z i)) (same? p q);
          this = (ap (word s) a ∙ ready_this s (O.ent (W l) q), frame_none u (entries O W₁) (entries O (put O W₁ l v)) c l (base u s o l) (put_below u O W₁ l v c (base u s o l)) d.rep.1);
          twin = rw (ap (word (other s)) a ∙ ready_twin s (O.ent (W l) q))
              (frame u (entries O W₁) (entries O (put O W₁ l v)) K c l (base u (other s) o l) _ _ y pu (put_below u O W₁ l v c (base u (other s) o l)) (mid_twin pu W c l o n w s x y W₁ r d.local));
        });
        local = local_trans u (entries O W) (entries O W₁) (entries O (put O W₁ l v)) c o (suc l)
            (local_up u s (entries O W) (entries O W₁) c o l d.local)
            (put_local u O W₁ l v q c o f (inr (mid_own pu W c l o n w s x y W₁ r d.local)) (inr (inside_same u (O.ent (put O W₁ l v l) q) (O.ent v q) c o (suc l) (put_at O W₁ l v q) (inside_own u (O.ent (put O W₁ l v l) q) c o (suc l) pu ch of))));
        good = put_good O W W₁ l v d.good (O.back_good (W₁ l) q s (d.good l gl) t);
      }

  step_true : 0 < u → (W : ℕ → O.Lv) (c l o n w : ℕ) (s : Side) (x y : Tree) (W₁ : ℕ → O.Lv) → O.Good (W l)
      → NodeBy u (entries O W) K c l o n w s x y → is_free x ≡ false
      → Done W W₁ c l (base u s o l) (node_of (pair_said w) s) 0 free
      → Done W (settle O l (pair_said w) s true W₁).levels c (suc l) o n (cond (settle O l (pair_said w) s true W₁).freed 0 w) (merge_by s free y)
  step_true pu W c l o n w s x y W₁ gl r h d = go (told (is_free y))
    where
      at : word (other s) (O.ent (W₁ l) (pair_said w)) ≡ word (other s) (O.ent (W l) (pair_said w))
      at = ap (word (other s)) (mid_entry pu W c l o n w s x y W₁ r d.local)

      go : (is_free y ≡ true) ⊎ (is_free y ≡ false) → Done W (settle O l (pair_said w) s true W₁).levels c (suc l) o n (cond (settle O l (pair_said w) s true W₁).freed 0 w) (merge_by s free y)
      go (inl f) =
          let z = rep_free u (entries O W) K c l (base u (other s) o l) _ _ y r.twin f in
          rw (eq-eqb (word (other s) (O.ent (W₁ l) (pair_said w))) 0 (at ∙ z.1), z.0, merge_both s) (step_drop pu W c l o n w s x W₁ gl (rw z.0 at r) d)
      go (inr f) =
          rw (ne_eqb (word (other s) (O.ent (W₁ l) (pair_said w))) 0 (λ z. rep_taken u (entries O W) K c l (base u (other s) o l) _ _ y r.twin f (sym at ∙ z)), merge_free s y f)
          (step_back pu W c l o n w s x y W₁ gl r h f d)

  -- side s, whose node stood for x, was given back and stands for x'
  step : 0 < u → (W : ℕ → O.Lv) (c l o n w : ℕ) (s : Side) (x y x' : Tree) (b : Bool) (W₁ : ℕ → O.Lv) → O.Good (W l)
      → NodeBy u (entries O W) K c l o n w s x y → is_free x ≡ false
      → Done W W₁ c l (base u s o l) (node_of (pair_said w) s) (cond b 0 (word s (O.ent (W l) (pair_said w)))) x'
      → Done W (settle O l (pair_said w) s b W₁).levels c (suc l) o n (cond (settle O l (pair_said w) s b W₁).freed 0 w) (merge_by s x' y)
  step pu W c l o n w s x y x' false W₁ gl r h d = step_same pu W c l o n w s x y x' W₁ r h d
  step pu W c l o n w s x y x' true W₁ gl r h d =
      let e : x' ≡ free = rep_zero u (entries O W₁) K c l (base u s o l) _ x' d.rep in
      rw e (step_true pu W c l o n w s x y W₁ gl r h (rw e at d))

  leaf : (W : ℕ → O.Lv) (c l o n k j : ℕ) → k ≡ j → None u (entries O W) c l o → Done W W c l o n 0 (remove k (loan j))
  leaf W c l o n k j e h = rw (eq-eqb k j e) (record { rep = (refl, h); local = λ i p. inl refl; good = λ i h. h })

  -- the other half of a pair does not have the loan
  lone : 0 < u → (E : ℕ → ℕ → Ent) (c l o n w x lev k : ℕ) (s : Side) (a b : Tree) → NodeBy u E K c l o n w s a b → Wf l b → Has u l (base u s o l) a (record { at = x; lev = lev; who = k + 1 }) → remove k b ≡ b
  lone pu E c l o n w x lev k s a b r v h =
      remove_absent u k l (base u (other s) o l) b pu v (λ y p e.
      let m = rep_loan u E K c l (base u s o l) _ _ a (record { at = x; lev = lev; who = k + 1 }) k r.this h refl in
      let q = rep_loan u E K c l (base u (other s) o l) _ _ b y k r.twin p e in
      apart s y.at y.lev (sym m.1 ∙ q.1) (sym m.2 ∙ q.2) (has_in u l (base u s o l) a _ h) (has_in u l (base u (other s) o l) b y p))
    where
      apart : (s : Side) (z m : ℕ) → x ≡ z → lev ≡ m
          → (base u s o l ≤ x) × (x + bytes u lev ≤ base u s o l + bytes u l) × (lev ≤ l)
          → (base u (other s) o l ≤ z) × (z + bytes u m ≤ base u (other s) o l + bytes u l) × (m ≤ l) → ⊥
      apart L z m e f i j = omega (arith, i.1, j.0, bytes_pos u lev pu)
      apart R z m e f i j = omega (arith, i.0, j.1, bytes_pos u m pu)

  -- the block at x that is on loan k is given back
  pub gave : 0 < u → (W : ℕ → O.Lv) (c l n w o x lev k : ℕ) (t : Tree) → ((i : ℕ) → i < l → O.Good (W i)) → Wf l t → Rep u (entries O W) K c l o n w t → Has u l o t (record { at = x; lev = lev; who = k + 1 })
      → Done W (give u O W l w o x).levels c l o n (cond (give u O W l w o x).freed 0 w) (remove k t)
  unfolding give
  gave pu W c l n w o x lev k free g v r h = absurd h
  gave pu W c zero n w o x lev k (loan j) g v r h = leaf W c zero o n k j (omega (arith, h.2)) r.2
  gave pu W c (suc l) n w o x lev k (loan j) g v r h = let m : w % 2 ≡ 1 = omega (arith, r.0) in rw m (leaf W c (suc l) o n k j (omega (arith, h.2)) r.2)
  gave pu W c zero n w o x lev k (split a b) g v r h = absurd h
  gave pu W c (suc l) n w o x lev k (split a b) g v r (inl h) =
      let i = has_in u l o a (record { at = x; lev = lev; who = k + 1 }) h in
      let m : w % 2 ≡ 0 = omega (arith, r.is) in
      let f : ltb x (o + bytes u l) ≡ true = lt-ltb x (o + bytes u l) (omega (arith, bytes_pos u lev pu)) in
      let d = gave pu W c l (node_of (pair_said w) L) (O.ent (W l) (pair_said w)).left o x lev k a (λ i h. g i (omega arith)) v.1 r.this h in
      rw (m, f, lone pu (entries O W) c l o n w x lev k L a b r v.2 h)
      (step pu W c l o n w L a b (remove k a) (give u O W l (O.ent (W l) (pair_said w)).left o x).freed (give u O W l (O.ent (W l) (pair_said w)).left o x).levels (g l (omega arith)) r (has_taken u l o a _ h) d)
  gave pu W c (suc l) n w o x lev k (split a b) g v r (inr h) =
      let i = has_in u l (o + bytes u l) b (record { at = x; lev = lev; who = k + 1 }) h in
      let m : w % 2 ≡ 0 = omega (arith, r.is) in
      let f : ltb x (o + bytes u l) ≡ false = le-ltb x (o + bytes u l) (omega arith) in
      let d = gave pu W c l (node_of (pair_said w) R) (O.ent (W l) (pair_said w)).right (o + bytes u l) x lev k b (λ i h. g i (omega arith)) v.2 r.twin h in
      let z = to_side u (entries O W) K c l o n w R b a r in
      rw (m, f, lone pu (entries O W) c l o n w x lev k R b a z v.1 h)
      (step pu W c l o n w R b a (remove k b) (give u O W l (O.ent (W l) (pair_said w)).right (o + bytes u l) x).freed (give u O W l (O.ent (W l) (pair_said w)).right (o + bytes u l) x).levels (g l (omega arith)) z (has_taken u l (o + bytes u l) b _ h) d)
