-- Which pairs are in use afterwards: a return puts none in use, and a loan only those new pairs that it needs.
use mathlib.Core.Path.{◌≡◌, sym, ap, ◌∙◌}
use mathlib.Core.Bool.{Bool, true, false}
use mathlib.Core.Logic.{◌⊎◌, inl, inr, ⊎_elim}
use Prim.Native.Nat.{ℕ, zero, suc, ◌+◌, ◌%◌, ◌≤◌, ◌<◌}
use native.Mathlib.Omega.{arith}
use lib.Dec.{ltb}
use borrow.Author.Tests.{eq-eqb, ne_eqb, lt-ltb, le-ltb}
use Rattle.lists.proofs.Bools.{same?, told}
use Rattle.buddy_trees.specs.Trees.{Tree, free, loan, split, Wf, up, bytes, Has}
use Rattle.buddy_trees.proofs.Bytes.{bytes_pos, up_le}
use Rattle.buddy_trees.proofs.Fills.{has_in}
use Rattle.buddy_rules.specs.Nodes.{Loan, Side, L, R, other, node_of, word, pair_said, is_free, base, Rep, Local}
use Rattle.buddy_rules.specs.Levels.{Ops, base_of}
use Rattle.buddy_rules.specs.Returns.{entries, put, settle, give}
use Rattle.buddy_rules.specs.Lends.{grow, head_node, lend}
use Rattle.buddy_rules.proofs.Frames.{rep_free, rep_taken}
use Rattle.buddy_rules.proofs.Sides.{tag_one, tag_ready, tag_any, NodeBy, to_side, has_taken}
use Rattle.buddy_rules.proofs.Puts.{put_other, put_at}
use Rattle.buddy_rules.proofs.Gave.{gave, mid_entry}
use Rattle.buddy_rules.proofs.Grown.{grow_above}

module _ (O : Ops) where
  -- what is in use in W' was in use in W
  abbrev Old : (ℕ → O.Lv) → (ℕ → O.Lv) → Type 0
  Old W W' = (i p : ℕ) → 0 < (O.ent (W' i) p).tag → 0 < (O.ent (W i) p).tag

  -- one level changed, in one pair, which was in use
  put_old : (W : ℕ → O.Lv) (l : ℕ) (v : O.Lv) (q : ℕ) → 0 < (O.ent (W l) q).tag → ((x : ℕ) → (x ≡ q → ⊥) → O.ent v x ≡ O.ent (W l) x) → Old W (put O W l v)
  put_old W l v q t f i p h = ⊎_elim here there (same? i l)
    where
      here : i ≡ l → 0 < (O.ent (W i) p).tag
      here e = rw e (⊎_elim
          (λ d. rw d t)
          (λ n.
          let z : O.ent (put O W l v i) p ≡ O.ent (W l) p = ap (λ j. O.ent (put O W l v j) p) e ∙ put_at O W l v p ∙ f p n in
          rw z at h)
          (same? p q))

      there : (i ≡ l → ⊥) → 0 < (O.ent (W i) p).tag
      there n = let z : O.ent (put O W l v i) p ≡ O.ent (W i) p = ap (λ x. O.ent x p) (put_other O W l i v n) in rw z at h

module _ (u : ℕ) (O : Ops) (K : ℕ → Loan) where
  -- ---- a return

  settle_old : 0 < u → (W : ℕ → O.Lv) (c l o n w : ℕ) (s : Side) (x y : Tree) (b : Bool) (W₁ : ℕ → O.Lv) → O.Good (W₁ l)
      → NodeBy u (entries O W) K c l o n w s x y → is_free x ≡ false → Local u (entries O W) (entries O W₁) c (base u s o l) l
      → Old O W₁ (settle O l (pair_said w) s b W₁).levels
  settle_old pu W c l o n w s x y false W₁ g r h m = λ i p t. t
  settle_old pu W c l o n w s x y true W₁ g r h m = go (told (is_free y))
    where
      e : O.ent (W₁ l) (pair_said w) ≡ O.ent (W l) (pair_said w)
      e = mid_entry u O K pu W c l o n w s x y W₁ r m

      used : 0 < (O.ent (W₁ l) (pair_said w)).tag
      used = rw (e, r.tag) (tag_any s x y)

      at : word (other s) (O.ent (W₁ l) (pair_said w)) ≡ word (other s) (O.ent (W l) (pair_said w))
      at = ap (word (other s)) e

      go : (is_free y ≡ true) ⊎ (is_free y ≡ false) → Old O W₁ (settle O l (pair_said w) s true W₁).levels
      go (inl f) =
          let z = rep_free u (entries O W) K c l (base u (other s) o l) _ _ y r.twin f in
          let t : 1 < (O.ent (W₁ l) (pair_said w)).tag = rw (e, r.tag) (tag_ready s x y f) in
          rw (eq-eqb (word (other s) (O.ent (W₁ l) (pair_said w))) 0 (at ∙ z.1))
          (put_old O W₁ l (O.drop (W₁ l) (pair_said w)) (pair_said w) used (λ j a. O.drop_other (W₁ l) (pair_said w) j g t a))
      go (inr f) =
          let t : (O.ent (W₁ l) (pair_said w)).tag ≡ 1 = ap (λ d. d.tag) e ∙ r.tag ∙ tag_one s x y h f in
          rw (ne_eqb (word (other s) (O.ent (W₁ l) (pair_said w))) 0 (λ z. rep_taken u (entries O W) K c l (base u (other s) o l) _ _ y r.twin f (sym at ∙ z)))
          (put_old O W₁ l (O.back (W₁ l) (pair_said w) s) (pair_said w) used (λ j a. O.back_other (W₁ l) (pair_said w) s j g t a))

  pub gave_old : 0 < u → (W : ℕ → O.Lv) (c l n w o x lev k : ℕ) (t : Tree) → ((i : ℕ) → i < l → O.Good (W i)) → Wf l t → Rep u (entries O W) K c l o n w t → Has u l o t (record { at = x; lev = lev; who = k + 1 })
      → (i p : ℕ) → 0 < (O.ent ((give u O W l w o x).levels i) p).tag → 0 < (O.ent (W i) p).tag
  unfolding give
  gave_old pu W c l n w o x lev k free g v r h = absurd h
  gave_old pu W c zero n w o x lev k (loan j) g v r h = λ i p t. t
  gave_old pu W c (suc l) n w o x lev k (loan j) g v r h = let m : w % 2 ≡ 1 = omega (arith, r.0) in rw m (λ i p t. t)
  gave_old pu W c zero n w o x lev k (split a b) g v r h = absurd h
  gave_old pu W c (suc l) n w o x lev k (split a b) g v r (inl h) =
      let i = has_in u l o a (record { at = x; lev = lev; who = k + 1 }) h in
      let m : w % 2 ≡ 0 = omega (arith, r.is) in
      let f : ltb x (o + bytes u l) ≡ true = lt-ltb x (o + bytes u l) (omega (arith, bytes_pos u lev pu)) in
      let z = (O.ent (W l) (pair_said w)).left in
      let G = give u O W l z o x in
      let d = gave u O K pu W c l (node_of (pair_said w) L) z o x lev k a (λ i h. g i (omega arith)) v.1 r.this h in
      let b₀ = gave_old pu W c l (node_of (pair_said w) L) z o x lev k a (λ i h. g i (omega arith)) v.1 r.this h in
      let s = settle_old pu W c l o n w L a b G.freed G.levels (d.good l (g l (omega arith))) r (has_taken u l o a _ h) d.local in
      rw (m, f) (λ i p t. b₀ i p (s i p t))
  gave_old pu W c (suc l) n w o x lev k (split a b) g v r (inr h) =
      let i = has_in u l (o + bytes u l) b (record { at = x; lev = lev; who = k + 1 }) h in
      let m : w % 2 ≡ 0 = omega (arith, r.is) in
      let f : ltb x (o + bytes u l) ≡ false = le-ltb x (o + bytes u l) (omega arith) in
      let z = (O.ent (W l) (pair_said w)).right in
      let G = give u O W l z (o + bytes u l) x in
      let d = gave u O K pu W c l (node_of (pair_said w) R) z (o + bytes u l) x lev k b (λ i h. g i (omega arith)) v.2 r.twin h in
      let b₀ = gave_old pu W c l (node_of (pair_said w) R) z (o + bytes u l) x lev k b (λ i h. g i (omega arith)) v.2 r.twin h in
      let s = settle_old pu W c l o n w R b a G.freed G.levels (d.good l (g l (omega arith))) (to_side u (entries O W) K c l o n w R b a r) (has_taken u l (o + bytes u l) b _ h) d.local in
      rw (m, f) (λ i p t. b₀ i p (s i p t))

  -- ---- a loan

  -- a pair in use was so before, or is the new one of its level
  abbrev pub Added : (ℕ → O.Lv) → ℕ → ℕ → ℕ → ℕ → Type 0
  Added W lev d i p = (0 < (O.ent (W i) p).tag) ⊎ ((lev ≤ i) × (i < up d lev) × (p ≡ O.new_place (W i)))

  pub grow_new : (W : ℕ → O.Lv) (lev c o k n d : ℕ) → ((i : ℕ) → i < up d lev → O.Good (W i))
      → ((i : ℕ) → i < up d lev → lev ≤ i → O.Room (W i)) → ((i : ℕ) → i < up d lev → lev ≤ i → O.Some (W i) → ⊥)
      → (i p : ℕ) → 0 < (O.ent ((grow u O W lev c o k n d).levels i) p).tag → Added W lev d i p
  unfolding grow
  grow_new W lev c o k n zero g rm sm i p t = inl t
  grow_new W lev c o k n (suc d) g rm sm i p t =
      go (same? i (up d lev)) (λ z. grow_new W lev c o k (node_of (O.new_place (W (up d lev))) L) d (λ i h. g i (omega arith)) (λ i h j. rm i (omega arith) j) (λ i h j. sm i (omega arith) j) i p z)
    where
      F : ℕ → O.Lv
      F = (grow u O W lev c o k (node_of (O.new_place (W (up d lev))) L) d).levels

      w : ℕ
      w = (grow u O W lev c o k (node_of (O.new_place (W (up d lev))) L) d).top

      same : F (up d lev) ≡ W (up d lev)
      same = grow_above u O K W lev c o k (node_of (O.new_place (W (up d lev))) L) d (up d lev) (omega arith)

      rest : (p ≡ O.new_place (W (up d lev)) → ⊥) → O.ent (O.add (F (up d lev)) c o n w) p ≡ O.ent (W (up d lev)) p
      rest a = rw same (O.add_other (W (up d lev)) c o n w p (g (up d lev) (omega arith)) (rm (up d lev) (omega arith) (up_le d lev)) (sm (up d lev) (omega arith) (up_le d lev)) a)

      go : (i ≡ up d lev) ⊎ (i ≡ up d lev → ⊥) → (0 < (O.ent ((grow u O W lev c o k (node_of (O.new_place (W (up d lev))) L) d).levels i) p).tag → Added W lev d i p) → Added W lev (suc d) i p
      go (inl e) f = ⊎_elim
          (λ a. inr (omega (arith, up_le d lev), omega arith, rw e a))
          (λ a.
          let z : O.ent (put O F (up d lev) (O.add (F (up d lev)) c o n w) i) p ≡ O.ent (W i) p = ap (λ j. O.ent (put O F (up d lev) (O.add (F (up d lev)) c o n w) j) p) e ∙ put_at O F (up d lev) (O.add (F (up d lev)) c o n w) p ∙ rest a ∙ ap (λ j. O.ent (W j) p) (sym e) in
          inl (rw z at t))
          (same? p (O.new_place (W (up d lev))))
      go (inr a) f =
          let z : O.ent (put O F (up d lev) (O.add (F (up d lev)) c o n w) i) p ≡ O.ent (F i) p = ap (λ x. O.ent x p) (put_other O F (up d lev) i _ a) in
          ⊎_elim (λ y. inl y) (λ y. inr (y.0, omega (arith, y.1), y.2)) (f (rw z at t))

  pub lend_new : (W : ℕ → O.Lv) (lev d k : ℕ) → ((i : ℕ) → i ≤ up d lev → O.Good (W i)) → O.Some (W (up d lev))
      → ((i : ℕ) → i < up d lev → lev ≤ i → O.Room (W i)) → ((i : ℕ) → i < up d lev → lev ≤ i → O.Some (W i) → ⊥)
      → (i p : ℕ) → 0 < (O.ent (lend u O W lev d k i) p).tag → Added W lev d i p
  unfolding lend
  lend_new W lev d k g sm rm em i p t =
      let m = up d lev in
      let e = O.ent (W m) (O.head (W m)) in
      let G = grow u O W lev e.chunk (base_of u e m) k (head_node u O W m) d in
      let a : G.levels m ≡ W m = grow_above u O K W lev e.chunk (base_of u e m) k (head_node u O W m) d m (omega arith) in
      let h = O.head_ready (W m) (g m (omega arith)) sm in
      let y : 0 < (O.ent (G.levels m) (O.head (W m))).tag = rw a (omega arith) in
      let z : (x : ℕ) → (x ≡ O.head (W m) → ⊥) → O.ent (O.take (G.levels m) G.top) x ≡ O.ent (G.levels m) x = λ x n. rw a (O.take_other (W m) G.top x (g m (omega arith)) sm n) in
      grow_new W lev e.chunk (base_of u e m) k (head_node u O W m) d (λ j q. g j (omega arith)) rm em i p
      (put_old O G.levels m (O.take (G.levels m) G.top) (O.head (W m)) y z i p t)
