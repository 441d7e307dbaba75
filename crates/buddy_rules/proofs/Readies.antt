-- A chunk's free nodes below its top are the ready sides of its pairs.
use mathlib.Core.Path.{◌≡◌, refl, sym, ap, ap₂, ◌∙◌, subst}
use mathlib.Core.Logic.{◌⊎◌, inl, inr, ⊎_elim}
use mathlib.Core.Bool.{false}
use Prim.Native.Nat.{ℕ, zero, suc, ◌+◌, ◌<◌}
use native.Mathlib.Omega.{arith}
use Rattle.lists.proofs.Bools.{same?}
use Rattle.buddy_trees.specs.Trees.{Tree, free, loan, split, Apart, Wf, bytes, Free}
use Rattle.buddy_trees.proofs.Fills.{free_in_lem}
use Rattle.buddy_rules.specs.Nodes.{Ent, Loan, Side, L, R, node_of, pair_said, is_free, tag_of, base, Inside, None, Rep}
use Rattle.buddy_rules.specs.Levels.{side_of, base_of}
use Rattle.buddy_rules.proofs.Frames.{inside_cases}

-- the ready side of a pair, in terms of its trees
pub side_of_lem : (a b : Tree) → Apart a b → 1 < tag_of (is_free a) (is_free b)
    → ((a ≡ free) × (is_free b ≡ false) × (side_of (tag_of (is_free a) (is_free b)) ≡ L)) ⊎ ((b ≡ free) × (is_free a ≡ false) × (side_of (tag_of (is_free a) (is_free b)) ≡ R))
side_of_lem free free p h = absurd p
side_of_lem free (loan k) p h = inl (refl, refl, refl)
side_of_lem free (split c d) p h = inl (refl, refl, refl)
side_of_lem (loan k) free p h = inr (refl, refl, refl)
side_of_lem (loan k) (loan j) p h = absurd (omega arith)
side_of_lem (loan k) (split c d) p h = absurd (omega arith)
side_of_lem (split a b) free p h = inr (refl, refl, refl)
side_of_lem (split a b) (loan j) p h = absurd (omega arith)
side_of_lem (split a b) (split c d) p h = absurd (omega arith)

left_tag : (a b : Tree) → a ≡ free → (1 < tag_of (is_free a) (is_free b)) × (side_of (tag_of (is_free a) (is_free b)) ≡ L)
left_tag a b e = rw e (omega arith, refl)

right_tag : (a b : Tree) → Apart a b → b ≡ free → (1 < tag_of (is_free a) (is_free b)) × (side_of (tag_of (is_free a) (is_free b)) ≡ R)
right_tag free b p e = absurd (subst (Apart free) e p)
right_tag (loan k) b p e = rw e (omega arith, refl)
right_tag (split c d) b p e = rw e (omega arith, refl)

module _ (u : ℕ) where
  -- where the ready side of a node's pair is
  pub base_is : (E : ℕ → ℕ → Ent) (K : ℕ → Loan) (c l o n w : ℕ) (a b : Tree) (s : Side) → Rep u E K c (suc l) o n w (split a b) → side_of (tag_of (is_free a) (is_free b)) ≡ s → base_of u (E l (pair_said w)) l ≡ base u s o l
  base_is E K c l o n w a b s r e = ap₂ (λ t z. base u (side_of t) z l) r.tag r.off ∙ ap (λ z. base u z o l) e

  -- a ready pair in the stretch is a node's, and its ready side is a free node
  pub ready_free : (E : ℕ → ℕ → Ent) (K : ℕ → Loan) (c l o n w i q : ℕ) (t : Tree) → Wf l t → Rep u E K c l o n w t → i < l → 1 < (E i q).tag → Inside u (E i q) c o l → Free u l o t (base_of u (E i q) i) i
  ready_free E K c l o n w i q free v r h t s = absurd (r.1 i q h (omega arith) s)
  ready_free E K c l o n w i q (loan k) v r h t s = absurd (r.2 i q h (omega arith) s)
  ready_free E K c zero o n w i q (split a b) v r h t s = absurd r
  ready_free E K c (suc l) o n w i q (split a b) v r h t s =
      go (same? i l)
      (λ g j. ready_free E K c l o (node_of (pair_said w) L) (E l (pair_said w)).left i q a v.1 r.this g t j)
      (λ g j. ready_free E K c l (o + bytes u l) (node_of (pair_said w) R) (E l (pair_said w)).right i q b v.2 r.twin g t j)
    where
      at : 1 < (E l q).tag → Inside u (E l q) c o (suc l) → Free u l o a (base_of u (E l q) l) l ⊎ Free u l (o + bytes u l) b (base_of u (E l q) l) l
      at t s =
          let e : q ≡ pair_said w = r.only q (omega arith) s in
          let f : 1 < (E l (pair_said w)).tag = rw e at t in
          rw e (⊎_elim
          (λ z. inl (rw z.0 (base_is E K c l o n w a b L r z.2, refl)))
          (λ z. inr (rw z.0 (base_is E K c l o n w a b R r z.2, refl)))
          (side_of_lem a b v.0 (rw r.tag at f)))

      go : (i ≡ l) ⊎ (i ≡ l → ⊥) → (i < l → Inside u (E i q) c o l → Free u l o a (base_of u (E i q) i) i)
          → (i < l → Inside u (E i q) c (o + bytes u l) l → Free u l (o + bytes u l) b (base_of u (E i q) i) i)
          → Free u l o a (base_of u (E i q) i) i ⊎ Free u l (o + bytes u l) b (base_of u (E i q) i) i
      go (inl e) f g = rw e (at (rw e at t) (rw e at s))
      go (inr a) f g = ⊎_elim (λ j. inl (f (omega arith) j)) (λ j. inr (g (omega arith) j)) (inside_cases u L (E i q) c o l s)

  -- a ready pair of chunk c, whose ready side is the node of level m at x
  pub record Ready (E : ℕ → ℕ → Ent) (c x m : ℕ) : Type 0 where
    pub p : ℕ
    pub tag : 1 < (E m p).tag
    pub chunk : (E m p).chunk ≡ c
    pub at : x ≡ base_of u (E m p) m

  -- a free node of the node's own level is the node
  pub free_whole : (l o x m : ℕ) (t : Tree) → m ≡ l → Free u l o t x m → (t ≡ free) × (x ≡ o)
  free_whole l o x m free e f = (refl, f.0)
  free_whole l o x m (loan k) e f = absurd f
  free_whole zero o x m (split a b) e f = absurd f
  free_whole (suc l) o x m (split a b) e (inl f) = let i = free_in_lem u l o a x m f in absurd (omega (arith, i.2))
  free_whole (suc l) o x m (split a b) e (inr f) = let i = free_in_lem u l (o + bytes u l) b x m f in absurd (omega (arith, i.2))

  -- each free node below the top is one side of a ready pair
  pub free_ready : (E : ℕ → ℕ → Ent) (K : ℕ → Loan) (c l o n w x m : ℕ) (t : Tree) → Wf l t → Rep u E K c l o n w t → Free u l o t x m → m < l → Ready E c x m
  free_ready E K c l o n w x m free v r f h = absurd (omega (arith, f.1))
  free_ready E K c l o n w x m (loan k) v r f h = absurd f
  free_ready E K c zero o n w x m (split a b) v r f h = absurd r
  free_ready E K c (suc l) o n w x m (split a b) v r f h =
      go (same? m l)
      (λ g j. free_ready E K c l o (node_of (pair_said w) L) (E l (pair_said w)).left x m a v.1 r.this j g)
      (λ g j. free_ready E K c l (o + bytes u l) (node_of (pair_said w) R) (E l (pair_said w)).right x m b v.2 r.twin j g)
    where
      go : (m ≡ l) ⊎ (m ≡ l → ⊥) → (m < l → Free u l o a x m → Ready E c x m) → (m < l → Free u l (o + bytes u l) b x m → Ready E c x m) → Ready E c x m
      go (inl e) fa fb = rw e (⊎_elim
          (λ g.
          let z = free_whole l o x m a e g in
          let y = left_tag a b z.0 in
          record { p = pair_said w; tag = rw r.tag y.0; chunk = r.chunk; at = z.1 ∙ sym (base_is E K c l o n w a b L r y.1) })
          (λ g.
          let z = free_whole l (o + bytes u l) x m b e g in
          let y = right_tag a b v.0 z.0 in
          record { p = pair_said w; tag = rw r.tag y.0; chunk = r.chunk; at = z.1 ∙ sym (base_is E K c l o n w a b R r y.1) })
          f)
      go (inr d) fa fb = ⊎_elim (fa (omega arith)) (fb (omega arith)) f

  -- a free node has no pairs
  pub free_none : (E : ℕ → ℕ → Ent) (K : ℕ → Loan) (c l o n w x m : ℕ) (t : Tree) → Rep u E K c l o n w t → Free u l o t x m → None u E c m x
  free_none E K c l o n w x m free r f = rw (f.0, f.1) r.1
  free_none E K c l o n w x m (loan k) r f = absurd f
  free_none E K c zero o n w x m (split a b) r f = absurd f
  free_none E K c (suc l) o n w x m (split a b) r (inl f) = free_none E K c l o (node_of (pair_said w) L) (E l (pair_said w)).left x m a r.this f
  free_none E K c (suc l) o n w x m (split a b) r (inr f) = free_none E K c l (o + bytes u l) (node_of (pair_said w) R) (E l (pair_said w)).right x m b r.twin f
