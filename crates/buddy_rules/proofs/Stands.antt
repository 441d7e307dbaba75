-- A node stands for the tree that a walk down it sees, where the walk meets every pair that lies there; and the other way
-- round.
use mathlib.Core.Path.{◌≡◌, refl, ap, ◌∙◌}
use mathlib.Core.Bool.{Bool, true}
use mathlib.Core.Logic.{◌⊎◌, inl, inr, ⊎_elim}
use Prim.Native.Nat.{ℕ, zero, suc, ◌+◌, ◌*◌, ◌<◌}
use native.Mathlib.Omega.{arith}
use Rattle.lists.proofs.Bools.{same?}
use Rattle.buddy_trees.specs.Trees.{Tree, free, loan, split, Wf, bytes, Piece, Has}
use Rattle.buddy_trees.proofs.Bytes.{bytes_pos}
use Rattle.buddy_rules.specs.Nodes.{Ent, Loan, L, R, node_of, pair_said, Inside, Rep}
use Rattle.buddy_rules.proofs.Frames.{inside_half, inside_cases}
use Rattle.buddy_rules.proofs.Shapes.{Shape, Meets, meets_in}

module _ (u : ℕ) (E : ℕ → ℕ → Ent) where
  -- the pair p of level i is one of the tree
  abbrev pub Met : ℕ → ℕ → ℕ → ℕ → Tree → ℕ → ℕ → Type 0
  Met l o n w t i p = Meets u E l o n w t (suc i) (E i p).off (E i p).up (2 * p + 2)

  -- every pair in the node's stretch is
  abbrev pub AllMet : ℕ → ℕ → ℕ → ℕ → ℕ → Tree → Type 0
  AllMet c l o n w t = (i p : ℕ) → i < l → 0 < (E i p).tag → Inside u (E i p) c o l → Met l o n w t i p

  met_left : (c l o n w : ℕ) (a b : Tree) → AllMet c (suc l) o n w (split a b) → AllMet c l o (node_of (pair_said w) L) (E l (pair_said w)).left a
  met_left c l o n w a b f i p h t j = go (f i p (omega arith) t (inside_half u L (E i p) c o l j))
    where
      go : Met (suc l) o n w (split a b) i p → Met l o (node_of (pair_said w) L) (E l (pair_said w)).left a i p
      go (inl z) = absurd (omega (arith, z.0))
      go (inr (inl z)) = z
      go (inr (inr z)) = absurd (omega (arith, j.2, (meets_in u E l (o + bytes u l) (node_of (pair_said w) R) (E l (pair_said w)).right b (suc i) (E i p).off (E i p).up (2 * p + 2) z).0))

  met_right : 0 < u → (c l o n w : ℕ) (a b : Tree) → AllMet c (suc l) o n w (split a b) → AllMet c l (o + bytes u l) (node_of (pair_said w) R) (E l (pair_said w)).right b
  met_right pu c l o n w a b f i p h t j = go (f i p (omega arith) t (inside_half u R (E i p) c o l j))
    where
      go : Met (suc l) o n w (split a b) i p → Met l (o + bytes u l) (node_of (pair_said w) R) (E l (pair_said w)).right b i p
      go (inl z) = absurd (omega (arith, z.0))
      go (inr (inl z)) =
          absurd (omega (arith, j.1, bytes_pos u (suc i) pu, (meets_in u E l o (node_of (pair_said w) L) (E l (pair_said w)).left a (suc i) (E i p).off (E i p).up (2 * p + 2) z).1))
      go (inr (inr z)) = z

  -- at its own level it is the node's pair
  met_own : (l o n w p : ℕ) (a b : Tree) → Met (suc l) o n w (split a b) l p → p ≡ pair_said w
  met_own l o n w p a b (inl z) = omega (arith, z.3)
  met_own l o n w p a b (inr (inl z)) =
      absurd (omega (arith, (meets_in u E l o (node_of (pair_said w) L) (E l (pair_said w)).left a (suc l) (E l p).off (E l p).up (2 * p + 2) z).2))
  met_own l o n w p a b (inr (inr z)) =
      absurd (omega (arith, (meets_in u E l (o + bytes u l) (node_of (pair_said w) R) (E l (pair_said w)).right b (suc l) (E l p).off (E l p).up (2 * p + 2) z).2))

module _ (u : ℕ) (E : ℕ → ℕ → Ent) (K : ℕ → Loan) where
  -- ---- a node that stands for a tree

  -- every pair that lies there is met
  pub rep_met : (c l o n w : ℕ) (t : Tree) → Rep u E K c l o n w t → AllMet u E c l o n w t
  rep_met c l o n w free r i p h t j = absurd (r.1 i p h t j)
  rep_met c l o n w (loan k) r i p h t j = absurd (r.2 i p h t j)
  rep_met c zero o n w (split a b) r i p h t j = absurd r
  rep_met c (suc l) o n w (split a b) r i p h t j =
      go (same? i l)
      (λ g z. rep_met c l o (node_of (pair_said w) L) (E l (pair_said w)).left a r.this i p g t z)
      (λ g z. rep_met c l (o + bytes u l) (node_of (pair_said w) R) (E l (pair_said w)).right b r.twin i p g t z)
    where
      go : (i ≡ l) ⊎ (i ≡ l → ⊥) → (i < l → Inside u (E i p) c o l → Met u E l o (node_of (pair_said w) L) (E l (pair_said w)).left a i p)
          → (i < l → Inside u (E i p) c (o + bytes u l) l → Met u E l (o + bytes u l) (node_of (pair_said w) R) (E l (pair_said w)).right b i p)
          → Met u E (suc l) o n w (split a b) i p
      go (inl e) f g =
          let q : p ≡ pair_said w = r.only p (rw e at t) (rw e at j) in
          inl (ap suc e, rw (e, q) r.off, rw (e, q) r.up, omega (arith, r.is))
      go (inr z) f g = inr (⊎_elim (λ k. inl (f (omega arith) k)) (λ k. inr (g (omega arith) k)) (inside_cases u L (E i p) c o l j))

  -- ---- what the walk sees and what the node stands for

  module _ (live : ℕ → Bool) (size : ℕ → ℕ) where
    pub shape_rep : 0 < u → (c l o n w : ℕ) (t : Tree) → Shape u E K live size c l o n w t → AllMet u E c l o n w t → Rep u E K c l o n w t
    shape_rep pu c l o n w free r f = (r, λ i p h t j. omega (arith, r, (f i p h t j).3))
    shape_rep pu c l o n w (loan k) r f = (r.0, r.1.is, λ i p h t j. omega (arith, r.0, (f i p h t j).3))
    shape_rep pu c zero o n w (split a b) r f = absurd r
    shape_rep pu c (suc l) o n w (split a b) r f =
        record {
          is = r.is;
          tag = r.tag;
          chunk = r.chunk;
          off = r.off;
          up = r.up;
          only = λ p t j. met_own u E l o n w p a b (f l p (omega arith) t j);
          this = shape_rep pu c l o (node_of (pair_said w) L) (E l (pair_said w)).left a r.this (met_left u E c l o n w a b f);
          twin = shape_rep pu c l (o + bytes u l) (node_of (pair_said w) R) (E l (pair_said w)).right b r.twin (met_right u E pu c l o n w a b f);
        }

    -- the loans of the tree are loans of its length
    pub rep_shape : (c l o n w : ℕ) (t : Tree) → Wf l t → Rep u E K c l o n w t
        → ((y : Piece) (k : ℕ) → Has u l o t y → y.who ≡ k + 1 → (live k ≡ true) × (size k ≡ bytes u (K k).lev))
        → Shape u E K live size c l o n w t
    rep_shape c l o n w free v r f = r.0
    rep_shape c l o n w (loan k) v r f =
        let z = f (record { at = o; lev = l; who = k + 1 }) k (refl, refl, refl) refl in
        (r.0, record { lives = z.0; is = r.1; sized = z.1 ∙ ap (λ d. bytes u d.lev) r.1 })
    rep_shape c zero o n w (split a b) v r f = absurd r
    rep_shape c (suc l) o n w (split a b) v r f =
        record {
          is = r.is;
          apart = v.0;
          tag = r.tag;
          chunk = r.chunk;
          off = r.off;
          up = r.up;
          this = rep_shape c l o (node_of (pair_said w) L) (E l (pair_said w)).left a v.1 r.this (λ y k h. f y k (inl h));
          twin = rep_shape c l (o + bytes u l) (node_of (pair_said w) R) (E l (pair_said w)).right b v.2 r.twin (λ y k h. f y k (inr h));
        }
