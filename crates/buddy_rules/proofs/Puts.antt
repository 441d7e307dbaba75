-- One level changed: what the entries of the others are, and where a change of one entry shows.
use mathlib.Core.Path.{◌≡◌, refl, sym, ap, ◌∙◌}
use mathlib.Core.Bool.{Bool, true, false, cond}
use mathlib.Core.Logic.{◌⊎◌, inl, inr, ⊎_elim}
use Prim.Native.Nat.{ℕ, suc}
use native.Mathlib.Omega.{arith}
use lib.Dec.{eqb}
use borrow.Author.Tests.{eq-eqb, ne_eqb}
use Rattle.lists.proofs.Bools.{same?}
use Rattle.buddy_rules.specs.Nodes.{Inside, Keep, Loc, Local}
use Rattle.buddy_rules.specs.Levels.{Ops}
use Rattle.buddy_rules.specs.Returns.{entries, put}
use Rattle.buddy_rules.proofs.Frames.{inside_same}

module _ (O : Ops) where
  put_same : (W : ℕ → O.Lv) (i : ℕ) (v : O.Lv) → put O W i v i ≡ v
  put_same W i v = rw (eq-eqb i i refl)

  pub put_other : (W : ℕ → O.Lv) (i j : ℕ) (v : O.Lv) → (j ≡ i → ⊥) → put O W i v j ≡ W j
  put_other W i j v n = rw (ne_eqb j i n)

  pub put_at : (W : ℕ → O.Lv) (l : ℕ) (v : O.Lv) (p : ℕ) → O.ent (put O W l v l) p ≡ O.ent v p
  put_at W l v p = ap (λ z. O.ent z p) (put_same W l v)

  pub put_good : (W W₁ : ℕ → O.Lv) (i : ℕ) (v : O.Lv) → ((j : ℕ) → O.Good (W j) → O.Good (W₁ j)) → O.Good v → (j : ℕ) → O.Good (W j) → O.Good (put O W₁ i v j)
  put_good W W₁ i v g h j k = go (eqb j i)
    where
      go : (b : Bool) → O.Good (cond b v (W₁ j))
      go true = h
      go false = g j k

module _ (u : ℕ) (O : Ops) where
  -- what is below the level stays
  pub put_below : (W : ℕ → O.Lv) (l : ℕ) (v : O.Lv) (c o : ℕ) → Keep u (entries O W) (entries O (put O W l v)) c o l
  put_below W l v c o i p h =
      let e : O.ent (put O W l v i) p ≡ O.ent (W i) p = ap (λ z. O.ent z p) (put_other O W l i v (λ f. omega arith)) in
      ((λ x y. e), (λ x y. e))

  -- where pair q alone changes, within a stretch, the change is local to it
  pub put_local : (W : ℕ → O.Lv) (l : ℕ) (v : O.Lv) (q c o : ℕ) → ((x : ℕ) → (x ≡ q → ⊥) → O.ent v x ≡ O.ent (W l) x)
      → (((O.ent (W l) q).tag ≡ 0) ⊎ Inside u (O.ent (W l) q) c o (suc l)) → (((O.ent v q).tag ≡ 0) ⊎ Inside u (O.ent v q) c o (suc l))
      → Local u (entries O W) (entries O (put O W l v)) c o (suc l)
  put_local W l v q c o f a b i p =
      ⊎_elim
      (λ e. rw e (⊎_elim (λ d. inr (old d, new d)) (λ n. inl (put_at O W l v p ∙ f p n)) (same? p q)))
      (λ n. inl (ap (λ z. O.ent z p) (put_other O W l i v n)))
      (same? i l)
    where
      old : p ≡ q → Loc u (entries O W) l p c o (suc l)
      old d = rw d (⊎_elim (λ z. inl z) (λ z. inr (omega arith, z)) a)

      new : p ≡ q → Loc u (entries O (put O W l v)) l p c o (suc l)
      new d = rw d (⊎_elim
          (λ z. inl (ap (λ e. e.tag) (put_at O W l v q) ∙ z))
          (λ z. inr (omega arith, inside_same u (O.ent v q) (O.ent (put O W l v l) q) c o (suc l) (sym (put_at O W l v q)) z))
          b)
