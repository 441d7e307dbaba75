-- A store that agrees with a sound one wherever soundness looks is sound.
use mathlib.Core.Path.{◌≡◌, sym, ap, ◌∙◌}
use mathlib.Core.Bool.{true}
use Prim.Native.Nat.{ℕ, ◌<◌}
use native.Mathlib.Omega.{arith}
use Rattle.slabs.specs.Slab.{nowhere}
use Rattle.buddy_trees.specs.Trees.{Tree, Has, bytes}
use Rattle.buddy_rules.specs.Nodes.{Rep}
use Rattle.buddy_rules.specs.Levels.{Ops}
use Rattle.buddy_rules.specs.Returns.{entries}
use Rattle.buddy_rules.specs.Stores.{piece, Store, Sound}
use Rattle.buddy_rules.proofs.Frames.{frame}
use Rattle.buddy_rules.proofs.Made.{rep_loans}

module _ (u : ℕ) (O : Ops) where
  -- the levels that there are, the loans that are on loan, and every chunk
  pub record Agree (s s' : Store u O) : Type 0 where
    pub count : s'.count ≡ s.count
    pub levels : (i : ℕ) → i < s.count → s'.levels i ≡ s.levels i
    pub loans : (k : ℕ) → s.live k ≡ true → s'.loans k ≡ s.loans k
    pub live : (k : ℕ) → s'.live k ≡ s.live k
    pub high : (c : ℕ) → s'.high c ≡ s.high c
    pub top : (c : ℕ) → s'.top c ≡ s.top c

  module _ (some : 0 < u) (s s' : Store u O) (T : ℕ → Tree) (S : Sound u O s T) (a : Agree s s') where
    below : (i : ℕ) → i < s'.count → i < s.count
    below i h = omega (arith, a.count)

    entry : (i p : ℕ) → i < s'.count → O.ent (s'.levels i) p ≡ O.ent (s.levels i) p
    entry i p h = ap (λ v. O.ent v p) (a.levels i (below i h))

    rep : (c : ℕ) → Rep u (entries O s'.levels) s'.loans c (s'.high c) 0 nowhere (s'.top c) (T c)
    rep c =
        rw (a.high c, a.top c)
        (rep_loans u (entries O s'.levels) s.loans s'.loans c (s.high c) 0 nowhere (s.top c) (T c) (λ y j h e. a.loans j (S.is_live c j y h e))
        (frame u (entries O s.levels) (entries O s'.levels) s.loans c (s.high c) 0 nowhere (s.top c) (T c) some
        (λ i p h. let e : O.ent (s'.levels i) p ≡ O.ent (s.levels i) p = ap (λ v. O.ent v p) (a.levels i (omega (arith, S.tall c))) in ((λ x y. e), (λ x y. e)))
        (S.rep c)))

    owned : (i p : ℕ) → i < s'.count → 0 < (O.ent (s'.levels i) p).tag
        → (i < s'.high (O.ent (s'.levels i) p).chunk) × ((O.ent (s'.levels i) p).off < bytes u (s'.high (O.ent (s'.levels i) p).chunk))
    owned i p h t =
        let e = entry i p h in
        rw (e, a.high (O.ent (s.levels i) p).chunk) (S.owned i p (below i h) (rw e at t))

    has : (k : ℕ) → s'.live k ≡ true → Has u (s'.high (s'.loans k).chunk) 0 (T (s'.loans k).chunk) (piece (s'.loans k) k)
    has k h =
        let l : s.live k ≡ true = sym (a.live k) ∙ h in
        rw (a.loans k l, a.high (s.loans k).chunk) (S.has k l)

    pub agree_sound : Sound u O s' T
    agree_sound = record {
      good = λ i h. rw (a.levels i (below i h)) (S.good i (below i h));
      small = λ i p h t. S.small i p (below i h) (rw (entry i p h) at t);
      tall = λ c. rw (a.high c, a.count) (S.tall c);
      held = λ c e. rw (a.high c, a.top c) (S.held c e);
      vacant = λ c e. S.vacant c (sym (a.high c) ∙ e);
      wf = λ c. rw (a.high c) (S.wf c);
      rep = rep;
      owned = owned;
      has = has;
      is_live = λ c k y h e. a.live k ∙ S.is_live c k y (rw (a.high c) at h) e;
    }
