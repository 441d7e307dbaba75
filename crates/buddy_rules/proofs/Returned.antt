-- A return in a sound store leaves it sound, without that loan.
use mathlib.Core.Path.{◌≡◌, refl, sym, ap, ◌∙◌}
use mathlib.Core.Bool.{true, false, cond}
use mathlib.Core.Logic.{◌⊎◌, inl, inr, ⊎_elim}
use Prim.Native.Nat.{ℕ, ◌+◌, ◌-◌, ◌<◌}
use native.Mathlib.Omega.{arith}
use lib.Dec.{eqb}
use borrow.Author.Tests.{eq-eqb, ne_eqb}
use Rattle.lists.proofs.Bools.{same?, told, true_false}
use Rattle.slabs.specs.Slab.{nowhere}
use Rattle.buddy_trees.specs.Trees.{Tree, free, Piece, Wf, Has, bytes, remove}
use Rattle.buddy_trees.proofs.Fills.{has_in}
use Rattle.buddy_trees.proofs.Prunes.{prune_wf, prune_has}
use Rattle.buddy_rules.specs.Nodes.{Rep}
use Rattle.buddy_rules.specs.Levels.{Ops}
use Rattle.buddy_rules.specs.Returns.{entries, Out, give}
use Rattle.buddy_rules.specs.Stores.{with, piece, Store, Sound, climbs, returned}
use Rattle.buddy_rules.proofs.Frames.{frame, local_keep, rep_zero, rep_loan, remove_absent}
use Rattle.buddy_rules.proofs.Gave.{Done, gave}
use Rattle.buddy_rules.proofs.Climbs.{climb_give}
use Rattle.buddy_rules.proofs.Uses.{gave_old}

module _ (u : ℕ) (O : Ops) (some : 0 < u) where
  module _ (s : Store u O) (T : ℕ → Tree) (S : Sound u O s T) (k : ℕ) (lv : s.live k ≡ true) where
    abbrev c : ℕ
    c = (s.loans k).chunk

    abbrev r : Out O
    r = climbs u O s k

    -- the chunk's levels are good
    sure : (i : ℕ) → i < s.high c → O.Good (s.levels i)
    sure i h = S.good i (omega (arith, S.tall c))

    -- the climb is the recursion from the chunk's top
    same_out : r ≡ give u O s.levels (s.high c) (s.top c) 0 (s.loans k).at
    same_out =
        let i = has_in u (s.high c) 0 (T c) (piece (s.loans k) k) (S.has k lv) in
        climb_give u O s.loans some s.levels c (s.high c) (s.top c) (s.loans k).at (s.loans k).lev k (s.count - (s.loans k).lev) (T c) sure (λ i p h. S.small i p (omega (arith, S.tall c))) (S.wf c) (S.rep c) (S.has k lv) (omega (arith, S.tall c, i.2))

    done : Done u O s.loans s.levels r.levels c (s.high c) 0 nowhere (cond r.freed 0 (s.top c)) (remove k (T c))
    done = rw same_out (gave u O s.loans some s.levels c (s.high c) nowhere (s.top c) 0 (s.loans k).at (s.loans k).lev k (T c) sure (S.wf c) (S.rep c) (S.has k lv))

    -- a pair in use was so before
    old : (i p : ℕ) → 0 < (O.ent (r.levels i) p).tag → 0 < (O.ent (s.levels i) p).tag
    old = rw same_out (gave_old u O s.loans some s.levels c (s.high c) nowhere (s.top c) 0 (s.loans k).at (s.loans k).lev k (T c) sure (S.wf c) (S.rep c) (S.has k lv))

    -- in another chunk there is no such loan
    elsewhere : (b : ℕ) → (b ≡ c → ⊥) → remove k (T b) ≡ T b
    elsewhere b n = remove_absent u k (s.high b) 0 (T b) some (S.wf b) (λ y h e. n (sym (rep_loan u (entries O s.levels) s.loans b (s.high b) 0 nowhere (s.top b) (T b) y k (S.rep b) h e).0))

    other_rep : (b : ℕ) → (b ≡ c → ⊥) → Rep u (entries O r.levels) s.loans b (s.high b) 0 nowhere (s.top b) (T b)
    other_rep b n =
        frame u (entries O s.levels) (entries O r.levels) s.loans b (s.high b) 0 nowhere (s.top b) (T b) some
        (local_keep u (entries O s.levels) (entries O r.levels) c 0 (s.high c) b 0 (s.high b) (λ e i j. n (sym j.0 ∙ i.0)) done.local) (S.rep b)

    gone : r.freed ≡ true → remove k (T c) ≡ free
    gone e = rep_zero u (entries O r.levels) s.loans c (s.high c) 0 nowhere (remove k (T c)) (rw e at done.rep)

    abbrev high' : ℕ → ℕ
    high' = with s.high c (cond r.freed 0 (s.high c))

    abbrev top' : ℕ → ℕ
    top' = with s.top c (cond r.freed 0 (s.top c))

    -- a chunk's record changes only where it is released
    abbrev Stays : ℕ → Type 0
    Stays b = (high' b ≡ s.high b) × (top' b ≡ s.top b) × ((b ≡ c) → r.freed ≡ false)

    abbrev Leaves : ℕ → Type 0
    Leaves b = (high' b ≡ 0) × (top' b ≡ 0) × (b ≡ c) × (r.freed ≡ true)

    chunk_cases : (b : ℕ) → Stays b ⊎ Leaves b
    chunk_cases b = by (same? b c) (told r.freed)
      where
        by : (b ≡ c) ⊎ (b ≡ c → ⊥) → (r.freed ≡ true) ⊎ (r.freed ≡ false) → Stays b ⊎ Leaves b
        by (inl e) (inl f) = inr (rw (f, eq-eqb b c e) refl, rw (f, eq-eqb b c e) refl, e, f)
        by (inl e) (inr f) = inl (rw (f, eq-eqb b c e) (ap s.high (sym e)), rw (f, eq-eqb b c e) (ap s.top (sym e)), λ g. f)
        by (inr n) f = inl (rw (ne_eqb b c n) refl, rw (ne_eqb b c n) refl, λ e. absurd (n e))

    -- a released chunk's tree is free
    gone_at : (b : ℕ) → b ≡ c → r.freed ≡ true → remove k (T b) ≡ free
    gone_at b e f = ap (λ a. remove k (T a)) e ∙ gone f

    new_rep : (b : ℕ) → Rep u (entries O r.levels) s.loans b (high' b) 0 nowhere (top' b) (remove k (T b)) × Wf (high' b) (remove k (T b))
    new_rep b = ⊎_elim
        (λ z. rw (z.0, z.1) (⊎_elim
        (λ e. (rw e (rw (z.2 e) at done.rep), rw e (prune_wf (eqb k) (s.high c) (T c) (S.wf c))))
        (λ n. rw (elsewhere b n) (other_rep b n, S.wf b))
        (same? b c)))
        (λ z. rw (z.0, z.1, gone_at b z.2 z.3) ((refl, λ i p h. absurd (omega arith)), tt))
        (chunk_cases b)

    -- the loans of a released chunk's tree are none, at any level
    at_level : (b : ℕ) (y : Piece) → (Has u (s.high b) 0 (remove k (T b)) y → Has u (high' b) 0 (remove k (T b)) y) × (Has u (high' b) 0 (remove k (T b)) y → Has u (s.high b) 0 (remove k (T b)) y)
    at_level b y = ⊎_elim
        (λ z. rw z.0 ((λ h. h), (λ h. h)))
        (λ z. rw (gone_at b z.2 z.3) ((λ h. h), (λ h. h)))
        (chunk_cases b)

    new_owned : (i p : ℕ) → i < s.count → 0 < (O.ent (r.levels i) p).tag → (i < high' (O.ent (r.levels i) p).chunk) × ((O.ent (r.levels i) p).off < bytes u (high' (O.ent (r.levels i) p).chunk))
    new_owned i p m t =
        let e = O.ent (r.levels i) p in
        let was : (i < s.high e.chunk) × (e.off < bytes u (s.high e.chunk)) = ⊎_elim
        (λ q. rw q (S.owned i p m (rw q at t)))
        (λ q. ⊎_elim (λ z. absurd (omega arith)) (λ z. rw z.1.0 (z.0, omega (arith, z.1.2))) q.1)
        (done.local i p) in
        ⊎_elim
        (λ z. rw z.0 was)
        (λ z.
        let y : Rep u (entries O r.levels) s.loans c (s.high c) 0 nowhere 0 free = rw (z.3, gone z.3) at done.rep in
        let h : i < s.high c = rw z.2 at was.0 in
        let o : e.off < bytes u (s.high c) = rw z.2 at was.1 in
        absurd (y.1 i p h t (z.2, omega arith, omega arith)))
        (chunk_cases e.chunk)

    -- a tree that has a loan is not free
    not_free : T c ≡ free → ⊥
    not_free e = let h : Has u (s.high c) 0 free (piece (s.loans k) k) = rw e at (S.has k lv) in h

    new_held : (b : ℕ) → remove k (T b) ≡ free → (high' b ≡ 0) × (top' b ≡ 0)
    new_held b e = ⊎_elim
        (λ z. rw (z.0, z.1) (⊎_elim
        (λ q.
        let y : Rep u (entries O r.levels) s.loans c (s.high c) 0 nowhere (s.top c) free = rw (z.2 q, rw q at e) at done.rep in
        absurd (not_free (rep_zero u (entries O s.levels) s.loans c (s.high c) 0 nowhere (T c) (rw y.0 at (S.rep c)))))
        (λ n. S.held b (sym (elsewhere b n) ∙ e))
        (same? b c)))
        (λ z. (z.0, z.1))
        (chunk_cases b)

    new_vacant : (b : ℕ) → high' b ≡ 0 → remove k (T b) ≡ free
    new_vacant b e = ⊎_elim (λ z. ap (remove k) (S.vacant b (sym z.0 ∙ e))) (λ z. gone_at b z.2 z.3) (chunk_cases b)

    -- who is on loan still is another, and was on loan
    not_it : (j : ℕ) → with s.live k false j ≡ true → j ≡ k → ⊥
    not_it j h e = true_false false (rw (eq-eqb j k e) at h) refl

    was_live : (j : ℕ) → with s.live k false j ≡ true → s.live j ≡ true
    was_live j h = rw (ne_eqb j k (not_it j h)) at h

    new_has : (j : ℕ) → with s.live k false j ≡ true → Has u (high' (s.loans j).chunk) 0 (remove k (T (s.loans j).chunk)) (piece (s.loans j) j)
    new_has j h =
        let b = (s.loans j).chunk in
        (at_level b (piece (s.loans j) j)).0 ((prune_has u (eqb k) (s.high b) 0 (T b) (piece (s.loans j) j) (S.wf b)).1 (S.has j (was_live j h), λ i e. ne_eqb k i (λ z. not_it j h (omega arith))))

    new_live : (b j : ℕ) (y : Piece) → Has u (high' b) 0 (remove k (T b)) y → y.who ≡ j + 1 → with s.live k false j ≡ true
    new_live b j y h e =
        let z = (prune_has u (eqb k) (s.high b) 0 (T b) y (S.wf b)).0 ((at_level b y).1 h) in
        let n : (j ≡ k → ⊥) = λ f. true_false (eqb k j) (eq-eqb k j (sym f)) (z.1 j e) in
        rw (ne_eqb j k n) (S.is_live b j y z.0 e)

  -- a return leaves a sound store, whose trees are without that loan
  pub returned_sound : (s : Store u O) (T : ℕ → Tree) → Sound u O s T → (k : ℕ) → s.live k ≡ true → Sound u O (returned u O s k) (λ b. remove k (T b))
  unfolding returned
  returned_sound s T S k lv = record {
    good = λ i h. (done s T S k lv).good i (S.good i h);
    small = λ i p h t. S.small i p h (old s T S k lv i p t);
    tall = λ b. ⊎_elim (λ z. rw z.0 (S.tall b)) (λ z. rw z.0 (omega arith)) (chunk_cases s T S k lv b);
    held = new_held s T S k lv;
    vacant = new_vacant s T S k lv;
    wf = λ b. (new_rep s T S k lv b).1;
    rep = λ b. (new_rep s T S k lv b).0;
    owned = new_owned s T S k lv;
    has = new_has s T S k lv;
    is_live = new_live s T S k lv;
  }
