-- A loan is placed: a free node is split down to it, and the rest of the tree stays.
use mathlib.Core.Path.{◌≡◌}
use mathlib.Core.Bool.{Bool, true, false, cond}
use mathlib.Core.Logic.{inl, inr, ⊎_elim, ◌↔◌}
use Prim.Native.Nat.{ℕ, zero, suc, ◌+◌, ◌<◌}
use native.Mathlib.Omega.{arith}
use lib.Dec.{ltb}
use borrow.Author.Tests.{lt-ltb, le-ltb}
use Rattle.buddy_trees.specs.Trees.{Tree, free, loan, split, Taken, Apart, Wf, up, bytes, Piece, Has, Free, spine, plant, Planted}
use Rattle.buddy_trees.proofs.Bytes.{bytes_pos}
use Rattle.buddy_trees.proofs.Fills.{free_in_lem}

pub apart_left : (a b : Tree) → Taken a → Apart a b
apart_left free b h = absurd h
apart_left (loan k) b h = tt
apart_left (split c d) b h = tt

pub apart_right : (a b : Tree) → Taken b → Apart a b
apart_right free free h = absurd h
apart_right free (loan k) h = tt
apart_right free (split c d) h = tt
apart_right (loan k) b h = tt
apart_right (split c d) b h = tt

-- ---- a free node split down to a loan

pub spine_taken : (d k : ℕ) → Taken (spine d k)
spine_taken zero k = tt
spine_taken (suc d) k = tt

pub spine_wf : (d lev k : ℕ) → Wf (up d lev) (spine d k)
spine_wf zero lev k = tt
spine_wf (suc d) lev k = (apart_left (spine d k) free (spine_taken d k), spine_wf d lev k, tt)

module _ (u : ℕ) where
  -- the spine's one loan stands at its start
  pub spine_has : (d lev k x : ℕ) (y : Piece) → Has u (up d lev) x (spine d k) y ↔ ((y.at ≡ x) × (y.lev ≡ lev) × (y.who ≡ k + 1))
  spine_has zero lev k x y = ((λ h. h), (λ h. h))
  spine_has (suc d) lev k x y = (⊎_elim (spine_has d lev k x y).0 (λ h. absurd h), (λ h. inl ((spine_has d lev k x y).1 h)))

  -- ---- a tree planted in a free node

  pub plant_taken : (l o x : ℕ) (s t : Tree) → Taken s → Taken (plant u l o x s t)
  plant_taken l o x s free h = h
  plant_taken l o x s (loan k) h = tt
  plant_taken zero o x s (split a b) h = tt
  plant_taken (suc l) o x s (split a b) h = go (ltb x (o + bytes u l)) _ _ _ _
    where
      go : (e : Bool) (a b c d : Tree) → Taken (cond e (split a b) (split c d))
      go true a b c d = tt
      go false a b c d = tt

  -- in the node that is free at x: the form is kept, and the loans of what is planted are added
  pub planted : (l o : ℕ) (t s : Tree) (x m : ℕ) → 0 < u → Wf l t → Wf m s → Taken s → Free u l o t x m → Planted u l o t s x m (plant u l o x s t)
  planted l o free s x m p w v n h = record {
    wf = rw h.1 at v;
    has = λ y. ((λ i. inr (rw (h.0, h.1) i)), ⊎_elim (λ i. absurd i) (λ i. rw (h.0, h.1) at i));
  }
  planted l o (loan k) s x m p w v n h = absurd h
  planted zero o (split a b) s x m p w v n h = absurd h
  planted (suc l) o (split a b) s x m p w v n (inl h) =
      let i = free_in_lem u l o a x m h in
      let r = planted l o a s x m p w.1 v n h in
      let e : ltb x (o + bytes u l) ≡ true = lt-ltb x (o + bytes u l) (omega (arith, bytes_pos u m p)) in
      rw e (record {
        wf = (apart_left (plant u l o x s a) b (plant_taken l o x s a n), r.wf, w.2);
        has = λ y. (
          ⊎_elim (λ j. ⊎_elim (λ k. inl (inl k)) (λ k. inr k) ((r.has y).0 j)) (λ j. inl (inr j)),
          ⊎_elim (⊎_elim (λ j. inl ((r.has y).1 (inl j))) (λ j. inr j)) (λ j. inl ((r.has y).1 (inr j))),
        );
      })
  planted (suc l) o (split a b) s x m p w v n (inr h) =
      let c = o + bytes u l in
      let i = free_in_lem u l c b x m h in
      let r = planted l c b s x m p w.2 v n h in
      let e : ltb x c ≡ false = le-ltb x c (omega arith) in
      rw e (record {
        wf = (apart_right a (plant u l c x s b) (plant_taken l c x s b n), w.1, r.wf);
        has = λ y. (
          ⊎_elim (λ j. inl (inl j)) (λ j. ⊎_elim (λ k. inl (inr k)) (λ k. inr k) ((r.has y).0 j)),
          ⊎_elim (⊎_elim (λ j. inl j) (λ j. inr ((r.has y).1 (inl j)))) (λ j. inr ((r.has y).1 (inr j))),
        );
      })
