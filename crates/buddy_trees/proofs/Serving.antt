-- What can be served: a stretch of a node's size fits exactly when some free piece is as long.
use mathlib.Core.Path.{◌≡◌, refl, sym, ◌∙◌, ap, subst}
use mathlib.Core.Logic.{inl, inr, ⊎_elim, ◌↔◌}
use mathlib.Core.List.Memᴰ
use mathlib.Core.List.{List, [], ◌∷◌, Memᴰ}
use Prim.Native.Nat.{ℕ, zero, suc, ◌+◌, ◌*◌, ◌-◌, ◌/◌, ◌≤◌, ◌<◌}
use native.Mathlib.Nat.{lt_of_mul-lt-mul_right, zero-mul}
use native.Mathlib.Omega.{arith}
use Rattle.rounding_rules.proofs.Raising.{whole}
use Rattle.store_rules.specs.Views.{region}
use Rattle.store_rules.specs.declared.Chunk.{Chunk}
use Rattle.store_rules.specs.declared.Loan.{Loan}
use Rattle.store_rules.specs.declared.Region.{Region}
use Rattle.buddy_trees.specs.Trees.{Tree, free, loan, split, Piece, Wf, up, bytes, Free, Quiet, Room}
use Rattle.buddy_trees.proofs.Bytes.{bytes_pos, bytes_up, up_add, bytes_mono, bytes_lower, bytes_multiple}
use Rattle.buddy_trees.proofs.Fills.{free_in_lem, free_quiet, free_aligned}
use Rattle.buddy_trees.proofs.Rooms.{quiet_room}
use Rattle.buddy_trees.specs.Chunks.{free_of, piece_of, high_of, tree_in, free_in, view_from, Standing, Fitting}
use Rattle.buddy_trees.proofs.Pieces.{piece_mem}
use Rattle.buddy_trees.proofs.Filling.{free_for}

module _ (u : ℕ) where
  -- ---- free pieces and free nodes

  -- a free piece is a free node
  pub region_free : (c l o : ℕ) (t : Tree) (r : Region) → Memᴰ r (free_of u c l o t) → (m : ℕ) × Free u l o t r.start m × (r.end ≡ r.start + bytes u m)
  unfolding free_of
  region_free c l o free r m =
      let e = Memᴰ.eq_of_singleton m in
      let s : r.start ≡ o = ap (λ (k : Region). k.start) e in
      let f : r.end ≡ o + bytes u l = ap (λ (k : Region). k.end) e in
      (l, (s, refl), omega arith)
  region_free c l o (loan k) r m = absurd (Memᴰ.not-nil m)
  region_free c zero o (split a b) r m = absurd (Memᴰ.not-nil m)
  region_free c (suc l) o (split a b) r m =
      ⊎_elim
      (λ i. let w = region_free c l o a r i in (w.0, inl w.1, w.2))
      (λ i. let w = region_free c l (o + bytes u l) b r i in (w.0, inr w.1, w.2))
      (Memᴰ.append_cases (free_of u c l o a) m)

  -- and a free node a free piece
  pub free_region : (c l o : ℕ) (t : Tree) (x m : ℕ) → Free u l o t x m → Memᴰ (region c x (x + bytes u m)) (free_of u c l o t)
  unfolding free_of
  free_region c l o free x m f = Memᴰ.head (λ i. region c (f.0 i) (f.0 i + bytes u (f.1 i)))
  free_region c l o (loan k) x m f = absurd f
  free_region c zero o (split a b) x m f = absurd f
  free_region c (suc l) o (split a b) x m (inl f) = Memᴰ.append_left (free_of u c l (o + bytes u l) b) (free_region c l o a x m f)
  free_region c (suc l) o (split a b) x m (inr f) = Memᴰ.append_right (free_of u c l o a) (free_region c l (o + bytes u l) b x m f)

  -- the free pieces are those of the held chunks
  pub free_where : (ls : List Loan) (cs : List Chunk) (r : Region) → Memᴰ r (free_in u ls cs) → (c : Chunk) × Memᴰ c cs × Memᴰ r (free_for u ls c)
  unfolding free_in
  free_where ls [] r m = absurd (Memᴰ.not-nil m)
  free_where ls (c ∷ cs) r m =
      ⊎_elim (λ i. (c, Memᴰ.head refl, i)) (λ i. let w = free_where ls cs r i in (w.0, Memᴰ.tail w.1, w.2)) (Memᴰ.append_cases (free_for u ls c) m)

  pub where_free : (ls : List Loan) (cs : List Chunk) (r : Region) (c : Chunk) → Memᴰ c cs → Memᴰ r (free_for u ls c) → Memᴰ r (free_in u ls cs)
  unfolding free_in
  where_free ls [] r c m i = absurd (Memᴰ.not-nil m)
  where_free ls (d ∷ cs) r c m i =
      ⊎_elim
      (λ e. Memᴰ.append_left (free_in u ls cs) (subst (λ (k : Chunk). Memᴰ r (free_for u ls k)) e i))
      (λ k. Memᴰ.append_right (free_for u ls d) (where_free ls cs r c k i))
      (Memᴰ.cases_cons m)

  -- ---- a quiet stretch

  room_at : (l lev q : ℕ) (t : Tree) → 0 < u → Wf l t → q * bytes u lev + bytes u lev ≤ bytes u l → Quiet u l 0 t (q * bytes u lev) lev → Room u l 0 t (q * bytes u lev) lev
  room_at l lev q t p w h f =
      let d = l - lev in
      let g : up d lev ≡ l = omega (arith, up_add d lev, bytes_lower u lev l p (omega arith)) in
      subst (λ (k : ℕ). Wf k t → q * bytes u lev + bytes u lev ≤ bytes u k → Quiet u k 0 t (q * bytes u lev) lev → Room u k 0 t (q * bytes u lev) lev) g
      (λ v i j. (quiet_room u d lev q t p v (lt_of_mul-lt-mul_right (bytes u lev) (omega (arith, bytes_up u d lev, bytes_pos u lev p)))).0 j) w h f

  module _ (p : 0 < u) (ls : List Loan) (cs : List Chunk) (S : Standing u ls cs) (lev : ℕ) where
    fits_free : Fitting (bytes u lev) (view_from u ls cs) → (r : Region) × Memᴰ r (free_in u ls cs) × (r.start + bytes u lev ≤ r.end)
    fits_free f =
        let c = f.chunk in
        let z = bytes u lev in
        let e : f.start / z * z ≡ f.start = whole f.start z f.aligned in
        let r = room_at (high_of u c) lev (f.start / z) (tree_in u ls c) p (S.wf c f.held) (omega (arith, e, f.inside, (S.sized c f.held).0)) quiet in (
          region c.number r.z (r.z + bytes u r.n),
          where_free ls cs _ c f.held (free_region c.number (high_of u c) 0 (tree_in u ls c) r.z r.n r.is),
          omega (arith, bytes_mono u lev r.n r.high),
        )
      where
        quiet : Quiet u (high_of u f.chunk) 0 (tree_in u ls f.chunk) (f.start / bytes u lev * bytes u lev) lev
        quiet y h =
            let w = (piece_mem u f.chunk.number ls y).0 ((S.has f.chunk f.held y).1 h) in
            let e = whole f.start (bytes u lev) f.aligned in
            let a : y.at ≡ w.0.offset = ap (λ (k : Piece). k.at) w.3 in
            let b : bytes u y.lev ≡ w.0.size = ap (λ (k : Piece). bytes u k.lev) w.3 ∙ sym (S.loans_sized w.0 w.1) in
            ⊎_elim (λ i. inl (omega (arith, i, e, a, b))) (λ i. inr (omega (arith, i, e, a))) (f.quiet w.0 w.1 w.2)

    free_fits : (r : Region) → Memᴰ r (free_in u ls cs) → r.start + bytes u lev ≤ r.end → Fitting (bytes u lev) (view_from u ls cs)
    free_fits r m h =
        let w = free_where ls cs r m in
        let c = w.0 in
        let v = region_free c.number (high_of u c) 0 (tree_in u ls c) r w.2 in
        let g : lev ≤ v.0 = bytes_lower u lev v.0 p (omega (arith, v.2)) in
        let a = free_aligned u (high_of u c) 0 (tree_in u ls c) r.start v.0 0 (sym (zero-mul (bytes u (high_of u c)))) v.1 in
        let i = free_in_lem u (high_of u c) 0 (tree_in u ls c) r.start v.0 v.1 in
        record {
          chunk = c;
          held = w.1;
          start = r.start;
          aligned = rw a.1 (bytes_multiple u lev v.0 a.0 g);
          inside = omega (arith, (S.sized c w.1).0, i.1, bytes_mono u lev v.0 g);
          quiet = λ l k q. ⊎_elim (λ j. inl (omega (arith, j, S.loans_sized l k))) (λ j. inr (omega (arith, j, bytes_mono u lev v.0 g)))
              (free_quiet u (high_of u c) 0 (tree_in u ls c) r.start v.0 v.1 (piece_of u l) ((S.has c w.1 (piece_of u l)).0 ((piece_mem u c.number ls (piece_of u l)).1 (l, k, q, refl))));
        }

-- a node's size can be served exactly when some free piece is long enough
pub fitting_free : (u : ℕ) → 0 < u → (ls : List Loan) (cs : List Chunk) → Standing u ls cs → (lev : ℕ) → Fitting (bytes u lev) (view_from u ls cs) ↔ ((r : Region) × Memᴰ r (free_in u ls cs) × (r.start + bytes u lev ≤ r.end))
fitting_free u p ls cs S lev = (fits_free u p ls cs S lev, λ w. free_fits u p ls cs S lev w.0 w.1 w.2)
