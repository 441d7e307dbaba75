-- Where a loan fits: a stretch at a multiple of its size is wholly free exactly when one free node holds it.
use mathlib.Core.Path.{◌≡◌, refl, ap, ◌∙◌}
use mathlib.Core.Logic.{◌⊎◌, inl, inr, ⊎_elim, ◌↔◌}
use Prim.Native.Nat.{ℕ, zero, suc, ◌+◌, ◌*◌, ◌-◌, ◌^◌, ◌<◌, ◌≤◌}
use native.Mathlib.Nat.{two-pow-succ, add-mul, zero-mul}
use native.Mathlib.Omega.{arith}
use Rattle.lists.proofs.Bools.{lt_or_le}
use Rattle.buddy_trees.specs.Trees.{Tree, free, loan, split, Wf, up, bytes, Quiet, Room}
use Rattle.buddy_trees.proofs.Bytes.{bytes_pos, bytes_up, bytes_end, up_le}
use Rattle.buddy_trees.proofs.Fills.{has_in, free_quiet}
use Rattle.buddy_trees.proofs.Canon.{taken_loan}

module _ (u : ℕ) where
  -- what lies in a free node of either half lies in one of the pair
  room_left : (l o : ℕ) (a b : Tree) (x lev : ℕ) → Room u l o a x lev → Room u (suc l) o (split a b) x lev
  room_left l o a b x lev r = record { z = r.z; n = r.n; is = inl r.is; high = r.high; low = r.low; end = r.end }

  room_right : (l o : ℕ) (a b : Tree) (x lev : ℕ) → Room u l (o + bytes u l) b x lev → Room u (suc l) o (split a b) x lev
  room_right l o a b x lev r = record { z = r.z; n = r.n; is = inr r.is; high = r.high; low = r.low; end = r.end }

  -- a quiet stretch at a multiple of its size lies in one free node
  pub room : (d lev o q x : ℕ) (t : Tree) → 0 < u → Wf (up d lev) t → q < 2 ^ d → x ≡ o + q * bytes u lev → Quiet u (up d lev) o t x lev → Room u (up d lev) o t x lev
  room d lev o q x free p w h e f = record { z = o; n = up d lev; is = (refl, refl); high = up_le d lev; low = omega arith; end = omega (arith, bytes_end u d lev q h) }
  room d lev o q x (loan k) p w h e f =
      let g = f (record { at = o; lev = up d lev; who = k + 1 }) (refl, refl, refl) in
      absurd (⊎_elim (λ i. omega (arith, bytes_end u d lev q h, bytes_pos u lev p)) (λ i. omega (arith, bytes_pos u lev p)) g)
  room zero lev o q x (split a b) p w h e f =
      let s = taken_loan u lev o (split a b) w tt in
      let i = has_in u lev o (split a b) s.0 s.1 in
      let k : q ≡ 0 = omega arith in
      let g : x ≡ o = e ∙ rw (k, zero-mul) (omega arith) in
      let c = bytes_pos u s.0.lev p in
      absurd (⊎_elim (λ j. omega arith) (λ j. omega arith) (f s.0 s.1))
  room (suc d) lev o q x (split a b) p w h e f =
      go
      (λ i. room d lev o q x a p w.1 i e (λ y j. f y (inl j)))
      (λ r i g. room d lev (o + bytes u (up d lev)) r x b p w.2 i g (λ y j. f y (inr j)))
      (lt_or_le q (2 ^ d))
    where
      go : (q < 2 ^ d → Room u (up d lev) o a x lev)
          → ((r : ℕ) → r < 2 ^ d → x ≡ o + bytes u (up d lev) + r * bytes u lev → Room u (up d lev) (o + bytes u (up d lev)) b x lev)
          → (q < 2 ^ d) ⊎ (2 ^ d ≤ q) → Room u (up (suc d) lev) o (split a b) x lev
      go f g (inl i) = room_left (up d lev) o a b x lev (f i)
      go f g (inr i) =
          let r = q - 2 ^ d in
          let c : q ≡ 2 ^ d + r = omega arith in
          let m : q * bytes u lev ≡ 2 ^ d * bytes u lev + r * bytes u lev = ap (λ (n : ℕ). n * bytes u lev) c ∙ add-mul (2 ^ d) r (bytes u lev) in
          room_right (up d lev) o a b x lev (g r (omega (arith, two-pow-succ d)) (omega (arith, bytes_up u d lev)))

  -- and what lies in a free node is quiet
  room_quiet : (l o : ℕ) (t : Tree) (x lev : ℕ) → Room u l o t x lev → Quiet u l o t x lev
  room_quiet l o t x lev r y h = ⊎_elim (λ i. inl (omega (arith, r.low))) (λ i. inr (omega (arith, r.end))) (free_quiet u l o t r.z r.n r.is y h)

-- a fitting free place, "a wholly free stretch of the rounded size at a multiple of it", is there exactly when some free
-- node that is as high or higher holds it
pub quiet_room : (u d lev q : ℕ) (t : Tree) → 0 < u → Wf (up d lev) t → q < 2 ^ d → Quiet u (up d lev) 0 t (q * bytes u lev) lev ↔ Room u (up d lev) 0 t (q * bytes u lev) lev
quiet_room u d lev q t p w h = ((λ f. room u d lev 0 q (q * bytes u lev) t p w h (omega arith) f), (λ r. room_quiet u (up d lev) 0 t (q * bytes u lev) lev r))
