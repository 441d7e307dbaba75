-- When a chunk has room: a quiet stretch at a multiple of its size is there exactly when a pair is ready at that level or a
-- higher one.
use mathlib.Core.Path.{◌≡◌, sym, ap, subst}
use mathlib.Core.Logic.{⊎_elim}
use Prim.Native.Nat.{ℕ, ◌+◌, ◌*◌, ◌^◌, ◌≤◌, ◌<◌}
use native.Mathlib.Nat.{zero-mul, mul-le-mul_right}
use native.Mathlib.Omega.{arith}
use Rattle.lists.proofs.Bools.{same?, lt_or_le}
use Rattle.buddy_trees.specs.Trees.{Tree, Taken, Wf, up, bytes, Free, Quiet}
use Rattle.buddy_trees.proofs.Bytes.{bytes_pos, bytes_up}
use Rattle.buddy_trees.proofs.Fills.{free_in_lem, free_quiet, free_aligned}
use Rattle.buddy_trees.proofs.Rooms.{quiet_room}
use Rattle.buddy_rules.specs.Nodes.{Ent, Loan, Inside, Rep}
use Rattle.buddy_rules.specs.Levels.{base_of, Ops}
use Rattle.buddy_rules.specs.Returns.{entries}
use Rattle.buddy_rules.proofs.Readies.{Ready, ready_free, free_whole, free_ready}

module _ (u : ℕ) where
  -- the q-th node of level lev lies within the node d levels above only where it is one of the first 2^d
  within : (d lev q : ℕ) → 0 < u → q * bytes u lev + bytes u lev ≤ bytes u (up d lev) → q < 2 ^ d
  within d lev q pu h =
      ⊎_elim (λ i. i)
      (λ i. absurd (omega (arith, bytes_pos u lev pu, bytes_up u d lev, mul-le-mul_right (bytes u lev) i)))
      (lt_or_le q (2 ^ d))

  -- the ready side of a pair of level i is a quiet stretch, at a multiple of its size
  pub ready_quiet : 0 < u → (E : ℕ → ℕ → Ent) (K : ℕ → Loan) (c l n w i d p : ℕ) (t : Tree) → l ≡ up d i → Wf l t → Rep u E K c l 0 n w t → i < l → 1 < (E i p).tag → Inside u (E i p) c 0 l
      → (q : ℕ) × ((q < 2 ^ d) × (base_of u (E i p) i ≡ q * bytes u i) × Quiet u l 0 t (q * bytes u i) i)
  ready_quiet pu E K c l n w i d p t e v r h g s =
      let x = base_of u (E i p) i in
      let f = ready_free u E K c l 0 n w i p t v r h g s in
      let a = free_aligned u l 0 t x i 0 (sym (zero-mul (bytes u l))) f in
      let b = free_in_lem u l 0 t x i f in
      let z = a.1 in
      (a.0, (within d i a.0 pu (omega (arith, b.1, ap (bytes u) e)), z, subst (λ (y : ℕ). Quiet u l 0 t y i) z (free_quiet u l 0 t x i f)))

  -- a quiet stretch of level lev at a multiple of its size lies in the ready side of a pair, of that level or a higher one,
  -- unless the whole chunk is free
  pub quiet_ready : 0 < u → (E : ℕ → ℕ → Ent) (K : ℕ → Loan) (c l n w lev d q : ℕ) (t : Tree) → l ≡ up d lev → Taken t → Wf l t → Rep u E K c l 0 n w t → q < 2 ^ d → Quiet u l 0 t (q * bytes u lev) lev
      → (i x : ℕ) × ((lev ≤ i) × (i < l) × (x ≤ q * bytes u lev) × (q * bytes u lev + bytes u lev ≤ x + bytes u i) × Ready u E c x i)
  quiet_ready pu E K c l n w lev d q t e k v r h f =
      let m = (quiet_room u d lev q t pu (subst (λ (y : ℕ). Wf y t) e v) h).0 (subst (λ (y : ℕ). Quiet u y 0 t (q * bytes u lev) lev) e f) in
      let j = subst (λ (y : ℕ). Free u y 0 t m.z m.n) (sym e) m.is in
      let b = free_in_lem u l 0 t m.z m.n j in
      let g : m.n < l = below m.z m.n j b.2 in
      (m.n, m.z, (m.high, g, m.low, m.end, free_ready u E K c l 0 n w m.z m.n t v r j g))
    where
      below : (z i : ℕ) → Free u l 0 t z i → i ≤ l → i < l
      below z i f j = ⊎_elim (λ y. absurd (subst Taken (free_whole u l 0 z i t y f).0 k)) (λ a. omega arith) (same? i l)

module _ (u : ℕ) (O : Ops) where
  -- so a level whose head is of the chunk has room there
  pub some_quiet : 0 < u → (W : ℕ → O.Lv) (K : ℕ → Loan) (c l n w i d : ℕ) (t : Tree) → l ≡ up d i → O.Good (W i) → O.Some (W i) → Wf l t → Rep u (entries O W) K c l 0 n w t → i < l → Inside u (entries O W i (O.head (W i))) c 0 l
      → (q : ℕ) × ((q < 2 ^ d) × (base_of u (entries O W i (O.head (W i))) i ≡ q * bytes u i) × Quiet u l 0 t (q * bytes u i) i)
  some_quiet pu W K c l n w i d t e g s v r h j = ready_quiet u pu (entries O W) K c l n w i d (O.head (W i)) t e v r h (O.head_ready (W i) g s) j

  -- and room in the chunk shows at a level
  pub quiet_some : 0 < u → (W : ℕ → O.Lv) (K : ℕ → Loan) (c l n w lev d q : ℕ) (t : Tree) → l ≡ up d lev → ((i : ℕ) → i < l → O.Good (W i)) → Taken t → Wf l t → Rep u (entries O W) K c l 0 n w t → q < 2 ^ d
      → Quiet u l 0 t (q * bytes u lev) lev → (i : ℕ) × ((lev ≤ i) × (i < l) × O.Some (W i))
  quiet_some pu W K c l n w lev d q t e g k v r h f =
      let m = quiet_ready u pu (entries O W) K c l n w lev d q t e k v r h f in
      let y = m.2.4 in
      (m.0, (m.2.0, m.2.1, O.ready_some (W m.0) y.p (g m.0 m.2.1) y.tag))
