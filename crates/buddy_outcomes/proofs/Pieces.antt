-- Loans and free pieces fill each held chunk of a sound store, and no two free pieces are twins. 01, "Sound": "no
-- joinable pieces".
use mathlib.Core.Path.{◌≡◌, sym, ap, subst, ◌∙◌}
use mathlib.Core.Bool.{true}
use mathlib.Core.Logic.{◌⊎◌, inl, inr, ⊎_elim}
use mathlib.Core.List.Memᴰ
use mathlib.Core.List.{Memᴰ}
use Prim.Native.Nat.{ℕ, zero, suc, ◌+◌, ◌-◌, ◌*◌, ◌^◌, ◌≤◌, ◌<◌}
use native.Mathlib.Nat.{mul_assoc, mul-add, add-mul, suc-mul, zero-mul, one-mul, mul-le-mul_right}
use native.Mathlib.Omega.{arith}
use Rattle.lists.proofs.Bools.{same?, lt_or_le}
use Rattle.counter.specs.InTable.{BuddyIn}
use Rattle.counter.specs.declared.settings.BuddySettings.{BuddySettings}
use Rattle.slabs.specs.Slab.{nowhere}
use Rattle.buddy_trees.specs.Trees.{Tree, free, loan, split, Apart, Wf, bytes, up, Piece, pieces, Fills, Has, Free}
use Rattle.buddy_trees.proofs.Bytes.{bytes_suc, bytes_pos, bytes_up}
use Rattle.buddy_trees.proofs.Fills.{fills, free_in_lem}
use Rattle.buddy_rules.specs.Stores.{piece}
use Rattle.buddy_rules.proofs.Fitting.{up_add}
use Rattle.buddy_rules.proofs.Frames.{rep_loan}
use Rattle.buddy_rules.proofs.Readies.{free_whole}
use Rattle.buddy_rules.specs.Tables.{Tables, pairs_in, chunk_size_in, loan_in, live_in, held_in, high_in, top_in}
use Rattle.buddy_rules.specs.Sound.{Sound}
use Rattle.buddy_rules.proofs.Walks.{minimal_pos}

-- ---- of a tree

-- an odd number of units is no even number of them
odd_even : (x y z : ℕ) → 0 < z → 2 * (x * z) + z ≡ 2 * (y * z) → ⊥
odd_even x y z h e = ⊎_elim (λ i. omega (arith, suc-mul x z, mul-le-mul_right z i)) (λ i. omega (arith, mul-le-mul_right z i)) (lt_or_le x y)

double : (r z : ℕ) → r * (z + z) ≡ 2 * r * z
double r z = mul-add r z z ∙ sym (ap (λ (y : ℕ). y * z) (two r) ∙ add-mul r r z)
  where
    two : (n : ℕ) → 2 * n ≡ n + n
    two n = omega arith

double_one : (r z : ℕ) → (2 * r + 1) * z ≡ 2 * r * z + z
double_one r z = add-mul (2 * r) 1 z ∙ ap (λ (y : ℕ). 2 * r * z + y) (one-mul z)

both_free : (a b : Tree) → Apart a b → a ≡ free → b ≡ free → ⊥
both_free a b h e f = let k : Apart free free = subst (λ (x : Tree). Apart x free) e (subst (λ (y : Tree). Apart a y) f h) in k

module _ (u : ℕ) (some : 0 < u) where
  -- a piece that is nobody's is a free node
  pub piece_free : (l o : ℕ) (t : Tree) (y : Piece) → Memᴰ y (pieces u l o t) → y.who ≡ 0 → Free u l o t y.at y.lev
  piece_free l o free y m e = ⊎_elim (λ q. (ap (λ (p : Piece). p.at) q, ap (λ (p : Piece). p.lev) q)) (λ q. absurd (Memᴰ.not-nil q)) (Memᴰ.cases_cons m)
  piece_free l o (loan k) y m e =
      ⊎_elim (λ q. let z : y.who ≡ k + 1 = ap (λ (p : Piece). p.who) q in absurd (omega arith)) (λ q. absurd (Memᴰ.not-nil q)) (Memᴰ.cases_cons m)
  piece_free zero o (split a b) y m e = absurd (Memᴰ.not-nil m)
  piece_free (suc l) o (split a b) y m e =
      ⊎_elim (λ q. inl (piece_free l o a y q e)) (λ q. inr (piece_free l (o + bytes u l) b y q e)) (Memᴰ.append_cases (pieces u l o a) m)

  -- one that is somebody's is a loan
  piece_has : (l o : ℕ) (t : Tree) (y : Piece) (k : ℕ) → Memᴰ y (pieces u l o t) → y.who ≡ k + 1 → Has u l o t y
  piece_has l o free y k m e =
      ⊎_elim (λ q. let z : y.who ≡ 0 = ap (λ (p : Piece). p.who) q in absurd (omega arith)) (λ q. absurd (Memᴰ.not-nil q)) (Memᴰ.cases_cons m)
  piece_has l o (loan j) y k m e =
      ⊎_elim (λ q. (ap (λ (p : Piece). p.at) q, ap (λ (p : Piece). p.lev) q, ap (λ (p : Piece). p.who) q)) (λ q. absurd (Memᴰ.not-nil q)) (Memᴰ.cases_cons m)
  piece_has zero o (split a b) y k m e = absurd (Memᴰ.not-nil m)
  piece_has (suc l) o (split a b) y k m e =
      ⊎_elim (λ q. inl (piece_has l o a y k q e)) (λ q. inr (piece_has l (o + bytes u l) b y k q e)) (Memᴰ.append_cases (pieces u l o a) m)

  -- and each loan is a piece
  has_piece : (l o : ℕ) (t : Tree) (y : Piece) → Has u l o t y → Memᴰ y (pieces u l o t)
  has_piece l o free y h = absurd h
  has_piece l o (loan k) y h = Memᴰ.head (λ i. record { at = h.0 i; lev = h.1 i; who = h.2 i })
  has_piece zero o (split a b) y h = absurd h
  has_piece (suc l) o (split a b) y (inl h) = Memᴰ.append_left (pieces u l (o + bytes u l) b) (has_piece l o a y h)
  has_piece (suc l) o (split a b) y (inr h) = Memᴰ.append_right (pieces u l o a) (has_piece l (o + bytes u l) b y h)

  -- the halves of a node are no free twins
  halves : (l o r : ℕ) (a b : Tree) → Apart a b → o ≡ r * bytes u (suc l) → (x m q : ℕ) → x ≡ 2 * (q * bytes u m) → Free u l o a x m → Free u l (o + bytes u l) b (x + bytes u m) m → ⊥
  halves l o r a b h e x m q i f g =
      let j = free_in_lem u l o a x m f in
      let k = free_in_lem u l (o + bytes u l) b (x + bytes u m) m g in
      go (same? m l) (omega (arith, j.1, k.0)) j.2
    where
      go : (m ≡ l) ⊎ (m ≡ l → ⊥) → x + bytes u m ≡ o + bytes u l → m ≤ l → ⊥
      go (inl z) p n = both_free a b h (free_whole u l o x m a z f).0 (free_whole u l (o + bytes u l) (x + bytes u m) m b z g).0
      go (inr z) p n =
          let d = l - suc m in
          let v : up (suc d) m ≡ l = omega (arith, up_add d m) in
          let H = bytes u (up d m) in
          let k = r * 2 ^ d in
          let twice : bytes u l ≡ H + H = ap (bytes u) (sym v) ∙ bytes_suc u (up d m) in
          let whole : r * bytes u (suc l) ≡ r * H + r * H + (r * H + r * H) =
          ap (λ (y : ℕ). r * y) (bytes_suc u l) ∙ mul-add r (bytes u l) (bytes u l) ∙ ap (λ (y : ℕ). r * y + r * y) twice ∙ ap (λ (y : ℕ). y + y) (mul-add r H H) in
          let some_of : r * H ≡ k * bytes u m = ap (λ (y : ℕ). r * y) (bytes_up u d m) ∙ sym (mul_assoc r (2 ^ d) (bytes u m)) in
          let both : (k + k + 2 ^ d) * bytes u m ≡ k * bytes u m + k * bytes u m + 2 ^ d * bytes u m = add-mul (k + k) (2 ^ d) (bytes u m) ∙ ap (λ (y : ℕ). y + 2 ^ d * bytes u m) (add-mul k k (bytes u m)) in
          odd_even q (k + k + 2 ^ d) (bytes u m) (bytes_pos u m some) (omega (arith, both, whole, some_of, twice, bytes_up u d m))

  -- no two free nodes are the halves of one node
  pub twins_taken : (l o r : ℕ) (t : Tree) → Wf l t → o ≡ r * bytes u l → (x m q : ℕ) → x ≡ 2 * (q * bytes u m) → Free u l o t x m → Free u l o t (x + bytes u m) m → ⊥
  twins_taken l o r free w e x m q i f g = omega (arith, f.0, g.0, bytes_pos u m some)
  twins_taken l o r (loan k) w e x m q i f g = f
  twins_taken zero o r (split a b) w e x m q i f g = f
  twins_taken (suc l) o r (split a b) w e x m q i (inl f) (inl g) = twins_taken l o (2 * r) a w.1 (e ∙ ap (λ (y : ℕ). r * y) (bytes_suc u l) ∙ double r (bytes u l)) x m q i f g
  twins_taken (suc l) o r (split a b) w e x m q i (inr f) (inr g) = twins_taken l (o + bytes u l) (2 * r + 1) b w.2 (omega (arith, e, ap (λ (y : ℕ). r * y) (bytes_suc u l) ∙ double r (bytes u l), double_one r (bytes u l))) x m q i f g
  twins_taken (suc l) o r (split a b) w e x m q i (inl f) (inr g) = halves l o r a b w.0 e x m q i f g
  twins_taken (suc l) o r (split a b) w e x m q i (inr f) (inl g) =
      omega (arith, (free_in_lem u l (o + bytes u l) b x m f).0, (free_in_lem u l o a (x + bytes u m) m g).1, bytes_pos u m some)

-- ---- of a store

module _ (s : BuddySettings) (t : Tables) (fit : BuddyIn s) (sound : Sound s t) (c : ℕ) (held : held_in t c ≡ true) where
  -- the pieces of a held chunk fill it, each beginning where the one before it ends
  pub pieces_fill : Fills s.minimal 0 (pieces s.minimal (high_in s t c) 0 (sound.standing.trees c)) (chunk_size_in t c)
  pieces_fill =
      let h = high_in s t c in
      let T = sound.standing.trees c in
      let e : 0 + bytes s.minimal h ≡ chunk_size_in t c = omega (arith, (sound.standing.sized c held).0) in
      subst (λ (z : ℕ). Fills s.minimal 0 (pieces s.minimal h 0 T) z) e (fills s.minimal h 0 T (sound.standing.wf c held))

  -- a piece that is not free is a loan of the chunk, of that place and level
  pub piece_loan : (y : Piece) (k : ℕ) → Memᴰ y (pieces s.minimal (high_in s t c) 0 (sound.standing.trees c)) → y.who ≡ k + 1
      → (live_in t k ≡ true) × ((loan_in s t k).chunk ≡ c) × ((loan_in s t k).at ≡ y.at) × ((loan_in s t k).lev ≡ y.lev)
  piece_loan y k m e =
      let u = s.minimal in
      let h = high_in s t c in
      let T = sound.standing.trees c in
      let a = piece_has u (minimal_pos s fit) h 0 T y k m e in
      let r = rep_loan u (pairs_in s t) (loan_in s t) c h 0 nowhere (top_in s t c) T y k (sound.standing.rep c held) a e in
      (sound.standing.is_live c k y held a e, r.0, r.1, r.2)

  -- and each loan of the chunk is a piece of it
  pub loan_piece : (k : ℕ) → live_in t k ≡ true → (loan_in s t k).chunk ≡ c → Memᴰ (piece (loan_in s t k) k) (pieces s.minimal (high_in s t c) 0 (sound.standing.trees c))
  loan_piece k l e =
      let u = s.minimal in
      let y = piece (loan_in s t k) k in
      has_piece u (minimal_pos s fit) (high_in s t c) 0 (sound.standing.trees c) y
      (subst (λ (b : ℕ). Has u (high_in s t b) 0 (sound.standing.trees b) y) e (sound.standing.has k l).1)

  -- no two of its free pieces are twins: of one level, the one at an even multiple of their size, the other right after it
  pub no_twins_free : (x y : Piece) (q : ℕ) → Memᴰ x (pieces s.minimal (high_in s t c) 0 (sound.standing.trees c)) → Memᴰ y (pieces s.minimal (high_in s t c) 0 (sound.standing.trees c))
      → x.who ≡ 0 → y.who ≡ 0 → x.lev ≡ y.lev → x.at ≡ 2 * (q * bytes s.minimal x.lev) → y.at ≡ x.at + bytes s.minimal x.lev → ⊥
  no_twins_free x y q i j e f g k n =
      let u = s.minimal in
      let h = high_in s t c in
      let T = sound.standing.trees c in
      let pu = minimal_pos s fit in
      let a = piece_free u pu h 0 T x i e in
      let b : Free u h 0 T y.at x.lev = subst (λ (m : ℕ). Free u h 0 T y.at m) (sym g) (piece_free u pu h 0 T y j f) in
      twins_taken u pu h 0 0 T (sound.standing.wf c held) (sym (zero-mul (bytes u h))) x.at x.lev q k a (subst (λ (z : ℕ). Free u h 0 T z x.lev) n b)
