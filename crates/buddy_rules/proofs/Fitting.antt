-- Where a sound store has room: a level has a ready side exactly where some chunk has a fitting free place, and what is lent
-- lies in a held chunk, at a multiple of its size, and meets no loan.
use mathlib.Core.Path.{◌≡◌, refl, sym, ap, ◌∙◌, subst}
use mathlib.Core.Bool.{true}
use mathlib.Core.Logic.{◌⊎◌, inl, inr, ⊎_elim}
use Prim.Native.Nat.{ℕ, ◌+◌, ◌*◌, ◌-◌, ◌^◌, ◌≤◌, ◌<◌}
use native.Mathlib.Nat.{zero-mul, mul_assoc}
use native.Mathlib.Omega.{arith}
use lib.Pow.{pow_pos}
use Rattle.lists.proofs.Bools.{told}
use Rattle.slabs.specs.Slab.{nowhere}
use Rattle.buddy_trees.specs.Trees.{Tree, Taken, Has, up, bytes, Free, Quiet}
pub use Rattle.buddy_trees.proofs.Bytes.{up_add}
use Rattle.buddy_trees.proofs.Bytes.{bytes_up, bytes_end}
use Rattle.buddy_trees.proofs.Fills.{free_in_lem, free_quiet, free_aligned}
use Rattle.buddy_rules.specs.Nodes.{is_free}
use Rattle.buddy_rules.specs.Levels.{Ops}
use Rattle.buddy_rules.specs.Returns.{entries}
use Rattle.buddy_rules.specs.Stores.{piece, Store, Sound, head_ent, cut_loan}
use Rattle.buddy_rules.proofs.Frames.{rep_free}
use Rattle.buddy_rules.proofs.Sides.{not_taken}
use Rattle.buddy_rules.proofs.Readies.{ready_free}
use Rattle.buddy_rules.proofs.Fits.{some_quiet, quiet_some}

-- a node is no longer than one above it
no_longer : (u d lev : ℕ) → bytes u lev ≤ bytes u (up d lev)
no_longer u d lev = omega (arith, bytes_end u d lev 0 (pow_pos d))

module _ (u : ℕ) (O : Ops) (some : 0 < u) where
  -- a level with a ready side has a fitting place
  pub some_fits : (s : Store u O) (T : ℕ → Tree) → Sound u O s T → (i : ℕ) → i < s.count → O.Some (s.levels i) → (c q : ℕ) × (i < s.high c) × Quiet u (s.high c) 0 (T c) (q * bytes u i) i
  some_fits s T S i h sm =
      let c = (head_ent u O s i).chunk in
      let rd = O.head_ready (s.levels i) (S.good i h) sm in
      let ow = S.owned i (O.head (s.levels i)) h (omega arith) in
      let q = some_quiet u O some s.levels s.loans c (s.high c) nowhere (s.top c) i (s.high c - i) (T c) (omega (arith, up_add (s.high c - i) i, ow.0)) (S.good i h) sm (S.wf c) (S.rep c) ow.0 (refl, omega arith, omega (arith, ow.1)) in
      (c, q.0, ow.0, q.1.2)

  -- a held chunk's tree is not free
  held_taken : (s : Store u O) (T : ℕ → Tree) → Sound u O s T → (c : ℕ) → 0 < s.high c → Taken (T c)
  held_taken s T S c h = ⊎_elim
      (λ e.
      let f = rep_free u (entries O s.levels) s.loans c (s.high c) 0 nowhere (s.top c) (T c) (S.rep c) e in
      absurd (omega (arith, (S.held c f.0).0)))
      (λ e. not_taken (T c) e)
      (told (is_free (T c)))

  -- and a fitting place shows at a level
  pub fits_some : (s : Store u O) (T : ℕ → Tree) → Sound u O s T → (c lev d q : ℕ) → s.high c ≡ up d lev → 0 < s.high c → q < 2 ^ d → Quiet u (s.high c) 0 (T c) (q * bytes u lev) lev → (i : ℕ) × (lev ≤ i) × (i < s.high c) × O.Some (s.levels i)
  fits_some s T S c lev d q e h hq f =
      let r = quiet_some u O some s.levels s.loans c (s.high c) nowhere (s.top c) lev d q (T c) e (λ i z. S.good i (omega (arith, S.tall c))) (held_taken s T S c h) (S.wf c) (S.rep c) hq f in
      (r.0, r.1.0, r.1.1, r.1.2)

  -- ---- the block that is lent out of the head's ready side

  module _ (s : Store u O) (T : ℕ → Tree) (S : Sound u O s T) (lev d : ℕ) (le : up d lev < s.count) (sm : O.Some (s.levels (up d lev))) where
    abbrev c : ℕ
    c = (cut_loan u O s lev d).chunk

    abbrev x : ℕ
    x = (cut_loan u O s lev d).at

    head_owned : (up d lev < s.high c) × ((head_ent u O s (up d lev)).off < bytes u (s.high c))
    head_owned = let rd = O.head_ready (s.levels (up d lev)) (S.good (up d lev) le) sm in S.owned (up d lev) (O.head (s.levels (up d lev))) le (omega arith)

    -- it begins where a free node does
    head_free : Free u (s.high c) 0 (T c) x (up d lev)
    head_free =
        ready_free u (entries O s.levels) s.loans c (s.high c) 0 nowhere (s.top c) (up d lev) (O.head (s.levels (up d lev))) (T c) (S.wf c) (S.rep c) head_owned.0
        (O.head_ready (s.levels (up d lev)) (S.good (up d lev) le) sm) (refl, omega arith, omega (arith, head_owned.1))

  -- it lies in a chunk that is held
  pub lent_held : (s : Store u O) (T : ℕ → Tree) → Sound u O s T → (lev d : ℕ) → up d lev < s.count → O.Some (s.levels (up d lev)) → up d lev < s.high (cut_loan u O s lev d).chunk
  lent_held s T S lev d le sm = (head_owned s T S lev d le sm).0

  pub lent_inside : (s : Store u O) (T : ℕ → Tree) → Sound u O s T → (lev d : ℕ) → up d lev < s.count → O.Some (s.levels (up d lev)) → (cut_loan u O s lev d).at + bytes u lev ≤ bytes u (s.high (cut_loan u O s lev d).chunk)
  lent_inside s T S lev d le sm =
      let c = (cut_loan u O s lev d).chunk in
      omega (arith, (free_in_lem u (s.high c) 0 (T c) (cut_loan u O s lev d).at (up d lev) (head_free s T S lev d le sm)).1, no_longer u d lev)

  -- at a multiple of its size
  pub lent_aligned : (s : Store u O) (T : ℕ → Tree) → Sound u O s T → (lev d : ℕ) → up d lev < s.count → O.Some (s.levels (up d lev)) → (r : ℕ) × ((cut_loan u O s lev d).at ≡ r * bytes u lev)
  lent_aligned s T S lev d le sm =
      let c = (cut_loan u O s lev d).chunk in
      let a = free_aligned u (s.high c) 0 (T c) (cut_loan u O s lev d).at (up d lev) 0 (sym (zero-mul (bytes u (s.high c)))) (head_free s T S lev d le sm) in
      (a.0 * 2 ^ d, a.1 ∙ ap (λ (n : ℕ). a.0 * n) (bytes_up u d lev) ∙ sym (mul_assoc a.0 (2 ^ d) (bytes u lev)))

  -- and no loan meets it
  pub lent_apart : (s : Store u O) (T : ℕ → Tree) → Sound u O s T → (lev d : ℕ) → up d lev < s.count → O.Some (s.levels (up d lev)) → (j : ℕ) → s.live j ≡ true → (s.loans j).chunk ≡ (cut_loan u O s lev d).chunk
      → ((s.loans j).at + bytes u (s.loans j).lev ≤ (cut_loan u O s lev d).at) ⊎ ((cut_loan u O s lev d).at + bytes u lev ≤ (s.loans j).at)
  lent_apart s T S lev d le sm j lv e =
      let c = (cut_loan u O s lev d).chunk in
      let h : Has u (s.high c) 0 (T c) (piece (s.loans j) j) = subst (λ (b : ℕ). Has u (s.high b) 0 (T b) (piece (s.loans j) j)) e (S.has j lv) in
      ⊎_elim (λ z. inl z) (λ z. inr (omega (arith, no_longer u d lev))) (free_quiet u (s.high c) 0 (T c) (cut_loan u O s lev d).at (up d lev) (head_free s T S lev d le sm) (piece (s.loans j) j) h)
