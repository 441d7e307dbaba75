-- A test of each number below another, and what the walk down a chunk says where it passes.
use mathlib.Core.Path.{◌≡◌, refl, ap}
use mathlib.Core.Bool.{Bool, true, false, ◌&&◌, not}
use mathlib.Core.Logic.{⊎_elim}
use Prim.Native.Nat.{ℕ, zero, suc, ◌+◌, ◌≤◌, ◌<◌}
use native.Mathlib.Omega.{arith}
use lib.Dec.{eqb, leb, ltb}
use borrow.Author.Tests.{eqb-true, eqb-false, eq-eqb, ne_eqb, ltb-true, lt-ltb, leb-true, le-leb}
use Rattle.lists.proofs.Bools.{told, true_false, and_left, and_right, and_both, or_cases, or_left, or_right, same?, not_yes}
use Rattle.counter.specs.declared.settings.BuddySettings.{BuddySettings}
use Rattle.slabs.specs.Slab.{nowhere}
use Rattle.buddy_trees.specs.Trees.{bytes}
use Rattle.buddy_rules.specs.Tables.{Tables, levels_in, chunk_size_in, held_in, high_in, top_in, initial_levels}
use Rattle.buddy_rules.specs.Test.{every}
use Rattle.buddy_rules.proofs.Looks.{node_ok, chunk_ok}

pub every_yes : (f : ℕ → Bool) (n i : ℕ) → every f n ≡ true → i < n → f i ≡ true
every_yes f zero i e h = absurd (omega arith)
every_yes f (suc n) i e h = ⊎_elim (λ z. rw z (and_right (every f n) (f n) e)) (λ z. every_yes f n i (and_left (every f n) (f n) e) (omega arith)) (same? i n)

pub every_all : (f : ℕ → Bool) (n : ℕ) → ((i : ℕ) → i < n → f i ≡ true) → every f n ≡ true
every_all f zero g = refl
every_all f (suc n) g = and_both (every f n) (f n) (every_all f n (λ i h. g i (omega arith))) (g n (omega arith))

-- in turn: one that fails, and one more that holds
pub every_stop : (f : ℕ → Bool) (n i : ℕ) → i < n → f i ≡ false → every f n ≡ false
every_stop f n i h e = ⊎_elim (λ z. absurd (true_false (f i) (every_yes f n i z h) e)) (λ z. z) (told (every f n))

pub every_next : (f : ℕ → Bool) (i : ℕ) → every f i ≡ true → f i ≡ true → every f (i + 1) ≡ true
every_next f i e g = let h : i + 1 ≡ suc i = omega arith in rw h (and_both (every f i) (f i) e g)

-- the same of tests that are the same below n
pub every_same : (f g : ℕ → Bool) (n : ℕ) → ((i : ℕ) → i < n → f i ≡ g i) → every f n ≡ every g n
every_same f g zero h = refl
every_same f g (suc n) h = λ j. every_same f g n (λ i k. h i (omega arith)) j && h n (omega arith) j

module _ (s : BuddySettings) (t : Tables) where
  pub record ChunkIs (c : ℕ) : Type 0 where
    pub sized : chunk_size_in t c ≡ bytes s.minimal (high_in s t c)
    pub some : 0 < high_in s t c
    pub least : initial_levels s ≤ high_in s t c
    pub most : high_in s t c ≤ levels_in t
    pub taken : top_in s t c ≡ 0 → ⊥
    pub walked : node_ok s t (high_in s t c) c 0 nowhere (top_in s t c) ≡ true

  pub chunk_yes : (c : ℕ) → held_in t c ≡ true → chunk_ok s t c ≡ true → ChunkIs c
  unfolding chunk_ok
  chunk_yes c h e =
      let one = eqb (chunk_size_in t c) (bytes s.minimal (high_in s t c)) in
      let two = ltb 0 (high_in s t c) in
      let three = leb (initial_levels s) (high_in s t c) in
      let four = leb (high_in s t c) (levels_in t) in
      let five = not (eqb (top_in s t c) 0) in
      let e1 = ⊎_elim (λ z. absurd (true_false _ h (not_yes (held_in t c) z))) (λ z. z) (or_cases (not (held_in t c)) _ e) in
      let e2 = and_right one _ e1 in
      let e3 = and_right two _ e2 in
      let e4 = and_right three _ e3 in
      let e5 = and_right four _ e4 in
      record {
        sized = eqb-true _ _ (and_left one _ e1);
        some = ltb-true 0 (high_in s t c) (and_left two _ e2);
        least = leb-true (initial_levels s) (high_in s t c) (and_left three _ e3);
        most = leb-true (high_in s t c) (levels_in t) (and_left four _ e4);
        taken = eqb-false (top_in s t c) 0 (not_yes (eqb (top_in s t c) 0) (and_left five _ e5));
        walked = and_right five _ e5;
      }

  pub chunk_all : (c : ℕ) → (held_in t c ≡ true → ChunkIs c) → chunk_ok s t c ≡ true
  unfolding chunk_ok
  chunk_all c f = ⊎_elim (λ h. or_right (not (held_in t c)) _ (go (f h))) (λ h. or_left (not (held_in t c)) _ (ap not h)) (told (held_in t c))
    where
      go : ChunkIs c
          → (eqb (chunk_size_in t c) (bytes s.minimal (high_in s t c))
          && (ltb 0 (high_in s t c)
          && (leb (initial_levels s) (high_in s t c)
          && (leb (high_in s t c) (levels_in t) && (not (eqb (top_in s t c) 0) && node_ok s t (high_in s t c) c 0 nowhere (top_in s t c)))))) ≡ true
      go r =
          and_both _ _ (eq-eqb _ _ r.sized)
          (and_both _ _ (lt-ltb 0 (high_in s t c) r.some)
          (and_both _ _ (le-leb (initial_levels s) (high_in s t c) r.least)
          (and_both _ _ (le-leb (high_in s t c) (levels_in t) r.most)
          (and_both _ _ (ap not (ne_eqb (top_in s t c) 0 r.taken)) r.walked))))
