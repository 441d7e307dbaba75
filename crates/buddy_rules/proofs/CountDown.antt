-- The walk that counts down: where the walk passes, what is left is what was to be met less what the trees have; else nowhere.
use mathlib.Core.Path.{◌≡◌, refl, sym, ap, ◌∙◌}
use mathlib.Core.Bool.{Bool, true, false, cond, ◌&&◌, ◌||◌, not}
use mathlib.Core.Logic.{◌⊎◌, inl, inr}
use Prim.Native.Nat.{ℕ, zero, suc, ◌+◌, ◌-◌, ◌/◌, ◌%◌, ◌≤◌, ◌<◌}
use native.Mathlib.Omega.{arith}
use lib.Dec.{eqb, leb, ltb}
use borrow.Author.Tests.{eqb-true, eq-eqb, ne_eqb, le-leb, lt-leb, lt-ltb, le-ltb}
use Rattle.lists.proofs.Bools.{lt_or_le, same_test}
use Rattle.counter.specs.declared.settings.BuddySettings.{BuddySettings}
use Rattle.slabs.specs.Slab.{nowhere}
use Rattle.buddy_trees.specs.Trees.{Tree, free, loan, split, bytes}
use Rattle.buddy_rules.specs.Nodes.{L, R, node_of, pair_said}
use Rattle.buddy_rules.specs.Tables.{Tables, levels_in, chunk_places_in, chunk_size_in, pairs_in, held_in, high_in, top_in, initial_levels}
use Rattle.buddy_rules.specs.Test.{every, leaf_ok, entry_ok, and_then, left_node, left_chunk, left_chunks, pairs_in_use, live_count, counted_ok}
use Rattle.buddy_rules.proofs.Looks.{node_ok, chunk_ok}
use Rattle.buddy_rules.proofs.Walks.{tree_of}

-- ---- counting down

-- m met of k: what is left, or nowhere where m is more
unfoldable pub less : ℕ → ℕ → ℕ
less k m = cond (leb m k) (k - m) nowhere

less_yes : (k m : ℕ) → m ≤ k → less k m ≡ k - m
unfolding less
less_yes k m h = rw (le-leb m k h)

less_no : (k m : ℕ) → k < m → less k m ≡ nowhere
unfolding less
less_no k m h = rw (lt-leb m k h)

less_none : (k : ℕ) → less k 0 ≡ k
less_none k = less_yes k 0 (omega arith) ∙ omega arith

less_less : (k x y : ℕ) → x ≤ k → less (k - x) y ≡ less k (x + y)
less_less k x y h = go (lt_or_le (k - x) y)
  where
    go : (k - x < y) ⊎ (y ≤ k - x) → less (k - x) y ≡ less k (x + y)
    go (inl z) = less_no (k - x) y z ∙ sym (less_no k (x + y) (omega arith))
    go (inr z) = less_yes (k - x) y z ∙ (let e : k - x - y ≡ k - (x + y) = omega arith in e) ∙ sym (less_yes k (x + y) (omega arith))

then_torn : (f : ℕ → ℕ) → and_then nowhere f ≡ nowhere
unfolding and_then
then_torn f = refl

then_some : (f : ℕ → ℕ) (m : ℕ) → m < nowhere → and_then m f ≡ f m
unfolding and_then
then_some f m h = rw (ne_eqb m nowhere (λ e. omega arith))

same_ends : (b : Bool) → cond b nowhere nowhere ≡ nowhere
same_ends true = refl
same_ends false = refl

-- what a walk that meets m, and passes where b says so, leaves of any count
abbrev pub Counts : (ℕ → ℕ) → Bool → ℕ → Type 0
Counts f b m = (k : ℕ) → k < nowhere → f k ≡ cond b (less k m) nowhere

-- nothing is left exactly where the walk passes and meets all
ends : (k m : ℕ) (b : Bool) → eqb (cond b (less k m) nowhere) 0 ≡ (b && eqb m k)
ends k m false = ne_eqb nowhere 0 (λ e. omega arith)
ends k m true = go (lt_or_le k m)
  where
    go : (k < m) ⊎ (m ≤ k) → eqb (less k m) 0 ≡ eqb m k
    go (inl z) = rw (less_no k m z, ne_eqb m k (λ e. omega arith)) (ne_eqb nowhere 0 (λ e. omega arith))
    go (inr z) =
        rw (less_yes k m z)
        (same_test (eqb (k - m) 0) (eqb m k)
        (λ e. let i : k - m ≡ 0 = eqb-true (k - m) 0 e in eq-eqb m k (omega arith))
        (λ e. let i : m ≡ k = eqb-true m k e in eq-eqb (k - m) 0 (omega arith)))

-- one walk after the other
then_counts : (g : ℕ → ℕ) (b : Bool) (y : ℕ) → Counts g b y → (a : Bool) (x k : ℕ) → k < nowhere → and_then (cond a (less k x) nowhere) g ≡ cond (a && b) (less k (x + y)) nowhere
then_counts g b y cg false x k h = then_torn g
then_counts g b y cg true x k h = go (lt_or_le k x)
  where
    go : (k < x) ⊎ (x ≤ k) → and_then (less k x) g ≡ cond b (less k (x + y)) nowhere
    go (inl z) =
        ap (λ (i : ℕ). and_then i g) (less_no k x z) ∙ then_torn g ∙ sym (same_ends b) ∙ sym (ap (λ (i : ℕ). cond b i nowhere) (less_no k (x + y) (omega arith)))
    go (inr z) =
        ap (λ (i : ℕ). and_then i g) (less_yes k x z) ∙ then_some g (k - x) (omega arith) ∙ cg (k - x) (omega arith) ∙ ap (λ (i : ℕ). cond b i nowhere) (less_less k x y z)

both_counts : (f g : ℕ → ℕ) (a b : Bool) (x y : ℕ) → Counts f a x → Counts g b y → Counts (λ k. and_then (f k) g) (a && b) (x + y)
both_counts f g a b x y cf cg k h = ap (λ (i : ℕ). and_then i g) (cf k h) ∙ then_counts g b y cg a x k h

-- one is met, and then what f meets
one_counts : (f : ℕ → ℕ) (b d : Bool) (m : ℕ) → Counts f d m → Counts (λ k. cond (ltb 0 k && b) (f (k - 1)) nowhere) (b && d) (1 + m)
one_counts f b d m cf k h = go (lt_or_le 0 k) b
  where
    go : (0 < k) ⊎ (k ≤ 0) → (b : Bool) → cond (ltb 0 k && b) (f (k - 1)) nowhere ≡ cond (b && d) (less k (1 + m)) nowhere
    go (inl z) true = rw (lt-ltb 0 k z) (cf (k - 1) (omega arith) ∙ ap (λ (i : ℕ). cond d i nowhere) (less_less k 1 m (omega arith)))
    go (inl z) false = rw (lt-ltb 0 k z)
    go (inr z) b = rw (le-ltb 0 k z, less_no k (1 + m) (omega arith)) (sym (same_ends (b && d)))

-- ---- what a tree has to meet

-- how many pairs and loans
abbrev pub met : Tree → ℕ
met free = 0
met (loan k) = 1
met (split a b) = 1 + (met a + met b)

one_loan : (b : Bool) → Counts (λ k. cond (ltb 0 k && b) (k - 1) nowhere) b 1
one_loan b k h = one_counts (λ (i : ℕ). i) b true 0 (λ i z. sym (less_none i)) k h ∙ and_true b
  where
    and_true : (b : Bool) → cond (b && true) (less k (1 + 0)) nowhere ≡ cond b (less k 1) nowhere
    and_true true = refl
    and_true false = refl

-- a node of level 0, and one above: its word may be free's (d), or a loan's (e)
low_counts : (leaf : Bool) (q k : ℕ) → k < nowhere → (d e : Bool)
    → cond d k (cond e (cond (ltb 0 k && leaf) (k - 1) nowhere) nowhere) ≡ cond (cond d true (cond e leaf false)) (less k (met (cond d free (loan q)))) nowhere
low_counts leaf q k h true e = sym (less_none k)
low_counts leaf q k h false true = one_loan leaf k h
low_counts leaf q k h false false = refl

high_counts : (leaf entry a b : Bool) (f g : ℕ → ℕ) (x y : Tree) (q : ℕ) → Counts f a (met x) → Counts g b (met y) → (k : ℕ) → k < nowhere → (d e : Bool)
    → cond d k (cond e (cond (ltb 0 k && leaf) (k - 1) nowhere) (cond (ltb 0 k && entry) (and_then (f (k - 1)) g) nowhere))
    ≡ cond (cond d true (cond e leaf (entry && (a && b)))) (less k (met (cond d free (cond e (loan q) (split x y))))) nowhere
high_counts leaf entry a b f g x y q cf cg k h true e = sym (less_none k)
high_counts leaf entry a b f g x y q cf cg k h false true = one_loan leaf k h
high_counts leaf entry a b f g x y q cf cg k h false false =
    one_counts (λ (i : ℕ). and_then (f i) g) entry (a && b) (met x + met y) (both_counts f g a b (met x) (met y) cf cg) k h

module _ (s : BuddySettings) (t : Tables) where
  abbrev tree_at : ℕ → ℕ → Tree
  tree_at = tree_of (pairs_in s t)

  pub node_counts : (l c o n w : ℕ) → Counts (left_node s t l c o n w) (node_ok s t l c o n w) (met (tree_at l w))
  unfolding left_node node_ok tree_of
  node_counts zero c o n w k h = low_counts (leaf_ok s t (w / 2) c zero o n) (w / 2) k h (eqb w 0) (eqb (w % 2) 1)
  node_counts (suc l) c o n w k h =
      let e = pairs_in s t l (pair_said w) in
      let m = o + bytes s.minimal l in
      high_counts
      (leaf_ok s t (w / 2) c (suc l) o n)
      (entry_ok s t e c o n)
      (node_ok s t l c o (node_of (pair_said w) L) e.left)
      (node_ok s t l c m (node_of (pair_said w) R) e.right)
      (left_node s t l c o (node_of (pair_said w) L) e.left)
      (left_node s t l c m (node_of (pair_said w) R) e.right)
      (tree_at l e.left)
      (tree_at l e.right)
      (w / 2)
      (node_counts l c o (node_of (pair_said w) L) e.left)
      (node_counts l c m (node_of (pair_said w) R) e.right)
      k
      h
      (eqb w 0)
      (eqb (w % 2) 1)

  -- ---- chunks

  -- the tree of the chunk at place c, and how many pairs and loans it has to meet
  abbrev pub chunk_tree : ℕ → Tree
  chunk_tree c = tree_at (high_in s t c) (top_in s t c)

  abbrev pub met_in : ℕ → ℕ
  met_in c = cond (held_in t c) (met (chunk_tree c)) 0

  -- and those at the first n places
  unfoldable pub mets_in : ℕ → ℕ
  mets_in zero = 0
  mets_in (suc n) = mets_in n + met_in n

  pub chunk_counts : (c : ℕ) → Counts (left_chunk s t c) (chunk_ok s t c) (met_in c)
  unfolding left_chunk chunk_ok
  chunk_counts c k h =
      go (held_in t c) (eqb (chunk_size_in t c) (bytes s.minimal (high_in s t c))) (ltb 0 (high_in s t c)) (leb (initial_levels s) (high_in s t c)) (leb (high_in s t c) (levels_in t))
      (not (eqb (top_in s t c) 0)) (node_ok s t (high_in s t c) c 0 nowhere (top_in s t c)) (met (chunk_tree c)) (left_node s t (high_in s t c) c 0 nowhere (top_in s t c) k)
      (node_counts (high_in s t c) c 0 nowhere (top_in s t c) k h)
    where
      go : (d b1 b2 b3 b4 b5 ok : Bool) (m v : ℕ) → v ≡ cond ok (less k m) nowhere
          → cond d (cond (b1 && (b2 && (b3 && (b4 && b5)))) v nowhere) k ≡ cond (not d || (b1 && (b2 && (b3 && (b4 && (b5 && ok)))))) (less k (cond d m 0)) nowhere
      go false b1 b2 b3 b4 b5 ok m v e = sym (less_none k)
      go true false b2 b3 b4 b5 ok m v e = refl
      go true true false b3 b4 b5 ok m v e = refl
      go true true true false b4 b5 ok m v e = refl
      go true true true true false b5 ok m v e = refl
      go true true true true true false ok m v e = refl
      go true true true true true true ok m v e = e

  pub chunks_count : (n : ℕ) → Counts (left_chunks s t n) (every (chunk_ok s t) n) (mets_in n)
  unfolding left_chunks mets_in
  chunks_count zero k h = sym (less_none k)
  chunks_count (suc n) k h = both_counts (left_chunks s t n) (left_chunk s t n) (every (chunk_ok s t) n) (chunk_ok s t n) (mets_in n) (met_in n) (chunks_count n) (chunk_counts n) k h

  -- the count ends at 0 exactly where every chunk's walk passes and as much is met as was to be
  pub counted_parts : pairs_in_use s t (levels_in t) + live_count t < nowhere
      → counted_ok s t ≡ (every (chunk_ok s t) (chunk_places_in t) && eqb (mets_in (chunk_places_in t)) (pairs_in_use s t (levels_in t) + live_count t))
  unfolding counted_ok
  counted_parts h =
      ap (λ (v : ℕ). eqb v 0) (chunks_count (chunk_places_in t) (pairs_in_use s t (levels_in t) + live_count t) h)
      ∙ ends (pairs_in_use s t (levels_in t) + live_count t) (mets_in (chunk_places_in t)) (every (chunk_ok s t) (chunk_places_in t))
