-- The abstract store that the tables hold: a sound store's is sound, and tables whose abstract store is sound have trees.
use mathlib.Core.Path.{◌≡◌, refl, sym}
use mathlib.Core.Bool.{true, false, cond}
use mathlib.Core.Logic.{◌⊎◌, inl, inr, ⊎_elim}
use mathlib.Core.List.{List}
use Prim.Native.Nat.{ℕ, ◌+◌, ◌^◌, ◌≤◌, ◌<◌}
use native.Mathlib.Nat.{mul-le-mul_left}
use native.Mathlib.Omega.{arith}
use Rattle.lists.proofs.Bools.{told}
use Rattle.counter.specs.Limits.{levels_most}
use Rattle.counter.specs.InTable.{BuddyIn}
use Rattle.counter.specs.declared.settings.BuddySettings.{BuddySettings}
use Rattle.slabs.specs.Slab.{nowhere}
use Rattle.store_rules.specs.Loans.{size_at}
use Rattle.buddy_trees.specs.Trees.{Tree, free, loan, split, Taken, Wf, Has, Piece, bytes}
use Rattle.buddy_rules.specs.Nodes.{Ent, is_free, Rep, Keep}
use Rattle.buddy_rules.specs.Stores.{Store, piece}
use Rattle.buddy_rules.specs.Stores as Stores
use Rattle.buddy_rules.specs.Returns.{entries}
use Rattle.buddy_rules.proofs.Frames.{frame}
use Rattle.buddy_rules.proofs.Sides.{not_taken}
use Rattle.buddy_trees.proofs.Canon.{free?}
use Rattle.buddy_rules.specs.Level.{level_words, Good, part, pair_in, level_start}
use Rattle.buddy_rules.proofs.Ops.{level_ops}
use Rattle.buddy_rules.proofs.Cells.{tagged_used}
use Rattle.buddy_rules.proofs.Rings.{used_below}
use Rattle.buddy_rules.proofs.Parts.{part_length, part_pair, part_good}
use Rattle.buddy_rules.specs.Tables.{Tables, Lengths, levels_in, chunk_size_in, level_from, chunks_from, pairs_in, loan_cell, loan_in, live_in, held_in, high_in, top_in, initial_levels}
use Rattle.buddy_rules.specs.Sound.{Sound, Trees}
use Rattle.buddy_rules.proofs.Walks.{minimal_pos}

abbrev pub store_of : (s : BuddySettings) (small : s.pairs ≤ 2 ^ 32) → Tables → Store s.minimal (level_ops s.pairs small)
store_of s small t =
    record {
      count = levels_in t;
      levels = λ (i : ℕ). part s.pairs i t.room;
      loans = loan_in s t;
      live = live_in t;
      high = high_in s t;
      top = top_in s t;
    }

-- the levels lie in the table, before its chunks
pub levels_in_lem : (s : BuddySettings) (i : ℕ) → i < levels_most → level_start s.pairs (i + 1) ≤ chunks_from s
levels_in_lem s i h = let k : i + 1 ≤ levels_most = omega arith in omega (arith, mul-le-mul_left (level_words s.pairs) k)

not_free : (x : Tree) → Taken x → x ≡ free → ⊥
not_free x h e = rw e at h

-- a chunk's tree, where it is held
abbrev pub tree_in : Tables → (ℕ → Tree) → ℕ → Tree
tree_in t T c = cond (held_in t c) (T c) free

module _ (s : BuddySettings) (small : s.pairs ≤ 2 ^ 32) (t : Tables) where
  abbrev level : ℕ → List ℕ
  level i = part s.pairs i t.room

  -- what a level says by itself it says in the table
  pair_alone : (i p : ℕ) → Good (level_from s i) s.pairs t.room → pairs_in s t i p ≡ pair_in 0 (level i) p
  pair_alone i p G = part_pair s.pairs i t.room p G.parted.limit

  level_good : (i : ℕ) → Lengths s t → i < levels_most → Good (level_from s i) s.pairs t.room → (level_ops s.pairs small).Good (level i)
  level_good i len h G = (part_length s.pairs i t.room (omega (arith, levels_in_lem s i h, len.room)), (part_good s.pairs i t.room).0 G)

  -- ---- the abstract store of a sound one

  module _ (fit : BuddyIn s) (len : Lengths s t) (S : Sound s t) where
    abbrev E : ℕ → ℕ → Ent
    E i p = pair_in 0 (level i) p

    abbrev T : ℕ → Tree
    T = tree_in t S.standing.trees

    alone : (i p : ℕ) → i < levels_in t → pairs_in s t i p ≡ E i p
    alone i p h = pair_alone i p (S.good i h)

    tall : (c : ℕ) → high_in s t c ≤ levels_in t
    tall c = ⊎_elim (λ h. (S.standing.sized c h).3) (λ h. rw h (omega arith)) (told (held_in t c))

    keep : (c o l : ℕ) → l ≤ levels_in t → Keep s.minimal (pairs_in s t) E c o l
    keep c o l h i p k = let e : E i p ≡ pairs_in s t i p = sym (alone i p (omega arith)) in ((λ x y. e), (λ x y. e))

    vacant : (c : ℕ) → high_in s t c ≡ 0 → T c ≡ free
    vacant c e = go (told (held_in t c))
      where
        go : (held_in t c ≡ true) ⊎ (held_in t c ≡ false) → T c ≡ free
        go (inl h) = absurd (omega (arith, (S.standing.sized c h).1))
        go (inr h) = rw h

    held : (c : ℕ) → T c ≡ free → (high_in s t c ≡ 0) × (top_in s t c ≡ 0)
    held c e = go (told (held_in t c))
      where
        go : (held_in t c ≡ true) ⊎ (held_in t c ≡ false) → (high_in s t c ≡ 0) × (top_in s t c ≡ 0)
        go (inl h) = absurd (not_free (S.standing.trees c) (S.standing.taken c h) (rw h at e))
        go (inr h) = rw h (refl, refl)

    wf : (c : ℕ) → Wf (high_in s t c) (T c)
    wf c = go (told (held_in t c))
      where
        go : (held_in t c ≡ true) ⊎ (held_in t c ≡ false) → Wf (high_in s t c) (T c)
        go (inl h) = let r = S.standing.wf c h in rw h (rw h at r)
        go (inr h) = rw h tt

    rep : (c : ℕ) → Rep s.minimal E (loan_in s t) c (high_in s t c) 0 nowhere (top_in s t c) (T c)
    rep c = go (told (held_in t c))
      where
        go : (held_in t c ≡ true) ⊎ (held_in t c ≡ false) → Rep s.minimal E (loan_in s t) c (high_in s t c) 0 nowhere (top_in s t c) (T c)
        go (inl h) =
            let e : T c ≡ S.standing.trees c = rw h in
            rw e (frame s.minimal (pairs_in s t) E (loan_in s t) c (high_in s t c) 0 nowhere (top_in s t c) (S.standing.trees c) (minimal_pos s fit) (keep c 0 (high_in s t c) (tall c)) (S.standing.rep c h))
        go (inr h) = rw h (refl, λ i p k. absurd (omega arith))

    pub sound_store : Stores.Sound s.minimal (level_ops s.pairs small) (store_of s small t) (λ (c : ℕ). cond (held_in t c) (S.standing.trees c) free)
    sound_store = record {
      good = λ i h. level_good i len (omega (arith, S.levels_most_lem)) (S.good i h);
      small = λ i p h k.
          let q : p < s.pairs = used_below 0 s.pairs (level i) ((part_good s.pairs i t.room).0 (S.good i h)) p (tagged_used 0 (level i) p k) in
          omega arith;
      tall = tall;
      held = held;
      vacant = vacant;
      wf = wf;
      rep = rep;
      owned = λ i p h k.
          let e = alone i p h in
          let r = S.standing.owned i p h (rw e k) in
          let c = (pairs_in s t i p).chunk in
          let z : (pairs_in s t i p).off < bytes s.minimal (high_in s t c) = omega (arith, r.2, (S.standing.sized c r.0).0) in
          (rw (← e) r.1, rw (← e) z);
      has = λ k h. let r = S.standing.has k h in rw r.0 (rw r.0 at r.1);
      is_live = is_live;
    }
      where
        is_live : (c k : ℕ) (y : Piece) → Has s.minimal (high_in s t c) 0 (T c) y → y.who ≡ k + 1 → live_in t k ≡ true
        is_live c k y h e = go (told (held_in t c))
          where
            go : (held_in t c ≡ true) ⊎ (held_in t c ≡ false) → live_in t k ≡ true
            go (inl z) = let q : T c ≡ S.standing.trees c = rw z in S.standing.is_live c k y z (rw q at h) e
            go (inr z) = absurd (rw z at h)

-- what the bytes of chunks and loans have to say of their levels
pub record Sizes (s : BuddySettings) (t : Tables) : Type 0 where
  pub chunks : (c : ℕ) → held_in t c ≡ true → (chunk_size_in t c ≡ bytes s.minimal (high_in s t c)) × (0 < high_in s t c) × (initial_levels s ≤ high_in s t c)
  pub loans : (k : ℕ) → live_in t k ≡ true → loan_cell t size_at k ≡ bytes s.minimal (loan_in s t k).lev

-- ---- tables whose abstract store is sound

module _ (s : BuddySettings) (small : s.pairs ≤ 2 ^ 32) (t : Tables) (T : ℕ → Tree) (fit : BuddyIn s) (len : Lengths s t)
    (A : Stores.Sound s.minimal (level_ops s.pairs small) (store_of s small t) T) (Z : Sizes s t) where
  good : (l : ℕ) → l < levels_in t → Good (level_from s l) s.pairs t.room
  good l h = (part_good s.pairs l t.room).1 (A.good l h).1

  same : (i p : ℕ) → i < levels_in t → pair_in 0 (part s.pairs i t.room) p ≡ pairs_in s t i p
  same i p h = sym (pair_alone s small t i p (good i h))

  -- a chunk with a level is held
  high_held : (c l : ℕ) → l < high_in s t c → held_in t c ≡ true
  high_held c l h = go (told (held_in t c))
    where
      go : (held_in t c ≡ true) ⊎ (held_in t c ≡ false) → held_in t c ≡ true
      go (inl e) = e
      go (inr e) = let k : l < 0 = rw e at h in absurd (omega arith)

  has_held : (c : ℕ) (y : Piece) → Has s.minimal (high_in s t c) 0 (T c) y → held_in t c ≡ true
  has_held c y h = go (told (held_in t c))
    where
      go : (held_in t c ≡ true) ⊎ (held_in t c ≡ false) → held_in t c ≡ true
      go (inl e) = e
      go (inr e) = let z : T c ≡ free = A.vacant c (rw e) in absurd (rw z at h)

  stand : Trees s t
  stand = record {
    sized = λ c h. let z = Z.chunks c h in (z.0, z.1, z.2, A.tall c);
    trees = T;
    taken = λ c h. ⊎_elim (λ e. absurd (omega (arith, (A.held c e).0, (Z.chunks c h).1))) (λ n. not_taken (T c) (taken c n)) (free? (T c));
    wf = λ c h. A.wf c;
    rep = λ c h.
        frame s.minimal (entries (level_ops s.pairs small) (store_of s small t).levels) (pairs_in s t) (loan_in s t) c (high_in s t c) 0 nowhere (top_in s t c) (T c) (minimal_pos s fit)
        (λ i p k. let e : pairs_in s t i p ≡ pair_in 0 (part s.pairs i t.room) p = sym (same i p (omega (arith, A.tall c))) in ((λ x y. e), (λ x y. e)))
        (A.rep c);
    owned = λ l p h k.
        let e = same l p h in
        let r = A.owned l p h (rw e k) in
        let x : l < high_in s t (pairs_in s t l p).chunk = rw e at r.0 in
        let y : (pairs_in s t l p).off < bytes s.minimal (high_in s t (pairs_in s t l p).chunk) = rw e at r.1 in
        let g = high_held (pairs_in s t l p).chunk l x in
        (g, x, rw (Z.chunks (pairs_in s t l p).chunk g).0 y);
    loans_sized = Z.loans;
    has = λ k h. let r = A.has k h in (has_held (loan_in s t k).chunk (piece (loan_in s t k) k) r, r);
    is_live = λ c k y h. A.is_live c k y;
  }
    where
      taken : (c : ℕ) → (T c ≡ free → ⊥) → is_free (T c) ≡ false
      taken c n = go (T c) n
        where
          go : (x : Tree) → (x ≡ free → ⊥) → is_free x ≡ false
          go free f = absurd (f refl)
          go (loan k) f = refl
          go (split a b) f = refl

  pub store_trees : levels_in t ≤ levels_most → Trees s t × ((l : ℕ) → l < levels_in t → Good (level_from s l) s.pairs t.room)
  store_trees h = (stand, good)
