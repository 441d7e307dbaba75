-- The free pieces that a buddy store's user sees are the ready sides which the words of its tree tell, each of them once.
use mathlib.Core.Path.{◌≡◌, refl, sym, ap, ap₂, subst, ◌∙◌}
use mathlib.Core.Bool.{Bool, true, false}
use mathlib.Core.Logic.{◌⊎◌, inl, inr, ⊎_elim, ◌↔◌}
use mathlib.Core.List.Memᴰ
use mathlib.Core.List.{List, [], ◌∷◌, ◌++◌, Memᴰ}
use Prim.Native.Nat.{ℕ, zero, suc, ◌+◌, ◌≤◌, ◌<◌}
use native.Mathlib.Omega.{arith}
use lib.Dec.{eqb}
use borrow.Author.Tests.{eqb-true, eq-eqb, ne_eqb}
use Rattle.lists.specs.Members.{Mem}
use Rattle.lists.proofs.Bools.{same?, true_false}
use Rattle.counter.specs.InTable.{BuddyIn}
use Rattle.counter.specs.declared.settings.BuddySettings.{BuddySettings}
use Rattle.slabs.specs.Slab.{nowhere}
use Rattle.store_rules.specs.Views.{region}
use Rattle.store_rules.specs.declared.Chunk.{Chunk}
use Rattle.store_rules.specs.declared.Loan.{Loan}
use Rattle.store_rules.specs.declared.Region.{Region}
use Rattle.buddy_trees.specs.Trees.{Tree, free, loan, split, Taken, Apart, Wf, Free, bytes}
use Rattle.buddy_trees.proofs.Bytes.{bytes_pos, bytes_lower}
use Rattle.buddy_trees.proofs.Fills.{free_in_lem}
use Rattle.buddy_trees.specs.Chunks.{free_of, high_of, tree_in, free_in}
use Rattle.buddy_trees.proofs.Filling.{free_for}
use Rattle.buddy_trees.proofs.Onces.{Once}
use Rattle.buddy_trees.proofs.Serving.{region_free, free_region, free_where, where_free}
use Rattle.buddy_rules.specs.Nodes.{Ent, Side, L, R, node_of, word, pair_said, is_free, tag_of, base, Inside, Rep}
use Rattle.buddy_rules.specs.Nodes as Nodes
use Rattle.buddy_rules.specs.Levels.{side_of, base_of}
use Rattle.buddy_rules.proofs.Frames.{inside_cases, rep_taken}
use Rattle.buddy_rules.proofs.Readies.{Ready, ready_free, free_whole, free_ready}
use Rattle.buddy_rules.proofs.Sides.{taken_not}
use Rattle.buddy_rules.proofs.Cells.{pair_used, tagged_used}
use Rattle.buddy_rules.specs.Tables.{Tables, levels_in, level_from, pairs_in, loan_in, held_in, high_in, top_in}
use Rattle.buddy_rules.specs.Sound.{Sound}
use Rattle.buddy_rules.specs.Views.{loans_in, chunks_in, view_of, ready_stretch, ReadySide, FreeNode}
use Rattle.buddy_rules.proofs.Viewed.{chunk_at, held_seen, seen_held}
use Rattle.buddy_rules.proofs.Named.{named, serial_at_place, high_seen, tree_seen, standing}
use Rattle.buddy_rules.proofs.Onces.{chunks_once}
use Rattle.buddy_rules.proofs.Walks.{minimal_pos}

-- two lists that share nothing, each with no element twice
pub once_both : {A : Type 0} (xs ys : List A) → Once xs → Once ys → ((a : A) → Memᴰ a xs → Memᴰ a ys → ⊥) → Once (xs ++ ys)
once_both [] ys o p f = p
once_both (x ∷ xs) ys o p f = (
  (λ m. ⊎_elim o.0 (λ k. f x (Memᴰ.head refl) k) (Memᴰ.append_cases xs m)),
  once_both xs ys o.1 p (λ a m n. f a (Memᴰ.tail m) n),
)

-- ---- a tree

module _ (u : ℕ) where
  -- a node is free whatever the loans are called
  pub named_free : (f : ℕ → ℕ) (l o : ℕ) (t : Tree) (x m : ℕ) → Free u l o (named f t) x m ↔ Free u l o t x m
  named_free f l o free x m = ((λ h. h), (λ h. h))
  named_free f l o (loan k) x m = ((λ h. h), (λ h. h))
  named_free f zero o (split a b) x m = ((λ h. h), (λ h. h))
  named_free f (suc l) o (split a b) x m = (
    ⊎_elim (λ h. inl ((named_free f l o a x m).0 h)) (λ h. inr ((named_free f l (o + bytes u l) b x m).0 h)),
    ⊎_elim (λ h. inl ((named_free f l o a x m).1 h)) (λ h. inr ((named_free f l (o + bytes u l) b x m).1 h)),
  )

  -- a free piece is its chunk's
  pub region_chunk_lem : (c l o : ℕ) (t : Tree) (r : Region) → Memᴰ r (free_of u c l o t) → r.chunk ≡ c
  unfolding free_of
  region_chunk_lem c l o free r m = ap (λ (k : Region). k.chunk) (Memᴰ.eq_of_singleton m)
  region_chunk_lem c l o (loan k) r m = absurd (Memᴰ.not-nil m)
  region_chunk_lem c zero o (split a b) r m = absurd (Memᴰ.not-nil m)
  region_chunk_lem c (suc l) o (split a b) r m =
      ⊎_elim (region_chunk_lem c l o a r) (region_chunk_lem c l (o + bytes u l) b r) (Memᴰ.append_cases (free_of u c l o a) m)

  module _ (pos : 0 < u) where
    -- a tree's free pieces are each there once
    pub tree_once : (c l o : ℕ) (t : Tree) → Once (free_of u c l o t)
    unfolding free_of
    tree_once c l o free = (Memᴰ.not-nil, tt)
    tree_once c l o (loan k) = tt
    tree_once c zero o (split a b) = tt
    tree_once c (suc l) o (split a b) = once_both (free_of u c l o a) (free_of u c l (o + bytes u l) b) (tree_once c l o a) (tree_once c l (o + bytes u l) b) apart
      where
        apart : (r : Region) → Memᴰ r (free_of u c l o a) → Memᴰ r (free_of u c l (o + bytes u l) b) → ⊥
        apart r m n =
            let v = region_free u c l o a r m in
            let w = region_free u c l (o + bytes u l) b r n in
            let i = free_in_lem u l o a r.start v.0 v.1 in
            let j = free_in_lem u l (o + bytes u l) b r.start w.0 w.1 in
            omega (arith, i.1, j.0, bytes_pos u v.0 pos)

    -- and so are those of chunks with numbers of their own
    pub chunks_free_once : (ls : List Loan) (cs : List Chunk) → Once cs → ((c d : Chunk) → Memᴰ c cs → Memᴰ d cs → c.number ≡ d.number → c ≡ d) → Once (free_in u ls cs)
    unfolding free_in
    chunks_free_once ls [] o d = tt
    chunks_free_once ls (c ∷ cs) o d =
        once_both (free_for u ls c) (free_in u ls cs) (tree_once c.number (high_of u c) 0 (tree_in u ls c)) (chunks_free_once ls cs o.1 (λ x y m n. d x y (Memᴰ.tail m) (Memᴰ.tail n))) apart
      where
        apart : (r : Region) → Memᴰ r (free_for u ls c) → Memᴰ r (free_in u ls cs) → ⊥
        apart r m n =
            let w = free_where u ls cs r n in
            let e = region_chunk_lem c.number (high_of u c) 0 (tree_in u ls c) r m in
            let f = region_chunk_lem w.0.number (high_of u w.0) 0 (tree_in u ls w.0) r w.2 in
            let q = d c w.0 (Memᴰ.head refl) (Memᴰ.tail w.1) (sym e ∙ f) in
            o.0 (subst (λ (k : Chunk). Memᴰ k cs) (sym q) w.1)

    -- two ready pairs of a level whose ready sides begin at one place are one
    pub ready_same : (E : ℕ → ℕ → Ent) (K : ℕ → Nodes.Loan) (c l o n w i p q : ℕ) (t : Tree) → Wf l t → Rep u E K c l o n w t → i < l
        → 1 < (E i p).tag → 1 < (E i q).tag → Inside u (E i p) c o l → Inside u (E i q) c o l → base_of u (E i p) i ≡ base_of u (E i q) i → p ≡ q
    ready_same E K c l o n w i p q free v r h x y a b e = absurd (r.1 i p h (omega arith) a)
    ready_same E K c l o n w i p q (loan k) v r h x y a b e = absurd (r.2 i p h (omega arith) a)
    ready_same E K c zero o n w i p q (split f g) v r h x y a b e = absurd r
    ready_same E K c (suc l) o n w i p q (split f g) v r h x y a b e =
        go (same? i l)
        (λ k j z. ready_same E K c l o (node_of (pair_said w) L) (E l (pair_said w)).left i p q f v.1 r.this k x y j z e)
        (λ k j z. ready_same E K c l (o + bytes u l) (node_of (pair_said w) R) (E l (pair_said w)).right i p q g v.2 r.twin k x y j z e)
      where
        left : (z : ℕ) → i < l → 1 < (E i z).tag → Inside u (E i z) c o l → base_of u (E i z) i < o + bytes u l
        left z k t j =
            let m = free_in_lem u l o f (base_of u (E i z) i) i (ready_free u E K c l o (node_of (pair_said w) L) (E l (pair_said w)).left i z f v.1 r.this k t j) in
            omega (arith, m.1, bytes_pos u i pos)

        right : (z : ℕ) → i < l → 1 < (E i z).tag → Inside u (E i z) c (o + bytes u l) l → o + bytes u l ≤ base_of u (E i z) i
        right z k t j = (free_in_lem u l (o + bytes u l) g (base_of u (E i z) i) i (ready_free u E K c l (o + bytes u l) (node_of (pair_said w) R) (E l (pair_said w)).right i z g v.2 r.twin k t j)).0

        go : (i ≡ l) ⊎ (i ≡ l → ⊥) → (i < l → Inside u (E i p) c o l → Inside u (E i q) c o l → p ≡ q)
            → (i < l → Inside u (E i p) c (o + bytes u l) l → Inside u (E i q) c (o + bytes u l) l → p ≡ q) → p ≡ q
        go (inl z) this twin =
            r.only p (omega (arith, ap (λ (k : ℕ). (E k p).tag) z)) (rw z at a) ∙ sym (r.only q (omega (arith, ap (λ (k : ℕ). (E k q).tag) z)) (rw z at b))
        go (inr z) this twin =
            let k : i < l = omega arith in
            ⊎_elim
            (λ j. ⊎_elim (λ m. this k j m) (λ m. absurd (omega (arith, e, left p k x j, right q k y m))) (inside_cases u L (E i q) c o l b))
            (λ j. ⊎_elim (λ m. absurd (omega (arith, e, left q k y m, right p k x j))) (λ m. twin k j m) (inside_cases u L (E i q) c o l b))
            (inside_cases u L (E i p) c o l a)

-- ---- a pair's tag and the words of its two sides

-- its tag is that of its words, and they are not both 0
abbrev pub Sided : Ent → Type 0
Sided e = (e.tag ≡ tag_of (eqb e.left 0) (eqb e.right 0)) × (e.left ≡ 0 → e.right ≡ 0 → ⊥)

not_both : (a b : Tree) → Apart a b → is_free a ≡ true → is_free b ≡ true → ⊥
not_both free free h x y = h
not_both free (loan k) h x y = true_false _ y refl
not_both free (split c d) h x y = true_false _ y refl
not_both (loan k) b h x y = true_false _ x refl
not_both (split c d) b h x y = true_false _ x refl

module _ (u : ℕ) (E : ℕ → ℕ → Ent) (K : ℕ → Nodes.Loan) where
  -- a node's word is 0 exactly where it is free
  word_free : (c l o n w : ℕ) (t : Tree) → Rep u E K c l o n w t → is_free t ≡ eqb w 0
  word_free c l o n w free r = sym (eq-eqb w 0 r.0)
  word_free c l o n w (loan k) r = sym (ne_eqb w 0 (λ e. omega (arith, r.0)))
  word_free c zero o n w (split a b) r = absurd r
  word_free c (suc l) o n w (split a b) r = sym (ne_eqb w 0 (λ e. omega (arith, r.is)))

  -- so it is of each pair that lies in the node
  pub pair_sided : (c l o n w i p : ℕ) (t : Tree) → Wf l t → Rep u E K c l o n w t → i < l → 0 < (E i p).tag → Inside u (E i p) c o l → Sided (E i p)
  pair_sided c l o n w i p free v r h t j = absurd (r.1 i p h t j)
  pair_sided c l o n w i p (loan k) v r h t j = absurd (r.2 i p h t j)
  pair_sided c zero o n w i p (split a b) v r h t j = absurd r
  pair_sided c (suc l) o n w i p (split a b) v r h t j =
      go (same? i l)
      (λ g z. pair_sided c l o (node_of (pair_said w) L) (E l (pair_said w)).left i p a v.1 r.this g t z)
      (λ g z. pair_sided c l (o + bytes u l) (node_of (pair_said w) R) (E l (pair_said w)).right i p b v.2 r.twin g t z)
    where
      own : Sided (E l (pair_said w))
      own =
          let x = word_free c l o (node_of (pair_said w) L) (E l (pair_said w)).left a r.this in
          let y = word_free c l (o + bytes u l) (node_of (pair_said w) R) (E l (pair_said w)).right b r.twin in
          (r.tag ∙ ap₂ tag_of x y, λ e f. not_both a b v.0 (x ∙ eq-eqb _ 0 e) (y ∙ eq-eqb _ 0 f))

      go : (i ≡ l) ⊎ (i ≡ l → ⊥) → (i < l → Inside u (E i p) c o l → Sided (E i p)) → (i < l → Inside u (E i p) c (o + bytes u l) l → Sided (E i p)) → Sided (E i p)
      go (inl e) f g =
          let q : p ≡ pair_said w = r.only p (rw e at t) (rw e at j) in
          rw (e, q) own
      go (inr z) f g = ⊎_elim (λ k. f (omega arith) k) (λ k. g (omega arith) k) (inside_cases u L (E i p) c o l j)

-- a ready pair's ready side is the one whose word is 0
ready_word : (e : Ent) → Sided e → 1 < e.tag → word (side_of e.tag) e ≡ 0
ready_word e s h = go (eqb e.left 0) (eqb e.right 0) refl refl s.0
  where
    go : (x y : Bool) → eqb e.left 0 ≡ x → eqb e.right 0 ≡ y → e.tag ≡ tag_of x y → word (side_of e.tag) e ≡ 0
    go true y a b q = rw q (eqb-true e.left 0 a)
    go false true a b q = rw q (eqb-true e.right 0 b)
    go false false a b q = absurd (omega (arith, q))

-- and a side whose word is 0 is the ready side
word_ready : (e : Ent) → Sided e → (d : Side) → word d e ≡ 0 → (1 < e.tag) × (side_of e.tag ≡ d)
word_ready e s L z = let q = s.0 ∙ ap (λ (b : Bool). tag_of b (eqb e.right 0)) (eq-eqb e.left 0 z) in (omega (arith, q), ap side_of q)
word_ready e s R z =
    let a = ne_eqb e.left 0 (λ x. s.1 x z) in
    let q = s.0 ∙ ap (λ (b : Bool). tag_of b (eqb e.right 0)) a ∙ ap (λ (b : Bool). tag_of false b) (eq-eqb e.right 0 z) in
    (omega (arith, q), ap side_of q)

-- ---- a sound store

module _ (s : BuddySettings) (t : Tables) (fit : BuddyIn s) (sound : Sound s t) where
  abbrev u : ℕ
  u = s.minimal

  abbrev T : ℕ → Tree
  T = sound.standing.trees

  abbrev E : ℕ → ℕ → Ent
  E = pairs_in s t

  -- a chunk's top node is never free: its word is not 0
  pub top_taken : (c : ℕ) → held_in t c ≡ true → top_in s t c ≡ 0 → ⊥
  top_taken c h = rep_taken u E (loan_in s t) c (high_in s t c) 0 nowhere (top_in s t c) (T c) (sound.standing.rep c h) (taken_not (T c) (sound.standing.taken c h))

  -- a free node is below its chunk's top
  free_below : (c x m : ℕ) → held_in t c ≡ true → Free u (high_in s t c) 0 (T c) x m → m < high_in s t c
  free_below c x m h f = ⊎_elim
      (λ e. absurd (subst Taken (free_whole u (high_in s t c) 0 x m (T c) e f).0 (sound.standing.taken c h)))
      (λ e. omega (arith, (free_in_lem u (high_in s t c) 0 (T c) x m f).2))
      (same? m (high_in s t c))

  -- a free node of a chunk that is seen is one of its tree
  seen_free : (c : Chunk) → Memᴰ c (chunks_in t) → (x m : ℕ) → Free u (high_of u c) 0 (tree_in u (loans_in t) c) x m ↔ Free u (high_in s t c.number) 0 (T c.number) x m
  seen_free c i x m =
      subst (λ (l : ℕ). Free u l 0 (tree_in u (loans_in t) c) x m ↔ Free u (high_in s t c.number) 0 (T c.number) x m) (sym (high_seen s t fit sound c i))
      (subst (λ (y : Tree). Free u (high_in s t c.number) 0 y x m ↔ Free u (high_in s t c.number) 0 (T c.number) x m) (sym (tree_seen s t fit sound c i))
      (named_free u (serial_at_place s t) (high_in s t c.number) 0 (T c.number) x m))

  -- a ready pair lies in its chunk
  ready_in_lem : (l p : ℕ) → l < levels_in t → 1 < (E l p).tag
      → (held_in t (E l p).chunk ≡ true) × (l < high_in s t (E l p).chunk) × Inside u (E l p) (E l p).chunk 0 (high_in s t (E l p).chunk)
  ready_in_lem l p h g =
      let o = sound.standing.owned l p h (omega arith) in
      (o.0, o.1, (refl, omega arith, omega (arith, (sound.standing.sized (E l p).chunk o.0).0, o.2)))

  -- a ready side, by where it is
  ready_as : (r : Region) (c m : ℕ) → r.chunk ≡ c → r.end ≡ r.start + bytes u m → m < levels_in t → Ready u E c r.start m → ReadySide s t r
  ready_as r c m a b h y =
      let i : r.chunk ≡ (E m y.p).chunk = a ∙ sym y.chunk in
      let j : r.start ≡ base_of u (E m y.p) m = y.at in
      let k : r.end ≡ base_of u (E m y.p) m + bytes u m = b ∙ ap (λ (z : ℕ). z + bytes u m) j in
      record { level = m; low = h; pair = y.p; ready = y.tag; is = λ z. region (i z) (j z) (k z) }

  there_in : (r : Region) (c : Chunk) → Memᴰ c (chunks_in t) → Memᴰ r (free_for u (loans_in t) c) → ReadySide s t r
  there_in r c i m =
      let h = (seen_held t c i).0 in
      let v = region_free u c.number (high_of u c) 0 (tree_in u (loans_in t) c) r m in
      let f = (seen_free c i r.start v.0).0 v.1 in
      let b = free_below c.number r.start v.0 h f in
      ready_as r c.number v.0 (region_chunk_lem u c.number (high_of u c) 0 (tree_in u (loans_in t) c) r m) v.2 (omega (arith, b, (sound.standing.sized c.number h).3))
      (free_ready u E (loan_in s t) c.number (high_in s t c.number) 0 nowhere (top_in s t c.number) r.start v.0 (T c.number) (sound.standing.wf c.number h) (sound.standing.rep c.number h) f b)

  there : (r : Region) → Memᴰ r (view_of s t).free → ReadySide s t r
  there r m = let w = free_where u (loans_in t) (chunks_in t) r m in there_in r w.0 w.1 w.2

  back : (r : Region) → ReadySide s t r → Memᴰ r (view_of s t).free
  back r z =
      let l = z.level in
      let e = E l z.pair in
      let c = e.chunk in
      let w = ready_in_lem l z.pair z.low z.ready in
      let i = held_seen t c w.0 in
      let f = ready_free u E (loan_in s t) c (high_in s t c) 0 nowhere (top_in s t c) l z.pair (T c) (sound.standing.wf c w.0) (sound.standing.rep c w.0) w.1 z.ready w.2 in
      let g = (seen_free (chunk_at t c) i (base_of u e l) l).1 f in
      subst (λ (k : Region). Memᴰ k (view_of s t).free) (sym z.is)
      (where_free u (loans_in t) (chunks_in t) (ready_stretch u e l) (chunk_at t c) i (free_region u c (high_of u (chunk_at t c)) 0 (tree_in u (loans_in t) (chunk_at t c)) (base_of u e l) l g))

  -- a region is seen free exactly when it is the stretch of some pair's ready side
  pub free_seen : (r : Region) → Memᴰ r (view_of s t).free ↔ ReadySide s t r
  free_seen r = (there r, back r)

  -- no region is seen free twice
  pub free_once : Once (view_of s t).free
  free_once = chunks_free_once u (minimal_pos s fit) (loans_in t) (chunks_in t) (chunks_once t) (standing s t fit sound).numbers

  -- and one pair alone has it for its ready side
  pub ready_once : (r : Region) (x y : ReadySide s t r) → (x.level ≡ y.level) × (x.pair ≡ y.pair)
  ready_once r x y =
      let pos = minimal_pos s fit in
      let q = sym x.is ∙ y.is in
      let a = ap (λ (k : Region). k.start) q in
      let b = ap (λ (k : Region). k.end) q in
      let d : x.level ≤ y.level = bytes_lower u x.level y.level pos (omega (arith, a, b)) in
      let e : y.level ≤ x.level = bytes_lower u y.level x.level pos (omega (arith, a, b)) in
      let l : y.level ≡ x.level = omega arith in
      (sym l, pairs y.level l y.ready y.low (ap (λ (k : Region). k.chunk) q) a)
    where
      pairs : (i : ℕ) → i ≡ x.level → 1 < (E i y.pair).tag → i < levels_in t → (E x.level x.pair).chunk ≡ (E i y.pair).chunk → base_of u (E x.level x.pair) x.level ≡ base_of u (E i y.pair) i → x.pair ≡ y.pair
      pairs i z g h c a =
          let w = ready_in_lem x.level x.pair x.low x.ready in
          let l = x.level in
          let k = (E l x.pair).chunk in
          let g' : 1 < (E l y.pair).tag = rw z at g in
          let c' : k ≡ (E l y.pair).chunk = rw z at c in
          let a' : base_of u (E l x.pair) l ≡ base_of u (E l y.pair) l = rw z at a in
          let v = ready_in_lem l y.pair x.low g' in
          let j : Inside u (E l y.pair) k 0 (high_in s t k) = subst (λ (n : ℕ). Inside u (E l y.pair) n 0 (high_in s t n)) (sym c') v.2 in
          ready_same u (minimal_pos s fit) E (loan_in s t) k (high_in s t k) 0 nowhere (top_in s t k) l x.pair y.pair (T k) (sound.standing.wf k w.0) (sound.standing.rep k w.0) w.1 x.ready g' w.2 j a'

  -- no held chunk is seen free as a whole
  pub whole_never : (c : Chunk) → Memᴰ c (chunks_in t) → Memᴰ (region c.number 0 c.size) (view_of s t).free → ⊥
  whole_never c m i =
      let z = there (region c.number 0 c.size) i in
      let w = ready_in_lem z.level z.pair z.low z.ready in
      let e : c.number ≡ (E z.level z.pair).chunk = ap (λ (k : Region). k.chunk) z.is in
      let a : 0 ≡ base_of u (E z.level z.pair) z.level = ap (λ (k : Region). k.start) z.is in
      let b : c.size ≡ base_of u (E z.level z.pair) z.level + bytes u z.level = ap (λ (k : Region). k.end) z.is in
      let h = ((standing s t fit sound).sized c m).0 in
      let y : high_of u c ≡ high_in s t (E z.level z.pair).chunk = high_seen s t fit sound c m ∙ ap (high_in s t) e in
      let q : high_of u c ≤ z.level = bytes_lower u (high_of u c) z.level (minimal_pos s fit) (omega (arith, a, b, h)) in
      omega (arith, q, y, w.1)

  -- the same by the rings: the free pieces are the ready sides of the pairs that stand in the levels' rings
  pub free_ringed : (r : Region)
      → Memᴰ r (view_of s t).free ↔ ((l : ℕ) × (low : l < levels_in t) × (p : ℕ) × Mem p (sound.good l low).ring × (r ≡ ready_stretch s.minimal (pairs_in s t l p) l))
  free_ringed r = (
    (λ m.
        let z = there r m in
        let G = sound.good z.level z.low in
        let k = tagged_used (level_from s z.level) t.room z.pair (omega (arith, z.ready)) in
        (z.level, z.low, z.pair, G.all z.pair k (omega (arith, z.ready, ap (λ (e : Ent). e.tag) (pair_used (level_from s z.level) t.room z.pair k))), z.is)),
    (λ w.
        let G = sound.good w.0 w.1 in
        let k = G.below w.2 w.3 in
        back r (record {
          level = w.0;
          low = w.1;
          pair = w.2;
          ready = omega (arith, G.ready w.2 w.3, ap (λ (e : Ent). e.tag) (pair_used (level_from s w.0) t.room w.2 k));
          is = w.4;
        })),
  )

  -- the same by the words of the nodes: a region is seen free exactly when it is the stretch of a side whose word is 0, of a pair in use
  pub free_words : (r : Region) → Memᴰ r (view_of s t).free ↔ FreeNode s t r
  free_words r = (
    (λ m.
        let z = there r m in
        let e = E z.level z.pair in
        let g : 0 < e.tag = omega (arith, z.ready) in
        record { level = z.level; low = z.low; pair = z.pair; used = g; side = side_of e.tag; free = ready_word e (sided z.level z.pair z.low g) z.ready; is = z.is }),
    (λ z.
        let e = E z.level z.pair in
        let w = word_ready e (sided z.level z.pair z.low z.used) z.side z.free in
        back r (record {
          level = z.level;
          low = z.low;
          pair = z.pair;
          ready = w.0;
          is = z.is ∙ ap (λ (d : Side). region e.chunk (base u d e.off z.level) (base u d e.off z.level + bytes u z.level)) (sym w.1);
        })),
  )
    where
      sided : (l p : ℕ) → l < levels_in t → 0 < (E l p).tag → Sided (E l p)
      sided l p h g =
          let o = sound.standing.owned l p h g in
          let c = (E l p).chunk in
          pair_sided u E (loan_in s t) c (high_in s t c) 0 nowhere (top_in s t c) l p (T c) (sound.standing.wf c o.0) (sound.standing.rep c o.0) o.1 g
          (refl, omega arith, omega (arith, (sound.standing.sized c o.0).0, o.2))
