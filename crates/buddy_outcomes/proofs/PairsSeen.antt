-- The pairs of a level that are in use are those which a user sees: each is a stretch of two nodes' length in which a loan no longer
-- than a node lies, and each such stretch is one of them. So a level has none left exactly when all its places are in use.
use mathlib.Core.Path.{◌≡◌, refl, sym, ap, subst, ◌∙◌}
use mathlib.Core.Bool.{Bool, true, false, cond}
use mathlib.Core.Logic.{◌⊎◌, inl, inr, ⊎_elim, ◌↔◌}
use mathlib.Core.List.{List, [], ◌∷◌, Memᴰ}
use Prim.Native.Nat.{ℕ, zero, suc, ◌+◌, ◌*◌, ◌/◌, ◌≤◌, ◌<◌}
use native.Mathlib.Nat.{add-mul, suc-mul, mul-le-mul_right, mul-mod_left, zero-mul}
use native.Mathlib.Omega.{arith}
use lib.Dec.{ltb}
use lib.ListN.{length}
use borrow.Author.Tests.{ltb-true, lt-ltb}
use Rattle.lists.specs.Members.{Mem, Distinct, picked}
use Rattle.lists.proofs.Bools.{same?, lt_or_le}
use Rattle.lists.proofs.Members.{mem_not, no_more}
use Rattle.lists.proofs.Picked.{picked_all}
use Rattle.words.proofs.Records.{cell_row}
use Rattle.rounding_rules.specs.Raising.{level_of}
use Rattle.rounding_rules.proofs.Raising.{whole}
use Rattle.counter.specs.InTable.{BuddyIn}
use Rattle.counter.specs.declared.settings.BuddySettings.{BuddySettings}
use Rattle.slabs.specs.Slab.{nowhere}
use Rattle.store_rules.specs.Loans as Loans
use Rattle.store_rules.specs.Loans.{loan_words, size_at, offset_at}
use Rattle.store_rules.specs.Views.{region}
use Rattle.store_rules.specs.declared.Chunk.{Chunk}
use Rattle.store_rules.specs.declared.Loan.{Loan}
use Rattle.store_rules.specs.declared.Region.{Region}
use Rattle.buddy_trees.specs.Trees.{Tree, free, loan, split, Wf, Piece, Has, bytes}
use Rattle.buddy_trees.proofs.Bytes.{bytes_suc, bytes_pos, bytes_mono, bytes_lower}
use Rattle.buddy_trees.proofs.Fills.{has_in, half}
use Rattle.buddy_trees.proofs.Canon.{taken_loan}
use Rattle.buddy_rules.specs.Nodes.{vacant, exhausted, Ent, L, R, node_of, pair_said, is_free, tag_of, Inside, Rep}
use Rattle.buddy_rules.specs.Nodes as Nodes
use Rattle.buddy_rules.specs.Sound.{Sound}
use Rattle.buddy_rules.specs.Stores.{piece}
use Rattle.buddy_rules.specs.Tables.{Tables, levels_in, level_from, chunk_size_in, pairs_in, loan_cell, loan_in, live_in, held_in, high_in, top_in}
use Rattle.buddy_rules.specs.Views.{view_of, ready_stretch}
use Rattle.buddy_rules.proofs.Cells.{tagged_used}
use Rattle.buddy_rules.proofs.Frames.{inside_cases, tag_pos}
use Rattle.buddy_rules.proofs.Frees.{free_seen}
use Rattle.buddy_rules.proofs.Named.{owner}
use Rattle.buddy_rules.proofs.Viewed.{loan_at, live_loan, loan_live, chunk_at, held_seen, seen_held}
use Rattle.buddy_rules.proofs.Walks.{minimal_pos}
use Rattle.buddy_outcomes.specs.Refusals.{pair_count, PairsOut, pair_bytes, PairInUse, NoneLeft, PairsOutSeen}

-- ---- a tree

module _ (u : ℕ) (E : ℕ → ℕ → Ent) (K : ℕ → Nodes.Loan) where
  -- a pair of level i in the node of level l at o: it lies at a multiple of its length, and a loan of at most level i lies in it
  record ShortLoan (l o : ℕ) (t : Tree) (i p : ℕ) : Type 0 where
    loan : Piece
    has : Has u l o t loan
    short : loan.lev ≤ i
    low : (E i p).off ≤ loan.at
    high : loan.at + bytes u loan.lev ≤ (E i p).off + bytes u (suc i)
    times : ℕ
    multiple : (E i p).off ≡ times * bytes u (suc i)
    inside : (E i p).off + bytes u (suc i) ≤ o + bytes u l

  pair_short : (c l o n w i p q : ℕ) (t : Tree) → Wf l t → Rep u E K c l o n w t → o ≡ q * bytes u l → i < l → 0 < (E i p).tag → Inside u (E i p) c o l → ShortLoan l o t i p
  pair_short c l o n w i p q free v r e h g j = absurd (r.1 i p h g j)
  pair_short c l o n w i p q (loan k) v r e h g j = absurd (r.2 i p h g j)
  pair_short c zero o n w i p q (split a b) v r e h g j = absurd r
  pair_short c (suc l) o n w i p q (split a b) v r e h g j =
      go (same? i l)
      (λ k z. pair_short c l o (node_of (pair_said w) L) (E l (pair_said w)).left i p (q + q) a v.1 r.this (e ∙ half u l q) k g z)
      (λ k z.
      let d : o + bytes u l ≡ (q + q + 1) * bytes u l = omega (arith, e, half u l q, add-mul (q + q) 1 (bytes u l)) in
      pair_short c l (o + bytes u l) (node_of (pair_said w) R) (E l (pair_said w)).right i p (q + q + 1) b v.2 r.twin d k g z)
    where
      -- a loan of either half is no longer than a half
      half_short : (y : Piece) → Has u l o a y ⊎ Has u l (o + bytes u l) b y → y.lev ≤ l
      half_short y (inl z) = (has_in u l o a y z).2
      half_short y (inr z) = (has_in u l (o + bytes u l) b y z).2

      own : ShortLoan (suc l) o (split a b) l (pair_said w)
      own =
          let y = taken_loan u (suc l) o (split a b) v tt in
          let m = has_in u (suc l) o (split a b) y.0 y.1 in
          record {
            loan = y.0;
            has = y.1;
            short = half_short y.0 y.1;
            low = omega (arith, r.off, m.0);
            high = omega (arith, r.off, m.1);
            times = q;
            multiple = r.off ∙ e;
            inside = omega (arith, r.off);
          }

      go : (i ≡ l) ⊎ (i ≡ l → ⊥) → (i < l → Inside u (E i p) c o l → ShortLoan l o a i p) → (i < l → Inside u (E i p) c (o + bytes u l) l → ShortLoan l (o + bytes u l) b i p)
          → ShortLoan (suc l) o (split a b) i p
      go (inl z) f k =
          let d : p ≡ pair_said w = r.only p (rw z at g) (rw z at j) in
          rw (z, d) own
      go (inr z) f k =
          ⊎_elim
          (λ x.
          let y = f (omega arith) x in
          record {
            loan = y.loan;
            has = inl y.has;
            short = y.short;
            low = y.low;
            high = y.high;
            times = y.times;
            multiple = y.multiple;
            inside = omega (arith, y.inside, bytes_suc u l);
          })
          (λ x.
          let y = k (omega arith) x in
          record {
            loan = y.loan;
            has = inr y.has;
            short = y.short;
            low = y.low;
            high = y.high;
            times = y.times;
            multiple = y.multiple;
            inside = omega (arith, y.inside, bytes_suc u l);
          })
          (inside_cases u L (E i p) c o l j)

  -- a pair of level i in use, of chunk c, in which the loan lies
  record PairOver (c i : ℕ) (y : Piece) : Type 0 where
    p : ℕ
    used : 0 < (E i p).tag
    chunk : (E i p).chunk ≡ c
    low : (E i p).off ≤ y.at
    high : y.at + bytes u y.lev ≤ (E i p).off + bytes u (suc i)

  -- a loan of at most level i lies in one
  loan_pair : (c l o n w i : ℕ) (t : Tree) (y : Piece) → Rep u E K c l o n w t → Has u l o t y → y.lev ≤ i → i < l → PairOver c i y
  loan_pair c l o n w i free y r h k g = absurd h
  loan_pair c l o n w i (loan x) y r h k g = absurd (omega (arith, h.1))
  loan_pair c zero o n w i (split a b) y r h k g = absurd r
  loan_pair c (suc l) o n w i (split a b) y r h k g =
      go (same? i l) h
      (λ d x. loan_pair c l o (node_of (pair_said w) L) (E l (pair_said w)).left i a y r.this x k d)
      (λ d x. loan_pair c l (o + bytes u l) (node_of (pair_said w) R) (E l (pair_said w)).right i b y r.twin x k d)
    where
      m : (o ≤ y.at) × (y.at + bytes u y.lev ≤ o + bytes u (suc l)) × (y.lev ≤ suc l)
      m = has_in u (suc l) o (split a b) y h

      own : PairOver c l y
      own =
          record {
            p = pair_said w;
            used = omega (arith, r.tag, tag_pos (is_free a) (is_free b));
            chunk = r.chunk;
            low = omega (arith, r.off, m.0);
            high = omega (arith, r.off, m.1);
          }

      go : (i ≡ l) ⊎ (i ≡ l → ⊥) → Has u l o a y ⊎ Has u l (o + bytes u l) b y → (i < l → Has u l o a y → PairOver c i y) → (i < l → Has u l (o + bytes u l) b y → PairOver c i y)
          → PairOver c i y
      go (inl z) x this twin = rw z own
      go (inr z) (inl x) this twin = this (omega arith) x
      go (inr z) (inr x) this twin = twin (omega arith) x

  -- two pairs of a level in use that begin at one place are one
  one_pair : (c l o n w i p q : ℕ) (t : Tree) → Rep u E K c l o n w t → i < l → 0 < (E i p).tag → 0 < (E i q).tag → (E i q).chunk ≡ (E i p).chunk → (E i q).off ≡ (E i p).off
      → Inside u (E i p) c o l → p ≡ q
  one_pair c l o n w i p q free r h g k x y j = absurd (r.1 i p h g j)
  one_pair c l o n w i p q (loan d) r h g k x y j = absurd (r.2 i p h g j)
  one_pair c zero o n w i p q (split a b) r h g k x y j = absurd r
  one_pair c (suc l) o n w i p q (split a b) r h g k x y j =
      go (same? i l)
      (λ d z. one_pair c l o (node_of (pair_said w) L) (E l (pair_said w)).left i p q a r.this d g k x y z)
      (λ d z. one_pair c l (o + bytes u l) (node_of (pair_said w) R) (E l (pair_said w)).right i p q b r.twin d g k x y z)
    where
      other : Inside u (E i q) c o (suc l)
      other = (x ∙ j.0, omega (arith, y, j.1), omega (arith, y, j.2))

      go : (i ≡ l) ⊎ (i ≡ l → ⊥) → (i < l → Inside u (E i p) c o l → p ≡ q) → (i < l → Inside u (E i p) c (o + bytes u l) l → p ≡ q) → p ≡ q
      go (inl z) f d = r.only p (rw z at g) (rw z at j) ∙ sym (r.only q (rw z at k) (rw z at other))
      go (inr z) f d = ⊎_elim (f (omega arith)) (d (omega arith)) (inside_cases u L (E i p) c o l j)

-- two multiples of b between which no other lies are one
same_multiple : (b q r x : ℕ) → q * b ≤ x → x < q * b + b → r * b ≤ x → x < r * b + b → q * b ≡ r * b
same_multiple b q r x h i j k =
    ⊎_elim
    (λ l. absurd (omega (arith, suc-mul q b, mul-le-mul_right b l)))
    (λ l. ⊎_elim (λ m. absurd (omega (arith, suc-mul r b, mul-le-mul_right b m))) (λ m. let e : q ≡ r = omega arith in ap (λ (n : ℕ). n * b) e) (lt_or_le r q))
    (lt_or_le q r)

-- ---- places

-- f marks n of n places: each of them
all_counted : (c : ℕ → ℕ) (f : ℕ → Bool) → c 0 ≡ 0 → ((n : ℕ) → c (suc n) ≡ c n + cond (f n) 1 0) → (n : ℕ) → (c n ≤ n) × (n ≤ c n → (p : ℕ) → p < n → f p ≡ true)
all_counted c f z more zero = (omega (arith, z), λ h p k. absurd (omega arith))
all_counted c f z more (suc n) = go (f n) refl (all_counted c f z more n)
  where
    go : (b : Bool) → f n ≡ b → (c n ≤ n) × (n ≤ c n → (p : ℕ) → p < n → f p ≡ true) → (c (suc n) ≤ suc n) × (suc n ≤ c (suc n) → (p : ℕ) → p < suc n → f p ≡ true)
    go true e ih =
        let a : c (suc n) ≡ c n + 1 = more n ∙ ap (λ (b : Bool). c n + cond b 1 0) e in (
          omega (arith, a, ih.0),
          λ h p k. ⊎_elim (λ q. ap f q ∙ e) (λ q. ih.1 (omega (arith, a, h)) p (omega arith)) (same? p n),
        )
    go false e ih = let a : c (suc n) ≡ c n + 0 = more n ∙ ap (λ (b : Bool). c n + cond b 1 0) e in (omega (arith, a, ih.0), λ h. absurd (omega (arith, a, ih.0, h)))

-- as many are picked as are marked
picked_long : (c : ℕ → ℕ) (f : ℕ → Bool) → c 0 ≡ 0 → ((n : ℕ) → c (suc n) ≡ c n + cond (f n) 1 0) → (n : ℕ) → length (picked f n) ≡ c n
unfolding picked
picked_long c f z more zero = sym z
picked_long c f z more (suc n) = go (f n) refl (picked_long c f z more n)
  where
    go : (b : Bool) → f n ≡ b → length (picked f n) ≡ c n → length (cond b (n ∷ picked f n) (picked f n)) ≡ c (suc n)
    go true e ih = let a : c (suc n) ≡ c n + 1 = more n ∙ ap (λ (b : Bool). c n + cond b 1 0) e in omega (arith, a, ih)
    go false e ih = let a : c (suc n) ≡ c n + 0 = more n ∙ ap (λ (b : Bool). c n + cond b 1 0) e in omega (arith, a, ih)

last_below : (n : ℕ) → n < suc n
last_below n = omega arith

below_last : (n i : ℕ) → i < n → i < suc n
below_last n i h = omega arith

abbrev earlier : (n : ℕ) → ((i : ℕ) → i < suc n → ℕ) → (i : ℕ) → i < n → ℕ
earlier n g i h = g i (below_last n i h)

-- what g gives below n, the last first
abbrev values_of : (n : ℕ) → ((i : ℕ) → i < n → ℕ) → List ℕ
values_of zero g = []
values_of (suc n) g = g n (last_below n) ∷ values_of n (earlier n g)

values_long : (n : ℕ) (g : (i : ℕ) → i < n → ℕ) → length (values_of n g) ≡ n
values_long zero g = refl
values_long (suc n) g = ap suc (values_long n (earlier n g))

values_only : (n : ℕ) (g : (i : ℕ) → i < n → ℕ) (x : ℕ) → Mem x (values_of n g) → (i : ℕ) × (h : i < n) × (x ≡ g i h)
values_only zero g x m = absurd m
values_only (suc n) g x (inl e) = (n, last_below n, e)
values_only (suc n) g x (inr m) = let w = values_only n (earlier n g) x m in (w.0, below_last n w.0 w.1, w.2)

values_once : (n : ℕ) (g : (i : ℕ) → i < n → ℕ) → ((i j : ℕ) (h : i < n) (k : j < n) → g i h ≡ g j k → i ≡ j) → Distinct (values_of n g)
values_once zero g d = tt
values_once (suc n) g d = (
  mem_not (g n (last_below n)) (values_of n (earlier n g)) (λ m.
      let w = values_only n (earlier n g) (g n (last_below n)) m in
      omega (arith, w.1, d n w.0 (last_below n) (below_last n w.0 w.1) w.2)),
  values_once n (earlier n g) (λ i j h k e. d i j (below_last n i h) (below_last n j k) e),
)

-- ---- a sound store

module _ (s : BuddySettings) (t : Tables) (fit : BuddyIn s) (sound : Sound s t) where
  abbrev u : ℕ
  u = s.minimal

  abbrev E : ℕ → ℕ → Ent
  E = pairs_in s t

  abbrev T : ℕ → Tree
  T = sound.standing.trees

  -- two nodes of level l are as long as one of the next
  pair_long : (l : ℕ) → pair_bytes u l ≡ bytes u (suc l)
  pair_long l = omega (arith, bytes_suc u l)

  -- the stretch of pair p of level l
  abbrev stretch_of : ℕ → ℕ → Region
  stretch_of l p = region (E l p).chunk (E l p).off ((E l p).off + pair_bytes u l)

  -- a pair in use lies in its chunk
  pair_lies : (l p : ℕ) → l < levels_in t → 0 < (E l p).tag
      → (held_in t (E l p).chunk ≡ true) × (l < high_in s t (E l p).chunk) × Inside u (E l p) (E l p).chunk 0 (high_in s t (E l p).chunk)
  pair_lies l p h g =
      let o = sound.standing.owned l p h g in
      (o.0, o.1, (refl, omega arith, omega (arith, (sound.standing.sized (E l p).chunk o.0).0, o.2)))

  -- it is seen
  pair_seen : (l p : ℕ) → l < levels_in t → 0 < (E l p).tag → PairInUse u l (view_of s t) (stretch_of l p)
  pair_seen l p h g =
      let w = pair_lies l p h g in
      let c = (E l p).chunk in
      let e = sym (zero-mul (bytes u (high_in s t c))) in
      let y = pair_short u E (loan_in s t) c (high_in s t c) 0 nowhere (top_in s t c) l p 0 (T c) (sound.standing.wf c w.0) (sound.standing.rep c w.0) e w.1 g w.2 in
      let o = owner s t fit sound c y.loan w.0 y.has in
      let z : (loan_at t o.k).size ≡ bytes u y.loan.lev =
      sym (cell_row t.loans size_at loan_words o.k) ∙ sound.standing.loans_sized o.k o.live
      ∙ ap (bytes u) (ap (λ (n : ℕ). level_of n u) (cell_row t.loans size_at loan_words o.k) ∙ o.lev) in
      let b = pair_long l in
      record {
        chunk = chunk_at t c;
        held = held_seen t c w.0;
        number = refl;
        aligned = rw (y.multiple, b) (mul-mod_left y.times (bytes u (suc l)));
        long = refl;
        inside = omega (arith, b, y.inside, (sound.standing.sized c w.0).0);
        loan = loan_at t o.k;
        lent = live_loan t o.k o.live;
        there = o.chunk;
        short = omega (arith, z, bytes_mono u y.loan.lev l y.short);
        low = omega (arith, o.at, y.low);
        high = omega (arith, o.at, z, b, y.high);
      }

  -- no two have one stretch
  stretch_once : (l p q : ℕ) → l < levels_in t → 0 < (E l p).tag → 0 < (E l q).tag → stretch_of l p ≡ stretch_of l q → p ≡ q
  stretch_once l p q h g k e =
      let w = pair_lies l p h g in
      let c = (E l p).chunk in
      one_pair u E (loan_in s t) c (high_in s t c) 0 nowhere (top_in s t c) l p q (T c) (sound.standing.rep c w.0) w.1 g k (sym (ap (λ (r : Region). r.chunk) e))
      (sym (ap (λ (r : Region). r.start) e)) w.2

  -- a pair that is seen is of a level that there is
  seen_below : (l : ℕ) (r : Region) → PairInUse u l (view_of s t) r → (held_in t r.chunk ≡ true) × (l < high_in s t r.chunk) × (l < levels_in t)
  seen_below l r v =
      let h = seen_held t v.chunk v.held in
      let z : v.chunk.size ≡ chunk_size_in t v.chunk.number = ap (λ (d : Chunk). d.size) h.1 in
      let y = sound.standing.sized v.chunk.number h.0 in
      let k : suc l ≤ high_in s t v.chunk.number = bytes_lower u (suc l) (high_in s t v.chunk.number) (minimal_pos s fit) (omega (arith, z, y.0, v.inside, v.long, pair_long l)) in
      rw v.number (h.0, k, omega (arith, k, y.3))

  -- a pair in use that has a byte of it is it
  stretch_is : (l p x : ℕ) (r : Region) → PairInUse u l (view_of s t) r → 0 < (E l p).tag → (E l p).chunk ≡ r.chunk → (E l p).off ≤ x → x < (E l p).off + pair_bytes u l → r.start ≤ x → x < r.end
      → stretch_of l p ≡ r
  stretch_is l p x r v used is a b c d =
      let w = pair_lies l p (seen_below l r v).2 used in
      let k = (E l p).chunk in
      let e = sym (zero-mul (bytes u (high_in s t k))) in
      let y = pair_short u E (loan_in s t) k (high_in s t k) 0 nowhere (top_in s t k) l p 0 (T k) (sound.standing.wf k w.0) (sound.standing.rep k w.0) e w.1 used w.2 in
      same y.times (ap (λ (n : ℕ). y.times * n) (pair_long l) ∙ sym y.multiple)
    where
      same : (q : ℕ) → q * pair_bytes u l ≡ (E l p).off → stretch_of l p ≡ r
      same q e =
          let f : r.start / pair_bytes u l * pair_bytes u l ≡ r.start = whole r.start (pair_bytes u l) v.aligned in
          let m = same_multiple (pair_bytes u l) q (r.start / pair_bytes u l) x (omega (arith, e, a)) (omega (arith, e, b)) (omega (arith, f, c)) (omega (arith, f, d, v.long)) in
          let g : (E l p).off ≡ r.start = sym e ∙ m ∙ f in
          let h : (E l p).off + pair_bytes u l ≡ r.end = omega (arith, g, v.long) in
          (λ j. region (is j) (g j) (h j))

  -- and it is one in use
  seen_pair : (l : ℕ) (r : Region) → PairInUse u l (view_of s t) r → (p : ℕ) × (0 < (E l p).tag) × (stretch_of l p ≡ r)
  seen_pair l r v = let k = loan_live t v.loan v.lent in by k.0 k.1 k.2
    where
      by : (k : ℕ) → live_in t k ≡ true → loan_at t k ≡ v.loan → (p : ℕ) × (0 < (E l p).tag) × (stretch_of l p ≡ r)
      by k live is =
          let c = r.chunk in
          let w = seen_below l r v in
          let y = piece (loan_in s t k) k in
          let i : loan_cell t Loans.chunk_at k ≡ c = cell_row t.loans Loans.chunk_at loan_words k ∙ ap (λ (d : Loan). d.chunk) is ∙ v.there in
          let o : loan_cell t offset_at k ≡ v.loan.offset = cell_row t.loans offset_at loan_words k ∙ ap (λ (d : Loan). d.offset) is in
          let z : loan_cell t size_at k ≡ v.loan.size = cell_row t.loans size_at loan_words k ∙ ap (λ (d : Loan). d.size) is in
          let n : bytes u (loan_in s t k).lev ≡ v.loan.size = sym (sound.standing.loans_sized k live) ∙ z in
          let m : Has u (high_in s t c) 0 (T c) y = subst (λ (x : ℕ). Has u (high_in s t x) 0 (T x) y) i (sound.standing.has k live).1 in
          let low : (loan_in s t k).lev ≤ l = bytes_lower u (loan_in s t k).lev l (minimal_pos s fit) (omega (arith, n, v.short)) in
          let p = loan_pair u E (loan_in s t) c (high_in s t c) 0 nowhere (top_in s t c) l (T c) y (sound.standing.rep c w.0) m low w.1 in
          let some = bytes_pos u (loan_in s t k).lev (minimal_pos s fit) in
          let within : v.loan.offset < (E l p.p).off + pair_bytes u l = omega (arith, o, some, p.high, pair_long l) in
          (p.p, p.used, stretch_is l p.p v.loan.offset r v p.used p.chunk (omega (arith, o, p.low)) within v.low (omega (arith, n, some, v.high)))

  -- a region is seen as a pair of level l in use exactly when it is the stretch of one
  pub used_seen : (l : ℕ) (r : Region)
      → PairInUse s.minimal l (view_of s t) r
      ↔ ((p : ℕ) × (l < levels_in t) × (vacant < (pairs_in s t l p).tag)
      × (r ≡ region (pairs_in s t l p).chunk (pairs_in s t l p).off ((pairs_in s t l p).off + pair_bytes s.minimal l)))
  used_seen l r = (
    (λ v. let w = seen_pair l r v in (w.0, (seen_below l r v).2, w.1, sym w.2)),
    (λ w. subst (λ (x : Region). PairInUse u l (view_of s t) x) (sym w.3) (pair_seen l w.0 w.1 w.2)),
  )

  -- and of that one alone
  pub used_once : (l p q : ℕ) → l < levels_in t → vacant < (pairs_in s t l p).tag → vacant < (pairs_in s t l q).tag
      → region (pairs_in s t l p).chunk (pairs_in s t l p).off ((pairs_in s t l p).off + pair_bytes s.minimal l)
      ≡ region (pairs_in s t l q).chunk (pairs_in s t l q).off ((pairs_in s t l q).off + pair_bytes s.minimal l)
      → p ≡ q
  used_once = stretch_once

  -- a level has none left exactly when it is there and all its places are in use
  pub places_used : (l : ℕ) → NoneLeft s (view_of s t) l ↔ ((l < levels_in t) × (s.pairs ≤ pair_count s t l s.pairs))
  unfolding pair_count
  places_used l = (there, back)
    where
      f : ℕ → Bool
      f p = ltb vacant (pairs_in s t l p).tag

      there : NoneLeft s (view_of s t) l → (l < levels_in t) × (s.pairs ≤ pair_count s t l s.pairs)
      there v =
          let at : (i : ℕ) → i < s.pairs → ℕ = λ i h. (seen_pair l (v.pair i) (v.used i h)).0 in
          let below = (seen_below l (v.pair 0) (v.used 0 fit.pairs_some)).2 in
          let once = values_once s.pairs at (λ i j h k e.
          let same : v.pair i ≡ v.pair j = sym (seen_pair l (v.pair i) (v.used i h)).2 ∙ ap (stretch_of l) e ∙ (seen_pair l (v.pair j) (v.used j k)).2 in
          omega (arith, v.differ i j h k same)) in
          let each : (p : ℕ) → Mem p (values_of s.pairs at) → Mem p (picked f s.pairs) =
          λ p m.
          let w = values_only s.pairs at p m in
          let g : 0 < (E l p).tag = rw w.2 (seen_pair l (v.pair w.0) (v.used w.0 w.1)).1 in
          picked_all f s.pairs p (omega (arith, tagged_used (level_from s l) t.room p g, (sound.good l below).parted.limit)) (lt-ltb 0 (E l p).tag g) in
          (below, omega (arith, no_more (values_of s.pairs at) (picked f s.pairs) once each, values_long s.pairs at, picked_long (pair_count s t l) f refl (λ n. refl) s.pairs))

      back : (l < levels_in t) × (s.pairs ≤ pair_count s t l s.pairs) → NoneLeft s (view_of s t) l
      back w =
          let g : (p : ℕ) → p < s.pairs → 0 < (E l p).tag = λ p h. ltb-true 0 (E l p).tag ((all_counted (pair_count s t l) f refl (λ n. refl) s.pairs).1 w.1 p h) in
          record {
            pair = stretch_of l;
            used = λ p h. pair_seen l p w.0 (g p h);
            differ = λ p q h k e. stretch_once l p q w.0 (g p h) (g q k) e;
          }

  -- ---- ready sides

  -- a free piece that is a node of level j is the ready side of a pair of that level
  pub piece_ready : (j : ℕ) (r : Region) → Memᴰ r (view_of s t).free → r.end ≡ r.start + bytes s.minimal j → (p : ℕ) × (exhausted < (pairs_in s t j p).tag)
  piece_ready j r m e =
      let z = (free_seen s t fit sound r).0 m in
      let a = ap (λ (k : Region). k.start) z.is in
      let b = ap (λ (k : Region). k.end) z.is in
      let x : z.level ≤ j = bytes_lower u z.level j (minimal_pos s fit) (omega (arith, a, b, e)) in
      let y : j ≤ z.level = bytes_lower u j z.level (minimal_pos s fit) (omega (arith, a, b, e)) in
      let q : z.level ≡ j = omega arith in
      (z.pair, subst (λ (k : ℕ). exhausted < (pairs_in s t k z.pair).tag) q z.ready)

  -- and each of those is such a free piece
  pub ready_piece : (j p : ℕ) → j < levels_in t → exhausted < (pairs_in s t j p).tag → (r : Region) × Memᴰ r (view_of s t).free × (r.end ≡ r.start + bytes s.minimal j)
  ready_piece j p h k =
      let r = ready_stretch u (E j p) j in
      (r, (free_seen s t fit sound r).1 (record { level = j; low = h; pair = p; ready = k; is = refl }), refl)

-- 8's "a level that needs a new pair has none", by how many are in use, is what a user sees of loans, chunks and free pieces
pub pairs_out_seen : (s : BuddySettings) (t : Tables) → BuddyIn s → Sound s t → (size mask : ℕ) → PairsOut s size mask t ↔ PairsOutSeen s size mask (view_of s t)
pairs_out_seen s t fit sound size mask = (
  (λ w. (
    w.0,
    record { from = w.1.from; none = λ j h k r m e. let z = piece_ready s t fit sound j r m e in w.1.none j z.0 h (omega (arith, k)) z.1 },
    (places_used s t fit sound w.0).1 (w.1.there, w.2),
  )),
  (λ w.
      let o = (places_used s t fit sound w.0).0 w.2 in (
        w.0,
        record { from = w.1.from; there = o.0; none = λ j p h k x. let q = ready_piece s t fit sound j p (omega (arith, k, o.0)) x in w.1.none j h (omega (arith, k)) q.0 q.1 q.2 },
        o.1,
      )),
)
