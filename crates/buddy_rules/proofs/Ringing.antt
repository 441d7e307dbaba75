-- What becomes of a buddy store's rings as a block is lent and as one comes back: in its words it is what specs/Rings says.
use mathlib.Core.Path.{◌≡◌, refl, sym, ap, subst, ◌∙◌}
use mathlib.Core.Bool.{true, false, cond, ◌&&◌}
use mathlib.Core.Logic.{◌⊎◌, inl, inr, ⊎_elim}
use mathlib.Core.List.{List, [], ◌∷◌, ◌++◌}
use Prim.Native.Nat.{ℕ, zero, suc, ◌+◌, ◌-◌, ◌/◌, ◌^◌, ◌≤◌, ◌<◌}
use native.Mathlib.Omega.{arith}
use lib.Dec.{eqb, leb, ltb}
use lib.ListN.{length}
use borrow.Author.Tests.{eqb-true, eqb-false, eq-eqb, ne_eqb, lt-ltb, le-ltb, le-leb, lt-leb}
use Rattle.lists.proofs.Bools.{told, same?, lt_or_le}
use Rattle.counter.specs.InTable.{BuddyIn}
use Rattle.counter.specs.Limits.{levels_most}
use Rattle.counter.specs.declared.settings.BuddySettings.{BuddySettings}
use Rattle.slabs.specs.Slab.{nowhere}
use Rattle.buddy_trees.specs.Trees.{up}
use Rattle.buddy_rules.specs.Nodes.{Ent, L, node_of, other, word}
use Rattle.buddy_rules.specs.Levels.{base_of}
use Rattle.buddy_rules.specs.Returns.{entries, put, climb}
use Rattle.buddy_rules.specs.Lends.{grow, lend, head_node}
use Rattle.buddy_rules.specs.Stores.{with, piece}
use Rattle.buddy_trees.proofs.Bytes.{up_le}
use Rattle.buddy_trees.proofs.Fills.{has_in}
use Rattle.buddy_rules.proofs.Frames.{rep_loan}
use Rattle.buddy_rules.proofs.Grown.{grow_above}
use Rattle.buddy_rules.proofs.Puts.{put_other}
use Rattle.buddy_rules.specs.Level.{ent_of, pair_in, ring_head, pair_taken, dropped, backed, acquired, part}
use Rattle.buddy_rules.specs.Ringed.{Ringed, out_of, tail_of}
use Rattle.buddy_rules.proofs.Ops.{level_ops}
use Rattle.buddy_rules.proofs.Parts.{part_pair, part_head, part_taken}
use Rattle.buddy_rules.proofs.Ringed.{ringed_one, good_ringed, dropped_out, acquired_tail, backed_ringed, added_ringed, part_ringed, ringed_part}
use Rattle.buddy_rules.specs.Tables.{Tables, Lengths, levels_in, level_from, pairs_in, loan_in, live_in, high_in, top_in, tree_words}
use Rattle.buddy_rules.specs.Sound.{Sound}
use Rattle.buddy_rules.specs.Moves.{side_in, climbed, split_down, split_chunk, ready_node}
use Rattle.buddy_rules.specs.Rings.{Rings, rings_lent, rings_back}
use Rattle.buddy_rules.proofs.Abstract.{store_of, sound_store}
use Rattle.buddy_rules.proofs.Splitting.{grown_in, lent_is}
use Rattle.buddy_rules.proofs.Climbing.{Step, Path, path_same, climbed_is, loan_path}

-- ---- a sound store has rings, and each in one order

module _ (s : BuddySettings) (t : Tables) where
  -- those of Sound
  pub rings_of : Sound s t → ℕ → List ℕ
  rings_of S l = ⊎_elim (λ (h : l < levels_in t). (S.good l h).ring) (λ (h : levels_in t ≤ l). []) (lt_or_le l (levels_in t))

  pub sound_rings : (S : Sound s t) → Rings s t (rings_of S)
  unfolding rings_of
  sound_rings S l h = by (lt_or_le l (levels_in t))
    where
      by : (z : (l < levels_in t) ⊎ (levels_in t ≤ l)) → Ringed (level_from s l) s.pairs t.room (⊎_elim (λ (h : l < levels_in t). (S.good l h).ring) (λ (h : levels_in t ≤ l). []) z)
      by (inl k) = good_ringed (level_from s l) s.pairs t.room (S.good l k)
      by (inr k) = absurd (omega arith)

  module _ (small : s.pairs ≤ 2 ^ 32) where
    pub rings_one : (W Q : ℕ → List ℕ) → Rings s t W → Rings s t Q → (l : ℕ) → l < levels_in t → W l ≡ Q l
    rings_one W Q r q l h = ringed_one (level_from s l) s.pairs t.room (W l) (Q l) small (r l h) (q l h)

    -- they are those that Sound has, whichever way it was shown
    pub rings_good : (S : Sound s t) (W : ℕ → List ℕ) → Rings s t W → (l : ℕ) (h : l < levels_in t) → (S.good l h).ring ≡ W l
    rings_good S W r l h = ringed_one (level_from s l) s.pairs t.room (S.good l h).ring (W l) small (good_ringed (level_from s l) s.pairs t.room (S.good l h)) (r l h)

-- ---- how to read what becomes of them

-- of a loan
pub lent_here : (new_place : ℕ → ℕ) (lev i : ℕ) (W : ℕ → List ℕ) → rings_lent new_place lev i W i ≡ tail_of (W i)
unfolding rings_lent
lent_here new_place lev i W = rw (eq-eqb i i refl)

pub lent_new : (new_place : ℕ → ℕ) (lev i : ℕ) (W : ℕ → List ℕ) (l : ℕ) → lev ≤ l → l < i → rings_lent new_place lev i W l ≡ new_place l ∷ []
unfolding rings_lent
lent_new new_place lev i W l h k = rw (ne_eqb l i (λ e. omega arith), le-leb lev l h, lt-ltb l i k)

pub lent_other : (new_place : ℕ → ℕ) (lev i : ℕ) (W : ℕ → List ℕ) (l : ℕ) → lev ≤ i → (l < lev) ⊎ (i < l) → rings_lent new_place lev i W l ≡ W l
unfolding rings_lent
lent_other new_place lev i W l a (inl h) = rw (ne_eqb l i (λ e. omega arith), lt-leb lev l h)
lent_other new_place lev i W l a (inr h) = rw (ne_eqb l i (λ e. omega arith), le-leb lev l (omega arith), le-ltb l i (omega arith))

-- of a return: what node n's pair was told by the word of its twin
module _ (E : ℕ → ℕ → Ent) (W : ℕ → List ℕ) where
  abbrev twin : ℕ → ℕ → ℕ
  twin l n = word (other (side_in n)) (E l (n / 2))

  -- the chunk's top node has no pair
  pub back_top : (f l : ℕ) → rings_back E f l nowhere W ≡ W
  unfolding rings_back
  back_top zero l = refl
  back_top (suc f) l = refl

  -- the twin is taken: the pair joins its ring as the last, and no other ring changes
  pub back_joins : (f l n : ℕ) → (n ≡ nowhere → ⊥) → (word (other (side_in n)) (E l (n / 2)) ≡ 0 → ⊥) → rings_back E (suc f) l n W ≡ with W l (W l ++ (n / 2 ∷ []))
  unfolding rings_back
  back_joins f l n a b = rw (ne_eqb n nowhere a, ne_eqb (twin l n) 0 b)

  -- the twin is free: the pair goes, and the climb goes on
  pub back_merges : (f l n : ℕ) → (n ≡ nowhere → ⊥) → word (other (side_in n)) (E l (n / 2)) ≡ 0 → rings_back E (suc f) l n W ≡ rings_back E f (suc l) (E l (n / 2)).up (with W l (out_of (n / 2) (W l)))
  unfolding rings_back
  back_merges f l n a b = rw (ne_eqb n nowhere a, eq-eqb (twin l n) 0 b)

-- the rings below are as they were
pub back_below : (E : ℕ → ℕ → Ent) (f l n : ℕ) (W : ℕ → List ℕ) (j : ℕ) → j < l → rings_back E f l n W j ≡ W j
unfolding rings_back
back_below E zero l n W j h = refl
back_below E (suc f) l n W j h = by (told (eqb n nowhere)) (told (eqb (word (other (side_in n)) (E l (n / 2))) 0)) (back_below E f (suc l) (E l (n / 2)).up (with W l (out_of (n / 2) (W l))) j (omega arith))
  where
    by : (eqb n nowhere ≡ true) ⊎ (eqb n nowhere ≡ false) → (eqb (word (other (side_in n)) (E l (n / 2))) 0 ≡ true) ⊎ (eqb (word (other (side_in n)) (E l (n / 2))) 0 ≡ false)
        → rings_back E f (suc l) (E l (n / 2)).up (with W l (out_of (n / 2) (W l))) j ≡ with W l (out_of (n / 2) (W l)) j
        → rings_back E (suc f) l n W j ≡ W j
    by (inl a) b ih = rw a refl
    by (inr a) (inl b) ih = rw (a, b) (ih ∙ rw (ne_eqb j l (λ e. omega arith)))
    by (inr a) (inr b) ih = rw (a, b, ne_eqb j l (λ e. omega arith)) refl

-- so a pair that goes leaves of its ring the rest, from the one after it on
pub back_here : (E : ℕ → ℕ → Ent) (W : ℕ → List ℕ) (f l n : ℕ) → (n ≡ nowhere → ⊥) → word (other (side_in n)) (E l (n / 2)) ≡ 0 → rings_back E (suc f) l n W l ≡ out_of (n / 2) (W l)
back_here E W f l n a b =
    ap (λ (Q : ℕ → List ℕ). Q l) (back_merges E W f l n a b)
    ∙ back_below E f (suc l) (E l (n / 2)).up (with W l (out_of (n / 2) (W l))) l (omega arith)
    ∙ rw (eq-eqb l l refl)

module _ (pairs : ℕ) (few : pairs ≤ 2 ^ 32) where
  -- ---- a return, in the levels' words

  -- N levels that are there, W their words and Q their rings, as the climb has reached level l
  abbrev Holds : (ℕ → List ℕ) → (ℕ → List ℕ) → ℕ → Type 0
  Holds W Q N = (j : ℕ) → j < N → Ringed 0 pairs (W j) (Q j)

  -- one level's words and ring are others
  holds_put : (W Q : ℕ → List ℕ) (N l : ℕ) (v R : List ℕ) → Holds W Q N → Ringed 0 pairs v R → Holds (put (level_ops pairs few) W l v) (with Q l R) N
  holds_put W Q N l v R h r j k = ⊎_elim (λ e. rw (eq-eqb j l e) r) (λ n. rw (ne_eqb j l n) (h j k)) (same? j l)

  abbrev Back : ℕ → ℕ → Type 0
  Back f l =
      (n : ℕ) (E : ℕ → ℕ → Ent) (W Q : ℕ → List ℕ) (N : ℕ) → l + f ≤ N → ((i p : ℕ) → l ≤ i → i < N → pair_in 0 (W i) p ≡ E i p)
      → ((i : ℕ) → l ≤ i → i < N → (level_ops pairs few).Good (W i)) → Path (entries (level_ops pairs few) W) f l n → Holds W Q N
      → Holds (climb (level_ops pairs few) W f l n).levels (rings_back E f l n Q) N

  -- one step: e is the pair's entry in its level, d that of E
  climb_step : (f l n : ℕ) (E : ℕ → ℕ → Ent) (W Q : ℕ → List ℕ) (N : ℕ) → l + suc f ≤ N → ((i p : ℕ) → l ≤ i → i < N → pair_in 0 (W i) p ≡ E i p)
      → ((i : ℕ) → l ≤ i → i < N → (level_ops pairs few).Good (W i)) → Holds W Q N → Back f (suc l)
      → Step (entries (level_ops pairs few) W) l n (Path (entries (level_ops pairs few) W) f (suc l) (pair_in 0 (W l) (n / 2)).up) → (d e : Ent) → d ≡ e → e ≡ pair_in 0 (W l) (n / 2)
      → Holds
      (cond (eqb (word (other (side_in n)) e) 0) (climb (level_ops pairs few) (put (level_ops pairs few) W l (dropped 0 (n / 2) (W l))) f (suc l) e.up)
      (record { freed = false; levels = put (level_ops pairs few) W l (backed 0 (n / 2) (side_in n) (W l)) })).levels
      (cond (eqb (word (other (side_in n)) d) 0) (rings_back E f (suc l) d.up (with Q l (out_of (n / 2) (Q l)))) (with Q l (Q l ++ (n / 2 ∷ []))))
      N
  climb_step f l n E W Q N h a g r rest z d e q m = rw q (go (told (eqb (word (other (side_in n)) e) 0)))
    where
      here : (level_ops pairs few).Good (W l)
      here = g l (omega arith) (omega arith)

      own : Ringed 0 pairs (W l) (Q l)
      own = r l (omega arith)

      W' : ℕ → List ℕ
      W' = put (level_ops pairs few) W l (dropped 0 (n / 2) (W l))

      stays : (i : ℕ) → suc l ≤ i → put (level_ops pairs few) W l (dropped 0 (n / 2) (W l)) i ≡ W i
      stays i k = put_other (level_ops pairs few) W l i (dropped 0 (n / 2) (W l)) (λ b. omega arith)

      go : (eqb (word (other (side_in n)) e) 0 ≡ true) ⊎ (eqb (word (other (side_in n)) e) 0 ≡ false)
          → Holds
          (cond (eqb (word (other (side_in n)) e) 0) (climb (level_ops pairs few) (put (level_ops pairs few) W l (dropped 0 (n / 2) (W l))) f (suc l) e.up)
          (record { freed = false; levels = put (level_ops pairs few) W l (backed 0 (n / 2) (side_in n) (W l)) })).levels
          (cond (eqb (word (other (side_in n)) e) 0) (rings_back E f (suc l) e.up (with Q l (out_of (n / 2) (Q l)))) (with Q l (Q l ++ (n / 2 ∷ []))))
          N
      go (inl y) =
          let x : word (other (side_in n)) (pair_in 0 (W l) (n / 2)) ≡ 0 = ap (word (other (side_in n))) (sym m) ∙ eqb-true _ _ y in
          rw y (rest e.up E (put (level_ops pairs few) W l (dropped 0 (n / 2) (W l))) (with Q l (out_of (n / 2) (Q l))) N (omega arith)
          (λ i p k b. ap (λ (v : List ℕ). pair_in 0 v p) (stays i k) ∙ a i p (omega arith) b)
          (λ i k b. rw (stays i k) (g i (omega arith) b))
          (path_same (entries (level_ops pairs few) W) (entries (level_ops pairs few) (put (level_ops pairs few) W l (dropped 0 (n / 2) (W l)))) f (suc l) e.up (λ i p k. ap (λ (v : List ℕ). pair_in 0 v p) (stays i k)) (rw m z.above))
          (holds_put W Q N l (dropped 0 (n / 2) (W l)) (out_of (n / 2) (Q l)) r (dropped_out 0 pairs (W l) few (omega (arith, here.0)) here.1 (n / 2) (Q l) (z.ready x) own)))
      go (inr y) =
          let x : word (other (side_in n)) (pair_in 0 (W l) (n / 2)) ≡ 0 → ⊥ = λ b. eqb-false _ _ y (ap (word (other (side_in n))) m ∙ b) in
          rw y (holds_put W Q N l (backed 0 (n / 2) (side_in n) (W l)) (Q l ++ (n / 2 ∷ [])) r
          (backed_ringed 0 pairs (W l) few (omega (arith, here.0)) here.1 (n / 2) (side_in n) (Q l) (z.exhausted x) own))

  climb_rings : (f l : ℕ) → Back f l
  unfolding climb rings_back
  climb_rings zero l n E W Q N h a g p r = r
  climb_rings (suc f) l n E W Q N h a g p r = start (climb_rings f (suc l)) (same? n nowhere) p
    where
      start : Back f (suc l) → (n ≡ nowhere) ⊎ (n ≡ nowhere → ⊥) → Path (entries (level_ops pairs few) W) (suc f) l n → Holds (climb (level_ops pairs few) W (suc f) l n).levels (rings_back E (suc f) l n Q) N
      start rest (inl e) z = rw (eq-eqb n nowhere e) r
      start rest (inr e) (inl z) = absurd (e z)
      start rest (inr e) (inr z) =
          rw (ne_eqb n nowhere e)
          (climb_step f l n E W Q N h a g r rest z (E l (n / 2)) (pair_in 0 (W l) (n / 2)) (sym (a l (n / 2) (omega arith) (omega arith))) refl)

  -- ---- a loan, in the levels' words

  module _ (u lev c o k : ℕ) (W : ℕ → List ℕ) where
    -- levels below the block's are as they were
    grow_low : (n d j : ℕ) → j < lev → (grow u (level_ops pairs few) W lev c o k n d).levels j ≡ W j
    unfolding grow
    grow_low n zero j h = refl
    grow_low n (suc d) j h =
        let q = node_of (pair_taken 0 (W (up d lev))).place L in
        put_other (level_ops pairs few) (grow u (level_ops pairs few) W lev c o k q d).levels (up d lev) j _ (λ e. omega (arith, up_le d lev)) ∙ grow_low q d j h

    -- each level that is split into has its new pair alone
    grow_rings : (n d : ℕ) → ((i : ℕ) → lev ≤ i → i < up d lev → (level_ops pairs few).Good (W i)) → ((i : ℕ) → lev ≤ i → i < up d lev → (pair_taken 0 (W i)).place < pairs)
        → (j : ℕ) → lev ≤ j → j < up d lev → Ringed 0 pairs ((grow u (level_ops pairs few) W lev c o k n d).levels j) ((pair_taken 0 (W j)).place ∷ [])
    unfolding grow
    grow_rings n zero g room j h b = absurd (omega arith)
    grow_rings n (suc d) g room j h b = go (same? j (up d lev)) (grow_rings q d (λ i x y. g i x (omega arith)) (λ i x y. room i x (omega arith)) j h)
      where
        q : ℕ
        q = node_of (pair_taken 0 (W (up d lev))).place L

        go : (j ≡ up d lev) ⊎ (j ≡ up d lev → ⊥) → (j < up d lev → Ringed 0 pairs ((grow u (level_ops pairs few) W lev c o k (node_of (pair_taken 0 (W (up d lev))).place L) d).levels j) ((pair_taken 0 (W j)).place ∷ []))
            → Ringed 0 pairs ((grow u (level_ops pairs few) W lev c o k n (suc d)).levels j) ((pair_taken 0 (W j)).place ∷ [])
        go (inl e) ih =
            let m = up d lev in
            let G = g m (up_le d lev) (omega arith) in
            let top = (grow u (level_ops pairs few) W lev c o k (node_of (pair_taken 0 (W m)).place L) d).top in
            let f : (grow u (level_ops pairs few) W lev c o k (node_of (pair_taken 0 (W m)).place L) d).levels m ≡ W m = grow_above u (level_ops pairs few) (λ (i : ℕ). record { chunk = 0; at = 0; lev = 0; node = 0 }) W lev c o k (node_of (pair_taken 0 (W m)).place L) d m (omega arith) in
            rw (eq-eqb j m e, e, f) (added_ringed 0 pairs (W m) few (omega (arith, G.0)) G.1 c o n top (room m (up_le d lev) (omega arith)))
        go (inr e) ih = rw (ne_eqb j (up d lev) e) (ih (omega arith))

  -- the whole loan: i is d levels above lev
  lend_rings : (u lev d k : ℕ) (W Q : ℕ → List ℕ) (N : ℕ) → up d lev < N → ((i : ℕ) → i < N → (level_ops pairs few).Good (W i)) → (ring_head 0 (W (up d lev)) ≡ nowhere → ⊥)
      → ((i : ℕ) → lev ≤ i → i < up d lev → (pair_taken 0 (W i)).place < pairs) → Holds W Q N
      → Holds (lend u (level_ops pairs few) W lev d k) (rings_lent (λ (j : ℕ). (pair_taken 0 (W j)).place) lev (up d lev) Q) N
  unfolding lend rings_lent
  lend_rings u lev d k W Q N below g some room r j h = by (same? j (up d lev)) (lt_or_le j lev) (lt_or_le j (up d lev))
    where
      e : Ent
      e = pair_in 0 (W (up d lev)) (ring_head 0 (W (up d lev)))

      n : ℕ
      n = head_node u (level_ops pairs few) W (up d lev)

      G : (level_ops pairs few).Good (W (up d lev))
      G = g (up d lev) below

      own : (i : ℕ) → up d lev ≤ i → (grow u (level_ops pairs few) W lev e.chunk (base_of u e (up d lev)) k n d).levels i ≡ W i
      own i b = grow_above u (level_ops pairs few) (λ (i : ℕ). record { chunk = 0; at = 0; lev = 0; node = 0 }) W lev e.chunk (base_of u e (up d lev)) k n d i b

      by : (j ≡ up d lev) ⊎ (j ≡ up d lev → ⊥) → (j < lev) ⊎ (lev ≤ j) → (j < up d lev) ⊎ (up d lev ≤ j)
          → Ringed 0 pairs (lend u (level_ops pairs few) W lev d k j) (rings_lent (λ (i : ℕ). (pair_taken 0 (W i)).place) lev (up d lev) Q j)
      by (inl z) x y = rw (eq-eqb j (up d lev) z, z, own (up d lev) (omega arith)) (acquired_tail 0 pairs (W (up d lev)) few (omega (arith, G.0)) G.1 _ (Q (up d lev)) some (r (up d lev) below))
      by (inr z) (inl x) y = rw (ne_eqb j (up d lev) z, lt-leb lev j x, grow_low u lev e.chunk (base_of u e (up d lev)) k W n d j x) (r j h)
      by (inr z) (inr x) (inl y) =
          rw (ne_eqb j (up d lev) z, le-leb lev j x, lt-ltb j (up d lev) y)
          (grow_rings u lev e.chunk (base_of u e (up d lev)) k W n d (λ i a b. g i (omega arith)) room j x y)
      by (inr z) (inr x) (inr y) = rw (ne_eqb j (up d lev) z, le-leb lev j x, le-ltb j (up d lev) y, own j y) (r j h)

  -- a new chunk's top node split down through all levels from lev on
  grow_all : (u lev c o k n d : ℕ) (W Q : ℕ → List ℕ) (N : ℕ) → N ≡ up d lev → ((i : ℕ) → i < N → (level_ops pairs few).Good (W i)) → ((i : ℕ) → lev ≤ i → i < N → (pair_taken 0 (W i)).place < pairs) → Holds W Q N
      → Holds (grow u (level_ops pairs few) W lev c o k n d).levels (rings_lent (λ (j : ℕ). (pair_taken 0 (W j)).place) lev N Q) N
  unfolding rings_lent
  grow_all u lev c o k n d W Q N e g room r j h = ⊎_elim
      (λ x. rw (ne_eqb j N (λ z. omega arith), lt-leb lev j x, grow_low u lev c o k W n d j x) (r j h))
      (λ x. rw (ne_eqb j N (λ z. omega arith), le-leb lev j x, lt-ltb j N h)
      (grow_rings u lev c o k W n d (λ i a b. g i (omega arith)) (λ i a b. room i a (omega arith)) j x (omega arith)))
      (lt_or_le j lev)

-- ---- in the table

module _ (s : BuddySettings) (small : s.pairs ≤ 2 ^ 32) (t : Tables) (fit : BuddyIn s) (len : Lengths s t) (S : Sound s t) (W : ℕ → List ℕ) (rings : Rings s t W) where
  -- the climb of a return
  pub climbed_rings : (k : ℕ) → live_in t k ≡ true → (l : ℕ) → l < levels_in t
      → Ringed (level_from s l) s.pairs (climbed s.pairs (levels_in t - (loan_in s t k).lev) (loan_in s t k).lev (loan_in s t k).node t.room).room
      (rings_back (pairs_in s t) (levels_in t - (loan_in s t k).lev) (loan_in s t k).lev (loan_in s t k).node W l)
  climbed_rings k live l h =
      let lev = (loan_in s t k).lev in
      let n = (loan_in s t k).node in
      let f = levels_in t - lev in
      let A = sound_store s small t fit len S in
      let P = loan_path s small t fit len S k live in
      let r = climb_rings s.pairs small f lev n (pairs_in s t) (store_of s small t).levels W (levels_in t) (omega (arith, P.0))
      (λ i p a b. sym (part_pair s.pairs i t.room p (S.good i b).parted.limit))
      (λ i a b. A.good i b) P.1 (λ j b. part_ringed s.pairs j t.room (W j) (rings j b)) l h in
      ringed_part s.pairs l _ _ (subst (λ (v : List ℕ). Ringed 0 s.pairs v (rings_back (pairs_in s t) f lev n W l)) (sym ((climbed_is s small t fit len S k live).1 l (omega (arith, S.levels_most_lem)))) r)

  -- a ready side of level i split down, d levels, to level lev
  pub lent_rings : (lev d k : ℕ) → up d lev < levels_in t → (ring_head (level_from s (up d lev)) t.room ≡ nowhere → ⊥)
      → ((i : ℕ) → lev ≤ i → i < up d lev → (pair_taken (level_from s i) t.room).place < s.pairs)
      → let e = ent_of (level_from s (up d lev)) t.room (ring_head (level_from s (up d lev)) t.room) in
      let r = split_down s.pairs lev e.chunk (base_of s.minimal e (up d lev)) k (ready_node s.pairs (up d lev) t.room) d (acquired (level_from s (up d lev)) 0 t.room) in
      (l : ℕ) → l < levels_in t → Ringed (level_from s l) s.pairs r.room (rings_lent (λ (j : ℕ). (pair_taken (level_from s j) t.room).place) lev (up d lev) W l)
  unfolding rings_lent
  lent_rings lev d k below some room l h =
      let A = sound_store s small t fit len S in
      let U = (store_of s small t).levels in
      let new_place : (i : ℕ) → i < levels_in t → (pair_taken (level_from s i) t.room).place ≡ (pair_taken 0 (U i)).place = λ i b. ap (λ z. z.place) (part_taken s.pairs i t.room (S.good i b)) in
      let some_in : ring_head 0 (U (up d lev)) ≡ nowhere → ⊥ = λ e. some (part_head s.pairs (up d lev) t.room ∙ e) in
      let room_in : (i : ℕ) → lev ≤ i → i < up d lev → (pair_taken 0 (U i)).place < s.pairs = λ i a b. let e = new_place i (omega arith) in rw (← e) (room i a b) in
      let r = lend_rings s.pairs small s.minimal lev d k U W (levels_in t) below (λ i b. A.good i b) some_in room_in (λ j b. part_ringed s.pairs j t.room (W j) (rings j b)) l h in
      let i = up d lev in
      ringed_part s.pairs l _ _
      (subst (λ (v : List ℕ). Ringed 0 s.pairs v (cond (eqb l i) (tail_of (W l)) (cond (leb lev l && ltb l i) ((pair_taken (level_from s l) t.room).place ∷ []) (W l))))
      (sym ((lent_is s small t fit len S lev d k below some_in room_in).1 l (omega (arith, S.levels_most_lem))))
      (subst (λ (q : ℕ). Ringed 0 s.pairs (lend s.minimal (level_ops s.pairs small) U lev d k l) (cond (eqb l i) (tail_of (W l)) (cond (leb lev l && ltb l i) (q ∷ []) (W l)))) (sym (new_place l h)) r))

  -- a new chunk's left end lent: x is the tree with the chunk entered
  pub served_rings : (x : List ℕ) → length x ≡ tree_words s → ((i : ℕ) → i < levels_most → part s.pairs i x ≡ part s.pairs i t.room) → (lev d c k : ℕ) → levels_in t ≡ up (suc d) lev
      → ((i : ℕ) → lev ≤ i → i < levels_in t → (pair_taken (level_from s i) t.room).place < s.pairs)
      → (l : ℕ) → l < levels_in t → Ringed (level_from s l) s.pairs (split_chunk s.pairs lev c k d x).room (rings_lent (λ (j : ℕ). (pair_taken (level_from s j) t.room).place) lev (levels_in t) W l)
  unfolding rings_lent
  served_rings x long same lev d c k top room l h =
      let A = sound_store s small t fit len S in
      let U = (store_of s small t).levels in
      let i = levels_in t in
      let new_place : (j : ℕ) → j < levels_in t → (pair_taken (level_from s j) t.room).place ≡ (pair_taken 0 (U j)).place = λ j b. ap (λ z. z.place) (part_taken s.pairs j t.room (S.good j b)) in
      let room_in : (j : ℕ) → lev ≤ j → j < levels_in t → (pair_taken 0 (U j)).place < s.pairs = λ j a b. let e = new_place j b in rw (← e) (room j a b) in
      let r = grow_all s.pairs small s.minimal lev c 0 k nowhere (suc d) U W (levels_in t) top (λ j b. A.good j b) room_in (λ j b. part_ringed s.pairs j t.room (W j) (rings j b)) l h in
      let cut = grown_in s small x U fit long same lev d c k (omega (arith, top, S.levels_most_lem)) (λ j a b. (A.good j (omega (arith, top))).1) (λ j a b. room_in j a (omega (arith, top))) in
      ringed_part s.pairs l _ _
      (subst (λ (v : List ℕ). Ringed 0 s.pairs v (cond (eqb l i) (tail_of (W l)) (cond (leb lev l && ltb l i) ((pair_taken (level_from s l) t.room).place ∷ []) (W l))))
      (sym (cut.1 l (omega (arith, S.levels_most_lem))))
      (subst (λ (q : ℕ). Ringed 0 s.pairs ((grow s.minimal (level_ops s.pairs small) U lev c 0 k nowhere (suc d)).levels l) (cond (eqb l i) (tail_of (W l)) (cond (leb lev l && ltb l i) (q ∷ []) (W l)))) (sym (new_place l h)) r))

-- a loan whose node is not its chunk's top lies below the top level
pub loan_under : (s : BuddySettings) (t : Tables) → Sound s t → (k : ℕ) → live_in t k ≡ true → ((loan_in s t k).node ≡ nowhere → ⊥) → (loan_in s t k).lev < levels_in t
loan_under s t S k live ne =
    let c = (loan_in s t k).chunk in
    let y = piece (loan_in s t k) k in
    let h = S.standing.has k live in
    let m = (has_in s.minimal (high_in s t c) 0 (S.standing.trees c) y h.1).2 in
    let r = (rep_loan s.minimal (pairs_in s t) (loan_in s t) c (high_in s t c) 0 nowhere (top_in s t c) (S.standing.trees c) y k (S.standing.rep c h.0) h.1 refl).3 in
    ⊎_elim (λ (e : (loan_in s t k).lev ≡ high_in s t c). absurd (ne (r e))) (λ (e : (loan_in s t k).lev ≡ high_in s t c → ⊥). omega (arith, m, (S.standing.sized c h.0).3)) (same? (loan_in s t k).lev (high_in s t c))
