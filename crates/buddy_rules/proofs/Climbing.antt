-- The return in words is the abstract one: the climb from a loan's node does to the tree's words what it does to their levels.
use mathlib.Core.Path.{◌≡◌, refl, sym, ap, ◌∙◌}
use mathlib.Core.Bool.{true, false, cond}
use mathlib.Core.Logic.{◌⊎◌, inl, inr, ⊎_elim}
use mathlib.Core.List.{List}
use Prim.Native.Nat.{ℕ, zero, suc, ◌+◌, ◌-◌, ◌/◌, ◌^◌, ◌≤◌, ◌<◌}
use native.Mathlib.Omega.{arith}
use lib.Dec.{eqb}
use lib.ListN.{length, get_or}
use borrow.Author.Tests.{eqb-true, eqb-false, eq-eqb, ne_eqb}
use Rattle.lists.proofs.Bools.{told, same?}
use Rattle.counter.specs.Limits.{levels_most}
use Rattle.counter.specs.InTable.{BuddyIn}
use Rattle.counter.specs.declared.settings.BuddySettings.{BuddySettings}
use Rattle.slabs.specs.Slab.{nowhere}
use Rattle.buddy_trees.specs.Trees.{Tree, free, loan, split, bytes, Piece, Has}
use Rattle.buddy_trees.proofs.Fills.{has_in}
use Rattle.buddy_rules.specs.Nodes.{Ent, Loan, Side, L, R, other, node_of, word, pair_said, is_free, Rep}
use Rattle.buddy_rules.specs.Returns.{entries, put, Out, out, climb}
use Rattle.buddy_rules.specs.Stores.{piece}
use Rattle.buddy_rules.proofs.Frames.{rep_taken}
use Rattle.buddy_rules.proofs.Sides.{tag_one, tag_ready, tag_any, NodeBy, to_side, not_free, has_taken}
use Rattle.buddy_rules.proofs.Puts.{put_other}
use Rattle.buddy_rules.proofs.Climbs.{node_pair, node_side}
use Rattle.buddy_rules.specs.Level.{ent_of, pair_in, dropped, backed, Good, part}
use Rattle.buddy_rules.proofs.Ops.{level_ops}
use Rattle.buddy_rules.proofs.Cells.{pair_used, tagged_used}
use Rattle.buddy_rules.proofs.Parts.{part_pair, part_good, part_dropped, part_backed}
use Rattle.buddy_rules.proofs.Within.{Within}
use Rattle.buddy_rules.specs.Tables.{Tables, Lengths, levels_in, level_from, chunks_from, loan_in, live_in, high_in, top_in}
use Rattle.buddy_rules.specs.Sound.{Sound}
use Rattle.buddy_rules.specs.Moves.{side_in, Climbed, climbed}
use Rattle.buddy_rules.proofs.Abstract.{store_of, levels_in_lem, tree_in, sound_store}

-- ---- the way up from a node

-- node n of level l is a side of a pair in use that is taken: its twin is free and the pair is ready, or the pair is
-- exhausted; and so on above, as A says
pub record Step (E : ℕ → ℕ → Ent) (l n : ℕ) (A : Type 0) : Type 0 where
  pub used : 0 < (E l (n / 2)).tag
  pub ready : word (other (side_in n)) (E l (n / 2)) ≡ 0 → 1 < (E l (n / 2)).tag
  pub exhausted : (word (other (side_in n)) (E l (n / 2)) ≡ 0 → ⊥) → (E l (n / 2)).tag ≡ 1
  pub above : A

-- as far as f levels up, or to the chunk's top
abbrev pub Path : (ℕ → ℕ → Ent) → ℕ → ℕ → ℕ → Type 0
Path E zero l n = Unit {0}
Path E (suc f) l n = (n ≡ nowhere) ⊎ Step E l n (Path E f (suc l) (E l (n / 2)).up)

path_top : (E : ℕ → ℕ → Ent) (f l : ℕ) → Path E f l nowhere
path_top E zero l = tt
path_top E (suc f) l = inl refl

-- what is done below leaves it
pub path_same : (E E' : ℕ → ℕ → Ent) (f l n : ℕ) → ((i p : ℕ) → l ≤ i → E' i p ≡ E i p) → Path E f l n → Path E' f l n
path_same E E' zero l n e p = tt
path_same E E' (suc f) l n e (inl z) = inl z
path_same E E' (suc f) l n e (inr z) =
    let q : E' l (n / 2) ≡ E l (n / 2) = e l (n / 2) (omega arith) in
    inr (record {
      used = rw q z.used;
      ready = λ h. rw q (z.ready (ap (word (other (side_in n))) (sym q) ∙ h));
      exhausted = λ h. rw q (z.exhausted (λ g. h (ap (word (other (side_in n))) q ∙ g)));
      above = rw q (path_same E E' f (suc l) (E l (n / 2)).up (λ i p h. e i p (omega arith)) z.above);
    })

module _ (u : ℕ) (E : ℕ → ℕ → Ent) (K : ℕ → Loan) where
  path_side : (c l o n w f : ℕ) (s : Side) (x y : Tree) → NodeBy u E K c l o n w s x y → is_free x ≡ false → Path E f (suc l) n → Path E (suc f) l (node_of (pair_said w) s)
  path_side c l o n w f s x y r t p =
      let q = pair_said w in
      let i : node_of q s / 2 ≡ q = node_pair q s in
      let j : side_in (node_of q s) ≡ s = node_side q s in
      let e : word (other (side_in (node_of q s))) (E l (node_of q s / 2)) ≡ word (other s) (E l q) = rw (i, j) in
      let g : (E l (node_of q s / 2)).tag ≡ (E l q).tag = rw i in
      inr (record {
        used = rw (g, r.tag) (tag_any s x y);
        ready = λ h. rw (g, r.tag) (tag_ready s x y (free_word_lem (sym e ∙ h)));
        exhausted = λ h. g ∙ r.tag ∙ tag_one s x y t (not_free u E K c l _ _ (word (other s) (E l q)) y r.twin (λ z. h (e ∙ z)));
        above = rw (i, r.up) p;
      })
    where
      free_word_lem : word (other s) (E l (pair_said w)) ≡ 0 → is_free y ≡ true
      free_word_lem z = ⊎_elim (λ a. a) (λ a. absurd (rep_taken u E K c l _ _ (word (other s) (E l (pair_said w))) y r.twin a z)) (told (is_free y))

  -- from a loan's node up to the tree's own, and on from there
  path_loan : (c l o n w f : ℕ) (t : Tree) (y : Piece) (k F : ℕ) → Rep u E K c l o n w t → Has u l o t y → y.who ≡ k + 1 → y.lev + F ≡ l + f → Path E f l n → Path E F y.lev (K k).node
  path_loan c l o n w f free y k F r h e z p = absurd h
  path_loan c l o n w f (loan j) y k F r h e z p =
      let i : k ≡ j = omega (arith, h.2) in
      let q : F ≡ f = omega (arith, h.1) in
      let m : (K k).node ≡ n = ap (λ d. d.node) (ap K i ∙ r.1) in
      rw (h.1, q, m) p
  path_loan c zero o n w f (split a b) y k F r h e z p = absurd h
  path_loan c (suc l) o n w f (split a b) y k F r (inl h) e z p =
      path_loan c l o (node_of (pair_said w) L) (E l (pair_said w)).left (suc f) a y k F r.this h e (omega arith)
      (path_side c l o n w f L a b r (has_taken u l o a y h) p)
  path_loan c (suc l) o n w f (split a b) y k F r (inr h) e z p =
      path_loan c l (o + bytes u l) (node_of (pair_said w) R) (E l (pair_said w)).right (suc f) b y k F r.twin h e (omega arith)
      (path_side c l o n w f R b a (to_side u E K c l o n w R b a r) (has_taken u l (o + bytes u l) b y h) p)

-- ---- the climb

module _ (s : BuddySettings) (small : s.pairs ≤ 2 ^ 32) where
  -- the words are those of the levels, and the others are as they were
  abbrev Alike : List ℕ → Climbed → Out (level_ops s.pairs small) → Type 0
  Alike t r q =
      (r.freed ≡ q.freed) × ((i : ℕ) → i < levels_most → part s.pairs i r.room ≡ q.levels i)
      × ((i : ℕ) → chunks_from s ≤ i → get_or r.room i 0 ≡ get_or t i 0) × (length r.room ≡ length t)

  abbrev Agree : List ℕ → (ℕ → List ℕ) → Type 0
  Agree t W = (i : ℕ) → i < levels_most → part s.pairs i t ≡ W i

  -- one level changes, in words and by itself
  agree_put : (l : ℕ) (t t' v : List ℕ) (W : ℕ → List ℕ) → Agree t W → Within s.pairs l t t' v → (v' : List ℕ) → v ≡ v' → Agree t' (put (level_ops s.pairs small) W l v')
  agree_put l t t' v W a D v' e i h =
      ⊎_elim (λ z. rw (eq-eqb i l z, z) (D.here ∙ e)) (λ z. rw (ne_eqb i l z) (D.others i z ∙ a i h)) (same? i l)

  module _ (l n : ℕ) (t : List ℕ) (W : ℕ → List ℕ) (low : l < levels_most) (a : Agree t W) (g : Good 0 s.pairs (W l)) where
    good_in : Good (level_from s l) s.pairs t
    good_in = (part_good s.pairs l t).1 (rw (a l low) g)

    pair_in_lem : pair_in (level_from s l) t (n / 2) ≡ pair_in 0 (W l) (n / 2)
    pair_in_lem = part_pair s.pairs l t (n / 2) good_in.parted.limit ∙ ap (λ (v : List ℕ). pair_in 0 v (n / 2)) (a l low)

    ent_in : 0 < (pair_in 0 (W l) (n / 2)).tag → ent_of (level_from s l) t (n / 2) ≡ pair_in 0 (W l) (n / 2)
    ent_in h = let k : 0 < (pair_in (level_from s l) t (n / 2)).tag = rw pair_in_lem h in sym (pair_used (level_from s l) t (n / 2) (tagged_used (level_from s l) t (n / 2) k)) ∙ pair_in_lem

    drop_in : 1 < (pair_in 0 (W l) (n / 2)).tag → Within s.pairs l t (dropped (level_from s l) (n / 2) t) (dropped 0 (n / 2) (part s.pairs l t))
    drop_in h = part_dropped s.pairs l t good_in (n / 2) (rw pair_in_lem h)

    back_in : (d : Side) → (pair_in 0 (W l) (n / 2)).tag ≡ 1 → Within s.pairs l t (backed (level_from s l) (n / 2) d t) (backed 0 (n / 2) d (part s.pairs l t))
    back_in d h = part_backed s.pairs l t good_in (n / 2) d (rw pair_in_lem h)

  -- a climb that goes on from t', which has t's words past the levels
  alike_on : (l : ℕ) (t t' v : List ℕ) (r : Climbed) (q : Out (level_ops s.pairs small)) → l < levels_most → Within s.pairs l t t' v → Alike t' r q → Alike t r q
  alike_on l t t' v r q h D x = (x.0, x.1, (λ i k. x.2 i k ∙ D.past i (omega (arith, levels_in_lem s l h))), x.3 ∙ D.long)

  -- the climbs from one level up on, for tables and levels that agree
  abbrev Rest : ℕ → ℕ → Type 0
  Rest f l =
      (n : ℕ) (t : List ℕ) (W : ℕ → List ℕ) → l + f ≤ levels_most → Agree t W → ((i : ℕ) → l ≤ i → i < l + f → Good 0 s.pairs (W i))
      → Path (entries (level_ops s.pairs small) W) f l n → Alike t (climbed s.pairs f l n t) (climb (level_ops s.pairs small) W f l n)

  -- one step: e is the pair's entry in the table, d that of the level alone
  climb_step : (f l n : ℕ) (t : List ℕ) (W : ℕ → List ℕ) → l + suc f ≤ levels_most → Agree t W → ((i : ℕ) → l ≤ i → i < l + suc f → Good 0 s.pairs (W i))
      → Rest f (suc l) → Step (entries (level_ops s.pairs small) W) l n (Path (entries (level_ops s.pairs small) W) f (suc l) (pair_in 0 (W l) (n / 2)).up) → (e d : Ent) → e ≡ d → d ≡ pair_in 0 (W l) (n / 2)
      → Alike t
      (cond (eqb (word (other (side_in n)) e) 0) (climbed s.pairs f (suc l) e.up (dropped (level_from s l) (n / 2) t))
      (record { freed = false; room = backed (level_from s l) (n / 2) (side_in n) t }))
      (cond (eqb (word (other (side_in n)) d) 0) (climb (level_ops s.pairs small) (put (level_ops s.pairs small) W l (dropped 0 (n / 2) (W l))) f (suc l) d.up)
      (out (level_ops s.pairs small) false (put (level_ops s.pairs small) W l (backed 0 (n / 2) (side_in n) (W l)))))
  climb_step f l n t W h a g rest z e d q m = rw q (go (told (eqb (word (other (side_in n)) d) 0)))
    where
      low : l < levels_most
      low = omega arith

      here : Good 0 s.pairs (W l)
      here = g l (omega arith) (omega arith)

      go : (eqb (word (other (side_in n)) d) 0 ≡ true) ⊎ (eqb (word (other (side_in n)) d) 0 ≡ false)
          → Alike t
          (cond (eqb (word (other (side_in n)) d) 0) (climbed s.pairs f (suc l) d.up (dropped (level_from s l) (n / 2) t))
          (record { freed = false; room = backed (level_from s l) (n / 2) (side_in n) t }))
          (cond (eqb (word (other (side_in n)) d) 0) (climb (level_ops s.pairs small) (put (level_ops s.pairs small) W l (dropped 0 (n / 2) (W l))) f (suc l) d.up)
          (out (level_ops s.pairs small) false (put (level_ops s.pairs small) W l (backed 0 (n / 2) (side_in n) (W l)))))
      go (inl y) =
          let x : word (other (side_in n)) (pair_in 0 (W l) (n / 2)) ≡ 0 = ap (word (other (side_in n))) (sym m) ∙ eqb-true _ _ y in
          let D = drop_in l n t W low a here (z.ready x) in
          let W' : ℕ → List ℕ = put (level_ops s.pairs small) W l (dropped 0 (n / 2) (W l)) in
          let stays : (i : ℕ) → suc l ≤ i → W' i ≡ W i = λ i k. put_other (level_ops s.pairs small) W l i (dropped 0 (n / 2) (W l)) (λ b. omega arith) in
          rw y (alike_on l t (dropped (level_from s l) (n / 2) t) _ _ _ low D
          (rest d.up (dropped (level_from s l) (n / 2) t) W' (omega arith) (agree_put l t _ _ W a D (dropped 0 (n / 2) (W l)) (ap (dropped 0 (n / 2)) (a l low)))
          (λ i k j. rw (stays i k) (g i (omega arith) (omega arith)))
          (path_same (entries (level_ops s.pairs small) W) (entries (level_ops s.pairs small) W') f (suc l) d.up (λ i p k. ap (λ (v : List ℕ). pair_in 0 v p) (stays i k)) (rw m z.above))))
      go (inr y) =
          let x : word (other (side_in n)) (pair_in 0 (W l) (n / 2)) ≡ 0 → ⊥ = λ b. eqb-false _ _ y (ap (word (other (side_in n))) m ∙ b) in
          let D = back_in l n t W low a here (side_in n) (z.exhausted x) in
          rw y (
            refl,
            agree_put l t _ _ W a D (backed 0 (n / 2) (side_in n) (W l)) (ap (backed 0 (n / 2) (side_in n)) (a l low)),
            (λ i k. D.past i (omega (arith, levels_in_lem s l low))),
            D.long,
          )

  climb_is : (f l : ℕ) → Rest f l
  unfolding climbed climb
  climb_is zero l n t W h a g p = (refl, a, (λ i k. refl), refl)
  climb_is (suc f) l n t W h a g p = start (climb_is f (suc l)) (same? n nowhere) p
    where
      start : Rest f (suc l) → (n ≡ nowhere) ⊎ (n ≡ nowhere → ⊥) → Path (entries (level_ops s.pairs small) W) (suc f) l n → Alike t (climbed s.pairs (suc f) l n t) (climb (level_ops s.pairs small) W (suc f) l n)
      start rest (inl e) z = rw (eq-eqb n nowhere e) (refl, a, (λ i k. refl), refl)
      start rest (inr e) (inl z) = absurd (e z)
      start rest (inr e) (inr z) =
          rw (ne_eqb n nowhere e)
          (climb_step f l n t W h a g rest z (ent_of (level_from s l) t (n / 2)) (pair_in 0 (W l) (n / 2)) (ent_in l n t W (omega arith) a (g l (omega arith) (omega arith)) z.used) refl)

  pub climbed_is : (t : Tables) → BuddyIn s → Lengths s t → Sound s t → (k : ℕ) → live_in t k ≡ true
      → let f = levels_in t - (loan_in s t k).lev in
      let r = climbed s.pairs f (loan_in s t k).lev (loan_in s t k).node t.room in
      let q = climb (level_ops s.pairs small) (λ (i : ℕ). part s.pairs i t.room) f (loan_in s t k).lev (loan_in s t k).node in
      (r.freed ≡ q.freed) × ((i : ℕ) → i < levels_most → part s.pairs i r.room ≡ q.levels i)
      × ((i : ℕ) → chunks_from s ≤ i → get_or r.room i 0 ≡ get_or t.room i 0) × (length r.room ≡ length t.room)
  climbed_is t fit len S k h =
      let u = s.minimal in
      let A = sound_store s small t fit len S in
      let c = (loan_in s t k).chunk in
      let y = piece (loan_in s t k) k in
      let T = tree_in t S.standing.trees c in
      let m : levels_in t ≤ levels_most = S.levels_most_lem in
      let x : high_in s t c ≤ levels_in t = A.tall c in
      let z : (loan_in s t k).lev ≤ high_in s t c = (has_in u (high_in s t c) 0 T y (A.has k h)).2 in
      climb_is (levels_in t - (loan_in s t k).lev) (loan_in s t k).lev (loan_in s t k).node t.room (λ (i : ℕ). part s.pairs i t.room) (omega arith) (λ i j. refl)
      (λ i j b. (A.good i (omega arith)).1)
      (path_loan u (entries (level_ops s.pairs small) (store_of s small t).levels) (loan_in s t) c (high_in s t c) 0 nowhere (top_in s t c) (levels_in t - high_in s t c) T y k (levels_in t - (loan_in s t k).lev) (A.rep c) (A.has k h) refl (omega arith)
      (path_top (entries (level_ops s.pairs small) (store_of s small t).levels) (levels_in t - high_in s t c) (high_in s t c)))

  -- the way up from a loan's node, as far as the levels go
  pub loan_path : (t : Tables) → BuddyIn s → Lengths s t → Sound s t → (k : ℕ) → live_in t k ≡ true
      → ((loan_in s t k).lev ≤ levels_in t) × Path (entries (level_ops s.pairs small) (store_of s small t).levels) (levels_in t - (loan_in s t k).lev) (loan_in s t k).lev (loan_in s t k).node
  loan_path t fit len S k h =
      let u = s.minimal in
      let A = sound_store s small t fit len S in
      let c = (loan_in s t k).chunk in
      let y = piece (loan_in s t k) k in
      let T = tree_in t S.standing.trees c in
      let x : high_in s t c ≤ levels_in t = A.tall c in
      let z : (loan_in s t k).lev ≤ high_in s t c = (has_in u (high_in s t c) 0 T y (A.has k h)).2 in (
        omega arith,
        path_loan u (entries (level_ops s.pairs small) (store_of s small t).levels) (loan_in s t) c (high_in s t c) 0 nowhere (top_in s t c) (levels_in t - high_in s t c) T y k (levels_in t - (loan_in s t k).lev) (A.rep c) (A.has k h) refl (omega arith)
            (path_top (entries (level_ops s.pairs small) (store_of s small t).levels) (levels_in t - high_in s t c) (high_in s t c)),
      )
