-- The pairs and loans that walks meet, as a list of numbers: none stands twice, since each says where it is.
use mathlib.Core.Path.{◌≡◌, refl, sym, ap, ◌∙◌}
use mathlib.Core.Bool.{Bool, true, cond}
use mathlib.Core.Logic.{inl, inr, ⊎_elim}
use mathlib.Core.List.{List, [], ◌∷◌, ◌++◌}
use Prim.Native.Nat.{ℕ, zero, suc, ◌+◌, ◌*◌, ◌-◌, ◌/◌, ◌%◌, ◌≤◌, ◌<◌}
use native.Mathlib.Omega.{arith}
use lib.Dec.{eqb}
use lib.ListN.{length, length-append}
use borrow.Author.Tests.{ne_eqb}
use Rattle.lists.specs.Members.{Mem, Distinct}
use Rattle.lists.proofs.Members.{mem_not, mem_left, mem_right, mem_cases, distinct_append}
use Rattle.buddy_trees.specs.Trees.{Tree, free, loan, split, bytes, Piece, Has}
use Rattle.buddy_trees.proofs.Bytes.{bytes_suc, bytes_pos}
use Rattle.buddy_rules.specs.Nodes.{Ent, Loan, L, pair_said}
use Rattle.buddy_rules.specs.Stores.{piece}
use Rattle.buddy_rules.proofs.Sides.{tag_any}
use Rattle.buddy_rules.proofs.Shapes.{Shape}
use Rattle.buddy_rules.proofs.Stands.{Met}
use Rattle.buddy_rules.proofs.CountDown.{met}

-- ---- loan k is item 0 k, and pair p of level l is item (l + 1) p: the first part is below 64

abbrev pub item : ℕ → ℕ → ℕ
item i p = 64 * p + i

pub item_kind : (i p : ℕ) → i < 64 → item i p % 64 ≡ i
item_kind i p h = omega arith

pub item_place : (i p : ℕ) → i < 64 → item i p / 64 ≡ p
item_place i p h = omega arith

-- those of the tree at a node of level l whose word is w
abbrev pub items : (ℕ → ℕ → Ent) → ℕ → ℕ → Tree → List ℕ
items E l w free = []
items E l w (loan k) = item 0 k ∷ []
items E zero w (split a b) = []
items E (suc l) w (split a b) = item (suc l) (pair_said w) ∷ (items E l (E l (pair_said w)).left a ++ items E l (E l (pair_said w)).right b)

module _ (E : ℕ → ℕ → Ent) (K : ℕ → Loan) where
  -- the chunk and the offset that an item says
  unfoldable pub chunk_said : ℕ → ℕ
  chunk_said x = cond (eqb (x % 64) 0) (K (x / 64)).chunk (E (x % 64 - 1) (x / 64)).chunk

  unfoldable pub off_said : ℕ → ℕ
  off_said x = cond (eqb (x % 64) 0) (K (x / 64)).at (E (x % 64 - 1) (x / 64)).off

  pub loan_says : (k : ℕ) → (chunk_said (item 0 k) ≡ (K k).chunk) × (off_said (item 0 k) ≡ (K k).at)
  unfolding chunk_said off_said
  loan_says k = rw (item_kind 0 k (omega arith), item_place 0 k (omega arith)) (refl, refl)

  pub pair_says : (l p : ℕ) → l < 63 → (chunk_said (item (suc l) p) ≡ (E l p).chunk) × (off_said (item (suc l) p) ≡ (E l p).off)
  unfolding chunk_said off_said
  pair_says l p h =
      let e : suc l - 1 ≡ l = omega arith in
      rw (item_kind (suc l) p (omega arith), item_place (suc l) p (omega arith), ne_eqb (suc l) 0 (λ z. omega arith), e) (refl, refl)

  -- an item of level l or below, that lies in the node of level l at o of chunk c
  abbrev pub Lies : ℕ → ℕ → ℕ → ℕ → ℕ → Type 0
  Lies u c l o x = (x % 64 ≤ l) × (chunk_said x ≡ c) × (o ≤ off_said x) × (off_said x < o + bytes u l)

  module _ (u : ℕ) (pu : 0 < u) (live : ℕ → Bool) (size : ℕ → ℕ) where
    pub item_lies : (c l o n w : ℕ) (t : Tree) (x : ℕ) → l < 64 → Shape u E K live size c l o n w t → Mem x (items E l w t) → Lies u c l o x
    item_lies c l o n w free x h r m = absurd m
    item_lies c l o n w (loan k) x h r (inl e) =
        let a : chunk_said x ≡ c = ap chunk_said e ∙ (loan_says k).0 ∙ ap (λ (d : Loan). d.chunk) r.1.is in
        let b : off_said x ≡ o = ap off_said e ∙ (loan_says k).1 ∙ ap (λ (d : Loan). d.at) r.1.is in
        (omega arith, a, omega arith, omega (arith, bytes_pos u l pu))
    item_lies c l o n w (loan k) x h r (inr m) = absurd m
    item_lies c zero o n w (split a b) x h r m = absurd r
    item_lies c (suc l) o n w (split a b) x h r (inl e) =
        let z = pair_says l (pair_said w) (omega arith) in
        let a : chunk_said x ≡ c = ap chunk_said e ∙ z.0 ∙ r.chunk in
        let b : off_said x ≡ o = ap off_said e ∙ z.1 ∙ r.off in
        let d : x % 64 ≡ suc l = ap (λ (i : ℕ). i % 64) e ∙ item_kind (suc l) (pair_said w) h in
        (omega arith, a, omega arith, omega (arith, bytes_pos u (suc l) pu))
    item_lies c (suc l) o n w (split a b) x h r (inr m) =
        ⊎_elim
        (λ i. let j = item_lies c l o (2 * pair_said w) (E l (pair_said w)).left a x (omega arith) r.this i in (omega (arith, j.0), j.1, j.2, omega (arith, j.3, bytes_suc u l)))
        (λ i. let j = item_lies c l (o + bytes u l) (2 * pair_said w + 1) (E l (pair_said w)).right b x (omega arith) r.twin i in (omega (arith, j.0), j.1, omega (arith, j.2), omega (arith, j.3, bytes_suc u l)))
        (mem_cases x (items E l (E l (pair_said w)).left a) (items E l (E l (pair_said w)).right b) m)

    -- none stands twice
    pub items_once : (c l o n w : ℕ) (t : Tree) → l < 64 → Shape u E K live size c l o n w t → Distinct (items E l w t)
    items_once c l o n w free h r = tt
    items_once c l o n w (loan k) h r = (tt, tt)
    items_once c zero o n w (split a b) h r = absurd r
    items_once c (suc l) o n w (split a b) h r =
        let v = (E l (pair_said w)).left in
        let y = (E l (pair_said w)).right in
        let first : (x : ℕ) → Mem x (items E l v a) → Lies u c l o x = λ x m. item_lies c l o (2 * pair_said w) v a x (omega arith) r.this m in
        let second : (x : ℕ) → Mem x (items E l y b) → Lies u c l (o + bytes u l) x = λ x m. item_lies c l (o + bytes u l) (2 * pair_said w + 1) y b x (omega arith) r.twin m in
        let own : item (suc l) (pair_said w) % 64 ≡ suc l = item_kind (suc l) (pair_said w) h in (
          mem_not (item (suc l) (pair_said w)) (items E l v a ++ items E l y b) (λ m. ⊎_elim
              (λ i. omega (arith, own, (first (item (suc l) (pair_said w)) i).0))
              (λ i. omega (arith, own, (second (item (suc l) (pair_said w)) i).0))
              (mem_cases (item (suc l) (pair_said w)) (items E l v a) (items E l y b) m)),
          distinct_append (items E l v a) (items E l y b)
              (items_once c l o (2 * pair_said w) v a (omega arith) r.this)
              (items_once c l (o + bytes u l) (2 * pair_said w + 1) y b (omega arith) r.twin)
              (λ x i j. omega (arith, (first x i).3, (second x j).2)),
        )

    -- as many as the tree has
    pub items_long : (c l o n w : ℕ) (t : Tree) → Shape u E K live size c l o n w t → length (items E l w t) ≡ met t
    items_long c l o n w free r = refl
    items_long c l o n w (loan k) r = refl
    items_long c zero o n w (split a b) r = absurd r
    items_long c (suc l) o n w (split a b) r =
        omega (
          arith,
          length-append (items E l (E l (pair_said w)).left a) (items E l (E l (pair_said w)).right b),
          items_long c l o (2 * pair_said w) (E l (pair_said w)).left a r.this,
          items_long c l (o + bytes u l) (2 * pair_said w + 1) (E l (pair_said w)).right b r.twin,
        )

    -- each is a pair in use or a loan, so in a list that has all of those
    pub items_used : (U : List ℕ) (levels : ℕ) → ((i p : ℕ) → i < levels → 0 < (E i p).tag → Mem (item (suc i) p) U) → ((k : ℕ) → live k ≡ true → Mem (item 0 k) U)
        → (c l o n w : ℕ) (t : Tree) (x : ℕ) → l ≤ levels → Shape u E K live size c l o n w t → Mem x (items E l w t) → Mem x U
    items_used U levels pairs loans c l o n w free x h r m = absurd m
    items_used U levels pairs loans c l o n w (loan k) x h r (inl e) = rw e (loans k r.1.lives)
    items_used U levels pairs loans c l o n w (loan k) x h r (inr m) = absurd m
    items_used U levels pairs loans c zero o n w (split a b) x h r m = absurd r
    items_used U levels pairs loans c (suc l) o n w (split a b) x h r (inl e) = rw e (pairs l (pair_said w) (omega arith) (rw r.tag (tag_any L a b)))
    items_used U levels pairs loans c (suc l) o n w (split a b) x h r (inr m) =
        ⊎_elim
        (items_used U levels pairs loans c l o (2 * pair_said w) (E l (pair_said w)).left a x (omega arith) r.this)
        (items_used U levels pairs loans c l (o + bytes u l) (2 * pair_said w + 1) (E l (pair_said w)).right b x (omega arith) r.twin)
        (mem_cases x (items E l (E l (pair_said w)).left a) (items E l (E l (pair_said w)).right b) m)

    -- ---- a pair is met where it is an item, and a loan is had where it is one

    pub item_met : (c l o n w : ℕ) (t : Tree) (i p : ℕ) → l < 64 → i < 63 → Shape u E K live size c l o n w t → Mem (item (suc i) p) (items E l w t) → Met u E l o n w t i p
    item_met c l o n w free i p h g r m = absurd m
    item_met c l o n w (loan k) i p h g r (inl e) = absurd (omega arith)
    item_met c l o n w (loan k) i p h g r (inr m) = absurd m
    item_met c zero o n w (split a b) i p h g r m = absurd r
    item_met c (suc l) o n w (split a b) i p h g r (inl e) =
        let f : i ≡ l = omega (arith, item_kind (suc i) p (omega arith), item_kind (suc l) (pair_said w) h, ap (λ (x : ℕ). x % 64) e) in
        let q : p ≡ pair_said w = omega arith in
        inl (ap suc f, rw (f, q) r.off, rw (f, q) r.up, omega (arith, r.is))
    item_met c (suc l) o n w (split a b) i p h g r (inr m) =
        inr (⊎_elim
        (λ z. inl (item_met c l o (2 * pair_said w) (E l (pair_said w)).left a i p (omega arith) g r.this z))
        (λ z. inr (item_met c l (o + bytes u l) (2 * pair_said w + 1) (E l (pair_said w)).right b i p (omega arith) g r.twin z))
        (mem_cases (item (suc i) p) (items E l (E l (pair_said w)).left a) (items E l (E l (pair_said w)).right b) m))

    pub met_item : (c l o n w : ℕ) (t : Tree) (i p : ℕ) → Shape u E K live size c l o n w t → Met u E l o n w t i p → Mem (item (suc i) p) (items E l w t)
    met_item c l o n w free i p r h = absurd (omega (arith, r, h.3))
    met_item c l o n w (loan k) i p r h = absurd (omega (arith, r.0, h.3))
    met_item c zero o n w (split a b) i p r h = absurd r
    met_item c (suc l) o n w (split a b) i p r (inl h) = inl (omega (arith, h.0, h.3))
    met_item c (suc l) o n w (split a b) i p r (inr (inl h)) =
        inr (mem_left (item (suc i) p) (items E l (E l (pair_said w)).left a) (items E l (E l (pair_said w)).right b)
        (met_item c l o (2 * pair_said w) (E l (pair_said w)).left a i p r.this h))
    met_item c (suc l) o n w (split a b) i p r (inr (inr h)) =
        inr (mem_right (item (suc i) p) (items E l (E l (pair_said w)).left a) (items E l (E l (pair_said w)).right b)
        (met_item c l (o + bytes u l) (2 * pair_said w + 1) (E l (pair_said w)).right b i p r.twin h))

    pub item_had : (c l o n w : ℕ) (t : Tree) (k : ℕ) → l < 64 → Shape u E K live size c l o n w t → Mem (item 0 k) (items E l w t)
        → Has u l o t (piece (K k) k) × (size k ≡ bytes u (K k).lev)
    item_had c l o n w free k h r m = absurd m
    item_had c l o n w (loan j) k h r (inl e) =
        let i : k ≡ j = omega arith in
        rw i ((ap (λ (d : Loan). d.at) r.1.is, ap (λ (d : Loan). d.lev) r.1.is, refl), r.1.sized ∙ sym (ap (λ (d : Loan). bytes u d.lev) r.1.is))
    item_had c l o n w (loan j) k h r (inr m) = absurd m
    item_had c zero o n w (split a b) k h r m = absurd r
    item_had c (suc l) o n w (split a b) k h r (inl e) = absurd (omega (arith, item_kind 0 k (omega arith), item_kind (suc l) (pair_said w) h, ap (λ (x : ℕ). x % 64) e))
    item_had c (suc l) o n w (split a b) k h r (inr m) =
        ⊎_elim
        (λ z. let i = item_had c l o (2 * pair_said w) (E l (pair_said w)).left a k (omega arith) r.this z in (inl i.0, i.1))
        (λ z. let i = item_had c l (o + bytes u l) (2 * pair_said w + 1) (E l (pair_said w)).right b k (omega arith) r.twin z in (inr i.0, i.1))
        (mem_cases (item 0 k) (items E l (E l (pair_said w)).left a) (items E l (E l (pair_said w)).right b) m)

  pub had_item : (u l o w : ℕ) (t : Tree) (y : Piece) (k : ℕ) → Has u l o t y → y.who ≡ k + 1 → Mem (item 0 k) (items E l w t)
  had_item u l o w free y k h e = absurd h
  had_item u l o w (loan j) y k h e = inl (omega (arith, h.2))
  had_item u zero o w (split a b) y k h e = absurd h
  had_item u (suc l) o w (split a b) y k (inl h) e =
      inr (mem_left (item 0 k) (items E l (E l (pair_said w)).left a) (items E l (E l (pair_said w)).right b) (had_item u l o (E l (pair_said w)).left a y k h e))
  had_item u (suc l) o w (split a b) y k (inr h) e =
      inr (mem_right (item 0 k) (items E l (E l (pair_said w)).left a) (items E l (E l (pair_said w)).right b) (had_item u l (o + bytes u l) (E l (pair_said w)).right b y k h e))
