-- What passing a gap means for the fronts of the others, and for the count of those that are all of their chunk.
use mathlib.Core.Path.{◌≡◌, refl, sym, ap, ◌∙◌, subst}
use mathlib.Core.Bool.{true, false}
use mathlib.Core.Logic.{◌⊎◌, inl, inr, ⊎_elim}
use mathlib.Core.List.Memᴰ
use mathlib.Core.List.{List, [], ◌∷◌, Memᴰ}
use Prim.Native.Nat.{ℕ, ◌+◌, ◌≤◌, ◌<◌}
use native.Mathlib.Omega.{arith}
use borrow.Author.Tests.{eq-eqb, ne_eqb, lt-ltb, le-ltb}
use Rattle.lists.proofs.Bools.{told, same?}
use Rattle.store_rules.specs.declared.Chunk.{Chunk}
use Rattle.store_rules.specs.declared.Region.{Region}
use Rattle.freelist_rules.specs.declared.Gap.{Gap}
use Rattle.freelist_rules.specs.Records.{region}
use Rattle.freelist_rules.specs.Pieces.{piece, lo, All}
use Rattle.freelist_rules.specs.Release.{covers, wholly}
use Rattle.freelist_rules.specs.Threads.{loan_by, gap, region_in, free_of, front_of, wholes}
use Rattle.freelist_rules.proofs.GapLists.{count_yes, count_no}
use Rattle.freelist_rules.proofs.Releases.{covers_yes, yes_covers, wholly_where, where_wholly}
use Rattle.freelist_walk.specs.Left.{Between, all_of}
use Rattle.freelist_walk.proofs.Lying.{Amid}

module _ (n p x u : ℕ) where
  pub between_free : (gs more : List Gap) → Between n p x u gs more → Amid n p x (free_of gs) (free_of more)
  between_free gs more (inl (d, e)) = inl (d, ap free_of e)
  between_free gs more (inr (d, e)) = inr (d, ap free_of e)

  -- what more there is stands behind
  pub between_in : (gs more : List Gap) → Between n p x u gs more → (g : Gap) → Memᴰ g more → Memᴰ g gs
  between_in gs more (inl (d, e)) g m = subst (Memᴰ g) (sym e) m
  between_in gs more (inr (d, e)) g m = subst (Memᴰ g) (sym e) (Memᴰ.tail m)

  -- there is one way to pass
  pub between_one : (gs hs ks : List Gap) → Between n p x u gs hs → Between n p x u gs ks → hs ≡ ks
  between_one gs hs ks (inl (d, e)) (inl (f, h)) = sym e ∙ h
  between_one gs hs ks (inl (d, e)) (inr (f, h)) = absurd (omega arith)
  between_one gs hs ks (inr (d, e)) (inl (f, h)) = absurd (omega arith)
  between_one gs hs ks (inr (d, e)) (inr (f, h)) = cc

  -- a gap is its region and its front
  is_gap : (g : Gap) → region_in g ≡ region n p x → g.front ≡ u → g ≡ gap (region n p x) u
  is_gap g e f = λ i. record { chunk = (e i).chunk; start = (e i).start; end = (e i).end; front = f i }

  -- where the gap that lies there would have u in front
  pub amid_gaps : (gs : List Gap) (rs : List Region) → Amid n p x (free_of gs) rs → ((g : Gap) → Memᴰ g gs → region_in g ≡ region n p x → g.front ≡ u)
      → (more : List Gap) × Between n p x u gs more × (free_of more ≡ rs)
  amid_gaps gs rs (inl (d, e)) f = (gs, inl (d, refl), e)
  amid_gaps [] rs (inr (d, e)) f = let z : ◌≡◌ {A = ℕ} 0 1 = cc in absurd (omega arith)
  amid_gaps (g ∷ gs) rs (inr (d, e)) f =
      let a : region_in g ≡ region n p x = cc in
      let b : free_of gs ≡ rs = cc in
      (gs, inr (d, ap (λ (h : Gap). h ∷ gs) (is_gap g a (f g (Memᴰ.head refl) a))), b)

-- ---- the fronts

module _ (loans : List ℕ) where
  -- the gap g names the last of the records whose loan begins before it, u where none does
  abbrev pub Named : ℕ → List ℕ → Gap → Type 0
  Named u records g = g.front ≡ front_of loans u records (region_in g)

  -- past a record whose loan begins before it, and short of those whose loans do not
  pub front_past : (u r : ℕ) (records : List ℕ) (g : Region) → lo (piece (loan_by loans r)) < lo g → front_of loans u (r ∷ records) g ≡ front_of loans r records g
  front_past u r records g h = rw (lt-ltb (lo (piece (loan_by loans r))) (lo g) h)

  pub front_short : (u r : ℕ) (records : List ℕ) (g : Region) → lo g ≤ lo (piece (loan_by loans r)) → front_of loans u (r ∷ records) g ≡ u
  front_short u r records g h = rw (le-ltb (lo (piece (loan_by loans r))) (lo g) h)

  -- a gap from p to x comes before the loans of all the records
  module _ (n p x u : ℕ) (records : List ℕ) (early : front_of loans u records (region n p x) ≡ u) where
    pub first_named : (gs : List Gap) → All (Named u records) gs → (g : Gap) → Memᴰ g gs → region_in g ≡ region n p x → g.front ≡ u
    first_named gs f g m e = f g m ∙ ap (front_of loans u records) e ∙ early

    pub named_back : (gs more : List Gap) → Between n p x u gs more → All (Named u records) more → All (Named u records) gs
    named_back gs more (inl (d, e)) f g m = f g (subst (Memᴰ g) e m)
    named_back gs more (inr (d, e)) f g m = ⊎_elim (λ k. subst (Named u records) (sym k) (sym early)) (f g) (Memᴰ.cases_cons (subst (Memᴰ g) e m))

-- ---- how many are all of their chunk

module _ (all : List Chunk) (c : Chunk) (has : Memᴰ c all) (one : (d : Chunk) → Memᴰ d all → d.number ≡ c.number → d.size ≡ c.size) where
  not_all : (p x : ℕ) → (p ≡ 0 → x ≡ c.size → ⊥) → wholly all (region c.number p x) ≡ false
  not_all p x f = ⊎_elim (λ e. absurd (no (wholly_where all (region c.number p x) e))) (λ e. e) (told (wholly all (region c.number p x)))
    where
      no : (d : Chunk) × Memᴰ d all × (covers (region c.number p x) d ≡ true) → ⊥
      no w = let k = covers_yes (region c.number p x) w.0 w.2 in f k.1 (k.2 ∙ one w.0 w.1 (sym k.0))

  is_all : wholly all (region c.number 0 c.size) ≡ true
  is_all = where_wholly all (region c.number 0 c.size) c has (yes_covers (region c.number 0 c.size) c refl refl refl)

  -- a gap that ends before its chunk is not
  pub loan_counted : (p x u : ℕ) (gs more : List Gap) → x < c.size → Between c.number p x u gs more → wholes all (free_of gs) ≡ wholes all (free_of more)
  loan_counted p x u gs more h (inl (d, e)) = ap (λ (hs : List Gap). wholes all (free_of hs)) e
  loan_counted p x u gs more h (inr (d, e)) =
      ap (λ (hs : List Gap). wholes all (free_of hs)) e ∙ count_no all (region c.number p x) (free_of more) (not_all p x (λ a b. omega arith))

  -- what is left of a chunk is where that is the whole chunk
  pub chunk_counted : (p u : ℕ) (gs more : List Gap) → Between c.number p c.size u gs more → wholes all (free_of gs) ≡ all_of p c.size + wholes all (free_of more)
  chunk_counted p u gs more (inl (d, e)) = omega (arith, ap (λ (hs : List Gap). wholes all (free_of hs)) e, none (same? p 0))
    where
      none : (p ≡ 0) ⊎ (p ≡ 0 → ⊥) → all_of p c.size ≡ 0
      none (inl a) = rw (eq-eqb p 0 a, le-ltb 0 c.size (omega arith))
      none (inr a) = rw (ne_eqb p 0 a)
  chunk_counted p u gs more (inr (d, e)) = ap (λ (hs : List Gap). wholes all (free_of hs)) e ∙ by (same? p 0)
    where
      by : (p ≡ 0) ⊎ (p ≡ 0 → ⊥) → wholes all (region c.number p c.size ∷ free_of more) ≡ all_of p c.size + wholes all (free_of more)
      by (inl a) = rw (a, lt-ltb 0 c.size (omega arith)) (omega (arith, count_yes all (region c.number 0 c.size) (free_of more) is_all))
      by (inr a) = rw (ne_eqb p 0 a) (omega (arith, count_no all (region c.number p c.size) (free_of more) (not_all p c.size (λ b k. a b))))
