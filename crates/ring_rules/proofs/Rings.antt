-- The laws of a ring, whatever tells its links: where it begins does not matter, and what it takes for one place to go out or
-- come in.
use mathlib.Core.Path.{◌≡◌, refl, sym, ◌∙◌, subst}
use mathlib.Core.Logic.{inl, inr, ⊎_elim}
use mathlib.Core.List.{List, [], ◌∷◌, ◌++◌, append_assoc, append-nil}
use Prim.Native.Nat.{ℕ}
use lib.Seq.{append_snoc}
use Rattle.lists.specs.Members.{Mem, NotIn, Distinct}
use Rattle.lists.proofs.Members.{not_mem, mem_swap, split, distinct_append}
use Rattle.ring_rules.specs.Ring.{Link, Run, Closed, Ring}

-- the last place of x ∷ l
abbrev pub last_of : ℕ → List ℕ → ℕ
last_of x [] = x
last_of x (y ∷ l) = last_of y l

pub last_mem : (x : ℕ) (l : List ℕ) → Mem (last_of x l) (x ∷ l)
last_mem x [] = inl refl
last_mem x (y ∷ l) = inr (last_mem y l)

last_snoc : (x : ℕ) (l : List ℕ) (y : ℕ) → last_of x (l ++ (y ∷ [])) ≡ y
last_snoc x [] y = refl
last_snoc x (z ∷ l) y = last_snoc z l y

-- one more at the end
distinct_snoc : (l : List ℕ) (y : ℕ) → Distinct l → NotIn y l → Distinct (l ++ (y ∷ []))
distinct_snoc l y d o = distinct_append l (y ∷ []) d (tt, tt) (λ x m. ⊎_elim (λ e. not_mem y l o (rw e at m)) (λ i. i))

module _ (next prev : ℕ → ℕ) where
  -- a run through a ++ b is one through a and one on from its end
  run_join : (x : ℕ) (a b : List ℕ) → Run next prev x a → Run next prev (last_of x a) b → Run next prev x (a ++ b)
  run_join x [] b r s = s
  run_join x (y ∷ a) b r s = (r.0, run_join y a b r.1 s)

  pub run_cut : (x : ℕ) (a b : List ℕ) → Run next prev x (a ++ b) → Run next prev x a × Run next prev (last_of x a) b
  run_cut x [] b r = (tt, r)
  run_cut x (y ∷ a) b r = let s = run_cut y a b r.1 in ((r.0, s.0), s.1)

  -- a ring begun at the place after its first, and anywhere
  turned : (x : ℕ) (l : List ℕ) → Closed next prev (x ∷ l) → Closed next prev (l ++ (x ∷ []))
  turned x [] r = r
  turned x (y ∷ l) r = run_join y (l ++ (x ∷ [])) (y ∷ []) r.1 (rw last_snoc (r.0, tt))

  turn : (x : ℕ) (l : List ℕ) → Ring next prev (x ∷ l) → Ring next prev (l ++ (x ∷ []))
  turn x l r = record { closed = turned x l r.closed; distinct = distinct_snoc l x r.distinct.1 r.distinct.0 }

  pub rotate : (a b : List ℕ) → Ring next prev (a ++ b) → Ring next prev (b ++ a)
  rotate [] b r = rw append-nil r
  rotate (x ∷ a) b r = rw (← append_snoc b x a) (rotate a (b ++ (x ∷ [])) (rw append_assoc at (turn x (a ++ b) r)))

  -- a place leads to places of its ring
  first_next : (p : ℕ) (l : List ℕ) → Ring next prev (p ∷ l) → Mem (next p) (p ∷ l)
  first_next p [] r = inl r.closed.0.0
  first_next p (y ∷ l) r = inr (inl r.closed.0.0)

  pub first_prev : (p : ℕ) (l : List ℕ) → Ring next prev (p ∷ l) → prev p ≡ last_of p l
  first_prev p l r = (run_cut p l (p ∷ []) r.closed).1.0.1

  pub ring_near : (p : ℕ) (R : List ℕ) → Ring next prev R → Mem p R → Mem (next p) R × Mem (prev p) R
  ring_near p R r m =
      let s = split p R m in
      let o : Ring next prev (p ∷ s.b ++ s.a) = rotate s.a (p ∷ s.b) (rw s.is at r) in
      let back : (x : ℕ) → Mem x (p ∷ s.b ++ s.a) → Mem x R = λ x k. rw s.is (mem_swap x (p ∷ s.b) s.a k) in
      (back (next p) (first_next p (s.b ++ s.a) o), back (prev p) (subst (λ z. Mem z (p ∷ s.b ++ s.a)) (sym (first_prev p (s.b ++ s.a) o)) (last_mem p (s.b ++ s.a))))

-- other links, next' and prev'
module _ (next prev next' prev' : ℕ → ℕ) where
  -- a run stays where those of its links do that it goes along: not the last place's next, nor the first's prev
  run_same : (x : ℕ) (l : List ℕ) → Distinct (x ∷ l) → ((z : ℕ) → Mem z (x ∷ l) → (z ≡ last_of x l → ⊥) → next' z ≡ next z) → ((z : ℕ) → Mem z l → prev' z ≡ prev z) → Run next prev x l → Run next' prev' x l
  run_same x [] d f g r = tt
  run_same x (y ∷ l) d f g r =
      let other : (x ≡ last_of y l → ⊥) = λ e. not_mem x (y ∷ l) d.0 (subst (λ z. Mem z (y ∷ l)) (sym e) (last_mem y l)) in
      ((f x (inl refl) other ∙ r.0.0, g y (inl refl) ∙ r.0.1), run_same y l d.1 (λ z m. f z (inr m)) (λ z m. g z (inr m)) r.1)

  -- a ring stays where the links of its places do
  pub ring_same : (R : List ℕ) → ((z : ℕ) → Mem z R → (next' z ≡ next z) × (prev' z ≡ prev z)) → Ring next prev R → Ring next' prev' R
  ring_same [] f r = record { closed = tt; distinct = tt }
  ring_same (x ∷ l) f r =
      let s = run_cut next prev x l (x ∷ []) r.closed in
      let back : Link next' prev' (last_of x l) x = ((f (last_of x l) (last_mem x l)).0 ∙ s.1.0.0, (f x (inl refl)).1 ∙ s.1.0.1) in
      record {
        closed = run_join next' prev' x l (x ∷ []) (run_same x l r.distinct (λ z m o. (f z m).0) (λ z m. (f z (inr m)).1) s.0) (back, tt);
        distinct = r.distinct;
      }

  -- p goes out: the last place leads to the one after p
  pub ring_out : (p y : ℕ) (l : List ℕ) → ((z : ℕ) → Mem z (y ∷ l) → (z ≡ last_of y l → ⊥) → next' z ≡ next z) → ((z : ℕ) → Mem z l → prev' z ≡ prev z) → Link next' prev' (last_of y l) y → Ring next prev (p ∷ y ∷ l) → Ring next' prev' (y ∷ l)
  ring_out p y l f g k r =
      let s = run_cut next prev y l (p ∷ []) r.closed.1 in
      record { closed = run_join next' prev' y l (y ∷ []) (run_same y l r.distinct.1 f g s.0) (k, tt); distinct = r.distinct.1 }

  -- p comes in between the last place and the first
  pub ring_in : (p h : ℕ) (l : List ℕ) → NotIn p (h ∷ l) → ((z : ℕ) → Mem z (h ∷ l) → (z ≡ last_of h l → ⊥) → next' z ≡ next z) → ((z : ℕ) → Mem z l → prev' z ≡ prev z) → Link next' prev' (last_of h l) p → Link next' prev' p h → Ring next prev (h ∷ l) → Ring next' prev' (h ∷ l ++ (p ∷ []))
  ring_in p h l o f g j k r =
      let s = run_cut next prev h l (h ∷ []) r.closed in
      let u = run_join next' prev' h l (p ∷ []) (run_same h l r.distinct f g s.0) (j, tt) in
      record { closed = run_join next' prev' h (l ++ (p ∷ [])) (h ∷ []) u (rw last_snoc (k, tt)); distinct = distinct_snoc (h ∷ l) p r.distinct o }
