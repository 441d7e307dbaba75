-- Serials count up from 1 in a store, and none is given twice, whatever calls of whichever engines are made.
use mathlib.Core.Path.{◌≡◌, refl, sym, ap, subst, ◌∙◌}
use mathlib.Core.Logic.{⊎_elim}
use mathlib.Core.List.{List, [], ◌∷◌, ◌++◌}
use Prim.Native.Nat.{ℕ, zero, suc, ◌+◌, ◌≤◌, ◌<◌}
use native.Mathlib.Omega.{arith}
use lib.ListN.{length, length-append}
use borrow.Author.Tests.{eq-eqb, ne_eqb}
use Rattle.lists.specs.Members.{NotIn, Distinct}
use Rattle.lists.proofs.Bools.{same?}
use Rattle.counter.specs.Paper as Paper
use Rattle.counter.specs.declared.account.Account.{Account}
use Rattle.store_rules.specs.Outcomes.{Listed, listed}
use Rattle.engines.specs.Engines.{Engine}
use Rattle.engines.specs.Histories.{State, store_at, Visit, done, step, run, NoSetUp, serials_at}
use Rattle.engines.specs.Serials.{serial_said, up_from, Counted}
use Rattle.engines.specs.Shapes.{Tables, Begun, mark_of, Call, sets_up, does, Marked, lent_list}
use Rattle.engines.proofs.Visits.{set_up?, set_up_refused, stores_stay, store_here, store_other}

-- ---- numbers that count up

pub up_append : (g m n : ℕ) → up_from g (m + n) ≡ up_from g m ++ up_from (g + m) n
up_append g zero n = let e : g ≡ g + 0 = omega arith in let f : 0 + n ≡ n = omega arith in ap (up_from g) f ∙ ap (λ (x : ℕ). up_from x n) e
up_append g (suc m) n =
    let e : g + 1 + m ≡ g + suc m = omega arith in
    let f : suc m + n ≡ suc (m + n) = omega arith in
    ap (up_from g) f
    ∙ ap (λ (xs : List ℕ). (g + 1) ∷ xs) (up_append (g + 1) m n ∙ ap (λ (x : ℕ). up_from (g + 1) m ++ up_from x n) e)

up_not : (x g n : ℕ) → x ≤ g → NotIn x (up_from g n)
up_not x g zero h = tt
up_not x g (suc n) h = ((λ e. omega arith), up_not x (g + 1) n (omega arith))

pub up_distinct : (g n : ℕ) → Distinct (up_from g n)
up_distinct g zero = tt
up_distinct g (suc n) = (up_not (g + 1) (g + 1) n (omega arith), up_distinct (g + 1) n)

-- ---- what is seen from store i, one of engine e

module _ (K : Type 0) (E : K → Engine) (i : ℕ) (e : K) where
  abbrev given_at : State → ℕ
  given_at w = (E e).shape.given (store_at w i)

  -- the serials given are the next ones, and as many more are given
  pub record CountsUp (w : State) (vs : List (Visit K E)) : Type 0 where
    pub next : serials_at K E i w vs ≡ up_from ((E e).shape.given (store_at w i)) (length (serials_at K E i w vs))
    pub given : (E e).shape.given (store_at (run K E w vs) i) ≡ (E e).shape.given (store_at w i) + length (serials_at K E i w vs)

  own_serials : (w : State) (v : Visit K E) (vs : List (Visit K E)) → v.at ≡ i → serials_at K E i w (v ∷ vs) ≡ serial_said (done K E w v).said ++ serials_at K E i (step K E w v) vs
  own_serials w v vs q = rw (eq-eqb v.at i q)

  other_serials : (w : State) (v : Visit K E) (vs : List (Visit K E)) → (v.at ≡ i → ⊥) → serials_at K E i w (v ∷ vs) ≡ serials_at K E i (step K E w v) vs
  other_serials w v vs n = rw (ne_eqb v.at i n)

  -- store i is set up by engine e
  abbrev pub setting : (E e).shape.Settings → Visit K E
  setting s = record { at = i; by = e; settings = s; call = sets_up }

-- no two engines have one mark
module _ (K : Type 0) (E : K → Engine) (differ : (i j : K) → (E i).shape.mark ≡ (E j).shape.mark → i ≡ j) where
  -- ---- over one call

  -- of any of the engines, on tables with engine e's mark: the serials given are the next ones, and the mark stays
  pub call_counts : (e : K) (a : Account) (t : Tables) (f : K) (s : (E f).shape.Settings) (c : Call (E f).shape.Own) → (c ≡ sets_up → (does (E f).shape s a t c).said ≡ Paper.ready → ⊥) → Marked (E e).shape t
      → Counted (E e).shape t (does (E f).shape s a t c).tables (does (E f).shape s a t c).said
  call_counts e a t f s c old k = ⊎_elim first later (set_up? c)
    where
      -- a call that is refused
      unmoved : (n : ℕ) (list : List ℕ) → does (E f).shape s a t c ≡ listed (Paper.refusal n []) a t list → Counted (E e).shape t (does (E f).shape s a t c).tables (does (E f).shape s a t c).said
      unmoved n list q =
          subst (λ (d : Listed Tables). Counted (E e).shape t d.tables d.said) (sym q)
          (record { gives = omega arith; nexts = refl; marks = k })

      first : c ≡ sets_up → Counted (E e).shape t (does (E f).shape s a t c).tables (does (E f).shape s a t c).said
      first q =
          let d = ap (does (E f).shape s a t) q in
          let w = set_up_refused (E f) s t (λ r. old q (ap (λ (x : Listed Tables). x.said) d ∙ r)) in
          unmoved w.0 [] (d ∙ ap (λ (r : Begun). listed r.said a r.tables []) w.1)

      own : (c ≡ sets_up → ⊥) → mark_of t ≡ (E f).shape.mark → Counted (E e).shape t (does (E f).shape s a t c).tables (does (E f).shape s a t c).said
      own n m =
          subst (λ (x : K). Counted (E x).shape t (does (E f).shape s a t c).tables (does (E f).shape s a t c).said) (differ f e (sym m ∙ k))
          ((E f).counts.counted s a t c n m)

      other : (c ≡ sets_up → ⊥) → (mark_of t ≡ (E f).shape.mark → ⊥) → Counted (E e).shape t (does (E f).shape s a t c).tables (does (E f).shape s a t c).said
      other n m = let w = (E f).refuses.foreign s a t c n m in unmoved w.0 (lent_list c) w.1

      later : (c ≡ sets_up → ⊥) → Counted (E e).shape t (does (E f).shape s a t c).tables (does (E f).shape s a t c).said
      later n = ⊎_elim (own n) (other n) (same? (mark_of t) (E f).shape.mark)

  -- ---- over a history

  module _ (i : ℕ) (e : K) where
    module _ (w : State) (v : Visit K E) (f : v.at ≡ i → v.call ≡ sets_up → (done K E w v).said ≡ Paper.ready → ⊥) (h : i < length w.stores) (m : Marked (E e).shape (store_at w i)) where
      -- the store's own call
      here : v.at ≡ i → Counted (E e).shape (store_at w i) (done K E w v).tables (done K E w v).said
      here q =
          let k : Marked (E e).shape (store_at w v.at) = subst (λ (j : ℕ). Marked (E e).shape (store_at w j)) (sym q) m in
          subst (λ (j : ℕ). Counted (E e).shape (store_at w j) (done K E w v).tables (done K E w v).said) q
          (call_counts e w.account (store_at w v.at) v.by v.settings v.call (f q) k)

      left : v.at ≡ i → store_at (step K E w v) i ≡ (done K E w v).tables
      left q = subst (λ (j : ℕ). store_at (step K E w v) j ≡ (done K E w v).tables) q (store_here K E w v (omega arith))

      mark_stays : Marked (E e).shape (store_at (step K E w v) i)
      mark_stays =
          ⊎_elim (λ q. subst (Marked (E e).shape) (sym (left q)) (here q).marks) (λ n. subst (Marked (E e).shape) (sym (store_other K E w v i n)) m)
          (same? v.at i)

    -- over any history in which no set-up of store i, one of engine e, is accepted, its serials count up by one from how many were given
    pub counts_up : (w : State) (vs : List (Visit K E)) → NoSetUp K E i w vs → i < length w.stores → Marked (E e).shape (store_at w i) → CountsUp K E i e w vs
    counts_up w [] f h k = record { next = refl; given = omega arith }
    counts_up w (v ∷ vs) f h k =
        let now = f.0 in
        let later = counts_up (step K E w v) vs f.1 (omega (arith, stores_stay K E w v)) (mark_stays w v now h k) in
        ⊎_elim (own now later) (other later) (same? v.at i)
      where
        own : (v.at ≡ i → v.call ≡ sets_up → (done K E w v).said ≡ Paper.ready → ⊥) → CountsUp K E i e (step K E w v) vs → v.at ≡ i → CountsUp K E i e w (v ∷ vs)
        own now later q =
            let xs = serial_said (done K E w v).said in
            let ys = serials_at K E i (step K E w v) vs in
            let z : serials_at K E i w (v ∷ vs) ≡ xs ++ ys = own_serials K E i e w v vs q in
            let S = here w v now h k q in
            let m : given_at K E i e (step K E w v) ≡ given_at K E i e w + length xs = ap (E e).shape.given (left w v now h k q) ∙ S.gives in
            let a : xs ≡ up_from (given_at K E i e w) (length xs) = S.nexts in
            let b : ys ≡ up_from (given_at K E i e w + length xs) (length ys) = later.next ∙ ap (λ (x : ℕ). up_from x (length ys)) m in
            record {
              next =
                  z
                  ∙ (λ j. a j ++ b j)
                  ∙ sym (up_append (given_at K E i e w) (length xs) (length ys))
                  ∙ ap (up_from (given_at K E i e w)) (sym (length-append xs ys) ∙ ap length (sym z));
              given = omega (arith, later.given, m, length-append xs ys, ap length z);
            }

        other : CountsUp K E i e (step K E w v) vs → (v.at ≡ i → ⊥) → CountsUp K E i e w (v ∷ vs)
        other later n =
            let z : serials_at K E i w (v ∷ vs) ≡ serials_at K E i (step K E w v) vs = other_serials K E i e w v vs n in
            let g : given_at K E i e (step K E w v) ≡ given_at K E i e w = ap (E e).shape.given (store_other K E w v i n) in
            record {
              next = z ∙ later.next ∙ (λ j. up_from (g j) (length (sym z j)));
              given = later.given ∙ (λ j. g j + length (sym z j));
            }

    -- none is given twice
    pub never_twice : (w : State) (vs : List (Visit K E)) → NoSetUp K E i w vs → i < length w.stores → Marked (E e).shape (store_at w i) → Distinct (serials_at K E i w vs)
    never_twice w vs f h k =
        subst Distinct (sym (counts_up w vs f h k).next) (up_distinct (given_at K E i e w) (length (serials_at K E i w vs)))

    -- ---- from set-up on

    -- they are 1, 2, 3 and so on, whatever calls of any of the engines are made
    pub from_one : (w : State) (s : (E e).shape.Settings) (vs : List (Visit K E)) → i < length w.stores → (done K E w (setting K E i e s)).said ≡ Paper.ready → NoSetUp K E i (step K E w (setting K E i e s)) vs
        → serials_at K E i (step K E w (setting K E i e s)) vs ≡ up_from 0 (length (serials_at K E i (step K E w (setting K E i e s)) vs))
    from_one w s vs h r f =
        let v = setting K E i e s in
        let fresh = (E e).counts.begins s (store_at w i) r in
        let g : given_at K E i e (step K E w v) ≡ 0 = ap (E e).shape.given (store_here K E w v h) ∙ fresh.1 in
        let m : Marked (E e).shape (store_at (step K E w v) i) = subst (Marked (E e).shape) (sym (store_here K E w v h)) fresh.0 in
        (counts_up (step K E w v) vs f (omega (arith, stores_stay K E w v)) m).next
        ∙ ap (λ (x : ℕ). up_from x (length (serials_at K E i (step K E w v) vs))) g
