-- The serials given with a loans table count up by one from how many were given, from 1 where it was set up, and none is given
-- twice, whatever calls of whichever engines are made, with any account at each, their tables mixed in any way.
use mathlib.Core.Path.{◌≡◌, refl, sym, ap, subst, ◌∙◌}
use mathlib.Core.Bool.{Bool, true, false, cond}
use mathlib.Core.Logic.{⊎_elim}
use mathlib.Core.List.{List, [], ◌∷◌, ◌++◌}
use Prim.Native.Nat.{ℕ, ◌+◌, ◌<◌}
use native.Mathlib.Omega.{arith}
use lib.Dec.{eqb}
use lib.ListN.{length, length-append, get_or}
use borrow.Author.Tests.{eq-eqb, ne_eqb}
use Rattle.lists.specs.Members.{Distinct}
use Rattle.lists.proofs.Bools.{same?}
use Rattle.counter.specs.Paper as Paper
use Rattle.counter.specs.declared.account.Account.{Account}
use Rattle.store_rules.specs.Outcomes.{Listed}
use Rattle.engines.specs.Engines.{Engine}
use Rattle.engines.specs.Pools.{Slot, of_head, of_loans, slots, table_of, seal, Sealed, Pool, lent_from, Different, Turn, did, turned, course, NoNewLoans, serials_with, setting_up}
use Rattle.engines.specs.Serials.{serial_said, up_from}
use Rattle.engines.specs.Shapes.{Tables, Begun, sets_up, does}
use Rattle.engines.proofs.CountUp.{up_append, up_distinct}
use Rattle.engines.proofs.Mixing.{each_slot, lent_in?, lent_table, written_length, written_other, written_here, Signed, signed?}
use Rattle.engines.proofs.Visits.{set_up?}

none_either : (b : Bool) (xs : List ℕ) → xs ≡ [] → cond b xs [] ≡ []
none_either true xs e = e
none_either false xs e = refl

module _ (K : Type 0) (E : K → Engine) (Z : (k : K) → Sealed (E k).shape) where
  -- if this table's first word says that it is a loans table of any engine, then of e, and n serials were given from it
  pub record GivenFrom (e : K) (n : ℕ) (t : List ℕ) : Type 0 where
    pub whose : (g : K) → seal t ≡ (Z g).marking.sign of_loans → g ≡ e
    pub given : seal t ≡ (Z e).marking.sign of_loans → (Z e).given_in t ≡ n

  -- n serials were given before, and xs are those given since: the next ones
  pub record GaveNext (e : K) (n : ℕ) (t : List ℕ) (xs : List ℕ) : Type 0 where
    pub now : GivenFrom e (n + length xs) t
    pub nexts : xs ≡ up_from n (length xs)

-- no two tables of the engines are signed alike
module _ (K : Type 0) (E : K → Engine) (Z : (k : K) → Sealed (E k).shape) (differ : (i j : K) (y z : Slot) → (Z i).marking.sign y ≡ (Z j).marking.sign z → (i ≡ j) × (y ≡ z)) where
  none_more : (e : K) (n : ℕ) (t u : List ℕ) (xs : List ℕ) → GivenFrom K E Z e n t → u ≡ t → xs ≡ [] → GaveNext K E Z e n u xs
  none_more e n t u xs g q none =
      let z : n ≡ n + 0 = omega arith in
      subst (GaveNext K E Z e n u) (sym none)
      (record { now = subst (λ (m : ℕ). GivenFrom K E Z e m u) z (subst (GivenFrom K E Z e n) (sym q) g); nexts = refl })

  -- ---- over one call

  module _ (e : K) (i : ℕ) (p : Pool) (v : Turn K E) (old : v.places of_loans ≡ i → v.call ≡ sets_up → (did K E p v).said ≡ Paper.ready → ⊥) (h : i < length p) (n : ℕ) (g : GivenFrom K E Z e n (get_or p i [])) where
    abbrev f : K
    f = v.by

    abbrev t : Tables
    t = lent_from p v.places

    abbrev u : Tables
    u = (did K E p v).tables

    abbrev gave : List ℕ
    gave = cond (eqb (v.places of_loans) i) (serial_said (did K E p v).said) []

    unsaid : serial_said (did K E p v).said ≡ [] → gave ≡ []
    unsaid q = none_either (eqb (v.places of_loans) i) (serial_said (did K E p v).said) q

    elsewhere : (v.places of_loans ≡ i → ⊥) → gave ≡ []
    elsewhere q = rw (ne_eqb (v.places of_loans) i q)

    -- table i is lent in slot z
    module _ (z : Slot) (q : v.places z ≡ i) where
      before : table_of t z ≡ get_or p i []
      before = lent_table p v.places z ∙ ap (λ (j : ℕ). get_or p j []) q

      unchanged : u ≡ t → gave ≡ [] → GaveNext K E Z e n (table_of u z) gave
      unchanged c none = none_more e n (get_or p i []) (table_of u z) gave g (ap (λ (x : Tables). table_of x z) c ∙ before) none

      as_set_up : (c : v.call ≡ sets_up) → did K E p v ≡ does (E f).shape v.settings v.account t sets_up
      as_set_up c = ap (does (E f).shape v.settings v.account t) c

      -- a set-up that is accepted signs it as another than a loans table
      accepted : v.call ≡ sets_up → ((E f).shape.set_up v.settings t).said ≡ Paper.ready → GaveNext K E Z e n (table_of u z) gave
      accepted c r =
          let d = as_set_up c in
          let s : seal (table_of u z) ≡ (Z f).marking.sign z = ap (λ (x : Listed Tables). seal (table_of x.tables z)) d ∙ (Z f).marking.signs v.settings t r z in
          let ready : (did K E p v).said ≡ Paper.ready = ap (λ (x : Listed Tables). x.said) d ∙ r in
          let none : (x : K) → seal (table_of u z) ≡ (Z x).marking.sign of_loans → ⊥ =
          λ x w. old (subst (λ (y : Slot). v.places y ≡ i) (differ f x z of_loans (sym s ∙ w)).1 q) c ready in
          let bare : GivenFrom K E Z e n (table_of u z) = record { whose = λ x w. absurd (none x w); given = λ w. absurd (none e w) } in
          none_more e n (table_of u z) (table_of u z) gave bare refl (unsaid (ap serial_said ready))

      first : v.call ≡ sets_up → GaveNext K E Z e n (table_of u z) gave
      first c =
          ⊎_elim (accepted c)
          (λ w. unchanged (ap (λ (x : Listed Tables). x.tables) (as_set_up c) ∙ ap (λ (r : Begun). r.tables) ((E f).refuses.set_up_leaves v.settings t w.0 w.1 w.2))
          (unsaid (ap (λ (x : Listed Tables). serial_said x.said) (as_set_up c) ∙ ap serial_said w.2)))
          ((E f).tells.set_up_says v.settings t)

      -- any other call, where all five are signed
      module _ (c : v.call ≡ sets_up → ⊥) (s : Signed (E f).shape (Z f) t) where
        stays : seal (table_of u z) ≡ seal (table_of t z)
        stays = (Z f).marking.seals_stay v.settings v.account t v.call c z

        whose : (x : K) → seal (table_of u z) ≡ (Z x).marking.sign of_loans → x ≡ e
        whose x w = g.whose x (ap seal (sym before) ∙ sym stays ∙ w)

        -- in the slot of the loans
        here : v.places of_loans ≡ i → GaveNext K E Z e n (table_of u z) gave
        here l =
            let zl : z ≡ of_loans = v.different z of_loans (q ∙ sym l) in
            let b : t.loans ≡ get_or p i [] = ap (λ (j : ℕ). get_or p j []) l in
            let m : seal (get_or p i []) ≡ (Z f).marking.sign of_loans = ap seal (sym b) ∙ s of_loans in
            let fe : f ≡ e = g.whose f m in
            let gf : GivenFrom K E Z f n (get_or p i []) = subst (λ (x : K). GivenFrom K E Z x n (get_or p i [])) (sym fe) g in
            let C = (E f).counts.counted v.settings v.account t v.call c (s of_head ∙ sym (Z f).marking.head_sign) in
            let xs : List ℕ = serial_said (did K E p v).said in
            let was : (E f).shape.given t ≡ n = (Z f).given_there t ∙ ap (Z f).given_in b ∙ gf.given m in
            let is : (Z f).given_in u.loans ≡ n + length xs = sym ((Z f).given_there u) ∙ C.gives ∙ ap (λ (k : ℕ). k + length xs) was in
            let is' : (Z e).given_in (table_of u z) ≡ n + length xs =
            subst (λ (y : K). (Z y).given_in (table_of u z) ≡ n + length xs) fe (subst (λ (y : Slot). (Z f).given_in (table_of u y) ≡ n + length xs) (sym zl) is) in
            let x : gave ≡ xs = rw (eq-eqb (v.places of_loans) i l) in
            subst (GaveNext K E Z e n (table_of u z)) (sym x)
            (record {
              now = record { whose = whose; given = λ w. is' };
              nexts = C.nexts ∙ ap (λ (k : ℕ). up_from k (length xs)) was;
            })

        -- in another
        there : (v.places of_loans ≡ i → ⊥) → GaveNext K E Z e n (table_of u z) gave
        there l =
            let bare : GivenFrom K E Z e n (table_of u z) =
            record { whose = whose; given = λ w. absurd (l (subst (λ (y : Slot). v.places y ≡ i) (differ f e z of_loans (sym (s z) ∙ sym stays ∙ w)).1 q)) } in
            none_more e n (table_of u z) (table_of u z) gave bare refl (elsewhere l)

        signed : GaveNext K E Z e n (table_of u z) gave
        signed = ⊎_elim here there (same? (v.places of_loans) i)

      later : (v.call ≡ sets_up → ⊥) → GaveNext K E Z e n (table_of u z) gave
      later c =
          ⊎_elim (signed c)
          (λ x. let w = (Z f).marking.unsigned v.settings v.account t v.call c x in
          unchanged (ap (λ (d : Listed Tables). d.tables) w.1) (unsaid (ap (λ (d : Listed Tables). serial_said d.said) w.1)))
          (signed? (E f).shape (Z f) t)

      in_slot : GaveNext K E Z e n (table_of u z) gave
      in_slot = ⊎_elim first later (set_up? v.call)

    one_turn : GaveNext K E Z e n (get_or (turned K E p v) i []) gave
    one_turn =
        ⊎_elim
        (λ w. subst (λ (j : ℕ). GaveNext K E Z e n (get_or (turned K E p v) j []) gave) w.1
        (subst (λ (x : List ℕ). GaveNext K E Z e n x gave) (sym (written_here v.places u v.different w.0 p slots (each_slot w.0) (subst (λ (j : ℕ). j < length p) (sym w.1) h))) (in_slot w.0 w.1)))
        (λ x. none_more e n (get_or p i []) (get_or (turned K E p v) i []) gave g (written_other v.places u p slots i x) (elsewhere (x of_loans (each_slot of_loans))))
        (lent_in? v.places i slots)

  -- ---- over any course of calls

  all_next : (e : K) (i : ℕ) (p : Pool) (vs : List (Turn K E)) → NoNewLoans K E i p vs → i < length p → (n : ℕ) → GivenFrom K E Z e n (get_or p i [])
      → GaveNext K E Z e n (get_or (course K E p vs) i []) (serials_with K E i p vs)
  all_next e i p [] f h n g = none_more e n (get_or p i []) (get_or p i []) [] g refl refl
  all_next e i p (v ∷ vs) f h n g =
      let xs : List ℕ = cond (eqb (v.places of_loans) i) (serial_said (did K E p v).said) [] in
      let one = one_turn e i p v f.0 h n g in
      let ys = serials_with K E i (turned K E p v) vs in
      let all = all_next e i (turned K E p v) vs f.1 (omega (arith, written_length v.places (did K E p v).tables p slots)) (n + length xs) one.now in
      let l = length-append xs ys in
      let z : n + length xs + length ys ≡ n + length (xs ++ ys) = omega (arith, l) in
      record {
        now = subst (λ (m : ℕ). GivenFrom K E Z e m (get_or (course K E (turned K E p v) vs) i [])) z all.now;
        nexts = (λ j. one.nexts j ++ all.nexts j) ∙ sym (up_append n (length xs) (length ys)) ∙ ap (up_from n) (sym l);
      }

  module _ (e : K) (i : ℕ) (p : Pool) (mine : seal (get_or p i []) ≡ (Z e).marking.sign of_loans) (here : i < length p) (vs : List (Turn K E)) (f : NoNewLoans K E i p vs) where
    counted : GaveNext K E Z e ((Z e).given_in (get_or p i [])) (get_or (course K E p vs) i []) (serials_with K E i p vs)
    counted =
        all_next e i p vs f here ((Z e).given_in (get_or p i []))
        (record { whose = λ g w. sym (differ e g of_loans of_loans (sym mine ∙ w)).0; given = λ w. refl })

    -- table i is a loans table of engine e, and any calls of any of the engines are made, each with any account and lent any five
    -- different tables in any slots, but no accepted set-up that is lent table i for the loans: the serials given with it for the
    -- loans are the next ones after those given from it, in order
    pub mixed_counts : serials_with K E i p vs ≡ up_from ((Z e).given_in (get_or p i [])) (length (serials_with K E i p vs))
    mixed_counts = counted.nexts

    -- none is given twice
    pub mixed_never_twice : Distinct (serials_with K E i p vs)
    mixed_never_twice = subst Distinct (sym mixed_counts) (up_distinct ((Z e).given_in (get_or p i [])) (length (serials_with K E i p vs)))

    -- and while its first word still says that it is a loans table, it says how many were given
    pub mixed_given : seal (get_or (course K E p vs) i []) ≡ (Z e).marking.sign of_loans
        → (Z e).given_in (get_or (course K E p vs) i []) ≡ (Z e).given_in (get_or p i []) + length (serials_with K E i p vs)
    mixed_given = counted.now.given

  -- ---- from set-up on

  -- table i was lent for the loans at a set-up by engine e that was accepted, and at none since: they are 1, 2, 3 and so on
  pub mixed_from_one : (p : Pool) (e : K) (s : (E e).shape.Settings) (a : Account) (at : Slot → ℕ) (d : Different at) → at of_loans < length p → (did K E p (setting_up K E e s a at d)).said ≡ Paper.ready
      → (vs : List (Turn K E)) → NoNewLoans K E (at of_loans) (turned K E p (setting_up K E e s a at d)) vs
      → let q = turned K E p (setting_up K E e s a at d) in serials_with K E (at of_loans) q vs ≡ up_from 0 (length (serials_with K E (at of_loans) q vs))
  mixed_from_one p e s a at d here ready vs f =
      let q = turned K E p (setting_up K E e s a at d) in
      let u = ((E e).shape.set_up s (lent_from p at)).tables in
      let w : get_or q (at of_loans) [] ≡ u.loans = written_here at u d of_loans p slots (each_slot of_loans) here in
      let m : seal (get_or q (at of_loans) []) ≡ (Z e).marking.sign of_loans = ap seal w ∙ (Z e).marking.signs s (lent_from p at) ready of_loans in
      let n : (Z e).given_in (get_or q (at of_loans) []) ≡ 0 = ap (Z e).given_in w ∙ sym ((Z e).given_there u) ∙ ((E e).counts.begins s (lent_from p at) ready).1 in
      mixed_counts e (at of_loans) q m (omega (arith, written_length at u p slots)) vs f
      ∙ ap (λ (x : ℕ). up_from x (length (serials_with K E (at of_loans) q vs))) n
