-- The loans of a loans table are the blocks told with it and not since taken back, each of them once, and no two share a byte,
-- whatever calls of whichever engines come between, their tables mixed in any way.
use mathlib.Core.Path.{◌≡◌, refl, sym, ap, subst, ◌∙◌}
use mathlib.Core.Bool.{Bool, true, false, cond}
use mathlib.Core.Logic.{⊎_elim}
use mathlib.Core.List.Memᴰ
use mathlib.Core.List.{List, [], ◌∷◌}
use Prim.Native.Nat.{ℕ, ◌<◌}
use native.Mathlib.Omega.{arith}
use lib.Dec.{eqb}
use lib.ListN.{length, get_or}
use borrow.Author.Tests.{eq-eqb, ne_eqb}
use Rattle.lists.proofs.Bools.{same?}
use Rattle.counter.specs.Paper as Paper
use Rattle.counter.specs.declared.account.Account.{Account}
use Rattle.counter.specs.declared.answers.Block.{Block}
use Rattle.store_rules.specs.Outcomes.{Listed}
use Rattle.store_rules.specs.declared.Loan.{Loan}
use Rattle.engines.specs.Engines.{Engine}
use Rattle.engines.specs.Ledger.{Note, note_of, ledger, Exactly, Fine}
use Rattle.engines.specs.Pools.{Slot, of_head, of_loans, slots, table_of, seal, Sealed, Pool, lent_from, Different, Turn, did, turned, course, NoNewLoans, heard_with, setting_up}
use Rattle.engines.specs.Shapes.{Tables, Begun, Call, sets_up, does}
use Rattle.engines.proofs.Exact.{none_exactly}
use Rattle.engines.proofs.Mixing.{each_slot, lent_in?, lent_table, written_length, written_other, written_here, Signed, signed?}
use Rattle.engines.proofs.Noting.{call_after, refused_unheard}
use Rattle.engines.proofs.Told.{ledger_append}
use Rattle.engines.proofs.Visits.{set_up?}

none_either : (b : Bool) (ns : List Note) → ns ≡ [] → cond b ns [] ≡ []
none_either true ns e = e
none_either false ns e = refl

module _ (K : Type 0) (E : K → Engine) where
  module _ (Z : (k : K) → Sealed (E k).shape) where
    -- if this table's first word says that it is a loans table of any engine, then of e, and its loans are bs
    pub record HoldsIn (e : K) (bs : List Block) (t : List ℕ) : Type 0 where
      pub whose : (g : K) → seal t ≡ (Z g).marking.sign of_loans → g ≡ e
      pub loans : seal t ≡ (Z e).marking.sign of_loans → Exactly ((Z e).loans_in t) bs

    pub record Turned (e : K) (bs : List Block) (t : List ℕ) (ns : List Note) : Type 0 where
      pub holds : HoldsIn e (ledger bs ns) t
      pub fine : Fine bs → Fine (ledger bs ns)

-- no two tables of the engines are signed alike
module _ (K : Type 0) (E : K → Engine) (Z : (k : K) → Sealed (E k).shape) (differ : (i j : K) (y z : Slot) → (Z i).marking.sign y ≡ (Z j).marking.sign z → (i ≡ j) × (y ≡ z)) where
  still : (e : K) (bs : List Block) (t u : List ℕ) (ns : List Note) → HoldsIn K E Z e bs t → u ≡ t → ns ≡ [] → Turned K E Z e bs u ns
  still e bs t u ns g q n =
      record {
        holds = subst (λ (xs : List Note). HoldsIn K E Z e (ledger bs xs) u) (sym n) (subst (HoldsIn K E Z e bs) (sym q) g);
        fine = subst (λ (xs : List Note). Fine bs → Fine (ledger bs xs)) (sym n) (λ w. w);
      }

  module _ (e : K) (i : ℕ) (p : Pool) (v : Turn K E) (old : v.places of_loans ≡ i → v.call ≡ sets_up → (did K E p v).said ≡ Paper.ready → ⊥) (h : i < length p) (bs : List Block) (g : HoldsIn K E Z e bs (get_or p i [])) where
    abbrev f : K
    f = v.by

    abbrev t : Tables
    t = lent_from p v.places

    abbrev u : Tables
    u = (did K E p v).tables

    abbrev note : List Note
    note = cond (eqb (v.places of_loans) i) (note_of v.call (did K E p v).said) []

    unheard : note_of v.call (did K E p v).said ≡ [] → note ≡ []
    unheard n = none_either (eqb (v.places of_loans) i) (note_of v.call (did K E p v).said) n

    elsewhere : (v.places of_loans ≡ i → ⊥) → note ≡ []
    elsewhere n = rw (ne_eqb (v.places of_loans) i n)

    module _ (z : Slot) (q : v.places z ≡ i) where
      before : table_of t z ≡ get_or p i []
      before = lent_table p v.places z ∙ ap (λ (j : ℕ). get_or p j []) q

      unchanged : u ≡ t → note ≡ [] → Turned K E Z e bs (table_of u z) note
      unchanged c n = still e bs (get_or p i []) (table_of u z) note g (ap (λ (x : Tables). table_of x z) c ∙ before) n

      as_set_up : (c : v.call ≡ sets_up) → did K E p v ≡ does (E f).shape v.settings v.account t sets_up
      as_set_up c = ap (does (E f).shape v.settings v.account t) c

      quiet : v.call ≡ sets_up → note ≡ []
      quiet c = unheard (ap (λ (x : Call (E f).shape.Own). note_of x (does (E f).shape v.settings v.account t x).said) c)

      accepted : v.call ≡ sets_up → ((E f).shape.set_up v.settings t).said ≡ Paper.ready → Turned K E Z e bs (table_of u z) note
      accepted c r =
          let d = as_set_up c in
          let s : seal (table_of u z) ≡ (Z f).marking.sign z = ap (λ (x : Listed Tables). seal (table_of x.tables z)) d ∙ (Z f).marking.signs v.settings t r z in
          let none : (x : K) → seal (table_of u z) ≡ (Z x).marking.sign of_loans → ⊥ =
          λ x w. old (subst (λ (y : Slot). v.places y ≡ i) (differ f x z of_loans (sym s ∙ w)).1 q) c (ap (λ (x : Listed Tables). x.said) d ∙ r) in
          let bare : HoldsIn K E Z e bs (table_of u z) = record { whose = λ x w. absurd (none x w); loans = λ w. absurd (none e w) } in
          still e bs (table_of u z) (table_of u z) note bare refl (quiet c)

      first : v.call ≡ sets_up → Turned K E Z e bs (table_of u z) note
      first c =
          ⊎_elim (accepted c)
          (λ w. unchanged (ap (λ (x : Listed Tables). x.tables) (as_set_up c) ∙ ap (λ (r : Begun). r.tables) ((E f).refuses.set_up_leaves v.settings t w.0 w.1 w.2)) (quiet c))
          ((E f).tells.set_up_says v.settings t)

      module _ (c : v.call ≡ sets_up → ⊥) (s : Signed (E f).shape (Z f) t) where
        stays : seal (table_of u z) ≡ seal (table_of t z)
        stays = (Z f).marking.seals_stay v.settings v.account t v.call c z

        whose : (x : K) → seal (table_of u z) ≡ (Z x).marking.sign of_loans → x ≡ e
        whose x w = g.whose x (ap seal (sym before) ∙ sym stays ∙ w)

        -- in the slot of the loans
        here : v.places of_loans ≡ i → Turned K E Z e bs (table_of u z) note
        here l =
            let zl : z ≡ of_loans = v.different z of_loans (q ∙ sym l) in
            let b : t.loans ≡ get_or p i [] = ap (λ (j : ℕ). get_or p j []) l in
            let m : seal (get_or p i []) ≡ (Z f).marking.sign of_loans = ap seal (sym b) ∙ s of_loans in
            let fe : f ≡ e = g.whose f m in
            let gf : HoldsIn K E Z f bs (get_or p i []) = subst (λ (x : K). HoldsIn K E Z x bs (get_or p i [])) (sym fe) g in
            let S : Exactly ((E f).shape.loans t) bs = subst (λ (ks : List Loan). Exactly ks bs) (sym ((Z f).loans_there t ∙ ap (Z f).loans_in b)) (gf.loans m) in
            let A = call_after (E f) v.settings v.account t (s of_head ∙ sym (Z f).marking.head_sign) bs S v.call (λ x y. c x) in
            let n : note ≡ note_of v.call (did K E p v).said = rw (eq-eqb (v.places of_loans) i l) in
            let ns : List Note = note_of v.call (did K E p v).said in
            let L : Exactly ((Z f).loans_in u.loans) (ledger bs ns) = subst (λ (ks : List Loan). Exactly ks (ledger bs ns)) ((Z f).loans_there u) A.loans in
            let L' : Exactly ((Z e).loans_in (table_of u z)) (ledger bs ns) =
            subst (λ (y : K). Exactly ((Z y).loans_in (table_of u z)) (ledger bs ns)) fe (subst (λ (y : Slot). Exactly ((Z f).loans_in (table_of u y)) (ledger bs ns)) (sym zl) L) in
            subst (Turned K E Z e bs (table_of u z)) (sym n)
            (record {
              holds = record { whose = whose; loans = λ w. L' };
              fine = A.fine;
            })

        -- in another
        there : (v.places of_loans ≡ i → ⊥) → Turned K E Z e bs (table_of u z) note
        there l =
            let bare : HoldsIn K E Z e bs (table_of u z) =
            record { whose = whose; loans = λ w. absurd (l (subst (λ (y : Slot). v.places y ≡ i) (differ f e z of_loans (sym (s z) ∙ sym stays ∙ w)).1 q)) } in
            still e bs (table_of u z) (table_of u z) note bare refl (elsewhere l)

        signed : Turned K E Z e bs (table_of u z) note
        signed = ⊎_elim here there (same? (v.places of_loans) i)

      later : (v.call ≡ sets_up → ⊥) → Turned K E Z e bs (table_of u z) note
      later c =
          ⊎_elim (signed c)
          (λ n. let w = (Z f).marking.unsigned v.settings v.account t v.call c n in
          unchanged (ap (λ (d : Listed Tables). d.tables) w.1) (unheard (ap (λ (d : Listed Tables). note_of v.call d.said) w.1 ∙ refused_unheard v.call w.0)))
          (signed? (E f).shape (Z f) t)

      in_slot : Turned K E Z e bs (table_of u z) note
      in_slot = ⊎_elim first later (set_up? v.call)

    one_turn : Turned K E Z e bs (get_or (turned K E p v) i []) note
    one_turn =
        ⊎_elim
        (λ w. subst (λ (j : ℕ). Turned K E Z e bs (get_or (turned K E p v) j []) note) w.1
        (subst (λ (x : List ℕ). Turned K E Z e bs x note) (sym (written_here v.places u v.different w.0 p slots (each_slot w.0) (subst (λ (j : ℕ). j < length p) (sym w.1) h))) (in_slot w.0 w.1)))
        (λ n. still e bs (get_or p i []) (get_or (turned K E p v) i []) note g (written_other v.places u p slots i n) (elsewhere (n of_loans (each_slot of_loans))))
        (lent_in? v.places i slots)

  -- over any course of calls
  pub whole_course : (e : K) (i : ℕ) (p : Pool) (vs : List (Turn K E)) → NoNewLoans K E i p vs → i < length p → (bs : List Block) → HoldsIn K E Z e bs (get_or p i [])
      → Turned K E Z e bs (get_or (course K E p vs) i []) (heard_with K E i p vs)
  whole_course e i p [] f h bs g = record { holds = g; fine = λ w. w }
  whole_course e i p (v ∷ vs) f h bs g =
      let ns : List Note = cond (eqb (v.places of_loans) i) (note_of v.call (did K E p v).said) [] in
      let one = one_turn e i p v f.0 h bs g in
      let all = whole_course e i (turned K E p v) vs f.1 (omega (arith, written_length v.places (did K E p v).tables p slots)) (ledger bs ns) one.holds in
      let a = ledger_append bs ns (heard_with K E i (turned K E p v) vs) in
      record {
        holds = subst (λ (ks : List Block). HoldsIn K E Z e ks (get_or (course K E (turned K E p v) vs) i [])) (sym a) all.holds;
        fine = λ w. subst Fine (sym a) (all.fine (one.fine w));
      }

  -- ---- from set-up on

  module _ (p : Pool) (e : K) (s : (E e).shape.Settings) (a : Account) (at : Slot → ℕ) (d : Different at) (here : at of_loans < length p) (ready : (did K E p (setting_up K E e s a at d)).said ≡ Paper.ready)
      (vs : List (Turn K E)) (f : NoNewLoans K E (at of_loans) (turned K E p (setting_up K E e s a at d)) vs) where
    abbrev begun : Pool
    begun = turned K E p (setting_up K E e s a at d)

    abbrev fresh : Tables
    fresh = ((E e).shape.set_up s (lent_from p at)).tables

    empty : HoldsIn K E Z e [] (get_or begun (at of_loans) [])
    empty =
        let m : seal fresh.loans ≡ (Z e).marking.sign of_loans = (Z e).marking.signs s (lent_from p at) ready of_loans in
        let n : (Z e).loans_in fresh.loans ≡ [] = sym ((Z e).loans_there fresh) ∙ (E e).tells.fresh s (lent_from p at) ready in
        subst (HoldsIn K E Z e []) (sym (written_here at fresh d of_loans p slots (each_slot of_loans) here))
        (record {
          whose = λ x w. sym (differ e x of_loans of_loans (sym m ∙ w)).0;
          loans = λ w. none_exactly ((Z e).loans_in fresh.loans) n;
        })

    all : Turned K E Z e [] (get_or (course K E begun vs) (at of_loans) []) (heard_with K E (at of_loans) begun vs)
    all = whole_course e (at of_loans) begun vs f (omega (arith, written_length at fresh p slots)) [] empty

    -- table i was lent for the loans at a set-up by engine e that was accepted, and at none since; then any calls of any of the
    -- engines were made, each lent any five different tables in any slots. While its first word still says that it is a loans
    -- table, its loans are exactly the blocks told with it for the loans and not since taken back
    pub mixed_told : seal (get_or (course K E (turned K E p (setting_up K E e s a at d)) vs) (at of_loans) []) ≡ (Z e).marking.sign of_loans
        → Exactly ((Z e).loans_in (get_or (course K E (turned K E p (setting_up K E e s a at d)) vs) (at of_loans) []))
        (ledger [] (heard_with K E (at of_loans) (turned K E p (setting_up K E e s a at d)) vs))
    mixed_told = all.holds.loans

    -- each of them once, and no two different ones share a byte
    pub mixed_fine : Fine (ledger [] (heard_with K E (at of_loans) (turned K E p (setting_up K E e s a at d)) vs))
    mixed_fine = all.fine (tt, λ k l m. absurd (Memᴰ.not-nil m))
