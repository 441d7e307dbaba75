-- A store's loans are exactly the blocks that its caller was told and has not since given back, whatever calls of whichever
-- engines are made; and no two of them share a byte.
use mathlib.Core.Path.{◌≡◌, refl, sym, ap, subst, ◌∙◌}
use mathlib.Core.Bool.{cond}
use mathlib.Core.Logic.{⊎_elim}
use mathlib.Core.List.Memᴰ
use mathlib.Core.List.{List, [], ◌∷◌, ◌++◌}
use Prim.Native.Nat.{ℕ, ◌<◌}
use native.Mathlib.Omega.{arith}
use lib.Dec.{eqb}
use lib.ListN.{length}
use borrow.Author.Tests.{eq-eqb, ne_eqb}
use Rattle.lists.proofs.Bools.{same?}
use Rattle.counter.specs.Paper as Paper
use Rattle.counter.specs.declared.account.Account.{Account}
use Rattle.counter.specs.declared.answers.Block.{Block}
use Rattle.store_rules.specs.Outcomes.{Listed}
use Rattle.engines.specs.Engines.{Engine}
use Rattle.engines.specs.Histories.{State, store_at, Visit, done, step, run, NoSetUp}
use Rattle.engines.specs.Ledger.{Note, lent, back, blocks_less, note_of, ledger, Exactly, NoSerialTwice, NoByteTwice, Fine, notes_at}
use Rattle.engines.specs.Shapes.{Tables, mark_of, Call, sets_up, does, Marked}
use Rattle.engines.proofs.CountUp.{setting}
use Rattle.engines.proofs.Exact.{none_exactly}
use Rattle.engines.proofs.Noting.{After, still, call_after, refused_unheard}
use Rattle.engines.proofs.Visits.{set_up?, set_up_stays, stores_stay, store_here, store_other}

-- what is heard first is booked first
pub ledger_append : (bs : List Block) (ms ns : List Note) → ledger bs (ms ++ ns) ≡ ledger (ledger bs ms) ns
ledger_append bs [] ns = refl
ledger_append bs (lent b ∷ ms) ns = ledger_append (b ∷ bs) ms ns
ledger_append bs (back b ∷ ms) ns = ledger_append (blocks_less b bs) ms ns

-- no two engines have one mark
module _ (K : Type 0) (E : K → Engine) (differ : (i j : K) → (E i).shape.mark ≡ (E j).shape.mark → i ≡ j) where
  -- ---- over one call of any of the engines, on tables with engine e's mark

  module _ (e : K) (a : Account) (t : Tables) (m : Marked (E e).shape t) (bs : List Block) (S : Exactly ((E e).shape.loans t) bs) where
    any_call : (f : K) (s : (E f).shape.Settings) (c : Call (E f).shape.Own) → (c ≡ sets_up → (does (E f).shape s a t c).said ≡ Paper.ready → ⊥)
        → After (E e) bs (does (E f).shape s a t c).tables (note_of c (does (E f).shape s a t c).said)
    any_call f s c n = ⊎_elim own other (same? (mark_of t) (E f).shape.mark)
      where
        own : mark_of t ≡ (E f).shape.mark → After (E e) bs (does (E f).shape s a t c).tables (note_of c (does (E f).shape s a t c).said)
        own k =
            let q : f ≡ e = differ f e (sym k ∙ m) in
            let S' : Exactly ((E f).shape.loans t) bs = subst (λ (x : K). Exactly ((E x).shape.loans t) bs) (sym q) S in
            subst (λ (x : K). After (E x) bs (does (E f).shape s a t c).tables (note_of c (does (E f).shape s a t c).said)) q
            (call_after (E f) s a t k bs S' c n)

        other : (mark_of t ≡ (E f).shape.mark → ⊥) → After (E e) bs (does (E f).shape s a t c).tables (note_of c (does (E f).shape s a t c).said)
        other k = ⊎_elim first later (set_up? c)
          where
            first : c ≡ sets_up → After (E e) bs (does (E f).shape s a t c).tables (note_of c (does (E f).shape s a t c).said)
            first q =
                let n' : sets_up ≡ sets_up → (does (E f).shape s a t sets_up).said ≡ Paper.ready → ⊥ = subst (λ (x : Call (E f).shape.Own). x ≡ sets_up → (does (E f).shape s a t x).said ≡ Paper.ready → ⊥) q n in
                subst (λ (x : Call (E f).shape.Own). After (E e) bs (does (E f).shape s a t x).tables (note_of x (does (E f).shape s a t x).said)) (sym q)
                (still (E e) t ((E f).shape.set_up s t).tables bs [] m S (set_up_stays (E f) s t (n' refl)) refl)

            later : (c ≡ sets_up → ⊥) → After (E e) bs (does (E f).shape s a t c).tables (note_of c (does (E f).shape s a t c).said)
            later q =
                let w = (E f).refuses.foreign s a t c q k in
                still (E e) t (does (E f).shape s a t c).tables bs (note_of c (does (E f).shape s a t c).said) m S (ap (λ (d : Listed Tables). d.tables) w.1)
                (ap (λ (d : Listed Tables). note_of c d.said) w.1 ∙ refused_unheard c w.0)

  -- ---- over a history

  module _ (i : ℕ) (e : K) where
    -- the loans of store i, one of engine e, were the blocks bs, and now they are these but for what was heard
    pub record Heard (bs : List Block) (u : State) (ns : List Note) : Type 0 where
      pub marks : Marked (E e).shape (store_at u i)
      pub loans : Exactly ((E e).shape.loans (store_at u i)) (ledger bs ns)
      pub fine : Fine bs → Fine (ledger bs ns)

    abbrev note_at : State → Visit K E → List Note
    note_at w v = cond (eqb v.at i) (note_of v.call (done K E w v).said) []

    hear_one : (w : State) (v : Visit K E) → (v.at ≡ i → v.call ≡ sets_up → (done K E w v).said ≡ Paper.ready → ⊥) → i < length w.stores → Marked (E e).shape (store_at w i) → (bs : List Block) → Exactly ((E e).shape.loans (store_at w i)) bs
        → Heard bs (step K E w v) (note_at w v)
    hear_one w v f h m bs S = ⊎_elim own other (same? v.at i)
      where
        own : v.at ≡ i → Heard bs (step K E w v) (note_at w v)
        own q =
            let z : note_at w v ≡ note_of v.call (done K E w v).said = rw (eq-eqb v.at i q) in
            let m' : Marked (E e).shape (store_at w v.at) = subst (λ (j : ℕ). Marked (E e).shape (store_at w j)) (sym q) m in
            let S' : Exactly ((E e).shape.loans (store_at w v.at)) bs = subst (λ (j : ℕ). Exactly ((E e).shape.loans (store_at w j)) bs) (sym q) S in
            let A = any_call e w.account (store_at w v.at) m' bs S' v.by v.settings v.call (f q) in
            let x : store_at (step K E w v) i ≡ (done K E w v).tables = subst (λ (j : ℕ). store_at (step K E w v) j ≡ (done K E w v).tables) q (store_here K E w v (omega arith)) in
            record {
              marks = subst (Marked (E e).shape) (sym x) A.marks;
              loans = subst (λ (ns : List Note). Exactly ((E e).shape.loans (store_at (step K E w v) i)) (ledger bs ns)) (sym z) (subst (λ (u : Tables). Exactly ((E e).shape.loans u) (ledger bs (note_of v.call (done K E w v).said))) (sym x) A.loans);
              fine = λ N. subst (λ (ns : List Note). Fine (ledger bs ns)) (sym z) (A.fine N);
            }

        other : (v.at ≡ i → ⊥) → Heard bs (step K E w v) (note_at w v)
        other n =
            let z : note_at w v ≡ [] = rw (ne_eqb v.at i n) in
            let A = still (E e) (store_at w i) (store_at (step K E w v) i) bs (note_at w v) m S (store_other K E w v i n) z in
            record { marks = A.marks; loans = A.loans; fine = A.fine }

    -- over any history in which no set-up of store i is accepted
    pub hear : (w : State) (vs : List (Visit K E)) → NoSetUp K E i w vs → i < length w.stores → Marked (E e).shape (store_at w i) → (bs : List Block) → Exactly ((E e).shape.loans (store_at w i)) bs
        → Heard bs (run K E w vs) (notes_at K E i w vs)
    hear w [] f h m bs S = record { marks = m; loans = S; fine = λ N. N }
    hear w (v ∷ vs) f h m bs S =
        let one = hear_one w v f.0 h m bs S in
        let all = hear (step K E w v) vs f.1 (omega (arith, stores_stay K E w v)) one.marks (ledger bs (note_at w v)) one.loans in
        record {
          marks = all.marks;
          loans = subst (Exactly ((E e).shape.loans (store_at (run K E (step K E w v) vs) i))) (sym (ledger_append bs (note_at w v) (notes_at K E i (step K E w v) vs))) all.loans;
          fine = λ N. subst Fine (sym (ledger_append bs (note_at w v) (notes_at K E i (step K E w v) vs))) (all.fine (one.fine N));
        }

    -- ---- from set-up on

    module _ (w : State) (s : (E e).shape.Settings) (here : i < length w.stores) (ready : (done K E w (setting K E i e s)).said ≡ Paper.ready) (vs : List (Visit K E)) (f : NoSetUp K E i (step K E w (setting K E i e s)) vs) where
      abbrev begun : State
      begun = step K E w (setting K E i e s)

      empty : (E e).shape.loans (store_at begun i) ≡ []
      empty = ap (E e).shape.loans (store_here K E w (setting K E i e s) here) ∙ (E e).tells.fresh s (store_at w i) ready

      nothing : Fine []
      nothing = (tt, λ b c m. absurd (Memᴰ.not-nil m))

      heard : Heard [] (run K E begun vs) (notes_at K E i begun vs)
      heard =
          hear begun vs f (omega (arith, stores_stay K E w (setting K E i e s)))
          (subst (Marked (E e).shape) (sym (store_here K E w (setting K E i e s) here)) ((E e).counts.begins s (store_at w i) ready).0)
          []
          (none_exactly ((E e).shape.loans (store_at begun i)) empty)

      -- store i was set up by engine e, and then any calls of any of the engines were made, at any stores, with any settings,
      -- arguments and outcomes, but no accepted set-up of store i: its loans are exactly the blocks told there and not since
      -- taken back
      pub told : Exactly ((E e).shape.loans (store_at (run K E (step K E w (setting K E i e s)) vs) i)) (ledger [] (notes_at K E i (step K E w (setting K E i e s)) vs))
      told = heard.loans

      -- each of them once
      pub told_once : NoSerialTwice (ledger [] (notes_at K E i (step K E w (setting K E i e s)) vs))
      told_once = (heard.fine nothing).0

      -- and no two different ones share a byte
      pub never_lent_twice : NoByteTwice (ledger [] (notes_at K E i (step K E w (setting K E i e s)) vs))
      never_lent_twice = (heard.fine nothing).1
