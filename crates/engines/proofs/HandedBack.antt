-- Different blocks on loan are handed back one after the other: what all the returns say, leave and tell.
use mathlib.Core.Path.{◌≡◌, refl, sym, ap, subst, ◌∙◌}
use mathlib.Core.Logic.{⊎_elim, ◌↔◌}
use mathlib.Core.List.Memᴰ
use mathlib.Core.List.{List, [], ◌∷◌, Memᴰ}
use Prim.Native.Nat.{ℕ, ◌+◌, ◌-◌, ◌≤◌, ◌<◌}
use native.Mathlib.Nat.{lt_of_le_of_lt}
use native.Mathlib.Omega.{arith}
use lib.ListN.{length, take}
use Rattle.counter.specs.Account.{Typed, value, heap_at}
use Rattle.counter.specs.Gate.{pass}
use Rattle.counter.specs.Paper.{Said}
use Rattle.counter.specs.Paper as Paper
use Rattle.counter.specs.declared.account.Account.{Account}
use Rattle.counter.specs.declared.answers.Block.{Block}
use Rattle.heap.proofs.Bounds.{agrees_yes}
use Rattle.store_rules.specs.Outcomes.{Listed, to_free, released_account}
use Rattle.store_rules.specs.Views.{View, Matches, All, sizes, Go}
use Rattle.store_rules.specs.declared.Chunk.{Chunk}
use Rattle.store_rules.specs.declared.Loan.{Loan}
use Rattle.store_rules.proofs.Going.{none_go, both_go}
use Rattle.store_rules.proofs.Permuted.{other_not}
use Rattle.store_rules.proofs.Releasing.{released_twice, released_none}
use Rattle.engines.specs.Ends.{Lot, Taken}
use Rattle.engines.specs.Engines.{Engine}
use Rattle.engines.specs.Histories.{State, store_at, Slip, blocks_of, Visit, done, step, run, saids, hand_back, handing, told_in}
use Rattle.engines.specs.Shapes.{Tables, Shape}
use Rattle.engines.proofs.HeapAndObjects.{typed_stays}
use Rattle.engines.proofs.Visits.{stores_stay, store_here}

-- those left are still on loan after one has come back
pub lot_left : (E : Shape) (s : E.Settings) (a : Account) (b : Block) (bs : List Block) (t : Tables) (r : Listed Tables) → Lot E (b ∷ bs) t → Taken E s a b t r → Lot E bs r.tables
lot_left E s a b bs t r lot one =
    record {
      lent = λ c m.
          let w = lot.lent c (Memᴰ.tail m) in
          (w.0, (one.loans w.0).1 (w.1, λ q. other_not b.serial bs c lot.apart.0 m (sym w.2.serial ∙ q.serial)), w.2);
      apart = lot.apart.1;
    }

module _ (K : Type 0) (E : K → Engine) (i : ℕ) (e : K) (s : (E e).shape.Settings) where
  abbrev pub held : State → View
  held w = (E e).shape.view s (store_at w i)

  abbrev pub after : State → List Slip → State
  after w ps = run K E w (handing K E i e s ps)

  abbrev pub Long : List Slip → Type 0
  Long ps = All (λ (p : Slip). ((E e).shape.store s).chunks ≤ length p.1) ps

  -- the account with the chunks released that v has no more
  abbrev pub less : State → View → Account
  less w v =
      released_account ((E e).shape.store s) w.account (length (held w).chunks - length v.chunks)
      (sizes (held w).chunks - sizes v.chunks)

  -- store i passes tests 1 to 4
  pub record Ready (w : State) : Type 0 where
    pub here : i < length w.stores
    pub typed : Typed w.account
    pub passes : (E e).shape.gate s w.account (store_at w i) ≡ pass

  -- what the returns come to
  pub record Handed (w : State) (ps : List Slip) : Type 0 where
    pub taken : All (λ (x : Said). (n : ℕ) × (x ≡ Paper.released n)) (saids K E w (handing K E i e s ps))
    pub loans : (l : Loan) → Memᴰ l ((E e).shape.loans (store_at (after w ps) i)) ↔ (Memᴰ l ((E e).shape.loans (store_at w i)) × ((b : Block) → Memᴰ b (blocks_of ps) → Matches b l → ⊥))
    pub view : held (after w ps) ≡ (E e).shape.at_once s (blocks_of ps) (store_at w i)
    pub goes : Go (held w).chunks (held (after w ps)).chunks (told_in K E w (handing K E i e s ps))
    pub account : (after w ps).account ≡ less w (held (after w ps))
    pub rest : (E e).shape.rest s (store_at (after w ps) i) ≡ (E e).shape.rest s (store_at w i)

  -- the memory numbers told are those of the chunks that the named end has no more
  pub handed_told : (w : State) (ps : List Slip) → Handed w ps → (m : ℕ) → Memᴰ m (told_in K E w (handing K E i e s ps))
      ↔ ((c : Chunk) × Memᴰ c (held w).chunks × (c.memory ≡ m) × (Memᴰ c ((E e).shape.at_once s (blocks_of ps) (store_at w i)).chunks → ⊥))
  handed_told w ps h m =
      subst (λ (v : View). Memᴰ m (told_in K E w (handing K E i e s ps)) ↔ ((c : Chunk) × Memᴰ c (held w).chunks × (c.memory ≡ m) × (Memᴰ c v.chunks → ⊥)))
      h.view
      (h.goes.tells m)

  -- ---- where nothing comes back

  unchanged : (w : State) → Ready w → w.account ≡ less w (held w)
  unchanged w r =
      let h = heap_at w.account ((E e).shape.store s).heap in
      let cs = (held w).chunks in
      let q : value h.deallocated + h.used ≡ value h.allocated = agrees_yes h ((E e).ends.heap_agrees s w.account (store_at w i) r.passes) in
      let n : length cs - length cs ≡ 0 = omega arith in
      let b : sizes cs - sizes cs ≡ 0 = omega arith in
      sym
      (released_none ((E e).shape.store s) w.account r.typed ((E e).ends.heap_low s w.account (store_at w i) r.passes)
      (lt_of_le_of_lt (omega (arith, q)) (r.typed.totals ((E e).shape.store s).heap))
      (r.typed.words ((E e).shape.store s).heap))
      ∙ (λ j. released_account ((E e).shape.store s) w.account (sym n j) (sym b j))

  -- ---- the first of them

  module _ (w : State) (r : Ready w) (p : Slip) (ps : List Slip) (lot : Lot (E e).shape (blocks_of (p ∷ ps)) (store_at w i)) (long : ((E e).shape.store s).chunks ≤ length p.1) where
    abbrev v : Visit K E
    v = hand_back K E i e s p

    one : Taken (E e).shape s w.account p.0 (store_at w i) ((E e).shape.return s w.account p.0 (store_at w i) p.1)
    one = (E e).ends.taken s w.account p.0 (store_at w i) p.1 r.passes (lot.lent p.0 (Memᴰ.head refl)) long

    now : store_at (step K E w v) i ≡ (done K E w v).tables
    now = store_here K E w v r.here

    next_account : (step K E w v).account ≡ less w (held (step K E w v))
    next_account = one.account ∙ ap (λ (t : Tables). less w ((E e).shape.view s t)) (sym now)

    next_goes : Go (held w).chunks (held (step K E w v)).chunks (take (to_free (done K E w v).said) (done K E w v).list)
    next_goes =
        subst (λ (t : Tables). Go (held w).chunks ((E e).shape.view s t).chunks (take (to_free (done K E w v).said) (done K E w v).list)) (sym now)
        one.goes

    next_ready : Ready (step K E w v)
    next_ready =
        record {
          here = omega (arith, stores_stay K E w v, r.here);
          typed = typed_stays K E w v r.typed;
          passes = subst (λ (t : Tables). (E e).shape.gate s (step K E w v).account t ≡ pass) (sym now) ((E e).keeps.return_again s w.account (store_at w i) r.typed r.passes p.0 p.1);
        }

    next_lot : Lot (E e).shape (blocks_of ps) (store_at (step K E w v) i)
    next_lot =
        subst (Lot (E e).shape (blocks_of ps)) (sym now)
        (lot_left (E e).shape s w.account p.0 (blocks_of ps) (store_at w i) (done K E w v) lot one)

    next_end : (E e).shape.at_once s (blocks_of ps) (store_at (step K E w v) i) ≡ (E e).shape.at_once s (blocks_of (p ∷ ps)) (store_at w i)
    next_end =
        ap ((E e).shape.at_once s (blocks_of ps)) now
        ∙ (E e).ends.next s w.account p.0 (blocks_of ps) (store_at w i) p.1 r.passes lot long

    next_rest : (E e).shape.rest s (store_at (step K E w v) i) ≡ (E e).shape.rest s (store_at w i)
    next_rest =
        ap ((E e).shape.rest s) now
        ∙ (E e).ends.rest_stays s w.account p.0 (store_at w i) p.1 r.passes (lot.lent p.0 (Memᴰ.head refl)) long

    next_loans : (l : Loan) → Memᴰ l ((E e).shape.loans (store_at (step K E w v) i)) ↔ (Memᴰ l ((E e).shape.loans (store_at w i)) × (Matches p.0 l → ⊥))
    next_loans l = subst (λ (t : Tables). Memᴰ l ((E e).shape.loans t) ↔ (Memᴰ l ((E e).shape.loans (store_at w i)) × (Matches p.0 l → ⊥))) (sym now) (one.loans l)

    -- its release and those after it are one
    both_accounts : Handed (step K E w v) ps → (after (step K E w v) ps).account ≡ less w (held (after (step K E w v) ps))
    both_accounts h =
        let m = length (held w).chunks - length (held (step K E w v)).chunks in
        let x = sizes (held w).chunks - sizes (held (step K E w v)).chunks in
        let end = (held (after (step K E w v) ps)).chunks in
        let n = length (held (step K E w v)).chunks - length end in
        let y = sizes (held (step K E w v)).chunks - sizes end in
        let count : m + n ≡ length (held w).chunks - length end = omega (arith, next_goes.count, h.goes.count) in
        let bytes : x + y ≡ sizes (held w).chunks - sizes end = omega (arith, next_goes.bytes, h.goes.bytes) in
        h.account
        ∙ ap (λ (a : Account). released_account ((E e).shape.store s) a n y) next_account
        ∙ released_twice ((E e).shape.store s) w.account r.typed ((E e).ends.heap_low s w.account (store_at w i) r.passes) m x n y
        ∙ (λ j. released_account ((E e).shape.store s) w.account (count j) (bytes j))

  -- ---- all of them

  -- different blocks on loan, with lists long enough, at a store that passes the tests: all of this holds
  pub hand : (w : State) (ps : List Slip) → Ready w → Lot (E e).shape (blocks_of ps) (store_at w i) → Long ps → Handed w ps
  hand w [] r lot l =
      record {
        taken = λ x m. absurd (Memᴰ.not-nil m);
        loans = λ l. ((λ m. (m, λ b k. absurd (Memᴰ.not-nil k))), (λ m. m.0));
        view = sym ((E e).ends.none s w.account (store_at w i) r.passes);
        goes = none_go (held w).chunks;
        account = unchanged w r;
        rest = refl;
      }
  hand w (p ∷ ps) r lot l =
      let long = l p (Memᴰ.head refl) in
      let first = one w r p ps lot long in
      let later = hand (step K E w (hand_back K E i e s p)) ps (next_ready w r p ps lot long) (next_lot w r p ps lot long) (λ q m. l q (Memᴰ.tail m)) in
      record {
        taken = λ x m. ⊎_elim (λ q. (first.said.0, q ∙ first.said.1)) (later.taken x) (Memᴰ.cases_cons m);
        loans = λ l. (
          (λ m. let x = (later.loans l).0 m in let y = (next_loans w r p ps lot long l).0 x.0 in
              (y.0, λ b k q. ⊎_elim (λ z. y.1 (subst (λ (c : Block). Matches c l) z q)) (λ z. x.1 b z q) (Memᴰ.cases_cons k))),
          (λ m. (later.loans l).1 ((next_loans w r p ps lot long l).1 (m.0, m.1 p.0 (Memᴰ.head refl)), λ b k. m.1 b (Memᴰ.tail k))),
        );
        view = later.view ∙ next_end w r p ps lot long;
        goes = both_go _ _ _ _ _ (next_goes w r p ps lot long) later.goes;
        account = both_accounts w r p ps lot long later;
        rest = later.rest ∙ next_rest w r p ps lot long;
      }
