-- The test of the chains decides what it stands for: it passes where each chain has the loans of its serials, and there
-- only; and then no two loans have one serial.
use mathlib.Core.Path.{◌≡◌, refl, sym, ap, ◌∙◌}
use mathlib.Core.Bool.{Bool, true, false}
use mathlib.Core.Logic.{◌⊎◌, inl, inr, ⊎_elim}
use mathlib.Core.List.{List, [], ◌∷◌, ◌++◌}
use Prim.Native.Nat.{ℕ, zero, suc, ◌+◌, ◌-◌, ◌%◌, ◌≤◌, ◌<◌}
use native.Mathlib.Nat.{mod-lt}
use native.Mathlib.Numerals.{add-one, sub-one}
use native.Mathlib.Omega.{arith}
use lib.Dec.{ltb, leb}
use lib.ListN.{length, length-append}
use borrow.Author.Tests.{eqb-true, eq-eqb, ltb-true, lt-ltb, leb-true, le-leb}
use Rattle.lists.specs.Members.{Mem, Distinct}
use Rattle.lists.proofs.Bools.{and_left, and_right, and_both, same?, lt_or_le, told, true_false}
use Rattle.lists.proofs.Members.{below_mem, mem_left, mem_right, mem_cases, distinct_append}
use Rattle.slabs.specs.Slab.{nowhere, Chain}
use Rattle.slabs.specs.Test.{vacancies}
use Rattle.slabs.proofs.Places.{chain_distinct}
use Rattle.book_rules.specs.Chains.{Falling, InChain, Chained, link_ok, left_after, left_of, chains_ok}
use Rattle.book_rules.proofs.Falling.{falling_once}
use Rattle.book_rules.proofs.Following.{link_past, link_vacant, link_used, after_end, after_none, after_torn, after_on, of_none, of_torn, of_on}
use Rattle.book_rules.proofs.Used.{used_most, used_filled, used_whole}

module _ (free : ℕ → Bool) (first next serial : ℕ → ℕ) where
  -- ---- a serial stands once

  pub serial_once : (n places given p q : ℕ) → 0 < n → Chained free first next serial n places given → p < places → q < places → free p ≡ false → free q ≡ false → serial p ≡ serial q → p ≡ q
  serial_once n places given p q o C h k e f s =
      let c = C (serial p % n) (mod-lt (serial p) o) in
      falling_once free first next serial given c.members c.falling p q (c.all p h e refl) (c.all q k f (ap (λ (x : ℕ). x % n) (sym s))) s

  -- ---- one link, both ways

  module _ (n places i most p : ℕ) where
    -- what a link says
    record Link : Type 0 where
      below : p < places
      loaned : free p ≡ false
      given : 0 < serial p
      falls : serial p ≤ most
      chained : serial p % n ≡ i

    link_said : link_ok free first next serial n places i most p ≡ true → Link
    link_said e = ⊎_elim here (λ h. absurd (true_false _ e (link_past free first next serial n places i most p h))) (lt_or_le p places)
      where
        here : p < places → Link
        here h = ⊎_elim (λ t. absurd (true_false _ e (link_vacant free first next serial n places i most p h t))) lent (told (free p))
          where
            lent : free p ≡ false → Link
            lent t =
                let r = sym (link_used free first next serial n places i most p h t) ∙ e in
                let s = and_right (ltb 0 (serial p)) _ r in
                record {
                  below = h;
                  loaned = t;
                  given = ltb-true 0 (serial p) (and_left _ _ r);
                  falls = leb-true (serial p) most (and_left _ _ s);
                  chained = eqb-true (serial p % n) i (and_right (leb (serial p) most) _ s);
                }

    link_told : Link → link_ok free first next serial n places i most p ≡ true
    link_told L =
        link_used free first next serial n places i most p L.below L.loaned
        ∙ and_both _ _ (lt-ltb 0 (serial p) L.given) (and_both _ _ (le-leb (serial p) most L.falls) (eq-eqb (serial p % n) i L.chained))

  module _ (n places given : ℕ) (few : places < nowhere) where
    -- p is in use, in chain i
    abbrev In : ℕ → ℕ → Type 0
    In i p = (p < places) × (free p ≡ false) × (serial p % n ≡ i)

    -- ---- what passes is chained

    -- the chain that the test followed from p on, with k loans to go, r of them left
    record Followed (i most p k r : ℕ) : Type 0 where
      members : List ℕ
      chain : Chain next p members
      falling : Falling free first next serial most members
      right : (x : ℕ) → Mem x members → In i x
      long : length members + r ≡ k

    -- it ends
    ended : (i most p k r : ℕ) → p ≡ nowhere → k ≡ r → Followed i most p k r
    ended i most p k r e f = record { members = []; chain = e; falling = tt; right = λ x m. absurd m; long = omega arith }

    -- or goes on by a link
    linked : (i most p k r : ℕ) → Link n places i most p → Followed i (serial p - 1) (next p) k r → Followed i most p (suc k) r
    linked i most p k r L F =
        record {
          members = p ∷ F.members;
          chain = (refl, F.chain);
          falling = (L.given, L.falls, F.falling);
          right = λ x m. ⊎_elim (λ e. rw e (L.below, L.loaned, L.chained)) (F.right x) m;
          long = let e : length F.members + r ≡ k = F.long in omega arith;
        }

    followed : (i most p k r : ℕ) → left_after free first next serial n places i most p k ≡ r → (r ≡ nowhere → ⊥) → Followed i most p k r
    followed i most p zero r e f =
        ⊎_elim (λ h. ended i most p 0 r h (sym (after_end free first next serial n places i most p 0 h) ∙ e))
        (λ h. absurd (f (sym e ∙ after_none free first next serial n places i most p 0 h refl))) (same? p nowhere)
    followed i most p (suc k) r e f =
        ⊎_elim (λ h. ended i most p (suc k) r h (sym (after_end free first next serial n places i most p (suc k) h) ∙ e))
        (λ h. ⊎_elim
        (λ t. linked i most p k r (link_said n places i most p t) (followed i (serial p - 1) (next p) k r (rw (sub-one (suc k)) at (sym (after_on free first next serial n places i most p (suc k) (serial p) (next p) h (omega arith) t refl refl) ∙ e)) f))
        (λ t. absurd (f (sym e ∙ after_torn free first next serial n places i most p (suc k) h (omega arith) t)))
        (told (link_ok free first next serial n places i most p))) (same? p nowhere)

    -- chain j, with those of the loans that are its own
    record Part (loans : List ℕ) (j : ℕ) : Type 0 where
      members : List ℕ
      chain : Chain next (first j) members
      falling : Falling free first next serial given members
      right : (x : ℕ) → Mem x members → In j x
      holds : (x : ℕ) → Mem x loans → serial x % n ≡ j → Mem x members

    -- the loans of the first i chains, when all but r of k have been met
    record Gathered (k i r : ℕ) : Type 0 where
      loans : List ℕ
      long : length loans + r ≡ k
      distinct : Distinct loans
      right : (x : ℕ) → Mem x loans → (x < places) × (free x ≡ false) × (serial x % n < i)
      part : (j : ℕ) → j < i → Part loans j

    -- one chain's loans are distinct, and in none of the chains before
    module _ (i : ℕ) (members loans : List ℕ) (h : ℕ) (chain : Chain next h members) (own : (x : ℕ) → Mem x members → In i x)
        (before : (x : ℕ) → Mem x loans → (x < places) × (free x ≡ false) × (serial x % n < i)) where
      apart : (x : ℕ) → Mem x members → Mem x loans → ⊥
      apart x m l = let e : serial x % n ≡ i = (own x m).2 in let g : serial x % n < i = (before x l).2 in omega arith

      joined_distinct : Distinct loans → Distinct (members ++ loans)
      joined_distinct d =
          distinct_append members loans
          (chain_distinct next places h members (omega arith) chain (below_mem places members (λ x m. (own x m).0))) d apart

      joined_right : (x : ℕ) → Mem x (members ++ loans) → (x < places) × (free x ≡ false) × (serial x % n < suc i)
      joined_right x m =
          ⊎_elim (λ a. let r = own x a in let e : serial x % n ≡ i = r.2 in (r.0, r.1, omega arith))
          (λ b. let r = before x b in let e : serial x % n < i = r.2 in (r.0, r.1, omega arith)) (mem_cases x members loans m)

    gathered_more : (k i q r : ℕ) → Gathered k i q → Followed i given (first i) q r → Gathered k (suc i) r
    gathered_more k i q r G F =
        record {
          loans = F.members ++ G.loans;
          long = let a : length F.members + r ≡ q = F.long in let b : length G.loans + q ≡ k = G.long in omega (arith, length-append F.members G.loans);
          distinct = joined_distinct i F.members G.loans (first i) F.chain F.right G.right G.distinct;
          right = joined_right i F.members G.loans (first i) F.chain F.right G.right;
          part = λ j h. ⊎_elim (old j) (λ g. last j (omega arith)) (lt_or_le j i);
        }
      where
        old : (j : ℕ) → j < i → Part (F.members ++ G.loans) j
        old j h =
            let P = G.part j h in
            record {
              members = P.members;
              chain = P.chain;
              falling = P.falling;
              right = P.right;
              holds = λ x m e. ⊎_elim (λ a. let z : serial x % n ≡ i = (F.right x a).2 in absurd (omega arith)) (λ b. P.holds x b e) (mem_cases x F.members G.loans m);
            }

        own : Part (F.members ++ G.loans) i
        own = record {
          members = F.members;
          chain = F.chain;
          falling = F.falling;
          right = F.right;
          holds = λ x m e. ⊎_elim (λ a. a) (λ b. let z : serial x % n < i = (G.right x b).2 in absurd (omega arith)) (mem_cases x F.members G.loans m);
        }

        last : (j : ℕ) → j ≡ i → Part (F.members ++ G.loans) j
        last j e = rw e own

    gathered : (k i r : ℕ) → left_of free first next serial n places given k i ≡ r → (r ≡ nowhere → ⊥) → Gathered k i r
    gathered k zero r e f =
        record { loans = []; long = let z : k ≡ r = sym (of_none free first next serial n places given k) ∙ e in omega arith; distinct = tt; right = λ x m. absurd m; part = λ j h. absurd (omega arith) }
    gathered k (suc i) r e f = by (gathered k i) (same? (left_of free first next serial n places given k i) nowhere)
      where
        left : ℕ
        left = left_of free first next serial n places given k i

        by : ((q : ℕ) → left ≡ q → (q ≡ nowhere → ⊥) → Gathered k i q) → (left ≡ nowhere) ⊎ (left ≡ nowhere → ⊥) → Gathered k (suc i) r
        by g (inl t) = absurd (f (sym e ∙ (rw (add-one i) at (of_torn free first next serial n places given k i t))))
        by g (inr t) = gathered_more k i left r (g left refl t) (followed i given (first i) left r (sym (rw (add-one i) at (of_on free first next serial n places given k i left (first i) refl t refl)) ∙ e) f)

    pub chains_yes : chains_ok free first next serial n places given ≡ true → Chained free first next serial n places given
    unfolding chains_ok
    chains_yes e i h =
        let k = places - vacancies free places in
        let G = gathered k n 0 (eqb-true _ 0 e) (λ z. omega arith) in
        let P = G.part i h in
        let l : length G.loans + 0 ≡ k = G.long in
        record {
          members = P.members;
          chain = P.chain;
          falling = P.falling;
          right = P.right;
          all = λ p a u s. P.holds p (used_filled free places G.loans G.distinct (λ x m. let r = G.right x m in (r.0, r.1)) (omega arith) p a u) s;
        }

    -- ---- what is chained passes

    passes : (i most p k : ℕ) (l : List ℕ) → Chain next p l → Falling free first next serial most l → ((x : ℕ) → Mem x l → In i x) → length l ≤ k
        → left_after free first next serial n places i most p k ≡ k - length l
    passes i most p k [] c f r h = after_end free first next serial n places i most p k c ∙ omega arith
    passes i most p k (x ∷ l) c f r h =
        let e : p ≡ x = c.0 in
        let b : x < places = (r x (inl refl)).0 in
        let L : Link n places i most x = record { below = b; loaned = (r x (inl refl)).1; given = f.0; falls = f.1; chained = (r x (inl refl)).2 } in
        let g : left_after free first next serial n places i (serial x - 1) (next x) (k - 1) ≡ k - 1 - length l = passes i (serial x - 1) (next x) (k - 1) l c.1 f.2 (λ y m. r y (inr m)) (omega arith) in
        rw e (after_on free first next serial n places i most x k (serial x) (next x) (λ z. omega arith) (omega arith) (link_told n places i most x L) refl refl ∙ g ∙ omega arith)

    -- what the first i chains have, and the test of them
    record Passed (k i : ℕ) : Type 0 where
      loans : List ℕ
      distinct : Distinct loans
      right : (x : ℕ) → Mem x loans → (x < places) × (free x ≡ false) × (serial x % n < i)
      all : (x : ℕ) → x < places → free x ≡ false → serial x % n < i → Mem x loans
      left : left_of free first next serial n places given k i + length loans ≡ k

    passed_none : (k : ℕ) → Passed k 0
    passed_none k = record {
      loans = [];
      distinct = tt;
      right = λ x m. absurd m;
      all = λ x a b c. absurd (omega arith);
      left = let e = of_none free first next serial n places given k in omega arith;
    }

    passed_more : (i : ℕ) → InChain free first next serial n places given i → Passed (places - vacancies free places) i → Passed (places - vacancies free places) (suc i)
    passed_more i C P =
        let k = places - vacancies free places in
        let d = joined_distinct i C.members P.loans (first i) C.chain C.right P.right P.distinct in
        let r = joined_right i C.members P.loans (first i) C.chain C.right P.right in
        let most : length (C.members ++ P.loans) ≤ k = used_most free places (C.members ++ P.loans) d (λ x m. let t = r x m in (t.0, t.1)) in
        let q = left_of free first next serial n places given k i in
        let e : q + length P.loans ≡ k = P.left in
        let s : length C.members ≤ q = omega (arith, length-append C.members P.loans) in
        let t = (rw (add-one i) at (of_on free first next serial n places given k i q (first i) refl (λ z. omega arith) refl)) ∙ passes i given (first i) q C.members C.chain C.falling C.right s in
        record {
          loans = C.members ++ P.loans;
          distinct = d;
          right = r;
          all = λ x a b c. ⊎_elim (λ g. mem_right x C.members P.loans (P.all x a b g)) (λ g. mem_left x C.members P.loans (C.all x a b (omega arith))) (lt_or_le (serial x % n) i);
          left = omega (arith, t, length-append C.members P.loans);
        }

    passed : Chained free first next serial n places given → (i : ℕ) → i ≤ n → Passed (places - vacancies free places) i
    passed C zero h = passed_none (places - vacancies free places)
    passed C (suc i) h = passed_more i (C i h) (passed C i (omega arith))

    pub chains_all : 0 < n → Chained free first next serial n places given → chains_ok free first next serial n places given ≡ true
    unfolding chains_ok
    chains_all o C =
        let P = passed C n (omega arith) in
        let w = used_whole free places P.loans P.distinct (λ x m. let r = P.right x m in (r.0, r.1)) (λ p h e. P.all p h e (mod-lt (serial p) o)) in
        let z : left_of free first next serial n places given (places - vacancies free places) n ≡ 0 = omega (arith, w, P.left) in
        eq-eqb _ 0 z
