-- The walk's two halves: what it finds between the loans fills the chunks, in order and in whole units; and loans that lie
-- in their chunks, in order, pass it.
use mathlib.Core.Path.{◌≡◌, refl, sym, ◌∙◌, ap}
use mathlib.Core.Bool.{true, false, ◌&&◌}
use mathlib.Core.Logic.{◌⊎◌, inl, inr, ⊎_elim}
use mathlib.Core.List.{List, [], ◌∷◌, Memᴰ}
use Prim.Native.Nat.{ℕ, suc, ◌+◌, ◌-◌, ◌≤◌, ◌<◌}
use native.Mathlib.Omega.{arith}
use lib.Dec.{ltb, leb, eqb}
use borrow.Author.Tests.{ltb-true, ltb-false, leb-true, le-leb, lt-ltb, eqb-true, eqb-false}
use Rattle.counter.specs.Limits.{chunk_size_most}
use Rattle.lists.proofs.Bools.{and_left, and_right, and_both, told}
use Rattle.store_rules.specs.declared.Loan.{Loan}
use Rattle.freelist_rules.specs.Pieces.{on, total, piece, free, loaned, held, line, lo, hi, Rising, All}
use Rattle.freelist_rules.specs.Walk.{front, behind, within, inside, gaps, gaps_of}
use Rattle.store_rules.specs.declared.Chunk.{Chunk}
use Rattle.store_rules.specs.declared.Region.{Region}
use Rattle.freelist_rules.proofs.Base.{never, on_in, on_out, on_join, total_mem, rising_mono, rising_low, rising_from}
use Rattle.freelist_rules.proofs.Facts.{has, Low, Small, ChunksRise, held_where}

abbrev pub begins : Loan → ℕ
begins l = lo (piece l)

abbrev pub stops : Loan → ℕ
stops l = hi (piece l)

abbrev pub LoansRise : ℕ → List Loan → Type 0
LoansRise b ls = Rising begins stops 0 b ls

-- ---- what the walk says of a loan, and of a chunk

module _ (p z : ℕ) (l : Loan) (ls : List Loan) (e : within p z (l ∷ ls) ≡ true) where
  pub within_first : p ≤ l.offset
  within_first = leb-true p l.offset (and_left (leb p l.offset) (ltb 0 l.size && within (l.offset + l.size) z ls) e)

  within_both : (ltb 0 l.size && within (l.offset + l.size) z ls) ≡ true
  within_both = and_right (leb p l.offset) (ltb 0 l.size && within (l.offset + l.size) z ls) e

  pub within_some : 0 < l.size
  within_some = ltb-true 0 l.size (and_left (ltb 0 l.size) (within (l.offset + l.size) z ls) within_both)

  pub within_rest : within (l.offset + l.size) z ls ≡ true
  within_rest = and_right (ltb 0 l.size) (within (l.offset + l.size) z ls) within_both

pub within_le : (p z : ℕ) (ls : List Loan) → within p z ls ≡ true → p ≤ z
within_le p z [] e = leb-true p z e
within_le p z (l ∷ ls) e = omega (arith, within_first p z l ls e, within_le (l.offset + l.size) z ls (within_rest p z l ls e))

module _ (c : Chunk) (cs : List Chunk) (ls : List Loan) (e : inside (c ∷ cs) ls ≡ true) where
  inside_here : within 0 c.size (front c.number ls) ≡ true
  inside_here = and_left (within 0 c.size (front c.number ls)) (inside cs (behind c.number ls)) e

  inside_rest : inside cs (behind c.number ls) ≡ true
  inside_rest = and_right (within 0 c.size (front c.number ls)) (inside cs (behind c.number ls)) e

front_mem : (n : ℕ) (ls : List Loan) → All (λ (l : Loan). l.chunk ≡ n) (front n ls)
front_mem n [] d m = absurd (mathlib.Core.List.Memᴰ.not-nil m)
front_mem n (l ∷ ls) d m = go (told (eqb l.chunk n)) (front_mem n ls d)
  where
    go : (eqb l.chunk n ≡ true) ⊎ (eqb l.chunk n ≡ false) → (Memᴰ d (front n ls) → d.chunk ≡ n) → d.chunk ≡ n
    go (inl e) ih = ⊎_elim (λ h. ap (λ (y : Loan). y.chunk) h ∙ eqb-true l.chunk n e) ih (mathlib.Core.List.Memᴰ.cases_cons (rw e at m))
    go (inr e) ih = absurd (mathlib.Core.List.Memᴰ.not-nil (rw e at m))

pub front_in : (n : ℕ) (ls : List Loan) (d : Loan) → Memᴰ d (front n ls) → Memᴰ d ls
front_in n [] d m = m
front_in n (l ∷ ls) d m = go (told (eqb l.chunk n)) (front_in n ls d)
  where
    go : (eqb l.chunk n ≡ true) ⊎ (eqb l.chunk n ≡ false) → (Memᴰ d (front n ls) → Memᴰ d ls) → Memᴰ d (l ∷ ls)
    go (inl e) ih = ⊎_elim (λ h. mathlib.Core.List.Memᴰ.head h) (λ h. mathlib.Core.List.Memᴰ.tail (ih h)) (mathlib.Core.List.Memᴰ.cases_cons (rw e at m))
    go (inr e) ih = absurd (mathlib.Core.List.Memᴰ.not-nil (rw e at m))

pub behind_in : (n : ℕ) (ls : List Loan) (d : Loan) → Memᴰ d (behind n ls) → Memᴰ d ls
behind_in n [] d m = m
behind_in n (l ∷ ls) d m = go (told (eqb l.chunk n)) (behind_in n ls d)
  where
    go : (eqb l.chunk n ≡ true) ⊎ (eqb l.chunk n ≡ false) → (Memᴰ d (behind n ls) → Memᴰ d ls) → Memᴰ d (l ∷ ls)
    go (inl e) ih = mathlib.Core.List.Memᴰ.tail (ih (rw e at m))
    go (inr e) ih = rw e at m

total_front : (f : Loan → ℕ) (n : ℕ) (ls : List Loan) → total f (front n ls) + total f (behind n ls) ≡ total f ls
total_front f n [] = refl
total_front f n (l ∷ ls) = ⊎_elim (λ e. rw e (omega (arith, total_front f n ls))) (λ e. rw e (omega arith)) (told (eqb l.chunk n))

-- ---- the gaps fill

gaps_fill : (k n x p z : ℕ) (ls : List Loan) (rest : List Region) → within p z ls ≡ true → All (λ (l : Loan). l.chunk ≡ k) ls → loaned n x ls + free n x (gaps k p z ls rest) ≡ on n x k p z + free n x rest
gaps_fill k n x p z [] rest e c =
    ⊎_elim (λ h. rw h (omega arith)) (λ h. rw h (omega (arith, on_out n x k p z (λ f g q. omega (arith, ltb-false p z h))))) (told (ltb p z))
gaps_fill k n x p z (l ∷ ls) rest e c =
    let w = within_rest p z l ls e in
    go (within_first p z l ls e) (within_le (l.offset + l.size) z ls w) (gaps_fill k n x (l.offset + l.size) z ls rest w (λ d m. c d (mathlib.Core.List.Memᴰ.tail m))) (told (ltb p l.offset))
  where
    mine : has n x (piece l) ≡ on n x k l.offset (l.offset + l.size)
    mine = ap (λ (y : ℕ). on n x y l.offset (l.offset + l.size)) (c l (mathlib.Core.List.Memᴰ.head refl))

    go : p ≤ l.offset → l.offset + l.size ≤ z → loaned n x ls + free n x (gaps k (l.offset + l.size) z ls rest) ≡ on n x k (l.offset + l.size) z + free n x rest → (ltb p l.offset ≡ true) ⊎ (ltb p l.offset ≡ false)
        → loaned n x (l ∷ ls) + free n x (gaps k p z (l ∷ ls) rest) ≡ on n x k p z + free n x rest
    go a b ih (inl h) =
        rw h
        (omega (arith, mine, on_join n x k k p l.offset (l.offset + l.size) refl a (omega arith), on_join n x k k p (l.offset + l.size) z refl (omega arith) b))
    go a b ih (inr h) =
        let s : p ≡ l.offset = omega (arith, ltb-false p l.offset h) in
        rw h (omega (arith, mine, on_join n x k k l.offset (l.offset + l.size) z refl (omega arith) b, ap (λ (y : ℕ). on n x k y z) s))

pub gaps_of_fill : (n x : ℕ) (cs : List Chunk) (ls : List Loan) → inside cs ls ≡ true → loaned n x ls + free n x (gaps_of cs ls) ≡ held n x cs
gaps_of_fill n x [] [] e = refl
gaps_of_fill n x [] (l ∷ ls) e = never (sym e)
gaps_of_fill n x (c ∷ cs) ls e =
    omega (
      arith,
      gaps_fill c.number n x 0 c.size (front c.number ls) (gaps_of cs (behind c.number ls)) (inside_here c cs ls e) (front_mem c.number ls),
      gaps_of_fill n x cs (behind c.number ls) (inside_rest c cs ls e),
      total_front (λ (l : Loan). has n x (piece l)) c.number ls,
    )

-- ---- and rise

gaps_rise : (k b p z : ℕ) (ls : List Loan) (rest : List Region) → within p z ls ≡ true → b ≤ line k p → Rising lo hi 1 (1 + line k z) rest → Rising lo hi 1 b (gaps k p z ls rest)
gaps_rise k b p z [] rest e h r =
    ⊎_elim (λ q. rw q (h, omega (arith, ltb-true p z q), r)) (λ q. rw q (rising_mono lo hi 1 b (1 + line k z) rest (omega (arith, leb-true p z e)) r)) (told (ltb p z))
gaps_rise k b p z (l ∷ ls) rest e h r =
    go (within_first p z l ls e) (within_some p z l ls e) (λ a g. gaps_rise k a (l.offset + l.size) z ls rest (within_rest p z l ls e) g r) (told (ltb p l.offset))
  where
    go : p ≤ l.offset → 0 < l.size → ((a : ℕ) → a ≤ line k (l.offset + l.size) → Rising lo hi 1 a (gaps k (l.offset + l.size) z ls rest)) → (ltb p l.offset ≡ true) ⊎ (ltb p l.offset ≡ false) → Rising lo hi 1 b (gaps k p z (l ∷ ls) rest)
    go a c ih (inl q) = rw q (h, omega (arith, ltb-true p l.offset q), ih (1 + line k l.offset) (omega arith))
    go a c ih (inr q) = rw q (ih b (omega arith))

pub gaps_of_rise : (b q : ℕ) (cs : List Chunk) (ls : List Loan) → inside cs ls ≡ true → ChunksRise q cs → Small cs → b ≤ line q 0 → Rising lo hi 1 b (gaps_of cs ls)
gaps_of_rise b q [] ls e r s h = tt
gaps_of_rise b q (c ∷ cs) ls e r s h =
    gaps_rise c.number b 0 c.size (front c.number ls) (gaps_of cs (behind c.number ls)) (inside_here c cs ls e) (omega (arith, r.0))
    (gaps_of_rise (1 + line c.number c.size) (0 + suc c.number) cs (behind c.number ls) (inside_rest c cs ls e) r.2 (λ d m. s d (mathlib.Core.List.Memᴰ.tail m)) (omega (arith, s c (mathlib.Core.List.Memᴰ.head refl))))

-- regions that fill chunks end within them
pub low_of : (b : ℕ) (cs : List Chunk) (ls : List Loan) (rs : List Region) → ((n x : ℕ) → loaned n x ls + free n x rs ≡ held n x cs) → Rising lo hi 1 b rs → Small cs → Low rs
low_of b cs ls rs f r s d m =
    let k = rising_low lo hi 1 b rs r d m in
    let a = total_mem (has d.chunk (d.end - 1)) d rs m in
    let e = on_in d.chunk (d.end - 1) d.chunk d.start d.end refl (omega arith) (omega arith) in
    let w = held_where d.chunk (d.end - 1) cs (omega (arith, f d.chunk (d.end - 1))) in
    omega (arith, w.3, s w.0 w.1)

-- ---- loans that pass rise

within_rise : (n b p z : ℕ) (ls : List Loan) → within p z (front n ls) ≡ true → b ≤ line n p → LoansRise (line n z) (behind n ls) → LoansRise b ls
within_rise n b p z [] e h r = tt
within_rise n b p z (l ∷ ls) e h r = go (told (eqb l.chunk n)) (λ b p. within_rise n b p z ls)
  where
    go : (eqb l.chunk n ≡ true) ⊎ (eqb l.chunk n ≡ false) → ((b p : ℕ) → within p z (front n ls) ≡ true → b ≤ line n p → LoansRise (line n z) (behind n ls) → LoansRise b ls) → LoansRise b (l ∷ ls)
    go (inl q) ih =
        let c = eqb-true l.chunk n q in
        let f : within p z (l ∷ front n ls) ≡ true = rw q at e in
        let a = within_first p z l (front n ls) f in
        let s = within_some p z l (front n ls) f in
        (omega arith, omega arith, ih (0 + stops l) (l.offset + l.size) (within_rest p z l (front n ls) f) (omega arith) (rw q at r))
    go (inr q) ih =
        let f : leb p z ≡ true = rw q at e in
        rising_mono begins stops 0 b (line n z) (l ∷ ls) (omega (arith, leb-true p z f)) (rw q at r)

pub inside_rise : (b q : ℕ) (cs : List Chunk) (ls : List Loan) → inside cs ls ≡ true → ChunksRise q cs → Small cs → b ≤ line q 0 → LoansRise b ls
inside_rise b q [] [] e r s h = tt
inside_rise b q [] (l ∷ ls) e r s h = never (sym e)
inside_rise b q (c ∷ cs) ls e r s h =
    within_rise c.number b 0 c.size ls (inside_here c cs ls e) (omega (arith, r.0))
    (inside_rise (line c.number c.size) (0 + suc c.number) cs (behind c.number ls) (inside_rest c cs ls e) r.2 (λ d m. s d (mathlib.Core.List.Memᴰ.tail m)) (omega (arith, s c (mathlib.Core.List.Memᴰ.head refl))))

-- ---- loans that rise, each in a chunk, pass

abbrev pub Home : List Chunk → Loan → Type 0
Home cs l = (c : Chunk) × Memᴰ c cs × (c.number ≡ l.chunk) × (l.offset + l.size ≤ c.size)

within_ok : (n p z : ℕ) (ls : List Loan) → p ≤ z → LoansRise (line n p) ls → All (λ (l : Loan). l.chunk ≡ n → l.offset + l.size ≤ z) ls → within p z (front n ls) ≡ true
within_ok n p z [] h r f = le-leb p z h
within_ok n p z (l ∷ ls) h r f = go (told (eqb l.chunk n)) (within_ok n (l.offset + l.size) z ls)
  where
    go : (eqb l.chunk n ≡ true) ⊎ (eqb l.chunk n ≡ false) → (l.offset + l.size ≤ z → LoansRise (line n (l.offset + l.size)) ls → All (λ (d : Loan). d.chunk ≡ n → d.offset + d.size ≤ z) ls → within (l.offset + l.size) z (front n ls) ≡ true) → within p z (front n (l ∷ ls)) ≡ true
    go (inl e) ih =
        let c = eqb-true l.chunk n e in
        rw e
        (and_both _ _ (le-leb p l.offset (omega (arith, r.0)))
        (and_both _ _ (lt-ltb 0 l.size (omega (arith, r.1)))
        (ih (f l (mathlib.Core.List.Memᴰ.head refl) c) (rising_mono begins stops 0 (line n (l.offset + l.size)) (0 + stops l) ls (omega arith) r.2) (λ d m. f d (mathlib.Core.List.Memᴰ.tail m)))))
    go (inr e) ih = rw e (le-leb p z h)

behind_rise : (n b : ℕ) (ls : List Loan) → LoansRise b ls → LoansRise b (behind n ls)
behind_rise n b [] r = tt
behind_rise n b (l ∷ ls) r =
    ⊎_elim (λ e. rw e (rising_mono begins stops 0 b (0 + stops l) (behind n ls) (omega (arith, r.0, r.1)) (behind_rise n (0 + stops l) ls r.2))) (λ e. rw e r) (told (eqb l.chunk n))

behind_above : (n b : ℕ) (ls : List Loan) → LoansRise b ls → All (λ (l : Loan). n ≤ l.chunk) ls → All (λ (l : Loan). l.offset + l.size ≤ chunk_size_most) ls → All (λ (l : Loan). n < l.chunk) (behind n ls)
behind_above n b [] r f g d m = absurd (mathlib.Core.List.Memᴰ.not-nil m)
behind_above n b (l ∷ ls) r f g d m = go (told (eqb l.chunk n)) (behind_above n (0 + stops l) ls r.2 (λ a k. f a (mathlib.Core.List.Memᴰ.tail k)) (λ a k. g a (mathlib.Core.List.Memᴰ.tail k)) d)
  where
    go : (eqb l.chunk n ≡ true) ⊎ (eqb l.chunk n ≡ false) → (Memᴰ d (behind n ls) → n < d.chunk) → n < d.chunk
    go (inl e) ih = ih (rw e at m)
    go (inr e) ih =
        let k : Memᴰ d (l ∷ ls) = rw e at m in
        let c : l.chunk ≡ n → ⊥ = eqb-false l.chunk n e in
        let a = f l (mathlib.Core.List.Memᴰ.head refl) in
        ⊎_elim (λ h. omega (arith, ap (λ (y : Loan). y.chunk) h)) (λ h. omega (arith, (rising_low begins stops 0 (0 + stops l) ls r.2 d h).0, g d (mathlib.Core.List.Memᴰ.tail h))) (mathlib.Core.List.Memᴰ.cases_cons k)

pub inside_ok : (q b : ℕ) (cs : List Chunk) (ls : List Loan) → ChunksRise q cs → Small cs → LoansRise b ls → All (Home cs) ls → inside cs ls ≡ true
inside_ok q b [] [] r s o f = refl
inside_ok q b [] (l ∷ ls) r s o f = absurd (mathlib.Core.List.Memᴰ.not-nil (f l (mathlib.Core.List.Memᴰ.head refl)).1)
inside_ok q b (c ∷ cs) ls r s o f =
    and_both _ _
    (within_ok c.number 0 c.size ls (omega arith) (rising_from begins stops 0 b (line c.number 0) ls o (λ d m. omega (arith, least d m))) fits)
    (inside_ok (0 + suc c.number) b cs (behind c.number ls) r.2 (λ d m. s d (mathlib.Core.List.Memᴰ.tail m)) (behind_rise c.number b ls o) homes)
  where
    least : (d : Loan) → Memᴰ d ls → c.number ≤ d.chunk
    least d m =
        let w = f d m in
        ⊎_elim (λ e. omega (arith, ap (λ (y : Chunk). y.number) e, w.2)) (λ e. omega (arith, (rising_low _ _ 0 _ cs r.2 w.0 e).0, w.2)) (mathlib.Core.List.Memᴰ.cases_cons w.1)

    fits : All (λ (d : Loan). d.chunk ≡ c.number → d.offset + d.size ≤ c.size) ls
    fits d m h =
        let w = f d m in
        ⊎_elim (λ e. omega (arith, ap (λ (y : Chunk). y.size) e, w.3)) (λ e. absurd (omega (arith, (rising_low _ _ 0 _ cs r.2 w.0 e).0, w.2))) (mathlib.Core.List.Memᴰ.cases_cons w.1)

    low : All (λ (d : Loan). d.offset + d.size ≤ chunk_size_most) ls
    low d m = let w = f d m in omega (arith, w.3, s w.0 w.1)

    homes : All (Home cs) (behind c.number ls)
    homes d m =
        let w = f d (behind_in c.number ls d m) in
        let a = behind_above c.number b ls o least low d m in
        ⊎_elim (λ e. absurd (omega (arith, ap (λ (y : Chunk). y.number) e, w.2))) (λ e. (w.0, e, w.2, w.3)) (mathlib.Core.List.Memᴰ.cases_cons w.1)
