-- A returned block among the free regions: what is free, the order, and where the joined region stands.
use mathlib.Core.Path.{◌≡◌, refl, sym, ◌∙◌, ap}
use mathlib.Core.Bool.{Bool, true, false, cond}
use mathlib.Core.Logic.{◌⊎◌, inl, inr, ⊎_elim}
use mathlib.Core.List.Memᴰ
use mathlib.Core.List.{List, [], ◌∷◌, ◌++◌}
use Prim.Native.Nat.{ℕ, ◌+◌, ◌≤◌, ◌<◌}
use native.Mathlib.Omega.{arith}
use lib.Dec.{ltb, eqb}
use borrow.Author.Tests.{ltb-true, ltb-false, eqb-true, eq-eqb, lt-ltb, le-ltb}
use Rattle.counter.specs.Limits.{chunk_size_most}
use Rattle.lists.proofs.Bools.{and_left, and_right, and_both, told}
use Rattle.freelist_rules.specs.Pieces.{on, free, lo, hi, Rising, All}
use Rattle.freelist_rules.specs.Join.{meets, join, absorb, insert}
use Rattle.store_rules.specs.declared.Region.{Region}
use Rattle.freelist_rules.proofs.Base.{never, on_join, rising_mono}
use Rattle.freelist_rules.proofs.Facts.{has, Low}

-- nothing of rs overlaps b
abbrev pub Clear : Region → List Region → Type 0
Clear b rs = All (λ (r : Region). (hi r ≤ lo b) ⊎ (hi b ≤ lo r)) rs

pub meets_is : (r b : Region) → meets r b ≡ true → (r.chunk ≡ b.chunk) × (r.end ≡ b.start)
meets_is r b e =
    let p = eqb r.chunk b.chunk in
    let q = eqb r.end b.start in
    (eqb-true r.chunk b.chunk (and_left p q e), eqb-true r.end b.start (and_right p q e))

-- two that end and start at one place meet, and two that meet do so
pub meets_not : (r b : Region) → r.end ≤ chunk_size_most → b.start ≤ chunk_size_most → meets r b ≡ false → hi r ≡ lo b → ⊥
meets_not r b p q e h =
    let c : r.chunk ≡ b.chunk = omega arith in
    let d : r.end ≡ b.start = omega arith in
    never (sym (and_both _ _ (eq-eqb r.chunk b.chunk c) (eq-eqb r.end b.start d)) ∙ e)

pub meets_never : (r b : Region) → hi r < lo b → meets r b ≡ false
meets_never r b h = ⊎_elim (λ e. let w = meets_is r b e in absurd (omega (arith, w.0, w.1))) (λ e. e) (told (meets r b))

pub join_has : (n x : ℕ) (b r : Region) → meets b r ≡ true → b.start ≤ b.end → r.start ≤ r.end → has n x (join b r) ≡ has n x b + has n x r
join_has n x b r e p q =
    let w = meets_is b r e in
    let k : on n x r.chunk b.end r.end ≡ has n x r = ap (λ (z : ℕ). on n x r.chunk z r.end) w.1 in
    omega (arith, on_join n x b.chunk r.chunk b.start b.end r.end w.0 p (omega arith), k)

-- ---- what is free

absorb_free : (n x p : ℕ) (b : Region) (rs : List Region) → b.start ≤ b.end → Rising lo hi 1 p rs → free n x (absorb b rs) ≡ has n x b + free n x rs
absorb_free n x p b [] h r = refl
absorb_free n x p b (c ∷ rs) h r = ⊎_elim yes' (λ e. rw e) (told (meets b c))
  where
    yes' : meets b c ≡ true → free n x (absorb b (c ∷ rs)) ≡ has n x b + free n x (c ∷ rs)
    yes' e = rw e (omega (arith, join_has n x b c e h (omega (arith, r.1))))

pub insert_free : (n x p : ℕ) (b : Region) (rs : List Region) → b.start ≤ b.end → Rising lo hi 1 p rs → free n x (insert b rs) ≡ has n x b + free n x rs
unfolding insert
insert_free n x p b [] h r = refl
insert_free n x p b (c ∷ rs) h r = go (told (ltb (lo b) (lo c))) (told (meets c b)) (insert_free n x (1 + hi c) b rs h r.2)
  where
    go : (ltb (lo b) (lo c) ≡ true) ⊎ (ltb (lo b) (lo c) ≡ false) → (meets c b ≡ true) ⊎ (meets c b ≡ false) → free n x (insert b rs) ≡ has n x b + free n x rs
        → free n x (cond (ltb (lo b) (lo c)) (absorb b (c ∷ rs)) (cond (meets c b) (absorb (join c b) rs) (c ∷ insert b rs))) ≡ has n x b + free n x (c ∷ rs)
    go (inl e) f ih = rw e (absorb_free n x p b (c ∷ rs) h r)
    go (inr e) (inl f) ih =
        let w = meets_is c b f in
        let k : c.start ≤ c.end = omega (arith, r.1) in
        rw (e, f) (omega (arith, absorb_free n x (1 + hi c) (join c b) rs (omega arith) r.2, join_has n x c b f k h))
    go (inr e) (inr f) ih = rw (e, f) (omega arith)

-- ---- the order

absorb_rise : (p : ℕ) (b : Region) (rs : List Region) → p ≤ lo b → b.start < b.end → b.end ≤ chunk_size_most → Low rs → Rising lo hi 1 (hi b) rs → Rising lo hi 1 p (absorb b rs)
absorb_rise p b [] h k m l r = (h, omega arith, tt)
absorb_rise p b (c ∷ rs) h k m l r = ⊎_elim yes' no' (told (meets b c))
  where
    yes' : meets b c ≡ true → Rising lo hi 1 p (absorb b (c ∷ rs))
    yes' e =
        let w = meets_is b c e in
        let q : hi (join b c) ≡ hi c = omega arith in
        rw e (h, omega (arith, r.1), rising_mono lo hi 1 (1 + hi (join b c)) (1 + hi c) rs (omega arith) r.2)

    no' : meets b c ≡ false → Rising lo hi 1 p (absorb b (c ∷ rs))
    no' e =
        let d = l c (Memᴰ.head refl) in
        let f : hi b ≡ lo c → ⊥ = meets_not b c m (omega (arith, r.1)) e in
        rw e (h, omega arith, (omega (arith, r.0), r.1, r.2))

-- what starts past lo b and is clear of b starts from hi b on
clear_rise : (q : ℕ) (b : Region) (rs : List Region) → lo b ≤ q → b.start < b.end → Clear b rs → Rising lo hi 1 (1 + q) rs → Rising lo hi 1 (hi b) rs
clear_rise q b [] h k c r = tt
clear_rise q b (d ∷ rs) h k c r = (⊎_elim (λ w. omega (arith, r.0, r.1)) (λ w. w) (c d (Memᴰ.head refl)), r.1, r.2)

pub insert_rise : (p : ℕ) (b : Region) (rs : List Region) → p ≤ lo b → b.start < b.end → b.end ≤ chunk_size_most → Low rs → Clear b rs → Rising lo hi 1 p rs → Rising lo hi 1 p (insert b rs)
unfolding insert
insert_rise p b [] h k m l c r = (h, omega arith, tt)
insert_rise p b (d ∷ rs) h k m l c r =
    go (told (ltb (lo b) (lo d))) (told (meets d b)) (λ q. insert_rise (1 + hi d) b rs q k m (λ a w. l a (Memᴰ.tail w)) (λ a w. c a (Memᴰ.tail w)) r.2)
  where
    cl : (hi d ≤ lo b) ⊎ (hi b ≤ lo d)
    cl = c d (Memᴰ.head refl)

    ld : d.end ≤ chunk_size_most
    ld = l d (Memᴰ.head refl)

    lrs : Low rs
    lrs a w = l a (Memᴰ.tail w)

    crs : Clear b rs
    crs a w = c a (Memᴰ.tail w)

    go : (ltb (lo b) (lo d) ≡ true) ⊎ (ltb (lo b) (lo d) ≡ false) → (meets d b ≡ true) ⊎ (meets d b ≡ false) → (1 + hi d ≤ lo b → Rising lo hi 1 (1 + hi d) (insert b rs))
        → Rising lo hi 1 p (cond (ltb (lo b) (lo d)) (absorb b (d ∷ rs)) (cond (meets d b) (absorb (join d b) rs) (d ∷ insert b rs)))
    go (inl e) f ih =
        let q = ltb-true (lo b) (lo d) e in
        rw e (absorb_rise p b (d ∷ rs) h k m l (⊎_elim (λ w. omega (arith, r.1)) (λ w. w) cl, r.1, r.2))
    go (inr e) (inl f) ih =
        let w = meets_is d b f in
        let q : hi (join d b) ≡ hi b = omega arith in
        rw (e, f) (absorb_rise p (join d b) rs (omega (arith, r.0)) (omega (arith, r.1)) m lrs (rw q (clear_rise (hi d) b rs (omega arith) k crs r.2)))
    go (inr e) (inr f) ih =
        let q = ltb-false (lo b) (lo d) e in
        let v : hi d ≤ lo b = ⊎_elim (λ w. w) (λ w. omega (arith, r.1)) cl in
        let f' : hi d ≡ lo b → ⊥ = meets_not d b ld (omega arith) f in
        rw (e, f) (r.0, r.1, ih (omega arith))

-- ---- past those that lie before it

pub insert_past : (b : Region) (pre rs : List Region) → All (λ (r : Region). (lo r ≤ lo b) × (meets r b ≡ false)) pre → insert b (pre ++ rs) ≡ pre ++ insert b rs
unfolding insert
insert_past b [] rs f = refl
insert_past b (r ∷ pre) rs f =
    let w = f r (Memᴰ.head refl) in
    rw (le-ltb (lo b) (lo r) w.0, w.1, insert_past b pre rs (λ d m. f d (Memᴰ.tail m)))

-- rs is empty, or starts past b
abbrev pub Past : Region → List Region → Type 0
Past b [] = Unit {0}
Past b (r ∷ rs) = lo b < lo r

pub insert_first : (b : Region) (rs : List Region) → Past b rs → insert b rs ≡ absorb b rs
unfolding insert
insert_first b [] h = refl
insert_first b (r ∷ rs) h = rw (lt-ltb (lo b) (lo r) h)

pub insert_onto : (b p : Region) (rs : List Region) → lo p ≤ lo b → meets p b ≡ true → insert b (p ∷ rs) ≡ absorb (join p b) rs
unfolding insert
insert_onto b p rs h e = rw (le-ltb (lo b) (lo p) h, e)

pub insert_after : (b p : Region) (rs : List Region) → lo p ≤ lo b → meets p b ≡ false → insert b (p ∷ rs) ≡ p ∷ insert b rs
unfolding insert
insert_after b p rs h e = rw (le-ltb (lo b) (lo p) h, e)

-- b is joined with the first of rs where they meet
abbrev pub first_meets : Region → List Region → Bool
first_meets b [] = false
first_meets b (r ∷ rs) = meets b r

pub absorb_alone : (b : Region) (rs : List Region) → first_meets b rs ≡ false → absorb b rs ≡ b ∷ rs
absorb_alone b [] e = refl
absorb_alone b (r ∷ rs) e = rw e

pub absorb_next : (b r : Region) (rs : List Region) → meets b r ≡ true → absorb b (r ∷ rs) ≡ join b r ∷ rs
absorb_next b r rs e = rw e
