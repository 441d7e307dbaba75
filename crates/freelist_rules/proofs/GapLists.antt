-- The free regions with the loan in front of each: their regions are those of the definitions without fronts, and each names the
-- loan in front of it again.
use mathlib.Core.Path.{◌≡◌, refl, sym, ◌∙◌, ap, subst}
use mathlib.Core.Bool.{Bool, true, false, cond}
use mathlib.Core.Logic.{◌⊎◌, inl, inr, ⊎_elim}
use mathlib.Core.List.Memᴰ
use mathlib.Core.List.{List, [], ◌∷◌, ◌++◌, Memᴰ}
use Prim.Native.Nat.{ℕ, zero, suc, ◌+◌, ◌-◌, ◌≤◌, ◌<◌}
use native.Mathlib.Omega.{arith}
use lib.Dec.{eqb, ltb}
use lib.ListN.{length, get_or, set, take, drop, take-append-drop, length-map, get_or-map, get_or-eq_default}
use lib.Seq.{take-suc-set, drop-set-lt, append_snoc, length-take-le, take_at, drop_at}
use borrow.Author.Tests.{eqb-true, eqb-false, ltb-true, ltb-false, lt-ltb, le-ltb}
use Rattle.lists.specs.Members.{Mem, Distinct}
use Rattle.lists.proofs.Bools.{told, lt_or_le}
use Rattle.lists.proofs.Members.{not_mem, mem_left, mem_right, distinct_out}
use Rattle.words.specs.Rows.{remove_at}
use Rattle.store_rules.specs.declared.Chunk.{Chunk}
use Rattle.store_rules.specs.declared.Loan.{Loan}
use Rattle.store_rules.specs.declared.Region.{Region}
use Rattle.freelist_rules.specs.declared.Gap.{Gap}
use Rattle.freelist_rules.specs.Records.{region}
use Rattle.freelist_rules.specs.Pieces.{piece, lo, hi, Rising, All}
use Rattle.freelist_rules.specs.Place.{cut_off}
use Rattle.freelist_rules.specs.Join.{meets, join, absorb, insert}
use Rattle.freelist_rules.specs.Release.{covers, wholly, goes, staying, leaving}
use Rattle.freelist_rules.specs.Threads.{loan_by, gap, region_in, free_of, no_gap, front_of, Fronts, renamed, renamed_from, cut_gaps, absorb_gap, insert_gap, staying_gaps, wholes}
use Rattle.freelist_rules.proofs.Base.{at_in, rising_mono, rising_low, rising_apart}
use Rattle.freelist_rules.proofs.Facts.{ChunksRise}
use Rattle.freelist_rules.proofs.Joins.{meets_is}
use Rattle.freelist_rules.proofs.Releases.{covers_yes, wholly_where}
use Rattle.freelist_rules.proofs.Threads.{last_or}

-- ---- lengths and regions

pub free_length : (gs : List Gap) → length (free_of gs) ≡ length gs
free_length gs = length-map gs region_in

pub free_at : (gs : List Gap) (i : ℕ) → get_or (free_of gs) i (region 0 0 0) ≡ region_in (get_or gs i no_gap)
free_at gs i = get_or-map region_in gs i no_gap

module _ (a b : ℕ) where
  pub renamed_free : (gs : List Gap) → free_of (renamed a b gs) ≡ free_of gs
  renamed_free [] = refl
  renamed_free (g ∷ gs) = ⊎_elim (λ e. rw e (ap (λ (rs : List Region). region_in g ∷ rs) (renamed_free gs))) (λ e. rw e) (told (eqb g.front a))

  pub renamed_from_free : (i : ℕ) (gs : List Gap) → free_of (renamed_from i a b gs) ≡ free_of gs
  renamed_from_free zero gs = renamed_free gs
  renamed_from_free (suc i) [] = refl
  renamed_from_free (suc i) (g ∷ gs) = ap (λ (rs : List Region). region_in g ∷ rs) (renamed_from_free i gs)

  pub renamed_length : (gs : List Gap) → length (renamed a b gs) ≡ length gs
  renamed_length gs = sym (free_length (renamed a b gs)) ∙ ap length (renamed_free gs) ∙ free_length gs

  pub renamed_from_length : (i : ℕ) (gs : List Gap) → length (renamed_from i a b gs) ≡ length gs
  renamed_from_length i gs = sym (free_length (renamed_from i a b gs)) ∙ ap length (renamed_from_free i gs) ∙ free_length gs

-- ---- the regions that an ask, a return and a release leave

set_free : (gs : List Gap) (i : ℕ) (g : Gap) → free_of (set gs i g) ≡ set (free_of gs) i (region_in g)
set_free [] i g = refl
set_free (d ∷ gs) zero g = refl
set_free (d ∷ gs) (suc i) g = ap (λ (rs : List Region). region_in d ∷ rs) (set_free gs i g)

removed_free : (i : ℕ) (gs : List Gap) → free_of (remove_at i gs) ≡ remove_at i (free_of gs)
removed_free zero [] = refl
removed_free (suc i) [] = refl
removed_free zero (g ∷ gs) = refl
removed_free (suc i) (g ∷ gs) = ap (λ (rs : List Region). region_in g ∷ rs) (removed_free i gs)

pub cut_free : (x i r : ℕ) (gs : List Gap) → free_of (cut_gaps x i r gs) ≡ cut_off x i (free_of gs)
unfolding cut_gaps cut_off
cut_free x i r gs = rw (free_at gs i) (⊎_elim (λ e. rw e (yes' (get_or gs i no_gap))) (λ e. rw e (no' (get_or gs i no_gap))) (told (ltb (get_or gs i no_gap).start x)))
  where
    yes' : (g : Gap) → free_of (renamed_from (suc i) g.front r (set gs i (gap (region g.chunk g.start x) g.front))) ≡ set (free_of gs) i (region g.chunk g.start x)
    yes' g = let h : Gap = gap (region g.chunk g.start x) g.front in renamed_from_free g.front r (suc i) (set gs i h) ∙ set_free gs i h

    no' : (g : Gap) → free_of (renamed_from i g.front r (remove_at i gs)) ≡ remove_at i (free_of gs)
    no' g = renamed_from_free g.front r i (remove_at i gs) ∙ removed_free i gs

pub insert_free : (b : Region) (r u : ℕ) (gs : List Gap) → free_of (insert_gap b r u gs) ≡ insert b (free_of gs)
unfolding insert_gap insert
insert_free b r u [] = refl
insert_free b r u (g ∷ gs) = go (told (ltb (lo b) (lo (region_in g)))) (told (meets (region_in g) b)) (insert_free b r u gs)
  where
    absorb_free : (d : Region) (hs : List Gap) → free_of (absorb_gap d r u hs) ≡ absorb d (free_of hs)
    absorb_free d [] = refl
    absorb_free d (h ∷ hs) =
        ⊎_elim (λ e. rw e (ap (λ (rs : List Region). join d (region_in h) ∷ rs) (renamed_free r u hs))) (λ e. rw e (ap (λ (rs : List Region). d ∷ rs) (renamed_free r u (h ∷ hs))))
        (told (meets d (region_in h)))

    go : (ltb (lo b) (lo (region_in g)) ≡ true) ⊎ (ltb (lo b) (lo (region_in g)) ≡ false) → (meets (region_in g) b ≡ true) ⊎ (meets (region_in g) b ≡ false) → free_of (insert_gap b r u gs) ≡ insert b (free_of gs)
        → free_of (insert_gap b r u (g ∷ gs)) ≡ insert b (free_of (g ∷ gs))
    go (inl e) f ih = rw e (absorb_free b (g ∷ gs))
    go (inr e) (inl f) ih = rw (e, f) (absorb_free (join (region_in g) b) gs)
    go (inr e) (inr f) ih = rw (e, f) (ap (λ (rs : List Region). region_in g ∷ rs) ih)

pub staying_free : (cs : List Chunk) (spare : Bool) (gs : List Gap) → free_of (staying_gaps cs spare gs) ≡ staying cs spare (free_of gs)
unfolding staying_gaps staying
staying_free cs spare [] = refl
staying_free cs spare (g ∷ gs) = go (told (goes cs spare (region_in g) (free_of gs))) (staying_free cs spare gs)
  where
    go : (goes cs spare (region_in g) (free_of gs) ≡ true) ⊎ (goes cs spare (region_in g) (free_of gs) ≡ false) → free_of (staying_gaps cs spare gs) ≡ staying cs spare (free_of gs)
        → free_of (staying_gaps cs spare (g ∷ gs)) ≡ staying cs spare (free_of (g ∷ gs))
    go (inl e) ih = rw e ih
    go (inr e) ih = rw e (ap (λ (rs : List Region). region_in g ∷ rs) ih)

-- ---- how many are all of their chunk

module _ (cs : List Chunk) where
  pub count_yes : (r : Region) (rs : List Region) → wholly cs r ≡ true → wholes cs (r ∷ rs) ≡ suc (wholes cs rs)
  count_yes r rs e = rw e

  pub count_no : (r : Region) (rs : List Region) → wholly cs r ≡ false → wholes cs (r ∷ rs) ≡ wholes cs rs
  count_no r rs e = rw e

  -- each is counted as one or none
  pub count_one : (r : Region) (rs : List Region) → wholes cs (r ∷ rs) ≡ cond (wholly cs r) 1 0 + wholes cs rs
  count_one r rs = ⊎_elim (λ e. rw e (omega arith)) (λ e. rw e (omega arith)) (told (wholly cs r))

  -- one that goes is all of its chunk
  goes_no : (spare : Bool) (r : Region) (rs : List Region) → wholly cs r ≡ false → goes cs spare r rs ≡ false
  goes_no true r [] e = refl
  goes_no false r [] e = e
  goes_no spare r (d ∷ rs) e = e

  -- and where none is spared, each that is all of its chunk goes
  goes_all : (r : Region) (rs : List Region) → goes cs false r rs ≡ wholly cs r
  goes_all r [] = refl
  goes_all r (d ∷ rs) = refl

  pub staying_none : (rs : List Region) → wholes cs (staying cs false rs) ≡ 0
  unfolding staying
  staying_none [] = refl
  staying_none (r ∷ rs) = go (told (wholly cs r)) (staying_none rs)
    where
      go : (wholly cs r ≡ true) ⊎ (wholly cs r ≡ false) → wholes cs (staying cs false rs) ≡ 0 → wholes cs (staying cs false (r ∷ rs)) ≡ 0
      go (inl e) ih = rw (goes_all r rs, e) ih
      go (inr e) ih = rw (goes_all r rs, e) (count_no r (staying cs false rs) e ∙ ih)

  -- all stay, and nothing goes
  abbrev Stays : Bool → List Region → Type 0
  Stays spare rs = (staying cs spare rs ≡ rs) × (leaving cs spare [] rs ≡ [])

  stays_on : (spare : Bool) (r : Region) (rs : List Region) → goes cs spare r rs ≡ false → Stays spare rs → Stays spare (r ∷ rs)
  unfolding staying leaving
  stays_on spare r rs e s = (rw e (ap (λ (xs : List Region). r ∷ xs) s.0), rw e s.1)

  pub none_leave : (spare : Bool) (rs : List Region) → wholes cs rs ≡ 0 → (staying cs spare rs ≡ rs) × (leaving cs spare [] rs ≡ [])
  unfolding staying leaving
  none_leave spare [] h = (refl, refl)
  none_leave spare (r ∷ rs) h = go (told (wholly cs r)) (none_leave spare rs)
    where
      go : (wholly cs r ≡ true) ⊎ (wholly cs r ≡ false) → (wholes cs rs ≡ 0 → Stays spare rs) → Stays spare (r ∷ rs)
      go (inl e) ih = absurd (omega (arith, count_yes r rs e, h))
      go (inr e) ih = stays_on spare r rs (goes_no spare r rs e) (ih (sym (count_no r rs e) ∙ h))

  -- one of them put in the place of another, or taken out
  set_wholes : (i : ℕ) (rs : List Region) (d n : Region) → i < length rs → wholes cs (set rs i d) + cond (wholly cs (get_or rs i n)) 1 0 ≡ wholes cs rs + cond (wholly cs d) 1 0
  set_wholes i [] d n h = absurd (omega arith)
  set_wholes zero (r ∷ rs) d n h = omega (arith, count_one d rs, count_one r rs)
  set_wholes (suc i) (r ∷ rs) d n h = omega (arith, count_one r (set rs i d), count_one r rs, set_wholes i rs d n (omega arith))

  removed_wholes : (i : ℕ) (rs : List Region) (n : Region) → i < length rs → wholes cs (remove_at i rs) + cond (wholly cs (get_or rs i n)) 1 0 ≡ wholes cs rs
  removed_wholes i [] n h = absurd (omega arith)
  removed_wholes zero (r ∷ rs) n h = omega (arith, count_one r rs)
  removed_wholes (suc i) (r ∷ rs) n h = omega (arith, count_one r (remove_at i rs), count_one r rs, removed_wholes i rs n (omega arith))

  some_wholes : (i : ℕ) (rs : List Region) (n : Region) → i < length rs → wholly cs (get_or rs i n) ≡ true → 1 ≤ wholes cs rs
  some_wholes i rs n h e = omega (arith, removed_wholes i rs n h, ap {B = ℕ} (λ (b : Bool). cond b 1 0) e)

  -- where the last is the only one, it is spared
  pub last_stays : (rs : List Region) → wholes cs rs ≡ 1 → wholly cs (get_or rs (length rs - 1) (region 0 0 0)) ≡ true → (staying cs true rs ≡ rs) × (leaving cs true [] rs ≡ [])
  unfolding staying leaving
  last_stays [] h w = (refl, refl)
  last_stays (r ∷ []) h w = (refl, refl)
  last_stays (r ∷ d ∷ rs) h w = go (told (wholly cs r)) (last_stays (d ∷ rs))
    where
      some' : wholly cs (get_or (d ∷ rs) (length rs) (region 0 0 0)) ≡ true
      some' = let e : suc (suc (length rs)) - 1 ≡ suc (length rs) = omega arith in rw e at w

      go : (wholly cs r ≡ true) ⊎ (wholly cs r ≡ false) → (wholes cs (d ∷ rs) ≡ 1 → wholly cs (get_or (d ∷ rs) (length (d ∷ rs) - 1) (region 0 0 0)) ≡ true → Stays true (d ∷ rs))
          → Stays true (r ∷ d ∷ rs)
      go (inl e) ih = absurd (omega (arith, count_yes r (d ∷ rs) e, h, some_wholes (length rs) (d ∷ rs) (region 0 0 0) (omega arith) some'))
      go (inr e) ih = stays_on true r (d ∷ rs) e (ih (sym (count_no r (d ∷ rs) e) ∙ h) (let n : suc (length rs) - 1 ≡ length rs = omega arith in rw n some'))

  -- what ends before each chunk of its number is not all of its chunk
  not_whole : (c a x : ℕ) → ((d : Chunk) → Memᴰ d cs → d.number ≡ c → x < d.size) → wholly cs (region c a x) ≡ false
  not_whole c a x f = ⊎_elim (λ e. absurd (no (wholly_where cs (region c a x) e))) (λ e. e) (told (wholly cs (region c a x)))
    where
      no : (d : Chunk) × Memᴰ d cs × (covers (region c a x) d ≡ true) → ⊥
      no w = let k = covers_yes (region c a x) w.0 w.2 in omega (arith, k.2, f w.0 w.1 (sym k.0))

  -- region i, which reaches past no chunk of its number, ends at x or is gone: it is not all of its chunk any more
  pub cut_counted : (x i : ℕ) (rs : List Region) → x < (get_or rs i (region 0 0 0)).end
      → ((c : Chunk) → Memᴰ c cs → c.number ≡ (get_or rs i (region 0 0 0)).chunk → (get_or rs i (region 0 0 0)).end ≤ c.size)
      → wholes cs (cut_off x i rs) ≡ wholes cs rs - cond (wholly cs (get_or rs i (region 0 0 0))) 1 0
  unfolding cut_off
  cut_counted x i rs k f = ⊎_elim (λ e. rw e (yes' (get_or rs i (region 0 0 0)) k f)) (λ e. rw e no') (told (ltb (get_or rs i (region 0 0 0)).start x))
    where
      under : i < length rs
      under = ⊎_elim (λ e. e) (λ e. absurd (omega (arith, k, ap (λ (r : Region). r.end) (get_or-eq_default rs (region 0 0 0) {n = i} e)))) (lt_or_le i (length rs))

      yes' : (r : Region) → x < r.end → ((c : Chunk) → Memᴰ c cs → c.number ≡ r.chunk → r.end ≤ c.size)
          → wholes cs (set rs i (region r.chunk r.start x)) ≡ wholes cs rs - cond (wholly cs (get_or rs i (region 0 0 0))) 1 0
      yes' r l g =
          let z = ap {B = ℕ} (λ (b : Bool). cond b 1 0) (not_whole r.chunk r.start x (λ d m e. omega (arith, l, g d m e))) in
          omega (arith, set_wholes i rs (region r.chunk r.start x) (region 0 0 0) under, z)

      no' : wholes cs (remove_at i rs) ≡ wholes cs rs - cond (wholly cs (get_or rs i (region 0 0 0))) 1 0
      no' = omega (arith, removed_wholes i rs (region 0 0 0) under)

  -- the same where the chunks stand by their numbers, and region i lies in one of them
  pub cut_wholes : (q x i : ℕ) (rs : List Region) → ChunksRise q cs → x < (get_or rs i (region 0 0 0)).end
      → (c : Chunk) × Memᴰ c cs × (c.number ≡ (get_or rs i (region 0 0 0)).chunk) × ((get_or rs i (region 0 0 0)).end ≤ c.size)
      → wholes cs (cut_off x i rs) ≡ wholes cs rs - cond (wholly cs (get_or rs i (region 0 0 0))) 1 0
  cut_wholes q x i rs rise k w = cut_counted x i rs k (λ c m e. go c e (rising_apart _ _ 0 q cs rise w.0 c w.1 m))
    where
      go : (c : Chunk) → c.number ≡ (get_or rs i (region 0 0 0)).chunk → (w.0 ≡ c) ⊎ ((0 + suc w.0.number ≤ c.number) ⊎ (0 + suc c.number ≤ w.0.number)) → (get_or rs i (region 0 0 0)).end ≤ c.size
      go c e (inl p) = omega (arith, w.3, ap (λ (d : Chunk). d.size) p)
      go c e (inr (inl p)) = absurd (omega (arith, w.2))
      go c e (inr (inr p)) = absurd (omega (arith, w.2))

-- ---- the fronts

-- the loans of the records stand in order
abbrev pub Order : List ℕ → List ℕ → Type 0
Order loans records = Rising (λ (q : ℕ). lo (piece (loan_by loans q))) (λ (q : ℕ). hi (piece (loan_by loans q))) 0 0 records

module _ {A : Type 0} (P : A → Type 0) where
  all_cons : (a : A) (xs : List A) → P a → All P xs → All P (a ∷ xs)
  all_cons a xs p f c m = ⊎_elim (λ e. subst P (sym e) p) (λ k. f c k) (Memᴰ.cases_cons m)

  all_append : (xs ys : List A) → All P xs → All P ys → All P (xs ++ ys)
  all_append xs ys f g c m = ⊎_elim (λ k. f c k) (λ k. g c k) (Memᴰ.append_cases xs m)

-- where the loan of a record begins
abbrev begins : List ℕ → ℕ → ℕ
begins loans q = lo (piece (loan_by loans q))

-- the last of the records that begins before y
abbrev front_at : (ℕ → ℕ) → ℕ → ℕ → List ℕ → ℕ
front_at f y u [] = u
front_at f y u (r ∷ rs) = cond (ltb (f r) y) (front_at f y r rs) u

front_is : (loans : List ℕ) (u : ℕ) (rs : List ℕ) (g : Region) → front_of loans u rs g ≡ front_at (begins loans) (lo g) u rs
front_is loans u [] g = refl
front_is loans u (r ∷ rs) g = ap (λ (x : ℕ). cond (ltb (begins loans r) (lo g)) x u) (front_is loans r rs g)

module _ (f : ℕ → ℕ) (y : ℕ) where
  -- past those that begin before y
  over : (u : ℕ) (A B : List ℕ) → ((q : ℕ) → Mem q A → f q < y) → front_at f y u (A ++ B) ≡ front_at f y (last_or u A) B
  over u [] B h = refl
  over u (q ∷ A) B h = rw (lt-ltb (f q) y (h q (inl refl))) (over q A B (λ p m. h p (inr m)))

  over_all : (u : ℕ) (A : List ℕ) → ((q : ℕ) → Mem q A → f q < y) → front_at f y u A ≡ last_or u A
  over_all u [] h = refl
  over_all u (q ∷ A) h = rw (lt-ltb (f q) y (h q (inl refl))) (over_all q A (λ p m. h p (inr m)))

  -- short of those that do not
  short : (u : ℕ) (A B : List ℕ) → ((q : ℕ) → Mem q B → y ≤ f q) → front_at f y u (A ++ B) ≡ front_at f y u A
  short u [] [] h = refl
  short u [] (q ∷ B) h = rw (le-ltb (f q) y (h q (inl refl)))
  short u (q ∷ A) B h = ap (λ (x : ℕ). cond (ltb (f q) y) x u) (short q A B h)

  like : (h : ℕ → ℕ) (u : ℕ) (A : List ℕ) → ((q : ℕ) → Mem q A → h q ≡ f q) → front_at f y u A ≡ front_at h y u A
  like h u [] e = refl
  like h u (q ∷ A) e = rw (e q (inl refl)) (ap (λ (x : ℕ). cond (ltb (f q) y) x u) (like h q A (λ p m. e p (inr m))))

  -- it is u or one of the records
  front_in : (u : ℕ) (rs : List ℕ) → (front_at f y u rs ≡ u) ⊎ Mem (front_at f y u rs) rs
  front_in u [] = inl refl
  front_in u (r ∷ rs) =
      ⊎_elim (λ e. subst (λ (v : ℕ). (v ≡ u) ⊎ Mem v (r ∷ rs)) (sym (ap (λ b. cond b (front_at f y r rs) u) e)) (inr (front_in r rs)))
      (λ e. subst (λ (v : ℕ). (v ≡ u) ⊎ Mem v (r ∷ rs)) (sym (ap (λ b. cond b (front_at f y r rs) u) e)) (inl refl)) (told (ltb (f r) y))

  -- where it is a, which is none of the records, it is whatever stands for a
  moves : (a c : ℕ) (B : List ℕ) → (Mem a B → ⊥) → front_at f y a B ≡ a → front_at f y c B ≡ c
  moves a c [] n e = refl
  moves a c (q ∷ B) n e = ⊎_elim yes' (λ h. rw h) (told (ltb (f q) y))
    where
      yes' : ltb (f q) y ≡ true → front_at f y c (q ∷ B) ≡ c
      yes' h =
          let k : front_at f y q B ≡ a = rw h at e in
          absurd (n (subst (λ (z : ℕ). Mem z (q ∷ B)) k (front_in q B)))

  -- where it is not, it is one and the same, also for what lies behind y
  stays : (z a c : ℕ) (B : List ℕ) → y ≤ z → (front_at f y a B ≡ a → ⊥) → front_at f z a B ≡ front_at f z c B
  stays z a c [] l n = absurd (n refl)
  stays z a c (q ∷ B) l n = ⊎_elim (λ h. let k = ltb-true (f q) y h in rw (lt-ltb (f q) z (omega arith))) (λ h. absurd (n (rw h))) (told (ltb (f q) y))

-- behind those of A and before those of B it is the last of A
pub front_last : (loans A B : List ℕ) (d : Region) → ((q : ℕ) → Mem q A → lo (piece (loan_by loans q)) < lo d) → ((q : ℕ) → Mem q B → lo d ≤ lo (piece (loan_by loans q))) → front_of loans 0 (A ++ B) d ≡ last_or 0 A
front_last loans A B d h k = front_is loans 0 (A ++ B) d ∙ short (begins loans) (lo d) 0 A B k ∙ over_all (begins loans) (lo d) 0 A h

-- ---- appended, and released

pub append_fronts : (loans records : List ℕ) (gs : List Gap) (d : Region) → Fronts loans records gs → ((q : ℕ) → Mem q records → lo (piece (loan_by loans q)) < lo d) → Fronts loans records (gs ++ (gap d (last_or 0 records) ∷ []))
append_fronts loans records gs d h k =
    all_append P gs (gap d (last_or 0 records) ∷ []) h
    (all_cons P (gap d (last_or 0 records)) [] (sym (front_is loans 0 records d ∙ over_all (begins loans) (lo d) 0 records k)) (λ c m. absurd (Memᴰ.not-nil m)))
  where
    P : Gap → Type 0
    P g = g.front ≡ front_of loans 0 records (region_in g)

pub staying_in : (cs : List Chunk) (spare : Bool) (gs : List Gap) (g : Gap) → Memᴰ g (staying_gaps cs spare gs) → Memᴰ g gs
unfolding staying_gaps
staying_in cs spare [] g m = m
staying_in cs spare (h ∷ gs) g m = go (goes cs spare (region_in h) (free_of gs)) (staying_in cs spare gs g) m
  where
    go : (b : Bool) → (Memᴰ g (staying_gaps cs spare gs) → Memᴰ g gs) → Memᴰ g (cond b (staying_gaps cs spare gs) (h ∷ staying_gaps cs spare gs)) → Memᴰ g (h ∷ gs)
    go true ih k = Memᴰ.tail (ih k)
    go false ih k = ⊎_elim (λ e. Memᴰ.head e) (λ n. Memᴰ.tail (ih n)) (Memᴰ.cases_cons k)

pub staying_fronts : (loans records : List ℕ) (cs : List Chunk) (spare : Bool) (gs : List Gap) → Fronts loans records gs → Fronts loans records (staying_gaps cs spare gs)
staying_fronts loans records cs spare gs h g m = h g (staying_in cs spare gs g m)

-- ---- named anew

-- those behind one begin behind it
rise_on : (k b : ℕ) (g : Gap) (gs : List Gap) → Rising lo hi k b (free_of (g ∷ gs)) → All (λ (h : Gap). lo (region_in g) ≤ lo (region_in h)) (g ∷ gs)
rise_on k b g gs r h m = ⊎_elim (λ e. rw e (omega arith)) (λ n. omega (arith, r.1, (rising_low lo hi k (k + hi (region_in g)) (free_of gs) r.2 (region_in h) (Memᴰ.map region_in n)).0)) (Memᴰ.cases_cons m)

-- gaps that rise, each with the last of B that begins before it, or a: the same with c for a, where a is none of B
renamed_fronts : (f : ℕ → ℕ) (a c : ℕ) (B : List ℕ) → (Mem a B → ⊥) → (k b : ℕ) (gs : List Gap) → Rising lo hi k b (free_of gs) → All (λ (g : Gap). g.front ≡ front_at f (lo (region_in g)) a B) gs
    → All (λ (g : Gap). g.front ≡ front_at f (lo (region_in g)) c B) (renamed a c gs)
renamed_fronts f a c B n k b [] r h = λ g m. absurd (Memᴰ.not-nil m)
renamed_fronts f a c B n k b (g ∷ gs) r h = ⊎_elim (yes' (renamed_fronts f a c B n k (k + hi (region_in g)) gs r.2 (λ d m. h d (Memᴰ.tail m)))) no' (told (eqb g.front a))
  where
    P : Gap → Type 0
    P d = d.front ≡ front_at f (lo (region_in d)) c B

    first : g.front ≡ front_at f (lo (region_in g)) a B
    first = h g (Memᴰ.head refl)

    yes' : All (λ (d : Gap). d.front ≡ front_at f (lo (region_in d)) c B) (renamed a c gs) → eqb g.front a ≡ true → All (λ (d : Gap). d.front ≡ front_at f (lo (region_in d)) c B) (renamed a c (g ∷ gs))
    yes' ih e = rw e (all_cons P (gap (region_in g) c) (renamed a c gs) (sym (moves f (lo (region_in g)) a c B n (sym first ∙ eqb-true g.front a e))) ih)

    no' : eqb g.front a ≡ false → All (λ (d : Gap). d.front ≡ front_at f (lo (region_in d)) c B) (renamed a c (g ∷ gs))
    no' e = rw e (λ d m. h d m ∙ stays f (lo (region_in g)) (lo (region_in d)) a c B (rise_on k b g gs r d m) (λ q. eqb-false g.front a e (first ∙ q)))

-- the last of some numbers is none of those behind them
last_out : (u : ℕ) (A B : List ℕ) → (Mem u B → ⊥) → Distinct (A ++ B) → Mem (last_or u A) B → ⊥
last_out u [] B h d m = h m
last_out u (q ∷ A) B h d m = last_out q A B (λ n. not_mem q (A ++ B) d.0 (mem_right q A B n)) d.1 m

-- past those of A and r
over_one : (f : ℕ → ℕ) (y : ℕ) (A : List ℕ) (r : ℕ) (B : List ℕ) → ((q : ℕ) → Mem q A → f q < y) → f r < y → front_at f y 0 (A ++ (r ∷ B)) ≡ front_at f y r B
over_one f y A r B h k = over f y 0 A (r ∷ B) h ∙ ap (λ (b : Bool). cond b (front_at f y r B) (last_or 0 A)) (lt-ltb (f r) y k)

-- short of those of B the front is the same as short of those of C
alike : (f h : ℕ → ℕ) (y : ℕ) (A B C : List ℕ) → ((q : ℕ) → Mem q A → h q ≡ f q) → ((q : ℕ) → Mem q B → y ≤ f q) → ((q : ℕ) → Mem q C → y ≤ h q) → front_at f y 0 (A ++ B) ≡ front_at h y 0 (A ++ C)
alike f h y A B C e p q = short f y 0 A B p ∙ like f y h 0 A e ∙ sym (short h y 0 A C q)

-- gaps from b on, for which the records X say a or one of B, and the records Y say c for a
module _ (loans loans' X Y B : List ℕ) (a c b : ℕ) (out : Mem a B → ⊥) (same : (q : ℕ) → Mem q B → loan_by loans' q ≡ loan_by loans q)
    (old : (y : ℕ) → b ≤ y → front_at (begins loans) y 0 X ≡ front_at (begins loans) y a B) (new : (y : ℕ) → b ≤ y → front_at (begins loans') y 0 Y ≡ front_at (begins loans') y c B) where
  behind : (k : ℕ) (gs : List Gap) → Rising lo hi k b (free_of gs) → Fronts loans X gs → Fronts loans' Y (renamed a c gs)
  behind k gs r h g m =
      renamed_fronts (begins loans) a c B out k b gs r before g m
      ∙ like (begins loans) (lo (region_in g)) (begins loans') c B (λ q n. ap (λ (l : Loan). lo (piece l)) (same q n))
      ∙ sym (front_is loans' 0 Y (region_in g) ∙ new (lo (region_in g)) low)
    where
      before : All (λ (d : Gap). d.front ≡ front_at (begins loans) (lo (region_in d)) a B) gs
      before d n = h d n ∙ front_is loans 0 X (region_in d) ∙ old (lo (region_in d)) (rising_low lo hi k b (free_of gs) r (region_in d) (Memᴰ.map region_in n)).0

      low : b ≤ lo (region_in g)
      low = (rising_low lo hi k b (free_of gs) r (region_in g) (rw (renamed_free a c gs) at (Memᴰ.map region_in m))).0

-- ---- an ask

-- what it leaves, in parts
cut_parts : (x i r : ℕ) (gs : List Gap) → i < length gs
    → cut_gaps x i r gs
    ≡ take i gs
    ++ cond (ltb (get_or gs i no_gap).start x)
    (gap (region (get_or gs i no_gap).chunk (get_or gs i no_gap).start x) (get_or gs i no_gap).front ∷ renamed (get_or gs i no_gap).front r (drop (suc i) gs))
    (renamed (get_or gs i no_gap).front r (drop (suc i) gs))
unfolding cut_gaps
cut_parts x i r gs h = ⊎_elim (λ e. rw e (yes' (get_or gs i no_gap))) (λ e. rw e (no' (get_or gs i no_gap))) (told (ltb (get_or gs i no_gap).start x))
  where
    yes' : (g : Gap) → renamed_from (suc i) g.front r (set gs i (gap (region g.chunk g.start x) g.front)) ≡ take i gs ++ (gap (region g.chunk g.start x) g.front ∷ renamed g.front r (drop (suc i) gs))
    yes' g =
        let d : Gap = gap (region g.chunk g.start x) g.front in
        rw (take-suc-set gs i d h, drop-set-lt (suc i) gs i d (omega arith)) (append_snoc (take i gs) d (renamed g.front r (drop (suc i) gs)))

    no' : (g : Gap) → renamed_from i g.front r (remove_at i gs) ≡ take i gs ++ renamed g.front r (drop (suc i) gs)
    no' g = let l = length-take-le i gs (omega arith) in rw (take_at (take i gs) (drop (suc i) gs) i l, drop_at (take i gs) (drop (suc i) gs) i l)

-- those before one begin no later than it, and those behind it rise from its end on
rise_before : (k b i : ℕ) (gs : List Gap) → Rising lo hi k b (free_of gs) → i < length gs → All (λ (g : Gap). lo (region_in g) ≤ lo (region_in (get_or gs i no_gap))) (take i gs)
rise_before k b i [] r h g m = absurd (omega arith)
rise_before k b zero (d ∷ gs) r h g m = absurd (Memᴰ.not-nil m)
rise_before k b (suc i) (d ∷ gs) r h g m =
    ⊎_elim (λ e. rw e (rise_on k b d gs r (get_or gs i no_gap) (Memᴰ.tail (at_in i gs no_gap (omega arith))))) (λ n. rise_before k (k + hi (region_in d)) i gs r.2 (omega arith) g n)
    (Memᴰ.cases_cons m)

rise_behind : (k b i : ℕ) (gs : List Gap) → Rising lo hi k b (free_of gs) → i < length gs → (lo (region_in (get_or gs i no_gap)) < hi (region_in (get_or gs i no_gap))) × Rising lo hi k (hi (region_in (get_or gs i no_gap))) (free_of (drop (suc i) gs))
rise_behind k b i [] r h = absurd (omega arith)
rise_behind k b zero (d ∷ gs) r h = (r.1, rising_mono lo hi k (hi (region_in d)) (k + hi (region_in d)) (free_of gs) (omega arith) r.2)
rise_behind k b (suc i) (d ∷ gs) r h = rise_behind k (k + hi (region_in d)) i gs r.2 (omega arith)

module _ (k : ℕ) (loans loans' A B : List ℕ) (r x i : ℕ) (gs : List Gap) (fronts : Fronts loans (A ++ B) gs) (rise : Rising lo hi k 0 (free_of gs)) (under : i < length gs)
    (from : (get_or gs i no_gap).start ≤ x) (to : x < (get_or gs i no_gap).end)
    (ahead : (q : ℕ) → Mem q A → lo (piece (loan_by loans q)) < lo (region_in (get_or gs i no_gap)))
    (past : (q : ℕ) → Mem q B → hi (region_in (get_or gs i no_gap)) ≤ lo (piece (loan_by loans q)))
    (same : (q : ℕ) → Mem q (A ++ B) → loan_by loans' q ≡ loan_by loans q)
    (lent : lo (piece (loan_by loans' r)) ≡ lo (region (get_or gs i no_gap).chunk x (get_or gs i no_gap).end))
    (once : Distinct (A ++ B)) (some : (q : ℕ) → Mem q (A ++ B) → 0 < q) where
  abbrev g : Gap
  g = get_or gs i no_gap

  as_was : (q : ℕ) → Mem q (A ++ B) → begins loans' q ≡ begins loans q
  as_was q m = ap (λ (l : Loan). lo (piece l)) (same q m)

  -- gap i names the last of A
  front_i : g.front ≡ last_or 0 A
  front_i =
      fronts g (at_in i gs no_gap under) ∙ front_last loans A B (region_in g) ahead (λ q m. omega (arith, past q m, (rise_behind k 0 i gs rise under).0))

  -- nothing changes for what begins before the block
  front_early : (d : Region) → lo d ≤ lo (region_in g) → front_of loans 0 (A ++ B) d ≡ front_of loans' 0 (A ++ (r ∷ B)) d
  front_early d h = front_is loans 0 (A ++ B) d ∙ alike (begins loans) (begins loans') (lo d) A B (r ∷ B) (λ q m. as_was q (mem_left q A B m)) later later' ∙ sym (front_is loans' 0 (A ++ (r ∷ B)) d)
    where
      later : (q : ℕ) → Mem q B → lo d ≤ begins loans q
      later q m = omega (arith, h, past q m, (rise_behind k 0 i gs rise under).0)

      later' : (q : ℕ) → Mem q (r ∷ B) → lo d ≤ begins loans' q
      later' q (inl e) = rw e (omega (arith, h, lent, from))
      later' q (inr m) = omega (arith, later q m, as_was q (mem_right q A B m))

  -- what lies behind it and named the last of A names r
  late : Fronts loans' (A ++ (r ∷ B)) (renamed g.front r (drop (suc i) gs))
  late =
      let w = rise_behind k 0 i gs rise under in
      behind loans loans' (A ++ B) (A ++ (r ∷ B)) B g.front r (hi (region_in g))
      (λ m. last_out 0 A B (λ n. absurd (omega (arith, some 0 (mem_right 0 A B n)))) once (subst (λ (z : ℕ). Mem z B) front_i m))
      (λ q m. same q (mem_right q A B m))
      (λ y h. over (begins loans) y 0 A B (λ q m. omega (arith, ahead q m, w.0)) ∙ ap (λ (u : ℕ). front_at (begins loans) y u B) (sym front_i))
      (λ y h. over_one (begins loans') y A r B (λ q m. omega (arith, ahead q m, as_was q (mem_left q A B m), w.0)) (omega (arith, lent, to)))
      k (drop (suc i) gs) w.1 (λ d m. fronts d (rw (take-append-drop (suc i) gs) at (Memᴰ.append_right (take (suc i) gs) m)))

  pub cut_fronts : Fronts loans' (A ++ (r ∷ B)) (cut_gaps x i r gs)
  cut_fronts = rw (cut_parts x i r gs under) (all_append P (take i gs) _ early (⊎_elim (λ e. rw e (all_cons P _ _ first late)) (λ e. rw e late) (told (ltb g.start x))))
    where
      P : Gap → Type 0
      P d = d.front ≡ front_of loans' 0 (A ++ (r ∷ B)) (region_in d)

      early : All P (take i gs)
      early d m = fronts d (rw (take-append-drop i gs) at (Memᴰ.append_left (drop i gs) m)) ∙ front_early (region_in d) (rise_before k 0 i gs rise under d m)

      first : P (gap (region g.chunk g.start x) g.front)
      first =
          let d : Region = region g.chunk g.start x in
          fronts g (at_in i gs no_gap under) ∙ front_is loans 0 (A ++ B) (region_in g) ∙ sym (front_is loans 0 (A ++ B) d) ∙ front_early d (omega arith)

-- ---- a return

pub as_member : (q : ℕ) (rs : List ℕ) → Mem q rs → Memᴰ q rs
as_member q [] m = absurd m
as_member q (r ∷ rs) (inl e) = Memᴰ.head e
as_member q (r ∷ rs) (inr m) = Memᴰ.tail (as_member q rs m)

-- one among others that rise: from it on they rise, and those in front of it end before it
module _ (begin stop : ℕ → ℕ) (r : ℕ) (B : List ℕ) where
  rising_mid : (b : ℕ) (A : List ℕ) → Rising begin stop 0 b (A ++ (r ∷ B)) → Rising begin stop 0 b (r ∷ B)
  rising_mid b [] h = h
  rising_mid b (p ∷ A) h = let w = rising_mid (0 + stop p) A h.2 in (omega (arith, h.0, h.1, w.0), w.1, w.2)

  rising_front : (b : ℕ) (A : List ℕ) → Rising begin stop 0 b (A ++ (r ∷ B)) → (q : ℕ) → Mem q A → (begin q < stop q) × (stop q ≤ begin r)
  rising_front b [] h q m = absurd m
  rising_front b (p ∷ A) h q (inl e) = rw e (h.1, omega (arith, (rising_mid (0 + stop p) A h.2).0))
  rising_front b (p ∷ A) h q (inr m) = rising_front (0 + stop p) A h.2 q m

module _ (loans loans' A B : List ℕ) (r : ℕ) (order : Order loans (A ++ (r ∷ B))) (same : (q : ℕ) → Mem q (A ++ B) → loan_by loans' q ≡ loan_by loans q) (once : Distinct (A ++ (r ∷ B))) where
  abbrev b : Region
  b = piece (loan_by loans r)

  has_been : (q : ℕ) → Mem q (A ++ B) → begins loans' q ≡ begins loans q
  has_been q m = ap (λ (l : Loan). lo (piece l)) (same q m)

  first_ones : (q : ℕ) → Mem q A → (lo (piece (loan_by loans q)) < hi (piece (loan_by loans q))) × (hi (piece (loan_by loans q)) ≤ lo b)
  first_ones = rising_front (λ (q : ℕ). lo (piece (loan_by loans q))) (λ (q : ℕ). hi (piece (loan_by loans q))) r B 0 A order

  last_ones : (q : ℕ) → Mem q B → lo b ≤ begins loans q
  last_ones q m =
      let w = rising_mid (λ (q : ℕ). lo (piece (loan_by loans q))) (λ (q : ℕ). hi (piece (loan_by loans q))) r B 0 A order in
      omega (arith, w.1, (rising_low (λ (q : ℕ). lo (piece (loan_by loans q))) (λ (q : ℕ). hi (piece (loan_by loans q))) 0 (0 + hi b) B w.2 q (as_member q B m)).0)

  -- nothing changes for what begins before the block
  front_early' : (d : Region) → lo d ≤ lo b → front_of loans 0 (A ++ (r ∷ B)) d ≡ front_of loans' 0 (A ++ B) d
  front_early' d h = front_is loans 0 (A ++ (r ∷ B)) d ∙ alike (begins loans) (begins loans') (lo d) A (r ∷ B) B (λ q m. has_been q (mem_left q A B m)) later later' ∙ sym (front_is loans' 0 (A ++ B) d)
    where
      later : (q : ℕ) → Mem q (r ∷ B) → lo d ≤ begins loans q
      later q (inl e) = rw e h
      later q (inr m) = omega (arith, h, last_ones q m)

      later' : (q : ℕ) → Mem q B → lo d ≤ begins loans' q
      later' q m = omega (arith, h, last_ones q m, has_been q (mem_right q A B m))

  -- what takes its place is behind the last of A
  front_here : (d : Region) → lo d ≤ lo b → ((q : ℕ) → Mem q A → lo (piece (loan_by loans q)) < lo d) → last_or 0 A ≡ front_of loans' 0 (A ++ B) d
  front_here d h f =
      sym (front_last loans' A B d (λ q m. omega (arith, f q m, has_been q (mem_left q A B m))) (λ q m. omega (arith, h, last_ones q m, has_been q (mem_right q A B m))))

  -- what lies behind it and named r names the last of A
  late' : (gs : List Gap) → Rising lo hi 1 (1 + lo b) (free_of gs) → Fronts loans (A ++ (r ∷ B)) gs → Fronts loans' (A ++ B) (renamed r (last_or 0 A) gs)
  late' gs =
      behind loans loans' (A ++ (r ∷ B)) (A ++ B) B r (last_or 0 A) (1 + lo b) (λ m. distinct_out r A B once (mem_right r A B m)) (λ q m. same q (mem_right q A B m))
      (λ y h. over_one (begins loans) y A r B (λ q m. let w = first_ones q m in omega (arith, w.0, w.1)) (omega arith))
      (λ y h. over (begins loans') y 0 A B (λ q m. let w = first_ones q m in omega (arith, w.0, w.1, has_been q (mem_left q A B m))))
      1 gs

  absorb_fronts : (d : Region) → lo d ≤ lo b → ((q : ℕ) → Mem q A → lo (piece (loan_by loans q)) < lo d) → (gs : List Gap) → Rising lo hi 1 (1 + lo b) (free_of gs) → Fronts loans (A ++ (r ∷ B)) gs
      → Fronts loans' (A ++ B) (absorb_gap d r (last_or 0 A) gs)
  absorb_fronts d h f [] rise fr = all_cons (λ (g : Gap). g.front ≡ front_of loans' 0 (A ++ B) (region_in g)) (gap d (last_or 0 A)) [] (front_here d h f) (λ c m. absurd (Memᴰ.not-nil m))
  absorb_fronts d h f (g ∷ gs) rise fr = ⊎_elim (λ e. rw e yes') (λ e. rw e no') (told (meets d (region_in g)))
    where
      P : Gap → Type 0
      P c = c.front ≡ front_of loans' 0 (A ++ B) (region_in c)

      yes' : All P (gap (join d (region_in g)) (last_or 0 A) ∷ renamed r (last_or 0 A) gs)
      yes' =
          all_cons P (gap (join d (region_in g)) (last_or 0 A)) (renamed r (last_or 0 A) gs) (front_here (join d (region_in g)) h f)
          (late' gs (rising_mono lo hi 1 (1 + lo b) (1 + hi (region_in g)) (free_of gs) (omega (arith, rise.0, rise.1)) rise.2) (λ c m. fr c (Memᴰ.tail m)))

      no' : All P (gap d (last_or 0 A) ∷ renamed r (last_or 0 A) (g ∷ gs))
      no' = all_cons P (gap d (last_or 0 A)) (renamed r (last_or 0 A) (g ∷ gs)) (front_here d h f) (late' (g ∷ gs) rise fr)

  -- no gap overlaps a loan of A
  abbrev Aside : List Gap → Type 0
  Aside gs = All (λ (g : Gap). (q : ℕ) → Mem q A → (hi (piece (loan_by loans q)) ≤ lo (region_in g)) ⊎ (hi (region_in g) ≤ lo (piece (loan_by loans q)))) gs

  insert_from : (p : ℕ) (gs : List Gap) → Fronts loans (A ++ (r ∷ B)) gs → Rising lo hi 1 p (free_of gs) → Aside gs → Fronts loans' (A ++ B) (insert_gap b r (last_or 0 A) gs)
  unfolding insert_gap
  insert_from p [] fr rise w = all_cons (λ (g : Gap). g.front ≡ front_of loans' 0 (A ++ B) (region_in g)) (gap b (last_or 0 A)) [] (front_here b (omega arith) (λ q m. let w = first_ones q m in omega (arith, w.0, w.1))) (λ c m. absurd (Memᴰ.not-nil m))
  insert_from p (g ∷ gs) fr rise w = go (told (ltb (lo b) (lo (region_in g)))) (told (meets (region_in g) b)) (insert_from (1 + hi (region_in g)) gs tail' rise.2 (λ c m. w c (Memᴰ.tail m)))
    where
      P : Gap → Type 0
      P c = c.front ≡ front_of loans' 0 (A ++ B) (region_in c)

      tail' : Fronts loans (A ++ (r ∷ B)) gs
      tail' c m = fr c (Memᴰ.tail m)

      -- one that the block meets begins behind the loans in front of the block
      aside : hi (region_in g) ≡ lo b → (q : ℕ) → Mem q A → lo (piece (loan_by loans q)) < lo (region_in g)
      aside e q m = let k = first_ones q m in ⊎_elim (λ h. omega (arith, k.0)) (λ h. absurd (omega (arith, k.0, k.1))) (w g (Memᴰ.head refl) q m)

      go : (ltb (lo b) (lo (region_in g)) ≡ true) ⊎ (ltb (lo b) (lo (region_in g)) ≡ false) → (meets (region_in g) b ≡ true) ⊎ (meets (region_in g) b ≡ false) → Fronts loans' (A ++ B) (insert_gap b r (last_or 0 A) gs)
          → Fronts loans' (A ++ B) (insert_gap b r (last_or 0 A) (g ∷ gs))
      go (inl e) f ih = rw e (absorb_fronts b (omega arith) (λ q m. let k = first_ones q m in omega (arith, k.0, k.1)) (g ∷ gs) (omega (arith, ltb-true (lo b) (lo (region_in g)) e), rise.1, rise.2) fr)
      go (inr e) (inl f) ih =
          let k = meets_is (region_in g) b f in
          let h : hi (region_in g) ≡ lo b = omega (arith, k.0, k.1) in
          rw (e, f) (absorb_fronts (join (region_in g) b) (omega (arith, rise.1)) (aside h) gs (rising_mono lo hi 1 (1 + lo b) (1 + hi (region_in g)) (free_of gs) (omega arith) rise.2) tail')
      go (inr e) (inr f) ih = rw (e, f) (all_cons P g (insert_gap b r (last_or 0 A) gs) (fr g (Memᴰ.head refl) ∙ front_early' (region_in g) (ltb-false (lo b) (lo (region_in g)) e)) ih)

  pub insert_fronts : (gs : List Gap) → Fronts loans (A ++ (r ∷ B)) gs → Rising lo hi 1 0 (free_of gs)
      → All (λ (g : Gap). (q : ℕ) → Mem q A → (hi (piece (loan_by loans q)) ≤ lo (region_in g)) ⊎ (hi (region_in g) ≤ lo (piece (loan_by loans q)))) gs
      → Fronts loans' (A ++ B) (insert_gap (piece (loan_by loans r)) r (last_or 0 A) gs)
  insert_fronts gs = insert_from 0 gs
