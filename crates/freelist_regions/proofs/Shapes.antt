-- A block put among gaps that rise, by index: the four ways in which it may touch its neighbours are one.
use Rattle.std.proofs.Common.{◌≡◌, ℕ, zero, suc, ◌+◌, ◌-◌, ◌<◌, ◌≤◌, Bool, true, false, ◌&&◌, eqb, ltb, ◌⊎◌, List, [], ◌∷◌, ◌++◌, length, get_or, take, drop, set, sym, refl, ap, ◌∙◌, inl, inr, ⊎_elim, add-one, arith, length-append, length-drop, length-set, length-take-le, get_or-drop, drop-cons, take-take, take_at, drop_at, ltb-true, le-ltb, lt-ltb}
use lib.Seq.{set_split, append_snoc, take-append-le}
use Rattle.lists.proofs.Bools.{told, lt_or_le, and_left, and_right}
use Rattle.words.specs.Rows.{remove_at}
use Rattle.words.proofs.Records.{length_remove_at, length_insert_at}
use Rattle.store_rules.specs.declared.Region.{Region}
use Rattle.freelist_rules.specs.declared.Gap.{Gap}
use Rattle.freelist_rules.specs.Records.{region}
use Rattle.freelist_rules.specs.Pieces.{lo, hi, Rising}
use Rattle.freelist_rules.specs.Join.{meets, join}
use Rattle.freelist_rules.specs.Threads.{gap, region_in, free_of, no_gap, renamed, renamed_from, absorb_gap, insert_gap, absorbed, around}
use Rattle.freelist_rules.proofs.Joins.{meets_is, meets_never}
use Rattle.freelist_rules.proofs.Inserts.{rising_at}
use Rattle.freelist_rules.proofs.GapLists.{free_at, free_length}
use Rattle.freelist_regions.specs.Settled.{reached, settled, behind}

-- each ends before those behind it begin
rising_pair : (q i j : ℕ) (rs : List Region) (d : Region) → Rising lo hi 1 q rs → i < j → j < length rs → hi (get_or rs i d) < lo (get_or rs j d)
rising_pair q i j [] d r h g = absurd (omega arith)
rising_pair q i zero (a ∷ rs) d r h g = absurd (omega arith)
rising_pair q zero (suc j) (a ∷ rs) d r h g = omega (arith, (rising_at (1 + hi a) j rs d r.2 (omega arith)).0)
rising_pair q (suc i) (suc j) (a ∷ rs) d r h g = rising_pair (1 + hi a) i j rs d r.2 (omega arith) (omega arith)

-- ---- an insertion, step by step

module _ (b : Region) (r u : ℕ) where
  -- past those that begin before b and do not touch it
  past_gaps : (m : ℕ) (gs : List Gap) → m ≤ length gs → ((i : ℕ) → i < m → (lo (region_in (get_or gs i no_gap)) ≤ lo b) × (meets (region_in (get_or gs i no_gap)) b ≡ false))
      → (insert_gap b r u gs ≡ take m gs ++ insert_gap b r u (drop m gs)) × (around b (free_of gs) ≡ around b (free_of (drop m gs)))
  unfolding insert_gap around
  past_gaps zero gs h f = (refl, refl)
  past_gaps (suc m) [] h f = absurd (omega arith)
  past_gaps (suc m) (g ∷ gs) h f = go (f 0 (omega arith)) (past_gaps m gs (omega arith) (λ i k. f (suc i) (omega arith)))
    where
      go : (lo (region_in g) ≤ lo b) × (meets (region_in g) b ≡ false) → (insert_gap b r u gs ≡ take m gs ++ insert_gap b r u (drop m gs)) × (around b (free_of gs) ≡ around b (free_of (drop m gs)))
          → (insert_gap b r u (g ∷ gs) ≡ g ∷ (take m gs ++ insert_gap b r u (drop m gs))) × (around b (free_of (g ∷ gs)) ≡ around b (free_of (drop m gs)))
      go w ih = rw (le-ltb (lo b) (lo (region_in g)) w.0, w.1) (ap (λ (xs : List Gap). g ∷ xs) ih.0, ih.1)

  -- before those that begin past it
  before_gaps : (gs : List Gap) → (0 < length gs → lo b < lo (region_in (get_or gs 0 no_gap))) → (insert_gap b r u gs ≡ absorb_gap b r u gs) × (around b (free_of gs) ≡ absorbed b (free_of gs))
  unfolding insert_gap around
  before_gaps [] f = (refl, refl)
  before_gaps (g ∷ gs) f = rw (lt-ltb (lo b) (lo (region_in g)) (f (omega arith))) (refl, refl)

  -- onto one that ends where b starts
  onto_gap : (g : Gap) (gs : List Gap) → lo (region_in g) ≤ lo b → meets (region_in g) b ≡ true
      → (insert_gap b r u (g ∷ gs) ≡ absorb_gap (join (region_in g) b) r u gs) × (around b (free_of (g ∷ gs)) ≡ absorbed (join (region_in g) b) (free_of gs))
  unfolding insert_gap around
  onto_gap g gs h e = rw (le-ltb (lo b) (lo (region_in g)) h, e) (refl, refl)

module _ (d : Region) (r u : ℕ) where
  absorb_no : (gs : List Gap) → (0 < length gs → meets d (region_in (get_or gs 0 no_gap)) ≡ false) → (absorb_gap d r u gs ≡ gap d u ∷ renamed r u gs) × (absorbed d (free_of gs) ≡ d)
  absorb_no [] f = (refl, refl)
  absorb_no (g ∷ gs) f = rw (f (omega arith)) (refl, refl)

  absorb_yes : (g : Gap) (gs : List Gap) → meets d (region_in g) ≡ true → (absorb_gap d r u (g ∷ gs) ≡ gap (join d (region_in g)) u ∷ renamed r u gs) × (absorbed d (free_of (g ∷ gs)) ≡ join d (region_in g))
  absorb_yes g gs e = rw e (refl, refl)

-- those behind one, named anew
seat_renamed : (r u j : ℕ) (pre gs : List Gap) (g : Gap) → length pre ≡ j → renamed_from (suc j) r u (pre ++ (g ∷ gs)) ≡ pre ++ (g ∷ renamed r u gs)
seat_renamed r u j pre gs g l =
    let n : length (pre ++ (g ∷ [])) ≡ suc j = length-append pre (g ∷ []) ∙ add-one (length pre) ∙ ap suc l in
    ap (renamed_from (suc j) r u) (sym (append_snoc pre g gs))
    ∙ rw (take_at (pre ++ (g ∷ [])) gs (suc j) n, drop_at (pre ++ (g ∷ [])) gs (suc j) n)
    (append_snoc pre g (renamed r u gs))

-- ---- by index

module _ (b : Region) (r u k : ℕ) (gs : List Gap) (most : k ≤ length gs) (rise : Rising lo hi 1 0 (free_of gs))
    (low : (i : ℕ) → i < k → lo (region_in (get_or gs i no_gap)) ≤ lo b) (high : k < length gs → lo b < lo (region_in (get_or gs k no_gap))) where
  abbrev p : Gap
  p = get_or gs (k - 1) no_gap

  abbrev q : Gap
  q = get_or gs k no_gap

  -- what an insertion leaves: g in its place, behind the first j
  abbrev Seats : ℕ → Region → List Gap → Type 0
  Seats j whole rest = (insert_gap b r u gs ≡ take j gs ++ (gap whole u ∷ renamed r u rest)) × (around b (free_of gs) ≡ whole)

  -- none but the last before k touches it
  apart : (i : ℕ) → i + 1 < k → meets (region_in (get_or gs i no_gap)) b ≡ false
  apart i h =
      meets_never (region_in (get_or gs i no_gap)) b
      (omega (arith, rising_pair 0 i (i + 1) (free_of gs) (region 0 0 0) rise (omega arith) (omega (arith, free_length gs)), ap hi (free_at gs i), ap lo (free_at gs (i + 1)), low (i + 1) h))

  -- the first of those from k on
  head_is : get_or (drop k gs) 0 no_gap ≡ q
  head_is = get_or-drop k gs 0 no_gap ∙ ap (λ (i : ℕ). get_or gs i no_gap) (omega arith)

  module _ (touches : meets (region_in p) b ≡ true) (some : 0 < k) where
    s : suc (k - 1) ≡ k
    s = omega arith

    -- joined with the one before k
    onto : (insert_gap b r u gs ≡ take (k - 1) gs ++ absorb_gap (join (region_in p) b) r u (drop k gs)) × (around b (free_of gs) ≡ absorbed (join (region_in p) b) (free_of (drop k gs)))
    onto =
        let w = past_gaps b r u (k - 1) gs (omega arith) (λ i h. (low i (omega arith), apart i (omega arith))) in
        let d : drop (k - 1) gs ≡ p ∷ drop k gs = drop-cons gs (k - 1) no_gap (omega arith) ∙ ap (λ (i : ℕ). p ∷ drop i gs) s in
        let o = onto_gap b r u p (drop k gs) (low (k - 1) (omega arith)) touches in
        (w.0 ∙ ap (λ (xs : List Gap). take (k - 1) gs ++ insert_gap b r u xs) d ∙ ap (λ (xs : List Gap). take (k - 1) gs ++ xs) o.0, w.1 ∙ ap (λ (xs : List Gap). around b (free_of xs)) d ∙ o.1)

    -- what it meets then is what b meets
    same_meets : (n : Region) → meets (join (region_in p) b) n ≡ meets b n
    same_meets n = ap (λ (c : ℕ). eqb c n.chunk && eqb b.end n.start) (meets_is (region_in p) b touches).0

    same_chunk : (x : ℕ) → region p.chunk p.start x ≡ region b.chunk p.start x
    same_chunk x = ap (λ (c : ℕ). region c p.start x) (meets_is (region_in p) b touches).0

    seats_before : (k < length gs → meets b (region_in q) ≡ false) → Seats (k - 1) (region b.chunk p.start b.end) (drop k gs)
    seats_before f =
        let a = absorb_no (join (region_in p) b) r u (drop k gs) (λ h. ap (λ (g : Gap). meets (join (region_in p) b) (region_in g)) head_is ∙ same_meets (region_in q) ∙ f (under h)) in
        let e = same_chunk b.end in
        (onto.0 ∙ ap (λ (xs : List Gap). take (k - 1) gs ++ xs) a.0 ∙ ap (λ (x : Region). take (k - 1) gs ++ (gap x u ∷ renamed r u (drop k gs))) e, onto.1 ∙ a.1 ∙ e)
      where
        under : 0 < length (drop k gs) → k < length gs
        under h = omega (arith, h, length-drop k gs)

    seats_both : k < length gs → meets b (region_in q) ≡ true → Seats (k - 1) (region b.chunk p.start q.end) (drop (suc k) gs)
    seats_both h f =
        let d : drop k gs ≡ q ∷ drop (suc k) gs = drop-cons gs k no_gap h in
        let a = absorb_yes (join (region_in p) b) r u q (drop (suc k) gs) (same_meets (region_in q) ∙ f) in
        let e = same_chunk q.end in (
          onto.0 ∙ ap (λ (xs : List Gap). take (k - 1) gs ++ absorb_gap (join (region_in p) b) r u xs) d ∙ ap (λ (xs : List Gap). take (k - 1) gs ++ xs) a.0 ∙ ap (λ (x : Region). take (k - 1) gs ++ (gap x u ∷ renamed r u (drop (suc k) gs))) e,
          onto.1 ∙ ap (λ (xs : List Gap). absorbed (join (region_in p) b) (free_of xs)) d ∙ a.1 ∙ e,
        )

  module _ (touches : 0 < k → meets (region_in p) b ≡ false) where
    -- past all of those before k
    none : (i : ℕ) → i < k → meets (region_in (get_or gs i no_gap)) b ≡ false
    none i h = ⊎_elim (λ g. apart i g) (λ g. let e : i ≡ k - 1 = omega arith in ap (λ (j : ℕ). meets (region_in (get_or gs j no_gap)) b) e ∙ touches (omega arith)) (lt_or_le (i + 1) k)

    beyond : (insert_gap b r u gs ≡ take k gs ++ absorb_gap b r u (drop k gs)) × (around b (free_of gs) ≡ absorbed b (free_of (drop k gs)))
    beyond =
        let w = past_gaps b r u k gs most (λ i h. (low i h, none i h)) in
        let o = before_gaps b r u (drop k gs) (λ h. rw head_is (high (omega (arith, h, length-drop k gs)))) in
        (w.0 ∙ ap (λ (xs : List Gap). take k gs ++ xs) o.0, w.1 ∙ o.1)

    seats_alone : (k < length gs → meets b (region_in q) ≡ false) → Seats k b (drop k gs)
    seats_alone f =
        let a = absorb_no b r u (drop k gs) (λ h. ap (λ (g : Gap). meets b (region_in g)) head_is ∙ f (omega (arith, h, length-drop k gs))) in
        (beyond.0 ∙ ap (λ (xs : List Gap). take k gs ++ xs) a.0, beyond.1 ∙ a.1)

    seats_next : k < length gs → meets b (region_in q) ≡ true → Seats k (region b.chunk b.start q.end) (drop (suc k) gs)
    seats_next h f =
        let d : drop k gs ≡ q ∷ drop (suc k) gs = drop-cons gs k no_gap h in
        let a = absorb_yes b r u q (drop (suc k) gs) f in
        (beyond.0 ∙ ap (λ (xs : List Gap). take k gs ++ absorb_gap b r u xs) d ∙ ap (λ (xs : List Gap). take k gs ++ xs) a.0, beyond.1 ∙ ap (λ (xs : List Gap). absorbed b (free_of xs)) d ∙ a.1)

-- ---- as code tests the neighbours

module _ (b : Region) (r u k : ℕ) (gs : List Gap) (most : k ≤ length gs) (rise : Rising lo hi 1 0 (free_of gs))
    (low : (i : ℕ) → i < k → lo (region_in (get_or gs i no_gap)) ≤ lo b) (high : k < length gs → lo b < lo (region_in (get_or gs k no_gap)))
    (before next : Bool) (n : ℕ) (long : length gs ≡ n) (p q : Region)
    (is_p : 0 < k → p ≡ region_in (get_or gs (k - 1) no_gap)) (is_q : k < n → q ≡ region_in (get_or gs k no_gap))
    (eb : before ≡ (ltb 0 k && meets p b)) (en : next ≡ (ltb k n && meets b q)) where
  pub before_some : before ≡ true → 0 < k
  before_some e = ltb-true 0 k (and_left (ltb 0 k) (meets p b) (sym eb ∙ e))

  pub next_under : next ≡ true → k < n
  next_under e = ltb-true k n (and_left (ltb k n) (meets b q) (sym en ∙ e))

  before_yes : before ≡ true → meets (region_in (get_or gs (k - 1) no_gap)) b ≡ true
  before_yes e = ap (λ (x : Region). meets x b) (sym (is_p (before_some e))) ∙ and_right (ltb 0 k) (meets p b) (sym eb ∙ e)

  before_no : before ≡ false → 0 < k → meets (region_in (get_or gs (k - 1) no_gap)) b ≡ false
  before_no e h = ap (λ (x : Region). meets x b) (sym (is_p h)) ∙ sym (ap (λ (x : Bool). x && meets p b) (lt-ltb 0 k h)) ∙ sym eb ∙ e

  next_yes : next ≡ true → meets b (region_in (get_or gs k no_gap)) ≡ true
  next_yes e = ap (meets b) (sym (is_q (next_under e))) ∙ and_right (ltb k n) (meets b q) (sym en ∙ e)

  next_no : next ≡ false → k < length gs → meets b (region_in (get_or gs k no_gap)) ≡ false
  next_no e h = let g : k < n = omega (arith, long) in ap (meets b) (sym (is_q g)) ∙ sym (ap (λ (x : Bool). x && meets b q) (lt-ltb k n g)) ∙ sym en ∙ e

  abbrev whole : Region
  whole = reached before next p q b

  abbrev Inserts : Type 0
  Inserts = (insert_gap b r u gs ≡ renamed_from (behind before k) r u (settled before next k (gap (reached before next p q b) u) gs)) × (around b (free_of gs) ≡ reached before next p q b)

  -- behind the first j
  from_seat : (j : ℕ) (w : Region) (rest : List Gap) → j ≤ length gs → whole ≡ w → behind before k ≡ suc j → settled before next k (gap w u) gs ≡ take j gs ++ (gap w u ∷ rest)
      → (insert_gap b r u gs ≡ take j gs ++ (gap w u ∷ renamed r u rest)) × (around b (free_of gs) ≡ w) → Inserts
  from_seat j w rest h e f s i = (
    i.0
        ∙ sym (seat_renamed r u j (take j gs) rest (gap w u) (length-take-le j gs h))
        ∙ ap (renamed_from (suc j) r u) (sym s)
        ∙ ap (λ (m : ℕ). renamed_from m r u (settled before next k (gap w u) gs)) (sym f)
        ∙ ap (λ (x : Region). renamed_from (behind before k) r u (settled before next k (gap x u) gs)) (sym e),
    i.1 ∙ sym e,
  )

  set_closed : (g : Gap) → 0 < k → k < length gs → set (remove_at k gs) (k - 1) g ≡ take (k - 1) gs ++ (g ∷ drop (suc k) gs)
  set_closed g h l =
      let s : suc (k - 1) ≡ k = omega arith in
      let t : length (take k gs) ≡ k = length-take-le k gs most in
      set_split (remove_at k gs) (k - 1) g (omega (arith, length-append (take k gs) (drop (suc k) gs), t))
      ∙ ap (λ (xs : List Gap). xs ++ (g ∷ drop (suc (k - 1)) (remove_at k gs))) (take-append-le (k - 1) (take k gs) (drop (suc k) gs) (omega (arith, t)) ∙ take-take (k - 1) k gs (omega arith))
      ∙ ap (λ (xs : List Gap). take (k - 1) gs ++ (g ∷ xs)) (ap (λ (m : ℕ). drop m (remove_at k gs)) s ∙ drop_at (take k gs) (drop (suc k) gs) k t)

  by : (before ≡ true) ⊎ (before ≡ false) → (next ≡ true) ⊎ (next ≡ false) → Inserts
  unfolding settled behind reached
  by (inl e) (inl f) =
      let h = before_some e in
      let l : k < length gs = omega (arith, long, next_under f) in
      let s : suc (k - 1) ≡ k = omega arith in
      let x = is_p h in
      let y = is_q (next_under f) in
      from_seat (k - 1) (region b.chunk (get_or gs (k - 1) no_gap).start (get_or gs k no_gap).end) (drop (suc k) gs) (omega arith)
      (rw (e, f) (λ i. region b.chunk (x i).start (y i).end)) (rw e (sym s)) (rw (e, f) (set_closed _ h l))
      (seats_both b r u k gs most rise low high (before_yes e) h l (next_yes f))
  by (inl e) (inr f) =
      let h = before_some e in
      let s : suc (k - 1) ≡ k = omega arith in
      let x = is_p h in
      let w : Region = region b.chunk (get_or gs (k - 1) no_gap).start b.end in
      from_seat (k - 1) w (drop k gs) (omega arith) (rw (e, f) (λ i. region b.chunk (x i).start b.end)) (rw e (sym s))
      (rw (e, f) (set_split gs (k - 1) (gap w u) (omega arith) ∙ ap (λ (m : ℕ). take (k - 1) gs ++ (gap w u ∷ drop m gs)) s))
      (seats_before b r u k gs most rise low high (before_yes e) h (next_no f))
  by (inr e) (inl f) =
      let l : k < length gs = omega (arith, long, next_under f) in
      let y = is_q (next_under f) in
      let w : Region = region b.chunk b.start (get_or gs k no_gap).end in
      from_seat k w (drop (suc k) gs) most (rw (e, f) (λ i. region b.chunk b.start (y i).end)) (rw e (add-one k)) (rw (e, f) (set_split gs k (gap w u) l))
      (seats_next b r u k gs most rise low high (before_no e) l (next_yes f))
  by (inr e) (inr f) =
      from_seat k b (drop k gs) most (rw (e, f)) (rw e (add-one k)) (rw (e, f)) (seats_alone b r u k gs most rise low high (before_no e) (next_no f))

  pub inserts : (insert_gap b r u gs ≡ renamed_from (behind before k) r u (settled before next k (gap (reached before next p q b) u) gs)) × (around b (free_of gs) ≡ reached before next p q b)
  inserts = by (told before) (told next)

  -- there are gaps up to where those behind it begin
  pub behind_within : (g : Gap) → behind before k ≤ length (settled before next k g gs)
  unfolding settled behind
  behind_within g = go (told before) (told next)
    where
      go : (before ≡ true) ⊎ (before ≡ false) → (next ≡ true) ⊎ (next ≡ false) → behind before k ≤ length (settled before next k g gs)
      go (inl e) (inl f) = let h = next_under f in rw (e, f) (omega (arith, length-set (remove_at k gs) (k - 1) g, length_remove_at k gs (omega (arith, long, h)), long, h))
      go (inl e) (inr f) = rw (e, f) (omega (arith, length-set gs (k - 1) g, most))
      go (inr e) (inl f) = let h = next_under f in rw (e, f) (omega (arith, length-set gs k g, long, h))
      go (inr e) (inr f) = rw (e, f) (omega (arith, length_insert_at k g gs most))

  -- and one more than before, where it touches none
  pub settled_more : (g : Gap) → before ≡ false → next ≡ false → length (settled before next k g gs) ≡ n + 1
  unfolding settled
  settled_more g e f = rw (e, f) (length_insert_at k g gs most ∙ ap (λ (m : ℕ). m + 1) long)
