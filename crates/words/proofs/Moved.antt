-- Words moved within a table: what one turn moves, how two moves join, and where nothing moves.
use mathlib.Core.Path.{◌≡◌, refl, sym, ap, ◌∙◌}
use mathlib.Core.Bool.{Bool, true, false, cond, ◌&&◌}
use mathlib.Core.List.{List, [], ◌∷◌, ◌++◌, append_assoc}
use Prim.Native.Nat.{ℕ, suc, ◌+◌, ◌-◌, ◌*◌, ◌≤◌, ◌<◌}
use native.Mathlib.Nat.{add-zero, mul-zero, mul-add, mul-suc}
use native.Mathlib.Numerals.{add-one}
use native.Mathlib.Omega.{arith}
use borrow.Author.Tests.{leb-true, leb-false, le-leb, ltb-true, ltb-false}
use lib.Dec.{leb, ltb}
use lib.ListN.{length, take, drop, get_or, set, length-drop, take-append-drop}
use lib.Seq.{sets, sets-eq, paste, paste-zero, length-paste, take-paste, drop-paste, length-take-le, drop-cons, take-append-le, drop-append-le, drop_at, take-take, drop-drop, take-add}
use Rattle.words.specs.Words.{moved, closed, opened}

-- t with the m words from dst on replaced by the m from src on: `moved` where both runs of words lie in the table
abbrev pub run : ℕ → ℕ → ℕ → List ℕ → List ℕ
run src dst m t = paste t dst (drop src t) m

pub run_none : (t : List ℕ) (src dst : ℕ) → t ≡ run src dst 0 t
run_none t src dst = paste-zero t dst (drop src t)

pub length_run : (t : List ℕ) (src dst m : ℕ) → src + m ≤ length t → dst + m ≤ length t → length (run src dst m t) ≡ length t
length_run t src dst m a b = length-paste t dst (drop src t) m b (simp length-drop (omega arith))

-- ---- one turn, whichever way it goes: its words are read before one is written

-- words stored one after the other, as they were read
stored : (vs l : List ℕ) (s d m : ℕ) → length vs ≡ m → take m (drop s l) ≡ vs → d + m ≤ length l → sets l d vs ≡ run s d m l
stored vs l s d m n e h = sets-eq vs l d (omega arith) ∙ rw (n, e)

pub turn_one : (l : List ℕ) (s d : ℕ) → s + 1 ≤ length l → d + 1 ≤ length l → set l d (get_or l s 0) ≡ run s d 1 l
turn_one l s d a b = stored (get_or l s 0 ∷ []) l s d 1 refl (rw (drop-cons l s 0 (omega arith))) (omega arith)

pub turn_four : (l : List ℕ) (s d : ℕ) → s + 4 ≤ length l → d + 4 ≤ length l
    → set (set (set (set l d (get_or l s 0)) (d + 1) (get_or l (s + 1) 0)) (d + 2) (get_or l (s + 2) 0)) (d + 3) (get_or l (s + 3) 0) ≡ run s d 4 l
turn_four l s d a b =
    let d2 : d + 2 ≡ suc (suc d) = omega arith in
    let d3 : d + 3 ≡ suc (suc (suc d)) = omega arith in
    let s2 : s + 2 ≡ suc (suc s) = omega arith in
    let s3 : s + 3 ≡ suc (suc (suc s)) = omega arith in
    rw (add-one d, d2, d3, add-one s, s2, s3)
    (stored (get_or l s 0 ∷ get_or l (suc s) 0 ∷ get_or l (suc (suc s)) 0 ∷ get_or l (suc (suc (suc s))) 0 ∷ []) l s d 4 refl
    (rw (drop-cons l s 0 (omega arith), drop-cons l (suc s) 0 (omega arith), drop-cons l (suc (suc s)) 0 (omega arith), drop-cons l (suc (suc (suc s))) 0 (omega arith)))
    (omega arith))

-- ---- a move of a + b words is a move of one part and then of the other

parts : (t : List ℕ) (src a b : ℕ) → take (a + b) (drop src t) ≡ take a (drop src t) ++ take b (drop (src + a) t)
parts t src a b = take-add a b (drop src t) ∙ ap (λ (x : List ℕ). take a (drop src t) ++ take b x) (drop-drop a src t)

-- the words past those written are as they were
past_run : (t : List ℕ) (src dst a k : ℕ) → src + a ≤ length t → dst + a ≤ length t → dst + a ≤ k → drop k (run src dst a t) ≡ drop k t
past_run t src dst a k h g l =
    let u : List ℕ = run src dst a t in
    let e : dst + a + (k - (dst + a)) ≡ k = omega arith in
    let f : drop (dst + a) u ≡ drop (dst + a) t = drop-paste t dst (drop src t) a (omega arith) (simp length-drop (omega arith)) in
    rw e at (sym (drop-drop (k - (dst + a)) (dst + a) u) ∙ ap (drop (k - (dst + a))) f ∙ drop-drop (k - (dst + a)) (dst + a) t)

down_two : (t : List ℕ) (src dst a b : ℕ) → dst ≤ src → src + (a + b) ≤ length t
    → run (src + a) (dst + a) b (run src dst a t) ≡ run src dst (a + b) t
down_two t src dst a b d h =
    let u : List ℕ = run src dst a t in
    let e : take (dst + a) u ≡ take dst t ++ take a (drop src t) = take-paste t dst (drop src t) a (omega arith) (simp length-drop (omega arith)) in
    let f : drop (src + a) u ≡ drop (src + a) t = past_run t src dst a (src + a) (omega arith) (omega arith) (omega arith) in
    let g : drop (dst + a + b) u ≡ drop (dst + a + b) t = past_run t src dst a (dst + a + b) (omega arith) (omega arith) (omega arith) in
    let k : dst + (a + b) ≡ dst + a + b = omega arith in
    rw (e, f, g, k, parts t src a b) (simp append_assoc)

-- towards the front the first part goes first
pub down_join : (t u v : List ℕ) (src dst m a b : ℕ) → a + b ≡ m → dst ≤ src → src + m ≤ length t
    → u ≡ run src dst a t → v ≡ run (src + a) (dst + a) b u → v ≡ run src dst m t
down_join t u v src dst m a b e d h p q =
    q ∙ ap (run (src + a) (dst + a) b) p ∙ down_two t src dst a b d (omega arith) ∙ ap (λ (k : ℕ). run src dst k t) e

-- words that lie in the first of two lists are read in it alone
front : (p x : List ℕ) (src a : ℕ) → src + a ≤ length p → take a (drop src (p ++ x)) ≡ take a (drop src p)
front p x src a h = ap (take a) (drop-append-le src p x (omega arith)) ∙ take-append-le a (drop src p) x (simp length-drop (omega arith))

up_two : (t : List ℕ) (src dst a b : ℕ) → src ≤ dst → dst + (a + b) ≤ length t
    → run src dst a (run (src + a) (dst + a) b t) ≡ run src dst (a + b) t
up_two t src dst a b d h =
    let p : List ℕ = take (dst + a) t in
    let q : List ℕ = take b (drop (src + a) t) in
    let r : List ℕ = drop (dst + a + b) t in
    let lp : length p ≡ dst + a = length-take-le (dst + a) t (omega arith) in
    let s : p ++ q ++ r ≡ p ++ (q ++ r) = append_assoc p q r in
    let e : take dst (p ++ (q ++ r)) ≡ take dst t = take-append-le dst p (q ++ r) (omega arith) ∙ take-take dst (dst + a) t (omega arith) in
    let f : take a (drop src (p ++ (q ++ r))) ≡ take a (drop src t) =
    front p (q ++ r) src a (omega arith) ∙ sym (front p (drop (dst + a) t) src a (omega arith)) ∙ ap (λ (x : List ℕ). take a (drop src x)) (take-append-drop (dst + a) t) in
    let g : drop (dst + a) (p ++ (q ++ r)) ≡ q ++ r = drop_at p (q ++ r) (dst + a) lp in
    let k : dst + (a + b) ≡ dst + a + b = omega arith in
    rw (s, e, f, g, k, parts t src a b) (simp append_assoc)

-- towards the back the last part goes first
pub up_join : (t u v : List ℕ) (src dst m a b : ℕ) → a + b ≡ m → src ≤ dst → dst + m ≤ length t
    → u ≡ run (src + a) (dst + a) b t → v ≡ run src dst a u → v ≡ run src dst m t
up_join t u v src dst m a b e d h p q =
    q ∙ ap (run src dst a) p ∙ up_two t src dst a b d (omega arith) ∙ ap (λ (k : ℕ). run src dst k t) e

-- where a move towards the back stands once the words from the a-th of m on are in place
abbrev pub rising : ℕ → ℕ → ℕ → ℕ → List ℕ → List ℕ
rising src dst m a t = run (src + a) (dst + a) (m - a) t

pub up_none : (t : List ℕ) (src dst m : ℕ) → t ≡ rising src dst m m t
up_none t src dst m =
    let e : m - m ≡ 0 = omega arith in
    rw e (run_none t (src + m) (dst + m))

pub up_turn : (t u v : List ℕ) (src dst m k a b : ℕ) → a + b ≡ k → k ≤ m → src ≤ dst → dst + m ≤ length t
    → u ≡ rising src dst m k t → v ≡ run (src + a) (dst + a) b u → v ≡ rising src dst m a t
up_turn t u v src dst m k a b e l d h p q =
    let f : src + k ≡ src + a + b = omega arith in
    let g : dst + k ≡ dst + a + b = omega arith in
    up_join t u v (src + a) (dst + a) (m - a) b (m - k) (omega arith) (omega arith) (omega arith) (rw (f, g) at p) q

pub up_done : (t : List ℕ) (src dst m : ℕ) → rising src dst m 0 t ≡ run src dst m t
up_done t src dst m =
    let e : m - 0 ≡ m = omega arith in
    rw (add-zero src, add-zero dst, e)

-- ---- `moved` in a table of any length

module _ (t : List ℕ) (src dst m : ℕ) where
  pub moved_in : src + m ≤ length t → dst + m ≤ length t → moved src dst m t ≡ run src dst m t
  unfolding moved
  moved_in a b = rw (le-leb (src + m) (length t) a, le-leb (dst + m) (length t) b)

  -- what holds of the table as it was, and of the words moved where they fit, holds of `moved`
  pub moved_either : (P : List ℕ → Type 0) → P t → (src + m ≤ length t → dst + m ≤ length t → P (run src dst m t)) → P (moved src dst m t)
  unfolding moved
  moved_either P z f = by (leb (src + m) (length t)) (leb (dst + m) (length t)) refl refl
    where
      by : (x y : Bool) → leb (src + m) (length t) ≡ x → leb (dst + m) (length t) ≡ y → P (cond (leb (src + m) (length t) && leb (dst + m) (length t)) (run src dst m t) t)
      by true true a b = rw (a, b) (f (leb-true (src + m) (length t) a) (leb-true (dst + m) (length t) b))
      by true false a b = rw (a, b) z
      by false y a b = rw a z

  -- a run of words leaves the table: where the first does not, the second does
  pub moved_out : (src + m ≤ length t → length t < dst + m) → moved src dst m t ≡ t
  moved_out f = moved_either (λ u. u ≡ t) refl (λ a b. let k : length t < dst + m = f a in absurd (omega arith))

pub moved_none : (t : List ℕ) (src dst m : ℕ) → m ≡ 0 → moved src dst m t ≡ t
moved_none t src dst m e = rw e (moved_either t src dst 0 (λ u. u ≡ t) refl (λ a b. sym (run_none t src dst)))

-- what the test that both runs fit says, of the room that is left past m words
pub both_fit : (a b room : ℕ) → (leb a room && leb b room) ≡ true → (a ≤ room) × (b ≤ room)
both_fit a b room h = by (leb a room) refl
  where
    by : (x : Bool) → leb a room ≡ x → (a ≤ room) × (b ≤ room)
    by true e = (leb-true a room e, leb-true b room (rw e at h))
    by false e = let z : false ≡ true = rw e at h in absurd (let k : ◌≡◌ {A = ℕ} 0 1 = cc in omega arith)

pub one_leaves : (a b room : ℕ) → (leb a room && leb b room) ≡ false → a ≤ room → room < b
one_leaves a b room h k = leb-false b room (rw (le-leb a room k) at h)

-- ---- room closed and opened among n records of w words behind the table's own

pub record_and_next : (w i : ℕ) → w * (i + 1) ≡ w * i + w
record_and_next w i = rw add-one (mul-suc w i)

no_records : (w n : ℕ) → n ≡ 0 → w * n ≡ 0
no_records w n e = rw e (mul-zero w)

-- the words of the records before a place and of those from it on
pub before_and_from : (w n i : ℕ) → i ≤ n → w * i + w * (n - i) ≡ w * n
before_and_from w n i h =
    let e : i + (n - i) ≡ n = omega arith in
    sym (mul-add w i (n - i)) ∙ ap (λ (k : ℕ). w * k) e

-- the words of the records up to one and of those past it
pub to_and_past : (w n i : ℕ) → i < n → w * (i + 1) + w * (n - i - 1) ≡ w * n
to_and_past w n i h =
    let e : i + 1 + (n - i - 1) ≡ n = omega arith in
    sym (mul-add w (i + 1) (n - i - 1)) ∙ ap (λ (k : ℕ). w * k) e

module _ (w n i : ℕ) (t : List ℕ) where
  -- no record stands at i: none is past it
  pub closed_none : n ≤ i → closed w n i t ≡ t
  closed_none h = moved_none t _ _ _ (no_records w _ (omega arith))

  -- the records leave the table
  pub closed_out : length t < w + w * n → closed w n i t ≡ t
  closed_out h = by (ltb i n) refl
    where
      by : (b : Bool) → ltb i n ≡ b → closed w n i t ≡ t
      by true e = moved_out t _ _ _ (λ k. absurd (omega (arith, to_and_past w n i (ltb-true i n e))))
      by false e = closed_none (ltb-false i n e)

  -- no record stands at i or past it: none goes up
  pub opened_none : n ≤ i → opened w n i t ≡ t
  opened_none h = moved_none t _ _ _ (no_records w _ (omega arith))

  -- the records and one more leave the table
  pub opened_out : length t < w + w * n + w → opened w n i t ≡ t
  opened_out h = by (ltb i n) refl
    where
      by : (b : Bool) → ltb i n ≡ b → opened w n i t ≡ t
      by true e =
          let k : i < n = ltb-true i n e in
          moved_out t _ _ _ (λ _. omega (arith, before_and_from w n i (omega arith)))
      by false e = opened_none (ltb-false i n e)
