-- Places linked into a ring in a lent table, as a level of a buddy store links its ready pairs: what the ring is, and what
-- becomes of it when a place is taken out or joins.
use Rattle.std.specs.Prelude.{◌≡◌, cond, List, [], ◌∷◌, ◌++◌, ℕ, ◌≤◌, ◌<◌, eqb, length, get_or, set}
use Rattle.lists.specs.Members.{Distinct, Below, head_or}
use Rattle.words.specs.Words.{cell_of}
use Rattle.slabs.specs.Slab.{nowhere, place_of, record_of, link_at}

-- next leads on from a place, prev leads back
module _ (next prev : ℕ → ℕ) where
  -- a leads to b, and b back to a
  abbrev pub Link : ℕ → ℕ → Type 0
  Link a b = (next a ≡ b) × (prev b ≡ a)

  -- from x on through each place of the list
  abbrev pub Run : ℕ → List ℕ → Type 0
  Run x [] = Unit {0}
  Run x (y ∷ l) = Link x y × Run y l

  -- from the first on through the others, and back to it
  abbrev pub Closed : List ℕ → Type 0
  Closed [] = Unit {0}
  Closed (x ∷ l) = Run x (l ++ (x ∷ []))

  -- the places of R, in this order, are a ring: each leads to the one after it and that one back, the last to the first
  pub record Ring (R : List ℕ) : Type 0 where
    pub closed : Closed R
    pub distinct : Distinct R

-- in words: the head stands in the word `head`, a place's links among the `step` words of its record
module _ (head next_at prev_at step : ℕ) where
  -- the place after p, and the one before it
  abbrev pub next : List ℕ → ℕ → ℕ
  next t p = link_at t next_at step p

  abbrev pub prev : List ℕ → ℕ → ℕ
  prev t p = link_at t prev_at step p

  -- the place that the ring begins with
  abbrev pub head_in_ring : List ℕ → ℕ
  head_in_ring t = place_of (get_or t head 0)

  -- q and n are joined, and n is the head
  abbrev pub joined : ℕ → ℕ → List ℕ → List ℕ
  joined q n t = set (set (set t (cell_of next_at step q) (record_of n)) (cell_of prev_at step n) (record_of q)) head (record_of n)

  -- "the pair goes, the head becomes that pair's next even if it wasn't the head": p is taken out; it was alone where the
  -- place before it is p itself, and then the ring is empty
  unfoldable pub unlinked : ℕ → List ℕ → List ℕ
  unlinked p t = cond (eqb (prev t p) p) (set t head (record_of nowhere)) (joined (prev t p) (next t p) t)

  -- p alone is the ring
  abbrev pub alone : ℕ → List ℕ → List ℕ
  alone p t = set (set (set t (cell_of next_at step p) (record_of p)) (cell_of prev_at step p) (record_of p)) head (record_of p)

  -- p stands between q and h
  abbrev pub between : ℕ → ℕ → ℕ → List ℕ → List ℕ
  between q p h t =
      set (set (set (set t (cell_of prev_at step h) (record_of p)) (cell_of next_at step q) (record_of p)) (cell_of next_at step p) (record_of h)) (cell_of prev_at step p) (record_of q)

  -- "joins the ring before the head, or as head if the ring is empty"
  unfoldable pub linked : ℕ → List ℕ → List ℕ
  linked p t = cond (eqb (head_in_ring t) nowhere) (alone p t) (between (prev t (head_in_ring t)) p (head_in_ring t) t)

  -- the words that each of the two writes
  unfoldable pub unlinked_at : ℕ → List ℕ → List ℕ
  unlinked_at p t = cond (eqb (prev t p) p) (head ∷ []) (cell_of next_at step (prev t p) ∷ cell_of prev_at step (next t p) ∷ head ∷ [])

  unfoldable pub linked_at : ℕ → List ℕ → List ℕ
  linked_at p t =
      cond (eqb (head_in_ring t) nowhere) (cell_of next_at step p ∷ cell_of prev_at step p ∷ head ∷ [])
      (cell_of prev_at step (head_in_ring t) ∷ cell_of next_at step (prev t (head_in_ring t)) ∷ cell_of next_at step p ∷ cell_of prev_at step p ∷ [])

  -- the places of R are the ring in the words of t, at the head
  pub record RingOf (t R : List ℕ) : Type 0 where
    pub ring : Ring (next t) (prev t) R
    pub first : head_in_ring t ≡ head_or nowhere R

  -- the ring in the words of t has k places, all of them below n
  pub record HasRing (n k : ℕ) (t : List ℕ) : Type 0 where
    pub places : List ℕ
    pub ring : RingOf t places
    pub below : Below n places
    pub long : length places ≡ k

  -- n places, none of them nowhere, have their links within `long` words, and no two of these words and the head are one
  pub record Apart (n long : ℕ) : Type 0 where
    pub stepped : 0 < step
    pub few : n ≤ nowhere
    pub head_in : head < long
    pub next_in_lem : (x : ℕ) → x < n → cell_of next_at step x < long
    pub prev_in : (x : ℕ) → x < n → cell_of prev_at step x < long
    pub links : (x y : ℕ) → x < n → y < n → cell_of next_at step x ≡ cell_of prev_at step y → ⊥
    pub head_next : (x : ℕ) → x < n → head ≡ cell_of next_at step x → ⊥
    pub head_prev : (x : ℕ) → x < n → head ≡ cell_of prev_at step x → ⊥
