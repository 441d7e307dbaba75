-- A level of pairs as what is done to it shows it: its ring and its vacant chain never appear here. 01, "buddy.rs".
use Rattle.std.specs.Prelude.{◌≡◌, Bool, true, false, ℕ, ◌<◌, eqb}
use Rattle.buddy_rules.specs.Nodes.{free_word, vacant, exhausted, left_ready, right_ready, Ent, Side, L, R, is_left, base}

-- the entry with side s free, and ready there
abbrev pub readied : Side → Ent → Ent
readied L e = record { tag = left_ready; chunk = e.chunk; off = e.off; left = free_word; right = e.right; up = e.up }
readied R e = record { tag = right_ready; chunk = e.chunk; off = e.off; left = e.left; right = free_word; up = e.up }

-- the entry with its side s taken by w, and exhausted
abbrev pub filled : Side → ℕ → Ent → Ent
filled L w e = record { tag = exhausted; chunk = e.chunk; off = e.off; left = w; right = e.right; up = e.up }
filled R w e = record { tag = exhausted; chunk = e.chunk; off = e.off; left = e.left; right = w; up = e.up }

-- the side that the tag says is ready
abbrev pub side_by : Bool → Side
side_by true = L
side_by false = R

abbrev pub side_of : ℕ → Side
side_of t = side_by (eqb t left_ready)

-- the side of node n
abbrev pub side_in : ℕ → Side
side_in n = side_by (is_left n)

-- where that side begins
abbrev pub base_of : ℕ → Ent → ℕ → ℕ
base_of u e l = base u (side_of e.tag) e.off l

-- a level: its entries; Good says that its ring and its vacant chain are those which the tags say
pub record Ops : Type 1 where
  pub Lv : Type 0
  pub ent : Lv → ℕ → Ent
  pub Good : Lv → Type 0
  -- "the pair goes": a ready pair leaves the ring and is vacant
  pub drop : Lv → ℕ → Lv
  pub drop_good : (v : Lv) (p : ℕ) → Good v → exhausted < (ent v p).tag → Good (drop v p)
  pub drop_here : (v : Lv) (p : ℕ) → Good v → exhausted < (ent v p).tag → (ent (drop v p) p).tag ≡ vacant
  pub drop_other : (v : Lv) (p x : ℕ) → Good v → exhausted < (ent v p).tag → (x ≡ p → ⊥) → ent (drop v p) x ≡ ent v x
  -- "A returned side of an exhausted pair joins the ring before the head"
  pub back : Lv → ℕ → Side → Lv
  pub back_good : (v : Lv) (p : ℕ) (s : Side) → Good v → (ent v p).tag ≡ exhausted → Good (back v p s)
  pub back_here : (v : Lv) (p : ℕ) (s : Side) → Good v → (ent v p).tag ≡ exhausted → ent (back v p s) p ≡ readied s (ent v p)
  pub back_other : (v : Lv) (p : ℕ) (s : Side) (x : ℕ) → Good v → (ent v p).tag ≡ exhausted → (x ≡ p → ⊥) → ent (back v p s) x ≡ ent v x
  -- "Acquire takes the head pair's ready side": the ring's head, where there is one; its ready side is taken by w
  pub Some : Lv → Type 0
  pub head : Lv → ℕ
  pub head_ready : (v : Lv) → Good v → Some v → exhausted < (ent v (head v)).tag
  pub ready_some : (v : Lv) (p : ℕ) → Good v → exhausted < (ent v p).tag → Some v
  pub take : Lv → ℕ → Lv
  pub take_good : (v : Lv) (w : ℕ) → Good v → Some v → Good (take v w)
  pub take_here : (v : Lv) (w : ℕ) → Good v → Some v → ent (take v w) (head v) ≡ filled (side_of (ent v (head v)).tag) w (ent v (head v))
  pub take_other : (v : Lv) (w x : ℕ) → Good v → Some v → (x ≡ head v → ⊥) → ent (take v w) x ≡ ent v x
  -- a new pair of node n, whose left side is taken by w, is the whole ring
  pub Room : Lv → Type 0
  pub new_place : Lv → ℕ
  pub new_place_vacant : (v : Lv) → Good v → Room v → (ent v (new_place v)).tag ≡ vacant
  pub add : Lv → ℕ → ℕ → ℕ → ℕ → Lv
  pub add_good : (v : Lv) (c o n w : ℕ) → Good v → Room v → (Some v → ⊥) → Good (add v c o n w)
  pub add_here : (v : Lv) (c o n w : ℕ) → Good v → Room v → (Some v → ⊥)
      → ent (add v c o n w) (new_place v) ≡ record { tag = right_ready; chunk = c; off = o; left = w; right = free_word; up = n }
  pub add_other : (v : Lv) (c o n w x : ℕ) → Good v → Room v → (Some v → ⊥) → (x ≡ new_place v → ⊥) → ent (add v c o n w) x ≡ ent v x
