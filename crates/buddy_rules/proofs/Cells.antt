-- The words of a level that are no links of its ring, nor its head: what the ring's stores leave. And what the pairs show in
-- two tables that have the same words.
use mathlib.Core.Path.{◌≡◌, refl, ap}
use mathlib.Core.Bool.{Bool, true, false, cond}
use mathlib.Core.Logic.{◌⊎◌, inl, inr}
use mathlib.Core.List.{List, [], ◌∷◌}
use Prim.Native.Nat.{ℕ, ◌+◌, ◌^◌, ◌≤◌, ◌<◌}
use native.Mathlib.Omega.{arith}
use lib.Dec.{eqb}
use lib.ListN.{length, get_or}
use borrow.Author.Tests.{lt-ltb, le-ltb}
use Rattle.lists.specs.Members.{NotIn}
use Rattle.lists.proofs.Bools.{lt_or_le}
use Rattle.slabs.specs.Slab.{nowhere}
use Rattle.ring_rules.specs.Ring.{next, prev, unlinked_at, linked_at, Apart}
use Rattle.ring_rules.proofs.Keeps.{unlinked_length, linked_length, unlinked_keeps, linked_keeps}
use Rattle.buddy_rules.specs.Nodes.{Ent}
use Rattle.buddy_rules.specs.Level.{
  header_words,
  ring_at,
  used_at,
  pair_words,
  tag_at,
  chunk_at,
  off_at,
  left_at,
  right_at,
  next_at,
  prev_at,
  up_at,
  level_words,
  no_pair,
  field_at,
  pair_cell,
  ent_of,
  pair_in,
  ring_head,
  leaves,
  joins,
}

-- the fields of a pair that are no links
abbrev pub Plain : ℕ → Type 0
Plain f = (f < next_at) ⊎ (f ≡ up_at)

pub plain_in : (f : ℕ) → Plain f → f < pair_words
plain_in f (inl h) = omega arith
plain_in f (inr h) = omega arith

module _ (b : ℕ) where
  -- a word that is no link, nor the head
  abbrev pub Off : ℕ → Type 0
  Off i = (i ≡ b + ring_at → ⊥) × ((x : ℕ) → i ≡ pair_cell b next_at x → ⊥) × ((x : ℕ) → i ≡ pair_cell b prev_at x → ⊥)

  pub plain_off : (f x : ℕ) → Plain f → Off (pair_cell b f x)
  plain_off f x (inl h) = ((λ e. omega arith), (λ y e. omega arith), (λ y e. omega arith))
  plain_off f x (inr h) = ((λ e. omega arith), (λ y e. omega arith), (λ y e. omega arith))

  -- a word of one pair is no word of another
  pub other_cell : (f g p x : ℕ) → Plain f → g < pair_words → (x ≡ p → ⊥) → pair_cell b f x ≡ pair_cell b g p → ⊥
  other_cell f g p x h k ne e = ne (omega (arith, plain_in f h))

  pub header_off : (h : ℕ) → 0 < h → h < header_words → Off (b + h)
  header_off h k l = ((λ e. omega arith), (λ y e. omega arith), (λ y e. omega arith))

  -- such a word stays when a pair leaves the ring or joins it
  pub leaves_off : (p i : ℕ) (t : List ℕ) → Off i → get_or (leaves b p t) i 0 ≡ get_or t i 0
  unfolding unlinked_at
  leaves_off p i t o = unlinked_keeps (b + ring_at) (field_at b next_at) (field_at b prev_at) pair_words p i t (by (eqb q p))
    where
      q : ℕ
      q = prev (b + ring_at) (field_at b next_at) (field_at b prev_at) pair_words t p

      n : ℕ
      n = next (b + ring_at) (field_at b next_at) (field_at b prev_at) pair_words t p

      by : (c : Bool) → NotIn i (cond c ((b + ring_at) ∷ []) (pair_cell b next_at q ∷ pair_cell b prev_at n ∷ (b + ring_at) ∷ []))
      by true = (o.0, tt)
      by false = (o.1 q, (o.2 n, (o.0, tt)))

  pub leaves_length : (p : ℕ) (t : List ℕ) → length (leaves b p t) ≡ length t
  leaves_length p t = unlinked_length (b + ring_at) (field_at b next_at) (field_at b prev_at) pair_words p t

  pub joins_length : (p : ℕ) (t : List ℕ) → length (joins b p t) ≡ length t
  joins_length p t = linked_length (b + ring_at) (field_at b next_at) (field_at b prev_at) pair_words p t

  pub joins_off : (p i : ℕ) (t : List ℕ) → Off i → get_or (joins b p t) i 0 ≡ get_or t i 0
  unfolding linked_at
  joins_off p i t o = linked_keeps (b + ring_at) (field_at b next_at) (field_at b prev_at) pair_words p i t (by (eqb h nowhere))
    where
      h : ℕ
      h = ring_head b t

      q : ℕ
      q = prev (b + ring_at) (field_at b next_at) (field_at b prev_at) pair_words t h

      by : (c : Bool)
          → NotIn i
          (cond c (pair_cell b next_at p ∷ pair_cell b prev_at p ∷ (b + ring_at) ∷ [])
          (pair_cell b prev_at h ∷ pair_cell b next_at q ∷ pair_cell b next_at p ∷ pair_cell b prev_at p ∷ []))
      by true = (o.1 p, (o.2 p, (o.0, tt)))
      by false = (o.2 h, (o.1 q, (o.1 p, (o.2 p, tt))))

  -- the links of a level's pairs are words apart
  pub links_apart : (pairs long : ℕ) → pairs ≤ 2 ^ 32 → b + level_words pairs ≤ long → Apart (b + ring_at) (field_at b next_at) (field_at b prev_at) pair_words pairs long
  links_apart pairs long few fits = record {
    stepped = omega arith;
    few = omega arith;
    head_in = omega arith;
    next_in_lem = λ x i. omega arith;
    prev_in = λ x i. omega arith;
    links = λ x y i j e. omega arith;
    head_next = λ x i e. omega arith;
    head_prev = λ x i e. omega arith;
  }

-- pairs say the same where their words do
module _ (b b' : ℕ) (t t' : List ℕ) where
  pub ent_same : (p : ℕ) → ((f : ℕ) → Plain f → get_or t' (pair_cell b' f p) 0 ≡ get_or t (pair_cell b f p) 0) → ent_of b' t' p ≡ ent_of b t p
  ent_same p same =
      let low : (f : ℕ) → f < next_at → get_or t' (pair_cell b' f p) 0 ≡ get_or t (pair_cell b f p) 0 = λ f h. same f (inl h) in
      λ j. record {
        tag = low tag_at (omega arith) j;
        chunk = low chunk_at (omega arith) j;
        off = low off_at (omega arith) j;
        left = low left_at (omega arith) j;
        right = low right_at (omega arith) j;
        up = same up_at (inr refl) j;
      }

  pub pair_same : (p : ℕ) → get_or t' (b' + used_at) 0 ≡ get_or t (b + used_at) 0 → (p < get_or t (b + used_at) 0 → ent_of b' t' p ≡ ent_of b t p) → pair_in b' t' p ≡ pair_in b t p
  pair_same p e same = by (lt_or_le p (get_or t (b + used_at) 0))
    where
      by : (p < get_or t (b + used_at) 0) ⊎ (get_or t (b + used_at) 0 ≤ p) → pair_in b' t' p ≡ pair_in b t p
      by (inl h) = rw (e, lt-ltb p (get_or t (b + used_at) 0) h) (same h)
      by (inr h) = rw (e, le-ltb p (get_or t (b + used_at) 0) h)

-- what a pair says by itself, and nothing
module _ (b : ℕ) (t : List ℕ) (p : ℕ) where
  pub pair_used : p < get_or t (b + used_at) 0 → pair_in b t p ≡ ent_of b t p
  pair_used h = rw (lt-ltb p (get_or t (b + used_at) 0) h)

  pub pair_unused : get_or t (b + used_at) 0 ≤ p → pair_in b t p ≡ no_pair
  pair_unused h = rw (le-ltb p (get_or t (b + used_at) 0) h)

  -- a pair that has a tag is one that was ever used
  pub tagged_used : 0 < (pair_in b t p).tag → p < get_or t (b + used_at) 0
  tagged_used h = by (lt_or_le p (get_or t (b + used_at) 0))
    where
      by : (p < get_or t (b + used_at) 0) ⊎ (get_or t (b + used_at) 0 ≤ p) → p < get_or t (b + used_at) 0
      by (inl k) = k
      by (inr k) = absurd (omega (arith, ap (λ (e : Ent). e.tag) (pair_unused k)))
