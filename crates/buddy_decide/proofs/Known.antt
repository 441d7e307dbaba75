-- The memories of the chunks held, place by place: whether one that comes is known.
use mathlib.Core.Path.{◌≡◌, refl, sym, ap, ◌∙◌}
use mathlib.Core.Bool.{Bool, true, false, cond, ◌&&◌, ◌||◌, not}
use mathlib.Core.List.{List, [], ◌∷◌, ◌++◌}
use Prim.Native.Nat.{ℕ, zero, suc, ◌+◌, ◌<◌}
use native.Mathlib.Numerals.{add-one}
use lib.Dec.{eqb, ltb}
use lib.ListN.{get_or}
use borrow.Author.Tests.{lt-ltb}
use Rattle.words.specs.Words.{cell_of}
use Rattle.counter.specs.Open.{OpenOrder}
use Rattle.counter.specs.declared.answers.Memory.{Memory}
use Rattle.counter.specs.declared.answers.Outcome.{Outcome}
use Rattle.counter.specs.declared.answers.Outcome.TheVariants as O
use Rattle.store_rules.specs.Arrivals.{Arrival}
use Rattle.store_rules.specs.Delivery.{buddy, holds}
use Rattle.store.specs.Comings.{known_in, comes}
use Rattle.store.proofs.Comes.{comes_is}
use Rattle.buddy_levels.specs.Seen.{level_part}
use Rattle.buddy_rules.specs.Tables.{Tables, chunk_places_at, chunk_words, memory_at, chunk_size_at, memory_in, held_in, memories}
use Rattle.buddy_outcomes.specs.Deliver.{decide_deliver}

-- ---- they are read off the chunks alone

module _ (t u : Tables) (e : t.chunks ≡ u.chunks) where
  pub held_same : (c : ℕ) → held_in t c ≡ held_in u c
  held_same c j = ltb c (get_or (e j) chunk_places_at 0) && not (eqb (get_or (e j) (cell_of chunk_size_at chunk_words c) 0) 0)

  pub memories_same : (c : ℕ) → memories t c ≡ memories u c
  unfolding memories
  memories_same zero = refl
  memories_same (suc c) = λ j. memories_same c j ++ cond (held_same c j) (get_or (e j) (cell_of memory_at chunk_words c) 0 ∷ []) []

-- ---- the next place

holds_append : (m : ℕ) (xs ys : List ℕ) → holds m (xs ++ ys) ≡ (holds m xs || holds m ys)
holds_append m [] ys = refl
holds_append m (x ∷ xs) ys = next (eqb x m) (holds m xs) (holds m ys) (holds_append m xs ys)
  where
    next : (a b d : Bool) {y : Bool} → y ≡ (b || d) → (a || y) ≡ ((a || b) || d)
    next true b d e = refl
    next false b d e = e

module _ (chunks : List ℕ) where
  abbrev pub seen : Tables
  seen = level_part 0 chunks []

  module _ (c v : ℕ) (below : c < get_or chunks chunk_places_at 0) (read : v ≡ get_or chunks (cell_of chunk_size_at chunk_words c) 0) where
    pub held_is : held_in seen c ≡ not (eqb v 0)
    held_is = rw (lt-ltb c (get_or chunks chunk_places_at 0) below, read) refl

    pub held_next : (m w : ℕ) (b : Bool) → b ≡ holds m (memories seen c) → w ≡ get_or chunks (cell_of memory_at chunk_words c) 0
        → (b || (not (eqb v 0) && eqb w m)) ≡ holds m (memories seen (c + 1))
    unfolding memories
    held_next m w b e f =
        rw (add-one c)
        ((λ j. e j || own (not (eqb v 0)) j)
        ∙ (λ j. holds m (memories seen c) || holds m (cond (sym held_is j) (f j ∷ []) []))
        ∙ sym (holds_append m (memories seen c) (cond (held_in seen c) (memory_in seen c ∷ []) [])))
      where
        own : (x : Bool) → (x && eqb w m) ≡ holds m (cond x (w ∷ []) [])
        own true = last (eqb w m)
          where
            last : (y : Bool) → y ≡ (y || false)
            last true = refl
            last false = refl
        own false = refl

-- ---- of the whole store

pub known_made : (n : ℕ) (chunks : List ℕ) → n ≡ get_or chunks chunk_places_at 0 → (r : Bool) (o : Outcome) (d : Memory) → o ≡ O.Made d → r ≡ holds d.number (memories (seen chunks) n)
    → r ≡ known_in (memories (seen chunks) (get_or chunks chunk_places_at 0)) o
known_made n chunks is r o d e g =
    g
    ∙ ap (λ (m : ℕ). holds d.number (memories (seen chunks) m)) is
    ∙ ap (known_in (memories (seen chunks) (get_or chunks chunk_places_at 0))) (sym e)

pub delivery_is : (o : Outcome) (order : OpenOrder) (ms : List ℕ) (known : Bool) (p : Arrival) → known ≡ known_in ms o → p ≡ comes buddy o known order → p ≡ decide_deliver o ms order
delivery_is o order ms known p k g = g ∙ ap (λ (b : Bool). comes buddy o b order) k ∙ comes_is buddy o ms order
