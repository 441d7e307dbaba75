-- The chunks held, counted place by place: how many, how many bytes.
use mathlib.Core.Path.{◌≡◌, refl, sym, ap, ◌∙◌}
use mathlib.Core.Bool.{Bool, true, false, cond, not}
use mathlib.Core.List.{List}
use Prim.Native.Nat.{ℕ, zero, suc, ◌+◌, ◌*◌, ◌^◌, ◌≤◌, ◌<◌}
use native.Mathlib.Omega.{arith}
use native.Mathlib.Numerals.{add-one}
use lib.Dec.{eqb}
use lib.ListN.{get_or}
use borrow.Author.Tests.{eqb-true, eq-eqb, ne_eqb}
use Rattle.words.specs.Words.{cell_of}
use Rattle.counter.specs.Limits.{minimal_bits, levels_most}
use Rattle.buddy_rules.specs.Tables.{Tables, chunk_places_at, chunk_words, chunk_size_at, chunk_size_in, held_in}
use Rattle.buddy_outcomes.specs.Gate.{held_count, held_bytes}
use Rattle.buddy_decide.proofs.Known.{held_same, seen, held_is}

-- ---- they are read off the chunks alone

module _ (t u : Tables) (e : t.chunks ≡ u.chunks) where
  pub count_same : (c : ℕ) → held_count t c ≡ held_count u c
  unfolding held_count
  count_same zero = refl
  count_same (suc c) = λ j. count_same c j + cond (held_same t u e c j) 1 0

  pub bytes_same : (c : ℕ) → held_bytes t c ≡ held_bytes u c
  unfolding held_bytes
  bytes_same zero = refl
  bytes_same (suc c) = λ j. bytes_same c j + cond (held_same t u e c j) (get_or (e j) (cell_of chunk_size_at chunk_words c) 0) 0

-- ---- how large they can be

pub count_low : (t : Tables) (c : ℕ) → held_count t c ≤ c
unfolding held_count
count_low t zero = omega arith
count_low t (suc c) = omega (arith, count_low t c, one (held_in t c))
  where
    one : (b : Bool) → cond b 1 0 ≤ 1
    one true = omega arith
    one false = omega arith

-- no node is longer
abbrev pub size_most : ℕ
size_most = 2 ^ (minimal_bits + levels_most)

pub bytes_low : (t : Tables) (n : ℕ) → ((c : ℕ) → c < n → chunk_size_in t c ≤ size_most) → (c : ℕ) → c ≤ n → held_bytes t c ≤ c * size_most
unfolding held_bytes
bytes_low t n f zero h = omega arith
bytes_low t n f (suc c) h = omega (arith, bytes_low t n f c (omega arith), one (held_in t c) (chunk_size_in t c) (f c (omega arith)))
  where
    one : (b : Bool) (x : ℕ) → x ≤ size_most → cond b x 0 ≤ size_most
    one true x g = g
    one false x g = omega arith

-- ---- the next place

module _ (chunks : List ℕ) where
  abbrev part : Tables
  part = seen chunks

  module _ (c v : ℕ) (below : c < get_or chunks chunk_places_at 0) (read : v ≡ get_or chunks (cell_of chunk_size_at chunk_words c) 0) where
    count_next : held_count part (c + 1) ≡ held_count part c + cond (held_in part c) 1 0
    unfolding held_count
    count_next = rw (add-one c) refl

    pub count_more : (count : ℕ) → count ≡ held_count part c → (v ≡ 0 → ⊥) → count + 1 ≡ held_count part (c + 1)
    count_more count e f =
        let k : held_in part c ≡ true = held_is chunks c v below read ∙ ap not (ne_eqb v 0 f) in
        (λ j. e j + cond (sym k j) 1 0) ∙ sym count_next

    pub count_none : (count : ℕ) → count ≡ held_count part c → v ≡ 0 → count ≡ held_count part (c + 1)
    count_none count e f =
        let k : held_in part c ≡ false = held_is chunks c v below read ∙ ap not (eq-eqb v 0 f) in
        let z : count ≡ count + 0 = omega arith in
        z ∙ (λ j. e j + cond (sym k j) 1 0) ∙ sym count_next

    -- a vacant place has no bytes
    pub bytes_next : (sum : ℕ) → sum ≡ held_bytes part c → sum + v ≡ held_bytes part (c + 1)
    unfolding held_bytes
    bytes_next sum e =
        rw (add-one c) ((λ j. e j + own (eqb v 0) refl j) ∙ (λ j. held_bytes part c + cond (sym (held_is chunks c v below read) j) (read j) 0))
      where
        own : (b : Bool) → eqb v 0 ≡ b → v ≡ cond (not b) v 0
        own true d = eqb-true v 0 d
        own false d = refl
