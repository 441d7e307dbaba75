-- What the code of a level's test shows: each turn of its walk, and each of its answers.
use Rattle.std.proofs.Common.{◌≡◌, ℕ, zero, suc, ◌+◌, ◌-◌, ◌<◌, ◌≤◌, Bool, true, false, not, ◌&&◌, ◌||◌, eqb, leb, List, get_or, sym, refl, ap, ◌∙◌, sub-one, arith, le-leb}
use borrow.Author.Tests.{eqb-false, lt-leb}
use Rattle.lists.proofs.Bools.{true_false}
use Rattle.slabs.specs.Slab.{nowhere, place_of}
use Rattle.slabs.specs.Test.{off_chain}
use Rattle.slabs.proofs.Steps.{or_no_left, or_no_right}
use Rattle.slabs.proofs.OffChain.{off_leads}
use Rattle.ring_rules.specs.Test.{ring_length}
use Rattle.ring_rules.proofs.Decides.{ring_length_most}
use Rattle.buddy_rules.specs.Level.{ring_at, used_at, vacated_at, next_at, prev_at, pair_words, field_at, ring_head, slab_in, vacant_in, vacant_after}
use Rattle.buddy_rules.specs.LevelTest.{along, ready_in, ready_after, ringed, in_use, level_ok}

-- of a row of tests one of two in the middle fails
torn : (a i r c : Bool) → (i || r) ≡ true → (a && (not i && (not r && c))) ≡ false
torn false i r c o = refl
torn true true r c o = refl
torn true false true c o = refl
torn true false false c o = absurd (true_false false o refl)

-- the walk, with k places to go from p on
module _ (f : ℕ → Bool) (next : ℕ → ℕ) (p k : ℕ) where
  turn : 0 < k → along f next p k ≡ (f p && along f next (next p) (k - 1))
  unfolding along
  turn o = by k o
    where
      by : (k : ℕ) → 0 < k → along f next p k ≡ (f p && along f next (next p) (k - 1))
      by zero o = absurd (omega arith)
      by (suc k) o = simp sub-one

  pub along_none : 0 < k → f p ≡ false → along f next p k ≡ false
  along_none o e = turn o ∙ simp e

  pub along_on : (x : ℕ) → 0 < k → f p ≡ true → x ≡ next p → along f next p k ≡ along f next x (k - 1)
  along_on x o e q = turn o ∙ simp (e, q)

  pub along_done : k ≤ 0 → along f next p k ≡ true
  unfolding along
  along_done o = let z : k ≡ 0 = omega arith in rw z refl

-- u places were ever used and v was vacated last
pub used_is : (b : ℕ) (t : List ℕ) (u v i : ℕ) → u ≡ get_or t (b + used_at) 0 → v ≡ place_of (get_or t (b + vacated_at) 0) → i ≡ off_chain (vacant_in b t) (vacant_after b t) u v u → i ≡ in_use b t
unfolding in_use
used_is b t u v i d e f = f ∙ (λ j. off_chain (vacant_in b t) (vacant_after b t) (d j) (e j) (d j))

-- the whole test: u places were ever used
module _ (b pairs : ℕ) (t : List ℕ) (u : ℕ) (d : u ≡ get_or t (b + used_at) 0) where
  pub level_over : pairs < u → false ≡ level_ok b pairs t
  unfolding level_ok
  level_over h = sym (rw (← d, lt-leb u pairs h))

  -- i of them are in use and r stand in the ring
  module _ (i r : ℕ) (e : i ≡ in_use b t) (f : r ≡ ring_length (b + ring_at) (field_at b next_at) (field_at b prev_at) pair_words u t) where
    pub rung : r ≡ ringed b t
    rung = f ∙ ap (λ (w : ℕ). ring_length (b + ring_at) (field_at b next_at) (field_at b prev_at) pair_words w t) d

    pub level_torn : (eqb i nowhere || eqb r nowhere) ≡ true → false ≡ level_ok b pairs t
    unfolding level_ok
    level_torn o = sym (rw (← e, ← rung) (torn (leb (get_or t (b + used_at) 0) pairs) (eqb i nowhere) (eqb r nowhere) _ o))

    module _ (few : u ≤ pairs) (o : (eqb i nowhere || eqb r nowhere) ≡ false) where
      pub level_all : (x : ℕ) (a : Bool) → x ≡ ring_head b t → a ≡ along (ready_in b t) (ready_after b t) x r → a ≡ level_ok b pairs t
      unfolding level_ok
      level_all x a g h = h ∙ sym (rw (← e, ← rung, ← d, ← g, le-leb u pairs few, or_no_left (eqb i nowhere) (eqb r nowhere) o, or_no_right (eqb i nowhere) (eqb r nowhere) o))

      pub used_few : i ≤ pairs
      unfolding in_use
      used_few =
          let some : in_use b t ≡ nowhere → ⊥ = λ z. eqb-false i nowhere (or_no_left (eqb i nowhere) (eqb r nowhere) o) (e ∙ z) in
          omega (arith, e, d, (off_leads (vacant_in b t) (vacant_after b t) (get_or t (b + used_at) 0) (slab_in b t).vacant (get_or t (b + used_at) 0) some).0)

      pub ready_few : r ≤ pairs
      ready_few =
          let some : ringed b t ≡ nowhere → ⊥ = λ z. eqb-false r nowhere (or_no_right (eqb i nowhere) (eqb r nowhere) o) (rung ∙ z) in
          omega (arith, rung, d, ring_length_most (b + ring_at) (field_at b next_at) (field_at b prev_at) pair_words (get_or t (b + used_at) 0) t some)
