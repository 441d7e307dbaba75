-- "Acquire takes the head pair's ready side": the head leaves the ring exhausted. The level stays good, and no other pair says
-- anything else.
use mathlib.Core.Path.{◌≡◌, refl, ap, ◌∙◌}
use mathlib.Core.Logic.{inl}
use mathlib.Core.List.{List}
use Prim.Native.Nat.{ℕ, ◌+◌, ◌^◌, ◌≤◌, ◌<◌}
use native.Mathlib.Omega.{arith}
use lib.ListN.{length, get_or}
use Rattle.slabs.specs.Slab.{nowhere}
use Rattle.buddy_rules.specs.Nodes.{Ent, Side, L, R}
use Rattle.buddy_rules.specs.Levels.{side_of, filled}
use Rattle.buddy_rules.specs.Level.{used_at, pair_words, tag_at, level_words, pair_cell, ent_of, pair_in, ring_head, leaves, acquired, Good}
use Rattle.buddy_rules.proofs.Stores.{puts, length_puts}
use Rattle.buddy_rules.proofs.Rows.{tag_row, acquired_puts}
use Rattle.buddy_rules.proofs.Cells.{Off, leaves_off, leaves_length, pair_used}
use Rattle.buddy_rules.proofs.Rings.{good_both, used_below, head_mem, left_ring}
use Rattle.buddy_rules.proofs.Stored.{sided, links, used, other, tag, parted, others, here}

filled_sided : (s : Side) (w : ℕ) (e : Ent) → sided 1 s w e ≡ filled s w e
filled_sided L w e = refl
filled_sided R w e = refl

module _ (b w : ℕ) (t : List ℕ) where
  -- the pair, its ready side, and the table when it has left the ring
  abbrev p : ℕ
  p = ring_head b t

  abbrev s : Side
  s = side_of (ent_of b t p).tag

  abbrev u : List ℕ
  u = leaves b p t

  kept : (i : ℕ) → Off b i → get_or u i 0 ≡ get_or t i 0
  kept i o = leaves_off b p i t o

  long : length u ≡ length t
  long = leaves_length b p t

  pub acquired_length : length (acquired b w t) ≡ length t
  acquired_length = ap length (acquired_puts b w t) ∙ length_puts u (tag_row b p 1 s w) ∙ long

  module _ (pairs : ℕ) (fits : b + level_words pairs ≤ length t) (G : Good b pairs t) (some : ring_head b t ≡ nowhere → ⊥) where
    in_use_lem : p < get_or t (b + used_at) 0
    in_use_lem = G.below p (head_mem b pairs t G some)

    inside : pair_cell b pair_words p ≤ length t
    inside = omega (arith, used_below b pairs t G p in_use_lem)

    ready : 1 < (ent_of b t p).tag
    ready = G.ready p (head_mem b pairs t G some)

    pub head_ready : 1 < (pair_in b t p).tag
    head_ready = rw (pair_used b t p in_use_lem) ready

    pub acquired_good : pairs ≤ 2 ^ 32 → Good b pairs (acquired b w t)
    acquired_good few =
        rw (acquired_puts b w t)
        (good_both b pairs (puts u (tag_row b p 1 s w))
        (left_ring b pairs t G few fits p (puts u (tag_row b p 1 s w))
        (used b p 1 s w t u kept long)
        (λ x ne. other b p 1 s w t u kept long x ne tag_at (inl (omega arith)))
        (head_mem b pairs t G some)
        (links b p 1 s w t u kept long)
        (omega (arith, tag b p 1 s w t u kept long inside)))
        (parted b p 1 s w t u kept long pairs inside (omega arith) (omega (arith, ready)) G.parted))

    pub acquired_here : pair_in b (acquired b w t) p ≡ filled (side_of (pair_in b t p).tag) w (pair_in b t p)
    acquired_here =
        rw (acquired_puts b w t, pair_used b t p in_use_lem)
        (pair_used b (puts u (tag_row b p 1 s w)) p (rw (used b p 1 s w t u kept long) in_use_lem)
        ∙ here b p 1 s w t u kept long inside
        ∙ filled_sided s w (ent_of b t p))

    pub acquired_other : (x : ℕ) → (x ≡ p → ⊥) → pair_in b (acquired b w t) x ≡ pair_in b t x
    acquired_other x ne = rw (acquired_puts b w t) (others b p 1 s w t u kept long x ne)
