-- "A returned side of an exhausted pair joins the ring before the head": the pair is ready there. The level stays good, and no
-- other pair says anything else.
use mathlib.Core.Path.{◌≡◌, refl, ap, ◌∙◌}
use mathlib.Core.Logic.{inl}
use mathlib.Core.List.{List}
use Prim.Native.Nat.{ℕ, ◌+◌, ◌^◌, ◌≤◌, ◌<◌}
use native.Mathlib.Omega.{arith}
use lib.ListN.{length, get_or}
use Rattle.buddy_rules.specs.Nodes.{Ent, Side, L, R}
use Rattle.buddy_rules.specs.Levels.{readied}
use Rattle.buddy_rules.specs.Level.{used_at, pair_words, tag_at, ready_tag, level_words, pair_cell, ent_of, pair_in, joins, backed, Good}
use Rattle.buddy_rules.proofs.Stores.{puts, length_puts}
use Rattle.buddy_rules.proofs.Rows.{tag_row, backed_puts}
use Rattle.buddy_rules.proofs.Cells.{Off, joins_off, joins_length, pair_used, tagged_used}
use Rattle.buddy_rules.proofs.Rings.{good_both, used_below, joined_ring}
use Rattle.buddy_rules.proofs.Stored.{sided, links, used, other, tag, parted, others, here}

readied_sided : (s : Side) (e : Ent) → sided (ready_tag s) s 0 e ≡ readied s e
readied_sided L e = refl
readied_sided R e = refl

ready_tag_lem : (s : Side) → 1 < ready_tag s
ready_tag_lem L = omega arith
ready_tag_lem R = omega arith

module _ (b p : ℕ) (s : Side) (t : List ℕ) where
  -- the table when the pair has joined the ring
  abbrev u : List ℕ
  u = joins b p t

  kept : (i : ℕ) → Off b i → get_or u i 0 ≡ get_or t i 0
  kept i o = joins_off b p i t o

  long : length u ≡ length t
  long = joins_length b p t

  pub backed_length : length (backed b p s t) ≡ length t
  backed_length = ap length (backed_puts b p s t) ∙ length_puts u (tag_row b p (ready_tag s) s 0) ∙ long

  module _ (pairs : ℕ) (fits : b + level_words pairs ≤ length t) (G : Good b pairs t) (one : (pair_in b t p).tag ≡ 1) where
    in_use_lem : p < get_or t (b + used_at) 0
    in_use_lem = tagged_used b t p (omega arith)

    inside : pair_cell b pair_words p ≤ length t
    inside = omega (arith, used_below b pairs t G p in_use_lem)

    exhausted : (ent_of b t p).tag ≡ 1
    exhausted = rw (pair_used b t p in_use_lem) at one

    pub backed_good : pairs ≤ 2 ^ 32 → Good b pairs (backed b p s t)
    backed_good few =
        rw (backed_puts b p s t)
        (good_both b pairs (puts u (tag_row b p (ready_tag s) s 0))
        (joined_ring b pairs t G few fits p (puts u (tag_row b p (ready_tag s) s 0))
        (used b p (ready_tag s) s 0 t u kept long)
        (λ x ne. other b p (ready_tag s) s 0 t u kept long x ne tag_at (inl (omega arith)))
        in_use_lem (omega (arith, exhausted))
        (links b p (ready_tag s) s 0 t u kept long)
        (omega (arith, tag b p (ready_tag s) s 0 t u kept long inside, ready_tag_lem s)))
        (parted b p (ready_tag s) s 0 t u kept long pairs inside (omega (arith, ready_tag_lem s)) (omega (arith, exhausted)) G.parted))

    pub backed_here : pair_in b (backed b p s t) p ≡ readied s (pair_in b t p)
    backed_here =
        rw (backed_puts b p s t, pair_used b t p in_use_lem)
        (pair_used b (puts u (tag_row b p (ready_tag s) s 0)) p (rw (used b p (ready_tag s) s 0 t u kept long) in_use_lem)
        ∙ here b p (ready_tag s) s 0 t u kept long inside
        ∙ readied_sided s (ent_of b t p))

    pub backed_other : (x : ℕ) → (x ≡ p → ⊥) → pair_in b (backed b p s t) x ≡ pair_in b t x
    backed_other x ne = rw (backed_puts b p s t) (others b p (ready_tag s) s 0 t u kept long x ne)
