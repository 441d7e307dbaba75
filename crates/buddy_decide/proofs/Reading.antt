-- The definitions of an ask read no more than the code of the search is given.
use mathlib.Core.Path.{◌≡◌, refl, sym, ap, ◌∙◌}
use mathlib.Core.Bool.{Bool, true, false, cond, ◌&&◌}
use mathlib.Core.List.{List, []}
use Prim.Native.Nat.{ℕ, zero, suc, ◌-◌}
use lib.Dec.{eqb}
use lib.ListN.{get_or}
use Rattle.lists.proofs.Bools.{true_false}
use Rattle.counter.specs.declared.settings.BuddySettings.{BuddySettings}
use Rattle.slabs.specs.Slab as Slab
use Rattle.buddy_rules.specs.Level.{ring_head}
use Rattle.buddy_levels.specs.Seen.{part_settings, level_part}
use Rattle.buddy_rules.specs.Tables.{Tables, tables, levels_at, levels_in, level_from}
use Rattle.buddy_outcomes.specs.Ask.{at, grown_to, pair_room, pairs_room, search_from, order_bytes}
use Rattle.buddy_outcomes.specs.Ask as Ask
use Rattle.buddy_decide.specs.Sought.{yielded, sought}
use Rattle.buddy_decide.specs.declared.seeking.Found.{Found}
use Rattle.buddy_decide.specs.declared.seeking.Found.TheVariants.{At, Order}

pub pairs_read : (s : BuddySettings) (t : Tables) (l n : ℕ) → pairs_room (part_settings 0 s.pairs 0) (level_part (levels_in t) [] t.room) l n ≡ pairs_room s t l n
unfolding pairs_room
pairs_read s t l zero = refl
pairs_read s t l (suc n) = ap (λ (b : Bool). pair_room s t l && b) (pairs_read s t (suc l) n)

search_read : (s : BuddySettings) (t : List ℕ) (l n : ℕ) → search_from (part_settings s.minimal s.pairs 0) t l n ≡ search_from s t l n
unfolding search_from
search_read s t l zero = refl
search_read s t l (suc n) = ap (λ (f : Ask.Found). cond (eqb (ring_head (level_from s l) t) Slab.nowhere) f (at l)) (search_read s t (suc l) n)

-- ---- what the search yields says where it ended

abbrev is_at : Found → Bool
is_at (At p l) = true
is_at (Order z n) = false

-- its two numbers
abbrev one : Found → ℕ
one (At p l) = p
one (Order z n) = z

abbrev two : Found → ℕ
two (At p l) = l
two (Order z n) = n

module _ (minimal pairs level levels : ℕ) (tree : List ℕ) where
  at_is : (f : Ask.Found) (p i : ℕ) → At p i ≡ yielded minimal pairs level levels tree f → (f ≡ at i) × (p ≡ ring_head (level_from (part_settings minimal pairs 0) i) tree)
  at_is Ask.nowhere p i e = absurd (true_false true refl (ap is_at e))
  at_is (at j) p i e =
      let same : j ≡ i = sym (ap two e) in
      (ap at same, ap one e ∙ ap (λ (x : ℕ). ring_head (level_from (part_settings minimal pairs 0) x) tree) same)

  order_is : (f : Ask.Found) (z n : ℕ) → Order z n ≡ yielded minimal pairs level levels tree f
      → (f ≡ Ask.nowhere) × (z ≡ order_bytes (part_settings minimal pairs 0) level (level_part levels [] tree)) × (n ≡ grown_to level (level_part levels [] tree))
  order_is Ask.nowhere z n e = (refl, ap one e, ap two e)
  order_is (at j) z n e = absurd (true_false true refl (sym (ap is_at e)))

module _ (s : BuddySettings) (level : ℕ) (head tree : List ℕ) (levels : ℕ) (r : Found) (d : levels ≡ get_or head levels_at 0) (e : r ≡ sought s.minimal s.pairs level levels tree) where
  abbrev found : Ask.Found
  found = search_from (part_settings s.minimal s.pairs 0) tree level (levels - level)

  same : found ≡ search_from s tree level (get_or head levels_at 0 - level)
  same = search_read s tree level (levels - level) ∙ ap (λ (n : ℕ). search_from s tree level (n - level)) d

  pub sought_at : (p i : ℕ) → r ≡ At p i → (search_from s tree level (get_or head levels_at 0 - level) ≡ at i) × (p ≡ ring_head (level_from s i) tree)
  unfolding sought
  sought_at p i f =
      let k = at_is s.minimal s.pairs level levels tree found p i (sym f ∙ e) in
      (sym same ∙ k.0, k.1)

  pub sought_order : (z n : ℕ) → r ≡ Order z n
      → (search_from s tree level (get_or head levels_at 0 - level) ≡ Ask.nowhere) × (z ≡ order_bytes s level (tables head [] [] [] [])) × (n ≡ grown_to level (tables head [] [] [] []))
  unfolding sought
  sought_order z n f =
      let o = order_is s.minimal s.pairs level levels tree found z n (sym f ∙ e) in
      (sym same ∙ o.0, o.1 ∙ ap (λ (n : ℕ). order_bytes (part_settings s.minimal s.pairs 0) level (level_part n [] tree)) d, o.2 ∙ ap (λ (n : ℕ). grown_to level (level_part n [] tree)) d)
