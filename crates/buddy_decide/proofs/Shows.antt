-- What the code of the search and of its looks for places shows: each turn, and each of its answers; and that of a return's test.
use mathlib.Core.Path.{◌≡◌, refl, sym, ap, ◌∙◌}
use mathlib.Core.Bool.{true, false, ◌&&◌}
use mathlib.Core.List.{List, []}
use Prim.Native.Nat.{ℕ, suc, ◌+◌, ◌-◌, max, ◌≤◌, ◌<◌}
use native.Mathlib.Omega.{arith}
use lib.Dec.{eqb}
use lib.ListN.{get_or}
use borrow.Author.Tests.{lt-ltb, le-ltb, lt-leb, le-leb, eq-eqb, ne_eqb}
use Rattle.counter.specs.Limits.{levels_most}
use Rattle.counter.specs.declared.answers.Block.{Block}
use Rattle.counter.specs.declared.settings.BuddySettings.{BuddySettings}
use Rattle.slabs.specs.Slab.{place_of, inserted}
use Rattle.slabs.specs.Slab as Slab
use Rattle.slabs.specs.declared.Taken.{Taken}
use Rattle.store_rules.specs.Loans.{places_at}
use Rattle.book_rules.specs.Returns as Returns
use Rattle.buddy_trees.specs.Trees.{bytes}
use Rattle.buddy_rules.specs.Level.{ring_head, pair_taken, level_start}
use Rattle.buddy_levels.specs.Seen.{part_settings, level_part}
use Rattle.buddy_rules.specs.Tables.{Tables, tables, chunk_places_at, after_at, place_words}
use Rattle.buddy_outcomes.specs.Ask.{at, pair_room, pairs_room, chunk_taken, search_from}
use Rattle.buddy_outcomes.specs.Ask as Ask
use Rattle.buddy_outcomes.specs.Return.{on_loan_ok, decide_return}
use Rattle.buddy_decide.specs.Sought.{yielded, sought}
use Rattle.buddy_decide.specs.declared.seeking.Found.TheVariants.{At, Order}

-- ---- the chunk place that is taken next

pub taken_is : (pairs : ℕ) (chunks tree : List ℕ) (places b v : ℕ) (r : Taken) → places ≡ get_or chunks chunk_places_at 0 → b ≡ level_start pairs levels_most → v ≡ place_of (get_or tree b 0)
    → r ≡ inserted (record { places = places; vacant = v }) tree (b + (place_words + after_at)) place_words → r ≡ chunk_taken (part_settings 0 pairs 0) (level_part 0 chunks tree)
taken_is pairs chunks tree places b v r c d e f =
    let g : v ≡ place_of (get_or tree (level_start pairs levels_most) 0) = e ∙ ap (λ (x : ℕ). place_of (get_or tree x 0)) d in
    f ∙ (λ j. inserted (record { places = c j; vacant = g j }) tree (d j + (place_words + after_at)) place_words)

-- ---- places for the pairs of n levels from this one on, i of which are passed

module _ (s : BuddySettings) (t : Tables) (level n i : ℕ) where
  turn : i < n → pairs_room s t (level + i) (n - i) ≡ (pair_room s t (level + i) && pairs_room s t (level + (i + 1)) (n - (i + 1)))
  unfolding pairs_room
  turn h =
      let e : n - i ≡ suc (n - (i + 1)) = omega arith in
      let f : level + (i + 1) ≡ suc (level + i) = omega arith in
      rw (e, f) refl

  pub pairs_done : n ≤ i → pairs_room s t (level + i) (n - i) ≡ true
  unfolding pairs_room
  pairs_done h = let e : n - i ≡ 0 = omega arith in rw e refl

module _ (pairs level n levels : ℕ) (tree : List ℕ) (i : ℕ) (more : i < n) where
  abbrev s : BuddySettings
  s = part_settings 0 pairs 0

  abbrev t : Tables
  t = level_part levels [] tree

  abbrev Here : Type 0
  Here = pairs_room s t (level + i) (n - i) ≡ pairs_room s t (level + (i + 1)) (n - (i + 1))

  -- the level is not there yet
  pub pairs_past : levels ≤ level + i → Here
  pairs_past h = turn s t level n i more ∙ rw (le-leb levels (level + i) h) refl

  module _ (there : level + i < levels) (b : ℕ) (r : Taken) (e : b ≡ level_start pairs (level + i)) (f : r ≡ pair_taken b tree) where
    abbrev same : (pair_taken (level_start pairs (level + i)) tree).place ≡ r.place
    same = ap (λ (x : Taken). x.place) (sym (f ∙ ap (λ (x : ℕ). pair_taken x tree) e))

    pub pairs_none : pairs ≤ r.place → pairs_room s t (level + i) (n - i) ≡ false
    pairs_none h = turn s t level n i more ∙ rw (lt-leb levels (level + i) there, same, le-ltb r.place pairs h) refl

    pub pairs_on : r.place < pairs → Here
    pairs_on h = turn s t level n i more ∙ rw (lt-leb levels (level + i) there, same, lt-ltb r.place pairs h) refl

-- ---- the search

module _ (minimal pairs level levels : ℕ) (tree : List ℕ) (l : ℕ) where
  -- what is found from level l on
  abbrev pub Onward : Ask.Found
  Onward = search_from (part_settings minimal pairs 0) tree l (levels - l)

  seek_done : levels ≤ l → Onward ≡ Ask.nowhere
  unfolding search_from
  seek_done h = let e : levels - l ≡ 0 = omega arith in rw e refl

  seek_turn : l < levels → Onward ≡ search_from (part_settings minimal pairs 0) tree l (suc (levels - (l + 1)))
  seek_turn h = let e : levels - l ≡ suc (levels - (l + 1)) = omega arith in ap (search_from (part_settings minimal pairs 0) tree l) e

  module _ (there : l < levels) (b w : ℕ) (d : b ≡ level_start pairs l) (e : w ≡ ring_head b tree) where
    abbrev head : ring_head (level_start pairs l) tree ≡ w
    head = sym (e ∙ ap (λ (x : ℕ). ring_head x tree) d)

    pub seek_on : w ≡ Slab.nowhere → Onward ≡ search_from (part_settings minimal pairs 0) tree (l + 1) (levels - (l + 1))
    unfolding search_from
    seek_on h =
        let f : l + 1 ≡ suc l = omega arith in
        let g : eqb (ring_head (level_start pairs l) tree) Slab.nowhere ≡ true = ap (λ (x : ℕ). eqb x Slab.nowhere) head ∙ eq-eqb w Slab.nowhere h in
        seek_turn there ∙ rw (f, g) refl

    seek_here : (w ≡ Slab.nowhere → ⊥) → Onward ≡ at l
    unfolding search_from
    seek_here h =
        let g : eqb (ring_head (level_start pairs l) tree) Slab.nowhere ≡ false = ap (λ (x : ℕ). eqb x Slab.nowhere) head ∙ ne_eqb w Slab.nowhere h in
        seek_turn there ∙ rw g refl

    pub seek_at : search_from (part_settings minimal pairs 0) tree level (levels - level) ≡ Onward → (w ≡ Slab.nowhere → ⊥) → At w l ≡ sought minimal pairs level levels tree
    unfolding sought
    seek_at inv h = sym (ap (yielded minimal pairs level levels tree) (inv ∙ seek_here h) ∙ ap (λ (x : ℕ). At x l) head)

  pub seek_none : search_from (part_settings minimal pairs 0) tree level (levels - level) ≡ Onward → levels ≤ l → (order top : ℕ) → top ≡ max levels (level + 1) → order ≡ bytes minimal top → Order order top ≡ sought minimal pairs level levels tree
  unfolding sought
  seek_none inv h order top f e =
      let g : order ≡ bytes minimal (max levels (level + 1)) = e ∙ ap (bytes minimal) f in
      (λ j. Order (g j) (f j)) ∙ sym (ap (yielded minimal pairs level levels tree) (inv ∙ seek_done h))

-- ---- a return

pub return_is : (s : BuddySettings) (b : Block) (loans index : List ℕ) (places : ℕ) (p : Returns.Plan) → places ≡ get_or loans places_at 0
    → p ≡ Returns.decide_return loans index s.store.loans places b → p ≡ decide_return s b (tables [] loans [] index [])
unfolding decide_return on_loan_ok
return_is s b loans index places p f d = d ∙ (λ j. Returns.decide_return loans index s.store.loans (f j) b)
