-- The rings of a buddy store's levels over its calls: what an ask that lends and a return that is taken leave of each.
use mathlib.Core.Path.{◌≡◌, refl, sym, ap, subst, ◌∙◌}
use mathlib.Core.Bool.{true}
use mathlib.Core.Logic.{◌⊎◌, ⊎_elim}
use mathlib.Core.List.{List, [], ◌∷◌, ◌++◌}
use Prim.Native.Nat.{ℕ, suc, ◌+◌, ◌-◌, ◌/◌, ◌≤◌, ◌<◌}
use native.Mathlib.Omega.{arith}
use lib.ListN.{set}
use borrow.Author.Tests.{eq-eqb, ne_eqb}
use Rattle.lists.specs.Members.{NotIn}
use Rattle.lists.proofs.Bools.{told}
use Rattle.lists.proofs.Members.{mem_left, mem_not, distinct_out}
use Rattle.rounding_rules.specs.Raising.{level_of}
use Rattle.counter.specs.InTable.{BuddyIn}
use Rattle.counter.specs.Limits.{levels_most}
use Rattle.counter.specs.Paper as Paper
use Rattle.counter.specs.declared.account.Account.{Account}
use Rattle.counter.specs.declared.answers.Block.{Block}
use Rattle.counter.specs.declared.settings.BuddySettings.{BuddySettings}
use Rattle.slabs.specs.Slab.{nowhere}
use Rattle.store_rules.specs.Outcomes.{Out, Listed, list_ok}
use Rattle.store_rules.proofs.Said.{not_refused}
use Rattle.book_rules.specs.Book.{taken_of, led_to}
use Rattle.buddy_trees.specs.Trees.{up}
use Rattle.buddy_rules.specs.Nodes.{other, word}
use Rattle.buddy_rules.specs.Levels.{base_of}
use Rattle.buddy_rules.specs.Level.{pair_taken, acquired}
use Rattle.buddy_rules.specs.Ringed.{Ringed, out_of, tail_of}
use Rattle.buddy_rules.proofs.Ringed.{ringed_one, out_of_lem, part_ringed, ringed_part}
use Rattle.buddy_rules.specs.Moves.{side_in, Cut, split_down, ready_node, climbed}
use Rattle.buddy_rules.specs.Rings.{Rings, rings_lent, rings_back}
use Rattle.buddy_rules.specs.Sound.{Sound}
use Rattle.buddy_rules.specs.Tables.{Tables, Lengths, levels_in, places_in, level_from, pairs_in, node_of_loan, chunks_from, loan_in}
use Rattle.buddy_rules.proofs.Ringing.{rings_of, sound_rings, lent_here, lent_new, lent_other, back_joins, back_here, back_below, loan_under, climbed_rings, lent_rings}
use Rattle.buddy_outcomes.specs.Ask as Ask
use Rattle.buddy_outcomes.specs.Ask.{Found, at, size_for, level_for, found_from, booked_tables, head_ent, taken_tables, ask_of}
use Rattle.buddy_outcomes.specs.Return.{word_for, on_loan_ok, climb_for, vacated_tree, given_tables, return_of}
use Rattle.buddy_outcomes.proofs.Changed.{few_pairs, part_set}
use Rattle.buddy_outcomes.proofs.Given as goal
use Rattle.buddy_outcomes.proofs.Lendings.{ask_served}
use Rattle.buddy_outcomes.proofs.Passing.{Passed}
use Rattle.buddy_outcomes.proofs.Plans.{Takes}
use Rattle.buddy_outcomes.proofs.Returned as Returned
use Rattle.buddy_outcomes.proofs.Returned.{ReturnComes, return_comes, given_tables_lem}
use Rattle.buddy_outcomes.proofs.Taken as Taken

-- a word past the levels changes no ring
ringed_set : (s : BuddySettings) (l j v : ℕ) (t R : List ℕ) → l < levels_most → chunks_from s ≤ j → Ringed (level_from s l) s.pairs t R → Ringed (level_from s l) s.pairs (set t j v) R
ringed_set s l j v t R h k r =
    ringed_part s.pairs l (set t j v) R (subst (λ (x : List ℕ). Ringed 0 s.pairs x R) (sym (part_set s l j v t h k)) (part_ringed s.pairs l t R r))

-- ---- an ask

module _ (s : BuddySettings) (t : Tables) where
  pub booked_levels : (c o size : ℕ) (cut : Cut) → levels_in (booked_tables s c o size cut t) ≡ levels_in t
  unfolding booked_tables
  booked_levels c o size cut = refl

  -- a loan entered in the book leaves the rings that the tree has then
  pub booked_rings : (c o size : ℕ) (cut : Cut) (Q : ℕ → List ℕ) → ((l : ℕ) → l < levels_in t → Ringed (level_from s l) s.pairs cut.room (Q l)) → Rings s (booked_tables s c o size cut t) Q
  unfolding booked_tables
  booked_rings c o size cut Q r = r

module _ (s : BuddySettings) (t : Tables) (fit : BuddyIn s) (lengths : Lengths s t) (sound : Sound s t) (size mask i : ℕ) (w : Takes s size mask t i) (W : ℕ → List ℕ) (rings : Rings s t W) where
  abbrev lev : ℕ
  lev = level_for s size mask

  -- where the new pairs stand
  abbrev new_places : ℕ → ℕ
  new_places j = (pair_taken (level_from s j) t.room).place

  abbrev tables_at : ℕ → ℕ → Tables
  tables_at x n =
      booked_tables s (head_ent s t x).chunk (base_of s.minimal (head_ent s t x) x) (size_for s size mask)
      (split_down s.pairs lev (head_ent s t x).chunk (base_of s.minimal (head_ent s t x) x) (taken_of (places_in t) t.index).place (ready_node s.pairs x t.room) n (acquired (level_from s x) 0 t.room)) t

  pub taken_rings : Rings s (taken_tables s (size_for s size mask) (level_for s size mask) t i) (rings_lent (λ (j : ℕ). (pair_taken (level_from s j) t.room).place) (level_for s size mask) i W)
  unfolding taken_tables
  taken_rings =
      let f = Taken.first s t fit lengths sound size mask i w.found w.aligned w.sized w.room in
      let h = Taken.height s t fit lengths sound size mask i w.found w.aligned w.sized w.room in
      let p = Taken.pair s t fit lengths sound size mask i w.found w.aligned w.sized w.room in
      let d = i - lev in
      subst (λ (x : ℕ). Rings s (tables_at x (i - lev)) (rings_lent new_places lev x W)) h
      (booked_rings s t _ _ (size_for s size mask) _ (rings_lent new_places lev (up d lev) W)
      (lent_rings s (few_pairs s fit) t fit lengths sound W rings lev d (taken_of (places_in t) t.index).place (omega (arith, h, f.1)) (rw h f.2) p))

-- an ask that says a block: the level that the search found gives its head, each level below it down to the block's has a new pair
-- alone, and the other rings are as they were
pub ask_rings : (s : BuddySettings) (a : Account) (size mask : ℕ) (t : Tables) (serial chunk offset len : ℕ) → (ask_of s a size mask t).said ≡ Paper.block serial chunk offset len
    → (W : ℕ → List ℕ) → Rings s t W
    → (i : ℕ) × (found_from s (level_for s size mask) t ≡ at i) × Rings s (ask_of s a size mask t).tables (rings_lent (λ (j : ℕ). (pair_taken (level_from s j) t.room).place) (level_for s size mask) i W)
ask_rings s a size mask t serial chunk offset len q W rings =
    let v = ask_served s a size mask t serial chunk offset len q in
    let Q : ℕ → List ℕ = rings_lent (λ (j : ℕ). (pair_taken (level_from s j) t.room).place) (level_for s size mask) v.level W in (
      v.level,
      v.taken.found,
      subst (λ (u : Tables). Rings s u Q) (sym (ap (λ (r : Out Tables). r.tables) v.left))
          (taken_rings s t v.passed.lent.settings v.passed.lent.lengths v.passed.sound size mask v.level v.taken W rings),
    )

abbrev found_level : Found → ℕ
found_level Ask.nowhere = 0
found_level (at i) = i

-- the same, ring by ring
module _ (s : BuddySettings) (a : Account) (size mask : ℕ) (t : Tables) (serial chunk offset len : ℕ) (q : (ask_of s a size mask t).said ≡ Paper.block serial chunk offset len) where
  pub ask_levels : levels_in (ask_of s a size mask t).tables ≡ levels_in t
  unfolding taken_tables
  ask_levels =
      let v = ask_served s a size mask t serial chunk offset len q in
      ap (λ (r : Out Tables). levels_in r.tables) v.left ∙ booked_levels s t _ _ _ _

  -- i is the level that the search found
  module _ (i : ℕ) (found : found_from s (level_for s size mask) t ≡ at i) where
    -- level l had the ring R, and has what becomes of it
    now : (l : ℕ) → l < levels_in t → (R Q : List ℕ) → Ringed (level_from s l) s.pairs t.room R
        → ((W : ℕ → List ℕ) → W l ≡ R → rings_lent (λ (j : ℕ). (pair_taken (level_from s j) t.room).place) (level_for s size mask) i W l ≡ Q)
        → Ringed (level_from s l) s.pairs (ask_of s a size mask t).tables.room Q
    now l low R Q r f =
        let v = ask_served s a size mask t serial chunk offset len q in
        let S = v.passed.sound in
        let W = rings_of s t S in
        let W-rings = sound_rings s t S in
        let y = ask_rings s a size mask t serial chunk offset len q W W-rings in
        let z : y.0 ≡ i = ap found_level (sym y.1 ∙ found) in
        let e : W l ≡ R = ringed_one (level_from s l) s.pairs t.room (W l) R (few_pairs s v.passed.lent.settings) (W-rings l low) r in
        let g : rings_lent (λ (j : ℕ). (pair_taken (level_from s j) t.room).place) (level_for s size mask) y.0 W l ≡ Q =
        ap (λ (k : ℕ). rings_lent (λ (j : ℕ). (pair_taken (level_from s j) t.room).place) (level_for s size mask) k W l) z ∙ f W e in
        subst (Ringed (level_from s l) s.pairs (ask_of s a size mask t).tables.room) g (y.2 l (omega (arith, low, ask_levels)))

    between : (level_for s size mask ≤ i) × (i < levels_in t)
    between =
        let v = ask_served s a size mask t serial chunk offset len q in
        let w = v.taken in
        let z : v.level ≡ i = ap found_level (sym w.found ∙ found) in
        let f = Taken.first s t v.passed.lent.settings v.passed.lent.lengths v.passed.sound size mask v.level w.found w.aligned w.sized w.room in
        (omega (arith, z, f.0), omega (arith, z, f.1))

    -- "Acquire takes the head pair's ready side; the head becomes its next"
    pub ask_head : (p : ℕ) (R : List ℕ) → Ringed (level_from s i) s.pairs t.room (p ∷ R) → Ringed (level_from s i) s.pairs (ask_of s a size mask t).tables.room R
    unfolding tail_of
    ask_head p R r = now i between.1 (p ∷ R) R r (λ W e. lent_here _ (level_for s size mask) i W ∙ ap tail_of e)

    -- "The taken node is split down to the level, always keeping the left": on each level between a new pair, ready at its right, is the ring
    pub ask_split : (l : ℕ) → level_for s size mask ≤ l → l < i → Ringed (level_from s l) s.pairs (ask_of s a size mask t).tables.room ((pair_taken (level_from s l) t.room).place ∷ [])
    ask_split l h k =
        let S = (ask_served s a size mask t serial chunk offset len q).passed.sound in
        let low : l < levels_in t = omega (arith, between.1) in
        now l low (rings_of s t S l) ((pair_taken (level_from s l) t.room).place ∷ []) (sound_rings s t S l low) (λ W e. lent_new _ (level_for s size mask) i W l h k)

    -- every other ring stays
    pub ask_others : (l : ℕ) → l < levels_in t → (l < level_for s size mask) ⊎ (i < l) → (R : List ℕ) → Ringed (level_from s l) s.pairs t.room R → Ringed (level_from s l) s.pairs (ask_of s a size mask t).tables.room R
    ask_others l low h R r = now l low R R r (λ W e. lent_other _ (level_for s size mask) i W l between.0 h ∙ e)

-- ---- a return

-- the node of the block that comes back, and its level
abbrev pub node_back : BuddySettings → Block → Tables → ℕ
node_back s b t = node_of_loan s t (led_to t.index (word_for s b t))

abbrev pub level_back : BuddySettings → Block → ℕ
level_back s b = level_of b.size s.minimal

module _ (s : BuddySettings) (t : Tables) (fit : BuddyIn s) (lengths : Lengths s t) (sound : Sound s t) (b : Block) (on : on_loan_ok s b t ≡ true) (W : ℕ → List ℕ) (rings : Rings s t W) where
  abbrev Q : ℕ → List ℕ
  Q = rings_back (pairs_in s t) (levels_in t - level_back s b) (level_back s b) (node_back s b t) W

  abbrev k : ℕ
  k = led_to t.index (word_for s b t)

  -- the rings of the climb
  climb_left : (l : ℕ) → l < levels_in t → Ringed (level_from s l) s.pairs (climb_for s b (word_for s b t) t).room (Q l)
  climb_left l h =
      let e : (loan_in s t k).lev ≡ level_back s b = ap (λ (z : ℕ). level_of z s.minimal) (goal.says s t fit lengths sound b on).size in
      subst (λ (x : ℕ). Ringed (level_from s l) s.pairs (climbed s.pairs (levels_in t - x) x (node_back s b t) t.room).room (rings_back (pairs_in s t) (levels_in t - x) x (node_back s b t) W l)) e
      (climbed_rings s (few_pairs s fit) t fit lengths sound W rings k (goal.live s t fit lengths sound b on) l h)

  pub given_rings : Rings s (given_tables s b (word_for s b t) t) (rings_back (pairs_in s t) (levels_in t - level_back s b) (level_back s b) (node_back s b t) W)
  unfolding given_tables vacated_tree
  given_rings l h = ⊎_elim (λ f. rw f out) (λ f. rw f (climb_left l h)) (told (climb_for s b (word_for s b t) t).freed)
    where
      low : l < levels_most
      low = omega (arith, sound.levels_most_lem)

      out : Ringed (level_from s l) s.pairs (vacated_tree s b.chunk (climb_for s b (word_for s b t) t).room) (Q l)
      out = ringed_set s l _ _ _ (Q l) low (omega arith) (ringed_set s l _ _ _ (Q l) low (omega arith) (climb_left l h))

-- a return that is taken: on the way up from the block's node each pair whose twin is ready goes out of its ring, the last pair that
-- is met joins its ring, and the other rings are as they were
pub return_rings : (s : BuddySettings) (a : Account) (b : Block) (t : Tables) (list : List ℕ) (n : ℕ) → (return_of s a b t list).said ≡ Paper.released n
    → (W : ℕ → List ℕ) → Rings s t W
    → Rings s (return_of s a b t list).tables (rings_back (pairs_in s t) (levels_in t - level_back s b) (level_back s b) (node_back s b t) W)
return_rings s a b t list n q W rings = go (return_of s a b t list) (return_comes s a b t list) q
  where
    go : (r : Listed Tables) → ReturnComes s a b t list r → r.said ≡ Paper.released n → Rings s r.tables (rings_back (pairs_in s t) (levels_in t - level_back s b) (level_back s b) (node_back s b t) W)
    go _ (Returned.denied m) e = not_refused (Paper.released n) m [] refl (sym e)
    go _ (Returned.takes p on) e =
        subst (λ (u : Tables). Rings s u (rings_back (pairs_in s t) (levels_in t - level_back s b) (level_back s b) (node_back s b t) W)) (sym (given_tables_lem s a b t list (word_for s b t)))
        (given_rings s t p.lent.settings p.lent.lengths p.sound b on W rings)

-- the same, ring by ring: n is the node that the block is
module _ (s : BuddySettings) (a : Account) (b : Block) (t : Tables) (list : List ℕ) (m : ℕ) (q : (return_of s a b t list).said ≡ Paper.released m) where
  abbrev after : List ℕ
  after = (return_of s a b t list).tables.room

  abbrev n : ℕ
  n = node_back s b t

  abbrev high : ℕ
  high = level_back s b

  -- the store was sound, and the block on loan
  pub return_taken : Passed s a t (list_ok s.store list) × (on_loan_ok s b t ≡ true) × (levels_in (return_of s a b t list).tables ≡ levels_in t)
  unfolding given_tables
  return_taken = go (return_of s a b t list) (return_comes s a b t list) q
    where
      go : (r : Listed Tables) → ReturnComes s a b t list r → r.said ≡ Paper.released m → Passed s a t (list_ok s.store list) × (on_loan_ok s b t ≡ true) × (levels_in r.tables ≡ levels_in t)
      go _ (Returned.denied k) e = not_refused (Paper.released m) k [] refl (sym e)
      go _ (Returned.takes p on) e = (p, on, ap levels_in (given_tables_lem s a b t list (word_for s b t)))

  now_back : (l : ℕ) → l < levels_in t → (R Q : List ℕ) → Ringed (level_from s l) s.pairs t.room R
      → ((W : ℕ → List ℕ) → W l ≡ R → rings_back (pairs_in s t) (levels_in t - level_back s b) (level_back s b) (node_back s b t) W l ≡ Q)
      → Ringed (level_from s l) s.pairs (return_of s a b t list).tables.room Q
  now_back l low R Q r f =
      let v = return_taken in
      let S = v.0.sound in
      let W = rings_of s t S in
      let W-rings = sound_rings s t S in
      let e : W l ≡ R = ringed_one (level_from s l) s.pairs t.room (W l) R (few_pairs s v.0.lent.settings) (W-rings l low) r in
      subst (Ringed (level_from s l) s.pairs after) (f W e) (return_rings s a b t list m q W W-rings l (omega (arith, low, v.2)))

  -- rings of levels below the block's stay
  pub return_below : (l : ℕ) → l < levels_in t → l < level_back s b → (R : List ℕ) → Ringed (level_from s l) s.pairs t.room R → Ringed (level_from s l) s.pairs (return_of s a b t list).tables.room R
  return_below l low h R r = now_back l low R R r (λ W e. back_below (pairs_in s t) (levels_in t - high) high n W l h ∙ e)

  -- the block is a side of pair n / 2
  module _ (side : node_back s b t ≡ nowhere → ⊥) where
    under : level_back s b < levels_in t
    under =
        let v = return_taken in
        let fit = v.0.lent.settings in
        let len = v.0.lent.lengths in
        let S = v.0.sound in
        let e : (loan_in s t (led_to t.index (word_for s b t))).lev ≡ high = ap (λ (z : ℕ). level_of z s.minimal) (goal.says s t fit len S b v.1).size in
        omega (arith, e, loan_under s t S (led_to t.index (word_for s b t)) (goal.live s t fit len S b v.1) side)

    one_more : levels_in t - level_back s b ≡ suc (levels_in t - level_back s b - 1)
    one_more = omega (arith, under)

    -- what becomes of ring l, with a step to go
    steps : (W : ℕ → List ℕ) (l : ℕ) → rings_back (pairs_in s t) (levels_in t - level_back s b) (level_back s b) (node_back s b t) W l ≡ rings_back (pairs_in s t) (suc (levels_in t - level_back s b - 1)) (level_back s b) (node_back s b t) W l
    steps W l = ap (λ (f : ℕ). rings_back (pairs_in s t) f high n W l) one_more

    -- "A returned side of an exhausted pair joins the ring before the head, or as head if the ring is empty": the pair's other side is taken
    module _ (taken : word (other (side_in (node_back s b t))) (pairs_in s t (level_back s b) (node_back s b t / 2)) ≡ 0 → ⊥) where
      pub return_joins : (R : List ℕ) → Ringed (level_from s (level_back s b)) s.pairs t.room R → Ringed (level_from s (level_back s b)) s.pairs (return_of s a b t list).tables.room (R ++ (node_back s b t / 2 ∷ []))
      return_joins R r =
          now_back high under R (R ++ (n / 2 ∷ [])) r
          (λ W e. steps W high ∙ ap (λ (Q : ℕ → List ℕ). Q high) (back_joins (pairs_in s t) W (levels_in t - high - 1) high n side taken) ∙ rw (eq-eqb high high refl) (ap (λ (l : List ℕ). l ++ (n / 2 ∷ [])) e))

      -- and every other ring stays
      pub return_others : (l : ℕ) → l < levels_in t → (l ≡ level_back s b → ⊥) → (R : List ℕ) → Ringed (level_from s l) s.pairs t.room R → Ringed (level_from s l) s.pairs (return_of s a b t list).tables.room R
      return_others l low ne R r =
          now_back l low R R r (λ W e. steps W l ∙ ap (λ (Q : ℕ → List ℕ). Q l) (back_joins (pairs_in s t) W (levels_in t - high - 1) high n side taken) ∙ rw (ne_eqb l high ne) e)

    -- "When its twin is ready, the pair goes, the head becomes that pair's next even if it wasn't the head": the pair's other side is free
    pub return_merges : word (other (side_in (node_back s b t))) (pairs_in s t (level_back s b) (node_back s b t / 2)) ≡ 0 → (x y : List ℕ)
        → Ringed (level_from s (level_back s b)) s.pairs t.room (x ++ (node_back s b t / 2 ∷ y)) → Ringed (level_from s (level_back s b)) s.pairs (return_of s a b t list).tables.room (y ++ x)
    return_merges twin x y r =
        let d : NotIn (n / 2) x = mem_not (n / 2) x (λ i. distinct_out (n / 2) x y r.rings.ring.distinct (mem_left (n / 2) x y i)) in
        now_back high under (x ++ (n / 2 ∷ y)) (y ++ x) r
        (λ W e. steps W high ∙ back_here (pairs_in s t) W (levels_in t - high - 1) high n side twin ∙ ap (out_of (n / 2)) e ∙ out_of_lem (n / 2) x y d)
