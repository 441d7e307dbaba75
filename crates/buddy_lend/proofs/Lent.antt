-- The ready side of a level's head pair, as the code reads it, and the tables when a block of it is lent.
use mathlib.Core.Path.{◌≡◌, sym, ap, subst, ◌∙◌}
use mathlib.Core.List.{List, []}
use Prim.Native.Nat.{ℕ, ◌+◌, ◌-◌, ◌^◌, ◌≤◌, ◌<◌}
use lib.ListN.{get_or}
use Rattle.counter.specs.declared.settings.BuddySettings.{BuddySettings}
use Rattle.slabs.specs.declared.Taken.{Taken}
use Rattle.store_rules.specs.Loans.{given_at, places_at, loan}
use Rattle.store_rules.specs.declared.Loan.{Loan}
use Rattle.book_rules.specs.Book.{taken_of}
use Rattle.buddy_trees.specs.Trees.{bytes}
use Rattle.buddy_rules.specs.Nodes.{free_word, Side, L, R, Ent, base}
use Rattle.buddy_rules.specs.Levels.{side_of, base_of}
use Rattle.buddy_rules.specs.Level.{tag_at, pair_cell, ent_of, ring_head, acquired, level_start}
use Rattle.buddy_levels.specs.Pairs.{ent_from}
use Rattle.buddy_levels.specs.Stands.{Stands, Leaves}
use Rattle.buddy_levels.specs.declared.pairs.Pair.{Pair}
use Rattle.buddy_rules.specs.Tables.{Tables, tables, level_from}
use Rattle.buddy_rules.specs.Moves.{Cut, split_down, ready_node}
use Rattle.buddy_moves.specs.Roomy.{Roomy}
use Rattle.buddy_outcomes.specs.Ask.{loan_from, taken_tables, booked_tables}

-- where the ready side begins
module _ (u : ℕ) (e : Pair) (l : ℕ) where
  pub left_from : L ≡ side_of e.tag → e.off ≡ base_of u (ent_from e) l
  left_from h = ap (λ (z : Side). base u z e.off l) h

  pub right_from : R ≡ side_of e.tag → (b : ℕ) → b ≡ bytes u l → e.off + b ≡ base_of u (ent_from e) l
  right_from h b q = ap (λ (x : ℕ). e.off + x) q ∙ ap (λ (z : Side). base u z e.off l) h

-- the head pair stands in the tree, and can leave its ring
pub head_leaves : (s : BuddySettings) (i : ℕ) (tree : List ℕ) (h : ℕ) → h ≡ ring_head (level_from s i) tree → Leaves (level_from s i) (ring_head (level_from s i) tree) tree → Leaves (level_start s.pairs i) h tree
head_leaves s i tree h ring l = subst (λ (x : ℕ). Leaves (level_start s.pairs i) x tree) (sym ring) l

pub head_stands : (s : BuddySettings) (i : ℕ) (tree : List ℕ) (base : ℕ) → base ≡ level_start s.pairs i → (h : ℕ) → h ≡ ring_head (level_from s i) tree
    → Leaves (level_from s i) (ring_head (level_from s i) tree) tree → Stands base h tree
head_stands s i tree base at h ring l = subst (λ (x : ℕ). Stands x h tree) (sym at) (head_leaves s i tree h ring l).own

module _ (s : BuddySettings) (i : ℕ) (tree : List ℕ) (base : ℕ) (at : base ≡ level_start s.pairs i) (h : ℕ) (ring : h ≡ ring_head (level_from s i) tree) (e : Pair) (reads : ent_from e ≡ ent_of base tree h) where
  -- the head pair's entry
  pub ent_is : ent_from e ≡ ent_of (level_from s i) tree (ring_head (level_from s i) tree)
  ent_is = reads ∙ (λ j. ent_of (at j) tree (ring j))

  pub pair_low : ring_head (level_from s i) tree < s.pairs → h < s.pairs
  pair_low l = rw ring l

  pub off_low : (ent_of (level_from s i) tree (ring_head (level_from s i) tree)).off ≤ 2 ^ 62 → e.off ≤ 2 ^ 62
  off_low l = let q : e.off ≡ (ent_of (level_from s i) tree (ring_head (level_from s i) tree)).off = ap (λ (x : Ent). x.off) ent_is in rw q l

  -- at which side it is ready
  pub side_is : side_of e.tag ≡ side_of (get_or tree (pair_cell (level_from s i) tag_at h) 0)
  side_is = ap (λ (x : Ent). side_of x.tag) reads ∙ ap (λ (b : ℕ). side_of (get_or tree (pair_cell b tag_at h) 0)) at

  module _ (size : ℕ) (loans : List ℕ) (o : ℕ) (from : o ≡ base_of s.minimal (ent_from e) i) (g : ℕ) (given : g ≡ get_or loans given_at 0) where
    abbrev Served : Loan
    Served = loan_from s size (tables [] loans [] [] tree) i

    -- the loan that it gives
    pub loan_is : loan (g + 1) e.chunk o size ≡ Served
    loan_is = (λ j. loan (given j + 1) e.chunk (from j) size) ∙ (λ j. loan (get_or loans given_at 0 + 1) (ent_is j).chunk (base_of s.minimal (ent_is j) i) size)

    module _ (level : ℕ) where
      abbrev RoomyAt : Loan → Type 0
      RoomyAt l = Roomy s.pairs level l.chunk l.offset (ready_node s.pairs i tree) (i - level) (acquired (level_from s i) free_word tree)

      pub lends_roomy : RoomyAt Served → RoomyAt (loan (g + 1) e.chunk o size)
      lends_roomy r = subst RoomyAt (sym loan_is) r

      module _ (index : List ℕ) (k : Taken) (next : k ≡ taken_of (get_or loans places_at 0) index) where
        -- the split from the ready side
        abbrev cut_by : Loan → ℕ → Cut
        cut_by l p = split_down s.pairs level l.chunk l.offset p (ready_node s.pairs i tree) (i - level) (acquired (level_from s i) free_word tree)

        abbrev booked_by : Loan → Cut → Tables
        booked_by l c = booked_tables s l.chunk l.offset size c (tables [] loans [] index [])

        pub lent_done : (n : ℕ) (l' i' t' : List ℕ) → n ≡ (cut_by (loan (g + 1) e.chunk o size) k.place).node → t' ≡ (cut_by (loan (g + 1) e.chunk o size) k.place).room
            → tables [] l' [] i' t' ≡ booked_tables s e.chunk o size (record { node = n; room = t' }) (tables [] loans [] index [])
            → tables [] l' [] i' t' ≡ taken_tables s size level (tables [] loans [] index tree) i
        unfolding booked_tables taken_tables
        lent_done n l' i' t' a b d =
            let l = loan (g + 1) e.chunk o size in
            d
            ∙ (λ j. booked_by l (record { node = a j; room = b j }))
            ∙ (λ j. booked_by (loan_is j) (cut_by (loan_is j) (next j).place))
