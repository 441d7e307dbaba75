-- However the tables of free-list and buddy stores are mixed, an old slip is never taken, and no serial is given twice. 01, demand 1:
-- "A block returned to its store again .. is never taken"; "Serials count up from 1 in a store and are never used twice".
use mathlib.Core.Path.{◌≡◌}
use mathlib.Core.Logic.{◌⊎◌}
use mathlib.Core.List.{List, []}
use Prim.Native.Nat.{ℕ, ◌+◌, ◌≤◌, ◌<◌}
use lib.ListN.{length, get_or}
use Rattle.lists.specs.Members.{Distinct}
use Rattle.counter.specs.Paper as Paper
use Rattle.counter.specs.declared.account.Account.{Account}
use Rattle.counter.specs.declared.answers.Block.{Block}
use Rattle.store_rules.specs.Outcomes.{listed}
use Rattle.engines.specs.Ledger.{ledger, Exactly, Fine}
use Rattle.engines.specs.Pools.{Slot, of_loans, Pool, lent_from, Different, Sealed, seal, Turn, did, turned, course, NoNewLoans, heard_with, serials_with, handing, setting_up}
use Rattle.engines.specs.Serials.{up_from}
use Rattle.engines.proofs.Mixing as Mixing
use Rattle.engines.proofs.MixedCounts as MixedCounts
use Rattle.engines.proofs.MixedTold as MixedTold
use Rattle.freelist_engine.proofs.Signing.{list_sealed}
use Rattle.buddy_engine.proofs.Signing.{buddy_sealed}
use Rattle.histories.specs.Which.{Which, a_list, a_buddy}
use Rattle.histories.proofs.Both.{both}
use Rattle.histories.proofs.Marks.{marks_differ}

-- both engines read serials given and loans from the loans table alone
abbrev pub sealed : (e : Which) → Sealed (both e).shape
sealed a_list = list_sealed
sealed a_buddy = buddy_sealed

signs_differ : (i j : Which) (y z : Slot) → (sealed i).marking.sign y ≡ (sealed j).marking.sign z → (i ≡ j) × (y ≡ z)
signs_differ a_list a_list y z e = marks_differ a_list a_list y z e
signs_differ a_list a_buddy y z e = marks_differ a_list a_buddy y z e
signs_differ a_buddy a_list y z e = marks_differ a_buddy a_list y z e
signs_differ a_buddy a_buddy y z e = marks_differ a_buddy a_buddy y z e

-- ---- from a return that was taken on

module _ (p : Pool) (e : Which) (s : (both e).shape.Settings) (a : Account) (at : Slot → ℕ) (d : Different at) (b : Block) (list : List ℕ) (here : at of_loans < length p) (n : ℕ)
    (taken : (did Which both p (handing Which both e s a at d b list)).said ≡ Paper.released n) (vs : List (Turn Which both))
    (f : NoNewLoans Which both (at of_loans) (turned Which both p (handing Which both e s a at d b list)) vs) where
  -- the pool after that return and any calls, of either engine, each lent any five different tables, but no accepted set-up of this
  -- loans table
  abbrev pub later : Pool
  later = course Which both (turned Which both p (handing Which both e s a at d b list)) vs

  -- either engine's return of that block, lent that loans table and any other four, is refused, by 7 or by 1 to 4, and changes nothing
  pub never_mixed : (g : Which) (s' : (both g).shape.Settings) (a' : Account) (at' : Slot → ℕ) (list' : List ℕ) → at' of_loans ≡ at of_loans
      → (m : ℕ) × ((both g).shape.return s' a' b (lent_from later at') list' ≡ listed (Paper.refusal m []) a' (lent_from later at') list') × ((m ≡ 7) ⊎ ((0 < m) × (m ≤ 4)))
  never_mixed = Mixing.never_mixed Which both sealed signs_differ p e s a at d b list here n taken vs f

  -- so the pool stays as it is
  pub never_mixed_pool : (g : Which) (s' : (both g).shape.Settings) (a' : Account) (at' : Slot → ℕ) (d' : Different at') (list' : List ℕ) → at' of_loans ≡ at of_loans
      → turned Which both later (handing Which both g s' a' at' d' b list') ≡ later
  never_mixed_pool = Mixing.never_mixed_pool Which both sealed signs_differ p e s a at d b list here n taken vs f

-- ---- from a set-up that was accepted on

module _ (p : Pool) (e : Which) (s : (both e).shape.Settings) (a : Account) (at : Slot → ℕ) (d : Different at) (here : at of_loans < length p)
    (ready : (did Which both p (setting_up Which both e s a at d)).said ≡ Paper.ready) (vs : List (Turn Which both))
    (f : NoNewLoans Which both (at of_loans) (turned Which both p (setting_up Which both e s a at d)) vs) where
  -- the blocks told with this loans table and not since taken back
  abbrev pub told_with : List Block
  told_with = ledger [] (heard_with Which both (at of_loans) (turned Which both p (setting_up Which both e s a at d)) vs)

  abbrev pub loans_then : List ℕ
  loans_then = get_or (course Which both (turned Which both p (setting_up Which both e s a at d)) vs) (at of_loans) []

  -- while the table's first word still says that it is a loans table, its loans are exactly those
  pub mixed_told : seal loans_then ≡ (sealed e).marking.sign of_loans → Exactly ((sealed e).loans_in loans_then) told_with
  mixed_told = MixedTold.mixed_told Which both sealed signs_differ p e s a at d here ready vs f

  -- each of them once, and no two different ones share a byte
  pub mixed_fine : Fine told_with
  mixed_fine = MixedTold.mixed_fine Which both sealed signs_differ p e s a at d here ready vs f

  -- and the serials given with it are 1, 2, 3 and so on
  pub mixed_from_one : let q = turned Which both p (setting_up Which both e s a at d) in
      serials_with Which both (at of_loans) q vs ≡ up_from 0 (length (serials_with Which both (at of_loans) q vs))
  mixed_from_one = MixedCounts.mixed_from_one Which both sealed signs_differ p e s a at d here ready vs f

-- ---- with a loans table of either engine

module _ (e : Which) (i : ℕ) (p : Pool) (mine : seal (get_or p i []) ≡ (sealed e).marking.sign of_loans) (here : i < length p) (vs : List (Turn Which both)) (f : NoNewLoans Which both i p vs) where
  -- over any calls, of either engine, each with any account and lent any five different tables, but no accepted set-up of this loans
  -- table: the serials given with it are the next ones after those given from it, in order
  pub mixed_counts : serials_with Which both i p vs ≡ up_from ((sealed e).given_in (get_or p i [])) (length (serials_with Which both i p vs))
  mixed_counts = MixedCounts.mixed_counts Which both sealed signs_differ e i p mine here vs f

  -- none is given twice
  pub mixed_never_twice : Distinct (serials_with Which both i p vs)
  mixed_never_twice = MixedCounts.mixed_never_twice Which both sealed signs_differ e i p mine here vs f

  -- and while its first word still says that it is a loans table, it says how many were given
  pub mixed_given : seal (get_or (course Which both p vs) i []) ≡ (sealed e).marking.sign of_loans
      → (sealed e).given_in (get_or (course Which both p vs) i []) ≡ (sealed e).given_in (get_or p i []) + length (serials_with Which both i p vs)
  mixed_given = MixedCounts.mixed_given Which both sealed signs_differ e i p mine here vs f
