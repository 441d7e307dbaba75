-- What the return of a block on loan comes to, and that the blocks left are still on loan.
use mathlib.Core.Path.{◌≡◌, sym, ◌∙◌, ap, subst}
use mathlib.Core.Bool.{true, false, cond}
use mathlib.Core.Logic.{◌⊎◌, inl, inr}
use mathlib.Core.List.Memᴰ
use mathlib.Core.List.{List, [], ◌∷◌, Memᴰ}
use Prim.Native.Nat.{ℕ, ◌+◌}
use lib.ListN.{get_or}
use Rattle.counter.specs.InTable.{FreeListIn}
use Rattle.counter.specs.declared.answers.Block.{Block}
use Rattle.counter.specs.declared.settings.FreeListSettings.{FreeListSettings}
use Rattle.lists.proofs.Bools.{told}
use Rattle.store_rules.specs.declared.Loan.{Loan}
use Rattle.store_rules.specs.Views.{Matches, OnLoan}
use Rattle.store_rules.proofs.Loaned.{same_loan_lem, loan_same}
pub use Rattle.store_rules.proofs.Permuted.{perm_mem}
use Rattle.store_rules.proofs.Permuted.{Apart, other_not}
use Rattle.freelist_rules.specs.Records.{Store}
use Rattle.freelist_rules.specs.Pieces.{All}
use Rattle.freelist_rules.specs.Sound.{Sound}
use Rattle.freelist_rules.specs.Place.{at}
use Rattle.freelist_rules.specs.Seek.{same_loan, seek_from}
use Rattle.freelist_rules.specs.Steps.{no_loan, released, taken_back, returned}
use Rattle.freelist_rules.proofs.Base.{at_in}
use Rattle.freelist_rules.proofs.Search.{seek_is}
use Rattle.freelist_rules.proofs.Giving.{give, given_back_is}
use Rattle.freelist_rules.proofs.Swaps.{settled, still}

mem_seek : (b : Block) (j : ℕ) (ls : List Loan) → OnLoan b ls → (i : ℕ) × (seek_from b j ls ≡ at i)
unfolding seek_from
mem_seek b j [] w = absurd (Memᴰ.not-nil w.1)
mem_seek b j (l ∷ ls) w = go (told (same_loan b l)) (Memᴰ.cases_cons w.1) (mem_seek b (j + 1) ls)
  where
    go : (same_loan b l ≡ true) ⊎ (same_loan b l ≡ false) → (w.0 ≡ l) ⊎ Memᴰ w.0 ls → (OnLoan b ls → (i : ℕ) × (seek_from b (j + 1) ls ≡ at i)) → (i : ℕ) × (cond (same_loan b l) (at j) (seek_from b (j + 1) ls) ≡ at i)
    go (inl e) k ih = (j, rw e)
    go (inr e) (inl k) ih = let z : same_loan b l ≡ true = loan_same b l (subst (Matches b) k w.2) in (j, rw z)
    go (inr e) (inr k) ih = let v = ih (w.0, k, w.2) in (v.0, rw e v.1)

-- all are on loan
abbrev pub AllOnLoan : List Block → Store → Type 0
AllOnLoan bs t = All (λ (b : Block). OnLoan b t.loans) bs

module _ (s : FreeListSettings) (fit : FreeListIn s) where
  -- bridges the index that a search finds and the loan that it stands for
  pub returned_is : (b : Block) (t : Store) → Sound s t → (w : OnLoan b t.loans) → returned b t ≡ settled w.0 t
  returned_is b t sound w =
      let v = mem_seek b 0 t.loans w in
      let k = seek_is b v.0 t.loans no_loan v.1 in
      let l = get_or t.loans v.0 no_loan in
      let e : l ≡ w.0 = sound.serials_differ l w.0 (at_in v.0 t.loans no_loan k.0) w.1 ((same_loan_lem b l k.1).serial ∙ sym w.2.serial) in
      ap (taken_back t) v.1
      ∙ ap (released true) (given_back_is s t fit sound v.0 k.0 ∙ ap (λ (d : Loan). give d t) e)

-- those left are still on loan after one has come back
pub left_on_loan : (b : Block) (bs : List Block) (t : Store) (w : OnLoan b t.loans) → Apart (b ∷ bs) → AllOnLoan (b ∷ bs) t → AllOnLoan bs (settled w.0 t)
left_on_loan b bs t w a o d m =
    let v = o d (Memᴰ.tail m) in
    (v.0, still w.0 v.0 t v.1 (λ e. other_not b.serial bs d a.0 m (sym v.2.serial ∙ e ∙ w.2.serial)), v.2)
