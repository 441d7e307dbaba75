-- Different blocks of a free list come back, and every order ends alike, as an engine has to.
use mathlib.Core.Path.{◌≡◌, refl, sym, ap, subst, ◌∙◌}
use mathlib.Core.Bool.{true}
use mathlib.Core.Logic.{⊎_elim, ◌↔◌}
use mathlib.Core.List.Memᴰ
use mathlib.Core.List.Permᴰ
use mathlib.Core.List.{List, [], ◌∷◌, Memᴰ}
use Prim.Native.Nat.{ℕ, ◌≤◌}
use lib.ListN.{length}
use Rattle.counter.specs.Account.{heap_at}
use Rattle.counter.specs.Gate.{pass}
use Rattle.counter.specs.declared.account.Account.{Account}
use Rattle.counter.specs.declared.answers.Block.{Block}
use Rattle.counter.specs.declared.settings.FreeListSettings.{FreeListSettings}
use Rattle.store_rules.specs.Loans.{loans_of}
use Rattle.store_rules.specs.Views.{Matches, OnLoan, loans_less, sizes}
use Rattle.store_rules.proofs.Accounts.{covers_yes}
use Rattle.store_rules.proofs.Lessening.{less_one}
use Rattle.store_rules.specs.declared.Loan.{Loan}
use Rattle.engines.specs.Ends.{Lot, Ends}
use Rattle.freelist_rules.specs.AtOnce.{at_once}
use Rattle.freelist_rules.specs.Records.{Store}
use Rattle.freelist_rules.specs.Place.{Found, nowhere, at}
use Rattle.freelist_rules.specs.Seek.{seek}
use Rattle.freelist_rules.specs.Steps.{taken_back, returned, returned_all}
use Rattle.freelist_rules.specs.Tables.{Tables, places_in, store_of}
use Rattle.freelist_rules.proofs.Blocks.{AllOnLoan, returned_is, left_on_loan, perm_mem}
use Rattle.freelist_rules.proofs.AtOnce.{returned_at_once, at_once_same}
use Rattle.freelist_rules.proofs.Ordered.{ordered_in, ordered_out}
use Rattle.freelist_outcomes.specs.Gate.{gate_of}
use Rattle.freelist_outcomes.specs.Return.{return_of}
use Rattle.freelist_outcomes.proofs.Accounts.{account_is}
use Rattle.freelist_outcomes.proofs.Passing.{Passed, gate_passed}
use Rattle.freelist_outcomes.proofs.Sounds.{return_sound}
use Rattle.freelist_engine.specs.Shape.{seen, list_shape, counts_of}
use Rattle.freelist_engine.proofs.Handing.{Handed, return_handed}

-- a loan stands in the tables exactly when it stands in the store that they hold
loan_there : (s : FreeListSettings) (t : Tables) (l : Loan) → Memᴰ l (loans_of (places_in t) t.loans) → Memᴰ l (store_of s t).loans
unfolding store_of
loan_there s t l m = ordered_in l (loans_of (places_in t) t.loans) m

loan_here : (s : FreeListSettings) (t : Tables) (l : Loan) → Memᴰ l (store_of s t).loans → Memᴰ l (loans_of (places_in t) t.loans)
unfolding store_of
loan_here s t l m = ordered_out l (loans_of (places_in t) t.loans) m

pub block_there : (s : FreeListSettings) (t : Tables) (b : Block) → OnLoan b (loans_of (places_in t) t.loans) → OnLoan b (store_of s t).loans
block_there s t b w = (w.0, loan_there s t w.0 w.1, w.2)

lot_there : (s : FreeListSettings) (bs : List Block) (t : Tables) → Lot list_shape bs t → AllOnLoan bs (store_of s t)
lot_there s bs t lot b m = block_there s t b (lot.lent b m)

-- ---- one block

module _ (s : FreeListSettings) (a : Account) (b : Block) (t : Tables) (list : List ℕ) (passes : gate_of s a t true ≡ pass)
    (lent : OnLoan b (store_of s t).loans) (long : s.store.chunks ≤ length list) where
  p : Passed s a t true
  p = gate_passed s a t true (sym passes)

  handed : Handed s a b t (return_of s a b t list)
  handed = return_handed s a b t list passes lent long

  abbrev after : Tables
  after = (return_of s a b t list).tables

  -- the loans left are the others
  loans_left : (store_of s after).loans ≡ loans_less (b ∷ []) (store_of s t).loans
  loans_left = ap (λ (v : Store). v.loans) (handed.store ∙ returned_at_once s p.settings (store_of s t) p.sound.store (b ∷ []) (tt, tt) only)
    where
      only : AllOnLoan (b ∷ []) (store_of s t)
      only c m = ⊎_elim (λ e. subst (λ (d : Block). OnLoan d (store_of s t).loans) (sym e) lent) (λ k. absurd (Memᴰ.not-nil k)) (Memᴰ.cases_cons m)

  loans_are : (l : Loan) → Memᴰ l (loans_of (places_in after) after.loans) ↔ (Memᴰ l (loans_of (places_in t) t.loans) × (Matches b l → ⊥))
  loans_are l = (there, back)
    where
      one : Memᴰ l (store_of s after).loans ↔ (Memᴰ l (store_of s t).loans × (Matches b l → ⊥))
      one = subst (λ (ls : List Loan). Memᴰ l ls ↔ (Memᴰ l (store_of s t).loans × (Matches b l → ⊥))) (sym loans_left) (less_one b (store_of s t).loans l)

      there : Memᴰ l (loans_of (places_in after) after.loans) → Memᴰ l (loans_of (places_in t) t.loans) × (Matches b l → ⊥)
      there m = let w = one.0 (loan_there s after l m) in (loan_here s t l w.0, w.1)

      back : Memᴰ l (loans_of (places_in t) t.loans) × (Matches b l → ⊥) → Memᴰ l (loans_of (places_in after) after.loans)
      back w = loan_here s after l (one.1 (loan_there s t l w.0, w.1))

-- ---- the counts

back_counts : (t : Store) (f : Found) → counts_of (taken_back t f) ≡ counts_of t
back_counts t nowhere = refl
back_counts t (at i) = refl

-- ---- the others after it

next : (s : FreeListSettings) (a : Account) (b : Block) (bs : List Block) (t : Tables) (list : List ℕ) → gate_of s a t true ≡ pass → Lot list_shape (b ∷ bs) t → s.store.chunks ≤ length list
    → at_once bs (store_of s (return_of s a b t list).tables) ≡ at_once (b ∷ bs) (store_of s t)
next s a b bs t list passes lot long =
    let v : Store = store_of s t in
    let p = gate_passed s a t true (sym passes) in
    let o = lot_there s (b ∷ bs) t lot in
    let lent = o b (Memᴰ.head refl) in
    let e : store_of s (return_of s a b t list).tables ≡ returned b v = (return_handed s a b t list passes lent long).store in
    let sound = (return_sound s a b t list p.sound).store in
    let left : AllOnLoan bs (store_of s (return_of s a b t list).tables) =
    subst (AllOnLoan bs) (sym (e ∙ returned_is s p.settings b v p.sound.store lent)) (left_on_loan b bs v lent lot.apart o) in
    sym (returned_at_once s p.settings (store_of s (return_of s a b t list).tables) sound bs lot.apart.1 left)
    ∙ ap (returned_all bs) e
    ∙ returned_at_once s p.settings v p.sound.store (b ∷ bs) lot.apart o

-- every order of returns ends alike
pub list_ends : Ends list_shape
list_ends =
    record {
      taken = λ s a b t list passes lent long.
          let there = block_there s t b lent in
          let h = handed s a b t list passes there long in
          record {
            said = h.said;
            loans = loans_are s a b t list passes there long;
            account = h.account;
            goes = h.goes;
          };
      rest_stays = λ s a b t list passes lent long.
          let v = store_of s t in
          ap counts_of (return_handed s a b t list passes (block_there s t b lent) long).store ∙ back_counts v (seek b v.loans);
      none = λ s a t passes. refl;
      next = λ s a b bs t list passes lot long. ap seen (next s a b bs t list passes lot long);
      same = λ s a bs cs t passes lot e. ap seen (at_once_same bs cs (store_of s t) (λ b. (perm_mem b (Permᴰ.symm e), perm_mem b e)));
      heap_low = λ s a t passes. (gate_passed s a t true (sym passes)).settings.store.heap;
      heap_agrees = λ s a t passes.
          let cs = (store_of s t).chunks in
          (covers_yes (heap_at a s.store.heap) a.objects (length cs) (sizes cs) (sym (account_is s a t) ∙ (gate_passed s a t true (sym passes)).covered)).1;
    }
