-- Head, loans and chunks are the truth of a free list: what index and regions say follows. Two sound stores with the same truth have the
-- same regions, the same chains, the same thread by place and the same vacant places; only the order of these may differ, and words that
-- Sound does not speak of.
use mathlib.Core.Path.{◌≡◌, refl, sym, ap, ◌∙◌, subst}
use mathlib.Core.Logic.{inl, inr, ◌↔◌}
use mathlib.Core.List.Memᴰ
use mathlib.Core.List.{List, [], ◌∷◌, map}
use Prim.Native.Nat.{ℕ, suc, ◌-◌, ◌<◌}
use native.Mathlib.Omega.{arith}
use lib.ListN.{length, get_or, drop}
use Rattle.lists.specs.Members.{Mem}
use Rattle.counter.specs.InTable.{FreeListIn}
use Rattle.counter.specs.declared.settings.FreeListSettings.{FreeListSettings}
use Rattle.book_rules.proofs.Truth.{chain_follows, vacant_follows}
use Rattle.store_rules.specs.Loans.{no_loan}
use Rattle.store_rules.specs.declared.Loan.{Loan}
use Rattle.store_rules.specs.declared.Region.{Region}
use Rattle.freelist_rules.specs.declared.Gap.{Gap}
use Rattle.freelist_rules.specs.Steps.{no_region}
use Rattle.freelist_rules.specs.Tables.{tables, store_of, SoundTables, gaps_in, whole_in}
use Rattle.freelist_rules.specs.Threads.{after_in, before_in, loan_by, Leads, free_of, region_in, front_of, Fronts, wholes}
use Rattle.freelist_rules.proofs.Along.{order_once}
use Rattle.freelist_rules.proofs.Decides.{regions_are}
use Rattle.freelist_rules.proofs.GapLists.{as_member}
use Rattle.freelist_rules.proofs.Gaps.{begins}
use Rattle.freelist_rules.proofs.Threading.{records_order, records_each}
use Rattle.freelist_rules.proofs.Threads.{leads_after, leads_before}

-- a list is told by what its members stand for, where each stands for something else
same_records : (t R rs ss : List ℕ) → ((p q : ℕ) → Mem p R → Mem q R → loan_by t p ≡ loan_by t q → p ≡ q) → ((r : ℕ) → Mem r rs → Mem r R) → ((r : ℕ) → Mem r ss → Mem r R) → map (loan_by t) rs ≡ map (loan_by t) ss → rs ≡ ss
same_records t R [] [] once f g e = refl
same_records t R [] (s ∷ ss) once f g e = absurd (omega (arith, ap length e))
same_records t R (r ∷ rs) [] once f g e = absurd (omega (arith, ap length e))
same_records t R (r ∷ rs) (s ∷ ss) once f g e =
    let h : r ≡ s = once r s (f r (inl refl)) (g s (inl refl)) (ap (λ (ls : List Loan). get_or ls 0 no_loan) e) in
    let k : rs ≡ ss = same_records t R rs ss once (λ x m. f x (inr m)) (λ x m. g x (inr m)) (ap (drop 1) e) in
    cc

-- and gaps by their regions, where each names the loan in front of it
same_gaps : (loans records : List ℕ) (gs hs : List Gap) → Fronts loans records gs → Fronts loans records hs → free_of gs ≡ free_of hs → gs ≡ hs
same_gaps loans records [] [] f h e = refl
same_gaps loans records [] (k ∷ hs) f h e = absurd (omega (arith, ap length e))
same_gaps loans records (g ∷ gs) [] f h e = absurd (omega (arith, ap length e))
same_gaps loans records (g ∷ gs) (k ∷ hs) f h e =
    let r : region_in g ≡ region_in k = ap (λ (rs : List Region). get_or rs 0 no_region) e in
    let n : g.front ≡ k.front = f g (Memᴰ.head refl) ∙ ap (front_of loans 0 records) r ∙ sym (h k (Memᴰ.head refl)) in
    let a : g ≡ k = (λ i. record { chunk = (r i).chunk; start = (r i).start; end = (r i).end; front = n i }) in
    let b : gs ≡ hs = same_gaps loans records gs hs (λ x m. f x (Memᴰ.tail m)) (λ x m. h x (Memᴰ.tail m)) (ap (drop 1) e) in
    cc

-- two stores' tables, with one head, one table of loans and one of chunks
module _ (s : FreeListSettings) (fit : FreeListIn s) (head loans chunks index room index' room' : List ℕ)
    (T : SoundTables s (tables head loans chunks index room)) (U : SoundTables s (tables head loans chunks index' room')) where
  pub regions_follow : (store_of s (tables head loans chunks index room)).regions ≡ (store_of s (tables head loans chunks index' room')).regions
  unfolding store_of
  regions_follow = regions_are s (store_of s (tables head loans chunks index room)) fit T.store ∙ sym (regions_are s (store_of s (tables head loans chunks index' room')) fit U.store)

  pub chains_follow : (i : ℕ) (low : i < s.store.loans) → (T.chained i low).members ≡ (U.chained i low).members
  chains_follow i low = chain_follows _ _ _ _ _ _ s.store.loans _ _ i (T.chained i low) (U.chained i low)

  pub vacant_follow : (p : ℕ) → Mem p T.parted.chained ↔ Mem p U.parted.chained
  vacant_follow p = vacant_follows _ _ _ _ _ _ s.store.loans T.parted U.parted p

  -- the records of the loans by place
  pub thread_follows : T.threaded.records ≡ U.threaded.records
  unfolding store_of
  thread_follows =
      let t = tables head loans chunks index room in
      let rs : List ℕ = T.threaded.records in
      let order = records_order s t T.threaded T.store.loans_rise in
      same_records loans rs rs U.threaded.records
      (λ p q m k e. order_once loans 0 rs order p q (as_member p rs m) (as_member q rs k) (ap begins e))
      (λ r m. m)
      (λ r m. let w = U.threaded.right r m in let e : suc (r - 1) ≡ r = omega (arith, w.0) in subst (λ (x : ℕ). Mem x rs) e (records_each s t T.threaded (r - 1) (omega (arith, w.0, w.1)) w.2))
      (T.threaded.are ∙ sym U.threaded.are)

  -- so that record 0 and each of theirs lead on to the same, and back to the same
  leads' : Leads (after_in s.store.loans index') (before_in s.store.loans index') 0 T.threaded.records
  leads' = subst (Leads (after_in s.store.loans index') (before_in s.store.loans index') 0) (sym thread_follows) U.threaded.leads

  pub after_follows : (r : ℕ) → Mem r (0 ∷ T.threaded.records) → after_in s.store.loans index r ≡ after_in s.store.loans index' r
  after_follows = leads_after (after_in s.store.loans index) (before_in s.store.loans index) (after_in s.store.loans index') (before_in s.store.loans index') 0 T.threaded.records T.threaded.leads leads'

  pub before_follows : (r : ℕ) → Mem r (0 ∷ T.threaded.records) → before_in s.store.loans index r ≡ before_in s.store.loans index' r
  before_follows = leads_before (after_in s.store.loans index) (before_in s.store.loans index) (after_in s.store.loans index') (before_in s.store.loans index') 0 T.threaded.records T.threaded.leads leads'

  -- the regions with the loans in front of them, and how many are whole
  pub gaps_follow : gaps_in (tables head loans chunks index room) ≡ gaps_in (tables head loans chunks index' room')
  unfolding store_of
  gaps_follow =
      same_gaps loans T.threaded.records _ _ T.fronts
      (subst (λ (rs : List ℕ). Fronts loans rs (gaps_in (tables head loans chunks index' room'))) (sym thread_follows) U.fronts) regions_follow

  pub whole_follows : whole_in (tables head loans chunks index room) ≡ whole_in (tables head loans chunks index' room')
  unfolding store_of
  whole_follows = T.whole ∙ ap (wholes (store_of s (tables head loans chunks index room)).chunks) regions_follow ∙ sym U.whole
