-- What the thread of a store's loans says: its records are those that the test follows, once each, in the order of their loans, and
-- every place in use has its own among them.
use mathlib.Core.Path.{◌≡◌, sym, ap, ◌∙◌, subst}
use mathlib.Core.Bool.{false}
use mathlib.Core.List.{map}
use Prim.Native.Nat.{ℕ, suc, ◌-◌, ◌<◌}
use native.Mathlib.Omega.{arith}
use lib.ListN.{length, length-map}
use Rattle.lists.specs.Members.{Mem, NotIn, Distinct}
use Rattle.counter.specs.declared.settings.FreeListSettings.{FreeListSettings}
use Rattle.slabs.specs.Test.{vacancies}
use Rattle.store_rules.specs.Loans.{loans_of}
use Rattle.freelist_rules.specs.Tables.{Tables, places_in, store_of, vacant_in, records_in, along_in}
use Rattle.freelist_rules.specs.Threads.{after_in, before_in, loan_by, Threaded}
use Rattle.freelist_rules.proofs.Along.{loans_count, records_all, loans_order}
use Rattle.freelist_rules.proofs.GapLists.{Order}
use Rattle.freelist_rules.proofs.Gaps.{LoansRise}
use Rattle.freelist_rules.proofs.Ordered.{ordered_length}
use Rattle.freelist_rules.proofs.Threads.{no_zero, leads_distinct, followed_leads}

module _ (s : FreeListSettings) (t : Tables) (T : Threaded s.store.loans (places_in t) t.loans t.index (store_of s t).loans) where
  pub records_count : length T.records ≡ places_in t - vacancies (vacant_in t) (places_in t)
  unfolding store_of
  records_count =
      omega (
        arith,
        length-map T.records (loan_by t.loans),
        ap length T.are,
        ordered_length (loans_of (places_in t) t.loans),
        loans_count t.loans (places_in t),
      )

  pub records_over : NotIn 0 T.records
  records_over = no_zero T.records (λ r m. (T.right r m).0)

  pub records_once : Distinct T.records
  records_once = leads_distinct (after_in s.store.loans t.index) (before_in s.store.loans t.index) T.records T.leads records_over

  -- they are followed, and their loans are the store's
  pub records_are : records_in s t ≡ T.records
  records_are =
      followed_leads (after_in s.store.loans t.index) (before_in s.store.loans t.index) (places_in t) T.records T.leads records_over (omega (arith, records_count))

  pub along_are : along_in s t ≡ (store_of s t).loans
  along_are = ap (map (loan_by t.loans)) records_are ∙ T.are

  pub records_order : LoansRise 0 (store_of s t).loans → Order t.loans T.records
  records_order rise = loans_order t.loans 0 T.records (subst (LoansRise 0) (sym T.are) rise)

  -- each place in use has one
  pub records_each : (p : ℕ) → p < places_in t → vacant_in t p ≡ false → Mem (suc p) T.records
  records_each = records_all (vacant_in t) (places_in t) T.records records_once T.right records_count
