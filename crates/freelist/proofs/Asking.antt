-- An ask's plan can be carried out, and carried out it is as it is defined.
use mathlib.Core.Path.{◌≡◌, sym, ap, ◌∙◌}
use mathlib.Core.List.{List, []}
use Prim.Native.Nat.{ℕ}
use lib.ListN.{set}
use Rattle.counter.specs.Account.{heap_at}
use Rattle.counter.specs.Paper.{Said}
use Rattle.counter.specs.Paper as Paper
use Rattle.counter.specs.declared.account.Account.{Account}
use Rattle.counter.specs.declared.settings.FreeListSettings.{FreeListSettings}
use Rattle.slabs.specs.declared.Taken.{Taken}
use Rattle.store_rules.specs.Orders.{Plan, deny, take, buy, order_from}
use Rattle.store_rules.specs.Outcomes.{out, block_said}
use Rattle.store_rules.specs.Shares.{ask_left}
use Rattle.store_rules.specs.declared.Loan.{Loan}
use Rattle.book_rules.specs.Book.{taken_of}
use Rattle.freelist_rules.specs.Tables.{Tables, tables, chunk_size_at, places_in, store_of}
use Rattle.freelist_outcomes.specs.Ask.{block_at, taken_tables, ordered_tables, carry_ask, plan_ask, ask_of}
use Rattle.freelist_outcomes.proofs.Plans.{plan_take}
use Rattle.std.specs.Prelude.{Result, Ok, Err}
use Rattle.counter.specs.declared.refusal.Refusal.{Refusal}
use Rattle.freelist_decide.specs.Plans.{plan_of, Planned}
use Rattle.freelist_decide.specs.declared.deciding.Plan as Decided
use Rattle.freelist_decide.specs.declared.deciding.Plan.TheVariants as Decides
use Rattle.freelist_place.specs.Lent.{lent_from, lent_tables}
use Rattle.freelist_place.proofs.Serving.{loan_planned, tables_planned}
use Rattle.freelist.specs.Ready.{AskReady}
use Rattle.freelist.proofs.Lending.{lends_ready}

-- ---- what a passed gate and the plan give

pub ask_ready : (s : FreeListSettings) (a : Account) (size mask : ℕ) (t : Tables) (p : Result Decided.Plan Refusal) → plan_of p ≡ plan_ask s a size mask t → Planned s size mask t p
    → AskReady s t p
ask_ready s a size mask t (Err r) e c = tt
ask_ready s a size mask t (Ok (Decides.Buy b)) e c = tt
ask_ready s a size mask t (Ok (Decides.Take k)) e c =
    let w = plan_take s a size mask t k.region (sym e) in
    lends_ready s (heap_at a s.store.heap) a.objects size mask t w.0.settings w.0.lengths w.0.sound k.region k.start k.loan w.1 c.0 c.1

-- ---- what is left

-- a block lent does not look at the head
module _ (s : FreeListSettings) (start i : ℕ) (k : Taken) (head loans chunks regions index : List ℕ) where
  pub lent_rest : (l' r' i' : List ℕ) → tables [] l' chunks i' r' ≡ lent_tables s start k (tables [] loans chunks index regions) i
      → tables head l' chunks i' r' ≡ lent_tables s start k (tables head loans chunks index regions) i
  unfolding lent_tables store_of
  lent_rest l' r' i' e = ap (λ (t : Tables). tables head t.loans chunks t.index t.room) e

  pub loan_rest : (l : Loan) → l ≡ lent_from s start (tables [] loans chunks index regions) i → l ≡ lent_from s start (tables head loans chunks index regions) i
  unfolding store_of
  loan_rest l e = e

module _ (s : FreeListSettings) (size mask : ℕ) (head loans chunks regions index : List ℕ) (p : Plan ℕ) (a : Account) where
  abbrev now : Tables
  now = tables head loans chunks index regions

  -- the account that is left goes by what is said
  pub ask_refused : (n : ℕ) (w : Said) → p ≡ deny n → w ≡ Paper.refusal n [] → out w (ask_left a size mask w) now ≡ carry_ask s a size mask now p
  unfolding carry_ask
  ask_refused n w e g = (λ j. out (g j) (ask_left a size mask (g j)) now) ∙ ap (carry_ask s a size mask now) (sym e)

  pub ask_taken : (i start : ℕ) (k : Taken) (l : Loan) (w : Said) (l' r' i' : List ℕ) → p ≡ take i
      → start ≡ (block_at s size mask now i).start → k ≡ taken_of (places_in now) index
      → l ≡ lent_from s start (tables [] loans chunks index regions) i → tables [] l' chunks i' r' ≡ lent_tables s start k (tables [] loans chunks index regions) i
      → w ≡ block_said l → out w (ask_left a size mask w) (tables head l' chunks i' r') ≡ carry_ask s a size mask now p
  unfolding carry_ask
  ask_taken i start k l w l' r' i' e x y m t g =
      let loan = loan_rest s start i k head loans chunks regions index l m ∙ loan_planned s size mask start i k now x in
      let left = lent_rest s start i k head loans chunks regions index l' r' i' t ∙ tables_planned s size mask start i k now x y in
      (λ j. out (g j) (ask_left a size mask (g j)) (left j))
      ∙ (λ j. out (block_said (loan j)) a (taken_tables s size mask now i)) ∙ ap (carry_ask s a size mask now) (sym e)

  pub ask_ordered : (z : ℕ) (w : Said) (h' : List ℕ) → p ≡ buy z → h' ≡ set head chunk_size_at z
      → w ≡ Paper.order_of (order_from s.store z) → out w (ask_left a size mask w) (tables h' loans chunks index regions) ≡ carry_ask s a size mask now p
  unfolding carry_ask ordered_tables
  ask_ordered z w h' e h k =
      (λ j. out (k j) (ask_left a size mask (k j)) (tables (h j) loans chunks index regions)) ∙ ap (carry_ask s a size mask now) (sym e)

-- ---- the call

pub ask_done : (s : FreeListSettings) (a : Account) (size mask : ℕ) (t : Tables) (p : Plan ℕ) → p ≡ plan_ask s a size mask t → carry_ask s a size mask t p ≡ ask_of s a size mask t
unfolding ask_of
ask_done s a size mask t p e = ap (carry_ask s a size mask t) e
