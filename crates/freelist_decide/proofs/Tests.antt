-- An ask's tests in the code's order come to the plan that is defined.
use mathlib.Core.Path.{◌≡◌, refl, sym, ap, subst, ◌∙◌}
use mathlib.Core.Bool.{Bool, true, false, ◌&&◌}
use mathlib.Core.List.{List, [], ◌∷◌}
use Prim.Native.Nat.{ℕ, ◌≤◌, ◌<◌}
use native.Mathlib.Omega.{arith}
use lib.Dec.{ltb}
use lib.ListN.{get_or}
use borrow.Author.Tests.{lt-ltb, le-ltb}
use Rattle.rounding_rules.specs.Growth.{grown}
use Rattle.counter.specs.Gate.{Verdict, pass, refuse, first}
use Rattle.counter.specs.Table.{alignment_ok}
use Rattle.counter.specs.declared.account.Heap.{Heap}
use Rattle.counter.specs.declared.settings.FreeListSettings.{FreeListSettings}
use Rattle.heap.specs.Heap.{bears_ok}
use Rattle.slabs.specs.declared.Taken as Next
use Rattle.store_rules.specs.Orders.{Plan, deny, take, buy}
use Rattle.store_rules.specs.Loans.{given_at, places_at}
use Rattle.book_rules.specs.Book.{taken_of}
use Rattle.freelist_rules.specs.Records.{gap_row}
use Rattle.freelist_rules.specs.Place.{Found, nowhere, at, find, cut, size_for, mask_for}
use Rattle.freelist_rules.specs.Steps.{no_region}
use Rattle.freelist_rules.specs.Threads.{free_of}
use Rattle.freelist_rules.specs.Tables.{Tables, tables, made_at, chunk_size_at, chunks_at, region_count_at, store_of}
use Rattle.freelist_outcomes.specs.Ask.{size_ok, room_ok, count_ok, objects_ok, late_row, planned, found_for, decide_ask, block_at}
use Rattle.words.specs.Rows.{rows}
use Rattle.counter.specs.Limits.{spent}
use Rattle.freelist_regions.specs.Found.{Starts}
use Rattle.freelist_regions.specs.declared.search.Fit.{Fit}
use Rattle.freelist_decide.specs.Plans.{Carries, Planned}
use Rattle.freelist_decide.specs.declared.deciding.Plan as Code
use Rattle.counter.specs.declared.refusal.Refusal.{Refusal}
use Rattle.std.specs.Prelude.{Option, Some, Result}

module _ (s : FreeListSettings) (loans index : List ℕ) where
  abbrev book : Tables
  book = tables [] loans [] index []

  -- a loan place is left
  abbrev pub left : Bool
  left = ltb (taken_of (get_or loans places_at 0) index).place s.store.loans

  abbrev pub Taken : ℕ → Plan ℕ
  Taken i = planned s 0 book (at i) (first ((room_ok s book (at i), 8) ∷ (ltb (get_or loans given_at 0) spent, 10) ∷ []))

  pub take_full : (i : ℕ) → left ≡ false → deny 8 ≡ Taken i
  unfolding room_ok
  take_full i e = rw e refl

  pub take_spent : (i : ℕ) → left ≡ true → spent ≤ get_or loans given_at 0 → deny 10 ≡ Taken i
  unfolding room_ok
  take_spent i e h = rw (e, le-ltb (get_or loans given_at 0) spent h) refl

  pub take_go : (i : ℕ) → left ≡ true → get_or loans given_at 0 < spent → take i ≡ Taken i
  unfolding room_ok
  take_go i e h = rw (e, lt-ltb (get_or loans given_at 0) spent h) refl

  -- whether the place that the code read is one of the store's
  pub left_is : (k : Next.Taken) → k ≡ taken_of (get_or loans places_at 0) index → (has : Bool) → has ≡ ltb k.place s.store.loans → has ≡ left
  left_is k p has h = h ∙ ap (λ (x : Next.Taken). ltb x.place s.store.loans) p

module _ (s : FreeListSettings) (head loans chunks index : List ℕ) where
  abbrev now : Tables
  now = tables head loans chunks index []

  -- a loan place is left, and a chunk place
  abbrev pub room : Bool
  room = left s loans index && ltb (get_or chunks chunks_at 0) s.store.chunks

  -- what the code read says the same
  pub room_is : (has v : Bool) → has ≡ left s loans index → (has && ltb (get_or chunks chunks_at 0) s.store.chunks) ≡ v → room ≡ v
  room_is has v e r = (λ j. sym e j && ltb (get_or chunks chunks_at 0) s.store.chunks) ∙ r

  module _ (h : Heap) (objects size : ℕ) where
    abbrev pub raised : ℕ
    raised = grown (get_or head chunk_size_at 0) (size_for s size) s.last

    abbrev pub counts : Bool
    counts = ltb (get_or loans given_at 0) spent && (bears_ok h raised && ltb (get_or chunks made_at 0) spent)

    pub raised_is : (n now' z : ℕ) → n ≡ size_for s size → now' ≡ get_or head chunk_size_at 0 → z ≡ grown now' n s.last → z ≡ raised
    raised_is n now' z a b c = c ∙ (λ j. grown (b j) (a j) s.last)

    pub counts_is : (n now' z : ℕ) (bears v : Bool) → n ≡ size_for s size → now' ≡ get_or head chunk_size_at 0 → z ≡ grown now' n s.last
        → bears ≡ bears_ok h z → (ltb (get_or loans given_at 0) spent && (bears && ltb (get_or chunks made_at 0) spent)) ≡ v → counts ≡ v
    counts_is n now' z bears v a b c e r =
        let f : bears ≡ bears_ok h raised = e ∙ ap (bears_ok h) (raised_is n now' z a b c) in
        (λ j. ltb (get_or loans given_at 0) spent && (sym f j && ltb (get_or chunks made_at 0) spent)) ∙ r

    abbrev pub Bought : Plan ℕ
    Bought = planned s size now nowhere (first (late_row s h objects size now nowhere))

    pub buy_full : room ≡ false → deny 8 ≡ Bought
    unfolding room_ok
    buy_full e = rw e refl

    pub buy_spent : room ≡ true → counts ≡ false → deny 10 ≡ Bought
    unfolding room_ok count_ok store_of
    buy_spent e c = rw (e, c) refl

    pub buy_none : room ≡ true → counts ≡ true → objects ≡ 0 → deny 9 ≡ Bought
    unfolding room_ok count_ok objects_ok store_of
    buy_none e c z = rw (e, c, le-ltb 0 objects (omega arith)) refl

    pub buy_go : room ≡ true → counts ≡ true → 0 < objects → buy raised ≡ Bought
    unfolding room_ok count_ok objects_ok store_of
    buy_go e c z = rw (e, c, lt-ltb 0 objects z) refl

-- ---- the whole of it

module _ (s : FreeListSettings) (h : Heap) (objects size mask : ℕ) (head loans chunks index regions : List ℕ) where
  abbrev all : Tables
  all = tables head loans chunks index regions

  pub found_is : (f : Found) (m n k : ℕ) → f ≡ find m n (free_of (rows gap_row k regions)) → m ≡ mask_for s mask → n ≡ size_for s size → k ≡ get_or regions region_count_at 0 → f ≡ found_for s size mask all
  unfolding store_of
  found_is f m n k e a b c = e ∙ (λ j. find (a j) (b j) (free_of (rows gap_row (c j) regions)))

  pub decide_mask : alignment_ok mask ≡ false → deny 5 ≡ decide_ask s h objects size mask all
  unfolding decide_ask
  decide_mask e = rw e refl

  pub decide_size : alignment_ok mask ≡ true → size_ok s size ≡ false → deny 6 ≡ decide_ask s h objects size mask all
  unfolding decide_ask
  decide_size e f = rw (e, f) refl

  -- of a region that serves, two tests are left
  fewer : (i : ℕ) (r g : Bool) → planned s 0 (tables [] loans [] index []) (at i) (first ((r, 8) ∷ (g, 10) ∷ [])) ≡ planned s size all (at i) (first ((r, 8) ∷ (g && true, 10) ∷ (true, 9) ∷ []))
  fewer i true true = refl
  fewer i true false = refl
  fewer i false g = refl

  pub decide_at : (i : ℕ) (p : Plan ℕ) → alignment_ok mask ≡ true → size_ok s size ≡ true → at i ≡ found_for s size mask all → p ≡ Taken s loans index i → p ≡ decide_ask s h objects size mask all
  unfolding decide_ask room_ok count_ok objects_ok store_of
  decide_at i p e f g t = t ∙ rw (e, f, sym g) (fewer i (room_ok s all (at i)) (ltb (get_or loans given_at 0) spent))

  -- an order's size does not look at the regions
  same : (v : Verdict) → planned s size (tables head loans chunks index []) nowhere v ≡ planned s size all nowhere v
  unfolding store_of
  same pass = refl
  same (refuse n) = refl

  pub decide_nowhere : (p : Plan ℕ) → alignment_ok mask ≡ true → size_ok s size ≡ true → nowhere ≡ found_for s size mask all → p ≡ Bought s head loans chunks index h objects size → p ≡ decide_ask s h objects size mask all
  unfolding decide_ask room_ok count_ok objects_ok store_of
  decide_nowhere p e f g t = t ∙ rw (e, f, sym g) (same (first (late_row s h objects size all nowhere)))

  -- ---- what the plan carries

  pub start_is : (m n k : ℕ) (f : Fit) (o : Option Fit) → o ≡ Some f → Starts m n (free_of (rows gap_row k regions)) o → m ≡ mask_for s mask → n ≡ size_for s size → k ≡ get_or regions region_count_at 0
      → f.start ≡ (block_at s size mask all f.region).start
  unfolding store_of
  start_is m n k f o e g a b c =
      let h : f.start ≡ cut m n (get_or (free_of (rows gap_row k regions)) f.region no_region) = subst (λ (y : Option Fit). Starts m n (free_of (rows gap_row k regions)) y) e g in
      h ∙ (λ j. cut (a j) (b j) (get_or (free_of (rows gap_row (c j) regions)) f.region no_region))

  pub carried_is : (p : Result Code.Plan Refusal) (m n : ℕ) → m ≡ mask_for s mask → n ≡ size_for s size → ((from : ℕ → ℕ) → Carries from n m (taken_of (get_or loans places_at 0) index) p) → Planned s size mask all p
  carried_is p m n a b g =
      let from : ℕ → ℕ = λ i. (block_at s size mask all i).start in
      let loan = taken_of (get_or loans places_at 0) index in
      subst (λ (y : ℕ). Carries from (size_for s size) y loan p) a (subst (λ (x : ℕ). Carries from x m loan p) b (g from))
