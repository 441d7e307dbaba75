-- A plan carried out is the plan carried out as it is defined.
use mathlib.Core.Path.{◌≡◌, refl, sym, ap, subst, ◌∙◌}
use mathlib.Core.Bool.{Bool, true, false, cond}
use mathlib.Core.List.{List, []}
use Prim.Native.Nat.{ℕ, ◌+◌, ◌≤◌}
use native.Mathlib.Omega.{arith}
use lib.Dec.{eqb}
use lib.ListN.{get_or}
use Rattle.counter.specs.Limits.{levels_most, objects_most}
use Rattle.counter.specs.Paper.{Said}
use Rattle.counter.specs.Paper as Paper
use Rattle.counter.specs.declared.account.Account.{Account}
use Rattle.counter.specs.declared.account.KeptOrder.{KeptOrder}
use Rattle.counter.specs.Open.{OpenOrder}
use Rattle.std.specs.Prelude.{None}
use Rattle.counter.specs.declared.answers.Block.{Block}
use Rattle.counter.specs.declared.answers.Outcome.{Outcome}
use Rattle.counter.specs.declared.settings.BuddySettings.{BuddySettings}
use Rattle.store_rules.specs.Delivery.{kept, lost}
use Rattle.store_rules.specs.Loans.{given_at, loan}
use Rattle.store_rules.specs.Orders.{Plan, deny, take, buy, order_from}
use Rattle.store_rules.specs.Outcomes.{Out, out, listed, list_ok, charged_account, released_account, block_said}
use Rattle.store_rules.specs.Shares.{ask_left, charged_share, lost_share, released_share}
use Rattle.store_rules.proofs.Holders.{holding, order_by, holder}
use Rattle.store_rules.specs.declared.Loan.{Loan}
use Rattle.store_rules.specs.declared.Share.{Share}
use Rattle.store_rules.proofs.Shares.{held_charged, held_lost, held_released}
use Rattle.buddy_rules.specs.Tables.{Tables, tables, levels_at}
use Rattle.buddy_outcomes.specs.Ask.{size_for, level_for, grown_to, grown_tables, booked_tables, chunk_taken, loan_from, taken_tables, denied_tables, carry_ask, plan_ask, ask_of}
use Rattle.buddy_outcomes.specs.Deliver as Deliver
use Rattle.buddy_outcomes.specs.Deliver.{served_tables, carry_fate, plan_deliver, carry_deliver, deliver_of}
use Rattle.buddy_outcomes.specs.Return as Return
use Rattle.buddy_outcomes.specs.Return.{climb_for, given_tables, released_by, plan_return, carry_return, return_of}
use Rattle.buddy_decide.specs.Plans.{next_loan}
use Rattle.buddy_decide.specs.declared.plans.Buying.{Buying}
use Rattle.buddy_gate.specs.Gates.{KeptBuys}
use Rattle.buddy_moves.specs.Ready.{Serves}
use Rattle.buddy_back.specs.Frees.{freed_by, freed_list}
use Rattle.buddy_back.specs.declared.freeing.Freed.{Freed}
use Rattle.buddy.proofs.Places.{grown_next, grown_taken}

module _ (s : BuddySettings) (head loans chunks index tree : List ℕ) where
  abbrev pub start : Tables
  start = tables head loans chunks index tree

  -- growing looks at head and tree alone
  grown_rest : (n : ℕ) (h₁ r₁ : List ℕ) → tables h₁ [] [] [] r₁ ≡ grown_tables s n (tables head [] [] [] tree) → tables h₁ loans chunks index r₁ ≡ grown_tables s n start
  unfolding grown_tables
  grown_rest n h₁ r₁ e = ap (λ (t : Tables). tables t.head loans chunks index t.room) e

  -- ---- an ask

  module _ (a : Account) (size mask : ℕ) where
    pub ask_refused : (n : ℕ) (w : Said) → eqb n 9 ≡ false → w ≡ Paper.refusal n [] → out w (ask_left a size mask w) start ≡ carry_ask s a size mask start (deny n)
    unfolding carry_ask denied_tables
    ask_refused n w e f = (λ j. out (f j) (ask_left a size mask (f j)) start) ∙ sym (rw e refl)

    pub ask_lacks : (n : ℕ) (w : Said) (h₁ r₁ : List ℕ) → n ≡ grown_to (level_for s size mask) start → tables h₁ [] [] [] r₁ ≡ grown_tables s n (tables head [] [] [] tree)
        → w ≡ Paper.refusal 9 [] → out w (ask_left a size mask w) (tables h₁ loans chunks index r₁) ≡ carry_ask s a size mask start (deny 9)
    unfolding carry_ask denied_tables
    ask_lacks n w h₁ r₁ d e f =
        let r = grown_rest n h₁ r₁ e in
        (λ j. out (f j) (ask_left a size mask (f j)) (r j)) ∙ (λ j. out (Paper.refusal 9 []) a (grown_tables s (d j) start))

    pub ask_taken : (i z lev : ℕ) (l : Loan) (w : Said) (l' i' r' : List ℕ) → z ≡ size_for s size mask → lev ≡ level_for s size mask
        → l ≡ loan_from s z (tables [] loans [] [] tree) i → tables [] l' [] i' r' ≡ taken_tables s z lev (tables [] loans [] index tree) i
        → w ≡ block_said l → out w (ask_left a size mask w) (tables head l' chunks i' r') ≡ carry_ask s a size mask start (take i)
    unfolding carry_ask taken_tables booked_tables
    ask_taken i z lev l w l' i' r' p q f t k =
        (λ j. out (k j) (ask_left a size mask (k j)) (tables head (t j).loans chunks (t j).index (t j).room))
        ∙ (λ j. out (block_said (f j)) a (taken_tables s z lev start i))
        ∙ (λ j. out (block_said (loan_from s (p j) start i)) a (taken_tables s (p j) (q j) start i))

    pub ask_ordered : (z n : ℕ) (w : Said) (h₁ r₁ : List ℕ) → n ≡ grown_to (level_for s size mask) start → tables h₁ [] [] [] r₁ ≡ grown_tables s n (tables head [] [] [] tree)
        → w ≡ Paper.order_of (order_from s.store z) → out w (ask_left a size mask w) (tables h₁ loans chunks index r₁) ≡ carry_ask s a size mask start (buy z)
    unfolding carry_ask
    ask_ordered z n w h₁ r₁ d e f =
        let r = grown_rest n h₁ r₁ e in
        (λ j. out (f j) (ask_left a size mask (f j)) (r j))
        ∙ (λ j. out (Paper.order_of (order_from s.store z)) (ask_left a size mask (Paper.order_of (order_from s.store z))) (grown_tables s (d j) start))

  -- ---- a delivery

  module _ (k : KeptOrder) (share : Share) (o : OpenOrder) where
    -- the levels grown to n
    module _ (n : ℕ) (d : n ≡ grown_to (level_for s k.ask.size k.ask.mask) start) (h₁ r₁ : List ℕ) (e : tables h₁ [] [] [] r₁ ≡ grown_tables s n (tables head [] [] [] tree)) where
      -- the chunk is added and lent from
      pub kept_done : (memory z lev : ℕ) (t' : Tables) (share' paid : Share) (order : OpenOrder) (l : Loan) (said : Said)
          → z ≡ size_for s k.ask.size k.ask.mask → lev ≡ level_for s k.ask.size k.ask.mask
          → paid ≡ charged_share share k.order.size
          → l ≡ loan (get_or loans given_at 0 + 1) (chunk_taken s (tables h₁ [] chunks [] r₁)).place 0 z
          → t' ≡ served_tables s z lev memory k.order.size (tables h₁ loans chunks index r₁)
          → share' ≡ paid → order ≡ None → said ≡ block_said l → out said (holding s.store share' order) t' ≡ carry_fate s (holding s.store share o) k start (kept memory)
      unfolding carry_fate served_tables
      kept_done memory z lev t' share' paid order l said p q c m g y v w =
          let mid = grown_rest n h₁ r₁ e ∙ (λ j. grown_tables s (d j) start) in
          let left = y ∙ c in
          let a = holding s.store share o in
          let settled = (λ j. holding s.store (left j) (v j)) ∙ sym (held_charged s.store share o k.order.size) in
          (λ j. out (w j) (settled j) (g j))
          ∙ (λ j. out (block_said (m j)) (charged_account s.store a k.order.size) (served_tables s z lev memory k.order.size (mid j)))
          ∙ (λ j. out (block_said (loan (get_or (mid j).loans given_at 0 + 1) (chunk_taken s (mid j)).place 0 (p j))) (charged_account s.store a k.order.size) (served_tables s (p j) (q j) memory k.order.size (grown_tables s (grown_to (level_for s k.ask.size k.ask.mask) start) start)))

      pub lost_done : (c : ℕ) (charged : Bool) (back : List ℕ) (share' : Share) (order : OpenOrder) (said : Said)
          → share' ≡ lost_share share k.order.size charged back → order ≡ None → said ≡ Paper.refusal c back
          → out said (holding s.store share' order) (tables h₁ loans chunks index r₁) ≡ carry_fate s (holding s.store share o) k start (lost c charged back)
      unfolding carry_fate
      lost_done c charged back share' order said f v g =
          let mid = grown_rest n h₁ r₁ e ∙ (λ j. grown_tables s (d j) start) in
          let settled = (λ j. holding s.store (f j) (v j)) ∙ sym (held_lost s.store share o k.order.size charged back) in
          (λ j. out (g j) (settled j) (mid j))

    -- the same beside tables that were not lent
    pub lost_beside : (a : Account) (n : ℕ) (charged : Bool) (back : List ℕ) (h₁ r₁ : List ℕ) (account : Account) (said : Said)
        → out said account (tables h₁ [] [] [] r₁) ≡ carry_fate s a k (tables head [] [] [] tree) (lost n charged back)
        → out said account (tables h₁ loans chunks index r₁) ≡ carry_deliver s a start (Deliver.go k (lost n charged back))
    unfolding carry_deliver carry_fate grown_tables
    lost_beside a n charged back h₁ r₁ account said e = ap (λ (x : Out Tables). out x.said x.account (tables x.tables.head loans chunks index x.tables.room)) e

  -- the grown tables that the code left are ready for the chunk, at the places that were found before
  module _ (k : KeptOrder) (b : Buying) (has : KeptBuys s k start b) (more : get_or head levels_at 0 ≤ b.levels) (most : b.levels ≤ levels_most) (h₁ r₁ : List ℕ) (e : tables h₁ [] [] [] r₁ ≡ grown_tables s b.levels (tables head [] [] [] tree)) where
    pub serves_now : (lev memory z : ℕ) → Serves s lev memory z (grown_tables s b.levels start) → Serves s lev memory z (tables h₁ loans chunks index r₁)
    serves_now lev memory z r = subst (λ (t : Tables). Serves s lev memory z t) (sym (grown_rest b.levels h₁ r₁ e)) r

    pub loan_now : b.loan ≡ next_loan (tables h₁ loans chunks index r₁)
    loan_now = has.loan ∙ sym (grown_next s start b.levels) ∙ ap next_loan (sym (grown_rest b.levels h₁ r₁ e))

    pub chunk_now : b.chunk ≡ chunk_taken s (tables h₁ [] chunks [] r₁)
    chunk_now = has.chunk ∙ sym (grown_taken s start b.levels more most) ∙ ap (chunk_taken s) (sym (grown_rest b.levels h₁ r₁ e))

-- ---- the call

module _ (s : BuddySettings) (share : Share) (order : OpenOrder) (t : Tables) where
  pub deliver_refused : (n : ℕ) (share' : Share) (left : OpenOrder) (said : Said) → share' ≡ share → left ≡ order → said ≡ Paper.refusal n []
      → out said (holding s.store share' left) t ≡ carry_deliver s (holding s.store share order) t (Deliver.deny n)
  unfolding carry_deliver
  deliver_refused n share' left said g v w = λ j. out (w j) (holding s.store (g j) (v j)) t

  pub deliver_kept : (x : Out Tables) (k : KeptOrder) (memory : ℕ) → x ≡ carry_fate s (holding s.store share order) k t (kept memory) → x ≡ carry_deliver s (holding s.store share order) t (Deliver.go k (kept memory))
  unfolding carry_deliver
  deliver_kept x k memory e = e

-- ---- a return

module _ (s : BuddySettings) (share : Share) (b : Block) (t : Tables) (list : List ℕ) where
  abbrev held : Account
  held = holder s.store share

  pub return_refused : (share' : Share) (said : Said) (n : ℕ) → share' ≡ share → said ≡ Paper.refusal n [] → listed said (holder s.store share') t list ≡ carry_return s held b t list (Return.deny n)
  unfolding carry_return
  return_refused share' said n same says = λ j. listed (says j) (holder s.store (same j)) t list

  module _ (w : ℕ) (f : Freed) (is : f ≡ freed_by s b w t) where
    -- by whether the chunk went
    count_is : (x : Bool) → (climb_for s b w t).freed ≡ x → f.count ≡ cond x 1 0
    count_is true e = ap (λ (y : Freed). y.count) is ∙ rw e refl
    count_is false e = ap (λ (y : Freed). y.count) is ∙ rw e refl

    pub return_room : share.objects ≤ objects_most → ((climb_for s b w t).freed ≡ true → share.objects + 1 ≤ objects_most) → share.objects + f.count ≤ objects_most
    return_room low room = by (climb_for s b w t).freed refl
      where
        by : (x : Bool) → (climb_for s b w t).freed ≡ x → share.objects + f.count ≤ objects_most
        by true e = let c = count_is true e in omega (arith, c, room e)
        by false e = let c = count_is false e in omega (arith, c, low)

    pub return_done : (t' : Tables) (list' : List ℕ) (share' : Share) (said : Said) → t' ≡ given_tables s b w t → list' ≡ freed_list s b w t list
        → share' ≡ released_share share f.count f.bytes → said ≡ Paper.released f.count
        → listed said (holder s.store share') t' list' ≡ carry_return s held b t list (Return.back w)
    unfolding carry_return released_by
    return_done t' list' share' said g i k l =
        let left = ap (holder s.store) k ∙ sym (held_released s.store share (order_by share.idle) f.count f.bytes) in
        (λ j. listed (l j) (left j) (g j) (i j))
        ∙ (λ j. listed (Paper.released (is j).count) (released_account s.store held (is j).count (is j).bytes) (given_tables s b w t) (freed_list s b w t list))
        ∙ by (climb_for s b w t).freed refl
      where
        by : (x : Bool) → (climb_for s b w t).freed ≡ x
            → listed (Paper.released (freed_by s b w t).count) (released_account s.store held (freed_by s b w t).count (freed_by s b w t).bytes) (given_tables s b w t) (freed_list s b w t list) ≡ released_by s held b w t list
        by true e = rw e refl
        by false e = rw e refl

-- ---- the calls

pub ask_called : (s : BuddySettings) (a : Account) (size mask : ℕ) (t : Tables) (p : Plan ℕ) → p ≡ plan_ask s a size mask t → carry_ask s a size mask t p ≡ ask_of s a size mask t
unfolding ask_of
ask_called s a size mask t p e = ap (carry_ask s a size mask t) e

pub deliver_called : (s : BuddySettings) (a : Account) (o : Outcome) (t : Tables) (p : Deliver.Arrival) → p ≡ plan_deliver s a o t → carry_deliver s a t p ≡ deliver_of s a o t
unfolding deliver_of
deliver_called s a o t p e = ap (carry_deliver s a t) e

pub return_called : (s : BuddySettings) (a : Account) (b : Block) (t : Tables) (list : List ℕ) (p : Return.Plan) → p ≡ plan_return s a b t (list_ok s.store list) → carry_return s a b t list p ≡ return_of s a b t list
unfolding return_of
return_called s a b t list p e = ap (carry_return s a b t list) e
