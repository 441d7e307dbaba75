-- After a call that opened no order, on a store that passes tests 1 to 4, they pass again.
use mathlib.Core.Path.{◌≡◌, refl, ap, ◌∙◌}
use mathlib.Core.Bool.{Bool, true, false, ◌&&◌}
use mathlib.Core.List.{List}
use Prim.Native.Nat.{ℕ, ◌+◌}
use native.Mathlib.Omega.{arith}
use Rattle.lists.proofs.Bools.{true_false, and_both}
use Rattle.counter.specs.Account.{Typed, heap_at}
use Rattle.counter.specs.Gate.{pass}
use Rattle.counter.specs.InTable.{FreeListIn}
use Rattle.counter.specs.Table.{free_list_ok, heaps_ok}
use Rattle.counter.specs.declared.account.Account.{Account}
use Rattle.counter.specs.declared.account.KeptOrder.{KeptOrder}
use Rattle.counter.specs.Open.{OpenOrder}
use Rattle.std.specs.Prelude.{None, Some}
use Rattle.counter.specs.declared.answers.Block.{Block}
use Rattle.counter.specs.declared.answers.Outcome.{Outcome}
use Rattle.counter.specs.declared.settings.FreeListSettings.{FreeListSettings}
use Rattle.counter.proofs.Gates.{passed, passes}
use Rattle.counter.proofs.Tables.{free_list_all}
use Rattle.heap.specs.Heap.{bears_ok, Within}
use Rattle.store_rules.specs.Outcomes.{Out, Listed, released_account}
use Rattle.store_rules.specs.Tests.{no_order, open_for, gate_row}
use Rattle.freelist_rules.specs.Records.{Store, chunk}
use Rattle.freelist_rules.specs.Tables.{Tables, Lengths, lengths_ok, store_of, sound_ok, SoundTables}
use Rattle.freelist_rules.proofs.Fits.{lengths_are, are_lengths}
use Rattle.freelist_rules.proofs.Tested.{tables_all}
use Rattle.freelist_outcomes.specs.Gate.{in_table_ok, account_ok, gate_of}
use Rattle.freelist_outcomes.specs.Ask.{ask_of}
use Rattle.freelist_outcomes.specs.Deliver.{still_ok, deliver_gate_of, carry_fate, deliver_of}
use Rattle.freelist_outcomes.specs.Return.{word_for, given_tables, release_of, return_of, clean_up_of}
use Rattle.freelist_outcomes.proofs.Accounts.{account_same, released_heaps, released_account_lem, charged_heaps, charged_account_lem, lost_heaps, lost_account_lem}
use Rattle.freelist_outcomes.proofs.Arrives.{lent_lengths, lent_store, lent_tables_sound}
use Rattle.freelist_outcomes.proofs.Changed.{released_lengths, released_tables_sound}
use Rattle.freelist_outcomes.proofs.Comes.{Open, AskComes, lends, orders, ask_comes, DeliverComes, keeps, loses, deliver_comes, ReturnComes, takes, return_comes, CleanUpComes, cleans, clean_up_comes}
use Rattle.freelist_outcomes.proofs.Given.{given_lengths, given_store, given_sound}
use Rattle.freelist_outcomes.proofs.Taken.{taken_lengths, taken_store, taken_sound}

-- what tests 1 to 4 ask for
pub gate_passes : (s : FreeListSettings) (a : Account) (t : Tables) → FreeListIn s → heaps_ok a.heaps ≡ true → Lengths s t → no_order a.order ≡ true → SoundTables s t → account_ok s a t ≡ true → gate_of s a t true ≡ pass
unfolding gate_of in_table_ok
gate_passes s a t fit heaps lengths none sound covered =
    passes (gate_row (in_table_ok s a t && true) (no_order a.order) (sound_ok s t) (account_ok s a t)) (
      and_both (in_table_ok s a t) true (and_both (free_list_ok s) (heaps_ok a.heaps && lengths_ok s t) (free_list_all s fit) (and_both (heaps_ok a.heaps) (lengths_ok s t) heaps (are_lengths s t lengths))) refl,
      (none, (tables_all s t fit sound, (covered, tt))),
    )

-- after a release from a store that is right with its account
release_passes : (s : FreeListSettings) (a : Account) (t : Tables) (spare : Bool) (list : List ℕ) → FreeListIn s → heaps_ok a.heaps ≡ true → Lengths s t → no_order a.order ≡ true → SoundTables s t
    → Within (heap_at a s.store.heap) → account_ok s a t ≡ true → gate_of s (release_of s a spare t list).account (release_of s a spare t list).tables true ≡ pass
unfolding release_of released_account
release_passes s a t spare list fit heaps lengths none sound within covered =
    gate_passes s (release_of s a spare t list).account (release_of s a spare t list).tables fit
    (released_heaps s a t fit lengths sound spare heaps)
    (released_lengths s t fit lengths sound spare)
    none
    (released_tables_sound s t fit lengths sound spare)
    (released_account_lem s a t fit lengths sound spare within covered)

-- 1 to 4 pass: values in the table, no order open, the store sound, the account covering it
module _ (s : FreeListSettings) (a : Account) (t : Tables) (typed : Typed a) (passes_now : gate_of s a t true ≡ pass) where
  -- no order is open
  none_open : no_order a.order ≡ true
  unfolding gate_of
  none_open = (passed (gate_row (in_table_ok s a t && true) (no_order a.order) (sound_ok s t) (account_ok s a t)) passes_now).1.0

  -- after an ask that opened no order tests 1 to 4 pass again
  pub ask_again : (size mask : ℕ) → no_order (ask_of s a size mask t).account.order ≡ true → gate_of s (ask_of s a size mask t).account (ask_of s a size mask t).tables true ≡ pass
  ask_again size mask = go (ask_of s a size mask t) (ask_comes s a size mask t)
    where
      go : (o : Out Tables) → AskComes s a size mask t o → no_order o.account.order ≡ true → gate_of s o.account o.tables true ≡ pass
      go _ (AskComes.denied n) none = passes_now
      go o (lends i p v) none =
          let lengths = lengths_are s t p.lengths in
          gate_passes s a o.tables p.settings p.heaps
          (taken_lengths s t p.settings lengths p.sound size mask i v.aligned v.some v.place v.found)
          none
          (taken_sound s t p.settings lengths p.sound size mask i v.aligned v.some v.place v.found)
          (account_same s a t o.tables (ap (λ (x : Store). x.chunks) (taken_store s t p.settings lengths p.sound size mask i v.aligned v.some v.place v.found)) p.covered)
      go _ (orders p v) none = absurd (true_false false none refl)

  -- and after a return, taken or not
  pub return_again : (b : Block) (list : List ℕ) → gate_of s (return_of s a b t list).account (return_of s a b t list).tables true ≡ pass
  return_again b list = go (return_of s a b t list) (return_comes s a b t list)
    where
      go : (r : Listed Tables) → ReturnComes s a b t list r → gate_of s r.account r.tables true ≡ pass
      go _ (ReturnComes.denied n) = passes_now
      go _ (takes p on) =
          let lengths = lengths_are s t p.lengths in
          let u = given_tables s b (word_for s b t) t in
          release_passes s a u true list p.settings p.heaps (given_lengths s t p.settings lengths p.sound b on) none_open (given_sound s t p.settings lengths p.sound b on) (typed.totals s.store.heap)
          (account_same s a t u (ap (λ (x : Store). x.chunks) (given_store s t p.settings lengths p.sound b on)) p.covered)

  -- and after a clean-up
  pub clean_up_again : (list : List ℕ) → gate_of s (clean_up_of s a t list).account (clean_up_of s a t list).tables true ≡ pass
  clean_up_again list = go (clean_up_of s a t list) (clean_up_comes s a t list)
    where
      go : (r : Listed Tables) → CleanUpComes s a t list r → gate_of s r.account r.tables true ≡ pass
      go _ (CleanUpComes.denied n) = passes_now
      go _ (cleans p) = release_passes s a t false list p.settings p.heaps (lengths_are s t p.lengths) none_open p.sound (typed.totals s.store.heap) p.covered

-- a delivery's gate asks for an order of this store
deliver_for : (s : FreeListSettings) (a : Account) (t : Tables) → deliver_gate_of s a t ≡ pass → open_for s.store.number a.order ≡ true
unfolding deliver_gate_of
deliver_for s a t g = (passed (gate_row (in_table_ok s a t) (open_for s.store.number a.order) (sound_ok s t && still_ok s a t a.order) (account_ok s a t)) g).1.0

-- and after a delivery that closed the order, into an account that has all its heaps: one that lacks the store's heap
-- charges nothing for the chunk, and 4 would fail
pub deliver_again : (s : FreeListSettings) (a : Account) (o : Outcome) (t : Tables) → Typed a → deliver_gate_of s a t ≡ pass → no_order (deliver_of s a o t).account.order ≡ true
    → gate_of s (deliver_of s a o t).account (deliver_of s a o t).tables true ≡ pass
unfolding carry_fate
deliver_again s a o t typed passes_now = go (deliver_of s a o t) (deliver_comes s a o t)
  where
    -- the gate asked for an order
    open_none : (x : OpenOrder) → open_for s.store.number x ≡ true → no_order x ≡ true → ⊥
    open_none None e f = true_false false e refl
    open_none (Some k) e f = true_false false f refl

    bears : (k : KeptOrder) → Open s a t k → bears_ok (heap_at a s.store.heap) k.order.size ≡ true
    bears k w = ap (bears_ok (heap_at a s.store.heap)) w.size ∙ w.buys.bears

    go : (r : Out Tables) → DeliverComes s a o t r → no_order r.account.order ≡ true → gate_of s r.account r.tables true ≡ pass
    go _ (DeliverComes.denied n) none = absurd (open_none a.order (deliver_for s a t passes_now) none)
    go r (keeps k m e w new) none =
        gate_passes s r.account r.tables w.settings
        (charged_heaps s a t w.settings k.order.size (bears k w) w.heaps)
        (lent_lengths s a t k w m.number new)
        none
        (lent_tables_sound s a t k w m.number new)
        (charged_account_lem s a t w.settings k.order.size (bears k w) (omega (arith, typed.heaps, w.settings.store.heap)) w.buys.object w.covered r.tables
        (chunk ((store_of s t).made + 1) m.number k.order.size)
        refl
        (ap (λ (x : Store). x.chunks) (lent_store s a t k w m.number new)))
    go r (loses k n charged back w e h) none =
        gate_passes s r.account t w.settings
        (lost_heaps s a t w.settings k.order.size (bears k w) charged back w.heaps)
        (lengths_are s t w.lengths)
        none
        w.sound
        (lost_account_lem s a t w.settings k.order.size (bears k w) charged back w.covered)
