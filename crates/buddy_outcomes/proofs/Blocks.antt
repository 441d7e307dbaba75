-- A new block is as it has to be, and of its own size: what an ask and a delivery lend.
use mathlib.Core.Path.{◌≡◌, sym, ap, ap₂, subst, ◌∙◌}
use mathlib.Core.List.{List}
use Prim.Native.Nat.{ℕ, ◌%◌}
use native.Mathlib.Nat.{zero-mod}
use Rattle.counter.specs.Paper as Paper
use Rattle.counter.specs.declared.account.Account.{Account}
use Rattle.counter.specs.declared.account.KeptOrder.{KeptOrder}
use Rattle.std.specs.Prelude.{Some}
use Rattle.counter.specs.declared.answers.Outcome.{Outcome}
use Rattle.counter.specs.declared.settings.BuddySettings.{BuddySettings}
use Rattle.store_rules.specs.Outcomes.{Out, charged_account}
use Rattle.store_rules.specs.Views.{GoodBlock}
use Rattle.store_rules.specs.declared.Chunk.{Chunk}
use Rattle.buddy_rules.specs.Tables.{Tables, given_in}
use Rattle.buddy_rules.specs.Views.{loans_in, chunks_in}
use Rattle.buddy_outcomes.specs.Ask.{size_for, ask_of}
use Rattle.buddy_outcomes.specs.Deliver.{deliver_of}
use Rattle.buddy_outcomes.proofs.Lendings.{taken_chunks, good_as, ask_served, served_stretch, stretch_good}
use Rattle.buddy_outcomes.proofs.Arrives.{deliver_came, came_good}

-- ---- an ask

module _ (s : BuddySettings) (a : Account) (size mask : ℕ) (t : Tables) (serial chunk offset len : ℕ) (q : (ask_of s a size mask t).said ≡ Paper.block serial chunk offset len) where
  -- an ask answered by a block: the block is good, and the account is as it was
  pub ask_block : GoodBlock s.store.atom size mask (given_in t) (loans_in t) (chunks_in (ask_of s a size mask t).tables) serial chunk offset len × ((ask_of s a size mask t).account ≡ a)
  ask_block =
      let v = ask_served s a size mask t serial chunk offset len q in
      let w = v.taken in
      let fit = v.passed.lent.settings in
      let f = served_stretch s t fit v.passed.lent.lengths v.passed.sound size mask v.level w in
      let e : chunks_in (ask_of s a size mask t).tables ≡ chunks_in t = ap (λ (r : Out Tables). chunks_in r.tables) v.left ∙ taken_chunks s size mask t v.level in
      let g = stretch_good s t fit v.passed.sound size mask w.aligned w.sized _ _ f in (
        subst (λ (cs : List Chunk). GoodBlock s.store.atom size mask (given_in t) (loans_in t) cs serial chunk offset len) (sym e)
            (good_as _ _ _ _ serial chunk offset len v.serial_is v.chunk_is v.offset_is v.len_is g),
        ap (λ (r : Out Tables). r.account) v.left,
      )

  -- it is as long as 01 says, and begins at a multiple of its own size
  pub ask_own_size : (len ≡ size_for s size mask) × (offset % len ≡ 0)
  ask_own_size =
      let v = ask_served s a size mask t serial chunk offset len q in
      let f = served_stretch s t v.passed.lent.settings v.passed.lent.lengths v.passed.sound size mask v.level v.taken in
      (v.len_is, ap₂ (λ (x y : ℕ). x % y) v.offset_is v.len_is ∙ f.aligned)

-- ---- a delivery

module _ (s : BuddySettings) (a : Account) (o : Outcome) (t : Tables) (serial chunk offset len : ℕ) (q : (deliver_of s a o t).said ≡ Paper.block serial chunk offset len) where
  -- a delivery answered by a block: the block is good for the ask that was kept, and the account is charged
  pub deliver_block : (k : KeptOrder) × (a.order ≡ Some k) × GoodBlock s.store.atom k.ask.size k.ask.mask (given_in t) (loans_in t) (chunks_in (deliver_of s a o t).tables) serial chunk offset len
      × ((deliver_of s a o t).account ≡ charged_account s.store a k.order.size)
  deliver_block =
      let v = deliver_came s a o t serial chunk offset len q in
      let k = v.order in
      let g = came_good s t v.lent.settings v.lent.lengths v.sound k.ask.size k.ask.mask k.order.size v.memory v.bought in (
        k,
        v.ordered,
        subst (λ (u : Tables). GoodBlock s.store.atom k.ask.size k.ask.mask (given_in t) (loans_in t) (chunks_in u) serial chunk offset len) (sym v.left)
            (good_as _ _ _ _ serial chunk offset len v.serial_is v.chunk_is v.offset_is v.len_is g),
        v.charged,
      )

  -- it is as long as 01 says, and begins at a multiple of its own size
  pub deliver_own_size : (k : KeptOrder) × (a.order ≡ Some k) × (len ≡ size_for s k.ask.size k.ask.mask) × (offset % len ≡ 0)
  deliver_own_size =
      let v = deliver_came s a o t serial chunk offset len q in
      (v.order, v.ordered, v.len_is, ap (λ (x : ℕ). x % len) v.offset_is ∙ zero-mod len)
