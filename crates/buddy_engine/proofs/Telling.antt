-- The buddy tells its caller of every loan and every chunk, as an engine has to.
use mathlib.Core.Path.{◌≡◌, refl, sym, ap, subst, ◌∙◌}
use mathlib.Core.Logic.{◌⊎◌, inl, inr, ⊎_elim, ◌↔◌}
use mathlib.Core.List.{List, [], Memᴰ}
use Prim.Native.Nat.{ℕ}
use Rattle.lists.proofs.Bools.{told}
use Rattle.counter.specs.Gate.{Verdict, pass, refuse}
use Rattle.counter.specs.Paper as Paper
use Rattle.counter.specs.declared.account.Account.{Account}
use Rattle.counter.specs.declared.account.KeptOrder.{KeptOrder}
use Rattle.std.specs.Prelude.{Some}
use Rattle.counter.specs.declared.answers.Block.{Block}
use Rattle.counter.specs.declared.answers.Memory.{Memory}
use Rattle.counter.specs.declared.answers.Outcome.{Outcome}
use Rattle.counter.specs.declared.answers.Outcome.TheVariants as O
use Rattle.counter.specs.declared.settings.BuddySettings.{BuddySettings}
use Rattle.store_rules.specs.Delivery.{kept}
use Rattle.store_rules.specs.Loans.{loans_of}
use Rattle.store_rules.specs.Outcomes.{Out, Listed}
use Rattle.store_rules.specs.Views.{chunk}
use Rattle.store_rules.specs.declared.Chunk.{Chunk}
use Rattle.store_rules.specs.declared.Loan.{Loan}
use Rattle.store_rules.proofs.Amid.{amid_member}
use Rattle.store_rules.proofs.Said.{not_refused, refusal_block, same_block_lem}
use Rattle.engines.specs.Tells.{lent_by, Joined, Blocked, Ordered, Released, Refused, Tells}
use Rattle.engines.proofs.Joins.{block_of, own_block, none_joined, amid_joined}
use Rattle.buddy_rules.specs.Tables.{Tables}
use Rattle.buddy_rules.specs.Views.{loans_in, chunks_in}
use Rattle.buddy_outcomes.specs.Ask.{grown_to, grown_tables, loan_from, denied_tables, chunk_taken, carry_ask, ask_of, size_for, level_for}
use Rattle.buddy_outcomes.specs.Deliver.{loan_in, as_ordered, carry_fate, deliver_of}
use Rattle.buddy_outcomes.specs.Return.{word_for, climb_for, released_by, return_of}
use Rattle.buddy_outcomes.specs.SetUp.{fresh_tables, plan_set_up, carry_set_up, set_up_of}
use Rattle.buddy_outcomes.proofs.Comes.{AskComes, denied, lends, orders, ask_comes, DeliverComes, early, loses, keeps, deliver_comes, grown_loans, grown_chunks, denied_tables_lem, taken_amid, served_amid, served_chunks}
use Rattle.buddy_outcomes.proofs.Heads.{fresh_places}
use Rattle.buddy_outcomes.proofs.Lendings.{taken_chunks}
use Rattle.buddy_outcomes.proofs.Returned as Returned
use Rattle.buddy_outcomes.proofs.Returned.{ReturnComes, return_comes}
use Rattle.buddy_engine.specs.Shape.{buddy_shape}

-- ---- the forms of its answers

set_up_says : (s : BuddySettings) (t : Tables) → ((set_up_of s t).said ≡ Paper.ready) ⊎ Refused (set_up_of s t).said
unfolding set_up_of carry_set_up
set_up_says s t = by (plan_set_up s t)
  where
    by : (v : Verdict) → ((carry_set_up s t v).said ≡ Paper.ready) ⊎ Refused (carry_set_up s t v).said
    by pass = inl refl
    by (refuse n) = inr (n, [], refl)

ask_says : (s : BuddySettings) (a : Account) (size mask : ℕ) (t : Tables) (r : Out Tables) → AskComes s a size mask t r → Blocked r.said ⊎ (Ordered r.said ⊎ Refused r.said)
unfolding carry_ask
ask_says s a size mask t _ (denied n) = inr (inr (n, [], refl))
ask_says s a size mask t _ (lends i p w) = inl (_, _, _, _, refl)
ask_says s a size mask t _ (orders z p e) = inr (inl (_, _, _, _, refl))

deliver_says : (s : BuddySettings) (a : Account) (o : Outcome) (t : Tables) (r : Out Tables) → DeliverComes s a o t r → Blocked r.said ⊎ Refused r.said
unfolding carry_fate
deliver_says s a o t _ (early n) = inr (n, [], refl)
deliver_says s a o t _ (loses k n charged back) = inr (n, back, refl)
deliver_says s a o t _ (keeps k m f e l sound b) = inl (_, _, _, _, refl)

return_says : (s : BuddySettings) (a : Account) (b : Block) (t : Tables) (list : List ℕ) (r : Listed Tables) → ReturnComes s a b t list r → Released r.said ⊎ Refused r.said
unfolding released_by
return_says s a b t list _ (Returned.denied n) = inr (n, [], refl)
return_says s a b t list _ (Returned.takes p on) = ⊎_elim (λ e. inl (1, rw e)) (λ e. inl (0, rw e)) (told (climb_for s b (word_for s b t) t).freed)

-- ---- loans

ask_lends : (s : BuddySettings) (a : Account) (size mask : ℕ) (t : Tables) (r : Out Tables) → AskComes s a size mask t r → Joined (loans_in r.tables) (loans_in t) (lent_by r.said)
unfolding carry_ask
ask_lends s a size mask t _ (denied n) =
    none_joined (loans_in (denied_tables s (level_for s size mask) n t)) (loans_in t)
    (⊎_elim (λ e. ap loans_in e ∙ grown_loans s (grown_to (level_for s size mask) t) t) (λ e. ap loans_in e) (denied_tables_lem s size mask n t))
ask_lends s a size mask t _ (lends i p w) =
    let l = loan_from s (size_for s size mask) t i in
    amid_joined (block_of l) l (loans_in t) _ (own_block l) (taken_amid s t p.lent.settings p.lent.lengths p.sound size mask i w)
ask_lends s a size mask t _ (orders z p e) = none_joined (loans_in (grown_tables s (grown_to (level_for s size mask) t) t)) (loans_in t) (grown_loans s (grown_to (level_for s size mask) t) t)

deliver_lends : (s : BuddySettings) (a : Account) (o : Outcome) (t : Tables) (r : Out Tables) → DeliverComes s a o t r → Joined (loans_in r.tables) (loans_in t) (lent_by r.said)
unfolding carry_fate
deliver_lends s a o t _ (early n) = none_joined (loans_in t) (loans_in t) refl
deliver_lends s a o t _ (loses k n charged back) = none_joined (loans_in (as_ordered s k t)) (loans_in t) (grown_loans s (grown_to (level_for s k.ask.size k.ask.mask) t) t)
deliver_lends s a o t _ (keeps k m f e l sound b) =
    let x = loan_in s k.ask.size k.ask.mask (as_ordered s k t) in
    amid_joined (block_of x) x (loans_in t) _ (own_block x)
    (served_amid s t l.settings l.lengths sound k.ask.size k.ask.mask k.order.size m.number b)

fresh_none : (s : BuddySettings) (t : Tables) → (set_up_of s t).said ≡ Paper.ready → loans_in (set_up_of s t).tables ≡ []
unfolding set_up_of carry_set_up fresh_tables loans_of
fresh_none s t = by (plan_set_up s t)
  where
    by : (v : Verdict) → (carry_set_up s t v).said ≡ Paper.ready → loans_in (carry_set_up s t v).tables ≡ []
    by pass e = ap (λ (n : ℕ). loans_of n (fresh_tables s).loans) (fresh_places s)
    by (refuse n) e = not_refused Paper.ready n [] refl (sym e)

-- ---- chunks

ask_leaves : (s : BuddySettings) (a : Account) (size mask : ℕ) (t : Tables) (r : Out Tables) → AskComes s a size mask t r → chunks_in r.tables ≡ chunks_in t
unfolding carry_ask
ask_leaves s a size mask t _ (denied n) = ⊎_elim (λ e. ap chunks_in e ∙ grown_chunks s (grown_to (level_for s size mask) t) t) (λ e. ap chunks_in e) (denied_tables_lem s size mask n t)
ask_leaves s a size mask t _ (lends i p w) = taken_chunks s size mask t i
ask_leaves s a size mask t _ (orders z p e) = grown_chunks s (grown_to (level_for s size mask) t) t

abbrev Arrives : BuddySettings → Account → Outcome → Tables → Tables → ℕ → Type 0
Arrives s a o t u number =
    (k : KeptOrder) × (m : Memory) × (a.order ≡ Some k) × (o ≡ O.Made m)
    × ((c : Chunk) → Memᴰ c (chunks_in u) ↔ (Memᴰ c (chunks_in t) ⊎ (c ≡ chunk number m.number k.order.size)))

-- a delivery that lends a block lends it from the new chunk
deliver_arrives : (s : BuddySettings) (a : Account) (o : Outcome) (t : Tables) (serial number offset len : ℕ) (r : Out Tables) → DeliverComes s a o t r → r.said ≡ Paper.block serial number offset len
    → Arrives s a o t r.tables number
unfolding carry_fate
deliver_arrives s a o t serial number offset len _ (early n) q = refusal_block n [] serial number offset len q
deliver_arrives s a o t serial number offset len _ (loses k n charged back) q = refusal_block n back serial number offset len q
deliver_arrives s a o t serial number offset len _ (keeps k m f e l sound b) q =
    let x : Loan = loan_in s k.ask.size k.ask.mask (as_ordered s k t) in
    let its : number ≡ (chunk_taken s (as_ordered s k t)).place = sym (same_block_lem x.serial x.chunk x.offset x.size serial number offset len q).1 in (
      k,
      m,
      e,
      f,
      λ c.
          subst (λ (n : ℕ). Memᴰ c (chunks_in (carry_fate s a k t (kept m.number)).tables) ↔ (Memᴰ c (chunks_in t) ⊎ (c ≡ chunk n m.number k.order.size))) (sym its)
          (amid_member (chunk (chunk_taken s (as_ordered s k t)).place m.number k.order.size) (chunks_in t) _ (served_chunks s t l.settings l.lengths sound k.ask.size k.ask.mask k.order.size m.number b) c),
    )

-- the buddy tells as an engine has to
pub buddy_tells : Tells buddy_shape
buddy_tells =
    record {
      set_up_says = λ s t. set_up_says s t;
      ask_says = λ s a size mask t. ask_says s a size mask t (ask_of s a size mask t) (ask_comes s a size mask t);
      deliver_says = λ s a o t. deliver_says s a o t (deliver_of s a o t) (deliver_comes s a o t);
      return_says = λ s a b t list. return_says s a b t list (return_of s a b t list) (return_comes s a b t list);
      other_says = λ s a c t list. absurd c;
      fresh = λ s t e. fresh_none s t e;
      ask_loans = λ s a size mask t. ask_lends s a size mask t (ask_of s a size mask t) (ask_comes s a size mask t);
      deliver_loans = λ s a o t. deliver_lends s a o t (deliver_of s a o t) (deliver_comes s a o t);
      other_loans = λ s a c t list. absurd c;
      ask_chunks = λ s a size mask t. ask_leaves s a size mask t (ask_of s a size mask t) (ask_comes s a size mask t);
      deliver_chunks = λ s a o t serial number offset len e. deliver_arrives s a o t serial number offset len (deliver_of s a o t) (deliver_comes s a o t) e;
    }
