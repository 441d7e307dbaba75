-- What each exported call leaves: the free list's own where the lent words are right, and else nothing but a refusal.
use mathlib.Core.Path.{◌≡◌, sym, ap, ◌∙◌}
use mathlib.Core.Bool.{Bool, true, false, cond, ◌&&◌}
use mathlib.Core.List.{List, []}
use Prim.Native.Nat.{ℕ}
use Rattle.counter.specs.Paper.{Said, refusal}
use Rattle.counter.specs.declared.account.Account.{Account}
use Rattle.counter.specs.Open.{OpenOrder}
use Rattle.counter.specs.declared.answers.Block.{Block}
use Rattle.counter.specs.declared.answers.Outcome.{Outcome}
use Rattle.counter.specs.declared.settings.FreeListSettings.{FreeListSettings}
use Rattle.store_rules.specs.Outcomes.{out, listed}
use Rattle.store_rules.specs.Shares.{share_of, with_share, ask_left}
use Rattle.store_rules.proofs.Holders.{holding, holder}
use Rattle.store_rules.specs.declared.Share.{Share}
use Rattle.store.proofs.Wholes.{whole_ask, whole_deliver, whole_listed}
use Rattle.freelist_rules.specs.Tables.{Tables}
use Rattle.freelist_outcomes.specs.Ask.{ask_of}
use Rattle.freelist_outcomes.specs.Deliver.{deliver_of}
use Rattle.freelist_outcomes.specs.Return.{return_of, clean_up_of}
use Rattle.freelist_outcomes.specs.SetUp.{Begun, begun, set_up_of}
use Rattle.freelist_outcomes.proofs.Shares.{ask_alike, deliver_alike, return_alike, clean_up_alike}
use Rattle.wire_rules.specs.Wire.{list_words, list_in, settings_ok, order_in, account_in, account_ok, outcome_in, outcome_ok, order_out, account_out, share_out, asked_out, said_out}
use Rattle.wire_rules.proofs.Lent.{both_tested, all_tested, both_right, call_made, call_refused, Ends, ends_made, ends_refused}
use Rattle.wire_rules.proofs.Shares.{holds, holds_order, order_held, asked_out_lem, share_out_lem, released_out}
use Rattle.linked_list.specs.Calls.{listing, right_ok, left_by, left_listed, linked_set_up, linked_ask, linked_deliver, linked_return, linked_clean_up}

-- ---- set-up

-- the tables and the answer's words are those that r says
abbrev Sets : Tables → List ℕ → List ℕ → Begun → Type 0
Sets t w v r = (t ≡ r.tables) × (v ≡ said_out r.said w)

sets_by : (t : Tables) (w v : List ℕ) (said : Said) (r : Begun) → r ≡ begun said t → v ≡ said_out said w → Sets t w v r
sets_by t w v said r e g = (sym (ap (λ (x : Begun). x.tables) e), g ∙ sym (ap (λ (x : Begun). said_out x.said w) e))

module _ (s : List ℕ) (t : Tables) (p : Bool) (w v : List ℕ) (e : p ≡ settings_ok list_words s) where
  -- settings that are right
  pub set_up_made : (u : Tables) (own : FreeListSettings) (said : Said) → p ≡ true → own ≡ list_in s → begun said u ≡ set_up_of own t
      → v ≡ said_out said w → Sets u w v (linked_set_up s t)
  unfolding linked_set_up
  set_up_made u own said h f g k =
      sets_by u w v said (linked_set_up s t)
      (ap (λ (b : Bool). cond b (set_up_of (list_in s) t) (begun (refusal 1 []) t)) (sym e ∙ h)
      ∙ sym (g ∙ ap (λ (x : FreeListSettings). set_up_of x t) f))
      k

  -- settings that are not
  pub set_up_refused : p ≡ false → v ≡ said_out (refusal 1 []) w → Sets t w v (linked_set_up s t)
  unfolding linked_set_up
  set_up_refused h k =
      sets_by t w v (refusal 1 []) (linked_set_up s t)
      (ap (λ (b : Bool). cond b (set_up_of (list_in s) t) (begun (refusal 1 []) t)) (sym e ∙ h))
      k

-- ---- a call with an account

-- what it was given is what was read
read : {R : Type 0} (s : List ℕ) (own : FreeListSettings) (call : FreeListSettings → R) (r : R) → own ≡ list_in s → r ≡ call own → call (list_in s) ≡ r
read s own call r f e = sym (e ∙ ap call f)

-- ---- the calls, by what their tests said

module _ (s a : List ℕ) (p q : Bool) (w v : List ℕ) (d : p ≡ settings_ok list_words s) (e : q ≡ account_ok a) where
  is_right : (b : Bool) → (p && q) ≡ b → right_ok s a ≡ b
  is_right b h = both_tested list_words s a p q d e ∙ h

  are_right : (what mapping : ℕ) (r b : Bool) → r ≡ outcome_ok what mapping → ((p && q) && r) ≡ b → (right_ok s a && outcome_ok what mapping) ≡ b
  are_right what mapping r b k h = all_tested list_words s a what mapping p q r d e k ∙ h

  -- made: the share read, the call made of it, and what it changed of the account and the answer written
  module _ (own : FreeListSettings) (share : Share) (c : List ℕ) (t u : Tables) (said : Said) (f : own ≡ list_in s) (g : share ≡ share_of own.store (account_in a)) where
    pub ask_made : (size mask : ℕ) → (p && q) ≡ true
        → out said (ask_left (holder own.store share) size mask said) u ≡ ask_of own (holder own.store share) size mask t
        → c ≡ asked_out size mask said a → v ≡ said_out said w → Ends c u w v (linked_ask s a size mask t)
    unfolding linked_ask
    ask_made size mask y k m =
        ends_made a c w v u said (ask_left (account_in a) size mask said) (linked_ask s a size mask t)
        (call_made (right_ok s a) a t _ _ (is_right true y)
        (ap (left_by a)
        (read s own (λ x. ask_of x (account_in a) size mask t) (out said (ask_left (account_in a) size mask said) u) f
        (whole_ask own.store (account_in a) said u size mask (holder own.store share) _ _ (ask_alike own (account_in a) (holder own.store share) (holds own.store a share g) size mask t) k))))
        (m ∙ sym (asked_out_lem a (both_right list_words s a p q d e y).1 size mask said))

    pub deliver_made : (what memory mapping : ℕ) (r : Bool) (o : Outcome) (order left_order : OpenOrder) (after : Share) (b : List ℕ)
        → r ≡ outcome_ok what mapping → ((p && q) && r) ≡ true → o ≡ outcome_in what memory mapping → order ≡ order_in a
        → out said (holding own.store after left_order) u ≡ deliver_of own (holding own.store share order) o t
        → b ≡ share_out own.store.heap after a → c ≡ order_out left_order b → v ≡ said_out said w
        → Ends c u w v (linked_deliver s a what memory mapping t)
    unfolding linked_deliver
    deliver_made what memory mapping r o order left_order after b i y j x k m n =
        ends_made a c w v u said (with_share own.store (account_in a) after left_order) (linked_deliver s a what memory mapping t)
        (call_made (right_ok s a && outcome_ok what mapping) a t _ _ (are_right what mapping r true i y)
        (ap (left_by a)
        (read s own (λ z. deliver_of z (account_in a) (outcome_in what memory mapping) t) (out said (with_share own.store (account_in a) after left_order) u) f
        (whole_deliver own.store (account_in a) said u after left_order _ _ (deliver_alike own (account_in a) (holding own.store share order) (holds_order own.store a share g order x) (order_held own.store a share g order x) o t) k
        ∙ ap (λ (z : Outcome). deliver_of own (account_in a) z t) j))))
        (n ∙ ap (order_out left_order) m ∙ sym (share_out_lem a own.store after left_order))

    module _ (list left_list : List ℕ) (after : Share) where
      -- the account that a return or a clean-up leaves
      abbrev gone : Account
      gone = with_share own.store (account_in a) after (order_in a)

      gone_out : (p && q) ≡ true → c ≡ share_out own.store.heap after a → c ≡ account_out gone a
      gone_out y m = m ∙ sym (released_out a (both_right list_words s a p q d e y).1 own.store after)

      pub return_made : (block : Block) → (p && q) ≡ true
          → listed said (holder own.store after) u left_list ≡ return_of own (holder own.store share) block t list
          → c ≡ share_out own.store.heap after a → v ≡ said_out said w → Ends c (listing u left_list) w v (linked_return s a block t list)
      unfolding linked_return
      return_made block y k m =
          ends_made a c w v (listing u left_list) said gone (linked_return s a block t list)
          (call_made (right_ok s a) a (listing t list) _ _ (is_right true y)
          (ap (left_listed a)
          (read s own (λ x. return_of x (account_in a) block t list) (listed said gone u left_list) f
          (whole_listed own.store (account_in a) said u left_list after _ _ (return_alike own (account_in a) (holder own.store share) (holds own.store a share g) block t list) k))))
          (gone_out y m)

      pub clean_made : (p && q) ≡ true
          → listed said (holder own.store after) u left_list ≡ clean_up_of own (holder own.store share) t list
          → c ≡ share_out own.store.heap after a → v ≡ said_out said w → Ends c (listing u left_list) w v (linked_clean_up s a t list)
      unfolding linked_clean_up
      clean_made y k m =
          ends_made a c w v (listing u left_list) said gone (linked_clean_up s a t list)
          (call_made (right_ok s a) a (listing t list) _ _ (is_right true y)
          (ap (left_listed a)
          (read s own (λ x. clean_up_of x (account_in a) t list) (listed said gone u left_list) f
          (whole_listed own.store (account_in a) said u left_list after _ _ (clean_up_alike own (account_in a) (holder own.store share) (holds own.store a share g) t list) k))))
          (gone_out y m)

  -- not made: the answer alone is written
  module _ (t : Tables) where
    pub ask_refused : (size mask : ℕ) → (p && q) ≡ false → v ≡ said_out (refusal 1 []) w → Ends a t w v (linked_ask s a size mask t)
    unfolding linked_ask
    ask_refused size mask h = ends_refused a w v t (linked_ask s a size mask t) (call_refused (right_ok s a) a t _ (is_right false h))

    pub deliver_refused : (what memory mapping : ℕ) (r : Bool) → r ≡ outcome_ok what mapping → ((p && q) && r) ≡ false → v ≡ said_out (refusal 1 []) w
        → Ends a t w v (linked_deliver s a what memory mapping t)
    unfolding linked_deliver
    deliver_refused what memory mapping r i h =
        ends_refused a w v t (linked_deliver s a what memory mapping t)
        (call_refused (right_ok s a && outcome_ok what mapping) a t _ (are_right what mapping r false i h))

    pub return_refused : (block : Block) (list : List ℕ) → (p && q) ≡ false → v ≡ said_out (refusal 1 []) w
        → Ends a (listing t list) w v (linked_return s a block t list)
    unfolding linked_return
    return_refused block list h =
        ends_refused a w v (listing t list) (linked_return s a block t list) (call_refused (right_ok s a) a (listing t list) _ (is_right false h))

    pub clean_refused : (list : List ℕ) → (p && q) ≡ false → v ≡ said_out (refusal 1 []) w → Ends a (listing t list) w v (linked_clean_up s a t list)
    unfolding linked_clean_up
    clean_refused list h =
        ends_refused a w v (listing t list) (linked_clean_up s a t list) (call_refused (right_ok s a) a (listing t list) _ (is_right false h))
