-- A call that no row of 01's table turns away is answered: an ask by a block, or by the order for the chunk that is needed, a
-- delivery by a block, a return and an own call by a release; and no other call is so answered.
use mathlib.Core.Path.{◌≡◌, sym, ap, ◌∙◌}
use mathlib.Core.Logic.{◌⊎◌, inl, inr, ⊎_elim, ◌↔◌}
use mathlib.Core.List.{List, []}
use Prim.Native.Nat.{ℕ, ◌+◌}
use native.Mathlib.Omega.{arith}
use lib.ListN.{length}
use Rattle.std.proofs.lemmas.List.{nil_from_length}
use Rattle.lists.proofs.Bools.{same?}
use Rattle.counter.specs.Paper as Paper
use Rattle.counter.specs.Reasons.{Clear}
use Rattle.counter.specs.declared.account.Account.{Account}
use Rattle.std.specs.Prelude.{Some}
use Rattle.counter.specs.declared.answers.Block.{Block}
use Rattle.counter.specs.declared.answers.Outcome.{Outcome}
use Rattle.store_rules.specs.Orders.{order_from, kept_from}
use Rattle.store_rules.specs.Outcomes.{Out, Listed, to_free, with_order}
use Rattle.store_rules.specs.Rows.{set_up_rows, ask_rows, deliver_rows, return_rows}
use Rattle.store_rules.proofs.Said.{refuses, not_refused, order_block}
use Rattle.engines.specs.Engines.{Engine}
use Rattle.engines.specs.Shapes.{Tables, Begun, asks, words_of}
use Rattle.engines.specs.Tells.{Blocked, Ordered, Released}
use Rattle.engines.proofs.Delivering.{clear_unsaid}
use Rattle.engines.proofs.Taking.{none_given}

module _ (E : Engine) (s : E.shape.Settings) where
  -- ---- a set-up

  -- it is accepted exactly when no row's words hold
  pub ready_when : (t : Tables) → ((E.shape.set_up s t).said ≡ Paper.ready) ↔ Clear (set_up_rows (words_of E.shape) s t)
  ready_when t = (there, back)
    where
      there : (E.shape.set_up s t).said ≡ Paper.ready → Clear (set_up_rows (words_of E.shape) s t)
      there e =
          none_given (set_up_rows (words_of E.shape) s t)
          (λ n g. not_refused (E.shape.set_up s t).said n [] (ap refuses e) ((E.refuses.set_up_refused s t n).1 g))

      back : Clear (set_up_rows (words_of E.shape) s t) → (E.shape.set_up s t).said ≡ Paper.ready
      back c =
          ⊎_elim (λ x. x)
          (λ x. absurd (clear_unsaid (set_up_rows (words_of E.shape) s t) x.0 c ((E.refuses.set_up_refused s t x.0).0 (ap (λ (r : Begun). r.said) (E.refuses.set_up_leaves s t x.0 x.1 x.2)))))
          (E.tells.set_up_says s t)

  module _ (a : Account) where
    -- ---- an ask

    module _ (size mask : ℕ) (t : Tables) where
      -- an ask's refusal names no memory
      pub ask_names : (n : ℕ) (back : List ℕ) → (E.shape.ask s a size mask t).said ≡ Paper.refusal n back → back ≡ []
      ask_names n back e = ⊎_elim nine other (same? n 9)
        where
          other : (n ≡ 9 → ⊥) → back ≡ []
          other x = same_back (sym e ∙ ap (λ (r : Out Tables). r.said) (E.refuses.ask_leaves s a size mask t n back e x))
            where
              same_back : Paper.refusal n back ≡ Paper.refusal n [] → back ≡ []
              same_back q = cc

          nine : n ≡ 9 → back ≡ []
          nine x =
              let stays = (E.refuses.nine_leaves s a size mask t back (e ∙ ap (λ (m : ℕ). Paper.refusal m back) x)).0 in
              let o : (E.shape.ask s a size mask t).account.objects + 0 ≡ a.objects + to_free (E.shape.ask s a size mask t).said = (E.books.booked s a t (asks size mask)).objects in
              let f : to_free (E.shape.ask s a size mask t).said ≡ length back = ap to_free e in
              let k : (E.shape.ask s a size mask t).account.objects ≡ a.objects = ap (λ (b : Account). b.objects) stays in
              nil_from_length back (omega (arith, o, f, k))

      module _ (clear : Clear (ask_rows (words_of E.shape) s a size mask t)) where
        -- it is not refused
        pub ask_unrefused : (n : ℕ) (back : List ℕ) → (E.shape.ask s a size mask t).said ≡ Paper.refusal n back → ⊥
        ask_unrefused n back e =
            clear_unsaid (ask_rows (words_of E.shape) s a size mask t) n clear
            ((E.refuses.ask_refused s a size mask t n).0 (e ∙ ap (Paper.refusal n) (ask_names n back e)))

        blocked_unneeded : Blocked (E.shape.ask s a size mask t).said → E.shape.Needed s size mask t → ⊥
        blocked_unneeded b n =
            let w = (E.lends.orders_when s a size mask t ask_unrefused).1 n in
            order_block (order_from (E.shape.store s) w.0) b.0 b.1 b.2 b.3 (sym w.1 ∙ b.4)

        -- either a block is lent, and no chunk is needed; or one is, and the answer is the order for it, which is kept in the account
        -- with its ask, and nothing else there changes
        pub ask_tells : (Blocked (E.shape.ask s a size mask t).said × (E.shape.Needed s size mask t → ⊥))
            ⊎ (E.shape.Needed s size mask t
            × ((E.shape.ask s a size mask t).said ≡ Paper.order_of (order_from (E.shape.store s) (E.shape.order_size s size mask t)))
            × ((E.shape.ask s a size mask t).account ≡ with_order a (Some (kept_from (E.shape.store s) size mask (E.shape.order_size s size mask t)))))
        ask_tells =
            ⊎_elim (λ b. inl (b, blocked_unneeded b))
            (λ x. ⊎_elim ordered (λ r. absurd (ask_unrefused r.0 r.1 r.2)) x)
            (E.tells.ask_says s a size mask t)
          where
            ordered : Ordered (E.shape.ask s a size mask t).said
                → (Blocked (E.shape.ask s a size mask t).said × (E.shape.Needed s size mask t → ⊥))
                ⊎ (E.shape.Needed s size mask t
                × ((E.shape.ask s a size mask t).said ≡ Paper.order_of (order_from (E.shape.store s) (E.shape.order_size s size mask t)))
                × ((E.shape.ask s a size mask t).account ≡ with_order a (Some (kept_from (E.shape.store s) size mask (E.shape.order_size s size mask t)))))
            ordered o =
                let w = E.delivers.ordered s a size mask t o in
                inr ((E.lends.orders_when s a size mask t ask_unrefused).0 (E.shape.order_size s size mask t, w.0), w.0, w.1)

        -- a block is lent exactly when no chunk is needed
        pub block_when : Blocked (E.shape.ask s a size mask t).said ↔ (E.shape.Needed s size mask t → ⊥)
        block_when = (blocked_unneeded, λ n. ⊎_elim (λ w. w.0) (λ w. absurd (n w.0)) ask_tells)

        -- and exactly when one is, the answer is the order for it
        pub order_when : ((E.shape.ask s a size mask t).said ≡ Paper.order_of (order_from (E.shape.store s) (E.shape.order_size s size mask t))) ↔ E.shape.Needed s size mask t
        order_when = (
          (λ e. (E.lends.orders_when s a size mask t ask_unrefused).0 (E.shape.order_size s size mask t, e)),
          (λ n. ⊎_elim (λ w. absurd (w.1 n)) (λ w. w.1) ask_tells),
        )

    -- ---- a delivery

    -- it lends a block exactly when no row's words hold
    pub deliver_tells : (o : Outcome) (t : Tables) → Blocked (E.shape.deliver s a o t).said ↔ Clear (deliver_rows (words_of E.shape) s a o t)
    deliver_tells o t = (there, back)
      where
        there : Blocked (E.shape.deliver s a o t).said → Clear (deliver_rows (words_of E.shape) s a o t)
        there b =
            none_given (deliver_rows (words_of E.shape) s a o t)
            (λ n g. let w = (E.refuses.deliver_refused s a o t n).1 g in not_refused (E.shape.deliver s a o t).said n w.0 (ap refuses b.4) w.1)

        back : Clear (deliver_rows (words_of E.shape) s a o t) → Blocked (E.shape.deliver s a o t).said
        back c =
            ⊎_elim (λ x. x)
            (λ x. absurd (clear_unsaid (deliver_rows (words_of E.shape) s a o t) x.0 c ((E.refuses.deliver_refused s a o t x.0).0 (x.1, x.2))))
            (E.tells.deliver_says s a o t)

    -- ---- a return, and a call that only this engine has

    -- a return is taken exactly when no row's words hold
    pub taken_when : (b : Block) (t : Tables) (list : List ℕ) → Released (E.shape.return s a b t list).said ↔ Clear (return_rows (words_of E.shape) s a b t list)
    taken_when b t list = (there, back)
      where
        there : Released (E.shape.return s a b t list).said → Clear (return_rows (words_of E.shape) s a b t list)
        there r =
            none_given (return_rows (words_of E.shape) s a b t list)
            (λ n g. not_refused (E.shape.return s a b t list).said n [] (ap refuses r.1) ((E.refuses.return_refused s a b t list n).1 g))

        back : Clear (return_rows (words_of E.shape) s a b t list) → Released (E.shape.return s a b t list).said
        back c =
            ⊎_elim (λ x. x)
            (λ x. absurd (clear_unsaid (return_rows (words_of E.shape) s a b t list) x.0 c ((E.refuses.return_refused s a b t list x.0).0 (ap (λ (r : Listed Tables). r.said) (E.refuses.return_leaves s a b t list x.0 x.1 x.2)))))
            (E.tells.return_says s a b t list)

    -- and so is an own call
    pub other_when : (c : E.shape.Own) (t : Tables) (list : List ℕ) → Released (E.shape.other s a c t list).said ↔ Clear (E.shape.own_rows s a c t list)
    other_when c t list = (there, back)
      where
        there : Released (E.shape.other s a c t list).said → Clear (E.shape.own_rows s a c t list)
        there r =
            none_given (E.shape.own_rows s a c t list)
            (λ n g. not_refused (E.shape.other s a c t list).said n [] (ap refuses r.1) ((E.refuses.other_refused s a c t list n).1 g))

        back : Clear (E.shape.own_rows s a c t list) → Released (E.shape.other s a c t list).said
        back k =
            ⊎_elim (λ x. x)
            (λ x. absurd (clear_unsaid (E.shape.own_rows s a c t list) x.0 k ((E.refuses.other_refused s a c t list x.0).0 (ap (λ (r : Listed Tables). r.said) (E.refuses.other_leaves s a c t list x.0 x.1 x.2)))))
            (E.tells.other_says s a c t list)
