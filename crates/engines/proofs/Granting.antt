-- Of an engine that gives `Grants` (and, where asked for, `Further`): a store that was just set up, under an account that has room, is
-- served: an ask for one byte is answered by the order for a chunk, and memory that is delivered as ordered by a block. So no such
-- engine turns everything away.
use mathlib.Core.Path.{◌≡◌, refl, ap, subst, ◌∙◌}
use mathlib.Core.Logic.{inl, inr, ⊎_elim}
use mathlib.Core.List.Memᴰ
use mathlib.Core.List.{List, [], ◌∷◌, map, Memᴰ}
use Prim.Native.Nat.{ℕ, ◌+◌, ◌^◌, ◌≤◌, ◌<◌}
use native.Mathlib.Omega.{arith}
use lib.ListN.{length}
use Rattle.counter.specs.Account.{value, heap_at}
use Rattle.counter.specs.InTable.{StoreIn}
use Rattle.counter.specs.Paper as Paper
use Rattle.counter.specs.Properties.{host_visible}
use Rattle.counter.specs.Reasons.{Clear}
use Rattle.counter.specs.declared.account.Account.{Account}
use Rattle.counter.specs.declared.answers.Memory.{Memory}
use Rattle.counter.specs.declared.answers.Outcome.TheVariants as O
use Rattle.counter.specs.declared.settings.StoreSettings.{StoreSettings}
use Rattle.store_rules.specs.Orders.{order_from}
use Rattle.store_rules.specs.Rows.{ask_rows, Short, Full, Spent}
use Rattle.store_rules.specs.Views.{sizes}
use Rattle.store_rules.specs.declared.Chunk.{Chunk}
use Rattle.engines.specs.Engines.{Engine}
use Rattle.engines.specs.Further.{Further}
use Rattle.engines.specs.Grants.{order_most, Roomy, Grants}
use Rattle.engines.specs.Shapes.{Tables, words_of}
use Rattle.engines.specs.Tells.{Blocked}
use Rattle.engines.proofs.Answering.{ready_when, ask_tells}
use Rattle.engines.proofs.Delivering.{as_ordered, order_lends}

-- a sum within a bound, of no more
within : (p v z m : ℕ) → z ≤ m → v + m < p → p ≤ v + z → ⊥
within p v z m h k l = omega arith

no_members : {A : Type 0} (xs : List A) → ((x : A) → Memᴰ x xs → ⊥) → length xs ≡ 0
no_members [] f = refl
no_members (x ∷ xs) f = absurd (f x (Memᴰ.head refl))

module _ (E : Engine) (G : Grants E.shape) where
  -- whatever 01's table allows a store, a set-up with it is accepted
  pub some_set_up : (o : StoreSettings) → StoreIn o → (s : E.shape.Settings) × (t : Tables) × (E.shape.store s ≡ o) × ((E.shape.set_up s t).said ≡ Paper.ready)
  some_set_up o i =
      let w = G.allows o i in
      (w.0, w.1, w.2, (ready_when E w.0 w.1).1 ((λ f. f w.3), tt))

  module _ (F : Further E.shape) (s : E.shape.Settings) (t : Tables) (ready : (E.shape.set_up s t).said ≡ Paper.ready) (a : Account) (room : Roomy (E.shape.store s).heap a) where
    abbrev new : Tables
    new = (E.shape.set_up s t).tables

    fits : E.shape.Fits s new
    fits = E.keeps.set_up_fits s t ready

    sound : E.shape.Sound s new
    sound = E.keeps.set_up_sound s t ready

    no_chunks : (E.shape.view s new).chunks ≡ []
    no_chunks = F.chunks_seen s new ∙ F.fresh_chunks s t ready

    no_loans : length (E.shape.view s new).loans ≡ 0
    no_loans = no_members (E.shape.view s new).loans (λ l m. Memᴰ.not-nil (subst (Memᴰ l) (E.tells.fresh s t ready) ((E.keeps.loans_seen s new l).0 m)))

    small : E.shape.order_size s 1 0 new ≤ order_most
    small = G.order_most_lem s 1 0 new fits sound (G.smallest s new fits).1

    covered : Short (words_of E.shape) s a new → ⊥
    covered (inl h) = omega (arith, h, ap sizes no_chunks)
    covered (inr (inl f)) = f room.agrees
    covered (inr (inr h)) = omega (arith, h, room.few, ap length no_chunks)

    not_full : Full (words_of E.shape) s 1 0 new → ⊥
    not_full (inl h) = omega (arith, h, no_loans, (G.allowed s new fits).loans_some)
    not_full (inr (inl w)) = omega (arith, w.1, ap length no_chunks, (G.allowed s new fits).chunks_some)
    not_full (inr (inr r)) = G.empty_room s 1 0 new fits sound no_chunks r

    not_spent : Spent (words_of E.shape) s (heap_at a (E.shape.store s).heap) 1 0 new → ⊥
    not_spent (inl h) = omega (arith, h, (E.counts.begins s t ready).1)
    not_spent (inr w) =
        ⊎_elim (λ h. omega (arith, h, small, room.used))
        (⊎_elim (λ h. within (2 ^ 128) (value (heap_at a (E.shape.store s).heap).allocated) (E.shape.order_size s 1 0 new) order_most small room.total h) (G.new_numbers s t ready))
        w.1

    clear : Clear (ask_rows (words_of E.shape) s a 1 0 new)
    clear = (
      (λ f. f (fits, room.heaps)),
      (
        room.shut,
        (
          (λ f. f sound),
          (
            covered,
            (
              ⊎_elim (λ f. f 0 (omega arith) refl) (G.smallest s new fits).0,
              (
                (G.smallest s new fits).1,
                (
                  not_full,
                  (
                    not_spent,
                    ((λ w. omega (arith, w.1, room.some)), tt),
                  ),
                ),
              ),
            ),
          ),
        ),
      ),
    )

    -- an ask for one byte is answered by an order
    pub first_order : (E.shape.ask s a 1 0 new).said ≡ Paper.order_of (order_from (E.shape.store s) (E.shape.order_size s 1 0 new))
    first_order = ⊎_elim (λ w. absurd (held w.0)) (λ w. w.1) (ask_tells E s a 1 0 new clear)
      where
        -- no held chunk has room for a block
        held : Blocked (E.shape.ask s a 1 0 new).said → ⊥
        held b =
            let g = (E.lends.ask_block s a 1 0 new b.0 b.1 b.2 b.3 b.4).0.held in
            Memᴰ.not-nil (subst (Memᴰ g.0) (E.tells.ask_chunks s a 1 0 new ∙ no_chunks) g.1)

    -- and memory delivered as ordered by a block
    pub first_block : (m : Memory) → m.mapping ≡ as_ordered (host_visible (E.shape.store s).properties)
        → Blocked (E.shape.deliver s (E.shape.ask s a 1 0 new).account (O.Made m) (E.shape.ask s a 1 0 new).tables).said
    first_block m fit =
        order_lends E s a 1 0 new _ _ _ _ first_order m fit
        (λ x. Memᴰ.not-nil (subst (λ (cs : List Chunk). Memᴰ m.number (map (λ (c : Chunk). c.memory) cs)) no_chunks x))
