-- The free list stays sound and filled as an engine has to, and lends good blocks.
use mathlib.Core.Path.{◌≡◌, refl, sym, ap, subst, ◌∙◌}
use mathlib.Core.Bool.{true}
use mathlib.Core.Logic.{◌↔◌, inl, inr, ⊎_elim}
use mathlib.Core.List.{List, [], Memᴰ}
use Prim.Native.Nat.{ℕ, suc, ◌+◌, ◌≤◌}
use native.Mathlib.Omega.{arith}
use Rattle.counter.specs.Account.{Typed}
use Rattle.counter.specs.Gate.{pass}
use Rattle.counter.specs.InTable.{FreeListIn}
use Rattle.counter.specs.Paper as Paper
use Rattle.counter.specs.declared.account.Account.{Account}
use Rattle.counter.specs.declared.account.KeptOrder.{KeptOrder}
use Rattle.std.specs.Prelude.{Some}
use Rattle.counter.specs.declared.answers.Memory.{Memory}
use Rattle.counter.specs.declared.answers.Outcome.{Outcome}
use Rattle.counter.specs.declared.answers.Outcome.TheVariants as O
use Rattle.counter.specs.declared.settings.FreeListSettings.{FreeListSettings}
use Rattle.store_rules.specs.Loans.{loans_of}
use Rattle.store_rules.specs.Outcomes.{Out}
use Rattle.store_rules.specs.Views.{Differ, Apart, GoodBlock}
use Rattle.store_rules.specs.declared.Chunk.{Chunk}
use Rattle.store_rules.specs.declared.Loan.{Loan}
use Rattle.store_rules.specs.declared.Region.{Region}
use Rattle.engines.specs.Keeps.{Keeps, Lends}
use Rattle.freelist_rules.specs.Pieces.{lo, hi, piece}
use Rattle.freelist_rules.specs.Records.{Store}
use Rattle.freelist_rules.specs.Sound.{Sound}
use Rattle.freelist_rules.specs.Steps.{delivered}
use Rattle.freelist_rules.specs.Tables.{Tables, places_in, store_of, SoundTables}
use Rattle.freelist_rules.proofs.Base.{rising_apart}
use Rattle.freelist_rules.proofs.Decides.{differ_distinct}
use Rattle.freelist_rules.proofs.Fits.{lengths_are}
use Rattle.freelist_rules.proofs.Meaning.{no_join}
use Rattle.freelist_rules.proofs.Ordered.{ordered_in, ordered_out}
use Rattle.freelist_outcomes.specs.Gate.{gate_of}
use Rattle.freelist_outcomes.specs.Ask.{raised_for, ask_of}
use Rattle.freelist_outcomes.specs.Blocks.{Good}
use Rattle.freelist_outcomes.specs.Deliver.{carry_fate, deliver_of}
use Rattle.freelist_outcomes.proofs.Again.{ask_again, deliver_again, return_again, clean_up_again}
use Rattle.freelist_outcomes.proofs.Arrives.{lent_store}
use Rattle.freelist_outcomes.proofs.Blocks.{ask_block, deliver_block}
use Rattle.freelist_outcomes.proofs.Changed.{ordered_store}
use Rattle.freelist_outcomes.proofs.Comes.{AskComes, lends, orders, ask_comes, DeliverComes, keeps, loses, deliver_comes}
use Rattle.freelist_outcomes.proofs.Fitted.{refusal_block, orders_when}
use Rattle.freelist_outcomes.proofs.Passing.{gate_passed}
use Rattle.freelist_outcomes.proofs.Sounds.{set_up_sound, ask_sound, deliver_sound, return_sound, clean_up_sound}
use Rattle.freelist_outcomes.proofs.Taken.{taken_store}
use Rattle.freelist_engine.specs.Shape.{OwnCall, cleans_up, own_of, seen, Neighbours, list_shape}
use Rattle.freelist_engine.proofs.Fitting.{set_up_fits, still_long}
use Rattle.freelist_engine.proofs.Stepping.{given_of}

-- ---- a call that only a free list has

own_sound : (s : FreeListSettings) (a : Account) (c : OwnCall) (t : Tables) (list : List ℕ) → SoundTables s t → SoundTables s (own_of s a c t list).tables
own_sound s a cleans_up t list sound = clean_up_sound s a t list sound

own_again : (s : FreeListSettings) (a : Account) (t : Tables) → Typed a → gate_of s a t true ≡ pass → (c : OwnCall) (list : List ℕ) → gate_of s (own_of s a c t list).account (own_of s a c t list).tables true ≡ pass
own_again s a t typed passes cleans_up list = clean_up_again s a t typed passes list

-- ---- what is seen

-- no serial, chunk number or memory number stands for two
apart : (s : FreeListSettings) (v : Store) → Sound s v → Apart (seen v)
apart s v sound =
    record {
      serials = differ_distinct (λ (l : Loan). l.serial) (λ (l : Loan). lo (piece l)) (λ (l : Loan). hi (piece l)) 0 0 v.loans sound.loans_rise sound.serials_differ;
      numbers = differ_distinct (λ (c : Chunk). c.number) (λ (c : Chunk). c.number) (λ (c : Chunk). suc c.number) 0 1 v.chunks sound.chunks_rise numbers_differ;
      memories = differ_distinct (λ (c : Chunk). c.memory) (λ (c : Chunk). c.number) (λ (c : Chunk). suc c.number) 0 1 v.chunks sound.chunks_rise sound.memories_differ;
    }
  where
    numbers_differ : Differ (λ (c : Chunk). c.number) v.chunks
    numbers_differ c d m k e =
        ⊎_elim (λ q. q) (⊎_elim (λ h. absurd (omega (arith, h, e))) (λ h. absurd (omega (arith, h, e))))
        (rising_apart (λ (x : Chunk). x.number) (λ (x : Chunk). suc x.number) 0 1 v.chunks sound.chunks_rise c d m k)

-- no free piece ends where another of its chunk begins
unjoined : (s : FreeListSettings) (v : Store) → FreeListIn s → Sound s v → (p q : Region) → Memᴰ p v.regions → Memᴰ q v.regions → Neighbours p q → ⊥
unjoined s v fit sound p q m k (same, inl e) = no_join s v fit sound p q m k same e
unjoined s v fit sound p q m k (same, inr e) = no_join s v fit sound q p k m (sym same) e

-- the loans by chunk and place are the loans
seen_loans : (s : FreeListSettings) (t : Tables) (l : Loan) → Memᴰ l (store_of s t).loans ↔ Memᴰ l (loans_of (places_in t) t.loans)
unfolding store_of
seen_loans s t l = (ordered_out l (loans_of (places_in t) t.loans), ordered_in l (loans_of (places_in t) t.loans))

-- the free list stays sound, passes its tests again, and is filled
pub list_keeps : Keeps list_shape
list_keeps =
    record {
      set_up_sound = λ s t e. set_up_sound s t e;
      ask_sound = λ s a size mask t sound. ask_sound s a size mask t sound;
      deliver_sound = λ s a o t sound. deliver_sound s a o t sound;
      return_sound = λ s a b t list sound. return_sound s a b t list sound;
      other_sound = λ s a c t list sound. own_sound s a c t list sound;
      set_up_fits = λ s t e. set_up_fits s t e;
      fits_stays = λ s a t c fits sound. (fits.0, still_long s a t fits.0 fits.1 sound c);
      ask_again = λ s a t typed passes size mask none. ask_again s a t typed passes size mask none;
      deliver_again = λ s a o t typed passes none. deliver_again s a o t typed passes none;
      return_again = λ s a t typed passes b list. return_again s a t typed passes b list;
      other_again = λ s a t typed passes c list. own_again s a t typed passes c list;
      passed_fits = λ s a t passes. let p = gate_passed s a t true (sym passes) in (p.settings, lengths_are s t p.lengths);
      passed_sound = λ s a t passes. (gate_passed s a t true (sym passes)).sound;
      filled = λ s t fits sound. sound.store.fills;
      apart = λ s t fits sound. apart s (store_of s t) sound.store;
      unjoined = λ s t fits sound. unjoined s (store_of s t) fits.0 sound.store;
      loans_seen = λ s t. seen_loans s t;
    }

-- ---- new blocks

-- a block that is good in a store with the loans of these tables, told of the tables
good_block : (s : FreeListSettings) (size mask : ℕ) (t : Tables) (v : Store) (cs : List Chunk) (serial number offset len : ℕ) → v.given ≡ (store_of s t).given → v.loans ≡ (store_of s t).loans → v.chunks ≡ cs → Good s size mask v serial number offset len
    → GoodBlock s.store.atom size mask (given_of t) (loans_of (places_in t) t.loans) cs serial number offset len
unfolding store_of
good_block s size mask t v cs serial number offset len given loans chunks good =
    let there : (l : Loan) → Memᴰ l (loans_of (places_in t) t.loans) → Memᴰ l v.loans = λ l m. subst (Memᴰ l) (sym loans) (ordered_in l (loans_of (places_in t) t.loans) m) in
    record {
      next = good.block.next ∙ ap (λ (g : ℕ). g + 1) given;
      held = subst (λ (ds : List Chunk). (c : Chunk) × Memᴰ c ds × (c.number ≡ number) × (offset + len ≤ c.size)) chunks good.block.held;
      aligned = good.block.aligned;
      atoms = good.block.atoms;
      enough = good.block.enough;
      apart = λ l m. good.block.apart l (there l m);
      new = λ l m. good.block.new l (there l m);
    }

-- an ask leaves the held chunks
pub ask_chunks : (s : FreeListSettings) (a : Account) (size mask : ℕ) (t : Tables) (r : Out Tables) → AskComes s a size mask t r → (store_of s t).chunks ≡ (store_of s r.tables).chunks
ask_chunks s a size mask t _ (AskComes.denied n) = refl
ask_chunks s a size mask t _ (lends i p v) =
    sym (ap (λ (x : Store). x.chunks) (taken_store s t p.settings (lengths_are s t p.lengths) p.sound size mask i v.aligned v.some v.place v.found))
ask_chunks s a size mask t _ (orders p v) =
    sym (ap (λ (x : Store). x.chunks) (ordered_store s t p.settings (lengths_are s t p.lengths) p.sound (raised_for s size t)))

-- a delivery that is answered by a block leaves the new one with them
deliver_chunks : (s : FreeListSettings) (a : Account) (o : Outcome) (t : Tables) (k : KeptOrder) (m : Memory) → a.order ≡ Some k → o ≡ O.Made m → (serial number offset len : ℕ) (r : Out Tables) → DeliverComes s a o t r
    → r.said ≡ Paper.block serial number offset len → (delivered s m.number k.order.size (store_of s t)).chunks ≡ (store_of s r.tables).chunks
unfolding carry_fate
deliver_chunks s a o t k m its made serial number offset len _ (DeliverComes.denied n) e = refusal_block n [] serial number offset len e
deliver_chunks s a o t k m its made serial number offset len _ (loses j n charged back w f h) e = refusal_block n back serial number offset len e
deliver_chunks s a o t k m its made serial number offset len _ (keeps j i f w new) e =
    (λ z. (delivered s (same_memory m i (sym made ∙ f) z).number (same_kept k j (sym its ∙ w.is) z).order.size (store_of s t)).chunks)
    ∙ sym (ap (λ (x : Store). x.chunks) (lent_store s a t j w i.number new))
  where
    same_kept : (x y : KeptOrder) → Some x ≡ Some y → x ≡ y
    same_kept x y q = cc

    same_memory : (x y : Memory) → O.Made x ≡ O.Made y → x ≡ y
    same_memory x y q = cc

-- the free list lends good blocks, and orders a chunk exactly when none that is held has room
pub list_lends : Lends list_shape
list_lends =
    record {
      ask_block = λ s a size mask t serial number offset len e.
          let w = ask_block s a size mask t serial number offset len e in (
            good_block s size mask t (store_of s t) _ serial number offset len refl refl (ask_chunks s a size mask t (ask_of s a size mask t) (ask_comes s a size mask t)) w.0,
            w.1,
          );
      deliver_block = λ s a o t serial number offset len e.
          let d = deliver_block s a o t serial number offset len e in
          let v = delivered s d.memory.number d.kept.order.size (store_of s t) in
          let cs = deliver_chunks s a o t d.kept d.memory d.ordered d.made serial number offset len (deliver_of s a o t) (deliver_comes s a o t) e in
          (d.kept, d.ordered, good_block s d.kept.ask.size d.kept.ask.mask t v _ serial number offset len refl refl cs d.good, d.charged);
      orders_when = λ s a size mask t f. orders_when s a size mask t f;
    }
