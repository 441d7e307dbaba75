-- Each call of a free list but set-up leaves the tables as they were or makes steps that the rules know, gives the next
-- serials, and leaves the tables their mark.
use mathlib.Core.Path.{◌≡◌, refl, sym, ap, subst, ◌∙◌}
use mathlib.Core.Bool.{Bool, true, false}
use mathlib.Core.Logic.{◌⊎◌, inl, inr}
use mathlib.Core.List.{List, [], ◌∷◌}
use Prim.Native.Nat.{ℕ, ◌+◌}
use native.Mathlib.Omega.{arith}
use lib.ListN.{length, get_or}
use Rattle.counter.specs.Paper.{Said}
use Rattle.counter.specs.Paper as Paper
use Rattle.counter.specs.declared.account.Account.{Account}
use Rattle.counter.specs.declared.answers.Block.{Block}
use Rattle.counter.specs.declared.answers.Outcome.{Outcome}
use Rattle.counter.specs.declared.settings.FreeListSettings.{FreeListSettings}
use Rattle.store_rules.specs.Outcomes.{Out, Listed, list_ok}
use Rattle.freelist_rules.specs.Place.{size_for, mask_for, Found, nowhere, at}
use Rattle.freelist_rules.specs.Records.{Store}
use Rattle.freelist_rules.specs.Steps.{lent, raised, delivered, released, taken_back, returned}
use Rattle.freelist_rules.specs.Seek.{seek}
use Rattle.freelist_rules.specs.Tables.{store_of, marks, Signed, given_in}
use Rattle.freelist_rules.proofs.Blocks.{returned_is}
use Rattle.freelist_rules.proofs.Fits.{lengths_are}
use Rattle.freelist_rules.proofs.NeverAgain as Rules
use Rattle.freelist_rules.proofs.NeverAgain.{Calls, stop, then}
use Rattle.freelist_outcomes.specs.Ask.{raised_for, taken_tables, ordered_tables, ask_of}
use Rattle.freelist_outcomes.specs.Deliver.{carry_fate, deliver_of}
use Rattle.freelist_outcomes.specs.Return.{word_for, on_loan_ok, given_tables, released_tables, release_of, return_of, clean_up_of}
use Rattle.freelist_outcomes.proofs.Passing.{Passed}
use Rattle.freelist_outcomes.proofs.Taken.{taken_store, taken_sound}
use Rattle.freelist_outcomes.proofs.Given.{on_loan_is, given_lengths, given_store, given_sound}
use Rattle.freelist_outcomes.proofs.Changed.{ordered_store, ordered_sound, released_store, released_tables_sound}
use Rattle.freelist_outcomes.proofs.Arrives.{arrived_store, lent_store, lent_tables_sound}
use Rattle.freelist_outcomes.proofs.Comes.{AskComes, lends, orders, ask_comes, DeliverComes, keeps, loses, deliver_comes, ReturnComes, takes, return_comes, CleanUpComes, cleans, clean_up_comes}
use Rattle.engines.specs.Serials.{serial_said, up_from}
use Rattle.engines.specs.Shapes.{Tables, Call, sets_up, asks, delivers, returns, others, does}
use Rattle.freelist_engine.specs.Shape.{OwnCall, cleans_up, list_shape}
use Rattle.words.specs.Words.{mark_at}

-- tables with the free list's mark, and how many serials they say were given
abbrev pub Marked : Tables → Type 0
Marked t = get_or t.head mark_at 0 ≡ marks.head

abbrev pub given_of : Tables → ℕ
given_of t = given_in t

-- the store after a block has been taken back and its chunks released
pub back_store : (s : FreeListSettings) (a : Account) (b : Block) (t : Tables) (listed : Bool) → Passed s a t listed → on_loan_ok s b t ≡ true → store_of s (released_tables s true (given_tables s b (word_for s b t) t)) ≡ returned b (store_of s t)
back_store s a b t listed p on =
    let fit = p.settings in
    let lengths = lengths_are s t p.lengths in
    released_store s (given_tables s b (word_for s b t) t) fit (given_lengths s t fit lengths p.sound b on) (given_sound s t fit lengths p.sound b on) true
    ∙ ap (released true) (given_store s t fit lengths p.sound b on)
    ∙ sym (returned_is s fit b (store_of s t) p.sound.store (on_loan_is s t fit p.sound b on))

-- and its tables have the marks
pub back_signed : (s : FreeListSettings) (a : Account) (b : Block) (t : Tables) (listed : Bool) → Passed s a t listed → on_loan_ok s b t ≡ true → Signed marks (released_tables s true (given_tables s b (word_for s b t) t))
back_signed s a b t listed p on =
    let fit = p.settings in
    let lengths = lengths_are s t p.lengths in
    (released_tables_sound s (given_tables s b (word_for s b t) t) fit (given_lengths s t fit lengths p.sound b on) (given_sound s t fit lengths p.sound b on) true
    ).signed

-- a return gives no serial
taken_back_given : (t : Store) (f : Found) → (taken_back t f).given ≡ t.given
taken_back_given t nowhere = refl
taken_back_given t (at i) = refl

returned_given : (b : Block) (t : Store) → (returned b t).given ≡ t.given
returned_given b t = taken_back_given t (seek b t.loans)

-- what a call leaves: the tables as they were, or those of a store that steps lead to; and it gives as many serials as it
-- lends blocks, the next ones; the mark stays
pub record Stepped (s : FreeListSettings) (t t' : Tables) (said : Said) : Type 0 where
  pub steps : (t' ≡ t) ⊎ Calls s (store_of s t) (store_of s t')
  pub gives : given_of t' ≡ given_of t + length (serial_said said)
  pub nexts : serial_said said ≡ up_from (given_of t) (length (serial_said said))
  pub mark_stays : Marked t → Marked t'
  pub signs : Signed marks t → Signed marks t'

module _ (s : FreeListSettings) (t : Tables) where
  stayed : (n : ℕ) (back : List ℕ) → Stepped s t t (Paper.refusal n back)
  stayed n back = record { steps = inl refl; gives = omega arith; nexts = refl; mark_stays = λ m. m; signs = λ S. S }

  -- one step that gives no serial
  module _ (t' : Tables) (v : Store) (e : store_of s t' ≡ v) where
    stepped : Rules.Call s (store_of s t) v → Calls s (store_of s t) (store_of s t')
    stepped c = subst (Calls s (store_of s t)) (sym e) (then c stop)

    same_given : v.given ≡ (store_of s t).given → given_of t' ≡ given_of t
    unfolding store_of
    same_given f = ap (λ (x : Store). x.given) e ∙ f

  ask_stepped : (a : Account) (size mask : ℕ) (o : Out Tables) → AskComes s a size mask t o → Stepped s t o.tables o.said
  unfolding store_of
  ask_stepped a size mask _ (AskComes.denied n) = stayed n []
  ask_stepped a size mask _ (lends i p v) =
      let e = taken_store s t p.settings (lengths_are s t p.lengths) p.sound size mask i v.aligned v.some v.place v.found in
      record {
        steps = inr (stepped (taken_tables s size mask t i) (lent (mask_for s mask) (size_for s size) i (store_of s t)) e (Rules.asks (mask_for s mask) (size_for s size) i));
        gives = ap (λ (x : Store). x.given) e;
        nexts = refl;
        mark_stays = λ _. (taken_sound s t p.settings (lengths_are s t p.lengths) p.sound size mask i v.aligned v.some v.place v.found).signed.head;
        signs = λ _. (taken_sound s t p.settings (lengths_are s t p.lengths) p.sound size mask i v.aligned v.some v.place v.found).signed;
      }
  ask_stepped a size mask _ (orders p v) =
      let e = ordered_store s t p.settings (lengths_are s t p.lengths) p.sound (raised_for s size t) in
      let f = ap (λ (x : Store). x.given) e in
      record {
        steps = inr (stepped (ordered_tables (raised_for s size t) t) (raised (raised_for s size t) (store_of s t)) e (Rules.orders (raised_for s size t)));
        gives = omega (arith, f);
        nexts = refl;
        mark_stays = λ _. (ordered_sound s t p.settings (lengths_are s t p.lengths) p.sound size).signed.head;
        signs = λ _. (ordered_sound s t p.settings (lengths_are s t p.lengths) p.sound size).signed;
      }

  deliver_stepped : (a : Account) (o : Outcome) (r : Out Tables) → DeliverComes s a o t r → Stepped s t r.tables r.said
  unfolding carry_fate store_of
  deliver_stepped a o _ (DeliverComes.denied n) = stayed n []
  deliver_stepped a o _ (loses k n charged back w e h) = stayed n back
  deliver_stepped a o _ (keeps k m e w new) =
      let f = lent_store s a t k w m.number new in
      let g = arrived_store s a t k w m.number new in
      let d : Rules.Call s (store_of s t) (delivered s m.number k.order.size (store_of s t)) = Rules.delivers m.number k.order.size in
      let c = Rules.asks (mask_for s k.ask.mask) (size_for s k.ask.size) (length (store_of s t).regions) in
      record {
        steps = inr (subst (Calls s (store_of s t)) (sym f) (then d (then c stop)));
        gives = ap (λ (x : Store). x.given) f;
        nexts = ap (λ (x : Store). (x.given + 1) ∷ []) g;
        mark_stays = λ _. (lent_tables_sound s a t k w m.number new).signed.head;
        signs = λ _. (lent_tables_sound s a t k w m.number new).signed;
      }

  return_stepped : (a : Account) (b : Block) (list : List ℕ) (r : Listed Tables) → ReturnComes s a b t list r → Stepped s t r.tables r.said
  unfolding release_of
  return_stepped a b list _ (ReturnComes.denied n) = stayed n []
  return_stepped a b list _ (takes p on) =
      let e = back_store s a b t (list_ok s.store list) p on in
      record {
        steps = inr (stepped _ _ e (Rules.returns b));
        gives = omega (arith, same_given _ _ e (returned_given b (store_of s t)));
        nexts = refl;
        mark_stays = λ _. (back_signed s a b t (list_ok s.store list) p on).head;
        signs = λ _. back_signed s a b t (list_ok s.store list) p on;
      }

  clean_up_stepped : (a : Account) (list : List ℕ) (r : Listed Tables) → CleanUpComes s a t list r → Stepped s t r.tables r.said
  unfolding release_of
  clean_up_stepped a list _ (CleanUpComes.denied n) = stayed n []
  clean_up_stepped a list _ (cleans p) =
      let e = released_store s t p.settings (lengths_are s t p.lengths) p.sound false in
      record {
        steps = inr (stepped _ _ e Rules.cleans_up);
        gives = omega (arith, same_given _ _ e refl);
        nexts = refl;
        mark_stays = λ _. (released_tables_sound s t p.settings (lengths_are s t p.lengths) p.sound false).signed.head;
        signs = λ _. (released_tables_sound s t p.settings (lengths_are s t p.lengths) p.sound false).signed;
      }

-- every call but set-up is such a step
pub call_steps : (s : FreeListSettings) (a : Account) (t : Tables) (c : Call OwnCall) → (c ≡ sets_up → ⊥)
    → Stepped s t (does list_shape s a t c).tables (does list_shape s a t c).said
call_steps s a t sets_up f = absurd (f refl)
call_steps s a t (asks size mask) f = ask_stepped s t a size mask (ask_of s a size mask t) (ask_comes s a size mask t)
call_steps s a t (delivers o) f = deliver_stepped s t a o (deliver_of s a o t) (deliver_comes s a o t)
call_steps s a t (returns b list) f = return_stepped s t a b list (return_of s a b t list) (return_comes s a b t list)
call_steps s a t (others cleans_up list) f = clean_up_stepped s t a list (clean_up_of s a t list) (clean_up_comes s a t list)
