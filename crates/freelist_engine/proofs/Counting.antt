-- The free list counts its serials as an engine has to: up from 1, none given twice, and a block returned is never taken
-- again.
use mathlib.Core.Path.{◌≡◌, refl, sym, ap, subst, ◌∙◌}
use mathlib.Core.Bool.{true}
use mathlib.Core.Logic.{◌⊎◌, inl, inr, ⊎_elim}
use mathlib.Core.List.{List, []}
use Prim.Native.Nat.{ℕ, ◌≤◌}
use native.Mathlib.Omega.{arith}
use lib.Dec.{eqb}
use borrow.Author.Tests.{eq-eqb}
use Rattle.lists.proofs.Bools.{true_false, not_yes}
use Rattle.counter.specs.Paper as Paper
use Rattle.counter.specs.Reasons.{none, reason, Given}
use Rattle.counter.specs.declared.account.Account.{Account}
use Rattle.counter.specs.declared.answers.Block.{Block}
use Rattle.counter.specs.declared.settings.FreeListSettings.{FreeListSettings}
use Rattle.counter.proofs.Papers.{kind_of}
use Rattle.counter.proofs.Reasoned.{given_then}
use Rattle.store_rules.specs.Loans.{loans_of}
use Rattle.store_rules.specs.Outcomes.{Listed, listed, list_ok}
use Rattle.engines.specs.Serials.{Gone, Counted, Counts}
use Rattle.engines.specs.Shapes.{Call, sets_up, does}
use Rattle.freelist_rules.specs.Records.{Store}
use Rattle.freelist_rules.specs.Tables.{Tables, places_in, store_of}
use Rattle.freelist_rules.proofs.Blocks.{returned_is}
use Rattle.freelist_rules.proofs.Giving.{those_yes}
use Rattle.freelist_rules.proofs.NeverAgain as Rules
use Rattle.freelist_rules.proofs.Ordered.{ordered_in, ordered_out}
use Rattle.freelist_rules.proofs.Swaps.{settled}
use Rattle.freelist_outcomes.specs.Refusals.{list_words}
use Rattle.store_rules.specs.Rows.{Stale, list_rows}
use Rattle.freelist_outcomes.specs.Return.{word_for, on_loan_ok, given_tables, released_tables, release_of, return_of}
use Rattle.freelist_outcomes.specs.SetUp.{Begun, set_up_of}
use Rattle.freelist_outcomes.proofs.Changed.{fresh_store}
use Rattle.freelist_outcomes.proofs.Comes.{ReturnComes, takes, return_comes, SetUpComes, readies, set_up_comes}
use Rattle.freelist_outcomes.proofs.Given.{on_loan_is}
use Rattle.freelist_outcomes.proofs.Passing.{Passed}
use Rattle.freelist_outcomes.proofs.Refused.{return_leaves, return_refused}
use Rattle.freelist_outcomes.proofs.Sounds.{set_up_sound}
use Rattle.freelist_engine.specs.Shape.{OwnCall, list_shape}
use Rattle.freelist_engine.proofs.Stepping.{Marked, given_of, Stepped, call_steps, back_store, back_signed}

-- ---- serials that are gone, in the store that the tables hold, whatever the settings

module _ (s : FreeListSettings) (k : ℕ) (t : Tables) where
  gone_there : Gone list_shape k t → Rules.Gone k (store_of s t)
  unfolding store_of
  gone_there g = record { old = g.old; away = λ l m. g.away l (ordered_out l (loans_of (places_in t) t.loans) m) }

  gone_here : Marked t → Rules.Gone k (store_of s t) → Gone list_shape k t
  unfolding store_of
  gone_here has g = record { marked = has; old = g.old; away = λ l m. g.away l (ordered_in l (loans_of (places_in t) t.loans) m) }

-- over one call they stay so
gone_steps : (k : ℕ) (s : FreeListSettings) (t : Tables) (d : Listed Tables) → Stepped s t d.tables d.said → Gone list_shape k t → Gone list_shape k d.tables
gone_steps k s t d S g =
    ⊎_elim (λ e. subst (λ (u : Tables). Gone list_shape k u) (sym e) g)
    (λ cs. gone_here s k d.tables (S.mark_stays g.marked) (Rules.gone_calls s k (gone_there s k t g) cs))
    S.steps

-- ---- from a return on

module _ (s : FreeListSettings) (a : Account) (b : Block) (t : Tables) (list : List ℕ) where
  -- a return that is taken leaves no loan with the block's serial
  back_gone : Passed s a t (list_ok s.store list) → on_loan_ok s b t ≡ true → Gone list_shape b.serial (released_tables s true (given_tables s b (word_for s b t) t))
  back_gone p on =
      let v = store_of s t in
      let m = on_loan_is s t p.settings p.sound b on in
      let e : store_of s (released_tables s true (given_tables s b (word_for s b t) t)) ≡ settled m.0 v =
      back_store s a b t (list_ok s.store list) p on ∙ returned_is s p.settings b v p.sound.store m in
      let serial : m.0.serial ≡ b.serial = m.2.serial in
      let g : Rules.Gone b.serial (settled m.0 v) =
      record {
        old = subst (λ (k : ℕ). k ≤ v.given) serial (p.sound.store.serials_given m.0 m.1).1;
        away = λ l k q. let w = m.0.serial in true_false (eqb l.serial w) (eq-eqb l.serial w (q ∙ sym serial)) (not_yes (eqb l.serial w) (those_yes _ l v.loans k));
      } in
      gone_here s b.serial (released_tables s true (given_tables s b (word_for s b t) t)) (back_signed s a b t (list_ok s.store list) p on).head (subst (Rules.Gone b.serial) (sym e) g)

  return_gone : (r : Listed Tables) → ReturnComes s a b t list r → kind_of r.said ≡ 3 → Gone list_shape b.serial r.tables
  unfolding release_of
  return_gone _ (ReturnComes.denied n) e = absurd (omega arith)
  return_gone _ (takes p on) e = back_gone p on

  -- and where no loan has it the block is refused
  gone_refused : Gone list_shape b.serial t → (k : ℕ) × ((return_of s a b t list).said ≡ Paper.refusal k [])
  gone_refused g = by (return_of s a b t list) (return_comes s a b t list)
    where
      by : (r : Listed Tables) → ReturnComes s a b t list r → (k : ℕ) × (r.said ≡ Paper.refusal k [])
      by _ (ReturnComes.denied n) = (n, refl)
      by _ (takes p on) = let w = on_loan_is s t p.settings p.sound b on in absurd ((gone_there s b.serial t g).away w.0 w.1 w.2.serial)

  stale_or_earlier : Gone list_shape b.serial t → (k : ℕ) × (return_of s a b t list ≡ listed (Paper.refusal k []) a t list) × ((k ≡ 7) ⊎ Given (list_rows list_words s a t list) k)
  stale_or_earlier g =
      let r = gone_refused g in
      let c = given_then (list_rows list_words s a t list) (reason (Stale list_words s b t) 7 none) r.0 ((return_refused s a b t list r.0).0 r.1) in
      (r.0, return_leaves s a b t list r.0 [] r.1, ⊎_elim (λ e. inr e) (λ e. ⊎_elim (λ z. inl z.1) (λ z. absurd z.1) e) c)

-- ---- over one call

counted : (s : FreeListSettings) (a : Account) (t : Tables) (c : Call OwnCall) → (c ≡ sets_up → ⊥) → Marked t → Counted list_shape t (does list_shape s a t c).tables (does list_shape s a t c).said
counted s a t c f m = let S = call_steps s a t c f in record { gives = S.gives; nexts = S.nexts; marks = S.mark_stays m }

-- set-up gave none
fresh_given : (s : FreeListSettings) (t : Tables) (r : Begun) → SetUpComes s t r → kind_of r.said ≡ 0 → given_of r.tables ≡ 0
unfolding store_of
fresh_given s t _ SetUpComes.denied e = absurd (omega arith)
fresh_given s t _ (readies fit lengths) e = ap (λ (v : Store). v.given) (fresh_store s t fit lengths)

-- the free list counts its serials as an engine has to
pub list_counts : Counts list_shape
list_counts =
    record {
      begins = λ s t e. ((set_up_sound s t e).signed.head, fresh_given s t (set_up_of s t) (set_up_comes s t) (ap kind_of e));
      counted = counted;
      gone_stays = λ k s a t c f g. gone_steps k s t (does list_shape s a t c) (call_steps s a t c f) g;
      released_gone = λ s a b t list n e. return_gone s a b t list (return_of s a b t list) (return_comes s a b t list) (ap kind_of e);
      gone_refused = λ s a b t list g. let r = stale_or_earlier s a b t list g in (r.0, r.1, r.2);
    }
