-- The buddy gives serials as an engine has to: they count up, and one that is gone stays so and is never taken.
use mathlib.Core.Path.{◌≡◌, refl, sym, ap, ◌∙◌}
use mathlib.Core.Logic.{◌⊎◌}
use mathlib.Core.List.{List, []}
use Prim.Native.Nat.{ℕ}
use native.Mathlib.Omega.{arith}
use lib.ListN.{get_or}
use Rattle.words.proofs.Records.{cell_row}
use Rattle.words.specs.Words.{mark_at}
use Rattle.counter.specs.Gate.{Verdict, pass, refuse}
use Rattle.counter.specs.Paper.{Said}
use Rattle.counter.specs.Paper as Paper
use Rattle.counter.specs.Reasons.{Given}
use Rattle.counter.specs.declared.account.Account.{Account}
use Rattle.counter.specs.declared.answers.Block.{Block}
use Rattle.counter.specs.declared.settings.BuddySettings.{BuddySettings}
use Rattle.counter.proofs.Papers.{kind_of}
use Rattle.store_rules.specs.Loans.{loan_words, serial_at}
use Rattle.store_rules.specs.Outcomes.{listed}
use Rattle.store_rules.specs.declared.Loan.{Loan}
use Rattle.engines.specs.Serials.{Gone, Counted, Counts}
use Rattle.store_rules.specs.Rows.{list_rows}
use Rattle.engines.specs.Shapes.{Call, sets_up, asks, delivers, returns, others, does, Marked, words_of}
use Rattle.buddy_rules.specs.Tables.{Tables, given_in, marks}
use Rattle.buddy_rules.proofs.Viewed.{loan_at, live_loan, loan_live}
use Rattle.buddy_outcomes.specs.SetUp.{fresh_tables, plan_set_up, carry_set_up, set_up_of}
use Rattle.buddy_outcomes.proofs.Heads.{fresh_given}
use Rattle.buddy_outcomes.proofs.Gone as Buddy
use Rattle.buddy_outcomes.proofs.Gone.{ask_gone, deliver_gone, return_gone_stays}
use Rattle.buddy_engine.specs.Shape.{buddy_shape}
use Rattle.buddy_engine.proofs.Stepping.{Stepped, ask_stepped, deliver_stepped, return_stepped}

-- ---- set-up

begins : (s : BuddySettings) (t : Tables) → (set_up_of s t).said ≡ Paper.ready → (get_or (set_up_of s t).tables.head mark_at 0 ≡ marks.head) × (given_in (set_up_of s t).tables ≡ 0)
unfolding set_up_of carry_set_up fresh_tables
begins s t e = by (plan_set_up s t) e
  where
    by : (v : Verdict) → (carry_set_up s t v).said ≡ Paper.ready → (get_or (carry_set_up s t v).tables.head mark_at 0 ≡ marks.head) × (given_in (carry_set_up s t v).tables ≡ 0)
    by pass q = (refl, fresh_given s)
    by (refuse n) q = let z : kind_of (Paper.refusal n []) ≡ kind_of Paper.ready = ap kind_of q in absurd (omega arith)

-- ---- the other calls

counted_as : (t : Tables) (u : Tables) (said : Said) → Marked buddy_shape t → Stepped t u said → Counted buddy_shape t u said
counted_as t u said m w = record { gives = w.gives; nexts = w.nexts; marks = w.mark_stays m }

counted : (s : BuddySettings) (a : Account) (t : Tables) (c : Call ⊥) → (c ≡ sets_up → ⊥) → Marked buddy_shape t
    → Counted buddy_shape t (does buddy_shape s a t c).tables (does buddy_shape s a t c).said
counted s a t sets_up f m = absurd (f refl)
counted s a t (asks size mask) f m = counted_as t _ _ m (ask_stepped s a size mask t)
counted s a t (delivers o) f m = counted_as t _ _ m (deliver_stepped s a t o)
counted s a t (returns b list) f m = counted_as t _ _ m (return_stepped s a t b list)
counted s a t (others c list) f m = absurd c

-- ---- a serial that is gone, by the places of the loans and by the loans

gone_seen : (k : ℕ) (u : Tables) → Buddy.Gone k u → Gone buddy_shape k u
gone_seen k u g =
    record {
      marked = g.marked;
      old = g.old;
      away = λ l m e. let w = loan_live u l m in g.away w.0 w.1 (cell_row u.loans serial_at loan_words w.0 ∙ ap (λ (d : Loan). d.serial) w.2 ∙ e);
    }

gone_placed : (k : ℕ) (t : Tables) → Gone buddy_shape k t → Buddy.Gone k t
gone_placed k t g =
    record {
      old = g.old;
      away = λ p h e. g.away (loan_at t p) (live_loan t p h) (sym (cell_row t.loans serial_at loan_words p) ∙ e);
      marked = g.marked;
    }

gone_stays : (k : ℕ) (s : BuddySettings) (a : Account) (t : Tables) (c : Call ⊥) → (c ≡ sets_up → ⊥) → Gone buddy_shape k t → Gone buddy_shape k (does buddy_shape s a t c).tables
gone_stays k s a t sets_up f g = absurd (f refl)
gone_stays k s a t (asks size mask) f g = gone_seen k _ (ask_gone k s a size mask t (gone_placed k t g))
gone_stays k s a t (delivers o) f g = gone_seen k _ (deliver_gone k s a o t (gone_placed k t g))
gone_stays k s a t (returns b list) f g = gone_seen k _ (return_gone_stays s a b t list k (gone_placed k t g))
gone_stays k s a t (others c list) f g = absurd c

gone_refused : (s : BuddySettings) (a : Account) (b : Block) (t : Tables) (list : List ℕ) → Gone buddy_shape b.serial t
    → (n : ℕ) × (does buddy_shape s a t (returns b list) ≡ listed (Paper.refusal n []) a t list) × ((n ≡ 7) ⊎ Given (list_rows (words_of buddy_shape) s a t list) n)
gone_refused s a b t list g =
    let r = Buddy.gone_refused s a b t list (gone_placed b.serial t g) in
    (r.0, r.1, r.2)

-- the buddy gives serials as an engine has to
pub counts : Counts buddy_shape
counts =
    record {
      begins = λ s t e. begins s t e;
      counted = counted;
      gone_stays = gone_stays;
      released_gone = λ s a b t list n e. gone_seen b.serial _ (Buddy.released_gone s a b t list n e);
      gone_refused = gone_refused;
    }
