-- What one call does to the loans of its store is what its caller hears.
use mathlib.Core.Path.{◌≡◌, refl, sym, ap, subst}
use mathlib.Core.Logic.{◌⊎◌, ⊎_elim}
use mathlib.Core.List.{List, [], ◌∷◌, Memᴰ}
use Prim.Native.Nat.{ℕ, ◌+◌, ◌≤◌, ◌<◌}
use Rattle.counter.specs.Paper.{Said}
use Rattle.counter.specs.Paper as Paper
use Rattle.counter.specs.declared.account.Account.{Account}
use Rattle.counter.specs.declared.answers.Block.{Block}
use Rattle.counter.specs.declared.answers.Outcome.{Outcome}
use Rattle.store_rules.specs.Outcomes.{Listed}
use Rattle.store_rules.specs.Views.{block}
use Rattle.store_rules.specs.declared.Loan.{Loan}
use Rattle.store_rules.proofs.Said.{refuses}
use Rattle.engines.specs.Engines.{Engine}
use Rattle.engines.specs.Ledger.{Note, lent_note, back_note, note_of, ledger, Exactly, Fine}
use Rattle.engines.specs.Shapes.{Tables, Call, sets_up, asks, delivers, returns, others, does, Marked}
use Rattle.engines.specs.Tells.{lent_by, Joined, Released, Refused}
use Rattle.engines.proofs.Exact.{same_exactly, more_exactly, less_exactly, more_fine, less_fine}
use Rattle.engines.proofs.Taking.{return_taken}
use Rattle.engines.proofs.Visits.{asks_not, delivers_not, returns_not, others_not, set_up_stays}

-- ---- what is heard of an ask and of a delivery

-- a block with a higher serial than the loans before it
abbrev Newer : Said → List Loan → Type 0
Newer x ms = (serial number offset len : ℕ) → x ≡ Paper.block serial number offset len → (l : Loan) → Memᴰ l ms → l.serial < serial

-- a block that shares no byte with the loans before it
abbrev Free : Said → List Loan → Type 0
Free x ms =
    (serial number offset len : ℕ) → x ≡ Paper.block serial number offset len → (l : Loan) → Memᴰ l ms → l.chunk ≡ number
    → (l.offset + l.size ≤ offset) ⊎ (offset + len ≤ l.offset)

module _ (ks ms : List Loan) (bs : List Block) (E : Exactly ms bs) where
  lent_noted : (x : Said) → Joined ks ms (lent_by x) → Newer x ms → Exactly ks (ledger bs (lent_note x))
  lent_noted Paper.ready j new = same_exactly ks ms bs j E
  lent_noted (Paper.order store size memtype map) j new = same_exactly ks ms bs j E
  lent_noted (Paper.released n) j new = same_exactly ks ms bs j E
  lent_noted Paper.ranked j new = same_exactly ks ms bs j E
  lent_noted (Paper.refusal n back) j new = same_exactly ks ms bs j E
  lent_noted (Paper.block serial number offset len) j new =
      let b = block serial number offset len in
      same_exactly ks (j.0 ∷ ms) (b ∷ bs) j.2 (more_exactly b j.0 ms bs j.1 (new serial number offset len refl) E)

  lent_fine : (x : Said) → Newer x ms → Free x ms → Fine bs → Fine (ledger bs (lent_note x))
  lent_fine Paper.ready new free w = w
  lent_fine (Paper.order store size memtype map) new free w = w
  lent_fine (Paper.released n) new free w = w
  lent_fine Paper.ranked new free w = w
  lent_fine (Paper.refusal n back) new free w = w
  lent_fine (Paper.block serial number offset len) new free w =
      more_fine (block serial number offset len) ms bs E (new serial number offset len refl) (free serial number offset len refl) w

-- ---- over one call

-- nothing is heard of a call that is refused
pub refused_unheard : {Own : Type 0} (c : Call Own) (n : ℕ) → note_of c (Paper.refusal n []) ≡ []
refused_unheard sets_up n = refl
refused_unheard (asks size mask) n = refl
refused_unheard (delivers o) n = refl
refused_unheard (returns b list) n = refl
refused_unheard (others c list) n = refl

-- of tables t with engine E's mark, whose loans are the blocks bs: what a call leaves, where ns is heard of it
pub record After (E : Engine) (bs : List Block) (u : Tables) (ns : List Note) : Type 0 where
  pub marks : Marked E.shape u
  pub loans : Exactly (E.shape.loans u) (ledger bs ns)
  pub fine : Fine bs → Fine (ledger bs ns)

-- nothing
pub still : (E : Engine) (t u : Tables) (bs : List Block) (ns : List Note) → Marked E.shape t → Exactly (E.shape.loans t) bs → u ≡ t → ns ≡ [] → After E bs u ns
still E t u bs ns m S e f =
    record {
      marks = subst (Marked E.shape) (sym e) m;
      loans = subst (λ (xs : List Note). Exactly (E.shape.loans u) (ledger bs xs)) (sym f) (subst (λ (x : Tables). Exactly (E.shape.loans x) bs) (sym e) S);
      fine = λ w. subst (λ (xs : List Note). Fine (ledger bs xs)) (sym f) w;
    }

module _ (E : Engine) (s : E.shape.Settings) (a : Account) (t : Tables) (m : Marked E.shape t) (bs : List Block) (S : Exactly (E.shape.loans t) bs) where
  ask_after : (size mask : ℕ) → After E bs (E.shape.ask s a size mask t).tables (lent_note (E.shape.ask s a size mask t).said)
  ask_after size mask =
      let r = E.shape.ask s a size mask t in
      let new : Newer r.said (E.shape.loans t) = λ serial number offset len e. (E.lends.ask_block s a size mask t serial number offset len e).0.new in
      let free : Free r.said (E.shape.loans t) = λ serial number offset len e. (E.lends.ask_block s a size mask t serial number offset len e).0.apart in
      record {
        marks = (E.counts.counted s a t (asks size mask) (asks_not size mask) m).marks;
        loans = lent_noted (E.shape.loans r.tables) (E.shape.loans t) bs S r.said (E.tells.ask_loans s a size mask t) new;
        fine = lent_fine (E.shape.loans r.tables) (E.shape.loans t) bs S r.said new free;
      }

  deliver_after : (o : Outcome) → After E bs (E.shape.deliver s a o t).tables (lent_note (E.shape.deliver s a o t).said)
  deliver_after o =
      let r = E.shape.deliver s a o t in
      let new : Newer r.said (E.shape.loans t) = λ serial number offset len e. (E.lends.deliver_block s a o t serial number offset len e).2.new in
      let free : Free r.said (E.shape.loans t) = λ serial number offset len e. (E.lends.deliver_block s a o t serial number offset len e).2.apart in
      record {
        marks = (E.counts.counted s a t (delivers o) (delivers_not o) m).marks;
        loans = lent_noted (E.shape.loans r.tables) (E.shape.loans t) bs S r.said (E.tells.deliver_loans s a o t) new;
        fine = lent_fine (E.shape.loans r.tables) (E.shape.loans t) bs S r.said new free;
      }

  module _ (b : Block) (list : List ℕ) where
    abbrev u : Tables
    u = (E.shape.return s a b t list).tables

    return_refused : Refused (E.shape.return s a b t list).said → After E bs u (back_note b (E.shape.return s a b t list).said)
    return_refused w =
        still E t u bs (back_note b (E.shape.return s a b t list).said) m S (ap (λ (r : Listed Tables). r.tables) (E.refuses.return_leaves s a b t list w.0 w.1 w.2))
        (ap (back_note b) w.2)

    return_accepted : Released (E.shape.return s a b t list).said → After E bs u (back_note b (E.shape.return s a b t list).said)
    return_accepted w =
        let k = (return_taken E s a t b list (ap refuses w.1)).loans in
        record {
          marks = (E.counts.counted s a t (returns b list) (returns_not b list) m).marks;
          loans = subst (λ (ns : List Note). Exactly (E.shape.loans u) (ledger bs ns)) (sym (ap (back_note b) w.1)) (less_exactly b (E.shape.loans u) (E.shape.loans t) bs k S);
          fine = λ v. subst (λ (ns : List Note). Fine (ledger bs ns)) (sym (ap (back_note b) w.1)) (less_fine b bs v);
        }

    return_after : After E bs u (back_note b (E.shape.return s a b t list).said)
    return_after = ⊎_elim return_accepted return_refused (E.tells.return_says s a b t list)

  other_after : (c : E.shape.Own) (list : List ℕ) → After E bs (E.shape.other s a c t list).tables []
  other_after c list =
      record {
        marks = (E.counts.counted s a t (others c list) (others_not c list) m).marks;
        loans = same_exactly (E.shape.loans (E.shape.other s a c t list).tables) (E.shape.loans t) bs (E.tells.other_loans s a c t list) S;
        fine = λ v. v;
      }

  pub call_after : (c : Call E.shape.Own) → (c ≡ sets_up → (does E.shape s a t c).said ≡ Paper.ready → ⊥) → After E bs (does E.shape s a t c).tables (note_of c (does E.shape s a t c).said)
  call_after sets_up f = still E t (E.shape.set_up s t).tables bs [] m S (set_up_stays E s t (f refl)) refl
  call_after (asks size mask) f = ask_after size mask
  call_after (delivers o) f = deliver_after o
  call_after (returns b list) f = return_after b list
  call_after (others c list) f = other_after c list
