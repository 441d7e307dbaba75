-- A return's and a clean-up's plan can be carried out, and carried out they leave what is defined.
use mathlib.Core.Path.{◌≡◌, refl, sym, ap, subst, ◌∙◌}
use mathlib.Core.Bool.{Bool, true, false, cond}
use mathlib.Core.Logic.{⊎_elim}
use mathlib.Core.List.{List, []}
use Prim.Native.Nat.{ℕ, ◌≤◌}
use native.Mathlib.Omega.{arith}
use lib.ListN.{length}
use lib.Seq.{sets}
use borrow.Author.Tests.{leb-true}
use Rattle.lists.proofs.Bools.{told, true_false}
use Rattle.counter.specs.Account.{heap_at}
use Rattle.counter.specs.Gate.{Gate, Verdict, pass, refuse, verdict_of, gated}
use Rattle.counter.specs.declared.refusal.Refusal.{Refusal}
use Rattle.std.specs.Prelude.{Result, Ok, Err}
use Rattle.returning.specs.Backs.{back_of}
use Rattle.counter.specs.Limits.{objects_most}
use Rattle.counter.specs.Paper as Paper
use Rattle.counter.specs.declared.account.Account.{Account}
use Rattle.counter.specs.declared.answers.Block.{Block}
use Rattle.counter.specs.declared.settings.FreeListSettings.{FreeListSettings}
use Rattle.store_rules.specs.Outcomes.{Listed, listed, list_ok, released_account}
use Rattle.store_rules.specs.Shares.{released_share}
use Rattle.store_rules.proofs.Holders.{holding, order_by, holder}
use Rattle.store_rules.proofs.Shares.{held_released}
use Rattle.freelist_rules.specs.Release.{memories_of, bytes_of}
use Rattle.freelist_rules.specs.Pieces.{total}
use Rattle.freelist_rules.specs.Tables.{Tables, tables, chunks_in, store_of}
use Rattle.store_rules.specs.declared.Chunk.{Chunk}
use Rattle.store_rules.specs.declared.Share.{Share}
use Rattle.freelist_outcomes.specs.Gate.{account_ok, gate_of}
use Rattle.freelist_outcomes.specs.Return.{Plan, deny, back, word_for, on_loan_ok, given_tables, decide_return, plan_return, gone_from, released_tables, release_of, carry_return, return_of, plan_clean_up, carry_clean_up, clean_up_of}
use Rattle.freelist.proofs.Backing.{backs_ready, strikes_ready}
use Rattle.freelist.proofs.Releasing.{frees_ready, objects_ready}
use Rattle.freelist_rules.proofs.Fits.{lengths_are, are_lengths}
use Rattle.freelist_outcomes.proofs.Given.{given_lengths, given_sound}
use Rattle.freelist_outcomes.proofs.Passing.{Passed, gate_passed}
use Rattle.freelist.specs.Ready.{Releases, TakesBack, ReturnReady, CleanUpReady}

-- ---- a plan that carries

abbrev is_back : Plan → Bool
is_back (deny n) = false
is_back (back w) = true

not_denied : (w n : ℕ) → back w ≡ deny n → ⊥
not_denied w n e = true_false true refl (ap is_back e)

same_back : (v w : ℕ) → back v ≡ back w → v ≡ w
same_back v w e = cc

module _ (s : FreeListSettings) (a : Account) (b : Block) (t : Tables) (list : Bool) (w : ℕ) (e : back w ≡ plan_return s a b t list) where
  passes : pass ≡ gate_of s a t list
  unfolding plan_return
  passes = by (gate_of s a t list) e
    where
      by : (v : Verdict) → back w ≡ gated deny v (decide_return s b t) → pass ≡ v
      by pass p = refl
      by (refuse n) p = absurd (not_denied w n p)

  decided : back w ≡ decide_return s b t
  unfolding plan_return
  decided = e ∙ ap (λ (v : Verdict). gated deny v (decide_return s b t)) (sym passes)

  on_loan_lem : on_loan_ok s b t ≡ true
  unfolding decide_return
  on_loan_lem =
      ⊎_elim (λ o. o)
      (λ o. absurd (not_denied w 7 (decided ∙ ap (λ (x : Bool). cond x (back (word_for s b t)) (deny 7)) o)))
      (told (on_loan_ok s b t))

  -- the word is the one that was found
  word_is : w ≡ word_for s b t
  unfolding decide_return
  word_is = same_back w (word_for s b t) (decided ∙ ap (λ (x : Bool). cond x (back (word_for s b t)) (deny 7)) on_loan_lem)

-- ---- the facts

long_enough : (s : FreeListSettings) (t : Tables) (list : List ℕ) → list_ok s.store list ≡ true → chunks_in t ≤ s.store.chunks → chunks_in t ≤ length list
long_enough s t list e h = omega (arith, leb-true s.store.chunks (length list) e)

module _ (s : FreeListSettings) (share : Share) (t : Tables) (list : List ℕ) (few : share.objects ≤ objects_most) where
  abbrev held : Account
  held = holder s.store share

  cleaned_releases : pass ≡ gate_of s held t (list_ok s.store list) → Releases s share.objects false t list
  unfolding account_ok holding
  cleaned_releases e =
      let p = gate_passed s held t (list_ok s.store list) e in (
        frees_ready s t p.settings p.sound p.lengths list (long_enough s t list p.listed p.sound.chunks_fit),
        objects_ready s t p.settings p.sound (heap_at held s.store.heap) share.objects (total (λ (c : Chunk). c.size) (store_of s t).chunks) false p.covered,
      )

  pub clean_up_ready : (p : Gate) → verdict_of p ≡ plan_clean_up s held t (list_ok s.store list) → CleanUpReady s share.objects t list p
  clean_up_ready (Err r) e = tt
  clean_up_ready (Ok u) e = cleaned_releases e

  module _ (b : Block) (w : ℕ) (e : back w ≡ plan_return s held b t (list_ok s.store list)) where
    abbrev gate : Passed s held t (list_ok s.store list)
    gate = gate_passed s held t (list_ok s.store list) (passes s held b t (list_ok s.store list) w e)

    abbrev lent : on_loan_ok s b t ≡ true
    lent = on_loan_lem s held b t (list_ok s.store list) w e

    -- the tables that the block leaves are sound too
    returned_releases : Releases s share.objects true (given_tables s b (word_for s b t) t) list
    unfolding given_tables account_ok holding
    returned_releases =
        let after = given_tables s b (word_for s b t) t in
        let long = lengths_are s t gate.lengths in
        let sound = given_sound s t gate.settings long gate.sound b lent in (
          frees_ready s after gate.settings sound (are_lengths s after (given_lengths s t gate.settings long gate.sound b lent)) list (long_enough s t list gate.listed gate.sound.chunks_fit),
          objects_ready s after gate.settings sound (heap_at held s.store.heap) share.objects (total (λ (c : Chunk). c.size) (store_of s t).chunks) true gate.covered,
        )

    takes_back : TakesBack s share.objects b w t list
    takes_back =
        subst (λ (v : ℕ). TakesBack s share.objects b v t list) (sym (word_is s held b t (list_ok s.store list) w e))
        record {
          backs = backs_ready s t gate.settings gate.sound b lent gate.lengths;
          strikes = strikes_ready s t gate.settings gate.sound b lent gate.lengths;
          releases = returned_releases;
        }

  pub return_ready : (b : Block) (p : Result ℕ Refusal) → back_of p ≡ plan_return s held b t (list_ok s.store list) → ReturnReady s share.objects b t list p
  return_ready b (Err r) e = tt
  return_ready b (Ok w) e = takes_back b w e

-- ---- carried out

-- chunks released and counted are what a release is defined to leave
module _ (s : FreeListSettings) (share : Share) (spare : Bool) (chunks regions list : List ℕ) where
  abbrev begun : Tables
  begun = tables [] [] chunks [] regions

  pub let_go_done : (count bytes : ℕ) (said : Paper.Said) (after : Share) (c' r' l' : List ℕ)
      → count ≡ length (gone_from s spare begun) → bytes ≡ bytes_of (gone_from s spare begun)
      → tables [] [] c' [] r' ≡ released_tables s spare begun
      → l' ≡ sets list 0 (memories_of (store_of s begun).chunks (gone_from s spare begun))
      → after ≡ released_share share count bytes → said ≡ Paper.released count
      → listed said (holder s.store after) (tables [] [] c' [] r') l' ≡ release_of s (holder s.store share) spare begun list
  unfolding release_of
  let_go_done count bytes said after c' r' l' e b t l x y =
      let account = holder s.store share in
      let x_is = ap (holder s.store) x ∙ sym (held_released s.store share (order_by share.idle) count bytes) ∙ (λ j. released_account s.store account (e j) (b j)) in
      let y_is = y ∙ ap Paper.released e in
      (λ j. listed (y_is j) (x_is j) (t j) (l j))

-- a release looks at neither head, loans nor index, and leaves them
pub releases_few : (s : FreeListSettings) (objects : ℕ) (spare : Bool) (t : Tables) (list : List ℕ) → Releases s objects spare t list → Releases s objects spare (tables [] [] t.chunks [] t.room) list
unfolding store_of
releases_few s objects spare t list r = r

module _ (s : FreeListSettings) (a : Account) (spare : Bool) (said : Paper.Said) (account : Account) (chunks regions list c' r' l' : List ℕ)
    (e : listed said account (tables [] [] c' [] r') l' ≡ release_of s a spare (tables [] [] chunks [] regions) list) where
  pub beside : (head loans index : List ℕ) → listed said account (tables head loans c' index r') l' ≡ release_of s a spare (tables head loans chunks index regions) list
  unfolding release_of released_tables store_of
  beside head loans index = ap (λ (y : Listed Tables). listed y.said y.account (tables head loans y.tables.chunks index y.tables.room) y.list) e

module _ (s : FreeListSettings) (a : Account) (b : Block) (at : ℕ) (loans chunks regions index l' r' i' : List ℕ)
    (e : tables [] l' chunks i' r' ≡ given_tables s b at (tables [] loans chunks index regions)) where
  -- what a release asks of the tables that the block leaves holds of them as they are written
  pub releases_now : (objects : ℕ) (list : List ℕ) → Releases s objects true (given_tables s b at (tables [] loans chunks index regions)) list → Releases s objects true (tables [] [] chunks [] r') list
  unfolding store_of
  releases_now objects list r = subst (λ (x : Tables). Releases s objects true (tables [] [] x.chunks [] x.room) list) (sym e) r

  pub taken_in : (list c'' r'' m : List ℕ) (said : Paper.Said) (account : Account)
      → listed said account (tables [] [] c'' [] r'') m ≡ release_of s a true (tables [] [] chunks [] r') list
      → listed said account (tables [] l' c'' i' r'') m ≡ release_of s a true (given_tables s b at (tables [] loans chunks index regions)) list
  taken_in list c'' r'' m said account p =
      beside s a true said account chunks r' list c'' r'' m p [] l' i' ∙ ap (λ (t : Tables). release_of s a true t list) e

-- nor does a return look at the head, which it leaves
pub takes_few : (s : FreeListSettings) (objects : ℕ) (b : Block) (w : ℕ) (t : Tables) (list : List ℕ) → TakesBack s objects b w t list → TakesBack s objects b w (tables [] t.loans t.chunks t.index t.room) list
unfolding given_tables store_of
takes_few s objects b w t list k = record { backs = k.backs; strikes = k.strikes; releases = k.releases }

pub with_head : (s : FreeListSettings) (a : Account) (b : Block) (at : ℕ) (said : Paper.Said) (account : Account) (head loans chunks index regions list l' c' i' r' m : List ℕ)
    → listed said account (tables [] l' c' i' r') m ≡ release_of s a true (given_tables s b at (tables [] loans chunks index regions)) list
    → listed said account (tables head l' c' i' r') m ≡ release_of s a true (given_tables s b at (tables head loans chunks index regions)) list
unfolding release_of released_tables given_tables store_of
with_head s a b at said account head loans chunks index regions list l' c' i' r' m e =
    ap (λ (y : Listed Tables). listed y.said y.account (tables head y.tables.loans y.tables.chunks y.tables.index y.tables.room) y.list) e

module _ (s : FreeListSettings) (share : Share) (t : Tables) (list : List ℕ) where
  abbrev before : Account
  before = holder s.store share

  pub return_refused : (b : Block) (p q : Result ℕ Refusal) (n : ℕ) (after : Share) (said : Paper.Said) → p ≡ q → back_of q ≡ deny n → after ≡ share → said ≡ Paper.refusal n []
      → listed said (holder s.store after) t list ≡ carry_return s before b t list (back_of p)
  unfolding carry_return
  return_refused b p q n after said f e same says =
      (λ j. listed (says j) (holder s.store (same j)) t list) ∙ ap (carry_return s before b t list) (sym e) ∙ ap (λ (x : Result ℕ Refusal). carry_return s before b t list (back_of x)) (sym f)

  pub return_taken : (b : Block) (p q : Result ℕ Refusal) (w : ℕ) (r : Listed Tables) → p ≡ q → back_of q ≡ back w → r ≡ release_of s before true (given_tables s b w t) list → r ≡ carry_return s before b t list (back_of p)
  unfolding carry_return
  return_taken b p q w r f e d = d ∙ ap (carry_return s before b t list) (sym e) ∙ ap (λ (x : Result ℕ Refusal). carry_return s before b t list (back_of x)) (sym f)

  pub clean_refused : (p q : Gate) (n : ℕ) (after : Share) (said : Paper.Said) → p ≡ q → verdict_of q ≡ refuse n → after ≡ share → said ≡ Paper.refusal n []
      → listed said (holder s.store after) t list ≡ carry_clean_up s before t list (verdict_of p)
  unfolding carry_clean_up
  clean_refused p q n after said f e same says =
      (λ j. listed (says j) (holder s.store (same j)) t list) ∙ ap (carry_clean_up s before t list) (sym e) ∙ ap (λ (x : Gate). carry_clean_up s before t list (verdict_of x)) (sym f)

  pub clean_went : (p q : Gate) (r : Listed Tables) → p ≡ q → verdict_of q ≡ pass → r ≡ release_of s before false t list → r ≡ carry_clean_up s before t list (verdict_of p)
  unfolding carry_clean_up
  clean_went p q r f e d = d ∙ ap (carry_clean_up s before t list) (sym e) ∙ ap (λ (x : Gate). carry_clean_up s before t list (verdict_of x)) (sym f)

  -- ---- the calls

  pub return_done : (b : Block) (p : Result ℕ Refusal) → back_of p ≡ plan_return s before b t (list_ok s.store list) → carry_return s before b t list (back_of p) ≡ return_of s before b t list
  unfolding return_of
  return_done b p e = ap (carry_return s before b t list) e

  pub clean_done : (p : Gate) → verdict_of p ≡ plan_clean_up s before t (list_ok s.store list) → carry_clean_up s before t list (verdict_of p) ≡ clean_up_of s before t list
  unfolding clean_up_of
  clean_done p e = ap (carry_clean_up s before t list) e
