-- What an engine that gives `Further` or `Grants` may not keep for itself: a return that is taken leaves at most one chunk without a block on loan, such a chunk serves
-- the asks that are no longer than it, and no call writes the lent list past the count that it tells.
use mathlib.Core.Path.{◌≡◌, refl, ap, subst, sym}
use mathlib.Core.Logic.{⊎_elim}
use mathlib.Core.List.{List}
use Prim.Native.Nat.{ℕ, ◌≤◌}
use Rattle.counter.specs.Paper as Paper
use Rattle.counter.specs.Reasons.{Clear}
use Rattle.counter.specs.declared.account.Account.{Account}
use Rattle.counter.specs.declared.answers.Block.{Block}
use Rattle.counter.specs.declared.answers.Outcome.{Outcome}
use Rattle.store_rules.specs.Outcomes.{Listed, to_free}
use Rattle.store_rules.specs.Rows.{ask_rows}
use Rattle.store_rules.specs.declared.Chunk.{Chunk}
use Rattle.store_rules.proofs.Said.{refuses}
use Rattle.engines.specs.Engines.{Engine}
use Rattle.engines.specs.Further.{Untouched, Unlent, Further}
use Rattle.engines.specs.Grants.{Grants}
use Rattle.engines.specs.Shapes.{Tables, Call, sets_up, asks, delivers, returns, others, does, lent_list, words_of}
use Rattle.engines.specs.Tells.{Blocked, Released, Refused}
use Rattle.engines.proofs.Answering.{block_when, deliver_tells}
use Rattle.engines.proofs.Taking.{return_passed, return_lent, return_listed}

module _ (E : Engine) (s : E.shape.Settings) (a : Account) where
  -- ---- chunks without a loan

  -- a return that is taken leaves one at most
  pub returned_idle : Further E.shape → (b : Block) (t : Tables) (list : List ℕ) (n : ℕ) → (E.shape.return s a b t list).said ≡ Paper.released n
      → (c d : Chunk) → Unlent (E.shape.view s (E.shape.return s a b t list).tables) c → Unlent (E.shape.view s (E.shape.return s a b t list).tables) d → c ≡ d
  returned_idle F b t list n e =
      let x = ap refuses e in
      F.idle_one s a b t list (return_passed E s a t b list x) (return_lent E s a t b list x) (return_listed E s a t b list x)

  -- and an ask that is not refused, and is no longer than such a chunk, is answered by a block
  pub idle_lends : Grants E.shape → (size mask : ℕ) (t : Tables) → Clear (ask_rows (words_of E.shape) s a size mask t) → (c : Chunk) → Unlent (E.shape.view s t) c → size ≤ c.size
      → Blocked (E.shape.ask s a size mask t).said
  idle_lends G size mask t clear c x h =
      let g = (E.refuses.gate_clear s a t).1 (clear.0, (clear.1.0, (clear.1.1.0, (clear.1.1.1.0, tt)))) in
      (block_when E s a size mask t clear).1
      (G.idle_serves s size mask t (E.keeps.passed_fits s a t g) (E.keeps.passed_sound s a t g) c x h)

  -- ---- a delivery that lends a block was made at settings and tables in 01's table, and at a sound store

  pub lends_passed : Further E.shape → (o : Outcome) (t : Tables) → Blocked (E.shape.deliver s a o t).said → E.shape.Fits s t × E.shape.Sound s t
  lends_passed F o t b =
      let c = (deliver_tells E s a o t).0 b in
      let g = (E.refuses.deliver_clear s a t).1 (c.0, (c.1.0, (c.1.1.0, (c.1.1.1.0, tt)))) in
      (F.kept_fits s a t g, F.kept_sound s a t g)

  -- ---- the lent list

  -- whatever a call says, the list is as it was past the memory numbers that it tells
  pub past_untouched : Further E.shape → (t : Tables) (c : Call E.shape.Own) → Untouched (to_free (does E.shape s a t c).said) (lent_list c) (does E.shape s a t c).list
  past_untouched F t sets_up = (refl, refl)
  past_untouched F t (asks size mask) = (refl, refl)
  past_untouched F t (delivers o) = (refl, refl)
  past_untouched F t (returns b list) = ⊎_elim taken denied (E.tells.return_says s a b t list)
    where
      taken : Released (E.shape.return s a b t list).said → Untouched (to_free (E.shape.return s a b t list).said) list (E.shape.return s a b t list).list
      taken w = subst (λ (n : ℕ). Untouched n list (E.shape.return s a b t list).list) (sym (ap to_free w.1)) (F.past s a b t list w.0 w.1)

      denied : Refused (E.shape.return s a b t list).said → Untouched (to_free (E.shape.return s a b t list).said) list (E.shape.return s a b t list).list
      denied w =
          subst (λ (r : Listed Tables). Untouched (to_free r.said) list r.list) (sym (E.refuses.return_leaves s a b t list w.0 w.1 w.2))
          (refl, refl)
  past_untouched F t (others c list) = ⊎_elim taken denied (E.tells.other_says s a c t list)
    where
      taken : Released (E.shape.other s a c t list).said → Untouched (to_free (E.shape.other s a c t list).said) list (E.shape.other s a c t list).list
      taken w = subst (λ (n : ℕ). Untouched n list (E.shape.other s a c t list).list) (sym (ap to_free w.1)) (F.other_past s a c t list w.0 w.1)

      denied : Refused (E.shape.other s a c t list).said → Untouched (to_free (E.shape.other s a c t list).said) list (E.shape.other s a c t list).list
      denied w =
          subst (λ (r : Listed Tables). Untouched (to_free r.said) list r.list) (sym (E.refuses.other_leaves s a c t list w.0 w.1 w.2))
          (refl, refl)
