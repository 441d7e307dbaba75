-- Different blocks on loan are returned one after the other, in any order: none is refused, and the end is the one that the
-- set of blocks decides.
use mathlib.Core.Path.{◌≡◌, refl, sym, ap, subst, ◌∙◌}
use mathlib.Core.Logic.Iff
use mathlib.Core.Logic.{◌↔◌}
use mathlib.Core.List.{List, [], ◌∷◌, Memᴰ, Permᴰ}
use Prim.Native.Nat.{ℕ, ◌+◌, ◌-◌, ◌≤◌, ◌<◌}
use native.Mathlib.Omega.{arith}
use lib.ListN.{length}
use Rattle.lists.specs.Members.{Distinct}
use Rattle.counter.specs.Account.{Typed}
use Rattle.counter.specs.Gate.{pass}
use Rattle.counter.specs.Paper.{Said}
use Rattle.counter.specs.Paper as Paper
use Rattle.counter.specs.declared.answers.Block.{Block}
use Rattle.store_rules.specs.Outcomes.{released_account}
use Rattle.store_rules.specs.Views.{View, Matches, All, sizes}
use Rattle.store_rules.specs.declared.Chunk.{Chunk}
use Rattle.store_rules.specs.declared.Loan.{Loan}
use Rattle.store_rules.proofs.Going.{told_once}
use Rattle.store_rules.proofs.Permuted.{perm_mem, perm_apart}
use Rattle.engines.specs.Ends.{Lot}
use Rattle.engines.specs.Engines.{Engine}
use Rattle.engines.specs.Histories.{State, store_at, Slip, blocks_of, step, run, saids, hand_back, handing, told_in}
use Rattle.engines.proofs.HandedBack.{Ready, Handed, handed_told, hand, less}
use Rattle.engines.proofs.Visits.{store_other}

module _ (K : Type 0) (E : K → Engine) (w : State) (i : ℕ) (e : K) (s : (E e).shape.Settings) (here : i < length w.stores) (typed : Typed w.account)
    (passes : (E e).shape.gate s w.account (store_at w i) ≡ pass) (ps : List Slip) (lot : Lot (E e).shape (blocks_of ps) (store_at w i))
    (long : All (λ (p : Slip). ((E e).shape.store s).chunks ≤ length p.1) ps) where
  ready : Ready K E i e s w
  ready = record { here = here; typed = typed; passes = passes }

  all : Handed K E i e s w ps
  all = hand K E i e s w ps ready lot long

  -- no return is refused
  pub none_refused : All (λ (x : Said). (n : ℕ) × (x ≡ Paper.released n)) (saids K E w (handing K E i e s ps))
  none_refused = all.taken

  -- the loans at the end are those that are none of the blocks
  pub end_loans : (l : Loan) → Memᴰ l ((E e).shape.loans (store_at (run K E w (handing K E i e s ps)) i))
      ↔ (Memᴰ l ((E e).shape.loans (store_at w i)) × ((b : Block) → Memᴰ b (blocks_of ps) → Matches b l → ⊥))
  end_loans = all.loans

  -- the end is the one that the set of blocks decides: loans with their whole records, free pieces, held chunks
  pub end_view : (E e).shape.view s (store_at (run K E w (handing K E i e s ps)) i) ≡ (E e).shape.at_once s (blocks_of ps) (store_at w i)
  end_view = all.view

  -- and its counts are as they were
  pub end_rest : (E e).shape.rest s (store_at (run K E w (handing K E i e s ps)) i) ≡ (E e).shape.rest s (store_at w i)
  end_rest = all.rest

  -- heap used and totals, and the objects: less the chunks that are held no more
  pub end_account : (run K E w (handing K E i e s ps)).account ≡ released_account ((E e).shape.store s) w.account
      (length ((E e).shape.view s (store_at w i)).chunks - length ((E e).shape.at_once s (blocks_of ps) (store_at w i)).chunks)
      (sizes ((E e).shape.view s (store_at w i)).chunks - sizes ((E e).shape.at_once s (blocks_of ps) (store_at w i)).chunks)
  end_account = all.account ∙ ap (less K E i e s w) end_view

  -- the memory numbers told on the way are those of the chunks that were held and are held no more
  pub end_told : (m : ℕ) → Memᴰ m (told_in K E w (handing K E i e s ps))
      ↔ ((c : Chunk) × Memᴰ c ((E e).shape.view s (store_at w i)).chunks × (c.memory ≡ m) × (Memᴰ c ((E e).shape.at_once s (blocks_of ps) (store_at w i)).chunks → ⊥))
  end_told = handed_told K E i e s w ps all

  -- as many as there are of those
  pub end_count : length (told_in K E w (handing K E i e s ps)) + length ((E e).shape.at_once s (blocks_of ps) (store_at w i)).chunks ≡ length ((E e).shape.view s (store_at w i)).chunks
  end_count = omega (arith, all.goes.count, ap (λ (v : View). length v.chunks) end_view)

  -- and none of them twice
  pub end_once : Distinct (told_in K E w (handing K E i e s ps))
  end_once =
      told_once ((E e).shape.view s (store_at w i)).chunks ((E e).shape.view s (store_at (run K E w (handing K E i e s ps)) i)).chunks (told_in K E w (handing K E i e s ps)) all.goes
      ((E e).keeps.apart s (store_at w i) ((E e).keeps.passed_fits s w.account (store_at w i) passes) ((E e).keeps.passed_sound s w.account (store_at w i) passes)).memories

  -- the other stores are as they were
  pub end_others : (j : ℕ) → (j ≡ i → ⊥) → store_at (run K E w (handing K E i e s ps)) j ≡ store_at w j
  end_others j n = go w ps
    where
      go : (u : State) (qs : List Slip) → store_at (run K E u (handing K E i e s qs)) j ≡ store_at u j
      go u [] = refl
      go u (q ∷ qs) = let v = hand_back K E i e s q in go (step K E u v) qs ∙ store_other K E u v j (λ z. n (sym z))

  -- any two orders of the same blocks, with any lists long enough, end alike
  module _ (qs : List Slip) (same : Permᴰ (blocks_of ps) (blocks_of qs)) (long' : All (λ (p : Slip). ((E e).shape.store s).chunks ≤ length p.1) qs) where
    other : Handed K E i e s w qs
    other =
        hand K E i e s w qs ready (record { lent = λ b m. lot.lent b (perm_mem b same m); apart = perm_apart same lot.apart })
        long'

    at_once_lem : (E e).shape.at_once s (blocks_of ps) (store_at w i) ≡ (E e).shape.at_once s (blocks_of qs) (store_at w i)
    at_once_lem = (E e).ends.same s w.account (blocks_of ps) (blocks_of qs) (store_at w i) passes lot same

    -- with the same loans, free pieces and held chunks
    pub same_view_end : (E e).shape.view s (store_at (run K E w (handing K E i e s ps)) i) ≡ (E e).shape.view s (store_at (run K E w (handing K E i e s qs)) i)
    same_view_end = end_view ∙ at_once_lem ∙ sym other.view

    -- the same counts
    pub same_rest_end : (E e).shape.rest s (store_at (run K E w (handing K E i e s ps)) i) ≡ (E e).shape.rest s (store_at (run K E w (handing K E i e s qs)) i)
    same_rest_end = end_rest ∙ sym other.rest

    -- the same heap totals and object count
    pub same_account_end : (run K E w (handing K E i e s ps)).account ≡ (run K E w (handing K E i e s qs)).account
    same_account_end = all.account ∙ ap (less K E i e s w) same_view_end ∙ sym other.account

    -- and the same chunks released
    pub same_told_end : (m : ℕ) → Memᴰ m (told_in K E w (handing K E i e s ps)) ↔ Memᴰ m (told_in K E w (handing K E i e s qs))
    same_told_end m =
        Iff.trans
        (subst (λ (v : View). Memᴰ m (told_in K E w (handing K E i e s ps)) ↔ ((c : Chunk) × Memᴰ c ((E e).shape.view s (store_at w i)).chunks × (c.memory ≡ m) × (Memᴰ c v.chunks → ⊥))) at_once_lem (end_told m))
        (Iff.symm (handed_told K E i e s w qs other m))
