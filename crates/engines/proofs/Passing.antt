-- What may be handed back by demand 3: the store passes tests 1 to 4, and different blocks on loan have different serials; and
-- whatever does may be handed back.
use mathlib.Core.Path.{◌≡◌, refl, sym, ap, subst, ◌∙◌}
use mathlib.Core.Logic.{⊎_elim}
use mathlib.Core.List.Memᴰ
use mathlib.Core.List.{List, [], ◌∷◌, map}
use Prim.Native.Nat.{ℕ, ◌≤◌}
use native.Mathlib.Omega.{arith}
use lib.ListN.{length}
use Rattle.lists.specs.Members.{Distinct}
use Rattle.lists.proofs.Bools.{lt_or_le}
use Rattle.counter.specs.Gate.{pass}
use Rattle.counter.specs.declared.account.Account.{Account}
use Rattle.counter.specs.declared.answers.Block.{Block}
use Rattle.store_rules.specs.Views.{Matches, OnLoan, All}
use Rattle.store_rules.specs.declared.Loan.{Loan}
use Rattle.store_rules.proofs.Keyed.{key_not, not_key, distinct_differ}
use Rattle.engines.specs.Ends.{Lot}
use Rattle.engines.specs.Engines.{Engine}
use Rattle.engines.specs.Handable.{DifferentBlocks, Handable}
use Rattle.engines.specs.Histories.{Slip, blocks_of}
use Rattle.engines.specs.Shapes.{Tables}
use Rattle.engines.proofs.Exact.{block_is}

module _ (E : Engine) (s : E.shape.Settings) (a : Account) (t : Tables) where
  module _ (fits : E.shape.Fits s t) (sound : E.shape.Sound s t) where
    -- blocks on loan of a sound store that have one serial are one block
    same_serial : (b c : Block) → OnLoan b (E.shape.loans t) → OnLoan c (E.shape.loans t) → b.serial ≡ c.serial → b ≡ c
    same_serial b c x y q =
        let d = distinct_differ (λ (l : Loan). l.serial) (E.shape.view s t).loans (E.keeps.apart s t fits sound).serials in
        let e : x.0 ≡ y.0 =
        d x.0 y.0 ((E.keeps.loans_seen s t x.0).1 x.1) ((E.keeps.loans_seen s t y.0).1 y.1) (x.2.serial ∙ q ∙ sym y.2.serial) in
        block_is b c y.0 (subst (Matches b) e x.2) y.2

    -- so different ones have different serials
    serials_differ : (bs : List Block) → All (λ (b : Block). OnLoan b (E.shape.loans t)) bs → DifferentBlocks bs → Distinct (map (λ (b : Block). b.serial) bs)
    serials_differ [] on d = tt
    serials_differ (b ∷ bs) on d = (
      not_key (λ (c : Block). c.serial) b.serial bs
          (λ c m q. d.0 c m (same_serial b c (on b (Memᴰ.head refl)) (on c (Memᴰ.tail m)) q)),
      serials_differ bs (λ c m. on c (Memᴰ.tail m)) d.1,
    )

  module _ (ps : List Slip) (h : Handable E.shape s a t ps) where
    -- tests 1 to 4 pass
    pub handable_passes : E.shape.gate s a t ≡ pass
    handable_passes = (E.refuses.gate_clear s a t).1 ((λ x. x (h.fits, h.heaps)), (h.shut, ((λ x. x h.sound), (h.covered, tt))))

    -- and the blocks are on loan, each under a serial of its own
    pub handable_lot : Lot E.shape (blocks_of ps) t
    handable_lot = record { lent = h.lent; apart = serials_differ h.fits h.sound (blocks_of ps) h.lent h.different }

-- ---- and nothing besides is asked for

-- where it cannot be that one number is not at most the other, it is
at_most : (m n : ℕ) → ((m ≤ n → ⊥) → ⊥) → m ≤ n
at_most m n f = ⊎_elim (λ h. absurd (f (λ k. omega arith))) (λ h. h) (lt_or_le n m)

-- blocks of different serials are different
serials_apart : (bs : List Block) → Distinct (map (λ (b : Block). b.serial) bs) → DifferentBlocks bs
serials_apart [] d = tt
serials_apart (b ∷ bs) d = (
  (λ c m q. key_not (λ (c : Block). c.serial) b.serial bs d.0 c m (ap (λ (c : Block). c.serial) q)),
  serials_apart bs d.1,
)

-- blocks on loan, each under a serial of its own, of a store that passes, with lists long enough, may be handed back
pub passed_handable : (E : Engine) (s : E.shape.Settings) (a : Account) (t : Tables) (ps : List Slip) → E.shape.gate s a t ≡ pass → Lot E.shape (blocks_of ps) t → All (λ (p : Slip). (E.shape.store s).chunks ≤ length p.1) ps
    → Handable E.shape s a t ps
passed_handable E s a t ps g lot long =
    let c = (E.refuses.gate_clear s a t).0 g in
    record {
      fits = E.keeps.passed_fits s a t g;
      heaps = λ i h. (at_most _ _ (λ n. c.0 (λ w. n (w.1 i h).0)), at_most _ _ (λ n. c.0 (λ w. n (w.1 i h).1)));
      shut = c.1.0;
      sound = E.keeps.passed_sound s a t g;
      covered = c.1.1.1.0;
      long = long;
      lent = lot.lent;
      different = serials_apart (blocks_of ps) lot.apart;
    }
