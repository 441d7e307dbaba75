-- A returned block keeps a store sound.
use mathlib.Core.Path.{◌≡◌, refl}
use mathlib.Core.Bool.{true, false, cond}
use mathlib.Core.Logic.{◌⊎◌, inl, inr, ⊎_elim}
use mathlib.Core.List.Memᴰ
use mathlib.Core.List.{List, [], ◌∷◌, Memᴰ}
use Prim.Native.Nat.{ℕ, ◌+◌, ◌<◌}
use native.Mathlib.Omega.{arith}
use lib.Dec.{ltb}
use lib.ListN.{length, get_or}
use Rattle.counter.specs.InTable.{FreeListIn}
use Rattle.counter.specs.declared.settings.FreeListSettings.{FreeListSettings}
use Rattle.lists.proofs.Bools.{told}
use Rattle.words.specs.Rows.{remove_at}
use Rattle.store_rules.specs.declared.Loan.{Loan}
use Rattle.freelist_rules.specs.Records.{Store}
use Rattle.freelist_rules.specs.Pieces.{piece, lo, hi, All}
use Rattle.freelist_rules.specs.Sound.{Units, Sound}
use Rattle.freelist_rules.specs.Join.{meets, join, absorb, insert}
use Rattle.freelist_rules.specs.Steps.{no_loan, given_back}
use Rattle.store_rules.specs.declared.Region.{Region}
use Rattle.freelist_rules.proofs.Base.{at_in, removed_in, removed_total, removed_rise}
use Rattle.freelist_rules.proofs.Facts.{has, region_low, loan_some, loan_low, apart_from_lem}
use Rattle.freelist_rules.proofs.Units.{multiple_plus}
use Rattle.freelist_rules.proofs.Joins.{Clear, insert_free, insert_rise}

-- ---- a joined region starts and ends where regions did

module _ (P : ℕ → Type 0) where
  abbrev pub Ends : Region → Type 0
  Ends r = P r.start × P r.end

  with_first : (r : Region) (rs : List Region) → Ends r → All Ends rs → All Ends (r ∷ rs)
  with_first r rs h f a m = ⊎_elim (λ e. rw e h) (λ k. f a k) (Memᴰ.cases_cons m)

  past_first : (r : Region) (rs : List Region) → All Ends (r ∷ rs) → All Ends rs
  past_first r rs f a m = f a (Memᴰ.tail m)

  absorb_ends : (b : Region) (rs : List Region) → Ends b → All Ends rs → All Ends (absorb b rs)
  absorb_ends b [] h f = with_first b [] h f
  absorb_ends b (r ∷ rs) h f =
      ⊎_elim (λ e. rw e (with_first (join b r) rs (h.0, (f r (Memᴰ.head refl)).1) (past_first r rs f))) (λ e. rw e (with_first b (r ∷ rs) h f)) (told (meets b r))

  pub insert_ends : (b : Region) (rs : List Region) → Ends b → All Ends rs → All Ends (insert b rs)
  unfolding insert
  insert_ends b [] h f = with_first b [] h f
  insert_ends b (r ∷ rs) h f = go (told (ltb (lo b) (lo r))) (told (meets r b)) (insert_ends b rs h (past_first r rs f))
    where
      go : (ltb (lo b) (lo r) ≡ true) ⊎ (ltb (lo b) (lo r) ≡ false) → (meets r b ≡ true) ⊎ (meets r b ≡ false) → All Ends (insert b rs)
          → All Ends (cond (ltb (lo b) (lo r)) (absorb b (r ∷ rs)) (cond (meets r b) (absorb (join r b) rs) (r ∷ insert b rs)))
      go (inl e) q ih = rw e (absorb_ends b (r ∷ rs) h f)
      go (inr e) (inl q) ih = rw (e, q) (absorb_ends (join r b) rs ((f r (Memᴰ.head refl)).0, h.1) (past_first r rs f))
      go (inr e) (inr q) ih = rw (e, q) (with_first r (insert b rs) (f r (Memᴰ.head refl)) ih)

-- ---- a return

module _ (s : FreeListSettings) (t : Store) (fit : FreeListIn s) (sound : Sound s t) (i : ℕ) (h : i < length t.loans) where
  -- the loan that goes back
  back : Loan
  back = get_or t.loans i no_loan

  back_in : Memᴰ back t.loans
  unfolding back
  back_in = at_in i t.loans no_loan h

  -- no byte is both on loan and free, so no free region overlaps it
  back_clear : Clear (piece back) t.regions
  back_clear r k = apart_from_lem s t fit sound back back_in r k

  pub given_back_sound : Sound s (given_back i t)
  unfolding back
  given_back_sound =
      let some = loan_some s t fit sound back back_in in
      let kept : (d : Loan) → Memᴰ d (remove_at i t.loans) → Memᴰ d t.loans = removed_in i t.loans in
      record {
        fills = λ n x.
            omega (
              arith,
              sound.fills n x,
              insert_free n x 0 (piece back) t.regions (omega arith) sound.regions_rise,
              removed_total (λ (d : Loan). has n x (piece d)) i t.loans no_loan h,
            );
        loans_rise = removed_rise (λ (l : Loan). lo (piece l)) (λ (l : Loan). hi (piece l)) 0 0 i t.loans sound.loans_rise;
        regions_rise =
            insert_rise 0 (piece back) t.regions (omega arith) (omega arith) (loan_low s t fit sound back back_in) (region_low s t fit sound) back_clear sound.regions_rise;
        chunks_rise = sound.chunks_rise;
        chunks_made = sound.chunks_made;
        memories_differ = sound.memories_differ;
        serials_given = λ d k. sound.serials_given d (kept d k);
        serials_differ = λ a b p q. sound.serials_differ a b (kept a p) (kept b q);
        now_sized = sound.now_sized;
        chunks_sized = sound.chunks_sized;
        loans_units = λ d k. sound.loans_units d (kept d k);
        regions_units =
            let w = sound.loans_units back back_in in
            insert_ends (Units s) (piece back) t.regions (w.0, multiple_plus (s.store.atom + 1) back.offset back.size w.0 w.1) sound.regions_units;
      }
