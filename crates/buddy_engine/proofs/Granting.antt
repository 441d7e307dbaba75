-- The buddy grants: settings and tables for every store that 01's table allows, and the smallest ask.
use mathlib.Core.Path.{◌≡◌, refl, ap, subst}
use mathlib.Core.Bool.{Bool, true, false, cond}
use mathlib.Core.Logic.{inl, inr, ⊎_elim}
use mathlib.Core.List.Memᴰ
use mathlib.Core.List.{[], Memᴰ}
use Prim.Native.Nat.{ℕ, zero, suc, ◌+◌, ◌*◌, ◌^◌, ◌≤◌, ◌<◌}
use native.Mathlib.Omega.{arith}
use lib.Dec.{ltb}
use lib.Pow.{pow_mono}
use borrow.Author.Tests.{lt-ltb, le-ltb}
use Rattle.lists.proofs.Bools.{and_both, same?, lt_or_le}
use Rattle.words.proofs.Filled.{blank_long}
use Rattle.rounding_rules.proofs.Masks.{ones_size, power_top}
use Rattle.counter.specs.InTable.{StoreIn, BuddyIn}
use Rattle.counter.specs.Limits.{levels_most}
use Rattle.counter.specs.declared.settings.BuddySettings.{BuddySettings}
use Rattle.counter.specs.declared.settings.StoreSettings.{StoreSettings}
use Rattle.counter.proofs.Tables.{alignment_none}
use Rattle.store_rules.specs.Loans.{loan_words}
use Rattle.engines.specs.Grants.{Grants, order_most}
use Rattle.buddy_trees.specs.Trees.{bytes}
use Rattle.buddy_trees.proofs.Ending.{lies_mem}
use Rattle.buddy_rules.specs.Nodes.{vacant}
use Rattle.buddy_rules.specs.Sound.{Sound}
use Rattle.buddy_rules.specs.Tables.{Tables, Lengths, chunk_words, book_words, tree_words, pairs_in, marks}
use Rattle.buddy_rules.specs.Views.{loans_in, chunks_in}
use Rattle.buddy_rules.proofs.Named.{has_loan}
use Rattle.buddy_rules.proofs.Viewed.{chunk_at, held_seen}
use Rattle.buddy_rules.proofs.Walks.{minimal_pos}
use Rattle.buddy_outcomes.specs.Ask.{size_for, level_for, order_bytes, size_ok}
use Rattle.buddy_outcomes.specs.Refusals.{SizeOff, pair_count, PairsOut}
use Rattle.buddy_outcomes.specs.SetUp.{fresh_tables}
use Rattle.buddy_outcomes.proofs.Rounds.{bytes_low, level_low}
use Rattle.buddy_outcomes.proofs.Sizes.{raised_least, mask_for_ones}
use Rattle.buddy_engine.specs.Shape.{buddy_shape}

-- ---- settings and tables

-- nodes of one byte, no level, one pair
abbrev plain : StoreSettings → BuddySettings
plain o = record { store = o; minimal = 1; initial = 1; pairs = 1 }

plain_in : (o : StoreSettings) → StoreIn o → BuddyIn (plain o)
plain_in o i =
    record {
      store = i;
      minimal = record { log = 0; small = omega arith; is = refl };
      initial = record { log = 0; small = omega arith; is = refl };
      initial_most = omega arith;
      pairs_some = omega arith;
      pairs_most_lem = omega arith;
    }

fresh_long : (s : BuddySettings) → Lengths s (fresh_tables s)
unfolding fresh_tables
fresh_long s =
    record {
      head = refl;
      loans = blank_long (loan_words + loan_words * s.store.loans) marks.loans 0;
      chunks = blank_long (chunk_words + chunk_words * s.store.chunks) marks.chunks 0;
      index = blank_long (book_words s) marks.index 0;
      room = blank_long (tree_words s) marks.room 0;
    }

-- ---- the smallest ask

module _ (s : BuddySettings) (fit : BuddyIn s) where
  -- its size is 65,536 at most
  small : size_for s 1 0 ≤ 2 ^ 16
  unfolding size_for
  small =
      let unit = ones_size fit.store.atom in
      let up = pow_mono {i = fit.store.atom.log} {j = 16} fit.store.atom.small in
      (raised_least (omega arith) (mask_for_ones s fit 0 alignment_none) 1 (omega arith) (omega arith)).least 16 (omega arith) (omega (arith, unit, up, power_top fit.minimal))

  one_byte : SizeOff s 1 0 → ⊥
  unfolding bytes
  one_byte (inl e) = omega (arith, e)
  one_byte (inr h) = omega (arith, h, small, minimal_pos s fit)

-- ---- a store without chunks has every pair

-- where some pairs of a level are counted, one is in use
some_used : (s : BuddySettings) (t : Tables) (l n : ℕ) → 0 < pair_count s t l n → (p : ℕ) × (vacant < (pairs_in s t l p).tag)
unfolding pair_count
some_used s t l zero h = absurd (omega (arith, h))
some_used s t l (suc n) h = ⊎_elim (λ k. (n, k)) (λ k. some_used s t l n (more k)) (lt_or_le 0 (pairs_in s t l n).tag)
  where
    more : (pairs_in s t l n).tag ≤ 0 → 0 < pair_count s t l n
    more k =
        let z : ltb 0 (pairs_in s t l n).tag ≡ false = le-ltb 0 (pairs_in s t l n).tag k in
        let e : ◌≡◌ {A = ℕ} (cond (ltb 0 (pairs_in s t l n).tag) 1 0) 0 = ap (λ (b : Bool). cond b 1 0) z in
        omega (arith, h, e)

-- a pair in use lies in a held chunk
pairs_left : (s : BuddySettings) (t : Tables) → BuddyIn s → Sound s t → chunks_in t ≡ [] → (size mask : ℕ) → PairsOut s size mask t → ⊥
pairs_left s t fit sound none size mask (l, splits, out) =
    let w = some_used s t l s.pairs (omega (arith, out, fit.pairs_some)) in
    let c = (pairs_in s t l w.0).chunk in
    Memᴰ.not-nil (subst (Memᴰ (chunk_at t c)) none (held_seen t c (sound.standing.owned l w.0 splits.there w.1).0))

-- ---- the order

sized : (s : BuddySettings) (size mask : ℕ) → (SizeOff s size mask → ⊥) → size_ok s size mask ≡ true
unfolding size_ok
sized s size mask some =
    and_both (ltb 0 size) (ltb (size_for s size mask) (bytes s.minimal levels_most)) (lt-ltb 0 size (⊎_elim (λ e. absurd (some (inl e))) (λ n. omega arith) (same? size 0)))
    (lt-ltb (size_for s size mask) (bytes s.minimal levels_most)
    (⊎_elim (λ h. h) (λ h. absurd (some (inr h))) (lt_or_le (size_for s size mask) (bytes s.minimal levels_most))))

order_low : (s : BuddySettings) (size mask : ℕ) (t : Tables) → BuddyIn s → Sound s t → (SizeOff s size mask → ⊥) → order_bytes s (level_for s size mask) t ≤ order_most
order_low s size mask t fit sound some =
    bytes_low s fit _ (omega (arith, level_low s fit size mask (sized s size mask some), sound.levels_most_lem))

pub grants : Grants buddy_shape
grants =
    record {
      allows = λ o i. (plain o, fresh_tables (plain o), refl, (plain_in o i, fresh_long (plain o)));
      allowed = λ s t fits. fits.0.store;
      smallest = λ s t fits. ((λ x. x), one_byte s fits.0);
      size_none = λ s mask. inl refl;
      empty_room = λ s size mask t fits sound none. pairs_left s t fits.0 sound none size mask;
      new_numbers = λ s t e x. x;
      idle_serves = λ s size mask t fits sound c x h needed.
          let w = (lies_mem (loans_in t) c).0 (has_loan s t fits.0 sound c x.held) in
          x.none w.0 w.1 w.2;
      order_most_lem = λ s size mask t fits sound some. order_low s size mask t fits.0 sound some;
    }
