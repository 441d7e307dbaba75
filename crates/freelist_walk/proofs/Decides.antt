-- What is left to test at the beginning is what the walk is to test.
use mathlib.Core.Path.{◌≡◌, sym, ap, ◌∙◌}
use mathlib.Core.Bool.{Bool, true, ◌&&◌}
use mathlib.Core.List.{List, map}
use Prim.Native.Nat.{ℕ, ◌≤◌}
use native.Mathlib.Omega.{arith}
use lib.Dec.{eqb}
use lib.ListN.{length}
use borrow.Author.Tests.{eq-eqb, eqb-true}
use Rattle.lists.proofs.Bools.{and_left, and_right, and_both}
use Rattle.slabs.specs.Slab.{vacant_at}
use Rattle.store_rules.specs.Loans.{loan_words, size_at}
use Rattle.store_rules.specs.declared.Chunk.{Chunk}
use Rattle.freelist_rules.specs.declared.Gap.{Gap}
use Rattle.freelist_rules.specs.Threads.{after_in, before_in, loan_by, free_of, wholes, leads_ok, fronts_ok}
use Rattle.freelist_rules.specs.Walk.{fills_ok}
use Rattle.freelist_rules.proofs.Threads.{no_zero, followed_leads, leads_ok_lem, ok_leads}
use Rattle.freelist_rules.proofs.Turns.{rest_start}
use Rattle.freelist_rules.proofs.Tested.{fronts_yes, fronts_all}
use Rattle.freelist_walk.specs.Left.{ground, Left}
use Rattle.freelist_walk.specs.Walked.{met, walk_ok}

module _ (n : ℕ) (cs : List Chunk) (loans : List ℕ) (places : ℕ) (index : List ℕ) (gs : List Gap) (live whole : ℕ) where
  abbrev leads : List ℕ → Bool
  leads rs = leads_ok (after_in n index) (before_in n index) (vacant_at loans size_at loan_words) places 0 rs

  -- the tests, of any records
  abbrev tests : List ℕ → Bool
  tests rs = leads rs && (eqb (length rs) live && (fills_ok cs (map (loan_by loans) rs) (free_of gs) && (fronts_ok loans rs gs && eqb whole (wholes cs (free_of gs)))))

  pub walk_left : walk_ok n cs loans places index gs live whole ≡ true → Left (ground n cs loans places index gs whole) cs 0 0 live gs 0
  unfolding walk_ok
  walk_left e =
      let rs : List ℕ = met n places index in
      let b = and_right (leads rs) _ e in
      let c = and_right (eqb (length rs) live) _ b in
      let d = and_right (fills_ok cs (map (loan_by loans) rs) (free_of gs)) _ c in
      let w = ok_leads (after_in n index) (before_in n index) (vacant_at loans size_at loan_words) places places (and_left (leads rs) _ e) in
      let k : whole ≡ wholes cs (free_of gs) = eqb-true whole (wholes cs (free_of gs)) (and_right (fronts_ok loans rs gs) _ d) in
      record {
        records = rs;
        leads = w.0;
        right = w.1;
        many = eqb-true (length rs) live (and_left (eqb (length rs) live) _ b);
        fills = sym (rest_start cs (map (loan_by loans) rs) (free_of gs)) ∙ and_left (fills_ok cs (map (loan_by loans) rs) (free_of gs)) _ c;
        fronts = fronts_yes loans rs gs (and_left (fronts_ok loans rs gs) _ d);
        counted = omega arith;
      }

  pub left_walk : live ≤ places → Left (ground n cs loans places index gs whole) cs 0 0 live gs 0 → walk_ok n cs loans places index gs live whole ≡ true
  unfolding walk_ok
  left_walk few L =
      let rs : List ℕ = L.records in
      let is : met n places index ≡ rs = followed_leads (after_in n index) (before_in n index) places rs L.leads (no_zero rs (λ r m. (L.right r m).0)) (omega (arith, L.many)) in
      let k : whole ≡ wholes cs (free_of gs) = omega (arith, L.counted) in
      ap tests is
      ∙ and_both (leads rs) _ (leads_ok_lem (after_in n index) (before_in n index) (vacant_at loans size_at loan_words) places rs L.leads L.right)
      (and_both (eqb (length rs) live) _ (eq-eqb (length rs) live L.many)
      (and_both (fills_ok cs (map (loan_by loans) rs) (free_of gs)) _ (rest_start cs (map (loan_by loans) rs) (free_of gs) ∙ L.fills)
      (and_both (fronts_ok loans rs gs) (eqb whole (wholes cs (free_of gs))) (fronts_all loans rs gs L.fronts) (eq-eqb whole (wholes cs (free_of gs)) k))))
