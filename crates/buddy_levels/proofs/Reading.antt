-- A pair's entry, of a place that was used and of one that was not.
use Rattle.std.proofs.Common.{◌≡◌, ℕ, ◌+◌, ◌<◌, ◌≤◌, true, false, ltb, List, get_or, arith, le-ltb, lt-ltb}
use Rattle.buddy_rules.specs.Level.{used_at, ent_of, pair_in, no_pair}

module _ (b p : ℕ) (t : List ℕ) where
  pub pair_used : (n : ℕ) → n ≡ get_or t (b + used_at) 0 → p < n → pair_in b t p ≡ ent_of b t p
  pair_used n e h = let f : ltb p (get_or t (b + used_at) 0) ≡ true = lt-ltb p _ (omega (arith, e)) in rw f

  pub pair_unused : (n : ℕ) → n ≡ get_or t (b + used_at) 0 → n ≤ p → pair_in b t p ≡ no_pair
  pair_unused n e h = let f : ltb p (get_or t (b + used_at) 0) ≡ false = le-ltb p _ (omega (arith, e)) in rw f
