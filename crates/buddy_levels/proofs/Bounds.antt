-- No level begins past what code can reach, and no node is longer than a word.
use Rattle.std.proofs.Common.{◌≡◌, ℕ, ◌+◌, ◌*◌, ◌%◌, ◌^◌, ◌<◌, ◌≤◌, mul-le-mul, mul-le-mul_left, arith, pow_mono, shl_exact}
use Rattle.counter.specs.Limits.{levels_most, pairs_most, minimal_bits}
use Rattle.buddy_trees.specs.Trees.{bytes}
use Rattle.buddy_rules.specs.Level.{base_most, level_start, level_words}

pub level_low : (pairs l : ℕ) → pairs ≤ pairs_most → l ≤ levels_most → level_start pairs l ≤ base_most
level_low pairs l p h = omega (arith, mul-le-mul_left (level_words pairs) h)

module _ (minimal level : ℕ) (small : minimal ≤ 2 ^ minimal_bits) (low : level ≤ levels_most) where
  -- minimal shifted within a word
  pub node_bytes_is : minimal * 2 ^ level % 2 ^ 64 ≡ bytes minimal level
  unfolding bytes
  node_bytes_is =
      let a : minimal < 2 ^ 17 = omega arith in
      let e : 17 + level ≤ 64 = omega arith in
      shl_exact 17 level 64 a e

  pub node_bytes_most : bytes minimal level ≤ 2 ^ (minimal_bits + levels_most)
  unfolding bytes
  node_bytes_most =
      let p : 2 ^ level ≤ 2 ^ 32 = pow_mono {j = 32} low in
      let q : minimal * 2 ^ level ≤ 2 ^ 16 * 2 ^ 32 = mul-le-mul small p in
      omega (arith, q)
