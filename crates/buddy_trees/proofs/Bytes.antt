-- How long nodes are: one is twice as long as one of the level below.
use mathlib.Core.Path.{◌≡◌, ap, sym, ◌∙◌}
use mathlib.Core.Logic.{⊎_elim}
use Prim.Native.Nat.{ℕ, zero, suc, ◌+◌, ◌-◌, ◌*◌, ◌%◌, ◌^◌, ◌≤◌, ◌<◌}
use native.Mathlib.Nat.{two-pow-succ, mul-add, add-mul, suc-mul, one-mul, mul-pos, mul-le-mul_left, mul-le-mul_right, mul_assoc, mul-mod_left}
use native.Mathlib.Omega.{arith}
use lib.Pow.{pow_pos, pow_mono}
use Rattle.lists.proofs.Bools.{lt_or_le}
use Rattle.buddy_trees.specs.Trees.{bytes, up}

pub bytes_suc : (u l : ℕ) → bytes u (suc l) ≡ bytes u l + bytes u l
unfolding bytes
bytes_suc u l = ap (λ (n : ℕ). u * n) (two-pow-succ l) ∙ mul-add u (2 ^ l) (2 ^ l)

pub bytes_pos : (u l : ℕ) → 0 < u → 0 < bytes u l
unfolding bytes
bytes_pos u l h = mul-pos h (pow_pos l)

-- d levels up it is 2^d times as long
pub bytes_up : (u d lev : ℕ) → bytes u (up d lev) ≡ 2 ^ d * bytes u lev
bytes_up u zero lev = sym (one-mul (bytes u lev))
bytes_up u (suc d) lev =
    let e : 2 ^ suc d * bytes u lev ≡ 2 ^ d * bytes u lev + 2 ^ d * bytes u lev = ap (λ (n : ℕ). n * bytes u lev) (two-pow-succ d) ∙ add-mul (2 ^ d) (2 ^ d) (bytes u lev) in
    omega (arith, bytes_suc u (up d lev), bytes_up u d lev)

-- the q-th node of a level ends within the node that it is d levels below
pub bytes_end : (u d lev q : ℕ) → q < 2 ^ d → q * bytes u lev + bytes u lev ≤ bytes u (up d lev)
bytes_end u d lev q h = omega (arith, bytes_up u d lev, suc-mul q (bytes u lev), mul-le-mul_right (bytes u lev) h)

pub up_le : (d lev : ℕ) → lev ≤ up d lev
up_le zero lev = omega arith
up_le (suc d) lev = omega (arith, up_le d lev)

pub up_add : (d i : ℕ) → up d i ≡ i + d
up_add zero i = omega arith
up_add (suc d) i = omega (arith, up_add d i)

-- a node of a higher level is no shorter
pub bytes_mono : (u l m : ℕ) → l ≤ m → bytes u l ≤ bytes u m
unfolding bytes
bytes_mono u l m h = mul-le-mul_left u (pow_mono {i = l} {j = m} h)

-- and a shorter node is of a lower level
pub bytes_lower : (u l m : ℕ) → 0 < u → bytes u l ≤ bytes u m → l ≤ m
bytes_lower u l m p h = ⊎_elim (λ g. absurd (omega (arith, bytes_mono u (suc m) l (omega arith), bytes_suc u m, bytes_pos u m p))) (λ g. g) (lt_or_le m l)

-- a multiple of a node's size is one of a lower node's
pub bytes_multiple : (u l m q : ℕ) → l ≤ m → (q * bytes u m) % bytes u l ≡ 0
bytes_multiple u l m q h =
    let d = m - l in
    let e : bytes u m ≡ 2 ^ d * bytes u l = ap (bytes u) (omega (arith, up_add d l)) ∙ bytes_up u d l in
    ap (λ (n : ℕ). (q * n) % bytes u l) e ∙ ap (λ (n : ℕ). n % bytes u l) (sym (mul_assoc q (2 ^ d) (bytes u l))) ∙ mul-mod_left (q * 2 ^ d) (bytes u l)
