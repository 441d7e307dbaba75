-- What words that are settings say of their number and of the fields of 32 bits.
use mathlib.Core.Path.{◌≡◌}
use mathlib.Core.Bool.{true, ◌&&◌}
use mathlib.Core.List.{List}
use Prim.Native.Nat.{ℕ, ◌≤◌}
use lib.Dec.{eqb}
use lib.ListN.{length, get_or}
use borrow.Author.Tests.{leb-true, eqb-true}
use Rattle.lists.proofs.Bools.{and_left, and_right}
use Rattle.wire_rules.specs.Wire.{narrow_most, narrow_ok, settings_ok}

-- words that pass as settings are as many as there are to be
pub settings_whole : (n : ℕ) (w : List ℕ) → settings_ok n w ≡ true → length w ≡ n
unfolding settings_ok
settings_whole n w e = eqb-true (length w) n (and_left (eqb (length w) n) (narrow_ok w 0 && (narrow_ok w 1 && narrow_ok w 2)) e)

-- number, memory type and properties are of 32 bits
pub record Narrow (w : List ℕ) : Type 0 where
  pub number_most : get_or w 0 0 ≤ narrow_most
  pub memtype_most : get_or w 1 0 ≤ narrow_most
  pub properties_most_lem : get_or w 2 0 ≤ narrow_most

-- words that pass as settings are narrow where they are to be
pub settings_narrow : (n : ℕ) (w : List ℕ) → settings_ok n w ≡ true → Narrow w
unfolding settings_ok
settings_narrow n w e =
    let f = and_right (eqb (length w) n) (narrow_ok w 0 && (narrow_ok w 1 && narrow_ok w 2)) e in
    let g = and_right (narrow_ok w 0) (narrow_ok w 1 && narrow_ok w 2) f in
    record {
      number_most = leb-true (get_or w 0 0) narrow_most (and_left (narrow_ok w 0) (narrow_ok w 1 && narrow_ok w 2) f);
      memtype_most = leb-true (get_or w 1 0) narrow_most (and_left (narrow_ok w 1) (narrow_ok w 2) g);
      properties_most_lem = leb-true (get_or w 2 0) narrow_most (and_right (narrow_ok w 1) (narrow_ok w 2) g);
    }
