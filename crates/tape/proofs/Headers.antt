-- What a header that fits says of its words, and what it comes to by its engine.
use mathlib.Core.Path.{◌≡◌, sym, ap, ◌∙◌}
use mathlib.Core.Bool.{Bool, true, false, ◌&&◌}
use mathlib.Core.List.{List}
use Prim.Native.Nat.{ℕ, ◌≤◌}
use lib.Dec.{eqb}
use lib.ListN.{length}
use borrow.Author.Tests.{leb-true, eq-eqb, ne_eqb}
use Rattle.lists.proofs.Bools.{all_each}
use Rattle.counter.specs.Limits.{heap_bytes_most, objects_most}
use Rattle.tape.specs.Header.{header_bytes, narrow_most, number, memtype, properties, size_of_heap, objects, field, fits_row, fits_ok}

pub record Fits (bs : List ℕ) : Type 0 where
  pub whole : header_bytes ≤ length bs
  pub number_most : field number bs ≤ narrow_most
  pub memtype_most : field memtype bs ≤ narrow_most
  pub properties_most_lem : field properties bs ≤ narrow_most
  pub size_most_lem : field size_of_heap bs ≤ heap_bytes_most
  pub objects_most_lem : field objects bs ≤ objects_most

pub fits_yes : (bs : List ℕ) → fits_ok bs ≡ true → Fits bs
unfolding fits_ok
fits_yes bs e =
    let t = all_each (fits_row bs) e in
    record {
      whole = leb-true _ _ t.0;
      number_most = leb-true _ _ t.1.0;
      memtype_most = leb-true _ _ t.1.1.0;
      properties_most_lem = leb-true _ _ t.1.1.1.0;
      size_most_lem = leb-true _ _ t.1.1.1.1.0;
      objects_most_lem = leb-true _ _ t.1.1.1.1.1.0;
    }
