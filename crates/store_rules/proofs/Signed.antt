-- Whether tables have an engine's marks, decided both ways.
use mathlib.Core.Path.{◌≡◌}
use mathlib.Core.Bool.{true, ◌&&◌}
use Prim.Native.Nat.{ℕ}
use lib.Dec.{eqb}
use lib.ListN.{get_or}
use borrow.Author.Tests.{eqb-true, eq-eqb}
use Rattle.words.specs.Words.{mark_at}
use Rattle.lists.proofs.Bools.{all_each, each_all}
use Rattle.store_rules.specs.Tables.{Tables, Marks, Signed, signed_row, signed_ok}

pub signed_yes : (m : Marks) (t : Tables) → signed_ok m t ≡ true → Signed m t
unfolding signed_ok
signed_yes m t e =
    let at = all_each (signed_row m t) e in
    record {
      head = eqb-true _ m.head at.0;
      loans = eqb-true _ m.loans at.1.0;
      chunks = eqb-true _ m.chunks at.1.1.0;
      index = eqb-true _ m.index at.1.1.1.0;
      room = eqb-true _ m.room at.1.1.1.1.0;
    }

pub signed_all : (m : Marks) (t : Tables) → Signed m t → signed_ok m t ≡ true
unfolding signed_ok
signed_all m t S =
    each_all (signed_row m t) (
      eq-eqb _ m.head S.head,
      (eq-eqb _ m.loans S.loans, (eq-eqb _ m.chunks S.chunks, (eq-eqb _ m.index S.index, (eq-eqb _ m.room S.room, tt)))),
    )

-- by the words that were read
pub signed_told : (m : Marks) (t : Tables) (h l c i r : ℕ)
    → h ≡ get_or t.head mark_at 0 → l ≡ get_or t.loans mark_at 0 → c ≡ get_or t.chunks mark_at 0 → i ≡ get_or t.index mark_at 0 → r ≡ get_or t.room mark_at 0
    → ((((eqb h m.head && eqb l m.loans) && eqb c m.chunks) && eqb i m.index) && eqb r m.room) ≡ signed_ok m t
unfolding signed_ok
signed_told m t h l c i r a b d e f = λ j. (((eqb (a j) m.head && eqb (b j) m.loans) && eqb (d j) m.chunks) && eqb (e j) m.index) && eqb (f j) m.room
