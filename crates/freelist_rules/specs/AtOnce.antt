-- Several blocks come back: the end that 01's rules give, whatever their order. Demand 3: "every order ends with the same
-- loans, free pieces, held and released chunks".
use Rattle.std.specs.Prelude.{true, List, [], ◌∷◌}
use Rattle.counter.specs.declared.answers.Block.{Block}
pub use Rattle.store_rules.specs.Views.{among, loans_less}
use Rattle.freelist_rules.specs.Records.{Store}
use Rattle.freelist_rules.specs.Steps.{released}
use Rattle.freelist_rules.specs.Walk.{gaps_of}

-- those loans are left, and what lies between them in the held chunks is free
abbrev pub without : List Block → Store → Store
without bs t =
    record {
      given = t.given;
      made = t.made;
      size = t.size;
      loans = loans_less bs t.loans;
      chunks = t.chunks;
      regions = gaps_of t.chunks (loans_less bs t.loans);
    }

-- and then the wholly free chunks go, but for the last region's; where nothing came back nothing is released
abbrev pub at_once : List Block → Store → Store
at_once [] t = t
at_once (b ∷ bs) t = released true (without (b ∷ bs) t)
