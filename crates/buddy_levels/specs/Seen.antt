-- What the parts of the test read of the settings and of the tables: numbers and tables by themselves, since the walks hand
-- them on at each node.
use Rattle.std.specs.Prelude.{ℕ, List, [], ◌∷◌}
use Rattle.counter.specs.declared.settings.BuddySettings.{BuddySettings}
use Rattle.buddy_rules.specs.Tables.{Tables, tables, marks}

-- settings with this minimal size, so many pairs a level and so many loan places
abbrev pub part_settings : ℕ → ℕ → ℕ → BuddySettings
part_settings minimal pairs loans =
    record {
      store = record { number = 0; memtype = 0; properties = 0; heap = 0; atom = 0; loans = loans; chunks = 0 };
      minimal = minimal;
      initial = 0;
      pairs = pairs;
    }

-- tables whose head has so many levels
abbrev pub part_tables : ℕ → List ℕ → List ℕ → List ℕ → List ℕ → Tables
part_tables levels loans chunks index tree = tables (marks.head ∷ levels ∷ []) loans chunks index tree

-- of these a walk down a chunk reads the loans, their nodes in the index, and the tree
abbrev pub loan_part : List ℕ → List ℕ → List ℕ → Tables
loan_part loans index tree = part_tables 0 loans [] index tree

-- and the looks at what leads to a node the levels, the chunks and the tree
abbrev pub level_part : ℕ → List ℕ → List ℕ → Tables
level_part levels chunks tree = part_tables levels [] chunks [] tree
