-- What each call does to a store as lists of records. 01, "freelist.rs".
use Rattle.std.specs.Prelude.{Bool, true, List, [], ◌∷◌, ◌++◌, ℕ, ◌+◌, get_or}
use Rattle.rounding_rules.specs.Growth.{doubled}
use Rattle.words.specs.Rows.{remove_at}
use Rattle.counter.specs.declared.answers.Block.{Block}
use Rattle.counter.specs.declared.settings.FreeListSettings.{FreeListSettings}
pub use Rattle.store_rules.specs.Loans.{no_loan}
use Rattle.freelist_rules.specs.Records.{Store, region, chunk}
use Rattle.freelist_rules.specs.Pieces.{piece}
use Rattle.freelist_rules.specs.Place.{Found, nowhere, at, block, cut_off, lent_loan, put_loan}
use Rattle.freelist_rules.specs.Join.{insert}
use Rattle.freelist_rules.specs.Release.{staying, leaving, remaining}
use Rattle.freelist_rules.specs.Seek.{seek}
use Rattle.store_rules.specs.declared.Region.{Region}

abbrev pub no_region : Region
no_region = region 0 0 0

-- a store as set-up leaves it
abbrev pub fresh : FreeListSettings → Store
fresh s = record { given = 0; made = 0; size = s.start; loans = []; chunks = []; regions = [] }

-- region i serves an ask: its block is on loan under the next serial
abbrev pub served : ℕ → ℕ → Store → ℕ → Region
served mask n t i = block mask n (get_or t.regions i no_region)

abbrev pub lent : ℕ → ℕ → ℕ → Store → Store
lent mask n i t =
    record {
      given = t.given + 1;
      made = t.made;
      size = t.size;
      loans = put_loan (lent_loan (t.given + 1) (served mask n t i)) t.loans;
      chunks = t.chunks;
      regions = cut_off (served mask n t i).start i t.regions;
    }

-- an order: "chunk size becomes" z
abbrev pub raised : ℕ → Store → Store
raised z t = record { given = t.given; made = t.made; size = z; loans = t.loans; chunks = t.chunks; regions = t.regions }

-- a good delivery of z bytes: a chunk under the next number, wholly free; "after a good delivery it doubles, up to final"
abbrev pub delivered : FreeListSettings → ℕ → ℕ → Store → Store
delivered s memory z t =
    record {
      given = t.given;
      made = t.made + 1;
      size = doubled z s.last;
      loans = t.loans;
      chunks = t.chunks ++ (chunk (t.made + 1) memory z ∷ []);
      regions = t.regions ++ (region (t.made + 1) 0 z ∷ []);
    }

-- the loan at i goes back among the free regions
abbrev pub given_back : ℕ → Store → Store
given_back i t =
    record {
      given = t.given;
      made = t.made;
      size = t.size;
      loans = remove_at i t.loans;
      chunks = t.chunks;
      regions = insert (piece (get_or t.loans i no_loan)) t.regions;
    }

-- the wholly free chunks go, the last region's spared or not
abbrev pub released : Bool → Store → Store
released spare t =
    record {
      given = t.given;
      made = t.made;
      size = t.size;
      loans = t.loans;
      chunks = remaining (leaving t.chunks spare [] t.regions) t.chunks;
      regions = staying t.chunks spare t.regions;
    }

-- a block's return: its loan goes back, and wholly free chunks go; a block that is no loan changes nothing
abbrev pub taken_back : Store → Found → Store
taken_back t nowhere = t
taken_back t (at i) = released true (given_back i t)

abbrev pub returned : Block → Store → Store
returned b t = taken_back t (seek b t.loans)

abbrev pub returned_all : List Block → Store → Store
returned_all [] t = t
returned_all (b ∷ bs) t = returned_all bs (returned b t)
