-- The free list's calls and tables as those of an engine.
use Rattle.std.specs.Prelude.{◌≡◌, true, ◌⊎◌, List, ℕ, ◌≤◌}
use Rattle.counter.specs.InTable.{FreeListIn}
use Rattle.counter.specs.Limits.{spent}
use Rattle.counter.specs.Reasons.{Reasons}
use Rattle.counter.specs.declared.account.Account.{Account}
use Rattle.counter.specs.declared.settings.FreeListSettings.{FreeListSettings}
use Rattle.store_rules.specs.Delivery.{free_list}
use Rattle.store_rules.specs.Loans.{loans_of}
use Rattle.store_rules.specs.Outcomes.{Listed}
use Rattle.store_rules.specs.Rows.{list_rows}
use Rattle.store_rules.specs.declared.Region.{Region}
use Rattle.engines.specs.Shapes.{Shape}
use Rattle.freelist_rules.specs.AtOnce.{at_once}
use Rattle.freelist_rules.specs.Records.{Store}
use Rattle.freelist_rules.specs.Tables.{Tables, Lengths, places_in, store_of, SoundTables, marks, given_in}
use Rattle.freelist_outcomes.specs.Gate.{gate_of}
use Rattle.freelist_outcomes.specs.Ask.{raised_for, ask_of}
use Rattle.freelist_outcomes.specs.Deliver.{deliver_gate_of, deliver_of}
use Rattle.freelist_outcomes.specs.Refusals.{SizeOff, Needed, list_words}
pub use Rattle.freelist_outcomes.specs.Refusals.{seen}
use Rattle.freelist_outcomes.specs.Return.{return_of, clean_up_of}
use Rattle.freelist_outcomes.specs.SetUp.{set_up_of}

-- a call that only a free list has
pub data OwnCall : Type 0 where
  cleans_up : OwnCall

abbrev pub own_of : FreeListSettings → Account → OwnCall → Tables → List ℕ → Listed Tables
own_of s a cleans_up t list = clean_up_of s a t list

-- a clean-up is lent a list, and passes the tests 1 to 4
abbrev pub own_rows : FreeListSettings → Account → OwnCall → Tables → List ℕ → Reasons
own_rows s a cleans_up t list = list_rows list_words s a t list

-- serials and chunk numbers given, and the chunk size now
pub record Counts : Type 0 where
  pub given : ℕ
  pub made : ℕ
  pub size : ℕ

abbrev pub counts_of : Store → Counts
counts_of v = record { given = v.given; made = v.made; size = v.size }

-- 01, "Sound": "no joinable pieces"; "freelist.rs": "Returns join with both neighbours": two regions of one chunk, of which one
-- ends where the other begins
abbrev pub Neighbours : Region → Region → Type 0
Neighbours p q = (p.chunk ≡ q.chunk) × ((p.end ≡ q.start) ⊎ (q.end ≡ p.start))

abbrev pub list_shape : Shape
list_shape =
    record {
      Settings = FreeListSettings;
      store = λ s. s.store;
      Own = OwnCall;
      set_up = set_up_of;
      ask = ask_of;
      deliver = deliver_of;
      return = return_of;
      other = own_of;
      engine = free_list;
      mark = marks.head;
      given = λ t. given_in t;
      loans = λ t. loans_of (places_in t) t.loans;
      view = λ s t. seen (store_of s t);
      Rest = Counts;
      rest = λ s t. counts_of (store_of s t);
      Sound = λ s t. SoundTables s t;
      Joinable = λ s p q. Neighbours p q;
      Needed = λ s size mask t. Needed s size mask t;
      order_size = λ s size mask t. raised_for s size t;
      Fits = λ s t. FreeListIn s × Lengths s t;
      MaskHigh = λ s mask. ⊥;
      SizeOff = λ s size mask. SizeOff s size;
      Roomless = λ s size mask t. ⊥;
      Numberless = λ s t. spent ≤ (store_of s t).made;
      own_rows = λ s a c t list. own_rows s a c t list;
      gate = λ s a t. gate_of s a t true;
      deliver_gate = λ s a t. deliver_gate_of s a t;
      at_once = λ s bs t. seen (at_once bs (store_of s t));
    }
