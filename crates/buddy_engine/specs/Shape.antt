-- The buddy's calls and tables as those of an engine.
use Rattle.std.specs.Prelude.{◌≡◌, true, ◌⊎◌, ℕ, suc, ◌+◌, ◌*◌}
use Rattle.counter.specs.InTable.{BuddyIn}
use Rattle.counter.specs.declared.settings.BuddySettings.{BuddySettings}
use Rattle.store_rules.specs.Delivery.{buddy}
use Rattle.store_rules.specs.declared.Region.{Region}
use Rattle.engines.specs.Shapes.{Shape}
use Rattle.buddy_trees.specs.Trees.{bytes}
use Rattle.buddy_trees.specs.Chunks.{at_once}
use Rattle.buddy_rules.specs.Sound.{Sound}
use Rattle.buddy_rules.specs.Tables.{Tables, Lengths, given_in, levels_in, marks}
use Rattle.buddy_rules.specs.Views.{loans_in, view_of}
use Rattle.buddy_outcomes.specs.Gate.{gate_of}
use Rattle.buddy_outcomes.specs.Ask.{order_bytes, ask_of, level_for}
use Rattle.buddy_outcomes.specs.Deliver.{deliver_gate_of, deliver_of}
use Rattle.buddy_outcomes.specs.Refusals.{SizeOff, Needed, PairsOut}
use Rattle.buddy_outcomes.specs.Return.{return_of}
use Rattle.buddy_outcomes.specs.SetUp.{set_up_of}

-- serials given, and levels now
pub record Counts : Type 0 where
  pub given : ℕ
  pub levels : ℕ

abbrev pub counts_of : Tables → Counts
counts_of t = record { given = given_in t; levels = levels_in t }

-- 01, "buddy.rs": "a pair is its two nodes": p and q are the left and the right half of the pair at this place of its chunk, nodes
-- of this level, u being the minimal size
pub record Halves (u : ℕ) (p q : Region) : Type 0 where
  pub level : ℕ
  pub place : ℕ
  pub chunk : p.chunk ≡ q.chunk
  pub begins : p.start ≡ place * bytes u (suc level)
  pub left : p.end ≡ p.start + bytes u level
  pub meets : q.start ≡ p.end
  pub right : q.end ≡ q.start + bytes u level

-- 01, "Sound": "no joinable pieces": two nodes that are the halves of one pair
abbrev pub Twins : ℕ → Region → Region → Type 0
Twins u p q = Halves u p q ⊎ Halves u q p

-- a buddy has no call of its own
abbrev pub buddy_shape : Shape
buddy_shape =
    record {
      Settings = BuddySettings;
      store = λ s. s.store;
      Own = ⊥;
      set_up = set_up_of;
      ask = ask_of;
      deliver = deliver_of;
      return = return_of;
      other = λ s a c t list. absurd c;
      engine = buddy;
      mark = marks.head;
      given = λ t. given_in t;
      loans = λ t. loans_in t;
      view = λ s t. view_of s t;
      Rest = Counts;
      rest = λ s t. counts_of t;
      Sound = λ s t. Sound s t;
      Joinable = λ s p q. Twins s.minimal p q;
      Needed = λ s size mask t. Needed s size mask t;
      order_size = λ s size mask t. order_bytes s (level_for s size mask) t;
      Fits = λ s t. BuddyIn s × Lengths s t;
      MaskHigh = λ s mask. ⊥;
      SizeOff = λ s size mask. SizeOff s size mask;
      Roomless = λ s size mask t. PairsOut s size mask t;
      Numberless = λ s t. ⊥;
      own_rows = λ s a c t list. absurd c;
      gate = λ s a t. gate_of s a t true;
      deliver_gate = λ s a t. deliver_gate_of s a t;
      at_once = λ s bs t. at_once s.minimal bs (view_of s t);
    }
